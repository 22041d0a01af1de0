-- Types of values and of functions, by what their members need.
use Rattle.std.proofs.Common.{◌≡◌, ℕ, ◌+◌, ◌<◌, true, false, List, [], ◌∷◌, ◌++◌, length, get_or, take, refl, sym, ap, ◌∙◌, subst, append-nil, arith, map, sum}
use Rattle.std.proofs.Common.{None, Some}
use Rattle.std.proofs.lemmas.Grind.{flat_map-append}
use Rattle.std.proofs.lemmas.List.{map-append, take_more}
use Rattle.std.proofs.lemmas.List.Sums.{fold-append, sum_by-append}
use Rattle.std.specs.List.{flat_map}
use Rattle.std.specs.Option.{option_to_list}
use Rattle.std.specs.Prelude.{slice_get, if◌then◌else◌}
use Rattle.smith_syntax.specs.declared.types.ComponentValType.{ComponentValType}
use Rattle.smith_syntax.specs.declared.types.ComponentValType.TheVariants.{Indexed}
use Rattle.smith_syntax.specs.Sizes.{capped}
use Rattle.smith_tree.specs.Facts.{Facts, Id, needs, value_needs}
use Rattle.smith_tree.specs.Sizes.{summed, value_size}
use Rattle.smith_validate.specs.Instances.{AreKept, Surface, IsKept}
use Rattle.smith_validate.specs.Marks.{Covers, both, no_needs, nominal_facts, plain_facts}
use Rattle.smith_validate.specs.Values.{CoversValues, HasMarks, marks_from}
use Rattle.smith_validate.specs.declared.facts.Facts.{Facts as KeptFacts}
use Rattle.smith_validate.specs.declared.facts.Needs.{Needs}
use Rattle.smith_validate.proofs.Covering.{covers_both, covers_unnamed}
use Rattle.smith_validate.proofs.Zips.{beside, none_beside}

module _ (table : List Surface) (names : List (List Id)) (ks : List KeptFacts) (types : List Facts) (i : ℕ) (are : AreKept table names ks types) where
  pub value_found : (k : KeptFacts) → Some k ≡ slice_get ks i → Covers names k.needs (value_needs types (Indexed i))
  value_found k e =
      let b = beside (IsKept table names) ks types i k are e in
      subst (λ o. Covers names k.needs (flat_map needs (option_to_list o))) (sym b.at)
      (subst (λ ids. Covers names k.needs ids) (sym (append-nil (needs b.item))) b.is.needs_are)

  pub value_missing : (n : Needs) → None ≡ slice_get ks i → Covers names n (value_needs types (Indexed i))
  value_missing n e = subst (λ o. Covers names n (flat_map needs (option_to_list o))) (sym (none_beside (IsKept table names) ks types i are e)) tt

module _ (types : List Facts) (names : List (List Id)) where
  pub covers_value : (a b : Needs) (before : List ComponentValType) (v : ComponentValType) → CoversValues types names a before
      → Covers names b (value_needs types v) → CoversValues types names (both a b) (before ++ v ∷ [])
  covers_value a b before v c d = grind (arith, append-nil, flat_map-append, covers_both)

-- what is kept of a type

module _ (table : List Surface) (names : List (List Id)) (n : Needs) (size : ℕ) (f : Facts) (exports : f.exports ≡ []) (c : Covers names n f.refers) where
  pub plain_kept : false ≡ f.nominal → IsKept table names (plain_facts n size) f
  plain_kept h = grind arith

  pub nominal_kept : true ≡ f.nominal → IsKept table names (nominal_facts n size) f
  nominal_kept h = grind (arith, covers_unnamed)

-- members, one by one

pub members_next : {A : Type 0} (f : A → List ComponentValType) (xs : List A) (i : ℕ) (x : A) → i < length xs → x ≡ get_or xs i x
    → flat_map f (take (i + 1) xs) ≡ flat_map f (take i xs) ++ f x
members_next f xs i x h e =
    ap (flat_map f) (take_more xs i x h ∙ ap (λ y. take i xs ++ y ∷ []) (sym e))
    ∙ (flat_map-append f (take i xs) (x ∷ []) ∙ ap (λ ys. flat_map f (take i xs) ++ ys) (append-nil (f x)))

capped_more : (kept more all sum part : ℕ) → kept ≡ capped (all + 1) → (capped kept ≡ kept → more ≡ capped (kept + part)) → sum ≡ all + part
    → more ≡ capped (sum + 1)
capped_more kept more all sum part e f s = grind arith

pub size_append : (types : List ℕ) (kept more : ℕ) (vs ws : List ComponentValType) → kept ≡ capped (summed types vs)
    → (capped kept ≡ kept → more ≡ capped (kept + sum (map (value_size types) ws))) → more ≡ capped (summed types (vs ++ ws))
size_append types kept more vs ws e f = grind (arith, capped_more, map-append, sum_by-append)

pub marks_append : (kept : List KeptFacts) (n m : Needs) (xs ys : List ComponentValType) → n ≡ marks_from kept no_needs xs → m ≡ marks_from kept n ys
    → m ≡ marks_from kept no_needs (xs ++ ys)
marks_append kept n m xs ys before after = grind (arith, fold-append)

pub plain_marks : (n : Needs) (size : ℕ) (m : Needs) → n ≡ m → HasMarks (plain_facts n size) false m
plain_marks n size m e = record { refers_are = e; needs_are = e; nominal_is = refl; instance_is = refl }

pub nominal_marks : (n : Needs) (size : ℕ) (m : Needs) → n ≡ m → HasMarks (nominal_facts n size) true m
nominal_marks n size m e = record { refers_are = e; needs_are = refl; nominal_is = refl; instance_is = refl }
