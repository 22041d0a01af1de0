-- What is kept of a type that is declared is exact.
use Rattle.std.proofs.Common.{◌≡◌, inl, inr, ℕ, zero, suc, ◌+◌, Bool, true, false, List, [], ◌∷◌, ◌++◌, length}
use Rattle.std.proofs.Common.{refl, sym, subst, arith, append_assoc, append-nil, Option, None, Some}
use Rattle.std.specs.List.{AllByRecursion, AllZip, flat_map}
use Rattle.std.specs.Option.{option_to_list}
use Rattle.std.specs.Prelude.{slice_get, if◌then◌else◌}
use Rattle.smith_input.specs.NewNames.{is_among}
use Rattle.smith_syntax.specs.declared.types.ComponentValType.{ComponentValType}
use Rattle.smith_syntax.specs.declared.types.ComponentValType.TheVariants.{Primitive, Indexed}
use Rattle.smith_tree.specs.Bodies.{equal_facts}
use Rattle.smith_tree.specs.Facts.{Facts, Id, needs, value_needs}
use Rattle.smith_validate.specs.Attained.{Attains}
use Rattle.smith_validate.specs.Exact.{IsKeptExactly, IsNumberOf}
use Rattle.smith_validate.specs.Instances.{Surface}
use Rattle.smith_validate.specs.Marks.{both, named_facts, named_needs, no_needs, unnamed_needs}
use Rattle.smith_validate.specs.Places.{IsBefore}
use Rattle.smith_validate.specs.Usual.{IsOfValues}
use Rattle.smith_validate.specs.Values.{HasMarks, marks_from, value_marks}
use Rattle.smith_validate.specs.declared.facts.Facts.{Facts as KeptFacts}
use Rattle.smith_validate.specs.declared.facts.Needs.{Needs}
use Rattle.smith_validate.proofs.Attaining.{Names, attains_both, attains_nothing}
use Rattle.smith_validate.proofs.Ids.{added_open, open_before}
use Rattle.smith_validate.proofs.Names.{among_cases, among_itself, among_one}
use Rattle.smith_validate.proofs.Zips.{beside}

-- What value types need, if what is kept of types is exact.
module _ (table : List Surface) (place : Id) (named : List Id) (ks : List KeptFacts) (types : List Facts)
    (are : AllZip (IsKeptExactly table place named) ks types) where
  value_attained : (v : ComponentValType) → IsOfValues types v → Attains place named (value_marks ks v) (value_needs types v)
  value_attained (Primitive p) h = attains_nothing place named []
  value_attained (Indexed i) h = by_kept (slice_get ks i) refl
    where
      by_kept : (o : Option KeptFacts) → o ≡ slice_get ks i
          → Attains place named (elim o [ None ↦ no_needs | Some k ↦ k.needs ]) (flat_map needs (option_to_list (slice_get types i)))
      by_kept None e = attains_nothing place named (flat_map needs (option_to_list (slice_get types i)))
      by_kept (Some k) e =
          let b = beside (IsKeptExactly table place named) ks types i k are e in
          subst (λ o. Attains place named k.needs (flat_map needs (option_to_list o))) (sym b.at)
          (subst (λ ids. Attains place named k.needs ids) (sym (append-nil (needs b.item))) (b.is.needs_are (h b.item b.at)))

  pub marks_attained : (vs : List ComponentValType) (n : Needs) (ids : List Id) → AllByRecursion (IsOfValues types) vs → Attains place named n ids
      → Attains place named (marks_from ks n vs) (ids ++ flat_map (value_needs types) vs)
  marks_attained [] n ids h a = subst (λ xs. Attains place named n xs) (sym (append-nil ids)) a
  marks_attained (v ∷ vs) n ids h a =
      subst (λ xs. Attains place named (marks_from ks (both n (value_marks ks v)) vs) xs)
      (append_assoc ids (value_needs types v) (flat_map (value_needs types) vs))
      (marks_attained vs (both n (value_marks ks v)) (ids ++ value_needs types v) h.1
      (attains_both place named n (value_marks ks v) ids (value_needs types v) a (value_attained v h.0)))

  -- what a type needs was added before
  needs_before : (k : KeptFacts) (f : Facts) → IsKeptExactly table place named k f → (id : Id) → is_among (needs f) id ≡ true → IsBefore 0 place id
  needs_before k f i = by_sort f.nominal
    where
      by_sort : (b : Bool) → (id : Id) → is_among (if b then f.id ∷ [] else f.refers) id ≡ true → IsBefore 0 place id
      by_sort true id h =
          subst (λ x. IsBefore 0 place x) (among_one f.id id h) i.id_before
      by_sort false id h = i.before id h

  values_before : (us : List Facts) (kk : List KeptFacts) → AllZip (IsKeptExactly table place named) kk us → (j : ℕ) (id : Id)
      → is_among (flat_map needs (option_to_list (slice_get us j))) id ≡ true → IsBefore 0 place id
  values_before [] kk a j id h = absurd (let z : false ≡ true = h in cc)
  values_before (f ∷ us) [] a j id h = absurd a
  values_before (f ∷ us) (k ∷ kk) a zero id h = needs_before k f a.0 id (subst (λ xs. is_among xs id ≡ true) (append-nil (needs f)) h)
  values_before (f ∷ us) (k ∷ kk) a (suc j) id h = values_before us kk a.1 j id h

  pub members_before : (vs : List ComponentValType) (id : Id) → is_among (flat_map (value_needs types) vs) id ≡ true → IsBefore 0 place id
  members_before [] id h = absurd (let z : false ≡ true = h in cc)
  members_before (Primitive p ∷ vs) id h = members_before vs id h
  members_before (Indexed i ∷ vs) id h =
      elim (among_cases (value_needs types (Indexed i)) (flat_map (value_needs types) vs) id h)
      [ inl x ↦ values_before types ks are i id x | inr y ↦ members_before vs id y ]

-- a type of values or of functions, or of components
module _ (table : List Surface) (count : ℕ) (scope : Id) (named : List Id) (k : KeptFacts) (f : Facts) (marks : Needs) where
  needs_by : (next : Id) (b : Bool) → IsBefore 0 next f.id → (b ≡ true → is_among named f.id ≡ false) → Attains next named marks f.refers
      → Attains next named (if b then unnamed_needs else marks) (if b then f.id ∷ [] else f.refers)
  needs_by next true own fresh a = record { outer = (f.id, among_itself f.id [], own, fresh refl); inner = tt }
  needs_by next false own fresh a = a

  pub fact_exact : HasMarks k f.nominal marks → f.id ≡ count ∷ scope → f.exports ≡ []
      → ((id : Id) → is_among f.refers id ≡ true → IsBefore 0 ((count + 1) ∷ scope) id)
      → Attains ((count + 1) ∷ scope) named marks f.refers → (f.nominal ≡ true → is_among named (count ∷ scope) ≡ false)
      → IsKeptExactly table ((count + 1) ∷ scope) named k f
  fact_exact m id none before a new =
      let next = (count + 1) ∷ scope in
      let own : IsBefore 0 next f.id = subst (λ x. IsBefore 0 next x) (sym id)
      (open_before 0 next (count ∷ scope) (added_open count scope) (omega arith)) in
      let fresh : f.nominal ≡ true → is_among named f.id ≡ false = λ h. subst (λ x. is_among named x ≡ false) (sym id) (new h) in
      record {
        nominal_is = m.nominal_is;
        id_before = own;
        before = before;
        refers_are = subst (λ n. Attains next named n f.refers) (sym m.refers_are) a;
        needs_are = λ e. subst (λ n. Attains next named n (needs f)) (sym m.needs_are) (needs_by next f.nominal own fresh a);
        number_is = subst (λ o. IsNumberOf table next o f) (sym m.instance_is) none;
      }

-- a type that is equal to another, and is named
module _ (table : List Surface) (count : ℕ) (scope : Id) (named more : List Id) (n : Names (count ∷ scope) named more) (depth : ℕ)
    (d : depth ≡ length scope) where
  number_equal : (i : Option ℕ) (id : Id) (f : Facts) → IsNumberOf table ((count + 1) ∷ scope) i f → IsNumberOf table ((count + 1) ∷ scope) i (equal_facts id f)
  number_equal None id f h = h
  number_equal (Some m) id f h = h

  equal_needs : (b : Bool) (n : Needs) (id : Id) (ids : List Id) → Attains ((count + 1) ∷ scope) more n (if b then id ∷ [] else ids)
      → Attains ((count + 1) ∷ scope) more (if b then named_needs depth else n) (if b then (count ∷ scope) ∷ [] else ids)
  equal_needs true n id ids a = record {
    outer = (count ∷ scope, among_itself (count ∷ scope) [], added_open count scope, omega (arith, d));
    inner = (
      count ∷ scope,
      among_itself (count ∷ scope) [],
      open_before depth ((count + 1) ∷ scope) (count ∷ scope) (added_open count scope) (omega (arith, d)),
    );
  }
  equal_needs false n id ids a = a

  pub equal_exact : (k : KeptFacts) (f : Facts) → IsKeptExactly table ((count + 1) ∷ scope) more k f
      → IsKeptExactly table ((count + 1) ∷ scope) more (named_facts k depth) (equal_facts (count ∷ scope) f)
  equal_exact k f i =
      let here = count ∷ scope in
      let next = (count + 1) ∷ scope in
      let open_here = added_open count scope in
      record {
        nominal_is = i.nominal_is;
        id_before = open_before 0 next here open_here (omega arith);
        before = i.before;
        refers_are = i.refers_are;
        needs_are = λ e. subst (λ b. Attains next more (if b then named_needs depth else k.needs) (if f.nominal then here ∷ [] else f.refers))
            (sym i.nominal_is) (equal_needs f.nominal k.needs f.id f.refers (i.needs_are e));
        number_is = number_equal k.instance here f i.number_is;
      }
