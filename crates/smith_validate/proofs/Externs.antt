-- What is imported or exported, by its type.
use Rattle.std.proofs.Common.{◌≡◌, ℕ, List, [], ◌∷◌, ◌++◌, map, refl, sym, ap, ◌∙◌, subst, append-nil}
use Rattle.std.proofs.Common.{Option, None, Some}
use Rattle.std.specs.List.{flat_map}
use Rattle.std.specs.Option.{option_map, option_to_list}
use Rattle.std.specs.Prelude.{slice_get}
use Rattle.smith_tree.specs.Facts.{Extern, Facts, Id}
use Rattle.smith_validate.specs.Externs.{IsExtern, IsPiece, kept_extern, kept_instance}
use Rattle.smith_validate.specs.Instances.{AreKept, Surface, IsKept, IsNumbered, equal, reach_of, single, whole}
use Rattle.smith_validate.specs.Marks.{Covers}
use Rattle.smith_validate.specs.declared.facts.Facts.{Facts as KeptFacts}
use Rattle.smith_validate.specs.declared.facts.Needs.{Needs}
use Rattle.smith_validate.specs.declared.instances.Use.TheVariants.{Instance, Equal}
use Rattle.smith_validate.proofs.Zips.{beside, none_beside}

module _ (table : List Surface) (names : List (List Id)) where
  of_equal : (refers : Needs) (f : Facts) (ids : List Id) (i : Option ℕ) → Covers names refers (reach_of table i f) → IsNumbered table i f
      → IsPiece table names (record { refers = refers; used = option_map (λ n. Equal n) i }) (record { refers = f.refers; names = ids } ∷ [])
  of_equal refers f ids None c n = record {
    piece = single (record { refers = f.refers; names = ids });
    externs_are = refl;
    used_is = refl;
    known = tt;
    covered = c;
  }
  of_equal refers f ids (Some k) c n = record {
    piece = equal k ids;
    externs_are = ap (λ (rs : List Id). record { refers = rs; names = ids } ∷ []) n.2;
    used_is = refl;
    known = n.0;
    covered = c;
  }

  of_instance : (refers : Needs) (f : Facts) (i : Option ℕ) → Covers names refers (reach_of table i f) → IsNumbered table i f
      → IsExtern table names (option_map (λ n. record { refers = refers; used = Some (Instance n) }) i) (f.exports ++ [])
  of_instance refers f None c n = append-nil f.exports ∙ n
  of_instance refers f (Some k) c n = record {
    piece = whole k;
    externs_are = ap (λ xs. xs ++ []) n.1;
    used_is = refl;
    known = n.0;
    covered = c;
  }

  abbrev named_as : List Id → Facts → Extern
  named_as ids f = record { refers = f.refers; names = ids }

  module _ (ks : List KeptFacts) (types : List Facts) (i : ℕ) (are : AreKept table names ks types) where
    pub equal_found : (ids : List Id) (k : KeptFacts) → Some k ≡ slice_get ks i
        → IsPiece table names (kept_extern k) (map (named_as ids) (option_to_list (slice_get types i)))
    equal_found ids k e =
        let b = beside (IsKept table names) ks types i k are e in
        subst (λ o. IsPiece table names (kept_extern k) (map (named_as ids) (option_to_list o))) (sym b.at)
        (of_equal k.refers b.item ids k.instance b.is.refers_are b.is.instance_is)

    pub equal_missing : (ids : List Id) → None ≡ slice_get ks i
        → map (named_as ids) (option_to_list (slice_get types i)) ≡ []
    equal_missing ids e =
        ap (λ o. map (named_as ids) (option_to_list o)) (none_beside (IsKept table names) ks types i are e)

    pub instance_found : (k : KeptFacts) → Some k ≡ slice_get ks i
        → IsExtern table names (kept_instance k) (flat_map (λ f. f.exports) (option_to_list (slice_get types i)))
    instance_found k e =
        let b = beside (IsKept table names) ks types i k are e in
        subst (λ o. IsExtern table names (kept_instance k) (flat_map (λ f. f.exports) (option_to_list o))) (sym b.at)
        (of_instance k.refers b.item k.instance b.is.refers_are b.is.instance_is)

    pub instance_missing : None ≡ slice_get ks i → flat_map (λ f. f.exports) (option_to_list (slice_get types i)) ≡ []
    instance_missing e = ap (λ o. flat_map (λ f. f.exports) (option_to_list o)) (none_beside (IsKept table names) ks types i are e)
