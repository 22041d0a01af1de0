-- Sizes made of the sizes of marks are the sizes made of the sizes of the types, as they are kept.
use Rattle.std.proofs.Common.{rules, arith, ◌≡◌, ℕ, zero, suc, ◌+◌, List, [], ◌∷◌, map, fold, refl, sym, subst, get_or}
use Rattle.std.proofs.Common.{Option, Some, None}
use Rattle.smith_syntax.specs.Entries.{DefValType, Signature, list_type, option_type, record_type, result_type, tuple_type, variant_type}
use Rattle.smith_syntax.specs.Marks.{sizes}
use Rattle.smith_syntax.specs.Members.{members, signature_members}
use Rattle.smith_syntax.specs.Sizes.{capped, defined_size, maybe_size, signature_size, summed, value_size}
use Rattle.smith_syntax.specs.declared.marks.Mark.{Mark}
use Rattle.smith_syntax.specs.declared.types.ComponentValType.{ComponentValType}
use Rattle.smith_syntax.specs.declared.types.ComponentValType.TheVariants.{Primitive, Indexed}
use Rattle.smith_tree.specs.Facts.{Facts, Id, sizes as fact_sizes}
use Rattle.smith_tree.proofs.Capped.{capped_again, capped_both}
use Rattle.smith_tree.proofs.Ties.{TiedTypes}

-- the one at an index
pub same_at : (named : List Id) (ms : List Mark) (fs : List Facts) (i none : ℕ) → TiedTypes named ms fs
    → capped (get_or (sizes ms) i none) ≡ capped (get_or (fact_sizes fs) i none)
same_at named [] [] i none t = refl
same_at named [] (f ∷ fs) i none t = absurd t
same_at named (m ∷ ms) [] i none t = absurd t
same_at named (m ∷ ms) (f ∷ fs) zero none t = subst (λ n. capped n ≡ capped f.size) (sym t.0.size) (capped_again f.size)
same_at named (m ∷ ms) (f ∷ fs) (suc i) none t = same_at named ms fs i none t.1

module _ (named : List Id) (ms : List Mark) (fs : List Facts) (t : TiedTypes named ms fs) where
  same_value : (v : ComponentValType) → capped (value_size (sizes ms) v) ≡ capped (value_size (fact_sizes fs) v)
  same_value (Primitive p) = refl
  same_value (Indexed i) = same_at named ms fs i 1 t

  same_maybe : (v : Option ComponentValType) → capped (maybe_size (sizes ms) v) ≡ capped (maybe_size (fact_sizes fs) v)
  same_maybe None = refl
  same_maybe (Some v) = same_value v

  same_sum : (vs : List ComponentValType) (a b : ℕ) → capped a ≡ capped b
      → capped (fold (λ a x. a + x) a (map (value_size (sizes ms)) vs)) ≡ capped (fold (λ a x. a + x) b (map (value_size (fact_sizes fs)) vs))
  same_sum [] a b e = e
  same_sum (v ∷ vs) a b e =
      same_sum vs (a + value_size (sizes ms) v) (b + value_size (fact_sizes fs) v)
      (capped_both a b (value_size (sizes ms) v) (value_size (fact_sizes fs) v) e (same_value v))

  same_summed : (vs : List ComponentValType) → capped (summed (sizes ms) vs) ≡ capped (summed (fact_sizes fs) vs)
  same_summed vs = search (rules, capped_both, fold, map, same_sum)

  pub same_defined : (d : DefValType) → capped (defined_size (sizes ms) d) ≡ capped (defined_size (fact_sizes fs) d)
  same_defined (record_type rs) = same_summed (members (record_type rs))
  same_defined (variant_type cs) = same_summed (members (variant_type cs))
  same_defined (list_type v) = same_value v
  same_defined (tuple_type vs) = same_summed vs
  same_defined (option_type v) = same_value v
  same_defined (result_type ok err) = grind (arith, capped_both, same_maybe)
  same_defined _ = refl

  pub same_signature : (s : Signature) → capped (signature_size (sizes ms) s) ≡ capped (signature_size (fact_sizes fs) s)
  same_signature s = same_summed (signature_members s)
