-- What is made of a hundred small types is below the bound on sizes.
use Rattle.std.proofs.Common.{◌≡◌, ℕ, zero, suc, ◌+◌, ◌*◌, ◌<◌, ◌≤◌, Bool, true, false, List, [], ◌∷◌, length, map, flat_map, fold, get_or, subst, arith}
use Rattle.std.proofs.Common.{option_to_list}
use Rattle.std.proofs.lemmas.Bool.{leb-true}
use Rattle.std.proofs.lemmas.List.{length-append, length-map}
use Rattle.std.specs.List.{AllByRecursion}
use Rattle.smith_format.specs.declared.config.Config.{Config}
use Rattle.smith_input.proofs.Lists.{one_at_most}
use Rattle.smith_syntax.specs.Entries.{Case, DefValType, Signature, record_type, tuple_type, variant_type}
use Rattle.smith_syntax.specs.Marked.{Marked}
use Rattle.smith_syntax.specs.Marks.{is_small, small_size}
use Rattle.smith_syntax.specs.Members.{members, signature_members}
use Rattle.smith_syntax.specs.Scope.{Scope}
use Rattle.smith_syntax.specs.Sizes.{capped, size_bound, summed, value_size}
use Rattle.smith_syntax.specs.Usable.{OfferedRef, OfferedValue, mark_at}
use Rattle.smith_syntax.specs.WellFormed.{FormedDefined}
use Rattle.smith_syntax.specs.declared.deftype.ComponentTypeRef.{ComponentTypeRef}
use Rattle.smith_syntax.specs.declared.deftype.ComponentTypeRef.TheVariants as to
use Rattle.smith_syntax.specs.declared.marks.Mark.{Mark}
use Rattle.smith_syntax.specs.declared.types.ComponentValType.{ComponentValType}
use Rattle.smith_syntax.specs.declared.types.ComponentValType.TheVariants.{Primitive, Indexed}
use Rattle.smith_tree.specs.Bodies.{module_size_at, reference_size}
use Rattle.smith_tree.specs.Facts.{CoreFacts, FactScope, Facts, Id, sizes as fact_sizes}
use Rattle.smith_tree.specs.Sizes.{SmallDefined}
use Rattle.smith_tree.proofs.Capped.{capped_low}
use Rattle.smith_tree.proofs.Ties.{FitsCore, TiedScope, TiedTypes}

-- If the mark is small, the type is.

pub small_one : (m : Mark) (n : ℕ) → m.size ≡ capped n → is_small m ≡ true → n ≤ small_size
small_one m n e h = capped_low n (subst (λ k. k ≤ 9999) e (leb-true m.size 9999 h))

pub small_at : (named : List Id) (ms : List Mark) (fs : List Facts) (i none : ℕ) → none ≤ small_size → TiedTypes named ms fs
    → is_small (mark_at ms i) ≡ true → get_or (fact_sizes fs) i none ≤ small_size
small_at named [] [] i none few t h = few
small_at named [] (f ∷ fs) i none few t h = absurd t
small_at named (m ∷ ms) [] i none few t h = absurd t
small_at named (m ∷ ms) (f ∷ fs) zero none few t h = small_one m f.size t.0.size h
small_at named (m ∷ ms) (f ∷ fs) (suc i) none few t h = small_at named ms fs i none few t.1 h

small_module_at : (config : Config) (fs : List CoreFacts) (i : ℕ) → AllByRecursion (FitsCore config) fs → module_size_at fs i ≤ small_size
small_module_at config [] i h = omega arith
small_module_at config (f ∷ fs) zero h = h.0.small
small_module_at config (f ∷ fs) (suc i) h = small_module_at config fs i h.1

pub small_reference : (config : Config) (named : List Id) (m : Marked) (own : FactScope) (for_import : Bool) (r : ComponentTypeRef)
    → TiedScope config named m own → OfferedRef m for_import r → reference_size own.core_types (fact_sizes own.types) r ≤ small_size
small_reference config named m own for_import (to.Module i) t h = small_module_at config own.core_types i t.cores
small_reference config named m own true (to.Func i) t h = small_at named m.marks own.types i 0 (omega arith) t.types h.0
small_reference config named m own false (to.Func i) t h = small_at named m.marks own.types i 0 (omega arith) t.types h.0
small_reference config named m own for_import (to.TypeEq i) t h = small_at named m.marks own.types i 0 (omega arith) t.types h.0
small_reference config named m own for_import (to.Component i) t h = small_at named m.marks own.types i 0 (omega arith) t.types h
small_reference config named m own for_import (to.Instance i) t h = small_at named m.marks own.types i 0 (omega arith) t.types h

small_value : (named : List Id) (m : Marked) (fs : List Facts) (v : ComponentValType) → TiedTypes named m.marks fs → OfferedValue m v
    → value_size (fact_sizes fs) v ≤ small_size
small_value named m fs (Primitive p) t h = omega arith
small_value named m fs (Indexed i) t h = small_at named m.marks fs i 1 (omega arith) t h

pub small_values : (named : List Id) (m : Marked) (fs : List Facts) (vs : List ComponentValType) → TiedTypes named m.marks fs
    → AllByRecursion (OfferedValue m) vs → AllByRecursion (λ v. value_size (fact_sizes fs) v ≤ small_size) vs
small_values named m fs [] t h = tt
small_values named m fs (v ∷ vs) t h = (small_value named m fs v t h.0, small_values named m fs vs t h.1)

-- A hundred of these, and one more.

small_sum : (f : ComponentValType → ℕ) (vs : List ComponentValType) (so_far : ℕ) → AllByRecursion (λ v. f v ≤ small_size) vs
    → fold (λ a x. a + x) so_far (map f vs) ≤ so_far + 9999 * length vs
small_sum f [] so_far h = omega arith
small_sum f (v ∷ vs) so_far h =
    let here : f v ≤ 9999 = h.0 in
    omega (arith, small_sum f vs (so_far + f v) h.1)

small_summed : (types : List ℕ) (vs : List ComponentValType) → AllByRecursion (λ v. value_size types v ≤ small_size) vs → length vs ≤ 100
    → summed types vs < size_bound
small_summed types vs h few = omega (arith, small_sum (value_size types) vs 0 h)

case_members : (cs : List Case) → length (flat_map (λ (c : Case). option_to_list c.1) cs) ≤ length cs
case_members [] = omega arith
case_members (c ∷ cs) =
    omega (
      arith,
      length-append (option_to_list c.1) (flat_map (λ (c : Case). option_to_list c.1) cs),
      one_at_most c.1,
      case_members cs,
    )

pub small_defined : (types : List ℕ) (d : DefValType) (own : Scope) → FormedDefined d own
    → AllByRecursion (λ v. value_size types v ≤ small_size) (members d) → SmallDefined types d
small_defined types (record_type fs) own few h = grind (arith, small_summed, length-map)
small_defined types (variant_type cs) own few h = small_summed types (members (variant_type cs)) h (omega (arith, few.3, case_members cs))
small_defined types (tuple_type vs) own few h = small_summed types vs h few.2
small_defined types _ own few h = tt

pub few_members : (s : Signature) → length s.params ≤ 16 → length (signature_members s) ≤ 17
few_members s few = grind (arith, length-append, map, option_to_list, length-map, one_at_most)

pub small_function : (types : List ℕ) (s : Signature) → length s.params ≤ 16
    → AllByRecursion (λ v. value_size types v ≤ small_size) (signature_members s) → summed types (signature_members s) < size_bound
small_function types s few h = small_summed types (signature_members s) h (omega (arith, few_members s few))
