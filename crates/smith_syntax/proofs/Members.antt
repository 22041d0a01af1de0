-- The value types of members, one by one.
use Rattle.std.proofs.Common.{◌≡◌, List, [], ◌∷◌, ◌++◌, map, refl, sym, ap, ◌∙◌, Some, Option}
use Rattle.std.specs.List.{flat_map}
use Rattle.std.specs.Option.{option_to_list}
use Rattle.std.specs.Prelude.{String}
use Rattle.std.specs.declared.alloc.Global.{Global}
use Rattle.std.proofs.lemmas.List.Concat.{flat_map-cons, flat_map_single}
use Rattle.smith_syntax.specs.Signature.{named}
use Rattle.smith_syntax.specs.declared.types.ComponentValType.{ComponentValType}

types_named : {B : Type 0} (ps : List (String Global × B)) → map (λ p. p.1) (map named ps) ≡ map (λ p. p.1) ps
types_named [] = refl
types_named (p ∷ ps) = ap (λ ys. p.1 ∷ ys) (types_named ps)

same_map : {A : Type 0} (xs : List A) → map (λ x. x) xs ≡ xs
same_map [] = refl
same_map (x ∷ xs) = ap (λ ys. x ∷ ys) (same_map xs)

pub field_types : (ps : List (String Global × ComponentValType)) → flat_map (λ p. option_to_list (Some p.1)) ps ≡ map (λ p. p.1) (map named ps)
field_types ps = flat_map_single (λ p. p.1) ps ∙ sym (types_named ps)

pub case_types : (ps : List (String Global × Option ComponentValType))
    → flat_map (λ p. option_to_list p.1) ps ≡ flat_map (λ c. option_to_list c.1) (map named ps)
case_types [] = refl
case_types (p ∷ ps) =
    flat_map-cons (λ q. option_to_list q.1) p ps
    ∙ (ap (λ ys. option_to_list p.1 ++ ys) (case_types ps) ∙ sym (flat_map-cons (λ c. option_to_list c.1) (named p) (map named ps)))

pub tuple_types : (vs : List ComponentValType) → flat_map (λ v. option_to_list (Some v)) vs ≡ vs
tuple_types vs = flat_map_single (λ v. v) vs ∙ same_map vs
