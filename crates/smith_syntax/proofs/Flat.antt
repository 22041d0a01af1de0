-- A signature has one flattened type.
use Rattle.std.proofs.Common.{◌≡◌, List, [], ◌∷◌, map, length, refl, sym, ap, ◌∙◌, arith}
use Rattle.std.proofs.lemmas.List.{length-map}
use Rattle.std.specs.Prelude.{Option, Some}
use Rattle.smith_format.specs.CoreTypes.{Function}
use Rattle.smith_format.specs.declared.types.ValType.{ValType}
use Rattle.smith_syntax.specs.Entries.{Field, Signature}
use Rattle.smith_syntax.specs.Flat.{flat_value, Flattens}

-- as many as there are
same_length : {A : Type 0} (f : A → Option ValType) (xs : List A) (ys : List ValType) → map f xs ≡ map Some ys → length ys ≡ length xs
same_length f xs ys e = sym (length-map ys Some) ∙ (sym (ap length e) ∙ length-map xs f)

-- lists of values that are there are the same if the values are
same_values : (xs ys : List ValType) → map Some xs ≡ map Some ys → xs ≡ ys
same_values [] [] e = refl
same_values [] (y ∷ ys) e = absurd (let n = same_length Some [] (y ∷ ys) e in omega (arith, n))
same_values (x ∷ xs) [] e = absurd (let n = same_length Some (x ∷ xs) [] e in omega (arith, n))
same_values (x ∷ xs) (y ∷ ys) e =
    let first : x ≡ y = cc in
    let rest : map Some xs ≡ map Some ys = cc in
    λ i. first i ∷ same_values xs ys rest i

-- It flattens to one core function type.
pub flattens_same : {s : Signature} {f g : Function} → Flattens s f → Flattens s g → f ≡ g
flattens_same {f = f} {g = g} a b = λ i. (same_values f.0 g.0 (sym a.params ∙ b.params) i, same_values f.1 g.1 (sym a.result ∙ b.result) i)

-- There are as many core parameters as parameters.
pub flattens_params : {s : Signature} {f : Function} → Flattens s f → length f.0 ≡ length s.params
flattens_params {s = s} {f = f} h = same_length (λ (p : Field). flat_value p.1) s.params f.0 h.params
