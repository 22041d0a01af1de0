-- Signatures that flatten alike, parameter by parameter.
use Rattle.std.proofs.Common.{◌≡◌, List, [], ◌∷◌, length, map, refl, sym, ap, ◌∙◌, arith, Option, Some, None}
use Rattle.std.specs.Option.{option_to_list}
use Rattle.std.specs.Prelude.{String}
use Rattle.std.specs.declared.alloc.Global.{Global}
use Rattle.smith_format.specs.declared.types.ValType.{ValType}
use Rattle.smith_syntax.specs.Flat.{Flat, flat_value}
use Rattle.smith_syntax.specs.Signature.{named, signature}
use Rattle.smith_syntax.specs.declared.types.ComponentValType.{ComponentValType}
use Rattle.smith_check.proofs.Judging.{Same}
use Rattle.smith_scope.proofs.Lists.{head_same, tail_same}

abbrev pub Params : Type 0
Params = List (String Global × ComponentValType)

-- both flatten, and to the same
abbrev pub FlatBoth : ComponentValType → ComponentValType → Type 0
FlatBoth a b = (v : ValType) × (flat_value a ≡ Some v) × (flat_value b ≡ Some v)

abbrev pub FlatParams : Params → Params → Type 0
FlatParams [] [] = Unit {0}
FlatParams [] (q ∷ qs) = ⊥
FlatParams (p ∷ ps) [] = ⊥
FlatParams (p ∷ ps) (q ∷ qs) = FlatBoth p.1 q.1 × FlatParams ps qs

-- results, which are there
abbrev pub FlatResults : Option ComponentValType → Option ComponentValType → Type 0
FlatResults None r = ⊥
FlatResults (Some a) None = ⊥
FlatResults (Some a) (Some b) = FlatBoth a b

-- the core value types of parameters
abbrev FlattenTo : Params → List ValType → Type 0
FlattenTo ps vs = map (λ p. flat_value p.1) (map named ps) ≡ map Some vs

some_none : (o : Option ValType) (os : List (Option ValType)) → o ∷ os ≡ [] → ⊥
some_none o os e = cc

params_flat : (ps qs : Params) (vs : List ValType) → FlattenTo ps vs → FlattenTo qs vs → FlatParams ps qs
params_flat [] [] vs e f = tt
params_flat [] (q ∷ qs) [] e f = some_none _ _ f
params_flat [] (q ∷ qs) (v ∷ vs) e f = some_none _ _ (sym e)
params_flat (p ∷ ps) [] [] e f = some_none _ _ e
params_flat (p ∷ ps) [] (v ∷ vs) e f = some_none _ _ (sym f)
params_flat (p ∷ ps) (q ∷ qs) [] e f = absurd (some_none _ _ e)
params_flat (p ∷ ps) (q ∷ qs) (v ∷ vs) e f =
    ((v, head_same _ _ _ _ e, head_same _ _ _ _ f), params_flat ps qs vs (tail_same _ _ _ _ e) (tail_same _ _ _ _ f))

params_types : (ps qs : Params) → FlatParams ps qs → (vs : List ValType) × FlattenTo ps vs × FlattenTo qs vs
params_types [] [] f = ([], refl, refl)
params_types [] (q ∷ qs) f = absurd f
params_types (p ∷ ps) [] f = absurd f
params_types (p ∷ ps) (q ∷ qs) f =
    let more = params_types ps qs f.1 in (
      f.0.0 ∷ more.0,
      ap (λ o. o ∷ map (λ p. flat_value p.1) (map named ps)) f.0.1 ∙ ap (λ os. Some f.0.0 ∷ os) more.1,
      ap (λ o. o ∷ map (λ p. flat_value p.1) (map named qs)) f.0.2 ∙ ap (λ os. Some f.0.0 ∷ os) more.2,
    )

abbrev ResultTo : Option ComponentValType → List ValType → Type 0
ResultTo r vs = map flat_value (option_to_list r) ≡ map Some vs

results_flat : (r s : Option ComponentValType) (vs : List ValType) → length vs ≡ 1 → ResultTo r vs → ResultTo s vs → FlatResults r s
results_flat r s [] one e f = absurd (omega (arith, one))
results_flat None s (v ∷ vs) one e f = some_none _ _ (sym e)
results_flat (Some a) None (v ∷ vs) one e f = some_none _ _ (sym f)
results_flat (Some a) (Some b) (v ∷ vs) one e f = (v, head_same _ _ _ _ e, head_same _ _ _ _ f)

results_types : (r s : Option ComponentValType) → FlatResults r s → (vs : List ValType) × ResultTo r vs × ResultTo s vs × (length vs ≡ 1)
results_types None s f = absurd f
results_types (Some a) None f = absurd f
results_types (Some a) (Some b) f = (f.0 ∷ [], ap (λ o. o ∷ []) f.1, ap (λ o. o ∷ []) f.2, refl)

-- Signatures flatten alike if their parameters do, one by one, and their results.
pub flat_same : (ps qs : Params) (r s : Option ComponentValType) → Same (Flat (signature ps r) (signature qs s)) (FlatParams ps qs × FlatResults r s)
flat_same ps qs r s = record {
  to = λ f. (params_flat ps qs f.0.0 f.1.params f.2.params, results_flat r s f.0.1 f.1.one f.1.result f.2.result);
  from = λ f.
      let p = params_types ps qs f.0 in
      let q = results_types r s f.1 in (
        (p.0, q.0),
        record { params = p.1; result = q.1; one = q.3 },
        record { params = p.2; result = q.2; one = q.3 },
      );
}
