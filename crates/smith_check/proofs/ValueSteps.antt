-- The values of signatures one by one.
use Rattle.std.proofs.Common.{◌≡◌, ℕ, List, [], ◌∷◌, ◌++◌, map, refl, sym, ap, ◌∙◌, subst, Option, Some, None}
use Rattle.std.specs.Option.{option_to_list}
use Rattle.std.specs.Prelude.{slice_get}
use Rattle.smith_syntax.specs.Entries.{Entry, Signature, function}
use Rattle.smith_syntax.specs.Flat.{flat_value}
use Rattle.smith_syntax.specs.Signature.{named, signature}
use Rattle.smith_syntax.specs.declared.types.ComponentValType.{ComponentValType}
use Rattle.smith_tree.specs.Possible.{AreFlat, NeedsMemory, PossibleCanon, SameFlat, needs_memory, values_of}
use Rattle.smith_tree.specs.Spaces.{Spaces}
use Rattle.smith_tree.specs.Tree.{lift}
use Rattle.smith_tree.specs.WellFormed.{HasSignature}
use Rattle.smith_scope.proofs.Lists.{head_same, tail_same}
use Rattle.smith_check.proofs.FlatSteps.{Params}
use Rattle.smith_check.proofs.Judging.{Same}

-- the types of these parameters, and of that result
abbrev pub values_in : Params → Option ComponentValType → List ComponentValType
values_in ps r = map (λ p. p.1) ps ++ option_to_list r

pub values_named : (ps : Params) (r : Option ComponentValType) → values_of (signature ps r) ≡ values_in ps r
values_named [] r = refl
values_named (p ∷ ps) r = ap (λ vs. p.1 ∷ vs) (values_named ps r)

-- the same core value types

abbrev pub SameParams : Params → Params → Type 0
SameParams [] [] = Unit {0}
SameParams [] (q ∷ qs) = ⊥
SameParams (p ∷ ps) [] = ⊥
SameParams (p ∷ ps) (q ∷ qs) = (flat_value p.1 ≡ flat_value q.1) × SameParams ps qs

abbrev pub SameResults : Option ComponentValType → Option ComponentValType → Type 0
SameResults None None = Unit {0}
SameResults None (Some b) = ⊥
SameResults (Some a) None = ⊥
SameResults (Some a) (Some b) = flat_value a ≡ flat_value b

params_to : (ps qs : Params) → map (λ p. flat_value p.1) (map named ps) ≡ map (λ p. flat_value p.1) (map named qs) → SameParams ps qs
params_to [] [] e = tt
params_to [] (q ∷ qs) e = absurd (let z : [] ≡ flat_value q.1 ∷ map (λ p. flat_value p.1) (map named qs) = e in cc)
params_to (p ∷ ps) [] e = absurd (let z : flat_value p.1 ∷ map (λ p. flat_value p.1) (map named ps) ≡ [] = e in cc)
params_to (p ∷ ps) (q ∷ qs) e = (head_same _ _ _ _ e, params_to ps qs (tail_same _ _ _ _ e))

params_from : (ps qs : Params) → SameParams ps qs → map (λ p. flat_value p.1) (map named ps) ≡ map (λ p. flat_value p.1) (map named qs)
params_from [] [] s = refl
params_from [] (q ∷ qs) s = absurd s
params_from (p ∷ ps) [] s = absurd s
params_from (p ∷ ps) (q ∷ qs) s =
    ap (λ o. o ∷ map (λ p. flat_value p.1) (map named ps)) s.0 ∙ ap (λ os. flat_value q.1 ∷ os) (params_from ps qs s.1)

results_to : (r s : Option ComponentValType) → map flat_value (option_to_list r) ≡ map flat_value (option_to_list s) → SameResults r s
results_to None None e = tt
results_to None (Some b) e = absurd (let z : [] ≡ flat_value b ∷ [] = e in cc)
results_to (Some a) None e = absurd (let z : flat_value a ∷ [] ≡ [] = e in cc)
results_to (Some a) (Some b) e = head_same _ _ _ _ e

results_from : (r s : Option ComponentValType) → SameResults r s → map flat_value (option_to_list r) ≡ map flat_value (option_to_list s)
results_from None None s = refl
results_from None (Some b) s = absurd s
results_from (Some a) None s = absurd s
results_from (Some a) (Some b) s = ap (λ o. o ∷ []) s

pub values_same : (ps qs : Params) (r s : Option ComponentValType) → Same (SameFlat (signature ps r) (signature qs s)) (SameParams ps qs × SameResults r s)
values_same ps qs r s = record {
  to = λ f. (params_to ps qs f.params, results_to r s f.result);
  from = λ f. record { params = params_from ps qs f.0; result = results_from r s f.1 };
}

-- ---- what is lifted

same_function : (o : Option Entry) (f g : Signature) → o ≡ Some (function f) → o ≡ Some (function g) → f ≡ g
same_function o f g e h = ap (λ x. elim x [ None ↦ f | Some y ↦ signature_in f y ]) (sym e ∙ h)
  where
    signature_in : Signature → Entry → Signature
    signature_in other (function s) = s
    signature_in other _ = other

same_index : (o : Option ℕ) (i j : ℕ) → o ≡ Some i → o ≡ Some j → i ≡ j
same_index o i j e h = ap (λ x. elim x [ None ↦ i | Some y ↦ y ]) (sym e ∙ h)

same_signature_of : (s : Spaces) (f : ℕ) (g h : Signature) → HasSignature s f g → HasSignature s f h → g ≡ h
same_signature_of s f g h p q =
    same_function (slice_get s.types p.ty) g h p.is (ap (λ i. slice_get s.types i) (same_index (slice_get s.functions f) p.ty q.ty p.stands q.stands) ∙ q.is)

-- what the standard asks of this lift
pub lift_asks : (s : Spaces) (c t f : ℕ) (lifted lowered : Signature) → slice_get s.types t ≡ Some (function lifted) → slice_get s.core_functions c ≡ Some f
    → HasSignature s f lowered → PossibleCanon s (lift c t) → (¬ NeedsMemory s.types lifted) × (AreFlat lifted → AreFlat lowered → SameFlat lifted lowered)
lift_asks s c t f lifted lowered is at has p =
    let a : p.0 ≡ lifted = same_function (slice_get s.types t) p.0 lifted p.3 is in
    let i : p.2 ≡ f = same_index (slice_get s.core_functions c) p.2 f p.4 at in
    let b : p.1 ≡ lowered = same_signature_of s f p.1 lowered (subst (λ g. HasSignature s g p.1) i p.5) has in (
      subst (λ g. ¬ NeedsMemory s.types g) a p.6,
      subst (λ g. AreFlat g → AreFlat lowered → SameFlat g lowered) a (subst (λ g. AreFlat p.0 → AreFlat g → SameFlat p.0 g) b p.7),
    )
