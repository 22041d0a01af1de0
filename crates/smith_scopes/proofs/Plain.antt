-- Lists and results by themselves.
use Rattle.std.proofs.Common.{◌≡◌, ℕ, ◌+◌, List, [], ◌∷◌, ◌++◌, map, sym, ap, ◌∙◌}
use Rattle.std.proofs.Math.ListN.{drop}
use Rattle.std.proofs.lemmas.List.{map-append}
use Rattle.std.proofs.lemmas.Option.{get_or_from_slice_get, slice_get_within}
use Rattle.std.specs.Prelude.{OnOk, Result, Ok, Err, Some, slice_get}
pub use Rattle.std.proofs.lemmas.Bool.{and_parts as both_true}
pub use Rattle.smith_input.proofs.Lists.{all_back, all_both, all_front}
pub use Rattle.smith_input.proofs.Rests.{rest_at}

-- a list with one more item, as it is shown
pub pushed : {X A : Type 0} (shown : X → A) (old new : List X) (x : X) → new ≡ old ++ x ∷ [] → map shown new ≡ map shown old ++ shown x ∷ []
pushed shown old new x e = ap (map shown) e ∙ map-append shown old (x ∷ [])

-- the rest of a list, from a place with a known item
pub rest_from : {A : Type 0} (xs : List A) (i : ℕ) (x : A) → slice_get xs i ≡ Some x → drop i xs ≡ x ∷ drop (i + 1) xs
rest_from xs i x e = rest_at xs i x (slice_get_within xs i x e) (sym (get_or_from_slice_get xs i x x e))

pub both_on : {T E : Type 0} (P Q : Type 0) (r : Result T E) → OnOk r P → OnOk r Q → OnOk r (P × Q)
both_on P Q (Ok x) p q = (p, q)
both_on P Q (Err e) p q = tt
