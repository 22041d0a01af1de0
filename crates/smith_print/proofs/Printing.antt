-- How printers follow one another.
use Rattle.std.proofs.Common.{◌≡◌, ℕ, List, ◌++◌, map, ap, sym, subst, ◌∙◌, append_assoc, Result, Ok, Err}
use Rattle.std.proofs.lemmas.List.Folds.{flat_map-map}
use Rattle.std.specs.Prelude.{String, string_bytes, codes}
use Rattle.std.specs.declared.alloc.Global.{Global}
use Rattle.smith_print.specs.Printing.{Prints}
use Rattle.smith_print.specs.Values.{group}

pub prints_same : {A E : Type 0} (r : Result A E) (old new : String Global) {x y : List ℕ} → x ≡ y → Prints r old new x → Prints r old new y
prints_same r old new e h = subst (λ (t : List ℕ). Prints r old new t) e h

-- one text, and then the next
pub prints_then : {A E : Type 0} (r : Result A E) (old mid new : String Global) (x y : List ℕ) → string_bytes mid ≡ string_bytes old ++ x
    → Prints r mid new y → Prints r old new (x ++ y)
prints_then (Ok v) old mid new x y e h = h ∙ ap (λ z. z ++ y) e ∙ append_assoc (string_bytes old) x y
prints_then (Err v) old mid new x y e h = h

-- members by what they show
pub prints_group : {A B T E : Type 0} (r : Result T E) (old new : String Global) (head : List ℕ) (text : B → List ℕ) (v : A → B) (xs : List A)
    → Prints r old new (group head (λ x. text (v x)) xs) → Prints r old new (group head text (map v xs))
prints_group r old new head text v xs h = prints_same r old new (ap (λ z. head ++ (z ++ codes ")")) (sym (flat_map-map text v xs))) h

pub ruleset printing = (append_assoc)
