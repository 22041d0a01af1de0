-- What holds of a call whatever precedes it, of which something is kept.
use Rattle.std.specs.Prelude.{◌≡◌, Bool, List, ◌∷◌, length}
use Rattle.smith_tree.specs.Bodies.{Body}
use Rattle.smith_tree.specs.Facts.{FactScope, Facts, Id}
use Rattle.smith_validate.specs.Bodies.{IsBody, IsIn}
use Rattle.smith_validate.specs.Exact.{AreKnown, IsKeptBody}
use Rattle.smith_validate.specs.Instances.{AreKept, Surface}
use Rattle.smith_validate.specs.Kept.{types_in}
use Rattle.smith_validate.specs.declared.body.Body.{Body as Kept}
use Rattle.smith_validate.specs.declared.body.Role.{Role}
use Rattle.smith_validate.specs.declared.facts.Facts.{Facts as KeptFacts}
use Rattle.smith_validate.specs.declared.known.Known.{Known}

-- types, scopes, and a body, by what each scope names

abbrev pub AmongKept : List KeptFacts → (List Facts → List (List Id) → List Surface → Type 0) → Type 0
AmongKept kept P = (types : List Facts) (names : List (List Id)) (table : List Surface) → AreKept table names kept types → P types names table

abbrev pub InScopes : Known → (FactScope → List FactScope → List Id → List (List Id) → List Surface → Type 0) → Type 0
InScopes k P = (own : FactScope) (outer : List FactScope) (here : List Id) (names : List (List Id)) (table : List Surface)
    → IsIn k own outer here names table → P own outer here names table

abbrev pub InBody : Known → Kept → (Bool → Body → List FactScope → List (List Id) → List Surface → Type 0) → Type 0
InBody k o P = (asks : Bool) (b : Body) (outer : List FactScope) (names : List (List Id)) (table : List Surface)
    → IsBody asks k o b outer names table → P asks b outer names table

-- scopes and a body of which it is exact, by what all of them name

abbrev pub InScopesExactly : Known → (FactScope → List FactScope → List Id → List Surface → Type 0) → Type 0
InScopesExactly k P = (own : FactScope) (outer : List FactScope) (named : List Id) (table : List Surface)
    → AreKnown (types_in k) k.instances.items (own ∷ outer) named table → length outer ≡ length k.scopes.outer.items → P own outer named table

abbrev pub InBodyExactly : Known → Role → (Bool → Body → List FactScope → List Id → List Surface → Type 0) → Type 0
InBodyExactly k r P = (asks : Bool) (b : Body) (outer : List FactScope) (named : List Id) (table : List Surface)
    → IsKeptBody asks k r b outer named table → P asks b outer named table
