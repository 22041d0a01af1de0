-- What calls promise of what they judge and of what is kept then, whatever precedes it.
use Rattle.std.specs.Prelude.{◌≡◌, List, ◌++◌, IfErr, OnOk, Result}
use Rattle.smith_tree.specs.Bodies.{Body}
use Rattle.smith_tree.specs.Demands.{Demands}
use Rattle.smith_tree.specs.Facts.{FactScope, Id}
use Rattle.smith_tree.specs.Spaces.{Spaces}
use Rattle.smith_validate.specs.Instances.{Surface}
use Rattle.smith_validate.specs.Judges.{IsNamed, Judges}
use Rattle.smith_validate.specs.declared.body.Body.{Body as Kept}
use Rattle.smith_validate.specs.declared.error.Stop.{Stop}
use Rattle.smith_validate.specs.declared.known.Known.{Known}

-- an open component: its index spaces, and what is kept beside them
abbrev pub At : Type 0
At = Spaces × Body

-- What is kept is of something in these scopes, by what each of them names; or it is exact, by what all of them name.

abbrev pub View : Type 0 → Type 1
View S = S → List FactScope → List (List Id) → List Surface → Type 0

abbrev pub ExactView : Type 0 → Type 1
ExactView S = S → List FactScope → List Id → List Surface → Type 0

-- The same, with more types of instances.
abbrev pub Later : {S N : Type 0} → (S → List FactScope → N → List Surface → Type 0) → S → List FactScope → N → List Surface → Type 0
Later V at outer names table = (more : List Surface) × V at outer names (table ++ more)

-- A call succeeds only if what it reads is valid, and stops at a bound only if it is not. What is kept is then of what there is after it.
pub record Steps {A S : Type 0} (result : Result A Stop) (Before After : View S) (after : S → List FactScope → S)
    (Valid : Demands → S → List FactScope → Type 0) : Type 0 where
  pub judged : (at : S) (outer : List FactScope) (names : List (List Id)) (table : List Surface) → Before at outer names table
      → Judges result (λ d. Valid d at outer)
  pub added : (at : S) (outer : List FactScope) (names : List (List Id)) (table : List Surface) → Before at outer names table
      → OnOk result (After (after at outer) outer names table)

-- What is kept stays exact, of what is usual, and the call finds something unnamed only if it is.
pub record StepsExactly {A S : Type 0} (result : Result A Stop) (Before After : ExactView S) (after : S → List FactScope → S)
    (Usual Valid : S → List FactScope → Type 0) : Type 0 where
  pub exact : (at : S) (outer : List FactScope) (named : List Id) (table : List Surface) → Before at outer named table → Usual at outer
      → OnOk result (After (after at outer) outer named table)
  pub refused : (at : S) (outer : List FactScope) (named : List Id) (table : List Surface) → Before at outer named table → Usual at outer
      → IfErr result (λ e. IsNamed e → ¬ (Valid at outer))

-- All beside the innermost scope is what it was.
pub record SameBeside (old new : Known) : Type 0 where
  pub instances : new.instances.items ≡ old.instances.items
  pub outer : new.scopes.outer.items ≡ old.scopes.outer.items

-- So are imports and exports of a body.
pub record Leaves (old new : Known) (before after : Kept) : Type 0 where
  pub beside : SameBeside old new
  pub role : after.role ≡ before.role

-- The scopes are what they were.
pub record SameScopes (old new : Known) : Type 0 where
  pub own : new.scopes.own ≡ old.scopes.own
  pub outer : new.scopes.outer.items ≡ old.scopes.outer.items
