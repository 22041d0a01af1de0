-- What a check of a component's contents says.
use Rattle.std.specs.Prelude.{◌≡◌, ◌<◌, Result, Ok, Err}
use Rattle.smith_tree.specs.Tree.{Tree}
use Rattle.smith_read.specs.Items.{items}
use Rattle.smith_read.specs.Walk.{Step, one}
use Rattle.smith_verdict.specs.Contained.{Content, HasNoReferences, KeepsMore, OfPart}
use Rattle.smith_verdict.specs.declared.contained.Contained.{Contained}
use Rattle.smith_verdict.specs.declared.contained.Contained.TheVariants as contained
use Rattle.smith_verdict.specs.declared.contained.Found.{Found}

-- If this was found, the fact does not hold.
pub record Refutes (asked found : Found) (Q : Type 0) : Type 0 where
  pub is : found ≡ asked → ¬ Q

-- A check succeeds only if the fact holds. If it finds what was asked, the fact does not hold.
abbrev pub Shows : {A : Type 0} → Found → Result A Found → Type 0 → Type 0
Shows asked (Ok x) Q = Q
Shows asked (Err found) Q = Refutes asked found Q

-- what is asked of a step of a walk
abbrev pub OfStep : (Content → Type 0) → Step → Type 0
OfStep P (one p) = OfPart P p
OfStep P _ = Unit {0}

-- what is said of a component, and that it has the item
abbrev pub IsContained : Tree → Contained → Type 0
IsContained t contained.Plain = HasNoReferences t × KeepsMore t
IsContained t (contained.Reference item) = (¬ HasNoReferences t) × (item < items t)
IsContained t (contained.TooMuch item) = (¬ KeepsMore t) × (item < items t)
