-- An open component as far as it was judged, and what calls promise that judge a section of it.
use Rattle.std.specs.Prelude.{◌≡◌, true, List, [], Result}
use Rattle.smith_tree.specs.Facts.{FactScope, Id}
use Rattle.smith_tree.specs.Spaces.{after_part as spaces_after}
use Rattle.smith_tree.specs.Tree.{Part}
use Rattle.smith_tree.specs.Validates.{ValidPart, after_part}
use Rattle.smith_validate.specs.Bodies.{IsBody, IsEmpty, IsFresh}
use Rattle.smith_validate.specs.Exact.{IsBodyExactly}
use Rattle.smith_validate.specs.Instances.{Surface}
use Rattle.smith_validate.specs.Outcome.{asking}
use Rattle.smith_validate.specs.Steps.{At, Later, Steps, StepsExactly}
use Rattle.smith_validate.specs.Usual.{IsUsualPart}
use Rattle.smith_validate.specs.declared.error.Demand.TheVariants.{Named}
use Rattle.smith_validate.specs.declared.error.Stop.{Stop}
use Rattle.smith_validate.specs.declared.known.Known.{Known}
use Rattle.smith_validate.specs.declared.open.Open.{Open}

-- Nothing is in it.
pub record IsNew (o : Open) : Type 0 where
  pub functions_are : o.functions.items ≡ []
  pub empty : IsEmpty o.body
  pub fresh : IsFresh true o.body.role

-- What is kept is of that, and of these index spaces.
pub record IsOpen (k : Known) (o : Open) (at : At) (outer : List FactScope) (names : List (List Id)) (table : List Surface) : Type 0 where
  pub body : IsBody true k o.body at.1 outer names table
  pub functions_are : o.functions.items ≡ at.0.functions

-- What is kept is of that, and exact.
pub record IsOpenBoth (k : Known) (o : Open) (at : At) (outer : List FactScope) (named : List Id) (table : List Surface) : Type 0 where
  pub names : List (List Id)
  pub covered : List Surface
  pub open_is : IsOpen k o at outer names covered
  pub exact : IsBodyExactly true k o.body at.1 outer named table

-- after a section
abbrev pub after_section : Part → At → List FactScope → At
after_section p at outer = (spaces_after at.0 p, after_part p at.0 outer at.1)

-- what it adds, and whether it is valid
module _ {A : Type 0} (result : Result A Stop) (k : Known) (o : Open) (new : Known) (then : Open) (p : Part) where
  abbrev pub StepsPart : Type 0
  StepsPart = Steps result (IsOpen k o) (Later (IsOpen new then)) (after_section p) (λ d at outer. ValidPart d p at.0 outer at.1)

  abbrev pub StepsPartExactly : Type 0
  StepsPartExactly = StepsExactly result (IsOpenBoth k o) (Later (λ at. IsBodyExactly true new then.body at.1)) (after_section p)
      (λ at outer. IsUsualPart p at.0 outer at.1) (λ at outer. ValidPart (asking Named) p at.0 outer at.1)
