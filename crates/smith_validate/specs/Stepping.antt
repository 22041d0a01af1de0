-- The judgement of a component step by step.
use Rattle.std.specs.Prelude.{◌≡◌, List, [], ◌∷◌, ◌++◌, length, map, reverse, true, IfErr, OnOk, Result}
use Rattle.std.specs.List.{flat_map}
use Rattle.smith_tree.specs.Bodies.{IsSmall, empty_body}
use Rattle.smith_tree.specs.Counts.{ValidCounts, with_component}
use Rattle.smith_tree.specs.Demands.{Demands, Keeps, everything}
use Rattle.smith_tree.specs.Facts.{FactScope, Id}
use Rattle.smith_tree.specs.Spaces.{no_spaces}
use Rattle.smith_tree.specs.Tree.{Part, Tree}
use Rattle.smith_tree.specs.Validates.{ValidPart, ValidParts, names_of}
use Rattle.smith_read.specs.Walk.{Step, closes, items_at, marks, one, opens}
use Rattle.smith_validate.specs.Bodies.{IsRole}
use Rattle.smith_validate.specs.Counted.{counted}
use Rattle.smith_validate.specs.Exact.{IsBodyExactly}
use Rattle.smith_validate.specs.Instances.{Surface}
use Rattle.smith_validate.specs.Judges.{IsNamed, Judges}
use Rattle.smith_validate.specs.Outcome.{asking}
use Rattle.smith_validate.specs.Parts.{IsOpen, after_section}
use Rattle.smith_validate.specs.Steps.{At}
use Rattle.smith_validate.specs.Usual.{AreUsualParts, IsUsualPart}
use Rattle.smith_validate.specs.declared.check.Check.{Check}
use Rattle.smith_validate.specs.declared.error.Demand.TheVariants.{Named}
use Rattle.smith_validate.specs.declared.error.Stop.{Stop}
use Rattle.smith_validate.specs.declared.error.Stop.TheVariants.{OutOfMemory}
use Rattle.smith_validate.specs.declared.known.Known.{Known}
use Rattle.smith_validate.specs.declared.known.Scope.{Scope}
use Rattle.smith_validate.specs.declared.open.Open.{Open}

-- what is asked of a part, of a whole component, and where a component begins in another
pub record Judgement : Type 1 where
  pub part : Part → At → List FactScope → Type 0
  pub tree : Tree → At → List FactScope → Type 0
  pub begins : At → Type 0

abbrev pub valid : Demands → Judgement
valid d = record {
  part = λ p at outer. ValidPart d p at.0 outer at.1;
  tree = λ t at outer. ValidParts d t at.0 outer at.1;
  begins = λ at. Keeps d.counts (ValidCounts (with_component at.1.counts));
}

abbrev pub usual : Judgement
usual = record {
  part = λ p at outer. IsUsualPart p at.0 outer at.1;
  tree = λ t at outer. AreUsualParts t at.0 outer at.1;
  begins = λ at. Unit {0};
}

-- what there is in the innermost open component, and in those around it, innermost first
pub record State : Type 0 where
  pub here : At
  pub around : List At

abbrev pub start : At
start = (no_spaces, empty_body)

abbrev pub root : State
root = record { here = start; around = [] }

abbrev pub scopes_of : List At → List FactScope
scopes_of around = map (λ a. a.1.own) around

-- with a component in it
abbrev pub with_nested : At → At
with_nested at = (at.0, record at.1 { counts = with_component at.1.counts })

-- The innermost one ends. The root ends last.
abbrev pub closed : At → List At → State
closed at [] = record { here = at; around = [] }
closed at (a ∷ far) = record { here = a; around = far }

abbrev pub next : Step → State → State
next (one p) at = record { here = after_section p at.here (scopes_of at.around); around = at.around }
next opens at = record { here = start; around = with_nested at.here ∷ at.around }
next closes at = closed at.here at.around
next marks at = at

abbrev pub Fits : Judgement → Step → State → Type 0
Fits j (one p) at = j.part p at.here (scopes_of at.around)
Fits j opens at = j.begins at.here
Fits j closes at = Unit {0}
Fits j marks at = Unit {0}

-- ---- what is kept of open components

abbrev pub names_around : List At → List (List Id)
names_around around = map (λ a. names_of a.1.exports) around

abbrev pub named_around : List At → List Id
named_around around = flat_map (λ a. names_of a.1.exports) around

-- The first of these is of that component, in those around it.
pub record IsHeld (os : List Open) (at : At) (around : List At) (table : List Surface) : Type 0 where
  pub own : Open
  pub outer : List Open
  pub are : os ≡ own ∷ outer
  pub size_is : own.body.size ≡ at.1.size
  pub counts_are : counted own.body.counts ≡ at.1.counts
  pub small : IsSmall everything at.1
  pub role_is : IsRole table (names_around around) true own.body.role at.1
  pub functions_are : own.functions.items ≡ at.0.functions

abbrev pub AreHeld : List Open → List At → List Surface → Type 0
AreHeld os [] table = os ≡ []
AreHeld os (a ∷ far) table = (h : IsHeld os a far table) × AreHeld h.outer far table

-- The check knows that state.
pub record Stands (c : Check) (at : State) : Type 0 where
  pub table : List Surface
  pub here : IsOpen c.known c.opens.own at.here (scopes_of at.around) (names_around at.around) table
  pub around : AreHeld (reverse c.opens.outer.items) at.around table

-- The first of these was exact when the component in it began, with fewer types of instances.
pub record IsHeldExactly (scopes : List Scope) (os : List Open) (at : At) (around : List At) (table : List Surface) : Type 0 where
  pub known : Known
  pub own : Open
  pub outer : List Open
  pub old : List Surface
  pub more : List Surface
  pub scopes_are : scopes ≡ known.scopes.own ∷ reverse known.scopes.outer.items
  pub are : os ≡ own ∷ outer
  pub table_is : table ≡ old ++ more
  pub exact : IsBodyExactly true known own.body at.1 (scopes_of around) (named_around around) old

abbrev pub AreHeldExactly : List Scope → List Open → List At → List Surface → Type 0
AreHeldExactly scopes os [] table = Unit {0}
AreHeldExactly scopes os (a ∷ far) table =
    (h : IsHeldExactly scopes os a far table) × AreHeldExactly (reverse h.known.scopes.outer.items) h.outer far h.old

-- It knows it exactly.
pub record StandsExactly (c : Check) (at : State) : Type 0 where
  pub stands : Stands c at
  pub table : List Surface
  pub here : IsBodyExactly true c.known c.opens.own.body at.here.1 (scopes_of at.around) (named_around at.around) table
  pub around : AreHeldExactly (reverse c.known.scopes.outer.items) (reverse c.opens.outer.items) at.around table

-- It has as many open components as scopes.
abbrev pub IsEven : Check → Type 0
IsEven c = length c.known.scopes.outer.items ≡ length c.opens.outer.items

-- ---- a step

-- It succeeds only if the step is valid, and stops at a bound only if it is not. What is known then is of what there is after it: exactly, if
-- all is usual, and then something is found unnamed only if it is. Where no item begins only memory can run out.
pub record Goes {A : Type 0} (result : Result A Stop) (old new : Check) (x : Step) : Type 0 where
  pub judged : (at : State) → Stands old at → Judges result (λ d. Fits (valid d) x at)
  pub stands : (at : State) → Stands old at → OnOk result (Stands new (next x at))
  pub exact : (at : State) → StandsExactly old at → Fits usual x at → OnOk result (StandsExactly new (next x at))
  pub refused : (at : State) → StandsExactly old at → Fits usual x at → IfErr result (λ e. IsNamed e → ¬ (Fits (valid (asking Named)) x at))
  pub none : items_at x ≡ 0 → IfErr result (λ e. e ≡ OutOfMemory)
