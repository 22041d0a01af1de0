-- Types that were declared, and what was declared in them.
use Rattle.std.specs.Prelude.{◌≡◌, Bool, false, List, ◌++◌}
use Rattle.std.specs.List.{flat_map}
use Rattle.smith_tree.specs.Bodies.{Body}
use Rattle.smith_tree.specs.Facts.{Facts, Id}
use Rattle.smith_validate.specs.Bodies.{IsRole}
use Rattle.smith_validate.specs.Instances.{Surface, IsKept, IsTable}
use Rattle.smith_syntax.specs.Sizes.{capped}
use Rattle.smith_validate.specs.declared.body.Body.{Body as KeptBody}
use Rattle.smith_validate.specs.declared.facts.Facts.{Facts as KeptFacts}
use Rattle.smith_validate.specs.declared.known.Known.{Known}

-- What is kept of a type is of that, with more types of instances.
pub record IsDeclared (table : List Surface) (names : List (List Id)) (k : Known) (kept : KeptFacts) (f : Facts) : Type 0 where
  pub more : List Surface
  pub instances_are : IsTable k.instances.items (table ++ more)
  pub is : IsKept (table ++ more) names kept f

-- the type of instances that was added there, of what was declared in it
abbrev pub instance_plain : Id → Body → Facts
instance_plain id b = record { id = id; nominal = false; refers = flat_map (λ x. x.refers) b.exports; size = b.size; exports = b.exports }

-- What is kept of what was declared in a type is of that, with more types of instances.
pub record IsJudged (asks : Bool) (k : Known) (o : KeptBody) (b : Body) (names : List (List Id)) (table : List Surface) : Type 0 where
  pub more : List Surface
  pub instances_are : IsTable k.instances.items (table ++ more)
  pub size_is : o.size ≡ capped b.size
  pub role_is : IsRole (table ++ more) names asks o.role b
