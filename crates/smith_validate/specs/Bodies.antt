-- What the program keeps of a component, a component type or an instance type.
use Rattle.std.specs.Prelude.{◌≡◌, Bool, true, false, List, [], ◌∷◌, ◌++◌, length, map}
use Rattle.smith_tree.specs.Bodies.{Body, IsSmall}
use Rattle.smith_tree.specs.Counts.{no_counts}
use Rattle.smith_tree.specs.Demands.{everything}
use Rattle.smith_tree.specs.Facts.{Extern, FactScope, Id}
use Rattle.smith_tree.specs.Validates.{RefersTo, exported, imported, names_of}
use Rattle.smith_validate.specs.Counted.{counted}
use Rattle.smith_validate.specs.Deferring.{AreSettled, IsExposure}
use Rattle.smith_validate.specs.Instances.{Surface, AreOutward, Follow, IsTable, Piece, Rest, ScopesKept, externs_in, uses_in}
use Rattle.smith_validate.specs.Judges.{IsPassed}
use Rattle.smith_validate.specs.Kept.{kept_of, outer_in, own_in, types_in}
use Rattle.smith_validate.specs.Marks.{Covers, IsAbove, no_needs}
use Rattle.smith_validate.specs.declared.body.Body.{Body as Kept}
use Rattle.smith_validate.specs.declared.body.Exported.{Exported}
use Rattle.smith_validate.specs.declared.body.Role.{Role}
use Rattle.smith_validate.specs.declared.body.Role.TheVariants.{Names, Exporting}
use Rattle.smith_validate.specs.declared.body.Sets.{Sets}
use Rattle.smith_validate.specs.declared.error.Stop.{Stop}
use Rattle.smith_validate.specs.declared.known.Known.{Known}

-- It is another reason to stop than a bound.
abbrev pub IsOther : Stop → Type 0
IsOther e = ¬ (IsPassed e)

-- The scopes are these. The innermost and the ones around it name these, and types of instances export that.
pub record IsIn (k : Known) (own : FactScope) (outer : List FactScope) (here : List Id) (names : List (List Id)) (table : List Surface) : Type 0 where
  pub own_is : own_in k ≡ kept_of own
  pub outer_is : outer_in k ≡ map kept_of outer
  pub types_are : ScopesKept table (here ∷ names) (types_in k) (own ∷ outer)
  pub instances_are : IsTable k.instances.items table
  pub depth_is : length names ≡ length k.scopes.outer.items

-- What is named for imports and for exports is that.
pub record AreSets (table : List Surface) (s : Sets) (b : Body) : Type 0 where
  pub imported_are : AreSettled table s.imported (imported b)
  pub exported_are : AreSettled table s.exported (exported b)

-- What an instance type exports in these scopes is that.
pub record AreExports (table : List Surface) (names : List (List Id)) (e : Exported) (xs : List Extern) : Type 0 where
  pub outside : List Id
  pub pieces : List Piece
  pub externs_are : xs ≡ externs_in table pieces
  pub uses_are : e.uses.items ≡ uses_in pieces
  pub follow : Follow table outside pieces
  pub covered : Covers names e.refers outside
  pub rest : IsAbove e.refers.innermost (length names) → Rest table outside pieces
  pub outward : e.refers_outside ≡ true → AreOutward table pieces
  pub first : e.names_first ≡ true → RefersTo outside xs × AreSettled table e.named (outside ++ names_of xs)
  pub none : e.any ≡ false → xs ≡ []

-- What is kept of imports and exports is of that. Names are asked but in an instance type.
abbrev pub IsRole : List Surface → List (List Id) → Bool → Role → Body → Type 0
IsRole table names asks (Names s) b = (asks ≡ true) × AreSets table s b
IsRole table names asks (Exporting e) b = (asks ≡ false) × AreExports table names e b.exports

-- Nothing is imported or exported.
abbrev pub IsFresh : Bool → Role → Type 0
IsFresh asks (Names s) = (asks ≡ true) × ((table : List Surface) (named : List Id) → AreSettled table s.imported named × AreSettled table s.exported named)
    × ((table : List Surface) → IsExposure table s.imported [] × IsExposure table s.exported [])
IsFresh asks (Exporting e) = (asks ≡ false) × (e.refers ≡ no_needs) × (e.uses.items ≡ []) × (e.any ≡ false)
    × ((table : List Surface) (named : List Id) → AreSettled table e.named named)

-- What is kept is of that, which is below the bounds.
pub record IsBody (asks : Bool) (k : Known) (o : Kept) (b : Body) (outer : List FactScope) (names : List (List Id)) (table : List Surface) : Type 0 where
  pub scopes : IsIn k b.own outer (names_of b.exports) names table
  pub size_is : o.size ≡ b.size
  pub counts_are : counted o.counts ≡ b.counts
  pub small : IsSmall everything b
  pub role_is : IsRole table names asks o.role b

-- Nothing is in it.
pub record IsEmpty (o : Kept) : Type 0 where
  pub size_is : o.size ≡ 1
  pub counts_are : counted o.counts ≡ no_counts
