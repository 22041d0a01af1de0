-- What is imported or exported, and what is kept of it.
use Rattle.std.specs.Prelude.{◌≡◌, ℕ, Bool, List, [], ◌∷◌, ◌++◌, Option, None, Some, map, slice_get}
use Rattle.std.specs.Option.{option_map, option_to_list}
use Rattle.smith_syntax.specs.declared.deftype.ComponentTypeRef.{ComponentTypeRef}
use Rattle.smith_syntax.specs.declared.deftype.ComponentTypeRef.TheVariants as to
use Rattle.smith_tree.specs.Bodies.{Body}
use Rattle.smith_tree.specs.Demands.{Demands, Keeps, everything}
use Rattle.smith_tree.specs.Facts.{Extern, Id}
use Rattle.smith_tree.specs.Validates.{RefersTo}
use Rattle.smith_validate.specs.Instances.{Surface, IsKnown, Piece, externs_in, reach, uses_in}
use Rattle.smith_validate.specs.Marks.{Covers, named_facts}
use Rattle.smith_validate.specs.declared.body.Extern.{Extern as KeptExtern}
use Rattle.smith_validate.specs.declared.facts.Facts.{Facts as KeptFacts}
use Rattle.smith_validate.specs.declared.instances.Use.TheVariants.{Instance, Equal}

-- of a function, or of a type that is equal to that one
abbrev pub kept_extern : KeptFacts → KeptExtern
kept_extern f = record { refers = f.refers; used = option_map (λ n. Equal n) f.instance }

-- of an instance of that type
abbrev pub kept_instance : KeptFacts → Option KeptExtern
kept_instance f = option_map (λ n. record { refers = f.refers; used = Some (Instance n) }) f.instance

-- what is kept of an instance, among types of which these are kept
abbrev pub instance_of : List KeptFacts → ℕ → Option KeptExtern
instance_of kept i = elim (slice_get kept i) [ None ↦ None | Some k ↦ kept_instance k ]

-- what is kept of what is imported or exported, among types of which these are kept
abbrev pub extern_of : List KeptFacts → ComponentTypeRef → Option KeptExtern
extern_of kept (to.Module i) = None
extern_of kept (to.Func i) = option_map kept_extern (slice_get kept i)
extern_of kept (to.TypeEq i) = option_map kept_extern (slice_get kept i)
extern_of kept (to.Component i) = None
extern_of kept (to.Instance i) = instance_of kept i

-- what is kept of the type that an export adds, in a scope with that many around it
abbrev pub exported_of : List KeptFacts → ℕ → ComponentTypeRef → List KeptFacts
exported_of kept depth (to.TypeEq i) = map (λ k. named_facts k depth) (option_to_list (slice_get kept i))
exported_of kept depth _ = []

-- What is kept is of an export of that sort.
pub record IsPiece (table : List Surface) (names : List (List Id)) (k : KeptExtern) (xs : List Extern) : Type 0 where
  pub piece : Piece
  pub externs_are : xs ≡ externs_in table (piece ∷ [])
  pub used_is : uses_in (piece ∷ []) ≡ option_to_list k.used
  pub known : IsKnown table piece
  pub covered : Covers names k.refers (reach table piece)

-- The same, or nothing is kept and there is nothing.
abbrev pub IsExtern : List Surface → List (List Id) → Option KeptExtern → List Extern → Type 0
IsExtern table names None xs = xs ≡ []
IsExtern table names (Some k) xs = IsPiece table names k xs

-- with more imports or exports

abbrev pub with_imports : Body → List Extern → Body
with_imports b xs = record b { imports = b.imports ++ xs }

abbrev pub with_exports : Body → List Extern → Body
with_exports b xs = record b { exports = b.exports ++ xs }

-- If names are asked and demanded, what is referred to is named.
abbrev pub IsAskedFor : Demands → Bool → List Id → List Extern → Type 0
IsAskedFor d asks named xs = Keeps asks (Keeps d.names (RefersTo named xs))

abbrev pub IsAsked : Bool → List Id → List Extern → Type 0
IsAsked = IsAskedFor everything
