-- The options of the choices that read types: of a type, of what an import or an export is of, of a declaration, and of
-- a primitive that flattens to a core value type.
use Rattle.std.specs.Prelude.{◌≡◌, ℕ, ◌+◌, Bool, true, ◌&&◌, ◌||◌, not, List, [], ◌∷◌, ◌++◌, length, nat_le, nat_lt, if◌then◌else◌, false}
use Rattle.smith_input.specs.Offers.{offers_of}
use Rattle.smith_format.specs.declared.config.Config.{Config}
use Rattle.smith_format.specs.declared.types.ValType.{ValType}
use Rattle.smith_format.specs.declared.types.ValType.TheVariants.{I32, I64, F32, F64, V128, Ref}
use Rattle.smith_syntax.specs.Entries.{FullDecl, type_alias, core_type_alias, keeps_type, keeps_core_type}
use Rattle.smith_syntax.specs.Marked.{Marked}
use Rattle.smith_syntax.specs.Marks.{room_size}
use Rattle.smith_syntax.specs.Scope.{is_core_module}
use Rattle.smith_syntax.specs.Usable.{marked_places, is_importable, is_exportable, is_equatable, is_small_component, is_small_instance}
use Rattle.smith_syntax.specs.Places.{places}
use Rattle.smith_syntax.specs.declared.deftype.ComponentTypeRef.{ComponentTypeRef}
use Rattle.smith_syntax.specs.declared.deftype.ComponentTypeRef.TheVariants as to
use Rattle.smith_syntax.specs.declared.types.PrimitiveValType.{PrimitiveValType}
use Rattle.smith_syntax.specs.declared.types.PrimitiveValType.TheVariants as prim
use Rattle.smith_tree.specs.declared.choices.TypeKind.{TypeKind}
use Rattle.smith_tree.specs.declared.choices.TypeKind.TheVariants.{Defined, Function, Component, Instance}
use Rattle.smith_tree.specs.declared.choices.DeclarationItem.{DeclarationItem}
use Rattle.smith_tree.specs.declared.choices.DeclarationItem.TheVariants as item
use Rattle.smith_tree.specs.declared.choices.DefinedKind.{DefinedKind}
use Rattle.smith_tree.specs.declared.choices.DefinedKind.TheVariants as kind
use Rattle.smith_tree.specs.declared.choices.RefKind.{RefKind}
use Rattle.smith_tree.specs.declared.choices.RefKind.TheVariants as ref
use Rattle.smith_tree.specs.declared.totals.RefTotals.{RefTotals}

-- Types.

-- a primitive type
abbrev pub primitives : List PrimitiveValType
primitives =
    prim.Bool ∷ prim.S8 ∷ prim.U8 ∷ prim.S16 ∷ prim.U16 ∷ prim.S32 ∷ prim.U32 ∷ prim.S64 ∷ prim.U64 ∷ prim.F32 ∷ prim.F64 ∷ prim.Char ∷ prim.String ∷ []

-- a defined type
abbrev pub defined_kinds : List DefinedKind
defined_kinds = kind.Primitive ∷ kind.Record ∷ kind.Variant ∷ kind.List ∷ kind.Tuple ∷ kind.Flags ∷ kind.Enum ∷ kind.Option ∷ kind.Result ∷ []

-- a type
abbrev pub type_kinds : List TypeKind
type_kinds = Defined ∷ Function ∷ Component ∷ Instance ∷ []

-- a primitive that flattens to a core value type
abbrev pub lifted : ValType → List PrimitiveValType
lifted I32 = prim.Char ∷ prim.Bool ∷ prim.S8 ∷ prim.U8 ∷ prim.S16 ∷ prim.U16 ∷ prim.S32 ∷ prim.U32 ∷ []
lifted I64 = prim.S64 ∷ prim.U64 ∷ []
lifted F32 = prim.F32 ∷ []
lifted F64 = prim.F64 ∷ []
lifted V128 = []
lifted (Ref r) = []

-- What an import or an export is of.

-- the indexes of the entries of a kind that an import (true) or an export (false) may be of, ascending
abbrev pub ref_places : Marked → Bool → RefKind → List ℕ
ref_places own for_import ref.Module = places is_core_module 0 own.core_types
ref_places own for_import ref.TypeEq = marked_places is_equatable 0 own.types own.marks
ref_places own true ref.Func = marked_places is_importable 0 own.types own.marks
ref_places own false ref.Func = marked_places is_exportable 0 own.types own.marks
ref_places own for_import ref.Component = marked_places is_small_component 0 own.types own.marks
ref_places own for_import ref.Instance = marked_places is_small_instance 0 own.types own.marks

-- Is there an entry of a kind?
abbrev pub has_place : Marked → Bool → RefKind → Bool
has_place own for_import k = nat_lt 0 (length (ref_places own for_import k))

-- May the component with that scope import or export one more by its size? Inside a type it always may.
abbrev pub has_room : Marked → Bool → Bool
has_room own for_type_def = for_type_def || nat_le own.size room_size

-- May one more be imported? Inside a type nothing is counted, nor is an export.
abbrev pub allows_one : Bool → Bool → ℕ → ℕ → Bool
allows_one for_import for_type_def count max = not for_import || for_type_def || nat_lt count max

-- May it be of a type that is equal to one? An import never is, and outside of types it needs room for one more type.
abbrev pub allows_equal : Config → Marked → Bool → Bool → Bool
allows_equal config own for_import for_type_def = not for_import && (for_type_def || nat_lt (length own.types) config.max_types)

-- the kinds in the order of their choice, and whether each is offered
abbrev pub ref_table : Bool → Bool → Bool → Bool → Bool → List (Bool × RefKind)
ref_table modules types funcs components instances =
    (modules, ref.Module) ∷ (types, ref.TypeEq) ∷ (funcs, ref.Func) ∷ (components, ref.Component) ∷ (instances, ref.Instance) ∷ []

-- each kind of which there is an entry
abbrev pub ref_offers : Config → Marked → RefTotals → Bool → Bool → List (Bool × RefKind)
ref_offers config own totals for_import for_type_def =
    ref_table (has_place own for_import ref.Module && allows_one for_import for_type_def totals.modules config.max_modules)
    (has_place own for_import ref.TypeEq && allows_equal config own for_import for_type_def)
    (has_place own for_import ref.Func && allows_one for_import for_type_def totals.funcs config.max_funcs)
    (has_place own for_import ref.Component && allows_one for_import for_type_def totals.components config.max_components)
    (has_place own for_import ref.Instance && allows_one for_import for_type_def totals.instances config.max_instances)

abbrev pub kinds_offered : Config → Marked → RefTotals → Bool → Bool → List RefKind
kinds_offered config own totals for_import for_type_def = offers_of (ref_offers config own totals for_import for_type_def)

-- none if there is no room
abbrev pub ref_kinds : Config → Marked → RefTotals → Bool → Bool → List RefKind
ref_kinds config own totals for_import for_type_def =
    if has_room own for_type_def then kinds_offered config own totals for_import for_type_def else []

-- within types nothing is counted
abbrev pub uncounted : RefTotals
uncounted = record { modules = 0; funcs = 0; components = 0; instances = 0 }

-- One more is allowed of what a reference is of.
abbrev pub IsAllowed : Config → Marked → RefTotals → Bool → Bool → ComponentTypeRef → Type 0
IsAllowed config own totals for_import for_type_def (to.Module i) = allows_one for_import for_type_def totals.modules config.max_modules ≡ true
IsAllowed config own totals for_import for_type_def (to.TypeEq i) = allows_equal config own for_import for_type_def ≡ true
IsAllowed config own totals for_import for_type_def (to.Func i) = allows_one for_import for_type_def totals.funcs config.max_funcs ≡ true
IsAllowed config own totals for_import for_type_def (to.Component i) = allows_one for_import for_type_def totals.components config.max_components ≡ true
IsAllowed config own totals for_import for_type_def (to.Instance i) = allows_one for_import for_type_def totals.instances config.max_instances ≡ true

-- Declarations.

-- Does the scope have something that an import may be of: a type, or the type of a core module? A choice is read then,
-- whatever is offered.
abbrev pub has_reference : Marked → Bool
has_reference own = nat_lt 0 (length own.types) || nat_lt 0 (length (places is_core_module 0 own.core_types))

-- Does it have something that an export may be of?
abbrev pub has_export : Marked → Bool
has_export own = has_place own false ref.Module || has_place own false ref.TypeEq || has_place own false ref.Component || has_place own false ref.Instance

-- Does a scope have an entry?
abbrev pub is_occupied : Marked → Bool
is_occupied s = nat_lt 0 (length s.types + length s.core_types)

-- the counts of the scopes that have an entry, innermost first
abbrev pub occupied : List Marked → List ℕ
occupied scopes = places is_occupied 0 scopes

-- the items with their indexes; the first has the index i
abbrev pub numbered : {A B : Type 0} → (ℕ → A → B) → ℕ → List A → List B
numbered f i [] = []
numbered f i (x ∷ xs) = f i x ∷ numbered f (i + 1) xs

-- the outer aliases of what is in a scope: its types, and then its core types
abbrev pub aliases_of : ℕ → Marked → List FullDecl
aliases_of count s = numbered (λ i e. type_alias count i (keeps_type e)) 0 s.types ++ numbered (λ i e. core_type_alias count i (keeps_core_type e)) 0
    s.core_types

-- the declarations in the order of their choice, and whether each is offered
abbrev pub declaration_table : Bool → Bool → Bool → List (Bool × DeclarationItem)
declaration_table with_export with_alias with_type =
    (with_export, item.Export) ∷ (with_alias, item.Alias) ∷ (true, item.CoreType) ∷ (with_type, item.Type) ∷ []

-- a declaration: an export and an outer alias if there is something to name, and a type if one more scope may nest
abbrev pub declaration_offers : Config → List Marked → Marked → List (Bool × DeclarationItem)
declaration_offers config outer own =
    declaration_table (has_export own) (nat_lt 0 (length (occupied (own ∷ outer)))) (nat_lt (length (own ∷ outer)) config.max_nesting_depth)

abbrev pub declaration_items : Config → List Marked → Marked → List DeclarationItem
declaration_items config outer own = offers_of (declaration_offers config outer own)
