-- A module type so far, and the options of the choices that read it.
use Rattle.std.specs.Prelude.{ℕ, ◌-◌, Bool, true, ◌&&◌, List, [], ◌∷◌, ◌++◌, map, length, nat_lt}
use Rattle.smith_input.specs.Offers.{offers_of}
use Rattle.smith_format.specs.CoreTypes.{Function}
use Rattle.smith_format.specs.declared.config.Config.{Config}
use Rattle.smith_format.specs.declared.types.ExportKind.{ExportKind}
use Rattle.smith_format.specs.declared.types.ExportKind.TheVariants as kind
use Rattle.smith_syntax.specs.Entries.{CoreEntry, ModuleDecl}
use Rattle.smith_syntax.specs.ModuleTypes.{adds, count_of_kind, declared_in, is_tag_type}
use Rattle.smith_syntax.specs.Scope.{Scope}
use Rattle.smith_syntax.specs.Places.{is_core_func, places}
use Rattle.smith_tree.specs.declared.choices.ModuleItem.{ModuleItem}
use Rattle.smith_tree.specs.declared.choices.ModuleItem.TheVariants as item

-- a module type so far: its own types, its declarations, and the fuel
pub record Declared : Type 0 where
  pub own : List Function
  pub decls : List ModuleDecl
  pub fuel : ℕ

-- with one more declaration, for which a turn's fuel is taken
abbrev pub with_decl : List CoreEntry → Declared → ModuleDecl → Declared
with_decl around s d = record { own = s.own ++ adds around s.own d; decls = s.decls ++ d ∷ []; fuel = s.fuel - 1 }

-- nothing so far, with this much fuel
abbrev pub undeclared : ℕ → Declared
undeclared fuel = record { own = []; decls = []; fuel = fuel }

-- declarations for the canonical ABI, which take no fuel
abbrev pub with_front : Declared → List ModuleDecl → Declared
with_front s ds = record { own = s.own ++ declared_in ds; decls = s.decls ++ ds; fuel = s.fuel }

-- Is a function or a type still allowed?
abbrev pub allows_function : Config → Declared → Bool
allows_function config s = nat_lt (count_of_kind kind.Func s.decls) config.max_funcs

abbrev pub allows_type : Config → Declared → Bool
allows_type config s = nat_lt (length s.own) config.max_types

-- the indexes of all items, ascending
abbrev pub indexes : {A : Type 0} → List A → List ℕ
indexes xs = places (λ x. true) 0 xs

-- the kinds in the order of their choice, and whether each is offered
abbrev pub kind_table : Bool → Bool → Bool → Bool → Bool → List (Bool × ExportKind)
kind_table globals tables memories tags funcs =
    (globals, kind.Global) ∷ (tables, kind.Table) ∷ (memories, kind.Memory) ∷ (tags, kind.Tag) ∷ (funcs, kind.Func) ∷ []

-- what an entity is among: each kind below its limit, a tag if there is a type for it, a function if there is a type
abbrev pub kind_offers : Config → Declared → List (Bool × ExportKind)
kind_offers config s =
    kind_table (nat_lt (count_of_kind kind.Global s.decls) config.max_globals) (nat_lt (count_of_kind kind.Table s.decls) config.max_tables)
    (nat_lt (count_of_kind kind.Memory s.decls) config.max_memories)
    (nat_lt (count_of_kind kind.Tag s.decls) config.max_tags && config.exceptions_enabled && nat_lt 0 (length (places is_tag_type 0 s.own)))
    (nat_lt 0 (length s.own) && allows_function config s)

abbrev pub entity_kinds : Config → Declared → List ExportKind
entity_kinds config s = offers_of (kind_offers config s)

-- what an outer alias is among, as the count of scopes and the index: the core function types of the scope around, and then the
-- module type's own types
abbrev pub alias_choices : Scope → Declared → List (ℕ × ℕ)
alias_choices around s = map (λ i. (1, i)) (places is_core_func 0 around.core_types) ++ map (λ i. (0, i)) (indexes s.own)

-- the declarations in the order of their choice, and whether each is offered
abbrev pub item_table : Bool → Bool → List (Bool × ModuleItem)
item_table with_type with_alias = (true, item.Import) ∷ (true, item.Export) ∷ (with_type, item.Type) ∷ (with_alias, item.Alias) ∷ []

-- what a declaration is among
abbrev pub item_offers : Config → Scope → Declared → List (Bool × ModuleItem)
item_offers config around s =
    item_table (allows_type config s) (allows_type config s && nat_lt 0 (length (alias_choices around s)))

abbrev pub module_items : Config → Scope → Declared → List ModuleItem
module_items config around s = offers_of (item_offers config around s)
