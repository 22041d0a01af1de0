-- The input that a module type is read from: what a script says of it. What the canonical ABI asks in front is taken if
-- the declarations begin with it, since that takes no fuel.
use Rattle.std.specs.Prelude.{ℕ, zero, suc, ◌+◌, ◌-◌, Bool, ◌&&◌, List, [], ◌∷◌, ◌++◌, length, take, nat_eq, nat_lt, if◌then◌else◌}
use Rattle.std.specs.List.{flat_map}
use Rattle.smith_input.specs.NameScript.{script_new_text}
use Rattle.smith_input.specs.Script.{pick, rank_of, script_among, script_loop, script_text}
use Rattle.smith_format.specs.CoreScript as core
use Rattle.smith_format.specs.CoreScript.{script_limits}
use Rattle.smith_format.specs.Entities.{kind_of}
use Rattle.smith_format.specs.Equality.{same_val}
use Rattle.smith_format.specs.Limits.{configured, max_results}
use Rattle.smith_format.specs.contracts.types.ExportKindPartialEq.TheImpl.{ghosts as kinds}
use Rattle.smith_format.specs.contracts.types.RefTypePartialEq.TheImpl.{ghosts as references}
use Rattle.smith_format.specs.declared.config.Config.{Config}
use Rattle.smith_format.specs.declared.types.EntityType.{EntityType}
use Rattle.smith_format.specs.declared.types.EntityType.TheVariants.{Func, Table, Memory, Global, Tag}
use Rattle.smith_format.specs.declared.types.RefType.{RefType}
use Rattle.smith_format.specs.declared.types.RefType.TheVariants.{FuncRef, ExternRef}
use Rattle.smith_syntax.specs.Entries.{ModuleDecl, imports, declares, aliases, exports}
use Rattle.smith_syntax.specs.ModuleTypes.{module_export_names, names_from}
use Rattle.smith_syntax.specs.ModuleTypes.{after_memory, after_realloc, after_front, entities_of, is_tag_type}
use Rattle.smith_syntax.specs.Scope.{Scope}
use Rattle.smith_syntax.specs.Places.{is_core_func, places}
use Rattle.smith_tree.specs.CoreTypeOffers.{Declared, alias_choices, allows_function, allows_type, entity_kinds, indexes, module_items, undeclared, with_decl}
use Rattle.smith_tree.specs.CoreTypeOffers.{with_front}
use Rattle.smith_tree.specs.contracts.choices.ModuleItemPartialEq.TheImpl.{ghosts as items}
use Rattle.smith_tree.specs.declared.choices.ModuleItem.{ModuleItem}
use Rattle.smith_tree.specs.declared.choices.ModuleItem.TheVariants as item

-- what a table holds, if there is a choice
abbrev pub script_element : Config → RefType → List ℕ
script_element config t = if config.reference_types_enabled then script_among references.eq (FuncRef ∷ ExternRef ∷ []) t else []

-- a boolean
abbrev pub script_bit : Bool → List ℕ
script_bit b = if b then 1 ∷ [] else 0 ∷ []

-- an entity after the choice of its kind
abbrev pub script_entity_of : Config → Declared → EntityType → List ℕ
script_entity_of config s (Func i) = script_among nat_eq (indexes s.own) i
script_entity_of config s (Table t) = script_element config t.element_type ++ script_limits t.minimum t.maximum
script_entity_of config s (Memory m) = script_limits m.minimum m.maximum
script_entity_of config s (Global g) = script_among same_val (configured config) g.val_type ++ script_bit g.mutable
script_entity_of config s (Tag t) = script_among nat_eq (places is_tag_type 0 s.own) t.func_type_idx

-- what is imported or exported: a choice of its kind, and then it
abbrev pub script_entity : Config → Declared → EntityType → List ℕ
script_entity config s e = script_among kinds.eq (entity_kinds config s) (kind_of e) ++ script_entity_of config s e

-- an outer alias: the function types of the scope around precede the module type's own
abbrev pub alias_place : Scope → ℕ → ℕ → ℕ
alias_place around zero i = length (places is_core_func 0 around.core_types) + i
alias_place around (suc n) i = rank_of nat_eq (places is_core_func 0 around.core_types) i

-- which of four sorts a declaration is of
abbrev pub script_item : Config → Scope → Declared → ModuleItem → List ℕ
script_item config around s i = script_among items.eq (module_items config around s) i

-- a declaration after those so far: its sort, and then its names and what it is of
abbrev pub script_decl : Config → Scope → Declared → ModuleDecl → List ℕ
script_decl config around s (imports from name e) =
    script_item config around s item.Import
    ++ (script_text config.max_name_length from ++ (script_new_text config.max_name_length (length (names_from from s.decls)) name ++ script_entity config s e))
script_decl config around s (exports name e) =
    script_item config around s item.Export ++ (script_new_text config.max_name_length (length (module_export_names s.decls)) name ++ script_entity config s e)
script_decl config around s (declares f) = script_item config around s item.Type ++ core.script_function (configured config) (max_results config) f
script_decl config around s (aliases count i) =
    script_item config around s item.Alias ++ pick (length (alias_choices around s)) (alias_place around count i)

-- the declarations in front of these
abbrev pub in_front : List ModuleDecl → List ModuleDecl → List ModuleDecl
in_front ds behind = take (length ds - length behind) ds

-- what the canonical ABI asks leaves open: the limits of a memory
abbrev pub script_asked : EntityType → List ℕ
script_asked (Func i) = []
script_asked (Table t) = []
script_asked (Memory m) = script_limits m.minimum m.maximum
script_asked (Global g) = []
script_asked (Tag t) = []

-- A line of what the canonical ABI asks, after which these declarations follow: if it is in front of them it is taken,
-- and otherwise it is declined if it is allowed.
abbrev pub script_line : Bool → List ModuleDecl → List ModuleDecl → List ℕ
script_line may ds behind =
    if nat_lt (length behind) (length ds) then pick 100 0 ++ flat_map script_asked (entities_of (in_front ds behind)) else (if may then pick 100 99 else [])

-- a module type with the declarations in front of these, which take no fuel
abbrev pub front_before : ℕ → List ModuleDecl → List ModuleDecl → Declared
front_before fuel ds behind = with_front (undeclared fuel) (in_front ds behind)

-- Is a function of a type of its own still allowed?
abbrev pub may_declare : Config → Declared → Bool
may_declare config s = allows_function config s && allows_type config s

-- what the canonical ABI asks, in its three lines, and these declarations after each
abbrev pub script_front : Config → ℕ → List ModuleDecl → List ModuleDecl → List ModuleDecl → List ModuleDecl → List ℕ
script_front config fuel ds behind_memory behind_realloc behind_free =
    script_line (nat_lt 0 config.max_memories) ds behind_memory
    ++ (script_line (may_declare config (front_before fuel ds behind_memory)) behind_memory behind_realloc
    ++ script_line (may_declare config (front_before fuel ds behind_realloc)) behind_realloc behind_free)

-- a module type: what the canonical ABI asks, and then the declarations after it
abbrev pub script_module : Config → Scope → ℕ → List ModuleDecl → List ℕ
script_module config around fuel ds =
    script_front config fuel ds (after_memory ds) (after_realloc (after_memory ds)) (after_front ds)
    ++ script_loop (script_decl config around) (with_decl around.core_types) 0 100 0 (front_before fuel ds (after_front ds)) (after_front ds)
