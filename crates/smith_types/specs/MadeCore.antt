-- How core types are read: the bytes and the fuel determine the core type, and leave the rest of both.
use Rattle.std.specs.Prelude.{◌≡◌, ℕ, ◌-◌, ◌<◌, ◌≤◌, Bool, true, false, ◌&&◌, List, [], ◌∷◌, ◌++◌, length, codes, nat_lt}
use Rattle.std.specs.List.{flat_map}
use Rattle.std.specs.Option.{option_to_list}
use Rattle.smith_input.specs.Choices.{ReadsAmong}
use Rattle.smith_input.specs.Loops.{Loop}
use Rattle.smith_input.specs.Reading.{Reads, Flips}
use Rattle.smith_input.specs.Texts.{ReadsNewText, ReadsText}
use Rattle.smith_format.specs.CoreReading.{ReadsFunction, ReadsMemory, ReadsTable, ReadsTag}
use Rattle.smith_format.specs.CoreTypes.{Function}
use Rattle.smith_format.specs.Limits.{configured, max_results}
use Rattle.smith_format.specs.declared.config.Config.{Config}
use Rattle.smith_format.specs.declared.types.EntityType.{EntityType}
use Rattle.smith_format.specs.declared.types.EntityType.TheVariants.{Func, Table, Memory, Global, Tag}
use Rattle.smith_format.specs.declared.types.ExportKind.{ExportKind}
use Rattle.smith_format.specs.declared.types.ExportKind.TheVariants as kind
use Rattle.smith_format.specs.declared.types.GlobalType.{GlobalType}
use Rattle.smith_format.specs.declared.types.MemoryType.{MemoryType}
use Rattle.smith_syntax.specs.Entries.{CoreEntry, ModuleDecl, core_func, core_module, imports, declares, aliases, exports}
use Rattle.smith_syntax.specs.ModuleTypes.{adds, aliased, alias_of, module_export_names, free, is_tag_type, names_from, realloc}
use Rattle.smith_syntax.specs.Scope.{Scope}
use Rattle.smith_syntax.specs.Places.{places}
use Rattle.smith_tree.specs.CoreTypeOffers.{Declared, alias_choices, allows_function, allows_type, entity_kinds, indexes, module_items, undeclared, with_decl}
use Rattle.smith_tree.specs.CoreTypeOffers.{with_front}
use Rattle.smith_tree.specs.declared.choices.ModuleItem.{ModuleItem}
use Rattle.smith_tree.specs.declared.choices.ModuleItem.TheVariants as item

-- an entity of a kind
abbrev pub ReadsEntityOf : Config → Declared → ExportKind → List ℕ → EntityType → List ℕ → Type 0
ReadsEntityOf config s kind.Global b e rest = (g : GlobalType) × (mid : List ℕ) × ReadsAmong (configured config) b g.val_type mid × Flips mid g.mutable rest
    × (e ≡ Global g)
ReadsEntityOf config s kind.Table b e rest = (t : _) × ReadsTable config.reference_types_enabled b t rest × (e ≡ Table t)
ReadsEntityOf config s kind.Memory b e rest = (m : MemoryType) × ReadsMemory b m rest × (e ≡ Memory m)
ReadsEntityOf config s kind.Tag b e rest = (t : _) × ReadsTag (places is_tag_type 0 s.own) b t rest × (e ≡ Tag t)
ReadsEntityOf config s kind.Func b e rest = (i : ℕ) × ReadsAmong (indexes s.own) b i rest × (e ≡ Func i)

pub record ReadsEntity (config : Config) (s : Declared) (bytes : List ℕ) (e : EntityType) (rest : List ℕ) : Type 0 where
  pub kind : ExportKind
  pub mid : List ℕ
  pub choice : ReadsAmong (entity_kinds config s) bytes kind mid
  pub is : ReadsEntityOf config s kind mid e rest

-- the names of an import, and the name of an export, not longer than a name before they are made new
abbrev pub ReadsImportNames : Config → Declared → List ℕ → List ℕ → List ℕ → List ℕ → Type 0
ReadsImportNames config s bytes from name rest =
    (mid : List ℕ) × ReadsText config.max_name_length bytes from mid × ReadsNewText config.max_name_length (names_from from s.decls) mid name rest

abbrev pub ReadsExportName : Config → Declared → List ℕ → List ℕ → List ℕ → Type 0
ReadsExportName config s bytes name rest = ReadsNewText config.max_name_length (module_export_names s.decls) bytes name rest

-- a declaration of a sort
abbrev pub ReadsDeclOf : Config → Scope → Declared → ModuleItem → List ℕ → ModuleDecl → List ℕ → Type 0
ReadsDeclOf config around s item.Import b d rest =
    (from name mid : List ℕ) × ReadsImportNames config s b from name mid × (e : EntityType) × ReadsEntity config s mid e rest × (d ≡ imports from name e)
ReadsDeclOf config around s item.Export b d rest =
    (name mid : List ℕ) × ReadsExportName config s b name mid × (e : EntityType) × ReadsEntity config s mid e rest × (d ≡ exports name e)
ReadsDeclOf config around s item.Type b d rest = (f : Function) × ReadsFunction config.loop_bits (configured config) (max_results config) b f rest
    × (d ≡ declares f)
ReadsDeclOf config around s item.Alias b d rest = (a : ℕ × ℕ) × ReadsAmong (alias_choices around s) b a rest × (d ≡ aliases a.0 a.1)

-- A turn of the loop takes one from the fuel, and then reads a declaration.
pub record ReadsDecl (config : Config) (around : Scope) (s : Declared) (bytes : List ℕ) (d : ModuleDecl) (rest : List ℕ) (t : Declared) : Type 0 where
  pub lasts : 0 < s.fuel - 1
  pub item : ModuleItem
  pub mid : List ℕ
  pub choice : ReadsAmong (module_items config around s) bytes item mid
  pub reads : ReadsDeclOf config around s item mid d rest
  pub state : t ≡ with_decl around.core_types s d

-- the same with this much fuel
abbrev pub with_fuel : Declared → ℕ → Declared
with_fuel s fuel = record { own = s.own; decls = s.decls; fuel = fuel }

-- The loop ends by itself if no fuel is left, or if nothing can be imported or exported; the names are read then.
pub data EndsModuleType (config : Config) (around : Scope) (s : Declared) : List ℕ → List ℕ → Declared → Type 0 where
  no_fuel : {bytes : List ℕ} {t : Declared} → s.fuel - 1 ≡ 0 → t ≡ with_fuel s 0 → EndsModuleType config around s bytes bytes t
  no_import : {bytes mid from name rest : List ℕ} {t : Declared} → 0 < s.fuel - 1 → ReadsAmong (module_items config around s) bytes item.Import mid
      → ReadsImportNames config s mid from name rest → entity_kinds config s ≡ [] → t ≡ with_fuel s (s.fuel - 1)
      → EndsModuleType config around s bytes rest t
  no_export : {bytes mid name rest : List ℕ} {t : Declared} → 0 < s.fuel - 1 → ReadsAmong (module_items config around s) bytes item.Export mid
      → ReadsExportName config s mid name rest → entity_kinds config s ≡ [] → t ≡ with_fuel s (s.fuel - 1)
      → EndsModuleType config around s bytes rest t

-- A line of what the canonical ABI asks: if it is allowed, it is there in 99 of 100 choices.
pub data ReadsLine (may : Bool) (Line : List ℕ → List ModuleDecl → List ℕ → Type 0) (s : Declared) : List ℕ → Declared → List ℕ → Type 0 where
  not_allowed : {bytes : List ℕ} {t : Declared} → may ≡ false → t ≡ s → ReadsLine may Line s bytes t bytes
  declined : {bytes rest : List ℕ} {t : Declared} {k : ℕ} → may ≡ true → Reads 100 bytes k rest → 99 ≤ k → t ≡ s → ReadsLine may Line s bytes t rest
  taken : {bytes mid rest : List ℕ} {t : Declared} {k : ℕ} {ds : List ModuleDecl} → may ≡ true → Reads 100 bytes k mid → k < 99 → Line mid ds rest
      → t ≡ with_front s ds → ReadsLine may Line s bytes t rest

abbrev pub MemoryLine : List ℕ → List ModuleDecl → List ℕ → Type 0
MemoryLine bytes ds rest = (m : MemoryType) × ReadsMemory bytes m rest × (ds ≡ exports (codes "memory") (Memory m) ∷ [])

-- a function type, and the export of a function of it
abbrev pub FunctionLine : List ℕ → Function → Declared → List ℕ → List ModuleDecl → List ℕ → Type 0
FunctionLine name f s bytes ds rest = (rest ≡ bytes) × (ds ≡ declares f ∷ exports name (Func (length s.own)) ∷ [])

abbrev pub ReadsFunctionLine : Config → List ℕ → Function → Declared → List ℕ → Declared → List ℕ → Type 0
ReadsFunctionLine config name f s bytes t rest = ReadsLine (allows_function config s && allows_type config s) (FunctionLine name f s) s bytes t rest

-- what the canonical ABI asks, in its three lines
pub record ReadsFront (config : Config) (bytes : List ℕ) (fuel : ℕ) (s : Declared) (rest : List ℕ) : Type 0 where
  pub with_memory : Declared
  pub after_memory : List ℕ
  pub memory : ReadsLine (nat_lt 0 config.max_memories) MemoryLine (undeclared fuel) bytes with_memory after_memory
  pub with_realloc : Declared
  pub after_realloc : List ℕ
  pub reallocs : ReadsFunctionLine config (codes "canonical_abi_realloc") realloc with_memory after_memory with_realloc after_realloc
  pub frees : ReadsFunctionLine config (codes "canonical_abi_free") free with_realloc after_realloc s rest

-- a module type: what the canonical ABI asks, and then at most 100 declarations
pub record MadeModule (config : Config) (around : Scope) (bytes : List ℕ) (fuel : ℕ) (ds : List ModuleDecl) (rest : List ℕ) (left : ℕ) : Type 0 where
  pub front : Declared
  pub mid : List ℕ
  pub begins : ReadsFront config bytes fuel front mid
  pub more : List ModuleDecl
  pub whole : Declared
  pub goes_on : Loop (EndsModuleType config around) (ReadsDecl config around) config.loop_bits 0 100 0 front mid more rest whole
  pub decls : ds ≡ whole.decls
  pub fuel_left : left ≡ whole.fuel

-- A core type takes one from the fuel. If none is left then, it is the empty module type; otherwise a choice of two.
pub data MadeCore (config : Config) (around : Scope) : List ℕ → ℕ → CoreEntry → List ℕ → ℕ → Type 0 where
  spent_core : {bytes : List ℕ} {fuel : ℕ} {e : CoreEntry} {left : ℕ} → fuel - 1 ≡ 0 → e ≡ core_module [] → left ≡ 0
      → MadeCore config around bytes fuel e bytes left
  of_function : {bytes mid : List ℕ} {fuel : ℕ} {f : Function} {e : CoreEntry} {rest : List ℕ} {left : ℕ} → 0 < fuel - 1 → Reads 2 bytes 0 mid
      → ReadsFunction config.loop_bits (configured config) (max_results config) mid f rest → e ≡ core_func f → left ≡ fuel - 1
      → MadeCore config around bytes fuel e rest left
  of_module : {bytes mid : List ℕ} {fuel : ℕ} {ds : List ModuleDecl} {e : CoreEntry} {rest : List ℕ} {left : ℕ} → 0 < fuel - 1 → Reads 2 bytes 1 mid
      → MadeModule config around mid (fuel - 1) ds rest left → e ≡ core_module ds
      → MadeCore config around bytes fuel e rest left

-- the function types that the outer aliases of a module type name, in order
abbrev pub functions_named : List CoreEntry → List Function → List ModuleDecl → List Function
functions_named around own [] = []
functions_named around own (d ∷ ds) = flat_map (λ a. option_to_list (aliased around own a.0 a.1)) (alias_of d) ++ functions_named around
    (own ++ adds around own d) ds

-- the same for a core type
abbrev pub named_by_core : List CoreEntry → CoreEntry → List Function
named_by_core around (core_func f) = []
named_by_core around (core_module ds) = functions_named around [] ds
