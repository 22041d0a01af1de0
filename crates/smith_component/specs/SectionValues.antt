-- Sections as values that a turn adds, with what a plain tree leaves out: URLs, what outer aliases keep, and the parts of a core
-- module that leave no byte.
use Rattle.std.specs.Prelude.{◌≡◌, ℕ, ◌-◌, true, false, List, [], ◌∷◌, ◌++◌, map, length, string_bytes, Box}
use Rattle.std.specs.List.{flat_map}
use Rattle.std.specs.declared.alloc.Global.{Global}
use Rattle.std.specs.declared.rc.Rc.{Rc}
use Rattle.smith_input.specs.Loops.{Loop, Never}
use Rattle.smith_format.specs.declared.config.Config.{Config}
use Rattle.smith_core.specs.StandIn.{ReadsStandIn}
use Rattle.smith_core.specs.declared.module.parts.ModuleParts.{ModuleParts}
use Rattle.smith_syntax.specs.Marked.{Marked}
use Rattle.smith_syntax.specs.Shown.{full_type, import_shown, shown_shared, shown_shared_core, shown_url}
use Rattle.smith_syntax.specs.declared.core_types.CoreType.{CoreType}
use Rattle.smith_syntax.specs.declared.deftype.DefType.{DefType}
use Rattle.smith_syntax.specs.declared.deftype.Import.{Import}
use Rattle.smith_types.specs.MakingCore.{KeepsAliased}
use Rattle.smith_types.specs.Declarations.{NamedExtern, ReadsNamedExtern}
use Rattle.smith_types.specs.Made.{Made}
use Rattle.smith_types.specs.References.{ReadsRef}
use Rattle.smith_component.specs.Building.{Building, open_of}
use Rattle.smith_tree.specs.Offers.{import_kinds, marked_with_imports, totals_of, with_imports}
use Rattle.smith_tree.specs.Marking.{marked_in, marked_inner, with_type_entry}
use Rattle.smith_tree.specs.Open.{Open}
use Rattle.smith_tree.specs.Spaces.{core_types_of, types_of}
use Rattle.smith_tree.specs.Tree.{imports_of}
use Rattle.smith_component.specs.AddedSections.{ReadsCoreType}
use Rattle.smith_component.specs.declared.component.CoreTypeSection.{CoreTypeSection}
use Rattle.smith_component.specs.declared.component.ImportSection.{ImportSection}
use Rattle.smith_component.specs.declared.component.Section.{Section}
use Rattle.smith_component.specs.declared.component.Section.TheVariants.{Custom, CoreModule, CoreTypes, Types, Canonical, Imports, Exports, Component}
use Rattle.smith_component.specs.declared.component.TypeSection.{TypeSection}

-- A type of a type section as `ReadsType` says, URLs and what outer aliases keep included.
abbrev pub ReadsTypeValue : Config → List Marked → Marked → List ℕ → Rc DefType Global → List ℕ → Marked → Type 0
ReadsTypeValue config outer own b t rest next =
    (left : ℕ) × Made config own outer b config.max_type_size (full_type t.value) rest left × (next ≡ with_type_entry outer own (shown_shared t))

-- A core type of a core type section. Each of its outer aliases keeps the function type that it names.
abbrev pub ReadsCoreTypeValue : Config → Marked → List ℕ → Rc CoreType Global → List ℕ → Marked → Type 0
ReadsCoreTypeValue config own b t rest next = ReadsCoreType config own b (shown_shared_core t) rest next × KeepsAliased own.core_types t.value

-- the name of an import, and its URL or none
abbrev pub extern_of : Import → NamedExtern
extern_of i = (string_bytes i.name, shown_url i.url)

-- those of the imports in a section
abbrev pub externs_in : Section → List NamedExtern
externs_in (Custom s) = []
externs_in (CoreModule m) = []
externs_in (CoreTypes s) = []
externs_in (Component t) = []
externs_in (Types s) = []
externs_in (Canonical s) = []
externs_in (Imports s) = map extern_of s.imports.items
externs_in (Exports s) = []

-- those of the imports of a component
abbrev pub externs_of : List Section → List NamedExtern
externs_of sections = flat_map externs_in sections

-- An import after these of its section, in a component with the ones before: what it is of, a name that is new among the
-- component's imports, and a URL or none, which has a name that is new among the names in their URLs.
pub record ReadsImportValue (config : Config) (stack : Open) (before : List NamedExtern) (is : List Import) (bytes : List ℕ) (x : Import) (rest : List ℕ)
    (next : List Import) : Type 0 where
  pub mid : List ℕ
  pub of : ReadsRef config (marked_with_imports config stack (map import_shown is)) (totals_of (with_imports stack (map import_shown is))) true false
      bytes x.ty mid
  pub named : ReadsNamedExtern config (before ++ map extern_of is) mid (extern_of x) rest
  pub next_is : next ≡ is ++ x ∷ []

-- The section ends when nothing can be imported.
abbrev pub NoImportValue : Config → Open → List Import → List ℕ → List ℕ → List Import → Type 0
NoImportValue config stack is bytes rest next = (import_kinds config stack (map import_shown is) ≡ []) × (rest ≡ bytes) × (next ≡ is)

-- What a turn that begins with the bytes b adds to the inner component, and what it leaves of them.

-- a type section of at least that many types
pub record AddsTypeSection (config : Config) (min : ℕ) (old : Building) (b : List ℕ) (new : Building) (rest : List ℕ) : Type 0 where
  pub section : TypeSection
  pub scope : Marked
  pub added : new.inner ≡ old.inner ++ Types section ∷ []
  pub reads : Loop Never (ReadsTypeValue config (marked_in config (open_of old).outer)) config.loop_bits min
      (config.max_types - length (types_of (open_of old).inner)) 0
      (marked_inner config (open_of old).outer (open_of old).inner) b section.types.items rest scope

-- a core type section
pub record AddsCoreTypeSection (config : Config) (old : Building) (b : List ℕ) (new : Building) (rest : List ℕ) : Type 0 where
  pub section : CoreTypeSection
  pub scope : Marked
  pub added : new.inner ≡ old.inner ++ CoreTypes section ∷ []
  pub reads : Loop Never (ReadsCoreTypeValue config) config.loop_bits 0 (config.max_types - length (core_types_of (open_of old).inner)) 0
      (marked_inner config (open_of old).outer (open_of old).inner) b section.types.items rest scope

-- an import section of at least that many imports, unless nothing can be imported
pub record AddsImportSection (config : Config) (min : ℕ) (old : Building) (b : List ℕ) (new : Building) (rest : List ℕ) : Type 0 where
  pub section : ImportSection
  pub added : new.inner ≡ old.inner ++ Imports section ∷ []
  pub reads : Loop (NoImportValue config (open_of old)) (ReadsImportValue config (open_of old) (externs_of old.inner)) config.loop_bits min
      (config.max_imports - length (imports_of (open_of old).inner)) 0 [] b section.imports.items rest section.imports.items

-- a core module that stands for a generated one, by its parts
pub record AddsModule (config : Config) (old : Building) (b : List ℕ) (new : Building) (rest : List ℕ) : Type 0 where
  pub embedded : Box ModuleParts Global
  pub added : new.inner ≡ old.inner ++ CoreModule embedded ∷ []
  pub reads : ReadsStandIn config b embedded.value rest
