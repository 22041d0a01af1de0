-- The text of types and core types that are declared (Explainer.md, type definitions).
use Rattle.std.specs.Prelude.{ℕ, ◌+◌, List, [], codes, decimal}
use Rattle.smith_syntax.specs.Entries.{CoreEntry, core_func, core_module, Entry, defined, function, component_type, instance_type, Decl, Decls, core_type_decl}
use Rattle.smith_syntax.specs.Entries.{type_decl, type_alias, core_type_alias, import_decl, export_decl, no_decls, then_decls}
use Rattle.smith_print.specs.declared.spaces.IndexSpaces.{IndexSpaces}
use Rattle.smith_print.specs.CoreTypes.{after_core_type, after_module_decl, alias_text, core_function_text, module_decl_line}
use Rattle.smith_print.specs.Externs.{export_text, import_text}
use Rattle.smith_print.specs.Lines.{closed, lines}
use Rattle.smith_print.specs.Spaces.{after_extern, nothing}
use Rattle.smith_print.specs.Values.{defined_text, function_text}
use Rattle.smith_print.specs.Words.{◌⧺◌, deeper, line}

-- what has declarations, one level in, each on a line one level further in
abbrev pub nested : List ℕ → (ℕ → List ℕ) → ℕ → List ℕ
nested word contents columns = line (deeper columns) ⧺ word ⧺ closed (deeper columns) (contents (deeper (deeper columns))) ⧺ line columns

-- a core type (Explainer.md, core:deftype)
abbrev pub core_entry_text : CoreEntry → ℕ → List ℕ
core_entry_text (core_func f) columns = codes " " ⧺ core_function_text f
core_entry_text (core_module ds) columns =
    nested (codes "(module") (λ c. lines (λ d _ s. module_decl_line d s) after_module_decl c nothing ds) columns

-- under its index
abbrev pub core_type_text : CoreEntry → ℕ → IndexSpaces → List ℕ
core_type_text t columns s = codes "(core type (;" ⧺ decimal s.core_types ⧺ codes ";)" ⧺ core_entry_text t columns ⧺ codes ")"

abbrev pub after_type : IndexSpaces → IndexSpaces
after_type s = record s { types = s.types + 1 }

-- an outer alias of a core type, which is next (Explainer.md, alias definitions)
abbrev pub core_alias_text : ℕ → ℕ → ℕ → List ℕ
core_alias_text count i next = codes "(alias outer " ⧺ decimal count ⧺ codes " " ⧺ decimal i ⧺ codes " (core type (;" ⧺ decimal next ⧺ codes ";)))"

-- the index spaces after a declaration
abbrev pub after_decl : Decl → IndexSpaces → IndexSpaces
after_decl (core_type_decl t k) s = after_core_type s
after_decl (type_decl e) s = after_type s
after_decl (type_alias count i k) s = after_type s
after_decl (core_type_alias count i k) s = after_core_type s
after_decl (import_decl name n r) s = after_extern r s
after_decl (export_decl name n r) s = after_extern r s

abbrev mutual
  -- a type (Explainer.md, deftype)
  pub entry_text : Entry → ℕ → List ℕ
  entry_text (defined t) columns = codes " " ⧺ defined_text t
  entry_text (function s) columns = codes " " ⧺ function_text s
  entry_text (component_type ds) columns = nested (codes "(component") (λ c. decl_lines ds c nothing) columns
  entry_text (instance_type ds) columns = nested (codes "(instance") (λ c. decl_lines ds c nothing) columns

  -- a declaration of a component type or an instance type
  pub decl_text : Decl → ℕ → IndexSpaces → List ℕ
  decl_text (core_type_decl t k) columns s = core_type_text t columns s
  decl_text (type_decl e) columns s = codes "(type (;" ⧺ decimal s.types ⧺ codes ";)" ⧺ entry_text e columns ⧺ codes ")"
  decl_text (type_alias count i k) columns s = alias_text count i s.types
  decl_text (core_type_alias count i k) columns s = core_alias_text count i s.core_types
  decl_text (import_decl name n r) columns s = import_text name r s
  decl_text (export_decl name n r) columns s = export_text name r s

  pub decl_lines : Decls → ℕ → IndexSpaces → List ℕ
  decl_lines no_decls columns s = []
  decl_lines (then_decls d ds) columns s = line columns ⧺ decl_text d columns s ⧺ decl_lines ds columns (after_decl d s)

-- a type under its index
abbrev pub type_text : Entry → ℕ → IndexSpaces → List ℕ
type_text e columns s = codes "(type (;" ⧺ decimal s.types ⧺ codes ";)" ⧺ entry_text e columns ⧺ codes ")"
