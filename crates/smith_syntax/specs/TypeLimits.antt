-- The limits of a config within a type.
use Rattle.std.specs.Prelude.{◌≤◌}
use Rattle.smith_format.specs.declared.config.Config.{Config}
use Rattle.smith_syntax.specs.CoreLimits.{CoreLimits}
use Rattle.smith_syntax.specs.Entries.{Entry, defined, function, component_type, instance_type}
use Rattle.smith_syntax.specs.Entries.{Decl, Decls, core_type_decl, type_decl, type_alias, core_type_alias, import_decl, export_decl, no_decls, then_decls}
use Rattle.smith_syntax.specs.Entries.{decl_count}

-- A type declares at most 100 things, and what it declares is within the limits too.
abbrev mutual
  pub EntryLimits : Config → Entry → Type 0
  EntryLimits config (defined t) = Unit {0}
  EntryLimits config (function s) = Unit {0}
  EntryLimits config (component_type ds) = (decl_count ds ≤ 100) × DeclsLimits config ds
  EntryLimits config (instance_type ds) = (decl_count ds ≤ 100) × DeclsLimits config ds

  pub DeclLimits : Config → Decl → Type 0
  DeclLimits config (core_type_decl t k) = CoreLimits config t
  DeclLimits config (type_decl e) = EntryLimits config e
  DeclLimits config (type_alias count i k) = Unit {0}
  DeclLimits config (core_type_alias count i k) = Unit {0}
  DeclLimits config (import_decl name n r) = Unit {0}
  DeclLimits config (export_decl name n r) = Unit {0}

  pub DeclsLimits : Config → Decls → Type 0
  DeclsLimits config no_decls = Unit {0}
  DeclsLimits config (then_decls d ds) = DeclLimits config d × DeclsLimits config ds
