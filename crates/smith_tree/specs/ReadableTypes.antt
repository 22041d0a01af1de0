-- Types whose names can be read: each can be made after those before it.
use Rattle.std.specs.Prelude.{ℕ, List, [], ◌++◌, map}
use Rattle.smith_input.specs.NameScript.{AreReachable, IsReachable}
use Rattle.smith_format.specs.declared.config.Config.{Config}
use Rattle.smith_tree.specs.ReadableCoreTypes.{IsReadableCore}
use Rattle.smith_syntax.specs.Entries.{DefValType, primitive_type, record_type, variant_type, list_type, tuple_type, flags_type, enum_type, option_type}
use Rattle.smith_syntax.specs.Entries.{result_type, Entry, defined, function, component_type, instance_type}
use Rattle.smith_syntax.specs.Entries.{Decl, Decls, core_type_decl, type_decl, type_alias, core_type_alias, import_decl, export_decl, no_decls, then_decls}
use Rattle.smith_syntax.specs.WellFormed.{import_of, export_of, names}

-- These names can be read, one after another.
abbrev pub AreReadableNames : Config → List (List ℕ) → Type 0
AreReadableNames config ns = AreReachable config.max_name_length [] ns

abbrev pub IsReadableDefined : Config → DefValType → Type 0
IsReadableDefined config (primitive_type p) = Unit {0}
IsReadableDefined config (record_type fs) = AreReadableNames config (map (λ f. f.0) fs)
IsReadableDefined config (variant_type cs) = AreReadableNames config (map (λ c. c.0) cs)
IsReadableDefined config (list_type v) = Unit {0}
IsReadableDefined config (tuple_type vs) = Unit {0}
IsReadableDefined config (flags_type ns) = AreReadableNames config ns
IsReadableDefined config (enum_type ns) = AreReadableNames config ns
IsReadableDefined config (option_type v) = Unit {0}
IsReadableDefined config (result_type ok err) = Unit {0}

-- Of a declaration, if the type has imports and exports of these names.
abbrev mutual
  pub IsReadableType : Config → Entry → Type 0
  IsReadableType config (defined t) = IsReadableDefined config t
  IsReadableType config (function s) = AreReadableNames config (map (λ p. p.0) s.params)
  IsReadableType config (component_type ds) = AreReadableDecls config ds [] []
  IsReadableType config (instance_type ds) = AreReadableDecls config ds [] []

  pub IsReadableDecl : Config → Decl → List (List ℕ) → List (List ℕ) → Type 0
  IsReadableDecl config (core_type_decl t k) imported exported = IsReadableCore config t
  IsReadableDecl config (type_decl e) imported exported = IsReadableType config e
  IsReadableDecl config (type_alias count i k) imported exported = Unit {0}
  IsReadableDecl config (core_type_alias count i k) imported exported = Unit {0}
  IsReadableDecl config (import_decl name n r) imported exported = IsReachable config.max_name_length imported name
  IsReadableDecl config (export_decl name n r) imported exported = IsReachable config.max_name_length exported name

  pub AreReadableDecls : Config → Decls → List (List ℕ) → List (List ℕ) → Type 0
  AreReadableDecls config no_decls imported exported = Unit {0}
  AreReadableDecls config (then_decls d ds) imported exported =
      IsReadableDecl config d imported exported × AreReadableDecls config ds (imported ++ names (import_of d)) (exported ++ names (export_of d))
