-- Types that were offered are valid.
use Rattle.std.proofs.Common.{◌≡◌, ℕ, ◌+◌, ◌≤◌, Bool, true, false, List, [], ◌∷◌, arith}
use Rattle.smith_format.specs.declared.config.Config.{Config}
use Rattle.smith_syntax.specs.Entries.{Entry, defined, function, component_type, instance_type, decl_count}
use Rattle.smith_syntax.specs.Entries.{Decl, Decls, core_type_decl, type_decl, type_alias, core_type_alias, import_decl, export_decl, no_decls, then_decls}
use Rattle.smith_syntax.specs.Marked.{Marked, empty_marked, marked_after}
use Rattle.smith_syntax.specs.Members.{members, signature_members}
use Rattle.smith_syntax.specs.Scope.{Scope, after_decl as scope_after, empty_scope}
use Rattle.smith_syntax.specs.TypeLimits.{DeclLimits, DeclsLimits, EntryLimits}
use Rattle.smith_syntax.specs.Usable.{OfferedDecl, OfferedDecls, OfferedEntry, OfferedRef}
use Rattle.smith_syntax.specs.WellFormed.{FormedDeclaration, FormedDeclarations, FormedEntry, is_type_eq}
use Rattle.smith_syntax.specs.declared.deftype.ComponentTypeRef.{ComponentTypeRef}
use Rattle.smith_tree.specs.Bodies.{Body, after_decl, empty_body, externs_at}
use Rattle.smith_tree.specs.Demands.{everything}
use Rattle.smith_tree.specs.Facts.{FactScope, Id, sizes as fact_sizes}
use Rattle.smith_tree.specs.Validates.{RefersTo, ValidDecl, ValidDecls, ValidEntry, exported, imported, names_of}
use Rattle.smith_tree.proofs.Externs.{export_refers, import_refers}
use Rattle.smith_tree.proofs.Few.{Few, few_decl, few_none, few_small}
use Rattle.smith_tree.proofs.Named.{named_behind, none_within, refers_wider}
use Rattle.smith_tree.proofs.OfferedCores.{limits_of, valid_core}
use Rattle.smith_tree.proofs.SmallSizes.{small_defined, small_function, small_values}
use Rattle.smith_tree.proofs.TiedBodies.{TiedBody, tied_empty}
use Rattle.smith_tree.proofs.TiedEntries.{tied_decl}
use Rattle.smith_tree.proofs.Ties.{TiedScope, TiedScopes, entries_of}

module _ (config : Config) where
  -- What is asked of an import and of an export.

  pub import_asked : (m : Marked) (b : Body) (outer : List FactScope) (r : ComponentTypeRef) → TiedBody config m b → is_type_eq r ≡ false
      → OfferedRef m true r → RefersTo (imported b) (externs_at b.own outer r)
  import_asked m b outer r t typed h =
      refers_wider [] (imported b) (externs_at b.own outer r) (none_within (imported b))
      (import_refers config (names_of b.exports) m b.own outer r t.own typed h)

  pub export_asked : (m : Marked) (b : Body) (outer : List FactScope) (r : ComponentTypeRef) → TiedBody config m b → OfferedRef m false r
      → RefersTo (exported b) (externs_at b.own outer r)
  export_asked m b outer r t h =
      refers_wider (names_of b.exports) (exported b) (externs_at b.own outer r) (named_behind (names_of b.imports) (names_of b.exports))
      (export_refers config (names_of b.exports) m b.own outer r t.own h)

  mutual
    pub valid_entry : (e : Entry) (named : List Id) (m : Marked) (own : FactScope) (marked : List Marked) (outer : List FactScope) (plain : Scope)
        (around : List Scope) → m.keeps ≡ true → TiedScope config named m own → TiedScopes config marked outer → FormedEntry e plain around
        → EntryLimits config e → OfferedEntry e m marked → ValidEntry everything e own outer
    valid_entry (defined d) named m own marked outer plain around keeps t k w l h =
        small_defined (fact_sizes own.types) d plain w (small_values named m own.types (members d) t.types h)
    valid_entry (function s) named m own marked outer plain around keeps t k w l h =
        small_function (fact_sizes own.types) s w.2 (small_values named m own.types (signature_members s) t.types h)
    valid_entry (component_type ds) named m own marked outer plain around keeps t k w l h =
        valid_decls ds true (m ∷ marked) (own ∷ outer) (empty_marked m.keeps) empty_body empty_scope (plain ∷ around) 0 (tied_empty config m.keeps keeps)
        (named, t, k) few_none (omega (arith, l.0)) w.0 l.1 h
    valid_entry (instance_type ds) named m own marked outer plain around keeps t k w l h =
        valid_decls ds false (m ∷ marked) (own ∷ outer) (empty_marked m.keeps) empty_body empty_scope (plain ∷ around) 0 (tied_empty config m.keeps keeps)
        (named, t, k) few_none (omega (arith, l.0)) w.0 l.1 h

    valid_decl : (d : Decl) (asks : Bool) (marked : List Marked) (outer : List FactScope) (m : Marked) (b : Body) (plain : Scope) (around : List Scope)
        → TiedBody config m b → TiedScopes config marked outer → FormedDeclaration d plain around → DeclLimits config d → OfferedDecl d marked m
        → ValidDecl everything asks d outer b
    valid_decl (core_type_decl e kept) asks marked outer m b plain around t k w l h = grind (arith, valid_core, entries_of, limits_of)
    valid_decl (type_decl e) asks marked outer m b plain around t k w l h =
        valid_entry e (names_of b.exports) m b.own marked outer plain around t.keeps t.own k w l h
    valid_decl (type_alias count i kept) asks marked outer m b plain around t k w l h = tt
    valid_decl (core_type_alias count i kept) asks marked outer m b plain around t k w l h = tt
    valid_decl (import_decl name n r) asks marked outer m b plain around t k w l h = import_asked m b outer r t w.1 h
    valid_decl (export_decl name n r) true marked outer m b plain around t k w l h = export_asked m b outer r t h
    valid_decl (export_decl name n r) false marked outer m b plain around t k w l h = tt

    valid_decls : (ds : Decls) (asks : Bool) (marked : List Marked) (outer : List FactScope) (m : Marked) (b : Body) (plain : Scope)
        (around : List Scope) (n : ℕ) → TiedBody config m b → TiedScopes config marked outer → Few n b → n + decl_count ds ≤ 100
        → FormedDeclarations ds plain around → DeclsLimits config ds → OfferedDecls ds marked m → ValidDecls everything asks ds outer b
    valid_decls no_decls asks marked outer m b plain around n t k f few w l h = tt
    valid_decls (then_decls d ds) asks marked outer m b plain around n t k f few w l h =
        let next = few_decl config d marked outer m b n t h.0 f in (
          valid_decl d asks marked outer m b plain around t k w.0 l.0 h.0,
          few_small (n + 1) (after_decl d outer b) next (omega arith),
          valid_decls ds asks marked outer (marked_after d marked m) (after_decl d outer b) (scope_after around plain d) around (n + 1)
              (tied_decl config d marked outer m b t k l.0 h.0) k next (omega arith) w.1 l.1 h.1,
        )
