-- Marks of declared types are tied to them if what they import and export was offered.
use Rattle.std.proofs.Common.{rules, arith, ◌≡◌, ℕ, zero, suc, true, false, List, [], ◌∷◌, map, flat_map, refl, ap, ◌∙◌}
use Rattle.std.proofs.Common.{slice_get, option_to_list, get_or}
use Rattle.smith_format.specs.declared.config.Config.{Config}
use Rattle.smith_syntax.specs.CoreLimits.{CoreLimits}
use Rattle.smith_syntax.specs.Entries.{Entry, defined, function, component_type, instance_type, CoreEntry, plain}
use Rattle.smith_syntax.specs.Entries.{Decl, Decls, core_type_decl, type_decl, type_alias, core_type_alias, import_decl, export_decl, no_decls, then_decls}
use Rattle.smith_syntax.specs.Marked.{Marked, core_size_named, empty_marked, mark, mark_named, marked_after, marked_after_all, marks_for}
use Rattle.smith_syntax.specs.Marked.{scopes_in_marked, with_sized}
use Rattle.smith_syntax.specs.Marks.{aliased_mark}
use Rattle.smith_syntax.specs.Scope.{core_type_named, type_named}
use Rattle.smith_syntax.specs.Sizes.{capped, module_type_size}
use Rattle.smith_syntax.specs.TypeLimits.{DeclLimits, DeclsLimits, EntryLimits}
use Rattle.smith_syntax.specs.Usable.{OfferedDecl, OfferedDecls, OfferedEntry}
use Rattle.smith_syntax.specs.declared.marks.Reach.TheVariants.{Everywhere}
use Rattle.smith_tree.specs.Bodies.{Body, after_decl, after_decls, core_facts, empty_body, facts, named_in, with_core_facts}
use Rattle.smith_tree.specs.Facts.{FactScope, Id, id_at}
use Rattle.smith_tree.specs.Validates.{names_of}
use Rattle.smith_tree.proofs.OfferedCores.{fits_core, module_size_is}
use Rattle.smith_tree.proofs.SameSizes.{same_defined, same_signature}
use Rattle.smith_tree.proofs.TiedBodies.{TiedBody, tied_cores, tied_empty, tied_export, tied_import, tied_types}
use Rattle.smith_tree.proofs.TiedMarks.{entries_outwards, fits_outwards, many_outwards, sizes_outwards, tied_closed, tied_declared, tied_outwards}
use Rattle.smith_tree.proofs.Ties.{Tied, TiedScope, TiedScopes, TiedTypes, entry_at, members_reach, tied_list}

module _ (config : Config) where
  tied_alias : (named : List Id) (m : Marked) (own : FactScope) (marked : List Marked) (outer : List FactScope) (count i : ℕ)
      → TiedScope config named m own → TiedScopes config marked outer
      → TiedTypes named (marks_for (type_named (scopes_in_marked (m ∷ marked)) count i) (aliased_mark count (mark_named (m ∷ marked) count i)))
      (option_to_list (named_in (λ s. s.types) (own ∷ outer) count i))
  tied_alias named m own marked outer zero i t k = grind (arith, tied_list, slice_get, get_or, entry_at)
  tied_alias named m own marked outer (suc count) i t k = tied_outwards named count config marked outer count i k

  -- one more core type, within the limits
  pub tied_core : (e : CoreEntry) (m : Marked) (b : Body) → TiedBody config m b → CoreLimits config e
      → TiedBody config (with_sized m e (capped (module_type_size m.core_types e))) (with_core_facts b (core_facts e b.own ∷ []))
  tied_core e m b t h =
      let size = ap (λ l. module_type_size l e) t.own.core_types ∙ module_size_is e b.own in
      tied_cores config m b (e ∷ []) (capped (module_type_size m.core_types e) ∷ []) (core_facts e b.own ∷ []) t refl
      (ap (λ n. capped n ∷ []) size) (fits_core config e b.own t.own.cores h, tt)

  mutual
    pub tied_entry : (e : Entry) (named : List Id) (m : Marked) (own : FactScope) (marked : List Marked) (outer : List FactScope)
        → m.keeps ≡ true → TiedScope config named m own → TiedScopes config marked outer → EntryLimits config e → OfferedEntry e m marked
        → Tied named (mark e m marked) (facts e own outer)
    tied_entry (defined d) named m own marked outer keeps t k l h = search (rules, tied_declared, map, flat_map, same_defined, members_reach)
    tied_entry (function s) named m own marked outer keeps t k l h = search (rules, tied_declared, false, map, flat_map, same_signature, members_reach)
    tied_entry (component_type ds) named m own marked outer keeps t k l h =
        let b = tied_decls ds (m ∷ marked) (own ∷ outer) (empty_marked m.keeps) empty_body (tied_empty config m.keeps keeps) (named, t, k) l.1 h in
        tied_closed named (id_at (own ∷ outer)) Everywhere [] (marked_after_all ds (m ∷ marked) (empty_marked m.keeps)).size
        (after_decls ds (own ∷ outer) empty_body).size b.size tt (λ e. refl)
    tied_entry (instance_type ds) named m own marked outer keeps t k l h =
        let b = tied_decls ds (m ∷ marked) (own ∷ outer) (empty_marked m.keeps) empty_body (tied_empty config m.keeps keeps) (named, t, k) l.1 h in
        let after = marked_after_all ds (m ∷ marked) (empty_marked m.keeps) in
        tied_closed named (id_at (own ∷ outer)) after.exported (after_decls ds (own ∷ outer) empty_body).exports after.size
        (after_decls ds (own ∷ outer) empty_body).size b.size b.refers b.exported

    pub tied_decl : (d : Decl) (marked : List Marked) (outer : List FactScope) (m : Marked) (b : Body) → TiedBody config m b
        → TiedScopes config marked outer → DeclLimits config d → OfferedDecl d marked m → TiedBody config (marked_after d marked m) (after_decl d outer b)
    tied_decl (core_type_decl e kept) marked outer m b t k l h = tied_core e m b t l
    tied_decl (type_decl e) marked outer m b t k l h =
        tied_types config m b (plain e ∷ []) (mark e m marked ∷ []) (facts e b.own outer ∷ []) t tt
        (tied_entry e (names_of b.exports) m b.own marked outer t.keeps t.own k l h, tt)
    tied_decl (type_alias count i kept) marked outer m b t k l h =
        let around : TiedScopes config (m ∷ marked) (b.own ∷ outer) = (names_of b.exports, t.own, k) in
        tied_types config m b (option_to_list (type_named (scopes_in_marked (m ∷ marked)) count i))
        (marks_for (type_named (scopes_in_marked (m ∷ marked)) count i) (aliased_mark count (mark_named (m ∷ marked) count i)))
        (option_to_list (named_in (λ s. s.types) (b.own ∷ outer) count i)) t (many_outwards config (m ∷ marked) (b.own ∷ outer) count i around)
        (tied_alias (names_of b.exports) m b.own marked outer count i t.own k)
    tied_decl (core_type_alias count i kept) marked outer m b t k l h =
        let around : TiedScopes config (m ∷ marked) (b.own ∷ outer) = (names_of b.exports, t.own, k) in
        let added = option_to_list (core_type_named (scopes_in_marked (m ∷ marked)) count i) in
        tied_cores config m b added (map (λ x. core_size_named (m ∷ marked) count i) added)
        (option_to_list (named_in (λ s. s.core_types) (b.own ∷ outer) count i)) t
        (entries_outwards config (m ∷ marked) (b.own ∷ outer) count i around)
        (sizes_outwards config (m ∷ marked) (b.own ∷ outer) count i around) (fits_outwards config (m ∷ marked) (b.own ∷ outer) count i around)
    tied_decl (import_decl name n r) marked outer m b t k l h = tied_import config m b outer r t
    tied_decl (export_decl name n r) marked outer m b t k l h =
        tied_export config m b outer r t h

    tied_decls : (ds : Decls) (marked : List Marked) (outer : List FactScope) (m : Marked) (b : Body) → TiedBody config m b
        → TiedScopes config marked outer → DeclsLimits config ds → OfferedDecls ds marked m
        → TiedBody config (marked_after_all ds marked m) (after_decls ds outer b)
    tied_decls no_decls marked outer m b t k l h = t
    tied_decls (then_decls d ds) marked outer m b t k l h =
        tied_decls ds marked outer (marked_after d marked m) (after_decl d outer b) (tied_decl d marked outer m b t k l.0 h.0) k l.1 h.1
