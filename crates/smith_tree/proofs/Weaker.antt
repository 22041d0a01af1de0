-- What meets every demand meets the demands that are asked.
use Rattle.std.specs.Prelude.{Bool, true, false, List, [], ◌∷◌}
use Rattle.smith_syntax.specs.Entries.{Entry, defined, function, component_type, instance_type, CoreEntry, core_func, core_module}
use Rattle.smith_syntax.specs.Entries.{Decl, Decls, core_type_decl, type_decl, type_alias, core_type_alias, import_decl, export_decl, no_decls, then_decls}
use Rattle.smith_syntax.specs.declared.deftype.ComponentTypeRef.{ComponentTypeRef}
use Rattle.smith_tree.specs.Spaces.{Spaces, after_part as spaces_after, no_spaces}
use Rattle.smith_tree.specs.Tree.{Canon, Tree, Part, ends, first, custom, core_module, core_types, component, types, canons, imports, exports}
use Rattle.smith_tree.specs.Bodies.{Body, after_decl, after_export, after_import, core_facts, empty_body, facts, with_core_facts, with_facts}
use Rattle.smith_tree.specs.Demands.{Demands, Keeps, everything}
use Rattle.smith_tree.specs.Facts.{FactScope}
use Rattle.smith_tree.specs.Sizes.{ValidCore}
use Rattle.smith_tree.specs.Validates.{ValidCanons, ValidCores, ValidDecl, ValidDecls, ValidEntries, ValidEntry, ValidExports, ValidImports}
use Rattle.smith_tree.specs.Validates.{ValidPart, ValidParts, ValidTree, Validates, after_canon, after_part, exported_references, imported_references}

pub kept : (asked : Bool) {P : Type 0} → P → Keeps asked P
kept true p = p
kept false p = tt

module _ (d : Demands) where
  weaker_small : {Size Count : Type 0} → Size × Count → Keeps d.sizes Size × Keeps d.counts Count
  weaker_small h = (kept d.sizes h.0, kept d.counts h.1)

  weaker_core : (around : List CoreEntry) (e : CoreEntry) → ValidCore everything around e → ValidCore d around e
  weaker_core around (core_func f) h = h
  weaker_core around (core_module ds) h = (kept d.sizes h.0, kept d.memories h.1, kept d.tables h.2)

  mutual
    weaker_entry : (e : Entry) (own : FactScope) (outer : List FactScope) → ValidEntry everything e own outer → ValidEntry d e own outer
    weaker_entry (defined t) own outer h = kept d.sizes h
    weaker_entry (function s) own outer h = kept d.sizes h
    weaker_entry (component_type ds) own outer h = weaker_decls true ds (own ∷ outer) empty_body h
    weaker_entry (instance_type ds) own outer h = weaker_decls false ds (own ∷ outer) empty_body h

    weaker_decl : (asks : Bool) (e : Decl) (outer : List FactScope) (b : Body) → ValidDecl everything asks e outer b → ValidDecl d asks e outer b
    weaker_decl asks (core_type_decl t k) outer b h = weaker_core _ t h
    weaker_decl asks (type_decl e) outer b h = weaker_entry e b.own outer h
    weaker_decl asks (type_alias count i k) outer b h = h
    weaker_decl asks (core_type_alias count i k) outer b h = h
    weaker_decl asks (import_decl name n r) outer b h = kept d.names h
    weaker_decl true (export_decl name n r) outer b h = kept d.names h
    weaker_decl false (export_decl name n r) outer b h = h

    weaker_decls : (asks : Bool) (es : Decls) (outer : List FactScope) (b : Body) → ValidDecls everything asks es outer b → ValidDecls d asks es outer b
    weaker_decls asks no_decls outer b h = tt
    weaker_decls asks (then_decls e es) outer b h =
        (weaker_decl asks e outer b h.0, weaker_small h.1, weaker_decls asks es outer (after_decl e outer b) h.2)

  weaker_cores : (es : List CoreEntry) (b : Body) → ValidCores everything es b → ValidCores d es b
  weaker_cores [] b h = tt
  weaker_cores (e ∷ es) b h = (weaker_core _ e h.0, weaker_small h.1, weaker_cores es (with_core_facts b (core_facts e b.own ∷ [])) h.2)

  weaker_canons : (fs : List Canon) (b : Body) → ValidCanons everything fs b → ValidCanons d fs b
  weaker_canons [] b h = tt
  weaker_canons (f ∷ fs) b h = (weaker_small h.0, weaker_canons fs (after_canon b f) h.1)

  weaker_entries : (es : List Entry) (outer : List FactScope) (b : Body) → ValidEntries everything es outer b → ValidEntries d es outer b
  weaker_entries [] outer b h = tt
  weaker_entries (e ∷ es) outer b h =
      (weaker_entry e b.own outer h.0, weaker_small h.1, weaker_entries es outer (with_facts b (facts e b.own outer ∷ [])) h.2)

  weaker_imports : (rs : List ComponentTypeRef) (outer : List FactScope) (b : Body) → ValidImports everything rs outer b → ValidImports d rs outer b
  weaker_imports [] outer b h = tt
  weaker_imports (r ∷ rs) outer b h = (kept d.names h.0, weaker_small h.1, weaker_imports rs outer (after_import outer b r) h.2)

  weaker_exports : (rs : List ComponentTypeRef) (outer : List FactScope) (b : Body) → ValidExports everything rs outer b → ValidExports d rs outer b
  weaker_exports [] outer b h = tt
  weaker_exports (r ∷ rs) outer b h = (kept d.names h.0, weaker_small h.1, weaker_exports rs outer (after_export outer b r) h.2)

  mutual
    pub weaker_parts : (t : Tree) (s : Spaces) (outer : List FactScope) (b : Body) → ValidParts everything t s outer b → ValidParts d t s outer b
    weaker_parts ends s outer b h = tt
    weaker_parts (first p t) s outer b h =
        (weaker_part p s outer b h.0, weaker_parts t (spaces_after s p) outer (after_part p s outer b) h.1)

    weaker_part : (p : Part) (s : Spaces) (outer : List FactScope) (b : Body) → ValidPart everything p s outer b → ValidPart d p s outer b
    weaker_part (custom name contents) s outer b h = h
    weaker_part (core_module text) s outer b h = (kept d.counts h.0, kept d.memories h.1)
    weaker_part (core_types ts) s outer b h = weaker_cores ts b h
    weaker_part (component t) s outer b h = (kept d.counts h.0, weaker_parts t no_spaces (b.own ∷ outer) empty_body h.1)
    weaker_part (types ts) s outer b h = weaker_entries ts outer b h
    weaker_part (canons fs) s outer b h = weaker_canons fs b h
    weaker_part (imports is) s outer b h = weaker_imports (imported_references is) outer b h
    weaker_part (exports es) s outer b h = weaker_exports (exported_references s es) outer b h

  pub weaker_tree : (t : Tree) → Validates t → ValidTree d t
  weaker_tree t h = weaker_parts t no_spaces [] empty_body h
