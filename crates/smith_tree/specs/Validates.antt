-- Which well formed components name what they import and export, and keep wasmparser's own bounds.
use Rattle.std.specs.Prelude.{◌≡◌, ◌<◌, Bool, true, false, List, [], ◌∷◌, ◌++◌, map, slice_get, fold}
use Rattle.std.specs.List.{AllByRecursion, flat_map}
use Rattle.std.specs.Option.{option_to_list}
use Rattle.smith_input.specs.NewNames.{is_among}
use Rattle.smith_syntax.specs.Entries.{Entry, defined, function, component_type, instance_type, CoreEntry, ImportEntry}
use Rattle.smith_syntax.specs.Entries.{Decl, Decls, core_type_decl, type_decl, type_alias, core_type_alias, import_decl, export_decl, no_decls, then_decls}
use Rattle.smith_syntax.specs.declared.deftype.ComponentTypeRef.{ComponentTypeRef}
use Rattle.smith_syntax.specs.declared.deftype.ComponentTypeRef.TheVariants as to
use Rattle.smith_tree.specs.Spaces.{Spaces, after_export as after_one_export, after_part as spaces_after, no_spaces}
use Rattle.smith_tree.specs.Tree.{Canon, ExportEntry, Tree, Part, ends, first, custom, core_module, core_types, component, types, canons, imports, exports}
use Rattle.smith_tree.specs.Bodies.{Body, IsSmall, after_decl, after_export, after_import, core_facts, empty_body, externs_at, facts}
use Rattle.smith_tree.specs.Bodies.{with_core_facts, with_facts}
use Rattle.smith_tree.specs.CoreModules.{HasFewMemories}
use Rattle.smith_tree.specs.Counts.{ValidCounts, with_component, with_function, with_module}
use Rattle.smith_tree.specs.Demands.{Demands, Keeps, everything}
use Rattle.smith_tree.specs.Facts.{Extern, FactScope, Id, sizes}
use Rattle.smith_tree.specs.Sizes.{SmallDefined, ValidCore, signature_size, size_bound}

-- what these name
abbrev pub names_of : List Extern → List Id
names_of xs = flat_map (λ x. x.names) xs

-- What is named for an import: what the imports before it name. For an export, what exports name counts too.
abbrev pub imported : Body → List Id
imported b = names_of b.imports

abbrev pub exported : Body → List Id
exported b = names_of b.imports ++ names_of b.exports

-- Each refers to what is named, or to what those before it name (Explainer.md, import and export definitions, type checking).
abbrev pub RefersTo : List Id → List Extern → Type 0
RefersTo named [] = Unit {0}
RefersTo named (x ∷ xs) = AllByRecursion (λ id. is_among named id ≡ true) x.refers × RefersTo (named ++ x.names) xs

-- Entries in a row.

abbrev pub after_entries : List Entry → List FactScope → Body → Body
after_entries [] outer b = b
after_entries (e ∷ es) outer b = after_entries es outer (with_facts b (facts e b.own outer ∷ []))

abbrev pub after_cores : List CoreEntry → Body → Body
after_cores [] b = b
after_cores (e ∷ es) b = after_cores es (with_core_facts b (core_facts e b.own ∷ []))

-- A canonical function is a component function or a core function.
abbrev pub after_canon : Body → Canon → Body
after_canon b f = record b { counts = with_function b.counts }

abbrev pub imported_references : List ImportEntry → List ComponentTypeRef
imported_references is = map (λ i. i.to) is

-- What a component exports is a function, of the type of the function that the export names.

abbrev pub exported_reference : Spaces → ExportEntry → List ComponentTypeRef
exported_reference s e = map (λ t. to.Func t) (option_to_list (slice_get s.functions e.func))

abbrev pub exported_references : Spaces → List ExportEntry → List ComponentTypeRef
exported_references s [] = []
exported_references s (e ∷ es) = exported_reference s e ++ exported_references (after_one_export s e) es

-- after a part, in the scopes around the component
abbrev pub after_part : Part → Spaces → List FactScope → Body → Body
after_part (custom name contents) s outer b = b
after_part (core_module text) s outer b = record b { counts = with_module b.counts }
after_part (core_types ts) s outer b = after_cores ts b
after_part (component t) s outer b = record b { counts = with_component b.counts }
after_part (types ts) s outer b = after_entries ts outer b
after_part (canons fs) s outer b = fold after_canon b fs
after_part (imports is) s outer b = fold (after_import outer) b (imported_references is)
after_part (exports es) s outer b = fold (after_export outer) b (exported_references s es)

-- What follows is stated once, whichever demands are asked.
module _ (d : Demands) where
  -- Types in their own scope and the scopes around it, innermost first. What a component type imports and exports is
  -- named there. An instance type says what each instance of it exports, so nothing has to be named within it.
  abbrev mutual
    pub ValidEntry : Entry → FactScope → List FactScope → Type 0
    ValidEntry (defined t) own outer = Keeps d.sizes (SmallDefined (sizes own.types) t)
    ValidEntry (function s) own outer = Keeps d.sizes (signature_size (sizes own.types) s < size_bound)
    ValidEntry (component_type ds) own outer = ValidDecls true ds (own ∷ outer) empty_body
    ValidEntry (instance_type ds) own outer = ValidDecls false ds (own ∷ outer) empty_body

    pub ValidDecl : Bool → Decl → List FactScope → Body → Type 0
    ValidDecl asks (core_type_decl t k) outer b = ValidCore d (map (λ f. f.entry) b.own.core_types) t
    ValidDecl asks (type_decl e) outer b = ValidEntry e b.own outer
    ValidDecl asks (type_alias count i k) outer b = Unit {0}
    ValidDecl asks (core_type_alias count i k) outer b = Unit {0}
    ValidDecl asks (import_decl name n r) outer b = Keeps d.names (RefersTo (imported b) (externs_at b.own outer r))
    ValidDecl true (export_decl name n r) outer b = Keeps d.names (RefersTo (exported b) (externs_at b.own outer r))
    ValidDecl false (export_decl name n r) outer b = Unit {0}

    pub ValidDecls : Bool → Decls → List FactScope → Body → Type 0
    ValidDecls asks no_decls outer b = Unit {0}
    ValidDecls asks (then_decls e es) outer b = ValidDecl asks e outer b × IsSmall d (after_decl e outer b) × ValidDecls asks es outer (after_decl e outer b)

  -- Entries in a row: each is judged after those before it.

  abbrev pub ValidCores : List CoreEntry → Body → Type 0
  ValidCores [] b = Unit {0}
  ValidCores (e ∷ es) b = ValidCore d (map (λ f. f.entry) b.own.core_types) e
      × IsSmall d (with_core_facts b (core_facts e b.own ∷ [])) × ValidCores es (with_core_facts b (core_facts e b.own ∷ []))

  abbrev pub ValidCanons : List Canon → Body → Type 0
  ValidCanons [] b = Unit {0}
  ValidCanons (f ∷ fs) b = IsSmall d (after_canon b f) × ValidCanons fs (after_canon b f)

  abbrev pub ValidEntries : List Entry → List FactScope → Body → Type 0
  ValidEntries [] outer b = Unit {0}
  ValidEntries (e ∷ es) outer b = ValidEntry e b.own outer
      × IsSmall d (with_facts b (facts e b.own outer ∷ [])) × ValidEntries es outer (with_facts b (facts e b.own outer ∷ []))

  abbrev pub ValidImports : List ComponentTypeRef → List FactScope → Body → Type 0
  ValidImports [] outer b = Unit {0}
  ValidImports (r ∷ rs) outer b = Keeps d.names (RefersTo (imported b) (externs_at b.own outer r))
      × IsSmall d (after_import outer b r) × ValidImports rs outer (after_import outer b r)

  abbrev pub ValidExports : List ComponentTypeRef → List FactScope → Body → Type 0
  ValidExports [] outer b = Unit {0}
  ValidExports (r ∷ rs) outer b = Keeps d.names (RefersTo (exported b) (externs_at b.own outer r))
      × IsSmall d (after_export outer b r) × ValidExports rs outer (after_export outer b r)

  -- Parts after those before them, in the scopes around the component.
  abbrev mutual
    pub ValidParts : Tree → Spaces → List FactScope → Body → Type 0
    ValidParts ends s outer b = Unit {0}
    ValidParts (first p t) s outer b = ValidPart p s outer b × ValidParts t (spaces_after s p) outer (after_part p s outer b)

    pub ValidPart : Part → Spaces → List FactScope → Body → Type 0
    ValidPart (custom name contents) s outer b = Unit {0}
    ValidPart (core_module text) s outer b = Keeps d.counts (ValidCounts (with_module b.counts)) × Keeps d.memories (HasFewMemories text)
    ValidPart (core_types ts) s outer b = ValidCores ts b
    ValidPart (component t) s outer b = Keeps d.counts (ValidCounts (with_component b.counts)) × ValidParts t no_spaces (b.own ∷ outer) empty_body
    ValidPart (types ts) s outer b = ValidEntries ts outer b
    ValidPart (canons fs) s outer b = ValidCanons fs b
    ValidPart (imports is) s outer b = ValidImports (imported_references is) outer b
    ValidPart (exports es) s outer b = ValidExports (exported_references s es) outer b

  -- a component in no scope
  abbrev pub ValidTree : Tree → Type 0
  ValidTree t = ValidParts t no_spaces [] empty_body

-- What is referred to is named, and the bounds are kept.
abbrev pub Validates : Tree → Type 0
Validates = ValidTree everything
