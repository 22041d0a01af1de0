-- What is offered when components are read: each type, import and export that can be used as a validator asks.
use Rattle.std.specs.Prelude.{◌≡◌, ℕ, true, false, List, [], ◌∷◌}
use Rattle.smith_format.specs.declared.config.Config.{Config}
use Rattle.smith_syntax.specs.Entries.{Entry, ImportEntry}
use Rattle.smith_syntax.specs.Marked.{Marked, empty_marked}
use Rattle.smith_syntax.specs.Usable.{OfferedEntry, OfferedRef}
use Rattle.smith_tree.specs.Marking.{exported_reference, marked_after_part, with_exports_entry, with_import_entry, with_type_entry}
use Rattle.smith_tree.specs.Spaces.{Spaces, after_export, after_part, no_spaces}
use Rattle.smith_tree.specs.Tree.{ExportEntry, Tree, Part, ends, first, custom, core_module, core_types, component, types, canons, imports, exports}
use Rattle.smith_tree.specs.TypeOffers.{has_room}

-- Entries of a section in a row: each is offered after those before it.

abbrev pub OfferedTypes : List Entry → List Marked → Marked → Type 0
OfferedTypes [] outer own = Unit {0}
OfferedTypes (e ∷ es) outer own = OfferedEntry e own outer × OfferedTypes es outer (with_type_entry outer own e)

abbrev pub OfferedImports : List ImportEntry → Marked → Type 0
OfferedImports [] own = Unit {0}
OfferedImports (i ∷ is) own = OfferedRef own true i.to × (has_room own false ≡ true) × OfferedImports is (with_import_entry own i)

-- Every component function can be exported if there is room.
abbrev pub OfferedExports : List ExportEntry → Spaces → Marked → Type 0
OfferedExports [] s own = Unit {0}
OfferedExports (e ∷ es) s own =
    (has_room own false ≡ true) × OfferedExports es (after_export s e) (with_exports_entry own (exported_reference s.functions e))

-- Parts after those before them, in the scopes around the component.
abbrev mutual
  pub OfferedParts : Tree → Config → Spaces → List Marked → Marked → Type 0
  OfferedParts ends config s outer own = Unit {0}
  OfferedParts (first p t) config s outer own = OfferedPart p config s outer own
      × OfferedParts t config (after_part s p) outer (marked_after_part p s outer own)

  pub OfferedPart : Part → Config → Spaces → List Marked → Marked → Type 0
  OfferedPart (custom name contents) config s outer own = Unit {0}
  OfferedPart (core_module text) config s outer own = Unit {0}
  OfferedPart (core_types ts) config s outer own = Unit {0}
  OfferedPart (component t) config s outer own = OfferedParts t config no_spaces (own ∷ outer) (empty_marked config.must_validate)
  OfferedPart (types ts) config s outer own = OfferedTypes ts outer own
  OfferedPart (canons fs) config s outer own = Unit {0}
  OfferedPart (imports is) config s outer own = OfferedImports is own
  OfferedPart (exports es) config s outer own = OfferedExports es s own

-- a component in no scope
abbrev pub IsOffered : Config → Tree → Type 0
IsOffered config t = OfferedParts t config no_spaces [] (empty_marked config.must_validate)
