-- What is kept for a validator of the types, imports and exports of components.
use Rattle.std.specs.Prelude.{ℕ, List, [], ◌∷◌, ◌++◌, fold, map, slice_get}
use Rattle.std.specs.Option.{option_to_list}
use Rattle.smith_format.specs.declared.config.Config.{Config}
use Rattle.smith_syntax.specs.Entries.{Entry, CoreEntry, ImportEntry}
use Rattle.smith_syntax.specs.Marked.{Marked, empty_marked, mark, with_export, with_import, with_marked, with_sized}
use Rattle.smith_syntax.specs.Sizes.{capped, module_type_size}
use Rattle.smith_syntax.specs.declared.deftype.ComponentTypeRef.{ComponentTypeRef}
use Rattle.smith_syntax.specs.declared.deftype.ComponentTypeRef.TheVariants as to
use Rattle.smith_tree.specs.Spaces.{Spaces, after_export, after_part, no_spaces}
use Rattle.smith_tree.specs.Tree.{ExportEntry, Tree, Part, ends, first, core_types, types, imports, exports}

-- Entries of sections, one by one.

abbrev pub with_type_entry : List Marked → Marked → Entry → Marked
with_type_entry outer own e = with_marked own e (mark e own outer)

abbrev pub with_core_entry : Marked → CoreEntry → Marked
with_core_entry own e = with_sized own e (capped (module_type_size own.core_types e))

abbrev pub with_import_entry : Marked → ImportEntry → Marked
with_import_entry own i = with_import own i.to

-- What a component exports is a function, of the type of the function that the export names.
abbrev pub exported_reference : List ℕ → ExportEntry → List ComponentTypeRef
exported_reference functions e = map (λ t. to.Func t) (option_to_list (slice_get functions e.func))

abbrev pub with_exports_entry : Marked → List ComponentTypeRef → Marked
with_exports_entry own rs = fold with_export own rs

abbrev pub with_export_entries : List ExportEntry → Spaces → Marked → Marked
with_export_entries [] s own = own
with_export_entries (e ∷ es) s own = with_export_entries es (after_export s e) (with_exports_entry own (exported_reference s.functions e))

-- after a part, in the scopes around the component
abbrev pub marked_after_part : Part → Spaces → List Marked → Marked → Marked
marked_after_part (core_types ts) s outer own = fold with_core_entry own ts
marked_after_part (types ts) s outer own = fold (with_type_entry outer) own ts
marked_after_part (imports is) s outer own = fold with_import_entry own is
marked_after_part (exports es) s outer own = with_export_entries es s own
marked_after_part _ s outer own = own

-- after parts
abbrev pub marked_after_parts : Tree → Spaces → List Marked → Marked → Marked
marked_after_parts ends s outer own = own
marked_after_parts (first p t) s outer own = marked_after_parts t (after_part s p) outer (marked_after_part p s outer own)

-- the scope of a component that has these parts
abbrev pub marked_of : Config → List Marked → Tree → Marked
marked_of config outer t = marked_after_parts t no_spaces outer (empty_marked config.must_validate)

-- the scopes of the open components, outermost first, in front of these
abbrev pub marked_from : Config → List Tree → List Marked → List Marked
marked_from config [] outer = outer
marked_from config (u ∷ us) outer = marked_from config us (marked_of config outer u ∷ outer)

abbrev pub marked_in : Config → List Tree → List Marked
marked_in config us = marked_from config us []

-- the scope of an inner component with these parts, if these are open around it
abbrev pub marked_inner : Config → List Tree → Tree → Marked
marked_inner config outer inner = marked_of config (marked_in config outer) inner
