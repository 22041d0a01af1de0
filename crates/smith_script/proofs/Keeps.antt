-- Whether anything is kept of a scope stays as it is, section by section.
use Rattle.std.proofs.Common.{◌≡◌, List, [], ◌∷◌, fold, refl, ◌∙◌}
use Rattle.smith_syntax.specs.Entries.{CoreEntry, Entry, ImportEntry}
use Rattle.smith_syntax.specs.Marked.{Marked, with_export}
use Rattle.smith_syntax.specs.declared.deftype.ComponentTypeRef.{ComponentTypeRef}
use Rattle.smith_tree.specs.Marking.{exported_reference, with_exports_entry}
use Rattle.smith_tree.specs.Tree.{Canon, ExportEntry, lift, lower, Part, core_types, types, canons, imports, exports}
use Rattle.smith_script.specs.Preceding.{Preceding, after_canon, after_core_type, after_export, after_import, after_section, after_type}
use Rattle.smith_tree.proofs.Marking.{references_keep}

module _ (outer : List Marked) where
  core_types_keep : (ts : List CoreEntry) (s : Preceding) → (fold (after_core_type outer) s ts).scope.keeps ≡ s.scope.keeps
  core_types_keep [] s = refl
  core_types_keep (t ∷ ts) s = core_types_keep ts (after_core_type outer s t)

  types_keep : (ts : List Entry) (s : Preceding) → (fold (after_type outer) s ts).scope.keeps ≡ s.scope.keeps
  types_keep [] s = refl
  types_keep (t ∷ ts) s = types_keep ts (after_type outer s t)

  canons_keep : (cs : List Canon) (s : Preceding) → (fold (after_canon outer) s cs).scope.keeps ≡ s.scope.keeps
  canons_keep [] s = refl
  canons_keep (lift c t ∷ cs) s = canons_keep cs (after_canon outer s (lift c t))
  canons_keep (lower f ∷ cs) s = canons_keep cs (after_canon outer s (lower f))

  imports_keep : (is : List ImportEntry) (s : Preceding) → (fold (after_import outer) s is).scope.keeps ≡ s.scope.keeps
  imports_keep [] s = refl
  imports_keep (i ∷ is) s = imports_keep is (after_import outer s i)

  exports_keep : (es : List ExportEntry) (s : Preceding) → (fold (after_export outer) s es).scope.keeps ≡ s.scope.keeps
  exports_keep [] s = refl
  exports_keep (e ∷ es) s = exports_keep es (after_export outer s e) ∙ references_keep (exported_reference s.functions e) s.scope

  pub section_keeps : (p : Part) (s : Preceding) → (after_section outer p s).scope.keeps ≡ s.scope.keeps
  section_keeps (core_types ts) s = core_types_keep ts s
  section_keeps (types ts) s = types_keep ts s
  section_keeps (canons cs) s = canons_keep cs s
  section_keeps (imports is) s = imports_keep is s
  section_keeps (exports es) s = exports_keep es s
  section_keeps _ s = refl
