-- What is kept of the components that are open, beside the scopes by which their parts are judged.
use Rattle.std.proofs.Common.{◌≡◌, ◌+◌, ◌≤◌, ◌^◌, List, [], ◌∷◌, ◌++◌, length, fold, arith, refl, sym, ap, ◌∙◌, subst}
use Rattle.smith_format.specs.declared.config.Config.{Config}
use Rattle.smith_syntax.specs.Entries.{Entry, CoreEntry}
use Rattle.smith_syntax.specs.Marked.{Marked, empty_marked, scope_in, scopes_in_marked}
use Rattle.smith_syntax.specs.WellFormed.{FormedCores, FormedTypes}
use Rattle.smith_tree.proofs.Marking.{marked_add, scope_marked, scopes_marked}
use Rattle.smith_tree.specs.Functions.{functions_of}
use Rattle.smith_tree.specs.Marking.{exported_reference, marked_in, marked_inner, with_export_entries, with_exports_entry}
use Rattle.smith_tree.specs.Offered.{OfferedPart, OfferedParts}
use Rattle.smith_tree.specs.Offers.{with_exports}
use Rattle.smith_tree.specs.Open.{scopes_in}
use Rattle.smith_tree.specs.Spaces.{Spaces, after_export, core_types_of, no_spaces, spaces_of, types_of}
use Rattle.smith_tree.specs.Tree.{ExportEntry, Tree, Part, add, component, ends, exports, first, types}
use Rattle.smith_tree.specs.WellFormed.{FormedPart, scope_of}
use Rattle.smith_types.proofs.ReferencesRead.{IsFew}
use Rattle.smith_component.proofs.Growth.{spaces-add}
use Rattle.smith_component.proofs.Sound.{marked_in-snoc}

-- The scope of a component is that by which its parts are judged, with what is kept in it.
module _ (config : Config) (outer : List Tree) (t : Tree) where
  pub marked_types : (marked_inner config outer t).types ≡ types_of t
  marked_types = ap (λ s. s.types) (scope_marked config (marked_in config outer) t)

  pub marked_core_types : (marked_inner config outer t).core_types ≡ core_types_of t
  marked_core_types = ap (λ s. s.core_types) (scope_marked config (marked_in config outer) t)

  -- It has no more entries than a choice can be spelled of.
  pub marked_few : length (types_of t) + length (core_types_of t) ≤ 2 ^ 64 → IsFew (marked_inner config outer t)
  marked_few few = omega (arith, few, ap length marked_types, ap length marked_core_types)

  pub formed_marked : (ts : List Entry) → FormedPart (types ts) (scopes_in outer) t
      → FormedTypes ts (scope_in (marked_inner config outer t)) (scopes_in_marked (marked_in config outer))
  formed_marked ts formed = grind (arith, scope_marked, scopes_marked)

  pub formed_plain : (ts : List Entry) → FormedTypes ts (scope_in (marked_inner config outer t)) (scopes_in_marked (marked_in config outer))
      → FormedPart (types ts) (scopes_in outer) t
  formed_plain ts formed = grind (arith, scopes_marked, scope_marked)

  pub formed_core_marked : (ts : List CoreEntry) → FormedCores ts (scope_of t) → FormedCores ts (scope_in (marked_inner config outer t))
  formed_core_marked ts formed = subst (FormedCores ts) (sym (scope_marked config (marked_in config outer) t)) formed

  pub formed_core_plain : (ts : List CoreEntry) → FormedCores ts (scope_in (marked_inner config outer t)) → FormedCores ts (scope_of t)
  formed_core_plain ts formed = subst (FormedCores ts) (scope_marked config (marked_in config outer) t) formed

-- With a section of exports.

entries_more : (es : List ExportEntry) (x : ExportEntry) (s : Spaces) (own : Marked)
    → with_export_entries (es ++ x ∷ []) s own ≡ with_exports_entry (with_export_entries es s own) (exported_reference (fold after_export s es).functions x)
entries_more [] x s own = refl
entries_more (e ∷ es) x s own = entries_more es x (after_export s e) (with_exports_entry own (exported_reference s.functions e))

module _ (config : Config) (outer : List Tree) (t : Tree) (es : List ExportEntry) where
  pub exports_marked : marked_inner config outer (with_exports t es) ≡ with_export_entries es (spaces_of t) (marked_inner config outer t)
  exports_marked = marked_add config (marked_in config outer) t (exports es)

-- one more export
pub exports_marked_more : (config : Config) (outer : List Tree) (t : Tree) (es : List ExportEntry) (x : ExportEntry)
    → marked_inner config outer (with_exports t (es ++ x ∷ []))
    ≡ with_exports_entry (marked_inner config outer (with_exports t es)) (exported_reference (functions_of (with_exports t es)) x)
exports_marked_more config outer t es x = grind (arith, exports_marked, entries_more, spaces-add)

-- What is offered of the rest of a component, when these components are open around it and these parts precede it.
abbrev pub OfferedRest : Config → List Tree → Tree → Tree → Type 0
OfferedRest config outer before t = OfferedParts t config (spaces_of before) (marked_in config outer) (marked_inner config outer before)

pub offered_past : (p : Part) (t : Tree) (config : Config) (outer : List Tree) (before : Tree) → OfferedRest config outer before (first p t)
    → OfferedRest config outer (add before p) t
offered_past p t config outer before h = grind (arith, spaces-add, marked_add)

pub offered_inside : (u : Tree) (config : Config) (outer : List Tree) (before : Tree)
    → OfferedPart (component u) config (spaces_of before) (marked_in config outer) (marked_inner config outer before)
    → OfferedRest config (outer ++ before ∷ []) ends u
offered_inside u config outer before h =
    subst (λ ms. OfferedParts u config no_spaces ms (empty_marked config.must_validate)) (sym (marked_in-snoc config outer before)) h
