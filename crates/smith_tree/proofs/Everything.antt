-- If nothing is kept, everything is offered; and if no number of sections is asked, any component may be finished.
use Rattle.std.proofs.Common.{◌≡◌, ℕ, Bool, true, false, List, [], ◌∷◌, ap, arith}
use Rattle.std.specs.List.{AllByRecursion}
use Rattle.smith_format.specs.declared.config.Config.{Config}
use Rattle.smith_syntax.specs.Entries.{Entry, ImportEntry, Decl, Decls, defined, function, component_type, instance_type}
use Rattle.smith_syntax.specs.Entries.{type_decl, import_decl, export_decl, no_decls, then_decls}
use Rattle.smith_syntax.specs.Marked.{Marked, empty_marked, marked_after}
use Rattle.smith_syntax.specs.Marks.{is_everywhere, is_small, is_somewhere}
use Rattle.smith_syntax.specs.Members.{members, signature_members}
use Rattle.smith_syntax.specs.Usable.{OfferedDecl, OfferedDecls, OfferedEntry, OfferedRef, OfferedValue, mark_at}
use Rattle.smith_syntax.specs.declared.deftype.ComponentTypeRef.{ComponentTypeRef}
use Rattle.smith_syntax.specs.declared.deftype.ComponentTypeRef.TheVariants as to
use Rattle.smith_syntax.specs.declared.marks.Mark.{Mark}
use Rattle.smith_syntax.specs.declared.types.ComponentValType.{ComponentValType}
use Rattle.smith_syntax.specs.declared.types.ComponentValType.TheVariants.{Primitive, Indexed}
use Rattle.smith_tree.specs.Marking.{exported_reference, marked_after_part, with_exports_entry, with_import_entry, with_type_entry}
use Rattle.smith_tree.specs.Offered.{IsOffered, OfferedExports, OfferedImports, OfferedPart, OfferedParts, OfferedTypes}
use Rattle.smith_tree.specs.Open.{is_finish_offered}
use Rattle.smith_tree.specs.Readable.{AreFinishable, IsFinishable}
use Rattle.smith_tree.specs.Spaces.{Spaces, after_export, after_part, no_spaces}
use Rattle.smith_tree.specs.Tree.{ExportEntry, Tree, Part, ends, first, component, types, imports, exports}
use Rattle.smith_tree.specs.Tree.{inside}
use Rattle.smith_tree.specs.Unmarked.{KeepsNothing}
use Rattle.smith_tree.proofs.Unmarked.{empty_keeps_nothing, nothing_after, nothing_after_import, nothing_after_part, nothing_after_reference}
use Rattle.smith_tree.proofs.Unmarked.{nothing_after_type, room_unmarked}

-- values and references

small_at : (own : Marked) (i : ℕ) → KeepsNothing own → is_small (mark_at own.marks i) ≡ true
small_at own i b = ap (λ (ms : List Mark). is_small (mark_at ms i)) b.marks

everywhere_at : (own : Marked) (i : ℕ) → KeepsNothing own → is_everywhere (mark_at own.marks i) ≡ true
everywhere_at own i b = ap (λ (ms : List Mark). is_everywhere (mark_at ms i)) b.marks

somewhere_at : (own : Marked) (i : ℕ) → KeepsNothing own → is_somewhere (mark_at own.marks i) ≡ true
somewhere_at own i b = ap (λ (ms : List Mark). is_somewhere (mark_at ms i)) b.marks

value_offered : (own : Marked) (v : ComponentValType) → KeepsNothing own → OfferedValue own v
value_offered own (Primitive p) b = tt
value_offered own (Indexed i) b = small_at own i b

values_offered : (own : Marked) (vs : List ComponentValType) → KeepsNothing own → AllByRecursion (OfferedValue own) vs
values_offered own [] b = tt
values_offered own (v ∷ vs) b = (value_offered own v b, values_offered own vs b)

ref_offered : (own : Marked) (for_import : Bool) (r : ComponentTypeRef) → KeepsNothing own → OfferedRef own for_import r
ref_offered own true (to.Module i) b = tt
ref_offered own false (to.Module i) b = tt
ref_offered own true (to.Func i) b = (small_at own i b, everywhere_at own i b)
ref_offered own false (to.Func i) b = (small_at own i b, somewhere_at own i b)
ref_offered own true (to.TypeEq i) b = (small_at own i b, somewhere_at own i b)
ref_offered own false (to.TypeEq i) b = (small_at own i b, somewhere_at own i b)
ref_offered own true (to.Component i) b = small_at own i b
ref_offered own false (to.Component i) b = small_at own i b
ref_offered own true (to.Instance i) b = small_at own i b
ref_offered own false (to.Instance i) b = small_at own i b

-- types

mutual
  entry_offered : (e : Entry) (own : Marked) (outer : List Marked) → KeepsNothing own → OfferedEntry e own outer
  entry_offered (defined t) own outer b = values_offered own (members t) b
  entry_offered (function s) own outer b = values_offered own (signature_members s) b
  entry_offered (component_type ds) own outer b = decls_offered ds (own ∷ outer) (empty_marked own.keeps) (empty_keeps_nothing own.keeps b.keeps)
  entry_offered (instance_type ds) own outer b = decls_offered ds (own ∷ outer) (empty_marked own.keeps) (empty_keeps_nothing own.keeps b.keeps)

  decl_offered : (d : Decl) (outer : List Marked) (own : Marked) → KeepsNothing own → OfferedDecl d outer own
  decl_offered (type_decl e) outer own b = entry_offered e own outer b
  decl_offered (import_decl name n r) outer own b = ref_offered own true r b
  decl_offered (export_decl name n r) outer own b = ref_offered own false r b
  decl_offered _ outer own b = tt

  decls_offered : (ds : Decls) (outer : List Marked) (own : Marked) → KeepsNothing own → OfferedDecls ds outer own
  decls_offered no_decls outer own b = tt
  decls_offered (then_decls d ds) outer own b = (decl_offered d outer own b, decls_offered ds outer (marked_after d outer own) (nothing_after d outer own b))

-- sections

types_offered : (es : List Entry) (outer : List Marked) (own : Marked) → KeepsNothing own → OfferedTypes es outer own
types_offered [] outer own b = tt
types_offered (e ∷ es) outer own b = (entry_offered e own outer b, types_offered es outer (with_type_entry outer own e) (nothing_after_type outer own e b))

imports_offered : (is : List ImportEntry) (own : Marked) → KeepsNothing own → OfferedImports is own
imports_offered [] own b = tt
imports_offered (i ∷ is) own b =
    (ref_offered own true i.to b, room_unmarked own b false, imports_offered is (with_import_entry own i) (nothing_after_import own i b))

exports_offered : (es : List ExportEntry) (s : Spaces) (own : Marked) → KeepsNothing own → OfferedExports es s own
exports_offered [] s own b = tt
exports_offered (e ∷ es) s own b = (
  room_unmarked own b false,
  exports_offered es (after_export s e)
      (with_exports_entry own (exported_reference s.functions e)) (nothing_after_reference own (exported_reference s.functions e) b),
)

module _ (config : Config) (off : config.must_validate ≡ false) where
  mutual
    parts_offered : (t : Tree) (s : Spaces) (outer : List Marked) (own : Marked) → KeepsNothing own → OfferedParts t config s outer own
    parts_offered ends s outer own b = tt
    parts_offered (first p t) s outer own b =
        (part_offered p s outer own b, parts_offered t (after_part s p) outer (marked_after_part p s outer own) (nothing_after_part p s outer own b))

    part_offered : (p : Part) (s : Spaces) (outer : List Marked) (own : Marked) → KeepsNothing own → OfferedPart p config s outer own
    part_offered (component t) s outer own b =
        parts_offered t no_spaces (own ∷ outer) (empty_marked config.must_validate) (empty_keeps_nothing config.must_validate off)
    part_offered (types ts) s outer own b = types_offered ts outer own b
    part_offered (imports is) s outer own b = imports_offered is own b
    part_offered (exports es) s outer own b = exports_offered es s own b
    part_offered _ s outer own b = tt

  pub everything_offered : (t : Tree) → IsOffered config t
  everything_offered t = parts_offered t no_spaces [] (empty_marked config.must_validate) (empty_keeps_nothing config.must_validate off)

-- the end of components

module _ (config : Config) (none : config.finish_after ≡ 0) where
  finishable : (t : Tree) → IsFinishable config t
  finishable t = omega (arith, none)

  all_finishable : (ts : List Tree) → AllByRecursion (IsFinishable config) ts
  all_finishable [] = tt
  all_finishable (t ∷ ts) = (finishable t, all_finishable ts)

  pub components_finishable : (t : Tree) → AreFinishable config t
  components_finishable t = all_finishable (t ∷ inside t)

  pub finish_offered : (t : Tree) → is_finish_offered config t ≡ true
  finish_offered t = grind (arith, none)
