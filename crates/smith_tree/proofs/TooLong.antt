-- Components that have no encoding.
use Rattle.std.proofs.Common.{rules, ◌≡◌, ◌↔◌, [], ◌∷◌, None}
use Rattle.smith_format.specs.Piece.{◌⊕◌, byte, many, u}
use Rattle.smith_format.proofs.Sizes.{u_none_where}
use Rattle.smith_format.proofs.TooLong.{join_none, after_bytes, before_bytes, bytes_none, name_none, raw_none, many_none_where, sized_none_by}
use Rattle.smith_syntax.specs.Grammar.{entry, core_entry, import_entry}
use Rattle.smith_syntax.proofs.TooLong.{entry_none, core_entry_none, import_entry_none}
use Rattle.smith_tree.specs.Grammar.{embedded, canon, export_entry, preamble, part, parts, component_text}
use Rattle.smith_tree.specs.TooLong.{CanonTooLong, ExportEntryTooLong, TreeTooLong, PartTooLong}
use Rattle.smith_tree.specs.Tree.{Canon, ExportEntry, lift, lower, Part, Tree, ends, first, custom, core_module, core_types, component, types}
use Rattle.smith_tree.specs.Tree.{canons, imports, exports}

canon_none : (f : Canon) → (canon f ≡ None) ↔ CanonTooLong f
canon_none (lift c t) =
    after_bytes (0x00 ∷ 0x00 ∷ []) (u c ⊕ byte 0x00 ⊕ u t) (join_none (u c) (byte 0x00 ⊕ u t) (u_none_where c) (after_bytes (0x00 ∷ []) (u t) (u_none_where t)))
canon_none (lower f) = after_bytes (0x01 ∷ 0x00 ∷ []) (u f ⊕ byte 0x00) (before_bytes (u f) (0x00 ∷ []) (u_none_where f))

export_none : (e : ExportEntry) → (export_entry e ≡ None) ↔ ExportEntryTooLong e
export_none e = search (rules, after_bytes, join_none, name_none, before_bytes, u_none_where)

mutual
  tree_none : (t : Tree) → (parts t ≡ None) ↔ TreeTooLong t
  tree_none ends = bytes_none []
  tree_none (first p t) = join_none (part p) (parts t) (part_none p) (tree_none t)

  part_none : (p : Part) → (part p ≡ None) ↔ PartTooLong p
  part_none (custom name contents) = search (rules, sized_none_by, join_none, name_none, raw_none)
  part_none (core_module bs) = sized_none_by 1 (embedded bs) (λ n. n, λ n. n)
  part_none (core_types ts) = sized_none_by 3 (many core_entry ts) (many_none_where core_entry core_entry_none ts)
  part_none (component t) = sized_none_by 4 (component_text t) (after_bytes preamble (parts t) (tree_none t))
  part_none (types ts) = sized_none_by 7 (many entry ts) (many_none_where entry entry_none ts)
  part_none (canons fs) = sized_none_by 8 (many canon fs) (many_none_where canon canon_none fs)
  part_none (imports is) = sized_none_by 10 (many import_entry is) (many_none_where import_entry import_entry_none is)
  part_none (exports es) = sized_none_by 11 (many export_entry es) (many_none_where export_entry export_none es)

pub component_none : (t : Tree) → (component_text t ≡ None) ↔ TreeTooLong t
component_none t = after_bytes preamble (parts t) (tree_none t)
