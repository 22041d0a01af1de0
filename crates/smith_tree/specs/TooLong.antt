-- Which components have no encoding, because a count, the length of a name or of a section, or an index in them exceeds
-- 4,294,967,295.
use Rattle.std.specs.Prelude.{◌≡◌, ◌⊎◌, None}
use Rattle.smith_format.specs.Piece.{◌⊕◌, raw, text, many}
use Rattle.smith_format.specs.TooLong.{IsTooLarge, NameTooLong, NoBytes, ListTooLong, ContentsTooLong}
use Rattle.smith_syntax.specs.Grammar.{entry, core_entry, import_entry}
use Rattle.smith_syntax.specs.TooLong.{EntryTooLong, CoreEntryTooLong, ImportEntryTooLong}
use Rattle.smith_tree.specs.Grammar.{embedded, canon, export_entry, component_text}
use Rattle.smith_tree.specs.Tree.{Canon, ExportEntry, lift, lower, Part, Tree, ends, first, custom, core_module, core_types, component, types}
use Rattle.smith_tree.specs.Tree.{canons, imports, exports}

-- an index in a canonical function
abbrev pub CanonTooLong : Canon → Type 0
CanonTooLong (lift c t) = IsTooLarge c ⊎ IsTooLarge t
CanonTooLong (lower f) = IsTooLarge f

-- the name of an export, or its index
abbrev pub ExportEntryTooLong : ExportEntry → Type 0
ExportEntryTooLong e = NameTooLong e.name ⊎ IsTooLarge e.func

-- Numbers that are not bytes occur in no component of the program, and bytes that are not a core module only if a
-- module is too long itself.
abbrev mutual
  pub TreeTooLong : Tree → Type 0
  TreeTooLong ends = ⊥
  TreeTooLong (first p t) = PartTooLong p ⊎ TreeTooLong t

  pub PartTooLong : Part → Type 0
  PartTooLong (custom name contents) = (NameTooLong name ⊎ NoBytes contents) ⊎ ContentsTooLong (text name ⊕ raw contents)
  PartTooLong (core_module bs) = (embedded bs ≡ None) ⊎ ContentsTooLong (embedded bs)
  PartTooLong (core_types ts) = ListTooLong CoreEntryTooLong ts ⊎ ContentsTooLong (many core_entry ts)
  PartTooLong (component t) = TreeTooLong t ⊎ ContentsTooLong (component_text t)
  PartTooLong (types ts) = ListTooLong EntryTooLong ts ⊎ ContentsTooLong (many entry ts)
  PartTooLong (canons fs) = ListTooLong CanonTooLong fs ⊎ ContentsTooLong (many canon fs)
  PartTooLong (imports is) = ListTooLong ImportEntryTooLong is ⊎ ContentsTooLong (many import_entry is)
  PartTooLong (exports es) = ListTooLong ExportEntryTooLong es ⊎ ContentsTooLong (many export_entry es)
