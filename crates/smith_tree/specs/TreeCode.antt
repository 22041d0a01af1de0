-- A code of trees, by which proofs distinguish them.
use Rattle.std.specs.Prelude.{◌≡◌, ℕ, List}
use Rattle.std.specs.Coded.{Coded, coded_ℕ, coded_list, codes}
use Rattle.std.proofs.Common.{arith, refl, ap}
use base.Stored.{Gv, gnil, gnum, gcons, num}
use Rattle.smith_syntax.specs.Entries.{Entry, CoreEntry, ImportEntry}
use Rattle.smith_syntax.specs.EntryCode.{entry_code, front, back}
use Rattle.smith_tree.specs.Tree.{Canon, ExportEntry, Tree, Part, ends, first, custom, core_module, core_types, component, types, canons, imports, exports}

bytes_code : Coded (List ℕ)
bytes_code = coded_list coded_ℕ

core_entries_code : Coded (List CoreEntry)
core_entries_code = Prim.hlevel codes

entries_code : Coded (List Entry)
entries_code = coded_list entry_code

canons_code : Coded (List Canon)
canons_code = Prim.hlevel codes

imports_code : Coded (List ImportEntry)
imports_code = Prim.hlevel codes

exports_code : Coded (List ExportEntry)
exports_code = Prim.hlevel codes

abbrev mutual
  code_tree : Tree → Gv
  code_tree ends = gnil
  code_tree (first p t) = gcons (code_part p) (code_tree t)

  code_part : Part → Gv
  code_part (custom name contents) = gcons (gnum 0) (gcons (bytes_code.code name) (bytes_code.code contents))
  code_part (core_module bs) = gcons (gnum 1) (bytes_code.code bs)
  code_part (core_types ts) = gcons (gnum 2) (core_entries_code.code ts)
  code_part (component t) = gcons (gnum 3) (code_tree t)
  code_part (types ts) = gcons (gnum 4) (entries_code.code ts)
  code_part (canons fs) = gcons (gnum 5) (canons_code.code fs)
  code_part (imports is) = gcons (gnum 6) (imports_code.code is)
  code_part (exports es) = gcons (gnum 7) (exports_code.code es)

mutual
  tree_inj : (t r : Tree) → code_tree t ≡ code_tree r → t ≡ r
  tree_inj ends ends e = refl
  tree_inj (first x t) (first y r) e = λ i. first (part_inj x y (ap front e) i) (tree_inj t r (ap back e) i)
  tree_inj ends (first y r) e = cc
  tree_inj (first x t) ends e = cc

  part_inj : (x y : Part) → code_part x ≡ code_part y → x ≡ y
  part_inj (custom n c) (custom m d) e = λ i. custom (bytes_code.inj n m (ap (λ g. front (back g)) e) i) (bytes_code.inj c d (ap (λ g. back (back g)) e) i)
  part_inj (core_module n) (core_module m) e = ap core_module (bytes_code.inj n m (ap back e))
  part_inj (core_types n) (core_types m) e = ap core_types (core_entries_code.inj n m (ap back e))
  part_inj (component n) (component m) e = ap component (tree_inj n m (ap back e))
  part_inj (types n) (types m) e = ap types (entries_code.inj n m (ap back e))
  part_inj (canons n) (canons m) e = ap canons (canons_code.inj n m (ap back e))
  part_inj (imports n) (imports m) e = ap imports (imports_code.inj n m (ap back e))
  part_inj (exports n) (exports m) e = ap exports (exports_code.inj n m (ap back e))
  part_inj x y e = let c = ap (λ g. num (front g)) e in absurd (omega arith)

pub tree_code : Coded Tree
tree_code = record { code = code_tree; inj = tree_inj }
