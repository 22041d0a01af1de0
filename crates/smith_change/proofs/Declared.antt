-- Declarations in order, of which one may be an import.
use Rattle.std.proofs.Common.{◌≡◌, ℕ, ◌+◌, ◌<◌, ◌≤◌, ap}
use Rattle.std.proofs.Common.{List, [], ◌++◌, drop, get_or, map, length}
use Rattle.smith_input.proofs.Rests.{drop_past, rest_at}
use Rattle.smith_syntax.specs.Entries.{in_order}
use Rattle.smith_syntax.specs.WellFormed.{decl_imports, import_of}
use Rattle.smith_read.specs.TypeNodes.{shown_decl_node}
use Rattle.smith_read.specs.declared.type_nodes.DeclNode.{DeclNode}

abbrev pub imports_from : List DeclNode → ℕ → List (List ℕ × Unit {0})
imports_from xs i = decl_imports (in_order (map shown_decl_node (drop i xs)))

pub imports_next : (xs : List DeclNode) (i : ℕ) (x : DeclNode) → i < length xs → x ≡ get_or xs i x
    → imports_from xs i ≡ import_of (shown_decl_node x) ++ imports_from xs (i + 1)
imports_next xs i x lt at = ap (λ ds. decl_imports (in_order (map shown_decl_node ds))) (rest_at xs i x lt at)

pub imports_end : (xs : List DeclNode) (i : ℕ) → length xs ≤ i → imports_from xs i ≡ []
imports_end xs i ge = ap (λ ds. decl_imports (in_order (map shown_decl_node ds))) (drop_past xs i ge)

pub ruleset imports = (imports_next, imports_end)
