-- What is found for aliases and exports, and what a scope is with it.
use Rattle.std.specs.Prelude.{◌≡◌, ℕ, List, ◌∷◌, ◌++◌, true, map, option_map, Option}
use Rattle.std.specs.Borrow.{Bor}
use Rattle.std.specs.Option.{option_to_list}
use Rattle.smith_syntax.specs.Entries.{core_type_alias, type_alias}
use Rattle.smith_syntax.specs.Marked.{Marked, core_size_named, exported_mark, mark_named, marked_after, marks_for, more_kept, scope_in, scopes_in_marked}
use Rattle.smith_syntax.specs.Marks.{aliased_mark}
use Rattle.smith_syntax.specs.Scope.{core_type_named, exported_type, type_named}
use Rattle.smith_syntax.specs.declared.deftype.ComponentTypeRef.{ComponentTypeRef}
use Rattle.smith_syntax.specs.declared.marks.Mark.{Mark}
use Rattle.smith_read.specs.Nodes.{shown_core_node}
use Rattle.smith_read.specs.TypeNodes.{shown_type_node}
use Rattle.smith_read.specs.declared.core_types.CoreNode.{CoreNode}
use Rattle.smith_read.specs.declared.type_nodes.TypeNode.{TypeNode}

-- the scope after an outer alias

abbrev pub after_alias : List Marked → Marked → ℕ → ℕ → Marked
after_alias outer own count i = marked_after {N = Unit {0}} {K = Unit {0}} (type_alias count i tt) outer own

abbrev pub after_core_alias : List Marked → Marked → ℕ → ℕ → Marked
after_core_alias outer own count i = marked_after {N = Unit {0}} {K = Unit {0}} (core_type_alias count i tt) outer own

-- with what was found, and its mark or its size

abbrev pub with_found : Marked → Option (Bor TypeNode × Mark) → Marked
with_found own found = record own {
  types = own.types ++ option_to_list (option_map (λ f. shown_type_node f.0.now) found);
  marks = more_kept own.keeps own.marks (option_to_list (option_map (λ f. f.1) found));
}

abbrev pub with_found_core : Marked → Option (Bor CoreNode × ℕ) → Marked
with_found_core own found = record own {
  core_types = own.core_types ++ option_to_list (option_map (λ f. shown_core_node f.0.now) found);
  core_sizes = more_kept own.keeps own.core_sizes (option_to_list (option_map (λ f. f.1) found));
}

-- What an outer alias names in these scopes was found, and its mark in the innermost one.
pub record Found (own : Marked) (outer : List Marked) (count i : ℕ) (found : Option (Bor TypeNode × Mark)) : Type 0 where
  pub named : option_map (λ f. shown_type_node f.0.now) found ≡ type_named (scopes_in_marked (own ∷ outer)) count i
  pub marked : own.keeps ≡ true → option_to_list (option_map (λ f. f.1) found)
      ≡ marks_for (type_named (scopes_in_marked (own ∷ outer)) count i) (aliased_mark count (mark_named (own ∷ outer) count i))

pub record FoundCore (own : Marked) (outer : List Marked) (count i : ℕ) (found : Option (Bor CoreNode × ℕ)) : Type 0 where
  pub named : option_map (λ f. shown_core_node f.0.now) found ≡ core_type_named (scopes_in_marked (own ∷ outer)) count i
  pub sized : own.keeps ≡ true → option_to_list (option_map (λ f. f.1) found)
      ≡ map (λ x. core_size_named (own ∷ outer) count i) (option_to_list (core_type_named (scopes_in_marked (own ∷ outer)) count i))

-- What an export adds was found, and its mark.
pub record Exported (own : Marked) (r : ComponentTypeRef) (found : Option (Bor TypeNode × Mark)) : Type 0 where
  pub named : option_map (λ f. shown_type_node f.0.now) found ≡ exported_type (scope_in own) r
  pub marked : own.keeps ≡ true → option_to_list (option_map (λ f. f.1) found)
      ≡ marks_for (exported_type (scope_in own) r) (exported_mark own.marks r)
