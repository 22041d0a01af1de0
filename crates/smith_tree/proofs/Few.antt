-- After a hundred declarations the size and the counts are below their bounds.
use Rattle.std.proofs.Common.{ℕ, ◌+◌, ◌*◌, ◌≤◌, true, false, List, [], ◌∷◌, length, map, arith}
use Rattle.std.proofs.Common.{Option, slice_get, option_to_list}
use Rattle.std.proofs.lemmas.List.{length-map}
use Rattle.smith_format.specs.declared.config.Config.{Config}
use Rattle.smith_input.proofs.Lists.{one_at_most}
use Rattle.smith_syntax.specs.Entries.{Decl, core_type_decl, type_decl, type_alias, core_type_alias, import_decl, export_decl}
use Rattle.smith_syntax.specs.Marked.{Marked}
use Rattle.smith_syntax.specs.Marks.{small_size}
use Rattle.smith_syntax.specs.Usable.{OfferedDecl}
use Rattle.smith_syntax.specs.declared.deftype.ComponentTypeRef.{ComponentTypeRef}
use Rattle.smith_syntax.specs.declared.deftype.ComponentTypeRef.TheVariants as to
use Rattle.smith_tree.specs.Bodies.{Body, IsSmall, after_decl, after_export, after_import, core_facts, empty_body, equal_facts, exported_facts, facts}
use Rattle.smith_tree.specs.Bodies.{reference_size, with_core_facts, with_facts}
use Rattle.smith_tree.specs.Counts.{Counts, ValidCounts, with_export, with_import, with_type_count}
use Rattle.smith_tree.specs.Demands.{everything}
use Rattle.smith_tree.specs.Facts.{CoreFacts, FactScope, Facts, Id, id_at, sizes as fact_sizes}
use Rattle.smith_tree.specs.Validates.{names_of}
use Rattle.smith_tree.proofs.SmallSizes.{small_reference}
use Rattle.smith_tree.proofs.TiedBodies.{TiedBody}

-- all that is counted
abbrev pub counted : Counts → ℕ
counted c = c.types + c.functions + c.modules + c.components + c.instances + c.imports + c.exports

-- after that many declarations
pub record Few (n : ℕ) (b : Body) : Type 0 where
  pub size : b.size ≤ 1 + n * 9999
  pub counts : counted b.counts ≤ 2 * n

pub few_none : Few 0 empty_body
few_none = record { size = omega arith; counts = omega arith }

pub few_small : (n : ℕ) (b : Body) → Few n b → n ≤ 100 → IsSmall everything b
few_small n b f few = (omega (arith, f.size), few_counts b.counts (omega (arith, f.counts)))
  where
    few_counts : (c : Counts) → counted c ≤ 200 → ValidCounts c
    few_counts c k = grind arith

counted_import : (c : Counts) (r : ComponentTypeRef) → counted (with_import c r) ≤ counted c + 2
counted_import c (to.Module i) = omega arith
counted_import c (to.Func i) = omega arith
counted_import c (to.TypeEq i) = omega arith
counted_import c (to.Component i) = omega arith
counted_import c (to.Instance i) = omega arith

equal_count : (id : Id) (f : Option Facts) → length (map (equal_facts id) (option_to_list f)) ≤ 1
equal_count id f = omega (arith, length-map (option_to_list f) (equal_facts id), one_at_most f)

counted_export : (c : Counts) (own : FactScope) (outer : List FactScope) (r : ComponentTypeRef)
    → counted (with_type_count (with_export c r) (length (exported_facts own outer r))) ≤ counted c + 2
counted_export c own outer (to.TypeEq i) = omega (arith, equal_count (id_at (own ∷ outer)) (slice_get own.types i))
counted_export c own outer _ = omega arith

-- after that many more types or core types, and after an import and an export

few_types : (n : ℕ) (b : Body) (fs : List Facts) → Few n b → length fs ≤ 1 → Few (n + 1) (with_facts b fs)
few_types n b fs f one = record { size = omega (arith, f.size); counts = omega (arith, f.counts) }

few_cores : (n : ℕ) (b : Body) (fs : List CoreFacts) → Few n b → length fs ≤ 1 → Few (n + 1) (with_core_facts b fs)
few_cores n b fs f one = record { size = omega (arith, f.size); counts = omega (arith, f.counts) }

few_import : (n : ℕ) (b : Body) (outer : List FactScope) (r : ComponentTypeRef) → Few n b
    → reference_size b.own.core_types (fact_sizes b.own.types) r ≤ small_size → Few (n + 1) (after_import outer b r)
few_import n b outer r f h = record { size = omega (arith, f.size); counts = omega (arith, f.counts, counted_import b.counts r) }

few_export : (n : ℕ) (b : Body) (outer : List FactScope) (r : ComponentTypeRef) → Few n b
    → reference_size b.own.core_types (fact_sizes b.own.types) r ≤ small_size → Few (n + 1) (after_export outer b r)
few_export n b outer r f h = record { size = omega (arith, f.size); counts = omega (arith, f.counts, counted_export b.counts b.own outer r) }

pub few_decl : (config : Config) (d : Decl) (marked : List Marked) (outer : List FactScope) (m : Marked) (b : Body) (n : ℕ) → TiedBody config m b
    → OfferedDecl d marked m → Few n b → Few (n + 1) (after_decl d outer b)
few_decl config (core_type_decl e kept) marked outer m b n t h f = few_cores n b (core_facts e b.own ∷ []) f (omega arith)
few_decl config (type_decl e) marked outer m b n t h f = few_types n b (facts e b.own outer ∷ []) f (omega arith)
few_decl config (type_alias count i kept) marked outer m b n t h f = grind (arith, few_types, option_to_list, one_at_most)
few_decl config (core_type_alias count i kept) marked outer m b n t h f = grind (arith, few_cores, option_to_list, one_at_most)
few_decl config (import_decl name k r) marked outer m b n t h f =
    few_import n b outer r f (small_reference config (names_of b.exports) m b.own true r t.own h)
few_decl config (export_decl name k r) marked outer m b n t h f =
    few_export n b outer r f (small_reference config (names_of b.exports) m b.own false r t.own h)
