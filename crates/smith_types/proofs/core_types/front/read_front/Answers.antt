use Rattle.std.proofs.Common.{ap, map, refl, subst, sym, [], ◌≡◌, ◌∙◌}
use Rattle.smith_format.specs.Shown.{shown_func}
use Rattle.smith_types.specs.MadeCore.{MemoryLine, ReadsFunctionLine, ReadsLine}
use Rattle.smith_format.specs.CoreTypes.{Function}
use Rattle.smith_tree.specs.CoreTypeOffers.{Declared as SoFar}
use Rattle.smith_types.specs.MakingCore.{KeepEach, own_after, shown_funcs, so_far}
use Rattle.smith_syntax.specs.Shown.{shown_decl}
use Rattle.std.specs.Prelude.{codes, nat_lt}
use Rattle.smith_types.proofs.MakingCore.{same_state}
use Rattle.smith_types.proofs.core_types.front.read_front.Goals as goal

pub returns-clause-reads : goal.returns-clause-reads
returns-clause-reads c fuel =
    let first = so_far c.memory_line.new.declared fuel in
    let L : SoFar → Type 0 = λ s. ReadsLine (nat_lt 0 c.args.making.now.config.now.max_memories) MemoryLine s c.args.u.now first c.memory_line.new.u in
    let config = c.args.making.now.config.now in
    let second = so_far c.function_line.new.declared fuel in
    let last = so_far c.function_line-2.new.declared fuel in
    let Reallocs : Function → Type 0 = λ f. ReadsFunctionLine config (codes "canonical_abi_realloc") f first c.memory_line.new.u second c.function_line.new.u in
    let Frees : Function → Type 0 = λ f. ReadsFunctionLine config (codes "canonical_abi_free") f second c.function_line.new.u last c.function_line-2.new.u in
    record {
      with_memory = first;
      after_memory = c.memory_line.new.u;
      memory = subst L (same_state fuel fuel (ap (map (λ t. shown_func t.value)) c.in_ok-with_capacity.ensures.items)
          (ap (map shown_decl) c.in_ok-with_capacity-2.ensures.none) refl) (c.in_ok-memory_line.ensures.reads fuel);
      with_realloc = second;
      after_realloc = c.function_line.new.u;
      reallocs = subst Reallocs (ap shown_func c.in_ok-realloc.ensures.cases ∙ c.in_ok-types.types.now.reallocates)
          (c.in_ok-function_line.ensures.reads fuel);
      frees = subst Frees (ap shown_func c.in_ok-free.ensures.cases ∙ c.in_ok-types.types.now.frees)
          (c.in_ok-function_line-2.ensures.reads fuel);
    }

pub returns-clause-kept : goal.returns-clause-kept
returns-clause-kept c around =
    let own = c.in_ok-with_capacity.field-0.items in
    let defs = c.in_ok-with_capacity-2.field-0.defs.items in
    let owns = ap shown_funcs c.in_ok-with_capacity.ensures.items in
    let none = c.in_ok-with_capacity-2.ensures.none in
    let first : KeepEach around [] defs × (own_after around [] (map shown_decl defs) ≡ shown_funcs own) =
    (subst (KeepEach around []) (sym none) tt, ap (λ ds. own_after around [] (map shown_decl ds)) none ∙ sym owns) in
    c.in_ok-function_line-2.ensures.kept around (c.in_ok-function_line.ensures.kept around (c.in_ok-memory_line.ensures.kept around first))
