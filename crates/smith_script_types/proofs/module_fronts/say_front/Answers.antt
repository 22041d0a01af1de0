use Rattle.std.proofs.Common.{◌≡◌, ap, map, ◌∙◌}
use Rattle.smith_syntax.specs.ModuleTypes.{after_front, after_memory, after_realloc}
use Rattle.smith_read.specs.Nodes.{shown_module_node}
use Rattle.smith_tree.specs.ModuleScript.{front_before, may_declare}
use Rattle.smith_script_types.proofs.Saying.{ends, gives_up, unsaid_left, unsaid_right}
use Rattle.smith_script_types.proofs.module_fronts.say_front.Goals as goal

pub returns-in_err-say_line-2 : goal.returns-in_err-say_line-2
returns-in_err-say_line-2 c fuel =
    let ds = map shown_module_node c.args.decls.now in
    let no_memory : map shown_module_node c.after_memory-no_memory.result.now ≡ after_memory ds = c.after_memory-no_memory.ensures in
    let no_realloc : map shown_module_node c.after_realloc-no_realloc.result.now ≡ after_realloc (after_memory ds) =
    c.after_realloc-no_realloc.ensures ∙ ap after_realloc no_memory in
    let may = (c.in_ok-may_realloc.ensures {u = tt}).may fuel
    ∙ ap (λ z. may_declare c.args.place.config.now (front_before fuel ds z)) no_memory in
    gives_up _ _ _ _ c.from_residual-in_err-say_line-2.ensures.1
    (unsaid_right _ (unsaid_left _ (rw (may, no_realloc, no_memory) at (c.in_err-say_line-2.ensures {u = tt}))))

pub returns : goal.returns
returns c fuel =
    let ds = map shown_module_node c.args.decls.now in
    let no_memory : map shown_module_node c.after_memory-no_memory.result.now ≡ after_memory ds = c.after_memory-no_memory.ensures in
    let no_realloc : map shown_module_node c.after_realloc-no_realloc.result.now ≡ after_realloc (after_memory ds) =
    c.after_realloc-no_realloc.ensures ∙ ap after_realloc no_memory in
    let no_free : map shown_module_node c.after_front-no_free.result.now ≡ after_front ds = c.after_front-no_free.ensures in
    let may = (c.in_ok-may_realloc.ensures {u = tt}).may fuel
    ∙ ap (λ z. may_declare c.args.place.config.now (front_before fuel ds z)) no_memory in
    let may_free = (c.in_ok-may_free.ensures {u = tt}).may fuel
    ∙ ap (λ z. may_declare c.args.place.config.now (front_before fuel ds z)) no_realloc in
    ends c.say_line-3.result _ _ (rw no_memory at (c.in_ok-say_line.ensures {u = tt}))
    (ends c.say_line-3.result _ _ (rw (may, no_realloc, no_memory) at (c.in_ok-say_line-2.ensures {u = tt}))
    (rw (may_free, no_realloc, no_free) at c.say_line-3.ensures))
