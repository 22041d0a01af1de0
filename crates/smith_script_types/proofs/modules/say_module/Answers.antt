use Rattle.std.proofs.Common.{◌≡◌, ◌-◌, ◌++◌, ◌∷◌, [], ap, length, map, refl, subst, ◌∙◌, arith}
use Rattle.std.proofs.lemmas.List.{length-map}
use Rattle.smith_syntax.specs.ModuleTypes.{after_front}
use Rattle.smith_read.specs.Nodes.{shown_module_node}
use Rattle.smith_script_types.proofs.Saying.{Towards, adds_then, gives_up, memory_unsaid, towards_end, towards_exit}
use Rattle.smith_script_types.proofs.Saying.{towards_start, towards_step, unsaid_left, unsaid_right}
use Rattle.smith_script_types.proofs.ModuleTurns.{after_within, module_at, module_over, module_start}
use Rattle.smith_script_types.proofs.TableSteps.{shown_more}
use Rattle.smith_script_types.specs.Places.{plain_at}
use Rattle.smith_script_types.proofs.modules.say_module.Goals as goal

pub returns-in_err-say_front : goal.returns-in_err-say_front
returns-in_err-say_front c fuel = gives_up _ _ _ _ c.from_residual.ensures.1 (unsaid_left _ (c.in_err-say_front.ensures {u = tt} fuel))

pub overflow_sub-front : goal.overflow_sub-front
overflow_sub-front c =
    let xs = c.args.decls.now in
    let after = c.after_front.result.now in
    omega (
      arith,
      ap length c.after_front.ensures,
      length-map xs shown_module_node,
      length-map after shown_module_node,
      after_within (map shown_module_node xs),
    )

pub loop-index-init : goal.loop-index-init
loop-index-init c =
    let xs = c.args.decls.now in
    let after = c.after_front.result.now in
    let front : length xs - length after ≡ length xs - length (after_front (map shown_module_node xs)) =
    omega (arith, ap length c.after_front.ensures, length-map after shown_module_node) in
    record {
      from = omega arith;
      decls = ap (λ s. s.decls) (c.in_ok-declared.ensures {u = tt}).front;
      left = λ fuel.
          subst (Towards c.args.out.now c.say_front.new.out _)
          (module_start c.args.place.config.now (plain_at c.args.place) xs fuel _ _ front (c.in_ok-declared.ensures {u = tt}).front)
          (towards_step _ _ (towards_start _ _) refl (c.in_ok-say_front.ensures {u = tt} fuel));
    }

pub loop-index-preserved : goal.loop-index-preserved
loop-index-preserved c =
    let xs = c.args.decls.now in
    let x = c.index-decls-index.result in
    let more = (c.in_ok-declared-2.ensures {u = tt}).more in
    record {
      from = omega (arith, c.loop-index.invariant.from);
      decls = ap (λ s. s.decls) more ∙ ap (λ ds. ds ++ shown_module_node x ∷ []) c.loop-index.invariant.decls
          ∙ shown_more xs c.loop-index.index x c.loop-index-test.true c.index-decls-index.is;
      left = λ fuel.
          towards_step _ _ (c.loop-index.invariant.left fuel)
          (module_at c.args.place.config.now (plain_at c.args.place) xs _ _ _ _ x c.loop-index.invariant.from
          c.loop-index-test.true c.index-decls-index.is more)
          (adds_then (c.in_ok-say_more.ensures {u = tt}) (c.in_ok-say_decl.ensures {u = tt}));
    }

pub returns-in_err-say_more : goal.returns-in_err-say_more
returns-in_err-say_more c fuel =
    gives_up _ _ _ _ c.from_residual-in_err-say_more.ensures.1
    (towards_exit _ _ (c.loop-index.invariant.left fuel)
    (module_at c.args.place.config.now (plain_at c.args.place) c.args.decls.now _ _ _ _ c.index-decls-index.result c.loop-index.invariant.from
    c.loop-index-test.true c.index-decls-index.is refl)
    (unsaid_left _ (c.in_err-say_more.ensures {u = tt})))

pub returns-in_err-say_decl : goal.returns-in_err-say_decl
returns-in_err-say_decl c fuel =
    gives_up _ _ _ _ c.from_residual-in_err-say_decl.ensures.1
    (towards_exit _ _ (c.loop-index.invariant.left fuel)
    (module_at c.args.place.config.now (plain_at c.args.place) c.args.decls.now _ _ _ _ c.index-decls-index.result c.loop-index.invariant.from
    c.loop-index-test.true c.index-decls-index.is refl)
    (unsaid_right _ (c.in_err-say_decl.ensures {u = tt})))

pub returns-in_err-declared-2 : goal.returns-in_err-declared-2
returns-in_err-declared-2 c fuel =
    gives_up _ _ _ _ c.from_residual-in_err-declared-2.ensures.1 (memory_unsaid _ _ (c.in_err-declared-2.ensures {u = tt}).memory)

pub returns : goal.returns
returns c fuel =
    let all : c.loop-index.index ≡ length c.args.decls.now = omega (arith, c.loop-index-test.false, c.loop-index.auto.index-end) in
    towards_end c.say_end.result _ (c.loop-index.invariant.left fuel)
    (rw (module_over c.args.place.config.now (plain_at c.args.place) c.args.decls.now _ _ _ c.loop-index-test.false, all) c.say_end.ensures)
