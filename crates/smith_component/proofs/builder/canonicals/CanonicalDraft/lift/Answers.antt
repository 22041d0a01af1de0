use Rattle.std.proofs.Common.{ℕ, ◌<◌, List, length, refl, sym, ap, ◌∙◌, subst, arith}
use Rattle.std.proofs.lemmas.Result.{on_ok_weaker}
use Rattle.smith_input.specs.Reading.{IsTail}
use Rattle.smith_input.proofs.Reading.{tail_trans}
use Rattle.smith_scopes.specs.Scopes.{last_of, outer_marked, own_scope}
use Rattle.smith_component.specs.Canonicals.{grown, with_defined}
use Rattle.smith_component.specs.CanonicalsState.{CanonicalsState, draft_of}
use Rattle.smith_component.specs.Tables.{AddsFunction}
use Rattle.smith_component.specs.declared.builder.open.OpenComponent.{OpenComponent}
use Rattle.smith_tree.specs.declared.entries.Func.TheVariants.{CanonLift}
use Rattle.smith_component.proofs.CanonicalsState.{chosen_equal, chosen_none, draft_lowered, equal_within, front_same, growing_more}
use Rattle.smith_component.proofs.CanonicalsState.{lift_defined, lift_draft, lift_equal, lift_given_up}
use Rattle.smith_component.proofs.Growth.{functions_counted}
use Rattle.smith_component.proofs.builder.canonicals.CanonicalDraft.lift.Goals as goal

after_choice : {a b m e : List ℕ} → IsTail a b → IsTail b m → IsTail m e → IsTail a e
after_choice f g h = tail_trans f (tail_trans g h)

pub lifted_type-requires : goal.lifted_type-requires
lifted_type-requires c = record {
  known = draft_lowered c.args.self.now c.requires.draft.around c.requires.draft.is c.choose_index-core_func_index.result
      (omega (arith, c.choose_index-core_func_index.ensures.below, c.len.ensures));
}

pub add_function-requires-clause-known : goal.add_function-requires-clause-known
add_function-requires-clause-known c = grind (arith, chosen_equal, equal_within)

pub add_function-requires-clause-few : goal.add_function-requires-clause-few
add_function-requires-clause-few c =
    omega (arith, c.requires.draft.is.tabled.counts, (functions_counted (grown (draft_of c.args.self.now))).least, c.requires.draft.room)

pub define-requires-clause-draft : goal.define-requires-clause-draft
define-requires-clause-draft c = grind arith

pub returns-in-Some-clause-reads : goal.returns-in-Some-clause-reads
returns-in-Some-clause-reads c =
    let d = c.args.self.now in
    let r = chosen_equal (last_of d.scopes.now).types c.in_ok-signature.signature c.in_ok-ty.ty.value c.lifted_type.new.u c.choose_equal.new.u
    c.in_ok-func_ty.field-0 c.in-Some.func_ty c.in_ok-ty.ensures.ok c.in-Some.is c.in_ok-func_ty.ensures.chosen in
    let old : OpenComponent = d.component.now in
    let new : OpenComponent = record {
      sections = old.sections;
      height = old.height;
      is_early = old.is_early;
      tables = c.add_function.new.self;
    } in
    lift_equal d c.requires.draft.around c.requires.draft.is d.config.now c.len.result c.choose_index-core_func_index.result
    c.in_ok-signature.signature c.args.u.now c.choose_index-core_func_index.new.self c.lifted_type.new.u c.choose_equal.new.u _ (omega (arith, c.len.ensures))
    c.choose_index-core_func_index.ensures c.in_ok-signature.ensures.reads c.in-Some.func_ty r
    (growing_more old new d.funcs.now.items c.push.new.self.items (CanonLift c.in-Some.func_ty c.choose_index-core_func_index.result) refl
    c.in_ok-push.ensures.items)

pub returns-in-Some-clause-drafts : goal.returns-in-Some-clause-drafts
returns-in-Some-clause-drafts c =
    let d = c.args.self.now in
    let r = chosen_equal (last_of d.scopes.now).types c.in_ok-signature.signature c.in_ok-ty.ty.value c.lifted_type.new.u c.choose_equal.new.u
    c.in_ok-func_ty.field-0 c.in-Some.func_ty c.in_ok-ty.ensures.ok c.in-Some.is c.in_ok-func_ty.ensures.chosen in
    let old : OpenComponent = d.component.now in
    let new : OpenComponent = record {
      sections = old.sections;
      height = old.height;
      is_early = old.is_early;
      tables = c.add_function.new.self;
    } in
    let same = c.in_ok-func_ty.ensures.same in
    let t = c.in-Some.func_ty in
    record {
      draft = λ around held. subst (λ scopes. CanonicalsState d.config.now around scopes new c.push.new.self.items) (sym same)
          (lift_draft d around held new c.push.new.self.items c.choose_index-core_func_index.result t
          (equal_within d around held c.in_ok-signature.signature t r)
          (subst (λ scopes. AddsFunction (own_scope scopes) 1 old.tables t new.tables) same c.in_ok-add_function.ensures.ok)
          (growing_more old new d.funcs.now.items c.push.new.self.items (CanonLift t c.choose_index-core_func_index.result) refl
          c.in_ok-push.ensures.items));
      front = front_same old new refl c.in_ok-add_function.ensures.ok.imports;
      around = record { outer = ap outer_marked same; depth = ap length same };
    }

pub returns-clause-drafts : goal.returns-clause-drafts
returns-clause-drafts c = grind (arith, front_same)

pub returns-then-own_len-self-clause-reads : goal.returns-then-own_len-self-clause-reads
returns-then-own_len-self-clause-reads c =
    let d = c.args.self.now in
    let many = ap (λ scopes. length (own_scope scopes).types) c.in_ok-func_ty.ensures.same in
    let none = chosen_none (last_of d.scopes.now).types c.in_ok-signature.signature c.in_ok-ty.ty.value c.lifted_type.new.u c.choose_equal.new.u
    c.in_ok-func_ty.field-0 c.in_ok-ty.ensures.ok c.in_default.not-Some c.in_ok-func_ty.ensures.chosen in
    on_ok_weaker c.define.result
    (λ e. lift_defined d c.requires.draft.around c.requires.draft.is d.config.now c.len.result c.choose_index-core_func_index.result
    c.in_ok-signature.signature c.args.u.now c.choose_index-core_func_index.new.self c.lifted_type.new.u c.choose_equal.new.u _ (omega (arith, c.len.ensures))
    c.choose_index-core_func_index.ensures c.in_ok-signature.ensures.reads none.0 (omega (arith, c.own_len.ensures.count, many, c.if-own_len-self.true)) none.1
    (e ∙ ap (with_defined (draft_of d) c.choose_index-core_func_index.result) c.in_ok-ty.ensures.ok))
    c.define.ensures.defines

pub returns-clause-reads : goal.returns-clause-reads
returns-clause-reads c =
    let d = c.args.self.now in
    let many = ap (λ scopes. length (own_scope scopes).types) c.in_ok-func_ty.ensures.same in
    let none = chosen_none (last_of d.scopes.now).types c.in_ok-signature.signature c.in_ok-ty.ty.value c.lifted_type.new.u c.choose_equal.new.u
    c.in_ok-func_ty.field-0 c.in_ok-ty.ensures.ok c.in_default.not-Some c.in_ok-func_ty.ensures.chosen in
    lift_given_up d c.requires.draft.around c.requires.draft.is d.config.now c.len.result c.choose_index-core_func_index.result
    c.in_ok-signature.signature c.args.u.now c.choose_index-core_func_index.new.self c.lifted_type.new.u c.choose_equal.new.u _ (omega (arith, c.len.ensures))
    c.choose_index-core_func_index.ensures c.in_ok-signature.ensures.reads none.0
    (omega (arith, c.own_len.ensures.count, many, c.if-own_len-self.false)) none.1 refl
