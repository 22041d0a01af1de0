use Rattle.std.proofs.Common.{arith, refl}
use Rattle.std.proofs.lemmas.Result.{on_ok_weaker}
use Rattle.smith_component.specs.declared.builder.open.OpenComponent.{OpenComponent}
use Rattle.smith_component.proofs.CanonicalsState.{front_same, lower_draft, lower_reads}
use Rattle.smith_component.proofs.Growth.{functions_counted}
use Rattle.smith_component.proofs.builder.canonicals.CanonicalDraft.lower.Goals as goal

pub add_core_function-requires : goal.add_core_function-requires
add_core_function-requires c = grind (arith, functions_counted)

pub returns-clause-reads : goal.returns-clause-reads
returns-clause-reads c =
    let d = c.args.self.now in
    let new : OpenComponent = record {
      sections = d.component.now.sections;
      height = d.component.now.height;
      is_early = d.component.now.is_early;
      tables = c.add_core_function.new.self;
    } in
    on_ok_weaker c.add_core_function.result
    (λ adds. lower_reads d.component.now new d.funcs.now.items c.push.new.self.items c.deref.result.now c.args.u.now c.choose-func_index.new.self
    c.choose-func_index.result.now c.requires.draft.is.tabled c.deref.ensures.value c.choose-func_index.ensures refl c.in_ok-push.ensures.items)
    c.add_core_function.ensures.ok

pub returns-clause-drafts : goal.returns-clause-drafts
returns-clause-drafts c =
    let d = c.args.self.now in
    let new : OpenComponent = record {
      sections = d.component.now.sections;
      height = d.component.now.height;
      is_early = d.component.now.is_early;
      tables = c.add_core_function.new.self;
    } in
    on_ok_weaker c.add_core_function.result
    (λ adds. record {
      draft = λ around held. lower_draft d.component.now new d.funcs.now.items c.push.new.self.items c.deref.result.now c.args.u.now
          c.choose-func_index.new.self c.choose-func_index.result.now held.tabled c.deref.ensures.value c.choose-func_index.ensures refl
          c.in_ok-push.ensures.items d.scopes.now held adds;
      front = front_same d.component.now new refl adds.imports;
      around = record { outer = refl; depth = refl };
    })
    c.add_core_function.ensures.ok
