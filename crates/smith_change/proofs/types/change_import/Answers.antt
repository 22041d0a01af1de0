use Rattle.std.proofs.Common.{ap, sym, ◌∙◌}
use Rattle.std.specs.Option.{option_map}
use Rattle.smith_syntax.specs.Entries.{export_decl, import_decl}
use Rattle.smith_read.specs.Search.{past}
use Rattle.smith_read.proofs.Seeking.{past_past}
use Rattle.smith_read.proofs.ShownNodes.{shown_export}
use Rattle.smith_change.specs.Alternatives.{only}
use Rattle.smith_change.specs.Owners.{may_import}
use Rattle.smith_change.specs.Types.{extern_changed, importing_alone}
use Rattle.smith_change.proofs.Seeking.{made_of_some, past_here, sought_here}
use Rattle.smith_change.proofs.types.change_import.Goals as goal

pub returns-then-step-clause-declaration : goal.returns-then-step-clause-declaration
returns-then-step-clause-declaration c =
    let a = c.args.change.alternative in
    c.of_component.ensures
    ∙ ap (λ d. importing_alone (may_import c.args.owner) (only a d))
    (shown_export c.in_ok-name.name c.args.to ∙ ap (λ n. export_decl n tt c.args.to) (c.in_ok-name.ensures {u = tt}))
    ∙ sym (sought_here 3 (importing_alone (may_import c.args.owner) (only a (export_decl c.args.name.now tt c.args.to)))
    (λ j. option_map (λ e. import_decl e.0 tt e.1) (extern_changed a j (c.args.name.now, c.args.to)))
    (import_decl c.args.name.now tt c.args.to) c.args.search.now
    (sym c.step.ensures.here ∙ c.if-step.true))

pub returns-then-step-clause-moved : goal.returns-then-step-clause-moved
returns-then-step-clause-moved c = λ there.
    c.step.ensures.moved ∙ past_here 3 c.args.search.now (sym c.step.ensures.here ∙ c.if-step.true)

pub returns-clause-moved : goal.returns-clause-moved
returns-clause-moved c = λ there.
    (c.in_ok-entry.ensures {u = tt}).moved (made_of_some _ c.in_ok-entry.entry c.map.result c.map.ensures.cases there)
    ∙ ap (past 3) c.step.ensures.moved ∙ past_past 3 1 c.args.search.now
