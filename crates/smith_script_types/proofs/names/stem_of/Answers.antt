use Rattle.std.proofs.Common.{◌≡◌, ◌∙◌, ◌+◌, ◌-◌, ◌*◌, ◌/◌, ◌≤◌, ap, sym, arith, length}
use Rattle.std.specs.Prelude.{take}
use Rattle.smith_input.specs.NameScript.{first_readable}
use Rattle.smith_script_types.proofs.ReadableTexts.{first_cut, first_further, first_here}
use Rattle.smith_script_types.proofs.names.stem_of.Goals as goal

pub loop-turn-init : goal.loop-turn-init
loop-turn-init g c =
    let can_read = g.R.Readable.can_read c.args.rule.now in
    let name = c.args.name.now in
    let digits = c.decimal_len-digits.result in
    let excess = c.saturating_sub-excess.result in
    let longest = c.longest-longest.result in
    let less : excess / digits ≤ excess = omega arith in
    let times : excess / digits * digits ≤ excess = omega arith in
    let is : excess ≡ length name - (longest + 1) = omega (arith, c.saturating_sub-excess.ensures, c.saturating_sub.ensures) in
    sym (first_cut can_read digits c.decimal_len-digits.ensures.some longest c.longest-longest.ensures (excess / digits) (length name) name
    (omega (arith, less, is)) (omega (arith, times, is)))

pub loop-turn-preserved : goal.loop-turn-preserved
loop-turn-preserved g c =
    let can_read = g.R.Readable.can_read c.args.rule.now in
    let digits = c.decimal_len-digits.result in
    let less = length c.args.name.now - (c.loop-turn._turn + 1) in
    let text = c.loop-turn.text.now in
    ap (λ n. first_readable can_read digits less (take n text)) c.saturating_sub-in-loop-turn.ensures
    ∙ (sym (first_further can_read digits (length c.args.name.now - c.loop-turn._turn) less text (omega (arith, c.loop-turn-test.true))
    (sym (c.if-reads.ensures {u = tt})))
    ∙ c.loop-turn.invariant)

pub returns-then-reads : goal.returns-then-reads
returns-then-reads g c =
    let can_read = g.R.Readable.can_read c.args.rule.now in
    let name = c.args.name.now in
    sym (first_here can_read c.decimal_len-digits.result (length name - c.loop-turn._turn) c.loop-turn.text.now (sym (c.if-reads.ensures {u = tt})))
    ∙ (c.loop-turn.invariant ∙ ap (λ n. first_readable can_read n (length name) name) c.decimal_len-digits.ensures.count)

pub returns : goal.returns
returns g c =
    let can_read = g.R.Readable.can_read c.args.rule.now in
    let name = c.args.name.now in
    let over : 0 ≡ length name - c.loop-turn._turn = omega (arith, c.loop-turn-test.false) in
    ap (λ n. first_readable can_read c.decimal_len-digits.result n c.loop-turn.text.now) over
    ∙ (c.loop-turn.invariant ∙ ap (λ n. first_readable can_read n (length name) name) c.decimal_len-digits.ensures.count)
