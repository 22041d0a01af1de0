use Rattle.std.proofs.Common.{◌+◌, ◌-◌, ◌≡◌, ap, arith, ◌∙◌, subst}
use Rattle.smith_format.specs.Piece.{bytes, ◌⊕◌}
use Rattle.smith_format.specs.Writing.{Takes}
use Rattle.smith_format.proofs.Piece.{right_none}
use Rattle.smith_format.proofs.Sizes.{takes_then, takes_bytes, sum_next, sum_all, each_none, measures_none}
use Rattle.smith_core.specs.Module.{binary_order, module_text, section}
use Rattle.smith_core.specs.Preamble.{core_preamble}
use Rattle.smith_core.proofs.Tiles.{member_is}
use Rattle.smith_core.specs.declared.module.sections.SectionKind.TheVariants.{Types}
use Rattle.smith_core.proofs.module.parts.ModuleParts.measure.Goals as goal

pub returns-in_err-total : goal.returns-in_err-total
returns-in_err-total c =
    let test = c.loop-kind-test.true in
    let at = member_is binary_order c.loop-kind.kind-index Types test in
    let d = (c.in_err-total.ensures {u = tt}).length in
    let none = each_none (section c.args.self.now) binary_order _ _ test at d.1 in
    measures_none _ _ c.from_residual.ensures.1 d.0 (ap (λ q. bytes core_preamble ⊕ q) none ∙ right_none _)

pub loop-kind-preserved : goal.loop-kind-preserved
loop-kind-preserved c =
    let test = c.loop-kind-test.true in
    let at = member_is binary_order c.loop-kind.kind-index Types test in
    let d = c.in_ok-total.ensures {u = tt} in
    let i = c.loop-kind.invariant in
    record {
      sum = sum_next _ _ _ _ _ _ _ i.sum test at d.length (omega (arith, i.least));
      least = omega (arith, i.least);
      most = omega (arith, i.most, d.most);
    }

pub returns : goal.returns
returns c =
    let i = c.loop-kind.invariant in
    let t = takes_then (takes_bytes 8 core_preamble (omega arith)) (sum_all _ _ _ _ i.sum c.loop-kind-test.false) in
    let e : 8 + (c.loop-kind.total - 8) ≡ c.loop-kind.total = omega (arith, i.least) in
    subst (λ n. Takes n (module_text c.args.self.now)) e t
