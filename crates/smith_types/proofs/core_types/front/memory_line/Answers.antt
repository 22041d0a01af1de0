use Rattle.std.proofs.Common.{◌≡◌, true, false, nat_lt, refl, arith, sym, append-nil}
use Rattle.std.proofs.lemmas.Bool.Decides.{nat_tests}
use Rattle.smith_types.specs.MakingCore.{shown_funcs}
use Rattle.smith_types.specs.MadeCore.{not_allowed, declined, taken}
use Rattle.smith_syntax.specs.Shown.{shown_decl}
use Rattle.smith_types.proofs.MakingCore.{keep_more, ratio_false, ratio_true, same_state}
use Rattle.smith_scopes.proofs.Plain.{pushed}
use Rattle.smith_types.proofs.core_types.front.memory_line.Goals as goal

pub returns-then-making-eq0-clause-reads : goal.returns-then-making-eq0-clause-reads
returns-then-making-eq0-clause-reads c fuel =
    let no : nat_lt 0 c.args.making.now.config.now.max_memories ≡ false = grind (arith, nat_tests, c.if-making-eq0.true) in
    not_allowed no refl

pub returns-then-not-ratio-clause-reads : goal.returns-then-not-ratio-clause-reads
returns-then-not-ratio-clause-reads c fuel =
    let may : nat_lt 0 c.args.making.now.config.now.max_memories ≡ true = grind (arith, nat_tests, c.if-making-eq0.false) in
    declined may c.ratio.ensures.1 (ratio_false c.ratio.result c.ratio.ensures.0 c.ratio.ensures.2 c.if-not-ratio.true) refl

pub returns-clause-reads : goal.returns-clause-reads
returns-clause-reads c fuel =
    let may : nat_lt 0 c.args.making.now.config.now.max_memories ≡ true = grind (arith, nat_tests, c.if-making-eq0.false) in
    let old = c.args.declared.now in
    let decls = pushed shown_decl old.counted.defs.items c.push.new.self.defs.items _ c.in_ok-push.ensures.items in
    taken may c.ratio.ensures.1 (ratio_true c.ratio.result c.ratio.ensures.0 c.ratio.ensures.2 c.if-not-ratio.false)
    (c.arbitrary_memtype.result, c.arbitrary_memtype.ensures.reads, refl) (same_state fuel fuel (sym (append-nil (shown_funcs old.own.items))) decls refl)

pub returns-clause-kept : goal.returns-clause-kept
returns-clause-kept c around k =
    let old = c.args.declared.now in
    let own = shown_funcs old.own.items in
    keep_more around own own old.counted.defs.items _ _ k tt (sym (append-nil own)) c.in_ok-push.ensures.items
