use Rattle.std.proofs.Common.{◌≡◌, ◌++◌, [], ◌∷◌, arith, refl, map, length, sym, ◌∙◌, append-nil, append_assoc}
use Rattle.std.proofs.lemmas.List.{length-map}
use Rattle.smith_format.specs.CoreTypes.{Function}
use Rattle.smith_format.specs.Shown.{shown_func}
use Rattle.smith_format.specs.declared.types.EntityType.TheVariants.{Func}
use Rattle.smith_syntax.specs.Entries.{declares, exports}
use Rattle.smith_types.specs.MakingCore.{shown_funcs}
use Rattle.smith_syntax.specs.Shown.{shown_decl}
use Rattle.smith_types.proofs.MakingCore.{keep_more, ratio_false, ratio_true, same_state}
use Rattle.smith_scopes.proofs.Plain.{pushed}
use Rattle.smith_types.specs.MadeCore.{not_allowed, declined, taken}
use Rattle.smith_types.proofs.core_types.front.function_line.Goals as goal

pub returns-then-not-allows_line-clause-reads : goal.returns-then-not-allows_line-clause-reads
returns-then-not-allows_line-clause-reads c fuel = not_allowed (sym c.allows_line.ensures ∙ c.if-not-allows_line.true) refl

pub returns-then-not-ratio-clause-reads : goal.returns-then-not-ratio-clause-reads
returns-then-not-ratio-clause-reads c fuel =
    declined (sym c.allows_line.ensures ∙ c.if-not-allows_line.false) c.ratio.ensures.1
    (ratio_false c.ratio.result c.ratio.ensures.0 c.ratio.ensures.2 c.if-not-ratio.true) refl

pub returns-clause-reads : goal.returns-clause-reads
returns-clause-reads c fuel =
    let old = c.args.declared.now in
    let own = shown_funcs old.own.items in
    let before = map shown_decl old.counted.defs.items in
    let f : Function = shown_func c.args.ty.value in
    let name = c.args.name.now in
    let count : c.len-index.result ≡ length own = omega (arith, c.len-index.ensures, length-map old.own.items (λ t. shown_func t.value)) in
    let owns = c.in_ok-declare.ensures.own in
    let first = c.in_ok-declare.ensures.defs in
    let last = pushed shown_decl c.declare.new.declared.counted.defs.items c.push.new.self.defs.items _ c.in_ok-push.ensures.items in
    let decls = last ∙ (λ i. first i ++ exports name (Func (count i)) ∷ [])
    ∙ append_assoc before (declares f ∷ []) (exports name (Func (length own)) ∷ []) in
    taken (sym c.allows_line.ensures ∙ c.if-not-allows_line.false) c.ratio.ensures.1
    (ratio_true c.ratio.result c.ratio.ensures.0 c.ratio.ensures.2 c.if-not-ratio.false) (refl, refl) (same_state fuel fuel owns decls refl)

pub returns-clause-kept : goal.returns-clause-kept
returns-clause-kept c around k =
    let mid = c.declare.new.declared in
    let own = shown_funcs mid.own.items in
    keep_more around own own mid.counted.defs.items _ _ (c.in_ok-declare.ensures.kept around k) tt (sym (append-nil own)) c.in_ok-push.ensures.items
