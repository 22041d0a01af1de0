use Rattle.std.proofs.Common.{◌∙◌, ◌-◌, ◌≤◌, ◌++◌, ap, arith, inr, refl, subst, sym}
use Rattle.std.proofs.lemmas.Result.{err_from_is_err_and}
use Rattle.smith_corpus.specs.Samples.{IsSampleError}
use Rattle.smith_corpus.proofs.OwnLimits.{follows, more_bytes, whole_front, within}
use Rattle.smith_swarm.specs.Swarm.{swarmed}
use Rattle.smith_corpus.proofs.swarms.tried.Goals as goal

pub returns-in_err-rest-clause-refuses : goal.returns-in_err-rest-clause-refuses
returns-in_err-rest-clause-refuses c =
    let error = c.in_err-rest.field-0.0 in
    let p = err_from_is_err_and c.from_residual-in_err-rest.result c.from_residual-in_err-rest.ensures.1 in
    let few : c.args.len - c.len.result ≤ c.args.len = omega arith in
    let found = more_bytes c.swarm_limits-swarm.result.config error few c.in_err-rest.ensures.refuses in
    let within = subst (λ k. IsSampleError k c.args.len error) c.swarm_limits-swarm.ensures.config found in
    rw (p.1, p.2) (inr (c.deref.result.now, within))

pub returns-clause-made : goal.returns-clause-made
returns-clause-made c =
    let front = c.in_ok-front.front in
    let own = c.in_ok-rest.rest in
    let whole = c.in_ok-input.input.items in
    let joined = c.in_ok-input.ensures.joined ∙ ap (λ rest. front.items ++ rest) c.deref-2.ensures.value in
    let some = sym front.ok.0 ∙ c.in_ok-front.ensures.long in
    let others = sym own.input.ok.0 ∙ c.in_ok-rest.ensures.long ∙ ap (λ n. c.args.len - n) (c.len.ensures ∙ front.ok.0) in
    let long = whole_front front.items own.input.items c.args.len some others in
    let limits = c.swarm_limits-swarm.ensures.config ∙ ap (swarmed c.args.config.now) c.deref.ensures.value in
    record {
      own = own;
      follows = follows front.items own.input.items whole joined long;
      same = refl;
      is = within front.items own.input.items whole joined long c.args.config.now limits c.in_ok-rest.ensures.made;
    }
