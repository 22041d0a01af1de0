use Rattle.std.proofs.Common.{sym, ◌∙◌, ◌++◌}
use Rattle.smith_tree.specs.Validates.{names_of}
use Rattle.smith_validate.specs.Exposing.{named_after}
use Rattle.smith_validate.specs.Instances.{externs_of}
use Rattle.smith_validate.specs.declared.instances.Use.{Use}
use Rattle.smith_validate.specs.declared.instances.Use.TheVariants.{Instance}
use Rattle.smith_validate.proofs.Deferring.{are_sub, exposure_put, first_met, outside_met, settled_put}
use Rattle.smith_validate.proofs.Exposed.{after_sub, within_met}
use Rattle.smith_validate.proofs.Names.{or_left, refers_within}
use Rattle.smith_validate.proofs.exposure.Exposure.meets_at_once.Goals as goal

pub returns-then-is_named-clause-met : goal.returns-then-is_named-clause-met
returns-then-is_named-clause-met c =
    rw (c.in-Instance.is)
    (λ table named ts s h w _.
    let n = c.in-Instance.number in
    let u : Use = Instance n in
    let is = s.settled n (or_left _ _ (sym c.is_named.ensures ∙ c.if-is_named.true)) in
    record {
      met = within_met table u named is.1;
      settled = are_sub table c.args.self.now named (named_after table u named) (after_sub table u named) s;
    })

pub returns-in_ok-add-in-Instance-clause-met : goal.returns-in_ok-add-in-Instance-clause-met
returns-in_ok-add-in-Instance-clause-met c =
    rw (c.in-Instance.is)
    (λ table named ts s h w _.
    let n = c.in-Instance.number in
    let u : Use = Instance n in
    let after = named ++ names_of (externs_of table n) in
    let met = first_met table c.args.all.now ts n h named w (sym (c.if-not-names_first.ensures {u = tt})) in
    record {
      met = met;
      settled = settled_put table c.args.self.now c.add.new.self n after (are_sub table c.args.self.now named after (after_sub table u named) s)
          (c.in_ok-add-in-Instance.ensures {u = tt}) h (refers_within named (externs_of table n) met);
    })

pub returns-in_ok-add-in-Instance-clause-exact : goal.returns-in_ok-add-in-Instance-clause-exact
returns-in_ok-add-in-Instance-clause-exact c =
    rw (c.in-Instance.is)
    (λ table named x o _.
    exposure_put table c.args.self.now c.add.new.self c.in-Instance.number named x o (c.in_ok-add-in-Instance.ensures {u = tt}))

pub returns-else-is_settled-clause-met : goal.returns-else-is_settled-clause-met
returns-else-is_settled-clause-met c =
    rw (c.in-Equal.is)
    (λ table named ts s h w is.
    record { met = outside_met table c.args.all.now ts c.in-Equal.number h named w (sym c.refers_outside.ensures ∙ is); settled = s })
