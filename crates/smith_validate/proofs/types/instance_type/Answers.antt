use Rattle.std.proofs.Common.{◌≡◌, false, sym, ap, refl, ◌∙◌, ◌∷◌, length, arith}
use Rattle.smith_validate.specs.declared.known.Known.{Known}
use Rattle.smith_validate.proofs.Roles.{instance_closed}
use Rattle.smith_tree.specs.Facts.{id_at}
use Rattle.smith_validate.specs.Instances.{refers_of}
use Rattle.smith_validate.specs.Nested.{instance_plain}
use Rattle.smith_validate.proofs.Attaining.{not_false, not_true}
use Rattle.smith_validate.proofs.Closing.{closed_exactly}
use Rattle.smith_validate.proofs.Declaring.{declared_component}
use Rattle.smith_validate.proofs.types.instance_type.Goals as goal

pub returns-clause-kept : goal.returns-clause-kept
returns-clause-kept c = λ id b here names table ts d role.
    let old = c.args.known.now in
    let e = c.in-Exporting.exported in
    let depth = c.depth.result in
    let new : Known = record { scopes = old.scopes; instances = c.push.new.self } in
    let are = (rw c.in-Exporting.is at role).1 in
    let number : c.len-number.result ≡ length old.instances.items = omega (arith, c.len-number.ensures, old.instances.ok.0) in
    rw (c.instance.ensures)
    (instance_closed table here names e b depth c.close-ty.result.1 c.close-ty.result.0 old new id c.args.body.size c.len-number.result are
    (d ∙ sym c.depth.ensures) c.close-ty.ensures.refers c.close-ty.ensures.uses c.close-ty.ensures.own c.close-ty.ensures.outward c.close-ty.ensures.first ts
    number (c.in_ok-push.ensures {u = tt}).items)

pub returns-then-not-exported-clause-exact : goal.returns-then-not-exported-clause-exact
returns-then-not-exported-clause-exact c = λ b own outer named table j d.
    let are = (rw c.in-Exporting.is at j.role_is).1 in
    let none = are.none (not_true c.in-Exporting.exported.any c.if-not-exported.true) in
    rw (c.new-then-not-exported.ensures, c.nothing-then-not-exported.ensures)
    (declared_component false c.args.known.now c.args.body b own outer named table c.args.body.size (instance_plain (id_at (own ∷ outer)) b) j refl refl none
    (ap (λ xs. refers_of xs) none))

pub returns-clause-exact : goal.returns-clause-exact
returns-clause-exact c = λ b own outer named table j d.
    let old = c.args.known.now in
    let e = c.in-Exporting.exported in
    let depth = c.depth.result in
    let new : Known = record { scopes = old.scopes; instances = c.push.new.self } in
    let are = (rw c.in-Exporting.is at j.role_is).1 in
    let number : c.len-number.result ≡ length j.new = omega (arith, c.len-number.ensures, old.instances.ok.0, j.long) in
    let of : depth ≡ length outer = c.depth.ensures ∙ sym d in
    rw (c.instance.ensures, c.close-ty.ensures.refers)
    (closed_exactly b own outer named table old e c.close-ty.result.1 c.args.body.size depth of j.new j.grown j.instances_are j.added j.long j.exports_are are
    (not_false c.in-Exporting.exported.any c.if-not-exported.false) c.close-ty.ensures.uses c.close-ty.ensures.own new c.len-number.result
    (c.in_ok-push.ensures {u = tt}).items number)
