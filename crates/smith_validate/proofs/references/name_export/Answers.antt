use Rattle.std.proofs.Common.{arith, ◌∷◌, ◌++◌, ◌+◌, ap, refl, ◌∙◌, sym, subst}
use Rattle.smith_tree.specs.Bodies.{after_export, externs_at}
use Rattle.smith_tree.specs.Validates.{exported, names_of}
use Rattle.smith_validate.specs.Externs.{IsAsked, with_exports}
use Rattle.smith_tree.specs.Facts.{id_at}
use Rattle.smith_validate.specs.Tables.{names_in}
use Rattle.smith_validate.proofs.Exporting.{exports_push_exactly, named_for, piece_none, piece_some, place_long, role_exported_none}
use Rattle.smith_validate.proofs.Judging.{err_by, on_all, on_by, on_five}
use Rattle.smith_validate.proofs.Roles.{exports_push, sets_of}
use Rattle.smith_validate.proofs.references.name_export.Goals as goal

pub returns-in-Names-clause-named : goal.returns-in-Names-clause-named
returns-in-Names-clause-named c = λ asks b outer names table s r.
    let xs = externs_at b.own outer c.args.to in
    let role = rw c.in-Names.is at r in
    let found = c.in-Some.ensures.found b.own outer (names_of b.exports ∷ names) table s.types_are.0 in
    on_by c.export.result
    (λ h. (
      subst (λ a. IsAsked a (exported b) xs) (sym role.0) h.0,
      (role.0, sets_of table c.export.new.self (with_exports b xs) (after_export outer b c.args.to) refl refl h.1),
    ))
    ((rw c.deref.ensures.value at (c.export.ensures.named table names b xs)) s.instances_are found (s.depth_is ∙ sym c.depth.ensures) role.1)

pub returns-in-Exporting-clause-named : goal.returns-in-Exporting-clause-named
returns-in-Exporting-clause-named c = λ asks b outer names table s r.
    let xs = externs_at b.own outer c.args.to in
    let role = rw c.in-Exporting.is at r in
    let found = c.in-Some.ensures.found b.own outer (names_of b.exports ∷ names) table s.types_are.0 in
    on_five c.export-in-Exporting.result
    (λ refers uses any outward first. (
      subst (λ a. IsAsked a (exported b) xs) (sym role.0) tt,
      (
        role.0,
        exports_push table names c.in-Exporting.exported c.export-in-Exporting.new.self b.exports xs c.in-Some.what c.args.known.now.instances.items
            s.instances_are role.1 found refers uses any outward first,
      ),
    ))
    c.export-in-Exporting.ensures.refers c.export-in-Exporting.ensures.uses c.export-in-Exporting.ensures.any
    (rw c.deref-in-Exporting.ensures.value at c.export-in-Exporting.ensures.outward)
    ((rw c.deref-in-Exporting.ensures.value at (c.export-in-Exporting.ensures.first table)) s.instances_are)

pub returns-in_default-clause-exact : goal.returns-in_default-clause-exact
returns-in_default-clause-exact c = grind (arith, role_exported_none, piece_none)

pub returns-in-Names-clause-exact : goal.returns-in-Names-clause-exact
returns-in-Names-clause-exact c = λ asks b outer named table h.
    let k = c.args.known.now in
    let r = c.args.role.now in
    let xs = externs_at b.own outer c.args.to in
    let role = rw c.in-Names.is at h.role_is in
    let i = piece_some asks k r b outer named table h c.args.to c.in-Some.what c.in-Some.ensures.marks in
    let place = id_at (b.own ∷ outer) in
    let full = (names_of b.exports ++ named) ++ names_in table in
    on_by c.export.result
    (λ n. (role.0, n))
    ((rw c.deref.ensures.value at (c.export.ensures.exact table place (id_at outer) full b xs)) h.known.instances_are h.known.added i role.1)

pub returns-in-Names-clause-refused : goal.returns-in-Names-clause-refused
returns-in-Names-clause-refused c = λ asks b outer named table h.
    let k = c.args.known.now in
    let r = c.args.role.now in
    let xs = externs_at b.own outer c.args.to in
    let role = rw c.in-Names.is at h.role_is in
    let i = piece_some asks k r b outer named table h c.args.to c.in-Some.what c.in-Some.ensures.marks in
    let place = id_at (b.own ∷ outer) in
    let full = (names_of b.exports ++ named) ++ names_in table in
    let depth = place_long asks k r b outer named table h ∙ ap (λ n. n + 1) (h.depth_is ∙ sym c.depth.ensures) in
    err_by c.export.result
    (λ e f n a. f n (subst (λ x. IsAsked x (exported b) xs) role.0 a))
    ((rw c.deref.ensures.value at (c.export.ensures.refused table place (id_at outer) full b xs)) h.known.instances_are h.known.added i role.1
    (named_for asks k r b outer named table h) depth)

pub returns-in-Exporting-clause-exact : goal.returns-in-Exporting-clause-exact
returns-in-Exporting-clause-exact c = λ asks b outer named table h.
    let k = c.args.known.now in
    let r = c.args.role.now in
    let xs = externs_at b.own outer c.args.to in
    let role = rw c.in-Exporting.is at h.role_is in
    let i = piece_some asks k r b outer named table h c.args.to c.in-Some.what c.in-Some.ensures.marks in
    let place = id_at (b.own ∷ outer) in
    let full = (names_of b.exports ++ named) ++ names_in table in
    on_all c.export-in-Exporting.result
    (λ refers uses any. (
      role.0,
      exports_push_exactly table place (id_at outer) full c.in-Exporting.exported c.export-in-Exporting.new.self b.exports xs c.in-Some.what role.1 i
          refers uses any,
    ))
    c.export-in-Exporting.ensures.refers c.export-in-Exporting.ensures.uses c.export-in-Exporting.ensures.any
