use Rattle.std.proofs.Common.{arith, ◌∷◌, ◌++◌, refl}
use Rattle.smith_tree.specs.Bodies.{after_import, externs_at}
use Rattle.smith_tree.specs.Validates.{names_of}
use Rattle.smith_validate.specs.Externs.{with_imports}
use Rattle.smith_tree.specs.Facts.{id_at}
use Rattle.smith_validate.specs.Tables.{names_in}
use Rattle.smith_validate.proofs.Exporting.{named_for, piece_none, piece_some, role_imported_none}
use Rattle.smith_validate.proofs.Judging.{on_by}
use Rattle.smith_validate.proofs.Roles.{sets_of}
use Rattle.smith_validate.proofs.references.name_import.Goals as goal

pub returns-in-Names-clause-named : goal.returns-in-Names-clause-named
returns-in-Names-clause-named c = λ asks b outer names table s r.
    let xs = externs_at b.own outer c.args.to in
    let role = rw c.in-Names.is at r in
    let found = c.in-Some.ensures.found b.own outer (names_of b.exports ∷ names) table s.types_are.0 in
    on_by c.import.result
    (λ h. (h.0, (role.0, sets_of table c.import.new.self (with_imports b xs) (after_import outer b c.args.to) refl refl h.1)))
    ((rw c.deref.ensures.value at (c.import.ensures.named table (names_of b.exports ∷ names) b xs)) s.instances_are found role.1)

pub returns-in_default-clause-exact : goal.returns-in_default-clause-exact
returns-in_default-clause-exact c = grind (arith, role_imported_none, piece_none)

pub returns-in-Names-clause-exact : goal.returns-in-Names-clause-exact
returns-in-Names-clause-exact c = λ asks b outer named table h usual.
    let k = c.args.known.now in
    let r = c.args.role.now in
    let xs = externs_at b.own outer c.args.to in
    let role = rw c.in-Names.is at h.role_is in
    let i = piece_some asks k r b outer named table h c.args.to c.in-Some.what c.in-Some.ensures.marks in
    let place = id_at (b.own ∷ outer) in
    let full = (names_of b.exports ++ named) ++ names_in table in
    on_by c.import.result
    (λ n. (role.0, n))
    ((rw c.deref.ensures.value at (c.import.ensures.exact table place (id_at outer) full b xs)) h.known.instances_are h.known.added i role.1)

pub returns-in-Names-clause-refused : goal.returns-in-Names-clause-refused
returns-in-Names-clause-refused c = λ asks b outer named table h usual.
    let k = c.args.known.now in
    let r = c.args.role.now in
    let xs = externs_at b.own outer c.args.to in
    let role = rw c.in-Names.is at h.role_is in
    let i = piece_some asks k r b outer named table h c.args.to c.in-Some.what c.in-Some.ensures.marks in
    let place = id_at (b.own ∷ outer) in
    let full = (names_of b.exports ++ named) ++ names_in table in
    (rw c.deref.ensures.value at (c.import.ensures.refused table place (id_at outer) full b xs)) h.known.instances_are h.known.added i role.1
    (named_for asks k r b outer named table h)
