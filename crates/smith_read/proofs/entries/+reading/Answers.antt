use Rattle.std.proofs.Common.{rules, ◌≡◌, ◌++◌, ◌∷◌, [], map}
use Rattle.std.proofs.lemmas.List.{map_push}
use Rattle.smith_read.specs.TypeNodes.{shown_decl_node}
use Rattle.smith_read.proofs.Digits.{passes}
use Rattle.smith_read.proofs.Levels.{component_read, instance_read}
use Rattle.smith_read.proofs.Loops.{goes_on, stops, is_done}
use Rattle.smith_read.proofs.entries.+reading.Goals as goal

pub decls_of-returns-in_err-decl : goal.decls_of-returns-in_err-decl
decls_of-returns-in_err-decl t c =
    passes _ c.from_residual.result _ _ _ c.from_residual.ensures.1 c.in_err-decl.ensures (stops _ _ _ _ _ _ c.loop-test.true c.loop.invariant)

pub decls_of-loop-preserved : goal.decls_of-loop-preserved
decls_of-loop-preserved t c =
    let x = c.in_ok-decl.decl in
    let e : map shown_decl_node c.push.new.self.items ≡ map shown_decl_node c.loop.decls.items ++ shown_decl_node x ∷ [] =
    rw c.in_ok-push.ensures.items (map_push _ c.loop.decls.items x) in
    rw e (goes_on _ _ _ _ _ _ _ _ c.loop-test.true c.in_ok-decl.ensures c.loop.invariant)

pub decls_of-returns : goal.decls_of-returns
decls_of-returns t c = is_done _ _ _ _ _ _ c.loop-test.false c.loop.invariant

pub entry_of-returns-in_ok-decls-in-65 : goal.entry_of-returns-in_ok-decls-in-65
entry_of-returns-in_ok-decls-in-65 t c = rw c.in-65.is (component_read _ _ _ _ _ _ (search rules) c.in_ok-count-in-65.ensures c.in_ok-decls-in-65.ensures)

pub entry_of-returns-in_ok-decls-in-66 : goal.entry_of-returns-in_ok-decls-in-66
entry_of-returns-in_ok-decls-in-66 t c = rw c.in-66.is (instance_read _ _ _ _ _ _ (search rules) c.in_ok-count-in-66.ensures c.in_ok-decls-in-66.ensures)
