use Rattle.smith_check.proofs.NameSteps.{pair_more}
use Rattle.smith_check.proofs.modules.ModuleNames.add_import.Goals as goal

pub returns-then-branch-clause-added : goal.returns-then-branch-clause-added
returns-then-branch-clause-added c = λ m n.
    pair_more c.args.self.now (record { imports = c.insert.new.self; exports = c.args.self.now.exports }) c.args.of_module c.args.name
    (c.in_ok-insert.ensures {u = tt}).updates m n
