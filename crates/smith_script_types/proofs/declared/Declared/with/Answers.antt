use Rattle.smith_script_types.proofs.TableSteps.{kept_at}
use Rattle.smith_script_types.proofs.declared.Declared.with.Goals as goal

pub invariant_of-result : goal.invariant_of-result
invariant_of-result c = record { kept = kept_at ((c.in_ok-add.ensures {u = tt}).added _ _ c.args.self.kept) c.requires }
