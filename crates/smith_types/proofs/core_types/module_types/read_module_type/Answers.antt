use Rattle.smith_syntax.specs.Places.{own_of}
use Rattle.smith_scopes.specs.Scopes.{inward}
use Rattle.smith_types.proofs.core_types.module_types.read_module_type.Goals as goal

pub returns-clause-kept : goal.returns-clause-kept
returns-clause-kept c = (c.in_ok-read_declarations.ensures.kept (c.in_ok-declared.ensures.kept (own_of (inward c.args.scopes.now)).core_types)).0
