use Rattle.smith_format.proofs.CoreReading.{function_formed}
use Rattle.smith_format.proofs.CoreScript.{function_scripted}
use Rattle.smith_format.proofs.Results.{ok_then}
use Rattle.smith_format.proofs.make.arbitrary_func_type.Goals as goal

pub returns-clause-formed : goal.returns-clause-formed
returns-clause-formed c = ok_then _ _ c.make_func_type.result (λ t reads. function_formed reads) c.make_func_type.ensures.reads

pub returns-clause-script : goal.returns-clause-script
returns-clause-script c f rest h many e =
    ok_then _ _ c.make_func_type.result (λ t reads. function_scripted _ _ f _ _ rest _ h many e reads) c.make_func_type.ensures.reads
