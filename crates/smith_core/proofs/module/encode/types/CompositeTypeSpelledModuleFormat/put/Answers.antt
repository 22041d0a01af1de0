use Rattle.smith_core.proofs.module.encode.types.CompositeTypeSpelledModuleFormat.put.Goals as goal

pub returns-in-Struct : goal.returns-in-Struct
returns-in-Struct c = rw c.in-Struct.is (rw c.deref.ensures.value at c.put_tagged.ensures)
