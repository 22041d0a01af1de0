use Rattle.smith_core.proofs.module.parts.ModuleParts.put_contents.Goals as goal

pub returns-in-Types : goal.returns-in-Types
returns-in-Types c = rw c.in-Types.is (rw (c.deref.ensures.value, c.deref-in-Types.ensures.value) at c.put_groups.ensures)

pub returns-in-Functions : goal.returns-in-Functions
returns-in-Functions c = rw c.in-Functions.is (rw (c.last_of.ensures, c.deref-in-Functions.ensures.value) at c.put_many-in-Functions.ensures)

pub returns-in-Memories : goal.returns-in-Memories
returns-in-Memories c = rw c.in-Memories.is (rw (c.last_of-in-Memories.ensures, c.deref-in-Memories.ensures.value) at c.put_many-in-Memories.ensures)

pub returns-in-Tags : goal.returns-in-Tags
returns-in-Tags c = rw c.in-Tags.is (rw (c.last_of-in-Tags.ensures, c.deref-in-Tags.ensures.value) at c.put_many-in-Tags.ensures)

pub returns-in-Globals : goal.returns-in-Globals
returns-in-Globals c = rw c.in-Globals.is (rw (c.deref-in-Globals.ensures.value, c.deref-in-Globals-2.ensures.value) at c.put_globals.ensures)

pub returns-in-Exports : goal.returns-in-Exports
returns-in-Exports c = rw c.in-Exports.is (rw c.deref-in-Exports.ensures.value at c.put_many-in-Exports.ensures)

pub returns-in-Elements : goal.returns-in-Elements
returns-in-Elements c = rw c.in-Elements.is (rw c.deref-in-Elements.ensures.value at c.put_many-in-Elements.ensures)

pub returns-in-Code : goal.returns-in-Code
returns-in-Code c = rw c.in-Code.is (rw c.deref-in-Code.ensures.value at c.put_many-in-Code.ensures)

pub returns-in-Data : goal.returns-in-Data
returns-in-Data c = rw c.in-Data.is (rw c.deref-in-Data.ensures.value at c.put_many-in-Data.ensures)
