-- Where the sections of a module are among one another.
use Rattle.std.specs.Prelude.{ℕ}
use Rattle.smith_core.specs.declared.module.sections.SectionKind.{SectionKind}
use Rattle.smith_core.specs.declared.module.sections.SectionKind.TheVariants.{Types, Imports, Functions, Tables, Memories, Tags, Globals, Exports, Start}
use Rattle.smith_core.specs.declared.module.sections.SectionKind.TheVariants.{Elements, DataCount, Code, Data}

-- the place of a section in the order in which a module has them, counted from 0
abbrev pub section_place : SectionKind → ℕ
section_place Types = 0
section_place Imports = 1
section_place Functions = 2
section_place Tables = 3
section_place Memories = 4
section_place Tags = 5
section_place Globals = 6
section_place Exports = 7
section_place Start = 8
section_place Elements = 9
section_place DataCount = 10
section_place Code = 11
section_place Data = 12
