-- What contracts see of the program's core function types and imports.
use Rattle.std.specs.Prelude.{string_bytes}
use Rattle.smith_format.specs.CoreTypes.{Function}
use Rattle.smith_format.specs.Entities.{CoreImport}
use Rattle.smith_format.specs.declared.types.FuncType.{FuncType}
use Rattle.smith_format.specs.declared.types.Import.{Import}

abbrev pub shown_func : FuncType → Function
shown_func t = (t.params.items, t.results.items)

abbrev pub shown_import : Import → CoreImport
shown_import i = (string_bytes i.module, string_bytes i.name, i.entity_type)
