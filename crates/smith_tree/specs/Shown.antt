-- What canonical functions and exports show.
use Rattle.std.specs.Prelude.{string_bytes}
use Rattle.smith_tree.specs.Tree.{Canon, ExportEntry, lift, lower}
use Rattle.smith_tree.specs.declared.entries.Export.{Export}
use Rattle.smith_tree.specs.declared.entries.Func.{Func}
use Rattle.smith_tree.specs.declared.entries.Func.TheVariants.{CanonLift, CanonLower}

-- a canonical function
abbrev pub shown_canon : Func → Canon
shown_canon (CanonLift t c) = lift c t
shown_canon (CanonLower f) = lower f

abbrev pub shown_export : Export → ExportEntry
shown_export e = record { name = string_bytes e.name; func = e.func_index }
