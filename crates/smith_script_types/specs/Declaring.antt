-- Where a type of a component or an instance is in its declarations, and the mark of that type.
use Rattle.std.specs.Prelude.{Bool, List, ◌∷◌, if◌then◌else◌}
use Rattle.smith_syntax.specs.Entries.{Decls}
use Rattle.smith_syntax.specs.Marked.{Marked, empty_marked, marked_after_all}
use Rattle.smith_syntax.specs.Marks.{closed_mark}
use Rattle.smith_syntax.specs.declared.marks.Mark.{Mark}
use Rattle.smith_syntax.specs.declared.marks.Reach.{Reach}
use Rattle.smith_syntax.specs.declared.marks.Reach.TheVariants.{Everywhere}
use Rattle.smith_tree.specs.TypeScript.{Taken}
use Rattle.smith_script_types.specs.declared.declaring.Declaring.{Declaring}

abbrev pub taken_in : Declaring → Taken
taken_in d = record { imports = d.imports; exports = d.exports }

-- the mark of the type whose scope that is, and which may import if it is a component's
abbrev pub mark_closed : Bool → Marked → Mark
mark_closed importing s = closed_mark (if importing then Everywhere else s.exported) s.size

abbrev pub closed_in : Bool → Decls → Marked → List Marked → Mark
closed_in importing ds own outer = mark_closed importing (marked_after_all ds (own ∷ outer) (empty_marked own.keeps))
