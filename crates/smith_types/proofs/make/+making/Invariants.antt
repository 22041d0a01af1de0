use Rattle.std.proofs.Common.{◌+◌, ◌*◌, ◌≤◌}
use Rattle.smith_input.specs.Reading.{IsTail}
use Rattle.smith_types.specs.MakingTypes.{Progress, SameOuter}
use Rattle.smith_scopes.specs.Scopes.{outer_marked}
use Rattle.smith_types.proofs.make.+making.Given as goal

abbrev pub decreases-kinds::read_type : goal.decreases-kinds::read_type
decreases-kinds::read_type l = 9 * l.fuel.now + 8

abbrev pub decreases-items::read_type_decl : goal.decreases-items::read_type_decl
decreases-items::read_type_decl l = 9 * l.fuel.now + 9

abbrev pub decreases-items::read_declaration : goal.decreases-items::read_declaration
decreases-items::read_declaration l = 9 * l.fuel.now + 11

abbrev pub decreases-items::read_component_declaration : goal.decreases-items::read_component_declaration
decreases-items::read_component_declaration l = 9 * l.fuel.now + 12

abbrev pub decreases-scoped::declare : goal.decreases-scoped::declare
decreases-scoped::declare l = 9 * l.fuel.now + 13

abbrev pub decreases-scoped::read_declarations : goal.decreases-scoped::read_declarations
decreases-scoped::read_declarations l = 9 * l.fuel.now + 5

abbrev pub decreases-scoped::read_scoped_type : goal.decreases-scoped::read_scoped_type
decreases-scoped::read_scoped_type l = 9 * l.fuel.now + 6

abbrev pub decreases-kinds::read_type_of : goal.decreases-kinds::read_type_of
decreases-kinds::read_type_of l = 9 * l.fuel.now + 7

-- what completes the declarations so far completes all of them
abbrev pub invariant-scoped::read_declarations-loop-done : goal.invariant-scoped::read_declarations-loop-done
invariant-scoped::read_declarations-loop-done l = record {
  progress : Progress l.making.config.now l.importing (outer_marked l.fn.scopes) l.fn.u l.fn.fuel l.done l.scopes l.declared l.u l.fuel;
  outer : SameOuter l.fn.scopes l.scopes;
  fuel : l.fuel ≤ l.fn.fuel;
  tail : IsTail l.u l.fn.u;
}
