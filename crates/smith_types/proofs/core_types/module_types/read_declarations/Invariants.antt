use Rattle.std.proofs.Common.{◌≤◌, ◌+◌, List, length}
use Rattle.smith_input.specs.Reading.{IsTail}
use Rattle.smith_input.proofs.Loops.{Onward}
use Rattle.smith_syntax.specs.Entries.{ModuleDecl}
use Rattle.smith_types.specs.MadeCore.{EndsModuleType, ReadsDecl}
use Rattle.smith_types.specs.MakingCore.{KeepsDeclared, so_far}
use Rattle.smith_syntax.specs.Places.{own_of}
use Rattle.smith_scopes.specs.Scopes.{inward}
use Rattle.smith_types.proofs.core_types.module_types.read_declarations.Given as goal

-- Whatever the rest of the loop reads, the whole loop reads it after what was read.
abbrev pub invariant-loop-done : goal.invariant-loop-done
invariant-loop-done l =
    let around = own_of (inward l.scopes) in
    record {
      tail : IsTail l.u l.fn.u;
      few : length l.declared.own.items ≤ 2 + l.done;
      kept : KeepsDeclared around.core_types l.fn.declared → KeepsDeclared around.core_types l.declared;
      read : List ModuleDecl;
      onward : Onward (EndsModuleType l.making.config.now around) (ReadsDecl l.making.config.now around)
          l.making.config.now.loop_bits 0 100 (so_far l.fn.declared l.fn.fuel) l.fn.u read l.done
          (so_far l.declared l.fuel) l.u;
    }
