use Rattle.std.proofs.Common.{ℕ, List, [], ◌++◌, map}
use Rattle.smith_input.specs.Loops.{Loop}
use Rattle.smith_input.specs.Reading.{IsTail}
use Rattle.smith_types.specs.Made.{IsSpent, ReadsMember}
use Rattle.smith_scopes.specs.Scopes.{own_marked}
use Rattle.smith_types.proofs.make.members.read_members.Given as goal

-- Whatever the rest of the loop reads, the whole loop reads it after what was read.
abbrev pub invariant-loop-done : goal.invariant-loop-done
invariant-loop-done g l =
    let Item = ReadsMember (g.M.Member.reads_member l.making.config.now (own_marked l.scopes)) in
    let so_far = map g.M.Member.shown l.members.items in
    record {
      tail : IsTail l.u l.fn.u;
      onward :
          (xs : List g.M.Member.Shown) (rest : List ℕ) (t : List g.M.Member.Shown × ℕ)
          → Loop IsSpent Item l.making.config.now.loop_bits l.counts.0 l.counts.1 l.done (so_far, l.fuel) l.u xs rest t
          → Loop IsSpent Item l.making.config.now.loop_bits l.counts.0 l.counts.1 0 ([], l.fn.fuel) l.fn.u (so_far ++ xs) rest t;
    }
