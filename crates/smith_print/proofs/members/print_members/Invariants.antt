use Rattle.std.proofs.Common.{◌≡◌, ◌++◌, take}
use Rattle.std.specs.Prelude.{string_bytes}
use Rattle.std.specs.List.{flat_map}
use Rattle.smith_print.proofs.members.print_members.Given as goal

abbrev pub invariant-loop-member : goal.invariant-loop-member
invariant-loop-member g l =
    string_bytes l.out ≡ string_bytes l.initial.out ++ flat_map (g.T.Member.text l.front) (take l.member-index l.members)
