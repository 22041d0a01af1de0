use Rattle.std.proofs.Common.{◌≡◌, ℕ, ◌+◌, ◌≤◌, true, List, ◌++◌, length}
use Rattle.std.specs.Str.{IsAscii}
use Rattle.std.specs.Vec.{vec_len, vec_capacity}
use Rattle.smith_input.specs.Reading.{IsTail}
use Rattle.smith_input.specs.Names.{characters, ReadsEach}
use Rattle.smith_input.proofs.names.kebab_string.Given as goal

-- what follows completes the name
abbrev pub invariant-loop-place : goal.invariant-loop-place
invariant-loop-place l = record {
  more : (ks rest : List ℕ) → ReadsEach 37 l.reader ks rest → (choices : List ℕ) × (length choices ≡ l._place + length ks)
      × ReadsEach 37 l.initial.reader choices rest × (characters true choices ≡ l.name.items ++ characters l.begins ks);
  tail : IsTail l.reader l.fn.u;
  ascii : IsAscii l.name.items;
  placed : vec_len l.name ≡ l._place;
  room : l.count ≤ vec_capacity l.name;
}
