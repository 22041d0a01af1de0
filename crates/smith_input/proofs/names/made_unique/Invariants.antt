use Rattle.std.proofs.Common.{◌≡◌, ℕ, ◌+◌, ◌-◌, ◌<◌, true, length, string_bytes}
use Rattle.std.specs.Fmt.{decimal}
use Rattle.smith_input.specs.Kebab.{Kebab}
use Rattle.smith_input.specs.NewNames.{appended, is_among}
use Rattle.smith_input.proofs.NameSets.{longest}
use Rattle.smith_input.proofs.names.made_unique.Given as goal

abbrev pub invariant-loop-alloc : goal.invariant-loop-alloc
invariant-loop-alloc g l =
    let texts = g.N.TakenNames.texts l.names in
    let digits = decimal (length texts) in
    record {
      times : ℕ;
      name_is : string_bytes l.unique ≡ appended (string_bytes l.fn.name) digits times;
      taken : (n : ℕ) → n < times → is_among texts (appended (string_bytes l.fn.name) digits n) ≡ true;
      kebab : Kebab (string_bytes l.fn.name) → Kebab (string_bytes l.unique);
    }

-- one of the names is no longer than the longest
abbrev pub decreases-loop-alloc : goal.decreases-loop-alloc
decreases-loop-alloc g l = longest (g.N.TakenNames.texts l.names) + 1 - length (string_bytes l.unique)
