-- The numbers in C of what bytes break, exceed or are outside of. No version gives one of them to anything else.
use Rattle.std.specs.Prelude.{ℕ, ◌+◌}
use Rattle.smith_check.specs.declared.error.Rule.{Rule}
use Rattle.smith_check.specs.declared.error.Rule.TheVariants.{NoType, NoFunction, Sort, ValueType, OuterAlias, EqualType, InstanceImport, Members, Parameters}
use Rattle.smith_check.specs.declared.error.Rule.TheVariants.{Kebab, NameTwice, TagResults, Memory, Table, NotScalar, NotFlat}
use Rattle.smith_read.specs.declared.unread.Reason.{Reason}
use Rattle.smith_read.specs.declared.unread.Reason.TheVariants as reason
use Rattle.smith_verdict.specs.declared.answers.Bound.{Bound}
use Rattle.smith_verdict.specs.declared.answers.Bound.TheVariants as bound
use Rattle.smith_verdict.specs.declared.answers.Broken.{Broken}
use Rattle.smith_verdict.specs.declared.answers.Broken.TheVariants as broken
use Rattle.smith_verdict.specs.declared.answers.Outside.{Outside}
use Rattle.smith_verdict.specs.declared.answers.Outside.TheVariants as outside

-- a rule of well-formed components, below 100
abbrev pub rule_place : Rule → ℕ
rule_place NoType = 0
rule_place NoFunction = 1
rule_place Sort = 2
rule_place ValueType = 3
rule_place OuterAlias = 4
rule_place EqualType = 5
rule_place InstanceImport = 6
rule_place Members = 7
rule_place Parameters = 8
rule_place Kebab = 9
rule_place NameTwice = 10
rule_place TagResults = 11
rule_place Memory = 12
rule_place Table = 13
rule_place NotScalar = 14
rule_place NotFlat = 15

-- why bytes are not read, below 100
abbrev pub reason_place : Reason → ℕ
reason_place reason.Ends = 0
reason_place reason.Number = 1
reason_place reason.Name = 2
reason_place reason.Byte = 3
reason_place reason.Preamble = 4
reason_place reason.Section = 5
reason_place reason.Options = 6
reason_place reason.LeftOver = 7
reason_place reason.Depth = 8

-- what of the standard is broken, below 200
abbrev pub broken_number : Broken → ℕ
broken_number (broken.Rule rule) = rule_place rule
broken_number broken.Named = 100
broken_number broken.Module = 101
broken_number broken.Preamble = 102
broken_number broken.Section = 103
broken_number broken.Frame = 104
broken_number broken.Count = 105

-- a bound, from 200
abbrev pub bound_number : Bound → ℕ
bound_number bound.Size = 200
bound_number bound.Count = 201
bound_number bound.Memories = 202
bound_number bound.Tables = 203
bound_number bound.Contents = 204
bound_number bound.Module = 205

-- why bytes are not judged, from 300
abbrev pub outside_number : Outside → ℕ
outside_number (outside.Rule rule) = 300 + rule_place rule
outside_number (outside.Unread reason) = 400 + reason_place reason
outside_number outside.Module = 500
outside_number outside.Reference = 501

-- what is written if nothing has a number: 2^64 - 1
abbrev pub no_rule : ℕ
no_rule = 18446744073709551615
