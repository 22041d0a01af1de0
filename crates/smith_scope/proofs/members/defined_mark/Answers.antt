use Rattle.std.proofs.Common.{Some}
use Rattle.std.specs.List.{flat_map}
use Rattle.std.specs.Option.{option_to_list}
use Rattle.smith_syntax.proofs.Members.{case_types, field_types, tuple_types}
use Rattle.smith_scope.proofs.Parts.{nominal_is, plain_is}
use Rattle.smith_scope.proofs.members.defined_mark.Goals as goal

pub returns-in-Record : goal.returns-in-Record
returns-in-Record c =
    let xs = c.in-Record.ty.fields.items in
    rw (c.in-Record.is)
    (nominal_is c.args.marks.now (flat_map (λ p. option_to_list (Some p.1)) xs) _ (field_types xs) c.parts_of.result.reach c.parts_of.result.size
    (rw c.deref.ensures.value at c.parts_of.ensures.reach) (rw c.deref.ensures.value at c.parts_of.ensures.size) c.nominal.ensures)

pub returns-in-Variant : goal.returns-in-Variant
returns-in-Variant c =
    let xs = c.in-Variant.ty.cases.items in
    rw (c.in-Variant.is)
    (nominal_is c.args.marks.now (flat_map (λ p. option_to_list p.1) xs) _ (case_types xs) c.parts_of-in-Variant.result.reach
    c.parts_of-in-Variant.result.size (rw c.deref-in-Variant.ensures.value at c.parts_of-in-Variant.ensures.reach)
    (rw c.deref-in-Variant.ensures.value at c.parts_of-in-Variant.ensures.size) c.nominal-in-Variant.ensures)

pub returns-in-Tuple : goal.returns-in-Tuple
returns-in-Tuple c =
    let xs = c.in-Tuple.ty.fields.items in
    rw (c.in-Tuple.is)
    (plain_is c.args.marks.now (flat_map (λ v. option_to_list (Some v)) xs) _ (tuple_types xs) c.parts_of-in-Tuple.result.reach
    c.parts_of-in-Tuple.result.size (rw c.deref-in-Tuple.ensures.value at c.parts_of-in-Tuple.ensures.reach)
    (rw c.deref-in-Tuple.ensures.value at c.parts_of-in-Tuple.ensures.size) c.plain-in-Tuple.ensures)
