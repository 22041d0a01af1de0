use Rattle.std.proofs.Common.{map, refl}
use Rattle.std.specs.Prelude.{String}
use Rattle.std.specs.declared.alloc.Global.{Global}
use Rattle.smith_format.specs.declared.types.ValType.TheVariants.{I32}
use Rattle.smith_input.proofs.Reading.{tail_trans}
use Rattle.smith_syntax.specs.Signature.{named}
use Rattle.smith_syntax.specs.declared.types.ComponentValType.{ComponentValType}
use Rattle.smith_syntax.specs.declared.types.ComponentValType.TheVariants.{Primitive}
use Rattle.smith_types.proofs.Lifting.{one_more, none_left}
use Rattle.smith_types.proofs.Members.{new_named}
use Rattle.smith_scopes.proofs.Plain.{pushed}
use Rattle.smith_types.proofs.canonical.lifted_params.Goals as goal

pub loop-ty-preserved : goal.loop-ty-preserved
loop-ty-preserved c =
    let items = c.loop-ty.params.items in
    let next = map named c.push.new.self.items in
    let param : String Global × ComponentValType = (c.in_ok-name.name, Primitive c.lifted_primitive-primitive.result) in
    let more = pushed named items c.push.new.self.items param c.in_ok-push.ensures.items in
    let read = new_named items (rw c.as_slice.ensures.value at c.in_ok-name.ensures.read) in
    record {
      tail = tail_trans c.lifted_primitive-primitive.ensures.tail (tail_trans c.in_ok-name.ensures.input.tail c.loop-ty.invariant.tail);
      onward = one_more _ _ c.loop-ty.ty-index _ _ _ _ _ I32 _ (map named items) next c.loop-ty-test.true refl read c.lifted_primitive-primitive.ensures.reads
          more c.loop-ty.invariant.onward;
    }

pub returns-clause-reads : goal.returns-clause-reads
returns-clause-reads c = none_left _ _ _ _ _ c.loop-ty-test.false c.loop-ty.invariant.onward
