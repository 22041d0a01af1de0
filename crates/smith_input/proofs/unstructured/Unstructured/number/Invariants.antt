use Rattle.std.proofs.Common.{◌≡◌, ◌^◌, ◌<◌, drop}
use Rattle.smith_input.specs.Reading.{spelled}
use Rattle.smith_input.proofs.unstructured.Unstructured.number.Given as goal

abbrev pub invariant-loop-done : goal.invariant-loop-done
invariant-loop-done l = record {
  so_far : l.number ≡ spelled l.done l.fn.self;
  below : l.number < 256 ^ l.done;
  rest : l.self ≡ drop l.done l.fn.self;
}
