use Rattle.std.proofs.Common.{◌≡◌, take, List}
use Rattle.std.specs.List.{flat_map}
use Rattle.std.specs.Option.{option_to_list}
use Rattle.smith_tree.specs.Facts.{FactScope, Facts, Id, sizes}
use Rattle.smith_tree.specs.Sizes.{summed}
use Rattle.smith_validate.specs.Instances.{AreKept, Surface}
use Rattle.smith_syntax.specs.Sizes.{capped}
use Rattle.smith_validate.specs.Kept.{kept_in, kept_of}
use Rattle.smith_validate.specs.Marks.{no_needs}
use Rattle.smith_validate.specs.Values.{CoversValues, marks_from}
use Rattle.smith_validate.proofs.values.values_of.Given as goal

abbrev pub invariant-loop-item : goal.invariant-loop-item
invariant-loop-item g l = record {
  size : (own : FactScope) → kept_in l.scope ≡ kept_of own
      → l.values.size ≡ capped (summed (sizes own.types) (flat_map (λ i. option_to_list (g.T.Valued.value i)) (take l.item-index l.items)));
  needs : (types : List Facts) (names : List (List Id)) (table : List Surface) → AreKept table names l.scope.types.items types
      → CoversValues types names l.values.needs (flat_map (λ i. option_to_list (g.T.Valued.value i)) (take l.item-index l.items));
  marks : l.values.needs
      ≡ marks_from l.scope.types.items no_needs (flat_map (λ i. option_to_list (g.T.Valued.value i)) (take l.item-index l.items));
}
