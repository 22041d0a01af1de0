-- What a run leads to is well formed and within the limits, whatever it reads.
use Rattle.std.proofs.Common.{ℕ, List, [], arith, refl}
use Rattle.smith_format.specs.Consistency.{IsConsistent}
use Rattle.smith_format.specs.declared.config.Config.{Config}
use Rattle.smith_tree.specs.Limits.{Limits, Minima, Sized}
use Rattle.smith_tree.specs.Open.{root}
use Rattle.smith_tree.specs.Tree.{Tree}
use Rattle.smith_tree.specs.WellFormed.{WellFormed}
use Rattle.smith_component.specs.Runs.{RunsTo}
use Rattle.smith_component.specs.Sound.{Sound}
use Rattle.smith_component.proofs.Finishing.{filled_minima}
use Rattle.smith_component.proofs.ReadsCanons.{canons_sound}
use Rattle.smith_component.proofs.Sound.{component_offered_is, own_limits-ends, part_sound, root_kept, sound_close, sound_open}
use Rattle.smith_component.proofs.Turning.{Stays, StaysThrough, run_stays}

pub sound_stays : (config : Config) → Stays config (Sound config)
sound_stays config = record { part = λ stack p addable read s. part_sound config stack p (addable s) s; sections = canons_sound config }

sound_through : (config : Config)
    → StaysThrough config (Sound config) (λ stack. Unit {0}) (Minima config) (λ t. Limits config t × WellFormed t × Sized config t)
sound_through config = record {
  stays = sound_stays config;
  opens = λ stack offered s. let o = component_offered_is config stack offered in sound_open config stack.outer stack.inner o.0 o.1 s;
  fills = λ stack b full rest f ready s. filled_minima config stack b rest full s.consistent f;
  closes = sound_close config;
  answers = λ t enough s. root_kept config [] t t refl refl enough s;
}

root_sound : (config : Config) → IsConsistent config → Sound config root
root_sound config consistent = grind (arith, own_limits-ends)

-- A run leads to a component that is well formed and within the limits.
pub runs_sound : (config : Config) (input : List ℕ) (tree : Tree) (left : List ℕ) → IsConsistent config → RunsTo config input tree left
    → WellFormed tree × Limits config tree × Sized config tree
runs_sound config input tree left consistent r =
    let s = run_stays (sound_through config) (λ stack. tt) input tree left r (root_sound config consistent) in
    (s.1, s.0, s.2)
