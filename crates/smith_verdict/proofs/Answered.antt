-- The bytes of a sound component are answered to be valid.
use Rattle.std.proofs.Common.{◌≡◌, ◌≤◌, ℕ, List, [], ◌∷◌, None, Some, refl, subst}
use Rattle.std.specs.List.{AllByRecursion}
use Rattle.smith_tree.specs.Depths.{scope_depth}
use Rattle.smith_tree.specs.Grammar.{Spells}
use Rattle.smith_tree.specs.Possible.{Possible}
use Rattle.smith_tree.specs.Tree.{Tree, modules}
use Rattle.smith_tree.proofs.Clear.{spells_law}
use Rattle.smith_tree.proofs.Possible.{formed_possible}
use Rattle.smith_tree.proofs.Weaker.{weaker_tree}
use Rattle.smith_read.specs.Reads.{most_depth}
use Rattle.smith_validate.specs.Outcome.{asking}
use Rattle.smith_validate.specs.declared.error.Demand.TheVariants.{Named}
use Rattle.smith_verdict.specs.Answers.{AreUnframed, IsAnswer, IsBounded, IsNamed, IsSound}
use Rattle.smith_verdict.specs.Modules.{BoundedModule, SoundModule}
use Rattle.smith_verdict.specs.declared.answers.Answer.{Answer}
use Rattle.smith_verdict.specs.declared.answers.Answer.TheVariants as answer
use Rattle.smith_verdict.specs.declared.answers.Broken.TheVariants as broken
use Rattle.smith_verdict.proofs.Answering.{contained}
use Rattle.smith_verdict.proofs.Judging.{sound_not_bounded, sound_not_broken}
use Rattle.smith_read.proofs.Spelled.{spelled_framed}

none_bounded : (texts : List (List ℕ)) → AllByRecursion SoundModule texts → AllByRecursion (λ text. ¬ BoundedModule text) texts
none_bounded [] all = tt
none_bounded (text ∷ texts) all = (sound_not_bounded text all.0, none_bounded texts all.1)

sound_bounded : (t : Tree) → IsSound t → IsBounded t
sound_bounded t s = record {
  demands = λ demand other. weaker_tree (asking demand) t s.valid;
  contents = s.bounded;
  modules = none_bounded (modules t) s.modules;
}

module _ (t : Tree) (b : List ℕ) (spelled : Spells t b) (sound : IsSound t) where
  same : (r : Tree) → Spells r b → t ≡ r
  same r s = spells_law t r b spelled s

  unframed : (offset : ℕ) → AreUnframed b offset → ⊥
  unframed offset u = u.unframed (spelled_framed t b spelled)

  pub sound_answered : (found : Answer) → scope_depth t ≤ most_depth → IsAnswer b found → found ≡ answer.Valid
  sound_answered answer.Valid shallow f = refl
  sound_answered (answer.Invalid reason None) shallow f = absurd f
  sound_answered (answer.Invalid (broken.Rule rule) (Some offset)) shallow f =
      absurd (f.2 (subst Possible (same f.0 f.1) (formed_possible t sound.formed)))
  sound_answered (answer.Invalid broken.Named (Some offset)) shallow f =
      absurd (f.2.1 (subst IsNamed (same f.0 f.1) (weaker_tree (asking Named) t sound.valid)))
  sound_answered (answer.Invalid broken.Module (Some offset)) shallow f =
      absurd (sound_not_broken f.2.0
      (contained SoundModule (modules f.0) f.2.0 (subst (λ r. AllByRecursion SoundModule (modules r)) (same f.0 f.1) sound.modules) f.2.1) f.2.2)
  sound_answered (answer.Invalid broken.Preamble (Some offset)) shallow f = absurd (unframed offset f)
  sound_answered (answer.Invalid broken.Section (Some offset)) shallow f = absurd (unframed offset f)
  sound_answered (answer.Invalid broken.Frame (Some offset)) shallow f = absurd (unframed offset f)
  sound_answered (answer.Invalid broken.Count (Some offset)) shallow f = absurd (unframed offset f)
  sound_answered (answer.Bound bound None) shallow f = absurd f
  sound_answered (answer.Bound bound (Some offset)) shallow f = absurd (f.3 (subst IsBounded (same f.0 f.1) (sound_bounded t sound)))
  sound_answered (answer.Outside why None) shallow f = absurd f
  sound_answered (answer.Outside why (Some offset)) shallow f = absurd (f t spelled shallow sound)

pub sound_law : (t : Tree) (b : List ℕ) (found : Answer) → Spells t b → scope_depth t ≤ most_depth → IsSound t → IsAnswer b found → found ≡ answer.Valid
sound_law t b found spelled shallow sound f = sound_answered t b spelled sound found shallow f
