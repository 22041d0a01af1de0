-- What a result of `generate` says of a component, and what a refusal does.
use Rattle.std.proofs.Common.{◌≡◌, ℕ, ◌<◌, ◌≤◌, arith, ◌↔◌, List, [], ◌∷◌, sym, ◌∙◌, Some, get_or, suc}
use Rattle.smith_input.specs.Script.{AreBytes}
use Rattle.smith_input.specs.declared.error.Error.{Error}
use Rattle.smith_input.specs.declared.error.Error.TheVariants.{OutOfMemory}
use Rattle.smith_format.specs.declared.config.Config.{Config}
use Rattle.smith_tree.specs.Grammar.{Spells}
use Rattle.smith_component.specs.Refusals.{IsGenerateRefusal}
use Rattle.smith_component.specs.Runs.{RunsTo}
use Rattle.smith_tree.specs.Tree.{Tree}
use Rattle.smith_component.proofs.Decided.{runs_to_same}
use Rattle.smith_component.proofs.Reproducible.{answer_or_memory}
use Rattle.smith_component.proofs.RunsSound.{runs_sound}
use Rattle.smith_read.specs.Reads.{most_depth}
use Rattle.smith_tree.proofs.Depths.{scopes_within}
use Rattle.smith_tree.specs.Depths.{scope_depth}
use Rattle.smith_tree.specs.WellFormed.{WellFormed}
use Rattle.smith_script.specs.IsScript.{IsGiven, IsScript}

module _ (config : Config) (t : Tree) (input bytes : List ℕ) (spells : Spells t bytes) where
  module _ (component : Tree) (left made : List ℕ) (run : RunsTo config input component left) (reading : (u : Tree) → Spells u made ↔ (u ≡ component)) where
    -- If it is generated, nothing is left, and the bytes are the same.
    pub nothing_left : IsGiven config t input → left ≡ []
    nothing_left g = (runs_to_same config input component t left [] run g.runs).1

    pub same_bytes : IsGiven config t input → made ≡ bytes
    same_bytes g =
        let e : component ≡ t = (runs_to_same config input component t left [] run g.runs).0 in
        let all : Spells t made = (reading t).1 (sym e) in
        let z : Some made ≡ Some bytes = sym all ∙ spells in cc

  -- If it is generated, nothing is refused, except when out of memory.
  pub given_or_memory : IsGiven config t input → (e : Error) (left : List ℕ) → IsGenerateRefusal config input e left → e ≡ OutOfMemory
  given_or_memory g e left h = answer_or_memory config input t [] bytes g.consistent g.runs spells e left h

-- What is generated is well formed, and no deeper than what is read.

module _ (config : Config) (t : Tree) (input : List ℕ) (g : IsGiven config t input) where
  pub given_formed : WellFormed t
  given_formed = (runs_sound config input t [] g.consistent g.runs).0

  pub given_shallow : scope_depth t ≤ most_depth
  given_shallow =
      omega (arith, scopes_within config t (runs_sound config input t [] g.consistent g.runs).1.maxima, g.consistent.nesting)

-- The script of a tree produces it.
pub script_given : (config : Config) (t : Tree) (b : List ℕ) → IsScript config t b → IsGiven config t b
script_given config t b s = record { consistent = s.consistent; runs = s.runs }

pub are_bytes : (bs : List ℕ) → ((i : ℕ) → get_or bs i 0 < 256) → AreBytes bs
are_bytes [] h = tt
are_bytes (x ∷ xs) h = (h 0, are_bytes xs (λ i. h (suc i)))
