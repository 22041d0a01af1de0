-- A component that can be generated, if it has to validate, is sound, and its bytes are answered to be valid.
use Rattle.std.proofs.Common.{◌≡◌, ℕ, inl, inr, true, List, sym, subst, arith}
use Rattle.smith_format.specs.Consistency.{IsConsistent}
use Rattle.smith_format.specs.CoreTypes.{Function}
use Rattle.smith_format.specs.declared.config.Config.{Config}
use Rattle.smith_format.specs.declared.types.EntityType.{EntityType}
use Rattle.smith_format.specs.declared.types.EntityType.TheVariants.{Func, Global, Memory, Table, Tag}
use Rattle.smith_syntax.specs.CoreLimits.{EntityLimits}
use Rattle.smith_syntax.specs.WellFormed.{FormedEntity}
use Rattle.smith_tree.specs.Grammar.{Spells}
use Rattle.smith_tree.specs.Readable.{CanBeGenerated}
use Rattle.smith_tree.specs.Tree.{Tree, ends}
use Rattle.smith_tree.proofs.Components.{valid_tree}
use Rattle.smith_tree.proofs.KeptLimits.{limits_kept}
use Rattle.smith_verdict.specs.Answers.{IsAnswer, IsSound}
use Rattle.smith_verdict.specs.Contained.{IsPlain, IsPlainContent, IsPlainEntity, IsPlainRef, IsWithinBounds}
use Rattle.smith_verdict.specs.declared.answers.Answer.{Answer}
use Rattle.smith_verdict.specs.declared.answers.Answer.TheVariants as answer
use Rattle.smith_verdict.proofs.Answered.{sound_law}
use Rattle.smith_verdict.proofs.GeneratedModules.{plain_values, sound_modules}
use Rattle.smith_verdict.proofs.GeneratedTrees.{of_whole}
use Rattle.smith_verdict.proofs.GeneratedTypes.{Holds}
use Rattle.smith_verdict.proofs.GeneratedValues.{configured_value, configured_values, few_values}
use Rattle.smith_verdict.proofs.WellFormed.{shallow}

plain_entity : (config : Config) (own : List Function) (e : EntityType) → EntityLimits config e → FormedEntity own e → IsPlainEntity e
plain_entity config own (Func i) limits formed = tt
plain_entity config own (Table t) limits formed = elim formed.element [
  | inl is ↦ subst IsPlainRef (sym is) tt
  | inr is ↦ subst IsPlainRef (sym is.1) tt
]
plain_entity config own (Memory m) limits formed = tt
plain_entity config own (Global g) limits formed = configured_value IsPlain config plain_values g.val_type limits
plain_entity config own (Tag t) limits formed = tt

plain_holds : (config : Config) → Holds config IsPlainContent
plain_holds config = record {
  names = λ n short. tt;
  functions =
      λ f formed.
      (configured_values IsPlain config plain_values f.0 formed.params, configured_values IsPlain config plain_values f.1 formed.results);
  entities = plain_entity config;
  module_types = λ ds few. tt;
}

bounds_hold : (config : Config) → Holds config IsWithinBounds
bounds_hold config = record {
  names = λ n short. omega (arith, short);
  functions = λ f formed. let few = few_values config f formed in (omega (arith, few.0), omega (arith, few.1));
  entities = λ own e limits formed. tt;
  module_types = λ ds few. omega (arith, few);
}

pub generated_sound : (config : Config) (t : Tree) → config.must_validate ≡ true → IsConsistent config → CanBeGenerated config t → IsSound t
generated_sound config t must fits can =
    let counts = fits.valid must in
    let each = can.limits.maxima.each in
    let kept = limits_kept config counts t can.limits.maxima in
    record {
      formed = can.formed;
      valid = valid_tree config t must fits can;
      plain = of_whole config fits IsPlainContent (plain_holds config) t each can.formed kept can.readable;
      bounded = of_whole config fits IsWithinBounds (bounds_hold config) t each can.formed kept can.readable;
      modules = sound_modules config counts.memories t ends can.readable;
    }

pub found_answered : (config : Config) (t : Tree) (b : List ℕ) (found : Answer) → config.must_validate ≡ true → IsConsistent config
    → CanBeGenerated config t → Spells t b → IsAnswer b found → found ≡ answer.Valid
found_answered config t b found must fits can spelled found_is =
    sound_law t b found spelled (shallow config t fits can) (generated_sound config t must fits can) found_is
