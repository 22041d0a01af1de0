-- An input that begins with the bytes of its limits.
use Rattle.std.proofs.Common.{◌≡◌, ◌∙◌, ℕ, ◌+◌, ◌-◌, ◌≤◌, ◌++◌, List, length, length-append, ap, arith, subst, sym}
use Rattle.std.specs.Prelude.{min}
use Rattle.smith_format.specs.declared.config.Config.{Config}
use Rattle.smith_corpus.specs.Samples.{IsSample, IsSampleError}
use Rattle.smith_corpus.specs.declared.samples.Sample.{Sample}
use Rattle.smith_corpus.specs.declared.samples.SampleError.{SampleError}
use Rattle.smith_corpus.specs.declared.samples.SampleError.TheVariants.{BytesLeft, Refused}
use Rattle.smith_swarm.specs.Swarm.{after_front, front_len, limit_count, swarmed}
use Rattle.smith_swarm.proofs.Fronts.{same_limits, same_rest}
use Rattle.std.proofs.Common.{refl, []}
use Rattle.smith_input.specs.declared.error.Error.{Error}
use Rattle.smith_input.specs.declared.error.Error.TheVariants.{InconsistentLimits, MinimumNotMet, ModuleRefused, TooLong, OutOfMemory, PartsDisagree}
use Rattle.smith_component.specs.Refusals.{IsGenerateRefusal, IsNewRefusal}

module _ (front rest whole : List ℕ) (joined : whole ≡ front ++ rest) (long : length front ≡ front_len (front ++ rest)) where
  pub follows : rest ≡ after_front whole
  follows = sym (ap after_front joined ∙ same_rest front rest long)

  pub within : (config : Config) {limits : Config} {own : Sample} → limits ≡ swarmed config front → IsSample limits own → IsSample (swarmed config whole) own
  within config {limits} {own} is h =
      subst (λ k. IsSample k own) (is ∙ sym (ap (swarmed config) joined ∙ same_limits front rest long config)) h

-- the bytes of the limits, and the rest of that many, are all
pub whole_front : (front rest : List ℕ) (len : ℕ) → length front ≡ min limit_count len → length rest ≡ len - length front
    → length front ≡ front_len (front ++ rest)
whole_front front rest len some others = omega (arith, length-append front rest, some, others)

-- What holds of at most that many bytes holds of at most more.
pub more_bytes : (config : Config) {few many : ℕ} (e : SampleError) → few ≤ many → IsSampleError config few e → IsSampleError config many e
more_bytes config (Refused error) fewer h = record { input = h.input; few = omega (arith, fewer, h.few); left = h.left; refused = h.refused }
more_bytes config BytesLeft fewer h = record {
  consistent = h.consistent;
  input = h.input;
  few = omega (arith, fewer, h.few);
  tree = h.tree;
  left = h.left;
  made = h.made;
  some = h.some;
}

-- A refusal that occurs before any input is read.

-- It is one of the empty input too.
pub refused_at_once : (config : Config) (e : Error) → IsNewRefusal config e → IsGenerateRefusal config [] e []
refused_at_once config InconsistentLimits h = (h, refl)
refused_at_once config MinimumNotMet h = absurd h
refused_at_once config ModuleRefused h = absurd h
refused_at_once config TooLong h = absurd h
refused_at_once config OutOfMemory h = h
refused_at_once config PartsDisagree h = absurd h

pub new_is_refused : (config : Config) (len : ℕ) (e : Error) → IsNewRefusal config e → IsSampleError config len (Refused e)
new_is_refused config len e h = record { input = []; few = omega arith; left = []; refused = refused_at_once config e h }
