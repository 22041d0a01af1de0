-- A core module that is read from the script of a text stands for a generated one, and has the bytes of the text if the text does.
use Rattle.std.proofs.Common.{◌≡◌, ℕ, ◌<◌, Bool, false, List, [], Decides, Option, Some, None, refl, sym, ap, ◌∙◌, subst, append-nil, arith}
use Rattle.std.specs.declared.alloc.Global.{Global}
use Rattle.std.specs.declared.vec.Vec.{Vec}
use Rattle.smith_format.specs.declared.config.Config.{Config}
use Rattle.std.proofs.lemmas.Bool.{false≢true}
use Rattle.std.specs.Prelude.{MatchOption}
use Rattle.smith_input.specs.Script.{AreBytes}
use Rattle.smith_input.specs.declared.error.Error.{Error}
use Rattle.smith_input.specs.declared.error.Error.TheVariants as error
use Rattle.smith_core.specs.Module.{module_text}
use Rattle.smith_core.specs.StandIn.{IsStandInRefusal, ReadsStandIn}
use Rattle.smith_core.specs.StandInScript.{script_stand_in, stand_in_of}
use Rattle.smith_core.specs.declared.module.parts.ModuleParts.{ModuleParts}
use Rattle.smith_core.proofs.StandInMade.{small_stand_in, stand_in_made}
use Rattle.smith_core.proofs.StandInRead.{text_read}
use Rattle.smith_core.proofs.StandInSame.{stand_in_same}
use Rattle.smith_core.proofs.StandInTold.{stand_in_told}
use Rattle.smith_script.specs.StandIns.{IsMade, IsStandInText}

-- The bytes of a module that is read.

none_of : (config : Config) (input rest : List ℕ) (m : ModuleParts) → ReadsStandIn config input m rest → module_text m ≡ None → IsMade config input None
none_of config input rest m reads none n left other = (stand_in_same other reads).0 ∙ none

pub made_of : (config : Config) (input rest : List ℕ) (m : ModuleParts) (r : Option (Vec ℕ Global)) → ReadsStandIn config input m rest
    → MatchOption r (module_text m ≡ None) (λ b. module_text m ≡ Some b.items) → IsMade config input r
made_of config input rest m (Some b) reads is = (m, rest, reads, is)
made_of config input rest m None reads none = none_of config input rest m reads none

-- None is read if limits on memories cross, and a refusal says so, unless memory ran out.

none_if_crossed : (config : Config) (input : List ℕ) → config.max_memories < config.min_memories → IsMade config input None
none_if_crossed config input crossed m rest reads = absurd (omega (arith, crossed, reads.ordered))

pub none_read : (config : Config) (input : List ℕ) (e : Error) → IsStandInRefusal config e → ¬ (e ≡ error.OutOfMemory) → IsMade config input None
none_read config input error.InconsistentLimits refused other = absurd refused
none_read config input error.MinimumNotMet refused other = absurd refused
none_read config input error.ModuleRefused refused other = none_if_crossed config input refused
none_read config input error.TooLong refused other = absurd refused
none_read config input error.OutOfMemory refused other = absurd (other refl)
none_read config input error.PartsDisagree refused other = absurd refused

module _ (config : Config) (text : List ℕ) where
  abbrev script : List ℕ
  script = script_stand_in config (stand_in_of text)

  -- A text that stands for a generated module is read from its script.
  read_back : IsStandInText config text → (m : ModuleParts) × ReadsStandIn config script m [] × (module_text m ≡ Some text)
  read_back is =
      let told = stand_in_told config is.0 text is.1 is.2 in
      let r = text_read config is.0 text is.1 is.2 [] in
      (r.0, subst (λ b. ReadsStandIn config b r.0 []) (append-nil (script_stand_in config is.0) ∙ ap (script_stand_in config) (sym told)) r.1, r.2)

  -- What is made of it says whether it does.
  pub made_says : (s : List ℕ) (b : Vec ℕ Global) (r : Bool) → s ≡ script → IsMade config s (Some b) → Decides r (b.items ≡ text)
      → Decides r (IsStandInText config text)
  made_says s b r said made same = (λ is. stands (same.0 is), λ is. same.1 (made_back is))
    where
      stands : b.items ≡ text → IsStandInText config text
      stands e = let x = stand_in_made config s made.0 made.1 made.2 in (x.0, x.1, sym x.2 ∙ (made.3 ∙ ap Some e))

      made_back : IsStandInText config text → b.items ≡ text
      made_back is =
          let back = read_back is in
          let reads : ReadsStandIn config script made.0 made.1 = subst (λ z. ReadsStandIn config z made.0 made.1) said made.2 in
          let both : Some b.items ≡ Some text = sym made.3 ∙ ((stand_in_same reads back.1).0 ∙ back.2) in cc

  decides_not : (¬ IsStandInText config text) → Decides false (IsStandInText config text)
  decides_not not = (λ is. absurd (false≢true is), λ is. absurd (not is))

  pub none_says : (s : List ℕ) → s ≡ script → IsMade config s None → Decides false (IsStandInText config text)
  none_says s said made = decides_not none
    where
      none : ¬ IsStandInText config text
      none is =
          let back = read_back is in
          let clash : None ≡ Some text = sym (made back.0 [] (subst (λ z. ReadsStandIn config z back.0 []) (sym said) back.1)) ∙ back.2 in absurd cc

  pub unsaid_says : (¬ AreBytes script) → Decides false (IsStandInText config text)
  unsaid_says unsaid = decides_not none
    where
      none : ¬ IsStandInText config text
      none is =
          let told = stand_in_told config is.0 text is.1 is.2 in
          unsaid (subst (λ s. AreBytes (script_stand_in config s)) (sym told) (small_stand_in config is.0 is.1).are)
