-- What is found of the sections of a module holds of its bytes, and of no others is it found.
use Rattle.std.proofs.Common.{◌≡◌, ℕ, List, [], ◌∷◌, Some, None, refl, sym, ◌∙◌, subst}
use Rattle.std.specs.List.{AllByRecursion}
use Rattle.std.proofs.lemmas.Option.{same_Some}
use Rattle.smith_format.specs.declared.types.MemoryType.{MemoryType}
use Rattle.smith_syntax.specs.Possible.{PossibleMemory}
use Rattle.smith_core.specs.StandInText.{StandIn, stand_in_text}
use Rattle.smith_read.specs.ModuleSections.{stand_in_at}
use Rattle.smith_verdict.specs.Modules.{AreBounded, AreBroken, AreSound, JudgesSections}
use Rattle.smith_verdict.specs.Modules.{BoundedModule, BrokenModule, JudgesModule, SoundMemory, SoundModule}
use Rattle.smith_verdict.specs.declared.modules.ModuleJudgement.{ModuleJudgement}
use Rattle.smith_verdict.specs.declared.modules.ModuleJudgement.TheVariants.{Sound, Broken, Bounded, Other}
use Rattle.smith_read.proofs.TellingModules.{tells_stand_in}

possible : (ms : List MemoryType) → AllByRecursion SoundMemory ms → AllByRecursion PossibleMemory ms
possible [] all = tt
possible (m ∷ ms) all = (all.0.0, possible ms all.1)

-- the sections that bytes spell are the ones that are read
spelled_is : (text : List ℕ) (s t : StandIn) → stand_in_at text ≡ Some s → stand_in_text t ≡ Some text → t ≡ s
spelled_is text s t e f = same_Some t s (sym (tells_stand_in.whole text t f) ∙ e)

none_spelled : (text : List ℕ) (t : StandIn) → stand_in_at text ≡ None → ¬ (stand_in_text t ≡ Some text)
none_spelled text t e f = let z : None ≡ Some t = sym e ∙ tells_stand_in.whole text t f in absurd cc

sound_sections : (text : List ℕ) (s : StandIn) → stand_in_at text ≡ Some s → SoundModule text → AreSound s
sound_sections text s e m = subst AreSound (spelled_is text s m.0 e m.1.0) (m.1.1, m.2, m.3)

broken_sections : (text : List ℕ) (s : StandIn) → stand_in_at text ≡ Some s → BrokenModule text → AreBroken s
broken_sections text s e m = subst AreBroken (spelled_is text s m.0 e m.1.0) (m.1.1, m.2)

bounded_sections : (text : List ℕ) (s : StandIn) → stand_in_at text ≡ Some s → BoundedModule text → AreBounded s
bounded_sections text s e m = subst AreBounded (spelled_is text s m.0 e m.1.0) (m.1.1, m.2, m.3)

pub found_is : (text : List ℕ) (s : StandIn) (j : ModuleJudgement) → stand_in_at text ≡ Some s → JudgesSections s j → JudgesModule text j
found_is text s Sound e h = (s, (tells_stand_in.sound text s e, h.0), h.1, h.2)
found_is text s Broken e h = (s, (tells_stand_in.sound text s e, h.0), h.1)
found_is text s Bounded e h = (s, (tells_stand_in.sound text s e, h.0), h.1, h.2)
found_is text s Other e h = (
  λ m. h.0 (sound_sections text s e m),
  λ m. h.1 (broken_sections text s e m),
  λ m. h.2 (bounded_sections text s e m),
)

judged_sound : (s : StandIn) (j : ModuleJudgement) → JudgesSections s j → AreSound s → j ≡ Sound
judged_sound s Sound h m = refl
judged_sound s Broken h m = absurd (h.1 (possible s.memories m.1))
judged_sound s Bounded h m = absurd (h.2 m.2)
judged_sound s Other h m = absurd (h.0 m)

pub sound_is_found : (text : List ℕ) (s : StandIn) (j : ModuleJudgement) → stand_in_at text ≡ Some s → JudgesSections s j → SoundModule text → j ≡ Sound
sound_is_found text s j e h m = judged_sound s j h (sound_sections text s e m)

pub unread_is_other : (text : List ℕ) → stand_in_at text ≡ None → JudgesModule text Other
unread_is_other text e = (λ m. none_spelled text m.0 e m.1.0, λ m. none_spelled text m.0 e m.1.0, λ m. none_spelled text m.0 e m.1.0)

-- ---- no module is judged in two ways

read_back : (text : List ℕ) (s : StandIn) → stand_in_text s ≡ Some text → stand_in_at text ≡ Some s
read_back text s e = tells_stand_in.whole text s e

pub sound_not_broken : (text : List ℕ) → SoundModule text → BrokenModule text → ⊥
sound_not_broken text m n =
    let e = read_back text m.0 m.1.0 in
    (broken_sections text m.0 e n).1 (possible m.0.memories (sound_sections text m.0 e m).1)

pub sound_not_bounded : (text : List ℕ) → SoundModule text → BoundedModule text → ⊥
sound_not_bounded text m n = let e = read_back text m.0 m.1.0 in (bounded_sections text m.0 e n).2 (sound_sections text m.0 e m).2
