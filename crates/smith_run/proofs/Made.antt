-- What is made of some of the input, within limits that the input may encode.
use Rattle.std.proofs.Common.{◌≡◌, ◌≢◌, ℕ, List, length, Option, Result, Ok, Err, IfOk, IfErr, subst, refl}
use Rattle.std.specs.Prelude.{OnOk, slice_range}
use Rattle.std.proofs.lemmas.List.{take_rest}
use Rattle.smith_format.specs.Consistency.{IsConsistent}
use Rattle.smith_component.specs.declared.Config.{Config}
use Rattle.smith_swarm.specs.Swarm.{after_front, front_len}
use Rattle.smith_run.specs.Running.{ComesAfterReading, GivesAll, IsRefusedOn, Writes}
use Rattle.smith_run.specs.declared.running.Form.{Form}
use Rattle.smith_run.specs.declared.running.RunError.{RunError}
use Rattle.smith_run.specs.declared.running.RunError.TheVariants.{InputTooLong}

module _ (limits : List ℕ → Config) (rest : List ℕ → List ℕ) {before after : Option (List ℕ)} (input : List ℕ) (all : GivesAll before after input)
    {config : Config} (within : config ≡ limits input) {bytes : List ℕ} (same : bytes ≡ rest input) where
  module _ (form : Form) (old new : Option (List ℕ)) where
    writes : (left : List ℕ) → Writes config form bytes left old new → Writes (limits input) form (rest input) left old new
    writes left w = subst (λ k. Writes k form (rest input) left old new) within (subst (λ b. Writes config form b left old new) same w)

    pub written : (made : Result ℕ RunError) → IfOk made (λ count. (left : List ℕ) × (count ≡ length left) × Writes config form bytes left old new)
        → IfOk made (λ count. (input left : List ℕ) × (count ≡ length left) × GivesAll before after input
        × Writes (limits input) form (rest input) left old new)
    written (Ok count) w = (input, w.0, w.1, all, writes w.0 w.2)
    written (Err e) w = tt

    pub written_within : (made : Result ℕ RunError)
        → IfOk made (λ count. (left : List ℕ) × (count ≡ length left) × Writes config form bytes left old new) → OnOk made (IsConsistent config)
        → IfOk made (λ count. (input left : List ℕ) × (count ≡ length left) × GivesAll before after input × IsConsistent (limits input)
        × Writes (limits input) form (rest input) left old new)
    written_within (Ok count) w fits = (input, w.0, w.1, all, subst IsConsistent within fits, writes w.0 w.2)
    written_within (Err e) w fits = tt

  pub refused : (made : Result ℕ RunError) → IfErr made (λ e. ComesAfterReading e → IsRefusedOn config bytes e)
      → IfErr made (λ e. ComesAfterReading e → (input : List ℕ) × GivesAll before after input × IsRefusedOn (limits input) (rest input) e)
  refused (Ok count) w = tt
  refused (Err e) w = λ read. (
    input,
    all,
    subst (λ k. IsRefusedOn k (rest input) e) within (subst (λ b. IsRefusedOn config b e) same (w read)),
  )

pub not_too_long : {P : Type 0} (made : Result ℕ RunError) → IfErr made (λ e. e ≢ InputTooLong) → made ≡ Err InputTooLong → P
not_too_long made other e = absurd (subst (λ r. IfErr r (λ e. e ≢ InputTooLong)) e other refl)

pub follows : {taken : ℕ} {one other input : List ℕ} → taken ≡ front_len one → one ≡ input → other ≡ input
    → slice_range other taken (length other) ≡ after_front input
follows {taken} {one} {other} count same_one same_other = cc (take_rest other taken, count, same_one, same_other)
