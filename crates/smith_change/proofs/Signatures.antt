-- What is found of a type of functions.
use Rattle.std.proofs.Common.{◌≡◌, ℕ, List, Option, refl, sym, ◌∙◌}
use Rattle.std.specs.Option.{IsSome, option_map, option_zip}
use Rattle.smith_syntax.specs.Entries.{Field, Signature}
use Rattle.smith_syntax.specs.declared.types.ComponentValType.{ComponentValType}
use Rattle.smith_change.specs.Members.{fields_changed, fields_places, most_params, optional_changed, optional_places, signature_changed, signature_places}
use Rattle.smith_read.specs.Search.{past, sought}
use Rattle.smith_read.specs.declared.search.Search.{Search}
use Rattle.smith_change.proofs.RowsOf.{same_option}
use Rattle.smith_change.proofs.Seeking.{found_both, moved_both}

-- of these parameters, and this result
abbrev pub signature_of : List Field → Option ComponentValType → Signature
signature_of ps v = record { params = ps; result = v }

module _ {V : Type 0} (view : V → List Field) (g : Signature) (a : ℕ) (s t : Search) (params : Option V) (result : Option (Option ComponentValType))
    (moved : IsSome params → t ≡ past (fields_places g.params) s) where
  pub signature_found : option_map view params ≡ sought (fields_places g.params) s (λ k. fields_changed most_params a k g.params) g.params
      → result ≡ sought (optional_places g.result) t (λ k. optional_changed a k g.result) g.result
      → option_map (λ p. signature_of (view p.0) p.1) (option_zip params result) ≡ sought (signature_places g) s (λ k. signature_changed a k g) g
  signature_found first second =
      found_both view (λ v. v) (λ p. signature_of (view p.0) p.1) signature_of (λ x y. refl) (fields_places g.params) (optional_places g.result)
      (λ k. fields_changed most_params a k g.params) (λ k. optional_changed a k g.result) g.params g.result s t params result first moved
      (sym (same_option result) ∙ second)

  pub signature_moved : (u : Search) → (IsSome result → u ≡ past (optional_places g.result) t) → IsSome (option_zip params result)
      → u ≡ past (signature_places g) s
  signature_moved u more is = moved_both (fields_places g.params) (optional_places g.result) s t u params result moved more is
