-- What has a name, renamed.
use Rattle.std.proofs.Common.{◌≡◌, ℕ, zero, suc, ◌<◌, ◌≤◌, true, List, [], ◌∷◌, Option, None, Some, get_or, map, length, ap, sym, refl}
use Rattle.std.proofs.Common.{◌∙◌, arith}
use Rattle.std.specs.Prelude.{slice_set}
use Rattle.std.proofs.lemmas.Bool.{cases_lt}
use Rattle.std.specs.Option.{is_some, option_map, option_to_list}
use Rattle.smith_syntax.specs.Entries.{Signature}
use Rattle.smith_syntax.specs.declared.types.ComponentValType.{ComponentValType}
use Rattle.smith_edit.specs.Items.{signature_items}
use Rattle.smith_read.specs.Search.{among, past, sought}
use Rattle.smith_edit.specs.ShortNames.{shorter_name}
use Rattle.smith_edit.specs.Simpler.{fields_simplified, renamed_at, signature_simplified}
use Rattle.smith_read.specs.declared.search.Search.{Search}
use Rattle.smith_read.specs.declared.search.Search.TheVariants.{Ahead, Over}
use Rattle.smith_read.proofs.Seeking.{and_then, by_number, past_less, sought_more}
use Rattle.smith_edit.proofs.Seeking.{sought_turn}

module _ {A : Type 0} (name : A → List ℕ) (rename : A → List ℕ → A) (names : List (List ℕ)) where
  -- there is none past the last
  pub renamed_beyond : (k : ℕ) (xs : List A) → length xs ≤ k → renamed_at name rename names k xs ≡ None
  renamed_beyond k [] h = refl
  renamed_beyond zero (x ∷ xs) h = absurd (omega arith)
  renamed_beyond (suc k) (x ∷ xs) h = ap (option_map (λ ys. x ∷ ys)) (renamed_beyond k xs (omega arith))

  module _ {X : Type 0} (shown : X → A) where
    -- if its name stays
    pub renamed_none : (k : ℕ) (xs : List X) (x : X) → k < length xs → x ≡ get_or xs k x → shorter_name names (name (shown x)) ≡ None
        → renamed_at name rename names k (map shown xs) ≡ None
    renamed_none k [] x lt at none = absurd (omega arith)
    renamed_none zero (y ∷ xs) x lt at none = grind arith
    renamed_none (suc k) (y ∷ xs) x lt at none = ap (option_map (λ ys. shown y ∷ ys)) (renamed_none k xs x (omega arith) at none)

    -- copies of all, except for the one
    pub renamed_some : (k : ℕ) (xs : List X) (x : X) (copies : List X) (y : X) (new : List ℕ) → k < length xs → x ≡ get_or xs k x
        → map shown copies ≡ map shown xs → shorter_name names (name (shown x)) ≡ Some new → shown y ≡ rename (shown x) new
        → Some (map shown (slice_set copies k y)) ≡ renamed_at name rename names k (map shown xs)
    renamed_some k [] x copies y new lt at same some is = absurd (omega arith)
    renamed_some k (z ∷ xs) x [] y new lt at same some is = absurd cc
    renamed_some zero (z ∷ xs) x (c ∷ copies) y new lt at same some is = grind arith
    renamed_some (suc k) (z ∷ xs) x (c ∷ copies) y new lt at same some is =
        let rest : map shown copies ≡ map shown xs = cc in
        let first : shown c ≡ shown z = cc in
        rw first (ap (option_map (λ ws. shown z ∷ ws)) (renamed_some k xs x copies y new (omega arith) at rest some is))

-- the parameters, and then the result
abbrev pub signed : Signature → List (List ℕ × ComponentValType) → Option ComponentValType → Signature
signed g ps r = record { params = ps; result = r }

pub signature_turn : (g : Signature) (s : Search) → sought (signature_items g) s (λ k. signature_simplified k g) g
    ≡ and_then (sought (length g.params) s (λ k. fields_simplified k g.params) g.params)
    (λ ps. option_map (signed g ps) (sought (length (option_to_list g.result)) (past (length g.params) s) (λ k. None) g.result))
signature_turn g s = grind (arith, sought_turn, renamed_beyond)

-- if the result is sought

past_result : (g : Signature) (k : ℕ) → is_some (among (length (option_to_list g.result)) (past (length g.params) (Ahead k))) ≡ true → length g.params ≤ k
past_result g k h = grind (arith, past_less, cases_lt)

result_by : {A : Type 0} (o : Option ℕ) (x : A) → is_some o ≡ true → by_number o (λ k. None) x ≡ None
result_by None x h = absurd cc
result_by (Some k) x h = refl

pub signature_none : (g : Signature) (s : Search) → is_some (among (length (option_to_list g.result)) (past (length g.params) s)) ≡ true
    → None ≡ sought (signature_items g) s (λ k. signature_simplified k g) g
signature_none g (Ahead k) h =
    let ge : length g.params ≤ k = past_result g k h in
    sym
    (signature_turn g (Ahead k)
    ∙ ap (λ o. and_then o (λ ps. option_map (signed g ps) (sought (length (option_to_list g.result)) (past (length g.params) (Ahead k)) (λ j. None) g.result)))
    (sought_more (length g.params) k (λ j. fields_simplified j g.params) g.params ge)
    ∙ ap (option_map (signed g g.params)) (result_by (among (length (option_to_list g.result)) (past (length g.params) (Ahead k))) g.result h))
signature_none g Over h = absurd cc
