-- Labels byte by byte.
use Rattle.std.proofs.Common.{◌≡◌, ◌⊎◌, inl, inr, ⊎_elim, ℕ, List, [], ◌∷◌, ◌++◌, refl, sym, ap, append-nil}
use Rattle.smith_input.specs.Kebab.{AreInWord, IsDigit, IsLetter, IsWord, Kebab, word, hyphen as joined}
use Rattle.smith_syntax.specs.Labels.{AreFragments, AreInAcronym, BeginsWith, IsCapital, IsFirstFragment, IsFragment, IsLabel, hyphen, none}

-- the first of the bytes, in what has the form, or behind it
record Split (form : List ℕ → Type 0) (c : ℕ) (cs : List ℕ) : Type 0 where
  ds : List ℕ
  es : List ℕ
  is : cs ≡ ds ++ es
  formed : form (c ∷ ds)
  rest : AreFragments es

-- a fragment begins
record Ends (form : List ℕ → Type 0) (c : ℕ) (cs : List ℕ) : Type 0 where
  formed : form []
  at_hyphen : c ≡ 45
  rest : BeginsWith IsFragment cs

head_of : {c d : ℕ} {cs ds : List ℕ} → c ∷ cs ≡ d ∷ ds → c ≡ d
head_of e = ap (λ xs. elim xs [ [] ↦ 0 | x ∷ ys ↦ x ]) e

tail_of : {c d : ℕ} {cs ds : List ℕ} → c ∷ cs ≡ d ∷ ds → cs ≡ ds
tail_of e = ap (λ xs. elim xs [ [] ↦ [] | x ∷ ys ↦ ys ]) e

at_rest : (c : ℕ) (cs es : List ℕ) → c ∷ cs ≡ es → AreFragments es → (c ≡ 45) × BeginsWith IsFragment cs
at_rest c cs [] e none = absurd (let z : c ∷ cs ≡ [] = e in cc)
at_rest c cs _ e (hyphen fs gs f g) = (head_of e, (fs, gs, tail_of e, f, g))

begins : (form : List ℕ → Type 0) (c : ℕ) (cs : List ℕ) → BeginsWith form (c ∷ cs) → Ends form c cs ⊎ Split form c cs
begins form c cs ([], es, e, f, r) = let h = at_rest c cs es e r in inl (record { formed = f; at_hyphen = h.0; rest = h.1 })
begins form c cs (d ∷ ds, es, e, f, r) =
    inr (record { ds = ds; es = es; is = tail_of e; formed = rw (← head_of e) at f; rest = r })

-- what has the form, and what is behind the first of it, if that has another form
past : {form more : List ℕ → Type 0} {c : ℕ} {cs : List ℕ} → (s : Split form c cs) → more s.ds → BeginsWith more cs
past s f = (s.ds, s.es, s.is, f, s.rest)

pub first_goes : (c : ℕ) (cs : List ℕ) → BeginsWith IsFirstFragment (c ∷ cs)
    → (IsLetter c × BeginsWith AreInWord cs) ⊎ (IsCapital c × BeginsWith AreInAcronym cs)
first_goes c cs b = ⊎_elim (λ (e : Ends IsFirstFragment c cs). absurd e.formed)
    (λ (s : Split IsFirstFragment c cs). ⊎_elim (λ w. inl (w.0, past s w.1)) (λ a. inr (a.0, past s a.1)) s.formed) (begins IsFirstFragment c cs b)

pub next_goes : (c : ℕ) (cs : List ℕ) → BeginsWith IsFragment (c ∷ cs)
    → ((IsLetter c ⊎ IsDigit c) × BeginsWith AreInWord cs) ⊎ ((IsCapital c ⊎ IsDigit c) × BeginsWith AreInAcronym cs)
next_goes c cs b = ⊎_elim (λ (e : Ends IsFragment c cs). absurd e.formed)
    (λ (s : Split IsFragment c cs). ⊎_elim (λ w. inl (w.0, past s w.1)) (λ a. inr (a.0, past s a.1)) s.formed) (begins IsFragment c cs b)

pub small_goes : (c : ℕ) (cs : List ℕ) → BeginsWith AreInWord (c ∷ cs)
    → ((c ≡ 45) × BeginsWith IsFragment cs) ⊎ ((IsLetter c ⊎ IsDigit c) × BeginsWith AreInWord cs)
small_goes c cs b = ⊎_elim (λ (e : Ends AreInWord c cs). inl (e.at_hyphen, e.rest))
    (λ (s : Split AreInWord c cs). inr (s.formed.0, past s s.formed.1)) (begins AreInWord c cs b)

pub capital_goes : (c : ℕ) (cs : List ℕ) → BeginsWith AreInAcronym (c ∷ cs)
    → ((c ≡ 45) × BeginsWith IsFragment cs) ⊎ ((IsCapital c ⊎ IsDigit c) × BeginsWith AreInAcronym cs)
capital_goes c cs b = ⊎_elim (λ (e : Ends AreInAcronym c cs). inl (e.at_hyphen, e.rest))
    (λ (s : Split AreInAcronym c cs). inr (s.formed.0, past s s.formed.1)) (begins AreInAcronym c cs b)

-- at the end of a name
pub not_at_end : (form : List ℕ → Type 0) → (form [] → ⊥) → BeginsWith form [] → ⊥
not_at_end form not ([], es, e, f, r) = not f
not_at_end form not (d ∷ ds, es, e, f, r) = absurd (let z : [] ≡ d ∷ (ds ++ es) = e in cc)

-- ---- a name in kebab case is a label

word_fragment : (cs : List ℕ) → IsWord cs → IsFragment cs
word_fragment [] w = absurd w
word_fragment (c ∷ cs) w = inl (inl w.0, w.1)

word_first : (cs : List ℕ) → IsWord cs → IsFirstFragment cs
word_first [] w = absurd w
word_first (c ∷ cs) w = inl w

kebab_fragments : (cs : List ℕ) → Kebab cs → AreFragments (45 ∷ cs)
kebab_fragments cs (word w) = rw (sym (append-nil cs)) (hyphen cs [] (word_fragment cs w) none)
kebab_fragments _ (joined cs ds w k) = hyphen cs (45 ∷ ds) (word_fragment cs w) (kebab_fragments ds k)

pub kebab_label : (cs : List ℕ) → Kebab cs → IsLabel cs
kebab_label cs (word w) = (cs, [], sym (append-nil cs), word_first cs w, none)
kebab_label _ (joined cs ds w k) = (cs, 45 ∷ ds, refl, word_first cs w, kebab_fragments ds k)
