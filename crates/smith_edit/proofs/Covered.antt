-- If all that is removed is removed with more, no more members are left, and no more indexes.
use Rattle.std.proofs.Common.{◌≡◌, ℕ, ◌+◌, ◌-◌, ◌<◌, ◌≤◌, Bool, true, false, nat_eq, List, [], ◌∷◌, Option, None, Some, length, length-append}
use Rattle.std.proofs.Common.{⊎_elim, ap, sym, refl, subst, ◌∙◌, arith}
use Rattle.std.proofs.lemmas.Bool.{cases_lt}
use Rattle.std.proofs.lemmas.Bool.Decides.{nat_tests}
use Rattle.std.proofs.lemmas.Option.{slice_get_past}
use Rattle.std.specs.Prelude.{if◌then◌else◌}
use Rattle.std.specs.Option.{is_some, option_map, option_to_list}
use Rattle.smith_syntax.specs.Entries.{Case, DefValType, Field}
use Rattle.smith_syntax.specs.declared.types.ComponentValType.{ComponentValType}
use Rattle.smith_syntax.specs.declared.types.ComponentValType.TheVariants.{Primitive, Indexed}
use Rattle.smith_edit.specs.Edited.{case_edited, field_edited}
use Rattle.smith_edit.specs.Edited.{left_of, members, optional_edited, shape_edited}
use Rattle.smith_edit.specs.Edited.{value_edited}
use Rattle.smith_edit.specs.Removal.{inside, past, removes}
use Rattle.smith_edit.specs.Renumbering.{Renumbering, entry_at, fate_if, index_kept, index_left, kept_index, new_index, with_entry, with_like}
use Rattle.smith_edit.specs.Shapes.{Shape, alone, cases, fields, labels, pair, single, values}
use Rattle.smith_edit.specs.declared.walk.Removal.{Removal}
use Rattle.smith_edit.specs.declared.walk.Removal.TheVariants.{Items, Everything}
use Rattle.smith_edit.specs.declared.renumbering.Fate.{Fate}
use Rattle.smith_edit.specs.declared.renumbering.Fate.TheVariants.{Kept, Changed, Removed}
use Rattle.smith_edit.specs.declared.renumbering.Renumbered.{Renumbered}
use Rattle.smith_edit.proofs.Follows.{entry_there, get_last, some_at}
use Rattle.smith_edit.proofs.LowIndexes.{entry_or}
use Rattle.smith_edit.proofs.Past.{past_more, past_none, past_past, removed_by_number}
use Rattle.smith_edit.proofs.Told.{told_before}

-- What the first removes from here on, the other removes.
abbrev pub Covers : Removal → Removal → Type 0
Covers r q = (n : ℕ) → removes (past n r) ≡ true → removes (past n q) ≡ true

pub covered_here : (r q : Removal) → Covers r q → removes r ≡ true → removes q ≡ true
covered_here r q c e = subst (λ x. removes x ≡ true) (past_none q) (c 0 (subst (λ x. removes x ≡ true) (sym (past_none r)) e))

pub covered_past : (m : ℕ) (r q : Removal) → Covers r q → Covers (past m r) (past m q)
covered_past m r q c n e = subst (λ x. removes x ≡ true) (sym (past_past n m q)) (c (m + n) (subst (λ x. removes x ≡ true) (past_past n m r) e))

covered_by_all : (r : Removal) → Covers r Everything
covered_by_all r n e = refl

pub covered_inside : (r q : Removal) → Covers r q → Covers (inside r) (inside q)
covered_inside r q c = go (removes r) refl (removes q) refl
  where
    go : (a : Bool) → removes r ≡ a → (b : Bool) → removes q ≡ b → Covers (inside r) (inside q)
    go a i true j = subst (Covers (inside r)) (sym (ap (λ d. if d then Everything else past 1 q) j)) (covered_by_all (inside r))
    go true i false j = let both = covered_here r q c i in absurd cc
    go false i false j =
        let of_first : inside r ≡ past 1 r = ap (λ d. if d then Everything else past 1 r) i in
        let of_other : inside q ≡ past 1 q = ap (λ d. if d then Everything else past 1 q) j in
        rw (of_first, of_other) (covered_past 1 r q c)

pub covered_item : (f k l : ℕ) → f ≤ k → k ≤ l → Covers (Items k k) (Items f l)
covered_item f k l low high n e =
    let same = removed_by_number k n e in
    let there : nat_eq (f - n) 0 ≡ true = grind (arith, nat_tests) in
    rw (past_more n f l (omega (arith, same, high))) there

-- how far an entry is from being kept
abbrev pub rank : Fate → ℕ
rank Kept = 0
rank Changed = 1
rank Removed = 2

pub rank_most : (f : Fate) → rank f ≤ 2
rank_most Kept = omega arith
rank_most Changed = omega arith
rank_most Removed = omega arith

-- Each entry of the other is as far or further.
pub record Further (s q : Renumbering) : Type 0 where
  pub alike : length s.entries ≡ length q.entries
  pub later : (i : ℕ) → rank (entry_at s i).fate ≤ rank (entry_at q i).fate

last_entry : (s : Renumbering) (f : Fate) → (entry_at (with_entry s f) (length s.entries)).fate ≡ f
last_entry s f = ap (λ (e : Renumbered). e.fate)
    (entry_there (with_entry s f) (length s.entries) (record { index = s.next; fate = f }) (get_last s.entries (record { index = s.next; fate = f })))

no_entry : (s : Renumbering) (i : ℕ) → length s.entries ≤ i → (entry_at s i).fate ≡ Kept
no_entry s i h = ap (λ (o : Option Renumbered). (entry_or o i).fate) (slice_get_past s.entries i h)

more_entries : (s : Renumbering) (f : Fate) → length (with_entry s f).entries ≡ length s.entries + 1
more_entries s f = length-append s.entries (record { index = s.next; fate = f } ∷ [])

pub further_entry : (s q : Renumbering) (f g : Fate) → Further s q → rank f ≤ rank g → Further (with_entry s f) (with_entry q g)
further_entry s q f g k h = record { alike = omega (arith, k.alike, more_entries s f, more_entries q g); later = later }
  where
    at_last : (i : ℕ) → i ≡ length s.entries → rank (entry_at (with_entry s f) i).fate ≤ rank (entry_at (with_entry q g) i).fate
    at_last i e =
        let other : i ≡ length q.entries = e ∙ k.alike in
        let of_first : (entry_at (with_entry s f) i).fate ≡ f = subst (λ j. (entry_at (with_entry s f) j).fate ≡ f) (sym e) (last_entry s f) in
        let of_other : (entry_at (with_entry q g) i).fate ≡ g = subst (λ j. (entry_at (with_entry q g) j).fate ≡ g) (sym other) (last_entry q g) in
        rw (of_first, of_other) h

    beyond : (i : ℕ) → length s.entries < i → rank (entry_at (with_entry s f) i).fate ≤ rank (entry_at (with_entry q g) i).fate
    beyond i e = rw (no_entry (with_entry s f) i (omega (arith, e, more_entries s f))) (omega arith)

    later : (i : ℕ) → rank (entry_at (with_entry s f) i).fate ≤ rank (entry_at (with_entry q g) i).fate
    later i =
        ⊎_elim
        (λ lt. rw (told_before s f i lt, told_before q g i (omega (arith, lt, k.alike))) (k.later i))
        (λ ge. ⊎_elim (λ lt. at_last i (omega (arith, ge, lt))) (λ more. beyond i (omega (arith, more))) (cases_lt i (length s.entries + 1)))
        (cases_lt i (length s.entries))

-- how many there are, one or none
abbrev pub amount : {A : Type 0} → Option A → ℕ
amount o = length (option_to_list o)

pub amount_most : {A : Type 0} (o : Option A) → amount o ≤ 1
amount_most None = omega arith
amount_most (Some x) = omega arith

pub amount_mapped : {A B : Type 0} (f : A → B) (o : Option A) → amount (option_map f o) ≡ amount o
amount_mapped f None = refl
amount_mapped f (Some x) = refl

pub fewer_mapped : {A B C D : Type 0} (f : A → B) (g : C → D) (o : Option A) (p : Option C) → amount p ≤ amount o
    → amount (option_map g p) ≤ amount (option_map f o)
fewer_mapped f g o p h = omega (arith, h, amount_mapped f o, amount_mapped g p)

-- the fate of what is left, if it is
pub fate_further : {A B : Type 0} (o : Option A) (p : Option B) (f g : Fate) → amount p ≤ amount o → rank f ≤ rank g
    → rank (fate_if (is_some o) f) ≤ rank (fate_if (is_some p) g)
fate_further o None f g h k = rank_most (fate_if (is_some o) f)
fate_further None (Some y) f g h k = absurd (omega (arith, h))
fate_further (Some x) (Some y) f g h k = k

pub further_like : {A B : Type 0} (s q : Renumbering) (i : ℕ) (o : Option A) (p : Option B) → Further s q → amount p ≤ amount o
    → Further (with_like s i (is_some o)) (with_like q i (is_some p))
further_like s q i o p k h = ⊎_elim there beyond (cases_lt i (length s.entries))
  where
    there : i < length s.entries → Further (with_like s i (is_some o)) (with_like q i (is_some p))
    there lt =
        let (x, of_first) = some_at s.entries i lt in
        let (y, of_other) = some_at q.entries i (omega (arith, lt, k.alike)) in
        let as_far : rank x.fate ≤ rank y.fate = rw (entry_there s i x of_first, entry_there q i y of_other) at (k.later i) in
        rw (of_first, of_other, with_like)
        (further_entry s q (fate_if (is_some o) x.fate) (fate_if (is_some p) y.fate) k (fate_further o p x.fate y.fate h as_far))

    beyond : length s.entries ≤ i → Further (with_like s i (is_some o)) (with_like q i (is_some p))
    beyond ge = rw (slice_get_past s.entries i ge, slice_get_past q.entries i (omega (arith, ge, k.alike)), with_like) k

-- new indexes

left_by : (f g : Fate) (i j : ℕ) → rank f ≤ rank g
    → amount (index_left (record { index = j; fate = g })) ≤ amount (index_left (record { index = i; fate = f }))
left_by f Removed i j h = omega arith
left_by Removed Kept i j h = absurd (omega (arith, h))
left_by Removed Changed i j h = absurd (omega (arith, h))
left_by Kept Kept i j h = omega arith
left_by Kept Changed i j h = omega arith
left_by Changed Kept i j h = omega arith
left_by Changed Changed i j h = omega arith

kept_by : (f g : Fate) (i j : ℕ) → rank f ≤ rank g
    → amount (index_kept (record { index = j; fate = g })) ≤ amount (index_kept (record { index = i; fate = f }))
kept_by f Removed i j h = omega arith
kept_by f Changed i j h = omega arith
kept_by Removed Kept i j h = absurd (omega (arith, h))
kept_by Changed Kept i j h = absurd (omega (arith, h))
kept_by Kept Kept i j h = omega arith

pub fewer_left : (s q : Renumbering) (i : ℕ) → Further s q → amount (new_index q i) ≤ amount (new_index s i)
fewer_left s q i k = left_by (entry_at s i).fate (entry_at q i).fate (entry_at s i).index (entry_at q i).index (k.later i)

pub fewer_kept : (s q : Renumbering) (i : ℕ) → Further s q → amount (kept_index q i) ≤ amount (kept_index s i)
fewer_kept s q i k = kept_by (entry_at s i).fate (entry_at q i).fate (entry_at s i).index (entry_at q i).index (k.later i)

-- members

fewer_unless : {A B : Type 0} (a b : Bool) (o : Option A) (p : Option B) → (a ≡ true → b ≡ true) → amount p ≤ amount o
    → amount (if b then None else p) ≤ amount (if a then None else o)
fewer_unless a true o p c h = omega arith
fewer_unless true false o p c h = let bad = c refl in absurd cc
fewer_unless false false o p c h = h

module _ {A : Type 0} (edited other : A → Option A) (fewer : (x : A) → amount (other x) ≤ amount (edited x)) where
  pub fewer_members : (r q : Removal) → Covers r q → (xs : List A) → length (members other q xs) ≤ length (members edited r xs)
  fewer_members r q c [] = omega arith
  fewer_members r q c (x ∷ xs) =
      let here = fewer_unless (removes r) (removes q) (edited x) (other x) (covered_here r q c) (fewer x) in
      let rest = fewer_members (past 1 r) (past 1 q) (covered_past 1 r q c) xs in
      omega (
        arith,
        here,
        rest,
        length-append (option_to_list (if removes r then None else edited x)) (members edited (past 1 r) xs),
        length-append (option_to_list (if removes q then None else other x)) (members other (past 1 q) xs),
      )

fewer_of : {A : Type 0} (old new other : List A) → length other ≤ length new → amount (left_of old other) ≤ amount (left_of old new)
fewer_of [] new other h = omega arith
fewer_of (x ∷ xs) new [] h = omega arith
fewer_of (x ∷ xs) [] (z ∷ zs) h = absurd (omega (arith, h))
fewer_of (x ∷ xs) (y ∷ ys) (z ∷ zs) h = omega arith

module _ (s q : Renumbering) (k : Further s q) where
  fewer_values : (v : ComponentValType) → amount (value_edited q v) ≤ amount (value_edited s v)
  fewer_values (Primitive p) = omega arith
  fewer_values (Indexed i) = fewer_mapped Indexed Indexed (new_index s i) (new_index q i) (fewer_left s q i k)

  pub fewer_fields : (f : Field) → amount (field_edited q f) ≤ amount (field_edited s f)
  fewer_fields f = fewer_mapped (λ v. (f.0, v)) (λ v. (f.0, v)) (value_edited s f.1) (value_edited q f.1) (fewer_values f.1)

  fewer_cases : (c : Case) → amount (case_edited q c) ≤ amount (case_edited s c)
  fewer_cases (name, None) = omega arith
  fewer_cases (name, Some v) = fewer_mapped (λ w. (name, Some w)) (λ w. (name, Some w)) (value_edited s v) (value_edited q v) (fewer_values v)

  module _ (r p : Removal) (c : Covers r p) where
    pub fewer_optional : (o : Option ComponentValType) → amount (optional_edited q p o) ≤ amount (optional_edited s r o)
    fewer_optional None = omega arith
    fewer_optional (Some v) = fewer_unless (removes r) (removes p) (value_edited s v) (value_edited q v) (covered_here r p c) (fewer_values v)

    compound : {A : Type 0} (type : List A → DefValType) (edited other : A → Option A) → ((x : A) → amount (other x) ≤ amount (edited x)) → (xs : List A)
        → amount (option_map type (left_of xs (members other p xs))) ≤ amount (option_map type (left_of xs (members edited r xs)))
    compound type edited other fewer xs =
        fewer_mapped type type (left_of xs (members edited r xs)) (left_of xs (members other p xs))
        (fewer_of xs (members edited r xs) (members other p xs) (fewer_members edited other fewer r p c xs))

    pub fewer_shapes : (x : Shape) → amount (shape_edited q p x) ≤ amount (shape_edited s r x)
    fewer_shapes (alone t) = omega arith
    fewer_shapes (single type v) = fewer_mapped type type (value_edited s v) (value_edited q v) (fewer_values v)
    fewer_shapes (fields type fs) = compound type (field_edited s) (field_edited q) fewer_fields fs
    fewer_shapes (cases type cs) = compound type (case_edited s) (case_edited q) fewer_cases cs
    fewer_shapes (values type vs) = compound type (value_edited s) (value_edited q) fewer_values vs
    fewer_shapes (labels type ns) = compound type Some Some (λ n. omega arith) ns
    fewer_shapes (pair type ok err) = omega arith
