-- Names and sets of names: the longest name, what a set has, and what it gains.
use Rattle.std.proofs.Common.{◌≡◌, ℕ, ◌+◌, ◌≤◌, max, cond, if◌then◌else◌, not, ◌||◌, ◌∙◌, Bool, true, false, List, [], ◌∷◌, length, map, refl, sym, ap, subst}
use Rattle.std.proofs.Common.{arith, string_bytes, bytes_eq}
use Rattle.std.specs.declared.string.String.{String}
use Rattle.std.specs.List.{list_any}
use Rattle.std.specs.BTreeMap.{is_at}
use Rattle.std.specs.BTreeSet.{BTreeSet, contains_text, btree_set_len, UpdatesBy}
use Rattle.std.specs.String.{string_cmp}
use Rattle.std.specs.Ordering.{nat_cmp}
use Rattle.std.specs.Cmp.Lexicographic.{slice_cmp}
use Rattle.std.proofs.lemmas.Cmp.{nat_list_eq_equiv}
use Rattle.std.proofs.lemmas.List.{length-map}
use Rattle.std.proofs.lemmas.Map.Text.{is_eq-slice_cmp, btree_set_updates_text}
use Rattle.std.proofs.lemmas.Slice.Eq.{bytes_eq-Decides}
use Rattle.smith_input.specs.Names.{GainsName, IsUniqueIn}
use Rattle.smith_input.specs.NewNames.{IsMadeNew, IsMadeUnique, is_among}

abbrev pub longest : List (List ℕ) → ℕ
longest [] = 0
longest (n ∷ ns) = max (length n) (longest ns)

split : (q n : List ℕ) (ns : List (List ℕ)) (b rest : Bool) → bytes_eq n q ≡ b → (rest ≡ true → length q ≤ longest ns) → (b || rest) ≡ true
    → length q ≤ longest (n ∷ ns)
split q n ns true rest e f h = omega (arith, ap length ((bytes_eq-Decides n q).0 e))
split q n ns false rest e f h = omega (arith, f h)

-- one of the names is no longer than the longest
pub longest_has : (q : List ℕ) (ns : List (List ℕ)) → is_among ns q ≡ true → length q ≤ longest ns
longest_has q [] h = cc
longest_has q (n ∷ ns) h = split q n ns (bytes_eq n q) (is_among ns q) refl (longest_has q ns) h

-- what a set has
keys_among : {A : Type 0} (ks : List (String A)) (q : List ℕ)
    → list_any (is_at (λ k. slice_cmp nat_cmp q (string_bytes k))) ks ≡ is_among (map string_bytes ks) q
keys_among [] q = refl
keys_among (k ∷ ks) q = λ i. (is_eq-slice_cmp q (string_bytes k) ∙ nat_list_eq_equiv.symm q (string_bytes k)) i || keys_among ks q i

pub set_has : {A : Type 0} (set : BTreeSet (String A)) (q : List ℕ) → contains_text set q ≡ is_among (map string_bytes set.keys) q
set_has set q = keys_among set.keys q

pub unique_in_set : {A : Type 0} (set : BTreeSet (String A)) (text name : List ℕ) → IsMadeNew (map string_bytes set.keys) text name → IsUniqueIn set text name
unique_in_set set text name u =
    let texts = map string_bytes set.keys in
    let same : is_among texts ≡ contains_text set = λ i q. sym (set_has set q) i in
    subst (λ n. IsMadeUnique (contains_text set) n text name) (length-map set.keys string_bytes)
    (subst (λ has. IsMadeUnique has (length texts) text name) same u)

pub cond_or : (a b : Bool) → cond a true b ≡ (a || b)
cond_or true b = refl
cond_or false b = refl

-- a name that was not in a set is put into it
pub gains : {A : Type 0} (key : String A) {name : List ℕ} {old new : BTreeSet (String A)} {added : Bool} → string_bytes key ≡ name
    → contains_text old name ≡ false → UpdatesBy string_cmp (λ k. slice_cmp nat_cmp (string_bytes key) (string_bytes k)) old new true
    → added ≡ not (contains_text old (string_bytes key)) → btree_set_len new ≡ btree_set_len old + (if added then 1 else 0) → GainsName old new name
gains key {old = old} {new = new} {added = added} e absent updates a len =
    let is_added : added ≡ true = a ∙ ap not (ap (contains_text old) e ∙ absent) in
    record {
      has = λ q.
          btree_set_updates_text (string_bytes key) old new true updates q
          ∙ (cond_or (bytes_eq (string_bytes key) q) (contains_text old q) ∙ ap (λ bs. bytes_eq bs q || contains_text old q) e);
      size = len ∙ ap (λ b. btree_set_len old + (if b then 1 else 0)) is_added;
    }
