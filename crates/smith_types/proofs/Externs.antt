-- Names of imports and exports, with their URLs.
use Rattle.smith_format.specs.declared.config.Config.{Config}
use Rattle.std.proofs.Common.{◌≡◌, ℕ, ◌+◌, ◌||◌, Bool, true, false, cond, if◌then◌else◌, List, [], ◌∷◌, ◌++◌, length, refl, sym, ap, ◌∙◌, subst, arith}
use Rattle.std.proofs.Common.{append-nil, bytes_eq, string_bytes}
use Rattle.std.proofs.lemmas.List.{map-append}
use Rattle.std.proofs.lemmas.List.Concat.{flat_map-append}
use Rattle.std.proofs.lemmas.Map.Text.{btree_set_updates_text}
use Rattle.std.proofs.lemmas.Slice.Eq.{bytes_eq-Decides}
use Rattle.std.specs.BTreeSet.{BTreeSet, btree_set_len, contains_text, UpdatesBy}
use Rattle.std.specs.Cmp.Lexicographic.{slice_cmp}
use Rattle.std.specs.Ordering.{nat_cmp}
use Rattle.std.specs.String.{string_cmp}
use Rattle.std.specs.Fmt.{decimal}
use Rattle.std.specs.Prelude.{Some}
use Rattle.std.specs.declared.string.String.{String}
use Rattle.smith_input.specs.Names.{Holds, IsUniqueIn, GainsName, ReadsUrl}
use Rattle.smith_input.specs.NewNames.{appended, is_among, IsMadeUnique}
use Rattle.smith_input.specs.Reading.{Flips}
use Rattle.smith_syntax.specs.WellFormed.{names}
use Rattle.smith_types.specs.Declarations.{NamedExtern, ReadsMaybeUrl, a_url, url_name, url_names}

-- the names with one more at the end

pub names_more : (so_far : List NamedExtern) (x : NamedExtern) → names (so_far ++ x ∷ []) ≡ names so_far ++ x.0 ∷ []
names_more so_far x = map-append (λ y. y.0) so_far (x ∷ [])

-- The names with the names of one more declaration, whose plain tree has the same.
pub names_behind : (so_far more : List NamedExtern) (one : List (List ℕ × Unit {0})) → names one ≡ names more
    → names so_far ++ names one ≡ names (so_far ++ more)
names_behind so_far more one same = ap (λ z. names so_far ++ z) same ∙ sym (map-append (λ x. x.0) so_far more)

pub url_names_more : (so_far : List NamedExtern) (x : NamedExtern) → url_names (so_far ++ x ∷ []) ≡ url_names so_far ++ url_name x.1
url_names_more so_far x = flat_map-append (λ y. url_name y.1) so_far (x ∷ []) ∙ ap (λ ns. url_names so_far ++ ns) (append-nil (url_name x.1))

module _ {A : Type 0} where
  -- What is new to a set is new among the names that it has.
  pub new_among : {set : BTreeSet (String A)} {text name : List ℕ} {held : List (List ℕ)} → Holds set held → IsUniqueIn set text name
      → IsMadeUnique (is_among held) (length held) text name
  new_among {set = set} {text = text} {name = name} {held = held} h u = record {
    times = u.times;
    name_is = u.name_is ∙ ap (λ n. appended text (decimal n) u.times) h.size;
    taken = λ n l. ap (λ size. is_among held (appended text (decimal size) n)) (sym h.size)
        ∙ (sym (h.has (appended text (decimal (btree_set_len set)) n)) ∙ u.taken n l);
    is_new = sym (h.has name) ∙ u.is_new;
  }

  -- A URL was read, whose name is new.
  pub url_read : {config : Config} {old new : BTreeSet (String A)} {used : List (List ℕ)} {bytes mid url rest : List ℕ} → Holds old used → Flips bytes true mid
      → ReadsUrl config.max_name_length old new mid url rest → ReadsMaybeUrl config used bytes (Some url) rest
  url_read h f (text, name, is, reads, unique, kebab, gained) = a_url f (record { text = text; reads = reads; unique = new_among h unique }) (ap Some is)

-- a set that loses a name that it gained

without : (b had : Bool) → (b ≡ true → had ≡ false) → cond b false (b || had) ≡ had
without true had new = sym (new refl)
without false had new = refl

module _ {A : Type 0} where
  -- The set has what it had before it gained the name.
  pub holds_again : {old more new : BTreeSet (String A)} {name taken : List ℕ} {held : List (List ℕ)} {there : Bool} → Holds old held
      → contains_text old name ≡ false → GainsName old more name → taken ≡ name
      → UpdatesBy string_cmp (λ k. slice_cmp nat_cmp taken (string_bytes k)) more new false → there ≡ contains_text more taken
      → btree_set_len new + (if there then 1 else 0) ≡ btree_set_len more → Holds new held
  holds_again {old = old} {more = more} {new = new} {name = name} {taken = taken} {there = there} h absent gained same updates t len =
      let itself : bytes_eq name name ≡ true = (bytes_eq-Decides name name).1 refl in
      let was_there : there ≡ true = t ∙ (ap (contains_text more) same ∙ (gained.has name ∙ ap (λ b. b || contains_text old name) itself)) in
      let less : btree_set_len new + 1 ≡ btree_set_len more = sym (ap (λ b. btree_set_len new + (if b then 1 else 0)) was_there) ∙ len in
      record {
        has = λ q.
            btree_set_updates_text taken more new false updates q
            ∙ (ap (λ bs. cond (bytes_eq bs q) false (contains_text more q)) same
            ∙ (ap (cond (bytes_eq name q) false) (gained.has q)
            ∙ (without (bytes_eq name q) (contains_text old q) (λ e. ap (contains_text old) (sym ((bytes_eq-Decides name q).0 e)) ∙ absent) ∙ h.has q)));
        size = omega (arith, less, gained.size, h.size);
      }

  -- A set with the same keys has the same names.
  pub holds_same : {old new : BTreeSet (String A)} {held : List (List ℕ)} → Holds old held → new.keys ≡ old.keys → Holds new held
  holds_same {held = held} h e = subst (λ ks. Holds (record { keys = ks }) held) (sym e) h
