-- What is named for the things that refer to it: it stays named if more is named.
use Rattle.std.proofs.Common.{◌≡◌, Bool, true, false, ◌||◌, List, [], ◌∷◌, ◌++◌, bytes_eq, refl, sym, subst, ◌∙◌, append_assoc, append-nil}
use Rattle.std.proofs.lemmas.Grind.{flat_map-append}
use Rattle.std.proofs.lemmas.List.Folds.{list_any-append}
use Rattle.std.proofs.lemmas.Bool.{or_left, or_right}
use Rattle.std.proofs.lemmas.Slice.Eq.{bytes_eq-Decides}
use Rattle.std.specs.List.{AllByRecursion}
use Rattle.smith_input.specs.NewNames.{is_among}
use Rattle.smith_tree.specs.Facts.{Extern, Id}
use Rattle.smith_tree.specs.Validates.{RefersTo, names_of}

abbrev pub IsNamed : List Id → Id → Type 0
IsNamed named id = is_among named id ≡ true

abbrev pub AreNamed : List Id → List Id → Type 0
AreNamed named ids = AllByRecursion (IsNamed named) ids

-- All that is named there is named here.
pub record IsWithin (named wider : List Id) : Type 0 where
  pub all : (id : Id) → IsNamed named id → IsNamed wider id

in_either : (a b : List Id) (id : Id) → is_among (a ++ b) id ≡ (is_among a id || is_among b id)
in_either a b id = list_any-append (λ name. bytes_eq name id) a b

pub named_before : (a b : List Id) → IsWithin a (a ++ b)
named_before a b = record { all = λ id h. in_either a b id ∙ or_left (is_among a id) (is_among b id) h }

pub named_behind : (a b : List Id) → IsWithin b (a ++ b)
named_behind a b = record { all = λ id h. in_either a b id ∙ or_right (is_among a id) (is_among b id) h }

pub none_within : (named : List Id) → IsWithin [] named
none_within named = record { all = λ id h. cc }

either_within : (a b c d : Bool) → (a ≡ true → c ≡ true) → (a || b) ≡ true → (b ≡ true → d ≡ true) → (c || d) ≡ true
either_within true b c d f h g = or_left c d (f refl)
either_within false b c d f h g = or_right c d (g h)

more_within : (a b more : List Id) → IsWithin a b → IsWithin (a ++ more) (b ++ more)
more_within a b more w = record {
  all = λ id h. in_either b more id
      ∙ either_within (is_among a id) (is_among more id) (is_among b id) (is_among more id) (w.all id) (sym (in_either a more id) ∙ h) (λ k. k);
}

-- the last name of all
pub last_named : (named : List Id) (id : Id) → IsNamed (named ++ id ∷ []) id
last_named named id = (named_behind named (id ∷ [])).all id (or_left (bytes_eq id id) false ((bytes_eq-Decides id id).1 refl))

pub named_wider : (named wider ids : List Id) → IsWithin named wider → AreNamed named ids → AreNamed wider ids
named_wider named wider [] w h = tt
named_wider named wider (id ∷ ids) w h = (w.all id h.0, named_wider named wider ids w h.1)

-- What is imported or exported refers to what is named.

pub refers_wider : (named wider : List Id) (xs : List Extern) → IsWithin named wider → RefersTo named xs → RefersTo wider xs
refers_wider named wider [] w h = tt
refers_wider named wider (x ∷ xs) w h =
    (named_wider named wider x.refers w h.0, refers_wider (named ++ x.names) (wider ++ x.names) xs (more_within named wider x.names w) h.1)

pub refers_both : (named : List Id) (xs ys : List Extern) → RefersTo named xs → RefersTo (named ++ names_of xs) ys → RefersTo named (xs ++ ys)
refers_both named [] ys h k = subst (λ n. RefersTo n ys) (append-nil named) k
refers_both named (x ∷ xs) ys h k =
    (h.0, refers_both (named ++ x.names) xs ys h.1 (subst (λ n. RefersTo n ys) (sym (append_assoc named x.names (names_of xs))) k))

-- what lists in a row name
pub names_of_both : (xs ys : List Extern) → names_of (xs ++ ys) ≡ names_of xs ++ names_of ys
names_of_both xs ys = flat_map-append (λ x. x.names) xs ys
