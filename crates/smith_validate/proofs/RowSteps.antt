-- Declarations one by one.
use Rattle.std.proofs.Common.{◌≡◌, ◌↔◌, ℕ, ◌+◌, ◌<◌, List, [], ◌∷◌, ◌++◌, map, length, get_or, take, sym, ap, ◌∙◌, subst, refl}
use Rattle.std.proofs.Math.ListN.{drop}
use Rattle.std.proofs.lemmas.List.{map-append, map_more, take-append-drop}
use Rattle.smith_input.proofs.Rests.{rest_at}
use Rattle.smith_tree.specs.Demands.{Demands}

-- How a row is judged: each by what precedes it, which it adds to.
pub record Row (B St : Type 0) : Type 1 where
  pub valid : Demands → List B → St → Type 0
  pub usual : List B → St → Type 0
  pub one : Demands → B → St → Type 0
  pub one_usual : B → St → Type 0
  pub next : B → St → St

pub record IsRow {B St : Type 0} (r : Row B St) : Type 0 where
  pub none : (d : Demands) (s : St) → r.valid d [] s
  pub more : (d : Demands) (x : B) (xs : List B) (s : St) → r.valid d (x ∷ xs) s ↔ (r.one d x s × r.valid d xs (r.next x s))
  pub usual_more : (x : B) (xs : List B) (s : St) → r.usual (x ∷ xs) s → r.one_usual x s × r.usual xs (r.next x s)

-- what there is after some of a row
abbrev pub run : {B St : Type 0} → (B → St → St) → List B → St → St
run next [] s = s
run next (x ∷ xs) s = run next xs (next x s)

run_one : {B St : Type 0} (next : B → St → St) (xs : List B) (x : B) (s : St) → run next (xs ++ x ∷ []) s ≡ next x (run next xs s)
run_one next [] x s = refl
run_one next (y ∷ xs) x s = run_one next xs x (next y s)

module _ {B St : Type 0} (r : Row B St) (is : IsRow r) where
  -- They are judged first, and the rest after them.
  pub valid_append : (d : Demands) (xs ys : List B) (s : St) → r.valid d (xs ++ ys) s ↔ (r.valid d xs s × r.valid d ys (run r.next xs s))
  valid_append d [] ys s = (λ q. (is.none d s, q), λ q. q.1)
  valid_append d (x ∷ xs) ys s =
      let more = is.more d x xs s in
      let all = is.more d x (xs ++ ys) s in
      let rest = valid_append d xs ys (r.next x s) in (
        λ q. (more.1 ((all.0 q).0, (rest.0 (all.0 q).1).0), (rest.0 (all.0 q).1).1),
        λ q. all.1 ((more.0 q.0).0, rest.1 ((more.0 q.0).1, q.1)),
      )

  usual_append : (xs ys : List B) (s : St) → r.usual (xs ++ ys) s → r.usual ys (run r.next xs s)
  usual_append [] ys s u = u
  usual_append (x ∷ xs) ys s u = usual_append xs ys (r.next x s) (is.usual_more x (xs ++ ys) s u).1

  -- of a node
  module _ {A : Type 0} (shown : A → B) (xs : List A) (s : St) (i : ℕ) (x : A) (h : i < length xs) (item : x ≡ get_or xs i x) where
    abbrev first : List B
    first = map shown (take i xs)

    abbrev next : List B
    next = map shown (take (i + 1) xs)

    abbrev before : St
    before = run r.next first s

    pub first_next : next ≡ first ++ shown x ∷ []
    first_next = map_more shown xs i x h ∙ ap (λ y. first ++ shown y ∷ []) (sym item)

    pub split_at : map shown xs ≡ first ++ shown x ∷ map shown (drop (i + 1) xs)
    split_at =
        sym (ap (map shown) (take-append-drop i xs)) ∙ map-append shown (take i xs) (drop i xs)
        ∙ ap (λ ys. first ++ map shown ys) (rest_at xs i x h item)

    pub before_next : r.next (shown x) before ≡ run r.next next s
    before_next = sym (ap (λ ys. run r.next ys s) first_next ∙ run_one r.next first (shown x) s)

    pub valid_next : (d : Demands) → r.valid d next s ↔ (r.valid d first s × r.one d (shown x) before)
    valid_next d =
        let all = valid_append d first (shown x ∷ []) s in
        let one = is.more d (shown x) [] before in (
          λ q. let v = all.0 (subst (λ ys. r.valid d ys s) first_next q) in (v.0, (one.0 v.1).0),
          λ q. subst (λ ys. r.valid d ys s) (sym first_next) (all.1 (q.0, one.1 (q.1, is.none d (r.next (shown x) before)))),
        )

    pub valid_at : (d : Demands) → r.valid d (map shown xs) s → r.one d (shown x) before
    valid_at d q =
        let rest = map shown (drop (i + 1) xs) in
        let v = (valid_append d first (shown x ∷ rest) s).0 (subst (λ ys. r.valid d ys s) split_at q) in
        ((is.more d (shown x) rest before).0 v.1).0

    pub usual_at : r.usual (map shown xs) s → r.one_usual (shown x) before
    usual_at u =
        let rest = map shown (drop (i + 1) xs) in
        (is.usual_more (shown x) rest before (usual_append first (shown x ∷ rest) s (subst (λ ys. r.usual ys s) split_at u))).0
