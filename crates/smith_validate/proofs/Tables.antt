-- Types of instances, and more of them.
use Rattle.std.proofs.Common.{◌≡◌, ℕ, ◌<◌, List, [], ◌∷◌, ◌++◌, length, get_or, refl, sym, ap, ◌∙◌, subst, arith, length-append}
use Rattle.std.proofs.Common.{Option, None, Some}
use Rattle.std.proofs.lemmas.List.{get_or_append_left}
use Rattle.smith_tree.specs.Facts.{FactScope, Facts, Id}
use Rattle.smith_tree.specs.Validates.{names_of}
use Rattle.smith_validate.specs.Exposing.{IsSettled}
use Rattle.smith_validate.specs.Instances.{AreKept, AreOutward, Surface, Follow, IsInstanceType, IsKept, IsKnown, IsNumbered, IsTable}
use Rattle.smith_validate.specs.Instances.{Piece, Rest, ScopesKept, equal, externs_in}
use Rattle.smith_validate.specs.Instances.{externs_of, named_by, no_surface, outside_of, place_of, reach, reach_of, refers_of, single, whole}
use Rattle.smith_validate.specs.Marks.{Covers, Within}
use Rattle.smith_validate.specs.declared.facts.Facts.{Facts as KeptFacts}
use Rattle.smith_validate.specs.declared.facts.Needs.{Needs}
use Rattle.smith_validate.specs.declared.instances.Exposed.{Exposed}
use Rattle.smith_validate.specs.declared.instances.InstanceType.{InstanceType}
use Rattle.smith_validate.proofs.Names.{Sub, sub_more, within_sub}
use Rattle.smith_validate.proofs.Zips.{zip_append, zip_map}

module _ (table more : List Surface) where
  at_more : (n : ℕ) → n < length table → get_or (table ++ more) n no_surface ≡ get_or table n no_surface
  at_more n h = get_or_append_left table more no_surface n h

  pub externs_more : (n : ℕ) → n < length table → externs_of (table ++ more) n ≡ externs_of table n
  externs_more n h = ap (λ e. e.externs) (at_more n h)

  pub outside_more : (n : ℕ) → n < length table → outside_of (table ++ more) n ≡ outside_of table n
  outside_more n h = ap (λ e. e.outside) (at_more n h)

  pub place_more : (n : ℕ) → n < length table → place_of (table ++ more) n ≡ place_of table n
  place_more n h = ap (λ e. e.place) (at_more n h)

  pub longer : (n : ℕ) → n < length table → n < length (table ++ more)
  longer n h = omega (arith, h, length-append table more)

  pub known_more : (p : Piece) → IsKnown table p → IsKnown (table ++ more) p
  known_more (single x) k = tt
  known_more (whole n) k = longer n k
  known_more (equal n names) k = longer n k

  pub reach_more : (p : Piece) → IsKnown table p → reach (table ++ more) p ≡ reach table p
  reach_more (single x) k = refl
  reach_more (whole n) k = outside_more n k
  reach_more (equal n names) k = outside_more n k

  named_more : (p : Piece) → IsKnown table p → named_by (table ++ more) p ≡ named_by table p
  named_more (single x) k = refl
  named_more (whole n) k = ap names_of (externs_more n k)
  named_more (equal n names) k = refl

  pub externs_one_more : (p : Piece) (ps : List Piece) → IsKnown table p → externs_in (table ++ more) ps ≡ externs_in table ps
      → externs_in (table ++ more) (p ∷ ps) ≡ externs_in table (p ∷ ps)
  externs_one_more (single x) ps k e = ap (λ xs. x ∷ xs) e
  externs_one_more (whole n) ps k e = ap (λ xs. xs ++ externs_in (table ++ more) ps) (externs_more n k) ∙ ap (λ xs. externs_of table n ++ xs) e
  externs_one_more (equal n names) ps k e = grind (arith, externs_more)

  pub externs_in_more : (named : List Id) (ps : List Piece) → Follow table named ps → externs_in (table ++ more) ps ≡ externs_in table ps
  externs_in_more named [] f = refl
  externs_in_more named (p ∷ ps) f = externs_one_more p ps f.0 (externs_in_more (named ++ named_by table p) ps f.2)

  pub follow_more : (named : List Id) (ps : List Piece) → Follow table named ps → Follow (table ++ more) named ps
  follow_more named [] f = tt
  follow_more named (p ∷ ps) f = (
    known_more p f.0,
    subst (λ ids. Within named ids) (sym (reach_more p f.0)) f.1,
    subst (λ ids. Follow (table ++ more) (named ++ ids) ps) (sym (named_more p f.0)) (follow_more (named ++ named_by table p) ps f.2),
  )

  pub rest_more : (named : List Id) (ps : List Piece) → Rest table named ps → Rest (table ++ more) named ps
  rest_more named [] f = tt
  rest_more named (p ∷ ps) f = (known_more p f.0, subst (λ ids. Within named ids) (sym (reach_more p f.0)) f.1, rest_more named ps f.2)

  outside_still : (n : ℕ) → n < length table → Within (outside_of table n) (refers_of (externs_of table n))
      → Within (outside_of (table ++ more) n) (refers_of (externs_of (table ++ more) n))
  outside_still n h w = subst (λ e. Within e.outside (refers_of e.externs)) (sym (at_more n h)) w

  pub outward_more : (named : List Id) (ps : List Piece) → Follow table named ps → AreOutward table ps → AreOutward (table ++ more) ps
  outward_more named [] f o = tt
  outward_more named (single x ∷ ps) f o = outward_more (named ++ x.names) ps f.2 o
  outward_more named (whole n ∷ ps) f o = (outside_still n f.0 o.0, outward_more (named ++ named_by table (whole n)) ps f.2 o.1)
  outward_more named (equal n names ∷ ps) f o = (outside_still n f.0 o.0, outward_more (named ++ names) ps f.2 o.1)

  pub type_more : (t : InstanceType) (e : Surface) → IsInstanceType table t e → IsInstanceType (table ++ more) t e
  type_more t e i = grind (arith, externs_in_more, follow_more, rest_more)

  reach_of_more : (i : Option ℕ) (f : Facts) → IsNumbered table i f → reach_of (table ++ more) i f ≡ reach_of table i f
  reach_of_more None f n = refl
  reach_of_more (Some k) f n = outside_more k n.0

  numbered_more : (i : Option ℕ) (f : Facts) → IsNumbered table i f → IsNumbered (table ++ more) i f
  numbered_more None f n = n
  numbered_more (Some k) f n = (
    longer k n.0,
    n.1 ∙ sym (externs_more k n.0),
    n.2 ∙ ap refers_of (sym (externs_more k n.0)),
  )

  pub kept_more : (names : List (List Id)) (k : KeptFacts) (f : Facts) → IsKept table names k f → IsKept (table ++ more) names k f
  kept_more names k f i = grind (arith, reach_of_more, numbered_more)

  pub are_kept_more : (names : List (List Id)) (ks : List KeptFacts) (fs : List Facts) → AreKept table names ks fs → AreKept (table ++ more) names ks fs
  are_kept_more names = zip_map (IsKept table names) (IsKept (table ++ more) names) (kept_more names)

  pub scopes_more : (names : List (List Id)) (ks : List (List KeptFacts)) (ss : List FactScope) → ScopesKept table names ks ss
      → ScopesKept (table ++ more) names ks ss
  scopes_more [] [] [] a = tt
  scopes_more [] [] (s ∷ ss) a = a
  scopes_more [] (k ∷ ks) ss a = a
  scopes_more (here ∷ names) [] ss a = a
  scopes_more (here ∷ names) (k ∷ ks) [] a = a
  scopes_more (here ∷ names) (k ∷ ks) (s ∷ ss) a = (are_kept_more (here ∷ names) k s.types a.0, scopes_more names ks ss a.1)

  pub settled_more : (s : Exposed) (named : List Id) → IsSettled table s named → IsSettled (table ++ more) s named
  settled_more s named i = λ n h. (longer n (i n h).0, subst (λ xs. Within named (refers_of xs)) (sym (externs_more n (i n h).0)) (i n h).1)

-- what is named grows

-- what is kept says as much with other names
pub kept_by : (table : List Surface) (a b : List (List Id)) → ((n : Needs) (ids : List Id) → Covers a n ids → Covers b n ids) → (k : KeptFacts) (f : Facts)
    → IsKept table a k f → IsKept table b k f
kept_by table a b c k f i = grind arith

pub follow_sub : (table : List Surface) (a b : List Id) (ps : List Piece) → Sub a b → Follow table a ps → Follow table b ps
follow_sub table a b [] s f = tt
follow_sub table a b (p ∷ ps) s f =
    (f.0, within_sub a b (reach table p) s f.1, follow_sub table (a ++ named_by table p) (b ++ named_by table p) ps (sub_more a b (named_by table p) s) f.2)

pub rest_sub : (table : List Surface) (a b : List Id) (ps : List Piece) → Sub a b → Rest table a ps → Rest table b ps
rest_sub table a b [] s f = tt
rest_sub table a b (p ∷ ps) s f = (f.0, within_sub a b (reach table p) s f.1, rest_sub table a b ps s f.2)

pub settled_sub : (table : List Surface) (s : Exposed) (a b : List Id) → Sub a b → IsSettled table s a → IsSettled table s b
settled_sub table s a b f i = λ n h. ((i n h).0, within_sub a b (refers_of (externs_of table n)) f (i n h).1)

-- one more type of instances

pub table_push : (ts : List InstanceType) (table : List Surface) (t : InstanceType) (e : Surface) → IsTable ts table → IsInstanceType table t e
    → IsTable (ts ++ t ∷ []) (table ++ e ∷ [])
table_push ts table t e a i = grind (arith, zip_append, zip_map, type_more)
