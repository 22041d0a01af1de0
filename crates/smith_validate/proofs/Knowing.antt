-- What is known of types, when types and names are added.
use Rattle.std.proofs.Common.{◌≡◌, inl, inr, ℕ, ◌+◌, ◌<◌, Bool, true, false, List, [], ◌∷◌, ◌++◌, length}
use Rattle.std.proofs.Common.{refl, sym, ap, ◌∙◌, subst, arith, append_assoc, append-nil, length-append, Option, None, Some}
use Rattle.std.proofs.lemmas.Bool.{ltb-false, ltb-true}
use Rattle.std.proofs.lemmas.Grind.{flat_map-append}
use Rattle.std.specs.List.{AllZip}
use Rattle.std.specs.Prelude.{ltb}
use Rattle.smith_input.specs.NewNames.{is_among}
use Rattle.smith_syntax.specs.Scope.{empty_scope, with_types}
use Rattle.smith_tree.specs.Facts.{FactScope, Facts, Id, id_at, needs}
use Rattle.smith_tree.specs.Validates.{names_of}
use Rattle.smith_validate.specs.Exact.{AreKnown, IsKeptExactly, IsNumberOf}
use Rattle.smith_validate.specs.Instances.{Surface, externs_of, place_of, refers_of}
use Rattle.smith_validate.specs.Kept.{outer_types, types_in}
use Rattle.smith_validate.specs.Places.{IsBefore, IsOpen, IsUnder}
use Rattle.smith_validate.specs.Tables.{AreAdded, AreExact, IsGrown, IsLive, names_in}
use Rattle.smith_validate.specs.declared.facts.Facts.{Facts as KeptFacts}
use Rattle.smith_validate.specs.declared.instances.InstanceType.{InstanceType}
use Rattle.smith_validate.specs.declared.known.Known.{Known}
use Rattle.smith_validate.proofs.Attaining.{Names, attains_moves}
use Rattle.smith_validate.proofs.Ids.{Moves, closed_before, closed_leave, closed_moves, before_leave, moves_in, moves_next, moves_same, under_up}
use Rattle.smith_validate.proofs.Names.{Sub, among_cases, sub_left, sub_right}
use Rattle.smith_validate.proofs.Opened.{live_known}
use Rattle.smith_validate.proofs.Tables.{externs_more, longer, place_more}
use Rattle.smith_validate.proofs.Zips.{zip_append, zip_map}

-- the place after a type was added
abbrev pub next_at : FactScope → List FactScope → Id
next_at own outer = (length own.types + 1) ∷ id_at outer

pub next_is : (own : FactScope) (outer : List FactScope) (f : Facts) → id_at (with_types own (f ∷ []) ∷ outer) ≡ next_at own outer
next_is own outer f = grind (arith, length-append)

pub names_in_append : (a b : List Surface) → names_in (a ++ b) ≡ names_in a ++ names_in b
names_in_append a b = flat_map-append (λ e. names_of e.externs) a b

-- Types of instances that have grown in number.
module _ (place : Id) (old new : List Surface) (g : IsGrown place old new) where
  pub grown_names : Sub (names_in old) (names_in new)
  grown_names = grind (arith, names_in_append, sub_left)

  pub grown_place : (n : ℕ) → n < length old → place_of new n ≡ place_of old n
  grown_place n h = ap (λ t. place_of t n) g.is ∙ place_more old g.more n h

  pub grown_externs : (n : ℕ) → n < length old → externs_of new n ≡ externs_of old n
  grown_externs n h = ap (λ t. externs_of t n) g.is ∙ externs_more old g.more n h

  pub grown_long : (n : ℕ) → n < length old → n < length new
  grown_long n h = subst (λ (t : List Surface). n < length t) (sym g.is) (longer old g.more n h)

  pub grown_live : (n : ℕ) → n < length old → IsLive new n → IsLive old n
  grown_live n h l = λ e. l (grown_place n h ∙ e)

pub grown_same : (place : Id) (table : List Surface) → IsGrown place table table
grown_same place table = grind (arith, append-nil, live_known)

pub grown_then : (place : Id) (a b c : List Surface) → IsGrown place a b → IsGrown place b c → IsGrown place a c
grown_then place a b c g h = record {
  more = g.more ++ h.more;
  is = h.is ∙ (ap (λ t. t ++ h.more) g.is ∙ append_assoc a g.more h.more);
  names = λ id i before. g.names id (h.names id i before) before;
  places = λ n k l. by_length n k l (ltb n (length b)) refl;
}
  where
    by_length : (n : ℕ) → length a < n + 1 → IsLive c n → (t : Bool) → ltb n (length b) ≡ t → IsUnder (place_of c n) place
    by_length n k l true e =
        let i : n < length b = ltb-true n (length b) e in
        subst (λ p. IsUnder p place) (sym (grown_place place b c h n i)) (g.places n k (grown_live place b c h n i l))
    by_length n k l false e = let i = ltb-false n (length b) e in h.places n (omega (arith, i)) l

-- what is grown at a place within another is grown at that one
pub grown_out : (count : ℕ) (place : Id) (a b : List Surface) → IsGrown (count ∷ place) a b → IsGrown place a b
grown_out count place a b g = grind (arith, moves_in, under_up)

-- What is kept of a type stays exact when more is known.
module _ (old new : Id) (named more : List Id) (a b : List Surface) (m : Moves old new) (n : Names old named more) (g : IsGrown old a b) where
  number_moves : (k : Option ℕ) (f : Facts) → IsNumberOf a old k f → IsNumberOf b new k f
  number_moves None f i = i
  number_moves (Some k) f i = (
    grown_long old a b g k i.0,
    subst (λ p. IsOpen new p) (sym (grown_place old a b g k i.0)) (m.open_still (place_of a k) i.1),
    i.2 ∙ sym (grown_externs old a b g k i.0),
    i.3 ∙ ap refers_of (sym (grown_externs old a b g k i.0)),
    i.4,
  )

  pub kept_moves : (k : KeptFacts) (f : Facts) → IsKeptExactly a old named k f → IsKeptExactly b new more k f
  kept_moves k f i = record {
    nominal_is = i.nominal_is;
    id_before = m.before 0 f.id i.id_before;
    before = λ id h. m.before 0 id (i.before id h);
    refers_are = attains_moves old new named more m n k.refers f.refers i.refers_are;
    needs_are = λ e. attains_moves old new named more m n k.needs (needs f) (i.needs_are e);
    number_is = number_moves k.instance f i.number_is;
  }

  abbrev Old : List KeptFacts → FactScope → Type 0
  Old ks s = AllZip (IsKeptExactly a old named) ks s.types

  abbrev New : List KeptFacts → FactScope → Type 0
  New ks s = AllZip (IsKeptExactly b new more) ks s.types

  pub types_move : (kept : List (List KeptFacts)) (scopes : List FactScope) → AllZip Old kept scopes → AllZip New kept scopes
  types_move kept scopes h =
      zip_map Old New (λ ks s i. zip_map (IsKeptExactly a old named) (IsKeptExactly b new more) kept_moves ks s.types i) kept scopes h

pub added_moves : (old new : Id) (table : List Surface) → Moves old new → AreAdded old table → AreAdded new table
added_moves old new table m a = grind (arith, closed_moves)

pub added_leave : (inner count : ℕ) (scope : Id) (table : List Surface) → AreAdded (inner ∷ count ∷ scope) table → AreAdded ((count + 1) ∷ scope) table
added_leave inner count scope table a = grind (arith, before_leave, closed_leave)

-- Names that were added before a place do not count as new when types of instances have grown in number.
pub names_grown : (place : Id) (named : List Id) (a b : List Surface) → IsGrown place a b → Names place (named ++ names_in a) (named ++ names_in b)
names_grown place named a b g = grind (arith, among_cases, sub_left, sub_right)

-- of scopes that are those
pub known_as : (k new : Known) (ts : List KeptFacts) (is : List InstanceType) (scopes : List FactScope) (named : List Id) (table : List Surface)
    → new.scopes.own.types.items ≡ ts → new.scopes.outer.items ≡ k.scopes.outer.items → new.instances.items ≡ is
    → AreKnown (ts ∷ outer_types k) is scopes named table → AreKnown (types_in new) new.instances.items scopes named table
known_as k new ts is scopes named table own outers instances h = grind arith

module _ (ks : List KeptFacts) (kept : List (List KeptFacts)) (all : List InstanceType) (own : FactScope) (outer : List FactScope) (named : List Id)
    (table : List Surface) (known : AreKnown (ks ∷ kept) all (own ∷ outer) named table) where
  abbrev here : Id
  here = id_at (own ∷ outer)

  -- with one more type, when more is named and there are more types of instances
  pub known_push : (now : List InstanceType) (more : List Id) (new : List Surface) (k : KeptFacts) (f : Facts)
      → IsGrown here table new → AreExact now new → AreAdded (next_at own outer) new → length now ≡ length new
      → Names here (named ++ names_in table) (more ++ names_in new)
      → ((id : Id) → is_among more id ≡ true → IsBefore 0 (next_at own outer) id)
      → IsKeptExactly new (next_at own outer) (more ++ names_in new) k f
      → AreKnown ((ks ++ k ∷ []) ∷ kept) now (with_types own (f ∷ []) ∷ outer) more new
  known_push now more new k f g exact added long names before is =
      let m = moves_next (length own.types) (id_at outer) in
      let p = sym (next_is own outer f) in
      let types = types_move here (next_at own outer) (named ++ names_in table) (more ++ names_in new) table new m names g (ks ∷ kept) (own ∷ outer)
      known.types_are in
      record {
        types_are = subst (λ q. AllZip (λ ks s. AllZip (IsKeptExactly new q (more ++ names_in new)) ks s.types) ((ks ++ k ∷ []) ∷ kept)
            (with_types own (f ∷ []) ∷ outer)) p
            (zip_append (IsKeptExactly new (next_at own outer) (more ++ names_in new)) ks (k ∷ []) own.types (f ∷ []) types.0 (is, tt), types.1);
        instances_are = exact;
        added = subst (λ q. AreAdded q new) p added;
        long = long;
        named_before = λ id h. subst (λ q. IsBefore 0 q id) p (before id h);
      }

  -- when more is named
  pub known_named : (more : List Id) → Names here (named ++ names_in table) (more ++ names_in table)
      → ((id : Id) → is_among more id ≡ true → IsBefore 0 here id)
      → AreKnown (ks ∷ kept) all (own ∷ outer) more table
  known_named more names before = record {
    types_are = types_move here here (named ++ names_in table) (more ++ names_in table) table table (moves_same here) names (grown_same here table)
        (ks ∷ kept) (own ∷ outer) known.types_are;
    instances_are = known.instances_are;
    added = known.added;
    long = known.long;
    named_before = before;
  }

  -- in a scope within
  pub known_entered : AreKnown ([] ∷ ks ∷ kept) all (empty_scope ∷ own ∷ outer) named table
  known_entered = record {
    types_are = (
      tt,
      types_move here (0 ∷ here) (named ++ names_in table) (named ++ names_in table) table table (moves_in 0 here) (λ id h b. h) (grown_same here table)
          (ks ∷ kept) (own ∷ outer) known.types_are,
    );
    instances_are = known.instances_are;
    added = added_moves here (0 ∷ here) table (moves_in 0 here) known.added;
    long = known.long;
    named_before = λ id h. (moves_in 0 here).before 0 id (known.named_before id h);
  }

  -- all that is named was added before
  pub all_before : (id : Id) → is_among (named ++ names_in table) id ≡ true → IsBefore 0 here id
  all_before id h =
      elim (among_cases named (names_in table) id h) [ inl x ↦ known.named_before id x | inr x ↦ closed_before here id (known.added.closed id x) ]
