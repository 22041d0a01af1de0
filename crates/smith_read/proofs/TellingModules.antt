-- What is read is what is spelled: core modules of the two sections that are generated.
use Rattle.std.proofs.Common.{◌≡◌, ℕ, List, [], ◌∷◌, ◌++◌, length, drop, Option, Some, None, refl, ap, sym, ◌∙◌, subst, arith, Bool, true, false, cond, eqb}
use Rattle.std.proofs.Common.{◌<◌, lit<, nat_eq}
use Rattle.std.specs.List.{starts_with}
use Rattle.std.proofs.lemmas.Bool.{eq-eqb, eqb-true, ne_eqb}
use Rattle.std.proofs.lemmas.Bool.Decides.{Decides-eqb}
use Rattle.std.proofs.lemmas.List.{nil_from_length}
use Rattle.std.proofs.lemmas.Option.{same_Some}
use Rattle.std.proofs.lemmas.Slice.Eq.{starts_is}
use Rattle.smith_format.specs.CoreTypes.{Function, core_function}
use Rattle.smith_format.specs.Entities.{memory_type}
use Rattle.smith_format.specs.Piece.{Piece, ◌⊕◌, byte, bytes, framed, many}
use Rattle.smith_format.specs.declared.types.MemoryType.{MemoryType}
use Rattle.smith_format.proofs.Piece.{joined, left_nil, left_none, parts_are, right_nil}
use Rattle.smith_core.specs.Module.{has_any}
use Rattle.smith_core.specs.Preamble.{core_preamble}
use Rattle.smith_core.specs.StandInText.{StandIn, listed, stand_in_text}
use Rattle.smith_read.specs.CoreTypes.{Limits, memory_of}
use Rattle.smith_read.specs.Reading.{Found, ◌>>=◌, all_of, byte_at, framed_at, many_at}
use Rattle.smith_read.specs.Tells.{Begins, Tells, TellsAll}
use Rattle.smith_read.proofs.Telling.{bind_some, both_begin, byte_begins, byte_read, parted, tells_behind, tells_many, tells_seen}
use Rattle.smith_read.proofs.TellingCore.{tells_core_function, tells_limits}
use Rattle.smith_read.proofs.TellingFrames.{tells_all, tells_framed}
use Rattle.smith_read.specs.ModuleSections.{core_preamble_at, ended, filled_at, function_at, listed_after, listed_at, memory_at, sections_at}
use Rattle.smith_read.specs.ModuleSections.{some_entries, stand_in_at}

-- ---- entries

tells_function : Tells core_function function_at
unfolding function_at
tells_function = tells_behind 0x60 (lit< tt) tells_core_function

abbrev limits_in : MemoryType → Limits
limits_in m = (m.shared, m.memory64, m.minimum, m.maximum)

tells_memory : Tells memory_type memory_at
unfolding memory_at
tells_memory = tells_seen memory_of limits_in (λ m. refl) (λ x. refl) tells_limits

-- ---- the contents of a section

abbrev filled : {A : Type 0} → (A → Piece) → List A → Piece
filled f [] = None
filled f (x ∷ xs) = many f (x ∷ xs)

-- a list that has an entry is not of that length
not_none : {A : Type 0} (x : A) (xs : List A) → eqb (length (x ∷ xs)) 0 ≡ false
not_none x xs = ne_eqb (length (x ∷ xs)) 0 (λ e. grind arith)

some_is : {A : Type 0} (xs ys : List A) → some_entries xs ≡ Some ys → (xs ≡ ys) × (has_any ys ≡ true)
some_is [] ys e = absurd cc
some_is {A} (x ∷ xs) ys e =
    let f : x ∷ xs ≡ ys = same_Some (x ∷ xs) ys (ap (λ t. cond {A = Option (List A)} t None (Some (x ∷ xs))) (sym (not_none x xs)) ∙ e) in
    (f, subst (λ zs. has_any zs ≡ true) f refl)

filled_is : {A : Type 0} (f : A → Piece) (xs : List A) → has_any xs ≡ true → filled f xs ≡ many f xs
filled_is f [] e = absurd cc
filled_is f (x ∷ xs) e = refl

module _ {A : Type 0} {f : A → Piece} {r : List ℕ → Found A} (c : Tells f r) where
  tells_filled : TellsAll (filled f) (filled_at r)
  unfolding filled_at
  tells_filled = record { sound = sound; whole = whole } where
    all : TellsAll (many f) (λ b. all_of (many_at r b))
    all = tells_all (tells_many c)

    sound : (b : List ℕ) (x : List A) → all_of (many_at r b) >>= some_entries ≡ Some x → filled f x ≡ Some b
    sound b x e =
        let m = bind_some (all_of (many_at r b)) some_entries x e in
        let s = some_is m.0 x m.2 in
        filled_is f x s.1 ∙ ap (many f) (sym s.0) ∙ all.sound b m.0 m.1

    whole : (b : List ℕ) (x : List A) → filled f x ≡ Some b → all_of (many_at r b) >>= some_entries ≡ Some x
    whole b [] e = absurd cc
    whole b (x ∷ xs) e = rw (all.whole b (x ∷ xs) e, not_none x xs) refl

  -- ---- sections that are there if they have an entry

  framed_begins : (id : ℕ) (b : List ℕ) (t : ℕ × List ℕ) (x : List A × List ℕ) → byte_at b ≡ Some t → t.0 ≡ id
      → framed (filled f x.0) ⊕ Some x.1 ≡ Some t.1 → Begins (listed id f) b x
  unfolding framed
  framed_begins id b t ([], rest) e i g = let z : None ≡ Some t.1 = sym (left_none (Some rest)) ∙ g in absurd cc
  framed_begins id b t (x ∷ xs, rest) e i g =
      both_begin (byte id) (framed (many f (x ∷ xs))) b t.1 rest (ap (λ n. byte n ⊕ Some t.1) (sym i) ∙ byte_begins b t e) g

  pub listed_begins : (id : ℕ) (b : List ℕ) (x : List A × List ℕ) → listed_at id r b ≡ Some x → Begins (listed id f) b x
  unfolding listed_at
  listed_begins id b x e = by_length (eqb (length b) 0) e
    where
      nothing : Some ([], b) ≡ Some x → Begins (listed id f) b x
      nothing g = subst (λ (p : List A × List ℕ). Begins (listed id f) b p) (same_Some ([], b) x g) (left_nil (Some b))

      by_byte : (t : ℕ × List ℕ) (y : Bool) → eqb t.0 id ≡ y → byte_at b ≡ Some t
          → cond {A = Found (List A)} y (framed_at (filled_at r) t.1) (Some ([], b)) ≡ Some x → Begins (listed id f) b x
      by_byte t true i g h = framed_begins id b t x g (eqb-true t.0 id i) ((tells_framed tells_filled).sound t.1 x h)
      by_byte t false i g h = nothing h

      by_length : (y : Bool) → cond {A = Found (List A)} y (Some ([], b)) (byte_at b >>= listed_after id r b) ≡ Some x → Begins (listed id f) b x
      by_length true g = nothing g
      by_length false g = let t = bind_some (byte_at b) (listed_after id r b) x g in by_byte t.0 (eqb t.0.0 id) refl t.1 t.2

  -- where the section is not there, nothing is read
  abbrev pub Absent : ℕ → List ℕ → Type 0
  Absent id rest = listed_at id r rest ≡ Some ([], rest)

  listed_there : (id : ℕ) (b : List ℕ) (x : A) (xs : List A) (rest : List ℕ) → id < 256
      → (byte id ⊕ framed (many f (x ∷ xs))) ⊕ Some rest ≡ Some b → listed_at id r b ≡ Some (x ∷ xs, rest)
  unfolding listed_at
  listed_there id b x xs rest l e =
      let p = parted (byte id) (framed (many f (x ∷ xs))) b rest e in
      let same : id ∷ p.mid ≡ b = same_Some _ _ (sym (joined (id ∷ []) p.mid) ∙ p.front) in
      let first = byte_read b (id, p.mid) l p.front in
      let more : eqb (length b) 0 ≡ false = subst (λ z. eqb (length z) 0 ≡ false) same (not_none id p.mid) in
      let found = (tells_framed tells_filled).whole p.mid (x ∷ xs, rest) p.back in
      rw (more, first, eq-eqb id id refl) found

  pub listed_read : (id : ℕ) (b : List ℕ) (x : List A × List ℕ) → id < 256 → Absent id x.1 → Begins (listed id f) b x → listed_at id r b ≡ Some x
  listed_read id b ([], rest) l n e =
      let same : rest ≡ b = same_Some rest b (sym (left_nil (Some rest)) ∙ e) in subst (λ z. listed_at id r z ≡ Some ([], rest)) same n
  listed_read id b (x ∷ xs, rest) l n e = listed_there id b x xs rest l e

-- ---- both sections

no_bytes : {A : Type 0} (r : List ℕ → Found A) (id : ℕ) → listed_at id r [] ≡ Some ([], [])
unfolding listed_at
no_bytes r id = refl

other_first : (b rest : List ℕ) → b ≡ 5 ∷ rest → listed_at 1 function_at b ≡ Some ([], b)
unfolding listed_at
other_first b rest e =
    let first = byte_read b (5, rest) (lit< tt) (joined (5 ∷ []) rest ∙ ap Some (sym e)) in
    let more : eqb (length b) 0 ≡ false = subst (λ z. eqb (length z) 0 ≡ false) (sym e) (not_none 5 rest) in
    rw (more, first) refl

memories_first : (ms : List MemoryType) (b : List ℕ) → listed 5 memory_type ms ≡ Some b → listed_at 1 function_at b ≡ Some ([], b)
memories_first [] b e = subst (λ z. listed_at 1 function_at z ≡ Some ([], z)) (same_Some [] b e) (no_bytes function_at 1)
memories_first (m ∷ ms) b e =
    let p = parts_are (byte 5) (framed (many memory_type (m ∷ ms))) b e in
    let left : 5 ∷ [] ≡ p.left = same_Some _ _ p.p_is in
    other_first b p.right (p.is ∙ ap (λ l. l ++ p.right) (sym left))

tells_sections : TellsAll (λ (s : StandIn). listed 1 core_function s.types ⊕ listed 5 memory_type s.memories) sections_at
unfolding sections_at
tells_sections = record { sound = sound; whole = whole } where
  ending : (types : List Function) (m : List MemoryType × List ℕ) (s : StandIn) (y : Bool) → eqb (length m.1) 0 ≡ y
      → cond {A = Option StandIn} y (Some (record { types = types; memories = m.0 })) None ≡ Some s
      → (m.1 ≡ []) × (record { types = types; memories = m.0 } ≡ s)
  ending types m s true i g = (nil_from_length m.1 (eqb-true _ _ i), same_Some _ _ g)
  ending types m s false i g = absurd cc

  sound : (b : List ℕ) (s : StandIn) → (listed_at 1 function_at b >>= λ t. listed_at 5 memory_at t.1 >>= ended t.0) ≡ Some s
      → listed 1 core_function s.types ⊕ listed 5 memory_type s.memories ≡ Some b
  sound b s e =
      let t = bind_some (listed_at 1 function_at b) (λ t. listed_at 5 memory_at t.1 >>= ended t.0) s e in
      let m = bind_some (listed_at 5 memory_at t.0.1) (ended t.0.0) s t.2 in
      let i = ending t.0.0 m.0 s (eqb (length m.0.1) 0) refl m.2 in
      let second : listed 5 memory_type m.0.0 ≡ Some t.0.1 =
      sym (right_nil (listed 5 memory_type m.0.0)) ∙ ap (λ z. listed 5 memory_type m.0.0 ⊕ Some z) (sym i.0)
      ∙ listed_begins tells_memory 5 t.0.1 m.0 m.1 in
      subst (λ (z : StandIn). listed 1 core_function z.types ⊕ listed 5 memory_type z.memories ≡ Some b) i.1
      (ap (λ p. listed 1 core_function t.0.0 ⊕ p) second ∙ listed_begins tells_function 1 b t.0 t.1)

  whole : (b : List ℕ) (s : StandIn) → listed 1 core_function s.types ⊕ listed 5 memory_type s.memories ≡ Some b
      → (listed_at 1 function_at b >>= λ t. listed_at 5 memory_at t.1 >>= ended t.0) ≡ Some s
  whole b s e =
      let p = parts_are (listed 1 core_function s.types) (listed 5 memory_type s.memories) b e in
      let first = listed_read tells_function 1 b (s.types, p.right) (lit< tt) (memories_first s.memories p.right p.q_is)
      (ap (λ z. listed 1 core_function s.types ⊕ z) (sym p.q_is) ∙ e) in
      let second = listed_read tells_memory 5 p.right (s.memories, []) (lit< tt) (no_bytes memory_at 5)
      (right_nil (listed 5 memory_type s.memories) ∙ p.q_is) in
      rw (first, second) refl

preamble_is : (b rest : List ℕ) → core_preamble_at b ≡ Some rest → b ≡ core_preamble ++ rest
unfolding core_preamble_at
preamble_is b rest e = by_test (starts_with nat_eq b core_preamble) refl e
  where
    by_test : (x : Bool) → starts_with nat_eq b core_preamble ≡ x → cond {A = Option (List ℕ)} x (Some (drop 8 b)) None ≡ Some rest
        → b ≡ core_preamble ++ rest
    by_test true f g = (starts_is Decides-eqb b core_preamble (starts_with nat_eq b core_preamble) refl).0 f ∙ ap (λ l. core_preamble ++ l) (same_Some _ _ g)
    by_test false f g = absurd cc

preamble_read : (rest : List ℕ) → core_preamble_at (core_preamble ++ rest) ≡ Some rest
unfolding core_preamble_at
preamble_read rest = refl

-- the two sections that are read of some bytes are those that they spell
pub tells_stand_in : TellsAll stand_in_text stand_in_at
unfolding stand_in_at
tells_stand_in = record {
  sound = λ b s e.
      let r = bind_some (core_preamble_at b) sections_at s e in
      ap (λ p. bytes core_preamble ⊕ p) (tells_sections.sound r.0 s r.2) ∙ joined core_preamble r.0 ∙ ap Some (sym (preamble_is b r.0 r.1));
  whole = λ b s e.
      let p = parts_are (bytes core_preamble) (listed 1 core_function s.types ⊕ listed 5 memory_type s.memories) b e in
      let left : core_preamble ≡ p.left = same_Some _ _ p.p_is in
      let is : b ≡ core_preamble ++ p.right = p.is ∙ ap (λ l. l ++ p.right) (sym left) in
      rw (is, preamble_read p.right) (tells_sections.whole p.right s p.q_is);
}
