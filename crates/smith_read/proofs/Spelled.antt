-- The bytes of components of the grammar are framed.
use Rattle.std.proofs.Common.{◌≡◌, ℕ, zero, suc, ◌+◌, ◌-◌, ◌*◌, ◌/◌, ◌%◌, ◌^◌, ◌<◌, ◌≤◌, inl, inr, ⊎_elim, List, [], ◌∷◌, ◌++◌, length, take, drop}
use Rattle.std.proofs.Common.{Some, None, Bool, true, false, cond, nat_eq, refl, ap, sym, ◌∙◌, subst, arith, append_assoc, length-append}
use Rattle.std.proofs.Math.Nat.{mul_assoc, mul_comm, pow-suc}
use Rattle.std.proofs.Math.Seq.{drop-append_seam, take-append_seam}
use Rattle.std.proofs.lemmas.Bool.{cases_lt, le-ltb, lt-ltb}
use Rattle.std.proofs.lemmas.Bool.Decides.{Decides-eqb}
use Rattle.std.proofs.lemmas.Option.{same_Some}
use Rattle.std.proofs.lemmas.Slice.Eq.{starts_is}
use Rattle.std.specs.List.{starts_with}
use Rattle.smith_format.specs.Numbers.{unsigned}
use Rattle.smith_format.specs.Piece.{Piece, ◌⊕◌, byte, bytes, each, framed, many, raw, sized, u}
use Rattle.smith_format.proofs.Digits.{unsigned_last, unsigned_more}
use Rattle.smith_format.proofs.Piece.{parts_are, u_cases}
use Rattle.smith_core.specs.Preamble.{core_preamble}
use Rattle.smith_syntax.specs.Entries.{CoreEntry, DefValType, Entry, component_type, core_func, core_module as core_module_type, defined, enum_type}
use Rattle.smith_syntax.specs.Entries.{flags_type, function, instance_type, list_type, option_type, primitive_type, record_type, result_type, tuple_type}
use Rattle.smith_syntax.specs.Entries.{variant_type}
use Rattle.smith_syntax.specs.Grammar.{core_entry, defvaltype, entry, import_entry}
use Rattle.smith_tree.specs.Grammar.{Spells, canon, embedded, export_entry, part, parts, preamble}
use Rattle.smith_tree.specs.Tree.{Canon, Part, Tree, canons, component, core_module, core_types, custom, ends as no_parts, exports, first, imports}
use Rattle.smith_tree.specs.Tree.{lift, lower, types}
use Rattle.smith_tree.proofs.Clear.{embedded_whole}
use Rattle.smith_read.specs.Reading.{◌>>=◌}
use Rattle.smith_read.specs.Framed.{Framed, Sections, behind, counted, ends, magic, none_in, number_below, section, section_at, sections_in}

-- ---- numbers, and what they count

module _ (rest : List ℕ) where
  small : (limit n : ℕ) → n < 128 → n < limit → number_below limit (unsigned n ++ rest) ≡ Some (n, rest)
  unfolding number_below
  small limit n l h = rw (unsigned_last n l, lt-ltb n 128 l, lt-ltb n limit h) refl

  large : (limit m n : ℕ) → limit ≡ 128 * m → 128 ≤ n → n < limit → number_below m (unsigned (n / 128) ++ rest) ≡ Some (n / 128, rest)
      → number_below limit (unsigned n ++ rest) ≡ Some (n, rest)
  unfolding number_below
  large limit m n e l h back =
      let q : limit / 128 ≡ m = omega arith in
      let v : 128 + n % 128 - 128 + 128 * (n / 128) ≡ n = omega arith in
      rw (unsigned_more n l, le-ltb (128 + n % 128) 128 (omega arith), lt-ltb 128 limit (omega arith), q, back, v) refl

  grow : (k : ℕ) → 16 * 128 ^ suc k ≡ 128 * (16 * 128 ^ k)
  grow k = ap (λ p. 16 * p) (pow-suc 128 k) ∙ sym (mul_assoc 16 (128 ^ k) 128) ∙ mul_comm (16 * 128 ^ k) 128

  number_back : (k n : ℕ) → n < 16 * 128 ^ k → number_below (16 * 128 ^ k) (unsigned n ++ rest) ≡ Some (n, rest)
  number_back zero n h = small 16 n (omega arith) h
  number_back (suc k) n h =
      ⊎_elim (λ l. small (16 * 128 ^ suc k) n l h)
      (λ l. large (16 * 128 ^ suc k) (16 * 128 ^ k) n (grow k) l h (number_back k (n / 128) (let g = grow k in omega arith))) (cases_lt n 128)

counted_is : (n : ℕ) (bs : List ℕ) → n < 2 ^ 32 → n ≤ length bs → counted (unsigned n ++ bs) ≡ Some (take n bs, drop n bs)
unfolding counted
counted_is n bs h l = let e : number_below (2 ^ 32) (unsigned n ++ bs) ≡ Some (n, bs) = number_back bs 4 n h in rw (e, le-ltb (length bs) n l) refl

counted_back : (c rest : List ℕ) → length c < 2 ^ 32 → counted (unsigned (length c) ++ (c ++ rest)) ≡ Some (c, rest)
counted_back c rest h =
    counted_is (length c) (c ++ rest) h (omega (arith, length-append c rest))
    ∙ (let e : take (length c) (c ++ rest) ≡ c = take-append_seam c rest in
    let f : drop (length c) (c ++ rest) ≡ rest = drop-append_seam c rest in
    rw (e, f) refl)

u_is : (n : ℕ) (l : List ℕ) → u n ≡ Some l → (n < 2 ^ 32) × (l ≡ unsigned n)
u_is n l e = elim (u_cases n) [ inl h ↦ (h.1, same_Some l (unsigned n) (sym e ∙ h.0)) | inr h ↦ absurd (let z : None ≡ Some l = sym h.0 ∙ e in cc) ]

-- ---- lists

-- it has a byte at least
abbrev IsLong : Piece → Type 0
IsLong p = (l : List ℕ) → p ≡ Some l → 0 < length l

sole : (n : ℕ) → IsLong (byte n)
sole n l e = let f : n ∷ [] ≡ l = same_Some (n ∷ []) l e in omega (arith, ap length f)

headed : (n : ℕ) (a : List ℕ) (p : Piece) → IsLong (bytes (n ∷ a) ⊕ p)
headed n a p l e =
    let q = parts_are (bytes (n ∷ a)) p l e in
    let f : n ∷ a ≡ q.left = same_Some (n ∷ a) q.left q.p_is in
    omega (arith, ap length f, ap length q.is, length-append q.left q.right)

each_long : {A : Type 0} (f : A → Piece) → ((x : A) → IsLong (f x)) → (xs : List A) (l : List ℕ) → each f xs ≡ Some l → length xs ≤ length l
each_long f h [] l e = omega arith
each_long f h (x ∷ xs) l e =
    let q = parts_are (f x) (each f xs) l e in
    omega (arith, h x q.left q.p_is, each_long f h xs q.right q.q_is, ap length q.is, length-append q.left q.right)

many_counted : {A : Type 0} (f : A → Piece) → ((x : A) → IsLong (f x)) → (xs : List A) (l : List ℕ) → many f xs ≡ Some l → counted l >>= none_in ≡ Some []
many_counted f h xs l e =
    let q = parts_are (u (length xs)) (each f xs) l e in
    let n = u_is (length xs) q.left q.p_is in
    let i : l ≡ unsigned (length xs) ++ q.right = q.is ∙ ap (λ z. z ++ q.right) n.1 in
    rw (i, counted_is (length xs) q.right n.0 (each_long f h xs q.right q.q_is)) refl

long_core : (x : CoreEntry) → IsLong (core_entry x)
long_core (core_func f) = headed 0x60 [] _
long_core (core_module_type ds) = headed 0x50 [] _

long_defined : (x : DefValType) → IsLong (defvaltype x)
long_defined (primitive_type p) = sole _
long_defined (record_type fs) = headed 0x72 [] _
long_defined (variant_type cs) = headed 0x71 [] _
long_defined (list_type v) = headed 0x70 [] _
long_defined (tuple_type vs) = headed 0x6f [] _
long_defined (flags_type ns) = headed 0x6e [] _
long_defined (enum_type ns) = headed 0x6d [] _
long_defined (option_type v) = headed 0x6b [] _
long_defined (result_type ok err) = headed 0x6a [] _

long_entry : (x : Entry) → IsLong (entry x)
long_entry (defined t) = long_defined t
long_entry (function s) = headed 0x40 [] _
long_entry (component_type ds) = headed 0x41 [] _
long_entry (instance_type ds) = headed 0x42 [] _

long_canon : (x : Canon) → IsLong (canon x)
long_canon (lift c t) = headed 0x00 (0x00 ∷ []) _
long_canon (lower f) = headed 0x01 (0x00 ∷ []) _

-- ---- sections

behind_magic : (t l : List ℕ) → embedded t ≡ Some l → behind magic l >>= none_in ≡ Some []
unfolding embedded behind
behind_magic t l e = by_test (starts_with nat_eq t core_preamble) refl e
  where
    by_test : (x : Bool) → starts_with nat_eq t core_preamble ≡ x → cond x (raw t) None ≡ Some l → behind magic l >>= none_in ≡ Some []
    by_test true f g =
        let b : t ≡ core_preamble ++ drop (length core_preamble) t = (starts_is Decides-eqb t core_preamble (starts_with nat_eq t core_preamble) refl).0 f in
        let c : l ≡ core_preamble ++ drop (length core_preamble) t = sym (embedded_whole t l e) ∙ b in
        rw c refl
    by_test false f g = absurd cc

-- the bytes of a section: its id, and its contents after their length
sized_is : (id : ℕ) (p : Piece) (l : List ℕ) → sized id p ≡ Some l
    → (c : List ℕ) × (p ≡ Some c) × (length c < 2 ^ 32) × (l ≡ id ∷ (unsigned (length c) ++ c))
unfolding framed
sized_is id None l e = let q = parts_are (byte id) None l e in absurd (let z = q.q_is in cc)
sized_is id (Some c) l e =
    let q = parts_are (byte id) (u (length c) ⊕ Some c) l e in
    let r = parts_are (u (length c)) (Some c) q.right q.q_is in
    let n = u_is (length c) r.left r.p_is in (
      c,
      refl,
      n.0,
      q.is ∙ ap (λ z. z ++ q.right) (sym (same_Some (id ∷ []) q.left q.p_is)) ∙ ap (λ z. id ∷ z) r.is ∙ ap (λ z. id ∷ (z ++ r.right)) n.1
          ∙ ap (λ z. id ∷ (unsigned (length c) ++ z)) (sym (same_Some c r.right r.q_is)),
    )

section_back : (id : ℕ) (c s rest : List ℕ) → id ≤ 12 → length c < 2 ^ 32 → sections_in id c ≡ Some s
    → section_at (id ∷ (unsigned (length c) ++ (c ++ rest))) ≡ Some (s, rest)
unfolding section_at
section_back id c s rest h l e = rw (le-ltb 12 id h, counted_back c rest l, e) refl

-- a section that holds sections, in front of others
with_section : (id : ℕ) (p : Piece) (l : List ℕ) → id ≤ 12 → sized id p ≡ Some l
    → ((c : List ℕ) → p ≡ Some c → (s : List ℕ) × (sections_in id c ≡ Some s) × Sections s) → (rest : List ℕ) → Sections rest → Sections (l ++ rest)
with_section id p l h e inside rest r =
    let z = sized_is id p l e in
    let s = inside z.0 z.1 in
    let b : l ++ rest ≡ id ∷ (unsigned (length z.0) ++ (z.0 ++ rest)) =
    ap (λ y. y ++ rest) z.3 ∙ ap (λ y. id ∷ y) (append_assoc (unsigned (length z.0)) z.0 rest) in
    subst Sections (sym b) (section _ (s.0, rest) (section_back id z.0 s.0 rest h z.2 s.1) s.2 r)

-- no sections are inside
flat : (id : ℕ) (c : List ℕ) → sections_in id c ≡ Some [] → (s : List ℕ) × (sections_in id c ≡ Some s) × Sections s
flat id c e = ([], e, ends)

preamble_is : (rest : List ℕ) → behind preamble (preamble ++ rest) ≡ Some rest
unfolding behind
preamble_is rest = refl

spelled_begins : (t : Tree) (b : List ℕ) → Spells t b → (rest : List ℕ) × (parts t ≡ Some rest) × (behind preamble b ≡ Some rest)
spelled_begins t b e =
    let q = parts_are (bytes preamble) (parts t) b e in
    let f : b ≡ preamble ++ q.right = q.is ∙ ap (λ z. z ++ q.right) (sym (same_Some preamble q.left q.p_is)) in
    (q.right, q.q_is, ap (behind preamble) f ∙ preamble_is q.right)

mutual
  unfolding sections_in

  part_framed : (p : Part) (l : List ℕ) → part p ≡ Some l → (rest : List ℕ) → Sections rest → Sections (l ++ rest)
  part_framed (custom n b) l e = with_section 0 _ l (omega arith) e (λ c f. flat 0 c refl)
  part_framed (core_module m) l e = with_section 1 _ l (omega arith) e (λ c f. flat 1 c (behind_magic m c f))
  part_framed (core_types ts) l e = with_section 3 _ l (omega arith) e (λ c f. flat 3 c (many_counted core_entry long_core ts c f))
  part_framed (component t) l e =
      with_section 4 _ l (omega arith) e (λ c f. let b = spelled_begins t c f in (b.0, b.2, tree_framed t b.0 b.1))
  part_framed (types ts) l e = with_section 7 _ l (omega arith) e (λ c f. flat 7 c (many_counted entry long_entry ts c f))
  part_framed (canons fs) l e = with_section 8 _ l (omega arith) e (λ c f. flat 8 c (many_counted canon long_canon fs c f))
  part_framed (imports is) l e = with_section 10 _ l (omega arith) e
      (λ c f. flat 10 c (many_counted import_entry (λ x. headed 0x00 [] _) is c f))
  part_framed (exports es) l e = with_section 11 _ l (omega arith) e
      (λ c f. flat 11 c (many_counted export_entry (λ x. headed 0x00 [] _) es c f))

  tree_framed : (t : Tree) (b : List ℕ) → parts t ≡ Some b → Sections b
  tree_framed no_parts b e = let f : [] ≡ b = same_Some [] b e in subst Sections f ends
  tree_framed (first p t) b e =
      let q = parts_are (part p) (parts t) b e in
      subst Sections (sym q.is) (part_framed p q.left q.p_is q.right (tree_framed t q.right q.q_is))

pub spelled_framed : (t : Tree) (b : List ℕ) → Spells t b → Framed b
spelled_framed t b e = let s = spelled_begins t b e in record { rest = s.0; begins = s.2; sections = tree_framed t s.0 s.1 }
