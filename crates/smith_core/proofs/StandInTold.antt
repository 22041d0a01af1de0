-- Function types and memories are found again from the bytes of the module that they are.
use Rattle.std.proofs.Common.{◌≡◌, inl, inr, ℕ, zero, suc, ◌+◌, ◌/◌, ◌%◌, ◌<◌, ◌≤◌, ◌^◌, Bool, true, false, nat_le, if◌then◌else◌, List, [], ◌∷◌, ◌++◌, IfSome}
use Rattle.std.proofs.Common.{map, take, drop, length, refl, sym, ap, ◌∙◌, subst, arith, Option, Some, None, append_assoc}
use Rattle.std.proofs.Math.Seq.{take-append_seam, drop-append_seam}
use Rattle.std.proofs.lemmas.Bool.{cases_lt}
use Rattle.std.proofs.lemmas.Bool.Decides.{nat_tests}
use Rattle.std.specs.List.{AllByRecursion, Contains}
use Rattle.smith_input.specs.Offers.{offered}
use Rattle.smith_format.specs.CoreFormed.{FormedFunction, FormedMemory}
use Rattle.smith_format.specs.CoreTypes.{Function, core_function, core_val}
use Rattle.smith_format.specs.Entities.{limits, memory_type}
use Rattle.smith_format.specs.Limits.{configured, max_results}
use Rattle.smith_format.specs.Numbers.{as_it_is, digits, unsigned}
use Rattle.smith_format.specs.Piece.{Piece, ◌⊕◌, byte, bytes, each, framed, many, number, sized, u}
use Rattle.smith_format.specs.declared.config.Config.{Config}
use Rattle.smith_format.specs.declared.types.MemoryType.{MemoryType}
use Rattle.smith_format.specs.declared.types.RefType.TheVariants.{FuncRef, ExternRef}
use Rattle.smith_format.specs.declared.types.ValType.{ValType}
use Rattle.smith_format.specs.declared.types.ValType.TheVariants.{I32, I64, F32, F64, V128, Ref}
use Rattle.smith_format.proofs.Digits.{digits_last, digits_more, unsigned_last}
use Rattle.smith_format.proofs.Piece.{joined, number_fits, parts_are, u_cases, u_fits}
use Rattle.smith_core.specs.Preamble.{core_preamble}
use Rattle.smith_core.specs.StandInScript.{IsStandIn, all_memories, counted_functions, function_of}
use Rattle.smith_core.specs.StandInScript.{functions_from, memories_of, memory_of, past_number, stand_in_of, types_from, value_of, values_of}
use Rattle.smith_core.proofs.Segments.{all_read}
use Rattle.smith_core.proofs.StandInMade.{few_results}
use Rattle.smith_core.specs.StandInText.{StandIn, listed, stand_in_text}
use Rattle.smith_input.proofs.Lists.{all_both}

-- Numbers.

past_one : (n : ℕ) (z : List ℕ) → n < 128 → past_number (n ∷ z) ≡ z
past_one n z h = let last : nat_le 128 n ≡ false = grind (arith, nat_tests) in ap (λ t. if t then past_number z else z) last

past_digits : (more n : ℕ) (z : List ℕ) → n ≤ more → past_number (digits as_it_is 128 more n ++ z) ≡ z
past_digits zero n z h =
    let small : n < 128 = omega (arith, h) in ap (λ d. past_number (d ++ z)) (digits_last as_it_is 128 zero n small) ∙ past_one n z small
past_digits (suc more) n z h = elim (cases_lt n 128) [
  | inl small ↦ ap (λ d. past_number (d ++ z)) (digits_last as_it_is 128 (suc more) n small) ∙ past_one n z small
  | inr large ↦
      let first : nat_le 128 (128 + n % 128) ≡ true = grind (arith, nat_tests) in
      let rest : List ℕ = digits as_it_is 128 more (n / 128) ++ z in
      ap (λ d. past_number (d ++ z)) (digits_more as_it_is 128 more n large)
      ∙ ap (λ t. if t then past_number rest else rest) first ∙ past_digits more (n / 128) z (omega arith)
]

past_unsigned : (n : ℕ) (z : List ℕ) → past_number (unsigned n ++ z) ≡ z
unfolding unsigned
past_unsigned n z = past_digits n n z (omega arith)

u_small : (n : ℕ) → n ≤ 20 → u n ≡ byte n
u_small n h = u_fits n (omega (arith, h)) ∙ ap Some (unsigned_last n (omega (arith, h)))

number_small : (n : ℕ) → n ≤ 20 → number n ≡ byte n
number_small n h = number_fits n (omega (arith, h)) ∙ ap Some (unsigned_last n (omega (arith, h)))

u_read : (n : ℕ) (b : List ℕ) → u n ≡ Some b → (b ≡ unsigned n) × (n < 2 ^ 32)
u_read n b e = elim (u_cases n) [
  | inl h ↦ let f : Some b ≡ Some (unsigned n) = sym e ∙ h.0 in let g : b ≡ unsigned n = cc in (g, h.1)
  | inr h ↦ absurd (let f : None ≡ Some b = sym h.0 ∙ e in cc)
]

-- A section: its id, its length, and its contents.
section_read : (id : ℕ) (c : List ℕ) (b : List ℕ) → sized id (Some c) ≡ Some b → b ≡ id ∷ unsigned (length c) ++ c
unfolding framed
section_read id c b e =
    let p = parts_are (byte id) (u (length c) ⊕ Some c) b e in
    let q = parts_are (u (length c)) (Some c) p.right p.q_is in
    let first : id ∷ [] ≡ p.left = let f : Some (id ∷ []) ≡ Some p.left = p.p_is in cc in
    let last : c ≡ q.right = let f : Some c ≡ Some q.right = q.q_is in cc in
    p.is ∙ (λ i. sym first i ++ p.right) ∙ ap (λ r. id ∷ r) (q.is ∙ (λ i. (u_read (length c) q.left q.p_is).0 i ++ sym last i))

section_some : (id : ℕ) (p : Piece) (b : List ℕ) → sized id p ≡ Some b → (c : List ℕ) × (p ≡ Some c)
unfolding framed
section_some id None b e = let p = parts_are (byte id) None b e in absurd (let f : None ≡ Some p.right = p.q_is in cc)
section_some id (Some c) b e = (c, refl)

-- the count of a list that is a section, and the bytes of its items
listed_parts : {A : Type 0} (f : A → Piece) (id : ℕ) (xs : List A) (b : List ℕ) → sized id (many f xs) ≡ Some b
    → (items : List ℕ) × (length xs < 2 ^ 32) × (each f xs ≡ Some items) × (many f xs ≡ Some (unsigned (length xs) ++ items))
listed_parts f id xs b e =
    let c = section_some id (many f xs) b e in
    let p = parts_are (u (length xs)) (each f xs) c.0 c.1 in
    let n = u_read (length xs) p.left p.p_is in
    (p.right, n.1, p.q_is, c.1 ∙ ap Some p.is ∙ ap (λ front. Some (front ++ p.right)) n.0)

-- Value types.

abbrev ToldValue : ValType → Type 0
ToldValue v = (n : ℕ) × (core_val v ≡ byte n) × (value_of n ≡ v)

pub offered_all : {A : Type 0} (P : A → Type 0) (b : Bool) (xs : List A) → AllByRecursion P xs → AllByRecursion P (offered b xs)
offered_all P true xs all = all
offered_all P false xs all = tt

values_told_all : (config : Config) → AllByRecursion ToldValue (configured config)
values_told_all config =
    all_both ToldValue ((I32 ∷ I64 ∷ []) ++ offered config.allow_floats (F32 ∷ F64 ∷ []) ++ offered config.simd_enabled (V128 ∷ []))
    (offered config.reference_types_enabled (Ref FuncRef ∷ Ref ExternRef ∷ []))
    (all_both ToldValue ((I32 ∷ I64 ∷ []) ++ offered config.allow_floats (F32 ∷ F64 ∷ [])) (offered config.simd_enabled (V128 ∷ []))
    (all_both ToldValue (I32 ∷ I64 ∷ []) (offered config.allow_floats (F32 ∷ F64 ∷ []))
    ((0x7f, refl, refl), ((0x7e, refl, refl), tt))
    (offered_all ToldValue config.allow_floats (F32 ∷ F64 ∷ []) ((0x7d, refl, refl), ((0x7c, refl, refl), tt))))
    (offered_all ToldValue config.simd_enabled (V128 ∷ []) ((0x7b, refl, refl), tt)))
    (offered_all ToldValue config.reference_types_enabled (Ref FuncRef ∷ Ref ExternRef ∷ []) ((0x70, refl, refl), ((0x6f, refl, refl), tt)))

value_told : (config : Config) (v : ValType) → Contains (configured config) v → ToldValue v
value_told config v c = all_read ToldValue (configured config) c.0 v (values_told_all config) c.1 (sym c.2)

-- What a piece is, and that it is found again in front of anything.
record Told {A : Type 0} (p : Piece) (find : List ℕ → A × List ℕ) (x : A) : Type 0 where
  pub are : List ℕ
  pub is : p ≡ Some are
  pub found : (rest : List ℕ) → find (are ++ rest) ≡ (x, rest)

record ToldValues (vs : List ValType) : Type 0 where
  pub are : List ℕ
  pub is : each core_val vs ≡ Some are
  pub shown : map value_of are ≡ vs
  pub count : length are ≡ length vs

module _ (config : Config) where
  each_value_told : (vs : List ValType) → AllByRecursion (λ v. Contains (configured config) v) vs → ToldValues vs
  each_value_told [] all = record { are = []; is = refl; shown = refl; count = refl }
  each_value_told (v ∷ vs) all =
      let one = value_told config v all.0 in
      let more = each_value_told vs all.1 in
      record {
        are = one.0 ∷ more.are;
        is = (λ i. one.1 i ⊕ more.is i) ∙ joined (one.0 ∷ []) more.are;
        shown = λ i. one.2 i ∷ more.shown i;
        count = ap suc more.count;
      }

  values_told : (vs : List ValType) → AllByRecursion (λ v. Contains (configured config) v) vs → length vs ≤ 20 → Told (many core_val vs) values_of vs
  values_told vs all few =
      let t = each_value_told vs all in
      record {
        are = length vs ∷ t.are;
        is = (λ i. u_small (length vs) few i ⊕ t.is i) ∙ joined (length vs ∷ []) t.are;
        found = λ rest.
            let taken : take (length vs) (t.are ++ rest) ≡ t.are = subst (λ n. take n (t.are ++ rest) ≡ t.are) t.count (take-append_seam t.are rest) in
            let left : drop (length vs) (t.are ++ rest) ≡ rest = subst (λ n. drop n (t.are ++ rest) ≡ rest) t.count (drop-append_seam t.are rest) in
            λ i. ((ap (map value_of) taken ∙ t.shown) i, left i);
      }

  function_told : (f : Function) → FormedFunction (configured config) (max_results config) f → Told (core_function f) function_of f
  function_told f h =
      let few : max_results config ≤ 20 = few_results config.multi_value_enabled in
      let p = values_told f.0 h.params h.few_params in
      let r = values_told f.1 h.results (omega (arith, h.few_results, few)) in
      record {
        are = 0x60 ∷ (p.are ++ r.are);
        is = (λ i. byte 0x60 ⊕ p.is i ⊕ r.is i) ∙ ap (λ z. byte 0x60 ⊕ z) (joined p.are r.are) ∙ joined (0x60 ∷ []) (p.are ++ r.are);
        found = λ rest.
            let params : values_of ((p.are ++ r.are) ++ rest) ≡ (f.0, r.are ++ rest) = ap values_of (append_assoc p.are r.are rest) ∙ p.found (r.are ++ rest) in
            let results : values_of (r.are ++ rest) ≡ (f.1, rest) = r.found rest in
            ap (λ (z : List ValType × List ℕ). let o = values_of z.1 in ((z.0, o.0), o.1)) params
            ∙ ap (λ (o : List ValType × List ℕ). ((f.0, o.0), o.1)) results;
      }

  functions_told : (fs : List Function) → AllByRecursion (FormedFunction (configured config) (max_results config)) fs
      → Told (each core_function fs) (functions_from (length fs)) fs
  functions_told [] all = record { are = []; is = refl; found = λ rest. refl }
  functions_told (f ∷ fs) all =
      let one = function_told f all.0 in
      let more = functions_told fs all.1 in
      record {
        are = one.are ++ more.are;
        is = (λ i. one.is i ⊕ more.is i) ∙ joined one.are more.are;
        found = λ rest.
            let first : function_of ((one.are ++ more.are) ++ rest) ≡ (f, more.are ++ rest) =
            ap function_of (append_assoc one.are more.are rest) ∙ one.found (more.are ++ rest) in
            ap (λ (z : Function × List ℕ). let o = functions_from (length fs) z.1 in (z.0 ∷ o.0, o.1)) first
            ∙ ap (λ (o : List Function × List ℕ). (f ∷ o.0, o.1)) (more.found rest);
      }

  counted_told : (fs : List Function) → AllByRecursion (FormedFunction (configured config) (max_results config)) fs
      → length fs ≤ 20 → Told (many core_function fs) counted_functions fs
  counted_told fs all few =
      let t = functions_told fs all in
      record {
        are = length fs ∷ t.are;
        is = (λ i. u_small (length fs) few i ⊕ t.is i) ∙ joined (length fs ∷ []) t.are;
        found = t.found;
      }

-- Memories.

record ToldMemories (ms : List MemoryType) : Type 0 where
  pub are : List ℕ
  pub is : each memory_type ms ≡ Some are
  pub found : all_memories are ≡ ms

-- a memory type in front of others
memory_told : (m : MemoryType) (ms : List MemoryType) → FormedMemory m → ToldMemories ms → ToldMemories (m ∷ ms)
memory_told m ms h more = by_maximum m.maximum refl
  where
    least : number m.minimum ≡ byte m.minimum
    least = number_small m.minimum (let low = h.limits.least in omega (arith, low))

    same : (most : Option ℕ) → most ≡ m.maximum → memory_of m.minimum most ≡ m
    same most e = λ i. record { minimum = m.minimum; maximum = e i; shared = sym h.shared i; memory64 = sym h.memory64 i }

    plain : (most : Option ℕ) → most ≡ m.maximum → memory_type m ≡ limits false false m.minimum most
    plain most e = λ i. limits (h.shared i) (h.memory64 i) m.minimum (sym e i)

    by_maximum : (most : Option ℕ) → most ≡ m.maximum → ToldMemories (m ∷ ms)
    by_maximum None e =
        let whole : memory_type m ≡ Some (0 ∷ m.minimum ∷ []) =
        plain None e ∙ (λ i. byte 0 ⊕ least i ⊕ bytes []) ∙ ap (λ z. byte 0 ⊕ z) (joined (m.minimum ∷ []) []) ∙ joined (0 ∷ []) (m.minimum ∷ []) in
        record {
          are = 0 ∷ m.minimum ∷ more.are;
          is = (λ i. whole i ⊕ more.is i) ∙ joined (0 ∷ m.minimum ∷ []) more.are;
          found = λ i. same None e i ∷ more.found i;
        }
    by_maximum (Some n) e =
        let few : (m.minimum ≤ n) × (n ≤ 20) = subst (λ o. IfSome o (λ n. (m.minimum ≤ n) × (n ≤ 20))) (sym e) h.limits.most in
        let whole : memory_type m ≡ Some (1 ∷ m.minimum ∷ n ∷ []) =
        plain (Some n) e ∙ (λ i. byte 1 ⊕ least i ⊕ number_small n few.1 i) ∙ ap (λ z. byte 1 ⊕ z) (joined (m.minimum ∷ []) (n ∷ []))
        ∙ joined (1 ∷ []) (m.minimum ∷ n ∷ []) in
        record {
          are = 1 ∷ m.minimum ∷ n ∷ more.are;
          is = (λ i. whole i ⊕ more.is i) ∙ joined (1 ∷ m.minimum ∷ n ∷ []) more.are;
          found = λ i. same (Some n) e i ∷ more.found i;
        }

memories_told : (ms : List MemoryType) → AllByRecursion FormedMemory ms → ToldMemories ms
memories_told [] all = record { are = []; is = refl; found = refl }
memories_told (m ∷ ms) all = memory_told m ms all.0 (memories_told ms all.1)

-- The two sections.

module _ (config : Config) where
  types_told : (fs : List Function) (t m : List ℕ) → AllByRecursion (FormedFunction (configured config) (max_results config)) fs → length fs ≤ 20
      → types_from m ≡ ([], m) → listed 1 core_function fs ≡ Some t → types_from (t ++ m) ≡ (fs, m)
  types_told [] t m all few none e = let f : [] ≡ t = let g : Some [] ≡ Some t = e in cc in ap (λ z. types_from (z ++ m)) (sym f) ∙ none
  types_told (f ∷ fs) t m all few none e =
      let c = counted_told config (f ∷ fs) all few in
      let is : t ≡ 1 ∷ unsigned (length c.are) ++ c.are = section_read 1 c.are t (ap (λ p. sized 1 p) (sym c.is) ∙ e) in
      ap (λ z. types_from (z ++ m)) is
      ∙ ap (λ z. counted_functions (past_number z)) (append_assoc (unsigned (length c.are)) c.are m)
      ∙ ap counted_functions (past_unsigned (length c.are) (c.are ++ m))
      ∙ c.found m

memory_section_told : (ms : List MemoryType) (m : List ℕ) → AllByRecursion FormedMemory ms → listed 5 memory_type ms ≡ Some m
    → (memories_of m ≡ ms) × (types_from m ≡ ([], m))
memory_section_told [] m all e = let f : [] ≡ m = let g : Some [] ≡ Some m = e in cc in (ap memories_of (sym f), subst (λ z. types_from z ≡ ([], z)) f refl)
memory_section_told (x ∷ xs) m all e =
    let t = memories_told (x ∷ xs) all in
    let s = listed_parts memory_type 5 (x ∷ xs) m e in
    let count : List ℕ = unsigned (length (x ∷ xs)) in
    let same : s.0 ≡ t.are = let f : Some s.0 ≡ Some t.are = sym s.2 ∙ t.is in cc in
    let is : m ≡ 5 ∷ unsigned (length (count ++ s.0)) ++ (count ++ s.0) = section_read 5 (count ++ s.0) m (ap (λ p. sized 5 p) (sym s.3) ∙ e) in (
      ap memories_of is
          ∙ ap (λ z. all_memories (past_number z)) (past_unsigned (length (count ++ s.0)) (count ++ s.0))
          ∙ ap all_memories (past_unsigned (length (x ∷ xs)) s.0)
          ∙ ap all_memories same
          ∙ t.found,
      subst (λ z. types_from z ≡ ([], z)) (sym is) refl,
    )

few_listed : (ms : List MemoryType) (m : List ℕ) → listed 5 memory_type ms ≡ Some m → length ms < 2 ^ 32
few_listed [] m e = omega arith
few_listed (x ∷ xs) m e = (listed_parts memory_type 5 (x ∷ xs) m e).1

-- what has bytes has no more memories than a list of the program can hold
pub stand_in_few : (s : StandIn) (b : List ℕ) → stand_in_text s ≡ Some b → length s.memories < 2 ^ 63
stand_in_few s b e =
    let p = parts_are (bytes core_preamble) (listed 1 core_function s.types ⊕ listed 5 memory_type s.memories) b e in
    let q = parts_are (listed 1 core_function s.types) (listed 5 memory_type s.memories) p.right p.q_is in
    omega (arith, few_listed s.memories q.right q.q_is)

pub stand_in_told : (config : Config) (s : StandIn) (b : List ℕ) → IsStandIn config s → stand_in_text s ≡ Some b → stand_in_of b ≡ s
stand_in_told config s b h e =
    let p = parts_are (bytes core_preamble) (listed 1 core_function s.types ⊕ listed 5 memory_type s.memories) b e in
    let q = parts_are (listed 1 core_function s.types) (listed 5 memory_type s.memories) p.right p.q_is in
    let front : core_preamble ≡ p.left = let f : Some core_preamble ≡ Some p.left = p.p_is in cc in
    let whole : b ≡ core_preamble ++ (q.left ++ q.right) = p.is ∙ (λ i. sym front i ++ q.is i) in
    let memories = memory_section_told s.memories q.right h.memories q.q_is in
    let types = types_told config s.types q.left q.right h.types (let few = h.few_types in omega (arith, few)) memories.1 q.p_is in
    ap stand_in_of whole
    ∙ ap (λ (z : List Function × List ℕ). let made : StandIn = record { types = z.0; memories = memories_of z.1 } in made) types
    ∙ ap (λ ms. let made : StandIn = record { types = s.types; memories = ms } in made) memories.0
