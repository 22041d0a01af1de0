-- Core modules that stand for generated ones are sound.
use Rattle.std.proofs.Common.{◌≡◌, ℕ, ◌+◌, ◌*◌, ◌<◌, ◌≤◌, ◌^◌, List, [], ◌∷◌, ◌++◌, length, refl, sym, ap, ◌∙◌, subst, arith, Option}
use Rattle.std.proofs.Common.{Some, None, IfSome}
use Rattle.std.specs.List.{AllByRecursion}
use Rattle.smith_input.proofs.Lists.{all_both}
use Rattle.smith_format.specs.CoreFormed.{FormedFunction, FormedMemory}
use Rattle.smith_format.specs.CoreTypes.{Function, core_function, core_val}
use Rattle.smith_format.specs.Entities.{bit, has_maximum, maximum, memory_type}
use Rattle.smith_format.specs.Limits.{configured, max_results}
use Rattle.smith_format.specs.Numbers.{unsigned}
use Rattle.smith_format.specs.Piece.{Piece, ◌⊕◌, bytes, bytes_of, each, many, number, sized, u}
use Rattle.smith_format.specs.Writing.{Takes}
use Rattle.smith_format.specs.declared.config.Config.{Config}
use Rattle.smith_format.specs.declared.types.MemoryType.{MemoryType}
use Rattle.smith_format.specs.declared.types.ValType.{ValType}
use Rattle.smith_format.proofs.Digits.{unsigned_short_32, unsigned_short_64}
use Rattle.smith_format.proofs.Piece.{joined, number_fits}
use Rattle.smith_format.proofs.Sizes.{takes_bytes, takes_sized, takes_then, takes_u}
use Rattle.smith_syntax.proofs.Possible.{memory_possible}
use Rattle.smith_core.specs.Preamble.{core_preamble}
use Rattle.smith_core.specs.StandInScript.{IsStandIn}
use Rattle.smith_core.specs.StandInText.{StandIn, listed, stand_in_text}
use Rattle.smith_tree.specs.Readable.{IsReadablePart, IsReadableRest, StandsForModule}
use Rattle.smith_tree.specs.Tree.{Part, Tree, add, anywhere_in, canons, component, core_module, core_types, custom, ends, exports, first, imports, modules}
use Rattle.smith_tree.specs.Tree.{modules_in, types}
use Rattle.smith_verdict.proofs.GeneratedValues.{OfValues, configured_values, few_values}
use Rattle.smith_verdict.specs.Contained.{IsPlain}
use Rattle.smith_verdict.specs.Modules.{FewValues, IsPlainFunction, SoundMemory, SoundModule}

pub plain_values : OfValues IsPlain
plain_values = record { numbers = (tt, (tt, tt)); floats = (tt, (tt, tt)); vectors = (tt, tt); references = (tt, (tt, tt)) }

-- How many bytes the two sections have.

-- a piece of at most that many bytes
record IsShort (most : ℕ) (p : Piece) : Type 0 where
  long : ℕ
  takes : Takes long p
  few : long ≤ most

short_bytes : (bs : List ℕ) → IsShort (length bs) (bytes bs)
short_bytes bs = record { long = length bs; takes = takes_bytes (length bs) bs refl; few = omega arith }

short_then : {m n : ℕ} {p q : Piece} → IsShort m p → IsShort n q → IsShort (m + n) (p ⊕ q)
short_then a b = record { long = a.long + b.long; takes = takes_then a.takes b.takes; few = omega (arith, a.few, b.few) }

short_u : (n : ℕ) → n < 2 ^ 32 → IsShort 5 (u n)
short_u n h = record { long = length (unsigned n); takes = takes_u n h; few = unsigned_short_32 n h }

short_number : (n : ℕ) → n ≤ 20 → IsShort 10 (number n)
short_number n h =
    let small : n < 2 ^ 64 = omega (arith, h) in
    subst (IsShort 10) (sym (number_fits n small))
    (record { long = length (unsigned n); takes = takes_bytes (length (unsigned n)) (unsigned n) refl; few = unsigned_short_64 n small })

wider : {m n : ℕ} {p : Piece} → m ≤ n → IsShort m p → IsShort n p
wider h s = record { long = s.long; takes = s.takes; few = omega (arith, h, s.few) }

module _ {A : Type 0} (f : A → Piece) (most : ℕ) where
  short_each : (xs : List A) → AllByRecursion (λ x. IsShort most (f x)) xs → IsShort (length xs * most) (each f xs)
  short_each [] all = wider (omega arith) (short_bytes [])
  short_each (x ∷ xs) all = wider (omega arith) (short_then all.0 (short_each xs all.1))

  short_many : (xs : List A) → length xs < 2 ^ 32 → AllByRecursion (λ x. IsShort most (f x)) xs → IsShort (5 + length xs * most) (many f xs)
  short_many xs few all = short_then (short_u (length xs) few) (short_each xs all)

short_values : OfValues (λ v. IsShort 1 (core_val v))
short_values = record {
  numbers = (short_bytes (0x7f ∷ []), (short_bytes (0x7e ∷ []), tt));
  floats = (short_bytes (0x7d ∷ []), (short_bytes (0x7c ∷ []), tt));
  vectors = (short_bytes (0x7b ∷ []), tt);
  references = (short_bytes (0x70 ∷ []), (short_bytes (0x6f ∷ []), tt));
}

short_maximum : (m : MemoryType) → FormedMemory m → IsShort 10 (maximum m.maximum)
short_maximum m formed = by m.maximum formed.limits.most
  where
    by : (most : Option ℕ) → IfSome most (λ n. (m.minimum ≤ n) × (n ≤ 20)) → IsShort 10 (maximum most)
    by None h = wider (omega arith) (short_bytes [])
    by (Some n) h = short_number n h.1

short_memory : (m : MemoryType) → FormedMemory m → IsShort 21 (memory_type m)
short_memory m formed =
    short_then (short_bytes ((bit (has_maximum m.maximum) 1 + (bit m.shared 2 + bit m.memory64 4)) ∷ []))
    (short_then (short_number m.minimum (let least = formed.limits.least in omega (arith, least))) (short_maximum m formed))

short_memories : (ms : List MemoryType) → AllByRecursion FormedMemory ms → AllByRecursion (λ m. IsShort 21 (memory_type m)) ms
short_memories [] all = tt
short_memories (m ∷ ms) all = (short_memory m all.0, short_memories ms all.1)

module _ (config : Config) where
  short_function : (f : Function) → FormedFunction (configured config) (max_results config) f → IsShort 51 (core_function f)
  short_function f h =
      let few = few_values config f h in
      let P : ValType → Type 0 = λ v. IsShort 1 (core_val v) in
      wider (omega (arith, few.0, few.1))
      (short_then (short_bytes (0x60 ∷ []))
      (short_then (short_many core_val 1 f.0 (omega (arith, few.0)) (configured_values P config short_values f.0 h.params))
      (short_many core_val 1 f.1 (omega (arith, few.1)) (configured_values P config short_values f.1 h.results))))

  short_functions : (fs : List Function) → AllByRecursion (FormedFunction (configured config) (max_results config)) fs
      → AllByRecursion (λ f. IsShort 51 (core_function f)) fs
  short_functions [] all = tt
  short_functions (f ∷ fs) all = (short_function f all.0, short_functions fs all.1)

has_text : (p : Piece) → ¬ (p ≡ None) → (text : List ℕ) × (p ≡ Some text)
has_text None some = absurd (some refl)
has_text (Some text) some = (text, refl)

-- the section of a list, if it has one
listed_spelled : {A : Type 0} (id : ℕ) (f : A → Piece) (most : ℕ) (xs : List A) → length xs ≤ 100 → length xs * most ≤ 10000
    → AllByRecursion (λ x. IsShort most (f x)) xs → (text : List ℕ) × (listed id f xs ≡ Some text)
listed_spelled id f most [] few small all = ([], refl)
listed_spelled id f most (x ∷ xs) few small all =
    let s = short_many f most (x ∷ xs) (omega (arith, few)) all in
    has_text (sized id (many f (x ∷ xs))) (takes_sized id s.takes (omega (arith, s.few, small))).spelled

stand_in_spelled : (config : Config) (s : StandIn) → IsStandIn config s → length s.memories ≤ 100 → (text : List ℕ) × (stand_in_text s ≡ Some text)
stand_in_spelled config s is few =
    let most : length s.types ≤ 20 = let least = is.few_types in omega (arith, least) in
    let types = listed_spelled 1 core_function 51 s.types (omega (arith, most)) (omega (arith, most)) (short_functions config s.types is.types) in
    let memories = listed_spelled 5 memory_type 21 s.memories few (omega (arith, few)) (short_memories s.memories is.memories) in (
      core_preamble ++ (types.0 ++ memories.0),
      (λ i. bytes core_preamble ⊕ types.1 i ⊕ memories.1 i) ∙ ap (λ p. bytes core_preamble ⊕ p) (joined types.0 memories.0)
          ∙ joined core_preamble (types.0 ++ memories.0),
    )

-- Sound modules.

sound_memories : (ms : List MemoryType) → AllByRecursion FormedMemory ms → AllByRecursion SoundMemory ms
sound_memories [] all = tt
sound_memories (m ∷ ms) all = ((memory_possible m all.0, all.0.shared, all.0.memory64), sound_memories ms all.1)

module _ (config : Config) where
  plain_functions : (fs : List Function) → AllByRecursion (FormedFunction (configured config) (max_results config)) fs → AllByRecursion IsPlainFunction fs
  plain_functions [] all = tt
  plain_functions (f ∷ fs) all =
      let formed = all.0 in (
        (configured_values IsPlain config plain_values f.0 formed.params, configured_values IsPlain config plain_values f.1 formed.results),
        plain_functions fs all.1,
      )

  few_functions : (fs : List Function) → AllByRecursion (FormedFunction (configured config) (max_results config)) fs → AllByRecursion FewValues fs
  few_functions [] all = tt
  few_functions (f ∷ fs) all =
      let few = few_values config f all.0 in
      ((omega (arith, few.0), omega (arith, few.1)), few_functions fs all.1)

  pub module_sound : config.max_memories ≤ 100 → (text : List ℕ) → StandsForModule config text → SoundModule text
  module_sound few text (s, is, spelled) =
      let bytes = stand_in_spelled config s is (omega (arith, is.few_memories, few)) in (
        s,
        (bytes.1 ∙ ap Some (sym (spelled ∙ ap bytes_of bytes.1)), plain_functions s.types is.types),
        sound_memories s.memories is.memories,
        (let most = is.few_types in omega (arith, most), omega (arith, is.few_memories, few), few_functions s.types is.types),
      )

  -- at every depth
  mutual
    pub sound_modules : config.max_memories ≤ 100 → (t before : Tree) → IsReadableRest config t before → AllByRecursion SoundModule (modules t)
    sound_modules few ends before read = tt
    sound_modules few (first p t) before read =
        all_both SoundModule (anywhere_in modules_in p) (modules t) (modules_in_part few p before read.0) (sound_modules few t (add before p) read.1)

    modules_in_part : config.max_memories ≤ 100 → (p : Part) (before : Tree) → IsReadablePart config p before
        → AllByRecursion SoundModule (anywhere_in modules_in p)
    modules_in_part few (core_module text) before read = (module_sound few text read, tt)
    modules_in_part few (component t) before read = sound_modules few t ends read
    modules_in_part few (custom name contents) before read = tt
    modules_in_part few (core_types ts) before read = tt
    modules_in_part few (types ts) before read = tt
    modules_in_part few (canons fs) before read = tt
    modules_in_part few (imports is) before read = tt
    modules_in_part few (exports es) before read = tt
