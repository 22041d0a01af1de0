-- A module of the bytes of function types and memories within the limits is read from their script, and which bytes are one.
use Rattle.std.proofs.Common.{◌↔◌, Some, ◌≡◌, ℕ, suc, ◌+◌, ◌<◌, ◌≤◌, ◌^◌, true, List, [], ◌∷◌, ◌++◌, map, length, refl, sym, ap, ◌∙◌, subst, arith, min, None}
use Rattle.std.proofs.Common.{append_assoc}
use Rattle.std.specs.List.{AllByRecursion}
use Rattle.smith_input.specs.Loops.{Loop, Never}
use Rattle.smith_input.specs.Script.{AreBytes, script_loop, script_more}
use Rattle.smith_input.proofs.ScriptBytes.{small_join, small_none}
use Rattle.smith_input.proofs.Loops.{along_all, loop_all, loop_read}
use Rattle.smith_format.specs.CoreFormed.{FormedFunction, FormedMemory}
use Rattle.smith_format.specs.CoreScript.{script_function, script_memory}
use Rattle.smith_format.specs.CoreTypes.{Function}
use Rattle.smith_format.specs.Limits.{configured, max_results}
use Rattle.smith_format.specs.declared.config.Config.{Config}
use Rattle.smith_format.specs.declared.types.MemoryType.{MemoryType}
use Rattle.smith_format.proofs.CoreScript.{function_read, memory_read}
use Rattle.smith_format.proofs.ScriptBytes.{few_values}
use Rattle.smith_core.specs.Kept.{final_type, parts_of, vec_of}
use Rattle.smith_core.specs.Module.{module_text}
use Rattle.smith_core.specs.StandIn.{HasTypesAndMemories, IsFunction, ReadsMemoryType, ReadsStandIn, ReadsSubType}
use Rattle.smith_core.specs.StandInScript.{IsStandIn, script_stand_in}
use Rattle.smith_core.specs.StandInText.{StandIn, stand_in_text}
use Rattle.smith_core.specs.declared.module.parts.ModuleParts.{ModuleParts}
use Rattle.smith_core.specs.declared.module.types.SubType.{SubType}
use Rattle.smith_core.proofs.StandIn.{parts_listed}
use Rattle.smith_core.proofs.StandInMade.{few_results, small_stand_in, stand_in_made}
use Rattle.smith_core.proofs.StandInTold.{stand_in_few}
use Rattle.smith_core.proofs.StandInSame.{function_at, is_plain, text_is, IsPlain}

-- a script of what items show
script_shown : {A B : Type 0} (script : B → List ℕ) (f : A → B) (min max done : ℕ) (s : Unit {0}) (xs : List A)
    → script_loop (λ (u : Unit {0}) x. script (f x)) (λ u x. u) min max done s xs
    ≡ script_loop (λ (u : Unit {0}) y. script y) (λ u y. u) min max done s (map f xs)
script_shown script f min max done s [] = refl
script_shown script f min max done s (x ∷ xs) = ap (λ z. script_more min done ++ script (f x) ++ z) (script_shown script f min max (done + 1) s xs)

module _ (config : Config) where
  -- a function type as a final type with no supertype
  abbrev sub_of : (f : Function) → FormedFunction (configured config) (max_results config) f → SubType
  sub_of f h =
      let few : max_results config ≤ 20 = few_results config.multi_value_enabled in
      final_type (record { params = vec_of f.0 (omega (arith, h.few_params)); results = vec_of f.1 (omega (arith, h.few_results, few)) })

  abbrev sub_types : (fs : List Function) → AllByRecursion (FormedFunction (configured config) (max_results config)) fs → List SubType
  sub_types [] all = []
  sub_types (f ∷ fs) all = sub_of f all.0 ∷ sub_types fs all.1

  types_shown : (fs : List Function) (all : AllByRecursion (FormedFunction (configured config) (max_results config)) fs)
      → map function_at (sub_types fs all) ≡ fs
  types_shown [] all = refl
  types_shown (f ∷ fs) all = ap (λ gs. f ∷ gs) (types_shown fs all.1)

  types_count : (fs : List Function) (all : AllByRecursion (FormedFunction (configured config) (max_results config)) fs) → length (sub_types fs all) ≡ length fs
  types_count [] all = refl
  types_count (f ∷ fs) all = ap suc (types_count fs all.1)

  -- a type that is read from the script of what it shows
  abbrev IsReadable : SubType → Type 0
  IsReadable t =
      FormedFunction (configured config) (max_results config) (function_at t) × (t.is_final ≡ true) × (t.supertype ≡ None)
      × IsFunction t.composite_type (function_at t)

  types_readable : (fs : List Function) (all : AllByRecursion (FormedFunction (configured config) (max_results config)) fs)
      → AllByRecursion IsReadable (sub_types fs all)
  types_readable [] all = tt
  types_readable (f ∷ fs) all = ((all.0, refl, refl, refl), types_readable fs all.1)

  sub_type_read : (s : Unit {0}) (t : SubType) (rest : List ℕ) → IsReadable t
      → ReadsSubType config s (script_function (configured config) (max_results config) (function_at t) ++ rest) t rest s
  sub_type_read s t rest h =
      let few : length (configured config) ≤ 7 = few_values config in
      record {
        function = function_at t;
        reads = function_read (configured config) (max_results config) (function_at t) rest h.0 (omega (arith, few));
        is_final = h.1;
        supertype = h.2;
        composite = h.3;
      }

  types_read : (most : ℕ) (ts : List SubType) (rest : List ℕ) → AllByRecursion IsReadable ts → length ts ≤ most
      → Loop Never (ReadsSubType config) config.loop_bits 0 most 0 tt
      (script_loop (λ (u : Unit {0}) f. script_function (configured config) (max_results config) f) (λ u f. u) 0 most 0 tt (map function_at ts) ++ rest)
      ts rest tt
  types_read most ts rest all few =
      let script : Function → List ℕ = λ f. script_function (configured config) (max_results config) f in
      let said = loop_read {Ends = Never} {Item = ReadsSubType config} {bits = config.loop_bits} {min = 0} {max = most}
      (λ (u : Unit {0}) t. script (function_at t)) (λ u t. u)
      (λ u t. IsReadable t) sub_type_read ts 0 tt rest (along_all IsReadable (λ u t. u) tt ts all) (omega arith) (omega (arith, few)) in
      subst (λ b. Loop Never (ReadsSubType config) config.loop_bits 0 most 0 tt (b ++ rest) ts rest tt) (script_shown script function_at 0 most 0 tt ts) said

  memories_read : (least most : ℕ) (ms : List MemoryType) (rest : List ℕ) → AllByRecursion FormedMemory ms → least ≤ length ms → length ms ≤ most
      → Loop Never ReadsMemoryType config.loop_bits least most 0 tt
      (script_loop (λ (u : Unit {0}) m. script_memory m) (λ u m. u) least most 0 tt ms ++ rest) ms rest tt
  memories_read least most ms rest all enough few =
      loop_read {Ends = Never} {Item = ReadsMemoryType} {bits = config.loop_bits} {min = least} {max = most} (λ (u : Unit {0}) m. script_memory m) (λ u m. u)
      (λ u m. FormedMemory m)
      (λ u m rest h. memory_read m rest h) ms 0 tt rest (along_all FormedMemory (λ u m. u) tt ms all) (omega (arith, enough)) (omega (arith, few))

  pub stand_in_read : (s : StandIn) → IsStandIn config s → length s.memories < 2 ^ 63 → (rest : List ℕ)
      → (m : ModuleParts) × ReadsStandIn config (script_stand_in config s ++ rest) m rest × (module_text m ≡ stand_in_text s)
  stand_in_read s h few rest =
      let most : ℕ = min config.max_types 20 in
      let ts : List SubType = sub_types s.types h.types in
      let ms : List MemoryType = s.memories in
      let count : length ts ≤ most = omega (arith, h.few_types, types_count s.types h.types) in
      let few_types : length ts < 2 ^ 63 = omega (arith, count) in
      let m : ModuleParts = parts_of config.bulk_memory_enabled ts ms few_types few in
      let shown : map function_at ts ≡ s.types = types_shown s.types h.types in
      let a : List ℕ = script_loop (λ (u : Unit {0}) f. script_function (configured config) (max_results config) f) (λ u f. u) 0 most 0 tt s.types in
      let b : List ℕ = script_loop (λ (u : Unit {0}) m. script_memory m) (λ u m. u) config.min_memories config.max_memories 0 tt ms in
      let types : Loop Never (ReadsSubType config) config.loop_bits 0 most 0 tt (a ++ (b ++ rest)) ts (b ++ rest) tt =
      subst
      (λ fs. Loop Never (ReadsSubType config) config.loop_bits 0 most 0 tt
      (script_loop (λ (u : Unit {0}) f. script_function (configured config) (max_results config) f) (λ u f. u) 0 most 0 tt fs ++ (b ++ rest)) ts (b ++ rest) tt)
      shown (types_read most ts (b ++ rest) (types_readable s.types h.types) count) in
      let parts : HasTypesAndMemories m = parts_listed config.bulk_memory_enabled ts ms few_types few in
      let plain : AllByRecursion IsPlain ts = loop_all IsPlain (is_plain config) 0 tt (a ++ (b ++ rest)) ts (b ++ rest) tt types in (
        m,
        record {
          mid = b ++ rest;
          ordered = omega (arith, h.enough_memories, h.few_memories);
          types = subst (λ z. Loop Never (ReadsSubType config) config.loop_bits 0 most 0 tt z ts (b ++ rest) tt) (sym (append_assoc a b rest)) types;
          memories = memories_read config.min_memories config.max_memories ms rest h.memories h.enough_memories h.few_memories;
          bulk_memory = refl;
          parts = parts;
        },
        text_is m parts plain ∙ ap (λ fs. stand_in_text (record { types = fs; memories = ms })) shown,
      )

-- What has bytes is read from its script.
pub text_read : (config : Config) (s : StandIn) (b : List ℕ) → IsStandIn config s → stand_in_text s ≡ Some b → (rest : List ℕ)
    → (m : ModuleParts) × ReadsStandIn config (script_stand_in config s ++ rest) m rest × (module_text m ≡ Some b)
text_read config s b is e rest =
    let r = stand_in_read config s is (stand_in_few s b e) rest in
    (r.0, r.1, r.2 ∙ e)

pub exact : (config : Config) (b : List ℕ)
    → ((input rest : List ℕ) × AreBytes input × (m : ModuleParts) × ReadsStandIn config input m rest × (module_text m ≡ Some b))
    ↔ ((s : StandIn) × IsStandIn config s × (stand_in_text s ≡ Some b))
exact config b = (
  λ (input, rest, all, m, reads, text).
      let made = stand_in_made config input m rest reads in
      (made.0, made.1, sym made.2 ∙ text),
  λ (s, is, text).
      let r = text_read config s b is text [] in
      (script_stand_in config s ++ [], [], (small_join (small_stand_in config s is) small_none).are, r.0, r.1, r.2),
)
