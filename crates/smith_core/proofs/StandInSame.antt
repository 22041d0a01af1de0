-- The bytes decide the module that stands for a generated one, up to the room of its lists: they decide its bytes, and
-- the rest.
use Rattle.std.proofs.Common.{◌≡◌, ℕ, suc, ◌+◌, ◌-◌, false, ◌&&◌, List, [], ◌∷◌, ◌++◌, map, length, take, drop, refl, sym, ap, ◌∙◌, subst, arith}
use Rattle.std.proofs.Common.{append-nil, append_assoc, length-append, nat_lt, Some, None}
use Rattle.std.proofs.lemmas.List.{drop_at}
use Rattle.std.specs.List.{AllByRecursion, slice_range}
use Rattle.std.specs.Prelude.{if◌then◌else◌}
use Rattle.smith_input.specs.Loops.{Loop, Never}
use Rattle.smith_input.proofs.Loops.{loop_all, loop_same, loop_map}
use Rattle.smith_format.specs.CoreReading.{ReadsFunction}
use Rattle.smith_format.specs.CoreTypes.{Function, core_function}
use Rattle.smith_format.specs.Shown.{shown_func}
use Rattle.smith_format.specs.Entities.{memory_type}
use Rattle.smith_format.specs.Limits.{configured, max_results}
use Rattle.smith_format.specs.Piece.{Piece, ◌⊕◌, bytes, u, each, many, sized}
use Rattle.smith_format.specs.declared.config.Config.{Config}
use Rattle.smith_format.specs.declared.types.MemoryType.{MemoryType}
use Rattle.smith_format.proofs.CoreReading.{function_unique, memory_unique}
use Rattle.smith_format.proofs.Piece.{left_nil}
use Rattle.std.proofs.lemmas.Bool.Decides.{nat_tests}
use Rattle.smith_core.specs.Module.{binary_order, contents, has_any, is_there, is_written, last, module_text, section, section_id}
use Rattle.smith_core.specs.Preamble.{core_preamble}
use Rattle.smith_core.specs.StandInText.{StandIn, listed, stand_in_text}
use Rattle.smith_core.specs.StandIn.{groups_from, HasTypesAndMemories, IsFunction, ReadsMemoryType, ReadsStandIn, ReadsSubType}
use Rattle.smith_core.specs.SubTypes.{composite, rec_type, sub_prefix, sub_type}
use Rattle.smith_core.specs.declared.module.parts.ModuleParts.{ModuleParts}
use Rattle.smith_core.specs.declared.module.sections.SectionKind.{SectionKind}
use Rattle.smith_core.specs.declared.module.sections.SectionKind.TheVariants as kind
use Rattle.smith_core.specs.declared.module.types.CompositeType.{CompositeType}
use Rattle.smith_core.specs.declared.module.types.CompositeType.TheVariants.{Func, Array, Struct}
use Rattle.smith_core.specs.declared.module.types.SubType.{SubType}
use Rattle.std.proofs.Math.Bool.{and-false}

-- the function type that a composite type is
abbrev pub as_function : CompositeType → Function
as_function (Func t) = shown_func t
as_function (Array t) = ([], [])
as_function (Struct ts) = ([], [])

abbrev pub function_at : SubType → Function
function_at t = as_function t.composite_type

pub as_function_is : (c : CompositeType) (f : Function) → IsFunction c f → as_function c ≡ f
as_function_is (Func t) f e = e
as_function_is (Array t) f e = absurd e
as_function_is (Struct ts) f e = absurd e

composite_is : (c : CompositeType) (f : Function) → IsFunction c f → composite c ≡ core_function (as_function c)
composite_is (Func t) f e = refl
composite_is (Array t) f e = absurd e
composite_is (Struct ts) f e = absurd e

abbrev pub IsPlain : SubType → Type 0
IsPlain t = sub_type t ≡ core_function (function_at t)

module _ (config : Config) where
  pub is_plain : (s : Unit {0}) (b : List ℕ) (t : SubType) (r : List ℕ) (z : Unit {0}) → ReadsSubType config s b t r z → IsPlain t
  is_plain s b t r z i =
      let c = composite_is t.composite_type i.function i.composite in
      let front : sub_type t ≡ bytes [] ⊕ core_function (function_at t) = λ k. sub_prefix (i.is_final k) (i.supertype k) ⊕ c k in
      front ∙ left_nil (core_function (function_at t))

  -- a function type of the loop, as it is shown
  abbrev pub ReadsShown : Unit {0} → List ℕ → Function → List ℕ → Unit {0} → Type 0
  ReadsShown s b f r z = ReadsFunction config.loop_bits (configured config) (max_results config) b f r

  pub shown_read : (s : Unit {0}) (b : List ℕ) (t : SubType) (r : List ℕ) (z : Unit {0}) → ReadsSubType config s b t r z → ReadsShown s b (function_at t) r z
  shown_read s b t r z i = subst (λ f. ReadsFunction config.loop_bits (configured config) (max_results config) b f r)
      (sym (as_function_is t.composite_type i.function i.composite)) i.reads

-- the types after others, each in a group by itself
one_group : (front ts : List SubType) (t : SubType) (at : ℕ) → length front ≡ at → rec_type (slice_range (front ++ t ∷ ts) at (at + 1)) ≡ sub_type t
one_group front ts t at e =
    let one : (at + 1) - at ≡ 1 = omega arith in
    let there : drop at (front ++ t ∷ ts) ≡ t ∷ ts = drop_at front (t ∷ ts) at e in
    ap (λ n. rec_type (take n (drop at (front ++ t ∷ ts)))) one ∙ ap (λ xs. rec_type (take 1 xs)) there

groups_plain : (front ts all : List SubType) (at : ℕ) → front ++ ts ≡ all → length front ≡ at → AllByRecursion IsPlain ts
    → each (λ g. rec_type (slice_range all g.0 g.1)) (groups_from at ts) ≡ each core_function (map function_at ts)
groups_plain front [] all at e n h = refl
groups_plain front (t ∷ ts) all at e n h =
    let first : rec_type (slice_range all at (at + 1)) ≡ core_function (function_at t) = ap (λ xs. rec_type (slice_range xs at (at + 1))) (sym e)
    ∙ (one_group front ts t at n ∙ h.0) in
    let more = groups_plain (front ++ t ∷ []) ts all (at + 1) (append_assoc front (t ∷ []) ts ∙ e) (omega (arith, n, length-append front (t ∷ []))) h.1 in
    λ i. first i ⊕ more i

groups_count : (at : ℕ) (ts : List SubType) → length (groups_from at ts) ≡ length (map function_at ts)
groups_count at [] = refl
groups_count at (t ∷ ts) = ap suc (groups_count (at + 1) ts)

pub any_map : {A B : Type 0} (f : A → B) (xs : List A) → has_any xs ≡ has_any (map f xs)
any_map f [] = refl
any_map f (x ∷ xs) = refl

any_length : {A : Type 0} (xs : List A) → nat_lt 0 (length xs) ≡ has_any xs
any_length [] = refl
any_length (x ∷ xs) = grind (arith, nat_tests)

last_all : {A : Type 0} (xs : List A) → last (length xs) xs ≡ xs
last_all xs = let none : length xs - length xs ≡ 0 = omega arith in ap (λ n. drop n xs) none

-- what is written of these types and memories
abbrev written : StandIn → SectionKind → Piece
written s kind.Types = listed 1 core_function s.types
written s kind.Memories = listed 5 memory_type s.memories
written s _ = bytes []

-- the two sections alone are left of all
two_sections : (types memories : Piece)
    → types ⊕ bytes [] ⊕ bytes [] ⊕ bytes [] ⊕ memories ⊕ bytes [] ⊕ bytes [] ⊕ bytes [] ⊕ bytes [] ⊕ bytes [] ⊕ bytes [] ⊕ bytes [] ⊕ bytes [] ⊕ bytes []
    ≡ types ⊕ memories
unfolding ◌⊕◌
two_sections None memories = refl
two_sections (Some a) None = refl
two_sections (Some a) (Some b) = ap (λ z. Some (a ++ z)) (append-nil b)

-- the types and memories of a module
abbrev pub shown_stand_in : ModuleParts → StandIn
shown_stand_in m = record { types = map function_at m.types.items; memories = m.memories.items }

module _ (m : ModuleParts) (h : HasTypesAndMemories m) (all : AllByRecursion IsPlain m.types.items) where
  -- a section that is not written
  not_written : (k : SectionKind) → is_written m k ≡ false → section m k ≡ bytes []
  not_written k e = ap (λ b. if b then sized (section_id k) (contents m k) else bytes []) e

  section_is : (k : SectionKind) → section m k ≡ written (shown_stand_in m) k
  section_is kind.Types =
      let ts : List SubType = m.types.items in
      let fs : List Function = map function_at ts in
      let is : m.should_encode_types ≡ has_any fs = h.encoded ∙ any_map function_at ts in
      let said : contents m kind.Types ≡ many core_function fs =
      ap (λ gs. many (λ g. rec_type (slice_range ts g.0 g.1)) gs) h.groups ∙ (λ i. u (groups_count 0 ts i) ⊕ groups_plain [] ts ts 0 refl refl all i) in
      λ i. if is i then sized 1 (said i) else bytes []
  section_is kind.Imports = not_written kind.Imports h.no_imports.0
  section_is kind.Functions = not_written kind.Functions (ap (λ n. nat_lt 0 n) h.no_functions.1)
  section_is kind.Tables = not_written kind.Tables (ap has_any h.no_tables.1)
  section_is kind.Memories =
      let ms : List MemoryType = m.memories.items in
      let said : contents m kind.Memories ≡ many memory_type ms = ap (λ n. many memory_type (last n ms)) h.memories ∙ ap (many memory_type) (last_all ms) in
      let is : nat_lt 0 m.num_defined_memories ≡ has_any ms = ap (λ n. nat_lt 0 n) h.memories ∙ any_length ms in
      λ i. if is i then sized 5 (said i) else bytes []
  section_is kind.Tags = not_written kind.Tags (ap (λ n. nat_lt 0 n) h.no_tags.1)
  section_is kind.Globals = not_written kind.Globals (ap has_any h.no_globals.0)
  section_is kind.Exports = not_written kind.Exports (ap has_any h.no_exports)
  section_is kind.Start = not_written kind.Start (ap is_there h.no_start)
  section_is kind.Elements = not_written kind.Elements (ap has_any h.no_elements)
  section_is kind.DataCount = not_written kind.DataCount (ap (λ xs. m.bulk_memory_enabled && has_any xs) h.no_data ∙ and-false m.bulk_memory_enabled)
  section_is kind.Code = not_written kind.Code (ap has_any h.no_code)
  section_is kind.Data = not_written kind.Data (ap has_any h.no_data)

  each_is : (ks : List SectionKind) → each (section m) ks ≡ each (written (shown_stand_in m)) ks
  each_is [] = refl
  each_is (k ∷ ks) = λ i. section_is k i ⊕ each_is ks i

  pub text_is : module_text m ≡ stand_in_text (shown_stand_in m)
  text_is = ap (λ p. bytes core_preamble ⊕ p)
      (each_is binary_order ∙ two_sections (listed 1 core_function (map function_at m.types.items)) (listed 5 memory_type m.memories.items))

-- The bytes decide the bytes of the module, and the rest.
pub stand_in_same : {config : Config} {b : List ℕ} {m n : ModuleParts} {r q : List ℕ} → ReadsStandIn config b m r → ReadsStandIn config b n q
    → (module_text m ≡ module_text n) × (r ≡ q)
stand_in_same {config} {b} {m} {n} {r} {q} x y =
    let F = ReadsShown config in
    let fs = loop_map function_at (shown_read config) 0 tt b m.types.items x.mid tt x.types in
    let gs = loop_map function_at (shown_read config) 0 tt b n.types.items y.mid tt y.types in
    let types = loop_same {Item = F} (λ s c v p t w e f. absurd e) (λ s c k v p t w e i. e) (λ s c f g v p t w i j. let d = function_unique i j in
    (d.0, d.1, refl)) 0 tt b (map function_at m.types.items) (map function_at n.types.items) x.mid y.mid tt tt fs gs in
    let M : List ℕ → Type 0 = λ z. Loop Never ReadsMemoryType config.loop_bits config.min_memories config.max_memories 0 tt z m.memories.items r tt in
    let memories = loop_same {Item = ReadsMemoryType} (λ s c v p t w e f. absurd e) (λ s c k v p t w e i. e)
    (λ s c f g v p t w i j. let d = memory_unique i j in (d.0, d.1, refl)) 0 tt y.mid m.memories.items n.memories.items r q tt tt
    (subst M types.1 x.memories) y.memories in
    let plain_m = loop_all IsPlain (is_plain config) 0 tt b m.types.items x.mid tt x.types in
    let plain_n = loop_all IsPlain (is_plain config) 0 tt b n.types.items y.mid tt y.types in
    let same : stand_in_text (shown_stand_in m) ≡ stand_in_text (shown_stand_in n) =
    λ i. stand_in_text (record { types = types.0 i; memories = memories.0 i }) in
    (text_is m x.parts plain_m ∙ (same ∙ sym (text_is n y.parts plain_n)), memories.1)
