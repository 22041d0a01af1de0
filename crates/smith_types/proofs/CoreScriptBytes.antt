-- The scripts of core types are bytes.
use Rattle.std.proofs.Common.{◌≡◌, ℕ, ◌+◌, ◌-◌, ◌<◌, ◌≤◌, ◌^◌, Bool, true, false, nat_eq, nat_le, nat_lt, if◌then◌else◌, List, [], ◌∷◌, ◌++◌, length}
use Rattle.std.proofs.Common.{refl, sym, subst, arith, Option, None, Some}
use Rattle.std.proofs.lemmas.Bool.Decides.{nat_tests, Decides-eqb}
use Rattle.std.proofs.lemmas.Option.{slice_get_within}
use Rattle.std.specs.Prelude.{IfSome, codes, slice_get}
use Rattle.smith_input.specs.Loops.{Along}
use Rattle.smith_input.specs.NameScript.{script_new_text}
use Rattle.smith_input.specs.Script.{pick, script_among, script_loop}
use Rattle.smith_input.proofs.Offered.{offers_few}
use Rattle.smith_input.proofs.ScriptBytes.{Small, small_byte, small_few, small_found, small_if, small_join, small_loop, small_more, small_none, small_pick}
use Rattle.smith_input.proofs.ScriptBytes.{small_new_text, small_text}
use Rattle.smith_input.proofs.Utf8Bytes.{utf8_bytes}
use Rattle.smith_format.proofs.ScriptBytes.{small_function, small_limits, small_value}
use Rattle.smith_format.specs.CoreFormed.{FormedLimits, FormedMemory}
use Rattle.smith_format.specs.CoreTypes.{Function}
use Rattle.smith_format.specs.Entities.{kind_of}
use Rattle.smith_format.specs.contracts.types.ExportKindPartialEq.TheImpl.{ghosts as kinds}
use Rattle.smith_format.specs.contracts.types.RefTypePartialEq.TheImpl.{ghosts as references}
use Rattle.smith_format.specs.declared.config.Config.{Config}
use Rattle.smith_format.specs.declared.types.EntityType.{EntityType}
use Rattle.smith_format.specs.declared.types.EntityType.TheVariants.{Func, Table, Memory, Global, Tag}
use Rattle.smith_format.specs.declared.types.MemoryType.{MemoryType}
use Rattle.smith_format.specs.declared.types.RefType.TheVariants.{FuncRef, ExternRef}
use Rattle.smith_syntax.specs.CoreLimits.{CoreLimits, ModuleLimits}
use Rattle.smith_syntax.specs.Entries.{CoreEntry, ModuleDecl, core_func, core_module, imports, declares, aliases, exports}
use Rattle.smith_syntax.specs.ModuleTypes.{after_front, module_export_names, free, is_tag_type, names_from, realloc}
use Rattle.smith_syntax.specs.Scope.{Scope}
use Rattle.smith_syntax.specs.Places.{is_core_func, places}
use Rattle.smith_syntax.specs.WellFormed.{FormedCore, FormedDecls, FormedEntity, core_size}
use Rattle.smith_scope.proofs.Places.{place_found}
use Rattle.smith_scope.proofs.Places.{length-places}
use Rattle.smith_tree.proofs.FrontFound.{Fronted, fronted, function_decls, memory_decls, whole_front}
use Rattle.smith_tree.specs.ModuleScript.{alias_place, front_before, may_declare, script_bit, script_decl, script_entity}
use Rattle.smith_tree.specs.ModuleScript.{script_entity_of, script_front, script_item, script_line, script_module}
use Rattle.smith_tree.specs.CoreTypeNeeds.{core_need}
use Rattle.smith_tree.specs.CoreTypeOffers.{Declared, alias_choices, entity_kinds, item_offers, kind_offers, module_items, with_decl}
use Rattle.smith_tree.specs.CoreTypeScript.{script_core}
use Rattle.smith_tree.specs.ReadableCoreTypes.{AreReadableModuleDecls, IsReadableCore, IsReadableNewText}
use Rattle.smith_tree.specs.contracts.choices.ModuleItemPartialEq.TheImpl.{ghosts as items}
use Rattle.smith_tree.specs.declared.choices.ModuleItem.{ModuleItem}
use Rattle.smith_tree.specs.declared.choices.ModuleItem.TheVariants as item
use Rattle.smith_types.proofs.CoreScript.{begun, behind_sayable, lasting}
use Rattle.smith_types.proofs.FrontScript.{front_formed, line_absent, line_stands}
use Rattle.smith_types.proofs.MakingCore.{choices_count}
use Rattle.smith_types.proofs.ModuleFronts.{front_state}
use Rattle.smith_types.proofs.ModuleScript.{IsSayable, alias_at}

-- a choice of an item by its place among the items that pass a test
pub small_place : {A : Type 0} (test : A → Bool) (xs : List A) (i : ℕ) (x : A) → length xs ≤ 2 ^ 64 → slice_get xs i ≡ Some x → test x ≡ true
    → Small (script_among nat_eq (places test 0 xs) i)
small_place test xs i x few stands passes =
    let at = place_found test xs i x stands passes in
    small_found nat_eq Decides-eqb (places test 0 xs) at.0 i (omega (arith, few, length-places test 0 xs)) at.1

-- a loop of items that can be said where they are
pub small_said : {S A : Type 0} (script : S → A → List ℕ) (next : S → A → S) (Said : S → A → Type 0) → ((s : S) (x : A) → Said s x → Small (script s x))
    → (min max done : ℕ) (s : S) (xs : List A) → Along Said next s xs → Small (script_loop script next min max done s xs)
small_said {S} {A} script next Said one min max done s xs all = small_loop script next min max done s xs (each s xs all)
  where
    each : (s : S) (xs : List A) → Along Said next s xs → Along (λ t x. Small (script t x)) next s xs
    each s [] all = tt
    each s (x ∷ xs) all = (one s x all.0, each (next s x) xs all.1)

-- Function types.

-- Entities.

small_bit : (b : Bool) → Small (script_bit b)
small_bit b = small_if b (small_more 1 (omega arith) small_none) (small_more 0 (omega arith) small_none)

module _ (config : Config) (s : Declared) (few : length s.own ≤ 2 ^ 64) where
  small_entity_of : (e : EntityType) → FormedEntity s.own e → Small (script_entity_of config s e)
  small_entity_of (Func i) (f, at) = small_place (λ x. true) s.own i f few at refl
  small_entity_of (Table t) f =
      small_join (small_if config.reference_types_enabled (small_few references.eq (FuncRef ∷ ExternRef ∷ []) t.element_type (omega arith)) small_none)
      (small_limits t.minimum t.maximum f.limits)
  small_entity_of (Memory m) f = small_limits m.minimum m.maximum f.limits
  small_entity_of (Global g) f = small_join (small_value config g.val_type) (small_bit g.mutable)
  small_entity_of (Tag t) (f, at, is) = small_place is_tag_type s.own t.func_type_idx f few at is

  small_entity : (e : EntityType) → FormedEntity s.own e → Small (script_entity config s e)
  small_entity e f =
      let count = offers_few (kind_offers config s) in
      small_join (small_few kinds.eq (entity_kinds config s) (kind_of e) (omega (arith, count))) (small_entity_of e f)

-- Declarations.

small_name : (config : Config) → config.max_name_length < 2 ^ 64 → (names : List (List ℕ)) (name : List ℕ) → IsReadableNewText config names name
    → Small (script_new_text config.max_name_length (length names) name)
small_name config short names name (u, made) = small_new_text config.max_name_length names name (omega (arith, short)) (utf8_bytes name u) made

module _ (config : Config) (around : Scope) where
  small_item : (s : Declared) (i : ModuleItem) → Small (script_item config around s i)
  small_item s i =
      let count = offers_few (item_offers config around s) in
      small_few items.eq (module_items config around s) i (omega (arith, count))

  small_decl : (s : Declared) (d : ModuleDecl) → IsSayable config around s d → Small (script_decl config around s d)
  small_decl s (imports from name e) h =
      small_join (small_item s item.Import)
      (small_join (small_text config.max_name_length from (let short = h.names in omega (arith, short)) h.text.0.0 h.text.0.1)
      (small_join (small_name config h.names (names_from from s.decls) name h.text.1)
      (small_entity config s (let few = h.few in omega (arith, few)) e h.formed)))
  small_decl s (exports name e) h =
      small_join (small_item s item.Export)
      (small_join (small_name config h.names (module_export_names s.decls) name h.text)
      (small_entity config s (let few = h.few in omega (arith, few)) e h.formed))
  small_decl s (declares f) h = small_join (small_item s item.Type) (small_function config f)
  small_decl s (aliases count i) h =
      let cs : List (ℕ × ℕ) = alias_choices around s in
      let within : alias_place around count i < length cs =
      slice_get_within cs (alias_place around count i) (count, i) (alias_at around s count i h.formed.0 h.formed.1) in
      let many : length cs ≤ 2 ^ 64 = omega (arith, h.few, choices_count around s.own, length-places is_core_func 0 around.core_types) in
      small_join (small_item s item.Alias) (small_pick (length cs) (alias_place around count i) many within)

-- What the canonical ABI asks.

small_absent : (may : Bool) (ds behind : List ModuleDecl) → ds ≡ behind → Small (script_line may ds behind)
small_absent may ds behind e = subst Small (sym (line_absent may ds behind e)) (small_if may (small_byte 100 99 (omega arith) (omega arith)) small_none)

small_memory_line : (may : Bool) (m : Option MemoryType) (ds behind : List ModuleDecl) → ds ≡ memory_decls m ++ behind
    → IfSome m (λ m. FormedLimits m.minimum m.maximum) → Small (script_line may ds behind)
small_memory_line may None ds behind e f = small_absent may ds behind e
small_memory_line may (Some m) ds behind e f =
    subst Small (sym (line_stands may ds (exports (codes "memory") (Memory m)) [] behind e))
    (small_join (small_byte 100 0 (omega arith) (omega arith)) (small_join (small_limits m.minimum m.maximum f) small_none))

small_function_line : (may : Bool) (name : List ℕ) (f : Function) (i : ℕ) (b : Bool) (ds behind : List ModuleDecl)
    → ds ≡ function_decls name f i b ++ behind → Small (script_line may ds behind)
small_function_line may name f i false ds behind e = small_absent may ds behind e
small_function_line may name f i true ds behind e =
    subst Small (sym (line_stands may ds (declares f) (exports name (Func i) ∷ []) behind e))
    (small_join (small_byte 100 0 (omega arith) (omega arith)) small_none)

small_front : (config : Config) (fuel : ℕ) {ds no_memory no_realloc no_free : List ModuleDecl} (x : Fronted ds no_memory no_realloc no_free)
    → IfSome x.memory (λ m. FormedLimits m.minimum m.maximum) → Small (script_front config fuel ds no_memory no_realloc no_free)
small_front config fuel {ds} {no_memory} {no_realloc} {no_free} x f =
    small_join (small_memory_line (nat_lt 0 config.max_memories) x.memory ds no_memory x.first f)
    (small_join (small_function_line (may_declare config (front_before fuel ds no_memory)) _ realloc 0 x.reallocs no_memory no_realloc x.second)
    (small_function_line (may_declare config (front_before fuel ds no_realloc)) _ free (if x.reallocs then 1 else 0) x.frees no_realloc no_free x.third))

memory_limits : (m : Option MemoryType) → IfSome m FormedMemory → IfSome m (λ m. FormedLimits m.minimum m.maximum)
memory_limits None f = tt
memory_limits (Some m) f = f.limits

-- Core types.
module _ (config : Config) (around : Scope) where
  small_module : (fuel : ℕ) (ds : List ModuleDecl) → FormedCore (core_module ds) around.core_types → ModuleLimits config ds
      → IsReadableCore config (core_module ds) → core_size (core_module ds) < fuel → length around.core_types ≤ 2 ^ 63 → config.max_name_length < 2 ^ 64
      → Small (script_module config around fuel ds)
  small_module fuel ds formed limits texts lasts few short =
      let x = fronted ds in
      let more : List ModuleDecl = after_front ds in
      let start : Declared = front_state fuel x.memory x.reallocs x.frees in
      let ready = front_formed around.core_types x.memory x.reallocs x.frees more (subst (FormedDecls around.core_types []) (whole_front x) formed.0) in
      small_join (small_front config fuel x (memory_limits x.memory ready.0))
      (subst (λ s. Small (script_loop (script_decl config around) (with_decl around.core_types) 0 100 0 s more)) (sym (begun config around fuel ds))
      (small_said (script_decl config around) (with_decl around.core_types) (IsSayable config around) (small_decl config around) 0 100 0 start more
      (behind_sayable config around fuel ds formed limits texts lasts few short)))

  small_lasting : (fuel : ℕ) (ds : List ModuleDecl) → FormedCore (core_module ds) around.core_types → ModuleLimits config ds
      → IsReadableCore config (core_module ds) → core_need (core_module ds) ≤ fuel → length around.core_types ≤ 2 ^ 63 → config.max_name_length < 2 ^ 64
      → (b : Bool) → nat_le 2 fuel ≡ b
      → Small (if b then pick 2 1 ++ script_module config around (fuel - 1) ds else [])
  small_lasting fuel ds formed limits texts need few short true e =
      let some : 2 ≤ fuel = grind (arith, nat_tests) in
      let lasts : core_size (core_module ds) + 2 ≤ fuel = lasting config around fuel ds need some in
      small_join (small_byte 2 1 (omega arith) (omega arith)) (small_module (fuel - 1) ds formed limits texts (omega (arith, lasts)) few short)
  small_lasting fuel ds formed limits texts need few short false e = small_none

  -- The script of a core type that is well formed and within the limits, whose names can be read and for which the fuel lasts.
  pub small_core : (fuel : ℕ) (e : CoreEntry) → FormedCore e around.core_types → CoreLimits config e → IsReadableCore config e → core_need e ≤ fuel
      → length around.core_types ≤ 2 ^ 63 → config.max_name_length < 2 ^ 64 → Small (script_core config around fuel e)
  small_core fuel (core_func f) formed limits texts need few short = small_join (small_byte 2 0 (omega arith) (omega arith)) (small_function config f)
  small_core fuel (core_module ds) formed limits texts need few short = small_lasting fuel ds formed limits texts need few short (nat_le 2 fuel) refl
