-- What a module type begins with for the canonical ABI is read from its script.
use Rattle.std.proofs.Common.{◌≡◌, ℕ, ◌-◌, ◌<◌, ◌≤◌, Bool, true, false, List, [], ◌∷◌, ◌++◌, length, take, refl, sym, ap, ◌∙◌, subst, arith, append_assoc}
use Rattle.std.proofs.Common.{append-nil, length-append, nat_lt}
use Rattle.std.proofs.lemmas.Bool.{false≢true, lt-ltb}
use Rattle.std.proofs.lemmas.Bool.Decides.{nat_tests}
use Rattle.std.proofs.Math.Seq.{take-append_seam}
use Rattle.std.specs.List.{flat_map}
use Rattle.std.specs.Prelude.{Option, Some, None, IfSome, codes, if◌then◌else◌}
use Rattle.smith_input.specs.Script.{pick}
use Rattle.smith_input.proofs.Picks.{reads-pick}
use Rattle.smith_format.specs.CoreFormed.{FormedMemory}
use Rattle.smith_format.specs.CoreReading.{ReadsMemory}
use Rattle.smith_format.specs.CoreScript.{script_limits}
use Rattle.smith_format.specs.CoreTypes.{Function}
use Rattle.smith_format.specs.declared.config.Config.{Config}
use Rattle.smith_format.specs.declared.types.EntityType.TheVariants.{Func, Memory}
use Rattle.smith_format.specs.declared.types.MemoryType.{MemoryType}
use Rattle.smith_syntax.specs.CoreLimits.{ModuleLimits}
use Rattle.smith_syntax.specs.Entries.{CoreEntry, ModuleDecl, declares, exports}
use Rattle.smith_syntax.specs.ModuleTypes.{entities_of, free, realloc, type_count}
use Rattle.smith_syntax.specs.WellFormed.{FormedDecls}
use Rattle.smith_tree.proofs.FrontFound.{Fronted, first_line, first_lines, front_decls, function_decls, in_front_is, memory_decls, whole_front}
use Rattle.smith_types.specs.MadeCore.{FunctionLine, MemoryLine, ReadsFront, ReadsFunctionLine, ReadsLine, declined, not_allowed, taken}
use Rattle.smith_tree.specs.CoreTypeOffers.{Declared, undeclared, with_front}
use Rattle.smith_tree.specs.ModuleScript.{front_before, in_front, may_declare, script_asked, script_front, script_line}
use Rattle.smith_types.proofs.ModuleFronts.{HasRoomFor, free_state, front_own, front_state, line_allowed}
use Rattle.smith_types.proofs.ModuleFronts.{realloc_state, with_line}
use Rattle.smith_format.proofs.CoreScript.{limits_read}

-- the states

state_is : (fuel : ℕ) (m : Option MemoryType) (r f : Bool) → with_front (undeclared fuel) (front_decls m r f) ≡ front_state fuel m r f
state_is fuel None false false = refl
state_is fuel None false true = refl
state_is fuel None true false = refl
state_is fuel None true true = refl
state_is fuel (Some m) false false = refl
state_is fuel (Some m) false true = refl
state_is fuel (Some m) true false = refl
state_is fuel (Some m) true true = refl

pub front_before_is : (fuel : ℕ) (m : Option MemoryType) (r f : Bool) (ds behind : List ModuleDecl) → ds ≡ front_decls m r f ++ behind
    → front_before fuel ds behind ≡ front_state fuel m r f
front_before_is fuel m r f ds behind e = ap (with_front (undeclared fuel)) (in_front_is ds (front_decls m r f) behind e) ∙ state_is fuel m r f

-- lines

abbrev pub line_declined : Bool → List ℕ
line_declined may = if may then pick 100 99 else []

pub line_absent : (may : Bool) (ds behind : List ModuleDecl) → ds ≡ behind → script_line may ds behind ≡ line_declined may
line_absent may ds behind e =
    let long : length ds ≡ length behind = ap length e in
    let none : nat_lt (length behind) (length ds) ≡ false = grind (arith, nat_tests) in
    ap (λ b. if b then pick 100 0 ++ flat_map script_asked (entities_of (in_front ds behind)) else line_declined may) none

pub line_stands : (may : Bool) (ds : List ModuleDecl) (d : ModuleDecl) (front behind : List ModuleDecl) → ds ≡ (d ∷ front) ++ behind
    → script_line may ds behind ≡ pick 100 0 ++ flat_map script_asked (entities_of (d ∷ front))
line_stands may ds d front behind e =
    let long = ap length e ∙ length-append (d ∷ front) behind in
    let some : nat_lt (length behind) (length ds) ≡ true = lt-ltb (length behind) (length ds) (omega (arith, long)) in
    ap (λ b. if b then pick 100 0 ++ flat_map script_asked (entities_of (in_front ds behind)) else line_declined may) some
    ∙ ap (λ z. pick 100 0 ++ flat_map script_asked (entities_of z)) (in_front_is ds (d ∷ front) behind e)

declined_read : (may : Bool) (Line : List ℕ → List ModuleDecl → List ℕ → Type 0) (s : Declared) (rest : List ℕ)
    → ReadsLine may Line s (line_declined may ++ rest) s rest
declined_read true Line s rest = declined refl (reads-pick 100 99 rest (omega arith) (omega arith)) (omega arith) refl
declined_read false Line s rest = not_allowed refl refl

memory_line : (config : Config) (fuel : ℕ) (m : Option MemoryType) (ds behind : List ModuleDecl) (rest : List ℕ) → ds ≡ memory_decls m ++ behind
    → IfSome m (λ m. FormedMemory m × (0 < config.max_memories))
    → ReadsLine (nat_lt 0 config.max_memories) MemoryLine (undeclared fuel) (script_line (nat_lt 0 config.max_memories) ds behind ++ rest)
    (front_state fuel m false false) rest
memory_line config fuel None ds behind rest e h =
    let may : Bool = nat_lt 0 config.max_memories in
    let P : List ℕ → Type 0 = λ z. ReadsLine may MemoryLine (undeclared fuel) (z ++ rest) (undeclared fuel) rest in
    subst P (sym (line_absent may ds behind e)) (declined_read may MemoryLine (undeclared fuel) rest)
memory_line config fuel (Some m) ds behind rest e h =
    let may : Bool = nat_lt 0 config.max_memories in
    let said : List ℕ = script_limits m.minimum m.maximum in
    let same : script_line may ds behind ++ rest ≡ pick 100 0 ++ (said ++ rest) =
    ap (λ z. z ++ rest) (line_stands may ds (exports (codes "memory") (Memory m)) [] behind e ∙ ap (λ z. pick 100 0 ++ z) (append-nil said))
    ∙ append_assoc (pick 100 0) said rest in
    let reads : ReadsMemory (said ++ rest) m rest =
    record { limits = limits_read m.minimum m.maximum rest h.0.limits; shared = h.0.shared; memory64 = h.0.memory64 } in
    let P : List ℕ → Type 0 = λ z. ReadsLine may MemoryLine (undeclared fuel) z (front_state fuel (Some m) false false) rest in
    let choice = reads-pick 100 0 (said ++ rest) (omega arith) (omega arith) in
    subst P (sym same) (taken (lt-ltb 0 config.max_memories h.1) choice (omega arith) (m, reads, refl) refl)

function_line : (may : Bool) (name : List ℕ) (f : Function) (s : Declared) (b : Bool) (ds behind : List ModuleDecl) (rest : List ℕ)
    → ds ≡ function_decls name f (length s.own) b ++ behind → (b ≡ true → may ≡ true)
    → ReadsLine may (FunctionLine name f s) s (script_line may ds behind ++ rest)
    (with_line s name f b) rest
function_line may name f s true ds behind rest e h =
    let same : script_line may ds behind ++ rest ≡ pick 100 0 ++ rest =
    ap (λ z. z ++ rest) (line_stands may ds (declares f) (exports name (Func (length s.own)) ∷ []) behind e ∙ append-nil (pick 100 0)) in
    let P : List ℕ → Type 0 = λ z. ReadsLine may (FunctionLine name f s) s z (with_front s (function_decls name f (length s.own) true)) rest in
    subst P (sym same) (taken (h refl) (reads-pick 100 0 rest (omega arith) (omega arith)) (omega arith) (refl, refl) refl)
function_line may name f s false ds behind rest e h =
    let P : List ℕ → Type 0 = λ z. ReadsLine may (FunctionLine name f s) s (z ++ rest) s rest in
    subst P (sym (line_absent may ds behind e)) (declined_read may (FunctionLine name f s) s rest)

-- what the canonical ABI asks

module _ (config : Config) (fuel : ℕ) where
  own_length : (r : Bool) → (if r then 1 else 0) ≡ length (front_own r false)
  own_length true = refl
  own_length false = refl

  -- What the canonical ABI asks is read from its script.
  pub front_read : {ds no_memory no_realloc no_free : List ModuleDecl} (x : Fronted ds no_memory no_realloc no_free) (rest : List ℕ)
      → IfSome x.memory (λ m. FormedMemory m × (0 < config.max_memories))
      → HasRoomFor config 0 x.reallocs → HasRoomFor config (length (front_own x.reallocs false)) x.frees
      → ReadsFront config (script_front config fuel ds no_memory no_realloc no_free ++ rest) fuel (front_state fuel x.memory x.reallocs x.frees) rest
  front_read {ds} {no_memory} {no_realloc} {no_free} x rest has_memory has_realloc has_free =
      let m : Option MemoryType = x.memory in
      let r : Bool = x.reallocs in
      let f : Bool = x.frees in
      let s : Declared = front_state fuel m false false in
      let t : Declared = front_state fuel m r false in
      let u : Declared = front_state fuel m r f in
      let a : List ℕ = script_line (nat_lt 0 config.max_memories) ds no_memory in
      let b : List ℕ = script_line (may_declare config s) no_memory no_realloc in
      let c : List ℕ = script_line (may_declare config t) no_realloc no_free in
      let last : List ℕ = script_line (may_declare config (front_before fuel ds no_realloc)) no_realloc no_free in
      let same : script_front config fuel ds no_memory no_realloc no_free ≡ a ++ (b ++ c) =
      ap (λ z. a ++ (script_line (may_declare config z) no_memory no_realloc ++ last)) (front_before_is fuel m false false ds no_memory (first_line x))
      ∙ ap (λ z. a ++ (b ++ script_line (may_declare config z) no_realloc no_free)) (front_before_is fuel m r false ds no_realloc (first_lines x)) in
      let whole : script_front config fuel ds no_memory no_realloc no_free ++ rest ≡ a ++ (b ++ (c ++ rest)) =
      ap (λ z. z ++ rest) same ∙ (append_assoc a (b ++ c) rest ∙ ap (λ z. a ++ z) (append_assoc b c rest)) in
      let third : no_realloc ≡ function_decls (codes "canonical_abi_free") free (length (front_own r false)) f ++ no_free =
      x.third ∙ ap (λ n. function_decls (codes "canonical_abi_free") free n f ++ no_free) (own_length r) in
      let reallocs = function_line (may_declare config s) (codes "canonical_abi_realloc") realloc s r no_memory no_realloc (c ++ rest) x.second
      (line_allowed config fuel m false r has_realloc) in
      let frees = function_line (may_declare config t) (codes "canonical_abi_free") free t f no_realloc no_free rest third
      (line_allowed config fuel m r f has_free) in
      subst (λ z. ReadsFront config z fuel u rest) (sym whole) (record {
        with_memory = s;
        after_memory = b ++ (c ++ rest);
        memory = memory_line config fuel m ds no_memory (b ++ (c ++ rest)) x.first has_memory;
        with_realloc = t;
        after_realloc = c ++ rest;
        reallocs = subst (λ z. ReadsFunctionLine config (codes "canonical_abi_realloc") realloc s (b ++ (c ++ rest)) z (c ++ rest))
            (realloc_state fuel m r) reallocs;
        frees = subst (λ z. ReadsFunctionLine config (codes "canonical_abi_free") free t (c ++ rest) z rest) (free_state fuel m r f) frees;
      })

-- what is in front is well formed and within the limits

pub front_few : (m : Option MemoryType) (r f : Bool) → length (front_decls m r f) ≤ 5
front_few None false false = omega arith
front_few None false true = omega arith
front_few None true false = omega arith
front_few None true true = omega arith
front_few (Some m) false false = omega arith
front_few (Some m) false true = omega arith
front_few (Some m) true false = omega arith
front_few (Some m) true true = omega arith

pub front_types : (m : Option MemoryType) (r f : Bool) → type_count (front_decls m r f) ≡ length (front_own r f)
front_types None false false = refl
front_types None false true = refl
front_types None true false = refl
front_types None true true = refl
front_types (Some m) false false = refl
front_types (Some m) false true = refl
front_types (Some m) true false = refl
front_types (Some m) true true = refl

pub front_formed : (around : List CoreEntry) (m : Option MemoryType) (r f : Bool) (more : List ModuleDecl) → FormedDecls around [] (front_decls m r f ++ more)
    → IfSome m FormedMemory × FormedDecls around (front_own r f) more
front_formed around None false false more h = (tt, h)
front_formed around None false true more h = (tt, h.1.1)
front_formed around None true false more h = (tt, h.1.1)
front_formed around None true true more h = (tt, h.1.1.1.1)
front_formed around (Some m) false false more h = (h.0, h.1)
front_formed around (Some m) false true more h = (h.0, h.1.1.1)
front_formed around (Some m) true false more h = (h.0, h.1.1.1)
front_formed around (Some m) true true more h = (h.0, h.1.1.1.1.1)

module _ (config : Config) where
  allowed_memory : (m : Option MemoryType) (r f : Bool) (more : List ModuleDecl) → ModuleLimits config (front_decls m r f ++ more) → IfSome m FormedMemory
      → IfSome m (λ m. FormedMemory m × (0 < config.max_memories))
  allowed_memory None r f more limits formed = tt
  allowed_memory (Some m) r f more limits formed = (formed, omega (arith, limits.memories))

  allowed_realloc : (m : Option MemoryType) (r f : Bool) (more : List ModuleDecl) → ModuleLimits config (front_decls m r f ++ more) → HasRoomFor config 0 r
  allowed_realloc m false f more limits e = absurd (false≢true e)
  allowed_realloc None true f more limits e = (omega (arith, limits.funcs), omega (arith, limits.types))
  allowed_realloc (Some m) true f more limits e = (omega (arith, limits.funcs), omega (arith, limits.types))

  allowed_free : (m : Option MemoryType) (r f : Bool) (more : List ModuleDecl) → ModuleLimits config (front_decls m r f ++ more)
      → HasRoomFor config (length (front_own r false)) f
  allowed_free m r false more limits e = absurd (false≢true e)
  allowed_free None false true more limits e = (omega (arith, limits.funcs), omega (arith, limits.types))
  allowed_free None true true more limits e = (omega (arith, limits.funcs), omega (arith, limits.types))
  allowed_free (Some m) false true more limits e = (omega (arith, limits.funcs), omega (arith, limits.types))
  allowed_free (Some m) true true more limits e = (omega (arith, limits.funcs), omega (arith, limits.types))

  -- What the canonical ABI asks is read in a module type that is well formed and within the limits.
  pub asked_read : (around : List CoreEntry) (fuel : ℕ) {ds no_memory no_realloc no_free : List ModuleDecl} (x : Fronted ds no_memory no_realloc no_free)
      (rest : List ℕ) → FormedDecls around [] ds → ModuleLimits config ds
      → ReadsFront config (script_front config fuel ds no_memory no_realloc no_free ++ rest) fuel (front_state fuel x.memory x.reallocs x.frees) rest
  asked_read around fuel {no_free = no_free} x rest formed limits =
      let whole = whole_front x in
      let ready = front_formed around x.memory x.reallocs x.frees no_free (subst (FormedDecls around []) whole formed) in
      let within = subst (ModuleLimits config) whole limits in
      front_read config fuel x rest (allowed_memory x.memory x.reallocs x.frees no_free within ready.0)
      (allowed_realloc x.memory x.reallocs x.frees no_free within) (allowed_free x.memory x.reallocs x.frees no_free within)
