-- What a module type begins with for the canonical ABI: its shapes, and what follows it.
use Rattle.std.proofs.Common.{◌≡◌, ℕ, ◌<◌, ◌≤◌, Bool, true, false, ◌&&◌, List, [], ◌∷◌, ◌++◌, length, refl, sym, ap, ◌∙◌, subst, arith}
use Rattle.std.proofs.lemmas.Bool.{false≢true, ltb-true, lt-ltb, and_from, and_parts}
use Rattle.std.proofs.lemmas.Bool.Decides.{nat_tests}
use Rattle.std.specs.Prelude.{Option, Some, None, IfSome, codes, nat_lt, if◌then◌else◌}
use Rattle.smith_format.proofs.CoreReading.{memory_formed}
use Rattle.smith_format.specs.CoreFormed.{FormedMemory}
use Rattle.smith_format.specs.CoreTypes.{Function}
use Rattle.smith_format.specs.declared.config.Config.{Config}
use Rattle.smith_format.specs.declared.types.EntityType.TheVariants.{Func, Memory}
use Rattle.smith_format.specs.declared.types.ExportKind.TheVariants as kind
use Rattle.smith_format.specs.declared.types.MemoryType.{MemoryType}
use Rattle.smith_syntax.specs.Entries.{ModuleDecl, declares, exports}
use Rattle.smith_tree.proofs.FrontFound.{free_decls, front_decls, function_decls, realloc_decls}
use Rattle.smith_types.specs.MadeCore.{ReadsLine, not_allowed, declined, taken, MemoryLine, ReadsFunctionLine, ReadsFront}
use Rattle.smith_tree.specs.CoreTypeOffers.{Declared, undeclared, with_front, allows_function, allows_type}
use Rattle.smith_syntax.specs.ModuleTypes.{realloc, free, is_export, is_of_kind, is_type, is_function_of, after_memory, after_function, after_realloc}
use Rattle.smith_syntax.specs.ModuleTypes.{after_free, after_front}

-- the shapes

abbrev pub front_own : Bool → Bool → List Function
front_own r f = (if r then realloc ∷ [] else []) ++ (if f then free ∷ [] else [])

abbrev pub front_state : ℕ → Option MemoryType → Bool → Bool → Declared
front_state fuel m r f = record { own = front_own r f; decls = front_decls m r f; fuel = fuel }

-- the state after a line for a function
abbrev pub with_line : Declared → List ℕ → Function → Bool → Declared
with_line s name f b = if b then with_front s (function_decls name f (length s.own) true) else s

pub realloc_state : (fuel : ℕ) (m : Option MemoryType) (r : Bool)
    → with_line (front_state fuel m false false) (codes "canonical_abi_realloc") realloc r ≡ front_state fuel m r false
realloc_state fuel m false = refl
realloc_state fuel None true = refl
realloc_state fuel (Some m) true = refl

pub free_state : (fuel : ℕ) (m : Option MemoryType) (r f : Bool)
    → with_line (front_state fuel m r false) (codes "canonical_abi_free") free f ≡ front_state fuel m r f
free_state fuel m r false = refl
free_state fuel None false true = refl
free_state fuel None true true = refl
free_state fuel (Some m) false true = refl
free_state fuel (Some m) true true = refl

-- if a line is there, there is room for one more function and one more type
abbrev pub HasRoomFor : Config → ℕ → Bool → Type 0
HasRoomFor config n b = b ≡ true → (n < config.max_funcs) × (n < config.max_types)

module _ (config : Config) (fuel : ℕ) where
  abbrev Allows : Declared → Type 0
  Allows s = (allows_function config s && allows_type config s) ≡ true

  allowed_is : (m : Option MemoryType) (r : Bool) → let s : Declared = front_state fuel m r false in
      (allows_function config s && allows_type config s)
      ≡ (nat_lt (length (front_own r false)) config.max_funcs && nat_lt (length (front_own r false)) config.max_types)
  allowed_is None false = refl
  allowed_is None true = refl
  allowed_is (Some m) false = refl
  allowed_is (Some m) true = refl

  pub line_allowed : (m : Option MemoryType) (r b : Bool) → HasRoomFor config (length (front_own r false)) b → b ≡ true → Allows (front_state fuel m r false)
  line_allowed m r b room e = allowed_is m r ∙ and_from _ _ (lt-ltb _ _ (room e).0) (lt-ltb _ _ (room e).1)

  line_room : (m : Option MemoryType) (r b : Bool) → (b ≡ true → Allows (front_state fuel m r false)) → HasRoomFor config (length (front_own r false)) b
  line_room m r b may e =
      let n : ℕ = length (front_own r false) in
      let both = and_parts (nat_lt n config.max_funcs) (nat_lt n config.max_types) (sym (allowed_is m r) ∙ may e) in
      (ltb-true n config.max_funcs both.0, ltb-true n config.max_types both.1)

  memory_is : (b rest : List ℕ) (t : Declared) → ReadsLine (nat_lt 0 config.max_memories) MemoryLine (undeclared fuel) b t rest
      → (m : Option MemoryType) × (t ≡ front_state fuel m false false) × IfSome m (λ m. FormedMemory m × (0 < config.max_memories))
  memory_is b rest t (not_allowed n e) = (None, e, tt)
  memory_is b rest t (declined m c k e) = (None, e, tt)
  memory_is b rest t (taken may c k (m, r, i) e) = (Some m, e ∙ ap (with_front (undeclared fuel)) i, (memory_formed r, ltb-true 0 config.max_memories may))

  line_is : (name : List ℕ) (f : Function) (s : Declared) (b rest : List ℕ) (t : Declared) → ReadsFunctionLine config name f s b t rest
      → (x : Bool) × (t ≡ with_line s name f x) × (x ≡ true → Allows s)
  line_is name f s b rest t (not_allowed n e) = (false, e, λ h. absurd (false≢true h))
  line_is name f s b rest t (declined a c k e) = (false, e, λ h. absurd (false≢true h))
  line_is name f s b rest t (taken may c k l e) = (true, e ∙ ap (with_front s) l.1, λ h. may)

-- one of the shapes, as the limits allow it
pub record IsFront (config : Config) (fuel : ℕ) (s : Declared) : Type 0 where
  pub memory : Option MemoryType
  pub reallocs : Bool
  pub frees : Bool
  pub state : s ≡ front_state fuel memory reallocs frees
  pub has_memory : IfSome memory (λ m. FormedMemory m × (0 < config.max_memories))
  pub has_realloc : HasRoomFor config 0 reallocs
  pub has_free : HasRoomFor config (length (front_own reallocs false)) frees

pub front_is : (config : Config) (b : List ℕ) (fuel : ℕ) (s : Declared) (rest : List ℕ) → ReadsFront config b fuel s rest → IsFront config fuel s
front_is config b fuel s rest x =
    let m = memory_is config fuel b x.after_memory x.with_memory x.memory in
    let Reallocs : Declared → Type 0 = λ d. ReadsFunctionLine config (codes "canonical_abi_realloc") realloc d x.after_memory x.with_realloc x.after_realloc in
    let r = line_is config fuel _ _ _ x.after_memory x.after_realloc x.with_realloc (subst Reallocs m.1 x.reallocs) in
    let Frees : Declared → Type 0 = λ d. ReadsFunctionLine config (codes "canonical_abi_free") free d x.after_realloc s rest in
    let f = line_is config fuel _ _ _ x.after_realloc rest s (subst Frees (r.1 ∙ realloc_state fuel m.0 r.0) x.frees) in
    record {
      memory = m.0;
      reallocs = r.0;
      frees = f.0;
      state = f.1 ∙ free_state fuel m.0 r.0 f.0;
      has_memory = m.2;
      has_realloc = line_room config fuel m.0 false r.0 r.2;
      has_free = line_room config fuel m.0 r.0 f.0 f.2;
    }

-- what follows it

one_less : (b : Bool) (d : ModuleDecl) (ds : List ModuleDecl) → length (if b then ds else d ∷ ds) ≤ length (d ∷ ds)
one_less true d ds = omega arith
one_less false d ds = omega arith

two_less : (b : Bool) (d e : ModuleDecl) (ds : List ModuleDecl) → length (if b then ds else d ∷ e ∷ ds) ≤ length (d ∷ e ∷ ds)
two_less true d e ds = omega arith
two_less false d e ds = omega arith

memory_less : (ds : List ModuleDecl) → length (after_memory ds) ≤ length ds
memory_less [] = omega arith
memory_less (d ∷ ds) = one_less (is_export (codes "memory") (is_of_kind kind.Memory) d) d ds

function_less : (name : List ℕ) (f : Function) (i : ℕ) (ds : List ModuleDecl) → length (after_function name f i ds) ≤ length ds
function_less name f i [] = omega arith
function_less name f i (d ∷ []) = omega arith
function_less name f i (d ∷ e ∷ ds) = two_less (is_type f d && is_export name (is_function_of i) e) d e ds

free_less : (ds : List ModuleDecl) → length (after_free ds) ≤ length ds
free_less ds =
    omega (
      arith,
      function_less (codes "canonical_abi_realloc") realloc 0 ds,
      function_less (codes "canonical_abi_free") free (if nat_lt (length (after_realloc ds)) (length ds) then 1 else 0) (after_realloc ds),
    )

-- both functions, and the one that frees alone
abbrev after_free_at : ℕ → Bool → List ModuleDecl → List ModuleDecl
after_free_at i r more = after_function (codes "canonical_abi_free") free i (free_decls r true ++ more)

both_functions : (more : List ModuleDecl) → length (after_free (realloc_decls true ++ free_decls true true ++ more)) ≤ length more
both_functions more =
    let below : nat_lt (length (free_decls true true ++ more)) (length (realloc_decls true ++ free_decls true true ++ more)) ≡ true =
    lt-ltb _ _ (omega arith) in
    subst (λ b. length (after_free_at (if b then 1 else 0) true more) ≤ length more) (sym below) (omega arith)

one_function : (more : List ModuleDecl) → length (after_free (free_decls false true ++ more)) ≤ length more
one_function more =
    let whole : List ModuleDecl = free_decls false true ++ more in
    let same : nat_lt (length whole) (length whole) ≡ false = grind (arith, nat_tests) in
    subst (λ b. length (after_free_at (if b then 1 else 0) false more) ≤ length more) (sym same) (omega arith)

pub front_size : (m : Option MemoryType) (r f : Bool) (more : List ModuleDecl) → length (after_front (front_decls m r f ++ more)) ≤ length more
front_size None false false more = omega (arith, memory_less more, free_less (after_memory more))
front_size None true false more = function_less (codes "canonical_abi_free") free _ more
front_size None false true more = one_function more
front_size None true true more = both_functions more
front_size (Some m) false false more = free_less more
front_size (Some m) true false more = function_less (codes "canonical_abi_free") free _ more
front_size (Some m) false true more = one_function more
front_size (Some m) true true more = both_functions more
