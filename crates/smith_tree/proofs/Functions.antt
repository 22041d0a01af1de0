-- Component functions are of small types that refer to nothing.
use Rattle.std.proofs.Common.{◌≡◌, ℕ, zero, suc, ◌+◌, ◌≤◌, true, List, [], ◌∷◌, ◌++◌, length, map, flat_map, fold, get_or, refl, sym, ap, subst, ◌∙◌, arith}
use Rattle.std.proofs.Common.{Option, Some, slice_get, option_to_list}
use Rattle.std.proofs.lemmas.Option.{none-some}
use Rattle.std.specs.List.{AllByRecursion}
use Rattle.smith_format.specs.declared.types.ValType.{ValType}
use Rattle.smith_input.proofs.Lists.{all_both}
use Rattle.smith_syntax.specs.Entries.{Entry, Field, Signature, defined, function, component_type, instance_type}
use Rattle.smith_syntax.specs.Flat.{Flattens, flat_value}
use Rattle.smith_syntax.specs.Marks.{is_everywhere, is_small, small_size}
use Rattle.smith_syntax.specs.Members.{signature_members}
use Rattle.smith_syntax.specs.Scope.{Scope, is_func}
use Rattle.smith_syntax.specs.Sizes.{value_size}
use Rattle.smith_syntax.specs.Usable.{mark_at}
use Rattle.smith_syntax.specs.WellFormed.{FormedEntry}
use Rattle.smith_syntax.specs.declared.marks.Mark.{Mark}
use Rattle.smith_syntax.specs.declared.types.ComponentValType.{ComponentValType}
use Rattle.smith_syntax.specs.declared.types.ComponentValType.TheVariants.{Primitive, Indexed}
use Rattle.smith_tree.specs.Bodies.{facts, function_extern}
use Rattle.smith_tree.specs.Facts.{FactScope, Facts, Id, sizes as fact_sizes, value_needs}
use Rattle.smith_tree.specs.Validates.{RefersTo}
use Rattle.smith_tree.proofs.Externs.{everywhere_is}
use Rattle.smith_tree.proofs.Reaches.{Reaches, none_named}
use Rattle.smith_tree.proofs.SmallSizes.{few_members, small_one}
use Rattle.smith_tree.proofs.Ties.{TiedTypes}

-- Function types.

abbrev pub IsPrimitive : ComponentValType → Type 0
IsPrimitive (Primitive p) = Unit {0}
IsPrimitive (Indexed i) = ⊥

abbrev pub ArePrimitive : List ComponentValType → Type 0
ArePrimitive vs = AllByRecursion IsPrimitive vs

abbrev pub IsFree : Facts → Type 0
IsFree f = (f.refers ≡ []) × (f.size ≤ small_size)

-- A function type has a size of at least 1, and is free if it is only of primitives.
abbrev pub FitsFunction : Entry → Facts → Type 0
FitsFunction (defined d) f = Unit {0}
FitsFunction (function s) f = (1 ≤ f.size) × (ArePrimitive (signature_members s) → IsFree f)
FitsFunction (component_type ds) f = Unit {0}
FitsFunction (instance_type ds) f = Unit {0}

abbrev pub FitFunctions : List Entry → List Facts → Type 0
FitFunctions [] [] = Unit {0}
FitFunctions [] (f ∷ fs) = ⊥
FitFunctions (e ∷ es) [] = ⊥
FitFunctions (e ∷ es) (f ∷ fs) = FitsFunction e f × FitFunctions es fs

pub functions_more : (es : List Entry) (fs : List Facts) (e : Entry) (f : Facts) → FitFunctions es fs → FitsFunction e f
    → FitFunctions (es ++ e ∷ []) (fs ++ f ∷ [])
functions_more [] [] e f h k = (k, tt)
functions_more [] (g ∷ fs) e f h k = absurd h
functions_more (d ∷ es) [] e f h k = absurd h
functions_more (d ∷ es) (g ∷ fs) e f h k = (h.0, functions_more es fs e f h.1 k)

record FunctionAt (s : Signature) (fs : List Facts) (i : ℕ) : Type 0 where
  found : Facts
  stands : slice_get fs i ≡ Some found
  fits : FitsFunction (function s) found

function_at : (es : List Entry) (fs : List Facts) (i : ℕ) (s : Signature) → FitFunctions es fs → slice_get es i ≡ Some (function s)
    → FunctionAt s fs i
function_at [] fs i s h e = absurd (none-some (function s) e)
function_at (d ∷ es) [] i s h e = absurd h
function_at (d ∷ es) (f ∷ fs) zero s h e =
    let same : d ≡ function s = cc in
    record { found = f; stands = refl; fits = subst (λ x. FitsFunction x f) same h.0 }
function_at (d ∷ es) (f ∷ fs) (suc i) s h e =
    let k = function_at es fs i s h.1 e in
    record { found = k.found; stands = k.stands; fits = k.fits }

-- if one is declared

primitive_needs : (types : List Facts) (vs : List ComponentValType) → ArePrimitive vs → flat_map (value_needs types) vs ≡ []
primitive_needs types [] h = refl
primitive_needs types (Primitive p ∷ vs) h = primitive_needs types vs h.1
primitive_needs types (Indexed i ∷ vs) h = absurd h.0

primitive_sum : (types : List ℕ) (vs : List ComponentValType) (so_far : ℕ) → ArePrimitive vs
    → fold (λ a x. a + x) so_far (map (value_size types) vs) ≡ so_far + length vs
primitive_sum types [] so_far h = omega arith
primitive_sum types (Primitive p ∷ vs) so_far h = omega (arith, primitive_sum types vs (so_far + 1) h.1)
primitive_sum types (Indexed i ∷ vs) so_far h = absurd h.0

pub fits_function : (e : Entry) (own : FactScope) (outer : List FactScope) (plain : Scope) (around : List Scope) → FormedEntry e plain around
    → FitsFunction e (facts e own outer)
fits_function (function s) own outer plain around h =
    let vs = signature_members s in (
      omega arith,
      λ k. (primitive_needs own.types vs k, omega (arith, primitive_sum (fact_sizes own.types) vs 0 k, few_members s h.2)),
    )
fits_function _ own outer plain around h = tt

-- What flattens is of primitives.

primitive_value : (v : ComponentValType) (x : ValType) → flat_value v ≡ Some x → IsPrimitive v
primitive_value (Primitive p) x e = tt
primitive_value (Indexed i) x e = absurd (none-some x e)

primitive_params : (ps : List Field) (xs : List ValType) → map (λ (p : Field). flat_value p.1) ps ≡ map Some xs
    → ArePrimitive (map (λ (p : Field). p.1) ps)
primitive_params [] xs e = tt
primitive_params (p ∷ ps) [] e = cc
primitive_params (p ∷ ps) (x ∷ xs) e =
    let one : flat_value p.1 ≡ Some x = cc in
    let rest : map (λ (p : Field). flat_value p.1) ps ≡ map Some xs = cc in
    (primitive_value p.1 x one, primitive_params ps xs rest)

primitive_values : (vs : List ComponentValType) (xs : List ValType) → map flat_value vs ≡ map Some xs → ArePrimitive vs
primitive_values [] xs e = tt
primitive_values (v ∷ vs) [] e = cc
primitive_values (v ∷ vs) (x ∷ xs) e =
    let one : flat_value v ≡ Some x = cc in
    let rest : map flat_value vs ≡ map Some xs = cc in
    (primitive_value v x one, primitive_values vs xs rest)

-- Functions: each of a type that is there and is free.

pub record IsFreeAt (fs : List Facts) (i : ℕ) : Type 0 where
  pub found : Facts
  pub stands : slice_get fs i ≡ Some found
  pub free : IsFree found

still_there : (fs more : List Facts) (i : ℕ) (f : Facts) → slice_get fs i ≡ Some f → slice_get (fs ++ more) i ≡ Some f
still_there [] more i f e = absurd (none-some f e)
still_there (g ∷ fs) more zero f e = e
still_there (g ∷ fs) more (suc i) f e = still_there fs more i f e

pub free_more : (fs more : List Facts) (is : List ℕ) → AllByRecursion (IsFreeAt fs) is → AllByRecursion (IsFreeAt (fs ++ more)) is
free_more fs more [] h = tt
free_more fs more (i ∷ is) h =
    let k = h.0 in
    (record { found = k.found; stands = still_there fs more i k.found k.stands; free = k.free }, free_more fs more is h.1)

-- one that is lifted
pub free_lifted : (es : List Entry) (fs : List Facts) (i : ℕ) (s : Signature) (flat : List ValType × List ValType) → FitFunctions es fs
    → slice_get es i ≡ Some (function s) → Flattens s flat → IsFreeAt fs i
free_lifted es fs i s flat h e k =
    let params : List ComponentValType = map (λ (p : Field). p.1) s.params in
    let at = function_at es fs i s h e in
    record {
      found = at.found;
      stands = at.stands;
      free = at.fits.1
          (all_both IsPrimitive params (option_to_list s.result) (primitive_params s.params flat.0 k.params)
          (primitive_values (option_to_list s.result) flat.1 k.result));
    }

-- one that is imported

free_at : (named : List Id) (ms : List Mark) (fs : List Facts) (i : ℕ) (f : Facts) → TiedTypes named ms fs → is_small (mark_at ms i) ≡ true
    → is_everywhere (mark_at ms i) ≡ true → slice_get fs i ≡ Some f → IsFree f
free_at named [] [] i f t small reach e = absurd (none-some f e)
free_at named [] (g ∷ fs) i f t small reach e = absurd t
free_at named (m ∷ ms) [] i f t small reach e = absurd t
free_at named (m ∷ ms) (g ∷ fs) zero f t small reach e =
    let same : g ≡ f = cc in
    let k = t.0 in
    subst IsFree same
    (subst (λ r. Reaches r named g.refers) (everywhere_is m.parts reach) k.parts, small_one m g.size k.size small)
free_at named (m ∷ ms) (g ∷ fs) (suc i) f t small reach e = free_at named ms fs i f t.1 small reach e

function_of_entry : (e : Entry) → is_func e ≡ true → (s : Signature) × (e ≡ function s)
function_of_entry (function s) h = (s, refl)
function_of_entry _ h = cc

size_at : (fs : List Facts) (i : ℕ) (f : Facts) → slice_get fs i ≡ Some f → get_or (fact_sizes fs) i 0 ≡ f.size
size_at [] i f e = absurd (none-some f e)
size_at (g ∷ fs) zero f e = let same : g ≡ f = cc in ap (λ x. x.size) same
size_at (g ∷ fs) (suc i) f e = size_at fs i f e

pub record Imported (fs : List Facts) (i : ℕ) : Type 0 where
  pub free : IsFreeAt fs i
  pub size : 1 ≤ get_or (fact_sizes fs) i 0

pub imported_function : (named : List Id) (es : List Entry) (ms : List Mark) (fs : List Facts) (i : ℕ) (e : Entry) → FitFunctions es fs
    → TiedTypes named ms fs → slice_get es i ≡ Some e → is_func e ≡ true → is_small (mark_at ms i) ≡ true → is_everywhere (mark_at ms i) ≡ true
    → Imported fs i
imported_function named es ms fs i e h t stands is_one small reach =
    let sort = function_of_entry e is_one in
    let at = function_at es fs i sort.0 h (stands ∙ ap Some sort.1) in
    record {
      free = record { found = at.found; stands = at.stands; free = free_at named ms fs i at.found t small reach at.stands };
      size = omega (arith, size_at fs i at.found at.stands, at.fits.0);
    }

-- What is exported of a function that is free refers to nothing, and is small.

some_free : (named : List Id) (o : Option Facts) (f : Facts) → o ≡ Some f → f.refers ≡ [] → RefersTo named (map function_extern (option_to_list o))
some_free named o f e free = grind (arith, none_named, free)

pub free_refers : (named : List Id) (fs : List Facts) (i : ℕ) → IsFreeAt fs i → RefersTo named (map function_extern (option_to_list (slice_get fs i)))
free_refers named fs i h = some_free named (slice_get fs i) h.found h.stands h.free.0

pub free_small : (fs : List Facts) (i : ℕ) → IsFreeAt fs i → get_or (fact_sizes fs) i 0 ≤ small_size
free_small fs i h = subst (λ n. n ≤ small_size) (sym (size_at fs i h.found h.stands)) h.free.1
