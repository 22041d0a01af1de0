-- A number that a table sets is within its bound, the unknown keys of a table, and what a `?` passes on.
use Rattle.std.proofs.Common.{◌≡◌, refl, sym, subst, arith, ℕ, Bool, true, false, not, cond, List, [], ◌∷◌, Option, Some, None, option_map}
use Rattle.std.proofs.Common.{String, Global, string_bytes}
use Rattle.std.specs.Prelude.{if◌then◌else◌, ◌≤◌, nat_lt, ℤ, pos, negsuc, unwrap_or, ⊤}
use Rattle.std.specs.List.{AllByRecursion, find}
use Rattle.std.specs.Map.{keys_of}
use Rattle.std.specs.Option.{IsSome, is_some}
use Rattle.toml.specs.View.{members_view}
use Rattle.toml.specs.declared.value.Value.{Value}
use Rattle.toml.specs.Data.{Data, Members, integer}
use Rattle.std.specs.Prelude.{Result, Ok, Err, IfErr}
use Rattle.std.specs.Result.{IsErrAnd, IsOk}
use Rattle.std.proofs.lemmas.Result.{err_from_is_err_and}
use Rattle.smith_format.specs.Consistency.{IsDefault}
use Rattle.smith_format.specs.declared.config.Config.{Config}
use Rattle.smith_limits.specs.Limits.{all_keys, is_name, is_switch, most_of, value_of}
use Rattle.smith_limits.specs.Limits.{IsBounded, IsNoInteger, Sets, first_wrong, is_no_integer, is_no_number, is_no_switch, is_wrong}
use Rattle.smith_limits.specs.Limits.{unknown_in, value_at}
use Rattle.smith_limits.specs.declared.keys.Key.{Key}
use Rattle.smith_limits.specs.declared.keys.Key.TheVariants.{MinTypes, MaxTypes, MaxImports, MaxModules, MaxComponents, MaxInstances}
use Rattle.smith_limits.specs.declared.keys.Key.TheVariants.{MaxNestingDepth, MaxNameLength, LoopBits}
use Rattle.smith_limits.specs.declared.keys.Wrong.{Wrong}

unknown_step : (b : Bool) (key : String Global) (rest : Option (String Global)) (unknown : Option (List ℕ))
    → unknown ≡ option_map string_bytes rest
    → (if b then unknown else Some (string_bytes key)) ≡ option_map string_bytes (cond (not b) (Some key) rest)
unknown_step true key rest unknown e = e
unknown_step false key rest unknown e = refl

-- the first unknown key of a table, in the map that holds it
pub unknown_in-entries : (es : List (String Global × Value))
    → unknown_in (members_view es) ≡ option_map string_bytes (find (λ key. not (is_name (string_bytes key))) (keys_of es))
unknown_in-entries [] = refl
unknown_in-entries (e ∷ es) = unknown_step (is_name (string_bytes e.0)) e.0 _ _ (unknown_in-entries es)

-- if nothing is found
nothing_found : {T : Type 0} (b : Bool) (x : T) (rest : Option T) → cond b (Some x) rest ≡ None → (b ≡ false) × (rest ≡ None)
nothing_found true x rest e = absurd (cc)
nothing_found false x rest e = (refl, e)

none_of : {T : Type 0} (p : T → Bool) (xs : List T) → find p xs ≡ None → AllByRecursion (λ x. p x ≡ false) xs
none_of p [] e = tt
none_of p (x ∷ xs) e =
    let one = nothing_found (p x) x (find p xs) e in
    (one.0, none_of p xs one.1)

-- If nothing is wrong at any limit's name, nothing is wrong at this one's.
pub right_at : (members : Members) (key : Key) → first_wrong members ≡ None → is_wrong members key ≡ false
right_at members MinTypes e = assumption (none_of (is_wrong members) all_keys e)
right_at members key e = assumption (none_of (is_wrong members) all_keys e)

-- so a number is not a wrong one
unless : (b x y : Bool) → b ≡ false → (if b then x else y) ≡ false → y ≡ false
unless true x y e h = absurd (cc)
unless false x y e h = h

pub number_right : (members : Members) (key : Key) → first_wrong members ≡ None → is_switch key ≡ false
    → is_no_number (most_of key) (value_at members key) ≡ false
number_right members key e number = unless (is_switch key) _ _ number (right_at members key e)

when : (b x y : Bool) → b ≡ true → (if b then x else y) ≡ false → x ≡ false
when true x y e h = h
when false x y e h = absurd (cc)

pub switch_right : (members : Members) (key : Key) → first_wrong members ≡ None → is_switch key ≡ true
    → is_no_switch (value_at members key) ≡ false
switch_right members key e switch = when (is_switch key) _ _ switch (right_at members key e)

pub some_right : (o : Option Bool) → not (is_some o) ≡ false → IsSome o
some_right (Some b) right = refl
some_right None right = absurd (cc)

pub integer_right : (r : Result ℕ Wrong) (most : ℕ) (z : Option ℤ) → IfErr r (IsNoInteger most z) → is_no_integer most z ≡ false → IsOk r
integer_right (Ok n) most z refused right = refl
integer_right (Err wrong) most (Some (pos m)) refused right = let within : nat_lt most m ≡ false = right in absurd (grind (arith, refused.1, within))
integer_right (Err wrong) most (Some (negsuc _)) refused right = absurd (cc)
integer_right (Err wrong) most None refused right = absurd (cc)

-- What is found meets the test.
some_found : {T : Type 0} (p : T → Bool) (b : Bool) (first x : T) (rest : Option T) → p first ≡ b → (rest ≡ Some x → p x ≡ true)
    → cond b (Some first) rest ≡ Some x → p x ≡ true
some_found p true first x rest h later e = let same : first ≡ x = cc in subst (λ y. p y ≡ true) same h
some_found p false first x rest h later e = later e

pub found_meets : {T : Type 0} (p : T → Bool) (xs : List T) (x : T) → find p xs ≡ Some x → p x ≡ true
found_meets p [] x e = absurd (cc)
found_meets p (first ∷ xs) x e = some_found p (p first) first x (find p xs) refl (found_meets p xs x) e

-- what a `?` passes on
pub refused : {T E : Type 0} (r : Result T E) (e : E) (P : E → Type 0) → IsErrAnd r (λ y. y ≡ e) → P e → IfErr r P
refused r e P h p =
    let s = err_from_is_err_and r h in
    subst (λ x. IfErr x P) (sym s.1) (subst P (sym s.2) p)

-- What is set is at most what it may be, if the default is.
abbrev IsAtMost : ℕ → Data → Type 0
IsAtMost most (integer (pos n)) = n ≤ most
IsAtMost most _ = ⊤

one_at_most : (most : ℕ) (o : Option Data) (default : Data) → is_no_number most o ≡ false → IsAtMost most default
    → IsAtMost most (unwrap_or o default)
one_at_most most None default right within = within
one_at_most most (Some (integer (pos n))) default right within = let fits : nat_lt most n ≡ false = right in grind (arith, fits)
one_at_most most (Some (integer (negsuc _))) default right within = tt
one_at_most most (Some _) default right within = tt

set_at_most : (members : Members) (default config : Config) (key : Key) → first_wrong members ≡ None → Sets members default config
    → is_switch key ≡ false → IsAtMost (most_of key) (value_of default key) → IsAtMost (most_of key) (value_of config key)
set_at_most members default config key right sets number within =
    subst (IsAtMost (most_of key)) (sym (sets key))
    (one_at_most (most_of key) (value_at members key) (value_of default key) (number_right members key right number) within)

default_bounded : (default : Config) → IsDefault default → IsBounded default
default_bounded default is =
    subst IsBounded (sym is)
    record {
      types = omega arith;
      imports = omega arith;
      modules = omega arith;
      components = omega arith;
      instances = omega arith;
      nesting = omega arith;
      names = omega arith;
      loops = omega arith;
    }

pub bounded : (members : Members) (default config : Config) → IsDefault default → first_wrong members ≡ None → Sets members default config
    → IsBounded config
bounded members default config is right sets =
    let default_is = default_bounded default is in
    let at_most : (key : Key) → is_switch key ≡ false → IsAtMost (most_of key) (value_of default key) → IsAtMost (most_of key) (value_of config key) =
    λ key number within. set_at_most members default config key right sets number within in
    record {
      types = at_most MaxTypes refl default_is.types;
      imports = at_most MaxImports refl default_is.imports;
      modules = at_most MaxModules refl default_is.modules;
      components = at_most MaxComponents refl default_is.components;
      instances = at_most MaxInstances refl default_is.instances;
      nesting = at_most MaxNestingDepth refl default_is.nesting;
      names = at_most MaxNameLength refl default_is.names;
      loops = at_most LoopBits refl default_is.loops;
    }
