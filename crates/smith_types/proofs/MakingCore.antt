-- What the program keeps of a module type that it makes, step by step.
use Rattle.std.proofs.Common.{◌≡◌, ℕ, zero, suc, ◌+◌, ◌-◌, ◌<◌, ◌≤◌, Bool, true, false, List, [], ◌∷◌, ◌++◌, map, length, refl, sym, ap, ◌∙◌, arith}
use Rattle.std.proofs.Common.{length-append, bytes_eq, ◌||◌, get_or, subst}
use Rattle.std.proofs.Math.ListN.{drop}
use Rattle.std.proofs.lemmas.Bool.{false≢true}
use Rattle.std.proofs.lemmas.List.{length-map, map-append}
use Rattle.std.proofs.lemmas.Bool.Decides.{nat_tests}
use Rattle.std.proofs.lemmas.Option.{slice_get_within, slice_get-map}
use Rattle.std.specs.Option.{option_to_list}
use Rattle.std.specs.Prelude.{◌↔◌, IsTrue, nat_lt, Some, option_map, slice_get}
use Rattle.smith_format.specs.CoreTypes.{Function}
use Rattle.smith_format.specs.declared.config.Config.{Config}
use Rattle.smith_input.specs.Choices.{ReadsAmong}
use Rattle.smith_input.specs.NewNames.{is_among}
use Rattle.smith_syntax.specs.Entries.{CoreEntry, ModuleDecl, aliases, core_func, core_module}
use Rattle.smith_types.specs.MadeCore.{no_export, no_import, functions_named, named_by_core}
use Rattle.smith_tree.specs.CoreTypeOffers.{indexes, module_items, Declared as SoFar}
use Rattle.smith_types.specs.MakingCore.{AddsDecl, DeclTurn, choices_among, names_taken, KeepEach, KeepsNamed, KeepsAliased, own_after}
use Rattle.smith_syntax.specs.ModuleTypes.{adds, aliased, alias_of}
use Rattle.smith_syntax.specs.Scope.{Scope}
use Rattle.smith_syntax.specs.Places.{is_core_func, own_of, places}
use Rattle.smith_scopes.specs.Scopes.{Contents, inward, last_of}
use Rattle.smith_syntax.specs.Shown.{shown_core, shown_decl, aliased_functions, kept_core}
use Rattle.smith_syntax.specs.declared.core_types.CoreType.{CoreType}
use Rattle.smith_syntax.specs.declared.core_types.ModuleTypeDef.{ModuleTypeDef}
use Rattle.smith_tree.specs.declared.choices.ModuleItem.{ModuleItem}
use Rattle.smith_tree.specs.declared.choices.ModuleItem.TheVariants as item
use Rattle.smith_input.proofs.Rests.{drop_past, rest_at}
use Rattle.smith_scopes.proofs.Stack.{length-last-core, own_last}
use Rattle.smith_scope.proofs.Places.{place_stands, get_left, get_right}
use Rattle.std.proofs.Math.Bool.{or_assoc}
use Rattle.smith_types.proofs.ModuleTypes.{exports_both, names_both, own_more}
use Rattle.std.specs.List.{flat_map}
use Rattle.smith_syntax.specs.declared.core_types.CoreType.TheVariants as core
use Rattle.smith_syntax.specs.declared.core_types.ModuleTypeDef.TheVariants as decl

-- indexes

pub length-indexes : {A : Type 0} (i : ℕ) (xs : List A) → length (places (λ x. true) i xs) ≡ length xs
length-indexes i [] = refl
length-indexes i (x ∷ xs) = ap suc (length-indexes (i + 1) xs)

pub index_at : {A : Type 0} (i : ℕ) (xs : List A) (k : ℕ) → k < length xs → slice_get (places (λ x. true) i xs) k ≡ Some (i + k)
index_at i [] k h = absurd (omega arith)
index_at i (x ∷ xs) zero h = let e : i ≡ i + 0 = omega arith in ap Some e
index_at i (x ∷ xs) (suc k) h = let e : i + 1 + k ≡ i + suc k = omega arith in index_at (i + 1) xs k (omega arith) ∙ ap Some e

pub own_at : {A : Type 0} (xs : List A) (k : ℕ) → k < length xs → slice_get (places (λ x. true) 0 xs) k ≡ Some k
own_at xs k h = let e : 0 + k ≡ k = omega arith in index_at 0 xs k h ∙ ap Some e

-- names

taken_more : (imported : Bool) (from : List ℕ) (d : ModuleDecl) (ds : List ModuleDecl)
    → names_taken imported from (d ∷ ds) ≡ names_taken imported from (d ∷ []) ++ names_taken imported from ds
taken_more true from d ds = names_both from (d ∷ []) ds
taken_more false from d ds = exports_both (d ∷ []) ds

taken_none : (imported : Bool) (from : List ℕ) → names_taken imported from [] ≡ []
taken_none true from = refl
taken_none false from = refl

pub among_append : (xs ys : List (List ℕ)) (q : List ℕ) → is_among (xs ++ ys) q ≡ (is_among xs q || is_among ys q)
among_append [] ys q = refl
among_append (x ∷ xs) ys q = ap (λ b. bytes_eq x q || b) (among_append xs ys q) ∙ sym (or_assoc (bytes_eq x q) (is_among xs q) (is_among ys q))

-- the names of the declarations from a place on
module _ (imported : Bool) (from : List ℕ) (defs : List ModuleTypeDef) (i : ℕ) where
  abbrev Later : ℕ → List (List ℕ)
  Later j = names_taken imported from (map shown_decl (drop j defs))

  module _ (d : ModuleTypeDef) (h : i < length defs) (e : d ≡ get_or defs i d) where
    abbrev Here : List (List ℕ)
    Here = names_taken imported from (shown_decl d ∷ [])

    split : Later i ≡ Here ++ Later (i + 1)
    split = ap (λ z. names_taken imported from (map shown_decl z)) (rest_at defs i d h e)
        ∙ taken_more imported from (shown_decl d) (map shown_decl (drop (i + 1) defs))

    among : (q : List ℕ) → is_among (Later i) q ≡ (is_among Here q || is_among (Later (i + 1)) q)
    among q = ap (λ ns. is_among ns q) split ∙ among_append Here (Later (i + 1)) q

    pub taken_found : (q : List ℕ) → is_among Here q ≡ true → is_among (Later i) q ≡ true
    taken_found q t = among q ∙ ap (λ b. b || is_among (Later (i + 1)) q) t

    pub taken_passed : (q : List ℕ) → is_among Here q ≡ false → is_among (Later i) q ≡ is_among (Later (i + 1)) q
    taken_passed q f = among q ∙ ap (λ b. b || is_among (Later (i + 1)) q) f

  pub taken_past : length defs ≤ i → Later i ≡ []
  taken_past h = ap (λ z. names_taken imported from (map shown_decl z)) (drop_past defs i h) ∙ taken_none imported from

-- outer aliases

pub choices_count : (around : Scope) (own : List Function) → length (choices_among around own) ≡ length (places is_core_func 0 around.core_types) + length own
choices_count around own =
    let here = places is_core_func 0 around.core_types in
    let f : ℕ → ℕ × ℕ = λ i. (1, i) in
    let g : ℕ → ℕ × ℕ = λ i. (0, i) in
    omega (arith, length-append (map f here) (map g (indexes own)), length-map here f, length-map (indexes own) g, length-indexes 0 own)

pub choice_around : (around : Scope) (own : List Function) (k i : ℕ) → slice_get (places is_core_func 0 around.core_types) k ≡ Some i
    → slice_get (choices_among around own) k ≡ Some (1, i)
choice_around around own k i h =
    let here = places is_core_func 0 around.core_types in
    let f : ℕ → ℕ × ℕ = λ i. (1, i) in
    get_left (map f here) (map (λ i. (0, i)) (indexes own)) k (omega (arith, length-map here f, slice_get_within here k i h))
    ∙ (slice_get-map f here k ∙ ap (option_map f) h)

pub choice_own : (around : Scope) (own : List Function) (k j : ℕ) → k ≡ length (places is_core_func 0 around.core_types) + j → j < length own
    → slice_get (choices_among around own) k ≡ Some (0, j)
choice_own around own k j e h =
    let here = places is_core_func 0 around.core_types in
    let f : ℕ → ℕ × ℕ = λ i. (1, i) in
    let g : ℕ → ℕ × ℕ = λ i. (0, i) in
    get_right (map f here) (map g (indexes own)) k j (omega (arith, length-map here f, e))
    ∙ (slice_get-map g (indexes own) j ∙ ap (option_map g) (own_at own j h))

pub alias_adds : (around : List CoreEntry) (own : List Function) (count i : ℕ) (f : Function) → aliased around own count i ≡ Some f
    → adds around own (aliases count i) ≡ f ∷ []
alias_adds around own count i f e = ap (λ o. option_to_list o ++ []) e

pub same_state : {a b : List Function} {c d : List ModuleDecl} (f g : ℕ) → a ≡ b → c ≡ d → f ≡ g → let x : SoFar = record { own = a; decls = c; fuel = f } in
    let y : SoFar = record { own = b; decls = d; fuel = g } in x ≡ y
same_state f g p q r = λ i. record { own = p i; decls = q i; fuel = r i }

-- what a core function type of the innermost scope is

pub record Around (scopes : List Contents) (p : ℕ) : Type 0 where
  pub func : Function
  pub at : slice_get (own_of (inward scopes)).core_types p ≡ Some (core_func func)
  pub within : p < length (last_of scopes).core_types

is_func_of : (e : CoreEntry) → is_core_func e ≡ true → (f : Function) × (e ≡ core_func f)
is_func_of (core_func f) h = (f, refl)
is_func_of (core_module ds) h = absurd (false≢true h)

pub around_at : (scopes : List Contents) (k p : ℕ) → slice_get (places is_core_func 0 (own_of (inward scopes)).core_types) k ≡ Some p → Around scopes p
around_at scopes k p h =
    let es = (own_of (inward scopes)).core_types in
    let f = place_stands is_core_func es k p h in
    let g = is_func_of f.0 f.2 in
    record { func = g.0; at = f.1 ∙ ap Some g.1; within = omega (arith, slice_get_within es p f.0 f.1, length-last-core scopes) }

pub shown_at : (scopes : List Contents) (p : ℕ) (t : CoreType) → slice_get (last_of scopes).core_types p ≡ Some t
    → slice_get (own_of (inward scopes)).core_types p ≡ Some (shown_core t)
shown_at scopes p t h =
    ap (λ s. slice_get s.core_types p) (own_last scopes) ∙ (slice_get-map shown_core (last_of scopes).core_types p ∙ ap (option_map shown_core) h)

-- what a boolean of 99 among 100 says

by_place : (b : Bool) (k : ℕ) → (IsTrue b ↔ (1 + k ≤ 99)) → b ≡ false → (z : Bool) → nat_lt k 99 ≡ z → 99 ≤ k
by_place b k h e true f = let lt : k < 99 = grind (arith, nat_tests) in let t : IsTrue b = h.1 (omega (arith, lt)) in absurd (false≢true (sym e ∙ t))
by_place b k h e false f = grind (arith, nat_tests)

pub ratio_false : (b : Bool) (k : ℕ) → (IsTrue b ↔ (1 + k ≤ 99)) → b ≡ false → 99 ≤ k
ratio_false b k h e = by_place b k h e (nat_lt k 99) refl

pub ratio_true : (b : Bool) (k : ℕ) → (IsTrue b ↔ (1 + k ≤ 99)) → b ≡ true → k < 99
ratio_true b k h e = let t : 1 + k ≤ 99 = h.0 e in omega (arith, t)

-- a core function type is not a module type
pub no_module : {f : Function} {e : CoreEntry} {ds : List ModuleDecl} → e ≡ core_func f → e ≡ core_module ds → ⊥
no_module p q = false≢true (sym (ap is_core_func q) ∙ ap is_core_func p)

-- a turn, by what it adds
pub turns_of : (config : Config) (around : Scope) (s : SoFar) (i : ModuleItem) (b mid rest : List ℕ) (t : SoFar) → 0 < s.fuel - 1
    → ReadsAmong (module_items config around s) b i mid → (more : Bool) → AddsDecl config around s i mid more rest t → DeclTurn config around s b more rest t
turns_of config around s i b mid rest t lasts c true (d, r, e) = (d, record { lasts = lasts; item = i; mid = mid; choice = c; reads = r; state = e })
turns_of config around s item.Import b mid rest t lasts c false ((from, name, r, none), e) = no_import lasts c r none e
turns_of config around s item.Export b mid rest t lasts c false ((name, r, none), e) = no_export lasts c r none e
turns_of config around s i b mid rest t lasts c false (z, e) = absurd z

-- outer aliases that keep the function types that they name, as a module type grows by one declaration after another

each_more : (around : List CoreEntry) (own : List Function) (ds : List ModuleTypeDef) (d : ModuleTypeDef) → KeepEach around own ds
    → KeepsNamed around (own_after around own (map shown_decl ds)) d → KeepEach around own (ds ++ d ∷ [])
each_more around own [] d all one = (one, tt)
each_more around own (e ∷ ds) d all one = (all.0, each_more around (own ++ adds around own (shown_decl e)) ds d all.1 one)

-- one more declaration, if these are the own types, and those after it
pub keep_more : (around : List CoreEntry) (own later : List Function) (ds more : List ModuleTypeDef) (d : ModuleTypeDef)
    → KeepEach around [] ds × (own_after around [] (map shown_decl ds) ≡ own) → KeepsNamed around own d
    → later ≡ own ++ adds around own (shown_decl d) → more ≡ ds ++ d ∷ [] → KeepEach around [] more × (own_after around [] (map shown_decl more) ≡ later)
keep_more around own later ds more d (all, types) one owns e = (
  subst (KeepEach around []) (sym e) (each_more around [] ds d all (subst (λ z. KeepsNamed around z d) (sym types) one)),
  ap (λ z. own_after around [] (map shown_decl z)) e
      ∙ (ap (own_after around []) (map-append shown_decl ds (d ∷ []))
      ∙ (own_more around [] (map shown_decl ds) (shown_decl d)
      ∙ (ap (λ z. z ++ adds around z (shown_decl d)) types ∙ sym owns))),
)

-- What the outer aliases keep is what they name.

one_kept : (around : List CoreEntry) (own : List Function) (d : ModuleTypeDef) → KeepsNamed around own d
    → aliased_functions d ≡ flat_map (λ a. option_to_list (aliased around own a.0 a.1)) (alias_of (shown_decl d))
one_kept around own (decl.OuterAlias count i ty) k = sym (ap (λ o. option_to_list o ++ []) k)
one_kept around own d k = refl

pub kept_named : (around : List CoreEntry) (own : List Function) (ds : List ModuleTypeDef) → KeepEach around own ds
    → flat_map aliased_functions ds ≡ functions_named around own (map shown_decl ds)
kept_named around own [] k = refl
kept_named around own (d ∷ ds) k = λ i. one_kept around own d k.0 i ++ kept_named around (own ++ adds around own (shown_decl d)) ds k.1 i

pub kept_core_named : (around : List CoreEntry) (t : CoreType) → KeepsAliased around t → kept_core t ≡ named_by_core around (shown_core t)
kept_core_named around (core.Func f) k = refl
kept_core_named around (core.Module m) k = kept_named around [] m.defs.items k
