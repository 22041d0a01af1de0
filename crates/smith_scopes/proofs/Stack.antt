-- Stacks of scopes.
use Rattle.std.proofs.Common.{◌≡◌, ℕ, ◌+◌, ◌<◌, ◌≤◌, Bool, true, false, cond, List, [], ◌∷◌, ◌++◌, get_or, length, map, reverse, refl, sym, ap, ◌∙◌, arith}
use Rattle.std.proofs.Common.{append-nil, Some}
use Rattle.std.proofs.lemmas.List.{reverse-append, map-append, length-map, length-reverse}
use Rattle.std.proofs.lemmas.Option.{slice_get-get_or, slice_get-map}
use Rattle.std.specs.Prelude.{drop, option_map, slice_get}
use Rattle.smith_syntax.specs.Scope.{Scope, empty_scope, with_type, with_types}
use Rattle.smith_syntax.specs.Marked.{Marked, empty_marked, first_marked, more_kept, scope_in, with_marked, with_sized}
use Rattle.smith_syntax.specs.declared.marks.Mark.{Mark}
use Rattle.smith_syntax.specs.Places.{own_of, outer_of, places}
use Rattle.smith_scope.proofs.Places.{map-reverse}
use Rattle.smith_scopes.specs.Scopes.{Contents, shown_scope, inward, last_of, lists_at, scope_at, Changes, AddsMarked, AddsSized}
use Rattle.smith_scopes.specs.Scopes.{shown_marked, inward_marked, own_marked, own_scope, outer_marked, outer_scopes}
use Rattle.smith_syntax.specs.Shown.{shown_type, shown_core}
use Rattle.smith_syntax.specs.declared.core_types.CoreType.{CoreType}
use Rattle.smith_syntax.specs.declared.deftype.DefType.{DefType}

pub last_of-snoc : (ss : List Contents) (s : Contents) → last_of (ss ++ s ∷ []) ≡ s
last_of-snoc ss s = ap (λ r. get_or r 0 (empty_marked false)) (reverse-append ss (s ∷ []))

pub last_is : (scopes ss : List Contents) (s : Contents) → ss ++ s ∷ [] ≡ scopes → last_of scopes ≡ s
last_is scopes ss s e = ap last_of (sym e) ∙ last_of-snoc ss s

pub inward-snoc : (ss : List Contents) (s : Contents) → inward (ss ++ s ∷ []) ≡ shown_scope s ∷ inward ss
inward-snoc ss s = ap reverse (map-append shown_scope ss (s ∷ [])) ∙ reverse-append (map shown_scope ss) (shown_scope s ∷ [])

pub own_shown : (scopes ss : List Contents) (s : Contents) → ss ++ s ∷ [] ≡ scopes → own_of (inward scopes) ≡ shown_scope s
own_shown scopes ss s e = ap (λ t. own_of (inward t)) (sym e) ∙ ap own_of (inward-snoc ss s)

-- the lists of the last scope
pub own_lists : (scopes ss : List Contents) (s : Contents) → ss ++ s ∷ [] ≡ scopes → lists_at scopes 0 ≡ scope_in s
own_lists scopes ss s e =
    ap (λ t. lists_at t 0) (sym e)
    ∙ ap (λ ds. get_or (reverse ds) 0 empty_scope) (map-append scope_in ss (s ∷ []))
    ∙ ap (λ ds. get_or ds 0 empty_scope) (reverse-append (map scope_in ss) (scope_in s ∷ []))

-- The innermost scope shows the last one.
pub own_last : (scopes : List Contents) → own_of (inward scopes) ≡ shown_scope (last_of scopes)
own_last scopes = ap own_of (map-reverse shown_scope scopes) ∙ first (reverse scopes)
  where
    first : (ss : List Contents) → own_of (map shown_scope ss) ≡ shown_scope (get_or ss 0 (empty_marked false))
    first [] = refl
    first (s ∷ ss) = refl

pub length-last : (scopes : List Contents) → length (last_of scopes).types ≡ length (own_of (inward scopes)).types
length-last scopes = sym (ap (λ s. length s.types) (own_last scopes) ∙ length-map (last_of scopes).types shown_type)

pub length-last-core : (scopes : List Contents) → length (last_of scopes).core_types ≡ length (own_of (inward scopes)).core_types
length-last-core scopes = sym (ap (λ s. length s.core_types) (own_last scopes) ∙ length-map (last_of scopes).core_types shown_core)

-- what a change of the last scope makes of the scopes, innermost first
pub record Grown (f : Scope → Scope) (old new : List Contents) : Type 0 where
  pub own : own_of (inward new) ≡ f (own_of (inward old))
  pub outer : outer_of (inward new) ≡ outer_of (inward old)
  pub whole : inward new ≡ own_of (inward new) ∷ outer_of (inward new)
  pub was : inward old ≡ own_of (inward old) ∷ outer_of (inward old)

pub changed : (g : Contents → Contents) (f : Scope → Scope) → ((d : Contents) → shown_scope (g d) ≡ f (shown_scope d)) → (old new : List Contents)
    → Changes g old new → Grown f old new
changed g f shows old new a =
    let b : inward old ≡ shown_scope a.own ∷ inward a.outer = ap inward a.before ∙ inward-snoc a.outer a.own in
    let n : inward new ≡ shown_scope (g a.own) ∷ inward a.outer = ap inward a.after ∙ inward-snoc a.outer (g a.own) in
    record {
      own = ap own_of n ∙ (shows a.own ∙ ap f (sym (ap own_of b)));
      outer = ap outer_of n ∙ sym (ap outer_of b);
      whole = n ∙ (ap (λ s. s ∷ inward a.outer) (sym (ap own_of n)) ∙ ap (λ ss. own_of (inward new) ∷ ss) (sym (ap outer_of n)));
      was = b ∙ (ap (λ s. s ∷ inward a.outer) (sym (ap own_of b)) ∙ ap (λ ss. own_of (inward old) ∷ ss) (sym (ap outer_of b)));
    }

pub grown : (old new : List Contents) (ty : DefType) {m : Mark} → AddsMarked old ty m new → Grown (λ s. with_type s (shown_type ty)) old new
grown old new ty {m = m} a =
    changed (λ d. with_marked d ty m) (λ s. with_type s (shown_type ty))
    (λ d. ap (λ ts. record { types = ts; core_types = map shown_core d.core_types }) (map-append shown_type d.types (ty ∷ []))) old new a

-- A scope is opened, and closed.

-- The same with what is kept.

pub inward_marked-snoc : (ss : List Contents) (s : Contents) → inward_marked (ss ++ s ∷ []) ≡ shown_marked s ∷ inward_marked ss
inward_marked-snoc ss s = ap reverse (map-append shown_marked ss (s ∷ [])) ∙ reverse-append (map shown_marked ss) (shown_marked s ∷ [])

pub own_marked_shown : (scopes ss : List Contents) (s : Contents) → ss ++ s ∷ [] ≡ scopes → own_marked scopes ≡ shown_marked s
own_marked_shown scopes ss s e = ap own_marked (sym e) ∙ ap first_marked (inward_marked-snoc ss s)

pub length-inward_marked : (scopes : List Contents) → length (inward_marked scopes) ≡ length scopes
length-inward_marked scopes = length-reverse (map shown_marked scopes) ∙ length-map scopes shown_marked

-- the innermost scope shows the last one
pub own_marked_last : (scopes : List Contents) → own_marked scopes ≡ shown_marked (last_of scopes)
own_marked_last scopes = ap first_marked (map-reverse shown_marked scopes) ∙ first (reverse scopes)
  where
    first : (ss : List Contents) → first_marked (map shown_marked ss) ≡ shown_marked (get_or ss 0 (empty_marked false))
    first [] = refl
    first (s ∷ ss) = refl

pub keeps_last : (scopes : List Contents) → (last_of scopes).keeps ≡ (own_marked scopes).keeps
keeps_last scopes = sym (ap (λ s. s.keeps) (own_marked_last scopes))

-- The scopes by themselves.

pub inward_is : (scopes : List Contents) → inward scopes ≡ map scope_in (inward_marked scopes)
inward_is scopes = ap reverse (shows scopes) ∙ map-reverse scope_in (map shown_marked scopes)
  where
    shows : (ss : List Contents) → map shown_scope ss ≡ map scope_in (map shown_marked ss)
    shows [] = refl
    shows (s ∷ ss) = ap (λ rest. shown_scope s ∷ rest) (shows ss)

pub own_scope_is : (scopes : List Contents) → own_scope scopes ≡ scope_in (own_marked scopes)
own_scope_is scopes = ap own_of (inward_is scopes) ∙ first (inward_marked scopes)
  where
    first : (ss : List Marked) → own_of (map scope_in ss) ≡ scope_in (first_marked ss)
    first [] = refl
    first (s ∷ ss) = refl

pub outer_scopes_are : (scopes : List Contents) → outer_scopes scopes ≡ map scope_in (outer_marked scopes)
outer_scopes_are scopes = ap outer_of (inward_is scopes) ∙ later (inward_marked scopes)
  where
    later : (ss : List Marked) → outer_of (map scope_in ss) ≡ map scope_in (drop 1 ss)
    later [] = refl
    later (s ∷ ss) = refl

-- scopes of which there is one

pub split_first : (ss : List Marked) → 0 < length ss → ss ≡ first_marked ss ∷ drop 1 ss
split_first [] h = absurd (omega (arith, h))
split_first (s ∷ ss) h = refl

pub split_marked : (scopes : List Contents) → 0 < length scopes → inward_marked scopes ≡ own_marked scopes ∷ outer_marked scopes
split_marked scopes some = split_first (inward_marked scopes) (let l = length-inward_marked scopes in omega (arith, l, some))

-- the scope of a count
pub marked_at : (scopes : List Contents) (count : ℕ) → count < length scopes
    → slice_get (inward_marked scopes) count ≡ Some (shown_marked (scope_at scopes count))
marked_at scopes count h =
    let l = length-reverse scopes in
    ap (λ ss. slice_get ss count) (map-reverse shown_marked scopes)
    ∙ (slice_get-map shown_marked (reverse scopes) count
    ∙ ap (λ r. option_map shown_marked r) (slice_get-get_or (reverse scopes) count (empty_marked false) (omega (arith, l, h))))

-- what a change of the last scope makes of the scopes, innermost first
pub record GrownMarked (f : Marked → Marked) (old new : List Contents) : Type 0 where
  pub own : own_marked new ≡ f (own_marked old)
  pub outer : outer_marked new ≡ outer_marked old
  pub whole : inward_marked new ≡ own_marked new ∷ outer_marked new
  pub was : inward_marked old ≡ own_marked old ∷ outer_marked old

pub changed_marked : (g : Contents → Contents) (f : Marked → Marked) → ((d : Contents) → shown_marked (g d) ≡ f (shown_marked d)) → (old new : List Contents)
    → Changes g old new → GrownMarked f old new
changed_marked g f shows old new a =
    let b : inward_marked old ≡ shown_marked a.own ∷ inward_marked a.outer = ap inward_marked a.before ∙ inward_marked-snoc a.outer a.own in
    let n : inward_marked new ≡ shown_marked (g a.own) ∷ inward_marked a.outer = ap inward_marked a.after ∙ inward_marked-snoc a.outer (g a.own) in
    record {
      own = ap first_marked n ∙ (shows a.own ∙ ap f (sym (ap first_marked b)));
      outer = ap (drop 1) n ∙ sym (ap (drop 1) b);
      whole = n ∙ (ap (λ s. s ∷ inward_marked a.outer) (sym (ap first_marked n)) ∙ ap (λ ss. own_marked new ∷ ss) (sym (ap (drop 1) n)));
      was = b ∙ (ap (λ s. s ∷ inward_marked a.outer) (sym (ap first_marked b)) ∙ ap (λ ss. own_marked old ∷ ss) (sym (ap (drop 1) b)));
    }

pub grown_marked : (old new : List Contents) (ty : DefType) {m : Mark} → AddsMarked old ty m new → GrownMarked (λ s. with_marked s (shown_type ty) m) old new
grown_marked old new ty {m = m} a =
    changed_marked (λ d. with_marked d ty m) (λ s. with_marked s (shown_type ty) m)
    (λ d. ap (λ ts. record (shown_marked d) { types = ts; marks = more_kept d.keeps d.marks (m ∷ []) }) (map-append shown_type d.types (ty ∷ []))) old new a

pub grown_sized : (old new : List Contents) (ty : CoreType) {n : ℕ} → AddsSized old ty n new → GrownMarked (λ s. with_sized s (shown_core ty) n) old new
grown_sized old new ty {n = n} a =
    changed_marked (λ d. with_sized d ty n) (λ s. with_sized s (shown_core ty) n)
    (λ d. ap (λ ts. record (shown_marked d) { core_types = ts; core_sizes = more_kept d.keeps d.core_sizes (n ∷ []) })
    (map-append shown_core d.core_types (ty ∷ []))) old new a

-- A scope is opened, and closed.

pub opened_marked : (old new : List Contents) (keeps : Bool) → new ≡ old ++ empty_marked keeps ∷ [] → inward_marked new ≡ empty_marked keeps ∷ inward_marked old
opened_marked old new keeps e = ap inward_marked e ∙ inward_marked-snoc old (empty_marked keeps)

-- an opened scope keeps marks if the one around it does
pub opened_own : (old new : List Contents) → new ≡ old ++ empty_marked (last_of old).keeps ∷ [] → own_marked new ≡ empty_marked (own_marked old).keeps
opened_own old new e = ap first_marked (opened_marked old new (last_of old).keeps e) ∙ ap (λ k. empty_marked k) (keeps_last old)

pub opened_outer : (old new : List Contents) (keeps : Bool) → new ≡ old ++ empty_marked keeps ∷ [] → outer_marked new ≡ inward_marked old
opened_outer old new keeps e = ap (drop 1) (opened_marked old new keeps e)

pub closed_marked : (old new : List Contents) (last : Contents) → old ≡ new ++ last ∷ [] → inward_marked old ≡ shown_marked last ∷ inward_marked new
closed_marked old new last e = ap inward_marked e ∙ inward_marked-snoc new last
