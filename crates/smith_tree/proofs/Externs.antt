-- What is imported and exported refers to what is named, if marks offer it.
use Rattle.std.proofs.Common.{arith, ◌≡◌, ℕ, zero, suc, true, false, List, [], ◌∷◌, ◌++◌, map, flat_map, refl, sym, ap, subst, ◌∙◌, append-nil}
use Rattle.std.proofs.Common.{Option, Some, None, slice_get, option_to_list, get_or}
use Rattle.smith_format.specs.declared.config.Config.{Config}
use Rattle.smith_syntax.specs.Entries.{Entry}
use Rattle.smith_syntax.specs.Marked.{Marked, exported_mark, marks_for, reference_reach, scope_in}
use Rattle.smith_syntax.specs.Marks.{equal_mark, is_everywhere, is_somewhere, parts_of, reaches_everywhere, reaches_somewhere}
use Rattle.smith_syntax.specs.Scope.{exported_type}
use Rattle.smith_syntax.specs.Usable.{OfferedRef, mark_at}
use Rattle.smith_syntax.specs.WellFormed.{is_type_eq}
use Rattle.smith_syntax.specs.declared.deftype.ComponentTypeRef.{ComponentTypeRef}
use Rattle.smith_syntax.specs.declared.deftype.ComponentTypeRef.TheVariants as to
use Rattle.smith_syntax.specs.declared.marks.Mark.{Mark}
use Rattle.smith_syntax.specs.declared.marks.Reach.{Reach}
use Rattle.smith_syntax.specs.declared.marks.Reach.TheVariants.{Everywhere, Here, Nowhere}
use Rattle.smith_tree.specs.Bodies.{equal_extern, equal_facts, exported_facts, externs_at, function_extern}
use Rattle.smith_tree.specs.Facts.{FactScope, Facts, Id, id_at}
use Rattle.smith_tree.specs.Validates.{RefersTo, names_of}
use Rattle.smith_tree.proofs.Named.{none_within, refers_wider}
use Rattle.smith_tree.proofs.Reaches.{Reaches, none_named, reaches_named}
use Rattle.smith_tree.proofs.TiedMarks.{tied_equal}
use Rattle.smith_tree.proofs.Ties.{AsMany, TiedEntry, TiedMaybe, TiedScope, TiedTypes, entry_at, many_at, tied_at}

-- What marks say of the reach of the one at an index.

pub everywhere_is : (r : Reach) → reaches_everywhere r ≡ true → r ≡ Everywhere
everywhere_is Everywhere e = refl
everywhere_is Here e = cc
everywhere_is Nowhere e = cc

somewhere_is : (r : Reach) → reaches_somewhere r ≡ true → ¬ (r ≡ Nowhere)
somewhere_is Everywhere e = λ k. cc
somewhere_is Here e = λ k. cc
somewhere_is Nowhere e = cc

reach_at : (ms : List Mark) (i : ℕ) → (mark_at ms i).parts ≡ parts_of (slice_get ms i)
reach_at [] i = refl
reach_at (m ∷ ms) zero = refl
reach_at (m ∷ ms) (suc i) = reach_at ms i

everywhere_at : (ms : List Mark) (i : ℕ) → is_everywhere (mark_at ms i) ≡ true → parts_of (slice_get ms i) ≡ Everywhere
everywhere_at ms i h = everywhere_is (parts_of (slice_get ms i)) (subst (λ r. reaches_everywhere r ≡ true) (reach_at ms i) h)

somewhere_at : (ms : List Mark) (i : ℕ) → is_somewhere (mark_at ms i) ≡ true → ¬ (parts_of (slice_get ms i) ≡ Nowhere)
somewhere_at ms i h = somewhere_is (parts_of (slice_get ms i)) (subst (λ r. reaches_somewhere r ≡ true) (reach_at ms i) h)

-- What is imported and exported.

function_free : (named : List Id) (m : Option Mark) (f : Option Facts) → TiedMaybe named m f → parts_of m ≡ Everywhere
    → RefersTo [] (map function_extern (option_to_list f))
function_free named None None t e = tt
function_free named None (Some f) t e = absurd t
function_free named (Some m) None t e = absurd t
function_free named (Some m) (Some f) t e = (none_named [] f.refers (subst (λ r. Reaches r named f.refers) e t.parts), tt)

function_refers : (named : List Id) (m : Option Mark) (f : Option Facts) → TiedMaybe named m f → ¬ (parts_of m ≡ Nowhere)
    → RefersTo named (map function_extern (option_to_list f))
function_refers named None None t e = tt
function_refers named None (Some f) t e = absurd t
function_refers named (Some m) None t e = absurd t
function_refers named (Some m) (Some f) t e = (reaches_named m.parts named f.refers t.parts e, tt)

equal_refers : (named : List Id) (id : Id) (m : Option Mark) (f : Option Facts) → TiedMaybe named m f → ¬ (parts_of m ≡ Nowhere)
    → RefersTo named (map (equal_extern id) (option_to_list f))
equal_refers named id None None t e = tt
equal_refers named id None (Some f) t e = absurd t
equal_refers named id (Some m) None t e = absurd t
equal_refers named id (Some m) (Some f) t e = (reaches_named m.parts named f.refers t.parts e, tt)

instance_refers : (named : List Id) (m : Option Mark) (f : Option Facts) → TiedMaybe named m f
    → RefersTo [] (flat_map (λ f. f.exports) (option_to_list f))
instance_refers named None None t = tt
instance_refers named None (Some f) t = absurd t
instance_refers named (Some m) None t = absurd t
instance_refers named (Some m) (Some f) t = subst (RefersTo []) (sym (append-nil f.exports)) t.exports

module _ (config : Config) (named : List Id) (m : Marked) (own : FactScope) (outer : List FactScope) where
  pub import_refers : (r : ComponentTypeRef) → TiedScope config named m own → is_type_eq r ≡ false → OfferedRef m true r
      → RefersTo [] (externs_at own outer r)
  import_refers (to.Module i) t typed h = tt
  import_refers (to.Func i) t typed h =
      function_free named (slice_get m.marks i) (slice_get own.types i) (tied_at named m.marks own.types i t.types) (everywhere_at m.marks i h.1)
  import_refers (to.TypeEq i) t typed h = cc
  import_refers (to.Component i) t typed h = tt
  import_refers (to.Instance i) t typed h =
      instance_refers named (slice_get m.marks i) (slice_get own.types i) (tied_at named m.marks own.types i t.types)

  pub export_refers : (r : ComponentTypeRef) → TiedScope config named m own → OfferedRef m false r → RefersTo named (externs_at own outer r)
  export_refers (to.Module i) t h = tt
  export_refers (to.Func i) t h =
      function_refers named (slice_get m.marks i) (slice_get own.types i) (tied_at named m.marks own.types i t.types) (somewhere_at m.marks i h.1)
  export_refers (to.TypeEq i) t h =
      equal_refers named (id_at (own ∷ outer)) (slice_get m.marks i) (slice_get own.types i) (tied_at named m.marks own.types i t.types)
      (somewhere_at m.marks i h.1)
  export_refers (to.Component i) t h = tt
  export_refers (to.Instance i) t h =
      refers_wider [] named (externs_at own outer (to.Instance i)) (none_within named)
      (instance_refers named (slice_get m.marks i) (slice_get own.types i) (tied_at named m.marks own.types i t.types))

-- What is exported that reaches everywhere refers to nothing.

function_nothing : (named : List Id) (m : Option Mark) (f : Option Facts) → TiedMaybe named m f → parts_of m ≡ Everywhere
    → flat_map (λ x. x.refers) (map function_extern (option_to_list f)) ≡ []
function_nothing named None None t e = refl
function_nothing named None (Some f) t e = absurd t
function_nothing named (Some m) None t e = absurd t
function_nothing named (Some m) (Some f) t e = append-nil f.refers ∙ subst (λ r. Reaches r named f.refers) e t.parts

equal_nothing : (named : List Id) (id : Id) (m : Option Mark) (f : Option Facts) → TiedMaybe named m f → parts_of m ≡ Everywhere
    → flat_map (λ x. x.refers) (map (equal_extern id) (option_to_list f)) ≡ []
equal_nothing named id None None t e = refl
equal_nothing named id None (Some f) t e = absurd t
equal_nothing named id (Some m) None t e = absurd t
equal_nothing named id (Some m) (Some f) t e = append-nil f.refers ∙ subst (λ r. Reaches r named f.refers) e t.parts

instance_nothing : (named : List Id) (m : Option Mark) (f : Option Facts) → TiedMaybe named m f → parts_of m ≡ Everywhere
    → flat_map (λ x. x.refers) (flat_map (λ f. f.exports) (option_to_list f)) ≡ []
instance_nothing named None None t e = refl
instance_nothing named None (Some f) t e = absurd t
instance_nothing named (Some m) None t e = absurd t
instance_nothing named (Some m) (Some f) t e = ap (flat_map (λ x. x.refers)) (append-nil f.exports) ∙ t.closed e

module _ (config : Config) (named : List Id) (m : Marked) (own : FactScope) (outer : List FactScope) where
  pub exports_nothing : (r : ComponentTypeRef) → TiedScope config named m own → reference_reach m r ≡ Everywhere
      → flat_map (λ x. x.refers) (externs_at own outer r) ≡ []
  exports_nothing (to.Module i) t e = refl
  exports_nothing (to.Func i) t e =
      function_nothing named (slice_get m.marks i) (slice_get own.types i) (tied_at named m.marks own.types i t.types) e
  exports_nothing (to.TypeEq i) t e =
      equal_nothing named (id_at (own ∷ outer)) (slice_get m.marks i) (slice_get own.types i) (tied_at named m.marks own.types i t.types) e
  exports_nothing (to.Component i) t e = refl
  exports_nothing (to.Instance i) t e =
      instance_nothing named (slice_get m.marks i) (slice_get own.types i) (tied_at named m.marks own.types i t.types) e

-- The type that an export adds.

equal_added : (named : List Id) (id : Id) (e : Option Entry) (m : Mark) (f : Option Facts) → TiedEntry named e m f
    → TiedTypes (named ++ names_of (map (equal_extern id) (option_to_list f))) (marks_for e (equal_mark m))
    (map (equal_facts id) (option_to_list f))
equal_added named id None m None t = tt
equal_added named id None m (Some f) t = absurd t
equal_added named id (Some e) m None t = absurd t
equal_added named id (Some e) m (Some f) t = (tied_equal named id m f t, tt)

equal_many : (id : Id) (es : List Entry) (fs : List Facts) → AsMany es fs → AsMany es (map (equal_facts id) fs)
equal_many id [] [] h = tt
equal_many id [] (f ∷ fs) h = absurd h
equal_many id (e ∷ es) [] h = absurd h
equal_many id (e ∷ es) (f ∷ fs) h = equal_many id es fs h

module _ (config : Config) (named : List Id) (m : Marked) (own : FactScope) (outer : List FactScope) where
  pub export_added : (r : ComponentTypeRef) → TiedScope config named m own
      → TiedTypes (named ++ names_of (externs_at own outer r)) (marks_for (exported_type (scope_in m) r) (exported_mark m.marks r))
      (exported_facts own outer r)
  export_added (to.TypeEq i) t = grind (arith, equal_added, slice_get, get_or, entry_at)
  export_added _ t = tt

  pub export_many : (r : ComponentTypeRef) → TiedScope config named m own
      → AsMany (option_to_list (exported_type (scope_in m) r)) (exported_facts own outer r)
  export_many (to.TypeEq i) t = grind (arith, equal_many, option_to_list, slice_get, many_at)
  export_many _ t = tt
