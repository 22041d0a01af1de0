-- The index spaces at a place in a component, and what they become.
use Rattle.std.proofs.Common.{◌≡◌, ℕ, true, ◌&&◌, List, [], ◌∷◌, ◌++◌, Option, Some, length, ap, sym, refl, subst, ◌∙◌}
use Rattle.std.specs.Prelude.{slice_get}
use Rattle.smith_format.specs.CoreTypes.{Function}
use Rattle.smith_syntax.specs.Entries.{CoreEntry, Entry, Signature, function}
use Rattle.smith_syntax.specs.Flat.{Flattens, is_scalar, is_scalar_result}
use Rattle.smith_syntax.specs.Scope.{Scope}
use Rattle.smith_tree.specs.Spaces.{Spaces, no_spaces}
use Rattle.smith_tree.specs.WellFormed.{HasSignature}
use Rattle.smith_edit.specs.Renumbering.{Renumbering, index_kept, kept_index, with_entry}
use Rattle.smith_edit.specs.Walk.{new_scope, with_core_function, with_core_type, with_function, with_type}
use Rattle.smith_edit.specs.declared.renumbering.Fate.{Fate}
use Rattle.smith_edit.specs.declared.renumbering.Fate.TheVariants.{Kept, Removed}
use Rattle.smith_edit.specs.declared.renumbering.Renumbered.{Renumbered}
use Rattle.smith_edit.specs.declared.walk.Scope.{Scope as Indexes}
use Rattle.smith_edit.proofs.Alike.{Alike, AlikeCore, Same, ScopeFollows}
use Rattle.smith_edit.proofs.Follows.{Follows, IsLeft, Stays, entry_there, follows_left, follows_removed, get_other, get_still, none_yet}
use Rattle.smith_edit.proofs.Perhaps.{Perhaps, gives, nothing}
use Rattle.smith_edit.proofs.FormedTypes.{more_core, more_core_removed, more_type_removed}
use Rattle.smith_tree.proofs.Possible.{all_some as scalar_params, one_result as scalar_result}

abbrev pub scope : Spaces → Scope
scope s = record { types = s.types; core_types = s.core_types }

-- a function, whose fate is its type's, and a core function, which remains if its function is kept

abbrev pub OfType : Renumbering → Fate → ℕ → ℕ → Type 0
OfType types f t u = slice_get types.entries t ≡ Some (record { index = u; fate = f })

abbrev pub OfFunction : Renumbering → Fate → ℕ → ℕ → Type 0
OfFunction functions f g h = slice_get functions.entries g ≡ Some (record { index = h; fate = Kept })

pub record PlaceFollows (own : Indexes) (s s2 : Spaces) : Type 0 where
  pub kinds : ScopeFollows own (scope s) (scope s2)
  pub same : Follows Same own.types s.types s2.types
  pub functions : Follows (OfType own.types) own.functions s.functions s2.functions
  pub core_functions : Follows (OfFunction own.functions) own.core_functions s.core_functions s2.core_functions

pub nothing_yet : PlaceFollows new_scope no_spaces no_spaces
nothing_yet = record {
  kinds = record { types = none_yet Alike 0 [] refl; core_types = none_yet AlikeCore 0 [] refl };
  same = none_yet Same 0 [] refl;
  functions = none_yet (OfType new_scope.types) 0 [] refl;
  core_functions = none_yet (OfFunction new_scope.functions) 0 [] refl;
}

-- a weaker relation

module _ {A : Type 0} (P Q : Fate → A → A → Type 0) (weaker : (f : Fate) (x y : A) → P f x y → Q f x y) where
  stays_weaker : (f : Fate) (i : ℕ) (x : A) (new : List A) → Stays P f i x new → Stays Q f i x new
  stays_weaker Removed i x new h = tt
  stays_weaker f i x new h = (h.0, h.1, weaker f x h.0 h.2)

  follows_weaker : (s : Renumbering) (old new : List A) → Follows P s old new → Follows Q s old new
  follows_weaker s old new f = record { count = f.count; next = f.next; found = λ i x r at is. stays_weaker r.fate r.index x new (f.found i x r at is) }

still_type : (s : Renumbering) (g f : Fate) (t u : ℕ) → OfType s f t u → OfType (with_entry s g) f t u
still_type s g f t u h = get_still s.entries _ t (record { index = u; fate = f }) h

still_function : (s : Renumbering) (g f : Fate) (t u : ℕ) → OfFunction s f t u → OfFunction (with_entry s g) f t u
still_function s g f t u h = get_still s.entries _ t (record { index = u; fate = Kept }) h

-- one more entry of each space

module _ (own : Indexes) (s s2 : Spaces) (p : PlaceFollows own s s2) where
  later_functions : (g : Fate) → Follows (OfType (with_entry own.types g)) own.functions s.functions s2.functions
  later_functions g = follows_weaker (OfType own.types) (OfType (with_entry own.types g))
      (still_type own.types g) own.functions s.functions s2.functions p.functions

  later_core_functions : (g : Fate) → Follows (OfFunction (with_entry own.functions g)) own.core_functions s.core_functions s2.core_functions
  later_core_functions g =
      follows_weaker (OfFunction own.functions) (OfFunction (with_entry own.functions g))
      (still_function own.functions g) own.core_functions s.core_functions s2.core_functions
      p.core_functions

  pub type_removed : (x : Entry) → PlaceFollows (with_type own Removed) (record s { types = s.types ++ x ∷ [] }) s2
  type_removed x = record {
    kinds = more_type_removed own (scope s) (scope s2) p.kinds x;
    same = follows_removed Same own.types s.types s2.types x p.same;
    functions = later_functions Removed;
    core_functions = p.core_functions;
  }

  pub type_left : (f : Fate) → IsLeft f → (x y : Entry) → Alike f x y → Same f x y
      → PlaceFollows (with_type own f) (record s { types = s.types ++ x ∷ [] }) (record s2 { types = s2.types ++ y ∷ [] })
  type_left f left x y a b = record {
    kinds = record { types = follows_left Alike f left own.types s.types s2.types x y p.kinds.types a; core_types = p.kinds.core_types };
    same = follows_left Same f left own.types s.types s2.types x y p.same b;
    functions = later_functions f;
    core_functions = p.core_functions;
  }

  pub core_removed : (x : CoreEntry) → PlaceFollows (with_core_type own Removed) (record s { core_types = s.core_types ++ x ∷ [] }) s2
  core_removed x = record {
    kinds = more_core_removed own (scope s)
        (scope s2) p.kinds x;
    same = p.same;
    functions = p.functions;
    core_functions = p.core_functions;
  }

  pub core_kept : (x y : CoreEntry) → AlikeCore Kept x y
      → PlaceFollows (with_core_type own Kept) (record s { core_types = s.core_types ++ x ∷ [] }) (record s2 { core_types = s2.core_types ++ y ∷ [] })
  core_kept x y a = record {
    kinds = more_core own (scope s)
        (scope s2) p.kinds x y a;
    same = p.same;
    functions = p.functions;
    core_functions = p.core_functions;
  }

  pub function_removed : (t : ℕ) → PlaceFollows (with_function own Removed) (record s { functions = s.functions ++ t ∷ [] }) s2
  function_removed t = record {
    kinds = record { types = p.kinds.types; core_types = p.kinds.core_types };
    same = p.same;
    functions = follows_removed (OfType own.types) own.functions s.functions s2.functions t p.functions;
    core_functions = later_core_functions Removed;
  }

  pub function_left : (f : Fate) → IsLeft f → (t u : ℕ) → OfType own.types f t u
      → PlaceFollows (with_function own f) (record s { functions = s.functions ++ t ∷ [] }) (record s2 { functions = s2.functions ++ u ∷ [] })
  function_left f left t u h = record {
    kinds = record { types = p.kinds.types; core_types = p.kinds.core_types };
    same = p.same;
    functions = follows_left (OfType own.types) f left own.functions s.functions s2.functions t u p.functions h;
    core_functions = later_core_functions f;
  }

  pub core_function_removed : (g : ℕ) → PlaceFollows (with_core_function own Removed) (record s { core_functions = s.core_functions ++ g ∷ [] }) s2
  core_function_removed g = record {
    kinds = record { types = p.kinds.types; core_types = p.kinds.core_types };
    same = p.same;
    functions = p.functions;
    core_functions = follows_removed (OfFunction own.functions) own.core_functions s.core_functions s2.core_functions g p.core_functions;
  }

  pub core_function_kept : (g h : ℕ) → OfFunction own.functions Kept g h
      → PlaceFollows (with_core_function own Kept) (record s { core_functions = s.core_functions ++ g ∷ [] })
      (record s2 { core_functions = s2.core_functions ++ h ∷ [] })
  core_function_kept g h e = record {
    kinds = record { types = p.kinds.types; core_types = p.kinds.core_types };
    same = p.same;
    functions = p.functions;
    core_functions = follows_left (OfFunction own.functions) Kept tt own.core_functions s.core_functions s2.core_functions g h p.core_functions e;
  }

-- entries that are kept

kept_fate : (f : Fate) (n : ℕ) (o : Option Renumbered) → o ≡ Some (record { index = n; fate = f })
    → Perhaps (λ j. o ≡ Some (record { index = j; fate = Kept })) (index_kept (record { index = n; fate = f }))
kept_fate Kept n o e = gives n e
kept_fate f n o e = nothing tt

pub kept_entry : {A : Type 0} (s : Renumbering) (old : List A) → length s.entries ≡ length old → (i : ℕ) (x : A) → slice_get old i ≡ Some x
    → Perhaps (λ j. slice_get s.entries i ≡ Some (record { index = j; fate = Kept })) (kept_index s i)
kept_entry s old count i x at =
    let (r, is) = get_other old s.entries i x count at in
    subst (λ q. Perhaps (λ j. slice_get s.entries i ≡ Some (record { index = j; fate = Kept })) (index_kept q)) (sym (entry_there s i r is))
    (kept_fate r.fate r.index (slice_get s.entries i) is)

-- signatures of scalars

pub flat_scalar : (g : Signature) (f : Function) → Flattens g f → is_scalar g ≡ true
flat_scalar g f h =
    ap (λ b. b && is_scalar_result g.result) (scalar_params g.params f.0 h.params) ∙ scalar_result g.result f.1 h.result h.one

module _ (own : Indexes) (s s2 : Spaces) (p : PlaceFollows own s s2) where
  pub same_type : (t u : ℕ) (g : Signature) → slice_get s.types t ≡ Some (function g) → is_scalar g ≡ true → OfType own.types Kept t u
      → slice_get s2.types u ≡ Some (function g)
  same_type t u g at scalar is =
      let (y, there, same) = p.same.found t (function g) (record { index = u; fate = Kept }) at is in
      there ∙ ap (λ e. Some e) (same.same refl g refl scalar)

  pub same_signature : (f h : ℕ) (g : Signature) → HasSignature s f g → is_scalar g ≡ true → OfFunction own.functions Kept f h → HasSignature s2 h g
  same_signature f h g has scalar is =
      let (u, there, of_type) = p.functions.found f has.ty (record { index = h; fate = Kept }) has.stands is in
      record { ty = u; stands = there; is = same_type has.ty u g has.is scalar of_type }
