-- Types that remain well formed.
use Rattle.std.proofs.Common.{arith, ◌≡◌, ℕ, zero, suc, List, [], ◌∷◌, Option, None, Some, append-nil, sym, refl, subst, ◌∙◌}
use Rattle.std.specs.Prelude.{if◌then◌else◌, slice_get}
use Rattle.std.specs.Option.{option_to_list}
use Rattle.smith_syntax.specs.Entries.{CoreEntry, Decl, Entry, defined, plain}
use Rattle.smith_syntax.specs.Entries.{core_type_decl, type_decl, type_alias, core_type_alias, import_decl, export_decl}
use Rattle.smith_syntax.specs.Scope.{Scope, after_decl as scope_after, core_type_named, empty_scope, exported_type, in_scope}
use Rattle.smith_syntax.specs.Scope.{type_named, with_core_type as one_core_type, with_core_types, with_type as one_type, with_types}
use Rattle.smith_syntax.specs.WellFormed.{FormedDeclaration, FormedRef}
use Rattle.smith_syntax.specs.WellFormed.{is_type_eq}
use Rattle.smith_syntax.specs.declared.deftype.ComponentTypeRef.{ComponentTypeRef}
use Rattle.smith_syntax.specs.declared.deftype.ComponentTypeRef.TheVariants as to
use Rattle.smith_edit.specs.Edited.{after_decl, core_edited, defined_edited, entry_edited, ref_edited}
use Rattle.smith_edit.specs.Renumbering.{Renumbering, new_index}
use Rattle.smith_edit.specs.Walk.{Walk, aliased, aliased_core_type, aliased_type, entered, skipped, with_core_type, with_type}
use Rattle.smith_edit.specs.declared.renumbering.Fate.{Fate}
use Rattle.smith_edit.specs.declared.renumbering.Fate.TheVariants.{Kept, Removed}
use Rattle.smith_edit.specs.declared.walk.Scope.{Scope as Spaces}
use Rattle.smith_edit.proofs.Alike.{Alike, AlikeCore, ScopeFollows}
use Rattle.smith_edit.proofs.Follows.{Becomes, Follows, follows_left, follows_removed, index_follows, none_yet}
use Rattle.smith_edit.proofs.FormedCores.{alike_core}
use Rattle.smith_edit.proofs.Perhaps.{Perhaps, gives, mapped, whatever}

pub some_index : (o : Option ℕ) → Perhaps (λ j. Unit {0}) o
some_index o = whatever o (λ j. tt)

-- scopes, innermost first, as they became others
pub data ScopesFollow : List Spaces → List Scope → List Scope → Type 0 where
  no_scopes : ScopesFollow [] [] []
  then_scopes : (s : Spaces) (o n : Scope) (ss : List Spaces) (os ns : List Scope) → ScopeFollows s o n → ScopesFollow ss os ns
      → ScopesFollow (s ∷ ss) (o ∷ os) (n ∷ ns)

pub record WalkFollows (w : Walk) (own own2 : Scope) (outer outer2 : List Scope) : Type 0 where
  pub here : ScopeFollows w.own own own2
  pub around : ScopesFollow w.outer outer outer2

-- what an outer alias names

module _ {A : Type 0} (Rel : Fate → A → A → Type 0) (space : Spaces → Renumbering) (of : Scope → List A)
    (follows : (s : Spaces) (o n : Scope) → ScopeFollows s o n → Follows Rel (space s) (of o) (of n)) where
  pub alias_follows : (ss : List Spaces) (os ns : List Scope) → ScopesFollow ss os ns → (count i : ℕ) (x : A) → in_scope of os count i ≡ Some x
      → Perhaps (λ j. (f : Fate) × (y : A) × (in_scope of ns count j ≡ Some y) × Rel f x y) (aliased space ss count i)
  alias_follows _ _ _ no_scopes zero i x at = absurd cc
  alias_follows _ _ _ no_scopes (suc count) i x at = absurd cc
  alias_follows _ _ _ (then_scopes s o n ss os ns f more) zero i x at = index_follows Rel (space s) (of o) (of n) (follows s o n f) i x at
  alias_follows _ _ _ (then_scopes s o n ss os ns f more) (suc count) i x at = alias_follows ss os ns more count i x at

types_of : (s : Spaces) (o n : Scope) → ScopeFollows s o n → Follows Alike s.types o.types n.types
types_of s o n f = f.types

cores_of : (s : Spaces) (o n : Scope) → ScopeFollows s o n → Follows AlikeCore s.core_types o.core_types n.core_types
cores_of s o n f = f.core_types

walk_scopes : (w : Walk) (own own2 : Scope) (outer outer2 : List Scope) → WalkFollows w own own2 outer outer2
    → ScopesFollow (w.own ∷ w.outer) (own ∷ outer) (own2 ∷ outer2)
walk_scopes w own own2 outer outer2 f = then_scopes w.own own own2 w.outer outer outer2 f.here f.around

pub entered_follows : (w : Walk) (own own2 : Scope) (outer outer2 : List Scope) → WalkFollows w own own2 outer outer2
    → WalkFollows (entered w) empty_scope empty_scope (own ∷ outer) (own2 ∷ outer2)
entered_follows w own own2 outer outer2 f = record {
  here = record { types = none_yet Alike 0 [] refl; core_types = none_yet AlikeCore 0 [] refl };
  around = walk_scopes w own own2 outer outer2 f;
}

pub skipped_follows : (n : ℕ) (w : Walk) (own own2 : Scope) (outer outer2 : List Scope) → WalkFollows w own own2 outer outer2
    → WalkFollows (skipped n w) own own2 outer outer2
skipped_follows n w own own2 outer outer2 f = record { here = f.here; around = f.around }

-- references

module _ (s : Spaces) (own own2 : Scope) (follows : ScopeFollows s own own2) where
  kind_ref : (i : ℕ) (x : Entry) → slice_get own.types i ≡ Some x → Perhaps (Becomes Alike own2.types x) (new_index s.types i)
  kind_ref i x at = index_follows Alike s.types own.types own2.types follows.types i x at

  pub formed_ref : (r : ComponentTypeRef) → FormedRef own r → Perhaps (λ q. FormedRef own2 q × (is_type_eq q ≡ is_type_eq r)) (ref_edited s r)
  formed_ref (to.Module i) h =
      mapped to.Module (λ j f. ((f.1, f.2, f.3.of_module ∙ h.2), refl))
      (index_follows AlikeCore s.core_types own.core_types own2.core_types follows.core_types i h.0 h.1)
  formed_ref (to.Func i) h = mapped to.Func (λ j f. ((f.1, f.2, f.3.of_functions ∙ h.2), refl)) (kind_ref i h.0 h.1)
  formed_ref (to.TypeEq i) h = mapped to.TypeEq (λ j f. ((f.1, f.2), refl)) (kind_ref i h.0 h.1)
  formed_ref (to.Component i) h = mapped to.Component (λ j f. ((f.1, f.2, f.3.of_components ∙ h.2), refl)) (kind_ref i h.0 h.1)
  formed_ref (to.Instance i) h = mapped to.Instance (λ j f. ((f.1, f.2, f.3.of_instances ∙ h.2), refl)) (kind_ref i h.0 h.1)

  -- one more entry

  pub more_type_removed : (x : Entry) → ScopeFollows (with_type s Removed) (one_type own x) own2
  more_type_removed x = record { types = follows_removed Alike s.types own.types own2.types x follows.types; core_types = follows.core_types }

  pub more_type : (x y : Entry) → Alike Kept x y → ScopeFollows (with_type s Kept) (one_type own x) (one_type own2 y)
  more_type x y a = record { types = follows_left Alike Kept tt s.types own.types own2.types x y follows.types a; core_types = follows.core_types }

  pub more_core_removed : (x : CoreEntry) → ScopeFollows (with_core_type s Removed) (one_core_type own x) own2
  more_core_removed x = record {
    types = follows.types;
    core_types = follows_removed AlikeCore s.core_types own.core_types own2.core_types x follows.core_types;
  }

  pub more_core : (x y : CoreEntry) → AlikeCore Kept x y → ScopeFollows (with_core_type s Kept) (one_core_type own x) (one_core_type own2 y)
  more_core x y a = record {
    types = follows.types;
    core_types = follows_left AlikeCore Kept tt s.core_types own.core_types own2.core_types x y follows.core_types a;
  }

  no_more : ScopeFollows s (with_types own []) own2
  no_more = record { types = subst (λ ts. Follows Alike s.types ts own2.types) (sym (append-nil own.types)) follows.types; core_types = follows.core_types }

  no_more_both : ScopeFollows s (with_types own []) (with_types own2 [])
  no_more_both = grind (arith, append-nil)

-- types are of their kinds

pub alike_entry : (e : Entry) (w : Walk) (f : Fate) → Perhaps (Alike f e) (entry_edited e w)
alike_entry (defined t) w f =
    mapped defined (λ u h. record { of_values = refl; of_functions = refl; of_components = refl; of_instances = refl })
    (whatever {P = λ u. Unit {0}} (defined_edited w.own.types w.removal t) (λ u. tt))
alike_entry _ w f = gives _ (record { of_values = refl; of_functions = refl; of_components = refl; of_instances = refl })

plain_alike : (f : Fate) (e : Entry) → Alike f e (plain e)
plain_alike f (defined t) = record { of_values = refl; of_functions = refl; of_components = refl; of_instances = refl }
plain_alike f e = record { of_values = refl; of_functions = refl; of_components = refl; of_instances = refl }

alike_plain : (f : Fate) (e x : Entry) → Alike f e x → Alike f (plain e) (plain x)
alike_plain f e x a = grind (arith, plain_alike)

pub loose : (f g : Fate) (x y : Entry) → Alike f x y → Alike g x y
loose f g x y a = record { of_values = a.of_values; of_functions = a.of_functions; of_components = a.of_components; of_instances = a.of_instances }

loose_core : (f : Fate) (x y : CoreEntry) → AlikeCore f x y → AlikeCore Kept x y
loose_core f x y a = record { of_module = a.of_module; func = λ g e. let (h, is, tag) = a.func g e in (h, is, record { tag = tag.tag }) }

-- what declarations add

module _ (w : Walk) (own own2 : Scope) (outer outer2 : List Scope) (follows : WalkFollows w own own2 outer outer2) where
  pub alias_type : (count i : ℕ) (x : Entry) → type_named (own ∷ outer) count i ≡ Some x
      → Perhaps (λ j. (f : Fate) × (y : Entry) × (type_named (own2 ∷ outer2) count j ≡ Some y) × Alike f x y) (aliased_type w count i)
  alias_type count i x at = alias_follows Alike (λ s. s.types) (λ s. s.types) types_of _ _ _ (walk_scopes w own own2 outer outer2 follows) count i x at

  pub alias_core : (count i : ℕ) (x : CoreEntry) → core_type_named (own ∷ outer) count i ≡ Some x
      → Perhaps (λ j. (f : Fate) × (y : CoreEntry) × (core_type_named (own2 ∷ outer2) count j ≡ Some y) × AlikeCore f x y) (aliased_core_type w count i)
  alias_core count i x at =
      alias_follows AlikeCore (λ s. s.core_types) (λ s. s.core_types) cores_of _ _ _ (walk_scopes w own own2 outer outer2 follows) count i x at

  export_removed : (r : ComponentTypeRef) → FormedRef own r
      → ScopeFollows (if is_type_eq r then with_type w.own Removed else w.own) (with_types own (option_to_list (exported_type own r))) own2
  export_removed (to.TypeEq i) h =
      subst (λ ts. ScopeFollows (with_type w.own Removed) (with_types own (option_to_list ts)) own2) (sym h.1)
      (more_type_removed w.own own own2 follows.here h.0)
  export_removed r h = no_more w.own own own2 follows.here

  pub removed_after : (d : Decl) → FormedDeclaration d own outer → ScopeFollows (after_decl w.own d None) (scope_after outer own d) own2
  removed_after (core_type_decl t k) h = more_core_removed w.own own own2 follows.here t
  removed_after (type_decl e) h = more_type_removed w.own own own2 follows.here (plain e)
  removed_after (type_alias count i k) h =
      subst (λ ts. ScopeFollows (with_type w.own Removed) (with_types own (option_to_list ts)) own2) (sym h.1)
      (more_type_removed w.own own own2 follows.here h.0)
  removed_after (core_type_alias count i k) h =
      subst (λ ts. ScopeFollows (with_core_type w.own Removed) (with_core_types own (option_to_list ts)) own2) (sym h.1)
      (more_core_removed w.own own own2 follows.here h.0)
  removed_after (import_decl name n r) h = follows.here
  removed_after (export_decl name n r) h = export_removed r h

  -- a type that an index or an alias names, which is left
  pub named_type : (x y : Entry) (ts us : Option Entry) → ts ≡ Some x → us ≡ Some y → (f : Fate) → Alike f x y
      → ScopeFollows (with_type w.own Kept) (with_types own (option_to_list ts)) (with_types own2 (option_to_list us))
  named_type x y ts us at there f alike = rw (at, there) (more_type w.own own own2 follows.here x y (loose f Kept x y alike))

  pub named_core : (x y : CoreEntry) (ts us : Option CoreEntry) → ts ≡ Some x → us ≡ Some y → (f : Fate) → AlikeCore f x y
      → ScopeFollows (with_core_type w.own Kept) (with_core_types own (option_to_list ts)) (with_core_types own2 (option_to_list us))
  named_core x y ts us at there f alike = rw (at, there) (more_core w.own own own2 follows.here x y (loose_core f x y alike))

  pub export_kept : (r : ComponentTypeRef) → FormedRef own r
      → Perhaps (λ q. ScopeFollows (if is_type_eq r then with_type w.own Kept else w.own) (with_types own (option_to_list (exported_type own r)))
      (with_types own2 (option_to_list (exported_type own2 q)))) (ref_edited w.own r)
  export_kept (to.TypeEq i) h =
      mapped to.TypeEq (λ j f. named_type h.0 f.1 (slice_get own.types i) (slice_get own2.types j) h.1 f.2 f.0 f.3)
      (kind_ref w.own own own2 follows.here i h.0 h.1)
  export_kept (to.Module i) h = mapped to.Module (λ j f. no_more_both w.own own own2 follows.here) (some_index (new_index w.own.core_types i))
  export_kept r h = mapped _ (λ j f. no_more_both w.own own own2 follows.here) (some_index (new_index w.own.types _))

  pub core_after : (t : CoreEntry) → ScopeFollows (with_core_type w.own Kept) (one_core_type own t) (one_core_type own2 (core_edited w t))
  core_after t = more_core w.own own own2 follows.here t (core_edited w t) (alike_core t w Kept)

  pub type_after : (e x : Entry) → Alike Kept e x → ScopeFollows (with_type w.own Kept) (one_type own (plain e)) (one_type own2 (plain x))
  type_after e x a = more_type w.own own own2 follows.here (plain e) (plain x) (alike_plain Kept e x a)
