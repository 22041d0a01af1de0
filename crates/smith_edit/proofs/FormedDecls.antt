-- What types declare, which remains well formed.
use Rattle.std.proofs.Common.{◌≡◌, ℕ, List, [], ◌∷◌, Option, Some, length, map, ap, refl, ◌∙◌, arith}
use Rattle.smith_syntax.specs.Entries.{Decl, Decls, Entry, Signature, defined, function, component_type, instance_type}
use Rattle.smith_syntax.specs.Entries.{core_type_decl, type_decl, type_alias, core_type_alias, import_decl, export_decl, no_decls, then_decls}
use Rattle.smith_syntax.specs.Scope.{Scope, after_decl as scope_after, empty_scope}
use Rattle.smith_syntax.specs.WellFormed.{FormedDeclaration, FormedDeclarations, FormedEntry, decl_exports, decl_imports, export_of, import_of}
use Rattle.smith_edit.specs.Edited.{after_decl, and_decl, decl_edited, decls_edited, entry_edited, field_edited, signature_edited}
use Rattle.smith_edit.specs.Removal.{past, removes}
use Rattle.smith_edit.specs.Walk.{Walk, entered, skipped}
use Rattle.smith_edit.specs.declared.renumbering.Fate.TheVariants.{Kept}
use Rattle.smith_edit.proofs.Alike.{ScopeFollows, formed_defined, formed_fields, formed_optional}
use Rattle.smith_edit.proofs.Editing.{after_next}
use Rattle.smith_edit.proofs.Shorter.{members_fewer}
use Rattle.smith_edit.proofs.FormedCores.{formed_core}
use Rattle.smith_edit.proofs.FormedTypes.{WalkFollows, alias_core, alias_type, alike_entry, core_after, entered_follows, export_kept, formed_ref, named_core}
use Rattle.smith_edit.proofs.FormedTypes.{named_type, removed_after, skipped_follows, type_after}
use Rattle.smith_edit.proofs.Perhaps.{Perhaps, both, either, gives, mapped, nothing}
use Rattle.smith_edit.proofs.Sublists.{Sub, keep, named_sub, none, nothing_of, skip, sub_append, sub_same}

-- names

sub_map : {A B : Type 0} (f : A → B) (ys xs : List A) → Sub ys xs → Sub (map f ys) (map f xs)
sub_map f _ _ none = none
sub_map f _ _ (skip x ys xs s) = skip (f x) (map f ys) (map f xs) (sub_map f ys xs s)
sub_map f _ _ (keep x ys xs s) = keep (f x) (map f ys) (map f xs) (sub_map f ys xs s)

sub_none : {A : Type 0} (ys xs : List A) → Sub ys xs → xs ≡ [] → ys ≡ []
sub_none _ _ none e = refl
sub_none _ _ (skip x ys xs s) e = absurd cc
sub_none _ _ (keep x ys xs s) e = absurd cc

-- what a declaration imports and exports
abbrev named_of : Decl → List (List ℕ × Unit {0}) × List (List ℕ × Unit {0})
named_of d = (import_of d, export_of d)

-- what a declaration becomes, if it remains
record Stays (d : Decl) (w : Walk) (own own2 : Scope) (outer outer2 : List Scope) (x : Decl) : Type 0 where
  formed : FormedDeclaration x own2 outer2
  follows : ScopeFollows (after_decl w.own d (Some x)) (scope_after outer own d) (scope_after outer2 own2 x)
  names : named_of x ≡ named_of d

-- what declarations become
record Formed (ds : Decls) (own2 : Scope) (outer2 : List Scope) (es : Decls) : Type 0 where
  formed : FormedDeclarations es own2 outer2
  imports : Sub (decl_imports es) (decl_imports ds)
  exports : Sub (decl_exports es) (decl_exports ds)

-- function types

formed_function : (w : Walk) (own own2 : Scope) → ScopeFollows w.own own own2 → (g : Signature) (outer outer2 : List Scope)
    → FormedEntry (function g) own outer → FormedEntry (function (signature_edited w.own.types w.removal g)) own2 outer2
formed_function w own own2 f g outer outer2 h =
    let kept = formed_fields w.own.types own own2 f.types w.removal g.params h.1 in
    let few = members_fewer (field_edited w.own.types) w.removal g.params in (
      named_sub _ _ kept.0 h.0,
      kept.1,
      omega (arith, few, h.2),
      formed_optional w.own.types own own2 f.types (past (length g.params) w.removal) g.result h.3,
    )

-- a declaration, and the ones after it
decl_then : (d : Decl) (w : Walk) (own own2 : Scope) (outer outer2 : List Scope) → WalkFollows w own own2 outer outer2 → FormedDeclaration d own outer
    → {o : Option Decl} → Perhaps (Stays d w own own2 outer outer2) o → (ds later : Decls)
    → ((own3 : Scope) → ScopeFollows (after_decl w.own d o) (scope_after outer own d) own3 → Formed ds own3 outer2 later)
    → Formed (then_decls d ds) own2 outer2 (and_decl o later)
decl_then d w own own2 outer outer2 f h (nothing why) ds later go =
    let rest = go own2 (removed_after w own own2 outer outer2 f d h) in
    record {
      formed = rest.formed;
      imports = sub_append [] (import_of d) _ _ (nothing_of (import_of d)) rest.imports;
      exports = sub_append [] (export_of d) _ _ (nothing_of (export_of d)) rest.exports;
    }
decl_then d w own own2 outer outer2 f h (gives x k) ds later go =
    let rest = go (scope_after outer2 own2 x) k.follows in
    record {
      formed = (k.formed, rest.formed);
      imports = sub_append (import_of x) (import_of d) _ _ (rw (ap (λ n. n.0) k.names) (sub_same (import_of d))) rest.imports;
      exports = sub_append (export_of x) (export_of d) _ _ (rw (ap (λ n. n.1) k.names) (sub_same (export_of d))) rest.exports;
    }

mutual
  pub formed_entry : (e : Entry) (w : Walk) (own own2 : Scope) (outer outer2 : List Scope) → WalkFollows w own own2 outer outer2 → FormedEntry e own outer
      → Perhaps (λ x. FormedEntry x own2 outer2) (entry_edited e w)
  formed_entry (defined t) w own own2 outer outer2 f h =
      mapped defined (λ u k. k) (formed_defined w.own.types own own2 f.here.types w.removal t h)
  formed_entry (function g) w own own2 outer outer2 f h = gives _ (formed_function w own own2 f.here g outer outer2 h)
  formed_entry (component_type ds) w own own2 outer outer2 f h =
      let new = formed_decls ds (entered w) empty_scope empty_scope (own ∷ outer) (own2 ∷ outer2) (entered_follows w own own2 outer outer2 f) h.0 in
      gives _ (new.formed, named_sub _ _ (sub_map (λ y. y.0) _ _ new.imports) h.1, named_sub _ _ (sub_map (λ y. y.0) _ _ new.exports) h.2)
  formed_entry (instance_type ds) w own own2 outer outer2 f h =
      let new = formed_decls ds (entered w) empty_scope empty_scope (own ∷ outer) (own2 ∷ outer2) (entered_follows w own own2 outer outer2 f) h.0 in
      gives _ (new.formed, sub_none _ _ new.imports h.1, named_sub _ _ (sub_map (λ y. y.0) _ _ new.exports) h.2)

  formed_decl : (d : Decl) (w : Walk) (own own2 : Scope) (outer outer2 : List Scope) → WalkFollows w own own2 outer outer2 → FormedDeclaration d own outer
      → Perhaps (Stays d w own own2 outer outer2) (decl_edited d w)
  formed_decl (core_type_decl t k) w own own2 outer outer2 f h = gives _ (record {
    formed = formed_core t w own.core_types own2.core_types f.here.core_types h;
    follows = core_after w own own2 outer outer2 f t;
    names = refl;
  })
  formed_decl (type_decl t) w own own2 outer outer2 f h =
      mapped type_decl (λ u k. record { formed = k.0; follows = type_after w own own2 outer outer2 f t u k.1; names = refl })
      (both (formed_entry t w own own2 outer outer2 f h) (alike_entry t w Kept))
  formed_decl (type_alias count i k) w own own2 outer outer2 f h =
      mapped (λ j. type_alias count j k) (λ j l. record {
        formed = (l.1, l.2);
        follows = named_type w own own2 outer outer2 f h.0 l.1 _ _ h.1 l.2 l.0 l.3;
        names = refl;
      }) (alias_type w own own2 outer outer2 f count i h.0 h.1)
  formed_decl (core_type_alias count i k) w own own2 outer outer2 f h =
      mapped (λ j. core_type_alias count j k) (λ j l. record {
        formed = (l.1, l.2);
        follows = named_core w own own2 outer outer2 f h.0 l.1 _ _ h.1 l.2 l.0 l.3;
        names = refl;
      }) (alias_core w own own2 outer outer2 f count i h.0 h.1)
  formed_decl (import_decl name n r) w own own2 outer outer2 f h =
      mapped (import_decl name n) (λ q k. record { formed = (k.0, k.1 ∙ h.1); follows = f.here; names = refl }) (formed_ref w.own own own2 f.here r h.0)
  formed_decl (export_decl name n r) w own own2 outer outer2 f h =
      mapped (export_decl name n) (λ q k. record { formed = k.0.0; follows = k.1; names = refl })
      (both (formed_ref w.own own own2 f.here r h) (export_kept w own own2 outer outer2 f r h))

  formed_decls : (ds : Decls) (w : Walk) (own own2 : Scope) (outer outer2 : List Scope) → WalkFollows w own own2 outer outer2 → FormedDeclarations ds own outer
      → Formed ds own2 outer2 (decls_edited ds w)
  formed_decls no_decls w own own2 outer outer2 f h = record { formed = tt; imports = none; exports = none }
  formed_decls (then_decls d ds) w own own2 outer outer2 f h =
      let g = skipped_follows 1 w own own2 outer outer2 f in
      decl_then d (skipped 1 w) own own2 outer outer2 g h.0
      (either (removes w.removal) (nothing tt) (formed_decl d (skipped 1 w) own own2 outer outer2 g h.0)) ds (decls_edited ds (after_next w d))
      (λ own3 s. formed_decls ds (after_next w d) (scope_after outer own d) own3 outer outer2 (record { here = s; around = f.around }) h.1)
