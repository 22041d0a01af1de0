-- Core types that remain well formed.
use Rattle.std.proofs.Common.{◌≡◌, ℕ, zero, suc, Bool, true, false, bytes_eq, List, [], ◌∷◌, ◌++◌, Option, None, Some, append-nil, map, ap, sym}
use Rattle.std.proofs.Common.{refl, subst, ◌∙◌, arith}
use Rattle.std.proofs.lemmas.Bool.Decides.{nat_tests}
use Rattle.std.proofs.lemmas.List.{map-append}
use Rattle.std.proofs.lemmas.List.Elements.{filter-append}
use Rattle.std.specs.Prelude.{slice_get}
use Rattle.std.specs.List.{filter}
use Rattle.std.specs.Option.{option_to_list}
use Rattle.smith_format.specs.CoreTypes.{Function}
use Rattle.smith_format.specs.Entities.{CoreImport}
use Rattle.smith_format.specs.declared.types.EntityType.{EntityType}
use Rattle.smith_format.specs.declared.types.EntityType.TheVariants.{Func, Table, Memory, Global, Tag}
use Rattle.smith_syntax.specs.Entries.{CoreEntry, ModuleDecl, aliases, core_func, core_module, declares, exports, imports}
use Rattle.smith_syntax.specs.ModuleTypes.{adds, aliased, func_in, is_tag_type, module_export_names, names_from}
use Rattle.smith_syntax.specs.WellFormed.{FormedCore, FormedDecl, FormedDecls, FormedEntity}
use Rattle.smith_edit.specs.Edited.{after_module_decl, after_one, core_edited, entity_edited, function_edited, module_decl_edited, rows}
use Rattle.smith_edit.specs.Items.{module_decl_items}
use Rattle.smith_edit.specs.Removal.{removes}
use Rattle.smith_edit.specs.Renumbering.{Renumbering, from, with_entry}
use Rattle.smith_edit.specs.Walk.{aliased as aliased_index}
use Rattle.smith_edit.specs.Walk.{Walk, aliased_core_type, entered, skipped}
use Rattle.smith_edit.specs.declared.walk.Removal.{Removal}
use Rattle.smith_edit.specs.declared.renumbering.Fate.{Fate}
use Rattle.smith_edit.specs.declared.renumbering.Fate.TheVariants.{Kept, Removed}
use Rattle.smith_edit.specs.declared.walk.Scope.{Scope as Spaces}
use Rattle.smith_edit.proofs.Alike.{AlikeCore, AlikeFunction}
use Rattle.smith_edit.proofs.Shorter.{members_fewer}
use Rattle.smith_edit.proofs.Follows.{Follows, follows_left, follows_removed, index_follows, none_yet}
use Rattle.smith_edit.proofs.Perhaps.{Perhaps, either, gives, mapped, more, nothing}
use Rattle.smith_edit.proofs.Sublists.{Sub, none, nothing_of, sub_append, sub_distinct, sub_same}

-- functions

tag_kept : (r : Removal) (f : Function) → is_tag_type f ≡ true → is_tag_type (function_edited r f) ≡ true
tag_kept r f h = grind (arith, members_fewer, nat_tests)

alike_function : (f : Fate) (r : Removal) (g : Function) → AlikeFunction f g (function_edited r g)
alike_function f r g = record { tag = tag_kept r g }

-- what a module type imports and exports

formed_entity : (s : Renumbering) (own next : List Function) → Follows AlikeFunction s own next → (e : EntityType) → FormedEntity own e
    → Perhaps (FormedEntity next) (entity_edited s e)
formed_entity s own next follows (Func i) h = mapped Func (λ j f. (f.1, f.2)) (index_follows AlikeFunction s own next follows i h.0 h.1)
formed_entity s own next follows (Tag t) h =
    mapped (λ i. Tag (record { func_type_idx = i })) (λ j f. (f.1, f.2, f.3.tag h.2)) (index_follows AlikeFunction s own next follows t.func_type_idx h.0 h.1)
formed_entity s own next follows (Table t) h = gives (Table t) h
formed_entity s own next follows (Memory m) h = gives (Memory m) h
formed_entity s own next follows (Global g) h = gives (Global g) h

-- names

import_names : (from : List ℕ) (d : ModuleDecl) (ds : List ModuleDecl) → names_from from (d ∷ ds) ≡ names_from from (d ∷ []) ++ names_from from ds
import_names from d ds = grind (arith, more, filter-append, map-append, append-nil)

same_name : (a n : List ℕ) (u t : EntityType) (b : Bool)
    → map (λ (x : CoreImport). x.1) (filter (λ x. b) ((a, n, u) ∷ [])) ≡ map (λ (x : CoreImport). x.1) (filter (λ x. b) ((a, n, t) ∷ []))
same_name a n u t true = refl
same_name a n u t false = refl

export_names : (d : ModuleDecl) (ds : List ModuleDecl) → module_export_names (d ∷ ds) ≡ module_export_names (d ∷ []) ++ module_export_names ds
export_names d ds = grind (arith, map-append, append-nil)

-- declarations of a module type, in the core types around it

pub record ModuleFollows (w : Walk) (around around2 : List CoreEntry) (own own2 : List Function) : Type 0 where
  pub types : Follows AlikeFunction w.own.core_types own own2
  pub scope : Spaces
  pub rest : List Spaces
  pub outer : w.outer ≡ scope ∷ rest
  pub core_types : Follows AlikeCore scope.core_types around around2

func_from : (o : Option CoreEntry) (f : Function) → func_in o ≡ Some f → (x : CoreEntry) × (o ≡ Some x) × (func_in (Some x) ≡ Some f)
func_from None f e = absurd cc
func_from (Some x) f e = (x, refl, e)

abbrev pub aliased_by : List Spaces → ℕ → ℕ → Option ℕ
aliased_by scopes count i = aliased_index (λ s. s.core_types) scopes count i

module _ (around around2 : List CoreEntry) where
  abbrev IsAliased : List Function → ℕ → Function → ℕ → Type 0
  IsAliased own2 count f j = (g : Function) × (aliased around2 own2 count j ≡ Some g) × AlikeFunction Kept f g

  alias_around : (w : Walk) (own own2 : List Function) → ModuleFollows w around around2 own own2 → (i : ℕ) (f : Function)
      → func_in (slice_get around i) ≡ Some f → Perhaps (IsAliased own2 1 f) (aliased_core_type w 1 i)
  alias_around w own own2 m i f h =
      let (x, at, is) = func_from (slice_get around i) f h in
      subst (λ ss. Perhaps (IsAliased own2 1 f) (aliased_by (w.own ∷ ss) 1 i)) (sym m.outer)
      (more
      (λ j k. let (g, g_is, same) = k.3.func f is in (g, ap func_in k.2 ∙ g_is, record { tag = same.tag }))
      (index_follows AlikeCore m.scope.core_types around around2 m.core_types i x at))

  formed_alias : (w : Walk) (own own2 : List Function) → ModuleFollows w around around2 own own2 → (count i : ℕ) (f : Function)
      → aliased around own count i ≡ Some f → Perhaps (IsAliased own2 count f) (aliased_core_type w count i)
  formed_alias w own own2 m zero i f h =
      more (λ j k. (k.1, k.2, record { tag = k.3.tag })) (index_follows AlikeFunction w.own.core_types own own2 m.types i f h)
  formed_alias w own own2 m (suc zero) i f h = alias_around w own own2 m i f h
  formed_alias w own own2 m (suc (suc n)) i f h = absurd cc

  -- what a declaration adds, which is removed, and which remains

  alias_adds : (c : List CoreEntry) (own : List Function) (count i : ℕ) (f : Function) → aliased c own count i ≡ Some f → adds c own (aliases count i) ≡ f ∷ []
  alias_adds c own count i f h = ap (λ o. option_to_list o ++ []) h

  removed_follows : (s : Spaces) (own own2 : List Function) → Follows AlikeFunction s.core_types own own2 → (d : ModuleDecl) → FormedDecl around own d
      → Follows AlikeFunction (after_module_decl s d None).core_types (own ++ adds around own d) own2
  removed_follows s own own2 m (declares f) h = follows_removed AlikeFunction s.core_types own own2 f m
  removed_follows s own own2 m (aliases count i) h =
      subst (λ xs. Follows AlikeFunction (with_entry s.core_types Removed) (own ++ xs) own2) (sym (alias_adds around own count i h.0 h.1))
      (follows_removed AlikeFunction s.core_types own own2 h.0 m)
  removed_follows s own own2 m d h = subst (λ xs. Follows AlikeFunction s.core_types xs own2) (sym (append-nil own)) m

  -- what it becomes, if it remains
  record DeclStays (w : Walk) (own own2 : List Function) (d e : ModuleDecl) : Type 0 where
    formed : FormedDecl around2 own2 e
    follows : Follows AlikeFunction (after_module_decl w.own d (Some e)).core_types (own ++ adds around own d) (own2 ++ adds around2 own2 e)
    imported : (from : List ℕ) → names_from from (e ∷ []) ≡ names_from from (d ∷ [])
    exported : module_export_names (e ∷ []) ≡ module_export_names (d ∷ [])

  nothing_more : (w : Walk) (own own2 : List Function) → ModuleFollows w around around2 own own2
      → Follows AlikeFunction w.own.core_types (own ++ []) (own2 ++ [])
  nothing_more w own own2 m = rw (append-nil own, append-nil own2) m.types

  kept_decl : (w : Walk) (own own2 : List Function) → ModuleFollows w around around2 own own2 → (d : ModuleDecl) → FormedDecl around own d
      → Perhaps (DeclStays w own own2 d) (module_decl_edited w d)
  kept_decl w own own2 m (declares f) h = gives _ (record {
    formed = tt;
    follows = follows_left AlikeFunction Kept tt w.own.core_types own own2 f (function_edited w.removal f) m.types (alike_function Kept w.removal f);
    imported = λ from. refl;
    exported = refl;
  })
  kept_decl w own own2 m (aliases count i) h =
      mapped (aliases count)
      (λ j k. record {
        formed = (k.0, k.1);
        follows = rw (alias_adds around own count i h.0 h.1, alias_adds around2 own2 count j k.0 k.1)
            (follows_left AlikeFunction Kept tt w.own.core_types own own2 h.0 k.0 m.types k.2);
        imported = λ from. refl;
        exported = refl;
      })
      (formed_alias w own own2 m count i h.0 h.1)
  kept_decl w own own2 m (imports a n t) h =
      mapped (imports a n)
      (λ x k. record { formed = k; follows = nothing_more w own own2 m; imported = λ from. same_name a n x t (bytes_eq a from); exported = refl })
      (formed_entity w.own.core_types own own2 m.types t h)
  kept_decl w own own2 m (exports n t) h =
      mapped (exports n) (λ x k. record { formed = k; follows = nothing_more w own own2 m; imported = λ from. refl; exported = refl })
      (formed_entity w.own.core_types own own2 m.types t h)

  -- declarations, and the names among them
  record DeclsStay (own2 : List Function) (ds es : List ModuleDecl) : Type 0 where
    formed : FormedDecls around2 own2 es
    imported : (from : List ℕ) → Sub (names_from from es) (names_from from ds)
    exported : Sub (module_export_names es) (module_export_names ds)

  -- a declaration, and the ones after it
  decl_then : (w : Walk) (own own2 : List Function) → ModuleFollows w around around2 own own2 → (d : ModuleDecl) → FormedDecl around own d
      → {o : Option ModuleDecl} → Perhaps (DeclStays w own own2 d) o → (ds later : List ModuleDecl)
      → ((own3 : List Function) → Follows AlikeFunction (after_module_decl w.own d o).core_types (own ++ adds around own d) own3
      → DeclsStay own3 ds later)
      → DeclsStay own2 (d ∷ ds) (option_to_list o ++ later)
  decl_then w own own2 m d h (nothing why) ds later go =
      let rest = go own2 (removed_follows w.own own own2 m.types d h) in
      record {
        formed = rest.formed;
        imported = λ from. rw (import_names from d ds)
            (sub_append [] (names_from from (d ∷ [])) _ _ (nothing_of (names_from from (d ∷ []))) (rest.imported from));
        exported = rw (export_names d ds)
            (sub_append [] (module_export_names (d ∷ [])) _ _ (nothing_of (module_export_names (d ∷ []))) rest.exported);
      }
  decl_then w own own2 m d h (gives e k) ds later go =
      let rest = go (own2 ++ adds around2 own2 e) k.follows in
      record {
        formed = (k.formed, rest.formed);
        imported = λ from. rw (import_names from d ds, import_names from e later, k.imported from)
            (sub_append _ _ _ _ (sub_same (names_from from (d ∷ []))) (rest.imported from));
        exported = rw (export_names d ds, export_names e later, k.exported)
            (sub_append _ _ _ _ (sub_same (module_export_names (d ∷ []))) rest.exported);
      }

  formed_rows : (ds : List ModuleDecl) (w : Walk) (own own2 : List Function) → ModuleFollows w around around2 own own2 → FormedDecls around own ds
      → DeclsStay own2 ds (rows module_decl_items module_decl_edited after_module_decl w ds)
  formed_rows [] w own own2 m h = record { formed = tt; imported = λ from. none; exported = none }
  formed_rows (d ∷ ds) w own own2 m h =
      let v : Walk = after_one module_decl_items module_decl_edited after_module_decl w d in
      let skipping : ModuleFollows (skipped 1 w) around around2 own own2 =
      record { types = m.types; scope = m.scope; rest = m.rest; outer = m.outer; core_types = m.core_types } in
      decl_then (skipped 1 w) own own2 skipping d h.0
      (either (removes w.removal) (nothing tt) (kept_decl (skipped 1 w) own own2 skipping d h.0)) ds
      (rows module_decl_items module_decl_edited after_module_decl v ds)
      (λ own3 f. formed_rows ds v (own ++ adds around own d) own3
      (record { types = f; scope = m.scope; rest = m.rest; outer = m.outer; core_types = m.core_types }) h.1)

-- core types

entered_follows : (w : Walk) (around around2 : List CoreEntry) → Follows AlikeCore w.own.core_types around around2
    → ModuleFollows (entered w) around around2 [] []
entered_follows w around around2 f = record { types = none_yet AlikeFunction 0 [] refl; scope = w.own; rest = w.outer; outer = refl; core_types = f }

pub formed_core : (t : CoreEntry) (w : Walk) (around around2 : List CoreEntry) → Follows AlikeCore w.own.core_types around around2 → FormedCore t around
    → FormedCore (core_edited w t) around2
formed_core (core_func f) w around around2 follows h = tt
formed_core (core_module ds) w around around2 follows h =
    let new = formed_rows around around2 ds (entered w) [] [] (entered_follows w around around2 follows) h.0 in (
      new.formed,
      record {
        imported = λ from. sub_distinct bytes_eq _ _ (new.imported from) (h.1.imported from);
        exported = sub_distinct bytes_eq _ _ new.exported h.1.exported;
      },
    )

pub alike_core : (t : CoreEntry) (w : Walk) (f : Fate) → AlikeCore f t (core_edited w t)
alike_core (core_func g) w f = record {
  of_module = refl;
  func = λ h e. let is : g ≡ h = cc in subst
      (λ x. (y : Function) × (func_in (Some (core_func (function_edited w.removal g))) ≡ Some y) × AlikeFunction f x y) is
      (function_edited w.removal g, refl, alike_function f w.removal g);
}
alike_core (core_module ds) w f = record { of_module = refl; func = λ h e. absurd cc }
