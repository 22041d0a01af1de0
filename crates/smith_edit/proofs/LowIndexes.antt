-- New indexes that are no greater than the old ones.
use Rattle.std.proofs.Common.{◌≡◌, ℕ, zero, suc, ◌+◌, ◌≤◌, ◌⊎◌, Bool, true, false, List, [], ◌∷◌, ◌++◌, Option, None, Some, inl, inr, length, length-append}
use Rattle.std.proofs.Common.{ap, refl, subst, arith}
use Rattle.std.proofs.Common.{⊎_elim}
use Rattle.std.specs.Prelude.{if◌then◌else◌, slice_get}
use Rattle.std.specs.Option.{is_some}
use Rattle.smith_format.specs.Piece.{Piece}
use Rattle.smith_syntax.specs.Entries.{CoreEntry, Decl, Entry, ImportEntry, ModuleDecl}
use Rattle.smith_syntax.specs.Entries.{exports, imports}
use Rattle.smith_syntax.specs.Entries.{type_decl, type_alias, import_decl, export_decl}
use Rattle.smith_syntax.specs.WellFormed.{is_type_eq}
use Rattle.smith_syntax.specs.declared.deftype.ComponentTypeRef.{ComponentTypeRef}
use Rattle.smith_syntax.specs.declared.deftype.ComponentTypeRef.TheVariants as to
use Rattle.smith_tree.specs.Tree.{Canon, ExportEntry, lift, lower}
use Rattle.smith_edit.specs.Edited.{after_canon, after_core, after_decl, after_export, after_import, after_module_decl, after_ref, after_type}
use Rattle.smith_edit.specs.Renumbering.{Renumbering, after, entry_at, fate_if, index_kept, index_left, kept_index, new_index, with_entry}
use Rattle.smith_edit.specs.Walk.{Walk, aliased, entered, new_scope, with_core_function, with_core_type, with_function, with_type}
use Rattle.smith_edit.specs.declared.renumbering.Fate.{Fate}
use Rattle.smith_edit.specs.declared.renumbering.Fate.TheVariants.{Kept, Removed}
use Rattle.smith_edit.specs.declared.renumbering.Renumbered.{Renumbered}
use Rattle.smith_edit.specs.declared.walk.Scope.{Scope}
use Rattle.smith_edit.proofs.Perhaps.{gives, nothing}
use Rattle.smith_edit.proofs.Shorter.{Left, NoLonger}

pub record Low (s : Renumbering) : Type 0 where
  pub next : s.next ≤ length s.entries
  pub entries : (i : ℕ) (e : Renumbered) → slice_get s.entries i ≡ Some e → e.index ≤ i

pub record LowScope (s : Scope) : Type 0 where
  pub types : Low s.types
  pub core_types : Low s.core_types
  pub functions : Low s.functions
  pub core_functions : Low s.core_functions

pub record LowWalk (w : Walk) : Type 0 where
  pub own : LowScope w.own
  pub outer : (count : ℕ) (s : Scope) → slice_get w.outer count ≡ Some s → LowScope s

-- an index

abbrev pub entry_or : Option Renumbered → ℕ → Renumbered
entry_or o i = elim o [ None ↦ record { index = i; fate = Kept } | Some e ↦ e ]

entry_of : (o : Option Renumbered) (i : ℕ) → ((e : Renumbered) → o ≡ Some e → e.index ≤ i) → (entry_or o i).index ≤ i
entry_of None i h = omega arith
entry_of (Some e) i h = h e refl

entry_low : (s : Renumbering) (i : ℕ) → Low s → (entry_at s i).index ≤ i
entry_low s i l = entry_of (slice_get s.entries i) i (l.entries i)

module _ (piece : ℕ → Piece) (grow : (i j : ℕ) → i ≤ j → NoLonger (piece i) (piece j)) where
  new_by : (f : Fate) (j i : ℕ) → j ≤ i → Left piece (index_left (record { index = j; fate = f })) (piece i)
  new_by Removed j i h = nothing tt
  new_by f j i h = gives j (grow j i h)

  kept_by : (f : Fate) (j i : ℕ) → j ≤ i → Left piece (index_kept (record { index = j; fate = f })) (piece i)
  kept_by Kept j i h = gives j (grow j i h)
  kept_by f j i h = nothing tt

  pub new_left : (s : Renumbering) (i : ℕ) → Low s → Left piece (new_index s i) (piece i)
  new_left s i l = new_by (entry_at s i).fate (entry_at s i).index i (entry_low s i l)

  pub kept_left : (s : Renumbering) (i : ℕ) → Low s → Left piece (kept_index s i) (piece i)
  kept_left s i l = kept_by (entry_at s i).fate (entry_at s i).index i (entry_low s i l)

  aliased_by : (space : Scope → Renumbering) (o : Option Scope) (i : ℕ) → ((s : Scope) → o ≡ Some s → Low (space s))
      → Left piece (elim o [ None ↦ Some i | Some s ↦ new_index (space s) i ]) (piece i)
  aliased_by space None i h = gives i (grow i i (omega arith))
  aliased_by space (Some s) i h = new_left (space s) i (h s refl)

  pub aliased_left : (space : Scope → Renumbering) → ((s : Scope) → LowScope s → Low (space s)) → (w : Walk) (count i : ℕ) → LowWalk w
      → Left piece (aliased space (w.own ∷ w.outer) count i) (piece i)
  aliased_left space of w zero i l = new_left (space w.own) i (of w.own l.own)
  aliased_left space of w (suc n) i l = aliased_by space (slice_get w.outer n) i (λ s e. of s (l.outer n s e))

-- one more entry

pub get_more : {A : Type 0} (xs : List A) (x e : A) (i : ℕ) → slice_get (xs ++ x ∷ []) i ≡ Some e → (slice_get xs i ≡ Some e) ⊎ ((i ≡ length xs) × (x ≡ e))
get_more [] x e zero h = inr (refl, cc)
get_more [] x e (suc i) h = absurd cc
get_more (y ∷ ys) x e zero h = inl h
get_more (y ∷ ys) x e (suc i) h = ⊎_elim (λ l. inl l) (λ r. inr (ap suc r.0, r.1)) (get_more ys x e i h)

after_low : (n : ℕ) (f : Fate) → after n f ≤ n + 1
after_low n Kept = omega arith
after_low n f = omega arith

entry_more : (s : Renumbering) (f : Fate) → Low s → (i : ℕ) (e : Renumbered) → slice_get (with_entry s f).entries i ≡ Some e → e.index ≤ i
entry_more s f l i e h =
    ⊎_elim (l.entries i e)
    (λ r. let is : s.next ≡ e.index = ap (λ (x : Renumbered). x.index) r.1 in omega (arith, r.0, is, l.next))
    (get_more s.entries (record { index = s.next; fate = f }) e i h)

pub low_more : (s : Renumbering) (f : Fate) → Low s → Low (with_entry s f)
low_more s f l = record {
  next = omega (arith, after_low s.next f, l.next, length-append s.entries (record { index = s.next; fate = f } ∷ []));
  entries = entry_more s f l;
}

like_by : (s : Renumbering) (o : Option Renumbered) (remains : Bool) → Low s → Low (elim o [ None ↦ s | Some e ↦ with_entry s (fate_if remains e.fate) ])
like_by s None remains l = l
like_by s (Some e) remains l = low_more s (fate_if remains e.fate) l

pub low_types : (s : Scope) (f : Fate) → LowScope s → LowScope (with_type s f)
low_types s f l = record { types = low_more s.types f l.types; core_types = l.core_types; functions = l.functions; core_functions = l.core_functions }

pub low_core_types : (s : Scope) (f : Fate) → LowScope s → LowScope (with_core_type s f)
low_core_types s f l = record { types = l.types; core_types = low_more s.core_types f l.core_types; functions = l.functions; core_functions = l.core_functions }

low_functions : (s : Scope) (f : Fate) → LowScope s → LowScope (with_function s f)
low_functions s f l = record { types = l.types; core_types = l.core_types; functions = low_more s.functions f l.functions; core_functions = l.core_functions }

low_core_functions : (s : Scope) (f : Fate) → LowScope s → LowScope (with_core_function s f)
low_core_functions s f l = record {
  types = l.types;
  core_types = l.core_types;
  functions = l.functions;
  core_functions = low_more s.core_functions f l.core_functions;
}

-- what entries add

pub adds_module_decl : (s : Scope) (d : ModuleDecl) (new : Option ModuleDecl) → LowScope s → LowScope (after_module_decl s d new)
adds_module_decl s (imports m n e) new l = l
adds_module_decl s (exports n e) new l = l
adds_module_decl s d new l = low_core_types s _ l

adds_export : (s : Scope) (b : Bool) (f : Fate) → LowScope s → LowScope (if b then with_type s f else s)
adds_export s true f l = low_types s f l
adds_export s false f l = l

pub adds_decl : (s : Scope) (d : Decl) (new : Option Decl) → LowScope s → LowScope (after_decl s d new)
adds_decl s (type_decl e) new l = low_types s _ l
adds_decl s (type_alias count i k) new l = low_types s _ l
adds_decl s (import_decl name n r) new l = l
adds_decl s (export_decl name n r) new l = adds_export s (is_type_eq r) (fate_if (is_some new) Kept) l
adds_decl s d new l = low_core_types s _ l

pub adds_core : (s : Scope) (t : CoreEntry) (new : Option CoreEntry) → LowScope s → LowScope (after_core s t new)
adds_core s t new l = low_core_types s _ l

pub adds_type : (s : Scope) (e : Entry) (new : Option Entry) → LowScope s → LowScope (after_type s e new)
adds_type s e new l = low_types s _ l

pub adds_canon : (s : Scope) (c : Canon) (new : Option Canon) → LowScope s → LowScope (after_canon s c new)
adds_canon s (lift c t) new l = low_functions s _ l
adds_canon s (lower f) new l = low_core_functions s _ l

adds_ref : (s : Scope) (r : ComponentTypeRef) (remains : Bool) → LowScope s → LowScope (after_ref s r remains)
adds_ref s (to.Func i) remains l = low_functions s _ l
adds_ref s r remains l = l

pub adds_import : (s : Scope) (i : ImportEntry) (new : Option ImportEntry) → LowScope s → LowScope (after_import s i new)
adds_import s i new l = adds_ref s i.to (is_some new) l

pub adds_export_entry : (s : Scope) (e : ExportEntry) (new : Option ExportEntry) → LowScope s → LowScope (after_export s e new)
adds_export_entry s e new l = record {
  types = l.types;
  core_types = l.core_types;
  functions = like_by s.functions (slice_get s.functions.entries e.func) (is_some new) l.functions;
  core_functions = l.core_functions;
}

-- scopes

no_entry : (i : ℕ) (e : Renumbered) → slice_get [] i ≡ Some e → e.index ≤ i
no_entry i e h = absurd cc

empty_low : Low (record { next = 0; entries = [] })
empty_low = record { next = omega arith; entries = λ i e h. no_entry i e h }

pub low_new : LowScope new_scope
low_new = record { types = empty_low; core_types = empty_low; functions = empty_low; core_functions = empty_low }

outer_more : (w : Walk) → LowWalk w → (count : ℕ) (s : Scope) → slice_get (w.own ∷ w.outer) count ≡ Some s → LowScope s
outer_more w l zero s e = let is : w.own ≡ s = cc in subst LowScope is l.own
outer_more w l (suc n) s e = l.outer n s e

pub low_entered : (w : Walk) → LowWalk w → LowWalk (entered w)
low_entered w l = record { own = low_new; outer = outer_more w l }

pub no_scope : (count : ℕ) (s : Scope) → slice_get [] count ≡ Some s → LowScope s
no_scope count s e = absurd cc
