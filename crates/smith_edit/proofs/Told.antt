-- What is left is not gone for what refers to it.
use Rattle.std.proofs.Common.{◌≡◌, ℕ, ◌<◌, Bool, true, false, cond, nat_eq, [], ◌∷◌, Option, Some, None, length, refl, sym, ap, ◌∙◌}
use Rattle.std.proofs.Common.{arith}
use Rattle.std.proofs.lemmas.Option.{slice_get_past}
use Rattle.std.specs.Prelude.{slice_get}
use Rattle.smith_syntax.specs.Entries.{CoreEntry, Decl, Entry, ImportEntry, ModuleDecl}
use Rattle.smith_syntax.specs.Entries.{exports, imports}
use Rattle.smith_syntax.specs.Entries.{type_decl, type_alias, import_decl, export_decl}
use Rattle.smith_syntax.specs.WellFormed.{is_type_eq}
use Rattle.smith_syntax.specs.declared.deftype.ComponentTypeRef.{ComponentTypeRef}
use Rattle.smith_syntax.specs.declared.deftype.ComponentTypeRef.TheVariants as to
use Rattle.smith_tree.specs.Tree.{Canon, lift, lower, ExportEntry}
use Rattle.smith_edit.specs.Edited.{after_canon, after_core, after_decl, after_export, after_import, after_module_decl, after_ref, after_type}
use Rattle.smith_edit.specs.Edited.{export_edited, import_edited, ref_edited, type_fate}
use Rattle.smith_edit.specs.Goes.{IsGone}
use Rattle.smith_edit.specs.Items.{function_members}
use Rattle.smith_edit.specs.Renumbering.{Renumbering, entry_at, index_left, new_index, with_entry, with_like}
use Rattle.smith_edit.specs.Walk.{Walk, with_type}
use Rattle.smith_edit.specs.declared.renumbering.Fate.{Fate}
use Rattle.smith_edit.specs.declared.renumbering.Fate.TheVariants.{Kept, Changed, Removed}
use Rattle.smith_edit.specs.declared.renumbering.Renumbered.{Renumbered}
use Rattle.smith_edit.specs.declared.walk.Scope.{Scope}
use Rattle.smith_edit.proofs.Follows.{entry_there, get_last}
use Rattle.smith_edit.proofs.LowIndexes.{entry_or}
use Rattle.smith_edit.proofs.Perhaps.{Perhaps, given, gives, mapped, nothing, whatever}
use Rattle.smith_scope.proofs.Places.{get_left as get_before}

-- places in a list

-- what is told of the entries before stays
pub told_before : (s : Renumbering) (f : Fate) (i : ℕ) → i < length s.entries → entry_at (with_entry s f) i ≡ entry_at s i
told_before s f i h = ap (λ (o : Option Renumbered). entry_or o i) (get_before s.entries (record { index = s.next; fate = f } ∷ []) i h)

-- what is told of one more

kept_remains : (f : Fate) → f ≡ Kept → ¬ (f ≡ Removed)
kept_remains f k g = let e : Kept ≡ Removed = sym k ∙ g in absurd cc

pub not_gone : (s : Renumbering) (f : Fate) → ¬ (f ≡ Removed) → ¬ (IsGone (with_entry s f) (length s.entries))
not_gone s f h g = grind (arith, entry_there, get_last)

pub kept_not_gone : (s : Renumbering) → ¬ (IsGone (with_entry s Kept) (length s.entries))
kept_not_gone s = not_gone s Kept (kept_remains Kept refl)

-- none more
pub none_gone : (s : Renumbering) → ¬ (IsGone s (length s.entries))
none_gone s g = kept_remains (entry_at s (length s.entries)).fate
    (ap (λ (o : Option Renumbered). (entry_or o (length s.entries)).fate) (slice_get_past s.entries (length s.entries) (omega arith))) g

-- entries

pub type_told : (s : Scope) (e new : Entry) → ¬ (IsGone (after_type s e (Some new)).types (length s.types.entries))
type_told s e new = not_gone s.types (type_fate e (Some new)) (go (nat_eq (function_members new) (function_members e)))
  where
    go : (b : Bool) → ¬ (cond b Kept Changed ≡ Removed)
    go true g = absurd cc
    go false g = absurd cc

pub core_told : (s : Scope) (t new : CoreEntry) → ¬ (IsGone (after_core s t (Some new)).core_types (length s.core_types.entries))
core_told s t new = kept_not_gone s.core_types

pub canon_told : (s : Scope) (f new : Canon) → (¬ (IsGone (after_canon s f (Some new)).functions (length s.functions.entries)))
    × (¬ (IsGone (after_canon s f (Some new)).core_functions (length s.core_functions.entries)))
canon_told s (lift c t) new = (kept_not_gone s.functions, none_gone s.core_functions)
canon_told s (lower f) new = (none_gone s.functions, kept_not_gone s.core_functions)

pub decl_told : (s : Scope) (d new : Decl) → (¬ (IsGone (after_decl s d (Some new)).types (length s.types.entries)))
    × (¬ (IsGone (after_decl s d (Some new)).core_types (length s.core_types.entries)))
decl_told s (type_decl e) new = (kept_not_gone s.types, none_gone s.core_types)
decl_told s (type_alias count i k) new = (kept_not_gone s.types, none_gone s.core_types)
decl_told s (import_decl name n r) new = (none_gone s.types, none_gone s.core_types)
decl_told s (export_decl name n r) new = go (is_type_eq r)
  where
    go : (b : Bool) → (¬ (IsGone (cond b (with_type s Kept) s).types (length s.types.entries)))
        × (¬ (IsGone (cond b (with_type s Kept) s).core_types (length s.core_types.entries)))
    go true = (kept_not_gone s.types, none_gone s.core_types)
    go false = (none_gone s.types, none_gone s.core_types)
decl_told s d new = (none_gone s.types, kept_not_gone s.core_types)

pub module_decl_told : (s : Scope) (d new : ModuleDecl) → ¬ (IsGone (after_module_decl s d (Some new)).core_types (length s.core_types.entries))
module_decl_told s (imports m n e) new = none_gone s.core_types
module_decl_told s (exports n e) new = none_gone s.core_types
module_decl_told s d new = kept_not_gone s.core_types

-- what has a new index is not gone

index_by : (f : Fate) (n : ℕ) → Perhaps (λ j. ¬ (f ≡ Removed)) (index_left (record { index = n; fate = f }))
index_by Removed n = nothing tt
index_by f n = gives n (λ g. absurd cc)

index_told : (s : Renumbering) (i : ℕ) → Perhaps (λ j. ¬ (IsGone s i)) (new_index s i)
index_told s i = index_by (entry_at s i).fate (entry_at s i).index

ref_told : (own : Scope) (r : ComponentTypeRef)
    → Perhaps (λ q. ¬ (IsGone (after_ref own r true).functions (length own.functions.entries))) (ref_edited own r)
ref_told own (to.Func i) = mapped to.Func (λ j h. not_gone own.functions (entry_at own.types i).fate h) (index_told own.types i)
ref_told own r = whatever (ref_edited own r) (λ q. none_gone own.functions)

pub import_told : (w : Walk) (i new : ImportEntry) → import_edited w i ≡ Some new
    → ¬ (IsGone (after_import w.own i (Some new)).functions (length w.own.functions.entries))
import_told w i new e =
    given {P = λ x. ¬ (IsGone (after_import w.own i (Some x)).functions (length w.own.functions.entries))} new
    (mapped (λ r. record i { to = r }) (λ q h. h) (ref_told w.own i.to)) e

abbrev like_of : Renumbering → Option Renumbered → Renumbering
like_of s o = elim o [ None ↦ s | Some r ↦ with_entry s r.fate ]

like_told : (s : Renumbering) (i : ℕ) → ¬ (IsGone s i) → ¬ (IsGone (with_like s i true) (length s.entries))
like_told s i h = go (slice_get s.entries i) refl
  where
    go : (o : Option Renumbered) → slice_get s.entries i ≡ o → ¬ (IsGone (like_of s o) (length s.entries))
    go None at = none_gone s
    go (Some r) at = not_gone s r.fate (λ g. h (ap (λ (x : Renumbered). x.fate) (entry_there s i r at) ∙ g))

pub export_told : (w : Walk) (x new : ExportEntry) → export_edited w x ≡ Some new
    → ¬ (IsGone (after_export w.own x (Some new)).functions (length w.own.functions.entries))
export_told w x new e = grind (arith, given, mapped, like_told, index_told)

pub ruleset told = (told_before, type_told, core_told, canon_told, decl_told, module_decl_told, import_told, export_told)
