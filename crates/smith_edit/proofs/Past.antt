-- What is removed, item by item, and what is known after entries in order.
use Rattle.std.proofs.Common.{◌≡◌, ℕ, ◌+◌, ◌-◌, ◌<◌, ◌≤◌, Bool, true, false, cond, eqb, ap, sym, refl, ◌∙◌, arith, nat_lt, ⊎_elim, rules, List, []}
use Rattle.std.proofs.Common.{◌∷◌, Option, length}
use Rattle.std.proofs.lemmas.Bool.{cases_lt, eqb-true, ltb-false}
use Rattle.std.proofs.lemmas.Bool.Decides.{nat_tests}
use Rattle.smith_tree.specs.Tree.{Part}
use Rattle.smith_read.proofs.PartNodes.{shown_canons, shown_core_types, shown_custom, shown_exports, shown_imports, shown_module, shown_nested}
use Rattle.smith_read.proofs.PartNodes.{shown_types}
use Rattle.smith_edit.specs.Removal.{inside, past, removes}
use Rattle.smith_edit.specs.declared.walk.Removal.{Removal}
use Rattle.smith_edit.specs.declared.walk.Removal.TheVariants.{Nothing, Items, Everything}
use Rattle.smith_edit.specs.Edited.{after_canon, after_core, after_export, after_import, after_type, canon_edited, core_row, export_edited}
use Rattle.smith_edit.specs.Edited.{import_edited, type_row, after_one, after_part, after_rows, after_section, within}
use Rattle.smith_edit.specs.Items.{core_items, entry_items, none_inside, part_items, row_items}
use Rattle.smith_edit.specs.Walk.{Walk, entered, exited, skipped}
use Rattle.smith_edit.specs.declared.walk.Scope.{Scope}
use Rattle.smith_tree.specs.Tree as part

pub past_none : (r : Removal) → past 0 r ≡ r
past_none Nothing = refl
past_none (Items f l) = search rules
past_none Everything = refl

pub past_less : (n f l : ℕ) → l < n → past n (Items f l) ≡ Nothing
past_less n f l h = let t : nat_lt l n ≡ true = grind (arith, nat_tests) in rw t refl

pub past_more : (n f l : ℕ) → n ≤ l → past n (Items f l) ≡ Items (f - n) (l - n)
past_more n f l h = let t : nat_lt l n ≡ false = grind (arith, nat_tests) in rw t refl

past_both : (a b f l : ℕ) → b ≤ l → past a (Items (f - b) (l - b)) ≡ past (b + a) (Items f l)
past_both a b f l h =
    ⊎_elim
    (λ lt. past_less a (f - b) (l - b) lt ∙ sym (past_less (b + a) f l (omega arith)))
    (λ ge.
    let of_first : f - b - a ≡ f - (b + a) = omega arith in
    let of_last : l - b - a ≡ l - (b + a) = omega arith in
    past_more a (f - b) (l - b) ge ∙ rw (of_first, of_last) (sym (past_more (b + a) f l (omega arith))))
    (cases_lt (l - b) a)

pub past_past : (a b : ℕ) (r : Removal) → past a (past b r) ≡ past (b + a) r
past_past a b Nothing = refl
past_past a b (Items f l) =
    ⊎_elim
    (λ lt. ap (past a) (past_less b f l lt) ∙ sym (past_less (b + a) f l (omega arith)))
    (λ ge. ap (past a) (past_more b f l ge) ∙ past_both a b f l ge)
    (cases_lt l b)
past_past a b Everything = refl

pub past_step : (r : Removal) (n : ℕ) → past n (past 1 r) ≡ past (n + 1) r
past_step r n = past_past n 1 r ∙ (let c : 1 + n ≡ n + 1 = omega arith in ap (λ m. past m r) c)

-- by their numbers

pub removed_by_number : (k n : ℕ) → removes (past n (Items k k)) ≡ true → k ≡ n
removed_by_number k n e = go (nat_lt k n) refl e
  where
    go : (b : Bool) → nat_lt k n ≡ b → removes (cond b Nothing (Items (k - n) (k - n))) ≡ true → k ≡ n
    go true i e = absurd cc
    go false i e = let same = eqb-true (k - n) 0 e in omega (arith, same, ltb-false k n i)

pub removed_inside : (r : Removal) → inside r ≡ Everything → removes r ≡ true
removed_inside Nothing e = absurd cc
removed_inside Everything e = refl
removed_inside (Items f l) e = go (eqb f 0) refl e
  where
    later : (d : Bool) → cond d Nothing (Items (f - 1) (l - 1)) ≡ Everything → removes (Items f l) ≡ true
    later true e = absurd cc
    later false e = absurd cc

    go : (b : Bool) → eqb f 0 ≡ b → cond b Everything (past 1 (Items f l)) ≡ Everything → removes (Items f l) ≡ true
    go true i e = i
    go false i e = later (nat_lt l 1) e

pub removed_after : (n : ℕ) (r : Removal) → past n r ≡ Everything → r ≡ Everything
removed_after n Nothing e = absurd cc
removed_after n Everything e = refl
removed_after n (Items f l) e = go (nat_lt l n) e
  where
    go : (b : Bool) → cond b Nothing (Items (f - n) (l - n)) ≡ Everything → Items f l ≡ Everything
    go true e = absurd cc
    go false e = absurd cc

pub ruleset removed = (removed_by_number, removed_inside, removed_after)

-- what is known after entries in order

-- a scope is left as it was entered
pub left_outer : (v w : Walk) → v.outer ≡ (entered w).outer → exited v ≡ record w { removal = v.removal }
left_outer v w e = rw e refl

module _ {A : Type 0} (items : A → ℕ) (edited : Walk → A → Option A) (adds : Scope → A → Option A → Scope) where
  pub rows_removal : (w : Walk) (xs : List A) → (after_rows items edited adds w xs).removal ≡ past (row_items items xs) w.removal
  rows_removal w [] = sym (past_none w.removal)
  rows_removal w (x ∷ xs) = rows_removal (after_one items edited adds w x) xs ∙ past_past (row_items items xs) (items x + 1) w.removal

  pub rows_outer : (w : Walk) (xs : List A) → (after_rows items edited adds w xs).outer ≡ w.outer
  rows_outer w [] = refl
  rows_outer w (x ∷ xs) = rows_outer (after_one items edited adds w x) xs

  pub left_rows : (w : Walk) (xs : List A) → exited (after_rows items edited adds (entered w) xs) ≡ skipped (row_items items xs) w
  left_rows w xs = left_outer (after_rows items edited adds (entered w) xs) w (rows_outer (entered w) xs)
      ∙ ap (λ r. record w { removal = r }) (rows_removal (entered w) xs)

  pub scope_left : (w v u z : Walk) (xs : List A) → v ≡ entered w → u ≡ after_rows items edited adds v xs → z ≡ exited u → z ≡ skipped (row_items items xs) w
  scope_left w v u z xs e f g = rw (g, f, e) (left_rows w xs)

-- entries with nothing inside
pub plain_items : {A : Type 0} (xs : List A) → row_items none_inside xs ≡ length xs
plain_items [] = refl
plain_items (x ∷ xs) = omega (arith, plain_items xs)

-- what a section leaves of the removal and of the scopes around

pub part_removal : (w : Walk) (p : Part) → (after_part w p).removal ≡ past (part_items p) w.removal
part_removal w (part.component t) = refl
part_removal w (part.core_types ts) = rows_removal core_items core_row after_core w ts
part_removal w (part.types ts) = rows_removal entry_items type_row after_type w ts
part_removal w (part.canons fs) = rows_removal none_inside canon_edited after_canon w fs ∙ ap (λ n. past n w.removal) (plain_items fs)
part_removal w (part.imports is) = rows_removal none_inside import_edited after_import w is ∙ ap (λ n. past n w.removal) (plain_items is)
part_removal w (part.exports es) = rows_removal none_inside export_edited after_export w es ∙ ap (λ n. past n w.removal) (plain_items es)
part_removal w p = sym (past_none w.removal)

pub part_outer : (w : Walk) (p : Part) → (after_part w p).outer ≡ w.outer
part_outer w (part.core_types ts) = rows_outer core_items core_row after_core w ts
part_outer w (part.types ts) = rows_outer entry_items type_row after_type w ts
part_outer w (part.canons fs) = rows_outer none_inside canon_edited after_canon w fs
part_outer w (part.imports is) = rows_outer none_inside import_edited after_import w is
part_outer w (part.exports es) = rows_outer none_inside export_edited after_export w es
part_outer w p = refl

-- a section that is not removed

pub after_kept : (w v : Walk) (p : Part) → removes w.removal ≡ false → v ≡ after_part (within w) p → v ≡ after_section w p
after_kept w v p h e = grind (arith, part_removal, past_step)

-- the sections of components, variant by variant

pub ruleset part_nodes = (
  shown_custom,
  shown_module,
  shown_core_types,
  shown_nested,
  shown_types,
  shown_canons,
  shown_imports,
  shown_exports,
)
