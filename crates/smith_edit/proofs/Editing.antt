-- What is left of items in order, each of which is edited by what became of the ones before it.
use Rattle.std.proofs.Common.{◌≡◌, ℕ, ◌+◌, ◌<◌, ◌≤◌, Bool, true, false, List, [], ◌∷◌, ◌++◌, Option, Some, None, drop, get_or, map, length, ap, sym, refl, ◌∙◌}
use Rattle.std.specs.Prelude.{if◌then◌else◌}
use Rattle.std.specs.Option.{option_map, option_to_list}
use Rattle.smith_syntax.specs.Entries.{Decl, Decls, then_decls}
use Rattle.smith_tree.specs.Tree.{Part, Tree, first}
use Rattle.smith_read.specs.declared.nodes.PartNode.{PartNode}
use Rattle.smith_read.specs.declared.type_nodes.DeclNode.{DeclNode}
use Rattle.smith_edit.specs.Edited.{after_decl, after_section, and_decl, and_part, decl_edited, decls_edited, part_edited, tree_edited, within}
use Rattle.smith_edit.specs.Items.{decl_items}
use Rattle.smith_edit.specs.Removal.{past, removes}
use Rattle.smith_edit.specs.Walk.{Walk, skipped}
use Rattle.smith_edit.specs.declared.walk.Removal.{Removal}
use Rattle.smith_edit.specs.declared.walk.Scope.{Scope}
use Rattle.smith_edit.proofs.Seeking.{InRow, prepend, prepend_all, decl_row, part_row}
use Rattle.smith_edit.proofs.Sublists.{map_more}
use Rattle.smith_edit.proofs.Past.{past_none, past_past}
use Rattle.smith_input.proofs.Lists.{map_drop, map_dropped}

-- how a whole is edited item by item: what is left of the next one, and what is known after it
pub record Editing (X A C : Type 0) : Type 0 where
  pub row : InRow X A C
  pub edited : C → Walk → C
  pub next : Walk → A → Option A
  pub after : Walk → A → Walk
  pub none : (w : Walk) → edited (row.gather []) w ≡ row.gather []
  pub some : (w : Walk) (x : A) (c : C) → edited (row.cons x c) w ≡ prepend row.cons (option_to_list (next w x)) (edited c (after w x))
  pub further : (w : Walk) (x : A) → (after w x).removal ≡ past (row.size x) w.removal

prepend_append : {A C : Type 0} (cons : A → C → C) (xs ys : List A) (c : C) → prepend cons (xs ++ ys) c ≡ prepend cons xs (prepend cons ys c)
prepend_append cons [] ys c = refl
prepend_append cons (x ∷ xs) ys c = ap (cons x) (prepend_append cons xs ys c)

module _ {X A C : Type 0} (e : Editing X A C) where
  module _ (w v : Walk) (xs : List X) (i : ℕ) (x : X) (lt : i < length xs) (at : x ≡ get_or xs i x) (on : v ≡ e.after w (e.row.shown x)) where
    first_rest : e.row.gather (map e.row.shown (drop i xs)) ≡ e.row.cons (e.row.shown x) (e.row.gather (map e.row.shown (drop (i + 1) xs)))
    first_rest = ap e.row.gather (map_drop e.row.shown xs i x lt at) ∙ e.row.first (e.row.shown x) (map e.row.shown (drop (i + 1) xs))

    pub edited_step : (new : Option X) (left left2 : List X) (whole : C) → option_map e.row.shown new ≡ e.next w (e.row.shown x)
        → left2 ≡ left ++ option_to_list new
        → prepend e.row.cons (map e.row.shown left) (e.edited (e.row.gather (map e.row.shown (drop i xs))) w) ≡ whole
        → prepend e.row.cons (map e.row.shown left2) (e.edited (e.row.gather (map e.row.shown (drop (i + 1) xs))) v) ≡ whole
    edited_step new left left2 whole is more h =
        let a : A = e.row.shown x in
        let rest : C = e.row.gather (map e.row.shown (drop (i + 1) xs)) in
        let here : map e.row.shown left2 ≡ map e.row.shown left ++ option_to_list (e.next w a) =
        ap (map e.row.shown) more ∙ map_more e.row.shown left new ∙ ap (λ o. map e.row.shown left ++ option_to_list o) is in
        rw (here, on)
        (prepend_append e.row.cons (map e.row.shown left) (option_to_list (e.next w a)) (e.edited rest (e.after w a))
        ∙ (sym (ap (prepend e.row.cons (map e.row.shown left)) (ap (λ c. e.edited c w) first_rest ∙ e.some w a rest)) ∙ h))

    pub removal_step : (whole : Removal) → past (e.row.sizes (e.row.gather (map e.row.shown (drop i xs)))) w.removal ≡ whole
        → past (e.row.sizes (e.row.gather (map e.row.shown (drop (i + 1) xs)))) v.removal ≡ whole
    removal_step whole h =
        let a : A = e.row.shown x in
        let rest : C = e.row.gather (map e.row.shown (drop (i + 1) xs)) in
        ap (λ u. past (e.row.sizes rest) u.removal) on ∙ ap (past (e.row.sizes rest)) (e.further w a)
        ∙ (past_past (e.row.sizes rest) (e.row.size a) w.removal
        ∙ (sym (ap (λ n. past n w.removal) (ap e.row.sizes first_rest ∙ e.row.sum a rest)) ∙ h))

  pub edited_end : (w : Walk) (xs : List X) (i : ℕ) (left : List A) (whole : C) → length xs ≤ i
      → prepend e.row.cons left (e.edited (e.row.gather (map e.row.shown (drop i xs))) w) ≡ whole → e.row.gather left ≡ whole
  edited_end w xs i left whole h k =
      sym (prepend_all e.row left)
      ∙ (sym (ap (prepend e.row.cons left) (ap (λ ys. e.edited (e.row.gather ys) w) (map_dropped e.row.shown xs i h) ∙ e.none w)) ∙ k)

  pub removal_end : (r : Removal) (xs : List X) (i : ℕ) (whole : Removal) → length xs ≤ i
      → past (e.row.sizes (e.row.gather (map e.row.shown (drop i xs)))) r ≡ whole → r ≡ whole
  removal_end r xs i whole h k =
      sym (past_none r)
      ∙ (sym (ap (λ n. past n r) (ap (λ ys. e.row.sizes (e.row.gather ys)) (map_dropped e.row.shown xs i h) ∙ e.row.none)) ∙ k)

-- sections

pub and_next : (b : Bool) (p : Part) (t : Tree) → and_part b p t ≡ prepend first (option_to_list (if b then None else Some p)) t
and_next true p t = refl
and_next false p t = refl

abbrev pub part_editing : Editing PartNode Part Tree
part_editing = record {
  row = part_row [] [];
  edited = tree_edited;
  next = λ w p. if removes w.removal then None else Some (part_edited p (within w));
  after = after_section;
  none = λ w. refl;
  some = λ w p t. and_next (removes w.removal) (part_edited p (within w)) (tree_edited t (after_section w p));
  further = λ w p. refl;
}

-- declarations

abbrev pub next_decl : Walk → Decl → Option Decl
next_decl w d = if removes w.removal then None else decl_edited d (skipped 1 w)

abbrev pub after_next : Walk → Decl → Walk
after_next w d = record w { removal = past (decl_items d + 1) w.removal; own = after_decl w.own d (next_decl w d) }

pub and_more : (o : Option Decl) (ds : Decls) → and_decl o ds ≡ prepend then_decls (option_to_list o) ds
and_more None ds = refl
and_more (Some d) ds = refl

abbrev pub decl_editing : Editing DeclNode Decl Decls
decl_editing = record {
  row = decl_row [] [];
  edited = decls_edited;
  next = next_decl;
  after = after_next;
  none = λ w. refl;
  some = λ w d ds. and_more (next_decl w d) (decls_edited ds (after_next w d));
  further = λ w d. refl;
}

pub decl_after : (w v : Walk) (own : Scope) (d : Decl) (new : Option Decl) → new ≡ next_decl w d → v ≡ skipped (decl_items d + 1) w
    → own ≡ after_decl v.own d new → record v { own = own } ≡ after_next w d
decl_after w v own d new is on adds = rw (adds, on, is) refl
