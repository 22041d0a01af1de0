-- No text says where sections begin and end.
use Rattle.std.proofs.Common.{◌≡◌, ℕ, zero, suc, List, [], ◌∷◌, ◌++◌, drop, Some, refl, ap, sym, ◌∙◌, append_assoc}
use Rattle.std.specs.Prelude.{codes}
use Rattle.smith_format.specs.Piece.{◌⊕◌, bytes}
use Rattle.smith_format.proofs.Piece.{assoc, joined, left_nil}
use Rattle.smith_read.specs.Items.{items_in}
use Rattle.smith_tree.specs.Tree.{Part, Tree, ends, first, custom, core_module, core_types, component, types, canons, imports, exports}
use Rattle.smith_print.specs.Alone.{alone, each_alone, part_alone}
use Rattle.smith_print.specs.Components.{after_function, after_part, closing, export_entry_text, head_text, part_text, parts_text, text_of}
use Rattle.smith_print.specs.CoreTypes.{after_core_type}
use Rattle.smith_print.specs.Externs.{canon_text, import_text}
use Rattle.smith_print.specs.Lines.{after_all, entry_lines}
use Rattle.smith_print.specs.Spaces.{after_canon, after_extern, nothing}
use Rattle.smith_print.specs.Types.{after_type, core_type_text, type_text}
use Rattle.smith_print.specs.Words.{deeper, line}
use Rattle.smith_print.specs.declared.spaces.IndexSpaces.{IndexSpaces}

pub no_offsets : (n : ℕ) → drop {A = ℕ} n [] ≡ []
no_offsets zero = refl
no_offsets (suc n) = refl

-- A list has one text in one section and in many.
module _ {A : Type 0} (of : List A → Part) (f : A → ℕ → IndexSpaces → List ℕ) (g : A → IndexSpaces → IndexSpaces)
    (text : (x : A) (c : ℕ) (s : IndexSpaces) → part_text (of (x ∷ [])) c s [] ≡ bytes (line c ++ (f x c s ++ [])))
    (after : (x : A) (s : IndexSpaces) → after_part (of (x ∷ [])) s ≡ g x s) where
  each_text : (xs : List A) (t : Tree) (c : ℕ) (s : IndexSpaces)
      → parts_text (each_alone of xs t) c s [] ≡ bytes (entry_lines f g c s [] xs) ⊕ parts_text t c (after_all g s xs) []
  each_text [] t c s = sym (left_nil (parts_text t c s []))
  each_text (x ∷ xs) t c s =
      let more = entry_lines f g c (g x s) [] xs in
      let one = line c ++ (f x c s ++ []) in
      let whole : one ++ more ≡ line c ++ (f x c s ++ more) =
      append_assoc (line c) (f x c s ++ []) more ∙ ap (λ k. line c ++ k) (append_assoc (f x c s) [] more) in
      ap (λ p. p ⊕ parts_text (each_alone of xs t) c (after_part (of (x ∷ [])) s) (drop (items_in (of (x ∷ []))) [])) (text x c s)
      ∙ ap (λ o. bytes one ⊕ parts_text (each_alone of xs t) c (after_part (of (x ∷ [])) s) o) (no_offsets (items_in (of (x ∷ []))))
      ∙ ap (λ r. bytes one ⊕ parts_text (each_alone of xs t) c r []) (after x s)
      ∙ ap (λ p. bytes one ⊕ p) (each_text xs t c (g x s))
      ∙ sym (assoc (bytes one) (bytes more) (parts_text t c (after_all g (g x s) xs) []))
      ∙ ap (λ p. p ⊕ parts_text t c (after_all g (g x s) xs) []) (joined one more ∙ ap Some whole)

mutual
  part_same : (p : Part) (t : Tree) (c : ℕ) (s : IndexSpaces)
      → parts_text (part_alone p t) c s [] ≡ part_text p c s [] ⊕ parts_text t c (after_part p s) []
  part_same (custom n b) t c s = refl
  part_same (core_module b) t c s = refl
  part_same (core_types ts) t c s = each_text core_types core_type_text (λ x. after_core_type) (λ x c s. refl) (λ x s. refl) ts t c s
  part_same (component r) t c s =
      ap (λ o. (bytes (head_text c s []) ⊕ closing c (parts_text (alone r) (deeper c) nothing [])) ⊕ parts_text t c (after_part (component r) s) o)
      (no_offsets (items_in (component (alone r))))
      ∙ ap (λ q. (bytes (head_text c s []) ⊕ closing c q) ⊕ parts_text t c (after_part (component r) s) []) (parts_same r (deeper c) nothing)
  part_same (types ts) t c s = each_text types type_text (λ x. after_type) (λ x c s. refl) (λ x s. refl) ts t c s
  part_same (canons fs) t c s = each_text canons (λ f _. canon_text f) after_canon (λ x c s. refl) (λ x s. refl) fs t c s
  part_same (imports is) t c s =
      each_text imports (λ i _. import_text i.name i.to) (λ i. after_extern i.to) (λ x c s. refl) (λ x s. refl) is t c s
  part_same (exports es) t c s = each_text exports (λ e _. export_entry_text e) (λ e. after_function) (λ x c s. refl) (λ x s. refl) es t c s

  parts_same : (t : Tree) (c : ℕ) (s : IndexSpaces) → parts_text (alone t) c s [] ≡ parts_text t c s []
  parts_same ends c s = refl
  parts_same (first p t) c s =
      part_same p (alone t) c s ∙ ap (λ q. part_text p c s [] ⊕ q) (parts_same t c (after_part p s))
      ∙ ap (λ o. part_text p c s [] ⊕ parts_text t c (after_part p s) o) (sym (no_offsets (items_in p)))

pub boundaries_unsaid : (t : Tree) → text_of (alone t) ≡ text_of t
boundaries_unsaid t = ap (λ p. bytes (codes "(component") ⊕ (closing 0 p ⊕ bytes (codes "\n"))) (parts_same t (deeper 0) nothing)
