-- The bytes of a module are split into sections in one way.
use Rattle.std.proofs.Common.{◌≡◌, ◌↔◌, ℕ, Bool, true, false, cond, List, [], ◌∷◌, map, refl, ap, sym, ◌∙◌, Some}
use Rattle.std.specs.List.{filter}
use Rattle.smith_format.specs.Piece.{Piece, ◌⊕◌, bytes, each, sized}
use Rattle.smith_format.proofs.Clear.{clash, same_section, section_head, tail}
use Rattle.smith_format.proofs.Many.{each-map}
use Rattle.smith_format.proofs.Piece.{left_nil}
use Rattle.smith_core.specs.Module.{binary_order, section_id, is_written, contents, section, module_text}
use Rattle.smith_core.specs.Preamble.{core_preamble}
use Rattle.smith_core.specs.Split.{CoreSection, core_section, Splits, sections_of, present_section}
use Rattle.smith_core.specs.declared.module.parts.ModuleParts.{ModuleParts}
use Rattle.smith_core.specs.declared.module.sections.SectionKind.{SectionKind}

-- a section by its id and the piece that is its contents
abbrev any_section : ℕ × Piece → Piece
any_section y = sized y.0 y.1

-- Sections whose bytes are the same are the same, and the sections of a module are bytes.
same_sections : (xs : List CoreSection) (ys : List (ℕ × Piece)) (b : List ℕ) → each core_section xs ≡ Some b
    → each any_section ys ≡ Some b → map present_section xs ≡ ys
same_sections [] [] b e h = refl
same_sections [] ((n, p) ∷ ys) b e h =
    let z = (section_head n p (each any_section ys) b h).1 in absurd (let y : Some [] ≡ Some b = e in cc)
same_sections ((m, c) ∷ xs) [] b e h =
    let z = (section_head m (bytes c) (each core_section xs) b e).1 in absurd (let y : Some [] ≡ Some b = h in cc)
same_sections ((m, c) ∷ xs) ((n, p) ∷ ys) b e h =
    let first = section_head m (bytes c) (each core_section xs) b e in
    let i : m ≡ n = clash m n b first (section_head n p (each any_section ys) b h) in
    let f : sized m p ⊕ each any_section ys ≡ Some b = ap (λ k. sized k p ⊕ each any_section ys) i ∙ h in
    let t = same_section m (bytes c) p (each core_section xs) (each any_section ys) b e f in
    let same : bytes c ≡ p = t.first ∙ sym t.second in
    let r = same_sections xs ys t.rests.rest t.rests.first t.rests.second in λ j. (i j, same j) ∷ r j

-- a section that is not written has no bytes
each_written : (m : ModuleParts) (ks : List SectionKind)
    → each (section m) ks ≡ each any_section (map (λ k. (section_id k, contents m k)) (filter (is_written m) ks))
each_written m [] = refl
each_written m (k ∷ ks) = by_choice (is_written m k) (each_written m ks)
  where
    later : List SectionKind
    later = filter (is_written m) ks

    written : List SectionKind → List (ℕ × Piece)
    written = map (λ j. (section_id j, contents m j))

    by_choice : (x : Bool) → each (section m) ks ≡ each any_section (written later)
        → cond x (sized (section_id k) (contents m k)) (bytes []) ⊕ each (section m) ks
        ≡ each any_section (written (cond x (k ∷ later) later))
    by_choice true f = ap (λ p. sized (section_id k) (contents m k) ⊕ p) f
    by_choice false f = left_nil (each (section m) ks) ∙ f

pub split_law : (m : ModuleParts) (b : List ℕ) → module_text m ≡ Some b → (xs : List CoreSection)
    → Splits b xs ↔ (map present_section xs ≡ sections_of m)
split_law m b e xs = (there, back)
  where
    there : Splits b xs → map present_section xs ≡ sections_of m
    there h =
        let t = tail core_preamble (each core_section xs) (each (section m) binary_order) b h e in
        same_sections xs (sections_of m) t.rest t.first (sym (each_written m binary_order) ∙ t.second)

    back : map present_section xs ≡ sections_of m → Splits b xs
    back h =
        let same = sym (each-map any_section present_section xs) ∙ ap (each any_section) h ∙ sym (each_written m binary_order) in
        ap (λ p. bytes core_preamble ⊕ p) same ∙ e
