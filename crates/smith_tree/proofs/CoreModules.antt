-- Whether a core module has few memories, section by section.
use Rattle.std.proofs.Common.{arith, ◌≡◌, ◌↔◌, ℕ, ◌≤◌, List, [], ◌∷◌, ◌++◌, Some, refl, ap, sym, ◌∙◌, subst, drop}
use Rattle.smith_core.specs.Preamble.{core_preamble}
use Rattle.smith_format.specs.Piece.{Piece, ◌⊕◌, bytes, each, sized, u}
use Rattle.smith_format.proofs.Clear.{clear_u, same_section, section_head}
use Rattle.smith_format.proofs.Piece.{assoc, joined, left_nil, parts_are, right_nil}
use Rattle.smith_tree.specs.CoreModules.{CountsFew, HasFewMemories, section}

-- the same after the preamble
abbrev pub FewIn : List ℕ → Type 0
FewIn sections =
    (before : List (ℕ × List ℕ)) (contents after : List ℕ)
    → each section before ⊕ section (5, contents) ⊕ bytes after ≡ Some sections → CountsFew contents

-- what is behind the preamble
behind : (p : Piece) (text : List ℕ) → bytes core_preamble ⊕ p ≡ Some text → (rest : List ℕ) × (p ≡ Some rest) × (text ≡ core_preamble ++ rest)
behind p text e =
    let a = parts_are (bytes core_preamble) p text e in
    let front : core_preamble ≡ a.left = let f : Some core_preamble ≡ Some a.left = a.p_is in cc in
    (a.right, a.q_is, a.is ∙ ap (λ l. l ++ a.right) (sym front))

pub few_module : (sections : List ℕ) → FewIn sections → HasFewMemories (core_preamble ++ sections)
few_module sections few before contents after e = grind (arith, behind, drop, Some)

pub few_sections : (sections : List ℕ) → HasFewMemories (core_preamble ++ sections) → FewIn sections
few_sections sections few before contents after e =
    few before contents after (ap (λ p. bytes core_preamble ⊕ p) e ∙ joined core_preamble sections)

-- what begins otherwise
pub few_other : (text : List ℕ) → ((sections : List ℕ) → text ≡ core_preamble ++ sections → ⊥) → HasFewMemories text
few_other text other before contents after e = grind (arith, behind)

-- the first of some sections
first_of : (s : ℕ × List ℕ) (before : List (ℕ × List ℕ)) (p : Piece) (b : List ℕ) → each section (s ∷ before) ⊕ p ≡ Some b
    → section s ⊕ (each section before ⊕ p) ≡ Some b
first_of s before p b e = sym (assoc (section s) (each section before) p) ∙ e

-- if no section begins
pub few_none : (b : List ℕ) → ((id : ℕ) (contents after : List ℕ) → section (id, contents) ⊕ bytes after ≡ Some b → ⊥) → FewIn b
few_none b none [] contents after e = absurd (none 5 contents after (sym (left_nil (section (5, contents) ⊕ bytes after)) ∙ e))
few_none b none (s ∷ before) contents after e =
    let p : Piece = each section before ⊕ section (5, contents) ⊕ bytes after in
    let f : section s ⊕ p ≡ Some b = first_of s before (section (5, contents) ⊕ bytes after) b e in
    let rests = (same_section s.0 (bytes s.1) (bytes s.1) p p b f f).rests in
    absurd (none s.0 s.1 rests.rest (ap (λ q. section s ⊕ q) (sym rests.first) ∙ f))

pub few_end : FewIn []
few_end = grind (arith, few_none, section_head)

module _ (id : ℕ) (contents next b : List ℕ) (is : section (id, contents) ⊕ bytes next ≡ Some b) where
  same_id : (other : ℕ) (c p : Piece) → sized other c ⊕ p ≡ Some b → id ≡ other
  same_id other c p e = grind (arith, section_head)

  abbrev Is : ℕ → Type 0
  Is n = sized n (bytes contents) ⊕ bytes next ≡ Some b

  pub few_next : (id ≡ 5 → CountsFew contents) → FewIn next → FewIn b
  few_next counted few [] others after e = grind (arith, Some, left_nil, same_id, same_section)
  few_next counted few (s ∷ before) others after e = grind (arith, Some, first_of, same_id, same_section)

  pub few_after : FewIn b → FewIn next
  few_after few before others after e =
      let p : Piece = section (5, others) ⊕ bytes after in
      few ((id, contents) ∷ before) others after
      (assoc (section (id, contents)) (each section before) p ∙ ap (λ q. section (id, contents) ⊕ q) e ∙ is)

  pub few_first : id ≡ 5 → FewIn b → CountsFew contents
  few_first five few = few [] contents next (left_nil (section (5, contents) ⊕ bytes next) ∙ subst Is five is)

-- a count and what follows it
pub few_counted : (contents : List ℕ) (n : ℕ) (items : List ℕ) → u n ⊕ bytes items ≡ Some contents → n ≤ 100 → CountsFew contents
few_counted contents n items is few count entries e = grind (arith, clear_u)

-- a memory section alone
pub memories_counted : (count : ℕ) (memories text : List ℕ) → bytes core_preamble ⊕ sized 5 (u count ⊕ bytes memories) ≡ Some text
    → HasFewMemories text ↔ (count ≤ 100)
memories_counted count memories text e =
    let c : Piece = u count ⊕ bytes memories in
    let a = behind (sized 5 c) text e in
    let f : sized 5 c ⊕ bytes [] ≡ Some a.0 = right_nil (sized 5 c) ∙ a.1 in
    let s = same_section 5 c c (bytes []) (bytes []) a.0 f f in
    let is : section (5, s.contents) ⊕ bytes [] ≡ Some a.0 = ap (λ p. sized 5 p ⊕ bytes []) (sym s.first) ∙ f in (
      λ few. few_first 5 s.contents [] a.0 is refl (few_sections a.0 (subst HasFewMemories a.2 few)) count memories s.first,
      λ most.
          let counted = few_counted s.contents count memories s.first most in
          subst HasFewMemories (sym a.2) (few_module a.0 (few_next 5 s.contents [] a.0 is (λ same. counted) few_end)),
    )
