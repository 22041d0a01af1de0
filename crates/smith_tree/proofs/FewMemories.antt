-- A core module that stands for a generated one has as few memories as the limits allow.
use Rattle.std.proofs.Common.{◌≡◌, ℕ, ◌≤◌, List, [], ◌∷◌, ◌++◌, length, None, Some, ap, sym, ◌∙◌, refl, subst, arith, append-nil}
use Rattle.smith_format.specs.CoreTypes.{Function, core_function}
use Rattle.smith_format.specs.Entities.{memory_type}
use Rattle.smith_format.specs.Piece.{Piece, ◌⊕◌, bytes, bytes_of, each, many, sized, u}
use Rattle.smith_format.specs.declared.config.Config.{Config}
use Rattle.smith_format.specs.declared.types.MemoryType.{MemoryType}
use Rattle.smith_format.proofs.Clear.{same_section}
use Rattle.smith_format.proofs.Piece.{joined, parts_are}
use Rattle.smith_core.specs.Preamble.{core_preamble}
use Rattle.smith_core.specs.StandInText.{StandIn, listed, stand_in_text}
use Rattle.smith_tree.specs.Readable.{StandsForModule}
use Rattle.smith_tree.specs.CoreModules.{HasFewMemories, section}
use Rattle.smith_tree.proofs.CoreModules.{FewIn, few_counted, few_end, few_module, few_next, few_other}

-- a section that fills its bytes, in front of others
contents_of : (id : ℕ) (c : Piece) (t next : List ℕ) → sized id c ≡ Some t
    → (contents : List ℕ) × (c ≡ Some contents) × (section (id, contents) ⊕ bytes next ≡ Some (t ++ next))
contents_of id c t next e =
    let f : sized id c ⊕ bytes next ≡ Some (t ++ next) = ap (λ p. p ⊕ bytes next) e ∙ joined t next in
    let s = same_section id c c (bytes next) (bytes next) (t ++ next) f f in
    (s.contents, s.first, ap (λ p. sized id p ⊕ bytes next) (sym s.first) ∙ f)

none_listed : (t : List ℕ) → bytes [] ≡ Some t → [] ≡ t
none_listed t e = cc

memories_few : (ms : List MemoryType) (t : List ℕ) → listed 5 memory_type ms ≡ Some t → length ms ≤ 100 → FewIn t
memories_few [] t e few = subst FewIn (none_listed t e) few_end
memories_few (m ∷ ms) t e few =
    let s = contents_of 5 (many memory_type (m ∷ ms)) t [] e in
    let p = parts_are (u (length (m ∷ ms))) (each memory_type (m ∷ ms)) s.0 s.1 in
    let count : u (length (m ∷ ms)) ⊕ bytes p.right ≡ Some s.0 = ap (λ q. u (length (m ∷ ms)) ⊕ q) (sym p.q_is) ∙ s.1 in
    subst FewIn (append-nil t) (few_next 5 s.0 [] (t ++ []) s.2 (λ same. few_counted s.0 (length (m ∷ ms)) p.right count few) few_end)

types_few : (fs : List Function) (t next : List ℕ) → listed 1 core_function fs ≡ Some t → FewIn next → FewIn (t ++ next)
types_few [] t next e few = subst (λ f. FewIn (f ++ next)) (none_listed t e) few
types_few (f ∷ fs) t next e few =
    let s = contents_of 1 (many core_function (f ∷ fs)) t next e in
    few_next 1 s.0 next (t ++ next) s.2 (λ same. absurd (omega (arith, same))) few

stand_in_few : (s : StandIn) (text : List ℕ) → stand_in_text s ≡ Some text → length s.memories ≤ 100 → HasFewMemories text
stand_in_few s text e few =
    let p = parts_are (bytes core_preamble) (listed 1 core_function s.types ⊕ listed 5 memory_type s.memories) text e in
    let q = parts_are (listed 1 core_function s.types) (listed 5 memory_type s.memories) p.right p.q_is in
    let front : core_preamble ≡ p.left = let f : Some core_preamble ≡ Some p.left = p.p_is in cc in
    let is : text ≡ core_preamble ++ (q.left ++ q.right) = p.is ∙ (λ i. sym front i ++ q.is i) in
    subst HasFewMemories (sym is) (few_module (q.left ++ q.right) (types_few s.types q.left q.right q.p_is (memories_few s.memories q.right q.q_is few)))

pub module_has_few : (config : Config) → config.max_memories ≤ 100 → (text : List ℕ) → StandsForModule config text → HasFewMemories text
module_has_few config few text (s, is, spelled) = by_text (stand_in_text s) refl
  where
    by_text : (p : Piece) → stand_in_text s ≡ p → HasFewMemories text
    by_text None e = few_other text (λ rest f. let g : [] ≡ core_preamble ++ rest = ap bytes_of (sym e) ∙ sym spelled ∙ f in absurd (cc))
    by_text (Some b) e =
        subst HasFewMemories (ap bytes_of (sym e) ∙ sym spelled)
        (stand_in_few s b e (let most = is.few_memories in omega (arith, most, few)))
