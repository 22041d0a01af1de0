-- How core modules are told apart.
use Rattle.std.proofs.Common.{◌≡◌, ℕ, List, [], ◌∷◌, ◌++◌, get_or, inl, inr, refl, ap, sym, ◌∙◌, append_assoc, arith}
use Rattle.std.proofs.lemmas.List.{append_cancel_left}
use Rattle.std.specs.List.{AllByRecursion}
use Rattle.std.specs.Prelude.{codes, decimal}
use Rattle.smith_core.specs.Preamble.{core_preamble}
use Rattle.smith_core.specs.StandInText.{StandIn, listed, stand_in_text}
use Rattle.smith_format.specs.CoreTypes.{Function, core_function}
use Rattle.smith_format.specs.Entities.{memory_type}
use Rattle.smith_format.specs.Piece.{◌⊕◌, bytes}
use Rattle.smith_format.specs.declared.types.MemoryType.{MemoryType}
use Rattle.smith_print.specs.Components.{module_text}
use Rattle.smith_print.specs.CoreTypes.{after_core_type, after_memory, core_function_line, memory_line}
use Rattle.smith_print.specs.Lines.{lines}
use Rattle.smith_print.specs.Spaces.{nothing}
use Rattle.smith_print.specs.Words.{deeper, line}
use Rattle.smith_print.specs.declared.spaces.IndexSpaces.{IndexSpaces}
use Rattle.smith_print.proofs.Encoded
use Rattle.smith_print.proofs.Encoded.{IsEncoded, back, listed_encoded}
use Rattle.smith_print.proofs.Told.{Anything, Told, after, close, ended}
use Rattle.smith_print.proofs.ToldCore.{core_functions, memories_told}
use Rattle.smith_print.proofs.ToldLines.{AreLines, closed_law, ending, ends_here, lines_law, same_ending}

pub function_lines_told : (s : IndexSpaces) → Told (λ f. IsEncoded (core_function f)) Anything (λ f. core_function_line f s)
function_lines_told s = after (after (after (ended core_functions close (λ x. tt)) (codes ";) ")) (decimal s.core_types)) (codes "(type (;")

memory_lines_told : (s : IndexSpaces) → Told (λ m. IsEncoded (memory_type m)) Anything (λ m. memory_line m s)
memory_lines_told s = after (after (after (ended memories_told close (λ x. refl)) (codes ";) ")) (decimal s.memories)) (codes "(memory (;")

abbrev types_of : StandIn → ℕ → List ℕ
types_of m c = lines (λ f _. core_function_line f) (λ f. after_core_type) c nothing m.types

abbrev memories_of : StandIn → ℕ → List ℕ
memories_of m c = lines (λ t _. memory_line t) (λ t. after_memory) c nothing m.memories

are_module_lines : (m : StandIn) (c : ℕ) → AreLines (types_of m c ++ memories_of m c)
are_module_lines m c = by_lists m.types m.memories
  where
    by_lists : (fs : List Function) (ts : List MemoryType)
        → AreLines (lines (λ f _. core_function_line f) (λ f. after_core_type) c nothing fs ++ lines (λ t _. memory_line t) (λ t. after_memory) c nothing ts)
    by_lists [] [] = inl refl
    by_lists [] (t ∷ ts) = inr (_, refl)
    by_lists (f ∷ fs) ts = inr (_, refl)

-- Neither a memory nor the last line begins as a function type does.
no_type : (m : StandIn) (c d : ℕ) (x k : List ℕ) → memories_of m c ++ ending d x ≡ line c ++ (codes "(t" ++ k) → ⊥
no_type m c d x k e = by_list m.memories e
  where
    by_list : (ts : List MemoryType) → lines (λ t _. memory_line t) (λ t. after_memory) c nothing ts ++ ending d x ≡ line c ++ (codes "(t" ++ k) → ⊥
    by_list [] f = ends_here d c x (116 ∷ k) f
    by_list (t ∷ ts) f =
        absurd (omega (arith, ap (λ l. get_or l 1 0) (append_cancel_left (line c) _ _ (sym (append_assoc (line c) _ (ending d x)) ∙ f))))

abbrev pub IsSpelled : StandIn → Type 0
IsSpelled m = IsEncoded (stand_in_text m)

functions_encoded : (m : StandIn) → IsSpelled m → AllByRecursion (λ f. IsEncoded (core_function f)) m.types
functions_encoded m t =
    let r = back (bytes core_preamble) (listed 1 core_function m.types ⊕ listed 5 memory_type m.memories) t in
    listed_encoded 1 core_function m.types (Encoded.front (listed 1 core_function m.types) (listed 5 memory_type m.memories) r)

memories_encoded : (m : StandIn) → IsSpelled m → AllByRecursion (λ t. IsEncoded (memory_type t)) m.memories
memories_encoded m t =
    let r = back (bytes core_preamble) (listed 1 core_function m.types ⊕ listed 5 memory_type m.memories) t in
    listed_encoded 5 memory_type m.memories (back (listed 1 core_function m.types) (listed 5 memory_type m.memories) r)

pub module_law : (d : ℕ) (m n : StandIn) (x y : List ℕ) → IsSpelled m → IsSpelled n → module_text m d ++ x ≡ module_text n d ++ y → (m ≡ n) × (x ≡ y)
module_law d m n x y p q e =
    let c = deeper d in
    let inside = closed_law d (types_of m c ++ memories_of m c) (types_of n c ++ memories_of n c) x y (are_module_lines m c) (are_module_lines n c) e in
    let r = lines_law (λ f _. core_function_line f) (λ f. after_core_type) c (codes "(t") function_lines_told (λ f s. (_, refl)) m.types n.types nothing
    (memories_of m c ++ ending d x) (memories_of n c ++ ending d y) (functions_encoded m p) (functions_encoded n q) (λ k. no_type m c d x k)
    (λ k. no_type n c d y k)
    (sym (append_assoc (types_of m c) (memories_of m c) (ending d x)) ∙ inside ∙ append_assoc (types_of n c) (memories_of n c) (ending d y)) in
    let s = lines_law (λ t _. memory_line t) (λ t. after_memory) c (codes "(") memory_lines_told (λ t s. (_, refl)) m.memories n.memories nothing
    (ending d x) (ending d y) (memories_encoded m p) (memories_encoded n q) (λ k. ends_here d c x k) (λ k. ends_here d c y k) r.1 in
    (λ i. record { types = r.0 i; memories = s.0 i }, same_ending d x y s.1)
