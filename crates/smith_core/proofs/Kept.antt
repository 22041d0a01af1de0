-- A module that is kept as function types and memories has their bytes, and its parts agree.
use Rattle.std.proofs.Common.{◌≡◌, ℕ, true, false, ◌==◌, List, [], ◌∷◌, map, length, refl, sym, ap, ◌∙◌, arith, eqb-true}
use Rattle.std.proofs.lemmas.Bool.{false≢true}
use Rattle.std.proofs.lemmas.List.{length-map}
use Rattle.std.specs.List.{AllByRecursion}
use Rattle.std.specs.Prelude.{if◌then◌else◌}
use Rattle.smith_format.specs.CoreTypes.{core_function}
use Rattle.smith_format.specs.Piece.{Piece, ◌⊕◌, bytes, many, sized, u}
use Rattle.smith_format.specs.Shown.{shown_func}
use Rattle.smith_format.specs.declared.types.FuncType.{FuncType}
use Rattle.smith_format.proofs.Many.{each-map}
use Rattle.smith_format.proofs.Piece.{left_nil}
use Rattle.smith_core.specs.Kept.{final_type, few_items, few_mapped, shown, stand_in_parts}
use Rattle.smith_core.specs.Module.{module_text}
use Rattle.smith_core.specs.Parts.{Agree}
use Rattle.smith_core.specs.StandIn.{HasTypesAndMemories}
use Rattle.smith_core.specs.StandInText.{listed, stand_in_text}
use Rattle.smith_core.specs.declared.module.stand_in.StandIn.{StandIn}
use Rattle.smith_core.proofs.StandIn.{agrees, parts_listed}
use Rattle.smith_core.proofs.StandInSame.{any_map, function_at, text_is, IsPlain}

-- a section of a list, by whether the list is empty
pub listed_none : {A : Type 0} (id : ℕ) (f : A → Piece) (xs : List A) → (length xs == 0) ≡ true → listed id f xs ≡ bytes []
listed_none id f [] e = refl
listed_none id f (x ∷ xs) e = absurd (let none : length (x ∷ xs) ≡ 0 = eqb-true _ _ e in omega (arith, none))

pub listed_some : {A : Type 0} (id : ℕ) (f : A → Piece) (xs : List A) → (length xs == 0) ≡ false → listed id f xs ≡ sized id (many f xs)
listed_some id f [] e = absurd (false≢true (sym e))
listed_some id f (x ∷ xs) e = refl

-- a section of what the items of a list show
pub listed_shown : {A B : Type 0} (id : ℕ) (f : B → Piece) (g : A → B) (xs : List A) → listed id (λ x. f (g x)) xs ≡ listed id f (map g xs)
listed_shown id f g xs =
    let count : length xs ≡ length (map g xs) = sym (length-map xs g) in
    λ i. if any_map g xs i then sized id (u (count i) ⊕ sym (each-map f g xs) i) else bytes []

types_shown : (fs : List FuncType) → map function_at (map final_type fs) ≡ map shown_func fs
types_shown [] = refl
types_shown (f ∷ fs) = ap (λ gs. shown_func f ∷ gs) (types_shown fs)

types_plain : (fs : List FuncType) → AllByRecursion IsPlain (map final_type fs)
types_plain [] = tt
types_plain (f ∷ fs) = (left_nil (core_function (shown_func f)), types_plain fs)

pub stand_in_listed : (s : StandIn) → HasTypesAndMemories (stand_in_parts s)
stand_in_listed s =
    parts_listed s.bulk_memory_enabled (map final_type s.types.items) s.memories.items (few_mapped final_type s.types) (few_items s.memories)

pub stand_in_is : (s : StandIn) → module_text (stand_in_parts s) ≡ stand_in_text (shown s)
stand_in_is s =
    text_is (stand_in_parts s) (stand_in_listed s) (types_plain s.types.items)
    ∙ (λ i. stand_in_text (record { types = types_shown s.types.items i; memories = s.memories.items }))

pub stand_in_agrees : (s : StandIn) → Agree (stand_in_parts s)
stand_in_agrees s = agrees (stand_in_parts s) (stand_in_listed s)
