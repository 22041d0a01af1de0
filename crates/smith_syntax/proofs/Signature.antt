-- Signatures: the fields of the program's function types, what distinguishes them, and how they are spelled.
use Rattle.std.proofs.Common.{arith, ◌≡◌, true, List, [], ◌∷◌, ◌++◌, map, Option, refl, sym, ap, ◌∙◌}
use Rattle.std.proofs.lemmas.List.{length-map}
use Rattle.std.proofs.lemmas.Bool.{false≢true}
use Rattle.std.specs.Cmp.Lexicographic.{pointwise}
use Rattle.std.specs.Hash.{slice, option, usize}
use Rattle.std.specs.List.{flat_map}
use Rattle.std.specs.Prelude.{◌&&◌}
use Rattle.std.specs.declared.alloc.Global.{Global}
use Rattle.std.specs.declared.string.String.{String}
use Rattle.smith_format.specs.Piece.{◌⊕◌, byte, many}
use Rattle.smith_format.proofs.Piece.{assoc}
use Rattle.smith_format.proofs.Many.{many-map}
use Rattle.smith_syntax.specs.Entries.{Signature, EntryOf, function, plain}
use Rattle.smith_syntax.specs.Grammar.{labelvaltype, resultlist, functype}
use Rattle.smith_syntax.specs.Shown.{full_type, shown_type}
use Rattle.smith_syntax.specs.HasSignature.{is_of_signature, has_signature}
use Rattle.smith_syntax.specs.Signature.{named, signature}
use Rattle.smith_syntax.specs.SameSignature.{same_field, field_input, signature_input, same_signature_Decides}
use Rattle.smith_syntax.specs.contracts.types.ComponentValTypeHash.TheImpl.{ghosts as val_hash}
use Rattle.smith_syntax.specs.declared.types.ComponentValType.{ComponentValType}
use Rattle.smith_syntax.specs.declared.deftype.DefType.{DefType}

abbrev Stored : Type 0
Stored = String Global × ComponentValType

pub pointwise-named : (xs ys : List Stored) → pointwise same_field (map named xs) (map named ys) ≡ pointwise (λ p q. same_field (named p) (named q)) xs ys
pointwise-named [] [] = refl
pointwise-named [] (y ∷ ys) = refl
pointwise-named (x ∷ xs) [] = refl
pointwise-named (x ∷ xs) (y ∷ ys) = ap (λ b. same_field (named x) (named y) && b) (pointwise-named xs ys)

each : (xs : List Stored) → flat_map field_input (map named xs) ≡ flat_map (λ p. field_input (named p)) xs
each [] = refl
each (x ∷ xs) = ap (λ ws. field_input (named x) ++ ws) (each xs)

pub input-named : (xs : List Stored) (r : Option ComponentValType)
    → slice (λ p. field_input (named p)) xs ++ option val_hash.hash_input r ≡ signature_input (signature xs r)
input-named xs r = λ i. (usize (sym (length-map {A = Stored} xs named) i) ++ sym (each xs) i) ++ option val_hash.hash_input r

-- A type has a signature exactly if it is shown as the function of it.

module _ {N K : Type 0} where
  told : (s : Signature) (e : EntryOf N K) → is_of_signature s e ≡ true → plain e ≡ function s
  told s (function f) e = ap function (sym ((same_signature_Decides s f).0 e))
  told s _ e = absurd (false≢true e)

  tells : (s : Signature) (e : EntryOf N K) → plain e ≡ function s → is_of_signature s e ≡ true
  tells s (function f) e = (same_signature_Decides s f).1 (let z : s ≡ f = cc in z)
  tells s _ e = cc

pub signature_shown : (s : Signature) (ty : DefType) → has_signature s ty ≡ true → shown_type ty ≡ function s
signature_shown s ty e = told s (full_type ty) e

pub shown_signature : (s : Signature) (ty : DefType) → shown_type ty ≡ function s → has_signature s ty ≡ true
shown_signature s ty e = tells s (full_type ty) e

-- how a function type is spelled, by its fields
pub functype_is : (f : Signature) (ps : List Stored) (r : Option ComponentValType) → signature ps r ≡ f
    → functype f ≡ (byte 0x40 ⊕ many (λ p. labelvaltype (named p)) ps) ⊕ resultlist r
functype_is f ps r e = grind (arith, many-map, assoc)
