-- How function types are compared and hashed: by their signatures.
use Rattle.std.specs.Prelude.{◌≡◌, Bool, true, ◌&&◌, ◌++◌, Option, Some, None, bytes_eq, refl}
use Rattle.std.specs.Cmp.{IsEquivalence, IsPartialEquivalence, partial_equiv_from_equiv}
use Rattle.std.specs.Cmp.Lexicographic.{pointwise, bytes_decides, pointwise_decides}
use Rattle.std.specs.Hash.{HashWrites, str, slice, option}
use Rattle.std.specs.Option.{option_eq}
use Rattle.std.proofs.Common.{ap, sym, Decides}
use Rattle.std.proofs.lemmas.Bool.{false≢true}
use Rattle.std.proofs.lemmas.Bool.Decides.{Decides-and, Decides-eqb, same_from_decides}
use denote.Enum.Bare.{same_true, true_same}
use Rattle.smith_syntax.specs.Entries.{Field, Signature}
use Rattle.smith_syntax.specs.contracts.types.PrimitiveValType.{the_type}
use Rattle.smith_syntax.specs.contracts.types.PrimitiveValTypePartialEq.TheImpl.{ghosts as prim}
use Rattle.smith_syntax.specs.contracts.types.ComponentValTypePartialEq.TheImpl.{ghosts as val}
use Rattle.smith_syntax.specs.contracts.types.ComponentValTypeHash.TheImpl.{ghosts as val_hash}
use Rattle.smith_syntax.specs.declared.types.PrimitiveValType.{PrimitiveValType}
use Rattle.smith_syntax.specs.declared.types.ComponentValType.{ComponentValType}
use Rattle.smith_syntax.specs.declared.types.ComponentValType.TheVariants.{Primitive, Indexed}

abbrev pub same_field : Field → Field → Bool
same_field p q = bytes_eq p.0 q.0 && val.eq p.1 q.1

-- the same parameters in the same order, and the same result
abbrev pub same_signature : Signature → Signature → Bool
same_signature a b = pointwise same_field a.params b.params && option_eq val.eq a.result b.result

-- what a hasher is fed

abbrev pub field_input : Field → HashWrites
field_input p = str p.0 ++ val_hash.hash_input p.1

abbrev pub signature_input : Signature → HashWrites
signature_input a = slice field_input a.params ++ option val_hash.hash_input a.result

-- The equality returns true exactly if they are the same: it is an equivalence, and equal ones feed a hasher alike.

pub primitive_Decides : (a b : PrimitiveValType) → Decides (prim.eq a b) (a ≡ b)
primitive_Decides a b = (same_true the_type tt a b, true_same the_type a b)

val_Decides : (a b : ComponentValType) → Decides (val.eq a b) (a ≡ b)
val_Decides (Primitive p) (Primitive q) = let d = primitive_Decides p q in (λ e. ap Primitive (d.0 e), λ e. d.1 cc)
val_Decides (Primitive p) (Indexed j) = (λ e. absurd (false≢true e), λ e. cc)
val_Decides (Indexed i) (Primitive q) = (λ e. absurd (false≢true e), λ e. cc)
val_Decides (Indexed i) (Indexed j) = let d = Decides-eqb i j in (λ e. ap Indexed (d.0 e), λ e. d.1 cc)

maybe_Decides : (a b : Option ComponentValType) → Decides (option_eq val.eq a b) (a ≡ b)
maybe_Decides None None = (λ _. refl, λ _. refl)
maybe_Decides None (Some y) = (λ e. absurd (false≢true e), λ e. cc)
maybe_Decides (Some x) None = (λ e. absurd (false≢true e), λ e. cc)
maybe_Decides (Some x) (Some y) = let d = val_Decides x y in (λ e. ap Some (d.0 e), λ e. d.1 cc)

field_Decides : (p q : Field) → Decides (same_field p q) (p ≡ q)
field_Decides p q =
    let both = Decides-and _ _ (bytes_decides p.0 q.0) (val_Decides p.1 q.1) in
    (λ e. λ i. ((both.0 e).0 i, (both.0 e).1 i), λ e. both.1 (ap (λ x. x.0) e, ap (λ x. x.1) e))

pub same_signature_Decides : (a b : Signature) → Decides (same_signature a b) (a ≡ b)
same_signature_Decides a b =
    let both = Decides-and _ _ (pointwise_decides field_Decides a.params b.params) (maybe_Decides a.result b.result) in
    (λ e. λ i. record { params = (both.0 e).0 i; result = (both.0 e).1 i }, λ e. both.1 (ap (λ s. s.params) e, ap (λ s. s.result) e))

-- a test that decides `≡` is an equivalence
equiv_from_decides : {K : Type 0} (E : K → K → Bool) → ((x y : K) → Decides (E x y) (x ≡ y)) → IsEquivalence E
equiv_from_decides E d = record {
  refl = λ x. (d x x).1 refl;
  symm = λ x y. same_from_decides _ _ (d x y) ((λ e. sym ((d y x).0 e)), (λ e. (d y x).1 (sym e)));
  congr = λ x y z e. ap (λ w. E w z) ((d x y).0 e);
}

pub same_signature_equiv : IsEquivalence same_signature
same_signature_equiv = equiv_from_decides same_signature same_signature_Decides

pub same_signature_per : IsPartialEquivalence same_signature
same_signature_per = partial_equiv_from_equiv same_signature_equiv

pub signature_input_respects : (a b : Signature) → same_signature a b ≡ true → signature_input a ≡ signature_input b
signature_input_respects a b e = ap signature_input ((same_signature_Decides a b).0 e)
