-- Tables and globals, whose parts are in two lists, and data segments.
use Rattle.std.proofs.Common.{◌≡◌, ◌≢◌, ℕ, zero, suc, ◌+◌, ◌<◌, Bool, true, false, cond, nat_lt, List, [], ◌∷◌, length, get_or, Some, None, refl, ap, sym, ◌∙◌}
use Rattle.std.proofs.Common.{subst, arith}
use Rattle.std.specs.List.{AllByRecursion, list_all, slice_get, zip}
use Rattle.std.specs.declared.vec.Vec.{Vec}
use Rattle.std.specs.declared.alloc.Global.{Global}
use Rattle.std.proofs.lemmas.Slice.Zip.{length-zip, get_or-zip}
use Rattle.smith_input.specs.declared.error.Error.{Error}
use Rattle.smith_format.specs.Entities.{global_type}
use Rattle.smith_format.specs.Piece.{Piece, ◌⊕◌, byte, u, raw, framed}
use Rattle.smith_format.specs.Writing.{Gains, IsDue, Takes, TakesTooMuch}
use Rattle.smith_format.specs.declared.types.GlobalType.{GlobalType}
use Rattle.smith_format.proofs.Piece.{right_none}
use Rattle.smith_format.proofs.Sizes.{takes_then, too_much_left}
use Rattle.smith_format.proofs.Steps.{gains_then, due_left, due_right, framed_bytes, framed_nothing}
use Rattle.smith_core.specs.Segments.{data_form, named_type, offset}
use Rattle.smith_core.specs.declared.module.segments.DataSegmentKind.TheVariants as data_kind
use Rattle.smith_core.specs.declared.module.segments.Offset.{Offset}
use Rattle.std.proofs.lemmas.Option.{slice_get_read}
use Rattle.smith_input.proofs.Lists.{all_at}
use Rattle.std.proofs.lemmas.List.{get_or_default}

-- what holds of each holds of the one at an index
pub all_read : {A : Type 0} (P : A → Type 0) (xs : List A) (i : ℕ) (x : A) → AllByRecursion P xs → i < length xs → x ≡ get_or xs i x → P x
all_read P xs i x all h e = all_at P xs i x all (slice_get_read xs (length xs) i x refl h e)

-- the pair at an index of two lists of one length
pub pair_at : {A B : Type 0} (xs : List A) (ys : List B) (i : ℕ) (d : A) (y : B) → length xs ≡ length ys → i < length ys → y ≡ get_or ys i y
    → (get_or xs i d, y) ≡ get_or (zip xs ys) i (get_or xs i d, y)
pair_at {A} {B} xs ys i d y l h e =
    let x : A = get_or xs i d in
    sym (get_or-zip xs ys i (x, y) (omega arith) h ∙ ap (λ z. (z, get_or ys i y)) (get_or_default xs i x d (omega arith)) ∙ ap (λ z. (x, z)) (sym e))

pub pairs_long : {A B : Type 0} (xs : List A) (ys : List B) → length xs ≡ length ys → length (zip xs ys) ≡ length ys
pairs_long xs ys l = omega (arith, length-zip xs ys)

-- the type that an index names
type_at : (ts : List GlobalType) (i : ℕ) (d : GlobalType) → i < length ts → global_type (get_or ts i d) ≡ named_type (slice_get ts i)
type_at [] i d h = absurd (omega arith)
type_at (g ∷ gs) zero d h = refl
type_at (g ∷ gs) (suc i) d h = type_at gs i d (omega arith)

module _ (ts : List GlobalType) (i : ℕ) (d : GlobalType) (h : i < length ts) where
  -- a type that was not put, one whose value was not put, and both
  pub due_type : {e : Error} {a : Vec ℕ Global} (q : Piece) → IsDue e a (global_type (get_or ts i d)) → IsDue e a (named_type (slice_get ts i) ⊕ q)
  due_type {e} {a} q w = due_left q (subst (λ (p : Piece). IsDue e a p) (type_at ts i d h) w)

  pub due_value : {e : Error} {a b : Vec ℕ Global} {q : Piece} → Gains a b (global_type (get_or ts i d)) → IsDue e b q
      → IsDue e a (named_type (slice_get ts i) ⊕ q)
  due_value {e} {a} {b} {q} g w = due_right (subst (λ (p : Piece). Gains a b p) (type_at ts i d h) g) w

  pub gains_global : {a b c : Vec ℕ Global} {q : Piece} → Gains a b (global_type (get_or ts i d)) → Gains b c q → Gains a c (named_type (slice_get ts i) ⊕ q)
  gains_global {a} {b} {c} {q} g k = gains_then (subst (λ (p : Piece). Gains a b p) (type_at ts i d h) g) k

  -- their lengths
  pub too_much_type : (q : Piece) → TakesTooMuch (global_type (get_or ts i d)) → TakesTooMuch (named_type (slice_get ts i) ⊕ q)
  too_much_type q t = too_much_left q (subst (λ (p : Piece). TakesTooMuch p) (type_at ts i d h) t)

  pub takes_global : {m n : ℕ} {q : Piece} → Takes m (global_type (get_or ts i d)) → Takes n q → Takes (m + n) (named_type (slice_get ts i) ⊕ q)
  takes_global {m} t w = takes_then (subst (λ (p : Piece). Takes m p) (type_at ts i d h) t) w

-- data segments
pub data_of : (m : ℕ) (o : Offset) → m ≢ 0 → data_form (data_kind.Active m o) ≡ byte 2 ⊕ u m ⊕ offset o
data_of zero o h = absurd (h refl)
data_of (suc m) o h = refl

framed_if : (x : Bool) (t : List ℕ) → framed (cond x (Some t) None) ≡ u (length t) ⊕ cond x (Some t) None
framed_if true t = framed_bytes t
framed_if false t = framed_nothing ∙ sym (right_none (u (length t)))

pub framed_raw : (bs : List ℕ) → framed (raw bs) ≡ u (length bs) ⊕ raw bs
unfolding raw
framed_raw bs = framed_if (list_all (λ b. nat_lt b 256) bs) bs
