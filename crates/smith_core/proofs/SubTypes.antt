-- The lengths of what precedes a composite type.
use Rattle.std.proofs.Common.{◌≡◌, ℕ, ◌+◌, ◌<◌, ◌^◌, Bool, true, false, length, [], ◌∷◌, Some, None, refl, subst, arith}
use Rattle.smith_format.specs.Numbers.{unsigned, digits}
use Rattle.smith_format.specs.Piece.{u, byte, many}
use Rattle.smith_format.specs.Writing.{Takes}
use Rattle.smith_format.proofs.Sizes.{takes_bytes, takes_then, takes_u}
use Rattle.smith_format.proofs.Piece.{right_nil}
use Rattle.smith_core.specs.SubTypes.{sub_prefix}

none_is : u 0 ≡ byte 0
unfolding u unsigned digits
none_is = refl

one_is : u 1 ≡ byte 1
unfolding u unsigned digits
one_is = refl

takes_none : Takes 1 (many u [])
takes_none = rw none_is (takes_then (takes_bytes 1 _ refl) (takes_bytes 0 [] refl))

takes_one : (i : ℕ) {n : ℕ} → Takes n (u i) → Takes (1 + n) (many u (i ∷ []))
takes_one i t = rw (one_is, right_nil (u i)) (takes_then (takes_bytes 1 _ refl) t)

pub takes_supertype : (b : Bool) (i n : ℕ) → i < 2 ^ 32 → n ≡ length (unsigned i)
    → Takes (2 + n) (sub_prefix b (Some i))
takes_supertype b i n h e = subst (λ (l : ℕ). Takes l (sub_prefix b (Some i))) (omega (arith, e)) (by_form b)
  where
    by_form : (a : Bool) → Takes (1 + (1 + length (unsigned i))) (sub_prefix a (Some i))
    by_form true = takes_then (takes_bytes 1 _ refl) (takes_one i (takes_u i h))
    by_form false = takes_then (takes_bytes 1 _ refl) (takes_one i (takes_u i h))

pub takes_open : Takes 2 (sub_prefix false None)
takes_open = takes_then (takes_bytes 1 _ refl) takes_none
