-- UTF-8 is bytes.
use Rattle.std.proofs.Common.{◌≡◌, ℕ, ◌<◌, inl, inr, Bool, true, false, cond, nat_lt, List, [], ◌∷◌, ◌++◌, refl, subst, arith, IsUtf8}
use Rattle.std.proofs.Math.Utf8.{encode, encodes, scalar, scalars, scalar_cases}
use Rattle.std.proofs.lemmas.Bool.{and_parts, ltb-true}
use Rattle.smith_input.specs.Script.{AreBytes}

pub joined_bytes : (a b : List ℕ) → AreBytes a → AreBytes b → AreBytes (a ++ b)
joined_bytes [] b f g = g
joined_bytes (x ∷ a) b f g = (f.0, joined_bytes a b f.1 g)

pub chosen_bytes : (x : Bool) (a b : List ℕ) → (x ≡ true → AreBytes a) → (x ≡ false → AreBytes b) → AreBytes (cond x a b)
chosen_bytes true a b f g = f refl
chosen_bytes false a b f g = g refl

encoded_bytes : (c : ℕ) → scalar c ≡ true → AreBytes (encode c)
unfolding encode
encoded_bytes c h =
    let l : c < 1114112 = elim (scalar_cases c h) [ inl k ↦ omega arith | inr k ↦ k.1 ] in
    chosen_bytes (nat_lt c 128) _ _ (λ e. let f = ltb-true c 128 e in (omega arith, tt))
    (λ _. chosen_bytes (nat_lt c 2048) _ _ (λ e. let f = ltb-true c 2048 e in (omega arith, (omega arith, tt)))
    (λ _. chosen_bytes (nat_lt c 65536) _ _
    (λ e. let f = ltb-true c 65536 e in (omega arith, (omega arith, (omega arith, tt))))
    (λ _. (omega arith, (omega arith, (omega arith, (omega arith, tt)))))))

encodings_bytes : (cs : List ℕ) → scalars cs ≡ true → AreBytes (encodes cs)
encodings_bytes [] h = tt
encodings_bytes (c ∷ cs) h =
    let z = and_parts (scalar c) (scalars cs) h in
    joined_bytes (encode c) (encodes cs) (encoded_bytes c z.0) (encodings_bytes cs z.1)

pub utf8_bytes : (bs : List ℕ) → IsUtf8 bs → AreBytes bs
utf8_bytes bs (cs, (h, e)) = subst AreBytes e (encodings_bytes cs h)
