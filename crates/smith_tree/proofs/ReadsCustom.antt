-- Custom sections: their names are short, the bytes decide what is read, and scripts say them.
use Rattle.std.proofs.Common.{◌≡◌, ℕ, ◌≤◌, List, ◌++◌, length, take, arith, ap, append_assoc, subst, sym}
use Rattle.std.proofs.lemmas.List.{length-take}
use Rattle.std.specs.Str.{IsUtf8}
use Rattle.smith_input.specs.Reading.{IsTail}
use Rattle.smith_input.specs.Script.{script_bytes, script_text}
use Rattle.smith_input.proofs.Reading.{tail_trans}
use Rattle.smith_input.proofs.ReadsTexts.{bytes_read, bytes_tail, bytes_unique, text_read, text_tail, text_unique}
use Rattle.smith_tree.specs.ReadsCustom.{ReadsCustom}

pub custom_short : (b name contents rest : List ℕ) → ReadsCustom b name contents rest → length name ≤ 1000
custom_short b name contents rest (mid, t, bs) = grind (arith, length-take)

pub custom_tail : (b name contents rest : List ℕ) → ReadsCustom b name contents rest → IsTail rest b
custom_tail b name contents rest (mid, t, bs) = tail_trans (bytes_tail bs) (text_tail t)

pub custom_same : {b name contents r other held q : List ℕ} → ReadsCustom b name contents r → ReadsCustom b other held q
    → (name ≡ other) × (contents ≡ held) × (r ≡ q)
custom_same (mid, t, bs) (low, s, cs) =
    let a = text_unique t s in
    let c = bytes_unique bs cs a.1 in
    (a.0, c.0, c.1)

pub custom_read : (name contents rest : List ℕ) → IsUtf8 name → length name ≤ 1000
    → ReadsCustom ((script_text 1000 name ++ script_bytes contents) ++ rest) name contents rest
custom_read name contents rest utf8 short =
    subst (λ z. ReadsCustom z name contents rest) (sym (append_assoc (script_text 1000 name) (script_bytes contents) rest))
    (script_bytes contents ++ rest, text_read 1000 name (script_bytes contents ++ rest) (omega arith) utf8 short, bytes_read contents rest)
