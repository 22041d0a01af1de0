-- Bytes and texts that are read: the rest, that they are determined, and that spelled ones are read.
use Rattle.std.proofs.Common.{◌≡◌, ℕ, ◌+◌, ◌-◌, min, ◌<◌, ◌≤◌, ◌^◌, true, false, List, [], ◌∷◌, ◌++◌, length, take, drop, slice_index, refl, sym, ap, subst}
use Rattle.std.proofs.Common.{◌∙◌, arith, ⊎_elim}
use Rattle.std.proofs.lemmas.Bool.{cases_lt}
use Rattle.std.proofs.lemmas.List.{append_assoc, length-take, take_at, take_min, drop_at, take_all}
use Rattle.std.specs.Str.{IsUtf8, IsValidUpTo}
use Rattle.smith_input.specs.Reading.{Reads, Flips, IsTail}
use Rattle.smith_input.specs.Script.{pick, script_bytes, script_text}
use Rattle.smith_input.specs.Texts.{ReadsBytes, ends, follows, IsLongestText, ReadsText}
use Rattle.smith_input.proofs.Picks.{reads-pick}
use Rattle.smith_input.proofs.Reading.{tail_trans, reads_tail, reads_unique, flips_unique, flips_one, flips_zero}

pub bytes_tail : {bytes values rest : List ℕ} → ReadsBytes bytes values rest → IsTail rest bytes
bytes_tail (ends f) = (1, f.left)
bytes_tail (follows f b more) = tail_trans (bytes_tail more) (tail_trans (1, b.left) (1, f.left))

pub bytes_unique : {bytes other some more left rest : List ℕ} → ReadsBytes bytes some left → ReadsBytes other more rest → bytes ≡ other
    → (some ≡ more) × (left ≡ rest)
bytes_unique {left = left} {rest = rest} (ends {bytes = bytes} f) (ends {bytes = other} g) e =
    (refl, (flips_unique f (subst (λ b. Flips b false rest) (sym e) g)).1)
bytes_unique (ends {bytes = bytes} f) (follows {bytes = other} {mid = mid} g h r) e =
    absurd (let n : false ≡ true = (flips_unique f (subst (λ b. Flips b true mid) (sym e) g)).0 in cc)
bytes_unique {rest = rest} (follows {bytes = bytes} g h r) (ends {bytes = other} f) e =
    absurd (let n : true ≡ false = (flips_unique g (subst (λ b. Flips b false rest) (sym e) f)).0 in cc)
bytes_unique (follows {bytes = bytes} {mid = mid} {low = low} {value = value} {values = values} f b r)
    (follows {bytes = other} {mid = amid} {low = alow} {value = avalue} {values = avalues} g c s) e =
    let m : mid ≡ amid = (flips_unique f (subst (λ b. Flips b true amid) (sym e) g)).1 in
    let v : value ≡ avalue = b.value_is ∙ (ap (λ x. slice_index x 0) m ∙ sym c.value_is) in
    let l : low ≡ alow = b.left ∙ (ap (λ x. drop 1 x) m ∙ sym c.left) in
    let h = bytes_unique r s l in
    let i : values ≡ avalues = h.0 in
    (cc, h.1)

pub bytes_read : (values rest : List ℕ) → ReadsBytes (script_bytes values ++ rest) values rest
bytes_read [] rest = ends (flips_zero rest)
bytes_read (x ∷ xs) rest = follows (flips_one (x ∷ script_bytes xs ++ rest)) (record { value_is = refl; left = refl }) (bytes_read xs rest)

pub text_tail : {max : ℕ} {bytes text rest : List ℕ} → ReadsText max bytes text rest → IsTail rest bytes
text_tail {text = text} r = tail_trans (length text, r.left) (reads_tail r.counted)

-- if all is UTF-8, all is the longest prefix
pub longest_all : (bytes : List ℕ) → IsUtf8 bytes → IsLongestText bytes bytes
longest_all bytes u = record { utf8 = u; front = sym (take_all (length bytes) bytes (omega arith)); longest = λ n h k. absurd (omega arith) }

pub longest_front : (bytes text : List ℕ) (n : ℕ) → text ≡ take n bytes → IsValidUpTo bytes n → IsLongestText bytes text
longest_front bytes text n e v =
    let len : length text ≡ n = omega (arith, ap length e, length-take n bytes, v.short) in
    record { utf8 = subst IsUtf8 (sym e) v.front; front = e ∙ ap (λ k. take k bytes) (sym len); longest = λ m h _. v.longest m (omega arith) }

-- a text by its length, cut to the remaining bytes
pub text_cut : {max count k len : ℕ} {bytes after left text got rest : List ℕ} → count ≡ 0 + k → Reads (max - 0 + 1) bytes k after → left ≡ after
    → len ≡ min count (length left) → IsLongestText (take len left) text → got ≡ text → rest ≡ drop (length text) after → ReadsText max bytes got rest
text_cut {max} {count} {k} {len} {bytes} {after} {left} {text} {got} {rest} c r l m t g d =
    let same : max - 0 ≡ max = omega arith in
    let counted : count ≡ k = omega arith in
    let cut : take len left ≡ take k after = ap (λ n. take n left) m ∙ (take_min count left ∙ (ap (λ n. take n left) counted ∙ ap (take k) l)) in
    record {
      count = k;
      after_count = after;
      counted = subst (λ n. Reads (n + 1) bytes k after) same r;
      longest = subst (λ x. IsLongestText (take k after) x) (sym g) (subst (λ x. IsLongestText x text) cut t);
      left = d ∙ ap (λ x. drop (length x) after) (sym g);
    }

longest_short : (bytes a b : List ℕ) → IsLongestText bytes a → IsLongestText bytes b → length a ≤ length b
longest_short bytes a b p q =
    ⊎_elim
    (λ lt. absurd (q.longest (length a) lt (omega (arith, ap length p.front, length-take (length a) bytes)) (subst IsUtf8 p.front p.utf8)))
    (λ le. le)
    (cases_lt (length b) (length a))

pub longest_unique : (bytes a b : List ℕ) → IsLongestText bytes a → IsLongestText bytes b → a ≡ b
longest_unique bytes a b p q =
    let same : length a ≡ length b = omega (arith, longest_short bytes a b p q, longest_short bytes b a q p) in
    p.front ∙ (ap (λ n. take n bytes) same ∙ sym q.front)

pub text_unique : {max : ℕ} {bytes a b left rest : List ℕ} → ReadsText max bytes a left → ReadsText max bytes b rest → (a ≡ b) × (left ≡ rest)
text_unique {a = a} {b = b} r s =
    let c = reads_unique r.counted s.counted in
    let n : r.count ≡ s.count = c.0 in
    let d : r.after_count ≡ s.after_count = c.1 in
    let front : take r.count r.after_count ≡ take s.count s.after_count = cc in
    let t : a ≡ b = longest_unique (take s.count s.after_count) a b (subst (λ bs. IsLongestText bs a) front r.longest) s.longest in
    (t, r.left ∙ (ap (λ x. drop (length x) r.after_count) t ∙ (ap (λ x. drop (length b) x) d ∙ sym s.left)))

pub text_read : (max : ℕ) (text rest : List ℕ) → max < 2 ^ 64 → IsUtf8 text → length text ≤ max → ReadsText max (script_text max text ++ rest) text rest
text_read max text rest h u l =
    let counted : Reads (max + 1) (pick (max + 1) (length text) ++ (text ++ rest)) (length text) (text ++ rest) =
    reads-pick (max + 1) (length text) (text ++ rest) (omega arith) (omega arith) in
    record {
      count = length text;
      after_count = text ++ rest;
      counted = rw append_assoc counted;
      longest = rw (take_at text rest (length text) refl) (longest_all text u);
      left = sym (drop_at text rest (length text) refl);
    }
