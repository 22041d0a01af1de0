-- The first section of a core module, and how many entries it counts.
use Rattle.std.proofs.Common.{◌≡◌, ℕ, ◌≤◌, ◌<◌, ◌↔◌, true, nat_le, List, [], ◌∷◌, length, Option, None, Some, ap, sym, ◌∙◌, subst, arith, length-append}
use Rattle.std.proofs.lemmas.Bool.Decides.{nat_tests}
use Rattle.std.proofs.lemmas.Option.{none-some, same_Some}
use Rattle.smith_format.specs.Piece.{◌⊕◌, byte, bytes, framed}
use Rattle.smith_format.proofs.Clear.{section_head}
use Rattle.smith_format.proofs.Piece.{joined, parts_are, right_nil}
use Rattle.smith_read.specs.declared.unread.Reason.{Reason}
use Rattle.smith_read.specs.declared.unread.Unread.{Unread}
use Rattle.smith_read.specs.declared.unread.Unread.TheVariants.{Malformed}
use Rattle.smith_read.specs.Reading.{Fails, Found, ◌>>=◌, frame_at, framed_at, u_at}
use Rattle.smith_read.specs.Tells.{Tells, TellsAll}
use Rattle.smith_read.proofs.Telling.{both_begin, parted, tells_u}
use Rattle.smith_read.proofs.TellingFrames.{tells_framed}
use Rattle.smith_tree.specs.CoreModules.{CountsFew, section}
use Rattle.smith_tree.proofs.CoreModules.{few_counted}
use Rattle.smith_validate.specs.CoreModules.{HasNoSection}

-- what is not read, unless memory is out
pub unread : {A : Type 0} (read : Option A) {e : Unread} {left : ℕ} {reason : Reason} → e ≡ Malformed left reason → Fails e read → read ≡ None
unread read is f = subst (λ x. Fails x read) is f

-- contents of any sort
any_bytes : TellsAll bytes Some
any_bytes = record { sound = λ b x e. sym e; whole = λ b x e. sym e }

tells_contents : Tells (λ c. framed (bytes c)) (framed_at Some)
tells_contents = tells_framed any_bytes

framed_none : (bs : List ℕ) → frame_at bs ≡ None → framed_at Some bs ≡ None
framed_none bs e = ap (λ (f : Found (List ℕ)). f >>= λ x. Some (x.0, x.1)) e

framed_some : (bs : List ℕ) (f : List ℕ × List ℕ) → frame_at bs ≡ Some f → framed_at Some bs ≡ Some f
framed_some bs f e = ap (λ (g : Found (List ℕ)). g >>= λ x. Some (x.0, x.1)) e

pub no_section_at_end : HasNoSection []
no_section_at_end id contents after e = grind (arith, section_head)

-- behind the id of the section
pub no_section : (id : ℕ) (rest : List ℕ) → frame_at rest ≡ None → HasNoSection (id ∷ rest)
no_section id rest none other contents after e =
    let p = parted (byte other) (framed (bytes contents)) (id ∷ rest) after e in
    let same : p.mid ≡ rest = let f : other ∷ p.mid ≡ id ∷ rest = same_Some _ _ (sym (joined (other ∷ []) p.mid) ∙ p.front) in cc in
    let read = tells_contents.whole rest (contents, after) (subst (λ m. framed (bytes contents) ⊕ Some after ≡ Some m) same p.back) in
    none-some (contents, after) (sym (framed_none rest none) ∙ read)

pub a_section : (id : ℕ) (rest : List ℕ) (f : List ℕ × List ℕ) → frame_at rest ≡ Some f → section (id, f.0) ⊕ bytes f.1 ≡ Some (id ∷ rest)
a_section id rest f e =
    both_begin (byte id) (framed (bytes f.0)) (id ∷ rest) rest f.1 (joined (id ∷ []) rest) (tells_contents.sound rest f (framed_some rest f e))

-- What is behind a section is shorter.
pub shorter : (id : ℕ) (contents after b : List ℕ) → section (id, contents) ⊕ bytes after ≡ Some b → length after < length b
shorter id contents after b e =
    let p = parts_are (section (id, contents)) (bytes after) b e in
    let h = section_head id (bytes contents) (bytes []) p.left (right_nil (section (id, contents)) ∙ p.p_is) in
    let same : after ≡ p.right = same_Some _ _ p.q_is in
    omega (arith, ap length p.is, length-append p.left p.right, ap length h.1, ap length same)

-- A count is read, or there is none.

pub counts_none : (contents : List ℕ) → u_at contents ≡ None → CountsFew contents
counts_none contents none count entries e =
    let read = tells_u.whole contents (count, entries) e in
    absurd (none-some (count, entries) (sym none ∙ read))

counts_some : (contents : List ℕ) (n : ℕ × List ℕ) → u_at contents ≡ Some n → n.0 ≤ 100 → CountsFew contents
counts_some contents n e few = few_counted contents n.0 n.1 (tells_u.sound contents n e) few

counted_few : (contents : List ℕ) (n : ℕ × List ℕ) → u_at contents ≡ Some n → CountsFew contents → n.0 ≤ 100
counted_few contents n e few = few n.0 n.1 (tells_u.sound contents n e)

-- whether it is found to be small
pub counts_are_few : (contents : List ℕ) (n : ℕ × List ℕ) → u_at contents ≡ Some n → (nat_le n.0 100 ≡ true) ↔ CountsFew contents
counts_are_few contents n e = grind (arith, counts_some, nat_tests, counted_few)
