-- What is read is what is spelled: canonical functions and exports.
use Rattle.std.proofs.Common.{◌≡◌, ℕ, ◌<◌, List, Some, refl, ap, sym, ◌∙◌, subst, lit<}
use Rattle.std.proofs.lemmas.Option.{same_Some}
use Rattle.smith_format.specs.Piece.{Piece, ◌⊕◌, byte, u, text}
use Rattle.smith_format.proofs.Piece.{two_bytes}
use Rattle.smith_tree.specs.Grammar.{canon, export_entry}
use Rattle.smith_tree.specs.Tree.{Canon, lift, lower}
use Rattle.smith_read.specs.Reading.{Found, ◌>>=◌, byte_at, behind, both_at, u_at, skip_at, text_at}
use Rattle.smith_read.specs.SectionEntries.{canon_after, canon_at, ended_at, export_at, export_of}
use Rattle.smith_read.specs.Tells.{Begins, Tells}
use Rattle.smith_read.proofs.Telling.{bind_some, chain, nothing, both_begin, parted, skip_begins, skip_read, tells_u, tells_text, tells_both}
use Rattle.smith_read.proofs.Telling.{tells_behind, tells_after, tells_seen, row_sound, row_told, Told}

-- ---- canonical functions

tells_ended : {A : Type 0} {f : A → Piece} {r : List ℕ → Found A} (n : ℕ) → n < 256 → Tells f r → Tells (λ x. f x ⊕ byte n) (ended_at r n)
tells_ended {A} {f} {r} n l c = record {
  sound = λ b x e.
      let m = bind_some (r b) (λ x. skip_at n x.1 >>= λ rest. Some (x.0, rest)) x e in
      let s = bind_some (skip_at n m.0.1) (λ rest. Some (m.0.0, rest)) x m.2 in
      subst (λ (p : A × List ℕ). (f p.0 ⊕ byte n) ⊕ Some p.1 ≡ Some b) (same_Some _ _ s.2)
      (both_begin (f m.0.0) (byte n) b m.0.1 s.0 (c.sound b m.0 m.1) (skip_begins n m.0.1 s.0 s.1));
  whole = λ b x e.
      let p = parted (f x.0) (byte n) b x.1 e in
      rw (c.whole b (x.0, p.mid) p.front, skip_read n p.mid x.1 l p.back) refl;
}

tells_lift : Tells (λ (x : ℕ × ℕ). byte 0x00 ⊕ (u x.0 ⊕ (byte 0x00 ⊕ u x.1))) (behind 0x00 (both_at u_at (behind 0x00 u_at)))
tells_lift = tells_behind 0x00 (lit< tt) (tells_both tells_u (tells_behind 0x00 (lit< tt) tells_u))

tells_lower : Tells (λ f. byte 0x00 ⊕ (u f ⊕ byte 0x00)) (behind 0x00 (ended_at u_at 0x00))
tells_lower = tells_behind 0x00 (lit< tt) (tells_ended 0x00 (lit< tt) tells_u)

canon_begins : (b : List ℕ) (t : ℕ × List ℕ) (x : Canon × List ℕ) → byte_at b ≡ Some t → canon_after t.0 t.1 ≡ Some x → Begins canon b x
unfolding canon_after
canon_begins b t x e =
    chain t.0 0x00 _ _ x (row_sound canon (λ x. lift x.0 x.1) 0x00 tells_lift (λ x. two_bytes 0x00 0x00 (u x.0 ⊕ (byte 0x00 ⊕ u x.1))) b t x e)
    (chain t.0 0x01 _ _ x (row_sound canon lower 0x01 tells_lower (λ f. two_bytes 0x01 0x00 (u f ⊕ byte 0x00)) b t x e)
    (nothing x))

canon_read : (b : List ℕ) (x : Canon) (rest : List ℕ) → Begins canon b (x, rest) → Told canon_after b (x, rest)
unfolding canon_after
canon_read b (lift c t) rest e = row_told canon_after (λ x. lift x.0 x.1) 0x00 (lit< tt) tells_lift (λ bs. refl) {x = (c, t)}
    (ap (λ p. p ⊕ Some rest) (sym (two_bytes 0x00 0x00 (u c ⊕ (byte 0x00 ⊕ u t)))) ∙ e)
canon_read b (lower f) rest e = row_told canon_after lower 0x01 (lit< tt) tells_lower (λ bs. refl)
    (ap (λ p. p ⊕ Some rest) (sym (two_bytes 0x01 0x00 (u f ⊕ byte 0x00))) ∙ e)

pub tells_canon : Tells canon canon_at
unfolding canon_at
tells_canon = tells_after canon_after canon_begins canon_read

-- ---- exports

abbrev export_text : List ℕ × ℕ → Piece
export_text x = byte 0x00 ⊕ (text x.0 ⊕ (byte 0x01 ⊕ (u x.1 ⊕ byte 0x00)))

tells_exported : Tells export_text (behind 0x00 (both_at text_at (behind 0x01 (ended_at u_at 0x00))))
tells_exported = tells_behind 0x00 (lit< tt) (tells_both tells_text (tells_behind 0x01 (lit< tt) (tells_ended 0x00 (lit< tt) tells_u)))

pub tells_export : Tells export_entry export_at
unfolding export_at
tells_export = tells_seen export_of (λ e. (e.name, e.func)) (λ e. refl) (λ x. refl) tells_exported
