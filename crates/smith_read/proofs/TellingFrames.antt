-- What is read is what is spelled: what fills its bytes, and what is framed by its length.
use Rattle.std.proofs.Common.{◌≡◌, ℕ, List, [], ◌++◌, length, take, drop, Option, Some, None, refl, ap, sym, ◌∙◌, subst, arith, Bool, true, false, cond, eqb}
use Rattle.std.proofs.Common.{nat_lt}
use Rattle.std.proofs.lemmas.Bool.{ltb-false, le-ltb, eqb-true}
use Rattle.std.proofs.lemmas.List.{take_at, drop_at, take-append-drop, length-append, length-take-le, nil_from_length}
use Rattle.smith_format.specs.Piece.{Piece, ◌⊕◌, u, framed}
use Rattle.smith_format.proofs.Piece.{joined, left_none, right_nil}
use Rattle.smith_read.specs.Reading.{Found, ◌>>=◌, seen, u_at, all_of, frame_at, framed_at}
use Rattle.smith_read.specs.Tells.{Tells, TellsAll}
use Rattle.smith_read.proofs.Telling.{bind_some, both_begin, parted, tells_u}
use Rattle.std.proofs.lemmas.Option.{same_Some}
use Rattle.std.specs.Prelude.{option_map}

pub tells_all : {A : Type 0} {f : A → Piece} {r : List ℕ → Found A} → Tells f r → TellsAll f (λ b. all_of (r b))
tells_all {A} {f} {r} c = record {
  sound = λ b x e. let m = bind_some (r b) _ x e in ended b m.0 x (eqb (length m.0.1) 0) refl (c.sound b m.0 m.1) m.2;
  whole = λ b x e. rw (c.whole b (x, []) (right_nil (f x) ∙ e)) refl;
} where
  ended : (b : List ℕ) (m : A × List ℕ) (x : A) (t : Bool) → eqb (length m.1) 0 ≡ t → f m.0 ⊕ Some m.1 ≡ Some b
      → cond {A = Option A} t (Some m.0) None ≡ Some x → f x ≡ Some b
  ended b m x true i e g = ap f (sym (same_Some _ _ g)) ∙ sym (right_nil (f m.0)) ∙ ap (λ l. f m.0 ⊕ Some l) (sym (nil_from_length m.1 (eqb-true _ _ i))) ∙ e
  ended b m x false i e g = absurd cc

frame_sound : (b : List ℕ) (f : List ℕ × List ℕ) → frame_at b ≡ Some f → (u (length f.0) ⊕ Some f.0) ⊕ Some f.1 ≡ Some b
unfolding frame_at
frame_sound b f e =
    let n = bind_some (u_at b) _ f e in
    by_test n.0 (nat_lt (length n.0.1) n.0.0) refl (tells_u.sound b n.0 n.1) n.2
  where
    by_test : (n : ℕ × List ℕ) (t : Bool) → nat_lt (length n.1) n.0 ≡ t → u n.0 ⊕ Some n.1 ≡ Some b
        → cond {A = Found (List ℕ)} t None (Some (take n.0 n.1, drop n.0 n.1)) ≡ Some f → (u (length f.0) ⊕ Some f.0) ⊕ Some f.1 ≡ Some b
    by_test n true i g h = absurd cc
    by_test n false i g h =
        let l : length (take n.0 n.1) ≡ n.0 = length-take-le n.0 n.1 (ltb-false _ _ i) in
        subst (λ (p : List ℕ × List ℕ). (u (length p.0) ⊕ Some p.0) ⊕ Some p.1 ≡ Some b) (same_Some (take n.0 n.1, drop n.0 n.1) f h)
        (both_begin (u (length (take n.0 n.1))) (Some (take n.0 n.1)) b n.1 (drop n.0 n.1) (ap (λ m. u m ⊕ Some n.1) l ∙ g)
        (joined _ _ ∙ ap Some (take-append-drop n.0 n.1)))

pub frame_whole : (b c rest : List ℕ) → (u (length c) ⊕ Some c) ⊕ Some rest ≡ Some b → frame_at b ≡ Some (c, rest)
unfolding frame_at
frame_whole b c rest e =
    let p = parted (u (length c)) (Some c) b rest e in
    let m : c ++ rest ≡ p.mid = same_Some _ _ (sym (joined c rest) ∙ p.back) in
    let n = tells_u.whole b (length c, p.mid) p.front in
    let l : nat_lt (length (c ++ rest)) (length c) ≡ false = le-ltb _ _ (omega (arith, length-append c rest)) in
    rw (n, ← m, l, take_at c rest (length c) refl, drop_at c rest (length c) refl) refl

framed_some : (p : Piece) (c : List ℕ) → p ≡ Some c → framed p ≡ u (length c) ⊕ Some c
unfolding framed
framed_some p c e = ap framed e

-- what is framed has an encoding
pub framed_cases : (p : Piece) (b rest : List ℕ) → framed p ⊕ Some rest ≡ Some b → (c : List ℕ) × (p ≡ Some c) × ((u (length c) ⊕ Some c) ⊕ Some rest ≡ Some b)
unfolding framed
framed_cases None b rest e = let z : None ≡ Some b = sym (left_none (Some rest)) ∙ e in absurd cc
framed_cases (Some c) b rest e = (c, refl, e)

pub tells_framed : {A : Type 0} {f : A → Piece} {r : List ℕ → Option A} → TellsAll f r → Tells (λ x. framed (f x)) (framed_at r)
tells_framed {A} {f} {r} c = record {
  sound = λ b x e.
      let m = bind_some (frame_at b) (λ m. r m.0 >>= λ x. Some (x, m.1)) x e in
      let v = bind_some (r m.0.0) (λ x. Some (x, m.0.1)) x m.2 in
      subst (λ (p : A × List ℕ). framed (f p.0) ⊕ Some p.1 ≡ Some b) (same_Some _ _ v.2)
      (ap (λ p. p ⊕ Some m.0.1) (framed_some (f v.0) m.0.0 (c.sound m.0.0 v.0 v.1)) ∙ frame_sound b m.0 m.1);
  whole = λ b x e.
      let m = framed_cases (f x.0) b x.1 e in
      rw (frame_whole b m.0 x.1 m.2, c.whole m.0 x.0 m.1) refl;
}

-- a choice of what is framed

abbrev in_frame : {A : Type 0} → (List ℕ → Option A) → Found (List ℕ) → Found A
in_frame r o = o >>= λ f. r f.0 >>= λ x. Some (x, f.1)

in_frame_seen : {A B : Type 0} (g : A → B) (r : List ℕ → Option A) (o : Found (List ℕ)) → in_frame (λ b. option_map g (r b)) o ≡ seen g (in_frame r o)
in_frame_seen g r None = refl
in_frame_seen {A} {B} g r (Some f) = by_contents (r f.0)
  where
    by_contents : (o : Option A) → option_map g o >>= (λ y. Some (y, f.1)) ≡ seen g (o >>= λ x. Some (x, f.1))
    by_contents None = refl
    by_contents (Some x) = refl

pub framed_seen : {A B : Type 0} (g : A → B) (r : List ℕ → Option A) (bs : List ℕ) → framed_at (λ b. option_map g (r b)) bs ≡ seen g (framed_at r bs)
framed_seen g r bs = in_frame_seen g r (frame_at bs)

in_frame_nothing : {A : Type 0} (o : Found (List ℕ)) → in_frame {A = A} (λ b. None) o ≡ None
in_frame_nothing None = refl
in_frame_nothing (Some f) = refl

pub framed_nothing : {A : Type 0} (bs : List ℕ) → framed_at {A = A} (λ b. None) bs ≡ None
framed_nothing bs = in_frame_nothing (frame_at bs)

pub framed_chain : {B P : Type 0} (tag n : ℕ) (r s : List ℕ → Option B) (bs : List ℕ) (z : B × List ℕ) → (tag ≡ n → framed_at r bs ≡ Some z → P)
    → (framed_at s bs ≡ Some z → P) → framed_at (λ b. cond (eqb tag n) (r b) (s b)) bs ≡ Some z → P
framed_chain {B} {P} tag n r s bs z here there e = by_test (eqb tag n) refl e
  where
    by_test : (t : Bool) → eqb tag n ≡ t → framed_at (λ b. cond t (r b) (s b)) bs ≡ Some z → P
    by_test true f g = here (eqb-true tag n f) g
    by_test false f g = there g
