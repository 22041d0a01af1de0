-- What the types of a scope may be used for, with one more type.
use Rattle.std.proofs.Common.{◌≡◌, ℕ, ◌+◌, Bool, true, false, cond, List, [], ◌∷◌, ◌++◌, length, map, refl, sym, ap, ◌∙◌, arith, append-nil}
use Rattle.std.proofs.Common.{length-append}
use Rattle.std.proofs.lemmas.List.{length-map, map-append}
use Rattle.smith_syntax.specs.Entries.{Entry}
use Rattle.smith_syntax.specs.Usable.{marked_places}
use Rattle.smith_syntax.specs.Scope.{ScopeOf, with_type}
use Rattle.smith_syntax.specs.declared.marks.Mark.{Mark}
use Rattle.smith_scope.specs.Kept.{AreKept, AreOffers, AreUses, Notes, SameOffers, noted}
use Rattle.smith_scope.specs.declared.kept.Kept.{Kept}
use Rattle.smith_scope.specs.declared.offers.Offer.TheVariants as offer
use Rattle.smith_scope.specs.declared.offers.Offers.{Offers}
use Rattle.smith_scope.specs.declared.offers.Uses.{Uses}
use Rattle.smith_scope.proofs.Places.{push_front}

module _ {T : Type 0} (p : T → Mark → Bool) where
  marked_places-push : (i : ℕ) (ts : List T) (ms : List Mark) (t : T) (m : Mark) → length ms ≡ length ts
      → marked_places p i (ts ++ t ∷ []) (ms ++ m ∷ []) ≡ marked_places p i ts ms ++ cond (p t m) ((i + length ts) ∷ []) []
  marked_places-push i [] [] t m e = ap (λ n. cond (p t m) (n ∷ []) []) (let z : i ≡ i + 0 = omega arith in z)
  marked_places-push i [] (n ∷ ms) t m e = absurd (omega (arith, e))
  marked_places-push i (x ∷ ts) [] t m e = absurd (omega (arith, e))
  marked_places-push i (x ∷ ts) (n ∷ ms) t m e =
      let rest = marked_places-push (i + 1) ts ms t m (omega (arith, e)) in
      let at : i + 1 + length ts ≡ i + length (x ∷ ts) = omega arith in
      ap (λ ws. cond (p x n) (i ∷ ws) ws) (rest ∙ ap (λ k. marked_places p (i + 1) ts ms ++ cond (p t m) (k ∷ []) []) at)
      ∙ push_front (p x n) i (marked_places p (i + 1) ts ms) (cond (p t m) ((i + length (x ∷ ts)) ∷ []) [])

noted_end : (row : List ℕ) (b : Bool) (i : ℕ) → noted row b i ≡ row ++ cond b (i ∷ []) []
noted_end row true i = refl
noted_end row false i = sym (append-nil row)

-- one row
module _ (p : Entry → Mark → Bool) (types : List Entry) (marks : List Mark) (e : Entry) (m : Mark) (i : ℕ) (many : length marks ≡ length types)
    (at : i ≡ length types) where
  row_noted : {was old new : List ℕ} {b : Bool} → was ≡ marked_places p 0 types marks → old ≡ was → b ≡ p e m → new ≡ noted old b i
      → new ≡ marked_places p 0 (types ++ e ∷ []) (marks ++ m ∷ [])
  row_noted {was} {old} {new} {b} is same uses to = grind (arith, noted_end, marked_places-push)

pub offers_noted : (types : List Entry) (marks : List Mark) (e : Entry) (m : Mark) (i : ℕ) → length marks ≡ length types → i ≡ length types
    → {was old new : Offers} {u : Uses} → AreOffers was types marks → SameOffers was old → AreUses u e m → Notes old new u i
    → AreOffers new (types ++ e ∷ []) (marks ++ m ∷ [])
offers_noted types marks e m i many at a s u n = grind (arith, row_noted)

-- What is kept of the types of a scope, with one more type.
module _ {T C : Type 0} (shown : T → Entry) (k n : Kept) (s t : ScopeOf T C) (kept : AreKept k (map shown s.types)) where
  pub kept_more : (ty : T) (m : Mark) (i : ℕ) → i ≡ length s.types → t ≡ with_type s ty → {old : Offers} {u : Uses}
      → SameOffers k.offers old → AreUses u (shown ty) m → Notes old n.offers u i → n.marks.items ≡ k.marks.items ++ m ∷ []
      → AreKept n (map shown t.types)
  kept_more ty m i at grown same uses notes to =
      let many : i ≡ length (map shown s.types) = at ∙ sym (length-map s.types shown) in
      let types : map shown t.types ≡ map shown s.types ++ shown ty ∷ [] =
      ap (λ d. map shown d.types) grown ∙ map-append shown s.types (ty ∷ []) in
      let l : length n.marks.items ≡ length k.marks.items + 1 = ap length to ∙ length-append k.marks.items (m ∷ []) in
      let more : length (map shown t.types) ≡ length (map shown s.types) + 1 =
      ap length types ∙ length-append (map shown s.types) (shown ty ∷ []) in
      record {
        offers_are = rw (types, to)
            (offers_noted (map shown s.types) k.marks.items (shown ty) m i kept.as_many many kept.offers_are same uses notes);
        as_many = omega (arith, l, more, kept.as_many);
      }
