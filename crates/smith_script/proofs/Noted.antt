-- Rows of equal function types, and one more type.
use Rattle.std.proofs.Common.{◌≡◌, ◌≢◌, ℕ, ◌+◌, ◌<◌, ◌⊎◌, inl, inr, ⊎_elim, Bool, true, false, List, [], ◌∷◌, ◌++◌, get_or, length, map, ap, sym}
use Rattle.std.proofs.Common.{refl, subst, ◌∙◌}
use Rattle.std.proofs.Common.{arith, cond, length-append, Some, None}
use Rattle.std.proofs.Math.ListN.{set}
use Rattle.std.proofs.lemmas.Bool.{cases_lt}
use Rattle.std.proofs.lemmas.List.{get_or-set_other, get_or-set_same, length-set, map-append}
use Rattle.std.proofs.lemmas.Option.{slice_get-get_or, slice_get_within}
use Rattle.std.specs.Borrow.{Bor}
use Rattle.std.specs.HashMap.{HashMap, get}
use Rattle.std.specs.Prelude.{Option, slice_get, ◌≤◌, if◌then◌else◌}
use Rattle.std.specs.declared.vec.Vec.{Vec}
use Rattle.smith_component.proofs.Spaces.{get_last}
use Rattle.smith_scope.proofs.ByKind.{gained, unchanged}
use Rattle.smith_scopes.specs.Nodes.{nodes_of}
use Rattle.smith_read.specs.TypeNodes.{shown_type_node}
use Rattle.smith_read.specs.declared.type_nodes.TypeNode.{TypeNode}
use Rattle.smith_scope.proofs.Places.{get_left}
use Rattle.smith_scopes.specs.Rows.{row_in}
use Rattle.smith_syntax.specs.Entries.{Entry, Signature, function}
use Rattle.smith_syntax.specs.HasSignature.{is_of_signature}
use Rattle.smith_syntax.specs.Places.{places}
use Rattle.smith_syntax.specs.SameSignature.{same_signature, same_signature_Decides, same_signature_equiv}
use Rattle.smith_script.specs.Equals.{AreEquals, Follows, IsNumbered, row_at, row_for, same_row, with_index}

inside : {a b : ℕ} → Some a ≡ Some b → a ≡ b
inside e = cc

shown_new : (bs : List (Bor TypeNode)) (b : Bor TypeNode) (new : List (Bor TypeNode)) → new ≡ bs ++ b ∷ []
    → map shown_type_node (nodes_of new) ≡ map shown_type_node (nodes_of bs) ++ shown_type_node b.now ∷ []
shown_new bs b new to =
    ap (λ xs. map shown_type_node (nodes_of xs)) to
    ∙ (ap (map shown_type_node) (map-append (λ (x : Bor TypeNode). x.now) bs (b ∷ [])) ∙ map-append shown_type_node (nodes_of bs) (b.now ∷ []))

module _ {Z S : Type 0} where
  pub then_follows : {change : Signature → List ℕ → List ℕ} {l m n : HashMap Signature ℕ S} {qs rs ts : List (Vec ℕ Z)} → Follows same_row l m qs rs
      → Follows change m n rs ts → Follows change l n qs ts
  then_follows {change} a b =
      record { numbered = b.numbered; stays = λ s k e. b.stays s k (a.stays s k e); row = λ s. b.row s ∙ ap (change s) (a.row s) }

  module _ (m : HashMap Signature ℕ S) (rows : List (Vec ℕ Z)) (numbered : IsNumbered m rows) where
    pub as_before : Follows same_row m m rows rows
    as_before = record { numbered = numbered; stays = λ s k e. e; row = λ s. refl }

    -- one more empty row, of a signature that has none
    module _ (f : Signature) (none : get same_signature m f ≡ None) (n : HashMap Signature ℕ S)
        (put : (s : Signature) → get same_signature n s ≡ cond (same_signature f s) (Some (length rows)) (get same_signature m s)) (row : Vec ℕ Z)
        (empty : row.items ≡ []) (more : List (Vec ℕ Z)) (to : more ≡ rows ++ row ∷ []) where
      either : (s : Signature) → ((f ≡ s) × (get same_signature n s ≡ Some (length rows))) ⊎ (get same_signature n s ≡ get same_signature m s)
      either s = by (same_signature f s) refl
        where
          by : (b : Bool) → same_signature f s ≡ b
              → ((f ≡ s) × (get same_signature n s ≡ Some (length rows))) ⊎ (get same_signature n s ≡ get same_signature m s)
          by true e = inl ((same_signature_Decides f s).0 e, put s ∙ ap (λ c. cond c (Some (length rows)) (get same_signature m s)) e)
          by false e = inr (put s ∙ ap (λ c. cond c (Some (length rows)) (get same_signature m s)) e)

      longer : length more ≡ length rows + 1
      longer = omega (arith, ap length to, length-append rows (row ∷ []))

      stayed : (o : Option ℕ) → ((k : ℕ) → o ≡ Some k → k < length rows) → row_at more o ≡ row_at rows o
      stayed None h = refl
      stayed (Some k) h = ap (λ r. row_in (slice_get r k)) to ∙ ap row_in (get_left rows (row ∷ []) k (h k refl))

      pub new_row : Follows same_row m n rows more
      new_row = record {
        numbered = record {
          within = λ s k e. ⊎_elim (λ h. omega (arith, longer, inside (sym h.1 ∙ e))) (λ h. omega (arith, longer, numbered.within s k (sym h ∙ e))) (either s);
          apart = λ s t k d e. ⊎_elim
              (λ g. ⊎_elim (λ h. sym g.0 ∙ h.0) (λ h. absurd (omega (arith, inside (sym g.1 ∙ d), numbered.within t k (sym h ∙ e)))) (either t))
              (λ g. ⊎_elim (λ h. absurd (omega (arith, inside (sym h.1 ∙ e), numbered.within s k (sym g ∙ d))))
              (λ h. numbered.apart s t k (sym g ∙ d) (sym h ∙ e)) (either t)) (either s);
        };
        stays = λ s k e. ⊎_elim (λ h. let z : None ≡ Some k = sym none ∙ (ap (get same_signature m) h.0 ∙ e) in absurd (cc)) (λ h. h ∙ e) (either s);
        row = λ s. ⊎_elim
            (λ h. ap (row_at more) h.1
            ∙ (ap (λ r. row_in (slice_get r (length rows))) to ∙ (ap row_in (get_last rows row) ∙ (empty
            ∙ ap (row_at rows) (sym none ∙ ap (get same_signature m) h.0)))))
            (λ h. ap (row_at more) h ∙ stayed (get same_signature m s) (numbered.within s)) (either s);
      }

    -- another row of a signature
    module _ (change : Signature → List ℕ → List ℕ) (f : Signature) (k : ℕ) (at : get same_signature m f ≡ Some k) (w : Vec ℕ Z)
        (here : w.items ≡ change f (row_at rows (Some k))) (others : (s : Signature) (row : List ℕ) → same_signature f s ≡ false → change s row ≡ row)
        (more : List (Vec ℕ Z)) (to : more ≡ set rows k w) where
      inner : k < length rows
      inner = numbered.within f k at

      other : (s : Signature) → same_signature f s ≡ false → (o : Option ℕ) → get same_signature m s ≡ o → row_at more o ≡ change s (row_at rows o)
      other s e None is = sym (others s [] e)
      other s e (Some j) is =
          let apart : j ≢ k = λ same.
          let z : true ≡ false = sym ((same_signature_Decides f s).1 (numbered.apart f s k at (is ∙ ap Some same))) ∙ e in absurd (cc) in
          let low = numbered.within s j is in
          ap (λ r. row_in (slice_get r j)) to
          ∙ (ap row_in (slice_get-get_or (set rows k w) j w (omega (arith, low, length-set rows k w))
          ∙ (ap Some (get_or-set_other rows k j w w apart) ∙ sym (slice_get-get_or rows j w low)))
          ∙ sym (others s (row_at rows (Some j)) e))

      this : row_at more (Some k) ≡ change f (row_at rows (Some k))
      this =
          ap (λ r. row_in (slice_get r k)) to
          ∙ (ap row_in (slice_get-get_or (set rows k w) k w (omega (arith, inner, length-set rows k w)) ∙ ap Some (get_or-set_same rows k w w inner)) ∙ here)

      pub changed_row : Follows change m m rows more
      changed_row = record {
        numbered = record { within = λ s j e. omega (arith, numbered.within s j e, ap length to, length-set rows k w); apart = numbered.apart };
        stays = λ s j e. e;
        row = λ s. by s (same_signature f s) refl;
      }
        where
          by : (s : Signature) (b : Bool) → same_signature f s ≡ b → row_for m more s ≡ change s (row_for m rows s)
          by s true e =
              subst (λ z. row_for m more z ≡ change z (row_for m rows z)) ((same_signature_Decides f s).0 e)
              (ap (row_at more) at ∙ (this ∙ ap (λ o. change f (row_at rows o)) (sym at)))
          by s false e = other s e (get same_signature m s) refl

    pub noted_row : (f : Signature) (i k : ℕ) → get same_signature m f ≡ Some k → (row w : Vec ℕ Z) → w.items ≡ (get_or rows k row).items ++ i ∷ []
        → Follows (with_index f i) m m rows (set rows k w)
    noted_row f i k at row w is =
        changed_row (with_index f i) f k at w
        (is ∙ (ap (λ o. row_in o ++ i ∷ []) (sym (slice_get-get_or rows k row (numbered.within f k at)))
        ∙ ap (λ b. if b then row_at rows (Some k) ++ i ∷ [] else row_at rows (Some k)) (sym ((same_signature_Decides f f).1 refl))))
        (λ s row e. ap (λ b. if b then row ++ i ∷ [] else row) e) (set rows k w) refl

  module _ (bs : List (Bor TypeNode)) (row_of : List ℕ) {m n : HashMap Signature ℕ S} {rows more : List (Vec ℕ Z)}
      (are : AreEquals (map shown_type_node (nodes_of bs)) row_of m rows) where
    stays_known : {change : Signature → List ℕ → List ℕ} → Follows change m n rows more → (i : ℕ) (s : Signature)
        → slice_get (map shown_type_node (nodes_of bs)) i ≡ Some (function s) → slice_get row_of i ≡ get same_signature n s
    stays_known h i s e =
        let x = slice_get-get_or row_of i 0 (omega (arith, are.count, slice_get_within (map shown_type_node (nodes_of bs)) i _ e)) in
        x ∙ sym (h.stays s (get_or row_of i 0) (sym (are.known i s e) ∙ x))

    module _ (i : ℕ) (at : i ≡ length bs) (b : Bor TypeNode) (new : List (Bor TypeNode)) (to : new ≡ bs ++ b ∷ []) (k : ℕ) (ks : List ℕ)
        (with : ks ≡ row_of ++ k ∷ []) where
      -- what is found at an index of the new lists, by whether it was there
      known_at : {change : Signature → List ℕ → List ℕ} → Follows change m n rows more
          → ((s : Signature) → shown_type_node b.now ≡ function s → get same_signature n s ≡ Some k) → (j : ℕ) (s : Signature)
          → slice_get (map shown_type_node (nodes_of bs) ++ shown_type_node b.now ∷ []) j ≡ Some (function s) → (j < length row_of) ⊎ (length row_of ≤ j)
          → slice_get ks j ≡ get same_signature n s
      known_at h number j s e (inl low) =
          let old = get_left (map shown_type_node (nodes_of bs)) (shown_type_node b.now ∷ []) j (omega (arith, low, are.count)) in
          ap (λ xs. slice_get xs j) with ∙ (get_left row_of (k ∷ []) j low ∙ stays_known h j s (sym old ∙ e))
      known_at h number j s e (inr high) =
          let last : j ≡ length row_of = omega (
            arith,
            high,
            are.count,
            slice_get_within (map shown_type_node (nodes_of bs) ++ shown_type_node b.now ∷ []) j (function s) e,
            length-append (map shown_type_node (nodes_of bs)) (shown_type_node b.now ∷ []),
          ) in
          let at_last = ap (slice_get (map shown_type_node (nodes_of bs) ++ shown_type_node b.now ∷ [])) (last ∙ are.count)
          ∙ get_last (map shown_type_node (nodes_of bs)) (shown_type_node b.now) in
          ap (λ xs. slice_get xs j) with ∙ (ap (slice_get (row_of ++ k ∷ [])) last ∙ (get_last row_of k
          ∙ sym (number s (let z : Some (shown_type_node b.now) ≡ Some (function s) = sym at_last ∙ e in cc))))

      pushed : {change : Signature → List ℕ → List ℕ} → Follows change m n rows more
          → ((s : Signature) → row_for n more s ≡ places (is_of_signature s) 0 (map shown_type_node (nodes_of new)))
          → ((s : Signature) → shown_type_node b.now ≡ function s → get same_signature n s ≡ Some k) → AreEquals (map shown_type_node (nodes_of new)) ks n more
      pushed h are_rows number = record {
        numbered = h.numbered;
        count = omega (
          arith,
          are.count,
          ap length with,
          length-append row_of (k ∷ []),
          ap length (shown_new bs b new to),
          length-append (map shown_type_node (nodes_of bs)) (shown_type_node b.now ∷ []),
        );
        row = are_rows;
        known = λ j s e. known_at h number j s (subst (λ (ts : List Entry). slice_get ts j ≡ Some (function s)) (shown_new bs b new to) e)
            (cases_lt j (length row_of));
      }

      pub pushed_function : (f : Signature) → shown_type_node b.now ≡ function f → Follows (with_index f i) m n rows more → get same_signature n f ≡ Some k
          → AreEquals (map shown_type_node (nodes_of new)) ks n more
      pushed_function f is h number =
          pushed h (λ s. by s (same_signature f s) refl (h.row s))
          (λ s e. subst (λ z. get same_signature n z ≡ Some k) (let z : function f ≡ function s = sym is ∙ e in cc) number)
        where
          by : (s : Signature) (c : Bool) → same_signature f s ≡ c → row_for n more s ≡ with_index f i s (row_for m rows s)
              → row_for n more s ≡ places (is_of_signature s) 0 (map shown_type_node (nodes_of new))
          by s true e r =
              gained (λ (x : Bor TypeNode). x.now) shown_type_node bs i at b new to (is_of_signature s) (are.row s)
              (ap (is_of_signature s) is ∙ sym (same_signature_equiv.symm f s) ∙ e)
              (r ∙ ap (λ c. if c then row_for m rows s ++ i ∷ [] else row_for m rows s) e)
          by s false e r =
              unchanged (λ (x : Bor TypeNode). x.now) shown_type_node bs i at b new to (is_of_signature s) (are.row s)
              (ap (is_of_signature s) is ∙ sym (same_signature_equiv.symm f s) ∙ e)
              (r ∙ ap (λ c. if c then row_for m rows s ++ i ∷ [] else row_for m rows s) e)

      pub pushed_other : ((s : Signature) → is_of_signature s (shown_type_node b.now) ≡ false) → Follows same_row m n rows more
          → AreEquals (map shown_type_node (nodes_of new)) ks n more
      pushed_other other h =
          pushed h (λ s. unchanged (λ (x : Bor TypeNode). x.now) shown_type_node bs i at b new to (is_of_signature s) (are.row s) (other s) (h.row s))
          (λ s e. let z : true ≡ false = sym ((same_signature_Decides s s).1 refl) ∙ (ap (is_of_signature s) (sym e) ∙ other s) in absurd (cc))
