-- Rows of equal function types: an index is put into a row, one type more is noted, and types are pushed that are not.
use Rattle.std.proofs.Common.{◌≡◌, ◌⊎◌, inl, inr, ℕ, ◌+◌, ◌<◌, ◌≤◌, Bool, true, false, cond, List, [], ◌∷◌, ◌++◌, length, take, get_or}
use Rattle.std.proofs.Common.{◌-◌, drop, Option, None, Some, refl, slice_get, suc, zero}
use Rattle.std.proofs.Common.{sym, ap, ◌∙◌, subst, arith, add-one, append-nil, unwrap_or, length-append}
use Rattle.std.proofs.Math.Seq.{take-suc}
use Rattle.std.proofs.lemmas.List.{drop_more, length-map, length-take, length-take-le, take-append-drop, take_all}
use Rattle.std.proofs.Math.ListN.{drop_of_length-le, get_or-map}
use Rattle.std.specs.HashMap.{HashMap, get}
use Rattle.std.specs.declared.alloc.Global.{Global}
use Rattle.std.specs.declared.boxed.Box.{Box}
use Rattle.std.specs.declared.rc.Rc.{Rc}
use Rattle.std.specs.declared.vec.Vec.{Vec}
use Rattle.smith_syntax.specs.Entries.{Signature}
use Rattle.smith_syntax.specs.HasSignature.{has_signature, is_of_signature}
use Rattle.smith_syntax.specs.Places.{places}
use Rattle.smith_syntax.specs.SameSignature.{same_signature, same_signature_Decides, same_signature_equiv}
use Rattle.smith_syntax.specs.Shown.{full_type}
use Rattle.smith_syntax.specs.declared.deftype.ComponentType.{ComponentType}
use Rattle.smith_syntax.specs.declared.deftype.DefType.{DefType}
use Rattle.smith_syntax.specs.declared.deftype.DefType.TheVariants as def
use Rattle.smith_syntax.specs.declared.deftype.InstanceType.{InstanceType}
use Rattle.smith_syntax.specs.declared.func.FuncType.{FuncType}
use Rattle.smith_syntax.specs.declared.types.DefinedType.{DefinedType}
use Rattle.smith_scopes.specs.Rows.{AreFirst, AreNoted, AreRows, Notes, NotesType, row_in, row_of, values_of}
use Rattle.smith_scopes.specs.declared.scopes.equals.Equals.{Equals}
use Rattle.smith_syntax.proofs.Shown.{full_defined, full_func, full_component, full_instance}
use Rattle.smith_scope.proofs.Places.{places-append, places-snoc}

-- a row that was written, among the rows of a map
module _ {Z S : Type 0} (m n : HashMap Signature (Vec ℕ Z) S) (k : Signature) (w : Vec ℕ Z)
    (put : (f : Signature) → get same_signature n f ≡ cond (same_signature k f) (Some w) (get same_signature m f)) where
  noted_at : (f : Signature) (b : Bool) → same_signature k f ≡ b → get same_signature n f ≡ cond b (Some w) (get same_signature m f) → (i : ℕ)
      → w.items ≡ row_of m k ++ i ∷ [] → row_of n f ≡ cond b (row_of m f ++ i ∷ []) (row_of m f)
  noted_at f true e g i h = ap row_in g ∙ h ∙ ap (λ s. row_of m s ++ i ∷ []) ((same_signature_Decides k f).0 e)
  noted_at f false e g i h = ap row_in g

  -- an index was put at the end of its row
  pub notes_put : (s : Signature) → k ≡ s → (i : ℕ) → w.items ≡ row_of m k ++ i ∷ [] → Notes s i m n
  notes_put s is i h f =
      noted_at f (same_signature k f) refl (put f) i h ∙ ap (λ t. cond (same_signature t f) (row_of m f ++ i ∷ []) (row_of m f)) is

-- a row that was there, or else one of nothing
pub row_or : {Z : Type 0} (there is : Option (Vec ℕ Z)) (none row : Vec ℕ Z) → row ≡ unwrap_or there none → there ≡ is → none.items ≡ []
    → row.items ≡ row_in is
row_or None is none row lent same e = ap (λ r. r.items) lent ∙ e ∙ ap row_in same
row_or (Some w) is none row lent same e = ap (λ r. r.items) lent ∙ ap row_in same

-- which types have a signature

pub of_function : (ty : DefType) (g : Rc FuncType Global) → ty ≡ def.Func g → (s : Signature) → has_signature s ty ≡ same_signature s g.value
of_function ty g is s = ap (is_of_signature s) (ap full_type is ∙ full_func g)

-- a defined type, or the type of a component or of an instance
abbrev pub IsOther : DefType → Type 0
IsOther ty = ((d : DefinedType) × (ty ≡ def.Defined d)) ⊎ (((t : ComponentType) × (ty ≡ def.Component t))
    ⊎ ((t : InstanceType) × (ty ≡ def.Instance t)))

pub of_none : (ty : DefType) → IsOther ty → (s : Signature) → has_signature s ty ≡ false
of_none ty (inl d) s = ap (is_of_signature s) (ap full_type d.1 ∙ full_defined d.0)
of_none ty (inr (inl t)) s = ap (is_of_signature s) (ap full_type t.1 ∙ full_component t.0)
of_none ty (inr (inr t)) s = ap (is_of_signature s) (ap full_type t.1 ∙ full_instance t.0)

-- One type more is noted.
module _ {Z S : Type 0} (old new : HashMap Signature (Vec ℕ Z) S) (ty : DefType) (i : ℕ) where
  -- a function type
  pub notes_function : (g : Rc FuncType Global) → ty ≡ def.Func g → Notes g.value i old new → NotesType ty i old new
  notes_function g is notes f =
      notes f
      ∙ ap (λ b. cond b (row_of old f ++ i ∷ []) (row_of old f)) (same_signature_equiv.symm g.value f ∙ sym (of_function ty g is f))

  -- any other type
  pub notes_other : IsOther ty → new ≡ old → NotesType ty i old new
  notes_other is same f =
      ap (λ m. row_of m f) same ∙ ap (λ b. cond b (row_of old f ++ i ∷ []) (row_of old f)) (sym (of_none ty is f))

-- the rows of one type more
more_rows : (old new : Equals) (types : List DefType) (ty : DefType) → new.noted ≡ length types + 1 → NotesType ty (length types) old.rows new.rows
    → AreRows old types → AreRows new (types ++ ty ∷ [])
more_rows old new types ty count notes a = record {
  count = let l = length-append types (ty ∷ []) in omega arith;
  rows_are = λ f. notes f ∙ grown f (has_signature f ty) refl;
}
  where
    put_at : (b : Bool) (row : List ℕ) (i : ℕ) → cond b (row ++ i ∷ []) row ≡ row ++ cond b (i ∷ []) []
    put_at true row i = refl
    put_at false row i = sym (append-nil row)

    grown : (f : Signature) (b : Bool) → has_signature f ty ≡ b
        → cond b (row_of old.rows f ++ length types ∷ []) (row_of old.rows f) ≡ places (has_signature f) 0 (types ++ ty ∷ [])
    grown f b is =
        put_at b (row_of old.rows f) (length types)
        ∙ ap (λ row. row ++ cond b (length types ∷ []) []) (a.rows_are f)
        ∙ sym (places-snoc (has_signature f) types ty b is)

-- The rows of the first types stay so when more types are pushed.

noted_within : (e : Equals) (types : List DefType) → AreFirst e types → e.noted ≤ length types
noted_within e types a = let l = length-take e.noted types in omega (arith, l, a.count)

-- The rest of the types is noted one by one.
module _ (types : List (Rc DefType Global)) where
  -- one more
  pub first_next : (old new : Equals) (i : ℕ) (item : Rc DefType Global) → i < length types → item ≡ get_or types i item
      → AreRows old (take i (values_of types)) → new.noted ≡ i + 1 → NotesType item.value i old.rows new.rows → AreRows new (take (i + 1) (values_of types))
  first_next old new i item within is a count notes =
      let l = length-map types (λ (r : Rc DefType Global). r.value) in
      let value : get_or (values_of types) i item.value ≡ item.value =
      get_or-map (λ (r : Rc DefType Global). r.value) types i item ∙ ap (λ r. r.value) (sym is) in
      let all : take (i + 1) (values_of types) ≡ take i (values_of types) ++ item.value ∷ [] =
      ap (λ n. take n (values_of types)) (add-one i)
      ∙ take-suc (values_of types) i item.value (omega (arith, within, l))
      ∙ ap (λ v. take i (values_of types) ++ v ∷ []) value in
      let at : length (take i (values_of types)) ≡ i = length-take-le i (values_of types) (omega (arith, within, l)) in
      subst (AreRows new) (sym all)
      (more_rows old new (take i (values_of types)) item.value (count ∙ ap (λ n. n + 1) (sym at))
      (subst (λ n. NotesType item.value n old.rows new.rows) (sym at) notes) a)

  -- all of them
  pub all_noted : (e : Equals) (i : ℕ) → length types ≤ i → AreRows e (take i (values_of types)) → AreRows e (values_of types)
  all_noted e i past a =
      let l = length-map types (λ (r : Rc DefType Global). r.value) in
      subst (AreRows e) (take_all i (values_of types) (omega (arith, l, past))) a

  pub first_of_all : (e : Equals) → AreRows e (values_of types) → AreFirst e (values_of types)
  first_of_all e a = subst (AreRows e) (sym (take_all e.noted (values_of types) (let at = a.count in omega (arith, at)))) a

-- The types from an index on that are of a signature.
module _ (types : List (Rc DefType Global)) (p : DefType → Bool) where
  later_step : (i : ℕ) (item : Rc DefType Global) → i < length types → item ≡ get_or types i item → places p i (drop i (values_of types))
      ≡ cond (p item.value) (i ∷ places p (i + 1) (drop (i + 1) (values_of types))) (places p (i + 1) (drop (i + 1) (values_of types)))
  later_step i item within is =
      let l = length-map types (λ (r : Rc DefType Global). r.value) in
      let value : get_or (values_of types) i item.value ≡ item.value =
      get_or-map (λ (r : Rc DefType Global). r.value) types i item ∙ ap (λ r. r.value) (sym is) in
      ap (places p i)
      (drop_more (values_of types) i item.value (omega (arith, within, l)) ∙ ap (λ v. v ∷ drop (i + 1) (values_of types)) value)

  -- one that passes, and one that does not

  pub later_yes : (i : ℕ) (item : Rc DefType Global) → i < length types → item ≡ get_or types i item → p item.value ≡ true
      → places p i (drop i (values_of types)) ≡ i ∷ places p (i + 1) (drop (i + 1) (values_of types))
  later_yes i item within is passes =
      let ps = places p (i + 1) (drop (i + 1) (values_of types)) in
      later_step i item within is ∙ ap (λ b. cond b (i ∷ ps) ps) passes

  pub later_no : (i : ℕ) (item : Rc DefType Global) → i < length types → item ≡ get_or types i item → p item.value ≡ false
      → places p i (drop i (values_of types)) ≡ places p (i + 1) (drop (i + 1) (values_of types))
  later_no i item within is fails =
      let ps = places p (i + 1) (drop (i + 1) (values_of types)) in
      later_step i item within is ∙ ap (λ b. cond b (i ∷ ps) ps) fails

  -- none past the end
  pub later_none : (i : ℕ) → length types ≤ i → places p i (drop i (values_of types)) ≡ []
  later_none i past = ap (places p i)
      (drop_of_length-le (values_of types) (let l = length-map types (λ (r : Rc DefType Global). r.value) in omega (arith, l, past)))

  -- All are those before an index, and those from it on.
  pub all_and_later : (n : ℕ) → n ≤ length types
      → places p 0 (values_of types) ≡ places p 0 (take n (values_of types)) ++ places p n (drop n (values_of types))
  all_and_later n within =
      let vs = values_of types in
      let l = length-map types (λ (r : Rc DefType Global). r.value) in
      let at : 0 + length (take n vs) ≡ n = (let t = length-take-le n vs (omega (arith, l, within)) in omega (arith, t)) in
      ap (places p 0) (sym (take-append-drop n vs))
      ∙ places-append p 0 (take n vs) (drop n vs)
      ∙ ap (λ k. places p 0 (take n vs) ++ places p k (drop n vs)) at

-- What is equal in a scope: the row of what is noted, if anything is, and then the later types.
module _ (types : List (Rc DefType Global)) (equals : Option (Box Equals Global)) (b : Box Equals Global) (is : equals ≡ Some b)
    (noted : AreNoted equals (values_of types)) (e : Equals) (same : e ≡ b.value) (f : Signature) (row : List ℕ)
    (row_is : (ts : List DefType) → AreRows e ts → row ≡ places (has_signature f) 0 ts) (n : ℕ) (count : n ≡ b.value.noted) where
  first : AreFirst b.value (values_of types)
  first = subst (λ o. AreNoted o (values_of types)) is noted

  pub noted_before : n ≤ length types
  noted_before =
      let w = noted_within b.value (values_of types) first in
      let l = length-map types (λ (r : Rc DefType Global). r.value) in
      omega (arith, w, l, count)

  pub row_and_later : places (has_signature f) 0 (values_of types) ≡ row ++ places (has_signature f) n (drop n (values_of types))
  row_and_later =
      let vs = values_of types in
      let here : AreRows e (take n vs) = subst (λ m. AreRows e (take m vs)) (sym count) (subst (λ d. AreRows d (take b.value.noted vs)) (sym same) first) in
      all_and_later types (has_signature f) n noted_before ∙ ap (λ r. r ++ places (has_signature f) n (drop n vs)) (sym (row_is (take n vs) here))

-- the same of types that these are
module _ (types : List (Rc DefType Global)) (all : List DefType) (listed : values_of types ≡ all) (equals : Option (Box Equals Global)) (b : Box Equals Global)
    (is : equals ≡ Some b) (noted : AreNoted equals all) (e : Equals) (same : e ≡ b.value) (f : Signature) (row : List ℕ)
    (row_is : (ts : List DefType) → AreRows e ts → row ≡ places (has_signature f) 0 ts) (n : ℕ) (count : n ≡ b.value.noted) where
  pub all_and_row : places (has_signature f) 0 all ≡ row ++ places (has_signature f) n (drop n (values_of types))
  all_and_row =
      ap (places (has_signature f) 0) (sym listed)
      ∙ row_and_later types equals b is (subst (AreNoted equals) (sym listed) noted) e same f row row_is n count

pub slice_get-append_left : (xs ys : List ℕ) (k : ℕ) → k < length xs → slice_get (xs ++ ys) k ≡ slice_get xs k
slice_get-append_left [] ys k h = absurd (omega (arith, h))
slice_get-append_left (x ∷ xs) ys zero h = refl
slice_get-append_left (x ∷ xs) ys (suc k) h = slice_get-append_left xs ys k (omega (arith, h))

pub slice_get-append_right : (xs ys : List ℕ) (k : ℕ) → length xs ≤ k → slice_get (xs ++ ys) k ≡ slice_get ys (k - length xs)
slice_get-append_right [] ys k h = ap (slice_get ys) (omega arith)
slice_get-append_right (x ∷ xs) ys zero h = absurd (omega (arith, h))
slice_get-append_right (x ∷ xs) ys (suc k) h =
    let less : k - length xs ≡ suc k - length (x ∷ xs) = omega arith in
    slice_get-append_right xs ys k (omega (arith, h)) ∙ ap (slice_get ys) less
