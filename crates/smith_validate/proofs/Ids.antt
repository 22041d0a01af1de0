-- Where types were added.
use Rattle.std.proofs.Common.{◌≡◌, ◌⊎◌, inl, inr, ℕ, ◌+◌, ◌<◌, ◌≤◌, [], ◌∷◌, length, refl, sym, ap, ◌∙◌, subst, arith}
use Rattle.smith_tree.specs.Facts.{Id}
use Rattle.smith_validate.specs.Places.{IsBefore, IsChild, IsClosed, IsInside, IsOpen, IsUnder}

pub under_same : (id : Id) → IsUnder id id
under_same [] = refl
under_same (k ∷ id) = inl refl

pub under_then : (a b c : Id) → IsUnder a b → IsUnder b c → IsUnder a c
under_then [] b c h g = subst (λ x. IsUnder x c) (sym h) g
under_then (k ∷ a) b c h g = elim h [ inl e ↦ subst (λ x. IsUnder x c) (sym e) g | inr u ↦ inr (under_then a b c u g) ]

pub under_up : (a b : Id) (k : ℕ) → IsUnder a (k ∷ b) → IsUnder a b
under_up a b k h = under_then a (k ∷ b) b h (inr (under_same b))

pub under_long : (a b : Id) → IsUnder a b → length b ≤ length a
under_long [] b h = omega (arith, ap (λ (x : Id). length x) h)
under_long (k ∷ a) b h = elim h [ inl e ↦ omega (arith, ap (λ (x : Id). length x) e) | inr u ↦ let l = under_long a b u in omega (arith, l) ]

pub under_both : (a b c : Id) → IsUnder a b → IsUnder a c → length b ≡ length c → b ≡ c
under_both [] b c h g e = sym h ∙ g
under_both (k ∷ a) b c h g e =
    elim h [
      | inl x ↦ elim g [ inl y ↦ sym x ∙ y | inr v ↦ absurd (let l = under_long a c v in omega (arith, l, ap (λ (z : Id). length z) x, e)) ]
      | inr u ↦ elim g [
        | inl y ↦ absurd (let l = under_long a b u in omega (arith, l, ap (λ (z : Id). length z) y, e))
        | inr v ↦ under_both a b c u v e
      ]
    ]

pub inside_under : (a b : Id) → IsInside a b → IsUnder a b
inside_under [] b h = absurd h
inside_under (k ∷ a) b h = inr h

same_index : (k n : ℕ) (scope : Id) → (k ∷ scope) ≡ (n ∷ scope) → k ≡ n
same_index k n scope e = cc

-- Nothing is both within the place and within a type that was added before it.
open_apart : (place id : Id) → IsOpen place id → (x : Id) → IsUnder x place → IsUnder x id → ⊥
open_apart place id o x u v = grind (arith, under_both, under_then, same_index)

pub not_under : (level : ℕ) (place id : Id) → IsBefore level place id → IsUnder id place → ⊥
not_under level place id b u = open_apart place b.around b.open_is id u b.within

pub not_around : (level : ℕ) (place id : Id) → IsBefore level place id → IsUnder place id → ⊥
not_around level place id b u = open_apart place b.around b.open_is place (under_same place) (under_then place id b.around u b.within)

pub before_less : (level less : ℕ) (place id : Id) → less ≤ level → IsBefore level place id → IsBefore less place id
before_less level less place id h b = record { around = b.around; open_is = b.open_is; within = b.within; deep = omega (arith, h, b.deep) }

pub before_within : (level : ℕ) (place id inner : Id) → IsUnder inner id → IsBefore level place id → IsBefore level place inner
before_within level place id inner u b = grind (arith, under_then)

pub open_before : (level : ℕ) (place id : Id) → IsOpen place id → level < length id → IsBefore level place id
open_before level place id o h = record { around = id; open_is = o; within = under_same id; deep = h }

pub open_long : (place id : Id) → IsOpen place id → 0 < length id
open_long place id o = omega (arith, ap (λ (x : Id). length x) o.id_is)

pub open_short : (place id : Id) → IsOpen place id → length id ≤ length place
open_short place id o =
    let l = under_long place (o.count ∷ o.scope) o.place_is in omega (arith, l, ap (λ (x : Id). length x) o.id_is)

-- at a place within another: it is a child of that one, or was added before it
pub open_out : (inner : ℕ) (place id : Id) → IsOpen (inner ∷ place) id → IsChild place id ⊎ IsOpen place id
open_out inner place id o = grind arith

pub closed_before : (place id : Id) → IsClosed place id → IsBefore 0 place id
closed_before place [] h = absurd h
closed_before place (k ∷ id) h = before_within 0 place id (k ∷ id) (inr (under_same id)) h

pub closed_open : (place id : Id) → IsClosed place id → IsOpen place id → ⊥
closed_open place [] h o = h
closed_open place (k ∷ id) h o =
    let e : id ≡ o.scope = let z : (k ∷ id) ≡ (o.index ∷ o.scope) = o.id_is in cc in
    not_around 0 place id h (subst (λ x. IsUnder place x) (sym e) (under_up place o.scope o.count o.place_is))

-- An id within a child is the child or within the other.
pub child_of : (around id : Id) (other : Id) → IsChild around id → IsInside id other → IsUnder around other
child_of around [] other h i = absurd h
child_of around (k ∷ id) other h i = subst (λ x. IsUnder x other) h i

pub child_inside : (around id : Id) → IsChild around id → IsInside id around
child_inside around [] h = h
child_inside around (k ∷ id) h = subst (λ x. IsUnder id x) h (under_same id)

pub child_long : (around id : Id) → IsChild around id → length id ≡ length around + 1
child_long around [] h = absurd h
child_long around (k ∷ id) h = omega (arith, ap (λ (x : Id). length x) h)

-- A place moves on: what was before it is before it still.
pub record Moves (old new : Id) : Type 0 where
  pub before : (level : ℕ) (id : Id) → IsBefore level old id → IsBefore level new id
  pub open_still : (id : Id) → IsOpen old id → IsOpen new id

moves_by : {old new : Id} → ((id : Id) → IsOpen old id → IsOpen new id) → Moves old new
moves_by f = record {
  before = λ level id b. record { around = b.around; open_is = f b.around b.open_is; within = b.within; deep = b.deep };
  open_still = f;
}

pub moves_same : (place : Id) → Moves place place
moves_same place = moves_by (λ id o. o)

pub moves_next : (count : ℕ) (scope : Id) → Moves (count ∷ scope) ((count + 1) ∷ scope)
moves_next count scope = moves_by (λ id o.
    elim o.place_is [
      | inl e ↦
          let c : count ≡ o.count = cc in
          let s : scope ≡ o.scope = cc in
          record {
            scope = scope;
            count = count + 1;
            index = o.index;
            place_is = inl refl;
            id_is = o.id_is ∙ ap (λ x. o.index ∷ x) (sym s);
            less = omega (arith, o.less, c);
          }
      | inr u ↦ record { scope = o.scope; count = o.count; index = o.index; place_is = inr u; id_is = o.id_is; less = o.less }
    ])

pub moves_in : (count : ℕ) (place : Id) → Moves place (count ∷ place)
moves_in count place = moves_by
    (λ id o. record { scope = o.scope; count = o.count; index = o.index; place_is = inr o.place_is; id_is = o.id_is; less = o.less })

-- the type that was added at the place
pub added_open : (count : ℕ) (scope : Id) → IsOpen ((count + 1) ∷ scope) (count ∷ scope)
added_open count scope = record {
  scope = scope;
  count = count + 1;
  index = count;
  place_is = inl refl;
  id_is = refl;
  less = omega arith;
}

-- A type is closed, and was added at the place.
module _ (inner count : ℕ) (scope : Id) where
  pub before_leave : (level less : ℕ) (id : Id) → less ≤ level → less ≤ length scope → IsBefore level (inner ∷ count ∷ scope) id
      → IsBefore less ((count + 1) ∷ scope) id
  before_leave level less id h g b =
      elim (open_out inner (count ∷ scope) b.around b.open_is) [
        | inl c ↦ before_within less ((count + 1) ∷ scope) (count ∷ scope) id
            (under_then id b.around (count ∷ scope) b.within (inside_under b.around (count ∷ scope) (child_inside (count ∷ scope) b.around c)))
            (open_before less ((count + 1) ∷ scope) (count ∷ scope) (added_open count scope) (omega (arith, g)))
        | inr o ↦ before_less level less ((count + 1) ∷ scope) id h
            ((moves_next count scope).before level id (record { around = b.around; open_is = o; within = b.within; deep = b.deep }))
      ]

  pub open_leave : (level : ℕ) (id : Id) → level ≤ length scope → length id ≡ level + 1 → IsOpen (inner ∷ count ∷ scope) id
      → IsOpen ((count + 1) ∷ scope) id
  open_leave level id h l o =
      elim (open_out inner (count ∷ scope) id o) [
        | inl c ↦ absurd (let k = child_long (count ∷ scope) id c in omega (arith, h, l, k))
        | inr p ↦ (moves_next count scope).open_still id p
      ]

  pub closed_leave : (id : Id) → IsClosed (inner ∷ count ∷ scope) id → IsClosed ((count + 1) ∷ scope) id
  closed_leave [] h = h
  closed_leave (k ∷ id) h = before_leave 0 0 id (omega arith) (omega arith) h

pub closed_moves : (old new : Id) → Moves old new → (id : Id) → IsClosed old id → IsClosed new id
closed_moves old new m [] h = h
closed_moves old new m (k ∷ id) h = m.before 0 id h
