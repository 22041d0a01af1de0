-- Marks of types that are declared, that are equal to others, and that outer aliases name are tied to their types.
use Rattle.std.proofs.Common.{arith, ◌≡◌, ℕ, zero, suc, Bool, true, false, if◌then◌else◌, List, [], ◌∷◌, ◌++◌, map, flat_map, ap, ap₂, refl, ◌∙◌}
use Rattle.std.proofs.Common.{Option, Some, None, slice_get, option_to_list, get_or}
use Rattle.std.specs.List.{AllByRecursion}
use Rattle.smith_format.specs.declared.config.Config.{Config}
use Rattle.smith_syntax.specs.Entries.{CoreEntry, Entry}
use Rattle.smith_syntax.specs.Marked.{Marked, core_size_named, mark_named, marks_for, scopes_in_marked}
use Rattle.smith_syntax.specs.Marks.{aliased_mark, closed_mark, declared_mark, elsewhere, equal_mark, narrowest, no_mark}
use Rattle.smith_syntax.specs.Scope.{core_type_named, type_named}
use Rattle.smith_syntax.specs.Sizes.{capped}
use Rattle.smith_syntax.specs.declared.marks.Mark.{Mark}
use Rattle.smith_syntax.specs.declared.marks.Reach.{Reach}
use Rattle.smith_syntax.specs.declared.marks.Reach.TheVariants.{Everywhere, Here, Nowhere}
use Rattle.smith_tree.specs.Bodies.{equal_facts, named_in}
use Rattle.smith_tree.specs.Facts.{CoreFacts, Extern, FactScope, Facts, Id, needs}
use Rattle.smith_tree.specs.Validates.{RefersTo}
use Rattle.smith_tree.proofs.Named.{IsNamed, last_named, named_before}
use Rattle.smith_tree.proofs.Reaches.{Reaches, all_everywhere, reaches_elsewhere, reaches_wider}
use Rattle.smith_tree.proofs.Ties.{AsMany, FitsCore, Tied, TiedEntry, TiedScopes, TiedTypes, entries_of, entry_at, kept_sizes, many_at}

-- What is declared.

declared_used : (nominal : Bool) (r : Reach) (named refers : List Id) (id : Id) → Reaches r named refers
    → Reaches (if nominal then Nowhere else r) named (if nominal then id ∷ [] else refers)
declared_used true r named refers id h = tt
declared_used false r named refers id h = h

pub tied_declared : (named : List Id) (id : Id) (nominal : Bool) (rs : List Reach) (refers : List Id) (m n : ℕ) → m ≡ capped n
    → Reaches (narrowest rs) named refers
    → Tied named (declared_mark nominal rs m) (record { id = id; nominal = nominal; refers = refers; size = n; exports = [] })
tied_declared named id nominal rs refers m n same h = grind (arith, declared_used)

-- a type of components or of instances, by what it exports
pub tied_closed : (named : List Id) (id : Id) (r : Reach) (exports : List Extern) (m n : ℕ) → m ≡ capped n → RefersTo [] exports
    → (r ≡ Everywhere → flat_map (λ x. x.refers) exports ≡ [])
    → Tied named (closed_mark r m) (record { id = id; nominal = false; refers = flat_map (λ x. x.refers) exports; size = n; exports = exports })
tied_closed named id r exports m n same refers h = record {
  nominal = refl;
  size = same;
  parts = closed_reaches r named (flat_map (λ x. x.refers) exports) h;
  used = closed_reaches r named (flat_map (λ x. x.refers) exports) h;
  exports = refers;
  closed = λ e. h (all_everywhere r e);
}
  where
    closed_reaches : (r : Reach) (named ids : List Id) → (r ≡ Everywhere → ids ≡ []) → Reaches (elsewhere r) named ids
    closed_reaches Everywhere named ids h = h refl
    closed_reaches Here named ids h = tt
    closed_reaches Nowhere named ids h = tt

-- What is equal to a type.

equal_used : (a b : Bool) (r : Reach) (named refers : List Id) (id other : Id) → a ≡ b → IsNamed named id
    → Reaches r named (if b then other ∷ [] else refers) → Reaches (if a then Here else r) named (if b then id ∷ [] else refers)
equal_used true true r named refers id other e h k = (h, tt)
equal_used true false r named refers id other e h k = cc
equal_used false true r named refers id other e h k = cc
equal_used false false r named refers id other e h k = k

pub tied_equal : (named : List Id) (id : Id) (m : Mark) (f : Facts) → Tied named m f → Tied (named ++ id ∷ []) (equal_mark m) (equal_facts id f)
tied_equal named id m f t =
    let wider = named_before named (id ∷ []) in
    record {
      nominal = t.nominal;
      size = t.size;
      parts = reaches_wider m.parts named (named ++ id ∷ []) f.refers wider t.parts;
      used = equal_used m.nominal f.nominal m.used (named ++ id ∷ []) f.refers id f.id t.nominal (last_named named id)
          (reaches_wider m.used named (named ++ id ∷ []) (needs f) wider t.used);
      exports = t.exports;
      closed = t.closed;
    }

-- What an outer alias names.

tied_outer : (named here : List Id) (count : ℕ) (m : Mark) (f : Facts) → Tied named m f → Tied here (aliased_mark (suc count) m) f
tied_outer named here count m f t = grind (arith, reaches_elsewhere, all_everywhere)

module _ (here : List Id) (count : ℕ) where
  outer_list : (named : List Id) (e : Option Entry) (m : Mark) (f : Option Facts) → TiedEntry named e m f
      → TiedTypes here (marks_for e (aliased_mark (suc count) m)) (option_to_list f)
  outer_list named None m None t = tt
  outer_list named None m (Some f) t = absurd t
  outer_list named (Some e) m None t = absurd t
  outer_list named (Some e) m (Some f) t = (tied_outer named here count m f t, tt)

  pub tied_outwards : (config : Config) (ms : List Marked) (fs : List FactScope) (up i : ℕ) → TiedScopes config ms fs
      → TiedTypes here (marks_for (type_named (scopes_in_marked ms) up i) (aliased_mark (suc count) (mark_named ms up i)))
      (option_to_list (named_in (λ s. s.types) fs up i))
  tied_outwards config [] [] up i t = tt
  tied_outwards config [] (f ∷ fs) up i t = absurd t
  tied_outwards config (m ∷ ms) [] up i t = absurd t
  tied_outwards config (m ∷ ms) (f ∷ fs) zero i t =
      outer_list t.0 (slice_get m.types i) (get_or m.marks i no_mark) (slice_get f.types i)
      (entry_at t.0 m.types m.marks f.types i t.1.entries t.1.types)
  tied_outwards config (m ∷ ms) (f ∷ fs) (suc up) i t = tied_outwards config ms fs up i t.2

-- The core types that outer aliases name.

core_entry_at : (fs : List CoreFacts) (i : ℕ) → option_to_list (slice_get (entries_of fs) i) ≡ entries_of (option_to_list (slice_get fs i))
core_entry_at [] i = refl
core_entry_at (f ∷ fs) zero = refl
core_entry_at (f ∷ fs) (suc i) = core_entry_at fs i

-- the size that is kept, if that core type is there
abbrev size_at : List ℕ → List CoreEntry → ℕ → List ℕ
size_at ns cs i = map (λ x. get_or ns i 0) (option_to_list (slice_get cs i))

kept_at : (fs : List CoreFacts) (i : ℕ) → size_at (kept_sizes fs) (entries_of fs) i ≡ kept_sizes (option_to_list (slice_get fs i))
kept_at [] i = refl
kept_at (f ∷ fs) zero = refl
kept_at (f ∷ fs) (suc i) = kept_at fs i

fits_at : (config : Config) (fs : List CoreFacts) (i : ℕ) → AllByRecursion (FitsCore config) fs
    → AllByRecursion (FitsCore config) (option_to_list (slice_get fs i))
fits_at config [] i h = tt
fits_at config (f ∷ fs) zero h = (h.0, tt)
fits_at config (f ∷ fs) (suc i) h = fits_at config fs i h.1

module _ (config : Config) where
  pub many_outwards : (ms : List Marked) (fs : List FactScope) (up i : ℕ) → TiedScopes config ms fs
      → AsMany (option_to_list (type_named (scopes_in_marked ms) up i)) (option_to_list (named_in (λ s. s.types) fs up i))
  many_outwards [] [] up i t = tt
  many_outwards [] (f ∷ fs) up i t = absurd t
  many_outwards (m ∷ ms) [] up i t = absurd t
  many_outwards (m ∷ ms) (f ∷ fs) zero i t = many_at m.types f.types i t.1.entries
  many_outwards (m ∷ ms) (f ∷ fs) (suc up) i t = many_outwards ms fs up i t.2

  pub entries_outwards : (ms : List Marked) (fs : List FactScope) (up i : ℕ) → TiedScopes config ms fs
      → option_to_list (core_type_named (scopes_in_marked ms) up i) ≡ entries_of (option_to_list (named_in (λ s. s.core_types) fs up i))
  entries_outwards [] [] up i t = refl
  entries_outwards [] (f ∷ fs) up i t = absurd t
  entries_outwards (m ∷ ms) [] up i t = absurd t
  entries_outwards (m ∷ ms) (f ∷ fs) zero i t = ap (λ cs. option_to_list (slice_get cs i)) t.1.core_types ∙ core_entry_at f.core_types i
  entries_outwards (m ∷ ms) (f ∷ fs) (suc up) i t = entries_outwards ms fs up i t.2

  pub sizes_outwards : (ms : List Marked) (fs : List FactScope) (up i : ℕ) → TiedScopes config ms fs
      → map (λ x. core_size_named ms up i) (option_to_list (core_type_named (scopes_in_marked ms) up i))
      ≡ kept_sizes (option_to_list (named_in (λ s. s.core_types) fs up i))
  sizes_outwards [] [] up i t = refl
  sizes_outwards [] (f ∷ fs) up i t = absurd t
  sizes_outwards (m ∷ ms) [] up i t = absurd t
  sizes_outwards (m ∷ ms) (f ∷ fs) zero i t = grind (arith, kept_at)
  sizes_outwards (m ∷ ms) (f ∷ fs) (suc up) i t = sizes_outwards ms fs up i t.2

  pub fits_outwards : (ms : List Marked) (fs : List FactScope) (up i : ℕ) → TiedScopes config ms fs
      → AllByRecursion (FitsCore config) (option_to_list (named_in (λ s. s.core_types) fs up i))
  fits_outwards [] [] up i t = tt
  fits_outwards [] (f ∷ fs) up i t = absurd t
  fits_outwards (m ∷ ms) [] up i t = absurd t
  fits_outwards (m ∷ ms) (f ∷ fs) zero i t = fits_at config f.core_types i t.1.cores
  fits_outwards (m ∷ ms) (f ∷ fs) (suc up) i t = fits_outwards ms fs up i t.2
