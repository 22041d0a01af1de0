-- Marks tied to the types that they are of: what the mark says holds of the type.
use Rattle.std.proofs.Common.{◌≡◌, ℕ, zero, suc, ◌≤◌, List, [], ◌∷◌, ◌++◌, map, flat_map, refl, sym, subst, append-nil}
use Rattle.std.proofs.Common.{Option, Some, None, slice_get, option_to_list, get_or}
use Rattle.std.specs.List.{AllByRecursion}
use Rattle.smith_format.specs.declared.config.Config.{Config}
use Rattle.smith_syntax.specs.CoreLimits.{CoreLimits}
use Rattle.smith_syntax.specs.Entries.{CoreEntry, Entry}
use Rattle.smith_syntax.specs.Marked.{Marked, marks_for}
use Rattle.smith_syntax.specs.Marks.{narrowest, no_mark, small_size, used_by, value_reach}
use Rattle.smith_syntax.specs.Sizes.{capped}
use Rattle.smith_syntax.specs.declared.marks.Mark.{Mark}
use Rattle.smith_syntax.specs.declared.marks.Reach.TheVariants.{Everywhere}
use Rattle.smith_syntax.specs.declared.types.ComponentValType.{ComponentValType}
use Rattle.smith_syntax.specs.declared.types.ComponentValType.TheVariants.{Primitive, Indexed}
use Rattle.smith_tree.specs.Bodies.{module_size_of}
use Rattle.smith_tree.specs.Facts.{CoreFacts, FactScope, Facts, Id, needs, value_needs}
use Rattle.smith_tree.specs.Validates.{RefersTo}
use Rattle.smith_tree.proofs.Named.{IsWithin}
use Rattle.smith_tree.proofs.Reaches.{Reaches, reaches_both, reaches_wider}

-- among these names
pub record Tied (named : List Id) (m : Mark) (f : Facts) : Type 0 where
  pub nominal : m.nominal ≡ f.nominal
  pub size : m.size ≡ capped f.size
  pub parts : Reaches m.parts named f.refers
  pub used : Reaches m.used named (needs f)
  pub exports : RefersTo [] f.exports
  pub closed : m.parts ≡ Everywhere → flat_map (λ x. x.refers) f.exports ≡ []

abbrev pub TiedTypes : List Id → List Mark → List Facts → Type 0
TiedTypes named [] [] = Unit {0}
TiedTypes named [] (f ∷ fs) = ⊥
TiedTypes named (m ∷ ms) [] = ⊥
TiedTypes named (m ∷ ms) (f ∷ fs) = Tied named m f × TiedTypes named ms fs

abbrev pub TiedMaybe : List Id → Option Mark → Option Facts → Type 0
TiedMaybe named None None = Unit {0}
TiedMaybe named None (Some f) = ⊥
TiedMaybe named (Some m) None = ⊥
TiedMaybe named (Some m) (Some f) = Tied named m f

-- the mark of a type that may be there
abbrev pub TiedEntry : List Id → Option Entry → Mark → Option Facts → Type 0
TiedEntry named None m None = Unit {0}
TiedEntry named None m (Some f) = ⊥
TiedEntry named (Some e) m None = ⊥
TiedEntry named (Some e) m (Some f) = Tied named m f

-- There are as many types as there is something known of.
abbrev pub AsMany : List Entry → List Facts → Type 0
AsMany [] [] = Unit {0}
AsMany [] (f ∷ fs) = ⊥
AsMany (e ∷ es) [] = ⊥
AsMany (e ∷ es) (f ∷ fs) = AsMany es fs

-- A core type is within the limits, and it is small if it is a module type.
pub record FitsCore (config : Config) (f : CoreFacts) : Type 0 where
  pub limits : CoreLimits config f.entry
  pub small : module_size_of f ≤ small_size

-- the core types by themselves, and their sizes as they are kept

abbrev pub entries_of : List CoreFacts → List CoreEntry
entries_of fs = map (λ f. f.entry) fs

abbrev pub kept_sizes : List CoreFacts → List ℕ
kept_sizes fs = map (λ f. capped (module_size_of f)) fs

pub record TiedScope (config : Config) (named : List Id) (m : Marked) (own : FactScope) : Type 0 where
  pub types : TiedTypes named m.marks own.types
  pub entries : AsMany m.types own.types
  pub core_types : m.core_types ≡ entries_of own.core_types
  pub core_sizes : m.core_sizes ≡ kept_sizes own.core_types
  pub cores : AllByRecursion (FitsCore config) own.core_types

-- Scopes around: in each there are names of its own.
abbrev pub TiedScopes : Config → List Marked → List FactScope → Type 0
TiedScopes config [] [] = Unit {0}
TiedScopes config [] (f ∷ fs) = ⊥
TiedScopes config (m ∷ ms) [] = ⊥
TiedScopes config (m ∷ ms) (f ∷ fs) = (named : List Id) × TiedScope config named m f × TiedScopes config ms fs

pub many_more : (es : List Entry) (fs : List Facts) (more : List Entry) (others : List Facts) → AsMany es fs → AsMany more others
    → AsMany (es ++ more) (fs ++ others)
many_more [] [] more others h k = k
many_more [] (f ∷ fs) more others h k = absurd h
many_more (e ∷ es) [] more others h k = absurd h
many_more (e ∷ es) (f ∷ fs) more others h k = many_more es fs more others h k

pub many_at : (es : List Entry) (fs : List Facts) (i : ℕ) → AsMany es fs
    → AsMany (option_to_list (slice_get es i)) (option_to_list (slice_get fs i))
many_at [] [] i h = tt
many_at [] (f ∷ fs) i h = absurd h
many_at (e ∷ es) [] i h = absurd h
many_at (e ∷ es) (f ∷ fs) zero h = tt
many_at (e ∷ es) (f ∷ fs) (suc i) h = many_at es fs i h

tied_wider : {named wider : List Id} (m : Mark) (f : Facts) → IsWithin named wider → Tied named m f → Tied wider m f
tied_wider {named} {wider} m f w t = record {
  nominal = t.nominal;
  size = t.size;
  parts = reaches_wider m.parts named wider f.refers w t.parts;
  used = reaches_wider m.used named wider (needs f) w t.used;
  exports = t.exports;
  closed = t.closed;
}

pub types_wider : {named wider : List Id} (ms : List Mark) (fs : List Facts) → IsWithin named wider → TiedTypes named ms fs → TiedTypes wider ms fs
types_wider [] [] w t = tt
types_wider [] (f ∷ fs) w t = absurd t
types_wider (m ∷ ms) [] w t = absurd t
types_wider (m ∷ ms) (f ∷ fs) w t = (tied_wider m f w t.0, types_wider ms fs w t.1)

module _ (named : List Id) where
  pub types_more : (ms : List Mark) (fs : List Facts) (more : List Mark) (others : List Facts) → TiedTypes named ms fs
      → TiedTypes named more others → TiedTypes named (ms ++ more) (fs ++ others)
  types_more [] [] more others t k = k
  types_more [] (f ∷ fs) more others t k = absurd t
  types_more (m ∷ ms) [] more others t k = absurd t
  types_more (m ∷ ms) (f ∷ fs) more others t k = (t.0, types_more ms fs more others t.1 k)

  pub tied_at : (ms : List Mark) (fs : List Facts) (i : ℕ) → TiedTypes named ms fs → TiedMaybe named (slice_get ms i) (slice_get fs i)
  tied_at [] [] i t = tt
  tied_at [] (f ∷ fs) i t = absurd t
  tied_at (m ∷ ms) [] i t = absurd t
  tied_at (m ∷ ms) (f ∷ fs) zero t = t.0
  tied_at (m ∷ ms) (f ∷ fs) (suc i) t = tied_at ms fs i t.1

  pub entry_at : (es : List Entry) (ms : List Mark) (fs : List Facts) (i : ℕ) → AsMany es fs → TiedTypes named ms fs
      → TiedEntry named (slice_get es i) (get_or ms i no_mark) (slice_get fs i)
  entry_at [] ms [] i h t = tt
  entry_at [] ms (f ∷ fs) i h t = absurd h
  entry_at (e ∷ es) ms [] i h t = absurd h
  entry_at (e ∷ es) [] (f ∷ fs) i h t = absurd t
  entry_at (e ∷ es) (m ∷ ms) (f ∷ fs) zero h t = t.0
  entry_at (e ∷ es) (m ∷ ms) (f ∷ fs) (suc i) h t = entry_at es ms fs i h t.1

  pub tied_list : (e : Option Entry) (m : Mark) (f : Option Facts) → TiedEntry named e m f → TiedTypes named (marks_for e m) (option_to_list f)
  tied_list None m None t = tt
  tied_list None m (Some f) t = absurd t
  tied_list (Some e) m None t = absurd t
  tied_list (Some e) m (Some f) t = (t, tt)

  -- What is made of types reaches as they do.

  maybe_needs : (m : Option Mark) (f : Option Facts) → TiedMaybe named m f
      → Reaches (used_by m) named (flat_map needs (option_to_list f))
  maybe_needs None None t = refl
  maybe_needs None (Some f) t = absurd t
  maybe_needs (Some m) None t = absurd t
  maybe_needs (Some m) (Some f) t = subst (Reaches m.used named) (sym (append-nil (needs f))) t.used

  value_reaches : (ms : List Mark) (fs : List Facts) (v : ComponentValType) → TiedTypes named ms fs
      → Reaches (value_reach ms v) named (value_needs fs v)
  value_reaches ms fs (Primitive p) t = refl
  value_reaches ms fs (Indexed i) t = maybe_needs (slice_get ms i) (slice_get fs i) (tied_at ms fs i t)

  pub members_reach : (ms : List Mark) (fs : List Facts) (vs : List ComponentValType) → TiedTypes named ms fs
      → Reaches (narrowest (map (value_reach ms) vs)) named (flat_map (value_needs fs) vs)
  members_reach ms fs [] t = refl
  members_reach ms fs (v ∷ vs) t =
      reaches_both (value_reach ms v) (narrowest (map (value_reach ms) vs)) named (value_needs fs v) (flat_map (value_needs fs) vs)
      (value_reaches ms fs v t) (members_reach ms fs vs t)
