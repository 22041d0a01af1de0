-- What the program keeps beside the types of a scope if marks are kept: what each type may be used for.
use Rattle.std.specs.Prelude.{◌≡◌, ℕ, ◌<◌, Bool, true, false, List, [], ◌∷◌, ◌++◌, map, length, Option, None, Some, if◌then◌else◌}
use Rattle.std.specs.Vec.{vec_capacity, vec_len}
use Rattle.std.specs.declared.alloc.Global.{Global}
use Rattle.std.specs.declared.boxed.Box.{Box}
use Rattle.std.specs.declared.vec.Vec.{Vec}
use Rattle.smith_syntax.specs.Entries.{Entry}
use Rattle.smith_syntax.specs.Marked.{Marked}
use Rattle.smith_syntax.specs.Scope.{ScopeOf}
use Rattle.smith_syntax.specs.Usable.{marked_places, is_value, is_importable, is_exportable, is_equatable, is_small_component, is_small_instance}
use Rattle.smith_syntax.specs.declared.marks.Mark.{Mark}
use Rattle.smith_scope.specs.declared.kinds.Kind.{Kind}
use Rattle.smith_scope.specs.declared.kinds.Kind.TheVariants as kind
use Rattle.smith_scope.specs.declared.kept.Kept.{Kept}
use Rattle.smith_scope.specs.declared.offers.Offer.{Offer}
use Rattle.smith_scope.specs.declared.offers.Offer.TheVariants as offer
use Rattle.smith_scope.specs.declared.offers.Offers.{Offers}
use Rattle.smith_scope.specs.declared.offers.Uses.{Uses}

-- May the type be used for it?
abbrev pub is_offered : Offer → Entry → Mark → Bool
is_offered offer.Value e m = is_value e m
is_offered offer.Import e m = is_importable e m
is_offered offer.Export e m = is_exportable e m
is_offered offer.Equal e m = is_equatable e m
is_offered offer.Component e m = is_small_component e m
is_offered offer.Instance e m = is_small_instance e m

-- the indexes of the types that may be used for it, ascending
abbrev pub offered_places : Offer → Marked → List ℕ
offered_places o s = marked_places (is_offered o) 0 s.types s.marks

-- what a type may be used for
pub record AreUses (u : Uses) (e : Entry) (m : Mark) : Type 0 where
  pub value : u.value ≡ is_value e m
  pub import : u.import ≡ is_importable e m
  pub export : u.export ≡ is_exportable e m
  pub equal : u.equal ≡ is_equatable e m
  pub component : u.component ≡ is_small_component e m
  pub instance : u.instance ≡ is_small_instance e m

abbrev pub noted : List ℕ → Bool → ℕ → List ℕ
noted row holds i = if holds then row ++ i ∷ [] else row

-- the rows with the index at the end of those that it belongs to
pub record Notes (old new : Offers) (u : Uses) (i : ℕ) : Type 0 where
  pub values : new.values.items ≡ noted old.values.items u.value i
  pub imports : new.imports.items ≡ noted old.imports.items u.import i
  pub exports : new.exports.items ≡ noted old.exports.items u.export i
  pub equals : new.equals.items ≡ noted old.equals.items u.equal i
  pub components : new.components.items ≡ noted old.components.items u.component i
  pub instances : new.instances.items ≡ noted old.instances.items u.instance i

-- the rows as they were
pub record SameOffers (old new : Offers) : Type 0 where
  pub values : new.values.items ≡ old.values.items
  pub imports : new.imports.items ≡ old.imports.items
  pub exports : new.exports.items ≡ old.exports.items
  pub equals : new.equals.items ≡ old.equals.items
  pub components : new.components.items ≡ old.components.items
  pub instances : new.instances.items ≡ old.instances.items

-- no index in any
pub record AreEmpty (o : Offers) : Type 0 where
  pub values : o.values.items ≡ []
  pub imports : o.imports.items ≡ []
  pub exports : o.exports.items ≡ []
  pub equals : o.equals.items ≡ []
  pub components : o.components.items ≡ []
  pub instances : o.instances.items ≡ []

-- It has room for one more index.
abbrev pub HasRoom : {X Z : Type 0} → Vec X Z → Type 0
HasRoom row = vec_len row < vec_capacity row

-- each has room for one more index
pub record HaveRoom (o : Offers) : Type 0 where
  pub values : HasRoom o.values
  pub imports : HasRoom o.imports
  pub exports : HasRoom o.exports
  pub equals : HasRoom o.equals
  pub components : HasRoom o.components
  pub instances : HasRoom o.instances

-- each row, of types of these marks
pub record AreOffers (o : Offers) (types : List Entry) (marks : List Mark) : Type 0 where
  pub values : o.values.items ≡ marked_places (is_offered offer.Value) 0 types marks
  pub imports : o.imports.items ≡ marked_places (is_offered offer.Import) 0 types marks
  pub exports : o.exports.items ≡ marked_places (is_offered offer.Export) 0 types marks
  pub equals : o.equals.items ≡ marked_places (is_offered offer.Equal) 0 types marks
  pub components : o.components.items ≡ marked_places (is_offered offer.Component) 0 types marks
  pub instances : o.instances.items ≡ marked_places (is_offered offer.Instance) 0 types marks

-- nothing yet
pub record IsNew (k : Kept) : Type 0 where
  pub marks : k.marks.items ≡ []
  pub offers : AreEmpty k.offers
  pub core_sizes : k.core_sizes.items ≡ []

-- the mark of each of these types, and what it may be used for
pub record AreKept (k : Kept) (types : List Entry) : Type 0 where
  pub offers_are : AreOffers k.offers types k.marks.items
  pub as_many : length k.marks.items ≡ length types

-- What is kept is made for the first type or core type.

abbrev pub marks_in : Option (Box Kept Global) → List Mark
marks_in None = []
marks_in (Some k) = k.value.marks.items

abbrev pub core_sizes_in : Option (Box Kept Global) → List ℕ
core_sizes_in None = []
core_sizes_in (Some k) = k.value.core_sizes.items

abbrev pub AreKeptIn : Option (Box Kept Global) → List Entry → Type 0
AreKeptIn None types = types ≡ []
AreKeptIn (Some k) types = AreKept k.value types

-- What is kept if anything is, and that nothing is kept otherwise.
pub record IsKept {T C : Type 0} (plain : T → Entry) (s : ScopeOf T C) (keeps : Bool) (kept : Option (Box Kept Global)) : Type 0 where
  pub types_are : keeps ≡ true → AreKeptIn kept (map plain s.types)
  pub no_marks : keeps ≡ false → marks_in kept ≡ []
  pub as_many_core : keeps ≡ true → length (core_sizes_in kept) ≡ length s.core_types
  pub no_core_sizes : keeps ≡ false → core_sizes_in kept ≡ []

abbrev pub row_for : Offer → Offers → List ℕ
row_for offer.Value o = o.values.items
row_for offer.Import o = o.imports.items
row_for offer.Export o = o.exports.items
row_for offer.Equal o = o.equals.items
row_for offer.Component o = o.components.items
row_for offer.Instance o = o.instances.items

-- The kind of the types that may be used for it if no marks are kept: any may be equal to another.
abbrev pub kind_for : Offer → Option Kind
kind_for offer.Value = Some kind.Defined
kind_for offer.Import = Some kind.Func
kind_for offer.Export = Some kind.Func
kind_for offer.Equal = None
kind_for offer.Component = Some kind.Component
kind_for offer.Instance = Some kind.Instance

-- What is found of the types that may be used for it: their indexes, or that it is all of them.
abbrev pub AreOffered : Offer → Marked → Option (List ℕ) → Type 0
AreOffered o s (Some row) = row ≡ offered_places o s
AreOffered o s None = (o ≡ offer.Equal) × (s.marks ≡ [])
