-- Types of instances by their numbers: what they export, and what is kept of it.
use Rattle.std.specs.Prelude.{◌≡◌, ℕ, ◌<◌, true, false, List, [], ◌∷◌, ◌++◌, length, get_or, Option, None, Some}
use Rattle.std.specs.List.{AllZip, flat_map}
use Rattle.smith_tree.specs.Facts.{Extern, FactScope, Facts, Id, needs}
use Rattle.smith_tree.specs.Validates.{RefersTo, names_of}
use Rattle.smith_validate.specs.Marks.{Covers, Within}
use Rattle.smith_validate.specs.declared.facts.Facts.{Facts as KeptFacts}
use Rattle.smith_validate.specs.declared.instances.InstanceType.{InstanceType}
use Rattle.smith_validate.specs.declared.instances.Use.{Use}
use Rattle.smith_validate.specs.declared.instances.Use.TheVariants.{Instance, Equal}

-- What a type of instances exports; what it refers to that is named neither by it nor by another type of instances; and where it was
-- added.
pub record Surface : Type 0 where
  pub externs : List Extern
  pub outside : List Id
  pub place : Id

abbrev pub no_surface : Surface
no_surface = record { externs = []; outside = []; place = [] }

abbrev pub externs_of : List Surface → ℕ → List Extern
externs_of table n = (get_or table n no_surface).externs

abbrev pub outside_of : List Surface → ℕ → List Id
outside_of table n = (get_or table n no_surface).outside

abbrev pub place_of : List Surface → ℕ → Id
place_of table n = (get_or table n no_surface).place

abbrev pub refers_of : List Extern → List Id
refers_of xs = flat_map (λ x. x.refers) xs

-- An export of an instance type: of a function, or of a type that is equal to one of another sort; of an instance, by the number of its
-- type; of a type that is equal to one of instances, by the number of that, and what it names.
pub data Piece : Type 0 where
  single : Extern → Piece
  whole : ℕ → Piece
  equal : ℕ → List Id → Piece

module _ (table : List Surface) where
  abbrev pub externs_in : List Piece → List Extern
  externs_in [] = []
  externs_in (single x ∷ ps) = x ∷ externs_in ps
  externs_in (whole n ∷ ps) = externs_of table n ++ externs_in ps
  externs_in (equal n names ∷ ps) = record { refers = refers_of (externs_of table n); names = names } ∷ externs_in ps

  abbrev pub IsKnown : Piece → Type 0
  IsKnown (single x) = Unit {0}
  IsKnown (whole n) = n < length table
  IsKnown (equal n names) = n < length table

  -- what it refers to, except for what types of instances name
  abbrev pub reach : Piece → List Id
  reach (single x) = x.refers
  reach (whole n) = outside_of table n
  reach (equal n names) = outside_of table n

  -- what it names
  abbrev pub named_by : Piece → List Id
  named_by (single x) = x.names
  named_by (whole n) = names_of (externs_of table n)
  named_by (equal n names) = names

  -- Each refers to these, or to what the ones before it name.
  abbrev pub Follow : List Id → List Piece → Type 0
  Follow named [] = Unit {0}
  Follow named (p ∷ ps) = IsKnown p × Within named (reach p) × Follow (named ++ named_by p) ps

  -- Each refers only to these.
  abbrev pub Rest : List Id → List Piece → Type 0
  Rest named [] = Unit {0}
  Rest named (p ∷ ps) = IsKnown p × Within named (reach p) × Rest named ps

  -- Those of types of instances are of such as refer to nothing that types of instances name.
  abbrev pub AreOutward : List Piece → Type 0
  AreOutward [] = Unit {0}
  AreOutward (single x ∷ ps) = AreOutward ps
  AreOutward (whole n ∷ ps) = Within (outside_of table n) (refers_of (externs_of table n)) × AreOutward ps
  AreOutward (equal n names ∷ ps) = Within (outside_of table n) (refers_of (externs_of table n)) × AreOutward ps

abbrev pub uses_in : List Piece → List Use
uses_in [] = []
uses_in (single x ∷ ps) = uses_in ps
uses_in (whole n ∷ ps) = Instance n ∷ uses_in ps
uses_in (equal n names ∷ ps) = Equal n ∷ uses_in ps

-- What is kept of a type of instances is of these exports.
pub record IsInstanceType (table : List Surface) (t : InstanceType) (e : Surface) : Type 0 where
  pub pieces : List Piece
  pub externs_are : e.externs ≡ externs_in table pieces
  pub uses_are : t.uses.items ≡ uses_in pieces
  pub follow : Follow table e.outside pieces
  pub rest : t.refers_to_own ≡ false → Rest table e.outside pieces
  pub outward : t.refers_outside ≡ true → Within e.outside (refers_of e.externs)
  pub first : t.names_first ≡ true → RefersTo e.outside e.externs

abbrev pub IsTable : List InstanceType → List Surface → Type 0
IsTable all table = AllZip (IsInstanceType table) all table

-- The same, with more.
abbrev pub IsTableNow : List InstanceType → List Surface → Type 0
IsTableNow all table = (more : List Surface) × IsTable all (table ++ more)

-- what a type refers to, except for what types of instances name
abbrev pub reach_of : List Surface → Option ℕ → Facts → List Id
reach_of table None f = f.refers
reach_of table (Some n) f = outside_of table n

-- It is of that sort of types.
abbrev pub IsNumbered : List Surface → Option ℕ → Facts → Type 0
IsNumbered table None f = f.exports ≡ []
IsNumbered table (Some n) f = (n < length table) × (f.exports ≡ externs_of table n) × (f.refers ≡ refers_of (externs_of table n))

-- What is kept of a type, when these scopes are open, is of that.
pub record IsKept (table : List Surface) (names : List (List Id)) (k : KeptFacts) (f : Facts) : Type 0 where
  pub nominal_is : k.nominal ≡ f.nominal
  pub needs_are : Covers names k.needs (needs f)
  pub refers_are : Covers names k.refers (reach_of table k.instance f)
  pub instance_is : IsNumbered table k.instance f

abbrev pub AreKept : List Surface → List (List Id) → List KeptFacts → List Facts → Type 0
AreKept table names ks fs = AllZip (IsKept table names) ks fs

-- in scopes, innermost first
abbrev pub ScopesKept : List Surface → List (List Id) → List (List KeptFacts) → List FactScope → Type 0
ScopesKept table [] [] [] = Unit {0}
ScopesKept table (here ∷ names) (ks ∷ kss) (s ∷ ss) = AreKept table (here ∷ names) ks s.types × ScopesKept table names kss ss
ScopesKept table names kss ss = ⊥
