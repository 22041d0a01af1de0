-- What is kept of types, of imports and of exports says no more than there is, so that what is found unnamed is.
use Rattle.std.specs.Prelude.{◌≡◌, ◌⊎◌, ◌+◌, ℕ, ◌<◌, Bool, true, false, List, [], ◌∷◌, ◌++◌, length, Option, None, Some}
use Rattle.std.specs.List.{AllByRecursion, AllZip}
use Rattle.std.specs.Option.{option_to_list}
use Rattle.smith_input.specs.NewNames.{is_among}
use Rattle.smith_tree.specs.Bodies.{Body}
use Rattle.smith_tree.specs.Facts.{Extern, FactScope, Facts, Id, id_at, needs}
use Rattle.smith_tree.specs.Validates.{exported, imported, names_of}
use Rattle.smith_validate.specs.Attained.{Attains}
use Rattle.smith_validate.specs.Deferring.{IsExposure}
use Rattle.smith_validate.specs.Exposing.{number_of}
pub use Rattle.smith_validate.specs.Exposure.{IsExposed, IsOpening, is_exposed}
use Rattle.smith_validate.specs.Externs.{with_exports}
use Rattle.smith_validate.specs.Instances.{Surface, Piece, equal, single, whole}
use Rattle.smith_validate.specs.Instances.{externs_in, externs_of, place_of, refers_of, uses_in}
use Rattle.smith_validate.specs.Kept.{types_in}
use Rattle.smith_validate.specs.Places.{IsBefore, IsOpen}
use Rattle.smith_validate.specs.Tables.{AreAdded, AreExact, Fits, IsGrown, IsLive, names_in}
use Rattle.smith_validate.specs.declared.body.Body.{Body as KeptBody}
use Rattle.smith_validate.specs.declared.body.Exported.{Exported}
use Rattle.smith_validate.specs.declared.body.Extern.{Extern as KeptExtern}
use Rattle.smith_validate.specs.declared.body.Role.{Role}
use Rattle.smith_validate.specs.declared.body.Role.TheVariants.{Names, Exporting}
use Rattle.smith_validate.specs.declared.body.Sets.{Sets}
use Rattle.smith_validate.specs.declared.facts.Facts.{Facts as KeptFacts}
use Rattle.smith_validate.specs.declared.instances.InstanceType.{InstanceType}
use Rattle.smith_validate.specs.declared.instances.Use.{Use}
use Rattle.smith_validate.specs.declared.instances.Use.TheVariants.{Instance}
use Rattle.smith_validate.specs.declared.known.Known.{Known}

-- A type of instances by its number, which an open scope has; any other exports nothing.
abbrev pub IsNumberOf : List Surface → Id → Option ℕ → Facts → Type 0
IsNumberOf table place None f = f.exports ≡ []
IsNumberOf table place (Some n) f =
    (n < length table) × IsOpen place (place_of table n) × (f.exports ≡ externs_of table n) × (f.refers ≡ refers_of (externs_of table n))
    × (¬ (f.exports ≡ []))

-- What is kept of a type is attained, and all that it refers to was added before.
pub record IsKeptExactly (table : List Surface) (place : Id) (named : List Id) (k : KeptFacts) (f : Facts) : Type 0 where
  pub nominal_is : k.nominal ≡ f.nominal
  pub id_before : IsBefore 0 place f.id
  pub before : (id : Id) → is_among f.refers id ≡ true → IsBefore 0 place id
  pub refers_are : Attains place named k.refers f.refers
  pub needs_are : f.exports ≡ [] → Attains place named k.needs (needs f)
  pub number_is : IsNumberOf table place k.instance f

-- So it is of all types of these scopes, innermost first, if open scopes name these.
pub record AreKnown (kept : List (List KeptFacts)) (all : List InstanceType) (scopes : List FactScope) (named : List Id) (table : List Surface)
    : Type 0 where
  pub types_are : AllZip (λ ks s. AllZip (IsKeptExactly table (id_at scopes) (named ++ names_in table)) ks s.types) kept scopes
  pub instances_are : AreExact all table
  pub added : AreAdded (id_at scopes) table
  pub long : length all ≡ length table
  pub named_before : (id : Id) → is_among named id ≡ true → IsBefore 0 (id_at scopes) id

-- What is exposed for imports and for exports is that.
abbrev pub AreSetsExactly : List Surface → Sets → Body → Type 0
AreSetsExactly table s b = IsExposure table s.imported (imported b) × IsExposure table s.exported (exported b)

-- what an instance type in that scope exports
pub record AreExportsExactly (table : List Surface) (place around : Id) (named : List Id) (e : Exported) (xs : List Extern) : Type 0 where
  pub pieces : List Piece
  pub externs_are : xs ≡ externs_in table pieces
  pub uses_are : e.uses.items ≡ uses_in pieces
  pub fit : AllByRecursion (Fits table (length table) around) pieces
  pub before : (id : Id) → is_among (refers_of xs) id ≡ true → IsBefore 0 place id
  pub refers_are : Attains place named e.refers (refers_of xs)
  pub some : e.any ≡ true → ¬ (xs ≡ [])
  pub none : e.any ≡ false → xs ≡ []

-- What is kept of imports and exports is exact.
abbrev pub IsRoleExactly : List Surface → List FactScope → List Id → Bool → Role → Body → Type 0
IsRoleExactly table outer named asks (Names s) b =
    (asks ≡ true) × AreSetsExactly table s b
IsRoleExactly table outer named asks (Exporting e) b =
    (asks ≡ false) × AreExportsExactly table (id_at (b.own ∷ outer)) (id_at outer) ((names_of b.exports ++ named) ++ names_in table) e b.exports

-- What is kept of a body is exact, if the scopes around it name these.
pub record IsKeptBody (asks : Bool) (k : Known) (r : Role) (b : Body) (outer : List FactScope) (named : List Id) (table : List Surface) : Type 0 where
  pub known : AreKnown (types_in k) k.instances.items (b.own ∷ outer) (names_of b.exports ++ named) table
  pub depth_is : length outer ≡ length k.scopes.outer.items
  pub exports_are : (id : Id) → is_among (names_of b.exports) id ≡ true
      → (is_among (names_in table) id ≡ true) ⊎ (IsOpen (id_at (b.own ∷ outer)) id × (length id ≡ length outer + 1))
  pub imports_are : (id : Id) → is_among (names_of b.imports) id ≡ true → is_among (names_in table) id ≡ true
  pub role_is : IsRoleExactly table outer named asks r b

abbrev pub IsBodyExactly : Bool → Known → KeptBody → Body → List FactScope → List Id → List Surface → Type 0
IsBodyExactly asks k o b outer named table = IsKeptBody asks k o.role b outer named table

-- What is kept of a type that is to be added is exact, with more types of instances.
pub record IsDeclaredExactly (own : FactScope) (outer : List FactScope) (named : List Id) (table : List Surface) (k : Known) (kept : KeptFacts) (f : Facts)
    : Type 0 where
  pub new : List Surface
  pub grown : IsGrown (id_at (own ∷ outer)) table new
  pub instances_are : AreExact k.instances.items new
  pub added : AreAdded ((length own.types + 1) ∷ id_at outer) new
  pub long : length k.instances.items ≡ length new
  pub is : IsKeptExactly new ((length own.types + 1) ∷ id_at outer) (named ++ names_in new) kept f

-- What is kept of what was declared in a type is exact, with more types of instances. Open scopes around it name these.
pub record IsJudgedExactly (asks : Bool) (k : Known) (o : KeptBody) (b : Body) (outer : List FactScope) (named : List Id) (table : List Surface) : Type 0 where
  pub new : List Surface
  pub grown : IsGrown (id_at outer) table new
  pub instances_are : AreExact k.instances.items new
  pub added : AreAdded (id_at (b.own ∷ outer)) new
  pub long : length k.instances.items ≡ length new
  pub exports_are : (id : Id) → is_among (names_of b.exports) id ≡ true
      → (is_among (names_in new) id ≡ true) ⊎ (IsOpen (id_at (b.own ∷ outer)) id × (length id ≡ length outer + 1))
  pub role_is : IsRoleExactly new outer named asks o.role b

-- The same with more types of instances, after that place.
pub record IsBodyExactlyNow (asks : Bool) (k : Known) (o : KeptBody) (b : Body) (outer : List FactScope) (named : List Id) (place : Id)
    (table : List Surface) : Type 0 where
  pub new : List Surface
  pub grown : IsGrown place table new
  pub is : IsBodyExactly asks k o b outer named new

-- what it names by itself
abbrev pub placed_by : Piece → List Id
placed_by (single x) = x.names
placed_by (whole n) = []
placed_by (equal n names) = names

-- What is kept of an import or an export at that place is exact. It names what types of instances name, or what is added at the place.
pub record IsPieceExactly (table : List Surface) (place around : Id) (named : List Id) (k : KeptExtern) (xs : List Extern) : Type 0 where
  pub piece : Piece
  pub externs_are : xs ≡ externs_in table (piece ∷ [])
  pub used_is : uses_in (piece ∷ []) ≡ option_to_list k.used
  pub fit : Fits table (length table) around piece
  pub open_is : (n : ℕ) → uses_in (piece ∷ []) ≡ Instance n ∷ [] → IsOpen place (place_of table n)
  pub live : (u : Use) → uses_in (piece ∷ []) ≡ u ∷ [] → IsLive table (number_of u)
  pub before : (id : Id) → is_among (refers_of xs) id ≡ true → IsBefore 0 place id
  pub refers_are : Attains place named k.refers (refers_of xs)
  pub names : (id : Id) → is_among (names_of xs) id ≡ true → (is_among (names_in table) id ≡ true) ⊎ (id ≡ place)
  pub some : ¬ (xs ≡ [])
  pub placed : (id : Id) → is_among (placed_by piece) id ≡ true → id ≡ place

-- Imports name what types of instances name; exports, that and what was added to the scope of the place. All of it is named.
pub record AreNamedFor (table : List Surface) (place : Id) (named : List Id) (b : Body) : Type 0 where
  pub imports_are : (id : Id) → is_among (names_of b.imports) id ≡ true → is_among (names_in table) id ≡ true
  pub exports_are : (id : Id) → is_among (names_of b.exports) id ≡ true
      → (is_among (names_in table) id ≡ true) ⊎ (IsOpen place id × (length id ≡ length place))
  pub exports_named : (id : Id) → is_among (names_of b.exports) id ≡ true → is_among named id ≡ true
  pub table_named : (id : Id) → is_among (names_in table) id ≡ true → is_among named id ≡ true

-- What is kept after an export is exact, before a type is added.
abbrev pub IsRoleExported : List Surface → List FactScope → List Id → Bool → Role → Body → List Extern → Type 0
IsRoleExported table outer named asks (Names s) b xs = (asks ≡ true) × AreSetsExactly table s (with_exports b xs)
IsRoleExported table outer named asks (Exporting e) b xs =
    (asks ≡ false) × AreExportsExactly table (id_at (b.own ∷ outer)) (id_at outer) ((names_of b.exports ++ named) ++ names_in table) e (b.exports ++ xs)
