-- How the declarations of component types and instance types are read, except for the types in them.
use Rattle.std.specs.Prelude.{◌≡◌, ℕ, ◌<◌, Bool, true, false, List, [], ◌∷◌, ◌++◌, drop, codes, slice_get, Option, Some, None}
use Rattle.std.specs.List.{flat_map}
use Rattle.smith_input.specs.Choices.{ReadsAmong}
use Rattle.smith_input.specs.Names.{ReadsNew}
use Rattle.smith_input.specs.Reading.{Reads, Flips}
use Rattle.smith_format.specs.declared.config.Config.{Config}
use Rattle.smith_syntax.specs.Entries.{FullDecl, import_decl, export_decl}
use Rattle.smith_syntax.specs.Marked.{Marked, empty_marked, first_marked, marked_after}
use Rattle.smith_syntax.specs.declared.deftype.ComponentTypeRef.{ComponentTypeRef}
use Rattle.smith_syntax.specs.WellFormed.{import_of, export_of, names}
use Rattle.smith_types.specs.References.{ReadsRef}
use Rattle.smith_tree.specs.TypeOffers.{ref_kinds, uncounted, has_reference, occupied, aliases_of}

-- a name, and a URL or none
abbrev pub NamedExtern : Type 0
NamedExtern = List ℕ × Option (List ℕ)

-- What a component type or an instance type has so far: its scope, and the names of what it imports and exports, each with its URL.
pub record SoFar : Type 0 where
  pub own : Marked
  pub imports : List NamedExtern
  pub exports : List NamedExtern

abbrev pub nothing_so_far : List Marked → SoFar
nothing_so_far outer = record { own = empty_marked (first_marked outer).keeps; imports = []; exports = [] }

-- with one more declaration
abbrev pub after_one : List Marked → SoFar → FullDecl → SoFar
after_one outer s d = record { own = marked_after d outer s.own; imports = s.imports ++ import_of d; exports = s.exports ++ export_of d }

-- what follows the host in a URL
abbrev pub url_name : Option (List ℕ) → List (List ℕ)
url_name None = []
url_name (Some url) = drop 20 url ∷ []

abbrev pub url_names : List NamedExtern → List (List ℕ)
url_names xs = flat_map (λ x. url_name x.1) xs

-- A boolean, and a URL if it is true: the host, and a name that is new among the names of the URLs so far.
pub data ReadsMaybeUrl (config : Config) (used : List (List ℕ)) : List ℕ → Option (List ℕ) → List ℕ → Type 0 where
  no_url : {bytes rest : List ℕ} → Flips bytes false rest → ReadsMaybeUrl config used bytes None rest
  a_url : {bytes mid name rest : List ℕ} {url : Option (List ℕ)} → Flips bytes true mid → ReadsNew config.max_name_length used mid name rest
      → url ≡ Some (codes "https://example.com/" ++ name) → ReadsMaybeUrl config used bytes url rest

-- A name that is new among those so far, and a URL or none.
pub record ReadsNamedExtern (config : Config) (so_far : List NamedExtern) (bytes : List ℕ) (x : NamedExtern) (rest : List ℕ) : Type 0 where
  pub mid : List ℕ
  pub name : ReadsNew config.max_name_length (names so_far) bytes x.0 mid
  pub url : ReadsMaybeUrl config (url_names so_far) mid x.1 rest

-- An outer alias: a choice of a scope that has an entry, and of an entry of it. It keeps what it names.
pub record ReadsAlias (scopes : List Marked) (bytes : List ℕ) (d : FullDecl) (rest : List ℕ) : Type 0 where
  pub count : ℕ
  pub mid : List ℕ
  pub scope : Marked
  pub choice : ReadsAmong (occupied scopes) bytes count mid
  pub stands : slice_get scopes count ≡ Some scope
  pub names : ReadsAmong (aliases_of count scope) mid d rest

-- No import is declared: in an instance type; and in a component type if there is nothing to name, if the choice of
-- four does not ask for an import, or if it does but none is possible.
pub data NoImportDecl (config : Config) (importing : Bool) (own : Marked) : List ℕ → List ℕ → Type 0 where
  in_instance : {bytes : List ℕ} → importing ≡ false → NoImportDecl config importing own bytes bytes
  nothing_there : {bytes : List ℕ} → importing ≡ true → has_reference own ≡ false → NoImportDecl config importing own bytes bytes
  not_asked : {bytes rest : List ℕ} {k : ℕ} → importing ≡ true → has_reference own ≡ true → Reads 4 bytes k rest → 0 < k
      → NoImportDecl config importing own bytes rest
  none_fits : {bytes rest : List ℕ} → importing ≡ true → has_reference own ≡ true → Reads 4 bytes 0 rest → ref_kinds config own uncounted true true ≡ []
      → NoImportDecl config importing own bytes rest

-- An import: if there is something to name, one of four choices, what it is of, and its name.
pub record ReadsImportDecl (config : Config) (own : Marked) (imports : List NamedExtern) (bytes : List ℕ) (d : FullDecl) (rest : List ℕ) : Type 0 where
  pub mid : List ℕ
  pub low : List ℕ
  pub to : ComponentTypeRef
  pub named : NamedExtern
  pub there : has_reference own ≡ true
  pub asked : Reads 4 bytes 0 mid
  pub of : ReadsRef config own uncounted true true mid to low
  pub name : ReadsNamedExtern config imports low named rest
  pub is : d ≡ import_decl named.0 named.1 to

-- An export: what it is of, and its name.
pub record ReadsExportDecl (config : Config) (own : Marked) (exports : List NamedExtern) (bytes : List ℕ) (d : FullDecl) (rest : List ℕ) : Type 0 where
  pub mid : List ℕ
  pub to : ComponentTypeRef
  pub named : NamedExtern
  pub of : ReadsRef config own uncounted false true bytes to mid
  pub name : ReadsNamedExtern config exports mid named rest
  pub is : d ≡ export_decl named.0 named.1 to
