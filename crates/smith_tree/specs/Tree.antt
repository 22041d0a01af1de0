-- A component as a plain tree of parts, and what is in it (Explainer.md, component definitions, index spaces).
use Rattle.std.specs.Prelude.{ℕ, ◌+◌, List, [], ◌∷◌, ◌++◌, length, max}
use Rattle.std.specs.List.{flat_map}
use Rattle.smith_syntax.specs.Entries.{Entry, CoreEntry, ImportEntry}
use Rattle.smith_syntax.specs.declared.deftype.ComponentTypeRef.{ComponentTypeRef}
use Rattle.smith_syntax.specs.declared.deftype.ComponentTypeRef.TheVariants as to
use Rattle.smith_tree.specs.TypeNeeds.{declaring}

-- A canonical function (Explainer.md, canonical definitions): the core function of that index lifted to the type of that index, or
-- the component function of that index lowered.
pub data Canon : Type 0 where
  lift : ℕ → ℕ → Canon
  lower : ℕ → Canon

-- An export of the component function with that index (Explainer.md, export definitions).
pub record ExportEntry : Type 0 where
  pub name : List ℕ
  pub func : ℕ

-- A list of parts, and the parts. There are no URLs, no shared nodes and no caches.
mutual
  pub data Tree : Type 0 where
    ends : Tree
    first : Part → Tree → Tree

  pub data Part : Type 0 where
    custom : List ℕ → List ℕ → Part
    core_module : List ℕ → Part
    core_types : List CoreEntry → Part
    component : Tree → Part
    types : List Entry → Part
    canons : List Canon → Part
    imports : List ImportEntry → Part
    exports : List ExportEntry → Part

abbrev pub tree_of : List Part → Tree
tree_of [] = ends
tree_of (p ∷ ps) = first p (tree_of ps)

-- a tree with one more part at its end
abbrev pub add : Tree → Part → Tree
add ends p = first p ends
add (first q t) p = first q (add t p)

-- the parts of a tree, in order
abbrev pub parts_of : Tree → List Part
parts_of ends = []
parts_of (first p t) = p ∷ parts_of t

-- the function, module, component or instance that an import is of, by the index of its type

abbrev pub function_of : ComponentTypeRef → List ℕ
function_of (to.Func i) = i ∷ []
function_of _ = []

abbrev pub module_of : ComponentTypeRef → List ℕ
module_of (to.Module i) = i ∷ []
module_of _ = []

abbrev pub component_of : ComponentTypeRef → List ℕ
component_of (to.Component i) = i ∷ []
component_of _ = []

abbrev pub instance_of : ComponentTypeRef → List ℕ
instance_of (to.Instance i) = i ∷ []
instance_of _ = []

-- What a part holds by itself: the names of custom sections, core modules, components, imports, canonical functions and exports.
pub record Held : Type 0 where
  pub names : List (List ℕ)
  pub modules : List (List ℕ)
  pub components : List Tree
  pub imports : List ImportEntry
  pub canons : List Canon
  pub exports : List ExportEntry

abbrev pub nothing : Held
nothing = record { names = []; modules = []; components = []; imports = []; canons = []; exports = [] }

abbrev pub held : Part → Held
held (custom name contents) = record nothing { names = name ∷ [] }
held (core_module text) = record nothing { modules = text ∷ [] }
held (core_types ts) = nothing
held (component t) = record nothing { components = t ∷ [] }
held (types ts) = nothing
held (canons fs) = record nothing { canons = fs }
held (imports is) = record nothing { imports = is }
held (exports es) = record nothing { exports = es }

abbrev pub names_in : Part → List (List ℕ)
names_in p = (held p).names

abbrev pub modules_in : Part → List (List ℕ)
modules_in p = (held p).modules

abbrev pub components_in : Part → List Tree
components_in p = (held p).components

abbrev pub imports_in : Part → List ImportEntry
imports_in p = (held p).imports

abbrev pub canons_in : Part → List Canon
canons_in p = (held p).canons

abbrev pub exports_in : Part → List ExportEntry
exports_in p = (held p).exports

abbrev pub imported_functions_in : Part → List ℕ
imported_functions_in p = flat_map (λ i. function_of i.to) (imports_in p)

abbrev pub imported_modules_in : Part → List ℕ
imported_modules_in p = flat_map (λ i. module_of i.to) (imports_in p)

abbrev pub imported_components_in : Part → List ℕ
imported_components_in p = flat_map (λ i. component_of i.to) (imports_in p)

abbrev pub imported_instances_in : Part → List ℕ
imported_instances_in p = flat_map (λ i. instance_of i.to) (imports_in p)

-- the lists of a component by itself, without the components in it

abbrev pub own : {A : Type 0} → (Part → List A) → Tree → List A
own f t = flat_map f (parts_of t)

abbrev pub imports_of : Tree → List ImportEntry
imports_of t = own imports_in t

abbrev pub exports_of : Tree → List ExportEntry
exports_of t = own exports_in t

-- how many functions a component imports, lifts and lowers
abbrev pub function_count : Tree → ℕ
function_count t = length (own imported_functions_in t) + length (own canons_in t)

-- what is anywhere in a tree, in the components at every depth

abbrev mutual
  pub anywhere : {A : Type 0} → (Part → List A) → Tree → List A
  anywhere f ends = []
  anywhere f (first p t) = anywhere_in f p ++ anywhere f t

  pub anywhere_in : {A : Type 0} → (Part → List A) → Part → List A
  anywhere_in f (custom name contents) = f (custom name contents)
  anywhere_in f (core_module text) = f (core_module text)
  anywhere_in f (core_types ts) = f (core_types ts)
  anywhere_in f (component t) = f (component t) ++ anywhere f t
  anywhere_in f (types ts) = f (types ts)
  anywhere_in f (canons fs) = f (canons fs)
  anywhere_in f (imports is) = f (imports is)
  anywhere_in f (exports es) = f (exports es)

-- the components below the root, and the core modules
abbrev pub inside : Tree → List Tree
inside t = anywhere components_in t

abbrev pub modules : Tree → List (List ℕ)
modules t = anywhere modules_in t

-- how many modules, components below the root and instances there are, including imported ones

abbrev pub module_count : Tree → ℕ
module_count t = length (modules t) + length (anywhere imported_modules_in t)

abbrev pub component_count : Tree → ℕ
component_count t = length (inside t) + length (anywhere imported_components_in t)

abbrev pub instance_count : Tree → ℕ
instance_count t = length (anywhere imported_instances_in t)

-- how deep components are, the root at 1, if types reach that much below the component in which they are
abbrev mutual
  pub depth_by : (List Entry → ℕ) → Tree → ℕ
  depth_by below ends = 1
  depth_by below (first p t) = max (depth_by_in below p) (depth_by below t)

  pub depth_by_in : (List Entry → ℕ) → Part → ℕ
  depth_by_in below (component t) = depth_by below t + 1
  depth_by_in below (types ts) = below ts + 1
  depth_by_in below _ = 1

-- components alone
abbrev pub no_depth : List Entry → ℕ
no_depth ts = 0

abbrev pub depth : Tree → ℕ
depth t = depth_by no_depth t

-- the greatest number that an entry has
abbrev pub most : (Entry → ℕ) → List Entry → ℕ
most number [] = 0
most number (t ∷ ts) = max (number t) (most number ts)

-- how deep components are, and the types that component types and instance types declare, each one below the scope that declares it
abbrev pub declared_depth : Tree → ℕ
declared_depth t = depth_by (most declaring) t
