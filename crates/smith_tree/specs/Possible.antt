-- What the standard asks of a component, with no bound and no choice of Lupinanon's own (Explainer.md, index spaces; CanonicalABI.md,
-- canon lift, canon lower, flattening). What is well formed is possible; what is not possible is invalid for every validator.
use Rattle.std.specs.Prelude.{◌≡◌, ℕ, Bool, true, false, List, [], ◌∷◌, ◌++◌, map, fold, length, not, Option, Some, None, slice_get}
use Rattle.std.specs.List.{AllByRecursion, list_all, list_any}
use Rattle.std.specs.Option.{is_some, option_to_list}
use Rattle.smith_syntax.specs.Entries.{Entry, ImportEntry, Signature, defined, function, list_type, primitive_type}
use Rattle.smith_syntax.specs.Flat.{flat_primitive, flat_value}
use Rattle.smith_syntax.specs.Possible.{PossibleCores, PossibleNames, PossibleTypes}
use Rattle.smith_syntax.specs.Scope.{Scope, exported_type}
use Rattle.smith_syntax.specs.WellFormed.{FormedRef}
use Rattle.smith_syntax.specs.declared.types.ComponentValType.{ComponentValType}
use Rattle.smith_syntax.specs.declared.types.ComponentValType.TheVariants.{Indexed, Primitive}
use Rattle.smith_tree.specs.Spaces.{Spaces, after_canon, after_import, after_part, no_spaces}
use Rattle.smith_tree.specs.Tree.{Canon, Part, Tree, add, canons, component, core_module, core_types, custom, ends, exports, exports_of, first}
use Rattle.smith_tree.specs.Tree.{imports, imports_of}
use Rattle.smith_tree.specs.Tree.{lift, lower, types}
use Rattle.smith_tree.specs.WellFormed.{FormedExports, HasSignature, export_names, import_names}

-- Is it a list or a string, which passes by memory?
abbrev pub is_in_memory : Option Entry → Bool
is_in_memory (Some (defined (list_type v))) = true
is_in_memory (Some (defined (primitive_type p))) = not (is_some (flat_primitive p))
is_in_memory _ = false

-- the same of a value type in use
abbrev pub needs_memory : List Entry → ComponentValType → Bool
needs_memory around (Primitive p) = not (is_some (flat_primitive p))
needs_memory around (Indexed i) = is_in_memory (slice_get around i)

-- the types of the parameters and of the result
abbrev pub values_of : Signature → List ComponentValType
values_of s = map (λ p. p.1) s.params ++ option_to_list s.result

-- A parameter or the result passes by memory, which takes a canonical option.
abbrev pub NeedsMemory : List Entry → Signature → Type 0
NeedsMemory around s = list_any (needs_memory around) (values_of s) ≡ true

-- All values are scalars by themselves.
abbrev pub AreFlat : Signature → Type 0
AreFlat s = list_all (λ v. is_some (flat_value v)) (values_of s) ≡ true

-- the same core value types in the same places
pub record SameFlat (s t : Signature) : Type 0 where
  pub params : map (λ p. flat_value p.1) s.params ≡ map (λ p. flat_value p.1) t.params
  pub result : map flat_value (option_to_list s.result) ≡ map flat_value (option_to_list t.result)

-- What is lowered or lifted passes nothing by memory, and what is lifted has the core function type of what is lowered, if both are of
-- scalars.
abbrev pub PossibleCanon : Spaces → Canon → Type 0
PossibleCanon s (lower f) = (signature : Signature) × HasSignature s f signature × ¬ NeedsMemory s.types signature
PossibleCanon s (lift c t) =
    (signature lowered : Signature) × (f : ℕ) × (slice_get s.types t ≡ Some (function signature)) × (slice_get s.core_functions c ≡ Some f)
    × HasSignature s f lowered × (¬ NeedsMemory s.types signature) × (AreFlat signature → AreFlat lowered → SameFlat signature lowered)

-- Canonical functions in a row: each is judged after those before it.
abbrev pub PossibleCanons : List Canon → Spaces → Type 0
PossibleCanons [] s = Unit {0}
PossibleCanons (c ∷ cs) s = PossibleCanon s c × PossibleCanons cs (after_canon s c)

abbrev pub scope_in : Spaces → Scope
scope_in s = record { types = s.types; core_types = s.core_types }

-- after an import: one of a type adds that type too
abbrev pub after_possible_import : Spaces → ImportEntry → Spaces
after_possible_import s i = record (after_import s i) { types = s.types ++ option_to_list (exported_type (scope_in s) i.to) }

-- Imports in a row: each is of what precedes it.
abbrev pub PossibleImports : List ImportEntry → Spaces → Type 0
PossibleImports [] s = Unit {0}
PossibleImports (i ∷ is) s = FormedRef (scope_in s) i.to × PossibleImports is (after_possible_import s i)

-- the spaces after a part
abbrev pub after_possible_part : Spaces → Part → Spaces
after_possible_part s (imports is) = fold after_possible_import s is
after_possible_part s p = after_part s p

-- The parts of a component after those before them, given the spaces that those make, in the scopes around, innermost first.
abbrev mutual
  pub PossibleParts : Tree → List Scope → Spaces → Tree → Type 0
  PossibleParts ends outer s before = Unit {0}
  PossibleParts (first p t) outer s before = PossiblePart p outer s before × PossibleParts t outer (after_possible_part s p) (add before p)

  pub PossiblePart : Part → List Scope → Spaces → Tree → Type 0
  PossiblePart (custom name contents) outer s before = Unit {0}
  PossiblePart (core_module text) outer s before = Unit {0}
  PossiblePart (core_types ts) outer s before = PossibleCores ts (scope_in s) (length outer)
  PossiblePart (component t) outer s before = PossibleParts t (scope_in s ∷ outer) no_spaces ends
  PossiblePart (types ts) outer s before = PossibleTypes ts (scope_in s) outer
  PossiblePart (canons fs) outer s before = PossibleCanons fs s
  PossiblePart (imports is) outer s before = PossibleImports is s × PossibleNames true (import_names (imports_of before ++ is))
  PossiblePart (exports es) outer s before = FormedExports es s × PossibleNames true (export_names (exports_of before ++ es))

-- a component in no scope
abbrev pub Possible : Tree → Type 0
Possible t = PossibleParts t [] no_spaces ends
