-- Types of values and of functions, and what has to be named when they are used.
use Rattle.std.specs.Prelude.{◌≡◌, ℕ, Bool, false, List, [], None, Some, fold, slice_get, if◌then◌else◌, IfErr, IfOk, Result}
use Rattle.std.specs.List.{flat_map}
use Rattle.smith_syntax.specs.Entries.{DefValType, Signature}
use Rattle.smith_syntax.specs.declared.types.ComponentValType.{ComponentValType}
use Rattle.smith_syntax.specs.declared.types.ComponentValType.TheVariants.{Primitive, Indexed}
use Rattle.smith_syntax.specs.Sizes.{capped}
use Rattle.smith_tree.specs.Demands.{Keeps}
use Rattle.smith_tree.specs.Facts.{FactScope, Facts, Id, is_nominal, members, sizes, value_needs}
use Rattle.smith_tree.specs.Sizes.{defined_size, signature_members, signature_size}
use Rattle.smith_validate.specs.Instances.{AreKept, Surface}
use Rattle.smith_validate.specs.Judges.{IsUnnamed, Judges}
use Rattle.smith_validate.specs.Kept.{kept_in, kept_of}
use Rattle.smith_validate.specs.Marks.{Covers, both, no_needs, unnamed_needs}
use Rattle.smith_validate.specs.declared.facts.Facts.{Facts as KeptFacts}
use Rattle.smith_validate.specs.declared.facts.Needs.{Needs}
use Rattle.smith_validate.specs.declared.error.Stop.{Stop}
use Rattle.smith_validate.specs.declared.known.Scope.{Scope}
use Rattle.smith_validate.specs.declared.values.Values.{Values}

-- What is kept says where what these need is named.
abbrev pub CoversValues : List Facts → List (List Id) → Needs → List ComponentValType → Type 0
CoversValues types names needs vs = Covers names needs (flat_map (value_needs types) vs)

-- a type of values, and a type of functions, that were added there, among these types

abbrev pub defined_plain : Id → List Facts → DefValType → Facts
defined_plain id types t = record {
  id = id;
  nominal = is_nominal t;
  refers = flat_map (value_needs types) (members t);
  size = defined_size (sizes types) t;
  exports = [];
}

abbrev pub function_plain : Id → List Facts → Signature → Facts
function_plain id types s = record {
  id = id;
  nominal = false;
  refers = flat_map (value_needs types) (signature_members s);
  size = signature_size (sizes types) s;
  exports = [];
}

-- what is kept of what value types need, among types of which these are kept

abbrev pub value_marks : List KeptFacts → ComponentValType → Needs
value_marks kept (Primitive p) = no_needs
value_marks kept (Indexed i) = elim (slice_get kept i) [ None ↦ no_needs | Some k ↦ k.needs ]

abbrev pub marks_from : List KeptFacts → Needs → List ComponentValType → Needs
marks_from kept from vs = fold (λ needs v. both needs (value_marks kept v)) from vs

-- That is kept of a type of values or of functions.
pub record HasMarks (f : KeptFacts) (nominal : Bool) (marks : Needs) : Type 0 where
  pub refers_are : f.refers ≡ marks
  pub needs_are : f.needs ≡ (if nominal then unnamed_needs else marks)
  pub nominal_is : f.nominal ≡ nominal
  pub instance_is : f.instance ≡ None

-- What these value types need is kept, and what they are of has that size; or it is too large.
pub record AreValues (result : Result Values Stop) (scope : Scope) (vs : List ComponentValType) (Small : List ℕ → Type 0) (size_of : List ℕ → ℕ)
    : Type 0 where
  pub bound : IfErr result IsUnnamed
  pub judged : (own : FactScope) → kept_in scope ≡ kept_of own → Judges result (λ d. Keeps d.sizes (Small (sizes own.types)))
  pub size : (own : FactScope) → kept_in scope ≡ kept_of own → IfOk result (λ v. v.size ≡ capped (size_of (sizes own.types)))
  pub needs : (types : List Facts) (names : List (List Id)) (table : List Surface) → AreKept table names scope.types.items types
      → IfOk result (λ v. CoversValues types names v.needs vs)
  pub marks : IfOk result (λ v. v.needs ≡ marks_from scope.types.items no_needs vs)
