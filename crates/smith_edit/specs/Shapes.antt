-- Types of values by the shape of their members (Explainer.md, defvaltype): what is said of a shape holds of each type that has it.
use Rattle.std.specs.Prelude.{ℕ, List, Option}
use Rattle.smith_syntax.specs.Entries.{Case, DefValType, Field}
use Rattle.smith_syntax.specs.Entries.{primitive_type, record_type, variant_type, list_type, tuple_type, flags_type, enum_type, option_type, result_type}
use Rattle.smith_syntax.specs.declared.types.ComponentValType.{ComponentValType}

-- A type without members; or how a type is made of its members, and these: a value, fields, cases, values, labels, or two values that need not
-- be there.
pub data Shape : Type 0 where
  alone : DefValType → Shape
  single : (ComponentValType → DefValType) → ComponentValType → Shape
  fields : (List Field → DefValType) → List Field → Shape
  cases : (List Case → DefValType) → List Case → Shape
  values : (List ComponentValType → DefValType) → List ComponentValType → Shape
  labels : (List (List ℕ) → DefValType) → List (List ℕ) → Shape
  pair : (Option ComponentValType → Option ComponentValType → DefValType) → Option ComponentValType → Option ComponentValType → Shape

abbrev pub shape : DefValType → Shape
shape (primitive_type p) = alone (primitive_type p)
shape (record_type fs) = fields record_type fs
shape (variant_type cs) = cases variant_type cs
shape (list_type v) = single list_type v
shape (tuple_type vs) = values tuple_type vs
shape (flags_type ns) = labels flags_type ns
shape (enum_type ns) = labels enum_type ns
shape (option_type v) = single option_type v
shape (result_type ok err) = pair result_type ok err
