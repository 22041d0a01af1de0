-- Types of values and of functions, one place of which is changed (Binary.md, defvaltype, functype).
use Rattle.std.specs.Prelude.{ℕ, ◌+◌, List, Option, Some, None}
use Rattle.std.specs.Option.{option_map}
use Rattle.smith_syntax.specs.Entries.{Case, DefValType, Field, Signature}
use Rattle.smith_syntax.specs.Entries.{primitive_type, record_type, variant_type, list_type, tuple_type, flags_type, enum_type, option_type, result_type}
use Rattle.smith_syntax.specs.declared.types.ComponentValType.{ComponentValType}
use Rattle.smith_syntax.specs.declared.types.ComponentValType.TheVariants.{Primitive}
use Rattle.smith_syntax.specs.declared.types.PrimitiveValType.TheVariants as prim
use Rattle.smith_change.specs.Alternatives.{name_alternative, only, presence_alternative, primitive_alternative, value_alternative}
use Rattle.smith_change.specs.Rows.{again_name, first_or, in_turn, members_alternative, new_name, row_changed, row_places, unnamed}

-- a value type that may be missing: whether it is there, and then the value type

abbrev pub optional_places : Option ComponentValType → ℕ
optional_places None = 1
optional_places (Some v) = 2

abbrev pub present_changed : ℕ → Option ComponentValType → Option (Option ComponentValType)
present_changed a None = None
present_changed a (Some v) = option_map Some (value_alternative a v)

abbrev pub optional_changed : ℕ → ℕ → Option ComponentValType → Option (Option ComponentValType)
optional_changed a k v = first_or (presence_alternative a v) (λ j. present_changed a v) k

-- what is the same when it is changed to u32
abbrev pub u32 : ComponentValType
u32 = Primitive prim.U32

-- a field of a record, or a parameter: its name, and its type

abbrev pub field_places : Field → ℕ
field_places f = 2

abbrev pub field_changed : ℕ → ℕ → Field → Option Field
field_changed a k f =
    first_or (option_map (λ n. (n, f.1)) (name_alternative a f.0)) (λ j. option_map (λ v. (f.0, v)) (value_alternative a f.1)) k

abbrev pub field_again : Field → Option Field
field_again f = Some (again_name, f.1)

abbrev pub new_field : ℕ → Field
new_field n = (new_name n, u32)

-- a case of a variant: its name, and its type or none

abbrev pub case_places : Case → ℕ
case_places c = 1 + optional_places c.1

abbrev pub case_changed : ℕ → ℕ → Case → Option Case
case_changed a k c =
    first_or (option_map (λ n. (n, c.1)) (name_alternative a c.0)) (λ j. option_map (λ v. (c.0, v)) (optional_changed a j c.1)) k

abbrev pub case_again : Case → Option Case
case_again c = Some (again_name, c.1)

abbrev pub new_case : ℕ → Case
new_case n = (new_name n, Some u32)

-- a flag, or a label of an enum

abbrev pub label_places : List ℕ → ℕ
label_places n = 1

abbrev pub label_changed : ℕ → ℕ → List ℕ → Option (List ℕ)
label_changed a k n = name_alternative a n

abbrev pub label_again : List ℕ → Option (List ℕ)
label_again n = Some again_name

-- a type of a tuple

abbrev pub value_places : ComponentValType → ℕ
value_places v = 1

abbrev pub value_changed : ℕ → ℕ → ComponentValType → Option ComponentValType
value_changed a k v = value_alternative a v

abbrev pub new_value : ℕ → ComponentValType
new_value n = u32

-- Members: a place for all of them, and then each.

abbrev pub members_places : {A : Type 0} → (A → ℕ) → List A → ℕ
members_places size xs = 1 + row_places size xs

module _ {A : Type 0} (size : A → ℕ) (changed : ℕ → ℕ → A → Option A) (again : A → Option A) (new : ℕ → A) where
  abbrev pub members_changed : ℕ → ℕ → ℕ → List A → Option (List A)
  members_changed bound a k xs = first_or (members_alternative bound new a xs) (λ j. row_changed size changed again a j xs) k

abbrev pub fields_places : List Field → ℕ
fields_places = members_places field_places

abbrev pub fields_changed : ℕ → ℕ → ℕ → List Field → Option (List Field)
fields_changed = members_changed field_places field_changed field_again new_field

abbrev pub cases_places : List Case → ℕ
cases_places = members_places case_places

abbrev pub cases_changed : ℕ → ℕ → ℕ → List Case → Option (List Case)
cases_changed = members_changed case_places case_changed case_again new_case

abbrev pub labels_places : List (List ℕ) → ℕ
labels_places = members_places label_places

abbrev pub labels_changed : ℕ → ℕ → ℕ → List (List ℕ) → Option (List (List ℕ))
labels_changed = members_changed label_places label_changed label_again new_name

abbrev pub values_places : List ComponentValType → ℕ
values_places = members_places value_places

abbrev pub values_changed : ℕ → ℕ → ℕ → List ComponentValType → Option (List ComponentValType)
values_changed = members_changed value_places value_changed unnamed new_value

-- types of values: the code if there is another with the same contents, and then the contents

-- how many fields, cases, types and labels there may be, how many flags, and how many parameters

abbrev pub most_members : ℕ
most_members = 100

abbrev pub most_flags : ℕ
most_flags = 32

abbrev pub most_params : ℕ
most_params = 16

abbrev pub defined_places : DefValType → ℕ
defined_places (primitive_type p) = 1
defined_places (record_type fs) = fields_places fs
defined_places (variant_type cs) = cases_places cs
defined_places (list_type v) = 2
defined_places (tuple_type vs) = values_places vs
defined_places (flags_type ns) = 1 + labels_places ns
defined_places (enum_type ns) = 1 + labels_places ns
defined_places (option_type v) = 2
defined_places (result_type ok err) = optional_places ok + optional_places err

abbrev pub defined_changed : ℕ → ℕ → DefValType → Option DefValType
defined_changed a k (primitive_type p) = primitive_alternative a
defined_changed a k (record_type fs) = option_map record_type (fields_changed most_members a k fs)
defined_changed a k (variant_type cs) = option_map variant_type (cases_changed most_members a k cs)
defined_changed a k (list_type v) = first_or (only a (option_type v)) (λ j. option_map list_type (value_alternative a v)) k
defined_changed a k (tuple_type vs) = option_map tuple_type (values_changed most_members a k vs)
defined_changed a k (flags_type ns) = first_or (only a (enum_type ns)) (λ j. option_map flags_type (labels_changed most_flags a j ns)) k
defined_changed a k (enum_type ns) = first_or (only a (flags_type ns)) (λ j. option_map enum_type (labels_changed most_members a j ns)) k
defined_changed a k (option_type v) = first_or (only a (list_type v)) (λ j. option_map option_type (value_alternative a v)) k
defined_changed a k (result_type ok err) =
    in_turn (optional_places ok) (λ j. option_map (λ v. result_type v err) (optional_changed a j ok))
    (λ j. option_map (λ v. result_type ok v) (optional_changed a j err)) k

-- types of functions: the parameters, and the result

abbrev pub signature_places : Signature → ℕ
signature_places g = fields_places g.params + optional_places g.result

abbrev pub signature_changed : ℕ → ℕ → Signature → Option Signature
signature_changed a k g =
    in_turn (fields_places g.params) (λ j. option_map (λ ps. record g { params = ps }) (fields_changed most_params a j g.params))
    (λ j. option_map (λ v. record g { result = v }) (optional_changed a j g.result)) k
