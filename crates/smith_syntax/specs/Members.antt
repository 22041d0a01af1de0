-- What types of values and of functions are made of.
use Rattle.std.specs.Prelude.{Bool, true, false, List, [], ◌∷◌, ◌++◌, map}
use Rattle.std.specs.List.{flat_map}
use Rattle.std.specs.Option.{option_to_list}
use Rattle.smith_syntax.specs.Entries.{Signature, DefValType, record_type, variant_type, list_type}
use Rattle.smith_syntax.specs.Entries.{tuple_type, flags_type, enum_type, option_type, result_type}
use Rattle.smith_syntax.specs.declared.types.ComponentValType.{ComponentValType}

-- the value types that a type of values is made of
abbrev pub members : DefValType → List ComponentValType
members (record_type fs) = map (λ f. f.1) fs
members (variant_type cs) = flat_map (λ c. option_to_list c.1) cs
members (list_type v) = v ∷ []
members (tuple_type vs) = vs
members (option_type v) = v ∷ []
members (result_type ok err) = option_to_list ok ++ option_to_list err
members _ = []

-- Does it have to be named (Explainer.md, type checking)?
abbrev pub is_nominal : DefValType → Bool
is_nominal (record_type fs) = true
is_nominal (variant_type cs) = true
is_nominal (flags_type ns) = true
is_nominal (enum_type ns) = true
is_nominal _ = false

-- the value types of a function type
abbrev pub signature_members : Signature → List ComponentValType
signature_members s = map (λ p. p.1) s.params ++ option_to_list s.result
