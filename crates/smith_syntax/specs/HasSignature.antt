-- Which types are function types of a signature.
use Rattle.std.specs.Prelude.{Bool, false}
use Rattle.smith_syntax.specs.Entries.{EntryOf, Signature, function}
use Rattle.smith_syntax.specs.SameSignature.{same_signature}
use Rattle.smith_syntax.specs.Shown.{full_type}
use Rattle.smith_syntax.specs.declared.deftype.DefType.{DefType}

-- Is it a function type with that signature?
abbrev pub is_of_signature : {N K : Type 0} → Signature → EntryOf N K → Bool
is_of_signature s (function f) = same_signature s f
is_of_signature s _ = false

abbrev pub has_signature : Signature → DefType → Bool
has_signature s t = is_of_signature s (full_type t)
