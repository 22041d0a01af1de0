-- Types as they are judged: they are well formed, and all that they name was offered.
use Rattle.std.proofs.Common.{List, [], ◌∷◌, map}
use Rattle.std.specs.List.{AllByRecursion, flat_map}
use Rattle.std.specs.Option.{option_to_list}
use Rattle.std.specs.Prelude.{Option, Some, None}
use Rattle.smith_input.proofs.Lists.{all_back, all_both, all_front}
use Rattle.smith_syntax.specs.Entries.{Case, DefValType, Entry, Field}
use Rattle.smith_syntax.specs.Marked.{Marked, scope_in, scopes_in_marked}
use Rattle.smith_syntax.specs.Members.{members}
use Rattle.smith_syntax.specs.Usable.{OfferedEntry, OfferedValue}
use Rattle.smith_syntax.specs.WellFormed.{FormedDefined, FormedEntry, FormedMaybe, FormedVal}
use Rattle.smith_syntax.specs.declared.types.ComponentValType.{ComponentValType}

abbrev pub IsValue : Marked → ComponentValType → Type 0
IsValue own v = FormedVal (scope_in own) v × OfferedValue own v

abbrev pub IsMaybe : Marked → Option ComponentValType → Type 0
IsMaybe own v = FormedMaybe (scope_in own) v × AllByRecursion (OfferedValue own) (option_to_list v)

abbrev pub IsDefined : Marked → DefValType → Type 0
IsDefined own t = FormedDefined t (scope_in own) × AllByRecursion (OfferedValue own) (members t)

abbrev pub IsType : Entry → Marked → List Marked → Type 0
IsType e own outer = FormedEntry e (scope_in own) (scopes_in_marked outer) × OfferedEntry e own outer

module _ (own : Marked) where
  -- value types, fields and cases: from both parts, and each part

  pub values_are : (vs : List ComponentValType) → AllByRecursion (FormedVal (scope_in own)) vs → AllByRecursion (OfferedValue own) vs
      → AllByRecursion (IsValue own) vs
  values_are [] f o = tt
  values_are (v ∷ vs) f o = ((f.0, o.0), values_are vs f.1 o.1)

  pub values_formed : (vs : List ComponentValType) → AllByRecursion (IsValue own) vs → AllByRecursion (FormedVal (scope_in own)) vs
  values_formed [] h = tt
  values_formed (v ∷ vs) h = (h.0.0, values_formed vs h.1)

  pub values_offered : (vs : List ComponentValType) → AllByRecursion (IsValue own) vs → AllByRecursion (OfferedValue own) vs
  values_offered [] h = tt
  values_offered (v ∷ vs) h = (h.0.1, values_offered vs h.1)

  pub fields_are : (fs : List Field) → AllByRecursion (λ f. FormedVal (scope_in own) f.1) fs → AllByRecursion (OfferedValue own) (map (λ f. f.1) fs)
      → AllByRecursion (λ f. IsValue own f.1) fs
  fields_are [] f o = tt
  fields_are (x ∷ xs) f o = ((f.0, o.0), fields_are xs f.1 o.1)

  pub fields_formed : (fs : List Field) → AllByRecursion (λ f. IsValue own f.1) fs → AllByRecursion (λ f. FormedVal (scope_in own) f.1) fs
  fields_formed [] h = tt
  fields_formed (x ∷ xs) h = (h.0.0, fields_formed xs h.1)

  pub fields_offered : (fs : List Field) → AllByRecursion (λ f. IsValue own f.1) fs → AllByRecursion (OfferedValue own) (map (λ f. f.1) fs)
  fields_offered [] h = tt
  fields_offered (x ∷ xs) h = (h.0.1, fields_offered xs h.1)

  pub cases_are : (cs : List Case) → AllByRecursion (λ c. FormedMaybe (scope_in own) c.1) cs
      → AllByRecursion (OfferedValue own) (flat_map (λ c. option_to_list c.1) cs) → AllByRecursion (λ c. IsMaybe own c.1) cs
  cases_are [] f o = tt
  cases_are (x ∷ xs) f o =
      let more : List ComponentValType = flat_map (λ c. option_to_list c.1) xs in
      ((f.0, all_front (OfferedValue own) (option_to_list x.1) more o), cases_are xs f.1 (all_back (OfferedValue own) (option_to_list x.1) more o))

  pub cases_formed : (cs : List Case) → AllByRecursion (λ c. IsMaybe own c.1) cs → AllByRecursion (λ c. FormedMaybe (scope_in own) c.1) cs
  cases_formed [] h = tt
  cases_formed (x ∷ xs) h = (h.0.0, cases_formed xs h.1)

  pub cases_offered : (cs : List Case) → AllByRecursion (λ c. IsMaybe own c.1) cs → AllByRecursion (OfferedValue own) (flat_map (λ c. option_to_list c.1) cs)
  cases_offered [] h = tt
  cases_offered (x ∷ xs) h =
      all_both (OfferedValue own) (option_to_list x.1) (flat_map (λ c. option_to_list c.1) xs) h.0.1 (cases_offered xs h.1)

  -- an optional value type as a list of one or none

  pub one_formed : (v : Option ComponentValType) → AllByRecursion (FormedVal (scope_in own)) (option_to_list v) → FormedMaybe (scope_in own) v
  one_formed None all = tt
  one_formed (Some v) all = all.0

  pub one_are : (v : Option ComponentValType) → IsMaybe own v → AllByRecursion (IsValue own) (option_to_list v)
  one_are None h = tt
  one_are (Some v) h = ((h.0, h.1.0), tt)
