-- What one change makes of types of values and of functions, and of core types.
use Rattle.std.proofs.Common.{◌≡◌, ℕ, ◌+◌, ◌-◌, arith, length, Bool, Option, Some, None, ap, sym, refl, ◌∙◌, ⊎_elim}
use Rattle.std.proofs.Common.{List, [], ◌∷◌, ◌++◌, map}
use Rattle.std.proofs.lemmas.List.{map-append}
use Rattle.std.specs.Prelude.{if◌then◌else◌, ◌==◌}
use Rattle.std.specs.Option.{option_map}
use Rattle.smith_format.specs.CoreTypes.{Function}
use Rattle.smith_format.specs.declared.types.RefType.{RefType}
use Rattle.smith_format.specs.declared.types.ValType.{ValType}
use Rattle.smith_format.specs.declared.types.ValType.TheVariants.{I32}
use Rattle.smith_syntax.specs.Entries.{Case, DefValType, Field, Signature}
use Rattle.smith_syntax.specs.Entries.{primitive_type, record_type, variant_type, list_type, tuple_type, flags_type, enum_type, option_type, result_type}
use Rattle.smith_syntax.specs.Grammar.{primvaltype}
use Rattle.smith_syntax.specs.declared.types.ComponentValType.{ComponentValType}
use Rattle.smith_syntax.specs.declared.types.PrimitiveValType.{PrimitiveValType}
use Rattle.smith_syntax.specs.declared.types.PrimitiveValType.TheVariants as prim
use Rattle.smith_change.specs.Alternatives.{name_alternative, only}
use Rattle.smith_change.specs.Alternatives.{value_alternative}
use Rattle.smith_change.specs.CoreTypes.{core_value_changed, core_value_places, core_values_changed, core_values_places}
use Rattle.smith_change.specs.CoreTypes.{function_changed, results_changed}
use Rattle.smith_change.specs.Differs.{IsEdit, emptied, extended}
use Rattle.smith_change.specs.Members.{case_again, case_changed, case_places, cases_changed, defined_changed, field_again, field_changed, field_places}
use Rattle.smith_change.specs.Members.{fields_changed, fields_places, label_again, label_changed, label_places, labels_changed, members_changed, most_flags}
use Rattle.smith_change.specs.Members.{most_members, most_params, new_case, new_field, new_value, optional_changed, optional_places, signature_changed}
use Rattle.smith_change.specs.Members.{value_changed, value_places, values_changed}
use Rattle.smith_change.specs.Rows.{filled, members_alternative, new_members, new_name, row_changed, unnamed}
use Rattle.smith_change.specs.Tokens.{Token, code, core_value, index, mutable, name, optional, table_of, value}
use Rattle.smith_change.specs.Tokens.{case_tokens, core_value_tokens, defined_tokens, field_tokens, function_tokens, label_tokens}
use Rattle.smith_change.specs.Tokens.{list_tokens, signature_tokens, value_tokens}
use Rattle.smith_change.proofs.Differing.{Differ, ahead, as_list, behind, by_first, by_turn, if_cases, list_differs, map_cases, one_token, only_is, row_differs}
use Rattle.smith_change.proofs.Differing.{so}

-- tokens that are the same hold the same

pub code_same : (x y : ℕ) → code x ≡ code y → x ≡ y
code_same x y e = cc

pub index_same : (x y : ℕ) → index x ≡ index y → x ≡ y
index_same x y e = cc

pub name_same : (x y : List ℕ) → name x ≡ name y → x ≡ y
name_same x y e = cc

value_same : (x y : ComponentValType) → value x ≡ value y → x ≡ y
value_same x y e = cc

optional_same : (x y : Option ComponentValType) → optional x ≡ optional y → x ≡ y
optional_same x y e = cc

pub core_value_same : (x y : ValType) → core_value x ≡ core_value y → x ≡ y
core_value_same x y e = cc

pub table_same : (x y : RefType) → table_of x ≡ table_of y → x ≡ y
table_same x y e = cc

pub mutable_same : (x y : Bool) → mutable x ≡ mutable y → x ≡ y
mutable_same x y e = cc

-- members

label_differs : (a k : ℕ) (x y : List ℕ) → label_changed a k x ≡ Some y → Differ (label_tokens x) (label_tokens y) (x ≡ y)
label_differs a k x y e = one_token [] [] (name x) (name y) (name_same x y)

value_differs : (a k : ℕ) (x y : ComponentValType) → value_changed a k x ≡ Some y → Differ (value_tokens x) (value_tokens y) (x ≡ y)
value_differs a k x y e = one_token [] [] (value x) (value y) (value_same x y)

field_differs : (a k : ℕ) (x y : Field) → field_changed a k x ≡ Some y → Differ (field_tokens x) (field_tokens y) (x ≡ y)
field_differs a k f y e =
    by_first (option_map (λ n. (n, f.1)) (name_alternative a f.0)) (λ j. option_map (λ v. (f.0, v)) (value_alternative a f.1)) k y e
    (λ own. let m = map_cases (λ n. (n, f.1)) (name_alternative a f.0) y own in
    rw (sym m.2) (one_token [] (value f.1 ∷ []) (name f.0) (name m.0) (λ s. ap (λ n. (n, f.1)) (name_same f.0 m.0 s))))
    (λ j h. let m = map_cases (λ v. (f.0, v)) (value_alternative a f.1) y h in
    rw (sym m.2) (one_token (name f.0 ∷ []) [] (value f.1) (value m.0) (λ s. ap (λ v. (f.0, v)) (value_same f.1 m.0 s))))

case_differs : (a k : ℕ) (x y : Case) → case_changed a k x ≡ Some y → Differ (case_tokens x) (case_tokens y) (x ≡ y)
case_differs a k c y e =
    by_first (option_map (λ n. (n, c.1)) (name_alternative a c.0)) (λ j. option_map (λ v. (c.0, v)) (optional_changed a j c.1)) k y e
    (λ own. let m = map_cases (λ n. (n, c.1)) (name_alternative a c.0) y own in
    rw (sym m.2) (one_token [] (optional c.1 ∷ []) (name c.0) (name m.0) (λ s. ap (λ n. (n, c.1)) (name_same c.0 m.0 s))))
    (λ j h. let m = map_cases (λ v. (c.0, v)) (optional_changed a j c.1) y h in
    rw (sym m.2) (one_token (name c.0 ∷ []) [] (optional c.1) (optional m.0) (λ s. ap (λ v. (c.0, v)) (optional_same c.1 m.0 s))))

module _ {A : Type 0} (tokens : A → List Token) (size : A → ℕ) (changed : ℕ → ℕ → A → Option A) (again : A → Option A) (new : ℕ → A) (a : ℕ)
    (each : (k : ℕ) (x y : A) → changed a k x ≡ Some y → Differ (tokens x) (tokens y) (x ≡ y)) where
  members_edited : (bound : ℕ) (xs ys : List A) → members_alternative bound new a xs ≡ Some ys → IsEdit (map tokens xs) (map tokens ys)
  members_edited bound xs ys e =
      ⊎_elim (λ none. let is : [] ≡ ys = cc in rw (sym is) (emptied (map tokens xs)))
      (λ e1. ⊎_elim (λ full. more bound full)
      (λ e2. ⊎_elim (λ full. more (bound + 1) full)
      (λ none. absurd cc)
      (if_cases (a == 2) (Some (filled new (bound + 1) xs)) None ys e2))
      (if_cases (a == 1) (Some (filled new bound xs)) _ ys e1))
      (if_cases (a == 0) (Some []) _ ys e)
    where
      more : (n : ℕ) → Some (filled new n xs) ≡ Some ys → IsEdit (map tokens xs) (map tokens ys)
      more n e = let is : filled new n xs ≡ ys = cc in
          rw (sym is, map-append tokens xs (new_members new 0 (n - length xs))) (extended (map tokens xs) (map tokens (new_members new 0 (n - length xs))))

  pub members_differ : (bound k : ℕ) (xs ys : List A) → members_changed size changed again new bound a k xs ≡ Some ys
      → Differ (list_tokens tokens xs) (list_tokens tokens ys) (xs ≡ ys)
  members_differ bound k xs ys e =
      by_first (members_alternative bound new a xs) (λ j. row_changed size changed again a j xs) k ys e
      (λ own. as_list tokens xs ys (members_edited bound xs ys own))
      (λ j h. list_differs tokens xs ys (row_differs tokens size changed again a each j xs ys h))

fields_differ : (bound a k : ℕ) (xs ys : List Field) → fields_changed bound a k xs ≡ Some ys
    → Differ (list_tokens field_tokens xs) (list_tokens field_tokens ys) (xs ≡ ys)
fields_differ bound a = members_differ field_tokens field_places field_changed field_again new_field a (field_differs a) bound

labels_differ : (bound a k : ℕ) (xs ys : List (List ℕ)) → labels_changed bound a k xs ≡ Some ys
    → Differ (list_tokens label_tokens xs) (list_tokens label_tokens ys) (xs ≡ ys)
labels_differ bound a = members_differ label_tokens label_places label_changed label_again new_name a (label_differs a) bound

-- types of values

of_code : ℕ → PrimitiveValType
of_code n =
    if n == 0x7f then prim.Bool else if n == 0x7e then prim.S8 else if n == 0x7d then prim.U8 else if n == 0x7c then prim.S16
    else if n == 0x7b then prim.U16 else if n == 0x7a then prim.S32 else if n == 0x79 then prim.U32 else if n == 0x78 then prim.S64
    else if n == 0x77 then prim.U64 else if n == 0x76 then prim.F32 else if n == 0x75 then prim.F64 else if n == 0x74 then prim.Char
    else prim.String

of_its_code : (p : PrimitiveValType) → of_code (primvaltype p) ≡ p
unfolding of_code
of_its_code prim.Bool = refl
of_its_code prim.S8 = refl
of_its_code prim.U8 = refl
of_its_code prim.S16 = refl
of_its_code prim.U16 = refl
of_its_code prim.S32 = refl
of_its_code prim.U32 = refl
of_its_code prim.S64 = refl
of_its_code prim.U64 = refl
of_its_code prim.F32 = refl
of_its_code prim.F64 = refl
of_its_code prim.Char = refl
of_its_code prim.String = refl

primitives_differ : (p q : PrimitiveValType)
    → Differ (defined_tokens (primitive_type p)) (defined_tokens (primitive_type q)) (primitive_type p ≡ primitive_type q)
primitives_differ p q =
    one_token [] [] (code (primvaltype p)) (code (primvaltype q))
    (λ s. ap primitive_type (sym (of_its_code p) ∙ ap of_code (code_same (primvaltype p) (primvaltype q) s) ∙ of_its_code q))

pub defined_differs : (a k : ℕ) (t y : DefValType) → defined_changed a k t ≡ Some y → Differ (defined_tokens t) (defined_tokens y) (t ≡ y)
defined_differs a k (primitive_type p) y e =
    ⊎_elim (λ e1. let is : primitive_type prim.String ≡ y = cc in rw (sym is) (primitives_differ p prim.String))
    (λ e2. let is : primitive_type prim.U32 ≡ y = only_is (a == 1) (primitive_type prim.U32) y e2 in rw (sym is) (primitives_differ p prim.U32))
    (if_cases (a == 0) (Some (primitive_type prim.String)) (if a == 1 then Some (primitive_type prim.U32) else None) y e)
defined_differs a k (record_type fs) y e =
    let m = map_cases record_type (fields_changed most_members a k fs) y e in
    rw (sym m.2) (behind (code 0x72 ∷ []) (so (λ s. ap record_type s) (fields_differ most_members a k fs m.0 m.1)))
defined_differs a k (variant_type cs) y e =
    let m = map_cases variant_type (cases_changed most_members a k cs) y e in
    rw (sym m.2)
    (behind (code 0x71 ∷ []) (so (λ s. ap variant_type s)
    (members_differ case_tokens case_places case_changed case_again new_case a (case_differs a) most_members k cs m.0 m.1)))
defined_differs a k (tuple_type vs) y e =
    let m = map_cases tuple_type (values_changed most_members a k vs) y e in
    rw (sym m.2)
    (behind (code 0x6f ∷ []) (so (λ s. ap tuple_type s)
    (members_differ value_tokens value_places value_changed unnamed new_value a (value_differs a) most_members k vs m.0 m.1)))
defined_differs a k (list_type v) y e =
    by_first (only a (option_type v)) (λ j. option_map list_type (value_alternative a v)) k y e
    (λ own. let is : option_type v ≡ y = only_is (a == 0) (option_type v) y own in
    rw (sym is) (one_token [] (value v ∷ []) (code 0x70) (code 0x6b) (λ s. absurd (omega (arith, code_same 0x70 0x6b s)))))
    (λ j h. let m = map_cases list_type (value_alternative a v) y h in
    rw (sym m.2) (one_token (code 0x70 ∷ []) [] (value v) (value m.0) (λ s. ap list_type (value_same v m.0 s))))
defined_differs a k (option_type v) y e =
    by_first (only a (list_type v)) (λ j. option_map option_type (value_alternative a v)) k y e
    (λ own. let is : list_type v ≡ y = only_is (a == 0) (list_type v) y own in
    rw (sym is) (one_token [] (value v ∷ []) (code 0x6b) (code 0x70) (λ s. absurd (omega (arith, code_same 0x6b 0x70 s)))))
    (λ j h. let m = map_cases option_type (value_alternative a v) y h in
    rw (sym m.2) (one_token (code 0x6b ∷ []) [] (value v) (value m.0) (λ s. ap option_type (value_same v m.0 s))))
defined_differs a k (flags_type ns) y e =
    by_first (only a (enum_type ns)) (λ j. option_map flags_type (labels_changed most_flags a j ns)) k y e
    (λ own. let is : enum_type ns ≡ y = only_is (a == 0) (enum_type ns) y own in
    rw (sym is) (one_token [] (list_tokens label_tokens ns) (code 0x6e) (code 0x6d) (λ s. absurd (omega (arith, code_same 0x6e 0x6d s)))))
    (λ j h. let m = map_cases flags_type (labels_changed most_flags a j ns) y h in
    rw (sym m.2) (behind (code 0x6e ∷ []) (so (λ s. ap flags_type s) (labels_differ most_flags a j ns m.0 m.1))))
defined_differs a k (enum_type ns) y e =
    by_first (only a (flags_type ns)) (λ j. option_map enum_type (labels_changed most_members a j ns)) k y e
    (λ own. let is : flags_type ns ≡ y = only_is (a == 0) (flags_type ns) y own in
    rw (sym is) (one_token [] (list_tokens label_tokens ns) (code 0x6d) (code 0x6e) (λ s. absurd (omega (arith, code_same 0x6d 0x6e s)))))
    (λ j h. let m = map_cases enum_type (labels_changed most_members a j ns) y h in
    rw (sym m.2) (behind (code 0x6d ∷ []) (so (λ s. ap enum_type s) (labels_differ most_members a j ns m.0 m.1))))
defined_differs a k (result_type ok err) y e =
    by_turn (optional_places ok) (λ j. option_map (λ v. result_type v err) (optional_changed a j ok))
    (λ j. option_map (λ v. result_type ok v) (optional_changed a j err)) k y e
    (λ j h. let m = map_cases (λ v. result_type v err) (optional_changed a j ok) y h in
    rw (sym m.2) (one_token (code 0x6a ∷ []) (optional err ∷ []) (optional ok) (optional m.0) (λ s. ap (λ v. result_type v err) (optional_same ok m.0 s))))
    (λ j h. let m = map_cases (λ v. result_type ok v) (optional_changed a j err) y h in
    rw (sym m.2) (one_token (code 0x6a ∷ optional ok ∷ []) [] (optional err) (optional m.0) (λ s. ap (λ v. result_type ok v) (optional_same err m.0 s))))

pub signature_differs : (a k : ℕ) (g y : Signature) → signature_changed a k g ≡ Some y → Differ (signature_tokens g) (signature_tokens y) (g ≡ y)
signature_differs a k g y e =
    by_turn (fields_places g.params) (λ j. option_map (λ ps. record g { params = ps }) (fields_changed most_params a j g.params))
    (λ j. option_map (λ v. record g { result = v }) (optional_changed a j g.result)) k y e
    (λ j h. let m = map_cases (λ ps. record g { params = ps }) (fields_changed most_params a j g.params) y h in
    rw (sym m.2)
    (behind (code 0x40 ∷ []) (ahead (optional g.result ∷ [])
    (so (λ s. ap (λ ps. record g { params = ps }) s) (fields_differ most_params a j g.params m.0 m.1)))))
    (λ j h. let m = map_cases (λ v. record g { result = v }) (optional_changed a j g.result) y h in
    rw (sym m.2)
    (one_token (code 0x40 ∷ list_tokens field_tokens g.params) [] (optional g.result) (optional m.0)
    (λ s. ap (λ v. record g { result = v }) (optional_same g.result m.0 s))))

-- core types

core_value_differs : (a k : ℕ) (x y : ValType) → core_value_changed a k x ≡ Some y → Differ (core_value_tokens x) (core_value_tokens y) (x ≡ y)
core_value_differs a k x y e = one_token [] [] (core_value x) (core_value y) (core_value_same x y)

core_values_differ : (a k : ℕ) (xs ys : List ValType) → core_values_changed a k xs ≡ Some ys
    → Differ (list_tokens core_value_tokens xs) (list_tokens core_value_tokens ys) (xs ≡ ys)
core_values_differ a k xs ys e =
    list_differs core_value_tokens xs ys
    (row_differs core_value_tokens core_value_places core_value_changed unnamed a (core_value_differs a) k xs ys e)

results_differ : (a k : ℕ) (xs ys : List ValType) → results_changed a k xs ≡ Some ys
    → Differ (list_tokens core_value_tokens xs) (list_tokens core_value_tokens ys) (xs ≡ ys)
results_differ a k xs ys e =
    by_first (only a (xs ++ I32 ∷ [])) (λ j. core_values_changed a j xs) k ys e
    (λ own. let is : xs ++ I32 ∷ [] ≡ ys = only_is (a == 0) (xs ++ I32 ∷ []) ys own in
    as_list core_value_tokens xs ys
    (rw (sym is, map-append core_value_tokens xs (I32 ∷ [])) (extended (map core_value_tokens xs) (map core_value_tokens (I32 ∷ [])))))
    (λ j h. core_values_differ a j xs ys h)

pub function_differs : (a k : ℕ) (f y : Function) → function_changed a k f ≡ Some y → Differ (function_tokens f) (function_tokens y) (f ≡ y)
function_differs a k f y e =
    by_turn (core_values_places f.0) (λ j. option_map (λ vs. (vs, f.1)) (core_values_changed a j f.0))
    (λ j. option_map (λ vs. (f.0, vs)) (results_changed a j f.1)) k y e
    (λ j h. let m = map_cases (λ vs. (vs, f.1)) (core_values_changed a j f.0) y h in
    rw (sym m.2)
    (behind (code 0x60 ∷ []) (ahead (list_tokens core_value_tokens f.1) (so (λ s. ap (λ vs. (vs, f.1)) s) (core_values_differ a j f.0 m.0 m.1)))))
    (λ j h. let m = map_cases (λ vs. (f.0, vs)) (results_changed a j f.1) y h in
    rw (sym m.2)
    (behind (code 0x60 ∷ list_tokens core_value_tokens f.0) (so (λ s. ap (λ vs. (f.0, vs)) s) (results_differ a j f.1 m.0 m.1))))
