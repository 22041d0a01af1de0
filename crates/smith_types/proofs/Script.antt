-- What the script of a type says is made of it.
use Rattle.std.proofs.Common.{◌≡◌, ℕ, ◌+◌, ◌-◌, ◌^◌, ◌<◌, ◌≤◌, Bool, true, false, List, [], ◌∷◌, ◌++◌, map, length, refl, sym, subst, arith, append_assoc}
use Rattle.std.proofs.Common.{nat_le, nat_eq, Decides, lit≤}
use Rattle.std.proofs.lemmas.Bool.Decides.{nat_tests, Decides-eqb}
use Rattle.std.proofs.lemmas.List.{map-id, nil_from_length}
use Rattle.std.specs.List.{AllByRecursion}
use Rattle.std.specs.Option.{option_to_list}
use Rattle.std.specs.Prelude.{Option, Some, None, slice_get, if◌then◌else◌}
use denote.Enum.Bare.{same_true, true_same}
use Rattle.smith_input.specs.Choices.{ReadsAmong}
use Rattle.smith_input.specs.Script.{script_among, pick}
use Rattle.smith_input.specs.Names.{ReadsNew}
use Rattle.smith_input.proofs.Choices.{among_read}
use Rattle.smith_input.proofs.Lists.{all_back, all_front, one_at_most}
use Rattle.smith_input.proofs.Picks.{reads-pick}
use Rattle.smith_input.proofs.Reading.{flips_one, flips_zero}
use Rattle.smith_format.specs.declared.config.Config.{Config}
use Rattle.smith_syntax.specs.Entries.{DefValType, primitive_type, record_type, variant_type, list_type, tuple_type, flags_type, enum_type, option_type}
use Rattle.smith_syntax.specs.Entries.{result_type, Field, Case, Signature, defined, function}
use Rattle.smith_tree.specs.TypeOffers.{primitives, defined_kinds, type_kinds}
use Rattle.smith_types.specs.Made.{ReadsVal, only_primitive, either_primitive, either_index, ReadsMaybe, absent, present, ReadsNamed, or_bool, MadeMembers}
use Rattle.smith_types.specs.Made.{MadeAs, MadeDefined, MadeFunction, Made, spent_type, made_defined, made_function}
use Rattle.smith_syntax.specs.Marked.{Marked}
use Rattle.smith_syntax.specs.Usable.{OfferedValue, is_value, value_places}
use Rattle.smith_tree.specs.TypeScript.{script_primitive, script_val, script_maybe, script_label, script_field, script_case, script_members, script_kind}
use Rattle.smith_tree.specs.TypeScript.{script_defined, script_signature, script_type_kind, script_type}
use Rattle.smith_tree.specs.TypeNeeds.{cost}
use Rattle.smith_tree.specs.ReadableTypes.{AreReadableNames, IsReadableDefined}
use Rattle.smith_types.specs.Sayable.{LastsDefined}
use Rattle.smith_syntax.specs.WellFormed.{Named, size, defined_size}
use Rattle.smith_tree.specs.contracts.choices.TypeKind.{the_type as type_kind_type}
use Rattle.smith_tree.specs.contracts.choices.TypeKindPartialEq.TheImpl.{ghosts as types}
use Rattle.smith_tree.specs.contracts.choices.DefinedKind.{the_type as defined_kind_type}
use Rattle.smith_tree.specs.contracts.choices.DefinedKindPartialEq.TheImpl.{ghosts as kinds}
use Rattle.smith_syntax.specs.contracts.types.PrimitiveValTypePartialEq.TheImpl.{ghosts as prims}
use Rattle.smith_tree.specs.declared.choices.TypeKind.{TypeKind}
use Rattle.smith_tree.specs.declared.choices.TypeKind.TheVariants.{Defined, Function}
use Rattle.smith_tree.specs.declared.choices.DefinedKind.{DefinedKind}
use Rattle.smith_tree.specs.declared.choices.DefinedKind.TheVariants as kind
use Rattle.smith_syntax.specs.declared.types.ComponentValType.{ComponentValType}
use Rattle.smith_syntax.specs.declared.types.ComponentValType.TheVariants.{Primitive, Indexed}
use Rattle.smith_syntax.specs.declared.types.PrimitiveValType.{PrimitiveValType}
use Rattle.smith_syntax.specs.declared.types.PrimitiveValType.TheVariants as prim
use Rattle.smith_types.proofs.Members.{Ready, members_read, IsReady, named_ready, named_read, label_read, all_unit}
use Rattle.smith_scope.proofs.Offered.{length-marked_places}
use Rattle.smith_types.proofs.Judged.{IsDefined, IsMaybe, IsType, IsValue, cases_are, fields_are, one_are, values_are}
use Rattle.smith_types.proofs.MarkedPlaces.{marked_found}
use Rattle.std.proofs.lemmas.Bool.{and_from}
use Rattle.smith_syntax.specs.SameSignature.{primitive_Decides}

-- choices

kind_Decides : (a b : DefinedKind) → Decides (kinds.eq a b) (a ≡ b)
kind_Decides a b = (same_true defined_kind_type tt a b, true_same defined_kind_type a b)

type_kind_Decides : (a b : TypeKind) → Decides (types.eq a b) (a ≡ b)
type_kind_Decides a b = (same_true type_kind_type tt a b, true_same type_kind_type a b)

primitive_place : (p : PrimitiveValType) → (k : ℕ) × (slice_get primitives k ≡ Some p)
primitive_place prim.Bool = (0, refl)
primitive_place prim.S8 = (1, refl)
primitive_place prim.U8 = (2, refl)
primitive_place prim.S16 = (3, refl)
primitive_place prim.U16 = (4, refl)
primitive_place prim.S32 = (5, refl)
primitive_place prim.U32 = (6, refl)
primitive_place prim.S64 = (7, refl)
primitive_place prim.U64 = (8, refl)
primitive_place prim.F32 = (9, refl)
primitive_place prim.F64 = (10, refl)
primitive_place prim.Char = (11, refl)
primitive_place prim.String = (12, refl)

primitive_read : (p : PrimitiveValType) (rest : List ℕ) → ReadsAmong primitives (script_primitive p ++ rest) p rest
primitive_read p rest = let at = primitive_place p in among_read prims.eq primitive_Decides primitives p at.0 rest (lit≤ tt) at.1

kind_place : (k : DefinedKind) → (n : ℕ) × (slice_get defined_kinds n ≡ Some k)
kind_place kind.Primitive = (0, refl)
kind_place kind.Record = (1, refl)
kind_place kind.Variant = (2, refl)
kind_place kind.List = (3, refl)
kind_place kind.Tuple = (4, refl)
kind_place kind.Flags = (5, refl)
kind_place kind.Enum = (6, refl)
kind_place kind.Option = (7, refl)
kind_place kind.Result = (8, refl)

-- the kind that a script says
kind_read : {config : Config} (own : Marked) (k : DefinedKind) (said rest : List ℕ) (fuel : ℕ) (t : DefValType) (left : ℕ)
    → MadeAs config own k (said ++ rest) fuel t rest left
    → MadeDefined config own ((script_kind k ++ said) ++ rest) fuel t rest left
kind_read {config} own k said rest fuel t left made =
    let P : List ℕ → Type 0 = λ b. MadeDefined config own b fuel t rest left in
    let at = kind_place k in
    subst P (sym (append_assoc (script_kind k) said rest)) (record {
      kind = k;
      mid = said ++ rest;
      choice = among_read kinds.eq kind_Decides defined_kinds k at.0 (said ++ rest) (lit≤ tt) at.1;
      made = made;
    })

pub type_kind_read : (k : TypeKind) (at : ℕ) (rest : List ℕ) → slice_get type_kinds at ≡ Some k → ReadsAmong type_kinds (script_type_kind k ++ rest) k rest
type_kind_read k at rest named = among_read types.eq type_kind_Decides type_kinds k at rest (lit≤ tt) named

-- value types

val_primitive : (own : Marked) (p : PrimitiveValType) (rest : List ℕ) (b : Bool) → nat_eq (length (value_places own)) 0 ≡ b
    → ReadsVal own ((if b then [] else pick 2 0) ++ (script_primitive p ++ rest)) (Primitive p) rest
val_primitive own p rest true e = only_primitive (nil_from_length (value_places own) (none (length (value_places own)) e)) (primitive_read p rest)
  where
    none : (n : ℕ) → nat_eq n 0 ≡ true → n ≡ 0
    none n h = grind (arith, nat_tests)
val_primitive own p rest false e = either_primitive (some (length (value_places own)) e)
    (reads-pick 2 0 (script_primitive p ++ rest) (omega arith) (omega arith)) (primitive_read p rest)
  where
    some : (n : ℕ) → nat_eq n 0 ≡ false → 0 < n
    some n h = grind (arith, nat_tests)

module _ (config : Config) (short : config.max_name_length < 2 ^ 64) (own : Marked) (few : length own.types ≤ 2 ^ 64) where
  val_read : (v : ComponentValType) (rest : List ℕ) → IsValue own v → ReadsVal own (script_val own v ++ rest) v rest
  val_read (Primitive p) rest f =
      let P : List ℕ → Type 0 = λ b. ReadsVal own b (Primitive p) rest in
      subst P (sym (append_assoc (if nat_eq (length (value_places own)) 0 then [] else pick 2 0) (script_primitive p) rest))
      (val_primitive own p rest (nat_eq (length (value_places own)) 0) refl)
  val_read (Indexed i) rest ((e, at, t), small) =
      let found = marked_found is_value own.types own.marks i e at (and_from _ _ t small) in
      let said : List ℕ = script_among nat_eq (value_places own) i in
      let P : List ℕ → Type 0 = λ b. ReadsVal own b (Indexed i) rest in
      subst P (sym (append_assoc (pick 2 1) said rest))
      (either_index (reads-pick 2 1 (said ++ rest) (omega arith) (omega arith))
      (among_read nat_eq Decides-eqb (value_places own) i found.0 rest (omega (arith, length-marked_places is_value 0 own.types own.marks)) found.1))

  maybe_read : (v : Option ComponentValType) (rest : List ℕ) → IsMaybe own v → ReadsMaybe own (script_maybe own v ++ rest) v rest
  maybe_read None rest f = absent (flips_zero rest)
  maybe_read (Some v) rest f = present (flips_one (script_val own v ++ rest)) (val_read v rest (f.0, f.1.0))

  field_read : (so_far : List Field) (x : Field) (rest : List ℕ) → IsReady config (λ y. y.0) (λ y. IsValue own y.1) so_far x
      → ReadsNamed config (ReadsVal own) so_far (script_field config own (length so_far) x ++ rest) x rest
  field_read so_far x rest r = named_read short (ReadsVal own) (script_val own) (IsValue own) val_read so_far x rest r

  case_read : (so_far : List Case) (x : Case) (rest : List ℕ) → IsReady config (λ y. y.0) (λ y. IsMaybe own y.1) so_far x
      → ReadsNamed config (ReadsMaybe own) so_far (script_case config own (length so_far) x ++ rest) x rest
  case_read so_far x rest r = named_read short (ReadsMaybe own) (script_maybe own) (IsMaybe own) maybe_read so_far x rest r

  vals_ready : (vs so_far : List ComponentValType) → AllByRecursion (IsValue own) vs → Ready (λ so_far. IsValue own) so_far vs
  vals_ready [] so_far all = tt
  vals_ready (v ∷ vs) so_far all = (all.0, vals_ready vs (so_far ++ v ∷ []) all.1)

  -- defined types

  some_members : {A : Type 0} (of : List A → DefValType) (xs : List A) → 1 ≤ length xs → of xs ≡ or_bool of xs
  some_members of [] h = absurd (omega arith)
  some_members of (x ∷ xs) h = refl

  -- a type of members, each of which its script says
  made_members : {A : Type 0} (Member : List A → List ℕ → A → List ℕ → Type 0) (f : ℕ → A → List ℕ) (P : List A → A → Type 0) (max : ℕ)
      (of : List A → DefValType)
      → ((so_far : List A) (x : A) (rest : List ℕ) → P so_far x → Member so_far (f (length so_far) x ++ rest) x rest)
      → (xs : List A) (fuel : ℕ) (rest : List ℕ) → Ready P [] xs → 1 ≤ length xs → length xs ≤ max → length xs + 1 ≤ fuel
      → (left : ℕ) × (left + length xs ≡ fuel) × MadeMembers config Member max of (script_members f 1 max xs ++ rest) fuel (of xs) rest left
  made_members Member f P max of one xs fuel rest ready some few lasts =
      let r = members_read config Member f P one xs fuel rest ready some few lasts in
      (r.0, r.1, (xs, r.2, some_members of xs some))

  labels_made : (max : ℕ) (of : List (List ℕ) → DefValType) (ns : List (List ℕ)) (fuel : ℕ) (rest : List ℕ) → Named ns → AreReadableNames config ns
      → 1 ≤ length ns
      → length ns ≤ max → length ns + 1 ≤ fuel → (left : ℕ) × (left + length ns ≡ fuel)
      × MadeMembers config (ReadsNew config.max_name_length) max of (script_members (script_label config) 1 max ns ++ rest) fuel (of ns) rest left
  labels_made max of ns fuel rest n r some most lasts =
      let same = sym (map-id ns) in
      made_members (ReadsNew config.max_name_length) (script_label config) (IsReady config (λ y. y) (λ y. Unit {0})) max of
      (label_read config short) ns fuel rest
      (named_ready config (λ y. y) (λ y. Unit {0}) ns (subst Named same n) (subst (AreReadableNames config) same r) (all_unit ns)) some most lasts

  defined_read : (fuel : ℕ) (t : DefValType) (rest : List ℕ) → IsDefined own t → IsReadableDefined config t → LastsDefined (fuel + 1) t
      → (left : ℕ) × (left + defined_size t ≡ fuel) × MadeDefined config own (script_defined config own t ++ rest) fuel t rest left
  defined_read fuel (primitive_type p) rest f n l = (fuel, omega arith, kind_read own kind.Primitive _ rest fuel _ fuel (p, primitive_read p rest, refl, refl))
  defined_read fuel (record_type fs) rest f n l =
      let r = made_members (ReadsNamed config (ReadsVal own)) (script_field config own)
      (IsReady config (λ y. y.0) (λ y. IsValue own y.1)) 100 record_type field_read fs fuel rest
      (named_ready config (λ y. y.0) (λ y. IsValue own y.1) fs f.0.0 n (fields_are own fs f.0.1 f.1)) f.0.2 f.0.3 (omega (arith, l)) in
      (r.0, r.1, kind_read own kind.Record _ rest fuel _ r.0 r.2)
  defined_read fuel (variant_type cs) rest f n l =
      let r = made_members (ReadsNamed config (ReadsMaybe own)) (script_case config own)
      (IsReady config (λ y. y.0) (λ y. IsMaybe own y.1)) 100 variant_type case_read cs fuel
      rest (named_ready config (λ y. y.0) (λ y. IsMaybe own y.1) cs f.0.0 n (cases_are own cs f.0.1 f.1)) f.0.2 f.0.3 (omega (arith, l)) in
      (r.0, r.1, kind_read own kind.Variant _ rest fuel _ r.0 r.2)
  defined_read fuel (list_type v) rest f n l = (fuel, omega arith, kind_read own kind.List _ rest fuel _ fuel (v, val_read v rest (f.0, f.1.0), refl, refl))
  defined_read fuel (tuple_type vs) rest f n l =
      let r = made_members (λ so_far. ReadsVal own) (λ count v. script_val own v) (λ so_far. IsValue own) 100 tuple_type
      (λ so_far v more h. val_read v more h) vs fuel
      rest (vals_ready vs [] (values_are own vs f.0.0 f.1)) f.0.1 f.0.2 (omega (arith, l)) in
      (r.0, r.1, kind_read own kind.Tuple _ rest fuel _ r.0 r.2)
  defined_read fuel (flags_type ns) rest f n l =
      let r = labels_made 32 flags_type ns fuel rest f.0.0 n f.0.1 f.0.2 (omega (arith, l)) in
      (r.0, r.1, kind_read own kind.Flags _ rest fuel _ r.0 r.2)
  defined_read fuel (enum_type ns) rest f n l =
      let r = labels_made 100 enum_type ns fuel rest f.0.0 n f.0.1 f.0.2 (omega (arith, l)) in
      (r.0, r.1, kind_read own kind.Enum _ rest fuel _ r.0 r.2)
  defined_read fuel (option_type v) rest f n l = (fuel, omega arith, kind_read own kind.Option _ rest fuel _ fuel (v, val_read v rest (f.0, f.1.0), refl, refl))
  defined_read fuel (result_type ok err) rest f n l =
      let here : IsMaybe own ok = (f.0.0, all_front (OfferedValue own) (option_to_list ok) (option_to_list err) f.1) in
      let there : IsMaybe own err = (f.0.1, all_back (OfferedValue own) (option_to_list ok) (option_to_list err) f.1) in
      let first : List ℕ = script_maybe own ok in
      let second : List ℕ = script_maybe own err in
      let P : List ℕ → Type 0 = λ b. MadeAs config own kind.Result b fuel (result_type ok err) rest fuel in
      let made : P (first ++ (second ++ rest)) = (ok, second ++ rest, maybe_read ok (second ++ rest) here, err, maybe_read err rest there, refl, refl) in
      (fuel, omega arith, kind_read own kind.Result (first ++ second) rest fuel _ fuel (subst P (sym (append_assoc first second rest)) made))

  -- functions

  function_read : (outer : List Marked) (fuel : ℕ) (s : Signature) (rest : List ℕ) → IsType (function s) own outer
      → AreReadableNames config (map (λ p. p.0) s.params) → size (function s) + 2 ≤ fuel + 1
      → (left : ℕ) × (left + size (function s) ≡ fuel) × MadeFunction config own (script_signature config own s ++ rest) fuel s rest left
  function_read outer fuel s rest f n l =
      let params = fields_are own s.params f.0.1 (all_front (OfferedValue own) (map (λ p. p.1) s.params) (option_to_list s.result) f.1) in
      let result = one_are own s.result (f.0.3, all_back (OfferedValue own) (map (λ p. p.1) s.params) (option_to_list s.result) f.1) in
      let said : List ℕ = script_members (script_field config own) 0 16 s.params in
      let gives : List ℕ = script_members (λ count v. script_val own v) 0 1 (option_to_list s.result) in
      let p = members_read config {min = 0} {max = 16} (ReadsNamed config (ReadsVal own)) (script_field config own)
      (IsReady config (λ y. y.0) (λ y. IsValue own y.1)) field_read s.params
      fuel (gives ++ rest) (named_ready config (λ y. y.0) (λ y. IsValue own y.1) s.params f.0.0 n params) (omega arith) f.0.2 (omega (arith, l)) in
      let g = members_read config {min = 0} {max = 1} (λ so_far. ReadsVal own) (λ count v. script_val own v) (λ so_far. IsValue own)
      (λ so_far v more h. val_read v more h)
      (option_to_list s.result) p.0 rest (vals_ready (option_to_list s.result) [] result) (omega arith) (one_at_most s.result)
      (omega (arith, p.1, l)) in
      let P : List ℕ → Type 0 = λ b. MadeFunction config own b fuel s rest g.0 in
      (g.0, omega (arith, p.1, g.1), subst P (sym (append_assoc said gives rest)) (record { mid = gives ++ rest; held = p.0; takes = p.2; gives = g.2 }))

  -- types

  -- a type of values with fuel for two turns, and with less
  pub values_read : (outer : List Marked) (fuel : ℕ) (t : DefValType) (rest : List ℕ) → IsDefined own t → IsReadableDefined config t
      → LastsDefined fuel t → (b : Bool)
      → nat_le 2 fuel ≡ b
      → Made config own outer ((if b then script_type_kind Defined else []) ++ (script_defined config own t ++ rest)) fuel (defined t) rest
      (fuel - cost (defined t))
  values_read outer fuel t rest f n l true h =
      let two : 2 ≤ fuel = grind (arith, nat_tests) in
      let same : fuel ≡ fuel - 1 + 1 = omega arith in
      let r = defined_read (fuel - 1) t rest f n (subst (λ k. LastsDefined k t) same l) in
      let left : r.0 ≡ fuel - cost (defined t) = omega (arith, r.1) in
      made_defined (omega arith) (type_kind_read Defined 0 (script_defined config own t ++ rest) refl)
      (subst (λ k. MadeDefined config own (script_defined config own t ++ rest) (fuel - 1) t rest k) left r.2) refl
  values_read outer fuel t rest f n l false h =
      let less : fuel < 2 = grind (arith, nat_tests) in
      let r = defined_read 0 t rest f n (lasts_less fuel t less l) in
      let left : r.0 ≡ fuel - cost (defined t) = omega (arith, r.1) in
      spent_type (omega arith) (subst (λ k. MadeDefined config own (script_defined config own t ++ rest) 0 t rest k) left r.2) refl
    where
      lasts_less : (fuel : ℕ) (t : DefValType) → fuel < 2 → LastsDefined fuel t → LastsDefined 1 t
      lasts_less fuel (record_type fs) less l = absurd (omega arith)
      lasts_less fuel (variant_type cs) less l = absurd (omega arith)
      lasts_less fuel (tuple_type vs) less l = absurd (omega arith)
      lasts_less fuel (flags_type ns) less l = absurd (omega arith)
      lasts_less fuel (enum_type ns) less l = absurd (omega arith)
      lasts_less fuel t less l = tt

  -- What the script of a type of values or of functions says is made of it, and the rest is left.
  pub type_values : (outer : List Marked) (fuel : ℕ) (t : DefValType) (rest : List ℕ) → IsDefined own t → IsReadableDefined config t
      → LastsDefined fuel t
      → Made config own outer (script_type (defined t) config fuel own outer ++ rest) fuel (defined t) rest (fuel - cost (defined t))
  type_values outer fuel t rest f n l =
      let P : List ℕ → Type 0 = λ b. Made config own outer b fuel (defined t) rest (fuel - cost (defined t)) in
      subst P (sym (append_assoc (if nat_le 2 fuel then script_type_kind Defined else []) (script_defined config own t) rest))
      (values_read outer fuel t rest f n l (nat_le 2 fuel) refl)

  pub type_function : (outer : List Marked) (fuel : ℕ) (s : Signature) (rest : List ℕ) → IsType (function s) own outer
      → AreReadableNames config (map (λ p. p.0) s.params) → size (function s) + 2 ≤ fuel
      → Made config own outer (script_type (function s) config fuel own outer ++ rest) fuel (function s) rest (fuel - cost (function s))
  type_function outer fuel s rest f names lasts =
      let m = function_read outer (fuel - 1) s rest f names (omega (arith, lasts)) in
      let left : m.0 ≡ fuel - cost (function s) = omega (arith, m.1) in
      let made : MadeFunction config own (script_signature config own s ++ rest) (fuel - 1) s rest (fuel - cost (function s)) =
      subst (λ n. MadeFunction config own (script_signature config own s ++ rest) (fuel - 1) s rest n) left m.2 in
      let P : List ℕ → Type 0 = λ b. Made config own outer b fuel (function s) rest (fuel - cost (function s)) in
      subst P (sym (append_assoc (script_type_kind Function) (script_signature config own s) rest))
      (made_function (omega (arith, lasts)) (type_kind_read Function 1 (script_signature config own s ++ rest) refl) made refl)
