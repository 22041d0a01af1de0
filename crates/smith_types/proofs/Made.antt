-- Defined types and function types that are made: they leave a tail of the bytes, are well formed and of what was offered, their names can
-- be read, they are no larger than their fuel, and determined.
use Rattle.smith_format.specs.declared.config.Config.{Config}
use Rattle.std.proofs.Common.{◌≡◌, ℕ, zero, suc, ◌+◌, ◌<◌, ◌≤◌, true, false, List, [], ◌∷◌, map, length, refl, sym, ap, ◌∙◌, subst, arith}
use Rattle.std.proofs.lemmas.Bool.{and_parts}
use Rattle.std.specs.Option.{option_to_list}
use Rattle.std.specs.Prelude.{Option, Some, None}
use Rattle.smith_input.specs.Choices.{ReadsAmong}
use Rattle.smith_input.specs.Names.{ReadsNew}
use Rattle.smith_input.specs.Reading.{IsTail}
use Rattle.smith_input.proofs.Choices.{among_none, among_tail, among_same}
use Rattle.smith_input.proofs.Lists.{all_both}
use Rattle.smith_input.proofs.NewNames.{new_tail, new_unique}
use Rattle.smith_input.proofs.Reading.{tail_trans, reads_tail, reads_unique, flips_unique}
use Rattle.smith_syntax.specs.Entries.{DefValType, primitive_type, record_type, variant_type, list_type, tuple_type, flags_type, enum_type, option_type}
use Rattle.smith_syntax.specs.Entries.{result_type, Signature, function}
use Rattle.smith_tree.specs.ReadableTypes.{AreReadableNames, IsReadableDefined}
use Rattle.smith_tree.specs.TypeOffers.{primitives}
use Rattle.smith_types.specs.Made.{ReadsVal, only_primitive, either_primitive, either_index, ReadsMaybe, absent, present, or_bool, MadeMembers, MadeAs}
use Rattle.smith_types.specs.Made.{MadeDefined, ReadsMembers, ReadsResult, MadeFunction}
use Rattle.smith_syntax.specs.Marked.{Marked}
use Rattle.smith_syntax.specs.Marks.{is_small}
use Rattle.smith_syntax.specs.Scope.{is_defined}
use Rattle.smith_syntax.specs.Usable.{OfferedValue, is_value, mark_at, value_places}
use Rattle.smith_syntax.specs.WellFormed.{Named, defined_size, size}
use Rattle.smith_tree.specs.declared.choices.DefinedKind.{DefinedKind}
use Rattle.smith_tree.specs.declared.choices.DefinedKind.TheVariants as kind
use Rattle.smith_syntax.specs.declared.types.ComponentValType.{ComponentValType}
use Rattle.smith_syntax.specs.declared.types.ComponentValType.TheVariants.{Primitive, Indexed}
use Rattle.smith_types.proofs.MadeCoreSame.{Same}
use Rattle.smith_types.proofs.Takes.{used}
use Rattle.smith_types.proofs.Judged.{IsDefined, IsMaybe, IsType, IsValue, cases_formed, cases_offered, fields_formed, fields_offered, one_formed}
use Rattle.smith_types.proofs.Judged.{values_formed, values_offered}
use Rattle.smith_types.proofs.MarkedPlaces.{marked_stands}
use Rattle.smith_types.proofs.Members.{labels_named, members_all, members_few, members_named, members_same, members_tail, members_take, named_name, named_same}
use Rattle.smith_types.proofs.Members.{named_tail}

-- tails

val_tail : (own : Marked) (b : List ℕ) (v : ComponentValType) (rest : List ℕ) → ReadsVal own b v rest → IsTail rest b
val_tail own b v rest (only_primitive n r) = among_tail r
val_tail own b v rest (either_primitive n c r) = tail_trans (among_tail r) (reads_tail c)
val_tail own b v rest (either_index c r) = tail_trans (among_tail r) (reads_tail c)

maybe_tail : (own : Marked) (b : List ℕ) (v : Option ComponentValType) (rest : List ℕ) → ReadsMaybe own b v rest → IsTail rest b
maybe_tail own b v rest (absent f) = (1, f.left)
maybe_tail own b v rest (present {mid = mid} {v = w} f r) = tail_trans (val_tail own mid w rest r) (1, f.left)

-- well formed, and all that they name was offered

val_is : (own : Marked) (b : List ℕ) (v : ComponentValType) (rest : List ℕ) → ReadsVal own b v rest → IsValue own v
val_is own b v rest (only_primitive n r) = (tt, tt)
val_is own b v rest (either_primitive n c r) = (tt, tt)
val_is own b v rest (either_index {i = i} c r) =
    let p = marked_stands is_value own.types own.marks r.place i r.named in
    let q = and_parts (is_defined p.0) (is_small (mark_at own.marks i)) p.2 in
    ((p.0, p.1, q.0), q.1)

maybe_is : (own : Marked) (b : List ℕ) (v : Option ComponentValType) (rest : List ℕ) → ReadsMaybe own b v rest → IsMaybe own v
maybe_is own b v rest (absent f) = (tt, tt)
maybe_is own b v rest (present {mid = mid} {v = w} f r) = let p = val_is own mid w rest r in (p.0, (p.1, tt))

-- What holds of a defined type that is made.
pub record DefinedFits (config : Config) (own : Marked) (b : List ℕ) (fuel : ℕ) (t : DefValType) (rest : List ℕ) (left : ℕ) : Type 0 where
  pub tail : IsTail rest b
  pub is : IsDefined own t
  pub readable : IsReadableDefined config t
  pub within : defined_size t + left ≤ fuel
  pub uses : used (defined_size t) ≤ fuel

module _ {config : Config} {own : Marked} {b : List ℕ} {fuel : ℕ} {t : DefValType} {rest : List ℕ} {left : ℕ} where
  -- a type without members
  plain_fits : (u : DefValType) → t ≡ u → IsTail rest b → IsDefined own u → IsReadableDefined config u → defined_size u ≡ 0 → left ≡ fuel
      → DefinedFits config own b fuel t rest left
  plain_fits u same tail is readable none l = subst (λ z. DefinedFits config own b fuel z rest left) (sym same) (record {
    tail = tail;
    is = is;
    readable = readable;
    within = omega (arith, none, l);
    uses = subst (λ n. used n ≤ fuel) (sym none) (omega arith);
  })

  -- a type with members, or bool
  members_fit : {A : Type 0} {Member : List A → List ℕ → A → List ℕ → Type 0} {max : ℕ} (of : List A → DefValType)
      → ((xs : List A) → defined_size (of xs) ≡ length xs) → ((so_far : List A) (c : List ℕ) (x : A) (r : List ℕ) → Member so_far c x r → IsTail r c)
      → ((xs : List A) → ReadsMembers config Member 1 max b fuel xs rest left → 1 ≤ length xs → IsDefined own (of xs) × IsReadableDefined config (of xs))
      → MadeMembers config Member max of b fuel t rest left → DefinedFits config own b fuel t rest left
  members_fit {A} {Member} {max} of size one is (xs, r, same) = subst (λ z. DefinedFits config own b fuel z rest left) (sym same) (by xs r)
    where
      by : (xs : List A) → ReadsMembers config Member 1 max b fuel xs rest left → DefinedFits config own b fuel (or_bool of xs) rest left
      by [] r = record { tail = members_tail config r one; is = (tt, tt); readable = tt; within = (members_take config r).0; uses = omega arith }
      by (x ∷ xs) r =
          let here = is (x ∷ xs) r (omega arith) in
          let long = size (x ∷ xs) in
          let takes = members_take config r in
          record {
            tail = members_tail config r one;
            is = here.0;
            readable = here.1;
            within = omega (arith, long, takes.0);
            uses = subst (λ n. used n ≤ fuel) (sym long) takes.1;
          }

  labels_fit : {max : ℕ} (of : List (List ℕ) → DefValType) → ((xs : List (List ℕ)) → defined_size (of xs) ≡ length xs)
      → ((xs : List (List ℕ)) → Named xs × AreReadableNames config xs → 1 ≤ length xs → length xs ≤ max
      → IsDefined own (of xs) × IsReadableDefined config (of xs))
      → MadeMembers config (ReadsNew config.max_name_length) max of b fuel t rest left → DefinedFits config own b fuel t rest left
  labels_fit of size is m = members_fit of size (λ so_far c x r h. new_tail h) (λ xs r some. is xs (labels_named config r) some (members_few config r)) m

  as_fits : (k : DefinedKind) → MadeAs config own k b fuel t rest left → DefinedFits config own b fuel t rest left
  as_fits kind.Primitive (p, r, i, j) = plain_fits (primitive_type p) i (among_tail r) (tt, tt) tt refl j
  as_fits kind.Record m = members_fit record_type (λ xs. refl) (named_tail (val_tail own)) (λ xs r some.
      let all = members_all config r (λ f. IsValue own f.1) (λ so_far c x d h. val_is own h.mid x.1 d h.after) in
      let names = members_named config r (λ f. f.0) named_name in
      (((names.0, fields_formed own xs all, some, members_few config r), fields_offered own xs all), names.1)) m
  as_fits kind.Variant m = members_fit variant_type (λ xs. refl) (named_tail (maybe_tail own)) (λ xs r some.
      let all = members_all config r (λ c. IsMaybe own c.1) (λ so_far c x d h. maybe_is own h.mid x.1 d h.after) in
      let names = members_named config r (λ c. c.0) named_name in
      (((names.0, cases_formed own xs all, some, members_few config r), cases_offered own xs all), names.1)) m
  as_fits kind.List (v, r, i, j) = let p = val_is own b v rest r in plain_fits (list_type v) i (val_tail own b v rest r) (p.0, (p.1, tt)) tt refl j
  as_fits kind.Tuple m = members_fit tuple_type (λ xs. refl) (λ so_far. val_tail own) (λ xs r some.
      let all = members_all config r (IsValue own) (λ so_far c x d h. val_is own c x d h) in
      (((values_formed own xs all, some, members_few config r), values_offered own xs all), tt)) m
  as_fits kind.Flags m = labels_fit flags_type (λ xs. refl) (λ xs names some few. (((names.0, some, few), tt), names.1)) m
  as_fits kind.Enum m = labels_fit enum_type (λ xs. refl) (λ xs names some few. (((names.0, some, few), tt), names.1)) m
  as_fits kind.Option (v, r, i, j) = let p = val_is own b v rest r in plain_fits (option_type v) i (val_tail own b v rest r) (p.0, (p.1, tt)) tt refl j
  as_fits kind.Result (ok, mid, r, err, s, i, j) =
      let p = maybe_is own b ok mid r in
      let q = maybe_is own mid err rest s in
      plain_fits (result_type ok err) i (tail_trans (maybe_tail own mid err rest s) (maybe_tail own b ok mid r))
      ((p.0, q.0), all_both (OfferedValue own) (option_to_list ok) (option_to_list err) p.1 q.1) tt refl j

pub defined_fits : {config : Config} {own : Marked} {b : List ℕ} {fuel : ℕ} {t : DefValType} {rest : List ℕ} {left : ℕ}
    → MadeDefined config own b fuel t rest left
    → DefinedFits config own b fuel t rest left
defined_fits d =
    let f = as_fits d.kind d.made in
    record { tail = tail_trans f.tail (among_tail d.choice); is = f.is; readable = f.readable; within = f.within; uses = f.uses }

-- What holds of a function type that is made.
pub record FunctionFits (config : Config) (own : Marked) (b : List ℕ) (fuel : ℕ) (s : Signature) (rest : List ℕ) (left : ℕ) : Type 0 where
  pub tail : IsTail rest b
  pub is : (outer : List Marked) → IsType (function s) own outer
  pub readable : AreReadableNames config (map (λ p. p.0) s.params)
  pub within : size (function s) + left ≤ fuel
  pub uses : 0 < fuel → size (function s) + 1 ≤ fuel

both_used : (n r fuel held : ℕ) → 0 < fuel → used n ≤ fuel → n + held ≤ fuel → used r ≤ held → n + r + 1 ≤ fuel
both_used zero zero fuel held some h k l = omega arith
both_used (suc n) zero fuel held some h k l = omega (arith, h)
both_used n (suc r) fuel held some h k l = omega (arith, k, l)

pub function_fits : {config : Config} {own : Marked} {b : List ℕ} {fuel : ℕ} {s : Signature} {rest : List ℕ} {left : ℕ}
    → MadeFunction config own b fuel s rest left
    → FunctionFits config own b fuel s rest left
function_fits {config} {own} {fuel = fuel} {s = s} f =
    let params = members_all config f.takes (λ p. IsValue own p.1) (λ so_far c x d h. val_is own h.mid x.1 d h.after) in
    let result = members_all config f.gives (IsValue own) (λ so_far c x d h. val_is own c x d h) in
    let names = members_named config f.takes (λ p. p.0) named_name in
    let first = members_take config f.takes in
    let second = members_take config f.gives in
    record {
      tail = tail_trans (members_tail config f.gives (λ so_far. val_tail own)) (members_tail config f.takes (named_tail (val_tail own)));
      is = λ outer. (
        (
          names.0,
          fields_formed own s.params params,
          members_few config f.takes,
          one_formed own s.result (values_formed own (option_to_list s.result) result),
        ),
        all_both (OfferedValue own) (map (λ p. p.1) s.params) (option_to_list s.result) (fields_offered own s.params params)
            (values_offered own (option_to_list s.result) result),
      );
      readable = names.1;
      within = omega (arith, first.0, second.0);
      uses = λ some. both_used (length s.params) (length (option_to_list s.result)) fuel f.held some first.1 first.0 second.1;
    }

-- determined

none_below : (xs : List ℕ) → xs ≡ [] → 0 < length xs → ⊥
none_below xs e h = omega (arith, ap length e)

val_same : (own : Marked) (b : List ℕ) (v w : ComponentValType) (r s : List ℕ) → ReadsVal own b v r → ReadsVal own b w s → (v ≡ w) × (r ≡ s)
val_same own b v w r s (only_primitive n x) (only_primitive m y) = let u = among_same x y in (ap Primitive u.0, u.1)
val_same own b v w r s (only_primitive n x) (either_primitive m c y) = absurd (none_below _ n m)
val_same own b v w r s (only_primitive n x) (either_index c d) = absurd (among_none n d)
val_same own b v w r s (either_primitive m c y) (only_primitive n x) = absurd (none_below _ n m)
val_same own b v w r s (either_primitive {mid = l} {p = p} m c x) (either_primitive {mid = k} {p = q} n d y) =
    let P : List ℕ → Type 0 = λ z. ReadsAmong primitives z p r in
    let z = among_same (subst P (reads_unique c d).1 x) y in
    (ap Primitive z.0, z.1)
val_same own b v w r s (either_primitive m c x) (either_index d y) = absurd (let u = (reads_unique c d).0 in omega arith)
val_same own b v w r s (either_index c d) (only_primitive n x) = absurd (among_none n d)
val_same own b v w r s (either_index d y) (either_primitive m c x) = absurd (let u = (reads_unique c d).0 in omega arith)
val_same own b v w r s (either_index {mid = l} {i = i} c x) (either_index {mid = m} {i = n} d y) =
    let P : List ℕ → Type 0 = λ z. ReadsAmong (value_places own) z i r in
    let z = among_same (subst P (reads_unique c d).1 x) y in
    (ap Indexed z.0, z.1)

maybe_same : (own : Marked) (b : List ℕ) (v w : Option ComponentValType) (r s : List ℕ) → ReadsMaybe own b v r → ReadsMaybe own b w s → (v ≡ w) × (r ≡ s)
maybe_same own b v w r s (absent x) (absent y) = (refl, (flips_unique x y).1)
maybe_same own b v w r s (absent x) (present y z) = absurd (let u : false ≡ true = (flips_unique x y).0 in cc)
maybe_same own b v w r s (present y z) (absent x) = absurd (let u : true ≡ false = (flips_unique y x).0 in cc)
maybe_same own b v w r s (present {v = x} f y) (present {mid = m} {v = z} g t) =
    let P : List ℕ → Type 0 = λ l. ReadsVal own l x r in
    let u = val_same own m x z r s (subst P (flips_unique f g).1 y) t in
    (ap Some u.0, u.1)

-- members of a type, by what each reads
made_members_same : (config : Config) {A : Type 0} {Member : List A → List ℕ → A → List ℕ → Type 0} {max : ℕ}
    (one : (so_far : List A) (b : List ℕ) (x y : A) (r s : List ℕ) → Member so_far b x r → Member so_far b y s → (x ≡ y) × (r ≡ s)) (of : List A → DefValType)
    (b : List ℕ) (fuel : ℕ) (d e : DefValType) (r s : List ℕ) (f g : ℕ)
    → MadeMembers config Member max of b fuel d r f → MadeMembers config Member max of b fuel e s g → Same d e r s f g
made_members_same config one of b fuel d e r s f g (xs, x, i) (ys, y, k) =
    let u = members_same config one x y in
    record { value = i ∙ (ap (or_bool of) u.value ∙ sym k); rest = u.rest; left = u.left }

as_same : (config : Config) → (own : Marked) (k : DefinedKind) (b : List ℕ) (fuel : ℕ) (d e : DefValType) (r s : List ℕ) (f g : ℕ)
    → MadeAs config own k b fuel d r f
    → MadeAs config own k b fuel e s g → Same d e r s f g
as_same config own kind.Primitive b fuel d e r s f g (p, x, i, j) (q, y, k, l) = let u = among_same x y in
    record { value = i ∙ (ap primitive_type u.0 ∙ sym k); rest = u.1; left = j ∙ sym l }
as_same config own kind.Record b fuel d e r s f g x y = made_members_same config (named_same (val_same own)) record_type b fuel d e r s f g x y
as_same config own kind.Variant b fuel d e r s f g x y = made_members_same config (named_same (maybe_same own)) variant_type b fuel d e r s f g x y
as_same config own kind.List b fuel d e r s f g (v, x, i, j) (w, y, k, l) = let u = val_same own b v w r s x y in
    record { value = i ∙ (ap list_type u.0 ∙ sym k); rest = u.1; left = j ∙ sym l }
as_same config own kind.Tuple b fuel d e r s f g x y = made_members_same config (λ so_far. val_same own) tuple_type b fuel d e r s f g x y
as_same config own kind.Flags b fuel d e r s f g x y = made_members_same config (λ so_far c n m p q h i. new_unique h i) flags_type b fuel d e r s f g x y
as_same config own kind.Enum b fuel d e r s f g x y = made_members_same config (λ so_far c n m p q h i. new_unique h i) enum_type b fuel d e r s f g x y
as_same config own kind.Option b fuel d e r s f g (v, x, i, j) (w, y, k, l) = let u = val_same own b v w r s x y in
    record { value = i ∙ (ap option_type u.0 ∙ sym k); rest = u.1; left = j ∙ sym l }
as_same config own kind.Result b fuel d e r s f g (ok, mid, x, err, z, i, j) (ko, low, y, rre, t, k, l) =
    let u = maybe_same own b ok ko mid low x y in
    let P : List ℕ → Type 0 = λ c. ReadsMaybe own c err r in
    let w = maybe_same own low err rre r s (subst P u.1 z) t in
    record { value = i ∙ (ap (λ o. result_type o err) u.0 ∙ ap (result_type ko) w.0) ∙ sym k; rest = w.1; left = j ∙ sym l }

pub defined_same : {config : Config} {own : Marked} {b : List ℕ} {fuel : ℕ} {t u : DefValType} {r s : List ℕ} {f g : ℕ} → MadeDefined config own b fuel t r f
    → MadeDefined config own b fuel u s g → Same t u r s f g
defined_same {config} {own} {b} {fuel} {t} {u} {r} {s} {f} {g} x y =
    let c = among_same x.choice y.choice in
    let P : DefinedKind → Type 0 = λ z. MadeAs config own z x.mid fuel t r f in
    let Q : List ℕ → Type 0 = λ z. MadeAs config own y.kind z fuel t r f in
    as_same config own y.kind y.mid fuel t u r s f g (subst Q c.1 (subst P c.0 x.made)) y.made

one_same : (v w : Option ComponentValType) → option_to_list v ≡ option_to_list w → v ≡ w
one_same None None e = refl
one_same None (Some y) e = absurd (omega (arith, ap length e))
one_same (Some x) None e = absurd (omega (arith, ap length e))
one_same (Some x) (Some y) e = let z : x ≡ y = cc in ap Some z

pub function_same : {config : Config} {own : Marked} {b : List ℕ} {fuel : ℕ} {c d : Signature} {r s : List ℕ} {f g : ℕ} → MadeFunction config own b fuel c r f
    → MadeFunction config own b fuel d s g → Same c d r s f g
function_same {config} {own} {c = c} {d = d} {r = r} {f = f} x y =
    let u = members_same config (named_same (val_same own)) x.takes y.takes in
    let P : List ℕ → Type 0 = λ z. ReadsResult config own z x.held c.result r f in
    let Q : ℕ → Type 0 = λ z. ReadsResult config own y.mid z c.result r f in
    let w = members_same config (λ so_far. val_same own) (subst Q u.left (subst P u.rest x.gives)) y.gives in
    let v = one_same c.result d.result w.value in
    record { value = λ i. record { params = u.value i; result = v i }; rest = w.rest; left = w.left }
