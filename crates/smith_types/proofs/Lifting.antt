-- Signatures that are read so that they flatten to a core function type.
use Rattle.std.proofs.Common.{◌≡◌, ℕ, ◌+◌, ◌<◌, ◌≤◌, List, [], ◌∷◌, ◌++◌, map, length, drop, get_or, refl, sym, ap, ◌∙◌, subst, arith, append_assoc, append-nil}
use Rattle.std.proofs.Common.{lit<, Some}
use Rattle.std.proofs.lemmas.List.{map-append, drop_all, drop_more}
use Rattle.std.specs.List.{AllByRecursion}
use Rattle.std.specs.Option.{option_to_list}
use Rattle.smith_format.specs.CoreTypes.{Function}
use Rattle.smith_format.specs.declared.types.ValType.{ValType}
use Rattle.smith_format.specs.declared.types.ValType.TheVariants.{I32, I64, F32, F64, V128, Ref}
use Rattle.smith_input.specs.Choices.{ReadsAmong}
use Rattle.smith_input.specs.Kebab.{Kebab}
use Rattle.smith_input.specs.NameScript.{AreReachable}
use Rattle.smith_input.specs.Names.{ReadsNew}
use Rattle.smith_input.specs.Reading.{IsTail}
use Rattle.smith_input.proofs.Choices.{among_tail, among_same}
use Rattle.smith_input.proofs.NameScript.{new_reachable}
use Rattle.smith_input.proofs.NewNames.{new_tail, new_kebab, new_unique}
use Rattle.smith_input.proofs.Reading.{tail_same, tail_trans}
use Rattle.smith_syntax.specs.Entries.{Field, Signature, function}
use Rattle.smith_syntax.specs.Flat.{flat_primitive, flat_value, Flattens}
use Rattle.smith_syntax.specs.Marked.{Marked}
use Rattle.smith_syntax.specs.Scope.{Scope}
use Rattle.smith_syntax.specs.Usable.{OfferedEntry, OfferedValue}
use Rattle.smith_syntax.specs.WellFormed.{Named, FormedVal, FormedMaybe, FormedEntry}
use Rattle.smith_syntax.specs.declared.types.ComponentValType.{ComponentValType}
use Rattle.smith_syntax.specs.declared.types.ComponentValType.TheVariants.{Primitive, Indexed}
use Rattle.smith_syntax.specs.declared.types.PrimitiveValType.{PrimitiveValType}
use Rattle.smith_syntax.specs.declared.types.PrimitiveValType.TheVariants as prim
use Rattle.smith_types.specs.Lifting.{IsLiftable, IsLiftableFunction, ReadsParams, no_params, a_param, ReadsLiftedType}
use Rattle.smith_tree.specs.TypeOffers.{lifted}
use Rattle.smith_tree.specs.ReadableTypes.{AreReadableNames}
use Rattle.smith_input.proofs.DistinctNames.{AreNew, new_distinct}
use Rattle.smith_input.proofs.Lists.{all_at, all_both}

-- core value types

lifted_flat : (v : ValType) → AllByRecursion (λ p. flat_primitive p ≡ Some v) (lifted v)
lifted_flat I32 = (refl, (refl, (refl, (refl, (refl, (refl, (refl, (refl, tt))))))))
lifted_flat I64 = (refl, (refl, tt))
lifted_flat F32 = (refl, tt)
lifted_flat F64 = (refl, tt)
lifted_flat V128 = tt
lifted_flat (Ref r) = tt

among_flat : {v : ValType} {b rest : List ℕ} {p : PrimitiveValType} → ReadsAmong (lifted v) b p rest → flat_primitive p ≡ Some v
among_flat {v = v} {p = p} r = all_at (λ q. flat_primitive q ≡ Some v) (lifted v) r.place p (lifted_flat v) r.named

lifts : (w v : ValType) → IsLiftable w → Some w ≡ Some v → IsLiftable v
lifts w v h e = let z : w ≡ v = cc in subst IsLiftable z h

flat_lifts : (p : PrimitiveValType) (v : ValType) → flat_primitive p ≡ Some v → IsLiftable v
flat_lifts prim.S64 v e = lifts I64 v (lit< tt) e
flat_lifts prim.U64 v e = lifts I64 v (lit< tt) e
flat_lifts prim.F32 v e = lifts F32 v (lit< tt) e
flat_lifts prim.F64 v e = lifts F64 v (lit< tt) e
flat_lifts prim.String v e = absurd (cc)
flat_lifts _ v e = lifts I32 v (lit< tt) e

value_lifts : (c : ComponentValType) (v : ValType) → flat_value c ≡ Some v → IsLiftable v
value_lifts (Primitive p) v e = flat_lifts p v e
value_lifts (Indexed i) v e = absurd (cc)

all_lift : {A : Type 0} (value : A → ComponentValType) (xs : List A) (vs : List ValType) → map (λ x. flat_value (value x)) xs ≡ map Some vs
    → AllByRecursion IsLiftable vs
all_lift value xs [] e = tt
all_lift value [] (v ∷ vs) e = absurd (cc)
all_lift value (x ∷ xs) (v ∷ vs) e =
    let first : flat_value (value x) ≡ Some v = cc in
    let rest : map (λ y. flat_value (value y)) xs ≡ map Some vs = cc in
    (value_lifts (value x) v first, all_lift value xs vs rest)

-- What a signature flattens to can be lifted.
pub flattens_liftable : {s : Signature} {f : Function} → Flattens s f → IsLiftableFunction f
flattens_liftable {s = s} {f = f} h = record {
  params = all_lift (λ (p : Field). p.1) s.params f.0 h.params;
  one = h.one;
  results = all_lift (λ v. v) (option_to_list s.result) f.1 h.result;
}

-- parameters

pub params_tail : {max : ℕ} {names : List (List ℕ)} {vs : List ValType} {b rest : List ℕ} {fs : List Field} → ReadsParams max names vs b fs rest → IsTail rest b
params_tail no_params = tail_same _
params_tail (a_param n p later) = tail_trans (params_tail later) (tail_trans (among_tail p) (new_tail n))

params_flat : {max : ℕ} {names : List (List ℕ)} {vs : List ValType} {b rest : List ℕ} {fs : List Field} → ReadsParams max names vs b fs rest
    → map (λ p. flat_value p.1) fs ≡ map Some vs
params_flat no_params = refl
params_flat (a_param n p later) = let first = among_flat p in let more = params_flat later in λ i. first i ∷ more i

params_count : {max : ℕ} {names : List (List ℕ)} {vs : List ValType} {b rest : List ℕ} {fs : List Field} → ReadsParams max names vs b fs rest
    → length fs ≡ length vs
params_count no_params = refl
params_count (a_param n p later) = let more = params_count later in omega (arith, more)

params_primitive : {max : ℕ} {names : List (List ℕ)} {vs : List ValType} {b rest : List ℕ} {fs : List Field} (own : Scope) → ReadsParams max names vs b fs rest
    → AllByRecursion (λ p. FormedVal own p.1) fs
params_primitive own no_params = tt
params_primitive own (a_param n p later) = (tt, params_primitive own later)

params_offered : {max : ℕ} {names : List (List ℕ)} {vs : List ValType} {b rest : List ℕ} {fs : List Field} (own : Marked) → ReadsParams max names vs b fs rest
    → AllByRecursion (OfferedValue own) (map (λ p. p.1) fs)
params_offered own no_params = tt
params_offered own (a_param n p later) = (tt, params_offered own later)

params_new : {max : ℕ} {names : List (List ℕ)} {vs : List ValType} {b rest : List ℕ} {fs : List Field} → ReadsParams max names vs b fs rest
    → AreNew names (map (λ p. p.0) fs)
params_new no_params = tt
params_new (a_param n p later) = (n.unique.is_new, params_new later)

params_kebab : {max : ℕ} {names : List (List ℕ)} {vs : List ValType} {b rest : List ℕ} {fs : List Field}
    → ReadsParams max names vs b fs rest → AllByRecursion Kebab (map (λ p. p.0) fs)
params_kebab no_params = tt
params_kebab (a_param n p later) = (new_kebab n, params_kebab later)

params_readable : {max : ℕ} {names : List (List ℕ)} {vs : List ValType} {b rest : List ℕ} {fs : List Field} → ReadsParams max names vs b fs rest
    → AreReachable max names (map (λ p. p.0) fs)
params_readable no_params = tt
params_readable (a_param n p later) = (new_reachable n, params_readable later)

-- Names of parameters are in kebab case and distinct.
pub params_named : {max : ℕ} {vs : List ValType} {b rest : List ℕ} {fs : List Field} → ReadsParams max [] vs b fs rest → Named (map (λ p. p.0) fs)
params_named {fs = fs} r = (params_kebab r, new_distinct [] (map (λ p. p.0) fs) (params_new r))

-- signatures

module _ {max : ℕ} {f : Function} {b : List ℕ} {s : Signature} {rest : List ℕ} (r : ReadsLiftedType max f b s rest) where
  pub lifted_tail : IsTail rest b
  lifted_tail = tail_trans (among_tail r.result) (params_tail r.params)

  pub lifted_flattens : Flattens s f
  lifted_flattens =
      let flat = among_flat r.result in
      record {
        params = params_flat r.params;
        result = ap (λ v. map flat_value (option_to_list v)) r.is ∙ ((λ i. flat i ∷ []) ∙ sym (ap (map Some) r.only));
        one = ap length r.only;
      }

  pub lifted_params : length s.params ≡ length f.0
  lifted_params = params_count r.params

  pub lifted_named : Named (map (λ p. p.0) s.params)
  lifted_named = params_named r.params

  pub lifted_readable : AreReachable max [] (map (λ p. p.0) s.params)
  lifted_readable = params_readable r.params

  -- All parameters and the result are primitives, so that they are well formed in every scope.
  pub lifted_prims : (own : Scope) → AllByRecursion (λ p. FormedVal own p.1) s.params × FormedMaybe own s.result
  lifted_prims own = (params_primitive own r.params, subst (FormedMaybe own) (sym r.is) tt)

  -- So is the function type if there are at most 16 parameters.
  pub lifted_formed : length f.0 ≤ 16 → (own : Scope) (outer : List Scope) → FormedEntry (function s) own outer
  lifted_formed few own outer =
      let prims = lifted_prims own in
      let count = lifted_params in
      (lifted_named, prims.0, omega (arith, few, count), prims.1)

  -- All that it names is offered: it names nothing.
  pub lifted_offered : (own : Marked) (outer : List Marked) → OfferedEntry {N = Unit {0}} {K = Unit {0}} (function s) own outer
  lifted_offered own outer =
      let result : AllByRecursion (OfferedValue own) (option_to_list s.result) =
      subst (λ v. AllByRecursion (OfferedValue own) (option_to_list v)) (sym r.is) (tt, tt) in
      all_both (OfferedValue own) (map (λ p. p.1) s.params) (option_to_list s.result) (params_offered own r.params) result

-- The bytes decide a signature, and what it leaves.

params_same : {max : ℕ} {names : List (List ℕ)} {vs : List ValType} {b r q : List ℕ} {fs gs : List Field} → ReadsParams max names vs b fs r
    → ReadsParams max names vs b gs q
    → (fs ≡ gs) × (r ≡ q)
params_same no_params no_params = (refl, refl)
params_same {max} {names = names} {r = r} (a_param {v = v} {vs = vs} {mid = mid} {low = low} {name = a} {p = p} {fs = fs} n c more)
    (a_param {name = d} {p = o} m e rest) =
    let s = new_unique n m in
    let t = among_same (subst (λ z. ReadsAmong (lifted v) z p low) s.1 c) e in
    let M : List (List ℕ) → Type 0 = λ z. ReadsParams max z vs low fs r in
    let L : List ℕ → Type 0 = λ z. ReadsParams max (names ++ d ∷ []) vs z fs r in
    let u = params_same (subst L t.1 (subst M (ap (λ z. names ++ z ∷ []) s.0) more)) rest in
    ((λ i. (s.0 i, Primitive (t.0 i)) ∷ u.0 i), u.1)

-- a signature that flattens to a core function type
pub lifted_same : {max : ℕ} {f : Function} {b r q : List ℕ} {s t : Signature} → ReadsLiftedType max f b s r → ReadsLiftedType max f b t q → (s ≡ t) × (r ≡ q)
lifted_same {max} {f} {b} {r} {q} {s} {t} x y =
    let p = params_same x.params y.params in
    let only : x.core_result ∷ [] ≡ y.core_result ∷ [] = sym x.only ∙ y.only in
    let result : x.core_result ≡ y.core_result = cc in
    let V : ValType → Type 0 = λ z. ReadsAmong (lifted z) x.mid x.primitive r in
    let M : List ℕ → Type 0 = λ z. ReadsAmong (lifted y.core_result) z x.primitive r in
    let c = among_same (subst M p.1 (subst V result x.result)) y.result in
    let same : s.result ≡ t.result = x.is ∙ (ap (λ z. Some (Primitive z)) c.0 ∙ sym y.is) in
    ((λ i. record { params = p.0 i; result = same i }), c.1)

-- The same parameter by parameter, as the program reads them: whatever is read from here, all is read with the parameters so far.

-- the names with one more at the end
names_more : (so_far next : List Field) (x : Field) → next ≡ so_far ++ x ∷ [] → map (λ q. q.0) next ≡ map (λ q. q.0) so_far ++ x.0 ∷ []
names_more so_far next x more = ap (map (λ q. q.0)) more ∙ map-append (λ q. q.0) so_far (x ∷ [])

abbrev pub Onward : ℕ → List ValType → List ℕ → ℕ → List ℕ → List Field → Type 0
Onward max core start i b so_far =
    (fs : List Field) (rest : List ℕ) → ReadsParams max (map (λ p. p.0) so_far) (drop i core) b fs rest → ReadsParams max [] core start (so_far ++ fs) rest

pub one_more : {max : ℕ} (core : List ValType) (start : List ℕ) (i : ℕ) (b mid low name : List ℕ) (v other : ValType) (p : PrimitiveValType)
    (so_far next : List Field)
    → i < length core → v ≡ get_or core i other
    → ReadsNew max (map (λ q. q.0) so_far) b name mid → ReadsAmong (lifted v) mid p low → next ≡ so_far ++ (name, Primitive p) ∷ []
    → Onward max core start i b so_far → Onward max core start (i + 1) low next
one_more {max} core start i b mid low name v other p so_far next h e n a more onward fs rest later =
    let x : Field = (name, Primitive p) in
    let names = names_more so_far next x more in
    let M : List (List ℕ) → Type 0 = λ ns. ReadsParams max ns (drop (i + 1) core) low fs rest in
    let L : List ValType → Type 0 = λ vs. ReadsParams max (map (λ q. q.0) so_far) vs b (x ∷ fs) rest in
    let F : List Field → Type 0 = λ gs. ReadsParams max [] core start gs rest in
    let left = drop_more core i other h ∙ ap (λ w. w ∷ drop (i + 1) core) (sym e) in
    let here = subst L (sym left) (a_param n a (subst M names later)) in
    let same : so_far ++ (x ∷ fs) ≡ next ++ fs = sym (append_assoc so_far (x ∷ []) fs) ∙ sym (ap (λ z. z ++ fs) more) in
    subst F same (onward (x ∷ fs) rest here)

pub none_left : {max : ℕ} (core : List ValType) (start : List ℕ) (i : ℕ) (b : List ℕ) (so_far : List Field) → length core ≤ i → Onward max core start i b so_far
    → ReadsParams max [] core start so_far b
none_left {max} core start i b so_far h onward =
    let L : List ValType → Type 0 = λ vs. ReadsParams max (map (λ q. q.0) so_far) vs b [] b in
    let F : List Field → Type 0 = λ gs. ReadsParams max [] core start gs b in
    subst F (append-nil so_far) (onward [] b (subst L (sym (drop_all i core h)) no_params))

-- one item, which is the first
one_item : {A : Type 0} (xs : List A) (x : A) → length xs ≡ 1 → x ≡ get_or xs 0 x → xs ≡ x ∷ []
one_item [] x n e = absurd (omega (arith, n))
one_item (y ∷ []) x n e = λ i. sym e i ∷ []
one_item (y ∷ z ∷ zs) x n e = absurd (omega (arith, n))

-- The result is read after the parameters.
pub all_lifted : {max : ℕ} (f : Function) (vs : List ValType) (v : ValType) (b mid rest : List ℕ) (fs : List Field) (p : PrimitiveValType) → vs ≡ f.0
    → length f.1 ≡ 1
    → v ≡ get_or f.1 0 v → ReadsParams max [] vs b fs mid → ReadsAmong (lifted v) mid p rest
    → ReadsLiftedType max f b (record { params = fs; result = Some (Primitive p) }) rest
all_lifted {max} f vs v b mid rest fs p same one first params result = record {
  mid = mid;
  core_result = v;
  primitive = p;
  params = subst (λ ws. ReadsParams max [] ws b fs mid) same params;
  only = one_item f.1 v one first;
  result = result;
  is = refl;
}
