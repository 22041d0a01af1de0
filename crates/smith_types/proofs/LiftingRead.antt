-- The script of the signature of a lift is read as it.
use Rattle.smith_format.specs.declared.config.Config.{Config}
use Rattle.std.proofs.Common.{◌≡◌, ℕ, ◌+◌, ◌≤◌, ◌<◌, ◌^◌, List, [], ◌∷◌, ◌++◌, map, length, arith, refl, sym, ap, ◌∙◌, subst, append_assoc, length-append}
use Rattle.std.proofs.Common.{Option, None}
use Rattle.std.proofs.Common.{Some, lit≤}
use Rattle.std.specs.List.{AllByRecursion}
use Rattle.std.specs.Option.{option_to_list}
use Rattle.std.specs.Prelude.{slice_get}
use Rattle.smith_input.specs.Choices.{ReadsAmong}
use Rattle.smith_input.specs.Kebab.{Kebab}
use Rattle.smith_input.specs.NameScript.{AreReachable}
use Rattle.smith_input.specs.Script.{script_among}
use Rattle.smith_input.proofs.Choices.{among_read}
use Rattle.smith_input.proofs.NameScript.{new_script_read}
use Rattle.smith_format.specs.CoreTypes.{Function}
use Rattle.smith_format.specs.declared.types.ValType.{ValType}
use Rattle.smith_format.specs.declared.types.ValType.TheVariants.{I32, I64, F32, F64, V128, Ref}
use Rattle.smith_syntax.specs.Entries.{Field, Signature}
use Rattle.smith_syntax.specs.Flat.{flat_primitive, flat_value, Flattens}
use Rattle.smith_syntax.specs.WellFormed.{Named}
use Rattle.smith_syntax.specs.contracts.types.PrimitiveValTypePartialEq.TheImpl.{ghosts as prims}
use Rattle.smith_syntax.specs.declared.types.ComponentValType.{ComponentValType}
use Rattle.smith_syntax.specs.declared.types.ComponentValType.TheVariants.{Primitive, Indexed}
use Rattle.smith_syntax.specs.declared.types.PrimitiveValType.{PrimitiveValType}
use Rattle.smith_syntax.specs.declared.types.PrimitiveValType.TheVariants as prim
use Rattle.smith_types.specs.Lifting.{ReadsParams, no_params, a_param, ReadsLiftedType}
use Rattle.smith_tree.specs.TypeOffers.{lifted}
use Rattle.smith_types.proofs.Lifting.{lifted_same}
use Rattle.smith_tree.specs.ReadableTypes.{AreReadableNames}
use Rattle.smith_tree.specs.TypeScript.{script_label, script_scalar, script_params, script_result, script_lifted}
use Rattle.smith_syntax.specs.SameSignature.{primitive_Decides}

pub lifted_few : (v : ValType) → length (lifted v) ≤ 8
lifted_few I32 = lit≤ tt
lifted_few I64 = lit≤ tt
lifted_few F32 = lit≤ tt
lifted_few F64 = lit≤ tt
lifted_few V128 = lit≤ tt
lifted_few (Ref r) = lit≤ tt

scalar_in : (w : ValType) (p : PrimitiveValType) (k : ℕ) (v : ValType) (rest : List ℕ) → slice_get (lifted w) k ≡ Some p → Some w ≡ Some v
    → ReadsAmong (lifted v) (script_among prims.eq (lifted w) p ++ rest) p rest
scalar_in w p k v rest named e =
    let z : w ≡ v = cc in
    let few : length (lifted w) ≤ 8 = lifted_few w in
    subst (λ x. ReadsAmong (lifted x) (script_among prims.eq (lifted w) p ++ rest) p rest) z
    (among_read prims.eq primitive_Decides (lifted w) p k rest (omega (arith, few)) named)

scalar_read : (p : PrimitiveValType) (v : ValType) (rest : List ℕ) → flat_primitive p ≡ Some v
    → ReadsAmong (lifted v) (script_scalar (Primitive p) ++ rest) p rest
scalar_read prim.Char v rest e = scalar_in I32 prim.Char 0 v rest refl e
scalar_read prim.Bool v rest e = scalar_in I32 prim.Bool 1 v rest refl e
scalar_read prim.S8 v rest e = scalar_in I32 prim.S8 2 v rest refl e
scalar_read prim.U8 v rest e = scalar_in I32 prim.U8 3 v rest refl e
scalar_read prim.S16 v rest e = scalar_in I32 prim.S16 4 v rest refl e
scalar_read prim.U16 v rest e = scalar_in I32 prim.U16 5 v rest refl e
scalar_read prim.S32 v rest e = scalar_in I32 prim.S32 6 v rest refl e
scalar_read prim.U32 v rest e = scalar_in I32 prim.U32 7 v rest refl e
scalar_read prim.S64 v rest e = scalar_in I64 prim.S64 0 v rest refl e
scalar_read prim.U64 v rest e = scalar_in I64 prim.U64 1 v rest refl e
scalar_read prim.F32 v rest e = scalar_in F32 prim.F32 0 v rest refl e
scalar_read prim.F64 v rest e = scalar_in F64 prim.F64 0 v rest refl e
scalar_read prim.String v rest e = absurd (cc)

params_read : (config : Config) → config.max_name_length < 2 ^ 64 → (ns : List (List ℕ)) (vs : List ValType) (fs : List Field) (rest : List ℕ)
    → map (λ p. flat_value p.1) fs ≡ map Some vs
    → AllByRecursion Kebab (map (λ p. p.0) fs) → AreReachable config.max_name_length ns (map (λ p. p.0) fs)
    → ReadsParams config.max_name_length ns vs (script_params config (length ns) fs ++ rest) fs rest
params_read config short ns [] [] rest e k r = no_params
params_read config short ns [] (f ∷ fs) rest e k r = absurd (cc)
params_read config short ns (v ∷ vs) [] rest e k r = absurd (cc)
params_read config short ns (v ∷ vs) ((name, Indexed i) ∷ fs) rest e k r = absurd (cc)
params_read config short ns (v ∷ vs) ((name, Primitive p) ∷ fs) rest e k r =
    let a : List ℕ = script_label config (length ns) name in
    let b : List ℕ = script_scalar (Primitive p) in
    let c : List ℕ = script_params config (length ns + 1) fs in
    let first : flat_primitive p ≡ Some v = cc in
    let more : map (λ (q : Field). flat_value q.1) fs ≡ map Some vs = cc in
    let whole : (a ++ (b ++ c)) ++ rest ≡ a ++ (b ++ (c ++ rest)) = append_assoc a (b ++ c) rest ∙ ap (λ z. a ++ z) (append_assoc b c rest) in
    let C : ℕ → Type 0 = λ count. ReadsParams config.max_name_length (ns ++ name ∷ []) vs (script_params config count fs ++ rest) fs rest in
    let later = subst C (length-append ns (name ∷ [])) (params_read config short (ns ++ name ∷ []) vs fs rest more k.1 r.1) in
    subst (λ z. ReadsParams config.max_name_length ns (v ∷ vs) z ((name, Primitive p) ∷ fs) rest) (sym whole)
    (a_param (new_script_read config.max_name_length ns name (b ++ (c ++ rest)) (omega (arith, short)) k.0 r.0) (scalar_read p v (c ++ rest) first) later)

-- the one result
record ReadsResult (o : Option ComponentValType) (vs : List ValType) (rest : List ℕ) : Type 0 where
  value : ValType
  primitive : PrimitiveValType
  only : vs ≡ value ∷ []
  reads : ReadsAmong (lifted value) (script_result o ++ rest) primitive rest
  is : o ≡ Some (Primitive primitive)

result_read : (o : Option ComponentValType) (vs : List ValType) (rest : List ℕ) → map flat_value (option_to_list o) ≡ map Some vs → length vs ≡ 1
    → ReadsResult o vs rest
result_read o [] rest e one = absurd (omega (arith, one))
result_read o (v ∷ w ∷ vs) rest e one = absurd (omega (arith, one))
result_read None (v ∷ []) rest e one = absurd (cc)
result_read (Some (Indexed i)) (v ∷ []) rest e one = absurd (cc)
result_read (Some (Primitive p)) (v ∷ []) rest e one =
    let first : flat_primitive p ≡ Some v = cc in
    record { value = v; primitive = p; only = refl; reads = scalar_read p v rest first; is = refl }

pub lifted_read : (config : Config) → config.max_name_length < 2 ^ 64 → (core : Function) (s : Signature) (rest : List ℕ) → Flattens s core
    → Named (map (λ p. p.0) s.params)
    → AreReadableNames config (map (λ p. p.0) s.params) → ReadsLiftedType config.max_name_length core (script_lifted config s ++ rest) s rest
lifted_read config short core s rest flat named readable =
    let r = result_read s.result core.1 rest flat.result flat.one in
    subst (λ z. ReadsLiftedType config.max_name_length core z s rest) (sym (append_assoc (script_params config 0 s.params) (script_result s.result) rest))
    (record {
      mid = script_result s.result ++ rest;
      core_result = r.value;
      primitive = r.primitive;
      params = params_read config short [] core.0 s.params (script_result s.result ++ rest) flat.params named.0 readable;
      only = r.only;
      result = r.reads;
      is = r.is;
    })

-- What a script says is read as it, and as nothing else.
pub lifted_scripted : (config : Config) → config.max_name_length < 2 ^ 64 → (core : Function) (s t : Signature) (bytes rest left : List ℕ) → Flattens s core
    → Named (map (λ p. p.0) s.params)
    → AreReadableNames config (map (λ p. p.0) s.params) → bytes ≡ script_lifted config s ++ rest → ReadsLiftedType config.max_name_length core bytes t left
    → (t ≡ s) × (left ≡ rest)
lifted_scripted config short core s t bytes rest left flat named readable begins reads =
    lifted_same (subst (λ z. ReadsLiftedType config.max_name_length core z t left) begins reads) (lifted_read config short core s rest flat named readable)
