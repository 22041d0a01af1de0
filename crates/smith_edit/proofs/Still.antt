-- Where nothing is removed, and nothing is known, all stays as it is.
use Rattle.std.proofs.Common.{◌≡◌, ℕ, zero, suc, List, [], ◌∷◌, ◌++◌, Option, Some, None, ap, refl, ◌∙◌}
use Rattle.std.specs.Option.{option_map, option_to_list}
use Rattle.smith_format.specs.CoreTypes.{Function}
use Rattle.smith_format.specs.declared.types.EntityType.{EntityType}
use Rattle.smith_format.specs.declared.types.EntityType.TheVariants as entity
use Rattle.smith_syntax.specs.Entries.{Case, DefValType, Field, ModuleDecl, aliases, declares, exports, imports}
use Rattle.smith_syntax.specs.Entries.{core_type_alias, export_decl, import_decl, type_alias}
use Rattle.smith_syntax.specs.Entries.{primitive_type, record_type, variant_type, list_type, tuple_type, option_type, result_type}
use Rattle.smith_syntax.specs.declared.deftype.ComponentTypeRef.{ComponentTypeRef}
use Rattle.smith_syntax.specs.declared.deftype.ComponentTypeRef.TheVariants as to
use Rattle.smith_syntax.specs.declared.types.ComponentValType.{ComponentValType}
use Rattle.smith_syntax.specs.declared.types.ComponentValType.TheVariants.{Primitive, Indexed}
use Rattle.smith_tree.specs.Tree.{Canon, lift}
use Rattle.smith_edit.specs.Edited.{canon_edited, case_edited, decl_edited, defined_edited, entity_edited, field_edited, function_edited}
use Rattle.smith_edit.specs.Edited.{left_of, members, module_decl_edited, optional_edited, ref_edited, value_edited}
use Rattle.smith_edit.specs.Renumbering.{from}
use Rattle.smith_edit.specs.Walk.{Walk, aliased_core_type, aliased_type, new_scope, shown_walk, still}
use Rattle.smith_edit.specs.declared.walk.Removal.TheVariants.{Nothing}
use Rattle.smith_edit.specs.declared.walk.Walk.{Walk as Inside}

-- members

members_still : {A : Type 0} (f : A → Option A) → ((x : A) → f x ≡ Some x) → (xs : List A) → members f Nothing xs ≡ xs
members_still f h [] = refl
members_still f h (x ∷ xs) = ap (λ o. option_to_list o ++ members f Nothing xs) (h x) ∙ ap (λ ys. x ∷ ys) (members_still f h xs)

left_still : {A : Type 0} (xs ys : List A) → ys ≡ xs → left_of xs ys ≡ Some xs
left_still [] ys e = ap Some e
left_still (x ∷ xs) ys e = rw e refl

all_left : {A : Type 0} (f : A → Option A) → ((x : A) → f x ≡ Some x) → (xs : List A) → left_of xs (members f Nothing xs) ≡ Some xs
all_left f h xs = left_still xs (members f Nothing xs) (members_still f h xs)

value_still : (v : ComponentValType) → value_edited (from 0) v ≡ Some v
value_still (Primitive p) = refl
value_still (Indexed i) = refl

field_still : (f : Field) → field_edited (from 0) f ≡ Some f
field_still (name, v) = ap (option_map (λ w. (name, w))) (value_still v)

case_still : (c : Case) → case_edited (from 0) c ≡ Some c
case_still (name, None) = refl
case_still (name, Some v) = ap (option_map (λ w. (name, Some w))) (value_still v)

optional_still : (o : Option ComponentValType) → optional_edited (from 0) Nothing o ≡ o
optional_still None = refl
optional_still (Some v) = value_still v

type_still : (t : DefValType) → defined_edited (from 0) Nothing t ≡ Some t
type_still (primitive_type p) = refl
type_still (record_type fs) = ap (option_map record_type) (all_left (field_edited (from 0)) field_still fs)
type_still (variant_type cs) = ap (option_map variant_type) (all_left (case_edited (from 0)) case_still cs)
type_still (list_type v) = ap (option_map list_type) (value_still v)
type_still (tuple_type vs) = ap (option_map tuple_type) (all_left (value_edited (from 0)) value_still vs)
type_still (option_type v) = ap (option_map option_type) (value_still v)
type_still (result_type ok err) =
    ap (λ o. Some (result_type o (optional_edited (from 0) Nothing err))) (optional_still ok)
    ∙ ap (λ o. Some (result_type ok o)) (optional_still err)
type_still t = ap (option_map _) (all_left Some (λ n. refl) _)

pub defined_still : (w : Inside) → shown_walk w ≡ still → (t : DefValType)
    → defined_edited w.scopes.own.types w.removal t ≡ Some t
defined_still w e t = ap (λ (v : Walk). defined_edited v.own.types v.removal t) e ∙ type_still t

-- core types, and canonical functions

function_still : (f : Function) → function_edited Nothing f ≡ f
function_still (ps, rs) =
    ap (λ xs. (xs, members Some Nothing rs)) (members_still Some (λ x. refl) ps)
    ∙ ap (λ ys. (ps, ys)) (members_still Some (λ x. refl) rs)

entity_still : (e : EntityType) → entity_edited (from 0) e ≡ Some e
entity_still (entity.Func i) = refl
entity_still e = refl

core_alias_still : (count i : ℕ) → aliased_core_type still count i ≡ Some i
core_alias_still zero i = refl
core_alias_still (suc n) i = refl

decl_still : (d : ModuleDecl) → module_decl_edited still d ≡ Some d
decl_still (declares f) = ap (λ g. Some (declares g)) (function_still f)
decl_still (imports m n e) = ap (option_map (imports m n)) (entity_still e)
decl_still (aliases count i) = ap (option_map (aliases count)) (core_alias_still count i)
decl_still (exports n e) = ap (option_map (exports n)) (entity_still e)

pub module_still : (w : Walk) → w ≡ still → (d : ModuleDecl) → module_decl_edited w d ≡ Some d
module_still w e d = ap (λ v. module_decl_edited v d) e ∙ decl_still d

func_still : (f : Canon) → canon_edited still f ≡ Some f
func_still (lift c t) = refl
func_still f = refl

pub canon_still : (w : Walk) → w ≡ still → (f : Canon) → canon_edited w f ≡ Some f
canon_still w e f = ap (λ v. canon_edited v f) e ∙ func_still f

-- declarations

alias_still : (count i : ℕ) → aliased_type still count i ≡ Some i
alias_still zero i = refl
alias_still (suc n) i = refl

ref_still : (r : ComponentTypeRef) → ref_edited new_scope r ≡ Some r
ref_still (to.Module i) = refl
ref_still r = refl

module _ (w : Walk) (e : w ≡ still) where
  pub type_alias_still : (count i : ℕ) (k : Unit {0}) → decl_edited (type_alias count i k) w ≡ Some (type_alias count i k)
  type_alias_still count i k = rw e (ap (option_map (λ j. type_alias count j k)) (alias_still count i))

  pub core_type_alias_still : (count i : ℕ) (k : Unit {0}) → decl_edited (core_type_alias count i k) w ≡ Some (core_type_alias count i k)
  core_type_alias_still count i k = rw e (ap (option_map (λ j. core_type_alias count j k)) (core_alias_still count i))

  pub import_still : (name : List ℕ) (n : Unit {0}) (r : ComponentTypeRef) → decl_edited (import_decl name n r) w ≡ Some (import_decl name n r)
  import_still name n r = rw e (ap (option_map (import_decl name n)) (ref_still r))

  pub export_still : (name : List ℕ) (n : Unit {0}) (r : ComponentTypeRef) → decl_edited (export_decl name n r) w ≡ Some (export_decl name n r)
  export_still name n r = rw e (ap (option_map (export_decl name n)) (ref_still r))

pub ruleset decls_still = (type_alias_still, core_type_alias_still, import_still, export_still)
