-- What entries become, if they remain.
use Rattle.std.proofs.Common.{◌≡◌, ℕ, ◌≤◌, true, List, [], ◌∷◌, ◌++◌, Option, None, Some, length, map, ap, sym, refl, subst, ◌∙◌, arith}
use Rattle.std.proofs.lemmas.List.{map-id}
use Rattle.std.specs.List.{AllByRecursion}
use Rattle.std.specs.Option.{option_map, option_to_list}
use Rattle.smith_input.specs.Kebab.{Kebab}
use Rattle.smith_format.specs.CoreTypes.{Function}
use Rattle.smith_syntax.specs.Entries.{Case, CoreEntry, DefValType, Entry, Field, Signature, function}
use Rattle.smith_syntax.specs.Entries.{primitive_type, record_type, variant_type, list_type, tuple_type, option_type, result_type}
use Rattle.smith_syntax.specs.Flat.{is_scalar}
use Rattle.smith_syntax.specs.ModuleTypes.{func_in, is_tag_type}
use Rattle.smith_syntax.specs.Scope.{Scope, is_component, is_core_module, is_defined, is_func, is_instance}
use Rattle.smith_syntax.specs.WellFormed.{FormedDefined, FormedMaybe, FormedVal, Named}
use Rattle.smith_syntax.specs.declared.types.ComponentValType.{ComponentValType}
use Rattle.smith_syntax.specs.declared.types.ComponentValType.TheVariants.{Primitive, Indexed}
use Rattle.smith_edit.specs.Edited.{case_edited, defined_edited, field_edited, left_of, members, optional_edited, value_edited}
use Rattle.smith_edit.specs.Removal.{past, removes}
use Rattle.smith_edit.specs.Renumbering.{Renumbering}
use Rattle.smith_edit.specs.declared.walk.Removal.{Removal}
use Rattle.smith_edit.specs.declared.renumbering.Fate.{Fate}
use Rattle.smith_edit.specs.declared.renumbering.Fate.TheVariants.{Kept}
use Rattle.smith_edit.specs.declared.walk.Scope.{Scope as Spaces}
use Rattle.smith_edit.proofs.Shorter.{left_is, members_fewer}
use Rattle.smith_edit.proofs.Follows.{Follows, index_follows}
use Rattle.smith_edit.proofs.Perhaps.{Perhaps, either, gives, mapped, more, nothing}
use Rattle.smith_edit.proofs.Sublists.{Sub, keep, named_sub, none, skip}

-- A type remains of its kind.
pub record Alike (f : Fate) (x y : Entry) : Type 0 where
  pub of_values : is_defined y ≡ is_defined x
  pub of_functions : is_func y ≡ is_func x
  pub of_components : is_component y ≡ is_component x
  pub of_instances : is_instance y ≡ is_instance x

-- A type of functions of scalars that is kept is the same.
pub record Same (f : Fate) (x y : Entry) : Type 0 where
  pub same : f ≡ Kept → (g : Signature) → x ≡ function g → is_scalar g ≡ true → y ≡ function g

-- A core function type without results remains so.
pub record AlikeFunction (f : Fate) (x y : Function) : Type 0 where
  pub tag : is_tag_type x ≡ true → is_tag_type y ≡ true

-- A core type remains of its kind.
pub record AlikeCore (f : Fate) (x y : CoreEntry) : Type 0 where
  pub of_module : is_core_module y ≡ is_core_module x
  pub func : (g : Function) → func_in (Some x) ≡ Some g → (h : Function) × (func_in (Some y) ≡ Some h) × AlikeFunction f g h

pub record ScopeFollows (s : Spaces) (old new : Scope) : Type 0 where
  pub types : Follows Alike s.types old.types new.types
  pub core_types : Follows AlikeCore s.core_types old.core_types new.core_types

-- members

module _ {A N : Type 0} (edited : A → Option A) (name : A → N) (P Q : A → Type 0)
    (each : (x : A) → P x → Perhaps (λ y. (name y ≡ name x) × Q y) (edited x)) where
  first_formed : {o : Option A} (n : N) → Perhaps (λ y. (name y ≡ n) × Q y) o → (ys : List A) (ns : List N)
      → Sub (map name ys) ns × AllByRecursion Q ys
      → Sub (map name (option_to_list o ++ ys)) (n ∷ ns) × AllByRecursion Q (option_to_list o ++ ys)
  first_formed n (nothing why) ys ns h = (skip n (map name ys) ns h.0, h.1)
  first_formed n (gives y k) ys ns h = (subst (λ m. Sub (m ∷ map name ys) (n ∷ ns)) (sym k.0) (keep n (map name ys) ns h.0), (k.1, h.1))

  pub members_formed : (r : Removal) (xs : List A) → AllByRecursion P xs
      → Sub (map name (members edited r xs)) (map name xs) × AllByRecursion Q (members edited r xs)
  members_formed r [] all = (none, tt)
  members_formed r (x ∷ xs) all =
      first_formed (name x) (either (removes r) (nothing tt) (each x all.0)) (members edited (past 1 r) xs) (map name xs)
      (members_formed (past 1 r) xs all.1)

-- values

module _ (s : Renumbering) (own next : Scope) (follows : Follows Alike s own.types next.types) where
  pub formed_value : (v : ComponentValType) → FormedVal own v → Perhaps (FormedVal next) (value_edited s v)
  formed_value (Primitive p) h = gives (Primitive p) tt
  formed_value (Indexed i) h =
      mapped Indexed (λ j f. (f.1, f.2, f.3.of_values ∙ h.2)) (index_follows Alike s own.types next.types follows i h.0 h.1)

  formed_field : (f : Field) → FormedVal own f.1 → Perhaps (λ g. (g.0 ≡ f.0) × FormedVal next g.1) (field_edited s f)
  formed_field f h = mapped (λ v. (f.0, v)) (λ v k. (refl, k)) (formed_value f.1 h)

  formed_case : (c : Case) → FormedMaybe own c.1 → Perhaps (λ d. (d.0 ≡ c.0) × FormedMaybe next d.1) (case_edited s c)
  formed_case (name, None) h = gives (name, None) (refl, tt)
  formed_case (name, Some v) h = mapped (λ w. (name, Some w)) (λ w k. (refl, k)) (formed_value v h)

  maybe_by : {o : Option ComponentValType} → Perhaps (FormedVal next) o → FormedMaybe next o
  maybe_by (nothing why) = tt
  maybe_by (gives w h) = h

  pub formed_optional : (r : Removal) (o : Option ComponentValType) → FormedMaybe own o → FormedMaybe next (optional_edited s r o)
  formed_optional r None h = tt
  formed_optional r (Some v) h = maybe_by (either (removes r) (nothing tt) (formed_value v h))

  pub formed_fields : (r : Removal) (fs : List Field) → AllByRecursion (λ f. FormedVal own f.1) fs
      → Sub (map (λ f. f.0) (members (field_edited s) r fs)) (map (λ f. f.0) fs)
      × AllByRecursion (λ f. FormedVal next f.1) (members (field_edited s) r fs)
  formed_fields = members_formed (field_edited s) (λ f. f.0) (λ f. FormedVal own f.1) (λ f. FormedVal next f.1) formed_field

  -- the members of a compound type, of which at most that many may be there
  compound : {A : Type 0} (type : List A → DefValType) (edited : A → Option A) (Q : List A → Type 0) (r : Removal) (xs : List A) (n : ℕ)
      → (1 ≤ length xs) × (length xs ≤ n) → Q (members edited r xs)
      → ((z : List A) → Q z → (1 ≤ length z) × (length z ≤ n) → FormedDefined (type z) next)
      → Perhaps (λ u. FormedDefined u next) (option_map type (left_of xs (members edited r xs)))
  compound type edited Q r xs n h all make =
      mapped type
      (λ z k.
      let same = ap length k.0 in
      make z (subst Q (sym k.0) all) (k.1 h.0, omega (arith, h.1, same, members_fewer edited r xs)))
      (left_is xs (members edited r xs))

  formed_labels : (type : List (List ℕ) → DefValType) (n : ℕ)
      → ((ns : List (List ℕ)) → Named ns × (1 ≤ length ns) × (length ns ≤ n) → FormedDefined (type ns) next)
      → (r : Removal) (ns : List (List ℕ)) → Named ns × (1 ≤ length ns) × (length ns ≤ n)
      → Perhaps (λ u. FormedDefined u next) (option_map type (left_of ns (members Some r ns)))
  formed_labels type n make r ns h =
      let kept = members_formed Some (λ m. m) Kebab Kebab (λ m k. gives m (refl, k)) r ns h.0.0 in
      let sub = subst (λ xs. Sub xs ns) (map-id (members Some r ns)) (subst (λ xs. Sub (map (λ m. m) (members Some r ns)) xs) (map-id ns) kept.0) in
      compound type Some Named r ns n (h.1, h.2) (named_sub (members Some r ns) ns sub h.0) (λ z named long. make z (named, long.0, long.1))

  pub formed_defined : (r : Removal) (t : DefValType) → FormedDefined t own → Perhaps (λ u. FormedDefined u next) (defined_edited s r t)
  formed_defined r (primitive_type p) h = gives (primitive_type p) tt
  formed_defined r (record_type fs) h =
      let kept = formed_fields r fs h.1 in
      compound record_type (field_edited s) (λ z. Named (map (λ f. f.0) z) × AllByRecursion (λ f. FormedVal next f.1) z) r fs 100 (h.2, h.3)
      (named_sub _ _ kept.0 h.0, kept.1) (λ z all long. (all.0, all.1, long.0, long.1))
  formed_defined r (variant_type cs) h =
      let kept = members_formed (case_edited s) (λ c. c.0) (λ c. FormedMaybe own c.1) (λ c. FormedMaybe next c.1) formed_case r cs h.1 in
      compound variant_type (case_edited s) (λ z. Named (map (λ c. c.0) z) × AllByRecursion (λ c. FormedMaybe next c.1) z) r cs 100 (h.2, h.3)
      (named_sub _ _ kept.0 h.0, kept.1) (λ z all long. (all.0, all.1, long.0, long.1))
  formed_defined r (list_type v) h = mapped list_type (λ w k. k) (formed_value v h)
  formed_defined r (tuple_type vs) h =
      let kept = members_formed (value_edited s) (λ v. tt {0}) (FormedVal own) (FormedVal next) (λ v k. more (λ w l. (refl, l)) (formed_value v k)) r vs h.0 in
      compound tuple_type (value_edited s) (AllByRecursion (FormedVal next)) r vs 100 (h.1, h.2) kept.1 (λ z all long. (all, long.0, long.1))
  formed_defined r (option_type v) h = mapped option_type (λ w k. k) (formed_value v h)
  formed_defined r (result_type ok err) h =
      gives _ (formed_optional r ok h.0, formed_optional (past (length (option_to_list ok)) r) err h.1)
  formed_defined r t h = formed_labels _ _ (λ ms k. k) r _ h
