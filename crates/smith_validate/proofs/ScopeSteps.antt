-- Types that are added to a scope, by what is kept of them.
use Rattle.std.proofs.Common.{◌≡◌, ℕ, ◌+◌, Bool, true, false, List, [], ◌∷◌, ◌++◌, length, map, reverse, subst, sym}
use Rattle.std.proofs.Common.{ap, ◌∙◌, refl, arith, append-nil, Option, Some, None}
use Rattle.std.proofs.lemmas.List.{map-append}
use Rattle.std.proofs.lemmas.Option.{get_or_from_slice_get, slice_get-map, unwrap_or-slice_get}
use Rattle.std.specs.Option.{option_map, option_to_list, unwrap_or}
use Rattle.std.specs.Prelude.{slice_get, get_or, if◌then◌else◌}
use Rattle.smith_input.specs.NewNames.{is_among}
use Rattle.smith_syntax.specs.Scope.{with_type, with_types}
use Rattle.smith_syntax.specs.declared.deftype.ComponentTypeRef.{ComponentTypeRef}
use Rattle.smith_syntax.specs.declared.deftype.ComponentTypeRef.TheVariants as to
use Rattle.smith_tree.specs.Bodies.{equal_extern, equal_facts, exported_facts, externs_at}
use Rattle.smith_tree.specs.Counts.{Counts, with_type_count}
use Rattle.smith_tree.specs.Facts.{FactScope, Facts, Id, id_at, needs, sizes}
use Rattle.smith_tree.specs.Validates.{names_of}
use Rattle.smith_validate.specs.Bodies.{IsIn}
use Rattle.smith_validate.specs.Instances.{AreKept, Surface, IsKept, IsNumbered, IsTable, ScopesKept, reach_of}
use Rattle.smith_syntax.specs.Sizes.{capped}
use Rattle.smith_validate.specs.Kept.{kept_core, kept_in, kept_of, own_in}
use Rattle.smith_validate.specs.Marks.{Covers, named_facts, named_needs}
use Rattle.smith_validate.specs.declared.facts.Facts.{Facts as KeptFacts}
use Rattle.smith_validate.specs.declared.known.Known.{Known}
use Rattle.smith_validate.specs.declared.known.Scope.{Scope}
use Rattle.smith_validate.proofs.Covering.{covers_here, covers_named}
use Rattle.smith_validate.proofs.Names.{Sub}
use Rattle.smith_validate.proofs.Tables.{kept_by}
use Rattle.smith_validate.proofs.Zips.{zip_append, zip_map}

module _ {A B : Type 0} (f : A → B) where
  -- what something is kept of
  pub record Found (o : Option A) (y : B) : Type 0 where
    pub item : A
    pub is : o ≡ Some item
    pub value : y ≡ f item

  pub kept_none : (o : Option A) → None ≡ option_map f o → o ≡ None
  kept_none None e = refl
  kept_none (Some x) e = absurd (let z : None ≡ Some (f x) = e in cc)

  pub kept_some : (o : Option A) (y : B) → Some y ≡ option_map f o → Found o y
  kept_some None y e = absurd (let z : Some y ≡ None = e in cc)
  kept_some (Some x) y e = let z : Some y ≡ Some (f x) = e in record { item = x; is = refl; value = cc }

-- the size of the type with that index

module _ (ts : List Facts) (i d : ℕ) where
  pub size_found : (n : ℕ) → Some n ≡ slice_get (map (λ f. capped f.size) ts) i → n ≡ capped (get_or (sizes ts) i d)
  size_found n e =
      let found = kept_some (λ (f : Facts). capped f.size) (slice_get ts i) n (e ∙ slice_get-map (λ f. capped f.size) ts i) in
      let at : slice_get (sizes ts) i ≡ Some found.item.size = slice_get-map (λ f. f.size) ts i ∙ ap (λ o. option_map (λ (f : Facts). f.size) o) found.is in
      found.value ∙ ap capped (sym (get_or_from_slice_get (sizes ts) i found.item.size d at))

  pub size_missing : None ≡ slice_get (map (λ f. capped f.size) ts) i → get_or (sizes ts) i d ≡ d
  size_missing e =
      let none = kept_none (λ (f : Facts). capped f.size) (slice_get ts i) (e ∙ slice_get-map (λ f. capped f.size) ts i) in
      let at : slice_get (sizes ts) i ≡ None = slice_get-map (λ f. f.size) ts i ∙ ap (λ o. option_map (λ (f : Facts). f.size) o) none in
      sym (unwrap_or-slice_get (sizes ts) i d) ∙ ap (λ o. unwrap_or o d) at

pub with_none : (own : FactScope) → kept_of (with_types own []) ≡ kept_of own
with_none own = ap (λ ts. kept_of (record own { types = ts })) (append-nil own.types)

pub with_one : (own : FactScope) (f : Facts) → kept_of (with_types own (f ∷ [])) ≡ with_type (kept_of own) (capped f.size)
with_one own f = ap (λ ns. record { types = ns; core_types = map kept_core own.core_types }) (map-append (λ g. capped g.size) own.types (f ∷ []))

pub count_none : (c : Counts) → c ≡ with_type_count c 0
count_none c = let e : c.types ≡ c.types + 0 = omega arith in ap (λ n. record c { types = n }) e

-- the scopes are what they were, except for what is named

reach_equal : (table : List Surface) (i : Option ℕ) (id : Id) (f : Facts) → reach_of table i f ≡ reach_of table i (equal_facts id f)
reach_equal table None id f = refl
reach_equal table (Some n) id f = refl

numbered_equal : (table : List Surface) (i : Option ℕ) (id : Id) (f : Facts) → IsNumbered table i f → IsNumbered table i (equal_facts id f)
numbered_equal table None id f n = n
numbered_equal table (Some m) id f n = n

module _ (table : List Surface) (here there : List Id) (names : List (List Id)) (sub : Sub here there) where
  pub are_kept_here : (ks : List KeptFacts) (fs : List Facts) → AreKept table (here ∷ names) ks fs → AreKept table (there ∷ names) ks fs
  are_kept_here =
      zip_map (IsKept table (here ∷ names)) (IsKept table (there ∷ names))
      (kept_by table (here ∷ names) (there ∷ names) (covers_here here there names sub))

  -- a type that is equal to that one, and is named
  pub kept_named : (k : KeptFacts) (f : Facts) (id : Id) → IsKept table (here ∷ names) k f → is_among there id ≡ true
      → IsKept table (there ∷ names) (named_facts k (length names)) (equal_facts id f)
  kept_named k f id i h = record {
    nominal_is = i.nominal_is;
    needs_are = by_sort k.nominal f.nominal i.nominal_is;
    refers_are = subst (λ ids. Covers (there ∷ names) k.refers ids) (reach_equal table k.instance id f)
        (covers_here here there names sub k.refers (reach_of table k.instance f) i.refers_are);
    instance_is = numbered_equal table k.instance id f i.instance_is;
  }
    where
      of_sort : (x : Bool) → f.nominal ≡ x
          → Covers (there ∷ names) (if x then named_needs (length names) else k.needs) (if x then id ∷ [] else f.refers)
      of_sort true e = covers_named there names id h
      of_sort false e =
          covers_here here there names sub k.needs f.refers
          (subst (λ b. Covers (here ∷ names) k.needs (if b then f.id ∷ [] else f.refers)) e i.needs_are)

      by_sort : (x y : Bool) → x ≡ y → Covers (there ∷ names) (if k.nominal then named_needs (length names) else k.needs)
          (if f.nominal then id ∷ [] else f.refers)
      by_sort x y e =
          subst (λ b. Covers (there ∷ names) (if b then named_needs (length names) else k.needs) (if f.nominal then id ∷ [] else f.refers))
          (sym i.nominal_is) (of_sort f.nominal refl)

-- one more type, or none
module _ (k : Known) (own : FactScope) (outer : List FactScope) (here there : List Id) (names : List (List Id)) (table : List Surface)
    (s : IsIn k own outer here names table) (sub : Sub here there) where
  pub in_none : (fs : List Facts) → fs ≡ [] → IsIn k (with_types own fs) outer there names table
  in_none fs e = record {
    own_is = s.own_is ∙ (sym (with_none own) ∙ ap (λ gs. kept_of (with_types own gs)) (sym e));
    outer_is = s.outer_is;
    types_are = (
      subst (λ gs. AreKept table (there ∷ names) k.scopes.own.types.items gs) (sym (append-nil own.types) ∙ ap (λ gs. own.types ++ gs) (sym e))
          (are_kept_here table here there names sub k.scopes.own.types.items own.types s.types_are.0),
      s.types_are.1,
    );
    instances_are = s.instances_are;
    depth_is = s.depth_is;
  }

  module _ (new : Known) (outers : new.scopes.outer.items ≡ k.scopes.outer.items) (instances : new.instances.items ≡ k.instances.items) where
    pub in_one : (fs : List Facts) (f : Facts) (kf : KeptFacts) → fs ≡ f ∷ [] → own_in new ≡ with_type (own_in k) kf.size → kf.size ≡ capped f.size
        → new.scopes.own.types.items ≡ k.scopes.own.types.items ++ kf ∷ [] → IsKept table (there ∷ names) kf f
        → IsIn new (with_types own fs) outer there names table
    in_one fs f kf e sizes same types kept = record {
      own_is = sizes ∙ (ap (λ x. with_type x kf.size) s.own_is
          ∙ (ap (λ m. with_type (kept_of own) m) same ∙ (sym (with_one own f) ∙ ap (λ gs. kept_of (with_types own gs)) (sym e))));
      outer_is = ap (λ os. reverse (map kept_in os)) outers ∙ s.outer_is;
      types_are = (
        subst (λ gs. AreKept table (there ∷ names) new.scopes.own.types.items (own.types ++ gs)) (sym e)
            (subst (λ ks. AreKept table (there ∷ names) ks (own.types ++ f ∷ [])) (sym types)
            (zip_append (IsKept table (there ∷ names)) k.scopes.own.types.items (kf ∷ []) own.types (f ∷ [])
            (are_kept_here table here there names sub k.scopes.own.types.items own.types s.types_are.0) (kept, tt))),
        subst (λ os. ScopesKept table names (reverse (map (λ o. o.types.items) os)) outer) (sym outers) s.types_are.1,
      );
      instances_are = subst (λ ts. IsTable ts table) (sym instances) s.instances_are;
      depth_is = s.depth_is ∙ ap (λ (os : List Scope). length os) (sym outers);
    }

module _ (own : FactScope) (outer : List FactScope) (i : ℕ) where
  pub exported_none : slice_get own.types i ≡ None → exported_facts own outer (to.TypeEq i) ≡ []
  exported_none e = ap (λ o. map (equal_facts (id_at (own ∷ outer))) (option_to_list o)) e

  pub exported_one : (f : Facts) → slice_get own.types i ≡ Some f → exported_facts own outer (to.TypeEq i) ≡ equal_facts (id_at (own ∷ outer)) f ∷ []
  exported_one f e = ap (λ o. map (equal_facts (id_at (own ∷ outer))) (option_to_list o)) e

  pub named_one : (f : Facts) → slice_get own.types i ≡ Some f → names_of (externs_at own outer (to.TypeEq i)) ≡ id_at (own ∷ outer) ∷ []
  named_one f e = ap (λ o. names_of (map (equal_extern (id_at (own ∷ outer))) (option_to_list o))) e

-- What is not a type adds none.
pub none_exported : (own : FactScope) (outer : List FactScope) (r : ComponentTypeRef) → ((i : ℕ) → r ≡ to.TypeEq i → ⊥) → exported_facts own outer r ≡ []
none_exported own outer (to.TypeEq i) h = absurd (h i refl)
none_exported own outer _ h = refl

-- the size that is kept of a type
pub size_at : (k : Known) (own : FactScope) (i n : ℕ) (f : Facts) → own_in k ≡ kept_of own → Some n ≡ slice_get (own_in k).types i
    → slice_get own.types i ≡ Some f
    → n ≡ capped f.size
size_at k own i n f same e at =
    let all : Some n ≡ Some (capped f.size) =
    e ∙ (ap (λ o. slice_get o.types i) same
    ∙ (slice_get-map (λ g. capped g.size) own.types i ∙ ap (λ o. option_map (λ (g : Facts). capped g.size) o) at)) in cc
