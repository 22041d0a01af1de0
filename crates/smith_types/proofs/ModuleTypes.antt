-- Module types that grow by one declaration after another: that they are well formed, and within the limits.
use Rattle.std.proofs.Common.{◌≡◌, ℕ, ◌+◌, ◌<◌, ◌≤◌, Bool, true, false, List, [], ◌∷◌, ◌++◌, map, length, refl, sym, ap, ◌∙◌, subst, arith, append-nil}
use Rattle.std.proofs.Common.{length-append, bytes_eq}
use Rattle.std.proofs.lemmas.Bool.{false≢true}
use Rattle.std.proofs.lemmas.Grind.{flat_map-append}
use Rattle.std.proofs.lemmas.List.{map-append}
use Rattle.std.proofs.lemmas.List.Elements.{filter-append}
use Rattle.std.proofs.lemmas.Slice.Eq.{bytes_eq-Decides}
use Rattle.std.specs.List.{AllByRecursion, Contains, filter, flat_map}
use Rattle.std.specs.Option.{option_to_list}
use Rattle.std.specs.Prelude.{Some, nat_eq, if◌then◌else◌}
use Rattle.smith_input.specs.NewNames.{is_among}
use Rattle.smith_format.specs.CoreFormed.{FormedFunction}
use Rattle.smith_format.specs.CoreTypes.{Function}
use Rattle.smith_format.specs.Entities.{kind_byte, kind_of}
use Rattle.smith_format.specs.Limits.{configured, max_results}
use Rattle.smith_format.specs.declared.config.Config.{Config}
use Rattle.smith_format.specs.declared.types.EntityType.{EntityType}
use Rattle.smith_format.specs.declared.types.ExportKind.{ExportKind}
use Rattle.smith_format.specs.declared.types.ExportKind.TheVariants as kind
use Rattle.smith_format.specs.declared.types.ValType.TheVariants.{I32}
use Rattle.smith_syntax.specs.CoreLimits.{EntityLimits}
use Rattle.smith_syntax.specs.Entries.{CoreEntry, ModuleDecl, imports, declares, aliases, exports}
use Rattle.smith_types.specs.MakingCore.{own_after}
use Rattle.smith_syntax.specs.ModuleTypes.{adds, aliased, alias_of, func_of, module_import_of, module_export_of, declared_in, type_count, entities_of}
use Rattle.smith_syntax.specs.ModuleTypes.{entities_in, is_of_kind, count_of_kind, names_from, module_export_names, HasNewNames, realloc, free}
use Rattle.smith_syntax.specs.WellFormed.{FormedDecl, FormedDecls}
use Rattle.smith_input.proofs.DistinctNames.{AreNew, new_distinct, new_more}
use Rattle.smith_input.proofs.Lists.{all_both}

-- declarations in two parts

pub names_both : (from : List ℕ) (xs ys : List ModuleDecl) → names_from from (xs ++ ys) ≡ names_from from xs ++ names_from from ys
names_both from xs ys =
    ap (λ is. map (λ i. i.1) (filter (λ i. bytes_eq i.0 from) is)) (flat_map-append module_import_of xs ys)
    ∙ (ap (map (λ i. i.1)) (filter-append (λ i. bytes_eq i.0 from) (flat_map module_import_of xs) (flat_map module_import_of ys))
    ∙ map-append (λ i. i.1) (filter (λ i. bytes_eq i.0 from) (flat_map module_import_of xs))
    (filter (λ i. bytes_eq i.0 from) (flat_map module_import_of ys)))

pub exports_both : (xs ys : List ModuleDecl) → module_export_names (xs ++ ys) ≡ module_export_names xs ++ module_export_names ys
exports_both xs ys =
    ap (map (λ x. x.0)) (flat_map-append module_export_of xs ys) ∙ map-append (λ x. x.0) (flat_map module_export_of xs) (flat_map module_export_of ys)

pub count_both : (k : ExportKind) (xs ys : List ModuleDecl) → count_of_kind k (xs ++ ys) ≡ count_of_kind k xs + count_of_kind k ys
count_both k xs ys =
    ap (λ es. length (filter (is_of_kind k) es)) (flat_map-append entities_in xs ys)
    ∙ (ap length (filter-append (is_of_kind k) (entities_of xs) (entities_of ys))
    ∙ length-append (filter (is_of_kind k) (entities_of xs)) (filter (is_of_kind k) (entities_of ys)))

pub types_both : (xs ys : List ModuleDecl) → type_count (xs ++ ys) ≡ type_count xs + type_count ys
types_both xs ys =
    let f = ap length (flat_map-append func_of xs ys) ∙ length-append (flat_map func_of xs) (flat_map func_of ys) in
    let a = ap length (flat_map-append alias_of xs ys) ∙ length-append (flat_map alias_of xs) (flat_map alias_of ys) in
    omega (arith, f, a)

-- one more declaration

pub own_more : (around : List CoreEntry) (own : List Function) (ds : List ModuleDecl) (d : ModuleDecl)
    → own_after around own (ds ++ d ∷ []) ≡ own_after around own ds ++ adds around (own_after around own ds) d
own_more around own [] d = refl
own_more around own (e ∷ ds) d = own_more around (own ++ adds around own e) ds d

decls_more : (around : List CoreEntry) (own : List Function) (ds : List ModuleDecl) (d : ModuleDecl) → FormedDecls around own ds
    → FormedDecl around (own_after around own ds) d → FormedDecls around own (ds ++ d ∷ [])
decls_more around own [] d all one = (one, tt)
decls_more around own (e ∷ ds) d all one = (all.0, decls_more around (own ++ adds around own e) ds d all.1 one)

-- the name of a declaration is new
abbrev pub HasNewName : List ModuleDecl → ModuleDecl → Type 0
HasNewName ds (imports m n e) = is_among (names_from m ds) n ≡ false
HasNewName ds (exports n e) = is_among (module_export_names ds) n ≡ false
HasNewName ds d = Unit {0}

-- well formed so far, these being the own types
pub record Judged (around : List CoreEntry) (own : List Function) (ds : List ModuleDecl) : Type 0 where
  pub formed : FormedDecls around [] ds
  pub types : own ≡ own_after around [] ds
  pub imported : (from : List ℕ) → AreNew [] (names_from from ds)
  pub exported : AreNew [] (module_export_names ds)

none_more : (names : List (List ℕ)) → AreNew [] names → AreNew [] (names ++ [])
none_more names a = subst (AreNew []) (sym (append-nil names)) a

import_cases : (m n : List ℕ) (e : EntityType) (from : List ℕ) (ds : List ModuleDecl) → is_among (names_from m ds) n ≡ false → AreNew [] (names_from from ds)
    → (b : Bool) → bytes_eq m from ≡ b
    → AreNew [] (names_from from ds ++ map (λ (i : List ℕ × List ℕ × EntityType). i.1) (if b then (m, n, e) ∷ [] else []))
import_cases m n e from ds new a true same = new_more [] (names_from from ds) n a
    (subst (λ z. is_among (names_from z ds) n ≡ false) ((bytes_eq-Decides m from).0 same) new)
import_cases m n e from ds new a false same = none_more (names_from from ds) a

import_new : (ds : List ModuleDecl) (d : ModuleDecl) (from : List ℕ) → HasNewName ds d → AreNew [] (names_from from ds)
    → AreNew [] (names_from from ds ++ names_from from (d ∷ []))
import_new ds (imports m n e) from new a = import_cases m n e from ds new a (bytes_eq m from) refl
import_new ds d from new a = none_more (names_from from ds) a

export_new : (ds : List ModuleDecl) (d : ModuleDecl) → HasNewName ds d → AreNew [] (module_export_names ds)
    → AreNew [] (module_export_names ds ++ module_export_names (d ∷ []))
export_new ds (exports n e) new a = new_more [] (module_export_names ds) n a new
export_new ds d new a = none_more (module_export_names ds) a

pub judged_more : (around : List CoreEntry) (own : List Function) (ds : List ModuleDecl) (d : ModuleDecl) → Judged around own ds → FormedDecl around own d
    → HasNewName ds d → Judged around (own ++ adds around own d) (ds ++ d ∷ [])
judged_more around own ds d j one new = record {
  formed = decls_more around [] ds d j.formed (subst (λ z. FormedDecl around z d) j.types one);
  types = ap (λ z. z ++ adds around z d) j.types ∙ sym (own_more around [] ds d);
  imported = λ from. subst (AreNew []) (sym (names_both from ds (d ∷ []))) (import_new ds d from new (j.imported from));
  exported = subst (AreNew []) (sym (exports_both ds (d ∷ []))) (export_new ds d new j.exported);
}

pub judged_names : (around : List CoreEntry) (own : List Function) (ds : List ModuleDecl) → Judged around own ds → HasNewNames ds
judged_names around own ds j = record {
  imported = λ from. new_distinct [] (names_from from ds) (j.imported from);
  exported = new_distinct [] (module_export_names ds) j.exported;
}

-- within the limits

-- how many of a kind there may be
abbrev pub limit_of : Config → ExportKind → ℕ
limit_of config kind.Func = config.max_funcs
limit_of config kind.Table = config.max_tables
limit_of config kind.Memory = config.max_memories
limit_of config kind.Global = config.max_globals
limit_of config kind.Tag = config.max_tags

same_kind : (j k : ExportKind) → nat_eq (kind_byte j) (kind_byte k) ≡ true → j ≡ k
same_kind kind.Func kind.Func e = refl
same_kind kind.Table kind.Table e = refl
same_kind kind.Memory kind.Memory e = refl
same_kind kind.Global kind.Global e = refl
same_kind kind.Tag kind.Tag e = refl
same_kind j k e = absurd (false≢true e)

-- there is room for one more of its kind, and a global is of the configured value types
abbrev pub EntityFits : Config → List ModuleDecl → EntityType → Type 0
EntityFits config ds e = EntityLimits config e × (count_of_kind (kind_of e) ds < limit_of config (kind_of e))

-- a declaration after these, of which these are the own types
abbrev pub DeclFits : Config → List CoreEntry → List Function → List ModuleDecl → ModuleDecl → Type 0
DeclFits config around own ds (imports m n e) = EntityFits config ds e
DeclFits config around own ds (declares f) = FormedFunction (configured config) (max_results config) f × (length own < config.max_types)
DeclFits config around own ds (aliases count i) = ((f : Function) × (aliased around own count i ≡ Some f)) × (length own < config.max_types)
DeclFits config around own ds (exports n e) = EntityFits config ds e

module _ (config : Config) where
  pub record Within (own : List Function) (ds : List ModuleDecl) : Type 0 where
    pub functions : AllByRecursion (FormedFunction (configured config) (max_results config)) (declared_in ds)
    pub values : AllByRecursion (EntityLimits config) (entities_of ds)
    pub types : type_count ds ≡ length own
    pub few : length own ≤ config.max_types
    pub counts : (k : ExportKind) → count_of_kind k ds ≤ limit_of config k

  -- what one declaration adds
  record Adds (around : List CoreEntry) (own : List Function) (ds : List ModuleDecl) (d : ModuleDecl) : Type 0 where
    functions : AllByRecursion (FormedFunction (configured config) (max_results config)) (declared_in (d ∷ []))
    values : AllByRecursion (EntityLimits config) (entities_of (d ∷ []))
    types : length (adds around own d) ≡ type_count (d ∷ [])
    few : length own + length (adds around own d) ≤ config.max_types
    counts : (k : ExportKind) → count_of_kind k ds + count_of_kind k (d ∷ []) ≤ limit_of config k

  count_cases : (e : EntityType) (ds : List ModuleDecl) (k : ExportKind) → count_of_kind (kind_of e) ds < limit_of config (kind_of e)
      → count_of_kind k ds ≤ limit_of config k → (b : Bool) → is_of_kind k e ≡ b
      → count_of_kind k ds + length (if b then e ∷ [] else []) ≤ limit_of config k
  count_cases e ds k room few true same =
      let here = subst (λ z. count_of_kind z ds < limit_of config z) (same_kind (kind_of e) k same) room in omega (arith, here)
  count_cases e ds k room few false same = omega (arith, few)

  module _ (around : List CoreEntry) (own : List Function) (ds : List ModuleDecl) (w : Within own ds) where
    decl_adds : (d : ModuleDecl) → DeclFits config around own ds d → Adds around own ds d
    decl_adds (imports m n e) fits = record {
      functions = tt;
      values = (fits.0, tt);
      types = refl;
      few = omega (arith, w.few);
      counts = λ k. count_cases e ds k fits.1 (w.counts k) (is_of_kind k e) refl;
    }
    decl_adds (declares f) fits = record {
      functions = (fits.0, tt);
      values = tt;
      types = refl;
      few = omega (arith, fits.1);
      counts = λ k. omega (arith, w.counts k);
    }
    decl_adds (aliases count i) fits =
        let one : length (adds around own (aliases count i)) ≡ 1 = ap (λ o. length (option_to_list o ++ [])) fits.0.1 in
        record { functions = tt; values = tt; types = one; few = omega (arith, fits.1, one); counts = λ k. omega (arith, w.counts k) }
    decl_adds (exports n e) fits = record {
      functions = tt;
      values = (fits.0, tt);
      types = refl;
      few = omega (arith, w.few);
      counts = λ k. count_cases e ds k fits.1 (w.counts k) (is_of_kind k e) refl;
    }

    grown_within : (d : ModuleDecl) → Adds around own ds d → Within (own ++ adds around own d) (ds ++ d ∷ [])
    grown_within d a =
        let one : List ModuleDecl = d ∷ [] in
        let long = length-append own (adds around own d) in
        record {
          functions = subst (AllByRecursion (FormedFunction (configured config) (max_results config))) (sym (flat_map-append func_of ds one))
              (all_both _ (declared_in ds) (declared_in one) w.functions a.functions);
          values = subst (AllByRecursion (EntityLimits config)) (sym (flat_map-append entities_in ds one))
              (all_both (EntityLimits config) (entities_of ds) (entities_of one) w.values a.values);
          types = let v = w.types in omega (arith, types_both ds one, v, a.types, long);
          few = omega (arith, a.few, long);
          counts = λ k. omega (arith, count_both k ds one, a.counts k);
        }

    pub within_more : (d : ModuleDecl) → DeclFits config around own ds d → Within (own ++ adds around own d) (ds ++ d ∷ [])
    within_more d fits = grown_within d (decl_adds d fits)

  pub within_none : Within [] []
  within_none = record { functions = tt; values = tt; types = refl; few = omega arith; counts = λ k. omega arith }

  has_i32 : Contains (configured config) I32
  has_i32 = (0, omega arith, refl)

  one_result : (b : Bool) → 1 ≤ (if b then 20 else 1)
  one_result true = omega arith
  one_result false = omega arith

  pub realloc_fits : FormedFunction (configured config) (max_results config) realloc
  realloc_fits = record {
    few_params = omega arith;
    few_results = one_result config.multi_value_enabled;
    params = (has_i32, (has_i32, (has_i32, (has_i32, tt))));
    results = (has_i32, tt);
  }

  pub free_fits : FormedFunction (configured config) (max_results config) free
  free_fits = record { few_params = omega arith; few_results = omega arith; params = (has_i32, (has_i32, (has_i32, tt))); results = tt }
