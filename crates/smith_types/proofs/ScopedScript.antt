-- What the script of a type says is made of it, and the script is bytes.
use Rattle.std.proofs.Common.{◌≡◌, ℕ, ◌+◌, ◌-◌, ◌^◌, ◌<◌, ◌≤◌, Bool, true, false, List, [], ◌∷◌, ◌++◌, length, refl, sym, ap, ◌∙◌, subst, arith, append_assoc}
use Rattle.std.proofs.Common.{length-append, nat_le, nat_lt, None}
use Rattle.std.proofs.lemmas.List.{length-map, map-append}
use Rattle.std.specs.List.{AllByRecursion}
use Rattle.std.specs.Option.{option_to_list}
use Rattle.smith_input.specs.Kebab.{Kebab}
use Rattle.smith_input.specs.NameScript.{IsReachable}
use Rattle.smith_input.proofs.Loops.{end_read}
use Rattle.smith_input.proofs.Picks.{reads-pick}
use Rattle.smith_input.proofs.Reading.{more_one}
use Rattle.smith_input.specs.Script.{AreBytes, pick}
use Rattle.smith_input.proofs.ScriptBytes.{Small, small_byte, small_end, small_if, small_join, small_more, small_none}
use Rattle.smith_format.specs.declared.config.Config.{Config}
use Rattle.smith_syntax.specs.Entries.{Entry, Decl, Decls, FullEntry, FullDecl, FullDecls, defined, function, component_type, instance_type, decl_count, plain}
use Rattle.smith_syntax.specs.Entries.{plain_decl, plain_decls, core_type_decl, type_decl, type_alias, core_type_alias, import_decl, export_decl, no_decls}
use Rattle.smith_syntax.specs.Entries.{then_decls, keeps_functions, keeps_type, keeps_core_type}
use Rattle.smith_syntax.specs.Marked.{Marked, marked_after, scope_in, scopes_in_marked}
use Rattle.smith_syntax.specs.Scope.{Scope, exported_type, type_named, core_type_named}
use Rattle.smith_syntax.specs.Usable.{OfferedDecl, OfferedDecls, OfferedEntry, OfferedRef}
use Rattle.smith_syntax.specs.TypeLimits.{EntryLimits, DeclLimits, DeclsLimits}
use Rattle.smith_syntax.specs.WellFormed.{FormedEntry, FormedDeclaration, FormedDeclarations, names, import_of, export_of, decl_imports, decl_exports}
use Rattle.smith_syntax.specs.WellFormed.{FormedRef, is_type_eq}
use Rattle.smith_syntax.specs.declared.deftype.ComponentTypeRef.{ComponentTypeRef}
use Rattle.smith_syntax.specs.declared.deftype.ComponentTypeRef.TheVariants as to
use Rattle.smith_types.specs.MadeCore.{named_by_core}
use Rattle.smith_tree.specs.CoreTypeNeeds.{core_cost}
use Rattle.smith_tree.specs.CoreTypeScript.{script_core}
use Rattle.smith_types.proofs.CoreScript.{core_read}
use Rattle.smith_types.proofs.CoreScriptBytes.{small_core}
use Rattle.smith_types.specs.Declarations.{NamedExtern, SoFar, nothing_so_far, after_one, ReadsImportDecl, ReadsExportDecl}
use Rattle.smith_tree.specs.TypeOffers.{uncounted, IsAllowed}
use Rattle.smith_types.specs.Made.{Made, made_component, made_instance, MadeWith, MadeDeclaration, made_import, made_export, made_alias, made_core_type}
use Rattle.smith_types.specs.Made.{made_type, MadeDeclarations, no_more_decls, one_decl}
use Rattle.smith_tree.specs.TypeNeeds.{cost, decl_cost, decls_cost}
use Rattle.smith_tree.specs.ReadableTypes.{IsReadableType, IsReadableDecl, AreReadableDecls}
use Rattle.smith_types.specs.Sayable.{Fit, IsSayable, Lasts, LastsDecl, LastsDecls}
use Rattle.smith_tree.specs.TypeScript.{Taken, none_taken, after_taken, script_alias, script_decl, script_decls, script_declares, script_extern}
use Rattle.smith_tree.specs.TypeScript.{script_declaration_item, script_no_import, script_ref, script_type, script_type_kind}
use Rattle.smith_tree.specs.declared.choices.TypeKind.TheVariants.{Defined, Function, Component, Instance}
use Rattle.smith_tree.specs.declared.choices.DeclarationItem.{DeclarationItem}
use Rattle.smith_tree.specs.declared.choices.DeclarationItem.TheVariants as item
use Rattle.smith_types.proofs.Externs.{names_behind}
use Rattle.smith_types.proofs.MarkedPlain.{after_plain, scope_after}
use Rattle.smith_types.proofs.MadeSame.{made_same}
use Rattle.smith_types.proofs.ReferencesRead.{type_alias_read, core_alias_read, alias_there, item_read, no_import_read, extern_read, export_there, ref_read}
use Rattle.smith_types.proofs.ReferencesRead.{ref_there}
use Rattle.smith_types.proofs.Script.{type_function, type_values, type_kind_read}
use Rattle.smith_types.proofs.ScriptBytes.{small_alias, small_declares, small_defined, small_extern, small_ref, small_signature, small_type_kind}
use Rattle.smith_input.proofs.Lists.{all_front, all_back, one_at_most}
use Rattle.std.proofs.lemmas.Bool.{lt-ltb}

-- names

none_ahead : {A : Type 0} (xs ys : List A) → xs ++ ys ≡ [] → xs ≡ []
none_ahead [] ys h = refl
none_ahead (x ∷ xs) ys h = absurd (cc)

none_behind : {A : Type 0} (xs ys : List A) → xs ++ ys ≡ [] → ys ≡ []
none_behind [] ys h = h
none_behind (x ∷ xs) ys h = absurd (cc)

-- imports or exports whose names are all in kebab case
abbrev pub Kebabs : List (List ℕ × Unit {0}) → Type 0
Kebabs xs = AllByRecursion Kebab (names xs)

pub kebabs_split : (one later : List (List ℕ × Unit {0})) → Kebabs (one ++ later) → Kebabs one × Kebabs later
kebabs_split one later k =
    let both : AllByRecursion Kebab (names one ++ names later) = subst (AllByRecursion Kebab) (map-append (λ x. x.0) one later) k in
    (all_front Kebab (names one) (names later) both, all_back Kebab (names one) (names later) both)

count_behind : (so_far more : List NamedExtern) (one : List (List ℕ × Unit {0})) → names one ≡ names more
    → length so_far + length one ≡ length (so_far ++ more)
count_behind so_far more one same =
    omega (arith, length-append so_far more, ap length same, length-map one (λ x. x.0), length-map more (λ x. x.0))

-- how many there are so far
abbrev taken_by : SoFar → Taken
taken_by s = record { imports = length s.imports; exports = length s.exports }

-- what is imported and exported
record Sayable (importing : Bool) (is es : List (List ℕ × Unit {0})) : Type 0 where
  imports : Kebabs is
  exports : Kebabs es
  own : importing ≡ false → is ≡ []

-- a scope that has no more entries than that many turns added
abbrev pub Holding : ℕ → Marked → Type 0
Holding n own = length own.types + length own.core_types ≤ n

pub after_holding : (outer : List Marked) (n : ℕ) (own : Marked) (d : Decl) → Holding n own → Holding (n + 1) (marked_after d outer own)
after_holding outer n own (core_type_decl t k) h = omega (arith, h, length-append own.core_types (t ∷ []))
after_holding outer n own (type_decl e) h = omega (arith, h, length-append own.types (plain e ∷ []))
after_holding outer n own (type_alias count i k) h =
    let more = type_named (scopes_in_marked (own ∷ outer)) count i in
    omega (arith, h, length-append own.types (option_to_list more), one_at_most more)
after_holding outer n own (core_type_alias count i k) h =
    let more = core_type_named (scopes_in_marked (own ∷ outer)) count i in
    omega (arith, h, length-append own.core_types (option_to_list more), one_at_most more)
after_holding outer n own (import_decl name u r) h = omega (arith, h)
after_holding outer n own (export_decl name u r) h =
    let more = exported_type (scope_in own) r in
    omega (arith, h, length-append own.types (option_to_list more), one_at_most more)

-- an import of no type that is equal to another, and an export, are always allowed within a type
import_allowed : (config : Config) (own : Marked) (r : ComponentTypeRef) → is_type_eq r ≡ false → IsAllowed config own uncounted true true r
import_allowed config own (to.TypeEq i) e = absurd (cc)
import_allowed config own r e = refl

export_allowed : (config : Config) (own : Marked) (r : ComponentTypeRef) → IsAllowed config own uncounted false true r
export_allowed config own (to.TypeEq i) = refl
export_allowed config own r = refl

module _ (config : Config) (short : config.max_name_length < 2 ^ 64) where
  -- what follows the choice of what is declared
  declares_read : (importing : Bool) (outer : List Marked) (own : Marked) (i : DeclarationItem) (said rest : List ℕ) (P : List ℕ → Type 0)
      → P (script_no_import importing own ++ (script_declaration_item config outer own i ++ (said ++ rest)))
      → P ((script_declares config importing own outer i ++ said) ++ rest)
  declares_read importing outer own i said rest P made =
      let a : List ℕ = script_no_import importing own in
      let b : List ℕ = script_declaration_item config outer own i in
      subst P (sym (append_assoc (a ++ b) said rest ∙ append_assoc a b (said ++ rest))) made

  export_read : (s : SoFar) (name rest : List ℕ) (r : ComponentTypeRef) → Holding (2 ^ 64) s.own
      → Kebab name → IsReachable config.max_name_length (names s.exports) name → FormedRef (scope_in s.own) r → OfferedRef s.own false r
      → ReadsExportDecl config s.own s.exports ((script_ref config s.own uncounted false true r ++ script_extern config (length s.exports) name) ++ rest)
      (export_decl name None r) rest
  export_read s name rest r few k made formed offered =
      let of : List ℕ = script_ref config s.own uncounted false true r in
      let said : List ℕ = script_extern config (length s.exports) name in
      subst (λ z. ReadsExportDecl config s.own s.exports z (export_decl name None r) rest) (sym (append_assoc of said rest)) (record {
        mid = said ++ rest;
        to = r;
        named = (name, None);
        of = ref_read config s.own uncounted false true few r (said ++ rest) formed offered refl (export_allowed config s.own r);
        name = extern_read short s.exports name rest k made;
        is = refl;
      })

  import_read : (s : SoFar) (name rest : List ℕ) (r : ComponentTypeRef) → Holding (2 ^ 64) s.own
      → Kebab name → IsReachable config.max_name_length (names s.imports) name → FormedRef (scope_in s.own) r → is_type_eq r ≡ false → OfferedRef s.own true r
      → ReadsImportDecl config s.own s.imports ((pick 4 0 ++ (script_ref config s.own uncounted true true r ++ script_extern config (length s.imports) name))
      ++ rest)
      (import_decl name None r) rest
  import_read s name rest r few k made formed other offered =
      let of : List ℕ = script_ref config s.own uncounted true true r in
      let said : List ℕ = script_extern config (length s.imports) name in
      let whole : (pick 4 0 ++ (of ++ said)) ++ rest ≡ pick 4 0 ++ (of ++ (said ++ rest)) = append_assoc (pick 4 0) (of ++ said) rest
      ∙ ap (λ z. pick 4 0 ++ z) (append_assoc of said rest) in
      subst (λ z. ReadsImportDecl config s.own s.imports z (import_decl name None r) rest) (sym whole) (record {
        mid = of ++ (said ++ rest);
        low = said ++ rest;
        to = r;
        named = (name, None);
        there = ref_there s.own r formed;
        asked = reads-pick 4 0 (of ++ (said ++ rest)) (omega arith) (omega arith);
        of = ref_read config s.own uncounted true true few r (said ++ rest) formed offered refl (import_allowed config s.own r other);
        name = extern_read short s.imports name rest k made;
        is = refl;
      })

  module _ (deep : config.max_nesting_depth ≤ 1000) where
    mutual
      pub full_read : (e : Entry) (own : Marked) (outer : List Marked) (fuel : ℕ) (rest : List ℕ) → FormedEntry e (scope_in own) (scopes_in_marked outer)
          → OfferedEntry e own outer → EntryLimits config e
          → IsReadableType config e → Lasts e config (length (own ∷ outer)) fuel → Fit (own ∷ outer) → length (own ∷ outer) ≤ 1000
          → (full : FullEntry) × (e ≡ plain full) × Made config own outer (script_type e config fuel own outer ++ rest) fuel full rest (fuel - cost e)
          × Small (script_type e config fuel own outer)
      full_read (defined t) own outer fuel rest f o m n l fit few =
          let types : length own.types ≤ 2 ^ 64 = (let z = fit.each.0 in omega (arith, z)) in (
            defined t,
            refl,
            type_values config short own types outer fuel t rest (f, o) n l,
            small_join (small_if (nat_le 2 fuel) (small_type_kind Defined) small_none) (small_defined config short own types t (f, o)),
          )
      full_read (function s) own outer fuel rest f o m n l fit few =
          let types : length own.types ≤ 2 ^ 64 = (let z = fit.each.0 in omega (arith, z)) in (
            function s,
            refl,
            type_function config short own types outer fuel s rest (f, o) n l,
            small_join (small_type_kind Function) (small_signature config short own types outer s (f, o)),
          )
      full_read (component_type ds) own outer fuel rest f o m n l fit few =
          let around : Fit ((nothing_so_far (own ∷ outer)).own ∷ (own ∷ outer)) = record { many = omega (arith, few); each = (omega arith, fit.each) } in
          let said : Sayable true (decl_imports ds) (decl_exports ds) = record { imports = f.1.0; exports = f.2.0; own = λ h. absurd (cc) } in
          let r = decls_read ds true (own ∷ outer) (nothing_so_far (own ∷ outer)) (fuel - 1) 0 rest f.0 o m.1 n l.1 said (omega (arith, m.0)) (omega arith)
          around in
          let left : fuel - 1 - decls_cost ds ≡ fuel - cost (component_type ds) = omega arith in
          let script : List ℕ = script_decls ds config true (fuel - 1) 0 none_taken (nothing_so_far (own ∷ outer)).own (own ∷ outer) in
          let P : List ℕ → Type 0 = λ b. Made config own outer b fuel (component_type r.0) rest (fuel - cost (component_type ds)) in
          let Q : ℕ → Type 0 = λ k. MadeDeclarations config true (own ∷ outer) 0 (nothing_so_far (own ∷ outer)) (script ++ rest) (fuel - 1) r.0 rest k in (
            component_type r.0,
            ap component_type r.1,
            subst P (sym (append_assoc (script_type_kind Component) script rest))
                (made_component (omega (arith, l.0)) (type_kind_read Component 2 (script ++ rest) refl) (subst Q left r.2) refl),
            small_join (small_type_kind Component) r.3,
          )
      full_read (instance_type ds) own outer fuel rest f o m n l fit few =
          let around : Fit ((nothing_so_far (own ∷ outer)).own ∷ (own ∷ outer)) = record { many = omega (arith, few); each = (omega arith, fit.each) } in
          let none : decl_imports ds ≡ [] = f.1 in
          let said : Sayable false (decl_imports ds) (decl_exports ds) = record {
            imports = subst Kebabs (sym none) tt;
            exports = f.2.0;
            own = λ h. none;
          } in
          let r = decls_read ds false (own ∷ outer) (nothing_so_far (own ∷ outer)) (fuel - 1) 0 rest f.0 o m.1 n l.1 said (omega (arith, m.0)) (omega arith)
          around in
          let left : fuel - 1 - decls_cost ds ≡ fuel - cost (instance_type ds) = omega arith in
          let script : List ℕ = script_decls ds config false (fuel - 1) 0 none_taken (nothing_so_far (own ∷ outer)).own (own ∷ outer) in
          let P : List ℕ → Type 0 = λ b. Made config own outer b fuel (instance_type r.0) rest (fuel - cost (instance_type ds)) in
          let Q : ℕ → Type 0 = λ k. MadeDeclarations config false (own ∷ outer) 0 (nothing_so_far (own ∷ outer)) (script ++ rest) (fuel - 1) r.0 rest k in (
            instance_type r.0,
            ap instance_type r.1,
            subst P (sym (append_assoc (script_type_kind Instance) script rest))
                (made_instance (omega (arith, l.0)) (type_kind_read Instance 3 (script ++ rest) refl) (subst Q left r.2) refl),
            small_join (small_type_kind Instance) r.3,
          )

      -- A declaration: it imports and exports what its plain tree does.
      decl_read : (d : Decl) (importing : Bool) (outer : List Marked) (s : SoFar) (fuel : ℕ) (rest : List ℕ)
          → FormedDeclaration d (scope_in s.own) (scopes_in_marked outer)
          → OfferedDecl d outer s.own
          → DeclLimits config d → IsReadableDecl config d (names s.imports) (names s.exports) → LastsDecl d config (length (s.own ∷ outer)) fuel
          → Sayable importing (import_of d) (export_of d) → Holding 100 s.own → Fit (s.own ∷ outer)
          → (full : FullDecl) × (d ≡ plain_decl full) × (names (import_of d) ≡ names (import_of full)) × (names (export_of d) ≡ names (export_of full))
          × MadeDeclaration config importing outer s (script_decl d config importing fuel (taken_by s) s.own outer ++ rest) fuel full rest
          (fuel - decl_cost d) × Small (script_decl d config importing fuel (taken_by s) s.own outer)
      decl_read (core_type_decl t k) importing outer s fuel rest f o m n l said held fit =
          let full : FullDecl = core_type_decl t (keeps_functions (named_by_core s.own.core_types t)) in
          let P : List ℕ → Type 0 = λ b. MadeDeclaration config importing outer s b fuel full rest (fuel - core_cost t) in (
            full,
            refl,
            refl,
            refl,
            declares_read importing outer s.own item.CoreType (script_core config (scope_in s.own) fuel t) rest P
                (made_core_type (no_import_read config s.own importing _) (item_read config outer s.own item.CoreType 2 true _ refl refl)
                (core_read config (scope_in s.own) fuel t rest f m n l (omega (arith, held)) short) refl),
            small_join (small_declares config importing s.own outer item.CoreType)
                (small_core config (scope_in s.own) fuel t f m n l (omega (arith, held)) short),
          )
      decl_read (type_decl e) importing outer s fuel rest f o m n l said held fit =
          let room : nat_lt (length (s.own ∷ outer)) config.max_nesting_depth ≡ true = lt-ltb (length (s.own ∷ outer)) config.max_nesting_depth l.0 in
          let r = full_read e s.own outer fuel rest f o m n l.1 fit (omega (arith, l.0, deep)) in
          let P : List ℕ → Type 0 = λ b. MadeDeclaration config importing outer s b fuel (type_decl r.0) rest (fuel - cost e) in (
            type_decl r.0,
            ap type_decl r.1,
            refl,
            refl,
            declares_read importing outer s.own item.«Type» (script_type e config fuel s.own outer) rest P
                (made_type (no_import_read config s.own importing _) (item_read config outer s.own item.«Type» 3 _ _ refl room) r.2 refl),
            small_join (small_declares config importing s.own outer item.«Type») r.3,
          )
      decl_read (type_alias count i k) importing outer s fuel rest f o m n l said held fit =
          let full : FullDecl = type_alias count i (keeps_type f.0) in
          let there = alias_there (s.own ∷ outer) fit (λ z. z.types) (λ z. omega arith) count i f.0 f.1 in
          let left : fuel - 0 ≡ fuel = omega arith in
          let P : List ℕ → Type 0 = λ b. MadeDeclaration config importing outer s b fuel full rest (fuel - 0) in (
            full,
            refl,
            refl,
            refl,
            declares_read importing outer s.own item.Alias (script_alias (s.own ∷ outer) count (λ z. i)) rest P
                (made_alias (no_import_read config s.own importing _) (item_read config outer s.own item.Alias 1 _ _ refl there)
                (type_alias_read (s.own ∷ outer) fit count i f.0 rest f.1) left),
            small_join (small_declares config importing s.own outer item.Alias)
                (small_alias (λ z. z.types) (λ z. i) (s.own ∷ outer) fit count i f.0 f.1 (λ z h. omega arith)),
          )
      decl_read (core_type_alias count i k) importing outer s fuel rest f o m n l said held fit =
          let full : FullDecl = core_type_alias count i (keeps_core_type f.0) in
          let there = alias_there (s.own ∷ outer) fit (λ z. z.core_types) (λ z. omega arith) count i f.0 f.1 in
          let left : fuel - 0 ≡ fuel = omega arith in
          let P : List ℕ → Type 0 = λ b. MadeDeclaration config importing outer s b fuel full rest (fuel - 0) in (
            full,
            refl,
            refl,
            refl,
            declares_read importing outer s.own item.Alias (script_alias (s.own ∷ outer) count (λ z. length z.types + i)) rest P
                (made_alias (no_import_read config s.own importing _) (item_read config outer s.own item.Alias 1 _ _ refl there)
                (core_alias_read (s.own ∷ outer) fit count i f.0 rest f.1) left),
            small_join (small_declares config importing s.own outer item.Alias)
                (small_alias (λ z. z.core_types) (λ z. length z.types + i) (s.own ∷ outer) fit count i f.0 f.1 (λ z h. omega arith)),
          )
      decl_read (import_decl name u r) true outer s fuel rest f o m n l said held fit =
          let left : fuel - 0 ≡ fuel = omega arith in (
            import_decl name None r,
            refl,
            refl,
            refl,
            made_import refl (import_read s name rest r fit.each.0 said.imports.0 n f.0 f.1 o) left,
            small_join (small_byte 4 0 (omega arith) (omega arith))
                (small_join (small_ref config s.own uncounted true true fit.each.0 r f.0 o) (small_extern config short (length s.imports) name said.imports.0)),
          )
      decl_read (import_decl name u r) false outer s fuel rest f o m n l said held fit = absurd (no_import (said.own refl))
        where
          no_import : {A : Type 0} {x : A} {xs : List A} → x ∷ xs ≡ [] → ⊥
          no_import h = cc
      decl_read (export_decl name u r) importing outer s fuel rest f o m n l said held fit =
          let left : fuel - 0 ≡ fuel = omega arith in
          let full : FullDecl = export_decl name None r in
          let P : List ℕ → Type 0 = λ b. MadeDeclaration config importing outer s b fuel full rest (fuel - 0) in (
            full,
            refl,
            refl,
            refl,
            declares_read importing outer s.own item.Export
                (script_ref config s.own uncounted false true r ++ script_extern config (length s.exports) name) rest P
                (made_export (no_import_read config s.own importing _) (item_read config outer s.own item.Export 0 _ _ refl (export_there s.own r f o))
                (export_read s name rest r fit.each.0 said.exports.0 n f o) left),
            small_join (small_declares config importing s.own outer item.Export)
                (small_join (small_ref config s.own uncounted false true fit.each.0 r f o) (small_extern config short (length s.exports) name said.exports.0)),
          )

      decls_read : (ds : Decls) (importing : Bool) (outer : List Marked) (s : SoFar) (fuel done : ℕ) (rest : List ℕ)
          → FormedDeclarations ds (scope_in s.own) (scopes_in_marked outer)
          → OfferedDecls ds outer s.own
          → DeclsLimits config ds → AreReadableDecls config ds (names s.imports) (names s.exports) → LastsDecls ds config (length (s.own ∷ outer)) fuel
          → Sayable importing (decl_imports ds) (decl_exports ds) → done + decl_count ds ≤ 100 → Holding done s.own → Fit (s.own ∷ outer)
          → (full : FullDecls) × (ds ≡ plain_decls full) × MadeDeclarations config importing outer done s
          (script_decls ds config importing fuel done (taken_by s) s.own outer ++ rest) fuel full rest (fuel - decls_cost ds)
          × Small (script_decls ds config importing fuel done (taken_by s) s.own outer)
      decls_read no_decls importing outer s fuel done rest f o m n l said few held fit =
          (no_decls, refl, no_more_decls (end_read config.loop_bits 0 100 done rest (omega arith) (omega (arith, few))) (omega arith), small_end done 100)
      decls_read (then_decls d ds) importing outer s fuel done rest f o m n l said few held fit =
          let imported = kebabs_split (import_of d) (decl_imports ds) said.imports in
          let exported = kebabs_split (export_of d) (decl_exports ds) said.exports in
          let here : Sayable importing (import_of d) (export_of d) = record {
            imports = imported.0;
            exports = exported.0;
            own = λ h. none_ahead (import_of d) (decl_imports ds) (said.own h);
          } in
          let behind : Sayable importing (decl_imports ds) (decl_exports ds) = record {
            imports = imported.1;
            exports = exported.1;
            own = λ h. none_behind (import_of d) (decl_imports ds) (said.own h);
          } in
          let held_next : ℕ = fuel - 1 - decl_cost d in
          let script : Taken → Marked → List ℕ = λ taken own. script_decls ds config importing held_next (done + 1) taken own outer in
          let taken : Taken = after_taken (taken_by s) d in
          let place : Marked = marked_after d outer s.own in
          let later : List ℕ = script taken place in
          let one = decl_read d importing outer s (fuel - 1) (later ++ rest) f.0 o.0 m.0 n.0 l.1 here (omega (arith, held, few)) fit in
          let next : SoFar = after_one outer s one.0 in
          let same : place ≡ next.own = ap (λ z. marked_after z outer s.own) one.1 ∙ after_plain outer s.own one.0 in
          let imports : names s.imports ++ names (import_of d) ≡ names next.imports = names_behind s.imports (import_of one.0) (import_of d) one.2 in
          let exports : names s.exports ++ names (export_of d) ≡ names next.exports = names_behind s.exports (export_of one.0) (export_of d) one.3 in
          let readable : AreReadableDecls config ds (names next.imports) (names next.exports) =
          subst (λ z. AreReadableDecls config ds (names next.imports) z) exports
          (subst (λ z. AreReadableDecls config ds z (names s.exports ++ names (export_of d))) imports n.1) in
          let counts : taken ≡ taken_by next = λ i. record {
            imports = count_behind s.imports (import_of one.0) (import_of d) one.2 i;
            exports = count_behind s.exports (export_of one.0) (export_of d) one.3 i;
          } in
          let F : Scope → Type 0 = λ z. FormedDeclarations ds z (scopes_in_marked outer) in
          let formed : F (scope_in next.own) = subst F (sym (scope_after outer s.own d) ∙ ap scope_in same) f.1 in
          let offered : OfferedDecls ds outer next.own = subst (λ z. OfferedDecls ds outer z) same o.1 in
          let holds : Holding (done + 1) next.own = subst (Holding (done + 1)) same (after_holding outer done s.own d held) in
          let around : Fit (next.own ∷ outer) = record { many = fit.many; each = (omega (arith, holds, few), fit.each.1) } in
          let more = decls_read ds importing outer next held_next (done + 1) rest formed offered m.1 readable l.2 behind (omega (arith, few)) holds around in
          let left : held_next - decls_cost ds ≡ fuel - decls_cost (then_decls d ds) = omega arith in
          let whole : script (taken_by next) next.own ≡ later = λ i. script (sym counts i) (sym same i) in
          let M : List ℕ → Type 0 =
          λ z. MadeDeclarations config importing outer (done + 1) next (z ++ rest) held_next more.0 rest (held_next - decls_cost ds) in
          let N : ℕ → Type 0 = λ k. MadeDeclarations config importing outer (done + 1) next (later ++ rest) held_next more.0 rest k in
          let made : N (fuel - decls_cost (then_decls d ds)) = subst N left (subst M whole more.2) in
          let said_one : List ℕ = script_decl d config importing (fuel - 1) (taken_by s) s.own outer in
          let P : List ℕ → Type 0 = λ b. MadeDeclarations config importing outer done s (1 ∷ b) fuel (then_decls one.0 more.0) rest
          (fuel - decls_cost (then_decls d ds)) in (
            then_decls one.0 more.0,
            λ i. then_decls (one.1 i) (more.1 i),
            subst P (sym (append_assoc said_one later rest))
                (one_decl (more_one (said_one ++ (later ++ rest)) (omega (arith, few)) (omega arith)) (omega (arith, l.0)) one.4 made),
            small_more 1 (omega arith) (small_join one.5 (subst Small whole more.3)),
          )

    -- What the script of a type says is made of it, and the rest is left.
    pub type_read : (own : Marked) (outer : List Marked) (fuel : ℕ) (e : Entry) (rest : List ℕ) → IsSayable config own outer fuel e
        → MadeWith config own outer fuel (script_type e config fuel own outer ++ rest) e rest
    type_read own outer fuel e rest said =
        let r = full_read e own outer fuel rest said.formed said.offered said.limits said.readable said.lasts said.fit said.shallow in
        record { full = r.0; left = fuel - cost e; made = r.2; shown = r.1 }

    -- What a script says is made of it, and nothing else.
    pub type_scripted : (own : Marked) (outer : List Marked) (fuel left : ℕ) (e : Entry) (full : FullEntry) (bytes rest remains : List ℕ)
        → IsSayable config own outer fuel e → bytes ≡ script_type e config fuel own outer ++ rest
        → Made config own outer bytes fuel full remains left → (plain full ≡ e) × (remains ≡ rest)
    type_scripted own outer fuel left e full bytes rest remains said begins made =
        let read = type_read own outer fuel e rest said in
        let P : List ℕ → Type 0 = λ z. Made config own outer z fuel full remains left in
        let d = made_same (subst P begins made) read.made in
        (ap plain d.value ∙ sym read.shown, d.rest)

-- The script of a type that can be said is bytes.
pub type_bytes : (config : Config) (own : Marked) (outer : List Marked) (fuel : ℕ) (e : Entry) → config.max_nesting_depth ≤ 1000
    → IsSayable config own outer fuel e → AreBytes (script_type e config fuel own outer)
type_bytes config own outer fuel e deep said =
    (full_read config said.names deep e own outer fuel [] said.formed said.offered said.limits said.readable said.lasts said.fit said.shallow).3.are
