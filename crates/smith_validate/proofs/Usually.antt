-- What is well formed meets what is asked beside.
use Rattle.std.proofs.Common.{arith, ◌≡◌, ◌⊎◌, inl, inr, ℕ, Bool, true, false, List, [], ◌∷◌, ◌++◌, map, fold}
use Rattle.std.proofs.Common.{refl, sym, ap, ◌∙◌, subst, append_assoc, append-nil, Option, None, Some}
use Rattle.std.proofs.lemmas.List.Sums.{fold-append}
use Rattle.std.specs.List.{AllByRecursion, AllZip, flat_map}
use Rattle.std.specs.Option.{option_to_list}
use Rattle.std.specs.Prelude.{slice_get}
use Rattle.smith_tree.proofs.Components.{spaces_added}
use Rattle.smith_input.proofs.Lists.{all_both}
use Rattle.smith_syntax.specs.Entries.{Case, CoreEntry, DefValType, Entry, Field, ImportEntry, component_type, defined, function, instance_type, plain}
use Rattle.smith_syntax.specs.Entries.{list_type, option_type, record_type, result_type, tuple_type, variant_type}
use Rattle.smith_syntax.specs.Entries.{Decl, Decls, type_decl, type_alias, import_decl, export_decl, no_decls, then_decls}
use Rattle.smith_syntax.specs.Scope.{Scope, after_decl as scope_after, empty_scope, is_defined, type_named, with_type}
use Rattle.smith_syntax.specs.WellFormed.{FormedDeclaration, FormedDeclarations, FormedDefined, FormedEntry, FormedMaybe, FormedTypes, FormedVal, decl_imports}
use Rattle.smith_syntax.specs.declared.deftype.ComponentTypeRef.{ComponentTypeRef}
use Rattle.smith_syntax.specs.declared.deftype.ComponentTypeRef.TheVariants as to
use Rattle.smith_syntax.specs.declared.types.ComponentValType.{ComponentValType}
use Rattle.smith_syntax.specs.declared.types.ComponentValType.TheVariants.{Primitive, Indexed}
use Rattle.smith_tree.specs.Spaces.{Spaces, after_canon as spaces_after_canon, after_export as spaces_after_export, after_import as spaces_after_import}
use Rattle.smith_tree.specs.Spaces.{after_part as spaces_after, no_spaces, spaces_of, types_of}
use Rattle.smith_tree.specs.Tree.{Canon, ExportEntry, Part, Tree, add, canons, component, core_types, ends, exports, first, imports, lift}
use Rattle.smith_tree.specs.Tree.{lower, types as types_part}
use Rattle.smith_tree.specs.WellFormed.{Formed, FormedImport, FormedPart, WellFormed, scope_of}
use Rattle.smith_tree.specs.Bodies.{Body, after_decl, after_export, after_import, core_facts, empty_body, equal_facts, facts, named_in, with_core_facts}
use Rattle.smith_tree.specs.Bodies.{with_facts}
use Rattle.smith_tree.specs.Facts.{FactScope, Facts, Id, members}
use Rattle.smith_tree.specs.Validates.{after_canon, after_cores, after_entries, after_part, exported_reference, exported_references, imported_references}
use Rattle.smith_validate.specs.Usual.{AreUsualDecls, AreUsualEntries, AreUsualParts, IsOfValues, IsUsual, IsUsualDecl, IsUsualEntry, IsUsualImport}
use Rattle.smith_validate.specs.Usual.{IsUsualPart}
use Rattle.smith_validate.proofs.Zips.{beside, zip_append, zip_at, zip_within}

-- A type of values exports nothing.
abbrev Kind : Entry → Facts → Type 0
Kind e f = is_defined e ≡ true → f.exports ≡ []

abbrev Kinds : List Entry → List Facts → Type 0
Kinds es fs = AllZip Kind es fs

abbrev Scopes : List Scope → List FactScope → Type 0
Scopes ws ss = AllZip (λ w s. Kinds w.types s.types) ws ss

kinds_equal : (id : Id) (es : List Entry) (fs : List Facts) → Kinds es fs → Kinds es (map (equal_facts id) fs)
kinds_equal id [] [] k = tt
kinds_equal id [] (f ∷ fs) k = absurd k
kinds_equal id (e ∷ es) [] k = absurd k
kinds_equal id (e ∷ es) (f ∷ fs) k = (k.0, kinds_equal id es fs k.1)

kinds_none : (es : List Entry) (fs : List Facts) → Kinds es fs → Kinds (es ++ []) (fs ++ [])
kinds_none es fs k = subst (λ us. Kinds us (fs ++ [])) (sym (append-nil es)) (subst (λ vs. Kinds es vs) (sym (append-nil fs)) k)

kind_of : (e : Entry) (own : FactScope) (outer : List FactScope) → Kind (plain e) (facts e own outer)
kind_of (instance_type ds) own outer h = absurd (let z : false ≡ true = h in cc)
kind_of _ own outer h = refl

kind_entry : (e : Entry) (own : FactScope) (outer : List FactScope) → Kind e (facts e own outer)
kind_entry (instance_type ds) own outer h = absurd (let z : false ≡ true = h in cc)
kind_entry _ own outer h = refl

-- Value types.
module _ (w : Scope) (types : List Facts) (k : Kinds w.types types) where
  value_usual : (v : ComponentValType) → FormedVal w v → IsOfValues types v
  value_usual (Primitive p) f = tt
  value_usual (Indexed i) f = λ g s.
      let b = beside Kind w.types types i f.0 k (sym f.1) in
      let same : Some b.item ≡ Some g = sym b.at ∙ s in
      let is : b.item ≡ g = cc in
      subst (λ (h : Facts). h.exports ≡ []) is (b.is f.2)

  maybe_usual : (v : Option ComponentValType) → FormedMaybe w v → AllByRecursion (IsOfValues types) (option_to_list v)
  maybe_usual None f = tt
  maybe_usual (Some v) f = (value_usual v f, tt)

  fields_usual : (fs : List Field) → AllByRecursion (λ f. FormedVal w f.1) fs → AllByRecursion (IsOfValues types) (map (λ f. f.1) fs)
  fields_usual [] f = tt
  fields_usual (x ∷ fs) f = (value_usual x.1 f.0, fields_usual fs f.1)

  cases_usual : (cs : List Case) → AllByRecursion (λ c. FormedMaybe w c.1) cs → AllByRecursion (IsOfValues types) (flat_map (λ c. option_to_list c.1) cs)
  cases_usual [] f = tt
  cases_usual (c ∷ cs) f = all_both (IsOfValues types) (option_to_list c.1) (flat_map (λ x. option_to_list x.1) cs) (maybe_usual c.1 f.0) (cases_usual cs f.1)

  values_usual : (vs : List ComponentValType) → AllByRecursion (FormedVal w) vs → AllByRecursion (IsOfValues types) vs
  values_usual [] f = tt
  values_usual (v ∷ vs) f = (value_usual v f.0, values_usual vs f.1)

  defined_usual : (t : DefValType) → FormedDefined t w → AllByRecursion (IsOfValues types) (members t)
  defined_usual (record_type fs) f = fields_usual fs f.1
  defined_usual (variant_type cs) f = cases_usual cs f.1
  defined_usual (list_type v) f = (value_usual v f, tt)
  defined_usual (tuple_type vs) f = values_usual vs f.0
  defined_usual (option_type v) f = (value_usual v f, tt)
  defined_usual (result_type ok err) f = all_both (IsOfValues types) (option_to_list ok) (option_to_list err) (maybe_usual ok f.0) (maybe_usual err f.1)
  defined_usual _ f = tt

-- the scope after a declaration
decl_scopes : (d : Decl) (w : Scope) (ws : List Scope) (outer : List FactScope) (b : Body) → Scopes (w ∷ ws) (b.own ∷ outer)
    → Kinds (scope_after ws w d).types (after_decl d outer b).own.types
decl_scopes (type_decl e) w ws outer b s =
    zip_append Kind w.types (plain e ∷ []) b.own.types (facts e b.own outer ∷ []) s.0 (kind_of e b.own outer, tt)
decl_scopes (type_alias count i k) w ws outer b s =
    zip_append Kind w.types (option_to_list (type_named (w ∷ ws) count i)) b.own.types (option_to_list (named_in (λ o. o.types) (b.own ∷ outer) count i)) s.0
    (zip_within Kind (λ (v : Scope). v.types) (λ (o : FactScope). o.types) (w ∷ ws) (b.own ∷ outer) count i s)
decl_scopes (export_decl name n (to.Module i)) w ws outer b s = kinds_none w.types b.own.types s.0
decl_scopes (export_decl name n (to.Func i)) w ws outer b s = kinds_none w.types b.own.types s.0
decl_scopes (export_decl name n (to.TypeEq i)) w ws outer b s = grind (arith, zip_append, kinds_equal, zip_at)
decl_scopes (export_decl name n (to.Component i)) w ws outer b s = kinds_none w.types b.own.types s.0
decl_scopes (export_decl name n (to.Instance i)) w ws outer b s = kinds_none w.types b.own.types s.0
decl_scopes _ w ws outer b s = s.0

-- Imports are of a component type, or there are none.
abbrev MayImport : Bool → Decls → Type 0
MayImport asks ds = (asks ≡ true) ⊎ (decl_imports ds ≡ [])

rest_imports : (asks : Bool) (d : Decl) (ds : Decls) → MayImport asks (then_decls d ds) → MayImport asks ds
rest_imports asks (import_decl name n r) ds m = elim m [ inl a ↦ inl a | inr e ↦ absurd (let z : (name, n) ∷ decl_imports ds ≡ [] = e in cc) ]
rest_imports asks _ ds m = m

mutual
  entry_usual : (e : Entry) (w : Scope) (ws : List Scope) (own : FactScope) (outer : List FactScope) → Scopes (w ∷ ws) (own ∷ outer) → FormedEntry e w ws
      → IsUsualEntry e own outer
  entry_usual (defined t) w ws own outer s f = defined_usual w own.types s.0 t f
  entry_usual (function g) w ws own outer s f = grind (arith, all_both, fields_usual, maybe_usual)
  entry_usual (component_type ds) w ws own outer s f = decls_usual true ds empty_scope (w ∷ ws) (own ∷ outer) empty_body (tt, s) f.0 (inl refl)
  entry_usual (instance_type ds) w ws own outer s f = decls_usual false ds empty_scope (w ∷ ws) (own ∷ outer) empty_body (tt, s) f.0 (inr f.1)

  decl_usual : (asks : Bool) (d : Decl) (ds : Decls) (w : Scope) (ws : List Scope) (outer : List FactScope) (b : Body) → Scopes (w ∷ ws) (b.own ∷ outer)
      → FormedDeclaration d w ws → MayImport asks (then_decls d ds) → IsUsualDecl asks d outer b
  decl_usual asks (type_decl e) ds w ws outer b s f m = entry_usual e w ws b.own outer s f
  decl_usual asks (import_decl name n r) ds w ws outer b s f m =
      (elim m [ inl a ↦ a | inr e ↦ absurd (let z : (name, n) ∷ decl_imports ds ≡ [] = e in cc) ], f.1)
  decl_usual asks _ ds w ws outer b s f m = tt

  decls_usual : (asks : Bool) (ds : Decls) (w : Scope) (ws : List Scope) (outer : List FactScope) (b : Body) → Scopes (w ∷ ws) (b.own ∷ outer)
      → FormedDeclarations ds w ws → MayImport asks ds → AreUsualDecls asks ds outer b
  decls_usual asks no_decls w ws outer b s f m = tt
  decls_usual asks (then_decls d ds) w ws outer b s f m = (
    decl_usual asks d ds w ws outer b s f.0 m,
    decls_usual asks ds (scope_after ws w d) ws outer (after_decl d outer b) (decl_scopes d w ws outer b s, s.1) f.1 (rest_imports asks d ds m),
  )

entries_usual : (es : List Entry) (w : Scope) (ws : List Scope) (outer : List FactScope) (b : Body) → Scopes (w ∷ ws) (b.own ∷ outer) → FormedTypes es w ws
    → AreUsualEntries es outer b
entries_usual [] w ws outer b s f = tt
entries_usual (e ∷ es) w ws outer b s f =
    let one = zip_append Kind w.types (e ∷ []) b.own.types (facts e b.own outer ∷ []) s.0 (kind_entry e b.own outer, tt) in (
      entry_usual e w ws b.own outer s f.0,
      entries_usual es (with_type w e) ws outer (with_facts b (facts e b.own outer ∷ [])) (one, s.1) f.1,
    )

entries_scopes : (es : List Entry) (us : List Entry) (outer : List FactScope) (b : Body) → Kinds us b.own.types
    → Kinds (us ++ es) (after_entries es outer b).own.types
entries_scopes [] us outer b k = subst (λ ts. Kinds ts b.own.types) (sym (append-nil us)) k
entries_scopes (e ∷ es) us outer b k =
    subst (λ ts. Kinds ts (after_entries (e ∷ es) outer b).own.types) (append_assoc us (e ∷ []) es)
    (entries_scopes es (us ++ e ∷ []) outer (with_facts b (facts e b.own outer ∷ []))
    (zip_append Kind us (e ∷ []) b.own.types (facts e b.own outer ∷ []) k (kind_entry e b.own outer, tt)))

-- what adds no type

canons_kept : (fs : List Canon) (s : Spaces) → (fold spaces_after_canon s fs).types ≡ s.types
canons_kept [] s = refl
canons_kept (lift c t ∷ fs) s = canons_kept fs (spaces_after_canon s (lift c t))
canons_kept (lower f ∷ fs) s = canons_kept fs (spaces_after_canon s (lower f))

imports_kept : (is : List ImportEntry) (s : Spaces) → (fold spaces_after_import s is).types ≡ s.types
imports_kept [] s = refl
imports_kept (i ∷ is) s = imports_kept is (spaces_after_import s i)

exports_kept : (es : List ExportEntry) (s : Spaces) → (fold spaces_after_export s es).types ≡ s.types
exports_kept [] s = refl
exports_kept (e ∷ es) s = exports_kept es (spaces_after_export s e)

imports_own : (rs : List ComponentTypeRef) (outer : List FactScope) (b : Body) → (fold (after_import outer) b rs).own.types ≡ b.own.types
imports_own [] outer b = refl
imports_own (r ∷ rs) outer b = imports_own rs outer (after_import outer b r)

reference_own : (o : Option ℕ) (outer : List FactScope) (b : Body)
    → (fold (after_export outer) b (map (λ t. to.Func t) (option_to_list o))).own.types ≡ b.own.types
reference_own None outer b = refl
reference_own (Some t) outer b = append-nil b.own.types

exports_own : (es : List ExportEntry) (s : Spaces) (outer : List FactScope) (b : Body)
    → (fold (after_export outer) b (exported_references s es)).own.types ≡ b.own.types
exports_own [] s outer b = refl
exports_own (e ∷ es) s outer b =
    let mid = fold (after_export outer) b (exported_reference s e) in
    ap (λ (x : Body). x.own.types) (fold-append (after_export outer) b (exported_reference s e) (exported_references (spaces_after_export s e) es))
    ∙ (exports_own es (spaces_after_export s e) outer mid ∙ reference_own (slice_get s.functions e.func) outer b)

imports_usual : (w : Scope) (is : List ImportEntry) → AllByRecursion (FormedImport w) is → AllByRecursion (IsUsualImport true) (imported_references is)
imports_usual w [] f = tt
imports_usual w (i ∷ is) f = ((refl, f.0.1), imports_usual w is f.1)

cores_own : (es : List CoreEntry) (b : Body) → (after_cores es b).own.types ≡ b.own.types
cores_own [] b = refl
cores_own (e ∷ es) b = cores_own es (with_core_facts b (core_facts e b.own ∷ []))

canons_own : (fs : List Canon) (b : Body) → (fold after_canon b fs).own.types ≡ b.own.types
canons_own [] b = refl
canons_own (f ∷ fs) b = canons_own fs (after_canon b f)

-- the scope after a part
part_scopes : (p : Part) (s : Spaces) (t : Spaces) (outer : List FactScope) (b : Body) → Kinds t.types b.own.types
    → Kinds (spaces_after t p).types (after_part p s outer b).own.types
part_scopes (core_types ts) s t outer b k = subst (λ fs. Kinds t.types fs) (sym (cores_own ts b)) k
part_scopes (types_part ts) s t outer b k = entries_scopes ts t.types outer b k
part_scopes (canons fs) s t outer b k = grind (arith, canons_kept, canons_own)
part_scopes (imports is) s t outer b k = grind (arith, imports_kept, imports_own)
part_scopes (exports es) s t outer b k = grind (arith, exports_kept, exports_own)
part_scopes _ s t outer b k = k

mutual
  parts_usual : (t : Tree) (ws : List Scope) (before : Tree) (s : Spaces) (outer : List FactScope) (b : Body)
      → Scopes (scope_of before ∷ ws) (b.own ∷ outer) → Formed t ws before → AreUsualParts t s outer b
  parts_usual ends ws before s outer b k f = tt
  parts_usual (first p t) ws before s outer b k f =
      let then : Kinds (types_of (add before p)) (after_part p s outer b).own.types =
      subst (λ (z : Spaces). Kinds z.types (after_part p s outer b).own.types) (sym (spaces_added before p))
      (part_scopes p s (spaces_of before) outer b k.0) in (
        part_usual p ws before s outer b k f.0,
        parts_usual t ws (add before p) (spaces_after s p) outer (after_part p s outer b) (then, k.1) f.1,
      )

  part_usual : (p : Part) (ws : List Scope) (before : Tree) (s : Spaces) (outer : List FactScope) (b : Body)
      → Scopes (scope_of before ∷ ws) (b.own ∷ outer) → FormedPart p ws before → IsUsualPart p s outer b
  part_usual (component t) ws before s outer b k f = parts_usual t (scope_of before ∷ ws) ends no_spaces (b.own ∷ outer) empty_body (tt, k) f
  part_usual (types_part ts) ws before s outer b k f = entries_usual ts (scope_of before) ws outer b k f
  part_usual (imports is) ws before s outer b k f = imports_usual (scope_of before) is f.0
  part_usual _ ws before s outer b k f = tt

pub formed_usual : (t : Tree) → WellFormed t → IsUsual t
formed_usual t f = parts_usual t [] ends no_spaces [] empty_body (tt, tt) f
