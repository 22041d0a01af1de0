-- Component functions of types that are there.
use Rattle.std.proofs.Common.{◌≡◌, ℕ, ◌+◌, ◌<◌, false, List, [], ◌∷◌, ◌++◌, fold, length, refl, sym, ap, subst, ◌∙◌, arith, length-append, zero, suc, Bool}
use Rattle.std.proofs.lemmas.Option.{slice_get_within}
use Rattle.std.specs.List.{AllByRecursion}
use Rattle.std.specs.Option.{option_to_list}
use Rattle.std.specs.Prelude.{Some, None, slice_get, if◌then◌else◌}
use Rattle.smith_component.proofs.Tables.{all_weaker, places_agree}
use Rattle.smith_input.proofs.Lists.{all_both}
use Rattle.smith_scope.proofs.Places.{get_left}
use Rattle.smith_scope.proofs.Places.{places-append}
use Rattle.smith_syntax.specs.Entries.{Entry, ImportEntry}
use Rattle.smith_syntax.specs.Places.{places}
use Rattle.smith_syntax.specs.Scope.{Scope}
use Rattle.smith_syntax.specs.WellFormed.{FormedRef}
use Rattle.smith_syntax.specs.declared.deftype.ComponentTypeRef.{ComponentTypeRef}
use Rattle.smith_syntax.specs.declared.deftype.ComponentTypeRef.TheVariants as to
use Rattle.smith_tree.specs.Offers.{is_scalar_entry, is_scalar_type, scalar_functions}
use Rattle.smith_tree.specs.Spaces.{Spaces, after_canon, after_export, after_import, after_part, spaces_of}
use Rattle.smith_tree.specs.Tree.{Canon, ExportEntry, lift, lower, Tree, Part, types, canons, imports, exports}
use Rattle.smith_tree.specs.Tree.{function_of}
use Rattle.smith_tree.specs.WellFormed.{FormedCanons, FormedImport, FormedPart, scope_of}
use Rattle.smith_script.specs.Preceding.{Known}

abbrev AreBelow : ℕ → List ℕ → Type 0
AreBelow n tys = AllByRecursion (λ ty. ty < n) tys

-- one more component function
pub scalars_more : (ts : List Entry) (fs : List ℕ) (ty : ℕ)
    → places (is_scalar_type ts) 0 fs ++ (if is_scalar_type ts ty then length fs ∷ [] else []) ≡ places (is_scalar_type ts) 0 (fs ++ ty ∷ [])
scalars_more ts fs ty =
    let at : 0 + length fs ≡ length fs = omega arith in
    sym (places-append (is_scalar_type ts) 0 fs (ty ∷ [])
    ∙ ap (λ n. places (is_scalar_type ts) 0 fs ++ (if is_scalar_type ts ty then n ∷ [] else [])) at)

-- Which functions flatten stays as it is when there are more types.
pub types_stay : (sp : Spaces) (us : List Entry) → Known sp → scalar_functions sp ≡ scalar_functions (after_part sp (types us))
types_stay sp us known =
    places_agree (is_scalar_type sp.types) (is_scalar_type (sp.types ++ us)) 0 sp.functions
    (all_weaker (λ ty. ty < length sp.types) (λ ty. is_scalar_type sp.types ty ≡ is_scalar_type (sp.types ++ us) ty)
    (λ ty h. ap (λ o. elim o as (λ _. Bool) [ None ↦ false | Some x ↦ is_scalar_entry x ]) (sym (get_left sp.types us ty h))) sp.functions known)

-- The types stay known, part by part.

known_types : (sp : Spaces) (us : List Entry) → Known sp → Known (after_part sp (types us))
known_types sp us known =
    all_weaker (λ ty. ty < length sp.types) (λ ty. ty < length (sp.types ++ us)) (λ ty h. omega (arith, h, length-append sp.types us)) sp.functions known

known_with : (sp : Spaces) (tys : List ℕ) → Known sp → AreBelow (length sp.types) tys → Known (record sp { functions = sp.functions ++ tys })
known_with sp tys known more = all_both (λ ty. ty < length sp.types) sp.functions tys known more

known_canons : (cs : List Canon) (sp : Spaces) → FormedCanons cs sp → Known sp → Known (fold after_canon sp cs)
known_canons [] sp formed known = known
known_canons (lift c t ∷ cs) sp formed known =
    known_canons cs (after_canon sp (lift c t)) formed.1 (known_with sp (t ∷ []) known (slice_get_within sp.types t _ formed.0.3, tt))
known_canons (lower f ∷ cs) sp formed known = known_canons cs (after_canon sp (lower f)) formed.1 known

known_function : (own : Scope) (r : ComponentTypeRef) → FormedRef own r → AreBelow (length own.types) (function_of r)
known_function own (to.Func i) formed = (slice_get_within own.types i _ formed.1, tt)
known_function own _ formed = tt

known_imports : (is : List ImportEntry) (sp : Spaces) (own : Scope) → own.types ≡ sp.types → AllByRecursion (FormedImport own) is → Known sp
    → Known (fold after_import sp is)
known_imports [] sp own same formed known = known
known_imports (x ∷ is) sp own same formed known =
    known_imports is (after_import sp x) own same formed.1
    (known_with sp (function_of x.to) known (subst (λ (ts : List Entry). AreBelow (length ts) (function_of x.to)) same (known_function own x.to formed.0.0)))

known_at : (n : ℕ) (fs : List ℕ) (i : ℕ) → AreBelow n fs → AreBelow n (option_to_list (slice_get fs i))
known_at n [] i all = tt
known_at n (f ∷ fs) zero all = (all.0, tt)
known_at n (f ∷ fs) (suc i) all = known_at n fs i all.1

known_exports : (es : List ExportEntry) (sp : Spaces) → Known sp → Known (fold after_export sp es)
known_exports [] sp known = known
known_exports (x ∷ es) sp known =
    known_exports es (after_export sp x)
    (known_with sp (option_to_list (slice_get sp.functions x.func)) known (known_at (length sp.types) sp.functions x.func known))

pub known_part : (p : Part) (outer : List Scope) (t : Tree) → FormedPart p outer t → Known (spaces_of t) → Known (after_part (spaces_of t) p)
known_part (types ts) outer t formed known = known_types (spaces_of t) ts known
known_part (canons fs) outer t formed known = known_canons fs (spaces_of t) formed known
known_part (imports is) outer t formed known = known_imports is (spaces_of t) (scope_of t) refl formed.0 known
known_part (exports es) outer t formed known = known_exports es (spaces_of t) known
known_part _ outer t formed known = known
