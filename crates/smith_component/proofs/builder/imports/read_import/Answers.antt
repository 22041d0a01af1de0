use Rattle.std.proofs.Common.{◌≡◌, ℕ, ◌+◌, ◌<◌, ◌≤◌, max, List, [], ◌∷◌, ◌++◌, length, arith, ap, sym, subst, ◌∙◌, refl, true, false, append-nil, append_assoc}
use Rattle.std.proofs.Common.{map}
use Rattle.std.proofs.lemmas.List.{map-append}
use Rattle.std.specs.List.{AllByRecursion}
use Rattle.std.specs.Prelude.{if◌then◌else◌}
use Rattle.std.proofs.lemmas.Option.{slice_get_within}
use Rattle.smith_format.specs.declared.config.Config.{Config}
use Rattle.smith_format.specs.Consistency.{max_u32}
use Rattle.smith_syntax.specs.Entries.{ImportEntry}
use Rattle.smith_syntax.specs.Scope.{Scope}
use Rattle.smith_syntax.specs.Places.{places}
use Rattle.smith_syntax.specs.Shown.{import_shown}
use Rattle.smith_syntax.specs.WellFormed.{FormedRef}
use Rattle.smith_syntax.specs.declared.deftype.ComponentTypeRef.{ComponentTypeRef}
use Rattle.smith_syntax.specs.declared.deftype.ComponentTypeRef.TheVariants as to
use Rattle.smith_syntax.specs.declared.deftype.Import.{Import}
use Rattle.smith_types.specs.Declarations.{NamedExtern, ReadsNamedExtern}
use Rattle.smith_types.specs.MakingTypes.{HoldsExterns}
use Rattle.smith_types.specs.References.{ReadsRef}
use Rattle.smith_scopes.specs.Scopes.{Changes, Contents, own_marked, own_scope}
use Rattle.smith_scopes.proofs.Marking.{grown_import, length-changed, same_import}
use Rattle.smith_scopes.proofs.Stack.{own_scope_is}
use Rattle.smith_syntax.specs.Marked.{Marked, scope_in, with_import}
use Rattle.smith_types.specs.declared.make.externs.ExternNames.{ExternNames}
use Rattle.smith_tree.specs.declared.totals.RefTotals.{RefTotals}
use Rattle.smith_types.proofs.References.{ref_formed}
use Rattle.smith_tree.specs.Offers.{is_scalar_type, marked_with_imports, totals_of, with_imports}
use Rattle.smith_component.specs.SectionsState.{KeepsAround, ImportsState}
use Rattle.smith_component.specs.Sound.{Totalled}
use Rattle.smith_tree.specs.Open.{Open}
use Rattle.smith_component.specs.SectionValues.{ReadsImportValue, extern_of}
use Rattle.smith_component.specs.Tables.{AddsFunction, Tabled}
use Rattle.smith_tree.specs.Spaces.{spaces_of, types_of}
use Rattle.smith_tree.specs.Tree.{Tree, add, component_of, exports_in, function_of, imports, instance_of, module_of}
use Rattle.smith_tree.specs.WellFormed.{scope_of}
use Rattle.smith_component.specs.declared.builder.tables.Tables.{Tables}
use Rattle.smith_component.specs.declared.builder.totals.TreeTotals.{TreeTotals}
use Rattle.smith_component.proofs.Growth.{imports_keep, scope_bare, spaces_import}
use Rattle.smith_component.proofs.SectionsState.{components_more, funcs_more, import_room, imports_marked_more, imports_scope, instances_more, modules_more}
use Rattle.smith_component.proofs.Tables.{held_exports, own_bare, same_more, tabled_more}
use Rattle.smith_component.proofs.builder.imports.read_import.Goals as goal
use Rattle.smith_component.proofs.builder.imports.read_import.Goals.{in-Func+in_ok-add_function, in_default-ty}

-- What the tables keep of what an import is of, and the names that they have then.
record Takes (own : Scope) (old : Tables) (r : ComponentTypeRef) (externs : ExternNames) (new : Tables) : Type 0 where
  pub functions : new.functions.items ≡ old.functions.items ++ function_of r
  pub scalars : new.scalars.items ≡ old.scalars.items ++ places (is_scalar_type own.types) (length old.functions.items) (function_of r)
  pub core_functions : new.core_functions.items ≡ old.core_functions.items
  pub counted : new.counted ≡ old.counted + length (function_of r)
  pub imports : new.imports ≡ externs
  pub exports : new.exports ≡ old.exports

-- a function
takes_function : (own : Scope) (old mid new : Tables) (r : ComponentTypeRef) (i : ℕ) → r ≡ to.Func i → mid.functions.items ≡ old.functions.items
    → mid.scalars.items ≡ old.scalars.items → mid.core_functions.items ≡ old.core_functions.items → mid.counted ≡ old.counted
    → mid.exports ≡ old.exports → AddsFunction own 1 mid i new → Takes own old r mid.imports new
takes_function own old mid new r i e fs ss cs ns xs adds =
    subst (λ z. Takes own old z mid.imports new) (sym e) (record {
      functions = adds.functions ∙ ap (λ z. z ++ i ∷ []) fs;
      scalars =
          adds.scalars
          ∙ (ap (λ z. z ++ (if is_scalar_type own.types i then length mid.functions.items ∷ [] else [])) ss
          ∙ ap (λ z. old.scalars.items ++ (if is_scalar_type own.types i then length z ∷ [] else [])) fs);
      core_functions = adds.core_functions ∙ cs;
      counted = omega (arith, adds.counted, ns);
      imports = adds.imports;
      exports = adds.exports ∙ xs;
    })

no_function : (r : ComponentTypeRef) → ((i : ℕ) → r ≡ to.Func i → ⊥) → function_of r ≡ []
no_function (to.Func i) h = absurd (h i refl)
no_function _ h = refl

-- none
takes_none : (own : Scope) (old new : Tables) (r : ComponentTypeRef) (externs : ExternNames) → function_of r ≡ [] → new.functions.items ≡ old.functions.items
    → new.scalars.items ≡ old.scalars.items → new.core_functions.items ≡ old.core_functions.items → new.counted ≡ old.counted → new.imports ≡ externs
    → new.exports ≡ old.exports → Takes own old r externs new
takes_none own old new r externs e fs ss cs ns is xs = record {
  functions = fs ∙ sym (ap (λ z. old.functions.items ++ z) e ∙ append-nil old.functions.items);
  scalars = ss ∙ sym (ap (λ z. old.scalars.items ++ places (is_scalar_type own.types) (length old.functions.items) z) e ∙ append-nil old.scalars.items);
  core_functions = cs;
  counted = omega (arith, ns, ap length e);
  imports = is;
  exports = xs;
}

function_within : (own : Scope) (r : ComponentTypeRef) → FormedRef own r → AllByRecursion (λ ty. ty < length own.types) (function_of r)
function_within own (to.Func i) f = (slice_get_within own.types i f.0 f.1, tt)
function_within own _ f = tt

module _ (config : Config) (stack : Open) (before : List NamedExtern) (is : List Import) (own : Marked) (totals : TreeTotals) (tables : Tables)
    (importing : ImportsState config stack before is own totals tables) where
  abbrev entries : List ImportEntry
  entries = map import_shown is

  counts_are : (counts : RefTotals) → counts.modules ≡ totals.modules → counts.funcs ≡ tables.counted
      → counts.components ≡ totals.components → counts.instances ≡ totals.instances
      → counts ≡ totals_of (with_imports stack entries)
  counts_are counts ms fs cs ns = grind arith

  module _ (b mid rest : List ℕ) (x : Import) where
    abbrev entry : ImportEntry
    entry = import_shown x

    import_is_read : (counts : RefTotals) → counts ≡ totals_of (with_imports stack entries) → ReadsRef config own counts true false b x.ty mid
        → ((so_far : List NamedExtern) → HoldsExterns tables.imports so_far → ReadsNamedExtern config so_far mid (extern_of x) rest)
        → ReadsImportValue config stack before is b x rest (is ++ x ∷ [])
    import_is_read counts e of named = grind arith

    abbrev old_tree : Tree
    old_tree = add stack.inner (imports entries)

    abbrev new_tree : Tree
    new_tree = add stack.inner (imports (entries ++ entry ∷ []))

    import_is_kept : (externs : ExternNames) (new : Tables) → FormedRef (scope_in own) x.ty → Takes (scope_in own) tables x.ty externs new → Tabled new new_tree
    import_is_kept externs new formed takes =
        let tabled : Tabled tables old_tree = importing.tabled in
        let behind = spaces_import stack.inner entries entry in
        let exports = own_bare exports_in stack.inner (imports (entries ++ entry ∷ [])) refl ∙ sym (own_bare exports_in stack.inner (imports entries) refl) in
        let scope = scope_bare stack.inner (imports (entries ++ entry ∷ [])) (imports_keep (spaces_of stack.inner) (entries ++ entry ∷ [])) in
        let plain : scope_in own ≡ scope_of stack.inner = ap (λ m. scope_in m) importing.scope_is ∙ imports_scope config stack entries in
        let same : own.types ≡ types_of new_tree = ap (λ (s : Scope). s.types) plain ∙ sym (ap (λ s. s.types) scope) in
        tabled_more tables new old_tree new_tree [] (function_of x.ty) [] tabled
        (same_more _ _ (ap (λ s. s.types) behind))
        (ap (λ s. s.functions) behind)
        (same_more _ _ (ap (λ s. s.core_functions) behind))
        (length (function_of x.ty)) (funcs_more stack entries entry) takes.counted (held_exports tables new old_tree new_tree tabled exports takes.exports)
        (subst (λ ts. AllByRecursion (λ ty. ty < length ts) (function_of x.ty)) same (function_within (scope_in own) x.ty formed))
        tt
        takes.functions
        (takes.core_functions ∙ sym (append-nil tables.core_functions.items))
        (takes.scalars ∙ ap (λ ts. tables.scalars.items ++ places (is_scalar_type ts) (length tables.functions.items) (function_of x.ty)) same)

    import_goes_on : (totals2 : TreeTotals) (new : Tables) (own2 : Marked) → own2 ≡ with_import own x.ty
        → totals2.modules ≡ totals.modules + length (module_of x.ty)
        → totals2.components ≡ totals.components + length (component_of x.ty) → totals2.instances ≡ totals.instances + length (instance_of x.ty)
        → Tabled new new_tree → HoldsExterns new.imports ((before ++ map extern_of is) ++ extern_of x ∷ [])
        → ImportsState config stack before (is ++ x ∷ []) own2 totals2 new
    import_goes_on totals2 new own2 noted ms cs ns tabled holds =
        let all : map import_shown (is ++ x ∷ []) ≡ entries ++ entry ∷ [] = map-append import_shown is (x ∷ []) in
        let named : (before ++ map extern_of is) ++ extern_of x ∷ [] ≡ before ++ map extern_of (is ++ x ∷ []) =
        append_assoc before (map extern_of is) (extern_of x ∷ []) ∙ ap (λ xs. before ++ xs) (sym (map-append extern_of is (x ∷ []))) in
        let totalled : Totalled totals2 (with_imports stack (entries ++ entry ∷ [])) = record {
          modules = omega (arith, ms, importing.totalled.modules, modules_more stack entries entry);
          components = omega (arith, cs, importing.totalled.components, components_more stack entries entry);
          instances = omega (arith, ns, importing.totalled.instances, instances_more stack entries entry);
        } in
        record {
          scope_is = noted ∙ (ap (λ m. with_import m x.ty) importing.scope_is ∙ (sym (imports_marked_more config stack entries entry)
              ∙ ap (λ es. marked_with_imports config stack es) (sym all)));
          totalled = subst (λ es. Totalled totals2 (with_imports stack es)) (sym all) totalled;
          tabled = subst (λ es. Tabled new (add stack.inner (imports es))) (sym all) tabled;
          externs = subst (HoldsExterns new.imports) named holds;
        }

-- what is counted finds room
counts_fit : (old more count most : ℕ) → count ≡ old → count + more ≤ max count most → most ≤ max_u32 → 0 < more → old + 1 < 18446744073709551616
counts_fit old more count most e room few some = omega (arith, e, room, few, some)

pub count-requires-clause-modules : goal.count-requires-clause-modules
count-requires-clause-modules c some = grind (arith, import_room, counts_fit)

pub count-requires-clause-components : goal.count-requires-clause-components
count-requires-clause-components c some = grind (arith, import_room, counts_fit)

pub count-requires-clause-instances : goal.count-requires-clause-instances
count-requires-clause-instances c some = grind (arith, import_room, counts_fit)

-- The scope by itself stays.
same_scope : (old new : List Contents) (r : ComponentTypeRef) → Changes (λ d. with_import d r) old new → own_scope new ≡ scope_in (own_marked old)
same_scope old new r noted = (same_import old new r noted).own ∙ own_scope_is old

func_within : (own : Scope) (r : ComponentTypeRef) (i : ℕ) → r ≡ to.Func i → FormedRef own r → i < length own.types
func_within own r i e f = let g : FormedRef own (to.Func i) = subst (FormedRef own) e f in slice_get_within own.types i g.0 g.1

pub add_function-requires-clause-known : goal.add_function-requires-clause-known
add_function-requires-clause-known c =
    let own = own_marked c.args.scopes.now in
    let counts = c.with_functions-counts.result in
    let known = func_within (scope_in own) c.in-Some.ty c.in-Func.i c.in-Func.is (ref_formed c.args.config.now own counts true false c.args.u.now
    c.in-Some.ty c.arbitrary_type_ref.new.u c.in-Some.ensures.reads) in
    omega (arith, known, ap (λ (s : Scope). length s.types) (same_scope c.args.scopes.now c.note_import.new.self c.in-Some.ty c.note_import.ensures))

pub add_function-requires-clause-room : goal.add_function-requires-clause-room
add_function-requires-clause-room c = grind (arith, import_room)

pub add_function-requires-clause-few : goal.add_function-requires-clause-few
add_function-requires-clause-few c = grind (arith, import_room)

-- The import is read and counted, whatever it is of.
imported : (c : goal.Joined-ty) (new : Tables) (ty : ComponentTypeRef) → ty ≡ c.in-Some.ty
    → Takes (scope_in (own_marked c.args.scopes.now)) c.args.tables.now c.in-Some.ty c.named_extern.new.externs new
    → (stack : Open) (before : List NamedExtern) (is : List Import)
    → ImportsState c.args.config.now stack before is (own_marked c.args.scopes.now) c.args.totals.now c.args.tables.now
    → ReadsImportValue c.args.config.now stack before is c.args.u.now (record { name = c.in_ok-name.name; url = c.in_ok-name.url; ty = ty })
    c.named_extern.new.u (is ++ (record { name = c.in_ok-name.name; url = c.in_ok-name.url; ty = ty }) ∷ [])
    × ImportsState c.args.config.now stack before (is ++ (record { name = c.in_ok-name.name; url = c.in_ok-name.url; ty = ty }) ∷ [])
    (own_marked c.note_import.new.self) c.count.new.self new
imported c new ty same takes stack before is importing =
    let config = c.args.config.now in
    let own = own_marked c.args.scopes.now in
    let noted = (grown_import c.args.scopes.now c.note_import.new.self c.in-Some.ty c.note_import.ensures).own in
    let r : ComponentTypeRef = c.in-Some.ty in
    let i : Import = record { name = c.in_ok-name.name; url = c.in_ok-name.url; ty = r } in
    let counts = c.with_functions-counts in
    let e = counts_are config stack before is own c.args.totals.now c.args.tables.now importing counts.result counts.ensures.modules
    counts.ensures.funcs counts.ensures.components counts.ensures.instances in
    let reads = import_is_read config stack before is own c.args.totals.now c.args.tables.now importing c.args.u.now c.arbitrary_type_ref.new.u
    c.named_extern.new.u i counts.result e c.in-Some.ensures.reads c.in_ok-name.ensures.reads in
    let formed = ref_formed config own counts.result true false c.args.u.now r c.arbitrary_type_ref.new.u c.in-Some.ensures.reads in
    let kept = import_is_kept config stack before is own c.args.totals.now c.args.tables.now importing c.args.u.now c.arbitrary_type_ref.new.u
    c.named_extern.new.u i c.named_extern.new.externs new formed takes in
    let so_far : List NamedExtern = before ++ map extern_of is in
    let holds = subst (λ z. HoldsExterns z (so_far ++ extern_of i ∷ [])) (sym takes.imports) (c.in_ok-name.ensures.names so_far importing.externs) in
    let goes_on = import_goes_on config stack before is own c.args.totals.now c.args.tables.now importing c.args.u.now c.arbitrary_type_ref.new.u
    c.named_extern.new.u i c.count.new.self new (own_marked c.note_import.new.self) noted c.count.ensures.modules c.count.ensures.components
    c.count.ensures.instances kept holds in
    let Made : ComponentTypeRef → Import = λ t. record { name = c.in_ok-name.name; url = c.in_ok-name.url; ty = t } in
    let P : ComponentTypeRef → Type 0 = λ t. ReadsImportValue config stack before is c.args.u.now (Made t) c.named_extern.new.u (is ++ Made t ∷ [])
    × ImportsState config stack before (is ++ Made t ∷ []) (own_marked c.note_import.new.self) c.count.new.self new in
    subst P (sym same) (reads, goes_on)

pub returns-clause-imports : goal.returns-clause-imports
returns-clause-imports c =
    let plain : Scope = scope_in (own_marked c.args.scopes.now) in
    let own : Scope = own_scope c.note_import.new.self in
    let same : own ≡ plain = same_scope c.args.scopes.now c.note_import.new.self c.in-Some.ty c.note_import.ensures in
    let old : Tables = c.args.tables.now in
    let mid : Tables = record old { imports = c.named_extern.new.externs } in
    let Kept : Tables → Type 0 = λ new. Takes plain old c.in-Some.ty c.named_extern.new.externs new in
    elim c.match-ty.branch [
      | in-Func+in_ok-add_function w ↦
          imported c c.match-ty.tables c.match-ty.ty (w.ty-is ∙ sym w.in-Func.is)
          (subst Kept (sym w.tables-is) (takes_function plain old mid w.add_function.new.self c.in-Some.ty w.in-Func.i w.in-Func.is refl refl refl
          refl refl (subst (λ s. AddsFunction s 1 mid w.in-Func.i w.add_function.new.self) same w.in_ok-add_function.ensures.ok)))
      | in_default-ty w ↦
          imported c c.match-ty.tables c.match-ty.ty w.ty-is
          (subst Kept (sym w.tables-is) (takes_none plain old mid c.in-Some.ty c.named_extern.new.externs (no_function c.in-Some.ty w.in_default-ty.not-Func)
          refl refl refl refl refl refl))
    ]

-- The scopes around stay, and their number.

import_around : (old new : List Contents) (r : ComponentTypeRef) → Changes (λ d. with_import d r) old new → KeepsAround old new
import_around old new r noted = record { outer = (grown_import old new r noted).outer; depth = length-changed (λ d. with_import d r) old new noted }

pub returns-clause-around : goal.returns-clause-around
returns-clause-around c = import_around c.args.scopes.now c.note_import.new.self c.in-Some.ty c.note_import.ensures

pub returns-in_err-add_function-clause-around : goal.returns-in_err-add_function-clause-around
returns-in_err-add_function-clause-around c = import_around c.args.scopes.now c.note_import.new.self c.in-Some.ty c.note_import.ensures
