-- The scripts of the parts of a plan, and of the plan, are bytes.
use Rattle.std.proofs.Common.{◌≡◌, ℕ, suc, ◌+◌, ◌-◌, ◌<◌, ◌≤◌, ◌^◌, true, false, List, [], ◌∷◌, ◌++◌, length, arith, refl, sym, ap, ◌∙◌, subst}
use Rattle.std.proofs.Common.{length-append, Some}
use Rattle.std.proofs.lemmas.Option.{slice_get_within}
use Rattle.std.specs.List.{AllByRecursion}
use Rattle.smith_input.specs.Kebab.{Kebab}
use Rattle.smith_input.specs.Loops.{Along}
use Rattle.smith_input.specs.Script.{AreBytes, script_among}
use Rattle.smith_input.proofs.Offered.{offers_few}
use Rattle.smith_input.proofs.ScriptBytes.{Small, small_bytes, small_few, small_join, small_loop, small_new, small_pick, small_text}
use Rattle.smith_format.specs.Consistency.{IsConsistent}
use Rattle.smith_format.specs.Piece.{bytes}
use Rattle.smith_format.specs.declared.config.Config.{Config}
use Rattle.smith_format.proofs.Piece.{parts_are}
use Rattle.smith_syntax.specs.Entries.{CoreEntry, Entry, function, ImportEntry}
use Rattle.smith_syntax.specs.SameSignature.{same_signature_Decides}
use Rattle.smith_syntax.specs.Marked.{Marked, scope_in}
use Rattle.smith_syntax.specs.HasSignature.{is_of_signature}
use Rattle.smith_syntax.specs.CoreLimits.{CoreLimits}
use Rattle.smith_syntax.specs.TypeLimits.{EntryLimits}
use Rattle.smith_core.specs.StandInScript.{IsStandIn, script_stand_in, stand_in_of}
use Rattle.smith_core.specs.StandInText.{StandIn, stand_in_text}
use Rattle.smith_core.proofs.StandInMade.{small_stand_in}
use Rattle.smith_core.proofs.StandInTold.{stand_in_told}
use Rattle.smith_scopes.proofs.Plain.{all_back}
use Rattle.smith_tree.specs.CoreTypeScript.{script_core}
use Rattle.smith_types.proofs.CoreScriptBytes.{small_core, small_place, small_said}
use Rattle.smith_types.specs.Sayable.{Lasts}
use Rattle.smith_tree.specs.TypeScript.{script_type}
use Rattle.smith_types.proofs.ScopedScript.{type_bytes}
use Rattle.smith_types.proofs.ScriptBytes.{small_extern, small_lifted, small_ref}
use Rattle.smith_tree.specs.CanonScript.{canon_item_of, script_canon, script_lift}
use Rattle.smith_tree.specs.Grammar.{Spells, part, parts, preamble}
use Rattle.smith_tree.specs.Limits.{OwnLimits}
use Rattle.smith_syntax.specs.WellFormed.{FormedRef}
use Rattle.smith_tree.specs.Marking.{marked_in, marked_inner, with_core_entry, with_type_entry}
use Rattle.smith_tree.specs.Offered.{OfferedImports}
use Rattle.smith_tree.specs.Offers.{canon_items, marked_with_imports, totals_of, with_exports, with_imports}
use Rattle.smith_tree.specs.Open.{Open}
use Rattle.smith_tree.specs.Readable.{CanBeGenerated}
use Rattle.smith_tree.specs.Script.{item_of, script, script_export, script_from, script_import, script_item}
use Rattle.smith_tree.specs.Script.{script_part, Within}
use Rattle.smith_tree.specs.Spaces.{after_canon, after_part, core_types_of, Spaces, spaces_of, types_of}
use Rattle.smith_tree.specs.Functions.{functions_of}
use Rattle.smith_component.specs.Tables.{functions_at}
use Rattle.smith_tree.specs.Tree.{add, Canon, canons, component, core_module, core_types, custom, ends, ExportEntry}
use Rattle.smith_tree.specs.Tree.{exports, exports_in, exports_of, first, function_count, imports, imports_of, lift, lower}
use Rattle.smith_tree.specs.Tree.{names_in, own, Part, Tree, types}
use Rattle.smith_tree.specs.WellFormed.{export_names, FormedCanon, FormedCanons, FormedExports, FormedImport, import_names, scope_of}
use Rattle.smith_tree.specs.contracts.choices.CanonItemPartialEq.TheImpl.{ghosts as canon_equal}
use Rattle.smith_tree.specs.declared.choices.CanonItem.{CanonItem}
use Rattle.smith_tree.specs.declared.choices.Item.{Item}
use Rattle.smith_tree.specs.declared.choices.Item.TheVariants.{Finish}
use Rattle.smith_component.proofs.CanonsRead.{Spoken}
use Rattle.smith_component.proofs.Fits.{Fits, fits_behind, own_limits-front, Short}
use Rattle.smith_component.proofs.ExportsRead.{few_functions}
use Rattle.smith_component.proofs.Growth.{canon_keeps, functions_after, functions_counted, spaces-add, spaces_export}
use Rattle.smith_component.proofs.Grammar.{Encoded, component_encoded, contents_bytes}
use Rattle.smith_component.proofs.Named.{named_behind}
use Rattle.smith_component.proofs.PartsRead.{few_open}
use Rattle.smith_component.proofs.Planned.{tree_stands}
use Rattle.smith_component.proofs.Reach.{Known, known_inside, known_past, known_plan, with_next}
use Rattle.smith_component.proofs.Marks.{formed_core_marked, formed_marked, marked_core_types, marked_types}
use Rattle.smith_component.proofs.ImportsRead.{few_at}
use Rattle.smith_component.proofs.SectionsState.{imports_marked, imports_marked_more, imports_scope}
use Rattle.smith_component.proofs.Sound.{length-marked_from}
use Rattle.smith_component.proofs.Spaces.{all_at}
use Rattle.smith_component.proofs.Tree.{all_inner, function_count-add, length-own-add, own-add}
use Rattle.smith_component.proofs.ReadsCoreTypes as core_sections
use Rattle.smith_component.proofs.ReadsTypes as type_sections

-- Imports.
small_imports : (config : Config) (stack : Open) → config.max_name_length < 2 ^ 64
    → length (types_of stack.inner) + length (core_types_of stack.inner) ≤ 2 ^ 64 → (s is : List ImportEntry)
    → AllByRecursion (FormedImport (scope_of stack.inner)) is → AllByRecursion Kebab (import_names is) → OfferedImports is (marked_with_imports config stack s)
    → Along (λ u x. Small (script_import config stack u x)) (λ u x. u ++ x ∷ []) s is
small_imports config stack short few s [] f k o = tt
small_imports config stack short few s (x ∷ is) f k o =
    let own : Marked = marked_with_imports config stack s in
    let same = imports_scope config stack s in
    let formed : FormedRef (scope_in own) x.to = subst (λ d. FormedRef d x.to) (sym same) f.0.0 in (
      small_join (small_ref config own (totals_of (with_imports stack s)) true false (few_at config stack few s) x.to formed o.0)
          (small_extern config short (length (imports_of stack.inner) + length s) x.name k.0),
      small_imports config stack short few (s ++ x ∷ []) is f.1 k.1 (subst (OfferedImports is) (sym (imports_marked_more config stack s x)) o.2),
    )

-- Exports.

small_exports : (config : Config) → config.max_name_length < 2 ^ 64 → (t : Tree) (s xs : List ExportEntry) → FormedExports xs (spaces_of (with_exports t s))
    → AllByRecursion Kebab (export_names xs) → function_count t + (length (exports_of t) + (length s + length xs)) ≤ 2 ^ 64
    → Along (λ u x. Small (script_export config t u x)) (λ u x. u ++ x ∷ []) s xs
small_exports config short t s [] f k few = tt
small_exports config short t s (x ∷ xs) f k few = (
  small_join (small_pick (length (functions_of (with_exports t s))) x.func (few_functions t s (omega (arith, few))) f.0)
      (small_new config.max_name_length (length (exports_of t) + length s) x.name (omega (arith, short)) k.0),
  small_exports config short t (s ++ x ∷ []) xs (subst (FormedExports xs) (sym (spaces_export t s x)) f.1) k.1
      (omega (arith, few, length-append s (x ∷ []))),
)

-- Canonical functions.

small_canon_item : (s : Spaces) (item : CanonItem) → Small (script_among canon_equal.eq (canon_items s) item)
small_canon_item s item = grind (arith, offers_few, small_few)

small_canon : (config : Config) → config.max_name_length < 2 ^ 64 → (s : Spaces) (c : Canon) → FormedCanon s c → AllByRecursion (Spoken config) s.types
    → functions_at s ≤ 2 ^ 64 → length s.types ≤ 2 ^ 64
    → Small (script_canon config s c)
small_canon config short s (lower f) (signature, has, scalar) spoken few many = grind (arith, small_join, small_canon_item, small_place)
small_canon config short s (lift c t) (signature, lowered, f, is, lowers, has, flat) spoken few many =
    let below : c < length s.core_functions = slice_get_within s.core_functions c f lowers in
    let said : Spoken config (function signature) = all_at (Spoken config) s.types t (function signature) spoken is in
    let type : Small (script_lift config s t (Some (function signature))) =
    small_join (small_lifted config short signature said.0.0)
    (small_place (is_of_signature signature) s.types t (function signature) many is ((same_signature_Decides signature signature).1 refl)) in
    small_join (small_canon_item s (canon_item_of (lift c t))) (small_join (small_pick (length s.core_functions) c (omega (arith, few)) below)
    (subst (λ o. Small (script_lift config s t o)) (sym is) type))

small_canons : (config : Config) → config.max_name_length < 2 ^ 64 → (cs : List Canon) (s : Spaces) → FormedCanons cs s
    → AllByRecursion (Spoken config) s.types → length s.types ≤ 2 ^ 64
    → functions_at s + length cs ≤ 2 ^ 64 → Along (λ u c. Small (script_canon config u c)) after_canon s cs
small_canons config short [] s f spoken many few = tt
small_canons config short (c ∷ cs) s f spoken many few =
    let keep = canon_keeps s c in (
      small_canon config short s c f.0 spoken (omega (arith, few)) many,
      small_canons config short cs (after_canon s c) f.1 (subst (AllByRecursion (Spoken config)) (sym keep.types) spoken)
          (omega (arith, many, ap length keep.types))
          (omega (arith, few, functions_after s c)),
    )

-- Parts.

small_item : (config : Config) (outer : List Tree) (before : Tree) (item : Item) → Small (script_item config outer before item)
small_item config outer before item = grind (arith, offers_few, small_few)

-- The rest of a component of a plan, which has bytes.
record Said (config : Config) (outer : List Tree) (before t : Tree) : Type 0 where
  known : Known config outer before t
  spelled : Encoded (parts t)

module _ (config : Config) (consistent : IsConsistent config) (outer : List Tree) (before : Tree) where
  -- the limits of the component with its next part
  limits_with : (p : Part) (t : Tree) → Said config outer before (first p t) → OwnLimits config (add before p)
  limits_with p t said = all_inner (OwnLimits config) outer (add before p) (with_next config outer before p t said.known).each

  -- after one more part
  said_past : (p : Part) (t : Tree) → Said config outer before (first p t) → Said config outer (add before p) t
  said_past p t said =
      let z = parts_are (part p) (parts t) said.spelled.0 said.spelled.1 in
      record { known = known_past config outer before p t said.known; spelled = (z.right, z.q_is) }

  -- within a component
  said_inside : (u t : Tree) → Said config outer before (first (component u) t) → Said config (outer ++ before ∷ []) ends u
  said_inside u t said =
      let z = parts_are (part (component u)) (parts t) said.spelled.0 said.spelled.1 in
      record { known = known_inside config outer before u t said.known; spelled = component_encoded u (z.left, z.p_is) }

  -- what follows the choice of the item, if it is not a component
  small_custom : (name contents : List ℕ) (t : Tree) → Said config outer before (first (custom name contents) t)
      → Small (script_part (custom name contents) config outer before)
  small_custom name contents t said =
      let limits = limits_with (custom name contents) t said in
      let short : Short (name ∷ []) = all_back _ (own names_in before) (name ∷ [])
      (subst Short (own-add names_in before (custom name contents)) limits.names) in
      let z = parts_are (part (custom name contents)) (parts t) said.spelled.0 said.spelled.1 in
      small_join (small_text 1000 name (omega arith) said.known.readable.0 short.0) (small_bytes contents (contents_bytes name contents (z.left, z.p_is)))

  small_core_part : (ts : List CoreEntry) (t : Tree) → Said config outer before (first (core_types ts) t)
      → Small (script_part (core_types ts) config outer before)
  small_core_part ts t said =
      let fits : Fits config (after_part (spaces_of before) (core_types ts)) =
      fits_behind config before (core_types ts) (limits_with (core_types ts) t said) in
      let few : length (core_types_of before) + length ts ≤ config.max_types = omega (arith, fits.core_types, length-append (core_types_of before) ts) in
      let limited : AllByRecursion (CoreLimits config) ts = all_back _ (core_types_of before) ts fits.within_core_types in
      small_said (λ s x. script_core config (scope_in s) config.max_type_size x) with_core_entry (core_sections.Said config) one 0
      (config.max_types - length (core_types_of before)) 0 (marked_inner config outer before) ts
      (core_sections.all_said config ts (marked_inner config outer before) (formed_core_marked config outer before ts said.known.formed.0) limited
      said.known.stands.0
      said.known.readable.0 (omega (arith, few, consistent.types, ap length (marked_core_types config outer before))))
    where
      one : (s : Marked) (x : CoreEntry) → core_sections.Said config s x → Small (script_core config (scope_in s) config.max_type_size x)
      one s x (formed, limits, lasts, readable, small) =
          small_core config (scope_in s) config.max_type_size x formed limits readable lasts small (omega (arith, consistent.names))

  small_type_part : (ts : List Entry) (t : Tree) → Said config outer before (first (types ts) t) → Small (script_part (types ts) config outer before)
  small_type_part ts t said =
      let fits : Fits config (after_part (spaces_of before) (types ts)) =
      fits_behind config before (types ts) (limits_with (types ts) t said) in
      let few : length (types_of before) + length ts ≤ config.max_types = omega (arith, fits.types, length-append (types_of before) ts) in
      let limited : AllByRecursion (EntryLimits config) ts = all_back _ (types_of before) ts fits.within_types in
      let around : List Marked = marked_in config outer in
      let own : Marked = marked_inner config outer before in
      let count : length around ≡ length outer = omega (arith, length-marked_from config outer []) in
      let lasts : AllByRecursion (λ e. Lasts e config (suc (length around)) config.max_type_size) ts =
      subst (λ n. AllByRecursion (λ e. Lasts e config (suc n) config.max_type_size) ts) (sym count) said.known.stands.0 in
      let here = few_open config consistent outer (add before (types ts)) (with_next config outer before (types ts) t said.known) in
      let can = type_sections.sayable config around here.few (omega (arith, here.shallow, count)) (omega (arith, consistent.names)) in
      small_said (λ s e. script_type e config config.max_type_size s around) (with_type_entry around) (type_sections.Said config around)
      (λ s e h. record { are = type_bytes config s around config.max_type_size e consistent.nesting (can s e h) }) 0
      (config.max_types - length (types_of before)) 0 own ts
      (type_sections.all_said config around ts own (formed_marked config outer before ts said.known.formed.0) said.known.offered.0 limited lasts
      said.known.readable.0
      (omega (
        arith,
        few,
        fits.core_types,
        consistent.types,
        ap length (marked_types config outer before),
        ap length (marked_core_types config outer before),
      )))

  small_import_part : (is : List ImportEntry) (t : Tree) → Said config outer before (first (imports is) t)
      → Small (script_part (imports is) config outer before)
  small_import_part is t said =
      let behind = named_behind (λ (i : ImportEntry). i.name) (imports_of before) is said.known.formed.0.1 in
      let stack : Open = record { outer = outer; inner = before } in
      let front = own_limits-front config before (imports is) (limits_with (imports is) t said) in
      small_loop (script_import config stack) (λ s x. s ++ x ∷ []) 0 (config.max_imports - length (imports_of before)) 0 [] is
      (small_imports config stack (omega (arith, consistent.names))
      (omega (arith, front.types, front.core_types, consistent.types)) [] is said.known.formed.0.0 behind.0
      (subst (OfferedImports is) (sym (imports_marked config stack [])) said.known.offered.0))

  small_canon_part : (fs : List Canon) (t : Tree) → Said config outer before (first (canons fs) t) → Small (script_part (canons fs) config outer before)
  small_canon_part fs t said =
      let limits = limits_with (canons fs) t said in
      let front = own_limits-front config before (canons fs) limits in
      let count : function_count before + length fs ≤ config.max_funcs = omega (arith, limits.functions, function_count-add before (canons fs)) in
      let spaces = functions_counted before in
      small_loop (script_canon config) after_canon 0 (config.max_funcs - function_count before) 0 (spaces_of before) fs
      (small_canons config (omega (arith, consistent.names)) fs (spaces_of before) said.known.formed.0 said.known.spoken
      (omega (arith, front.types, consistent.types))
      (omega (arith, count, spaces.most, front.exports, consistent.funcs)))

  small_export_part : (es : List ExportEntry) (t : Tree) → Said config outer before (first (exports es) t)
      → Small (script_part (exports es) config outer before)
  small_export_part es t said =
      let limits = limits_with (exports es) t said in
      let front = own_limits-front config before (exports es) limits in
      let most : length (exports_of before) + length es ≤ config.max_exports = omega (arith, limits.exports, length-own-add exports_in before (exports es)) in
      let behind = named_behind (λ (e : ExportEntry). e.name) (exports_of before) es said.known.formed.0.1 in
      let start : FormedExports es (spaces_of (with_exports before [])) =
      subst (FormedExports es) (sym (spaces-add before (exports []))) said.known.formed.0.0 in
      small_loop (script_export config before) (λ u x. u ++ x ∷ []) 0 (config.max_exports - length (exports_of before)) 0 [] es
      (small_exports config (omega (arith, consistent.names)) before [] es start behind.0 (omega (arith, most, front.functions, consistent.funcs)))

-- The text determines the module that it is of.
small_module : (config : Config) → IsConsistent config → (text : List ℕ) → (s : StandIn) × IsStandIn config s × (stand_in_text s ≡ Some text)
    → Small (script_stand_in config (stand_in_of text))
small_module config consistent text (s, is, e) =
    subst (λ z. Small (script_stand_in config z)) (sym (stand_in_told config s text is e)) (small_stand_in config s is)

mutual
  small_from : (t : Tree) (config : Config) (outer : List Tree) (before : Tree) → IsConsistent config → Said config outer before t
      → Small (script_from t config outer before)
  small_from ends config outer before consistent said = small_item config outer before Finish
  small_from (first p t) config outer before consistent said =
      small_join (small_join (small_item config outer before (item_of p)) (small_part p t config outer before consistent said))
      (small_from t config outer (add before p) consistent (said_past config consistent outer before p t said))

  small_part : (p : Part) (t : Tree) (config : Config) (outer : List Tree) (before : Tree) → IsConsistent config → Said config outer before (first p t)
      → Small (script_part p config outer before)
  small_part (custom name contents) t config outer before consistent said = small_custom config consistent outer before name contents t said
  small_part (core_module text) t config outer before consistent said = small_module config consistent text said.known.stands.0
  small_part (core_types ts) t config outer before consistent said = small_core_part config consistent outer before ts t said
  small_part (component u) t config outer before consistent said =
      small_from u config (outer ++ before ∷ []) ends consistent (said_inside config consistent outer before u t said)
  small_part (types ts) t config outer before consistent said = small_type_part config consistent outer before ts t said
  small_part (canons fs) t config outer before consistent said = small_canon_part config consistent outer before fs t said
  small_part (imports is) t config outer before consistent said = small_import_part config consistent outer before is t said
  small_part (exports es) t config outer before consistent said = small_export_part config consistent outer before es t said

-- The script of a component that can be generated is bytes.
pub tree_bytes : (config : Config) (t : Tree) → IsConsistent config → CanBeGenerated config t → (b : List ℕ) × Spells t b → AreBytes (script config t)
tree_bytes config t consistent c spelled =
    let z = parts_are (bytes preamble) (parts t) spelled.0 spelled.1 in
    (small_from t config [] ends consistent (record { known = known_plan config t c (tree_stands config t c spelled); spelled = (z.right, z.q_is) })).are

-- The script of a plan is bytes.
pub plan_bytes : (config : Config) (plan : Tree) → IsConsistent config → Within config plan → AreBytes (script config plan)
plan_bytes config plan consistent w = tree_bytes config plan consistent w.possible w.spelled
