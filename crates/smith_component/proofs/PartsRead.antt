-- The script of a part of a plan is read as that part, and a component that is missing nothing is finished as it is.
use Rattle.std.proofs.Common.{◌≡◌, ℕ, suc, ◌+◌, ◌-◌, ◌≤◌, ◌^◌, List, [], ◌∷◌, ◌++◌, map, length, arith, refl, sym, ap, subst, inl, length-append}
use Rattle.std.specs.List.{AllByRecursion}
use Rattle.smith_format.specs.Consistency.{IsConsistent, max_u32}
use Rattle.smith_format.specs.declared.config.Config.{Config}
use Rattle.smith_syntax.specs.Marked.{Marked}
use Rattle.smith_syntax.specs.Scope.{Scope}
use Rattle.smith_tree.specs.CanonScript.{canon_item_of}
use Rattle.smith_syntax.specs.CoreLimits.{CoreLimits}
use Rattle.smith_syntax.specs.Entries.{Entry, CoreEntry, ImportEntry}
use Rattle.smith_component.specs.Canonicals.{empty_section}
use Rattle.smith_tree.specs.Offers.{totals_of, with_imports}
use Rattle.smith_tree.specs.Limits.{Maxima, Minima, OwnLimits, SmallCoreTypes}
use Rattle.smith_syntax.specs.TypeLimits.{EntryLimits}
use Rattle.smith_tree.proofs.Marking.{scope_marked}
use Rattle.smith_types.proofs.ReferencesRead.{IsFew}
use Rattle.smith_types.specs.Sayable.{Lasts}
use Rattle.smith_tree.specs.Marking.{marked_from, marked_in, marked_inner, marked_of}
use Rattle.smith_tree.specs.Offered.{OfferedPart}
use Rattle.smith_tree.specs.Open.{Open, scopes_in, tree_so_far}
use Rattle.smith_tree.specs.Readable.{IsReadablePart}
use Rattle.smith_tree.specs.Script.{item_of, script_part}
use Rattle.smith_component.specs.Shown.{shown_module}
use Rattle.smith_format.specs.Piece.{bytes_of}
use Rattle.smith_tree.specs.Spaces.{after_part, core_types_of, spaces_of, types_of}
use Rattle.smith_tree.specs.Tree.{Canon, Tree, Part, custom, core_module, core_types, component, types, canons, imports, exports, add, own, inside}
use Rattle.smith_tree.specs.Tree.{components_in, no_depth, ExportEntry, imports_of, imports_in, function_count, ends, first}
use Rattle.smith_component.specs.Turn.{Does, with_part}
use Rattle.smith_tree.proofs.ReadsCustom.{custom_read}
use Rattle.smith_component.specs.Fills.{FillsAll}
use Rattle.smith_tree.specs.WellFormed.{FormedPart, scope_of}
use Rattle.smith_component.proofs.CanonsRead.{Spoken, canons_from, types_spoken}
use Rattle.smith_component.proofs.ExportsRead.{exports_read}
use Rattle.smith_component.proofs.ImportsRead.{imports_read, Room}
use Rattle.smith_component.proofs.Marks.{formed_core_marked, formed_marked, marked_core_types, marked_types}
use Rattle.smith_component.proofs.ReadsCoreTypes.{core_types_read}
use Rattle.smith_component.proofs.ReadsTypes.{types_read}
use Rattle.smith_component.proofs.Fits.{Fits, fits_behind, own_limits-front}
use Rattle.smith_component.proofs.Growth.{functions_counted, spaces-add, types_past}
use Rattle.smith_component.proofs.Sound.{length-marked_from}
use Rattle.smith_core.specs.StandIn.{ReadsStandIn}
use Rattle.smith_core.specs.StandInScript.{script_stand_in, stand_in_of, IsStandIn}
use Rattle.smith_core.proofs.StandInRead.{text_read as module_text_read}
use Rattle.smith_core.proofs.StandInTold.{stand_in_told}
use Rattle.smith_component.proofs.Tree.{all_of, anywhere-add, depth-outer, function_count-add, own-add, length-own-add}
use Rattle.smith_scopes.proofs.Plain.{all_back}
use Rattle.std.specs.Prelude.{Some}
use Rattle.smith_core.specs.StandInText.{StandIn, stand_in_text}

-- The fuel lasts for each type when that many scopes are on the stack, and each core module has bytes and stands for a generated one.
abbrev mutual
  pub Stands : Config → ℕ → Tree → Type 0
  Stands config scopes ends = Unit {0}
  Stands config scopes (first p t) = PartStands config scopes p × Stands config scopes t

  pub PartStands : Config → ℕ → Part → Type 0
  PartStands config scopes (custom name contents) = Unit {0}
  PartStands config scopes (core_module text) = (s : StandIn) × IsStandIn config s × (stand_in_text s ≡ Some text)
  PartStands config scopes (core_types ts) = SmallCoreTypes config ts
  PartStands config scopes (component t) = Stands config (suc scopes) t
  PartStands config scopes (types ts) = AllByRecursion (λ e. Lasts e config scopes config.max_type_size) ts
  PartStands config scopes (canons fs) = Unit {0}
  PartStands config scopes (imports is) = Unit {0}
  PartStands config scopes (exports es) = Unit {0}

-- nothing is filled if nothing is missing
pub fills_nothing : (config : Config) (stack : Open) (b : List ℕ) → Minima config stack.inner → FillsAll config stack b stack.inner b
fills_nothing config stack b m = record {
  typed = stack.inner;
  mid = b;
  imported = stack.inner;
  low = b;
  types = inl (m.types, refl, refl);
  imports = inl (m.imports, refl, refl);
  enough_imports = m.imports;
  functions = inl (m.functions, refl, refl);
  enough_functions = m.functions;
}

-- The scope of each component around a place has no more entries than a choice can be spelled of, and they are few.
pub record Around (config : Config) (outer : List Tree) : Type 0 where
  pub few : AllByRecursion IsFew (marked_in config outer)
  pub shallow : suc (length outer) ≤ 1000

few_around : (config : Config) → IsConsistent config → (outer : List Tree) (t : Tree) (scopes : List Marked)
    → AllByRecursion IsFew scopes → AllByRecursion (OwnLimits config) (all_of (tree_so_far outer t))
    → AllByRecursion IsFew (marked_from config outer scopes)
few_around config consistent [] t scopes few each = few
few_around config consistent (u ∷ us) t scopes few each =
    let x : Tree = tree_so_far us t in
    let own : OwnLimits config u = own_limits-front config u (component x) each.0 in
    let same = scope_marked config scopes u in
    let small : IsFew (marked_of config scopes u) =
    omega (arith, own.types, own.core_types, consistent.types, ap (λ s. length s.types) same, ap (λ s. length s.core_types) same) in
    few_around config consistent us t (marked_of config scopes u ∷ scopes) (small, few)
    (all_back (OwnLimits config) (inside u) (x ∷ inside x) (subst (AllByRecursion (OwnLimits config)) (anywhere-add components_in u (component x)) each.1))

pub few_open : (config : Config) → IsConsistent config → (outer : List Tree) (t : Tree) → Maxima config (tree_so_far outer t) → Around config outer
few_open config consistent outer t m =
    record { few = few_around config consistent outer t [] tt m.each; shallow = omega (arith, m.depth, depth-outer no_depth outer t, consistent.nesting) }

-- The script of a part is read as that part, whatever follows.
module _ (config : Config) (stack : Open) (rest : List ℕ) where
  abbrev pub IsRead : Part → Type 0
  IsRead p =
      IsReadablePart config p stack.inner → PartStands config (suc (length stack.outer)) p → FormedPart p (scopes_in stack.outer) stack.inner
      → OfferedPart p config (spaces_of stack.inner) (marked_in config stack.outer) (marked_inner config stack.outer stack.inner)
      → OwnLimits config (add stack.inner p)
      → Does config (item_of p) stack (script_part p config stack.outer stack.inner ++ rest) (with_part stack p) rest

  pub custom_part : (name contents : List ℕ) → IsRead (custom name contents)
  custom_part name contents readable stands formed offered limits = grind (arith, all_back, own-add, custom_read)

  pub core_types_part : IsConsistent config → (ts : List CoreEntry) → IsRead (core_types ts)
  core_types_part consistent ts readable stands formed offered limits =
      let fits : Fits config (after_part (spaces_of stack.inner) (core_types ts)) = fits_behind config stack.inner (core_types ts) limits in
      let few : length (core_types_of stack.inner) + length ts ≤ config.max_types =
      omega (arith, fits.core_types, length-append (core_types_of stack.inner) ts) in
      let limited : AllByRecursion (CoreLimits config) ts = all_back _ (core_types_of stack.inner) ts fits.within_core_types in (
        ts,
        _,
        core_types_read config (omega (arith, consistent.names)) ts (config.max_types - length (core_types_of stack.inner))
            (marked_inner config stack.outer stack.inner) rest
            (formed_core_marked config stack.outer stack.inner ts formed) limited stands readable (omega (arith, few))
            (omega (arith, few, consistent.types, ap length (marked_core_types config stack.outer stack.inner))),
        refl,
      )

  pub types_part : IsConsistent config → (ts : List Entry) → Maxima config (tree_so_far stack.outer (add stack.inner (types ts))) → IsRead (types ts)
  types_part consistent ts maxima readable stands formed offered limits =
      let here = few_open config consistent stack.outer (add stack.inner (types ts)) maxima in
      let fits : Fits config (after_part (spaces_of stack.inner) (types ts)) = fits_behind config stack.inner (types ts) limits in
      let few : length (types_of stack.inner) + length ts ≤ config.max_types = omega (arith, fits.types, length-append (types_of stack.inner) ts) in
      let cores : length (core_types_of stack.inner) ≤ config.max_types = fits.core_types in
      let limited : AllByRecursion (EntryLimits config) ts = all_back _ (types_of stack.inner) ts fits.within_types in
      let outer : List Marked = marked_in config stack.outer in
      let count : length outer ≡ length stack.outer = omega (arith, length-marked_from config stack.outer []) in
      let lasts : AllByRecursion (λ e. Lasts e config (suc (length outer)) config.max_type_size) ts =
      subst (λ n. AllByRecursion (λ e. Lasts e config (suc n) config.max_type_size) ts) (sym count) stands in
      let read = types_read config outer here.few (omega (arith, here.shallow, count)) consistent.nesting (omega (arith, consistent.names)) ts
      (config.max_types - length (types_of stack.inner)) (marked_inner config stack.outer stack.inner) rest
      (formed_marked config stack.outer stack.inner ts formed) offered limited lasts readable (omega (arith, few))
      (omega (
        arith,
        few,
        cores,
        consistent.types,
        ap length (marked_types config stack.outer stack.inner),
        ap length (marked_core_types config stack.outer stack.inner),
      )) in
      (add stack.inner (types ts), (ts, _, read, refl), refl)

  -- The text determines the module that it is of.
  pub module_part : (text : List ℕ) → IsRead (core_module text)
  module_part text readable (s, is, e) formed offered limits =
      let told : stand_in_of text ≡ s = stand_in_told config s text is e in
      let r = module_text_read config s text is e rest in
      let shown : shown_module r.0 ≡ text = ap bytes_of r.2 in
      let read : ReadsStandIn config (script_stand_in config (stand_in_of text) ++ rest) r.0 rest =
      subst (λ z. ReadsStandIn config (script_stand_in config z ++ rest) r.0 rest) (sym told) r.1 in
      (r.0, read, ap (λ z. with_part stack (core_module z)) (sym shown))

  pub imports_part : IsConsistent config → (is : List ImportEntry) → Maxima config (tree_so_far stack.outer (add stack.inner (imports is)))
      → IsRead (imports is)
  imports_part consistent is maxima readable stands formed offered limits =
      let before : OwnLimits config stack.inner = own_limits-front config stack.inner (imports is) limits in
      let few : length (types_of stack.inner) + length (core_types_of stack.inner) ≤ 2 ^ 64 =
      omega (arith, consistent.types, before.types, before.core_types) in
      let room : Room config (totals_of (with_imports stack is)) =
      record { modules = maxima.modules; funcs = limits.functions; components = maxima.components; instances = maxima.instances } in
      let fits : length (imports_of stack.inner) + length is ≤ config.max_imports =
      omega (arith, limits.imports, length-own-add imports_in stack.inner (imports is)) in (
        add stack.inner (imports is),
        (
          is,
          imports_read config stack few (omega (arith, consistent.names)) is rest readable formed.0 formed.1 offered room
              (omega (arith, fits)),
          refl,
        ),
        refl,
      )

  pub canons_part : IsConsistent config → AllByRecursion (Spoken config) (types_of stack.inner) → (fs : List Canon) → IsRead (canons fs)
  canons_part consistent spoken fs readable stands formed offered limits =
      let inner : Tree = stack.inner in
      let count : function_count inner + length fs ≤ config.max_funcs =
      omega (arith, limits.functions, function_count-add inner (canons fs)) in
      let before : OwnLimits config inner = own_limits-front config inner (canons fs) limits in
      let many : length (types_of inner) ≤ max_u32 = omega (arith, before.types, consistent.types) in
      let spaces = functions_counted inner in
      let read =
      canons_from fs config (omega (arith, consistent.names)) (config.max_funcs - function_count inner) 0 (empty_section inner) (spaces_of inner) rest
      (spaces-add inner (canons [])) formed
      spoken (omega (arith, many)) (omega (arith, count, spaces.most, before.exports, consistent.funcs)) (omega (arith, count)) in
      (add inner (canons fs), (map canon_item_of fs, record { before = inner; funcs = fs }, read, refl), refl)

  pub exports_part : IsConsistent config → (es : List ExportEntry) → IsRead (exports es)
  exports_part consistent es readable stands formed offered limits = grind (arith, length-own-add, own_limits-front, exports_read)

-- The types of a plan can be said after one more part.
pub spoken_past : (config : Config) (p : Part) (outer : List Scope) (before : Tree) → IsReadablePart config p before → FormedPart p outer before
    → AllByRecursion (Spoken config) (types_of before) → AllByRecursion (Spoken config) (types_of (add before p))
spoken_past config p outer before readable formed h =
    types_past (Spoken config) before p h
    (λ ts e. said ts (subst (λ q. FormedPart q outer before) e formed) (subst (λ q. IsReadablePart config q before) e readable))
  where
    said : (ts : List Entry) → FormedPart (types ts) outer before → IsReadablePart config (types ts) before → AllByRecursion (Spoken config) ts
    said ts f r = types_spoken config ts (scope_of before) outer f r
