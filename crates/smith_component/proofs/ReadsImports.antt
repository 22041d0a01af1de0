-- What an import section reads: well formed imports under names that are new, within the limits, and a tail of the bytes.
use Rattle.std.proofs.Common.{◌≡◌, ℕ, ◌+◌, ◌-◌, ◌*◌, ◌<◌, ◌≤◌, Bool, true, false, List, [], ◌∷◌, ◌++◌, length, arith, refl, sym, ap, ◌∙◌, subst}
use Rattle.std.proofs.Common.{nat_lt}
use Rattle.std.specs.List.{AllByRecursion}
use Rattle.std.specs.Prelude.{Some, if◌then◌else◌, slice_get}
use Rattle.std.proofs.lemmas.Bool.{false≢true, and_from}
use Rattle.std.proofs.lemmas.Bool.Decides.{nat_tests}
use Rattle.smith_input.specs.Names.{ReadsNew}
use Rattle.smith_input.specs.Reading.{IsTail}
use Rattle.smith_input.specs.Offers.{offers_of}
use Rattle.smith_input.proofs.Loops.{loop_all, loop_few, loop_gives, loop_tail}
use Rattle.smith_input.proofs.Reading.{tail_is, tail_trans}
use Rattle.smith_format.specs.declared.config.Config.{Config}
use Rattle.smith_syntax.specs.Entries.{ImportEntry}
use Rattle.smith_syntax.specs.Marked.{Marked}
use Rattle.smith_syntax.specs.Marks.{room_size, small_size}
use Rattle.smith_syntax.specs.Scope.{Scope}
use Rattle.smith_syntax.specs.WellFormed.{FormedRef, Named}
use Rattle.smith_syntax.specs.declared.deftype.ComponentTypeRef.{ComponentTypeRef}
use Rattle.smith_syntax.specs.declared.deftype.ComponentTypeRef.TheVariants as to
use Rattle.smith_tree.specs.declared.totals.RefTotals.{RefTotals}
use Rattle.smith_tree.specs.TypeOffers.{has_room, kinds_offered, ref_offers, ref_places}
use Rattle.smith_tree.specs.declared.choices.RefKind.TheVariants.{Func}
use Rattle.smith_tree.specs.Marking.{marked_in, marked_inner}
use Rattle.smith_tree.specs.Offered.{OfferedImports}
use Rattle.smith_types.proofs.ReadsDeclarations.{extern_tail, ref_tail}
use Rattle.smith_types.proofs.References.{import_not_equal, ref_formed, ref_offered}
use Rattle.smith_tree.proofs.Marking.{marked_keeps}
use Rattle.smith_component.specs.Imports.{ReadsImport, ReadsImports}
use Rattle.smith_tree.specs.Offers.{import_kinds, marked_with_imports, totals_of, with_imports}
use Rattle.smith_tree.specs.Open.{Open}
use Rattle.smith_component.specs.Sound.{IsAddable, Sound}
use Rattle.smith_tree.specs.Spaces.{Spaces, after_part, spaces_of}
use Rattle.smith_tree.specs.Tree.{Tree, imports, function_count}
use Rattle.smith_tree.specs.Tree.{imports_of, function_of}
use Rattle.smith_tree.specs.WellFormed.{FormedImport, import_names, scope_of}
use Rattle.smith_component.proofs.Fits.{fits_kept, fits_of, own_limits-add, own_sizes-add, sizes_keep}
use Rattle.smith_component.proofs.Growth.{KeepsTypes, imports_keep}
use Rattle.smith_component.proofs.ImportsRoom.{import_grows, importable, imports_cores, imports_places}
use Rattle.smith_component.proofs.SectionsState.{RefRoom, components_more, funcs_more, import_room, imports_marked, imports_marked_more, imports_scope}
use Rattle.smith_component.proofs.SectionsState.{instances_more, modules_more}
use Rattle.smith_component.proofs.MarkedKept.{Kept, SmallCores, marked_kept}
use Rattle.smith_component.proofs.Named.{NewEntry, imports_are_named, loop_named}
use Rattle.smith_component.proofs.Loops.{loop_reaches}
use Rattle.smith_component.proofs.Sound.{component_count-so_far, instance_count-so_far, module_count-so_far}
use Rattle.smith_component.proofs.Tree.{function_count-add}

-- if nothing is offered, no condition holds
not_offered : {A : Type 0} (o : Bool × A) (os : List (Bool × A)) → (offers_of os ≡ [] → AllByRecursion (λ q. q.0 ≡ false) os) → (b : Bool) → o.0 ≡ b
    → (if b then o.1 ∷ offers_of os else offers_of os) ≡ []
    → (o.0 ≡ false) × AllByRecursion (λ q. q.0 ≡ false) os
not_offered o os later true f g = absurd (let z : (o.1 ∷ offers_of os) ≡ [] = g in cc)
not_offered o os later false f g = (f, later g)

pub none_offered : {A : Type 0} (os : List (Bool × A)) → offers_of os ≡ [] → AllByRecursion (λ o. o.0 ≡ false) os
none_offered [] e = tt
none_offered (o ∷ os) e = not_offered o os (none_offered os) o.0 refl e

-- an import of a function or of something else
function_one : (r : ComponentTypeRef) → length (function_of r) ≤ 1
function_one (to.Module i) = omega arith
function_one (to.Func i) = omega arith
function_one (to.TypeEq i) = omega arith
function_one (to.Component i) = omega arith
function_one (to.Instance i) = omega arith

module _ (config : Config) (stack : Open) where
  abbrev room : ℕ
  room = config.max_imports - length (imports_of stack.inner)

  -- the totals with these
  abbrev totals_at : List ImportEntry → RefTotals
  totals_at s = totals_of (with_imports stack s)

  formed_import : (s : List ImportEntry) (b : List ℕ) (x : ImportEntry) (r : List ℕ) (t : List ImportEntry) → ReadsImport config stack s b x r t
      → FormedImport (scope_of stack.inner) x
  formed_import s b x r t i = (
    subst (λ (own : Scope). FormedRef own x.to) (imports_scope config stack s)
        (ref_formed config (marked_with_imports config stack s) _ true false b x.to i.mid i.of),
    import_not_equal config (marked_with_imports config stack s) _ false b x.to i.mid i.of,
  )

  pub import_new : (s : List ImportEntry) (b : List ℕ) (x : ImportEntry) (r : List ℕ) (t : List ImportEntry) → ReadsImport config stack s b x r t
      → NewEntry config.max_name_length (λ (i : ImportEntry). i.name) (imports_of stack.inner) s x t
  import_new s b x r t i = record {
    bytes = i.mid;
    rest = i.named.mid;
    read = subst (λ ns. ReadsNew config.max_name_length ns i.mid x.name i.named.mid) i.names_are i.named.name;
    next_is = i.next_is;
  }

  room_there : {A : Type 0} (room : Bool) (xs : List A) (k : ℕ) (x : A) → slice_get (if room then xs else []) k ≡ Some x → room ≡ true
  room_there true xs k x h = refl
  room_there false xs k x h = absurd (cc)

  module _ {min : ℕ} {b rest : List ℕ} {is : List ImportEntry} (r : ReadsImports config min stack b is rest) where
    -- An import section leaves a tail of the bytes.
    pub imports_tail : IsTail rest b
    imports_tail = loop_tail (λ s c q t e. tail_is e.1)
        (λ s c x q t i. tail_trans (extern_tail i.so_far i.mid (x.name, i.url) q i.named)
        (ref_tail config (marked_with_imports config stack s) (totals_at s) true false c x.to i.mid i.of)) 0 [] b is rest is r

    -- A component has as many imports as it may, at most.
    imports_few : length (imports_of stack.inner) ≤ config.max_imports → length (imports_of stack.inner) + length is ≤ config.max_imports
    imports_few h = let few : 0 + length is ≤ room = loop_few 0 [] b is rest is (omega arith) r in omega (arith, few, h)

    -- What is read is of what is in the component.
    imports_formed : AllByRecursion (FormedImport (scope_of stack.inner)) is
    imports_formed = loop_all (FormedImport (scope_of stack.inner)) formed_import 0 [] b is rest is r

    -- The names of the component's imports stay distinct and in kebab case.
    imports_named : Named (import_names (imports_of stack.inner)) → Named (import_names (imports_of stack.inner ++ is))
    imports_named h = loop_named config.max_name_length (λ (i : ImportEntry). i.name) (imports_of stack.inner) (λ s c q t e. e.2) import_new h r

    -- A count that was within its limit stays within it, if an import that finds room keeps it so.
    count_kept : (count : RefTotals → ℕ) (most : ℕ)
        → ((s : List ImportEntry) (x : ImportEntry) → RefRoom config (totals_at s) x.to → count (totals_at s) ≤ most → count (totals_at (s ++ x ∷ [])) ≤ most)
        → count (totals_at []) ≤ most → count (totals_at is) ≤ most
    count_kept count most one start =
        let Fits : List ImportEntry → Type 0 = λ s. count (totals_at s) ≤ most in
        loop_gives (λ s xs t. Fits s → Fits t) (λ s h. h) (λ s c q t e h. subst Fits (sym e.2) h)
        (λ s t u c x q xs i later h.
        later (subst Fits (sym i.next_is) (one s x (import_room config (marked_with_imports config stack s) (totals_at s) c x.to i.mid i.of) h)))
        0 [] b is rest is r start

    -- What an import section reads may be added.
    pub imports_addable : Sound config stack → IsAddable config stack (imports is)
    imports_addable sound =
        let spaces : Spaces = after_part (spaces_of stack.inner) (imports is) in
        let same : KeepsTypes (spaces_of stack.inner) spaces = imports_keep (spaces_of stack.inner) is in
        let outer : List Tree = stack.outer in
        let inner : Tree = stack.inner in
        record {
          formed = (imports_formed, imports_named (imports_are_named config stack sound));
          own = λ o.
              let fits = count_kept (λ z. z.funcs) config.max_funcs (λ s x fits h. omega (arith, h, fits.funcs, funcs_more stack s x))
              (omega (arith, o.functions, function_count-add inner (imports []))) in
              own_limits-add config inner (imports is) o (fits_kept config (spaces_of inner) spaces same (fits_of config inner o)) (record {
                imports = imports_few o.imports;
                functions = omega (arith, fits, function_count-add inner (imports is));
                exports = omega (arith, o.exports);
              }) tt;
          sizes = λ o. own_sizes-add config inner (imports is) (sizes_keep config (spaces_of inner) spaces same o);
          modules = λ h.
              let fits = count_kept (λ z. z.modules) config.max_modules (λ s x fits h. omega (arith, h, fits.modules, modules_more stack s x))
              (omega (arith, h, module_count-so_far outer inner (imports []))) in
              omega (arith, fits, module_count-so_far outer inner (imports is));
          components = λ h.
              let fits = count_kept (λ z. z.components) config.max_components (λ s x fits h. omega (arith, h, fits.components, components_more stack s x))
              (omega (arith, h, component_count-so_far outer inner (imports []))) in
              omega (arith, fits, component_count-so_far outer inner (imports is));
          instances = λ h.
              let fits = count_kept (λ z. z.instances) config.max_instances (λ s x fits h. omega (arith, h, fits.instances, instances_more stack s x))
              (omega (arith, h, instance_count-so_far outer inner (imports []))) in
              omega (arith, fits, instance_count-so_far outer inner (imports is));
          no_component = refl;
          flat = refl;
          declared = λ h. omega (arith, h);
        }

    -- What is read was offered, and found room.
    pub imports_offered : OfferedImports is (marked_inner config stack.outer stack.inner)
    imports_offered =
        let marked : List ImportEntry → Marked = marked_with_imports config stack in
        let R : List ImportEntry → List ImportEntry → List ImportEntry → Type 0 = λ s xs t. OfferedImports xs (marked s) in
        subst (OfferedImports is) (imports_marked config stack [])
        (loop_gives R (λ s. tt) (λ s c q t e. tt)
        (λ s t u c x q xs i later. (
          ref_offered config (marked s) (totals_at s) true false c x.to i.mid i.of,
          room_there (has_room (marked s) false) (kinds_offered config (marked s) (totals_at s) true false) i.of.choice.place i.of.kind i.of.choice.named,
          subst (OfferedImports xs) (ap marked i.next_is ∙ imports_marked_more config stack s x) later,
        ))
        0 [] b is rest is r)

  -- If functions can be imported, and there is room, there is something to import.
  func_offered : (s : List ImportEntry) → 0 < importable (marked_inner config stack.outer stack.inner)
      → (totals_of (with_imports stack s)).funcs < config.max_funcs → has_room (marked_with_imports config stack s) false ≡ true
      → import_kinds config stack s ≡ [] → ⊥
  func_offered s has below room none =
      let own : Marked = marked_with_imports config stack s in
      let totals = totals_of (with_imports stack s) in
      let open_kinds : kinds_offered config own totals true false ≡ [] =
      sym (ap (λ b. if b then kinds_offered config own totals true false else []) room) ∙ none in
      let all = none_offered (ref_offers config own totals true false) open_kinds in
      let same : ref_places own true Func ≡ ref_places (marked_inner config stack.outer stack.inner) true Func =
      ap (λ m. ref_places m true Func) (imports_marked config stack s) ∙ imports_places s (marked_inner config stack.outer stack.inner) in
      let some : 0 < length (ref_places own true Func) = omega (arith, has, ap length same) in
      let there : nat_lt 0 (length (ref_places own true Func)) ≡ true = grind (arith, nat_tests, some) in
      let allowed : nat_lt totals.funcs config.max_funcs ≡ true = grind (arith, nat_tests, below) in
      false≢true (sym all.1.1.0 ∙ and_from _ _ there allowed)

  module _ (min : ℕ) (has : 0 < importable (marked_inner config stack.outer stack.inner))
      (room : function_count stack.inner + min ≤ config.max_funcs) (cores : SmallCores (marked_inner config stack.outer stack.inner))
      (lasting : config.must_validate ≡ true → (marked_inner config stack.outer stack.inner).size + min * small_size ≤ room_size + small_size) where
    -- when that many are made
    record Made (done : ℕ) (s : List ImportEntry) : Type 0 where
      funcs : (totals_of (with_imports stack s)).funcs ≤ function_count stack.inner + done
      size : (marked_with_imports config stack s).size ≤ (marked_inner config stack.outer stack.inner).size + done * small_size

    room_left : (done : ℕ) (s : List ImportEntry) → Made done s → done < min → has_room (marked_with_imports config stack s) false ≡ true
    room_left done s made lt = by_option config.must_validate refl
      where
        own : Marked
        own = marked_with_imports config stack s

        within : own.size ≤ 990000 → has_room own false ≡ true
        within h = grind (arith, nat_tests, h)

        by_option : (z : Bool) → config.must_validate ≡ z → has_room own false ≡ true
        by_option true e = within (omega (arith, lasting e, made.size, lt))
        by_option false e =
            let kept : Kept own = marked_kept config (marked_in config stack.outer) (with_imports stack s).inner in
            let keeps : own.keeps ≡ config.must_validate = marked_keeps config (marked_in config stack.outer) (with_imports stack s).inner in
            within (omega (arith, kept.plain (keeps ∙ e)))

    enough_at_end : (done : ℕ) (s : List ImportEntry) → Made done s → import_kinds config stack s ≡ [] → min ≤ done
    enough_at_end done s made none = by_min (nat_lt done min) refl
      where
        by_min : (z : Bool) → nat_lt done min ≡ z → min ≤ done
        by_min true f =
            let lt : done < min = grind (arith, nat_tests) in
            absurd (func_offered s has (omega (arith, lt, made.funcs, room)) (room_left done s made lt) none)
        by_min false f = let le : min ≤ done = grind (arith, nat_tests) in le

    made_one : (done : ℕ) (s t : List ImportEntry) (b : List ℕ) (x : ImportEntry) (r : List ℕ) → Made done s → ReadsImport config stack s b x r t
        → Made (done + 1) t
    made_one done s t b x r made i =
        let own : Marked = marked_with_imports config stack s in
        let small : SmallCores own =
        subst (AllByRecursion (λ n. n ≤ small_size))
        (sym (ap (λ m. m.core_sizes) (imports_marked config stack s) ∙ imports_cores s (marked_inner config stack.outer stack.inner))) cores in
        let grows = import_grows own x.to (ref_offered config own (totals_of (with_imports stack s)) true false b x.to i.mid i.of) small in
        record {
          funcs =
              omega (arith, made.funcs, ap (λ z. (totals_of (with_imports stack z)).funcs) i.next_is ∙ funcs_more stack s x, function_one x.to);
          size = omega (
            arith,
            made.size,
            grows,
            ap (λ z. (marked_with_imports config stack z).size) i.next_is ∙ ap (λ (m : Marked). m.size) (imports_marked_more config stack s x),
          );
        }

  -- A section has as many imports as it must, if functions may be imported for all of them.
  pub imports_enough : {min : ℕ} {b rest : List ℕ} {is : List ImportEntry} → 0 < importable (marked_inner config stack.outer stack.inner)
      → function_count stack.inner + min ≤ config.max_funcs → SmallCores (marked_inner config stack.outer stack.inner)
      → (config.must_validate ≡ true → (marked_inner config stack.outer stack.inner).size + min * small_size ≤ room_size + small_size)
      → min ≤ config.max_imports - length (imports_of stack.inner)
      → ReadsImports config min stack b is rest → min ≤ length is
  imports_enough {min = min} {b = b} {rest = rest} {is = is} has fits cores lasting ordered r =
      let M : ℕ → List ImportEntry → Type 0 = Made min has fits cores lasting in
      let start : M 0 [] = record {
        funcs = omega (arith, function_count-add stack.inner (imports []));
        size = omega (arith, ap (λ (m : Marked). m.size) (imports_marked config stack []));
      } in
      let all = loop_reaches M (λ n s c q t p e. (enough_at_end min has fits cores lasting n s p e.0, subst (M n) (sym e.2) p))
      (λ n s c x q t lt p i. made_one min has fits cores lasting n s t c x q p i) ordered 0 [] b is rest is (omega arith) start r in
      omega (arith, all.1, all.2)
