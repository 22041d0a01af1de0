-- What each item keeps.
use Rattle.std.proofs.Common.{◌≡◌, ℕ, ◌+◌, ◌<◌, ◌≤◌, max, List, [], ◌∷◌, ◌++◌, length, arith, ap, sym, subst, ◌∙◌, refl, true, inr, append-nil, length-append}
use Rattle.std.specs.List.{AllByRecursion, flat_map}
use Rattle.std.proofs.lemmas.Bool.Decides.{nat_tests}
use Rattle.std.proofs.lemmas.List.Concat.{flat_map-append}
use Rattle.smith_format.specs.declared.config.Config.{Config}
use Rattle.smith_syntax.specs.CoreLimits.{CoreLimits}
use Rattle.smith_syntax.specs.Entries.{Entry, CoreEntry}
use Rattle.smith_syntax.specs.Marked.{Marked}
use Rattle.smith_syntax.specs.Scope.{Scope}
use Rattle.smith_syntax.specs.TypeLimits.{EntryLimits}
use Rattle.smith_tree.specs.TypeNeeds.{declaring}
use Rattle.smith_tree.specs.Spaces.{core_types_of, spaces_of, types_of}
use Rattle.smith_tree.specs.Tree.{Tree, ends, Part, custom, core_module, core_types, component, types, canons, imports, exports, add, inside, names_in}
use Rattle.smith_tree.specs.Tree.{components_in}
use Rattle.smith_tree.specs.Tree.{modules_in, imported_modules_in, imported_components_in, imported_instances_in, anywhere_in, no_depth}
use Rattle.smith_tree.specs.Depths.{depth_in, declared_depth_in}
use Rattle.smith_tree.specs.Tree.{module_count, component_count, instance_count, most}
use Rattle.smith_tree.specs.Marking.{marked_from, marked_in, marked_inner, marked_of}
use Rattle.smith_tree.specs.Open.{Open, tree_so_far, is_module_offered, is_component_offered, scopes_from, scopes_in, with_inner}
use Rattle.smith_component.specs.Turn.{building, Closes}
use Rattle.smith_tree.specs.WellFormed.{FormedPart, WellFormed, scope_of}
use Rattle.smith_tree.specs.Limits.{max_depth, SmallTypes, SmallCoreTypes, OwnSizes, Sized, OwnLimits, Maxima, Minima, Limits}
use Rattle.smith_component.specs.Sound.{IsAddable, IsQuiet, Sound, Totalled, finished_in}
use Rattle.smith_component.specs.declared.builder.totals.TreeTotals.{TreeTotals}
use Rattle.smith_component.proofs.Fits.{Fits, IsSized, Short, fits_of, no_counted, own_limits-add, own_limits-component, own_limits_swap}
use Rattle.smith_component.proofs.Fits.{own_sizes-add, own_sizes_swap}
use Rattle.smith_component.proofs.Tree.{formed_so_far, tree_so_far-close, depth-so_far, length-anywhere-so_far, anywhere-add, depth-outer, all_so_far}
use Rattle.smith_component.proofs.Tree.{all_inner}
use Rattle.smith_scopes.proofs.Plain.{all_both, all_front, all_back}

-- How many modules, components and instances there are when the inner component grows.

pub length-inside-so_far : (outer : List Tree) (t : Tree) (p : Part)
    → length (inside (tree_so_far outer (add t p))) ≡ length (inside (tree_so_far outer t)) + length (anywhere_in components_in p)
length-inside-so_far outer t p = length-anywhere-so_far components_in (record { same = λ a b. refl }) outer t p

pub module_count-so_far : (outer : List Tree) (t : Tree) (p : Part)
    → module_count (tree_so_far outer (add t p)) ≡ module_count (tree_so_far outer t)
    + (length (anywhere_in modules_in p) + length (anywhere_in imported_modules_in p))
module_count-so_far outer t p = grind (arith, length-anywhere-so_far)

pub component_count-so_far : (outer : List Tree) (t : Tree) (p : Part)
    → component_count (tree_so_far outer (add t p)) ≡ component_count (tree_so_far outer t)
    + (length (anywhere_in components_in p) + length (anywhere_in imported_components_in p))
component_count-so_far outer t p = grind (arith, length-inside-so_far, length-anywhere-so_far)

pub instance_count-so_far : (outer : List Tree) (t : Tree) (p : Part)
    → instance_count (tree_so_far outer (add t p)) ≡ instance_count (tree_so_far outer t) + length (anywhere_in imported_instances_in p)
instance_count-so_far outer t p = length-anywhere-so_far imported_instances_in (record { same = λ a b. refl }) outer t p

-- What is in a part that is not a component is its own.
pub in_own : {A : Type 0} (f : Part → List A) (p : Part) → anywhere_in components_in p ≡ [] → anywhere_in f p ≡ f p
in_own f (component t) e = absurd (let z : (t ∷ inside t) ≡ [] = e in cc)
in_own f _ e = refl

pub own_sizes_of : (config : Config) (stack : Open) → Sound config stack → OwnSizes config stack.inner
own_sizes_of config stack s = all_inner (OwnSizes config) stack.outer stack.inner s.sized

-- The inner component keeps its own limits.
pub own_limits_of : (config : Config) (stack : Open) → Sound config stack → OwnLimits config stack.inner
own_limits_of config stack s = all_inner (OwnLimits config) stack.outer stack.inner s.maxima.each

-- A part that may be added keeps all that is true.
pub part_sound : (config : Config) (stack : Open) (p : Part) → IsAddable config stack p → Sound config stack
    → Sound config (with_inner stack (add stack.inner p))
part_sound config stack p a s =
    let outer : List Tree = stack.outer in
    let inner : Tree = stack.inner in
    let none : length (anywhere_in components_in p) ≡ 0 = ap length a.no_component in
    let mods : length (anywhere_in modules_in p) ≡ length (modules_in p) = ap length (in_own modules_in p a.no_component) in
    let imps : length (anywhere_in imported_modules_in p) ≡ length (imported_modules_in p) = ap length (in_own imported_modules_in p a.no_component) in
    let comps : length (anywhere_in imported_components_in p) ≡ length (imported_components_in p) =
    ap length (in_own imported_components_in p a.no_component) in
    let insts : length (anywhere_in imported_instances_in p) ≡ length (imported_instances_in p) = ap length (in_own imported_instances_in p a.no_component) in
    let deep = depth-outer no_depth outer inner in
    let same : inside (add inner p) ≡ inside inner = anywhere-add components_in inner p
    ∙ (ap (λ x. inside inner ++ x) a.no_component ∙ append-nil (inside inner)) in
    record {
      consistent = s.consistent;
      formed = formed_so_far outer [] inner p s.formed a.formed;
      maxima = record {
        each = all_so_far (OwnLimits config) (own_limits_swap config) outer inner p (a.own (own_limits_of config stack s))
            (subst (AllByRecursion (OwnLimits config)) (sym a.no_component) tt) s.maxima.each;
        modules = omega (arith, module_count-so_far outer inner p, a.modules s.maxima.modules, mods, imps);
        components = omega (arith, component_count-so_far outer inner p, a.components s.maxima.components, none, comps);
        instances = omega (arith, instance_count-so_far outer inner p, a.instances s.maxima.instances, insts);
        depth = omega (arith, depth-so_far no_depth outer inner p, deep, s.maxima.depth, a.flat);
        declared =
            omega (arith, depth-so_far (most declaring) outer inner p, s.maxima.declared, a.declared (omega (arith, deep, s.maxima.depth)));
      };
      minima = subst (λ x. AllByRecursion (Minima config) (flat_map inside outer ++ x)) (sym same) s.minima;
      sized =
          all_so_far (OwnSizes config) (own_sizes_swap config) outer inner p (a.sizes (own_sizes_of config stack s))
          (subst (AllByRecursion (OwnSizes config)) (sym a.no_component) tt) s.sized;
    }

-- The components that are finished, when the inner one is closed.
finished_close : (config : Config) (outer : List Tree) (parent inner : Tree) → Minima config inner
    → AllByRecursion (Minima config) (finished_in (record { outer = outer ++ parent ∷ []; inner = inner }))
    → AllByRecursion (Minima config) (finished_in (record { outer = outer; inner = add parent (component inner) }))
finished_close config outer parent inner enough all = grind (arith, flat_map-append, append-nil, all_front, all_back, all_both, anywhere-add)

pub sound_close : (config : Config) (outer : List Tree) (parent inner : Tree) → Minima config inner
    → Sound config (record { outer = outer ++ parent ∷ []; inner = inner }) → Sound config (record { outer = outer; inner = add parent (component inner) })
sound_close config outer parent inner enough s = grind (arith, tree_so_far-close, finished_close)

finished_open : (config : Config) (outer : List Tree) (inner : Tree) → AllByRecursion (Minima config) (finished_in (record { outer = outer; inner = inner }))
    → AllByRecursion (Minima config) (finished_in (record { outer = outer ++ inner ∷ []; inner = ends }))
finished_open config outer inner all = grind (arith, append-nil, flat_map-append)

-- What an empty component has.
pub own_limits-ends : (config : Config) → OwnLimits config ends
own_limits-ends config = grind arith

pub sound_open : (config : Config) (outer : List Tree) (inner : Tree) → length outer + 1 < config.max_nesting_depth
    → component_count (tree_so_far outer inner) < config.max_components → Sound config (record { outer = outer; inner = inner })
    → Sound config (record { outer = outer ++ inner ∷ []; inner = ends })
sound_open config outer inner deep few s =
    let e : tree_so_far (outer ++ inner ∷ []) ends ≡ tree_so_far outer (add inner (component ends)) = tree_so_far-close outer inner ends in
    let stack : Open = record { outer = outer; inner = inner } in
    let whole : Maxima config (tree_so_far outer (add inner (component ends))) = record {
      each =
          all_so_far (OwnLimits config) (own_limits_swap config) outer inner (component ends)
          (own_limits-component config inner ends (own_limits_of config stack s)) (own_limits-ends config, tt) s.maxima.each;
      modules = omega (arith, module_count-so_far outer inner (component ends), s.maxima.modules);
      components = omega (arith, component_count-so_far outer inner (component ends), few);
      instances = omega (arith, instance_count-so_far outer inner (component ends), s.maxima.instances);
      depth = omega (arith, depth-so_far no_depth outer inner (component ends), s.maxima.depth);
      declared = omega (arith, deep, depth-so_far (most declaring) outer inner (component ends), s.maxima.declared);
    } in
    record {
      consistent = s.consistent;
      formed = subst WellFormed (sym e) (formed_so_far outer [] inner (component ends) s.formed tt);
      maxima = subst (Maxima config) (sym e) whole;
      minima = finished_open config outer inner s.minima;
      sized =
          subst (Sized config) (sym e)
          (all_so_far (OwnSizes config) (own_sizes_swap config) outer inner (component ends)
          (own_sizes-add config inner (component ends) (own_sizes_of config stack s)) ((tt, tt), tt) s.sized);
    }

-- A part that adds nothing but names and modules.
pub addable_bare : (config : Config) (stack : Open) (p : Part) → FormedPart p (scopes_in stack.outer) stack.inner → IsQuiet p → Short (names_in p)
    → (module_count (tree_so_far stack.outer stack.inner) ≤ config.max_modules
    → module_count (tree_so_far stack.outer stack.inner) + (length (modules_in p) + length (imported_modules_in p)) ≤ config.max_modules)
    → imported_components_in p ≡ [] → imported_instances_in p ≡ [] → anywhere_in components_in p ≡ [] → depth_in p ≡ 1 → declared_depth_in p ≡ 1
    → IsAddable config stack p
addable_bare config stack p f q ns ms cs is none flat level = record {
  formed = f;
  own = λ o. own_limits-add config stack.inner p o (subst (Fits config) (sym (q.spaces (spaces_of stack.inner))) (fits_of config stack.inner o))
      (no_counted config stack.inner p q.imports q.canons q.exports o) ns;
  sizes = λ o. own_sizes-add config stack.inner p (subst (IsSized config) (sym (q.spaces (spaces_of stack.inner))) o);
  modules = ms;
  components = λ h. omega (arith, h, ap length cs);
  instances = λ h. omega (arith, h, ap length is);
  no_component = none;
  flat = flat;
  declared = λ h. omega (arith, h, level);
}

pub addable_custom : (config : Config) (stack : Open) (name contents : List ℕ) → length name ≤ 1000 → IsAddable config stack (custom name contents)
addable_custom config stack name contents short =
    addable_bare config stack (custom name contents) tt
    (record { spaces = λ s. refl; marked = λ s outer own. refl; imports = refl; canons = refl; exports = refl }) (short, tt) (λ h. omega (arith, h))
    refl refl refl refl refl

pub addable_module : (config : Config) (stack : Open) (text : List ℕ) → module_count (tree_so_far stack.outer stack.inner) < config.max_modules
    → IsAddable config stack (core_module text)
addable_module config stack text few =
    addable_bare config stack (core_module text) tt
    (record { spaces = λ s. refl; marked = λ s outer own. refl; imports = refl; canons = refl; exports = refl }) tt (λ h. omega (arith, few))
    refl refl refl refl refl

-- A part without modules, components and instances, which counts in its component alone.
pub addable_level : (config : Config) (stack : Open) (p : Part) → FormedPart p (scopes_in stack.outer) stack.inner
    → (OwnLimits config stack.inner → OwnLimits config (add stack.inner p)) → (OwnSizes config stack.inner → OwnSizes config (add stack.inner p))
    → length (modules_in p) + (length (imported_modules_in p) + (length (imported_components_in p) + length (imported_instances_in p))) ≡ 0
    → anywhere_in components_in p ≡ [] → depth_in p ≡ 1
    → (length stack.outer + 1 ≤ max_depth config → length stack.outer + declared_depth_in p ≤ max_depth config) → IsAddable config stack p
addable_level config stack p formed own sizes count none flat declared = grind arith

-- Types that find room.
pub addable_types : (config : Config) (stack : Open) (es : List Entry) → FormedPart (types es) (scopes_in stack.outer) stack.inner
    → length (types_of stack.inner) + length es ≤ config.max_types
    → AllByRecursion (EntryLimits config) es
    → length stack.outer + 1 + most declaring es ≤ max (length stack.outer + 1) config.max_nesting_depth
    → SmallTypes config es → IsAddable config stack (types es)
addable_types config stack es f room limited declared small =
    addable_level config stack (types es) f (λ o.
    own_limits-add config stack.inner (types es) o (record {
      types = omega (arith, room, length-append (types_of stack.inner) es);
      core_types = o.core_types;
      within_types = all_both _ (types_of stack.inner) es o.within_types limited;
      within_core_types = o.within_core_types;
    }) (no_counted config stack.inner (types es) refl refl refl o) tt)
    (λ o. own_sizes-add config stack.inner (types es) (all_both _ (types_of stack.inner) es o.0 small, o.1)) refl refl refl
    (λ h. omega (arith, h, declared))

-- Core types that find room.
pub addable_core_types : (config : Config) (stack : Open) (es : List CoreEntry) → FormedPart (core_types es) (scopes_in stack.outer) stack.inner
    → length (core_types_of stack.inner) + length es ≤ config.max_types
    → AllByRecursion (CoreLimits config) es → SmallCoreTypes config es → IsAddable config stack (core_types es)
addable_core_types config stack es f room limited small =
    addable_level config stack (core_types es) f (λ o.
    own_limits-add config stack.inner (core_types es) o (record {
      types = o.types;
      core_types = omega (arith, room, length-append (core_types_of stack.inner) es);
      within_types = o.within_types;
      within_core_types = all_both _ (core_types_of stack.inner) es o.within_core_types limited;
    }) (no_counted config stack.inner (core_types es) refl refl refl o) tt)
    (λ o. own_sizes-add config stack.inner (core_types es) (o.0, all_both _ (core_types_of stack.inner) es o.1 small)) refl refl refl
    (λ h. omega (arith, h))

own_length : {A : Type 0} (f : Part → List A) (p : Part) → anywhere_in components_in p ≡ [] → length (anywhere_in f p) ≡ length (f p)
own_length f p none = ap length (in_own f p none)

-- Totals, when the inner component grows by a part without components.
pub totalled_part : (config : Config) (outer : List Tree) (inner new : Tree) (old totals : TreeTotals) (p : Part) → anywhere_in components_in p ≡ []
    → new ≡ add inner p
    → totals.modules ≡ old.modules + (length (modules_in p) + length (imported_modules_in p))
    → totals.components ≡ old.components + length (imported_components_in p) → totals.instances ≡ old.instances + length (imported_instances_in p)
    → Totalled old (record { outer = outer; inner = inner }) → Totalled totals (record { outer = outer; inner = new })
totalled_part config outer inner new old totals p none e ms cs is t =
    subst (λ x. Totalled totals (record { outer = outer; inner = x })) (sym e) (record {
      modules = omega (arith, ms, t.modules, module_count-so_far outer inner p, own_length modules_in p none, own_length imported_modules_in p none);
      components = omega (arith, cs, t.components, component_count-so_far outer inner p, ap length none, own_length imported_components_in p none);
      instances = omega (arith, is, t.instances, instance_count-so_far outer inner p, own_length imported_instances_in p none);
    })

pub component_offered_is : (config : Config) (stack : Open) → is_component_offered config stack ≡ true
    → (length stack.outer + 1 < config.max_nesting_depth) × (component_count (tree_so_far stack.outer stack.inner) < config.max_components)
component_offered_is config stack h = grind (arith, nat_tests)

pub module_offered_is : (config : Config) (stack : Open) → is_module_offered config stack ≡ true
    → module_count (tree_so_far stack.outer stack.inner) < config.max_modules
module_offered_is config stack h = grind (arith, nat_tests)

pub closes : (around outer : List Tree) (parent inner new : Tree) → around ≡ outer ++ parent ∷ [] → new ≡ add parent (component inner)
    → Closes (record { outer = around; inner = inner }) (building (record { outer = outer; inner = new }))
closes around outer parent inner new a e = inr (outer, parent, a, ap (λ t. building (record { outer = outer; inner = t })) e)

-- Scopes of components that are open.

pub scopes_from-snoc : (us : List Tree) (u : Tree) (outer : List Scope) → scopes_from (us ++ u ∷ []) outer ≡ scope_of u ∷ scopes_from us outer
scopes_from-snoc [] u outer = refl
scopes_from-snoc (v ∷ us) u outer = scopes_from-snoc us u (scope_of v ∷ outer)

pub length-scopes_from : (us : List Tree) (outer : List Scope) → length (scopes_from us outer) ≡ length us + length outer
length-scopes_from [] outer = omega arith
length-scopes_from (u ∷ us) outer = omega (arith, length-scopes_from us (scope_of u ∷ outer))

-- the same with what is kept

pub marked_from-snoc : (config : Config) (us : List Tree) (u : Tree) (outer : List Marked)
    → marked_from config (us ++ u ∷ []) outer ≡ marked_of config (marked_from config us outer) u ∷ marked_from config us outer
marked_from-snoc config [] u outer = refl
marked_from-snoc config (v ∷ us) u outer = marked_from-snoc config us u (marked_of config outer v ∷ outer)

-- those of the components around, when the inner one is opened, and a component in it
pub marked_in-snoc : (config : Config) (us : List Tree) (u : Tree) → marked_in config (us ++ u ∷ []) ≡ marked_inner config us u ∷ marked_in config us
marked_in-snoc config us u = marked_from-snoc config us u []

pub length-marked_from : (config : Config) (us : List Tree) (outer : List Marked) → length (marked_from config us outer) ≡ length us + length outer
length-marked_from config [] outer = omega arith
length-marked_from config (u ∷ us) outer = omega (arith, length-marked_from config us (marked_of config outer u ∷ outer))

-- There are as many scopes as components are open, at most 1000.
pub scopes_few : (config : Config) (stack : Open) (scopes : List Marked) → Sound config stack
    → scopes ≡ marked_inner config stack.outer stack.inner ∷ marked_in config stack.outer → length scopes ≤ 1000
scopes_few config stack scopes s e =
    omega (arith, ap length e, length-marked_from config stack.outer [], depth-outer no_depth stack.outer stack.inner, s.maxima.depth, s.consistent.nesting)

pub same_tail : (s t : Marked) (ss ts : List Marked) → s ∷ ss ≡ t ∷ ts → ss ≡ ts
same_tail s t ss ts e = cc

-- What is true of a root that is alone, when it has enough.
pub root_kept : (config : Config) (outer : List Tree) (inner t : Tree) → outer ≡ [] → inner ≡ t → Minima config inner
    → Sound config (record { outer = outer; inner = inner }) → Limits config t × WellFormed t × Sized config t
root_kept config outer inner t none is enough s = grind arith

-- Totals, when an empty component is opened in the inner one.
pub totalled_open : (outer around : List Tree) (inner new : Tree) (old totals : TreeTotals) → around ≡ outer ++ inner ∷ [] → new ≡ ends
    → totals.modules ≡ old.modules → totals.components ≡ old.components + 1 → totals.instances ≡ old.instances
    → Totalled old (record { outer = outer; inner = inner }) → Totalled totals (record { outer = around; inner = new })
totalled_open outer around inner new old totals a e ms cs is t =
    let close : tree_so_far (outer ++ inner ∷ []) ends ≡ tree_so_far outer (add inner (component ends)) = tree_so_far-close outer inner ends in
    let whole : Totalled totals (record { outer = outer ++ inner ∷ []; inner = ends }) = record {
      modules = omega (arith, ms, t.modules, module_count-so_far outer inner (component ends), ap module_count close);
      components = omega (arith, cs, t.components, component_count-so_far outer inner (component ends), ap component_count close);
      instances = omega (arith, is, t.instances, instance_count-so_far outer inner (component ends), ap instance_count close);
    } in
    subst (λ us. Totalled totals (record { outer = us; inner = new })) (sym a)
    (subst (λ t. Totalled totals (record { outer = outer ++ inner ∷ []; inner = t })) (sym e) whole)

-- Totals, when the inner component is closed.
pub totalled_close : (outer around : List Tree) (parent inner new : Tree) (totals : TreeTotals) → around ≡ outer ++ parent ∷ []
    → new ≡ add parent (component inner)
    → Totalled totals (record { outer = around; inner = inner }) → Totalled totals (record { outer = outer; inner = new })
totalled_close outer around parent inner new totals a e t = grind (arith, tree_so_far-close)
