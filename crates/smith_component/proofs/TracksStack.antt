-- What is kept of a component when a part is added to it.
use Rattle.std.proofs.Common.{◌≡◌, ℕ, List, [], ◌∷◌, arith, ap, sym, subst, ◌∙◌, refl}
use Rattle.std.specs.List.{flat_map}
use Rattle.smith_input.proofs.Loops.{loop_gives}
use Rattle.smith_format.specs.declared.config.Config.{Config}
use Rattle.smith_scopes.specs.Scopes.{Contents, inward_marked, own_scope}
use Rattle.smith_scopes.proofs.Stack.{own_scope_is}
use Rattle.smith_syntax.specs.Marked.{first_marked, scope_in}
use Rattle.smith_syntax.specs.Entries.{Signature, function}
use Rattle.smith_component.specs.Canonicals.{CanonTurn, Growing, LiftsTo, ReadsCanons, empty_section, given_up, grown, to_defined, to_equal}
use Rattle.smith_component.specs.Sound.{Totalled, TracksStack}
use Rattle.smith_tree.specs.Marking.{marked_in}
use Rattle.smith_tree.specs.Open.{Open}
use Rattle.smith_tree.specs.WellFormed.{scope_of}
use Rattle.smith_tree.proofs.Marking.{scope_marked}
use Rattle.smith_tree.specs.Spaces.{after_part, spaces_of, types_of}
use Rattle.smith_tree.specs.Functions.{core_functions_of, functions_of}
use Rattle.smith_tree.specs.Tree.{Tree, Part, types, canons, add, module_of, component_of, instance_of}
use Rattle.smith_tree.specs.Tree.{exports_in, exports_of, function_count}
use Rattle.smith_tree.specs.Tree.{imports_in, imported_modules_in, imported_components_in, imported_instances_in}
use Rattle.smith_component.specs.Tables.{Tabled}
use Rattle.smith_component.specs.declared.builder.tables.Tables.{Tables}
use Rattle.smith_component.specs.declared.builder.totals.TreeTotals.{TreeTotals}
use Rattle.smith_tree.specs.declared.choices.CanonItem.{CanonItem}
use Rattle.smith_tree.specs.declared.choices.CanonItem.TheVariants.{Lower, Lift}
use Rattle.smith_component.proofs.Growth.{extends-add, spaces-add}
use Rattle.smith_component.proofs.Sound.{totalled_part}
use Rattle.smith_component.proofs.Tables.{own_bare, tabled_types}
use Rattle.smith_component.proofs.Tree.{function_count-add, functions_in}

-- The last scope by itself is the inner component's.
pub tracked_own : {config : Config} {totals : TreeTotals} {stack : Open} (scopes : List Contents)
    → TracksStack config (inward_marked scopes) totals stack → own_scope scopes ≡ scope_of stack.inner
tracked_own {config} {stack = stack} scopes t =
    own_scope_is scopes ∙ (ap (λ ss. scope_in (first_marked ss)) t.scopes_are ∙ scope_marked config (marked_in config stack.outer) stack.inner)

-- A part without functions leaves the tables as they are.
pub tabled_added : {tables : Tables} (t new : Tree) (p : Part) → new ≡ add t p → (after_part (spaces_of t) p).functions ≡ functions_of t
    → (after_part (spaces_of t) p).core_functions ≡ core_functions_of t → functions_in p ≡ 0 → exports_in p ≡ [] → Tabled tables t → Tabled tables new
tabled_added t new p e fs cs none xs tabled =
    let grows = (extends-add t p).types in
    tabled_types t new grows.0 tabled (ap types_of e ∙ grows.1) (ap functions_of e ∙ (ap (λ s. s.functions) (spaces-add t p) ∙ fs))
    (ap core_functions_of e ∙ (ap (λ s. s.core_functions) (spaces-add t p) ∙ cs))
    (omega (arith, ap (λ t. function_count t) e, function_count-add t p, none)) (ap exports_of e ∙ own_bare exports_in t p xs)

-- A part without imports imports nothing of any kind.
pub none_imported : (p : Part) → imports_in p ≡ [] → (imported_modules_in p ≡ []) × (imported_components_in p ≡ []) × (imported_instances_in p ≡ [])
none_imported p e = (ap (flat_map (λ i. module_of i.to)) e, ap (flat_map (λ i. component_of i.to)) e, ap (flat_map (λ i. instance_of i.to)) e)

-- A canonical section leaves the totals as they are.
with_section : (config : Config) (totals : TreeTotals) (outer : List Tree) (s : Growing) → Totalled totals (record { outer = outer; inner = s.before })
    → Totalled totals (record { outer = outer; inner = grown s })
with_section config totals outer s h = totalled_part config outer s.before _ totals totals (canons s.funcs) refl refl (omega arith) (omega arith) (omega arith)
    h

-- So do those that turns lead to.
pub canons_totalled : (config : Config) (totals : TreeTotals) (outer : List Tree) (min : ℕ) (t : Tree) (b rest : List ℕ) (turns : List CanonItem)
    (next : Growing) → ReadsCanons config min t b turns rest next
    → Totalled totals (record { outer = outer; inner = t }) → Totalled totals (record { outer = outer; inner = grown next })
canons_totalled config totals outer min t b rest turns next r h =
    with_section config totals outer next (loop_gives (λ s xs u. T s → T u) (λ s k. k) (λ s c q u e k. subst T (sym e.2) k)
    (λ s v u c item q xs turn later k. later (turned s item v c q turn k)) 0 (empty_section t) b turns rest next r h)
  where
    T : Growing → Type 0
    T s = Totalled totals (record { outer = outer; inner = s.before })

    lifted : (s next : Growing) (c : ℕ) (signature : Signature) (b rest : List ℕ) → LiftsTo config s c signature b rest next → T s → T next
    lifted s next c signature b rest (to_equal m e) k = subst T (sym e) k
    lifted s next c signature b rest (to_defined n m l e) k =
        let one = with_section config totals outer s k in
        subst T (sym e) (totalled_part config outer (grown s) _ totals totals (types (function signature ∷ [])) refl refl (omega arith) (omega arith)
        (omega arith) one)
    lifted s next c signature b rest (given_up n m l e) k = subst T (sym e) k

    turned : (s : Growing) (item : CanonItem) (next : Growing) (b rest : List ℕ) → CanonTurn config s b item rest next → T s → T next
    turned s Lower next b rest turn k = subst T (sym turn.2.2) k
    turned s Lift next b rest turn k = lifted s next turn.2.c turn.2.signature _ _ turn.2.lifts k
