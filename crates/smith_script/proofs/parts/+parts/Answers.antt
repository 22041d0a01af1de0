use Rattle.std.proofs.Common.{◌≡◌, ℕ, ⊎_elim, [], ◌∷◌, ◌++◌, map, ap, refl, subst, sym, ◌∙◌, append-nil}
use Rattle.std.proofs.lemmas.List.{take_all}
use Rattle.std.proofs.lemmas.Result.{on_ok_weaker}
use Rattle.smith_read.specs.PartNodes.{shown_part_node}
use Rattle.smith_read.proofs.PartNodes.{shown_canons, shown_core_types, shown_custom, shown_exports, shown_imports, shown_module, shown_nested, shown_types}
use Rattle.smith_read.specs.declared.nodes.PartNode.{PartNode}
use Rattle.smith_scope.proofs.Lists.{head_same}
use Rattle.smith_scopes.specs.NodeScopes.{outer_marked_in, own_marked_in}
use Rattle.smith_syntax.specs.Marked.{Marked}
use Rattle.smith_tree.specs.Tree.{components_in, ends, tree_of}
use Rattle.smith_script_types.specs.Says.{Adds, IsUnsaid, Says}
use Rattle.smith_script_types.proofs.Saying.{gives_up, towards_done, towards_exit, towards_start, towards_step, unsaid_left, unsaid_right}
use Rattle.smith_tree.specs.declared.choices.Item.TheVariants as item
use Rattle.smith_script.specs.Preceding.{IsAfter, Preceding, preceding, totals_in}
use Rattle.smith_script.proofs.Keeps.{section_keeps}
use Rattle.smith_script.proofs.Turns.{closes, depth_is, item_said, last_said, opened_formed, opens, reached_next, section_after}
use Rattle.smith_script.proofs.Turns.{section_said, this_formed, this_said}
use Rattle.smith_script.proofs.parts.+parts.Goals as goal

pub say_part-returns-in_err-inner-in-Component-clause-said : goal.say_part-returns-in_err-inner-in-Component-clause-said
say_part-returns-in_err-inner-in-Component-clause-said t c = rw (c.in-Component.is, shown_nested c.in-Component.parts) (λ outer before after formed.
    let entered = (c.in_ok-enter-in-Component.ensures {u = tt}).around in
    gives_up _ _ _ _ c.from_residual-in_err-inner-in-Component.ensures.1
    ((rw c.deref.ensures.value at c.in_err-inner-in-Component.ensures.said) (outer ++ before ∷ [])
    (rw entered (opens after _ (c.in_ok-totals-in-Component.ensures {u = tt}).totals)) (opened_formed after _ formed)))

pub say_part-returns-in_ok-inner-in-Component-clause-said : goal.say_part-returns-in_ok-inner-in-Component-clause-said
say_part-returns-in_ok-inner-in-Component-clause-said t c = rw (c.in-Component.is, shown_nested c.in-Component.parts) (λ outer before after formed.
    let entered = (c.in_ok-enter-in-Component.ensures {u = tt}).around in
    (rw c.deref.ensures.value at c.in_ok-inner-in-Component.ensures.said) (outer ++ before ∷ [])
    (rw entered (opens after _ (c.in_ok-totals-in-Component.ensures {u = tt}).totals)) (opened_formed after _ formed))

pub say_part-returns-in_ok-inner-in-Component-clause-added : goal.say_part-returns-in_ok-inner-in-Component-clause-added
say_part-returns-in_ok-inner-in-Component-clause-added t c = rw (c.in-Component.is, shown_nested c.in-Component.parts) (λ outer before after formed.
    let entered = (c.in_ok-enter-in-Component.ensures {u = tt}).around in
    let own = head_same _ _ _ _ (sym c.leave.ensures.marked ∙ (c.in_ok-inner-in-Component.ensures.outer ∙ entered)) in
    closes after (tree_of (map shown_part_node c.in-Component.parts.items)) c.in_ok-inner-in-Component.inner
    ((rw c.deref.ensures.value at c.in_ok-inner-in-Component.ensures.totals) (outer ++ before ∷ [])
    (rw entered (opens after _ (c.in_ok-totals-in-Component.ensures {u = tt}).totals)) (opened_formed after _ formed)) _
    (ap (λ (o : Marked). record (preceding o c.args.here.now) {
      totals = record c.in_ok-inner-in-Component.inner { funcs = c.args.here.now.totals.funcs };
    }) own))

pub say_parts-returns-in_err-say_item-clause-said : goal.say_parts-returns-in_err-say_item-clause-said
say_parts-returns-in_err-say_item-clause-said t c outer after formed =
    let r = c.loop-part.invariant.reached outer after formed in
    let depth = c.loop-part.invariant.depth in
    gives_up _ _ _ _ c.from_residual.ensures.1
    (towards_exit _ _ r.said (this_said r c.part-item.result c.loop-part-test.true c.part-item.is)
    (unsaid_left _ (subst (IsUnsaid _) (item_said r.after _ _ r.sections)
    ((rw c.item_of.ensures at (c.in_err-say_item.ensures {u = tt})) (own_marked_in c.loop-part.scopes) (outer_marked_in c.args.scopes.now) depth))))

pub say_parts-returns-in_err-say_part-clause-said : goal.say_parts-returns-in_err-say_part-clause-said
say_parts-returns-in_err-say_part-clause-said t c outer after formed =
    let r = c.loop-part.invariant.reached outer after formed in
    gives_up _ _ _ _ c.from_residual-in_err-say_part.ensures.1
    (towards_exit _ _ r.said (this_said r c.part-item.result c.loop-part-test.true c.part-item.is)
    (unsaid_right _ ((rw c.loop-part.invariant.outer at c.in_err-say_part.ensures.said) outer _ r.after
    (this_formed r c.part-item.result c.loop-part-test.true c.part-item.is))))

pub say_parts-loop-part-preserved : goal.say_parts-loop-part-preserved
say_parts-loop-part-preserved t c =
    let invariant = c.loop-part.invariant in
    let depth = c.loop-part.invariant.depth in
    record {
      outer = c.in_ok-say_part.ensures.outer ∙ invariant.outer;
      depth = depth;
      keeps = c.in_ok-say_part.ensures.keeps ∙ invariant.keeps;
      reached = λ outer after formed.
          let r = invariant.reached outer after formed in
          let here = this_formed r c.part-item.result c.loop-part-test.true c.part-item.is in
          reached_next r c.part-item.result c.loop-part-test.true c.part-item.is c.in_ok-turn.ensures.more
          (subst (Adds _ _) (item_said r.after _ _ r.sections)
          ((rw c.item_of.ensures at (c.in_ok-say_item.ensures {u = tt})) (own_marked_in c.loop-part.scopes) (outer_marked_in c.args.scopes.now) depth))
          ((rw invariant.outer at c.in_ok-say_part.ensures.said) outer _ r.after here)
          ((rw invariant.outer at c.in_ok-say_part.ensures.added) outer _ r.after here);
    }

pub say_parts-returns-in_err-say_item-2-clause-said : goal.say_parts-returns-in_err-say_item-2-clause-said
say_parts-returns-in_err-say_item-2-clause-said t c outer after formed =
    let r = c.loop-part.invariant.reached outer after formed in
    let depth = c.loop-part.invariant.depth in
    gives_up _ _ _ _ c.from_residual-in_err-say_item-2.ensures.1
    (towards_exit _ [] r.said (last_said r c.loop-part-test.false ∙ sym (append-nil _))
    (subst (IsUnsaid _) (item_said r.after item.Finish _ r.sections)
    ((c.in_err-say_item-2.ensures {u = tt}) (own_marked_in c.loop-part.scopes) (outer_marked_in c.args.scopes.now) depth)))

pub say_parts-returns-clause-said : goal.say_parts-returns-clause-said
say_parts-returns-clause-said t c outer after formed =
    let r = c.loop-part.invariant.reached outer after formed in
    let depth = c.loop-part.invariant.depth in
    towards_done (towards_step _ [] r.said (last_said r c.loop-part-test.false ∙ sym (append-nil _))
    (subst (Adds _ _) (item_said r.after item.Finish _ r.sections)
    ((c.in_ok-say_item-2.ensures {u = tt}) (own_marked_in c.loop-part.scopes) (outer_marked_in c.args.scopes.now) depth))) refl

-- A section is not a component.
none : (t : ℕ) (c : goal.say_part-After-say_section t) → components_in (shown_part_node c.args.part.now) ≡ []
none t c =
    let shows = λ (x : PartNode). components_in (shown_part_node x) in
    ⊎_elim (λ h. ap shows h.1 ∙ ap components_in (shown_custom h.0)) (⊎_elim (λ h. ap shows h.1 ∙ ap components_in (shown_module h.0))
    (⊎_elim (λ h. ap shows h.1 ∙ ap components_in (shown_core_types h.0)) (⊎_elim (λ h. ap shows h.1 ∙ ap components_in (shown_types h.0))
    (⊎_elim (λ h. ap shows h.1 ∙ ap components_in (shown_canons h.0)) (⊎_elim (λ h. ap shows h.1 ∙ ap components_in (shown_imports h.0))
    (λ h. ap shows h.1 ∙ ap components_in (shown_exports h.0))))))) c.in-Custom.is

pub say_part-returns-in-Custom-clause-said : goal.say_part-returns-in-Custom-clause-said
say_part-returns-in-Custom-clause-said t c outer before after formed =
    subst (Says c.say_section.result c.args.out.now c.say_section.new.out) (section_said after _ (none t c)) c.say_section.ensures.said

pub say_part-returns-in-Custom-clause-added : goal.say_part-returns-in-Custom-clause-added
say_part-returns-in-Custom-clause-added t c outer before after formed =
    on_ok_weaker c.say_section.result (section_after after _ (none t c) formed _) c.say_section.ensures.added

pub say_part-returns-in-Custom-clause-keeps : goal.say_part-returns-in-Custom-clause-keeps
say_part-returns-in-Custom-clause-keeps t c =
    on_ok_weaker c.say_section.result
    (λ e. ap (λ (s : Preceding). s.scope.keeps) e ∙ section_keeps _ (shown_part_node c.args.part.now) _) c.say_section.ensures.added

pub say_parts-loop-part-init : goal.say_parts-loop-part-init
say_parts-loop-part-init t c =
    let keeps = c.args.given.config.now.must_validate in
    let here = ap (λ (o : Marked). preceding o c.new-here.result) c.requires ∙ c.new-here.ensures keeps in
    record {
      outer = refl;
      keeps = ap (λ (o : Marked). o.keeps) c.requires;
      depth = depth_is c.args.scopes.now c.len.result (c.len.ensures ∙ c.args.scopes.now.nest.outer.ok.0);
      reached = λ outer after formed. record {
        after = subst (IsAfter c.args.given.config.now outer ends (outer_marked_in c.args.scopes.now)) (sym here) after;
        sections = refl;
        formed = formed;
        said = towards_start c.args.out.now _;
      };
    }

pub say_parts-returns-clause-totals : goal.say_parts-returns-clause-totals
say_parts-returns-clause-totals t c outer after formed =
    let r = c.loop-part.invariant.reached outer after formed in
    ap (λ (s : Preceding). s.totals) r.after.here
    ∙ ap (λ ps. totals_in outer (tree_of (map shown_part_node ps))) (take_all c.loop-part.part-index c.args.parts.now c.loop-part-test.false)
