-- The parts of a component, one after another.
use Rattle.std.proofs.Common.{◌≡◌, ℕ, ◌+◌, ◌<◌, ◌≤◌, List, [], ◌∷◌, ◌++◌, get_or, map, length, ap, sym, subst, ◌∙◌, arith}
use Rattle.std.proofs.lemmas.List.{length-map, length-reverse}
use Rattle.std.specs.declared.alloc.Global.{Global}
use Rattle.std.specs.declared.vec.Vec.{Vec}
use Rattle.smith_input.proofs.Rests.{drop_past, rest_at}
use Rattle.smith_format.specs.declared.config.Config.{Config}
use Rattle.smith_syntax.specs.Entries.{CoreEntry, Entry, ImportEntry}
use Rattle.smith_syntax.specs.Marked.{Marked}
use Rattle.smith_tree.proofs.Marking.{marked_keeps}
use Rattle.smith_tree.specs.Marking.{marked_from, marked_of}
use Rattle.smith_tree.specs.Open.{scopes_in}
use Rattle.smith_tree.specs.Script.{item_of, script_from, script_item, script_part}
use Rattle.smith_tree.specs.Tree.{Part, Tree, add, component, components_in, ends, parts_of, tree_of}
use Rattle.smith_tree.specs.WellFormed.{Formed, FormedPart}
use Rattle.smith_tree.specs.declared.choices.Item.{Item}
use Rattle.smith_tree.specs.declared.choices.Item.TheVariants as item
use Rattle.smith_tree.specs.declared.totals.RefTotals.{RefTotals}
use Rattle.smith_read.specs.PartNodes.{shown_part_node}
use Rattle.smith_read.specs.declared.nodes.PartNode.{PartNode}
use Rattle.smith_scopes.specs.NodeScopes.{outer_marked_in, shown_marked}
use Rattle.smith_scopes.specs.declared.nodes.NodeScopes.{NodeScopes}
use Rattle.smith_component.proofs.Growth.{spaces-add}
use Rattle.smith_component.proofs.RunsFinishable.{length-parts-add}
use Rattle.smith_component.proofs.Sound.{marked_from-snoc, scopes_from-snoc}
use Rattle.smith_check.proofs.PartSteps.{parts_at as formed_at, tree_from, tree_upto, upto_more}
use Rattle.smith_script_types.proofs.Saying.{Towards, adds_then, towards_step}
use Rattle.smith_script_types.specs.Says.{Adds}
use Rattle.smith_script.specs.Saying.{item_says, section_says}
use Rattle.smith_script.specs.Preceding.{IsAfter, Known, Preceding, after_section, empty_in, opened, totals_in}
use Rattle.smith_script.proofs.Grown.{closed_at, opened_at, section_at}
use Rattle.smith_script.proofs.Known.{known_part}
use Rattle.smith_script.proofs.Same.{item_same, section_same}
use Rattle.std.proofs.Common.{zero, suc, drop, refl, append_assoc}
use Rattle.std.specs.Prelude.{String, string_bytes}
use Rattle.smith_input.specs.Script.{script_end, script_loop, script_more}
use Rattle.smith_syntax.specs.Signature.{named}
use Rattle.smith_syntax.specs.declared.types.ComponentValType.{ComponentValType}
use Rattle.smith_tree.specs.TypeScript.{script_label, script_params, script_scalar}
use Rattle.smith_input.proofs.Lists.{map_drop, map_dropped}

-- how many scopes there are around
pub depth_is : (s : NodeScopes) (n : ℕ) → n ≡ length s.nest.outer.items → length (outer_marked_in s) ≡ n
depth_is s n e = omega (arith, e, length-reverse (map shown_marked s.nest.outer.items), length-map s.nest.outer.items shown_marked)

module _ {config : Config} {outer : List Tree} {before : Tree} {around : List Marked} {s : Preceding} (after : IsAfter config outer before around s) where
  pub item_said : (chosen : Item) (n : ℕ) → n ≡ length (parts_of before) → item_says config around n s chosen ≡ script_item config outer before chosen
  item_said chosen n e =
      let a = after.scopes in
      let h = after.here in
      (λ j. item_says config (a j) (e j) (h j) chosen) ∙ item_same config outer before chosen

  pub section_said : (p : Part) → components_in p ≡ [] → section_says p config around s ≡ script_part p config outer before
  section_said p none =
      let a = after.scopes in
      let h = after.here in
      (λ j. section_says p config (a j) (h j)) ∙ section_same p config outer before none after.known

  pub section_after : (p : Part) → components_in p ≡ [] → FormedPart p (scopes_in outer) before → (u : Preceding) → u ≡ after_section around p s
      → IsAfter config outer (add before p) around u
  section_after p none formed u e = record {
    scopes = after.scopes;
    here = e ∙ (let a = after.scopes in let h = after.here in (λ j. after_section (a j) p (h j)) ∙ section_at config outer before p none after.known);
    known = subst Known (sym (spaces-add before p)) (known_part p (scopes_in outer) before formed after.known);
  }

  -- a component that is opened, and one that is closed

  pub opens : (t : RefTotals) → t ≡ opened s.totals → IsAfter config (outer ++ before ∷ []) ends (s.scope ∷ around) (empty_in config.must_validate t)
  opens t e = record {
    scopes = ap (λ z. z.scope ∷ around) after.here
        ∙ (ap (λ ss. marked_of config (marked_from config outer []) before ∷ ss) after.scopes ∙ sym (marked_from-snoc config outer before []));
    here = ap (empty_in config.must_validate) (e ∙ ap (λ (z : Preceding). opened z.totals) after.here) ∙ opened_at config outer before;
    known = tt;
  }

  pub opened_formed : (u : Tree) → FormedPart (component u) (scopes_in outer) before → Formed u (scopes_in (outer ++ before ∷ [])) ends
  opened_formed u formed = subst (λ os. Formed u os ends) (sym (scopes_from-snoc outer before [])) formed

  pub closes : (u : Tree) (t : RefTotals) → t ≡ totals_in (outer ++ before ∷ []) u → (z : Preceding)
      → z ≡ record s { totals = record t { funcs = s.totals.funcs } } → IsAfter config outer (add before (component u)) around z
  closes u t e z is = record {
    scopes = after.scopes;
    here = is ∙ ((λ j. record (after.here j) { totals = record (e j) { funcs = (after.here j).totals.funcs } }) ∙ closed_at config outer before u);
    known = subst Known (sym (spaces-add before (component u))) after.known;
  }

-- What is put of a component up to a part, and what is left.
pub record Reached (config : Config) (outer : List Tree) (old new : Vec ℕ Global) (ps : List PartNode) (i n : ℕ) (around : List Marked) (s : Preceding)
    : Type 0 where
  pub after : IsAfter config outer (tree_upto i ps) around s
  pub sections : n ≡ length (parts_of (tree_upto i ps))
  pub formed : Formed (tree_from i ps) (scopes_in outer) (tree_upto i ps)
  pub said : Towards old new (script_from (tree_of (map shown_part_node ps)) config outer ends) (script_from (tree_from i ps) config outer (tree_upto i ps))

module _ {config : Config} {outer : List Tree} {old new : Vec ℕ Global} {ps : List PartNode} {i n : ℕ} {around : List Marked} {s : Preceding}
    (reached : Reached config outer old new ps i n around s) where
  -- a part, and the ones after it
  module _ (x : PartNode) (h : i < length ps) (e : x ≡ get_or ps i x) where
    pub this_formed : FormedPart (shown_part_node x) (scopes_in outer) (tree_upto i ps)
    this_formed = ((formed_at ps i x h e (scopes_in outer)).to reached.formed).0

    pub this_said : script_from (tree_from i ps) config outer (tree_upto i ps)
        ≡ (script_item config outer (tree_upto i ps) (item_of (shown_part_node x)) ++ script_part (shown_part_node x) config outer (tree_upto i ps))
        ++ script_from (tree_from (i + 1) ps) config outer (tree_upto (i + 1) ps)
    this_said =
        ap (λ ys. script_from (tree_of (map shown_part_node ys)) config outer (tree_upto i ps)) (rest_at ps i x h e)
        ∙ ap (λ t. (script_item config outer (tree_upto i ps) (item_of (shown_part_node x)) ++ script_part (shown_part_node x) config outer (tree_upto i ps))
        ++ script_from (tree_from (i + 1) ps) config outer t) (upto_more ps i x h e)

    pub reached_next : {mid more : Vec ℕ Global} {u : Preceding} {m : ℕ} → m ≡ n + 1
        → Adds new mid (script_item config outer (tree_upto i ps) (item_of (shown_part_node x)))
        → Adds mid more (script_part (shown_part_node x) config outer (tree_upto i ps))
        → IsAfter config outer (add (tree_upto i ps) (shown_part_node x)) around u
        → Reached config outer old more ps (i + 1) m around u
    reached_next {mid} {more} {u} {m} one g k after = record {
      after = subst (λ t. IsAfter config outer t around u) (upto_more ps i x h e) after;
      sections = subst (λ t. m ≡ length (parts_of t)) (upto_more ps i x h e)
          (omega (arith, one, reached.sections, length-parts-add (tree_upto i ps) (shown_part_node x)));
      formed = ((formed_at ps i x h e (scopes_in outer)).to reached.formed).1;
      said = towards_step _ _ reached.said this_said (adds_then g k);
    }

  -- no part is left
  pub last_said : length ps ≤ i → script_from (tree_from i ps) config outer (tree_upto i ps) ≡ script_item config outer (tree_upto i ps) item.Finish
  last_said h = ap (λ ys. script_from (tree_of (map shown_part_node ys)) config outer (tree_upto i ps)) (drop_past ps i h)

-- Lists, item by item.

-- a row of a section, and the ones after it
pub rows_at : {S A B : Type 0} (f : A → B) (says : S → B → List ℕ) (after : S → B → S) (max done : ℕ) (s : S) (xs : List A) (i : ℕ) (x : A) → i < length xs
    → x ≡ get_or xs i x
    → script_loop says after 0 max done s (map f (drop i xs))
    ≡ script_more 0 done ++ says s (f x) ++ script_loop says after 0 max (done + 1) (after s (f x)) (map f (drop (i + 1) xs))
rows_at f says after max done s xs i x h e = ap (script_loop says after 0 max done s) (map_drop f xs i x h e)

pub rows_end : {S A B : Type 0} (f : A → B) (says : S → B → List ℕ) (after : S → B → S) (max done : ℕ) (s : S) (xs : List A) (i : ℕ) → length xs ≤ i
    → script_loop says after 0 max done s (map f (drop i xs)) ≡ script_end done max
rows_end f says after max done s xs i h = ap (script_loop says after 0 max done s) (map_dropped f xs i h)

-- a parameter of a lift, and the ones after it
pub params_at : (config : Config) (xs : List (String Global × ComponentValType)) (count i : ℕ) (x : String Global × ComponentValType) → i < length xs
    → x ≡ get_or xs i x
    → script_params config count (map named (drop i xs))
    ≡ script_label config count (string_bytes x.0) ++ script_scalar x.1 ++ script_params config (count + 1) (map named (drop (i + 1) xs))
params_at config xs count i x h e =
    ap (script_params config count) (map_drop named xs i x h e)
    ∙ sym (append_assoc (script_label config count (string_bytes x.0)) (script_scalar x.1) (script_params config (count + 1) (map named (drop (i + 1) xs))))
