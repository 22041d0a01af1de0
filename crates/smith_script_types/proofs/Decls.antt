-- What types declare, one after another.
use Rattle.std.proofs.Common.{◌≡◌, ℕ, zero, suc, ◌+◌, ◌-◌, ◌<◌, ◌≤◌, Bool, List, [], ◌∷◌, ◌++◌, drop, length, map, get_or, refl, ap, sym, ◌∙◌, subst, arith}
use Rattle.std.proofs.Math.Seq.{drop-cons}
use Rattle.std.specs.declared.alloc.Global.{Global}
use Rattle.std.specs.declared.vec.Vec.{Vec}
use Rattle.smith_input.specs.Script.{script_end}
use Rattle.smith_format.specs.declared.config.Config.{Config}
use Rattle.smith_syntax.specs.Entries.{in_order}
use Rattle.smith_syntax.specs.Marked.{Marked, marked_after, marked_after_all}
use Rattle.smith_read.specs.TypeNodes.{shown_decl_node}
use Rattle.smith_read.specs.declared.type_nodes.DeclNode.{DeclNode}
use Rattle.smith_tree.specs.TypeNeeds.{decl_cost, decls_cost}
use Rattle.smith_tree.specs.TypeScript.{Taken, after_taken, script_decl, script_decls}
use Rattle.smith_script_types.proofs.Saying.{Towards, towards_step}
use Rattle.smith_script_types.specs.Says.{Adds}

module _ (config : Config) (importing : Bool) (outer : List Marked) where
  -- a declaration, and the ones after it
  pub decls_at : (xs : List DeclNode) (i fuel : ℕ) (taken : Taken) (own : Marked) (x : DeclNode) → i < length xs → x ≡ get_or xs i x
      → script_decls (in_order (map shown_decl_node (drop i xs))) config importing fuel i taken own outer
      ≡ (1 ∷ []) ++ (script_decl (shown_decl_node x) config importing (fuel - 1) taken own outer
      ++ script_decls (in_order (map shown_decl_node (drop (suc i) xs))) config importing (fuel - 1 - decl_cost (shown_decl_node x)) (i + 1)
      (after_taken taken (shown_decl_node x)) (marked_after (shown_decl_node x) outer own) outer)
  decls_at xs i fuel taken own x h e =
      ap (λ ys. script_decls (in_order (map shown_decl_node ys)) config importing fuel i taken own outer) (drop-cons xs i x h)
      ∙ ap (λ y. 1 ∷ (script_decl (shown_decl_node y) config importing (fuel - 1) taken own outer
      ++ script_decls (in_order (map shown_decl_node (drop (suc i) xs))) config importing (fuel - 1 - decl_cost (shown_decl_node y)) (i + 1)
      (after_taken taken (shown_decl_node y)) (marked_after (shown_decl_node y) outer own) outer)) (sym e)

  -- no declaration is left
  pub decls_over : (xs : List DeclNode) (i done fuel : ℕ) (taken : Taken) (own : Marked) → length xs ≤ i
      → script_decls (in_order (map shown_decl_node (drop i xs))) config importing fuel done taken own outer ≡ script_end done 100
  decls_over [] zero done fuel taken own h = refl
  decls_over [] (suc i) done fuel taken own h = refl
  decls_over (x ∷ xs) zero done fuel taken own h = absurd (omega arith)
  decls_over (x ∷ xs) (suc i) done fuel taken own h = decls_over xs i done fuel taken own (omega arith)

  -- one more declaration
  pub decls_step : {a b m c : Vec ℕ Global} {all : List ℕ} (xs : List DeclNode) (i fuel less left : ℕ) (taken more_taken : Taken) (own next : Marked)
      (x : DeclNode) → i < length xs → x ≡ get_or xs i x → less ≡ fuel - 1 → left ≡ less - decl_cost (shown_decl_node x)
      → more_taken ≡ after_taken taken (shown_decl_node x) → next ≡ marked_after (shown_decl_node x) outer own
      → Towards a b all (script_decls (in_order (map shown_decl_node (drop i xs))) config importing fuel i taken own outer) → Adds b m (1 ∷ [])
      → Adds m c (script_decl (shown_decl_node x) config importing less taken own outer)
      → Towards a c all (script_decls (in_order (map shown_decl_node (drop (i + 1) xs))) config importing left (i + 1) more_taken next outer)
  decls_step {a} {b} {m} {c} {all} xs i fuel less left taken more_taken own next x h e l k grown scope t g d =
      let d1 : Adds m c (script_decl (shown_decl_node x) config importing (fuel - 1) taken own outer) =
      subst (λ n. Adds m c (script_decl (shown_decl_node x) config importing n taken own outer)) l d in
      let u = towards_step _ _ (towards_step (1 ∷ []) _ t (decls_at xs i fuel taken own x h e) g) refl d1 in
      let more : suc i ≡ i + 1 = omega arith in
      let burned : fuel - 1 - decl_cost (shown_decl_node x) ≡ left = ap (λ n. n - decl_cost (shown_decl_node x)) (sym l) ∙ sym k in
      let ds = in_order (map shown_decl_node (drop (i + 1) xs)) in
      subst (Towards a c all)
      (ap (λ j. script_decls (in_order (map shown_decl_node (drop j xs))) config importing (fuel - 1 - decl_cost (shown_decl_node x)) (i + 1)
      (after_taken taken (shown_decl_node x)) (marked_after (shown_decl_node x) outer own) outer) more
      ∙ ap (λ n. script_decls ds config importing n (i + 1) (after_taken taken (shown_decl_node x)) (marked_after (shown_decl_node x) outer own) outer) burned
      ∙ ap (λ n. script_decls ds config importing left (i + 1) n (marked_after (shown_decl_node x) outer own) outer) (sym grown)
      ∙ ap (λ s. script_decls ds config importing left (i + 1) more_taken s outer) (sym scope)) u

-- The fuel that the declarations take.

abbrev pub cost_from : List DeclNode → ℕ → ℕ
cost_from xs i = decls_cost (in_order (map shown_decl_node (drop i xs)))

-- the scope after all of them

abbrev pub scope_after : List DeclNode → ℕ → List Marked → Marked → Marked
scope_after xs i outer own = marked_after_all (in_order (map shown_decl_node (drop i xs))) outer own

pub scope_at : (xs : List DeclNode) (i : ℕ) (x : DeclNode) (outer : List Marked) (own next : Marked) → i < length xs → x ≡ get_or xs i x
    → next ≡ marked_after (shown_decl_node x) outer own → scope_after xs i outer own ≡ scope_after xs (i + 1) outer next
scope_at xs i x outer own next h e n =
    let more : suc i ≡ i + 1 = omega arith in
    ap (λ ys. marked_after_all (in_order (map shown_decl_node ys)) outer own) (drop-cons xs i x h)
    ∙ ap (λ y. marked_after_all (in_order (map shown_decl_node (drop (suc i) xs))) outer (marked_after (shown_decl_node y) outer own)) (sym e)
    ∙ ap (λ s. scope_after xs (suc i) outer s) (sym n)
    ∙ ap (λ j. scope_after xs j outer next) more
