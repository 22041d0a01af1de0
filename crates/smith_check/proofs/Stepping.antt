-- What a check knows after a step, and what it says of a component.
use Rattle.std.proofs.Common.{◌≡◌, ℕ, suc, ◌+◌, List, [], ◌∷◌, ◌++◌, length, reverse, refl, sym, ap, ◌∙◌, subst, arith}
use Rattle.std.proofs.lemmas.List.{length-map, length-reverse}
use Rattle.smith_syntax.specs.Scope.{Scope}
use Rattle.smith_tree.specs.Possible.{Possible}
use Rattle.smith_tree.specs.Spaces.{Spaces, after_canon, after_export}
use Rattle.smith_tree.specs.Tree.{Canon, ExportEntry, Tree, canons, exports, lift, lower}
use Rattle.smith_tree.specs.WellFormed.{WellFormed}
use Rattle.smith_scopes.specs.NodeScopes.{own_in}
use Rattle.smith_read.specs.Items.{IsFirst, StopsAt, upto}
use Rattle.smith_read.specs.Walk.{Step, closes, items_at, one, opens, steps_of}
use Rattle.smith_check.specs.Preceding.{Scene, scope_at, spaces_in}
use Rattle.smith_check.specs.Stepping.{AreAt, Fits, IsEven, MayFit, Stands, State, after, next}
use Rattle.smith_check.specs.Taken.{Knows}
use Rattle.smith_check.specs.declared.check.Check.{Check}
use Rattle.smith_check.specs.declared.check.Open.{Open}
use Rattle.smith_check.proofs.Items.{items_fit, start, taken, taken_next, whole_fits}
use Rattle.smith_check.proofs.Judging.{Same, same_by, same_trans}
use Rattle.smith_check.proofs.Possibly.{AllMay, step_same, whole_may}
use Rattle.smith_check.proofs.Scenes.{AllFit, state}

abbrev spaces_by : Scope → List ℕ → List ℕ → Spaces
spaces_by own fs cs = record { types = own.types; core_types = own.core_types; functions = fs; core_functions = cs }

abbrev with_open : Check → Open → Check
with_open c o = record { scopes = c.scopes; opens = record { own = o; outer = c.opens.outer } }

-- With another function, or another name.
module _ (c : Check) (at : State) (k : Stands c at) (o : Open) where
  pub spaces_known : spaces_in (own_in c.scopes) c.opens.own ≡ at.here.spaces
  spaces_known =
      ap (λ s. spaces_by s c.opens.own.functions.items c.opens.own.core_functions.items) k.own
      ∙ ap (λ fs. spaces_by (scope_at at.here) fs c.opens.own.core_functions.items) k.here.functions
      ∙ ap (λ cs. spaces_by (scope_at at.here) at.here.spaces.functions cs) k.here.core_functions

  added : (s : Scene) → scope_at s ≡ scope_at at.here → spaces_in (own_in c.scopes) o ≡ s.spaces → Knows o.imports s.imports
      → Knows o.exports s.exports → Stands (with_open c o) (state s at.around)
  added s scope spaces i e = record {
    own = k.own ∙ sym scope;
    outer = k.outer;
    here = record { functions = ap (λ z. z.functions) spaces; core_functions = ap (λ z. z.core_functions) spaces; imports = i; exports = e };
    around = k.around;
  }

  canon_scope : (f : Canon) → scope_at (after at.here (canons (f ∷ []))) ≡ scope_at at.here
  canon_scope (lift g t) = refl
  canon_scope (lower g) = refl

  pub canon_added : (f : Canon) → o.imports ≡ c.opens.own.imports → o.exports ≡ c.opens.own.exports
      → spaces_in (own_in c.scopes) o ≡ after_canon (spaces_in (own_in c.scopes) c.opens.own) f → Stands (with_open c o) (next (one (canons (f ∷ []))) at)
  canon_added f i e spaces =
      added (after at.here (canons (f ∷ []))) (canon_scope f) (spaces ∙ ap (λ z. after_canon z f) spaces_known)
      (subst (λ n. Knows n at.here.imports) (sym i) k.here.imports) (subst (λ n. Knows n at.here.exports) (sym e) k.here.exports)

  pub export_added : (x : ExportEntry) → o.imports ≡ c.opens.own.imports
      → spaces_in (own_in c.scopes) o ≡ after_export (spaces_in (own_in c.scopes) c.opens.own) x
      → Knows o.exports (at.here.exports ++ x.name ∷ []) → Stands (with_open c o) (next (one (exports (x ∷ []))) at)
  export_added x i spaces e =
      added (after at.here (exports (x ∷ []))) refl (spaces ∙ ap (λ z. after_export z x) spaces_known)
      (subst (λ n. Knows n at.here.imports) (sym i) k.here.imports) e

are_even : (os : List Open) (ss : List Scene) → AreAt os ss → length os ≡ length ss
are_even [] [] a = refl
are_even [] (s ∷ ss) a = absurd a
are_even (o ∷ os) [] a = absurd a
are_even (o ∷ os) (s ∷ ss) a = ap suc (are_even os ss a.1)

pub even : (c : Check) (at : State) → Stands c at → IsEven c
even c at k =
    ap length k.outer ∙ length-map at.around scope_at ∙ sym (are_even (reverse c.opens.outer.items) at.around k.around) ∙ length-reverse c.opens.outer.items

-- The check, before those steps and that item: they fit exactly if the component is well formed, and as many as hold some items exactly if it
-- is with these.
pub record Going (t : Tree) (left : List Step) (c : Check) (item : ℕ) : Type 0 where
  pub at : State
  pub stands : Stands c at
  pub whole : Same (WellFormed t) (AllFit left at)
  pub front : (n : ℕ) → Same (WellFormed (upto (item + n) t)) (AllFit (taken n left) at)
  pub may : Possible t → AllMay left at

pub going_first : (t : Tree) (c : Check) (left : List Step) → left ≡ steps_of t ++ closes ∷ [] → Stands c start → Going t left c 0
going_first t c left e k = record {
  at = start;
  stands = k;
  whole = subst (λ l. Same (WellFormed t) (AllFit l start)) (sym e) (whole_fits t);
  front = λ n.
      let h : n ≡ 0 + n = omega arith in
      subst (λ m. Same (WellFormed (upto m t)) (AllFit (taken n left) start)) h
      (subst (λ l. Same (WellFormed (upto n t)) (AllFit (taken n l) start)) (sym e) (items_fit n t));
  may = λ p. subst (λ l. AllMay l start) (sym e) (whole_may t p);
}

-- at a step that does not fit
stops : (at : State) (x : Step) (xs : List Step) (P : ℕ → Type 0) (item : ℕ)
    → ((n : ℕ) → Same (P (item + n)) (AllFit (taken n (x ∷ xs)) at)) → ¬ Fits x at → IsFirst P item
stops at (one p) xs P item s not = let h : item + 0 ≡ item = omega arith in (subst P h ((s 0).from tt), λ q. not ((s 1).to q).0)
stops at _ xs P item s not = absurd (not tt)

module _ (t : Tree) (x : Step) (xs left : List Step) (e : left ≡ x ∷ xs) (c : Check) (item : ℕ) (g : Going t left c item) where
  to_left : (at : State) → Same (AllFit left at) (AllFit (x ∷ xs) at)
  to_left at = same_by (λ l. AllFit l at) left (x ∷ xs) e

  front_from : (n : ℕ) → Same (WellFormed (upto (item + (items_at x + n)) t)) (AllFit (x ∷ taken n xs) g.at)
  front_from n = same_trans (g.front (items_at x + n)) (same_by (λ l. AllFit l g.at) (taken (items_at x + n) left) (x ∷ taken n xs)
      (ap (taken (items_at x + n)) e ∙ taken_next n x xs))

  may_here : Possible t → AllMay (x ∷ xs) g.at
  may_here p = subst (λ l. AllMay l g.at) e (g.may p)

  pub going_next : (new : Check) (more : ℕ) → more ≡ item + items_at x → Fits x g.at → Stands new (next x g.at) → Going t xs new more
  going_next new more is fits k = record {
    at = next x g.at;
    stands = k;
    whole = let s = same_trans g.whole (to_left g.at) in record { to = λ w. (s.to w).1; from = λ f. s.from (fits, f) };
    front = λ n.
        let s = front_from n in
        let r : Same (WellFormed (upto (item + (items_at x + n)) t)) (AllFit (taken n xs) (next x g.at)) =
        record { to = λ w. (s.to w).1; from = λ f. s.from (fits, f) } in
        let h : item + (items_at x + n) ≡ more + n = omega (arith, is) in
        subst (λ m. Same (WellFormed (upto m t)) (AllFit (taken n xs) (next x g.at))) h r;
    may = λ p. subst (AllMay xs) (step_same x g.at fits) (may_here p).1;
  }

  -- at a step that is not possible
  pub going_broken : ¬ MayFit x g.at → ¬ Possible t
  going_broken not p = not (may_here p).0

  pub going_stop : ¬ Fits x g.at → (¬ WellFormed t) × StopsAt WellFormed item t
  going_stop not = (
    λ w. not ((to_left g.at).to (g.whole.to w)).0,
    stops g.at x xs (λ n. WellFormed (upto n t)) item
        (λ n. same_trans (g.front n) (same_by (λ l. AllFit (taken n l) g.at) left (x ∷ xs) e)) not,
  )
