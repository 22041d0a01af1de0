-- What a walk through a component says of it.
use Rattle.std.proofs.Common.{◌≡◌, ℕ, ◌+◌, List, [], ◌∷◌, ◌++◌, refl, sym, ap, ◌∙◌, subst, arith, Ok, Err}
use Rattle.smith_tree.specs.Demands.{Demands, everything}
use Rattle.smith_tree.specs.Tree.{Tree}
use Rattle.smith_tree.specs.Validates.{ValidTree, Validates}
use Rattle.smith_tree.specs.WellFormed.{WellFormed}
use Rattle.smith_read.specs.Items.{upto}
use Rattle.smith_read.specs.Walk.{Step, closes, items_at, marks, one, opens, steps_of}
use Rattle.smith_check.proofs.Items.{taken, taken_next}
use Rattle.smith_validate.specs.Judges.{IsNamed, IsPassed, Refutes}
use Rattle.smith_validate.specs.Outcome.{FallsShort, IsJudged, IsUnmet, asking}
use Rattle.smith_validate.specs.Stepping.{Fits, Goes, Stands, StandsExactly, State, next, root, usual, valid}
use Rattle.smith_validate.specs.declared.check.Check.{Check}
use Rattle.smith_validate.specs.declared.error.Demand.{Demand}
use Rattle.smith_validate.specs.declared.error.Demand.TheVariants.{Named, Size, Count, Memories, Tables}
use Rattle.smith_validate.specs.declared.error.Stop.{Stop}
use Rattle.smith_validate.specs.declared.error.Stop.TheVariants.{OutOfMemory, Invalid}
use Rattle.smith_validate.proofs.Fitting.{AllFit, items_fit, usual_is, valid_is, whole_fits}
use Rattle.smith_validate.proofs.Usually.{formed_usual}

-- What is asked of something is asked of these steps, and it meets all demands if they do.
pub record Leads (P : Demands → Type 0) (xs : List Step) (at : State) : Type 0 where
  pub to : (d : Demands) → P d → AllFit (valid d) xs at
  pub from : AllFit (valid everything) xs at → P everything

-- The check, before those steps and that item: they are asked what the component is, and as many as hold some items what it is with these.
pub record Going (t : Tree) (left : List Step) (c : Check) (item : ℕ) : Type 0 where
  pub at : State
  pub stands : Stands c at
  pub whole : Leads (λ d. ValidTree d t) left at
  pub front : (n : ℕ) → Leads (λ d. ValidTree d (upto (item + n) t)) (taken n left) at
  pub exact : WellFormed t → StandsExactly c at × AllFit usual left at

pub going_first : (t : Tree) (c : Check) (left : List Step) → left ≡ steps_of t ++ closes ∷ [] → StandsExactly c root → Going t left c 0
going_first t c left e k = record {
  at = root;
  stands = k.stands;
  whole = subst (λ l. Leads (λ d. ValidTree d t) l root) (sym e) (record {
    to = λ d q. (whole_fits (valid d) (valid_is d) t).0 q;
    from = λ f. (whole_fits (valid everything) (valid_is everything) t).1 f;
  });
  front = λ n.
      let h : n ≡ 0 + n = omega arith in
      subst (λ m. Leads (λ d. ValidTree d (upto m t)) (taken n left) root) h
      (subst (λ l. Leads (λ d. ValidTree d (upto n t)) (taken n l) root) (sym e) (record {
        to = λ d q. (items_fit (valid d) (valid_is d) n t).0 q;
        from = λ f. (items_fit (valid everything) (valid_is everything) n t).1 f;
      }));
  exact = λ w. (k, subst (λ l. AllFit usual l root) (sym e) ((whole_fits usual usual_is t).0 (formed_usual t w)));
}

leads_next : (P : Demands → Type 0) (x : Step) (xs : List Step) (at : State) → Fits (valid everything) x at → Leads P (x ∷ xs) at → Leads P xs (next x at)
leads_next P x xs at fits l = record { to = λ d p. (l.to d p).1; from = λ f. l.from (fits, f) }

-- the steps before the first item, and as far as it
first_item : (x : Step) (xs : List Step) → ¬ (items_at x ≡ 0) → (taken 0 (x ∷ xs) ≡ []) × (taken 1 (x ∷ xs) ≡ x ∷ taken 0 xs)
first_item (one p) xs not = (refl, refl)
first_item opens xs not = (refl, refl)
first_item closes xs not = absurd (not refl)
first_item marks xs not = absurd (not refl)

module _ (t : Tree) (x : Step) (xs left : List Step) (e : left ≡ x ∷ xs) (c new : Check) (item : ℕ) (g : Going t left c item) where
  usual_first : WellFormed t → StandsExactly c g.at × (Fits usual x g.at × AllFit usual xs (next x g.at))
  usual_first w = let k = g.exact w in (k.0, subst (λ l. AllFit usual l g.at) e k.1)

  pub going_next : {A : Type 0} {u : A} (then : ℕ) → then ≡ item + items_at x → Goes (Ok u) c new x → Going t xs new then
  going_next {A} {u} then is goes =
      let fits = goes.judged g.at g.stands in
      record {
        at = next x g.at;
        stands = goes.stands g.at g.stands;
        whole = leads_next (λ d. ValidTree d t) x xs g.at fits (subst (λ l. Leads (λ d. ValidTree d t) l g.at) e g.whole);
        front = λ n.
            let P : ℕ → Demands → Type 0 = λ m d. ValidTree d (upto m t) in
            let same : taken (items_at x + n) left ≡ x ∷ taken n xs = ap (taken (items_at x + n)) e ∙ taken_next n x xs in
            let h : item + (items_at x + n) ≡ then + n = omega (arith, is) in
            subst (λ m. Leads (P m) (taken n xs) (next x g.at)) h
            (leads_next (P (item + (items_at x + n))) x (taken n xs) g.at fits
            (subst (λ l. Leads (P (item + (items_at x + n))) l g.at) same (g.front (items_at x + n))));
        exact = λ w. let k = usual_first w in (goes.exact g.at k.0 k.1.0, k.1.1);
      }

  module _ {A : Type 0} (stop : Stop) (demand : Demand) (is : stop ≡ Invalid demand) (goes : Goes {A = A} (Err stop) c new x) where
    begins : ¬ (items_at x ≡ 0)
    begins z = let m : Invalid demand ≡ OutOfMemory = sym is ∙ goes.none z in absurd cc

    unmet : (d : Demands) → ¬ (Fits (valid d) x g.at) → (¬ (ValidTree d t)) × (¬ (ValidTree d (upto (item + 1) t)))
    unmet d not = (
      λ q. not (subst (λ l. AllFit (valid d) l g.at) e (g.whole.to d q)).0,
      λ q. not (subst (λ l. AllFit (valid d) l g.at) (ap (taken 1) e ∙ (first_item x xs begins).1) ((g.front 1).to d q)).0,
    )

    bound : (d : Demand) → d ≡ demand → IsPassed (Invalid d) → IsUnmet d t × IsUnmet d (upto (item + 1) t)
    bound d same passed =
        let refutes = subst (λ s. Refutes s (λ d. Fits (valid d) x g.at)) is (goes.judged g.at g.stands) in
        subst (λ y. IsPassed (Invalid y) → IsUnmet y t × IsUnmet y (upto (item + 1) t)) (sym same) (λ p. unmet (asking demand) (refutes.is p)) passed

    by_demand : (d : Demand) → d ≡ demand → IsJudged d t → IsUnmet d t × IsUnmet d (upto (item + 1) t)
    by_demand Named same formed =
        let k = usual_first formed in
        let refused = subst (λ s. IsNamed s → ¬ (Fits (valid (asking Named)) x g.at)) is (goes.refused g.at k.0 k.1.0) in
        unmet (asking Named) (refused (subst (λ y. IsNamed (Invalid y)) same tt))
    by_demand Size same j = bound Size same tt
    by_demand Count same j = bound Count same tt
    by_demand Memories same j = bound Memories same tt
    by_demand Tables same j = bound Tables same tt

    pub going_stop : FallsShort demand item t
    going_stop = record {
      before =
          let h : item + 0 ≡ item = omega arith in
          subst (λ n. Validates (upto n t)) h
          ((g.front 0).from (subst (λ l. AllFit (valid everything) l g.at) (sym (ap (taken 0) e ∙ (first_item x xs begins).0)) tt));
      there = by_demand demand refl;
    }
