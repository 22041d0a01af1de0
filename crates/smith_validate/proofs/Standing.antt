-- What is known after a step.
use Rattle.std.proofs.Common.{◌≡◌, suc, true, List, [], ◌∷◌, ◌++◌, length, map, reverse, refl, sym, ap, ◌∙◌, subst, arith, append-nil, append_assoc}
use Rattle.std.proofs.Common.{ℕ, length-append, Result, Ok}
use Rattle.std.proofs.lemmas.List.{length-reverse, reverse-reverse}
use Rattle.std.specs.Prelude.{IfErr, OnOk}
use Rattle.smith_syntax.specs.Scope.{empty_scope}
use Rattle.smith_tree.specs.CoreModules.{HasFewMemories}
use Rattle.smith_tree.specs.Counts.{ValidCounts, with_component, with_module}
use Rattle.smith_tree.specs.Demands.{Keeps}
use Rattle.smith_tree.specs.Facts.{FactScope, Id}
use Rattle.smith_tree.specs.Tree.{Part, core_module}
use Rattle.smith_tree.specs.Validates.{ValidPart, names_of}
use Rattle.smith_read.specs.Walk.{closes, one, opens}
use Rattle.smith_validate.specs.Bodies.{IsIn}
use Rattle.smith_validate.specs.Counted.{counted}
use Rattle.smith_validate.specs.Exact.{IsBodyExactly}
use Rattle.smith_validate.specs.Instances.{IsTable, ScopesKept, Surface}
use Rattle.smith_validate.specs.Kept.{kept_of, outer_in, own_in}
use Rattle.smith_validate.specs.Judges.{IsUnnamed, Judges}
use Rattle.smith_validate.specs.Parts.{after_section, IsNew, IsOpen, IsOpenBoth, StepsPart, StepsPartExactly}
use Rattle.smith_validate.specs.Stepping.{AreHeld, AreHeldExactly, Goes, IsEven, IsHeld, Stands, StandsExactly, State, closed, named_around, names_around}
use Rattle.smith_validate.specs.Stepping.{next, root, scopes_of, with_nested}
use Rattle.smith_validate.specs.Steps.{At, Later}
use Rattle.smith_validate.specs.Tables.{AreExact}
use Rattle.smith_validate.specs.declared.check.Check.{Check}
use Rattle.smith_validate.specs.declared.counts.Counts.{Counts}
use Rattle.smith_validate.specs.declared.error.Stop.{Stop}
use Rattle.smith_validate.specs.declared.instances.InstanceType.{InstanceType}
use Rattle.smith_validate.specs.declared.known.Known.{Known}
use Rattle.smith_validate.specs.declared.known.Scope.{Scope}
use Rattle.smith_validate.specs.declared.open.Open.{Open}
use Rattle.smith_validate.proofs.DeclSteps.{in_entered, in_start, outer_kept, outer_sizes}
use Rattle.smith_validate.proofs.Judging.{later_none, never_unnamed, on_all, on_any, on_by, on_judged}
use Rattle.smith_validate.proofs.PartsExactly.{begun_both, body_after_component, entered_begun, exactly_counted, open_begin}
use Rattle.smith_validate.proofs.PartsExactly.{recounted, start_known, with_counts}
use Rattle.smith_validate.proofs.Roles.{role_more, role_of}
use Rattle.smith_validate.proofs.Exposed.{reverse_push as reversed}

-- ---- as many open components as scopes

held_long : (os : List Open) (around : List At) (table : List Surface) → AreHeld os around table → length os ≡ length around
held_long os [] table h = ap (λ (xs : List Open). length xs) h
held_long os (a ∷ far) table h = ap (λ (xs : List Open). length xs) h.0.are ∙ ap suc (held_long h.0.outer far table h.1)

names_long : (around : List At) → length (names_around around) ≡ length around
names_long [] = refl
names_long (a ∷ far) = ap suc (names_long far)

pub even : (c : Check) (at : State) → Stands c at → IsEven c
even c at k =
    sym k.here.body.scopes.depth_is ∙ names_long at.around ∙ sym (held_long (reverse c.opens.outer.items) at.around k.table k.around)
    ∙ length-reverse c.opens.outer.items

-- ---- with more types of instances

held_more : (table more : List Surface) (os : List Open) (around : List At) → AreHeld os around table → AreHeld os around (table ++ more)
held_more table more os [] h = h
held_more table more os (a ∷ far) h =
    let x = h.0 in (
      record {
        own = x.own;
        outer = x.outer;
        are = x.are;
        size_is = x.size_is;
        counts_are = x.counts_are;
        small = x.small;
        role_is = role_more table more (names_around far) true x.own.body.role a.1 x.role_is;
        functions_are = x.functions_are;
      },
      held_more table more x.outer far h.1,
    )

exactly_more : (table more : List Surface) (scopes : List Scope) (os : List Open) (around : List At) → AreHeldExactly scopes os around table
    → AreHeldExactly scopes os around (table ++ more)
exactly_more table more scopes os [] h = h
exactly_more table more scopes os (a ∷ far) h =
    let x = h.0 in (
      record {
        known = x.known;
        own = x.own;
        outer = x.outer;
        old = x.old;
        more = x.more ++ more;
        scopes_are = x.scopes_are;
        are = x.are;
        table_is = ap (λ t. t ++ more) x.table_is ∙ append_assoc x.old x.more more;
        exact = x.exact;
      },
      h.1,
    )

-- ---- an item that is no component

both : (c : Check) (at : State) (k : StandsExactly c at) → IsOpenBoth c.known c.opens.own at.here (scopes_of at.around) (named_around at.around) k.table
both c at k = record { names = names_around at.around; covered = k.stands.table; open_is = k.stands.here; exact = k.here }

-- with that innermost one
abbrev with_here : Check → Known → Open → Check
with_here c k o = record { known = k; opens = record { own = o; outer = c.opens.outer } }

module _ {A : Type 0} (r : Result A Stop) (c : Check) (known : Known) (o : Open) (p : Part) where
  abbrev new : Check
  new = with_here c known o

  one_stands : (at : State) (k : Stands c at)
      → Later (IsOpen known o) (next (one p) at).here (scopes_of at.around) (names_around at.around) k.table → Stands new (next (one p) at)
  one_stands at k n = record {
    table = k.table ++ n.0;
    here = n.1;
    around = held_more k.table n.0 (reverse c.opens.outer.items) at.around k.around;
  }

  one_exactly : (at : State) (k : StandsExactly c at) → known.scopes.outer.items ≡ c.known.scopes.outer.items → Stands new (next (one p) at)
      → Later (λ (s : At). IsBodyExactly true known o.body s.1) (next (one p) at).here (scopes_of at.around) (named_around at.around) k.table
      → StandsExactly new (next (one p) at)
  one_exactly at k scopes s n = record {
    stands = s;
    table = k.table ++ n.0;
    here = n.1;
    around = subst (λ (ss : List Scope). AreHeldExactly (reverse ss) (reverse c.opens.outer.items) at.around (k.table ++ n.0)) (sym scopes)
        (exactly_more k.table n.0 (reverse c.known.scopes.outer.items) (reverse c.opens.outer.items) at.around k.around);
  }

  pub one_goes : StepsPart r c.known c.opens.own known o p → StepsPartExactly r c.known c.opens.own known o p
      → OnOk r (known.scopes.outer.items ≡ c.known.scopes.outer.items) → Goes r c new (one p)
  one_goes s e scopes = record {
    judged = λ at k. s.judged at.here (scopes_of at.around) (names_around at.around) k.table k.here;
    stands = λ at k. on_by r (one_stands at k) (s.added at.here (scopes_of at.around) (names_around at.around) k.table k.here);
    exact = λ at k u.
        on_all r (λ n m ss. one_exactly at k ss (one_stands at k.stands n) m)
        (s.added at.here (scopes_of at.around) (names_around at.around) k.stands.table k.stands.here)
        (e.exact at.here (scopes_of at.around) (named_around at.around) k.table (both c at k) u) scopes;
    refused = λ at k u. e.refused at.here (scopes_of at.around) (named_around at.around) k.table (both c at k) u;
    none = λ z. absurd (omega (arith, z));
  }

abbrev counted_in : Open → Counts → Open
counted_in o m = record o { body = with_counts o.body m }

-- ---- a core module

module _ (r : Result (Unit {0}) Stop) (c : Check) (m : Counts) (text : List ℕ) (bound : IfErr r IsUnnamed)
    (judged : ValidCounts (counted c.opens.own.body.counts) → Judges r (λ d. Keeps d.counts (ValidCounts (with_module (counted c.opens.own.body.counts)))
    × Keeps d.memories (HasFewMemories text)))
    (added : OnOk r (counted m ≡ with_module (counted c.opens.own.body.counts))) where
  abbrev module_part : Part
  module_part = core_module text

  abbrev counted_now : Open
  counted_now = counted_in c.opens.own m

  module_judged : (at : At) (outer : List FactScope) (names : List (List Id)) (table : List Surface) → IsOpen c.known c.opens.own at outer names table
      → Judges r (λ d. ValidPart d module_part at.0 outer at.1)
  module_judged at outer names table h =
      subst (λ n. Judges r (λ d. Keeps d.counts (ValidCounts (with_module n)) × Keeps d.memories (HasFewMemories text))) h.body.counts_are
      (judged (subst ValidCounts (sym h.body.counts_are) h.body.small.1))

  module_added : StepsPart r c.known c.opens.own c.known counted_now module_part
  module_added = record {
    judged = module_judged;
    added = λ at outer names table h.
        on_judged r (λ d. ValidPart d module_part at.0 outer at.1)
        (λ e same v. later_none (IsOpen c.known counted_now) (after_section module_part at outer) outer names table (record {
          body = record {
            scopes = h.body.scopes;
            size_is = h.body.size_is;
            counts_are = e ∙ ap with_module h.body.counts_are;
            small = (h.body.small.0, v.0);
            role_is = role_of table names true c.opens.own.body.role at.1 (recounted at.1 (with_module at.1.counts)) refl refl h.body.role_is;
          };
          functions_are = h.functions_are;
        }))
        added added (module_judged at outer names table h);
  }

  module_exactly : StepsPartExactly r c.known c.opens.own c.known counted_now module_part
  module_exactly = never_unnamed r (after_section module_part) bound (λ at outer named table h.
      let then = recounted at.1 (with_module at.1.counts) in
      on_any r (
        [],
        subst (λ t. IsBodyExactly true c.known (with_counts c.opens.own.body m) then outer named t) (sym (append-nil table))
            (exactly_counted c.known c.opens.own.body at.1 outer named table m (with_module at.1.counts) h.exact),
      ))

  pub module_goes : Goes r c (with_here c c.known counted_now) (one module_part)
  module_goes = one_goes r c c.known counted_now module_part module_added module_exactly (on_any r refl)

-- ---- a component that begins

pub root_stands : (c : Check) → own_in c.known ≡ empty_scope → c.known.scopes.own.types.items ≡ [] → c.known.scopes.outer.items ≡ []
    → c.known.instances.items ≡ [] → IsNew c.opens.own → c.opens.outer.items ≡ [] → StandsExactly c root
root_stands c own types outer instances n opens_are =
    let begin = in_start c.known own types outer instances in
    let exact = begun_both c.known c.opens.own [] [] [] (record {
      names = [];
      covered = [];
      is = begin;
      known = start_known c.known types outer instances;
      depth_is = ap (λ (os : List Scope). length os) (sym outer);
    }) n in
    record {
      stands = record { table = []; here = open_begin c.known c.opens.own [] [] [] begin n; around = ap reverse opens_are };
      table = [];
      here = exact.exact;
      around = tt;
    }

module _ (c new : Check) (m : Counts) (own_are : own_in new.known ≡ empty_scope) (types_are : new.known.scopes.own.types.items ≡ [])
    (scopes_are : new.known.scopes.outer.items ≡ c.known.scopes.outer.items ++ c.known.scopes.own ∷ [])
    (instances_are : new.known.instances.items ≡ c.known.instances.items) (is_new : IsNew new.opens.own)
    (opens_are : new.opens.outer.items ≡ c.opens.outer.items ++ counted_in c.opens.own m ∷ [])
    (counts_are : counted m ≡ with_component (counted c.opens.own.body.counts)) where
  abbrev o : Open
  o = counted_in c.opens.own m

  os_are : reverse new.opens.outer.items ≡ o ∷ reverse c.opens.outer.items
  os_are = reversed c.opens.outer.items new.opens.outer.items o opens_are

  pub enter_stands : (at : State) → Stands c at → ValidCounts (with_component at.here.1.counts) → Stands new (next opens at)
  enter_stands at k few =
      let b = at.here.1 in
      let outer = scopes_of at.around in
      let names = names_around at.around in
      let h = k.here in
      let x : IsHeld (o ∷ reverse c.opens.outer.items) (with_nested at.here) at.around k.table = record {
        own = o;
        outer = reverse c.opens.outer.items;
        are = refl;
        size_is = h.body.size_is;
        counts_are = counts_are ∙ ap with_component h.body.counts_are;
        small = (h.body.small.0, few);
        role_is = role_of k.table names true o.body.role b (recounted b (with_component b.counts)) refl refl h.body.role_is;
        functions_are = h.functions_are;
      } in
      record {
        table = k.table;
        here = open_begin new.known new.opens.own (b.own ∷ outer) (names_of b.exports ∷ names) k.table
            (in_entered c.known new.known b.own outer (names_of b.exports) names k.table h.body.scopes own_are types_are scopes_are instances_are)
            is_new;
        around = subst (λ os. AreHeld os (with_nested at.here ∷ at.around) k.table) (sym os_are) (x, k.around);
      }

  pub enter_exactly : (at : State) → StandsExactly c at → ValidCounts (with_component at.here.1.counts) → StandsExactly new (next opens at)
  enter_exactly at k few =
      let b = at.here.1 in
      let outer = scopes_of at.around in
      let named = named_around at.around in
      let begun = entered_begun c.known new.known c.opens.own at.here outer named k.table (both c at k) own_are types_are scopes_are instances_are in
      let inner = begun_both new.known new.opens.own (b.own ∷ outer) (names_of b.exports ++ named) k.table begun is_new in
      record {
        stands = enter_stands at k.stands few;
        table = k.table;
        here = inner.exact;
        around = (
          record {
            known = c.known;
            own = o;
            outer = reverse c.opens.outer.items;
            old = k.table;
            more = [];
            scopes_are = reversed c.known.scopes.outer.items new.known.scopes.outer.items c.known.scopes.own scopes_are;
            are = os_are;
            table_is = sym (append-nil k.table);
            exact = exactly_counted c.known c.opens.own.body b outer named k.table m (with_component b.counts) k.here;
          },
          k.around,
        );
      }

  pub enter_goes : {A : Type 0} {u : A}
      → (ValidCounts (counted c.opens.own.body.counts) → ValidCounts (with_component (counted c.opens.own.body.counts))) → Goes (Ok u) c new opens
  enter_goes {A} {u} judged =
      let few = λ (at : State) (k : Stands c at).
      subst (λ n. ValidCounts n → ValidCounts (with_component n)) k.here.body.counts_are judged k.here.body.small.1 in
      record {
        judged = few;
        stands = λ at k. enter_stands at k (few at k);
        exact = λ at k u. enter_exactly at k (few at k.stands);
        refused = λ at k u. tt;
        none = λ z. tt;
      }

-- ---- a component that ends

in_left : (k new : Known) (own around : FactScope) (outer : List FactScope) (here beside : List Id) (names : List (List Id)) (table : List Surface)
    → k.scopes.outer.items ≡ new.scopes.outer.items ++ new.scopes.own ∷ [] → new.instances.items ≡ k.instances.items
    → IsIn k own (around ∷ outer) here (beside ∷ names) table → IsIn new around outer beside names table
in_left k new own around outer here beside names table scopes instances s =
    let e : own_in new ∷ outer_in new ≡ kept_of around ∷ map kept_of outer = sym (outer_sizes new k.scopes.outer.items scopes) ∙ s.outer_is in
    let d = s.depth_is in
    record {
      own_is = cc;
      outer_is = cc;
      types_are = subst (λ ts. ScopesKept table (beside ∷ names) ts (around ∷ outer)) (outer_kept new k.scopes.outer.items scopes) s.types_are.1;
      instances_are = subst (λ (all : List InstanceType). IsTable all table) (sym instances) s.instances_are;
      depth_is = omega (arith, d, ap (λ (os : List Scope). length os) scopes, length-append new.scopes.outer.items (new.scopes.own ∷ []));
    }

no_more : {A : Type 0} (x : A) (xs : List A) → x ∷ xs ≡ [] → ⊥
no_more x xs e = cc

module _ (c new : Check) (scopes_are : c.known.scopes.outer.items ≡ new.known.scopes.outer.items ++ new.known.scopes.own ∷ [])
    (opens_are : c.opens.outer.items ≡ new.opens.outer.items ++ new.opens.own ∷ []) (instances_are : new.known.instances.items ≡ c.known.instances.items) where
  os_left : reverse c.opens.outer.items ≡ new.opens.own ∷ reverse new.opens.outer.items
  os_left = reversed new.opens.outer.items c.opens.outer.items new.opens.own opens_are

  leave_to : (here : At) (around : List At) → Stands c (record { here = here; around = around }) → Stands new (closed here around)
  leave_to here [] k = absurd (no_more new.opens.own (reverse new.opens.outer.items) (sym os_left ∙ k.around))
  leave_to here (a ∷ far) k =
      let x = k.around.0 in
      let e : x.own ∷ x.outer ≡ new.opens.own ∷ reverse new.opens.outer.items = sym x.are ∙ os_left in
      let own : x.own ≡ new.opens.own = cc in
      let outer : x.outer ≡ reverse new.opens.outer.items = cc in
      let scopes = in_left c.known new.known here.1.own a.1.own (scopes_of far) (names_of here.1.exports) (names_of a.1.exports) (names_around far) k.table
      scopes_are instances_are k.here.body.scopes in
      record {
        table = k.table;
        here = subst (λ o. IsOpen new.known o a (scopes_of far) (names_around far) k.table) own (record {
          body = record { scopes = scopes; size_is = x.size_is; counts_are = x.counts_are; small = x.small; role_is = x.role_is };
          functions_are = x.functions_are;
        });
        around = subst (λ os. AreHeld os far k.table) outer k.around.1;
      }

  leave_exactly_to : (here : At) (around : List At) → StandsExactly c (record { here = here; around = around }) → StandsExactly new (closed here around)
  leave_exactly_to here [] k = absurd (no_more new.opens.own (reverse new.opens.outer.items) (sym os_left ∙ k.stands.around))
  leave_exactly_to here (a ∷ far) k =
      let x = k.around.0 in
      let e : x.own ∷ x.outer ≡ new.opens.own ∷ reverse new.opens.outer.items = sym x.are ∙ os_left in
      let own : new.opens.own ≡ x.own = cc in
      let opens_same : x.outer ≡ reverse new.opens.outer.items = cc in
      let f : new.known.scopes.own ∷ reverse new.known.scopes.outer.items ≡ x.known.scopes.own ∷ reverse x.known.scopes.outer.items =
      sym (reversed new.known.scopes.outer.items c.known.scopes.outer.items new.known.scopes.own scopes_are) ∙ x.scopes_are in
      let scope : new.known.scopes.own ≡ x.known.scopes.own = cc in
      let back : reverse new.known.scopes.outer.items ≡ reverse x.known.scopes.outer.items = cc in
      let same : new.known.scopes.outer.items ≡ x.known.scopes.outer.items =
      sym (reverse-reverse new.known.scopes.outer.items) ∙ ap reverse back ∙ reverse-reverse x.known.scopes.outer.items in
      let all = c.known.instances.items in
      let exact = subst (λ ts. AreExact all ts) x.table_is k.here.known.instances_are in
      let n = body_after_component true x.known x.own.body a.1 (scopes_of far) (named_around far) x.old x.exact new.known new.opens.own.body a.1 x.more
      scope same
      (subst (λ (is : List InstanceType). AreExact is (x.old ++ x.more)) (sym instances_are) exact)
      (ap (λ (is : List InstanceType). length is) instances_are ∙ k.here.known.long ∙ ap (λ (ts : List Surface). length ts) x.table_is)
      (ap (λ (o : Open). o.body.role) own) refl refl refl in
      record {
        stands = leave_to here (a ∷ far) k.stands;
        table = x.old ++ n.0;
        here = n.1;
        around = exactly_more x.old n.0 (reverse new.known.scopes.outer.items) (reverse new.opens.outer.items) far
            (subst (λ os. AreHeldExactly (reverse new.known.scopes.outer.items) os far x.old) opens_same
            (subst (λ ss. AreHeldExactly ss x.outer far x.old) (sym back) k.around.1));
      }

  pub leave_exactly : (at : State) → StandsExactly c at → StandsExactly new (next closes at)
  leave_exactly at k = leave_exactly_to at.here at.around k
