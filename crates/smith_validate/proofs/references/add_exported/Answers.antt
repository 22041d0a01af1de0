use Rattle.std.proofs.Common.{arith, ◌∷◌, ◌++◌, [], ap, sym, ◌∙◌, length, subst, true, ◌≡◌}
use Rattle.smith_input.specs.NewNames.{is_among}
use Rattle.smith_tree.specs.Bodies.{equal_facts, exported_facts, externs_at}
use Rattle.smith_tree.specs.Counts.{ValidCounts, with_type_count}
use Rattle.smith_tree.specs.Demands.{Keeps}
use Rattle.smith_tree.specs.Facts.{id_at}
use Rattle.smith_tree.specs.Validates.{names_of}
use Rattle.smith_validate.specs.Counted.{counted}
use Rattle.smith_validate.specs.Instances.{IsKept}
use Rattle.smith_validate.specs.Marks.{named_facts}
use Rattle.smith_syntax.specs.declared.deftype.ComponentTypeRef.TheVariants as to
use Rattle.smith_validate.proofs.Judging.{on_by, on_both, passed_on, refuted_at}
use Rattle.smith_validate.proofs.Names.{among_itself, sub_left, sub_right}
use Rattle.smith_validate.proofs.ScopeSteps.{count_none, exported_none, exported_one, in_none, in_one, kept_named, named_one, none_exported, size_at}
use Rattle.smith_validate.proofs.Zips.{beside, none_beside}
use Rattle.smith_validate.proofs.references.add_exported.Goals as goal

pub returns-in_default-clause-judged : goal.returns-in_default-clause-judged
returns-in_default-clause-judged c = grind (arith, none_exported, count_none)

pub returns-in_default-clause-added : goal.returns-in_default-clause-added
returns-in_default-clause-added c = λ own outer here names table s.
    let ids = names_of (externs_at own outer c.args.to) in
    in_none c.args.known.now own outer here (here ++ ids) names table s (sub_left here ids) _ (none_exported own outer c.args.to c.in_default.not-TypeEq)

pub returns-in_default-clause-counts : goal.returns-in_default-clause-counts
returns-in_default-clause-counts c = grind (arith, count_none, none_exported)

pub returns-in_default-type_at-clause-judged : goal.returns-in_default-type_at-clause-judged
returns-in_default-type_at-clause-judged c = grind (arith, none_beside, exported_none, count_none)

pub returns-in_default-type_at-clause-added : goal.returns-in_default-type_at-clause-added
returns-in_default-type_at-clause-added c = λ own outer here names table s.
    let i = c.in-TypeEq.index in
    let none = none_beside (IsKept table (here ∷ names)) c.args.known.now.scopes.own.types.items own.types i s.types_are.0 c.in_default-type_at.ensures.facts in
    rw (c.in-TypeEq.is)
    (let ids = names_of (externs_at own outer (to.TypeEq i)) in
    in_none c.args.known.now own outer here (here ++ ids) names table s (sub_left here ids) _ (exported_none own outer i none))

pub returns-in_default-type_at-clause-counts : goal.returns-in_default-type_at-clause-counts
returns-in_default-type_at-clause-counts c = grind (arith, none_beside, count_none, exported_none)

pub returns-in_err-add_type-clause-judged : goal.returns-in_err-add_type-clause-judged
returns-in_err-add_type-clause-judged c = λ own outer here names table s v.
    let i = c.in-TypeEq.index in
    let f = beside (IsKept table (here ∷ names)) c.args.known.now.scopes.own.types.items own.types i c.in-Some.facts s.types_are.0 c.in-Some.ensures.facts in
    rw (c.in-TypeEq.is)
    (passed_on _ _ c.from_residual.ensures.1
    (refuted_at (λ fs d. Keeps d.counts (ValidCounts (with_type_count (counted c.args.counts.now) (length fs)))) _ _
    (sym (exported_one own outer i f.item f.at)) ((c.in_err-add_type.ensures {u = tt}).judged v)))

pub returns-clause-added : goal.returns-clause-added
returns-clause-added c = λ own outer here names table s.
    let i = c.in-TypeEq.index in
    let k = c.in-Some.facts in
    let f = beside (IsKept table (here ∷ names)) c.args.known.now.scopes.own.types.items own.types i k s.types_are.0 c.in-Some.ensures.facts in
    let id = id_at (own ∷ outer) in
    rw (c.in-TypeEq.is)
    (let ids = names_of (externs_at own outer (to.TypeEq i)) in
    let there = here ++ ids in
    let new = c.add_type-2.new.self in
    let kf = c.named.result in
    let size : kf.size ≡ k.size = ap (λ g. g.size) c.named.ensures in
    let has : is_among there id ≡ true =
    sub_right here ids id (subst (λ xs. is_among xs id ≡ true) (sym (named_one own outer i f.item f.at)) (among_itself id [])) in
    let kept : IsKept table (there ∷ names) kf (equal_facts id f.item) =
    subst (λ g. IsKept table (there ∷ names) g (equal_facts id f.item))
    (ap (λ d. named_facts k d) (s.depth_is ∙ sym c.depth-depth.ensures) ∙ sym c.named.ensures)
    (kept_named table here there names (sub_left here ids) k f.item id f.is has) in
    on_both c.add_type-2.result
    (λ sizes types.
    in_one c.args.known.now own outer here there names table s (sub_left here ids) new c.add_type-2.ensures.beside.outer c.add_type-2.ensures.beside.instances
    (exported_facts own outer (to.TypeEq i)) (equal_facts id f.item) kf (exported_one own outer i f.item f.at) sizes
    (size ∙ size_at c.args.known.now own i k.size f.item s.own_is c.in-Some.ensures.size f.at) types kept)
    c.add_type-2.ensures.own c.add_type-2.ensures.types)

pub returns-clause-counts : goal.returns-clause-counts
returns-clause-counts c = λ own outer here names table s.
    let i = c.in-TypeEq.index in
    let f = beside (IsKept table (here ∷ names)) c.args.known.now.scopes.own.types.items own.types i c.in-Some.facts s.types_are.0 c.in-Some.ensures.facts in
    rw (c.in-TypeEq.is)
    (on_by c.add_type-2.result
    (λ e. (c.in_ok-add_type.ensures {u = tt}).added
    ∙ ap (λ fs. with_type_count (counted c.args.counts.now) (length fs)) (sym (exported_one own outer i f.item f.at)))
    c.add_type-2.ensures.own)
