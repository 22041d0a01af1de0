-- What is in a plan: types for which the fuel lasts, and core modules that stand for generated ones.
use Rattle.std.proofs.Common.{◌≡◌, ℕ, suc, ◌+◌, ◌≤◌, max, List, [], ◌∷◌, ◌++◌, length, arith, sym, ap, subst, length-append}
use Rattle.std.specs.List.{AllByRecursion}
use Rattle.smith_core.specs.StandInText.{stand_in_text}
use Rattle.smith_format.specs.Piece.{bytes}
use Rattle.smith_format.specs.declared.config.Config.{Config}
use Rattle.smith_format.proofs.Piece.{parts_are}
use Rattle.smith_syntax.specs.Entries.{Entry}
use Rattle.smith_syntax.specs.Scope.{Scope, with_type}
use Rattle.smith_syntax.specs.WellFormed.{FormedTypes}
use Rattle.smith_types.specs.Sayable.{Lasts}
use Rattle.smith_tree.specs.TypeNeeds.{declaring}
use Rattle.smith_types.proofs.Exact.{lasts}
use Rattle.smith_tree.proofs.TypeNeeds.{nests_within}
use Rattle.smith_scopes.proofs.Plain.{all_back}
use Rattle.smith_tree.specs.Grammar.{Spells, part, parts, preamble}
use Rattle.smith_tree.specs.Limits.{Maxima, OwnSizes, Sized, SmallCoreTypes, SmallTypes}
use Rattle.smith_tree.specs.Open.{scopes_in, tree_so_far}
use Rattle.smith_tree.specs.Readable.{CanBeGenerated, IsReadablePart, IsReadableRest}
use Rattle.smith_tree.specs.Script.{Within}
use Rattle.smith_tree.specs.Spaces.{core_types_of, types_of}
use Rattle.smith_tree.specs.Tree.{Tree, ends, first, Part, custom, core_module, core_types, component, types, canons, imports, exports, add}
use Rattle.smith_tree.specs.Tree.{most}
use Rattle.smith_tree.specs.WellFormed.{Formed, FormedPart, scope_of}
use Rattle.smith_component.proofs.Grammar.{Encoded, component_encoded, module_has_bytes}
use Rattle.smith_component.proofs.Fits.{own_sizes_front, own_sizes_swap}
use Rattle.smith_component.proofs.Growth.{spaces-add}
use Rattle.smith_component.proofs.PartsRead.{PartStands, Stands}
use Rattle.smith_component.proofs.Script.{limits_front, limits_past}
use Rattle.smith_component.proofs.Sound.{scopes_from-snoc}
use Rattle.smith_component.proofs.Tree.{all_before, all_inner, depth-so_far, join-add, join-ends, tree_so_far-close, join}

-- Sizes in front of what grew.
sized_front : (t : Tree) (config : Config) (outer : List Tree) (a : Tree) → Sized config (tree_so_far outer (join a t)) → Sized config (tree_so_far outer a)
sized_front ends config outer a s = subst (λ x. Sized config (tree_so_far outer x)) (join-ends a) s
sized_front (first p t) config outer a s =
    all_before (OwnSizes config) (own_sizes_swap config) outer a p (own_sizes_front config a p)
    (sized_front t config outer (add a p) (subst (λ x. Sized config (tree_so_far outer x)) (sym (join-add a p t)) s))

sized_past : (p : Part) (t : Tree) (config : Config) (outer : List Tree) (before : Tree) → Sized config (tree_so_far outer (join before (first p t)))
    → Sized config (tree_so_far outer (join (add before p) t))
sized_past p t config outer before s = subst (λ x. Sized config (tree_so_far outer x)) (sym (join-add before p t)) s

-- If these types are that deep, each may declare types as it does.
module _ (config : Config) (outer : List Scope) (scopes : ℕ) where
  each_lasts : (es : List Entry) (own : Scope) → FormedTypes es own outer → SmallTypes config es
      → scopes + most declaring es ≤ max scopes config.max_nesting_depth → AllByRecursion (λ e. Lasts e config scopes config.max_type_size) es
  each_lasts [] own f s h = tt
  each_lasts (e ∷ es) own f s h = (
    lasts e config own outer scopes config.max_type_size f.0 (nests_within e config scopes (omega (arith, h))) s.0,
    each_lasts es (with_type own e) f.1 s.1 (omega (arith, h)),
  )

-- What is in the rest of a component of a plan, when these components are open around it and these parts precede it.
mutual
  stands_from : (t : Tree) (config : Config) (outer : List Tree) (before : Tree) → IsReadableRest config t before → Formed t (scopes_in outer) before
      → Maxima config (tree_so_far outer (join before t)) → Sized config (tree_so_far outer (join before t)) → Encoded (parts t)
      → Stands config (suc (length outer)) t
  stands_from ends config outer before r f m s e = tt
  stands_from (first p t) config outer before r f m s e =
      let z = parts_are (part p) (parts t) e.0 e.1 in (
        part_stands p config outer before r.0 f.0 (limits_front t config outer (add before p) (limits_past p t config outer before m))
            (sized_front t config outer (add before p) (sized_past p t config outer before s)) (z.left, z.p_is),
        stands_from t config outer (add before p) r.1 f.1 (limits_past p t config outer before m) (sized_past p t config outer before s) (z.right, z.q_is),
      )

  pub part_stands : (p : Part) (config : Config) (outer : List Tree) (before : Tree) → IsReadablePart config p before
      → FormedPart p (scopes_in outer) before → Maxima config (tree_so_far outer (add before p)) → Sized config (tree_so_far outer (add before p))
      → Encoded (part p) → PartStands config (suc (length outer)) p
  part_stands (custom name contents) config outer before r f m s e = tt
  part_stands (core_module text) config outer before (stand_in, is, shown) f m s e =
      (stand_in, is, module_has_bytes text (stand_in_text stand_in) shown e)
  part_stands (core_types ts) config outer before r f m s e =
      let whole : OwnSizes config (add before (core_types ts)) = all_inner (OwnSizes config) outer (add before (core_types ts)) s in
      let es = ap (λ z. z.core_types) (spaces-add before (core_types ts)) in
      all_back _ (core_types_of before) ts (subst (SmallCoreTypes config) es whole.1)
  part_stands (component u) config outer before r f m s e =
      let F : List Scope → Type 0 = λ ss. Formed u ss ends in
      let longer : length (outer ++ before ∷ []) ≡ suc (length outer) = omega (arith, length-append outer (before ∷ [])) in
      let close = tree_so_far-close outer before u in
      subst (λ n. Stands config (suc n) u) longer
      (stands_from u config (outer ++ before ∷ []) ends r (subst F (sym (scopes_from-snoc outer before [])) f) (subst (Maxima config) (sym close) m)
      (subst (Sized config) (sym close) s) (component_encoded u e))
  part_stands (types es) config outer before r f m s e =
      let whole : OwnSizes config (add before (types es)) = all_inner (OwnSizes config) outer (add before (types es)) s in
      let is = ap (λ z. z.types) (spaces-add before (types es)) in
      let small : SmallTypes config es = all_back _ (types_of before) es (subst (SmallTypes config) is whole.0) in
      each_lasts config (scopes_in outer) (suc (length outer)) es (scope_of before) f small
      (omega (arith, m.declared, depth-so_far (most declaring) outer before (types es)))
  part_stands (canons fs) config outer before r f m s e = tt
  part_stands (imports is) config outer before r f m s e = tt
  part_stands (exports es) config outer before r f m s e = tt

pub tree_stands : (config : Config) (t : Tree) → CanBeGenerated config t → (b : List ℕ) × Spells t b → Stands config 1 t
tree_stands config t c spelled =
    let z = parts_are (bytes preamble) (parts t) spelled.0 spelled.1 in
    stands_from t config [] ends c.readable c.formed c.limits.maxima c.sized (z.right, z.q_is)

pub plan_stands : (config : Config) (t : Tree) → Within config t → Stands config 1 t
plan_stands config t w = tree_stands config t w.possible w.spelled
