-- Components with each entry of a section in a section of its own: all that a text leaves open (Explainer.md, component definitions).
use Rattle.std.specs.Prelude.{List, [], ◌∷◌}
use Rattle.smith_tree.specs.Tree.{Part, Tree, ends, first, custom, core_module, core_types, component, types, canons, imports, exports}

-- each entry in a section, before others
abbrev pub each_alone : {A : Type 0} → (List A → Part) → List A → Tree → Tree
each_alone of [] t = t
each_alone of (x ∷ xs) t = first (of (x ∷ [])) (each_alone of xs t)

abbrev mutual
  pub part_alone : Part → Tree → Tree
  part_alone (custom name contents) t = first (custom name contents) t
  part_alone (core_module bs) t = first (core_module bs) t
  part_alone (core_types ts) t = each_alone core_types ts t
  part_alone (component c) t = first (component (alone c)) t
  part_alone (types ts) t = each_alone types ts t
  part_alone (canons fs) t = each_alone canons fs t
  part_alone (imports is) t = each_alone imports is t
  part_alone (exports es) t = each_alone exports es t

  pub alone : Tree → Tree
  alone ends = ends
  alone (first p t) = part_alone p (alone t)
