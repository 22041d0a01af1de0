-- The steps of a walk through a component: each item by itself, and that components and lists begin and end.
use Rattle.std.specs.Prelude.{ℕ, ◌∷◌, ◌++◌, List, [], Option, None, Some, map, reverse, string_bytes}
use Rattle.std.specs.List.{flat_map}
use Rattle.smith_tree.specs.Shown.{shown_canon, shown_export}
use Rattle.smith_tree.specs.Tree.{Part, Tree, canons, component, core_module, core_types, custom, ends, exports, first, imports, tree_of, types}
use Rattle.smith_read.specs.Nodes.{shown_core_node}
use Rattle.smith_read.specs.PartNodes.{shown_import_node, shown_part_node}
use Rattle.smith_read.specs.TypeNodes.{shown_type_node}
use Rattle.smith_read.specs.declared.steps.Contents.{Contents}
use Rattle.smith_read.specs.declared.steps.Contents.TheVariants as kind
use Rattle.smith_read.specs.declared.steps.Step.{Step as StepNode}
use Rattle.smith_read.specs.declared.steps.Step.TheVariants as step
use Rattle.smith_read.specs.declared.steps.Steps.{Steps}

-- An item that is no component, as a section that holds it alone; a component begins, or ends; a list begins, or ends.
pub data Step : Type 0 where
  one : Part → Step
  opens : Step
  closes : Step
  marks : Step

-- how many items begin
abbrev pub items_at : Step → ℕ
items_at (one p) = 1
items_at opens = 1
items_at closes = 0
items_at marks = 0

-- the entries of a list, and its end
abbrev pub entry_steps : {A : Type 0} → (List A → Part) → List A → List Step
entry_steps section xs = map (λ x. one (section (x ∷ []))) xs ++ marks ∷ []

abbrev mutual
  pub steps_of : Tree → List Step
  steps_of ends = []
  steps_of (first p t) = steps_in p ++ steps_of t

  pub steps_in : Part → List Step
  steps_in (custom name contents) = one (custom name contents) ∷ []
  steps_in (core_module text) = one (core_module text) ∷ []
  steps_in (core_types ts) = marks ∷ entry_steps core_types ts
  steps_in (component t) = opens ∷ (steps_of t ++ closes ∷ [])
  steps_in (types ts) = marks ∷ entry_steps types ts
  steps_in (canons fs) = marks ∷ entry_steps canons fs
  steps_in (imports is) = marks ∷ entry_steps imports is
  steps_in (exports es) = marks ∷ entry_steps exports es

-- the steps to the end of a component or a list, and of a whole walk, which ends the root too

abbrev pub left_steps : Contents → List Step
left_steps (kind.Parts ps) = steps_of (tree_of (map shown_part_node ps.now)) ++ closes ∷ []
left_steps (kind.CoreTypes ts) = entry_steps core_types (map shown_core_node ts.now)
left_steps (kind.Types ts) = entry_steps types (map shown_type_node ts.now)
left_steps (kind.Canons fs) = entry_steps canons (map shown_canon fs.now)
left_steps (kind.Imports is) = entry_steps imports (map shown_import_node is.now)
left_steps (kind.Exports es) = entry_steps exports (map shown_export es.now)

abbrev pub open_steps : Option Contents → List Contents → List Step
open_steps None around = []
open_steps (Some c) around = left_steps c ++ flat_map left_steps around

abbrev pub to_come : Steps → List Step
to_come s = open_steps s.innermost (reverse s.around.items)

abbrev pub begins : Contents → Step
begins (kind.Parts ps) = opens
begins _ = marks

abbrev pub ended : Contents → Step
ended (kind.Parts ps) = closes
ended _ = marks

abbrev pub shown_step : StepNode → Step
shown_step (step.Custom s) = one (custom (string_bytes s.now.name) s.now.bytes.items)
shown_step (step.CoreModule bs) = one (core_module bs.now)
shown_step (step.Begin c) = begins c
shown_step (step.End c) = ended c
shown_step (step.CoreType t) = one (core_types (shown_core_node t.now ∷ []))
shown_step (step.Type t) = one (types (shown_type_node t.now ∷ []))
shown_step (step.Canon f) = one (canons (shown_canon f.now ∷ []))
shown_step (step.Import i) = one (imports (shown_import_node i.now ∷ []))
shown_step (step.Export e) = one (exports (shown_export e.now ∷ []))

-- the steps in what a step begins
abbrev pub inner_steps : StepNode → List Step
inner_steps (step.Begin c) = left_steps c
inner_steps _ = []
