-- What the items do, when the inner component grows.
use Rattle.std.proofs.Common.{◌≡◌, ℕ, ◌+◌, ◌<◌, List, [], ◌∷◌, ◌++◌, length, arith, ap, sym, subst, ◌∙◌, refl, append-nil, inl}
use Rattle.std.specs.Prelude.{Option, None}
use Rattle.smith_format.specs.declared.config.Config.{Config}
use Rattle.smith_scopes.specs.Scopes.{Contents, own_marked}
use Rattle.smith_scopes.proofs.Stack.{length-inward_marked, split_marked}
use Rattle.smith_tree.specs.Marking.{marked_after_part, marked_in, marked_inner}
use Rattle.smith_tree.proofs.Marking.{marked_add}
use Rattle.smith_tree.specs.Spaces.{Spaces, after_part, spaces_of}
use Rattle.smith_component.specs.AddedSections.{Adds, AddsCanons}
use Rattle.smith_component.specs.BuilderView.{building_of, stack_of, IsSound}
use Rattle.smith_component.specs.SectionsState.{GrowsScope, KeepsAround}
use Rattle.smith_component.specs.Fills.{FillsAll}
use Rattle.smith_tree.specs.Open.{with_inner}
use Rattle.smith_component.specs.SectionValues.{AddsImportSection, AddsTypeSection}
use Rattle.smith_component.specs.Shown.{shown_section, shown_sections}
use Rattle.smith_component.specs.Sound.{IsAddable, Sound, Totalled}
use Rattle.smith_component.specs.Steps.{next_of, step_of, AddsValues, ClosesInner, DoesItem, Grows, GrowsBy, StaysWithin}
use Rattle.smith_component.specs.Tables.{IsTabled}
use Rattle.smith_tree.specs.Tree.{Part, Tree, canons_in, exports_in, imports_in, modules_in}
use Rattle.smith_component.specs.Turn.{building, with_part, AddsAny, Does}
use Rattle.smith_component.specs.declared.builder.Progress.{Progress}
use Rattle.smith_component.specs.declared.builder.open.OpenComponent.{OpenComponent}
use Rattle.smith_component.specs.declared.builder.totals.TreeTotals.{TreeTotals}
use Rattle.smith_component.specs.declared.builder.Step.TheVariants.{StillBuilding}
use Rattle.smith_component.specs.declared.component.Section.{Section}
use Rattle.smith_component.specs.declared.item.Counted.{Counted}
use Rattle.smith_component.specs.declared.item.Counted.TheVariants.{Types, Imports, Functions}
use Rattle.smith_tree.specs.declared.choices.Item.{Item}
use Rattle.smith_tree.specs.declared.choices.Item.TheVariants as item
use Rattle.smith_component.proofs.Finishing.{adds_trans, closes_after, closes_filled}
use Rattle.smith_component.proofs.SectionValues.{import_section_shown, is_tabled_added, type_section_shown, shown_push}
use Rattle.smith_component.proofs.Sound.{part_sound, totalled_part}
use Rattle.smith_component.proofs.TracksStack.{none_imported}
use Rattle.smith_component.proofs.Turn.{still_building}

pub grows_none : (b : Progress) → IsSound b → Grows b b
grows_none b sound = grind (arith, append-nil)

-- The inner component has more sections, and what is kept beside it is theirs.
pub grows : (b : Progress) (scopes : List Contents) (totals : TreeTotals) (inner : OpenComponent) (more : List Section) → IsSound b
    → inner.sections.items ≡ b.inner.sections.items ++ more → Sound b.config (with_inner (stack_of b) (shown_sections inner.sections.items))
    → own_marked scopes ≡ marked_inner b.config (stack_of b).outer (shown_sections inner.sections.items) → KeepsAround b.scopes scopes
    → Totalled totals (with_inner (stack_of b) (shown_sections inner.sections.items)) → IsTabled inner
    → Grows b (record b { scopes = scopes; totals = totals; inner = inner })
grows b scopes totals inner more i items sound own around totalled tabled = grind (arith, length-inward_marked, split_marked)

-- A part without functions, imports and exports.
pub record IsBare (s : Spaces) (p : Part) : Type 0 where
  pub functions : (after_part s p).functions ≡ s.functions
  pub core_functions : (after_part s p).core_functions ≡ s.core_functions
  pub imports : imports_in p ≡ []
  pub canons : canons_in p ≡ []
  pub exports : exports_in p ≡ []

-- It has one more section, which shows such a part.
pub section_added : (b : Progress) (scopes : List Contents) (totals : TreeTotals) (inner : OpenComponent) (section : Section) → IsSound b
    → KeepsAround b.scopes scopes → inner.sections.items ≡ b.inner.sections.items ++ section ∷ [] → inner.tables ≡ b.inner.tables
    → IsAddable b.config (stack_of b) (shown_section section)
    → own_marked scopes ≡ marked_after_part (shown_section section) (spaces_of (stack_of b).inner) (marked_in b.config (stack_of b).outer)
    (marked_inner b.config (stack_of b).outer (stack_of b).inner)
    → IsBare (spaces_of (stack_of b).inner) (shown_section section)
    → totals.modules ≡ b.totals.modules + length (modules_in (shown_section section))
    → totals.components ≡ b.totals.components → totals.instances ≡ b.totals.instances
    → GrowsBy section b (record b { scopes = scopes; totals = totals; inner = inner })
section_added b scopes totals inner section i around items tables addable own bare ms cs is =
    let stack = stack_of b in
    let p = shown_section section in
    let new = ap shown_sections items ∙ shown_push b.inner.sections.items section in
    let none = none_imported p bare.imports in
    let here = own ∙ sym (ap (marked_inner b.config stack.outer) new ∙ marked_add b.config (marked_in b.config stack.outer) stack.inner p) in
    let sound = subst (λ t. Sound b.config (with_inner stack t)) (sym new) (part_sound b.config stack p addable i.0.sound) in
    let totalled = totalled_part b.config stack.outer stack.inner _ b.totals totals p addable.no_component new (omega (arith, ms, ap length none.0))
    (omega (arith, cs, ap length none.1)) (omega (arith, is, ap length none.2)) i.0.totalled in
    let tabled = is_tabled_added b.inner inner section items tables bare.functions bare.core_functions bare.imports bare.canons bare.exports i.1.0 in
    record { grows = grows b scopes totals inner (section ∷ []) i items sound here around totalled tabled; last = items }

-- the same when entries of it were read before, which changed the scopes alone
pub entries_added : (b n : Progress) (inner : OpenComponent) (section : Section) → IsSound b → GrowsScope b n
    → inner.sections.items ≡ n.inner.sections.items ++ section ∷ [] → inner.tables ≡ n.inner.tables
    → IsAddable b.config (stack_of b) (shown_section section)
    → own_marked n.scopes ≡ marked_after_part (shown_section section) (spaces_of (stack_of b).inner) (marked_in b.config (stack_of b).outer)
    (marked_inner b.config (stack_of b).outer (stack_of b).inner)
    → IsBare (spaces_of (stack_of b).inner) (shown_section section) → length (modules_in (shown_section section)) ≡ 0
    → GrowsBy section b (record n { inner = inner })
entries_added b n inner section i s items tables addable own bare none =
    subst (λ (p : Progress). GrowsBy section b (record p { inner = inner })) (sym s.only)
    (section_added b n.scopes b.totals inner section i s.around (items ∙ ap (λ (p : Progress). p.inner.sections.items ++ section ∷ []) s.only)
    (tables ∙ ap (λ (p : Progress). p.inner.tables) s.only) addable own bare (omega (arith, none)) refl refl)

pub grows_trans : {a b c : Progress} → Grows a b → Grows b c → Grows a c
grows_trans f g = record { sound = g.sound; keeps = g.keeps ∙ f.keeps; sections = adds_trans f.sections g.sections }

-- one more section, as a part
pub part_added : (old new : Progress) (s : Section) → GrowsBy s old new → building (stack_of new) ≡ with_part (stack_of old) (shown_section s)
part_added old new s g = grind (arith, still_building, grows, shown_push)

-- an item by which the inner component grows
pub grown_does : (i : Item) (old new : Progress) (b rest : List ℕ) → Grows old new → Does old.config i (stack_of old) b (building (stack_of new)) rest
    → AddsValues old.config i (building_of old) b (StillBuilding (building_of new)) rest → DoesItem i old b new None rest
grown_does i old new b rest g does values = record { does = does; values = values; sound = g.sound; keeps = g.keeps; sections = inl g.sections }

-- those that add what has a minimum
module _ (old new : Progress) (b rest : List ℕ) (g : Grows old new) where
  adds_any : (what : Counted) → Adds what old.config 0 (stack_of old) b (stack_of new).inner rest
      → AddsAny what old.config (stack_of old) b (building (stack_of new)) rest
  adds_any what a = ((stack_of new).inner, a, still_building (building_of old) (building_of new) g.sections)

  pub types_do : AddsTypeSection old.config 0 (building_of old) b (building_of new) rest → DoesItem item.Types old b new None rest
  types_do a =
      grown_does item.Types old new b rest g (adds_any Types (type_section_shown old.config 0 (building_of old) (building_of new) b rest a))
      (building_of new, refl, a)

  pub imports_do : AddsImportSection old.config 0 (building_of old) b (building_of new) rest → DoesItem item.Imports old b new None rest
  imports_do a =
      grown_does item.Imports old new b rest g (adds_any Imports (import_section_shown old.config 0 (building_of old) (building_of new) b rest a))
      (building_of new, refl, a)

  pub canonicals_do : AddsCanons old.config 0 (stack_of old) b (stack_of new).inner rest → DoesItem item.Canonical old b new None rest
  canonicals_do a = grown_does item.Canonical old new b rest g (adds_any Functions a) tt

-- the finish: the inner component is filled, and then closed
pub finish_does : (old full new : Progress) (b rest : List ℕ) (c : Option Tree) → FillsAll old.config (stack_of old) b (stack_of full).inner rest
    → Grows old full → ClosesInner full new c → DoesItem item.Finish old b new c rest
finish_does old full new b rest c fills g h = record {
  does = ((stack_of full).inner, fills, closes_filled (building_of old) (building_of full) (next_of (step_of new c)) g.sections.outer h.closes);
  values = tt;
  sound = h.sound;
  keeps = subst (λ (k : Config). StaysWithin k (step_of new c)) g.keeps h.keeps;
  sections = closes_after (building_of old) (building_of full) (step_of new c) g.sections h.sections;
}
