-- What holds of the open components stays from turn to turn, if it stays when parts that are read are added, and when components are opened and
-- closed.
use Rattle.std.proofs.Common.{◌≡◌, ℕ, zero, suc, ◌+◌, ◌-◌, ◌<◌, ◌≤◌, List, [], ◌∷◌, ◌++◌, true, length, refl, sym, ap, subst, inl, inr, arith}
use Rattle.std.proofs.lemmas.Bool.Decides.{nat_tests}
use Rattle.smith_input.proofs.Loops.{loop_all, loop_few}
use Rattle.smith_core.proofs.StandInMade.{stand_in_made}
use Rattle.smith_format.specs.Piece.{bytes_of}
use Rattle.smith_format.specs.declared.config.Config.{Config}
use Rattle.smith_syntax.specs.Entries.{CoreEntry, Entry, ImportEntry, function}
use Rattle.smith_syntax.specs.Marked.{Marked}
use Rattle.smith_types.proofs.MadeCore.{core_fits}
use Rattle.smith_tree.proofs.ReadsCustom.{custom_short}
use Rattle.smith_tree.specs.Marking.{marked_in, marked_inner}
use Rattle.smith_tree.specs.Offered.{OfferedPart}
use Rattle.smith_tree.specs.Open.{Open, is_component_offered, is_export_offered, root, with_inner}
use Rattle.smith_tree.specs.Readable.{IsReadablePart}
use Rattle.smith_tree.specs.ReadableCoreTypes.{IsReadableCore}
use Rattle.smith_tree.specs.ReadableTypes.{IsReadableType}
use Rattle.smith_tree.specs.Spaces.{core_types_of, spaces_of, types_of}
use Rattle.smith_tree.specs.Tree.{ExportEntry, Part, Tree, add, anywhere_in, canons, component, components_in, core_module, core_types, custom, ends}
use Rattle.smith_tree.specs.Tree.{exports, exports_of, imports, imports_of, types}
use Rattle.smith_tree.specs.declared.choices.CanonItem.{CanonItem}
use Rattle.smith_tree.specs.declared.choices.Item.{Item}
use Rattle.smith_tree.specs.declared.choices.Item.TheVariants.{Finish, Custom, CoreTypes, Types, Imports, Canonical, Module, Component, Exports}
use Rattle.smith_component.specs.AddedSections.{Adds, ReadsCoreTypes, ReadsTypes}
use Rattle.smith_component.specs.Canonicals.{Growing, ReadsCanons, empty_section, grown}
use Rattle.smith_component.specs.Fills.{Fills, FillsAll}
use Rattle.smith_component.specs.Runs.{RunsTo, Turns}
use Rattle.smith_component.specs.Shown.{shown_module}
use Rattle.smith_component.specs.Sound.{IsAddable, Sound}
use Rattle.smith_component.specs.Turn.{Closes, Does, Next, Turn, answered, building, with_part}
use Rattle.smith_component.specs.declared.item.Counted.{Counted}
use Rattle.smith_component.specs.declared.item.Counted.TheVariants as counted
use Rattle.smith_component.proofs.ReadsTypes.{made_with_readable, types_read_declared, types_read_formed, types_read_limited, types_read_offered}
use Rattle.smith_component.proofs.ReadsTypes.{types_read_small}
use Rattle.smith_component.proofs.Marks.{formed_core_plain, formed_plain}
use Rattle.smith_component.proofs.Named.{loop_reachable}
use Rattle.smith_component.proofs.Loops.{loop_keeps}
use Rattle.smith_component.proofs.ReadsCanons.{turn_keeps, turned}
use Rattle.smith_component.proofs.ReadsCoreTypes.{core_types_read_formed, core_types_read_limited, core_types_read_small}
use Rattle.smith_component.proofs.ReadsExports.{export_new, exports_addable, exports_offered}
use Rattle.smith_component.proofs.ReadsImports.{import_new, imports_addable, imports_offered}
use Rattle.smith_component.proofs.Sound.{addable_core_types, addable_custom, addable_module, addable_types, length-marked_from, module_offered_is}
use Rattle.smith_component.proofs.Sound.{own_limits_of}
use Rattle.smith_component.proofs.Turn.{WasOffered, chosen}

-- Types that are read may be added.
pub types_addable : (config : Config) (least : ℕ) (stack : Open) {b rest : List ℕ} {xs : List Entry} {scope : Marked} → Sound config stack
    → ReadsTypes config (marked_in config stack.outer) least (config.max_types - length (types_of stack.inner))
    (marked_inner config stack.outer stack.inner) b xs rest scope
    → IsAddable config stack (types xs)
types_addable config least stack {b} {rest} {xs} {scope} sound r =
    let outer : List Marked = marked_in config stack.outer in
    let own : Marked = marked_inner config stack.outer stack.inner in
    let limits = own_limits_of config stack sound in
    let few : 0 + length xs ≤ config.max_types - length (types_of stack.inner) = loop_few 0 own b xs rest scope (omega arith) r in
    let below = types_read_declared config outer r in
    let around = length-marked_from config stack.outer [] in
    addable_types config stack xs (formed_plain config stack.outer stack.inner xs (types_read_formed config outer r)) (omega (arith, few, limits.types))
    (types_read_limited config outer r) (omega (arith, below, around)) (types_read_small config outer r)

pub core_types_addable : (config : Config) (stack : Open) {b rest : List ℕ} {xs : List CoreEntry} {scope : Marked} → Sound config stack
    → ReadsCoreTypes config (config.max_types - length (core_types_of stack.inner)) (marked_inner config stack.outer stack.inner) b xs rest scope
    → IsAddable config stack (core_types xs)
core_types_addable config stack {b} {rest} {xs} {scope} sound r =
    let limits = own_limits_of config stack sound in
    let few : 0 + length xs ≤ config.max_types - length (core_types_of stack.inner) =
    loop_few 0 (marked_inner config stack.outer stack.inner) b xs rest scope (omega arith) r in
    addable_core_types config stack xs (formed_core_plain config stack.outer stack.inner xs (core_types_read_formed config r))
    (omega (arith, few, limits.core_types)) (core_types_read_limited config r) (core_types_read_small config r)

-- What is known of a part that was read, besides that it may be added if what is there is sound.
pub record IsReadPart (config : Config) (stack : Open) (p : Part) : Type 0 where
  pub offered : OfferedPart p config (spaces_of stack.inner) (marked_in config stack.outer) (marked_inner config stack.outer stack.inner)
  pub readable : IsReadablePart config p stack.inner
  pub flat : anywhere_in components_in p ≡ []

-- What stays when such a part is added, and canonical sections.
pub record Stays (config : Config) (Holds : Open → Type 0) : Type 0 where
  pub part : (stack : Open) (p : Part) → (Sound config stack → IsAddable config stack p) → IsReadPart config stack p → Holds stack
      → Holds (with_inner stack (add stack.inner p))
  pub sections : (least : ℕ) (stack : Open) {b : List ℕ} {turns : List CanonItem} {rest : List ℕ} {next : Growing}
      → ReadsCanons config least stack.inner b turns rest next → Holds stack → Holds (with_inner stack (grown next))

-- What stays with any part stays with canonical sections, and the types that lifts define.
module _ (config : Config) (Holds : Open → Type 0)
    (part : (stack : Open) (p : Part) → IsReadPart config stack p → Holds stack → Holds (with_inner stack (add stack.inner p))) where
  section_stays : (stack : Open) (s : Growing) → Holds (with_inner stack s.before) → Holds (with_inner stack (grown s))
  section_stays stack s h = part (with_inner stack s.before) (canons s.funcs) (record { offered = tt; readable = tt; flat = refl }) h

  sections_stay : (least : ℕ) (stack : Open) {b : List ℕ} {turns : List CanonItem} {rest : List ℕ} {next : Growing}
      → ReadsCanons config least stack.inner b turns rest next → Holds stack → Holds (with_inner stack (grown next))
  sections_stay least stack {b} {turns} {rest} {next} r h =
      let P : ℕ → Growing → Type 0 = λ n s. Holds (with_inner stack s.before) in
      let all = loop_keeps P (λ n s b r t p e. subst (P n) (sym e.2) p)
      (λ n s b x q u lt p i.
      turn_keeps P config n s u (λ v c h p. p)
      (λ c signature d p.
      part (with_inner stack (grown s)) (types (function signature ∷ [])) (record {
        offered = (d.offered (marked_inner config stack.outer (grown s)) (marked_in config stack.outer), tt);
        readable = (d.readable, tt);
        flat = refl;
      }) (section_stays stack s p))
      (λ full p. p) p (turned config s b x q u i))
      0 (empty_section stack.inner) b turns rest next (omega arith) h r in
      section_stays stack next all.2

  pub by_parts : Stays config Holds
  by_parts = record { part = λ stack p addable read h. part stack p read h; sections = sections_stay }

module _ (config : Config) (Holds : Open → Type 0) (stays : Stays config Holds) where
  -- what the sections with a minimum add
  pub adds_keep : (what : Counted) (least : ℕ) (stack : Open) (b : List ℕ) (t : Tree) (rest : List ℕ) → Adds what config least stack b t rest → Holds stack
      → Holds (with_inner stack t)
  adds_keep counted.Types least stack b t rest (xs, scope, r, e) h =
      subst (λ u. Holds (with_inner stack u)) (sym e)
      (stays.part stack (types xs) (λ s. types_addable config least stack s r) (record {
        offered = types_read_offered config (marked_in config stack.outer) r;
        readable = loop_all (IsReadableType config) (λ s c x q u (made, same). made_with_readable made) 0 _ b xs rest scope r;
        flat = refl;
      }) h)
  adds_keep counted.Imports least stack b t rest (is, r, e) h =
      subst (λ u. Holds (with_inner stack u)) (sym e)
      (stays.part stack (imports is) (λ s. imports_addable config stack r s) (record {
        offered = imports_offered config stack r;
        readable = loop_reachable config.max_name_length (λ (i : ImportEntry). i.name) (imports_of stack.inner) (import_new config stack) r;
        flat = refl;
      }) h)
  adds_keep counted.Functions least stack b t rest (turns, next, r, e) h =
      subst (λ u. Holds (with_inner stack u)) (sym e) (stays.sections least stack r h)

  fills_keep : (what : Counted) (stack : Open) (b : List ℕ) (t : Tree) (rest : List ℕ) → Fills what config stack b t rest → Holds stack
      → Holds (with_inner stack t)
  fills_keep what stack b t rest (inl (enough, same, left)) h = subst (λ u. Holds (with_inner stack u)) (sym same) h
  fills_keep what stack b t rest (inr (lacks, a)) h = adds_keep what _ stack b t rest a h

  pub all_filled_keep : (stack : Open) (b : List ℕ) (full : Tree) (rest : List ℕ) → FillsAll config stack b full rest → Holds stack
      → Holds (with_inner stack full)
  all_filled_keep stack b full rest f h =
      let typed = fills_keep counted.Types stack b f.typed f.mid f.types h in
      let imported = fills_keep counted.Imports (with_inner stack f.typed) f.mid f.imported f.low f.imports typed in
      fills_keep counted.Functions (with_inner stack f.imported) f.low full rest f.functions imported

-- What holds while bytes are left stays through turns in a row.
pub turns_stay : (config : Config) (At : List ℕ → Next → Type 0)
    → ((stack : Open) (left : List ℕ) (next : Next) (left2 : List ℕ) → Turn config stack left next left2 → At left (building stack) → At left2 next)
    → (k : ℕ) (now : Next) (left : List ℕ) (next : Next) (left2 : List ℕ) → Turns config now left next left2 k → At left now → At left2 next
turns_stay config At turn zero now left next left2 (is, same) h = subst (λ l. At l next) (sym same) (subst (At left) (sym is) h)
turns_stay config At turn (suc k) (answered t) left next left2 none h = absurd none
turns_stay config At turn (suc k) (building stack) left next left2 (mid, left1, t, later) h =
    turns_stay config At turn k mid left1 next left2 later (turn stack left mid left1 t h)

-- the same of what follows: what is open, or the answer
abbrev pub HoldsNext : (Open → Type 0) → (Tree → Type 0) → Next → Type 0
HoldsNext Holds Answer (building stack) = Holds stack
HoldsNext Holds Answer (answered t) = Answer t

-- What stays when a component is opened, and when one is closed: Ready is what is known of one that is chosen to be finished, and Full of one that
-- was filled.
pub record StaysThrough (config : Config) (Holds Ready : Open → Type 0) (Full Answer : Tree → Type 0) : Type 0 where
  pub stays : Stays config Holds
  pub opens : (stack : Open) → is_component_offered config stack ≡ true → Holds stack
      → Holds (record { outer = stack.outer ++ stack.inner ∷ []; inner = ends })
  pub fills : (stack : Open) (b : List ℕ) (full : Tree) (rest : List ℕ) → FillsAll config stack b full rest → Ready stack → Holds stack → Full full
  pub closes : (outers : List Tree) (parent inner : Tree) → Full inner → Holds (record { outer = outers ++ parent ∷ []; inner = inner })
      → Holds (record { outer = outers; inner = add parent (component inner) })
  pub answers : (t : Tree) → Full t → Holds (record { outer = []; inner = t }) → Answer t

export_some : (config : Config) → is_export_offered config ≡ true → 0 < config.max_exports
export_some config e = grind (arith, nat_tests)

module _ {config : Config} {Holds Ready : Open → Type 0} {Full Answer : Tree → Type 0} (law : StaysThrough config Holds Ready Full Answer) where
  abbrev Follows : Next → Type 0
  Follows = HoldsNext Holds Answer

  closing_keeps : (stack : Open) (next : Next) → Full stack.inner → Closes stack next → Holds stack → Follows next
  closing_keeps stack next full (inl (alone, is)) h =
      subst Follows (sym is) (law.answers stack.inner full (subst (λ us. Holds (record { outer = us; inner = stack.inner })) alone h))
  closing_keeps stack next full (inr (outers, parent, around, is)) h =
      subst Follows (sym is)
      (law.closes outers parent stack.inner full (subst (λ us. Holds (record { outer = us; inner = stack.inner })) around h))

  -- a part that an item adds
  part_keeps : (stack : Open) (p : Part) (next : Next) → next ≡ with_part stack p → (Sound config stack → IsAddable config stack p)
      → IsReadPart config stack p → Holds stack → Follows next
  part_keeps stack p next e addable read h = subst Follows (sym e) (law.stays.part stack p addable read h)

  adding_keeps : (what : Counted) (stack : Open) (b : List ℕ) (next : Next) (t : Tree) (rest : List ℕ) → Adds what config 0 stack b t rest
      → next ≡ building (with_inner stack t) → Holds stack → Follows next
  adding_keeps what stack b next t rest a e h = subst Follows (sym e) (adds_keep config Holds law.stays what 0 stack b t rest a h)

  does_keep : (item : Item) (stack : Open) (b : List ℕ) (next : Next) (rest : List ℕ) → WasOffered config stack item → (item ≡ Finish → Ready stack)
      → Does config item stack b next rest → Holds stack → Follows next
  does_keep Finish stack b next rest offered ready (full, f, c) h =
      closing_keeps (with_inner stack full) next (law.fills stack b full rest f (ready refl) h) c
      (all_filled_keep config Holds law.stays stack b full rest f h)
  does_keep Custom stack b next rest offered ready (name, contents, read, e) h =
      part_keeps stack (custom name contents) next e (λ s. addable_custom config stack name contents (custom_short b name contents rest read))
      (record { offered = tt; readable = read.1.longest.utf8; flat = refl }) h
  does_keep CoreTypes stack b next rest offered ready (xs, scope, read, e) h =
      part_keeps stack (core_types xs) next e (λ s. core_types_addable config stack s read) (record {
        offered = tt;
        readable = loop_all (IsReadableCore config) (λ s c x q u (left, made, same). (core_fits made).readable) 0 _ b xs rest scope read;
        flat = refl;
      }) h
  does_keep Types stack b next rest offered ready (t, a, e) h = adding_keeps counted.Types stack b next t rest a e h
  does_keep Imports stack b next rest offered ready (t, a, e) h = adding_keeps counted.Imports stack b next t rest a e h
  does_keep Canonical stack b next rest offered ready (t, a, e) h = adding_keeps counted.Functions stack b next t rest a e h
  does_keep Module stack b next rest offered ready (m, read, e) h =
      let (s, is, text) = stand_in_made config b m rest read in
      part_keeps stack (core_module (shown_module m)) next e
      (λ s. addable_module config stack (shown_module m) (module_offered_is config stack (offered.0 refl)))
      (record { offered = tt; readable = (s, is, ap bytes_of text); flat = refl }) h
  does_keep Component stack b next rest offered ready (left, e) h = subst Follows (sym e) (law.opens stack (offered.1 refl) h)
  does_keep Exports stack b next rest offered ready (es, read, e) h =
      part_keeps stack (exports es) next e (λ s. exports_addable config stack s read) (record {
        offered = exports_offered config stack.outer stack.inner read;
        readable = (
          export_some config (offered.2 refl),
          loop_reachable config.max_name_length (λ (x : ExportEntry). x.name) (exports_of stack.inner) (export_new config stack.outer stack.inner) read,
        );
        flat = refl;
      }) h

  pub turn_stays : (stack : Open) (left : List ℕ) (next : Next) (left2 : List ℕ) (t : Turn config stack left next left2) → (t.item ≡ Finish → Ready stack)
      → Holds stack → Follows next
  turn_stays stack left next left2 t ready h =
      does_keep t.item stack t.after next left2 (chosen config stack left t.after t.item t.chooses) ready t.does h

  -- what a run leads to, if all may be finished
  pub run_stays : ((stack : Open) → Ready stack) → (input : List ℕ) (tree : Tree) (left : List ℕ) → RunsTo config input tree left → Holds root → Answer tree
  run_stays ready input tree left r h =
      turns_stay config (λ rest next. Follows next) (λ stack left next left2 t h. turn_stays stack left next left2 t (λ e. ready stack) h) r.turns
      (building root) input (answered tree) left r.run h
