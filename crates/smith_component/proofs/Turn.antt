-- What a turn chooses, and that it lowers what is left to do.
use Rattle.std.proofs.Common.{◌≡◌, ℕ, zero, suc, ◌+◌, ◌^◌, ◌≤◌, List, [], ◌∷◌, ◌++◌, length, drop, arith, ap, sym, subst, ◌∙◌, refl, true, Bool, false, inl}
use Rattle.std.proofs.Common.{inr, map, length-append, length-drop}
use Rattle.std.specs.Prelude.{slice_get, Some}
use Rattle.smith_input.specs.Choices.{ReadsAmong}
use Rattle.smith_input.specs.Reading.{IsWidth, Reads, IsTail}
use Rattle.smith_input.proofs.Offered.{offer_holds, offers_few}
use Rattle.smith_input.proofs.Reading.{width_unique, tail_is, tail_trans}
use Rattle.smith_format.specs.declared.config.Config.{Config}
use Rattle.smith_tree.specs.Tree.{Tree, Part, custom, core_module, core_types, exports}
use Rattle.smith_component.specs.Building.{Building, open_of}
use Rattle.smith_tree.specs.Limits.{max_depth}
use Rattle.smith_tree.specs.Open.{Open, more_items, is_component_offered, is_export_offered, is_finish_offered, is_module_offered, items}
use Rattle.smith_tree.specs.Open.{items_with_input, offers, with_inner}
use Rattle.smith_component.specs.Shown.{shown_module, shown_sections}
use Rattle.smith_component.specs.Steps.{AddsSections}
use Rattle.smith_component.specs.Turn.{Next, building, answered, Turn, Closes, Does, with_part}
use Rattle.smith_component.specs.AddedSections.{Adds}
use Rattle.smith_component.specs.Fills.{Fills, FillsAll}
use Rattle.smith_component.specs.Runs.{todo, Falls}
use Rattle.smith_component.specs.declared.item.Counted.{Counted}
use Rattle.smith_component.specs.declared.item.Counted.TheVariants as counted
use Rattle.smith_tree.specs.declared.choices.Item.{Item}
use Rattle.smith_tree.specs.declared.choices.Item.TheVariants.{Finish, Custom, CoreTypes, Types, Imports, Canonical, Module, Component, Exports}
use Rattle.smith_tree.proofs.ReadsCustom.{custom_tail}
use Rattle.smith_component.proofs.ReadsCoreTypes.{core_types_read_tail}
use Rattle.smith_component.proofs.ReadsCanons.{canons_tail}
use Rattle.smith_component.proofs.ReadsExports.{exports_tail}
use Rattle.smith_component.proofs.ReadsImports.{imports_tail}
use Rattle.smith_component.proofs.ReadsTypes.{types_read_tail}
use Rattle.smith_component.proofs.Sound.{component_offered_is}
use Rattle.smith_input.proofs.Loops.{loop_tail}
use Rattle.smith_format.proofs.CoreReading.{function_tail, limits_tail}
use Rattle.smith_core.specs.StandIn.{ReadsStandIn}
use Rattle.smith_core.specs.declared.module.parts.ModuleParts.{ModuleParts}

pub only_finish : (place : ℕ) (item : Item) → slice_get (Finish ∷ []) place ≡ Some item → item ≡ Finish
only_finish zero item e = cc
only_finish (suc place) item e = absurd (cc)

-- how many items there are if input is left
items_some_by : (f m c e : Bool) → (5 ≤ length (more_items f m c e)) × (length (more_items f m c e) ≤ 9)
items_some_by true m c e = (omega arith, offers_few (offers true m c e))
items_some_by false m c e = (omega arith, offers_few (offers false m c e))

pub items_some : (config : Config) (stack : Open) → (5 ≤ length (items_with_input config stack)) × (length (items_with_input config stack) ≤ 9)
items_some config stack =
    items_some_by (is_finish_offered config stack.inner) (is_module_offered config stack) (is_component_offered config stack) (is_export_offered config)

-- One byte distinguishes from 2 to 256 things.
pub one_byte : (n : ℕ) → 2 ≤ n → n ≤ 256 → IsWidth n 1
one_byte n two few = record { enough = omega arith; least = least_of }
  where
    least_of : (v : ℕ) → n ≤ 256 ^ v → 1 ≤ v
    least_of zero e = absurd (omega arith)
    least_of (suc v) e = omega arith

-- A choice among that many reads one byte.
pub after_one : (n x : ℕ) (xs : List ℕ) (k : ℕ) (rest : List ℕ) → 2 ≤ n → n ≤ 256 → Reads n (x ∷ xs) k rest → rest ≡ xs
after_one n x xs k rest two few r = r.left ∙ ap (λ w. drop w (x ∷ xs)) (width_unique r.is_width (one_byte n two few))

drop_none : (n : ℕ) → drop {A = ℕ} n [] ≡ []
drop_none zero = refl
drop_none (suc n) = refl

pub tail_length : (rest b : List ℕ) → IsTail rest b → length rest ≤ length b
tail_length rest b t = omega (arith, ap length t.1, length-drop t.0 b)

closes_length : (stack next : Open) → Closes stack (building next) → length next.outer + 1 ≡ length stack.outer
closes_length stack next (inl (a, b)) = absurd (let e : building next ≡ answered stack.inner = b in cc)
closes_length stack next (inr (o, p, a, b)) = grind (arith, length-append)

part_length : (config : Config) (stack next : Open) (p : Part) → building next ≡ with_part stack p → length next.outer ≡ length stack.outer
part_length config stack next p e = grind arith

-- when the inner component alone grows
pub still_building : (old new : Building) → AddsSections old new → building (open_of new) ≡ building (with_inner (open_of old) (open_of new).inner)
still_building old new a = ap (λ o. building (record { outer = map shown_sections o; inner = shown_sections new.inner })) a.outer

inner_length : (stack next : Open) (t : Tree) → building next ≡ building (with_inner stack t) → length next.outer ≡ length stack.outer
inner_length stack next t e = grind arith

-- what the sections with a minimum leave

adds_tail : (what : Counted) (config : Config) (min : ℕ) (stack : Open) (b : List ℕ) (t : Tree) (rest : List ℕ) → Adds what config min stack b t rest
    → IsTail rest b
adds_tail counted.Types config min stack b t rest (xs, scope, es, e) = types_read_tail config _ es
adds_tail counted.Imports config min stack b t rest (is, reads, e) = imports_tail config stack reads
adds_tail counted.Functions config min stack b t rest (turns, next, reads, e) = canons_tail config min stack.inner reads

fill_tail : (what : Counted) (config : Config) (stack : Open) (b : List ℕ) (t : Tree) (rest : List ℕ) → Fills what config stack b t rest → IsTail rest b
fill_tail what config stack b t rest (inl (few, e, l)) = tail_is l
fill_tail what config stack b t rest (inr (lacks, a)) = adds_tail what config _ stack b t rest a

pub fills_tail : {config : Config} {stack : Open} {b : List ℕ} {full : Tree} {rest : List ℕ} → FillsAll config stack b full rest → IsTail rest b
fills_tail {config} {stack} {b} {full} {rest} f =
    let ts = fill_tail counted.Types config stack b f.typed f.mid f.types in
    let is = fill_tail counted.Imports config (with_inner stack f.typed) f.mid f.imported f.low f.imports in
    let fs = fill_tail counted.Functions config (with_inner stack f.imported) f.low full rest f.functions in
    tail_trans fs (tail_trans is ts)

-- what a core module leaves
stand_in_tail : (config : Config) (b : List ℕ) (m : ModuleParts) (rest : List ℕ) → ReadsStandIn config b m rest → IsTail rest b
stand_in_tail config b m rest r =
    let types = loop_tail (λ s c q t e. absurd e) (λ s c x q t f. function_tail f.reads) 0 tt b m.types.items r.mid tt r.types in
    let memories = loop_tail (λ s c q t e. absurd e) (λ s c x q t f. limits_tail f.limits) 0 tt r.mid m.memories.items rest tt r.memories in
    tail_trans memories types

-- What an item leaves.
pub does_tail : (config : Config) (item : Item) (stack : Open) (next : Next) (b r : List ℕ) → Does config item stack b next r → IsTail r b
does_tail config Finish stack next b r (full, f, c) = fills_tail f
does_tail config Custom stack next b r (name, contents, read, c) = custom_tail b name contents r read
does_tail config CoreTypes stack next b r (xs, scope, es, c) = core_types_read_tail config es
does_tail config Types stack next b r (t, a, c) = adds_tail counted.Types config 0 stack b t r a
does_tail config Imports stack next b r (t, a, c) = adds_tail counted.Imports config 0 stack b t r a
does_tail config Canonical stack next b r (t, a, c) = adds_tail counted.Functions config 0 stack b t r a
does_tail config Module stack next b r (parts, read, c) = stand_in_tail config b parts r read
does_tail config Component stack next b r (d, c) = tail_is d
does_tail config Exports stack next b r (es, read, c) = exports_tail config stack.outer stack.inner read

-- How many components are open after an item.
does_depth : (config : Config) (item : Item) (stack next : Open) (b r : List ℕ) → (item ≡ Component → is_component_offered config stack ≡ true)
    → length stack.outer + 1 ≤ max_depth config → Does config item stack b (building next) r → length next.outer + 1 ≤ max_depth config
does_depth config Finish stack next b r e m (full, f, c) = omega (arith, closes_length (with_inner stack full) next c)
does_depth config Custom stack next b r e m (name, contents, read, c) = omega (arith, part_length config stack next (custom name contents) c)
does_depth config CoreTypes stack next b r e m (xs, scope, es, c) = omega (arith, part_length config stack next (core_types xs) c)
does_depth config Types stack next b r e m (t, a, c) = omega (arith, inner_length stack next t c)
does_depth config Imports stack next b r e m (t, a, c) = omega (arith, inner_length stack next t c)
does_depth config Canonical stack next b r e m (t, a, c) = omega (arith, inner_length stack next t c)
does_depth config Module stack next b r e m (parts, read, c) = omega (arith, part_length config stack next (core_module (shown_module parts)) c)
does_depth config Component stack next b r e m (d, c) = grind (arith, component_offered_is, length-append)
does_depth config Exports stack next b r e m (es, read, c) = omega (arith, part_length config stack next (exports es) c)

-- An item that has a condition was offered.
abbrev pub WasOffered : Config → Open → Item → Type 0
WasOffered config stack item =
    (item ≡ Module → is_module_offered config stack ≡ true) × (item ≡ Component → is_component_offered config stack ≡ true)
    × (item ≡ Exports → is_export_offered config ≡ true)

-- The condition of an item while input is left.
abbrev Condition : Config → Open → Item → Type 0
Condition config stack Finish = is_finish_offered config stack.inner ≡ true
Condition config stack Custom = Unit {0}
Condition config stack CoreTypes = Unit {0}
Condition config stack Types = Unit {0}
Condition config stack Imports = Unit {0}
Condition config stack Canonical = Unit {0}
Condition config stack Module = is_module_offered config stack ≡ true
Condition config stack Component = is_component_offered config stack ≡ true
Condition config stack Exports = is_export_offered config ≡ true

-- It holds of what is chosen then.
met : (config : Config) (stack : Open) (x : ℕ) (xs after : List ℕ) (item : Item) → ReadsAmong (items config stack (x ∷ xs)) (x ∷ xs) item after
    → Condition config stack item
met config stack x xs after item r = grind (arith, offer_holds)

-- What is chosen was offered.
pub chosen : (config : Config) (stack : Open) (left after : List ℕ) (item : Item) → ReadsAmong (items config stack left) left item after
    → WasOffered config stack item
chosen config stack [] after item r = let f = only_finish r.place item r.named in (λ e. absurd (cc), λ e. absurd (cc), λ e. absurd (cc))
chosen config stack (x ∷ xs) after item r = grind (arith, met)

-- What is finished while input is left was offered.
pub finish_offered : (config : Config) (stack : Open) (x : ℕ) (xs after : List ℕ) → ReadsAmong (items config stack (x ∷ xs)) (x ∷ xs) Finish after
    → is_finish_offered config stack.inner ≡ true
finish_offered config stack x xs after r = met config stack x xs after Finish r

pub does_finish : (config : Config) (stack : Open) (item : Item) (b r : List ℕ) (next : Next) → item ≡ Finish → Does config item stack b next r
    → (full : Tree) × FillsAll config stack b full r × Closes (with_inner stack full) next
does_finish config stack item b r next e d = let P : Item → Type 0 = λ i. Does config i stack b next r in subst P e d

todo_bound : (config : Config) (left : List ℕ) (stack : Open) (n : ℕ) → length stack.outer + 1 ≤ max_depth config → length left ≤ n
    → todo config left stack ≤ n + max_depth config
todo_bound config [] stack n m h = omega arith
todo_bound config (x ∷ xs) stack n m h = omega arith

pub turn_falls : (config : Config) (stack next : Open) (left left2 : List ℕ) → length stack.outer + 1 ≤ max_depth config
    → Turn config stack left (building next) left2 → todo config left2 next + 1 ≤ todo config left stack
turn_falls config stack next [] left2 m t =
    let f = does_finish config stack t.item t.after left2 (building next) (only_finish t.chooses.place t.item t.chooses.named) t.does in
    let none : t.after ≡ [] = t.chooses.reads.left ∙ drop_none t.chooses.reads.width in
    let tail = fills_tail f.1 in
    let e : left2 ≡ [] = tail.1 ∙ (ap (drop tail.0) none ∙ drop_none tail.0) in
    subst (λ l. todo config l next + 1 ≤ length stack.outer + 1) (sym e) (omega (arith, closes_length (with_inner stack f.0) next f.2))
turn_falls config stack next (x ∷ xs) left2 m t =
    let some = items_some config stack in
    let deep = does_depth config t.item stack next t.after left2 (chosen config stack (x ∷ xs) t.after t.item t.chooses).1 m t.does in
    let few = tail_length left2 t.after (does_tail config t.item stack (building next) t.after left2 t.does) in
    let a : t.after ≡ xs = after_one _ x xs t.chooses.place t.after (omega (arith, some.0)) (omega (arith, some.1)) t.chooses.reads in
    omega (arith, todo_bound config left2 next (length xs) deep (omega (arith, few, ap length a)))

-- No more components are open after a turn than may be.
pub turn_shallow : (config : Config) (stack next : Open) (left left2 : List ℕ) → length stack.outer + 1 ≤ max_depth config
    → Turn config stack left (building next) left2 → length next.outer + 1 ≤ max_depth config
turn_shallow config stack next left left2 m t =
    does_depth config t.item stack next t.after left2 (chosen config stack left t.after t.item t.chooses).1 m t.does

pub falls : (config : Config) (stack : Open) (next : Next) (left left2 : List ℕ) → length stack.outer + 1 ≤ max_depth config → Turn config stack left next left2
    → Falls config left stack left2 next
falls config stack (building next) left left2 m t = turn_falls config stack next left left2 m t
falls config stack (answered c) left left2 m t = tt

pub last_same : (xs ys : List Tree) (x y : Tree) → xs ++ x ∷ [] ≡ ys ++ y ∷ [] → (xs ≡ ys) × (x ≡ y)
last_same [] [] x y e = (refl, cc)
last_same [] (b ∷ []) x y e = absurd (cc)
last_same [] (b ∷ c ∷ ys) x y e = absurd (cc)
last_same (a ∷ []) [] x y e = absurd (cc)
last_same (a ∷ c ∷ xs) [] x y e = absurd (cc)
last_same (a ∷ xs) (b ∷ ys) x y e =
    let t : xs ++ x ∷ [] ≡ ys ++ y ∷ [] = cc in
    let h : a ≡ b = cc in
    let r = last_same xs ys x y t in
    (cc, r.1)

pub not_empty : (xs : List Tree) (x : Tree) → xs ++ x ∷ [] ≡ [] → ⊥
not_empty [] x e = cc
not_empty (y ∷ xs) x e = cc

-- What closing leads to is decided.
pub closes_same : (stack : Open) (n m : Next) → Closes stack n → Closes stack m → n ≡ m
closes_same stack n m (inl (a, b)) (inl (c, d)) = cc
closes_same stack n m (inl (a, b)) (inr (o, p, c, d)) = absurd (not_empty o p (sym c ∙ a))
closes_same stack n m (inr (o, p, c, d)) (inl (a, b)) = absurd (not_empty o p (sym c ∙ a))
closes_same stack n m (inr (o, p, c, d)) (inr (q, r, e, f)) = grind (arith, last_same)
