-- Components with one text are equal, but for the boundaries of sections.
use Rattle.std.proofs.Common.{◌≡◌, ◌≢◌, ℕ, ◌+◌, ◌*◌, ◌⊎◌, inl, inr, List, [], ◌∷◌, ◌++◌, drop, get_or, Option, Some, None, refl, ap, sym}
use Rattle.std.proofs.Common.{◌∙◌, append_assoc, arith, lit<}
use Rattle.std.proofs.lemmas.List.{append_cancel_left}
use Rattle.std.proofs.lemmas.Option.{same_Some}
use Rattle.std.specs.List.{AllByRecursion}
use Rattle.std.specs.Prelude.{codes, decimal}
use Rattle.smith_core.specs.StandInText.{StandIn, stand_in, stand_in_text}
use Rattle.smith_format.specs.Piece.{Piece, ◌⊕◌, bytes, raw, text}
use Rattle.smith_format.proofs.Piece.{parts_are}
use Rattle.smith_read.proofs.Places.{first_holds}
use Rattle.smith_read.proofs.TellingModules.{tells_stand_in}
use Rattle.smith_read.specs.Items.{items_in}
use Rattle.smith_read.specs.ModuleSections.{stand_in_at}
use Rattle.smith_read.specs.Places.{contents_in}
use Rattle.smith_syntax.specs.Entries.{CoreEntry, Entry, ImportEntry}
use Rattle.smith_syntax.specs.Grammar.{core_entry, entry, import_entry}
use Rattle.smith_tree.specs.Grammar.{Spells, canon, export_entry, part, parts, preamble}
use Rattle.smith_tree.specs.Tree.{Canon, ExportEntry, Part, Tree, lift, lower, ends, first, custom, core_module, core_types, component}
use Rattle.smith_tree.specs.Tree.{types, canons, imports, exports}
use Rattle.smith_print.specs.Alone.{alone, each_alone, part_alone}
use Rattle.smith_print.specs.Components.{after_component, after_function, after_module, after_part, closing, core_module_text}
use Rattle.smith_print.specs.Components.{export_entry_text, module_text, part_text, parts_text}
use Rattle.smith_print.specs.Components.{text_of}
use Rattle.smith_print.specs.CoreTypes.{after_core_type}
use Rattle.smith_print.specs.Externs.{canon_text, import_text}
use Rattle.smith_print.specs.Lines.{after_all, closed, entry_lines}
use Rattle.smith_print.specs.Spaces.{after_canon, after_extern, nothing}
use Rattle.smith_print.specs.Types.{after_type, core_type_text, type_text}
use Rattle.smith_print.specs.Words.{deeper, line, quoted}
use Rattle.smith_print.specs.declared.spaces.IndexSpaces.{IndexSpaces}
use Rattle.smith_print.proofs.Apart.{AreBytes}
use Rattle.smith_print.proofs.Boundaries.{no_offsets}
use Rattle.smith_print.proofs.Encoded
use Rattle.smith_print.proofs.Encoded.{IsEncoded, back, index_number, many_encoded, raw_bytes, text_bytes}
use Rattle.smith_print.proofs.Told.{Anything, IsNumber, Told, after, both, close, ended, numbers, past, same}
use Rattle.smith_print.proofs.ToldExterns.{canons_told, extern_encoded, imports_told}
use Rattle.smith_print.proofs.ToldLines.{AreLines, closed_law, ending, goes_on, next_line, same_ending}
use Rattle.smith_print.proofs.ToldModules.{module_law}
use Rattle.smith_print.proofs.ToldTypes.{core_types_told, types_told}
use Rattle.smith_print.proofs.ToldValues.{strings}

-- An item of a component: an entry, or a section that is not a list.
mutual
  data Item : Type 0 where
    custom_item : List ℕ → List ℕ → Item
    module_item : List ℕ → StandIn → Item
    core_type_item : CoreEntry → Item
    component_item : Items → Item
    type_item : Entry → Item
    canon_item : Canon → Item
    import_item : ImportEntry → Item
    export_item : ExportEntry → Item

  data Items : Type 0 where
    no_items : Items
    then_items : Item → Items → Items

abbrev item_after : Item → IndexSpaces → IndexSpaces
item_after (custom_item n b) s = s
item_after (module_item b m) s = after_module s
item_after (core_type_item t) s = after_core_type s
item_after (component_item is) s = after_component s
item_after (type_item t) s = after_type s
item_after (canon_item f) s = after_canon f s
item_after (import_item i) s = after_extern i.to s
item_after (export_item e) s = after_function s

abbrev mutual
  item_text : Item → ℕ → IndexSpaces → List ℕ
  item_text (custom_item n b) c s = codes "(@custom " ++ (quoted n ++ (codes " " ++ (quoted b ++ codes ")")))
  item_text (module_item b m) c s = (codes "(core module (;" ++ (decimal s.modules ++ codes ";)")) ++ module_text m c
  item_text (core_type_item t) c s = core_type_text t c s
  item_text (component_item is) c s = (codes "(component (;" ++ (decimal s.components ++ codes ";)")) ++ closed c (items_text is (deeper c) nothing)
  item_text (type_item t) c s = type_text t c s
  item_text (canon_item f) c s = canon_text f s
  item_text (import_item i) c s = import_text i.name i.to s
  item_text (export_item e) c s = export_entry_text e s

  items_text : Items → ℕ → IndexSpaces → List ℕ
  items_text no_items c s = []
  items_text (then_items i is) c s = line c ++ (item_text i c s ++ items_text is c (item_after i s))

-- ---- good items are told apart

abbrev mutual
  Fine : Item → Type 0
  Fine (custom_item n b) = AreBytes n × AreBytes b
  Fine (module_item b m) = stand_in_text m ≡ Some b
  Fine (core_type_item t) = IsEncoded (core_entry t)
  Fine (component_item is) = AllFine is
  Fine (type_item t) = IsEncoded (entry t)
  Fine (canon_item f) = IsEncoded (canon f)
  Fine (import_item i) = IsEncoded (import_entry i)
  Fine (export_item e) = IsEncoded (export_entry e)

  AllFine : Items → Type 0
  AllFine no_items = Unit {0}
  AllFine (then_items i is) = Fine i × AllFine is

opens : (i : Item) (c : ℕ) (s : IndexSpaces) → (k : List ℕ) × (item_text i c s ≡ 40 ∷ k)
opens (custom_item n b) c s = (_, refl)
opens (module_item b m) c s = (_, refl)
opens (core_type_item t) c s = (_, refl)
opens (component_item is) c s = (_, refl)
opens (type_item t) c s = (_, refl)
opens (canon_item (lift f t)) c s = (_, refl)
opens (canon_item (lower f)) c s = (_, refl)
opens (import_item i) c s = (_, refl)
opens (export_item e) c s = (_, refl)

items_are_lines : (is : Items) (c : ℕ) (s : IndexSpaces) → AreLines (items_text is c s)
items_are_lines no_items c s = inl refl
items_are_lines (then_items i is) c s = inr (_, refl)

one_more : (i : Item) (is : Items) (c d : ℕ) (s : IndexSpaces) (x y : List ℕ) → ending d x ≡ items_text (then_items i is) c s ++ ending d y → ⊥
one_more i is c d s x y e =
    let o = opens i c s in goes_on d c (item_text i c s) o.0 (items_text is c (item_after i s)) x (ending d y) o.1 e

customs : Told (λ (b : List ℕ × List ℕ). AreBytes b.0 × AreBytes b.1) Anything
    (λ b. codes "(@custom " ++ (quoted b.0 ++ (codes " " ++ (quoted b.1 ++ codes ")"))))
customs = after (both strings (after (ended strings close (λ x. tt)) (codes " ")) (λ b x _ _. tt)) (codes "(@custom ")

entry_exports : (s : IndexSpaces) → Told (λ (x : List ℕ × ℕ). AreBytes x.0 × IsNumber x.1) Anything
    (λ x. codes "(export (;" ++ (decimal s.functions ++ (codes ";) " ++ (quoted x.0 ++ (codes " (func " ++ (decimal x.1 ++ codes "))"))))))
entry_exports s =
    after (after (after (both strings (after (ended numbers (codes "))") (λ x. lit< tt)) (codes " (func ")) (λ i x _ _. tt)) (codes ";) "))
    (decimal s.functions))
    (codes "(export (;")

-- a number of the first characters, which tells what kind an item is of
abbrev mark : List ℕ → ℕ
mark l = get_or l 1 0 + 256 * get_or l 3 0 + 65536 * get_or l 6 0

canon_mark : (f : Canon) (s : IndexSpaces) (x : List ℕ)
    → (mark (canon_text f s ++ x) ≡ mark (codes "(func (;")) ⊎ (mark (canon_text f s ++ x) ≡ mark (codes "(core func (;"))
canon_mark (lift f t) s x = inl refl
canon_mark (lower f) s x = inr refl

other_canon : (f : Canon) (s : IndexSpaces) (x y : List ℕ) (m : ℕ) → canon_text f s ++ x ≡ y → mark y ≡ m → m ≢ mark (codes "(func (;")
    → m ≢ mark (codes "(core func (;") → ⊥
other_canon f s x y m e is one two = elim (canon_mark f s x) [ inl h ↦ one (sym is ∙ ap mark (sym e) ∙ h) | inr h ↦ two (sym is ∙ ap mark (sym e) ∙ h) ]

export_encoded : (e : ExportEntry) → IsEncoded (export_entry e) → AreBytes e.name × IsNumber e.func
export_encoded e t =
    let r = back (bytes (0 ∷ [])) (text e.name ⊕ (bytes (1 ∷ []) ⊕ (_ ⊕ _))) t in
    let z = back (bytes (1 ∷ [])) (_ ⊕ _) (back (text e.name) (bytes (1 ∷ []) ⊕ (_ ⊕ _)) r) in
    (text_bytes e.name (Encoded.front (text e.name) (bytes (1 ∷ []) ⊕ (_ ⊕ _)) r), index_number e.func (Encoded.front _ _ z))

mutual
  item_law : (c : ℕ) (s : IndexSpaces) (i j : Item) (x y : List ℕ) → Fine i → Fine j → item_text i c s ++ x ≡ item_text j c s ++ y → (i ≡ j) × (x ≡ y)
  item_law c s (custom_item n b) (custom_item m d) x y p q e = same (λ z. custom_item z.0 z.1) (customs.law (n, b) (m, d) x y p q tt tt e)
  item_law c s (module_item b m) (module_item d n) x y p q e =
      let head = codes "(core module (;" ++ (decimal s.modules ++ codes ";)") in
      let r = module_law c m n x y (b, p) (d, q) (past head (module_text m c) (module_text n c) x y e) in
      let bs : b ≡ d = same_Some b d (sym p ∙ ap stand_in_text r.0 ∙ q) in
      (λ k. module_item (bs k) (r.0 k), r.1)
  item_law c s (core_type_item t) (core_type_item r) x y p q e = same core_type_item ((core_types_told c s).law t r x y p q tt tt e)
  item_law c s (component_item is) (component_item js) x y p q e =
      let head = codes "(component (;" ++ (decimal s.components ++ codes ";)") in
      let inner = items_text is (deeper c) nothing in
      let other = items_text js (deeper c) nothing in
      let r = items_law (deeper c) c nothing is js x y p q (closed_law c inner other x y (items_are_lines is (deeper c) nothing)
      (items_are_lines js (deeper c) nothing) (past head (closed c inner) (closed c other) x y e)) in
      same component_item r
  item_law c s (type_item t) (type_item r) x y p q e = same type_item ((types_told c s).law t r x y p q tt tt e)
  item_law c s (canon_item f) (canon_item g) x y p q e = same canon_item ((canons_told s).law f g x y p q tt tt e)
  item_law c s (import_item i) (import_item j) x y p q e =
      same (λ z. import_item (record { name = z.0; to = z.1 })) ((imports_told s).law (i.name, i.to) (j.name, j.to) x y (extern_encoded i.name i.to p)
      (extern_encoded j.name j.to q) tt tt e)
  item_law c s (export_item a) (export_item b) x y p q e =
      same (λ z. export_item (record { name = z.0; func = z.1 })) ((entry_exports s).law (a.name, a.func) (b.name, b.func) x y (export_encoded a p)
      (export_encoded b q) tt tt e)
  item_law c s (canon_item f) j x y p q e = absurd (other_canon f s x (item_text j c s ++ y) _ e refl (omega arith) (omega arith))
  item_law c s i (canon_item g) x y p q e = absurd (other_canon g s y (item_text i c s ++ x) _ (sym e) refl (omega arith) (omega arith))
  item_law c s i j x y p q e = absurd (omega (arith, ap mark e))

  items_law : (c d : ℕ) (s : IndexSpaces) (is js : Items) (x y : List ℕ) → AllFine is → AllFine js
      → items_text is c s ++ ending d x ≡ items_text js c s ++ ending d y → (is ≡ js) × (x ≡ y)
  items_law c d s no_items no_items x y p q e = (refl, same_ending d x y e)
  items_law c d s no_items (then_items j js) x y p q e = absurd (one_more j js c d s x y e)
  items_law c d s (then_items i is) no_items x y p q e = absurd (one_more i is c d s y x (sym e))
  items_law c d s (then_items i is) (then_items j js) x y p q e =
      let r = item_law c s i j (items_text is c (item_after i s) ++ ending d x) (items_text js c (item_after j s) ++ ending d y) p.0 q.0
      (next_line c (item_text i c s) (item_text j c s) (items_text is c (item_after i s)) (items_text js c (item_after j s)) (ending d x) (ending d y) e) in
      let z = items_law c d (item_after i s) is js x y p.1 q.1 (r.1 ∙ ap (λ k. items_text js c (item_after k s) ++ ending d y) (sym r.0)) in
      (λ k. then_items (r.0 k) (z.0 k), z.1)

-- ---- the items of a component

abbrev module_at : Option StandIn → StandIn
module_at None = stand_in [] []
module_at (Some m) = m

abbrev each_item : {A : Type 0} → (A → Item) → List A → Items → Items
each_item of [] is = is
each_item of (x ∷ xs) is = then_items (of x) (each_item of xs is)

abbrev mutual
  part_items : Part → Items → Items
  part_items (custom n b) is = then_items (custom_item n b) is
  part_items (core_module b) is = then_items (module_item b (module_at (stand_in_at b))) is
  part_items (core_types ts) is = each_item core_type_item ts is
  part_items (component t) is = then_items (component_item (items_of t)) is
  part_items (types ts) is = each_item type_item ts is
  part_items (canons fs) is = each_item canon_item fs is
  part_items (imports js) is = each_item import_item js is
  part_items (exports es) is = each_item export_item es is

  items_of : Tree → Items
  items_of ends = no_items
  items_of (first p t) = part_items p (items_of t)

-- the component with these items, each in a section of its own
abbrev mutual
  part_of : Item → Part
  part_of (custom_item n b) = custom n b
  part_of (module_item b m) = core_module b
  part_of (core_type_item t) = core_types (t ∷ [])
  part_of (component_item is) = component (tree_of is)
  part_of (type_item t) = types (t ∷ [])
  part_of (canon_item f) = canons (f ∷ [])
  part_of (import_item i) = imports (i ∷ [])
  part_of (export_item e) = exports (e ∷ [])

  tree_of : Items → Tree
  tree_of no_items = ends
  tree_of (then_items i is) = first (part_of i) (tree_of is)

each_is : {A : Type 0} (of : A → Item) (section : List A → Part) → ((x : A) → part_of (of x) ≡ section (x ∷ [])) → (xs : List A) (is : Items) (t : Tree)
    → tree_of is ≡ t → tree_of (each_item of xs is) ≡ each_alone section xs t
each_is of section one [] is t e = e
each_is of section one (x ∷ xs) is t e = λ i. first (one x i) (each_is of section one xs is t e i)

mutual
  part_alone_is : (p : Part) (is : Items) (t : Tree) → tree_of is ≡ t → tree_of (part_items p is) ≡ part_alone p t
  part_alone_is (custom n b) is t e = ap (first (custom n b)) e
  part_alone_is (core_module b) is t e = ap (first (core_module b)) e
  part_alone_is (core_types ts) is t e = each_is core_type_item core_types (λ x. refl) ts is t e
  part_alone_is (component r) is t e = λ i. first (component (alone_is r i)) (e i)
  part_alone_is (types ts) is t e = each_is type_item types (λ x. refl) ts is t e
  part_alone_is (canons fs) is t e = each_is canon_item canons (λ x. refl) fs is t e
  part_alone_is (imports js) is t e = each_is import_item imports (λ x. refl) js is t e
  part_alone_is (exports es) is t e = each_is export_item exports (λ x. refl) es is t e

  alone_is : (t : Tree) → tree_of (items_of t) ≡ alone t
  alone_is ends = refl
  alone_is (first p t) = part_alone_is p (items_of t) (alone t) (alone_is t)

-- ---- the items have the component's text

closing_some : (c : ℕ) (p : Piece) (b : List ℕ) → closing c p ≡ Some b → (k : List ℕ) × (p ≡ Some k) × (b ≡ closed c k)
closing_some c None b e = absurd (let z : None ≡ Some b = e in cc)
closing_some c (Some k) b e = (k, refl, sym (same_Some (closed c k) b e))

module_some : (o : Option StandIn) (c : ℕ) (s : IndexSpaces) (b : List ℕ) → core_module_text o c s [] ≡ Some b
    → (o ≡ Some (module_at o)) × (b ≡ (line c ++ (codes "(core module (;" ++ (decimal s.modules ++ codes ";)"))) ++ module_text (module_at o) c)
module_some None c s b e = absurd (let z : None ≡ Some b = e in cc)
module_some (Some m) c s b e = (refl, sym (same_Some _ b e))

-- Each entry of a list is printed as its item is.
module _ {A : Type 0} (of : A → Item) (f : A → ℕ → IndexSpaces → List ℕ) (g : A → IndexSpaces → IndexSpaces)
    (text : (x : A) (c : ℕ) (s : IndexSpaces) → item_text (of x) c s ≡ f x c s) (after : (x : A) (s : IndexSpaces) → item_after (of x) s ≡ g x s) where
  each_text : (xs : List A) (is : Items) (c : ℕ) (s : IndexSpaces)
      → entry_lines f g c s [] xs ++ items_text is c (after_all g s xs) ≡ items_text (each_item of xs is) c s
  each_text [] is c s = refl
  each_text (x ∷ xs) is c s =
      let more = entry_lines f g c (g x s) [] xs in
      append_assoc (line c) (f x c s ++ more) (items_text is c (after_all g (g x s) xs))
      ∙ ap (λ k. line c ++ k) (append_assoc (f x c s) more (items_text is c (after_all g (g x s) xs)))
      ∙ (λ i. line c ++ (sym (text x c s) i ++ each_text xs is c (g x s) i))
      ∙ ap (λ r. line c ++ (item_text (of x) c s ++ items_text (each_item of xs is) c r)) (sym (after x s))

sole_text : (i : Item) (is : Items) (c : ℕ) (s : IndexSpaces) (b k : List ℕ) → b ≡ line c ++ item_text i c s → k ≡ items_text is c (item_after i s)
    → b ++ k ≡ items_text (then_items i is) c s
sole_text i is c s b k e h = (λ z. e z ++ h z) ∙ append_assoc (line c) (item_text i c s) (items_text is c (item_after i s))

mutual
  part_text_is : (p : Part) (c : ℕ) (s : IndexSpaces) (b k : List ℕ) (is : Items) → part_text p c s [] ≡ Some b → k ≡ items_text is c (after_part p s)
      → b ++ k ≡ items_text (part_items p is) c s
  part_text_is (custom n d) c s b k is e h = sole_text (custom_item n d) is c s b k (sym (same_Some _ b e)) h
  part_text_is (core_module d) c s b k is e h =
      sole_text (module_item d (module_at (stand_in_at d))) is c s b k
      ((module_some (stand_in_at d) c s b e).1 ∙ append_assoc (line c) (codes "(core module (;" ++ (decimal s.modules ++ codes ";)"))
      (module_text (module_at (stand_in_at d)) c)) h
  part_text_is (core_types ts) c s b k is e h = (λ i. sym (same_Some _ b e) i ++ h i)
      ∙ each_text core_type_item core_type_text (λ t. after_core_type) (λ t c s. refl) (λ t s. refl) ts is c s
  part_text_is (component t) c s b k is e h =
      let head = codes "(component (;" ++ (decimal s.components ++ codes ";)") in
      let w = parts_are (bytes (line c ++ head)) (closing c (parts_text t (deeper c) nothing [])) b e in
      let z = closing_some c (parts_text t (deeper c) nothing []) w.right w.q_is in
      sole_text (component_item (items_of t)) is c s b k
      (w.is ∙ (λ i. sym (same_Some (line c ++ head) w.left w.p_is) i ++ z.2 i)
      ∙ ap (λ r. (line c ++ head) ++ closed c r) (text_is t (deeper c) nothing z.0 z.1)
      ∙ append_assoc (line c) head (closed c (items_text (items_of t) (deeper c) nothing))) h
  part_text_is (types ts) c s b k is e h = (λ i. sym (same_Some _ b e) i ++ h i)
      ∙ each_text type_item type_text (λ t. after_type) (λ t c s. refl) (λ t s. refl) ts is c s
  part_text_is (canons fs) c s b k is e h = (λ i. sym (same_Some _ b e) i ++ h i)
      ∙ each_text canon_item (λ f _. canon_text f) after_canon (λ f c s. refl) (λ f s. refl) fs is c s
  part_text_is (imports js) c s b k is e h = (λ i. sym (same_Some _ b e) i ++ h i)
      ∙ each_text import_item (λ i _. import_text i.name i.to) (λ i. after_extern i.to) (λ j c s. refl) (λ j s. refl) js is c s
  part_text_is (exports es) c s b k is e h = (λ i. sym (same_Some _ b e) i ++ h i)
      ∙ each_text export_item (λ e _. export_entry_text e) (λ e. after_function) (λ e c s. refl) (λ e s. refl) es is c s

  text_is : (t : Tree) (c : ℕ) (s : IndexSpaces) (k : List ℕ) → parts_text t c s [] ≡ Some k → k ≡ items_text (items_of t) c s
  text_is ends c s k e = sym (same_Some [] k e)
  text_is (first p t) c s k e =
      let w = parts_are (part_text p c s []) (parts_text t c (after_part p s) (drop (items_in p) [])) k e in
      w.is ∙ part_text_is p c s w.left w.right (items_of t) w.p_is
      (text_is t c (after_part p s) w.right (ap (parts_text t c (after_part p s)) (sym (no_offsets (items_in p))) ∙ w.q_is))

-- ---- the items are good

each_fine : {A : Type 0} (of : A → Item) (f : A → Piece) → ((x : A) → IsEncoded (f x) → Fine (of x)) → (xs : List A) (is : Items)
    → AllByRecursion (λ x. IsEncoded (f x)) xs → AllFine is → AllFine (each_item of xs is)
each_fine of f fine [] is t h = h
each_fine of f fine (x ∷ xs) is t h = (fine x t.0, each_fine of f fine xs is t.1 h)

mutual
  part_fine : (p : Part) (c : ℕ) (s : IndexSpaces) (b : List ℕ) (is : Items) → IsEncoded (contents_in p) → part_text p c s [] ≡ Some b → AllFine is
      → AllFine (part_items p is)
  part_fine (custom n d) c s b is t e h = ((text_bytes n (Encoded.front (text n) (raw d) t), raw_bytes d (back (text n) (raw d) t)), h)
  part_fine (core_module d) c s b is t e h =
      (tells_stand_in.sound d (module_at (stand_in_at d)) (module_some (stand_in_at d) c s b e).0, h)
  part_fine (core_types ts) c s b is t e h = each_fine core_type_item core_entry (λ x r. r) ts is (many_encoded core_entry ts t) h
  part_fine (component r) c s b is t e h =
      let w = parts_are (bytes (line c ++ (codes "(component (;" ++ (decimal s.components ++ codes ";)")))) (closing c (parts_text r
      (deeper c) nothing [])) b e in
      let z = closing_some c (parts_text r (deeper c) nothing []) w.right w.q_is in
      (all_fine r (deeper c) nothing z.0 (back (bytes preamble) (parts r) t) z.1, h)
  part_fine (types ts) c s b is t e h = each_fine type_item entry (λ x r. r) ts is (many_encoded entry ts t) h
  part_fine (canons fs) c s b is t e h = each_fine canon_item canon (λ x r. r) fs is (many_encoded canon fs t) h
  part_fine (imports js) c s b is t e h = each_fine import_item import_entry (λ x r. r) js is (many_encoded import_entry js t) h
  part_fine (exports es) c s b is t e h = each_fine export_item export_entry (λ x r. r) es is (many_encoded export_entry es t) h

  all_fine : (t : Tree) (c : ℕ) (s : IndexSpaces) (k : List ℕ) → IsEncoded (parts t) → parts_text t c s [] ≡ Some k → AllFine (items_of t)
  all_fine ends c s k t e = tt
  all_fine (first p r) c s k t e =
      let w = parts_are (part_text p c s []) (parts_text r c (after_part p s) (drop (items_in p) [])) k e in
      let h = (first_holds p (parts r) t.0 t.1).2 in
      part_fine p c s w.left (items_of r) (h.contents, h.is) w.p_is
      (all_fine r c (after_part p s) w.right (back (part p) (parts r) t) (ap (parts_text r c (after_part p s)) (sym (no_offsets (items_in p))) ∙ w.q_is))

-- ---- whole components

record Whole (t : Tree) (k : List ℕ) : Type 0 where
  contents : List ℕ
  has : parts_text t (deeper 0) nothing [] ≡ Some contents
  is : k ≡ codes "(component" ++ (closed 0 contents ++ codes "\n")

whole : (t : Tree) (k : List ℕ) → text_of t ≡ Some k → Whole t k
whole t k e =
    let w = parts_are (bytes (codes "(component")) (closing 0 (parts_text t (deeper 0) nothing []) ⊕ bytes (codes "\n")) k e in
    let v = parts_are (closing 0 (parts_text t (deeper 0) nothing [])) (bytes (codes "\n")) w.right w.q_is in
    let z = closing_some 0 (parts_text t (deeper 0) nothing []) v.left v.p_is in
    record {
      contents = z.0;
      has = z.1;
      is = w.is ∙ (λ i. sym (same_Some _ w.left w.p_is) i ++ (v.is ∙ (λ j. z.2 j ++ sym (same_Some _ v.right v.q_is) j)) i);
    }

pub components_apart : (a b : Tree) (x y k : List ℕ) → Spells a x → Spells b y → text_of a ≡ Some k → text_of b ≡ Some k → alone a ≡ alone b
components_apart a b x y k p q e h =
    let c = deeper 0 in
    let v = whole a k e in
    let w = whole b k h in
    let n = codes "\n" in
    let inside = closed_law 0 (items_text (items_of a) c nothing) (items_text (items_of b) c nothing) n n (items_are_lines (items_of a) c nothing)
    (items_are_lines (items_of b) c nothing)
    (ap (λ r. closed 0 r ++ n) (sym (text_is a c nothing v.contents v.has))
    ∙ append_cancel_left (codes "(component") (closed 0 v.contents ++ n) (closed 0 w.contents ++ n) (sym v.is ∙ w.is)
    ∙ ap (λ r. closed 0 r ++ n) (text_is b c nothing w.contents w.has)) in
    let r = items_law c 0 nothing (items_of a) (items_of b) n n (all_fine a c nothing v.contents (back (bytes preamble) (parts a) (x, p)) v.has)
    (all_fine b c nothing w.contents (back (bytes preamble) (parts b) (y, q)) w.has) inside in
    sym (alone_is a) ∙ ap tree_of r.0 ∙ alone_is b
