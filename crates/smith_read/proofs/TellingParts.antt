-- What is read is what is spelled: sections of components, and components.
use Rattle.std.proofs.Common.{◌≡◌, ℕ, zero, suc, ◌<◌, ◌≤◌, inl, inr, List, [], ◌∷◌, ◌++◌, length, drop, Option, Some, None, refl, ap, sym}
use Rattle.std.proofs.Common.{◌∙◌, subst, arith, Bool, true, false, cond, lit<, nat_eq}
use Rattle.std.specs.List.{starts_with}
use Rattle.std.proofs.lemmas.List.{length-append}
use Rattle.smith_format.specs.Piece.{Piece, ◌⊕◌, byte, bytes, u, raw, text, many, framed, sized}
use Rattle.smith_format.proofs.Piece.{joined, parts_are, raw_whole}
use Rattle.smith_tree.specs.Grammar.{preamble, embedded, part, parts, component_text, Spells}
use Rattle.smith_tree.specs.Tree.{Part, Tree, ends, first, custom, core_module, core_types, component, types, canons}
use Rattle.smith_tree.specs.Tree.{imports, exports, tree_of, most}
use Rattle.smith_tree.specs.Depths.{scope_depth, scope_depth_in}
use Rattle.smith_read.specs.Levels.{entry_in, types_at}
use Rattle.smith_read.specs.Reading.{Found, ◌>>=◌, byte_at, framed_at, text_at}
use Rattle.smith_read.specs.Tells.{Begins, Tells, TellsAll}
use Rattle.smith_read.proofs.Telling.{bind_some, nothing, tells_text}
use Rattle.smith_read.proofs.Telling.{tells_many, tells_after, tells_seen, row_sound, row_told, Told}
use Rattle.smith_read.proofs.TellingEntries.{tells_canon, tells_export}
use Rattle.smith_read.proofs.TellingCore.{tells_core_entry, tells_named}
use Rattle.std.proofs.lemmas.Slice.Eq.{starts_is}
use Rattle.std.proofs.lemmas.Bool.Decides.{Decides-eqb}
use Rattle.smith_read.proofs.Inner.{NestWithin, Under, under_then, many_under, many_same}
use Rattle.smith_syntax.specs.Entries.{Entry}
use Rattle.smith_syntax.specs.Nesting.{nesting}
use Rattle.smith_read.proofs.TellingLevels.{tells_entry}
use Rattle.smith_read.proofs.TellingFrames.{framed_chain, framed_nothing, framed_seen, tells_all, tells_framed}
use Rattle.smith_read.specs.PartNodes.{import_of}
use Rattle.smith_read.specs.Parts.{custom_all, list_all_at, preamble_at, section_at, part_at, parts_at, contents_at}
use Rattle.smith_read.specs.Parts.{import_at}
use Rattle.smith_read.specs.Parts.{component_at, part_in, parts_in, text_in, component_in}
use Rattle.smith_tree.proofs.Clear.{embedded_whole}
use Rattle.std.proofs.lemmas.Option.{same_Some}
use Rattle.smith_syntax.specs.Grammar.{import_entry}
use Rattle.std.specs.Prelude.{option_map}

-- ---- imports

pub tells_import : Tells import_entry import_at
unfolding import_at
tells_import = tells_seen import_of (λ i. (i.name, i.to)) (λ i. refl) (λ x. refl) tells_named

-- ---- contents of sections

tells_list : {A : Type 0} {f : A → Piece} {r : List ℕ → Found A} → Tells f r → TellsAll (many f) (list_all_at r)
unfolding list_all_at
tells_list c = tells_all (tells_many c)

tells_types : (levels : ℕ) → TellsAll (many (entry_in levels)) (types_at levels)
unfolding types_at
tells_types levels = tells_all (tells_many (tells_entry levels))

-- what spells itself
tells_itself : (f : List ℕ → Piece) → ((t b : List ℕ) → f t ≡ Some b → t ≡ b) → TellsAll f f
tells_itself f same = grind arith

raw_spelled : (t b : List ℕ) → raw t ≡ Some b → raw b ≡ Some b
raw_spelled t b e = let s = raw_whole t b e in ap raw (sym s) ∙ e

tells_custom : TellsAll (λ (x : List ℕ × List ℕ). text x.0 ⊕ raw x.1) custom_all
unfolding custom_all
tells_custom = record {
  sound = λ b x e.
      let n = bind_some (text_at b) (λ n. raw n.1 >>= λ c. Some (n.0, c)) x e in
      let c = bind_some (raw n.0.1) (λ c. Some (n.0.0, c)) x n.2 in
      let same = raw_whole n.0.1 c.0 c.1 in
      subst (λ (p : List ℕ × List ℕ). text p.0 ⊕ raw p.1 ≡ Some b) (same_Some _ _ c.2)
      (ap (λ r. text n.0.0 ⊕ r) (raw_spelled n.0.1 c.0 c.1 ∙ ap Some (sym same)) ∙ tells_text.sound b n.0 n.1);
  whole = λ b x e.
      let p = parts_are (text x.0) (raw x.1) b e in
      let same = raw_whole x.1 p.right p.q_is in
      let f : text x.0 ⊕ Some x.1 ≡ Some b = ap (λ r. text x.0 ⊕ r) (ap Some same ∙ sym p.q_is) ∙ e in
      rw (tells_text.whole b (x.0, x.1) f, p.q_is) (ap (λ c. Some (x.0, c)) (sym same));
}

-- ---- the preamble, and lists of parts

preamble_sound : (b rest : List ℕ) → preamble_at b ≡ Some rest → b ≡ preamble ++ rest
unfolding preamble_at
preamble_sound b rest e = by_test (starts_with nat_eq b preamble) refl e
  where
    by_test : (x : Bool) → starts_with nat_eq b preamble ≡ x → cond {A = Option (List ℕ)} x (Some (drop 8 b)) None ≡ Some rest → b ≡ preamble ++ rest
    by_test true f g = (starts_is Decides-eqb b preamble (starts_with nat_eq b preamble) refl).0 f ∙ ap (λ l. preamble ++ l) (same_Some _ _ g)
    by_test false f g = absurd cc

pub preamble_whole : (rest : List ℕ) → preamble_at (preamble ++ rest) ≡ Some rest
unfolding preamble_at
preamble_whole rest = refl

abbrev listed : Tree → List Part
listed ends = []
listed (first p t) = p ∷ listed t

tree_listed : (t : Tree) → tree_of (listed t) ≡ t
tree_listed ends = refl
tree_listed (first p t) = ap (first p) (tree_listed t)

-- ---- sections

module _ (levels : ℕ) (f : Tree → Piece) (inner : List ℕ → Option Tree) (c : TellsAll f inner) where
  abbrev after : ℕ → List ℕ → Found Part
  after id bs = framed_at (section_at levels inner id) bs

  section_sound : {A : Type 0} {g : A → Piece} {r : List ℕ → Option A} (of : A → Part) (n : ℕ) → TellsAll g r
      → ((x : A) → part_in levels f (of x) ≡ sized n (g x)) → (b : List ℕ) (t : ℕ × List ℕ) (y : Part × List ℕ) → byte_at b ≡ Some t → t.0 ≡ n
      → framed_at (λ bs. option_map of (r bs)) t.1 ≡ Some y → Begins (part_in levels f) b y
  section_sound {r = r} of n d is b t y e i g = row_sound (part_in levels f) of n (tells_framed d) is b t y e i (sym (framed_seen of r t.1) ∙ g)

  part_begins : (b : List ℕ) (t : ℕ × List ℕ) (x : Part × List ℕ) → byte_at b ≡ Some t → after t.0 t.1 ≡ Some x → Begins (part_in levels f) b x
  unfolding section_at
  part_begins b t x e =
      framed_chain t.0 0 _ _ t.1 x (section_sound (λ x. custom x.0 x.1) 0 tells_custom (λ x. refl) b t x e)
      (framed_chain t.0 1 _ _ t.1 x (section_sound core_module 1 (tells_itself embedded embedded_whole) (λ x. refl) b t x e)
      (framed_chain t.0 3 _ _ t.1 x (section_sound core_types 3 (tells_list tells_core_entry) (λ x. refl) b t x e)
      (framed_chain t.0 4 _ _ t.1 x (section_sound component 4 c (λ x. refl) b t x e)
      (framed_chain t.0 7 _ _ t.1 x (section_sound types 7 (tells_types levels) (λ x. refl) b t x e)
      (framed_chain t.0 8 _ _ t.1 x (section_sound canons 8 (tells_list tells_canon) (λ x. refl) b t x e)
      (framed_chain t.0 10 _ _ t.1 x (section_sound imports 10 (tells_list tells_import) (λ x. refl) b t x e)
      (framed_chain t.0 11 _ _ t.1 x (section_sound exports 11 (tells_list tells_export) (λ x. refl) b t x e)
      (λ g. nothing x (sym (framed_nothing t.1) ∙ g)))))))))

  part_read : (b : List ℕ) (x : Part) (rest : List ℕ) → Begins (part_in levels f) b (x, rest) → Told after b (x, rest)
  unfolding section_at
  part_read b (custom n d) rest e =
      row_told after (λ x. custom x.0 x.1) 0 (lit< tt) (tells_framed tells_custom) (framed_seen (λ x. custom x.0 x.1) _) {x = (n, d)} e
  part_read b (core_module bs) rest e =
      row_told after core_module 1 (lit< tt) (tells_framed (tells_itself embedded embedded_whole)) (framed_seen core_module _) e
  part_read b (core_types ts) rest e = row_told after core_types 3 (lit< tt) (tells_framed (tells_list tells_core_entry)) (framed_seen core_types _) e
  part_read b (component t) rest e = row_told after component 4 (lit< tt) (tells_framed c) (framed_seen component _) e
  part_read b (types ts) rest e = row_told after types 7 (lit< tt) (tells_framed (tells_types levels)) (framed_seen types _) e
  part_read b (canons fs) rest e = row_told after canons 8 (lit< tt) (tells_framed (tells_list tells_canon)) (framed_seen canons _) e
  part_read b (imports is) rest e = row_told after imports 10 (lit< tt) (tells_framed (tells_list tells_import)) (framed_seen imports _) e
  part_read b (exports es) rest e = row_told after exports 11 (lit< tt) (tells_framed (tells_list tells_export)) (framed_seen exports _) e

  tells_part : Tells (part_in levels f) (part_at levels inner)
  unfolding part_at
  tells_part = tells_after after part_begins part_read

  -- ---- all of them

  parts_sound : (n : ℕ) (b : List ℕ) (ps : List Part) → parts_at levels inner n b ≡ Some ps → parts_in levels f (tree_of ps) ≡ Some b
  unfolding parts_at
  parts_sound n [] ps e = ap (λ q. parts_in levels f (tree_of q)) (sym (same_Some [] ps e))
  parts_sound zero (x ∷ b) ps e = absurd cc
  parts_sound (suc n) (x ∷ b) ps e =
      let p = bind_some (part_at levels inner (x ∷ b)) (λ p. parts_at levels inner n p.1 >>= λ qs. Some (p.0 ∷ qs)) ps e in
      let q = bind_some (parts_at levels inner n p.0.1) (λ qs. Some (p.0.0 ∷ qs)) ps p.2 in
      let i = parts_sound n p.0.1 q.0 q.1 in
      ap (λ r. parts_in levels f (tree_of r)) (sym (same_Some (p.0.0 ∷ q.0) ps q.2)) ∙ ap (λ r. part_in levels f p.0.0 ⊕ r) i ∙ tells_part.sound (x ∷ b) p.0 p.1

  -- each section begins with its id
  sized_some : (id : ℕ) (p : Piece) (l : List ℕ) → sized id p ≡ Some l → 0 < length l
  sized_some id p l e =
      let q = parts_are (byte id) (framed p) l e in
      let h : length q.left ≡ 1 = ap length (sym (same_Some (id ∷ []) q.left q.p_is)) in
      let k = ap length q.is in
      omega (arith, length-append q.left q.right)

  part_some : (p : Part) (l : List ℕ) → part_in levels f p ≡ Some l → 0 < length l
  part_some (custom n d) l e = sized_some 0 _ l e
  part_some (core_module bs) l e = sized_some 1 _ l e
  part_some (core_types ts) l e = sized_some 3 _ l e
  part_some (component t) l e = sized_some 4 _ l e
  part_some (types ts) l e = sized_some 7 _ l e
  part_some (canons fs) l e = sized_some 8 _ l e
  part_some (imports is) l e = sized_some 10 _ l e
  part_some (exports es) l e = sized_some 11 _ l e

  parts_whole : (t : Tree) (n : ℕ) (b : List ℕ) → length b ≤ n → parts_in levels f t ≡ Some b → parts_at levels inner n b ≡ Some (listed t)
  unfolding parts_at
  parts_whole ends zero b h e = ap (parts_at levels inner zero) (sym (same_Some [] b e))
  parts_whole ends (suc n) b h e = ap (parts_at levels inner (suc n)) (sym (same_Some [] b e))
  parts_whole (first p t) zero b h e =
      let q = parts_are (part_in levels f p) (parts_in levels f t) b e in
      let k = part_some p q.left q.p_is in
      let m = ap length q.is in
      absurd (omega (arith, length-append q.left q.right))
  parts_whole (first p t) (suc n) [] h e =
      let q = parts_are (part_in levels f p) (parts_in levels f t) [] e in
      let k = part_some p q.left q.p_is in
      let m = ap length q.is in
      absurd (omega (arith, length-append q.left q.right))
  parts_whole (first p t) (suc n) (x ∷ b) h e =
      let q = parts_are (part_in levels f p) (parts_in levels f t) (x ∷ b) e in
      let k = part_some p q.left q.p_is in
      let m = ap length q.is in
      let w = tells_part.whole (x ∷ b) (p, q.right) (ap (λ r. r ⊕ Some q.right) q.p_is ∙ joined _ _ ∙ ap Some (sym q.is)) in
      rw (w, parts_whole t n q.right (omega (arith, length-append q.left q.right, h)) q.q_is) refl

  tells_contents : TellsAll (text_in levels f) (contents_at levels inner)
  unfolding contents_at
  tells_contents = record {
    sound = λ b t e.
        let r = bind_some (preamble_at b) (λ rest. parts_at levels inner (length rest) rest >>= λ ps. Some (tree_of ps)) t e in
        let p = bind_some (parts_at levels inner (length r.0) r.0) (λ ps. Some (tree_of ps)) t r.2 in
        ap (λ x. text_in levels f x) (sym (same_Some _ _ p.2)) ∙ ap (λ x. bytes preamble ⊕ x) (parts_sound (length r.0) r.0 p.0 p.1) ∙ joined _ _
        ∙ ap Some (sym (preamble_sound b r.0 r.1));
    whole = λ b t e.
        let q = parts_are (bytes preamble) (parts_in levels f t) b e in
        let i : b ≡ preamble ++ q.right = q.is ∙ ap (λ l. l ++ q.right) (sym (same_Some preamble q.left q.p_is)) in
        rw (i, preamble_whole q.right, parts_whole t (length q.right) q.right (omega arith) q.q_is) (ap Some (tree_listed t));
  }

-- ---- components

pub tells_component : (n : ℕ) → TellsAll (component_in n) (component_at n)
unfolding component_in component_at
tells_component zero = record { sound = λ b t e. absurd cc; whole = λ b t e. absurd cc }
tells_component (suc n) = tells_contents n (component_in n) (component_at n) (tells_component n)

-- what is spelled within levels is spelled

framed_under : (p q : Piece) → Under p q → Under (framed p) (framed q)
unfolding framed
framed_under p q (inl e) = inl (ap framed e)
framed_under p q (inr e) = inr (ap framed e)

sized_under : (id : ℕ) (p q : Piece) → Under p q → Under (sized id p) (sized id q)
sized_under id p q h = under_then (byte id) (byte id) _ _ (inr refl) (framed_under p q h)

module _ (levels : ℕ) (f : Tree → Piece) (under : (t : Tree) → Under (f t) (component_text t)) where
  part_under : (p : Part) → Under (part_in levels f p) (part p)
  part_under (component t) = sized_under 4 (f t) (component_text t) (under t)
  part_under (types ts) = sized_under 7 _ _ (many_under levels ts)
  part_under _ = inr refl

  parts_under : (t : Tree) → Under (parts_in levels f t) (parts t)
  parts_under ends = inr refl
  parts_under (first p t) = under_then (part_in levels f p) (part p) (parts_in levels f t) (parts t) (part_under p) (parts_under t)

component_under : (n : ℕ) (t : Tree) → Under (component_in n t) (component_text t)
unfolding component_in
component_under zero t = inl refl
component_under (suc n) t =
    under_then (bytes preamble) (bytes preamble) _ _ (inr refl)
    (parts_under n (component_in n) (λ u. component_under n u) t)

under_spells : (p q : Piece) (b : List ℕ) → Under p q → p ≡ Some b → q ≡ Some b
under_spells p q b (inl h) e = let z : None ≡ Some b = sym h ∙ e in absurd cc
under_spells p q b (inr h) e = sym h ∙ e

pub component_found : (n : ℕ) (b : List ℕ) (t : Tree) → component_at n b ≡ Some t → Spells t b
component_found n b t e = under_spells _ _ b (component_under n t) ((tells_component n).sound b t e)

-- what is spelled is spelled within levels

nest_within : (n : ℕ) (ts : List Entry) → most nesting ts ≤ n → NestWithin n ts
nest_within n [] h = tt
nest_within n (t ∷ ts) h = (omega (arith, h), nest_within n ts (omega (arith, h)))

some_depth : (t : Tree) → 1 ≤ scope_depth t
some_depth ends = omega arith
some_depth (first p t) = omega (arith, some_depth t)

module _ (n : ℕ) (f : Tree → Piece) (same : (t : Tree) → scope_depth t ≤ n → f t ≡ component_text t) where
  part_same : (p : Part) → scope_depth_in p ≤ suc n → part_in n f p ≡ part p
  part_same (component t) h = ap (sized 4) (same t (omega (arith, h)))
  part_same (types ts) h = ap (sized 7) (many_same n ts (nest_within n ts (omega (arith, h))))
  part_same _ h = refl

  parts_same : (t : Tree) → scope_depth t ≤ suc n → parts_in n f t ≡ parts t
  parts_same ends h = refl
  parts_same (first p t) h = ap (λ q. q ⊕ parts_in n f t) (part_same p (omega (arith, h))) ∙ ap (λ q. part p ⊕ q) (parts_same t (omega (arith, h)))

component_same : (n : ℕ) (t : Tree) → scope_depth t ≤ n → component_in n t ≡ component_text t
unfolding component_in
component_same zero t d = absurd (omega (arith, some_depth t))
component_same (suc n) t d =
    ap (λ q. bytes preamble ⊕ q) (parts_same n (component_in n) (λ x l. component_same n x l) t d)

pub component_only : (n : ℕ) (b : List ℕ) (t : Tree) → scope_depth t ≤ n → Spells t b → component_at n b ≡ Some t
component_only n b t d e = (tells_component n).whole b t (component_same n t d ∙ e)
