-- Loops that print the sections of a component.
use Rattle.std.proofs.Common.{◌≡◌, ℕ, ◌+◌, ◌<◌, ◌≤◌, List, [], ◌++◌, length, map, drop, get_or, refl, ap, sym, subst, ◌∙◌, Some, None, Result, Ok, Err, suc}
use Rattle.std.proofs.Common.{arith}
use Rattle.std.proofs.Common.{IsErrAnd, IfErr}
use Rattle.std.proofs.lemmas.List.{drop-drop, length-map}
use Rattle.smith_input.proofs.Rests.{drop_past, rest_at}
use Rattle.std.specs.Prelude.{String, string_bytes}
use Rattle.std.specs.declared.alloc.Global.{Global}
use Rattle.smith_format.specs.Piece.{Piece, ◌⊕◌, bytes}
use Rattle.smith_format.proofs.Piece.{assoc, joined, left_nil, left_none, right_none, right_nil}
use Rattle.smith_print.specs.declared.error.PrintError.{PrintError}
use Rattle.smith_print.specs.declared.error.PrintError.TheVariants.{OtherCoreModule}
use Rattle.smith_print.specs.declared.spaces.IndexSpaces.{IndexSpaces}
use Rattle.smith_print.proofs.Listed.{after_all-map, entry_lines-map}
use Rattle.smith_print.specs.Components.{after_function, after_part, closing, core_module_text, custom_text, export_entry_text, head_text, part_text}
use Rattle.smith_print.specs.Components.{parts_text}
use Rattle.smith_print.specs.CoreTypes.{after_core_type}
use Rattle.smith_print.specs.Externs.{canon_text, import_text}
use Rattle.smith_print.specs.Lines.{after_all, closed, entry_lines}
use Rattle.smith_print.specs.Spaces.{after_canon, after_extern, nothing}
use Rattle.smith_print.specs.Types.{after_type, core_type_text, type_text}
use Rattle.smith_print.specs.Words.{deeper}
use Rattle.std.specs.Global.{Vec}
use Rattle.smith_read.proofs.PartNodes.{shown_canons, shown_core_types, shown_custom, shown_exports, shown_imports, shown_module, shown_nested, shown_types}
use Rattle.smith_read.specs.Items.{items, items_in}
use Rattle.smith_read.specs.ModuleSections.{stand_in_at}
use Rattle.smith_read.specs.Nodes.{shown_core_node}
use Rattle.smith_read.specs.TypeNodes.{shown_type_node}
use Rattle.smith_read.specs.declared.core_types.CoreNode.{CoreNode}
use Rattle.smith_read.specs.declared.nodes.ImportNode.{ImportNode}
use Rattle.smith_read.specs.declared.nodes.PartNode.TheVariants as node
use Rattle.smith_read.specs.declared.type_nodes.TypeNode.{TypeNode}
use Rattle.smith_tree.specs.Shown.{shown_canon, shown_export}
use Rattle.smith_tree.specs.declared.entries.CustomSection.{CustomSection}
use Rattle.smith_tree.specs.declared.entries.Export.{Export}
use Rattle.smith_tree.specs.declared.entries.Func.{Func}
use Rattle.smith_print.specs.Printing.{Adds, IsRefused, PrintsPiece}
use Rattle.smith_read.specs.PartNodes.{shown_import_node, shown_part_node}
use Rattle.smith_read.specs.declared.nodes.PartNode.{PartNode}
use Rattle.smith_tree.specs.Tree.{Tree, tree_of}

-- some text was added
pub adds_text : {old new : String Global} {text : List ℕ} → string_bytes new ≡ string_bytes old ++ text → Adds old new (bytes text)
adds_text {old} {new} {text} e = record { is = ap Some e ∙ sym (joined (string_bytes old) text) }

pub adds_then : {a b c : String Global} {p q : Piece} → Adds a b p → Adds b c q → Adds a c (p ⊕ q)
adds_then {a} {b} {c} {p} {q} g h = record { is = h.is ∙ ap (λ x. x ⊕ q) g.is ∙ assoc (Some (string_bytes a)) p q }

-- what does not end in a refusal for a core module
pub refused_not : {e : PrintError} {p : Piece} → (e ≡ OtherCoreModule → ⊥) → IsRefused e p
refused_not n = record { is = λ h. absurd (n h) }

pub refused_behind : {e : PrintError} {q : Piece} (p : Piece) → IsRefused e q → IsRefused e (p ⊕ q)
refused_behind p r = record { is = λ h. ap (λ x. p ⊕ x) (r.is h) ∙ right_none p }

-- the tree of some sections, and what they are with these offsets

abbrev pub held : List PartNode → Tree
held ns = tree_of (map shown_part_node ns)

abbrev pub sections : List PartNode → ℕ → IndexSpaces → List ℕ → Piece
sections ns c s os = parts_text (held ns) c s os

-- What was printed, and then the sections from i on, is what was there and then all sections.
pub record Going (ns : List PartNode) (c : ℕ) (i : ℕ) (old new : String Global) (s r : IndexSpaces) (os ps : List ℕ) : Type 0 where
  pub is : Some (string_bytes new) ⊕ sections (drop i ns) c r ps ≡ Some (string_bytes old) ⊕ sections ns c s os
  pub passed : drop (items (held (drop i ns))) ps ≡ drop (items (held ns)) os

pub going_first : (ns : List PartNode) (c : ℕ) (old : String Global) (s : IndexSpaces) (os : List ℕ) → Going ns c 0 old old s s os os
going_first ns c old s os = record { is = refl; passed = refl }

front : (ns : List PartNode) (c : ℕ) (i : ℕ) (n : PartNode) (r : IndexSpaces) (ps : List ℕ) → i < length ns → n ≡ get_or ns i n
    → sections (drop i ns) c r ps
    ≡ part_text (shown_part_node n) c r ps ⊕ sections (drop (i + 1) ns) c (after_part (shown_part_node n) r) (drop (items_in (shown_part_node n)) ps)
front ns c i n r ps low at = ap (λ ms. sections ms c r ps) (rest_at ns i n low at)

pub going_next : (ns : List PartNode) (c : ℕ) (i : ℕ) (n : PartNode) (old a b : String Global) (s r t : IndexSpaces) (os ps qs : List ℕ)
    → Going ns c i old a s r os ps → i < length ns → n ≡ get_or ns i n → Adds a b (part_text (shown_part_node n) c r ps)
    → t ≡ after_part (shown_part_node n) r → qs ≡ drop (items_in (shown_part_node n)) ps → Going ns c (i + 1) old b s t os qs
going_next ns c i n old a b s r t os ps qs h low at adds after past =
    let rest = drop (i + 1) ns in
    let p = shown_part_node n in
    let next = sections rest c (after_part p r) (drop (items_in p) ps) in
    record {
      is = ap (λ q. Some (string_bytes b) ⊕ sections rest c q qs) after ∙ ap (λ q. Some (string_bytes b) ⊕ sections rest c (after_part p r) q) past
          ∙ ap (λ q. q ⊕ next) adds.is ∙ assoc (Some (string_bytes a)) (part_text p c r ps) next
          ∙ ap (λ q. Some (string_bytes a) ⊕ q) (sym (front ns c i n r ps low at)) ∙ h.is;
      passed = ap (drop (items (held rest))) past ∙ drop-drop (items (held rest)) (items_in p) ps
          ∙ sym (ap (λ ms. drop (items (held ms)) ps) (rest_at ns i n low at)) ∙ h.passed;
    }

pub going_done : (ns : List PartNode) (c : ℕ) (i : ℕ) (old new : String Global) (s r : IndexSpaces) (os ps : List ℕ) → Going ns c i old new s r os ps
    → length ns ≤ i → Adds old new (sections ns c s os)
going_done ns c i old new s r os ps h e = record {
  is = sym (right_nil (Some (string_bytes new))) ∙ ap (λ ms. Some (string_bytes new) ⊕ sections ms c r ps) (sym (drop_past ns i e)) ∙ h.is;
}

pub going_passed : (ns : List PartNode) (c : ℕ) (i : ℕ) (old new : String Global) (s r : IndexSpaces) (os ps : List ℕ) → Going ns c i old new s r os ps
    → length ns ≤ i → ps ≡ drop (items (held ns)) os
going_passed ns c i old new s r os ps h e = ap (λ ms. drop (items (held ms)) ps) (sym (drop_past ns i e)) ∙ h.passed

none_behind : (a : List ℕ) (p : Piece) → None ≡ Some a ⊕ p → p ≡ None
unfolding ◌⊕◌
none_behind a None e = refl
none_behind a (Some b) e = cc

pub going_refused : (ns : List PartNode) (c : ℕ) (i : ℕ) (n : PartNode) (e : PrintError) (old a : String Global) (s r : IndexSpaces) (os ps : List ℕ)
    → Going ns c i old a s r os ps → i < length ns → n ≡ get_or ns i n → IsRefused e (part_text (shown_part_node n) c r ps)
    → IsRefused e (sections ns c s os)
going_refused ns c i n e old a s r os ps h low at refused =
    let next = sections (drop (i + 1) ns) c (after_part (shown_part_node n) r) (drop (items_in (shown_part_node n)) ps) in
    record {
      is = λ other. none_behind (string_bytes old) (sections ns c s os)
          (sym (right_none (Some (string_bytes a)))
          ∙ ap (λ p. Some (string_bytes a) ⊕ p)
          (sym (front ns c i n r ps low at ∙ ap (λ p. p ⊕ next) (refused.is other) ∙ left_none next)) ∙ h.is);
    }

-- contents that were printed, and their end
record Contents (a b : List ℕ) (p : Piece) : Type 0 where
  pub contents : List ℕ
  pub is : p ≡ Some contents
  pub added : b ≡ a ++ contents

contents_are : (a b : List ℕ) (p : Piece) → Some b ≡ Some a ⊕ p → Contents a b p
unfolding ◌⊕◌
contents_are a b None e = cc
contents_are a b (Some x) e = record { contents = x; is = refl; added = cc }

pub closing_adds : {old mid new : String Global} {p : Piece} (c : ℕ) → Adds old mid p
    → ((contents : List ℕ) → string_bytes mid ≡ string_bytes old ++ contents → string_bytes new ≡ string_bytes old ++ closed c contents)
    → Adds old new (closing c p)
closing_adds {old} {mid} {new} {p} c adds ends =
    let x = contents_are (string_bytes old) (string_bytes mid) p adds.is in
    subst (λ (q : Piece). Adds old new (closing c q)) (sym x.is) (adds_text (ends x.contents x.added))

pub closing_refused : {e : PrintError} {p : Piece} (c : ℕ) → IsRefused e p → IsRefused e (closing c p)
closing_refused c r = record { is = λ h. ap (closing c) (r.is h) }

-- sections by the nodes that show them

pub text_custom : (n : CustomSection) (c : ℕ) (r : IndexSpaces) (os : List ℕ)
    → part_text (shown_part_node (node.Custom n)) c r os ≡ bytes (custom_text (string_bytes n.name) n.bytes.items c os)
text_custom n c r os = ap (λ p. part_text p c r os) (shown_custom n)

pub text_module : (bs : Vec ℕ) (c : ℕ) (r : IndexSpaces) (os : List ℕ) → part_text (shown_part_node (node.CoreModule bs)) c r os
    ≡ core_module_text (stand_in_at bs.items) c r os
text_module bs c r os = ap (λ p. part_text p c r os) (shown_module bs)

pub text_component : (ns : Vec PartNode) (c : ℕ) (r : IndexSpaces) (os : List ℕ)
    → part_text (shown_part_node (node.Component ns)) c r os ≡ bytes (head_text c r os) ⊕ closing c (sections ns.items (deeper c) nothing (drop 1 os))
text_component ns c r os = ap (λ p. part_text p c r os) (shown_nested ns)

pub text_core_types : (ts : Vec CoreNode) (c : ℕ) (r : IndexSpaces) (os : List ℕ)
    → part_text (shown_part_node (node.CoreTypes ts)) c r os
    ≡ bytes (entry_lines (λ t. core_type_text (shown_core_node t)) (λ t. after_core_type) c r os ts.items)
text_core_types ts c r os = ap (λ p. part_text p c r os) (shown_core_types ts)
    ∙ ap bytes (entry_lines-map core_type_text (λ t. after_core_type) shown_core_node c r os ts.items)

pub text_types : (ts : Vec TypeNode) (c : ℕ) (r : IndexSpaces) (os : List ℕ)
    → part_text (shown_part_node (node.Types ts)) c r os ≡ bytes (entry_lines (λ t. type_text (shown_type_node t)) (λ t. after_type) c r os ts.items)
text_types ts c r os = ap (λ p. part_text p c r os) (shown_types ts) ∙ ap bytes (entry_lines-map type_text (λ t. after_type) shown_type_node c r os ts.items)

pub text_canons : (fs : Vec Func) (c : ℕ) (r : IndexSpaces) (os : List ℕ)
    → part_text (shown_part_node (node.Canons fs)) c r os
    ≡ bytes (entry_lines (λ f _. canon_text (shown_canon f)) (λ f. after_canon (shown_canon f)) c r os fs.items)
text_canons fs c r os = ap (λ p. part_text p c r os) (shown_canons fs)
    ∙ ap bytes (entry_lines-map (λ f _. canon_text f) after_canon shown_canon c r os fs.items)

pub text_imports : (is : Vec ImportNode) (c : ℕ) (r : IndexSpaces) (os : List ℕ) → part_text (shown_part_node (node.Imports is)) c r os
    ≡ bytes (entry_lines (λ i _. import_text (string_bytes i.name) i.to) (λ i. after_extern i.to) c r os is.items)
text_imports is c r os = ap (λ p. part_text p c r os) (shown_imports is)
    ∙ ap bytes (entry_lines-map (λ i _. import_text i.name i.to) (λ i. after_extern i.to) shown_import_node c r os is.items)

pub text_exports : (es : Vec Export) (c : ℕ) (r : IndexSpaces) (os : List ℕ)
    → part_text (shown_part_node (node.Exports es)) c r os
    ≡ bytes (entry_lines (λ e _. export_entry_text (shown_export e)) (λ e. after_function) c r os es.items)
text_exports es c r os = ap (λ p. part_text p c r os) (shown_exports es)
    ∙ ap bytes (entry_lines-map (λ e _. export_entry_text e) (λ e. after_function) shown_export c r os es.items)

-- and the index spaces after them

pub after_core_types : (ts : Vec CoreNode) (r : IndexSpaces) → after_part (shown_part_node (node.CoreTypes ts)) r ≡ after_all (λ t. after_core_type) r ts.items
after_core_types ts r = ap (λ p. after_part p r) (shown_core_types ts) ∙ after_all-map (λ t. after_core_type) shown_core_node r ts.items

pub after_types : (ts : Vec TypeNode) (r : IndexSpaces) → after_part (shown_part_node (node.Types ts)) r ≡ after_all (λ t. after_type) r ts.items
after_types ts r = ap (λ p. after_part p r) (shown_types ts) ∙ after_all-map (λ t. after_type) shown_type_node r ts.items

pub after_canons : (fs : Vec Func) (r : IndexSpaces) → after_part (shown_part_node (node.Canons fs)) r ≡ after_all (λ f. after_canon (shown_canon f)) r fs.items
after_canons fs r = ap (λ p. after_part p r) (shown_canons fs) ∙ after_all-map after_canon shown_canon r fs.items

pub after_imports : (is : Vec ImportNode) (r : IndexSpaces) → after_part (shown_part_node (node.Imports is)) r ≡ after_all (λ i. after_extern i.to) r is.items
after_imports is r = ap (λ p. after_part p r) (shown_imports is) ∙ after_all-map (λ i. after_extern i.to) shown_import_node r is.items

pub after_exports : (es : Vec Export) (r : IndexSpaces) → after_part (shown_part_node (node.Exports es)) r ≡ after_all (λ e. after_function) r es.items
after_exports es r = ap (λ p. after_part p r) (shown_exports es) ∙ after_all-map (λ e. after_function) shown_export r es.items

-- and how many items they are

pub count_core_types : (ts : Vec CoreNode) → items_in (shown_part_node (node.CoreTypes ts)) ≡ length ts.items
count_core_types ts = ap items_in (shown_core_types ts) ∙ length-map ts.items shown_core_node

pub count_types : (ts : Vec TypeNode) → items_in (shown_part_node (node.Types ts)) ≡ length ts.items
count_types ts = ap items_in (shown_types ts) ∙ length-map ts.items shown_type_node

pub count_canons : (fs : Vec Func) → items_in (shown_part_node (node.Canons fs)) ≡ length fs.items
count_canons fs = ap items_in (shown_canons fs) ∙ length-map fs.items shown_canon

pub count_imports : (is : Vec ImportNode) → items_in (shown_part_node (node.Imports is)) ≡ length is.items
count_imports is = ap items_in (shown_imports is) ∙ length-map is.items shown_import_node

pub count_exports : (es : Vec Export) → items_in (shown_part_node (node.Exports es)) ≡ length es.items
count_exports es = ap items_in (shown_exports es) ∙ length-map es.items shown_export

pub count_custom : (n : CustomSection) → items_in (shown_part_node (node.Custom n)) ≡ 1
count_custom n = ap items_in (shown_custom n)

pub count_module : (bs : Vec ℕ) → items_in (shown_part_node (node.CoreModule bs)) ≡ 1
count_module bs = ap items_in (shown_module bs)

pub count_component : (ns : Vec PartNode) → items_in (shown_part_node (node.Component ns)) ≡ 1 + items (held ns.items)
count_component ns = ap items_in (shown_nested ns) ∙ one_more
  where
    one_more : suc (items (held ns.items)) ≡ 1 + items (held ns.items)
    one_more = omega arith

-- results

pub exits : {A : Type 0} (r : Result A PrintError) (e : PrintError) (old new : String Global) {p : Piece} → IsErrAnd r (λ y. y ≡ e) → IsRefused e p
    → PrintsPiece r old new p
exits (Ok x) e old new is d = absurd is
exits (Err y) e old new {p} is d = subst (λ (z : PrintError). IsRefused z p) (sym is) d

pub prints_behind : {A : Type 0} (r : Result A PrintError) (old mid new : String Global) (p q : Piece) → Adds old mid p → PrintsPiece r mid new q
    → PrintsPiece r old new (p ⊕ q)
prints_behind (Ok x) old mid new p q g h = adds_then g h
prints_behind (Err e) old mid new p q g h = refused_behind p h

pub refused_before : {e : PrintError} {p : Piece} (q : Piece) → IsRefused e p → IsRefused e (p ⊕ q)
refused_before q r = record { is = λ h. ap (λ x. x ⊕ q) (r.is h) ∙ left_none q }

pub fails : {A : Type 0} (r : Result A PrintError) (e : PrintError) {p : Piece} → IsErrAnd r (λ y. y ≡ e) → IsRefused e p
    → IfErr r (λ y. y ≡ OtherCoreModule → p ≡ None)
fails (Ok x) e is d = tt
fails (Err y) e is d = λ h. d.is (sym is ∙ h)

-- what was added to nothing
pub whole : (old new : String Global) (p : Piece) → string_bytes old ≡ [] → Adds old new p → p ≡ Some (string_bytes new)
whole old new p e g = sym (g.is ∙ ap (λ b. Some b ⊕ p) e ∙ left_nil p)
