-- What is made simpler has no more bytes and no more items.
use Rattle.std.proofs.Common.{◌≡◌, ℕ, zero, suc, ◌+◌, ◌-◌, ◌/◌, ◌%◌, ◌<◌, ◌≤◌, Bool, true, false, List, [], ◌∷◌, ◌++◌, None, Some, length, map}
use Rattle.std.proofs.Common.{length-append, ap, sym, refl, arith, nat_lt, take, length-take}
use Rattle.std.proofs.lemmas.Bool.{and_parts}
use Rattle.std.proofs.lemmas.Bool.Decides.{nat_tests}
use Rattle.std.proofs.lemmas.Option.{cond_some}
use Rattle.std.proofs.lemmas.Str.{IsUtf8-append, IsUtf8-from_ascii, IsUtf8-nil}
use Rattle.std.specs.Prelude.{bytes_eq, nat_eq, if◌then◌else◌}
use Rattle.std.specs.Cmp.Lexicographic.{pointwise}
use Rattle.std.specs.List.{starts_with}
use Rattle.std.specs.Str.{IsUtf8, is_utf8}
use Rattle.smith_input.specs.NewNames.{is_among}
use Rattle.smith_core.specs.Preamble.{core_preamble}
use Rattle.smith_format.specs.Piece.{Piece, ◌⊕◌, byte, bytes, each, framed, many, raw, sized, text, u, utf8}
use Rattle.smith_format.proofs.Piece.{parts_are, utf8_is, raw_whole as raw_is}
use Rattle.smith_syntax.specs.Entries.{Case, Decl, Decls, DefValType, Entry, Field, Signature, decl_count}
use Rattle.smith_syntax.specs.Entries.{defined, function, component_type, instance_type}
use Rattle.smith_syntax.specs.Entries.{primitive_type, record_type, variant_type, list_type, tuple_type, option_type, result_type}
use Rattle.smith_syntax.specs.Entries.{type_decl, import_decl, export_decl, no_decls, then_decls}
use Rattle.smith_syntax.specs.Grammar.{case, decl, decls, defvaltype, entry, externdesc, functype, import_entry, labelvaltype, maybe_valtype}
use Rattle.smith_syntax.specs.Grammar.{primvaltype, resultlist, valtype}
use Rattle.smith_syntax.specs.WellFormed.{decl_exports, decl_imports, names}
use Rattle.smith_syntax.specs.declared.deftype.ComponentTypeRef.{ComponentTypeRef}
use Rattle.smith_tree.specs.Grammar.{component_text, embedded, export_entry, part, parts, preamble}
use Rattle.smith_tree.specs.Tree.{Tree, Part, ends, first, exports_of, imports_of}
use Rattle.smith_tree.specs.Tree as section
use Rattle.smith_tree.specs.WellFormed.{export_names, import_names}
use Rattle.smith_edit.specs.Edits.{export_renamed, import_renamed}
use Rattle.smith_edit.specs.Items.{decl_items, decls_items, entry_items, part_items, row_items, signature_items, tree_items, value_items}
use Rattle.smith_edit.specs.ShortNames.{letters, new_from, short_name, shorter_name, shortest_new}
use Rattle.smith_edit.specs.Simpler.{bool, component_at, component_in, decl_simplified, decls_simplified, entry_simplified, pair_renamed}
use Rattle.smith_edit.specs.Simpler.{is_bool, label_renamed, member_renamed, part_simplified, renamed_at, sections_simplified}
use Rattle.smith_edit.specs.Simpler.{signature_simplified, simpler_custom, simpler_decl, simpler_entry, simpler_part, simpler_value, simplified}
use Rattle.smith_edit.specs.Simpler.{types_simplified, value_simplified}
use Rattle.smith_edit.proofs.Perhaps.{Perhaps, either, first_of, given, gives, itself, mapped, more, nothing}
use Rattle.smith_edit.proofs.Shorter.{NoLonger, after, before, dropped, glue, same, short_byte, sized_grow, u_grow}
use Rattle.smith_input.proofs.Kebab.{ascii_one}

-- It has no more bytes and no more items.
abbrev Less : {A : Type 0} → (A → Piece) → (A → ℕ) → A → A → Type 0
Less f items x y = NoLonger (f y) (f x) × (items y ≤ items x)

-- They have no more bytes and are as many.
abbrev AsMany : {A : Type 0} → (A → Piece) → List A → List A → Type 0
AsMany f xs ys = NoLonger (each f ys) (each f xs) × (length ys ≡ length xs)

listed : {A : Type 0} (f : A → Piece) (xs ys : List A) → AsMany f xs ys → NoLonger (many f ys) (many f xs)
listed f xs ys h = glue _ _ _ _ (u_grow (length ys) (length xs) (omega (arith, h.1))) h.0

-- names

letters_by : (m n : ℕ) (b : Bool) → nat_lt n 26 ≡ b → IsUtf8 (letters m (n / 26 - 1))
    → IsUtf8 (if b then (0x61 + n) ∷ [] else letters m (n / 26 - 1) ++ (0x61 + n % 26) ∷ [])
letters_by m n true e h = let few : n < 26 = grind (arith, nat_tests) in IsUtf8-from_ascii ((0x61 + n) ∷ []) (ascii_one (0x61 + n) (omega arith))
letters_by m n false e h =
    IsUtf8-append (letters m (n / 26 - 1)) ((0x61 + n % 26) ∷ []) h (IsUtf8-from_ascii ((0x61 + n % 26) ∷ []) (ascii_one (0x61 + n % 26) (omega arith)))

letters_utf8 : (m n : ℕ) → IsUtf8 (letters m n)
letters_utf8 zero n = IsUtf8-nil
letters_utf8 (suc m) n = letters_by m n (nat_lt n 26) refl (letters_utf8 m (n / 26 - 1))

short_utf8 : (n : ℕ) → IsUtf8 (short_name n)
unfolding short_name
short_utf8 n = letters_utf8 (suc n) n

new_by : (b : Bool) (x y : List ℕ) → IsUtf8 x → IsUtf8 y → IsUtf8 (if b then x else y)
new_by true x y h j = h
new_by false x y h j = j

new_utf8 : (m n : ℕ) (ns : List (List ℕ)) → IsUtf8 (new_from m n ns)
new_utf8 zero n ns = short_utf8 n
new_utf8 (suc m) n ns = new_by (is_among ns (short_name n)) (new_from m (n + 1) ns) (short_name n) (new_utf8 m (n + 1) ns) (short_utf8 n)

utf8_less : (new old : List ℕ) → IsUtf8 new → length new ≤ length old → NoLonger (utf8 new) (utf8 old)
unfolding utf8
utf8_less new old ok le b e = let long = ap length (cond_some (is_utf8 old) old b e).1 in (new, utf8_is new ok, omega (arith, le, long))

text_less : (new old : List ℕ) → IsUtf8 new → length new ≤ length old → NoLonger (text new) (text old)
unfolding text
text_less new old ok le = glue (u (length new)) (u (length old)) (utf8 new) (utf8 old) (u_grow (length new) (length old) le) (utf8_less new old ok le)

name_by : (new old : List ℕ) (b : Bool) → IsUtf8 new → nat_lt (length new) (length old) ≡ b
    → Perhaps (λ n. NoLonger (text n) (text old)) (if b then Some new else None)
name_by new old true ok e = gives new (text_less new old ok (grind (arith, nat_tests)))
name_by new old false ok e = nothing tt

name_less : (ns : List (List ℕ)) (name : List ℕ) → Perhaps (λ n. NoLonger (text n) (text name)) (shorter_name ns name)
name_less ns name = name_by (shortest_new ns) name (nat_lt (length (shortest_new ns)) (length name)) (new_utf8 (length ns) 0 ns) refl

module _ {A : Type 0} (name : A → List ℕ) (rename : A → List ℕ → A) (f : A → Piece)
    (grow : (x : A) (new : List ℕ) → NoLonger (text new) (text (name x)) → NoLonger (f (rename x new)) (f x)) where
  renamed : (ns : List (List ℕ)) (k : ℕ) (xs : List A) → Perhaps (AsMany f xs) (renamed_at name rename ns k xs)
  renamed ns k [] = nothing tt
  renamed ns zero (x ∷ xs) =
      mapped (λ y. y ∷ xs) (λ y h. (before (f y) (f x) (each f xs) h, refl)) (mapped (rename x) (λ new h. grow x new h) (name_less ns (name x)))
  renamed ns (suc k) (x ∷ xs) = mapped (λ ys. x ∷ ys) (λ ys h. (after (f x) (each f ys) (each f xs) h.0, ap suc h.1)) (renamed ns k xs)

-- types of values

fields_less : (k : ℕ) (fs : List Field) → Perhaps (AsMany labelvaltype fs) (member_renamed (λ f. f.0) pair_renamed k fs)
fields_less k fs = renamed (λ f. f.0) pair_renamed labelvaltype (λ f new h. before (text new) (text f.0) (valtype f.1) h) (map (λ f. f.0) fs) k fs

cases_less : (k : ℕ) (cs : List Case) → Perhaps (AsMany case cs) (member_renamed (λ c. c.0) pair_renamed k cs)
cases_less k cs =
    renamed (λ c. c.0) pair_renamed case (λ c new h. before (text new) (text c.0) (maybe_valtype c.1 ⊕ byte 0x00) h) (map (λ c. c.0) cs) k cs

labels_less : (k : ℕ) (ns : List (List ℕ)) → Perhaps (AsMany text ns) (member_renamed (λ n. n) label_renamed k ns)
labels_less k ns = renamed (λ n. n) label_renamed text (λ n new h. h) (map (λ n. n) ns) k ns

value_less : (k : ℕ) (t : DefValType) → Perhaps (Less defvaltype value_items t) (value_simplified k t)
value_less k (record_type fs) =
    mapped record_type (λ gs h. (after (byte 0x72) _ _ (listed labelvaltype fs gs h), omega (arith, h.1))) (fields_less k fs)
value_less k (variant_type cs) = mapped variant_type (λ ds h. (after (byte 0x71) _ _ (listed case cs ds h), omega (arith, h.1))) (cases_less k cs)
value_less k (primitive_type p) = nothing tt
value_less k (list_type v) = nothing tt
value_less k (tuple_type vs) = nothing tt
value_less k (option_type v) = nothing tt
value_less k (result_type ok err) = nothing tt
value_less k t = mapped _ (λ ms h. (after _ _ _ (listed text _ ms h), omega (arith, h.1))) (labels_less k _)

signature_less : (k : ℕ) (g : Signature) → Perhaps (Less functype signature_items g) (signature_simplified k g)
signature_less k g =
    mapped (λ ps. record g { params = ps })
    (λ ps h. (after (byte 0x40) _ _ (before _ _ (resultlist g.result) (listed labelvaltype g.params ps h)), omega (arith, h.1))) (fields_less k g.params)

-- one byte for another, and for more

byte_same : (n m : ℕ) → NoLonger (byte n) (byte m)
byte_same n m b e =
    let one : m ∷ [] ≡ b = let s : Some (m ∷ []) ≡ Some b = e in cc in
    let long = ap length one in
    (n ∷ [], refl, omega (arith, long))

bool_less : (t : DefValType) → Perhaps (Less defvaltype value_items t) (simpler_value t)
bool_less (primitive_type p) = either (is_bool p) (nothing tt) (gives bool (byte_same 0x7f (primvaltype p), omega arith))
bool_less t = gives bool (short_byte 0x7f _ _, omega arith)

-- types, and what they declare

entry_itself : (e : Entry) → Perhaps (Less entry entry_items e) (simpler_entry e)
entry_itself (defined t) = mapped defined (λ u h. h) (bool_less t)
entry_itself e = nothing tt

import_less : (b : Bool) (name new : List ℕ) (n : Unit {0}) (r : ComponentTypeRef) → NoLonger (text new) (text name)
    → NoLonger (decl b (import_decl new n r)) (decl b (import_decl name n r))
import_less true name new n r h = after (byte 0x03) _ _ (after (byte 0x00) _ _ (before _ _ (externdesc r) h))
import_less false name new n r h = same None

decl_itself : (b : Bool) (is es : List (List ℕ)) (d : Decl) → Perhaps (Less (decl b) decl_items d) (simpler_decl is es d)
decl_itself b is es (type_decl e) = mapped type_decl (λ f h. (after (byte 0x01) _ _ h.0, h.1)) (entry_itself e)
decl_itself b is es (import_decl name n r) =
    mapped (λ new. import_decl new n r) (λ new h. (import_less b name new n r h, omega arith)) (name_less is name)
decl_itself b is es (export_decl name n r) =
    mapped (λ new. export_decl new n r) (λ new h. (after (byte 0x04) _ _ (after (byte 0x00) _ _ (before _ _ (externdesc r) h)), omega arith))
    (name_less es name)
decl_itself b is es d = nothing tt

abbrev DeclsLess : Bool → Decls → Decls → Type 0
DeclsLess b ds es = NoLonger (decls b es) (decls b ds) × (decl_count es ≡ decl_count ds) × (decls_items es ≤ decls_items ds)

counted : (b : Bool) (ds es : Decls) → DeclsLess b ds es → NoLonger (u (decl_count es) ⊕ decls b es) (u (decl_count ds) ⊕ decls b ds)
counted b ds es h = glue _ _ _ _ (u_grow (decl_count es) (decl_count ds) (omega (arith, h.1))) h.0

mutual
  entry_less : (k : ℕ) (e : Entry) → Perhaps (Less entry entry_items e) (entry_simplified k e)
  entry_less k (defined t) = mapped defined (λ u h. h) (value_less k t)
  entry_less k (function g) = mapped function (λ u h. h) (signature_less k g)
  entry_less k (component_type ds) =
      mapped component_type (λ es h. (after (byte 0x41) _ _ (counted true ds es h), h.2))
      (decls_less true (names (decl_imports ds)) (names (decl_exports ds)) k ds)
  entry_less k (instance_type ds) =
      mapped instance_type (λ es h. (after (byte 0x42) _ _ (counted false ds es h), h.2))
      (decls_less false (names (decl_imports ds)) (names (decl_exports ds)) k ds)

  decl_less : (b : Bool) (k : ℕ) (d : Decl) → Perhaps (Less (decl b) decl_items d) (decl_simplified k d)
  decl_less b k (type_decl e) = mapped type_decl (λ f h. (after (byte 0x01) _ _ h.0, h.1)) (entry_less k e)
  decl_less b k d = nothing tt

  decls_less : (b : Bool) (is es : List (List ℕ)) (k : ℕ) (ds : Decls) → Perhaps (DeclsLess b ds) (decls_simplified is es k ds)
  decls_less b is es k no_decls = nothing tt
  decls_less b is es k (then_decls d ds) =
      either (nat_lt k (decl_items d + 1))
      (mapped (λ e. then_decls e ds) (λ e h. (before _ _ (decls b ds) h.0, refl, omega (arith, h.1))) (itself k (decl_itself b is es d) (λ j. decl_less b j d)))
      (mapped (λ fs. then_decls d fs) (λ fs h. (after (decl b d) _ _ h.0, ap (λ n. n + 1) h.1, omega (arith, h.2)))
      (decls_less b is es (k - (decl_items d + 1)) ds))

types_less : (k : ℕ) (es : List Entry) → Perhaps (λ fs. AsMany entry es fs × (row_items entry_items fs ≤ row_items entry_items es)) (types_simplified k es)
types_less k [] = nothing tt
types_less k (e ∷ es) =
    either (nat_lt k (entry_items e + 1))
    (mapped (λ f. f ∷ es) (λ f h. ((before _ _ (each entry es) h.0, refl), omega (arith, h.1))) (itself k (entry_itself e) (λ j. entry_less j e)))
    (mapped (λ fs. e ∷ fs) (λ fs h. ((after (entry e) _ _ h.0.0, ap suc h.0.1), omega (arith, h.1))) (types_less (k - (entry_items e + 1)) es))

-- sections

raw_empty : (q : Piece) → NoLonger (raw []) q
unfolding raw
raw_empty q b e = ([], refl, omega arith)

custom_itself : (name contents : List ℕ) → Perhaps (Less part part_items (section.custom name contents)) (simpler_custom name contents)
custom_itself name [] = nothing tt
custom_itself name (b ∷ bs) = gives (section.custom name []) (sized_grow 0 _ _ (after (text name) _ _ (raw_empty (raw (b ∷ bs)))), omega arith)

-- a core module begins with the preamble

pairs_few : (p bs : List ℕ) → pointwise nat_eq p bs ≡ true → length p ≤ length bs
pairs_few [] bs h = omega arith
pairs_few (c ∷ p) [] h = absurd cc
pairs_few (c ∷ p) (b ∷ bs) h = omega (arith, pairs_few p bs (and_parts (nat_eq c b) (pointwise nat_eq p bs) h).1)

module_by : (x : Bool) (bs b : List ℕ) → starts_with nat_eq bs core_preamble ≡ x → (if x then raw bs else None) ≡ Some b → 8 ≤ length b
module_by true bs b t e =
    let is : bs ≡ b = raw_is bs b e in
    rw (sym is) (omega (arith, pairs_few core_preamble (take (length core_preamble) bs) t, length-take (length core_preamble) bs))
module_by false bs b t e = absurd cc

module_long : (bs b : List ℕ) → embedded bs ≡ Some b → 8 ≤ length b
unfolding embedded
module_long bs b e = module_by (starts_with nat_eq bs core_preamble) bs b refl e

empty_is : embedded core_preamble ≡ Some core_preamble
unfolding embedded raw
empty_is = refl

part_itself : (p : Part) → Perhaps (Less part part_items p) (simpler_part p)
part_itself (section.custom name contents) = custom_itself name contents
part_itself (section.core_module bs) =
    either (bytes_eq bs core_preamble) (nothing tt)
    (gives (section.core_module core_preamble) (sized_grow 1 _ _ (λ b e. (core_preamble, empty_is, module_long bs b e)), omega arith))
part_itself p = nothing tt

mutual
  part_less : (is es : List (List ℕ)) (k : ℕ) (p : Part) → Perhaps (Less part part_items p) (part_simplified is es k p)
  part_less is es k (section.component t) =
      mapped section.component (λ v h. (sized_grow 4 _ _ (after (bytes preamble) _ _ h.0), h.1))
      (sections_less (import_names (imports_of t)) (export_names (exports_of t)) k t)
  part_less is es k (section.types ts) = mapped section.types (λ us h. (sized_grow 7 _ _ (listed entry ts us h.0), h.1)) (types_less k ts)
  part_less is es k (section.imports js) =
      mapped section.imports (λ us h. (sized_grow 10 _ _ (listed import_entry js us h), omega (arith, h.1)))
      (renamed (λ i. i.name) import_renamed import_entry (λ i new h. after (byte 0x00) _ _ (before _ _ (externdesc i.to) h)) is k js)
  part_less is es k (section.exports fs) =
      mapped section.exports (λ us h. (sized_grow 11 _ _ (listed export_entry fs us h), omega (arith, h.1)))
      (renamed (λ e. e.name) export_renamed export_entry (λ e new h. after (byte 0x00) _ _ (before _ _ (byte 0x01 ⊕ u e.func ⊕ byte 0x00) h)) es k fs)
  part_less is es k p = nothing tt

  sections_less : (is es : List (List ℕ)) (k : ℕ) (t : Tree) → Perhaps (Less parts tree_items t) (sections_simplified is es k t)
  sections_less is es k ends = nothing tt
  sections_less is es k (first p t) =
      either (nat_lt k (part_items p + 1))
      (mapped (λ q. first q t) (λ q h. (before _ _ (parts t) h.0, omega (arith, h.1))) (itself k (part_itself p) (λ j. part_less is es j p)))
      (mapped (λ w. first p w) (λ w h. (after (part p) _ _ h.0, omega (arith, h.1))) (sections_less is es (k - (part_items p + 1)) t))

-- a component in the component

kept : (p q q2 : Piece) → NoLonger p q → NoLonger p (q ⊕ q2)
kept p q q2 f b e =
    let c = parts_are q q2 b e in
    let (x, x_is, x_le) = f c.left c.p_is in
    let whole : length b ≡ length (c.left ++ c.right) = ap length c.is in
    (x, x_is, omega (arith, length-append c.left c.right, x_le, whole))

in_frame : (p q : Piece) → NoLonger p q → NoLonger p (framed q)
unfolding framed
in_frame p None h b e = absurd cc
in_frame p (Some x) h b e = dropped (u (length x)) p (Some x) h b e

in_section : (id : ℕ) (p q : Piece) → NoLonger p q → NoLonger p (sized id q)
in_section id p q h = dropped (byte id) p (framed q) (in_frame p q h)

mutual
  nested_less : (k : ℕ) (t : Tree) → Perhaps (λ v. NoLonger (component_text v) (parts t) × (tree_items v ≤ tree_items t)) (component_at k t)
  nested_less k ends = nothing tt
  nested_less k (first p t) =
      either (nat_lt k (part_items p + 1))
      (more (λ v h. (kept (component_text v) (part p) (parts t) h.0, omega (arith, h.1))) (inside_less k p))
      (more (λ v h. (dropped (part p) (component_text v) (parts t) h.0, omega (arith, h.1))) (nested_less (k - (part_items p + 1)) t))

  inside_less : (k : ℕ) (p : Part) → Perhaps (λ v. NoLonger (component_text v) (part p) × (tree_items v ≤ part_items p)) (component_in k p)
  inside_less k (section.component t) =
      itself k (gives t (in_section 4 (component_text t) (component_text t) (same (component_text t)), omega arith))
      (λ j. more (λ v h. (in_section 4 (component_text v) (component_text t) (dropped (bytes preamble) (component_text v) (parts t) h.0), h.1))
      (nested_less j t))
  inside_less k p = nothing tt

simplified_less : (k : ℕ) (t : Tree) → Perhaps (Less component_text tree_items t) (simplified k t)
simplified_less k t =
    first_of (more (λ v h. (dropped (bytes preamble) (component_text v) (parts t) h.0, h.1)) (nested_less k t))
    (more (λ v h. (after (bytes preamble) (parts v) (parts t) h.0, h.1)) (sections_less (import_names (imports_of t)) (export_names (exports_of t)) k t))

pub simplified_shorter : (k : ℕ) (t s : Tree) → simplified k t ≡ Some s → NoLonger (component_text s) (component_text t)
simplified_shorter k t s e = (given s (simplified_less k t) e).0

pub simplified_fewer : (k : ℕ) (t s : Tree) → simplified k t ≡ Some s → tree_items s ≤ tree_items t
simplified_fewer k t s e = (given s (simplified_less k t) e).1
