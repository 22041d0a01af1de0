-- No bytes begin with two types, with two declarations of a type, or with two imports.
use Rattle.std.proofs.Common.{◌≡◌, ℕ, Bool, true, false, List, [], ◌∷◌, ◌++◌, refl, ap, sym, ◌∙◌, arith, Some, None}
use Rattle.smith_format.specs.Clear.{Agree, IsClear}
use Rattle.smith_format.specs.Piece.{Piece, ◌⊕◌, bytes, text, many, u}
use Rattle.smith_format.proofs.Clear.{then_head, then_tail, then_agree, clash, clear_text, clear_u, clear_both}
use Rattle.smith_format.proofs.Piece.{assoc, left_nil, left_none}
use Rattle.smith_syntax.specs.Entries.{Entry, ImportEntry, defined, function, component_type, instance_type}
use Rattle.smith_syntax.specs.Entries.{Decl, Decls, core_type_decl, type_decl, type_alias, core_type_alias, import_decl, export_decl, no_decls, then_decls}
use Rattle.smith_syntax.specs.Entries.{decl_count}
use Rattle.smith_syntax.specs.Grammar.{labelvaltype, resultlist, core_entry, externdesc, named_extern, importdecl, import_entry, entry, decl, decls}
use Rattle.smith_syntax.specs.declared.deftype.ComponentTypeRef.{ComponentTypeRef}
use Rattle.smith_syntax.specs.declared.deftype.ComponentTypeRef.TheVariants as to
use Rattle.smith_syntax.proofs.Clear.{clear_defined, clear_functype, clear_core_entry, clear_alias, tag, tag_range, tagged}

-- imports and exports

-- the first byte of what one is of
abbrev ref_tag : ComponentTypeRef → ℕ
ref_tag (to.Module i) = 0x00
ref_tag (to.Func i) = 0x01
ref_tag (to.TypeEq i) = 0x03
ref_tag (to.Component i) = 0x04
ref_tag (to.Instance i) = 0x05

ref_tagged : (x : ComponentTypeRef) (p : Piece) (b : List ℕ) → externdesc x ⊕ p ≡ Some b → (t : List ℕ) × (b ≡ ref_tag x ∷ t)
ref_tagged (to.Module i) p b e = then_head 0x00 (0x11 ∷ []) (u i) p b e
ref_tagged (to.Func i) p b e = then_head 0x01 [] (u i) p b e
ref_tagged (to.TypeEq i) p b e = then_head 0x03 (0x00 ∷ []) (u i) p b e
ref_tagged (to.Component i) p b e = then_head 0x04 [] (u i) p b e
ref_tagged (to.Instance i) p b e = then_head 0x05 [] (u i) p b e

-- an index after bytes that say what it is of
index_law : (first : List ℕ) (of : ℕ → ComponentTypeRef) (i j : ℕ) (p q : Piece) (b : List ℕ) → (bytes first ⊕ u i) ⊕ p ≡ Some b
    → (bytes first ⊕ u j) ⊕ q ≡ Some b → Agree (of i) (of j) p q
index_law first of i j p q b e h = grind (arith, then_tail, clear_u)

ref_law : (x y : ComponentTypeRef) (p q : Piece) (b : List ℕ) → externdesc x ⊕ p ≡ Some b → externdesc y ⊕ q ≡ Some b → Agree x y p q
ref_law (to.Module i) (to.Module j) p q b e h = index_law (0x00 ∷ 0x11 ∷ []) to.Module i j p q b e h
ref_law (to.Func i) (to.Func j) p q b e h = index_law (0x01 ∷ []) to.Func i j p q b e h
ref_law (to.TypeEq i) (to.TypeEq j) p q b e h = index_law (0x03 ∷ 0x00 ∷ []) to.TypeEq i j p q b e h
ref_law (to.Component i) (to.Component j) p q b e h = index_law (0x04 ∷ []) to.Component i j p q b e h
ref_law (to.Instance i) (to.Instance j) p q b e h = index_law (0x05 ∷ []) to.Instance i j p q b e h
ref_law x y p q b e h = let c = clash _ _ b (ref_tagged x p b e) (ref_tagged y q b h) in absurd (omega arith)

pub clear_externdesc : IsClear externdesc
clear_externdesc = record { law = ref_law }

clear_named : IsClear (λ (x : List ℕ × ComponentTypeRef). text x.0 ⊕ externdesc x.1)
clear_named = clear_both text clear_text externdesc clear_externdesc

named_law : (x y : List ℕ × ComponentTypeRef) (p q : Piece) (b : List ℕ) → named_extern x.0 x.1 ⊕ p ≡ Some b → named_extern y.0 y.1 ⊕ q ≡ Some b → Agree x y p q
named_law x y p q b e h =
    let t = then_tail (0x00 ∷ []) (text x.0 ⊕ externdesc x.1) (text y.0 ⊕ externdesc y.1) p q b e h in
    clear_named.law x y p q t.rest t.first t.second

pub clear_named_extern : IsClear (λ (x : List ℕ × ComponentTypeRef). named_extern x.0 x.1)
clear_named_extern = record { law = named_law }

component_import_law : (x y : ImportEntry) (p q : Piece) (b : List ℕ) → import_entry x ⊕ p ≡ Some b → import_entry y ⊕ q ≡ Some b → Agree x y p q
component_import_law x y p q b e h =
    let r = named_law (x.name, x.to) (y.name, y.to) p q b e h in
    record { same = ap (λ z. record { name = z.0; to = z.1 }) r.same; rests = r.rests }

pub clear_import_entry : IsClear import_entry
clear_import_entry = record { law = component_import_law }

-- types

-- the first byte of a type
abbrev entry_tag : Entry → ℕ
entry_tag (defined t) = tag t
entry_tag (function s) = 0x40
entry_tag (component_type ds) = 0x41
entry_tag (instance_type ds) = 0x42

entry_tagged : (x : Entry) (p : Piece) (b : List ℕ) → entry x ⊕ p ≡ Some b → (t : List ℕ) × (b ≡ entry_tag x ∷ t)
entry_tagged (defined t) p b e = tagged t p b e
entry_tagged (function s) p b e = then_head 0x40 [] (many labelvaltype s.params ⊕ resultlist s.result) p b e
entry_tagged (component_type ds) p b e = then_head 0x41 [] (u (decl_count ds) ⊕ decls true ds) p b e
entry_tagged (instance_type ds) p b e = then_head 0x42 [] (u (decl_count ds) ⊕ decls false ds) p b e

same_tag : (x y : Entry) (p q : Piece) (b : List ℕ) → entry x ⊕ p ≡ Some b → entry y ⊕ q ≡ Some b → entry_tag x ≡ entry_tag y
same_tag x y p q b e h = clash _ _ b (entry_tagged x p b e) (entry_tagged y q b h)

-- the first byte of a declaration
abbrev decl_tag : Decl → ℕ
decl_tag (core_type_decl t k) = 0x00
decl_tag (type_decl e) = 0x01
decl_tag (type_alias count i k) = 0x02
decl_tag (core_type_alias count i k) = 0x02
decl_tag (import_decl name n r) = 0x03
decl_tag (export_decl name n r) = 0x04

import_tagged : (importing : Bool) (name : List ℕ) (r : ComponentTypeRef) (p : Piece) (b : List ℕ) → importdecl importing name r ⊕ p ≡ Some b
    → (t : List ℕ) × (b ≡ 0x03 ∷ t)
import_tagged true name r p b e = then_head 0x03 [] (named_extern name r) p b e
import_tagged false name r p b e = let z : None ≡ Some b = sym (left_none p) ∙ e in cc

decl_tagged : (importing : Bool) (x : Decl) (p : Piece) (b : List ℕ) → decl importing x ⊕ p ≡ Some b → (t : List ℕ) × (b ≡ decl_tag x ∷ t)
decl_tagged importing (core_type_decl t k) p b e = then_head 0x00 [] (core_entry t) p b e
decl_tagged importing (type_decl t) p b e = then_head 0x01 [] (entry t) p b e
decl_tagged importing (type_alias count i k) p b e = then_head 0x02 (0x03 ∷ 0x02 ∷ []) (u count ⊕ u i) p b e
decl_tagged importing (core_type_alias count i k) p b e = then_head 0x02 (0x00 ∷ 0x10 ∷ 0x02 ∷ []) (u count ⊕ u i) p b e
decl_tagged importing (import_decl name n r) p b e = import_tagged importing name r p b e
decl_tagged importing (export_decl name n r) p b e = then_head 0x04 [] (named_extern name r) p b e

same_decl_tag : (importing : Bool) (x y : Decl) (p q : Piece) (b : List ℕ) → decl importing x ⊕ p ≡ Some b → decl importing y ⊕ q ≡ Some b
    → decl_tag x ≡ decl_tag y
same_decl_tag importing x y p q b e h = clash _ _ b (decl_tagged importing x p b e) (decl_tagged importing y q b h)

-- the second byte distinguishes an alias of a type from one of a core type
aliases_differ : (x y p q : Piece) (b : List ℕ) → (bytes (0x02 ∷ 0x03 ∷ 0x02 ∷ []) ⊕ x) ⊕ p ≡ Some b → (bytes (0x02 ∷ 0x00 ∷ 0x10 ∷ 0x02 ∷ []) ⊕ y) ⊕ q ≡ Some b
    → ⊥
unfolding ◌⊕◌
aliases_differ (Some x) (Some y) (Some p) (Some q) b e h = let z : bytes (0x02 ∷ 0x03 ∷ 0x02 ∷ (x ++ p)) ≡ bytes (0x02 ∷ 0x00 ∷ 0x10 ∷ 0x02 ∷ (y ++ q)) = e
    ∙ sym h in absurd (cc)
aliases_differ x y p q b e h = absurd (cc)

import_law : (importing : Bool) (x y : List ℕ × ComponentTypeRef) (p q : Piece) (b : List ℕ) → importdecl importing x.0 x.1 ⊕ p ≡ Some b
    → importdecl importing y.0 y.1 ⊕ q ≡ Some b → Agree x y p q
import_law true x y p q b e h =
    let t = then_tail (0x03 ∷ []) (named_extern x.0 x.1) (named_extern y.0 y.1) p q b e h in
    named_law x y p q t.rest t.first t.second
import_law false x y p q b e h = let z : None ≡ Some b = sym (left_none p) ∙ e in cc

mutual
  entry_law : (x y : Entry) (p q : Piece) (b : List ℕ) → entry x ⊕ p ≡ Some b → entry y ⊕ q ≡ Some b → Agree x y p q
  entry_law (defined x) (defined y) p q b e h = let r = clear_defined.law x y p q b e h in record { same = ap defined r.same; rests = r.rests }
  entry_law (function s) (function t) p q b e h = let r = clear_functype.law s t p q b e h in record { same = ap function r.same; rests = r.rests }
  entry_law (component_type ds) (component_type es) p q b e h =
      let t = then_tail (0x41 ∷ []) (u (decl_count ds) ⊕ decls true ds) (u (decl_count es) ⊕ decls true es) p q b e h in
      let z = then_agree u clear_u (decl_count ds) (decl_count es) (decls true ds) (decls true es) p q t.rest t.first t.second in
      let r = decls_law true ds es p q z.rests.rest z.same z.rests.first z.rests.second in record { same = ap component_type r.same; rests = r.rests }
  entry_law (instance_type ds) (instance_type es) p q b e h =
      let t = then_tail (0x42 ∷ []) (u (decl_count ds) ⊕ decls false ds) (u (decl_count es) ⊕ decls false es) p q b e h in
      let z = then_agree u clear_u (decl_count ds) (decl_count es) (decls false ds) (decls false es) p q t.rest t.first t.second in
      let r = decls_law false ds es p q z.rests.rest z.same z.rests.first z.rests.second in record { same = ap instance_type r.same; rests = r.rests }
  entry_law (defined x) y p q b e h = let c = same_tag (defined x) y p q b e h in let r = tag_range x in absurd (omega (arith, r))
  entry_law x (defined y) p q b e h = let c = same_tag x (defined y) p q b e h in let r = tag_range y in absurd (omega (arith, r))
  entry_law x y p q b e h = let c = same_tag x y p q b e h in absurd (omega arith)

  decl_law : (importing : Bool) (x y : Decl) (p q : Piece) (b : List ℕ) → decl importing x ⊕ p ≡ Some b → decl importing y ⊕ q ≡ Some b → Agree x y p q
  decl_law importing (core_type_decl x k) (core_type_decl y l) p q b e h =
      let t = then_tail (0x00 ∷ []) (core_entry x) (core_entry y) p q b e h in
      let r = clear_core_entry.law x y p q t.rest t.first t.second in record { same = ap (λ z. core_type_decl z k) r.same; rests = r.rests }
  decl_law importing (type_decl x) (type_decl y) p q b e h =
      let t = then_tail (0x01 ∷ []) (entry x) (entry y) p q b e h in
      let r = entry_law x y p q t.rest t.first t.second in record { same = ap type_decl r.same; rests = r.rests }
  decl_law importing (type_alias c i k) (type_alias d j l) p q b e h =
      let t = then_tail (0x02 ∷ 0x03 ∷ 0x02 ∷ []) (u c ⊕ u i) (u d ⊕ u j) p q b e h in
      let r = clear_alias.law (c, i) (d, j) p q t.rest t.first t.second in record { same = ap (λ z. type_alias z.0 z.1 k) r.same; rests = r.rests }
  decl_law importing (core_type_alias c i k) (core_type_alias d j l) p q b e h =
      let t = then_tail (0x02 ∷ 0x00 ∷ 0x10 ∷ 0x02 ∷ []) (u c ⊕ u i) (u d ⊕ u j) p q b e h in
      let r = clear_alias.law (c, i) (d, j) p q t.rest t.first t.second in record { same = ap (λ z. core_type_alias z.0 z.1 k) r.same; rests = r.rests }
  decl_law importing (type_alias c i k) (core_type_alias d j l) p q b e h = absurd (aliases_differ (u c ⊕ u i) (u d ⊕ u j) p q b e h)
  decl_law importing (core_type_alias c i k) (type_alias d j l) p q b e h = absurd (aliases_differ (u d ⊕ u j) (u c ⊕ u i) q p b h e)
  decl_law importing (import_decl name n r) (import_decl other m s) p q b e h =
      let z = import_law importing (name, r) (other, s) p q b e h in record { same = ap (λ x. import_decl x.0 n x.1) z.same; rests = z.rests }
  decl_law importing (export_decl name n r) (export_decl other m s) p q b e h =
      let t = then_tail (0x04 ∷ []) (named_extern name r) (named_extern other s) p q b e h in
      let z = named_law (name, r) (other, s) p q t.rest t.first t.second in record { same = ap (λ x. export_decl x.0 n x.1) z.same; rests = z.rests }
  decl_law importing x y p q b e h = let c = same_decl_tag importing x y p q b e h in absurd (omega arith)

  decls_law : (importing : Bool) (ds es : Decls) (p q : Piece) (b : List ℕ) → decl_count ds ≡ decl_count es → decls importing ds ⊕ p ≡ Some b
      → decls importing es ⊕ q ≡ Some b → Agree ds es p q
  decls_law importing no_decls no_decls p q b n e h = record
      { same = refl; rests = record { rest = b; first = sym (left_nil p) ∙ e; second = sym (left_nil q) ∙ h } }
  decls_law importing no_decls (then_decls d es) p q b n e h = absurd (omega arith)
  decls_law importing (then_decls d ds) no_decls p q b n e h = absurd (omega arith)
  decls_law importing (then_decls d ds) (then_decls c es) p q b n e h =
      let a = decl_law importing d c (decls importing ds ⊕ p) (decls importing es ⊕ q) b (sym (assoc (decl importing d) (decls importing ds) p) ∙ e)
      (sym (assoc (decl importing c) (decls importing es) q) ∙ h) in
      let m : decl_count ds ≡ decl_count es = omega arith in
      let r = decls_law importing ds es p q a.rests.rest m a.rests.first a.rests.second in
      record { same = λ i. then_decls (a.same i) (r.same i); rests = r.rests }

pub clear_entry : IsClear entry
clear_entry = record { law = entry_law }
