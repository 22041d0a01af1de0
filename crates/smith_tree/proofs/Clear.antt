-- No bytes have two readings.
use Rattle.std.proofs.Common.{◌≡◌, ℕ, List, [], ◌∷◌, refl, ap, sym, ◌∙◌, arith, Some, None, Bool, true, false, cond, nat_eq, ◌↔◌, subst}
use Rattle.std.specs.List.{starts_with}
use Rattle.smith_format.specs.Clear.{Agree, IsClear, IsExact}
use Rattle.smith_core.specs.Preamble.{core_preamble}
use Rattle.smith_format.specs.Piece.{Piece, ◌⊕◌, byte, bytes, raw, text, many, u}
use Rattle.smith_format.proofs.Clear.{tail, then_head, then_tail, then_agree, clash, exact, exact_both, exact_raw, clear_u, clear_text, clear_many}
use Rattle.smith_format.proofs.Clear.{same_section, section_head}
use Rattle.smith_format.proofs.Piece.{raw_whole}
use Rattle.smith_syntax.specs.Grammar.{entry, core_entry, import_entry}
use Rattle.smith_syntax.proofs.Clear.{clear_core_entry}
use Rattle.smith_syntax.proofs.ClearTypes.{clear_entry, clear_import_entry}
use Rattle.smith_tree.specs.Grammar.{preamble, embedded, canon, export_entry, part, parts, Spells}
use Rattle.smith_tree.specs.Tree.{Canon, ExportEntry, lift, lower, Part, Tree, ends, first, custom, core_module, core_types, component, types}
use Rattle.smith_tree.specs.Tree.{canons, imports, exports}

-- the first byte of a canonical function
abbrev canon_tag : Canon → ℕ
canon_tag (lift c t) = 0x00
canon_tag (lower f) = 0x01

canon_tagged : (x : Canon) (p : Piece) (b : List ℕ) → canon x ⊕ p ≡ Some b → (t : List ℕ) × (b ≡ canon_tag x ∷ t)
canon_tagged (lift c t) p b e = then_head 0x00 (0x00 ∷ []) (u c ⊕ byte 0x00 ⊕ u t) p b e
canon_tagged (lower f) p b e = then_head 0x01 (0x00 ∷ []) (u f ⊕ byte 0x00) p b e

canon_law : (x y : Canon) (p q : Piece) (b : List ℕ) → canon x ⊕ p ≡ Some b → canon y ⊕ q ≡ Some b → Agree x y p q
canon_law (lift c t) (lift d r) p q b e h =
    let x = then_tail (0x00 ∷ 0x00 ∷ []) (u c ⊕ byte 0x00 ⊕ u t) (u d ⊕ byte 0x00 ⊕ u r) p q b e h in
    let y = then_agree u clear_u c d (byte 0x00 ⊕ u t) (byte 0x00 ⊕ u r) p q x.rest x.first x.second in
    let z = then_tail (0x00 ∷ []) (u t) (u r) p q y.rests.rest y.rests.first y.rests.second in
    let w = clear_u.law t r p q z.rest z.first z.second in record { same = λ i. lift (y.same i) (w.same i); rests = w.rests }
canon_law (lower f) (lower g) p q b e h =
    let x = then_tail (0x01 ∷ 0x00 ∷ []) (u f ⊕ byte 0x00) (u g ⊕ byte 0x00) p q b e h in
    let y = then_agree u clear_u f g (byte 0x00) (byte 0x00) p q x.rest x.first x.second in
    record { same = ap lower y.same; rests = tail (0x00 ∷ []) p q y.rests.rest y.rests.first y.rests.second }
canon_law x y p q b e h = let c = clash _ _ b (canon_tagged x p b e) (canon_tagged y q b h) in absurd (omega arith)

clear_canon : IsClear canon
clear_canon = record { law = canon_law }

export_law : (x y : ExportEntry) (p q : Piece) (b : List ℕ) → export_entry x ⊕ p ≡ Some b → export_entry y ⊕ q ≡ Some b → Agree x y p q
export_law x y p q b e h =
    let a = then_tail (0x00 ∷ []) (text x.name ⊕ byte 0x01 ⊕ u x.func ⊕ byte 0x00) (text y.name ⊕ byte 0x01 ⊕ u y.func ⊕ byte 0x00) p q b e h in
    let n = then_agree text clear_text x.name y.name (byte 0x01 ⊕ u x.func ⊕ byte 0x00) (byte 0x01 ⊕ u y.func ⊕ byte 0x00) p q a.rest a.first a.second in
    let c = then_tail (0x01 ∷ []) (u x.func ⊕ byte 0x00) (u y.func ⊕ byte 0x00) p q n.rests.rest n.rests.first n.rests.second in
    let f = then_agree u clear_u x.func y.func (byte 0x00) (byte 0x00) p q c.rest c.first c.second in
    record { same = λ i. record { name = n.same i; func = f.same i }; rests = tail (0x00 ∷ []) p q f.rests.rest f.rests.first f.rests.second }

clear_export : IsClear export_entry
clear_export = record { law = export_law }

guard : (x : Bool) (t b : List ℕ) → cond x (raw t) None ≡ Some b → t ≡ b
guard true t b e = raw_whole t b e
guard false t b e = cc

pub embedded_whole : (t b : List ℕ) → embedded t ≡ Some b → t ≡ b
unfolding embedded
embedded_whole t b e = guard (starts_with nat_eq t core_preamble) t b e

custom_law : IsExact (λ (x : List ℕ × List ℕ). text x.0 ⊕ raw x.1)
custom_law = exact_both text raw clear_text exact_raw

-- the id of a part's section
abbrev part_tag : Part → ℕ
part_tag (custom n c) = 0
part_tag (core_module m) = 1
part_tag (core_types ts) = 3
part_tag (component t) = 4
part_tag (types ts) = 7
part_tag (canons fs) = 8
part_tag (imports is) = 10
part_tag (exports es) = 11

part_tagged : (x : Part) (p : Piece) (b : List ℕ) → part x ⊕ p ≡ Some b → (t : List ℕ) × (b ≡ part_tag x ∷ t)
part_tagged (custom n c) p b e = section_head 0 (text n ⊕ raw c) p b e
part_tagged (core_module m) p b e = section_head 1 (embedded m) p b e
part_tagged (core_types ts) p b e = section_head 3 (many core_entry ts) p b e
part_tagged (component t) p b e = section_head 4 (bytes preamble ⊕ parts t) p b e
part_tagged (types ts) p b e = section_head 7 (many entry ts) p b e
part_tagged (canons fs) p b e = section_head 8 (many canon fs) p b e
part_tagged (imports is) p b e = section_head 10 (many import_entry is) p b e
part_tagged (exports es) p b e = section_head 11 (many export_entry es) p b e

same_part_tag : (x y : Part) (p q : Piece) (b : List ℕ) → part x ⊕ p ≡ Some b → part y ⊕ q ≡ Some b → part_tag x ≡ part_tag y
same_part_tag x y p q b e h = clash _ _ b (part_tagged x p b e) (part_tagged y q b h)

mutual
  part_law : (x y : Part) (p q : Piece) (b : List ℕ) → part x ⊕ p ≡ Some b → part y ⊕ q ≡ Some b → Agree x y p q
  part_law (custom n c) (custom m d) p q b e h =
      let t = same_section 0 (text n ⊕ raw c) (text m ⊕ raw d) p q b e h in
      let r = custom_law.law (n, c) (m, d) t.contents t.first t.second in
      record { same = ap (λ x. custom x.0 x.1) r; rests = t.rests }
  part_law (core_module m) (core_module n) p q b e h =
      let t = same_section 1 (embedded m) (embedded n) p q b e h in
      record { same = ap core_module (embedded_whole m t.contents t.first ∙ sym (embedded_whole n t.contents t.second)); rests = t.rests }
  part_law (core_types ts) (core_types us) p q b e h =
      let t = same_section 3 (many core_entry ts) (many core_entry us) p q b e h in
      record {
        same = ap core_types ((exact (many core_entry) (clear_many core_entry clear_core_entry)).law ts us t.contents t.first t.second);
        rests = t.rests;
      }
  part_law (component t) (component r) p q b e h =
      let x = same_section 4 (bytes preamble ⊕ parts t) (bytes preamble ⊕ parts r) p q b e h in
      let y = tail preamble (parts t) (parts r) x.contents x.first x.second in
      record { same = ap component (parts_law t r y.rest y.first y.second); rests = x.rests }
  part_law (types ts) (types us) p q b e h =
      let t = same_section 7 (many entry ts) (many entry us) p q b e h in
      record { same = ap types ((exact (many entry) (clear_many entry clear_entry)).law ts us t.contents t.first t.second); rests = t.rests }
  part_law (canons fs) (canons gs) p q b e h =
      let t = same_section 8 (many canon fs) (many canon gs) p q b e h in
      record { same = ap canons ((exact (many canon) (clear_many canon clear_canon)).law fs gs t.contents t.first t.second); rests = t.rests }
  part_law (imports is) (imports js) p q b e h =
      let t = same_section 10 (many import_entry is) (many import_entry js) p q b e h in
      record {
        same = ap imports ((exact (many import_entry) (clear_many import_entry clear_import_entry)).law is js t.contents t.first t.second);
        rests = t.rests;
      }
  part_law (exports es) (exports fs) p q b e h =
      let t = same_section 11 (many export_entry es) (many export_entry fs) p q b e h in
      record {
        same = ap exports ((exact (many export_entry) (clear_many export_entry clear_export)).law es fs t.contents t.first t.second);
        rests = t.rests;
      }
  part_law x y p q b e h = let c = same_part_tag x y p q b e h in absurd (omega arith)

  parts_law : (t r : Tree) (b : List ℕ) → parts t ≡ Some b → parts r ≡ Some b → t ≡ r
  parts_law ends ends b e h = refl
  parts_law ends (first y r) b e h = let z = (part_tagged y (parts r) b h).1 in cc
  parts_law (first x t) ends b e h = let z = (part_tagged x (parts t) b e).1 in cc
  parts_law (first x t) (first y r) b e h =
      let a = part_law x y (parts t) (parts r) b e h in
      let z = parts_law t r a.rests.rest a.rests.first a.rests.second in λ i. first (a.same i) (z i)

pub spells_law : (t r : Tree) (b : List ℕ) → Spells t b → Spells r b → t ≡ r
spells_law t r b e h = let x = tail preamble (parts t) (parts r) b e h in parts_law t r x.rest x.first x.second

-- the bytes of a component are read as that alone
pub spells_only : (c : Tree) (b : List ℕ) → Spells c b → (t : Tree) → Spells t b ↔ (t ≡ c)
spells_only c b e t = (λ h. spells_law t c b h e, λ h. let P : Tree → Type 0 = λ x. Spells x b in subst P (sym h) e)
