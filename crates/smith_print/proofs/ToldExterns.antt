-- How canonical functions, imports and exports of types are told apart.
use Rattle.std.proofs.Common.{◌≡◌, ℕ, ◌+◌, ◌*◌, List, [], ◌∷◌, ◌++◌, get_or, ap, sym, ◌∙◌, append_assoc, arith, lit<}
use Rattle.std.proofs.lemmas.List.{append_cancel_left}
use Rattle.std.specs.Prelude.{codes, decimal}
use Rattle.smith_format.specs.Piece.{◌⊕◌, byte, bytes, text, u}
use Rattle.smith_syntax.specs.Grammar.{externdesc, named_extern}
use Rattle.smith_syntax.specs.declared.deftype.ComponentTypeRef.{ComponentTypeRef}
use Rattle.smith_syntax.specs.declared.deftype.ComponentTypeRef.TheVariants as to
use Rattle.smith_tree.specs.Grammar.{canon}
use Rattle.smith_tree.specs.Tree.{Canon, lift, lower}
use Rattle.smith_print.specs.Externs.{bound_of, canon_text, export_text, import_text, sort_of, type_of}
use Rattle.smith_print.specs.Spaces.{extern_index}
use Rattle.smith_print.specs.Words.{quoted}
use Rattle.smith_print.specs.declared.spaces.IndexSpaces.{IndexSpaces}
use Rattle.smith_print.proofs.Apart.{AreBytes}
use Rattle.smith_print.proofs.Encoded
use Rattle.smith_print.proofs.Encoded.{IsEncoded, back, index_number, text_bytes}
use Rattle.smith_print.proofs.Told.{Anything, IsNumber, Told, after, both, ended, numbers, past_numbers, same}
use Rattle.smith_print.proofs.ToldValues.{strings}

type_number : (r : ComponentTypeRef) → IsEncoded (externdesc r) → IsNumber (type_of r)
type_number (to.Module i) t = index_number i (back (bytes (0x00 ∷ 0x11 ∷ [])) (u i) t)
type_number (to.Func i) t = index_number i (back (byte 0x01) (u i) t)
type_number (to.TypeEq i) t = index_number i (back (bytes (0x03 ∷ 0x00 ∷ [])) (u i) t)
type_number (to.Component i) t = index_number i (back (byte 0x04) (u i) t)
type_number (to.Instance i) t = index_number i (back (byte 0x05) (u i) t)

pub extern_encoded : (name : List ℕ) (r : ComponentTypeRef) → IsEncoded (named_extern name r) → AreBytes name × IsNumber (type_of r)
extern_encoded name r t =
    let z = back (byte 0x00) (text name ⊕ externdesc r) t in
    (text_bytes name (Encoded.front (text name) (externdesc r) z), type_number r (back (text name) (externdesc r) z))

-- the last index
last : Told IsNumber Anything (λ i. decimal i ++ codes ")))")
last = ended numbers (codes ")))") (λ x. lit< tt)

-- ---- imports

-- what follows the name of an import
abbrev import_end : ComponentTypeRef → IndexSpaces → List ℕ
import_end r s =
    codes " (" ++ (sort_of r ++ (codes " (;" ++ (decimal (extern_index r s) ++ (codes ";) (" ++ (bound_of r ++ (decimal (type_of r) ++ codes ")))"))))))

imported : (sort : List ℕ) (next : ℕ) (bound : List ℕ) → Told IsNumber Anything
    (λ i. codes " (" ++ (sort ++ (codes " (;" ++ (decimal next ++ (codes ";) (" ++ (bound ++ (decimal i ++ codes ")))")))))))
imported sort next bound = after (after (after (after (after (after last bound) (codes ";) (")) (decimal next)) (codes " (;")) sort) (codes " (")

import_end_law : (s : IndexSpaces) (a b : ComponentTypeRef) (x y : List ℕ) → IsNumber (type_of a) → IsNumber (type_of b)
    → import_end a s ++ x ≡ import_end b s ++ y → (a ≡ b) × (x ≡ y)
import_end_law s (to.Module i) (to.Module j) x y p q e = same to.Module ((imported (codes "core module") s.modules (codes "type ")).law i j x y p q tt tt e)
import_end_law s (to.Func i) (to.Func j) x y p q e = same to.Func ((imported (codes "func") s.functions (codes "type ")).law i j x y p q tt tt e)
import_end_law s (to.TypeEq i) (to.TypeEq j) x y p q e = same to.TypeEq ((imported (codes "type") s.types (codes "eq ")).law i j x y p q tt tt e)
import_end_law s (to.Component i) (to.Component j) x y p q e =
    same to.Component ((imported (codes "component") s.components (codes "type ")).law i j x y p q tt tt e)
import_end_law s (to.Instance i) (to.Instance j) x y p q e =
    same to.Instance ((imported (codes "instance") s.instances (codes "type ")).law i j x y p q tt tt e)
import_end_law s a b x y p q e = absurd (omega (arith, ap (λ l. get_or l 2 0 + 256 * get_or l 4 0) e))

abbrev pub Extern : Type 0
Extern = List ℕ × ComponentTypeRef

abbrev pub IsFine : Extern → Type 0
IsFine i = AreBytes i.0 × IsNumber (type_of i.1)

pub imports_told : (s : IndexSpaces) → Told IsFine Anything (λ i. import_text i.0 i.1 s)
imports_told s = after (both strings ends (λ r x _ _. tt)) (codes "(import ")
  where
    ends : Told (λ r. IsNumber (type_of r)) Anything (λ r. import_end r s)
    ends = record { law = λ a b x y p q _ _ e. import_end_law s a b x y p q e }

-- ---- exports of types

abbrev export_end : ComponentTypeRef → List ℕ
export_end r = codes " (" ++ (sort_of r ++ (codes " (" ++ (bound_of r ++ (decimal (type_of r) ++ codes ")))"))))

exported : (sort bound : List ℕ) → Told IsNumber Anything (λ i. codes " (" ++ (sort ++ (codes " (" ++ (bound ++ (decimal i ++ codes ")))")))))
exported sort bound = after (after (after (after last bound) (codes " (")) sort) (codes " (")

export_end_law : (a b : ComponentTypeRef) (x y : List ℕ) → IsNumber (type_of a) → IsNumber (type_of b) → Unit {0} → Unit {0}
    → export_end a ++ x ≡ export_end b ++ y → (a ≡ b) × (x ≡ y)
export_end_law (to.Module i) (to.Module j) x y p q _ _ e = same to.Module ((exported (codes "core module") (codes "type ")).law i j x y p q tt tt e)
export_end_law (to.Func i) (to.Func j) x y p q _ _ e = same to.Func ((exported (codes "func") (codes "type ")).law i j x y p q tt tt e)
export_end_law (to.TypeEq i) (to.TypeEq j) x y p q _ _ e = same to.TypeEq ((exported (codes "type") (codes "eq ")).law i j x y p q tt tt e)
export_end_law (to.Component i) (to.Component j) x y p q _ _ e = same to.Component ((exported (codes "component") (codes "type ")).law i j x y p q tt tt e)
export_end_law (to.Instance i) (to.Instance j) x y p q _ _ e = same to.Instance ((exported (codes "instance") (codes "type ")).law i j x y p q tt tt e)
export_end_law a b x y p q _ _ e = absurd (omega (arith, ap (λ l. get_or l 2 0 + 256 * get_or l 4 0) e))

export_rests : Told IsFine Anything (λ i. codes ") " ++ (quoted i.0 ++ export_end i.1))
export_rests = after (both strings ends (λ r x _ _. tt)) (codes ") ")
  where
    ends : Told (λ r. IsNumber (type_of r)) Anything export_end
    ends = record { law = export_end_law }

pub exports_told : (s : IndexSpaces) → Told IsFine Anything (λ i. export_text i.0 i.1 s)
exports_told s = record { law = law }
  where
    rest : Extern → List ℕ
    rest i = codes ") " ++ (quoted i.0 ++ export_end i.1)

    split : (i : Extern) (x : List ℕ) → export_text i.0 i.1 s ++ x ≡ codes "(export (;" ++ (decimal (extern_index i.1 s) ++ (59 ∷ (rest i ++ x)))
    split i x = ap (λ l. codes "(export (;" ++ l) (append_assoc (decimal (extern_index i.1 s)) (59 ∷ rest i) x)

    law : (a b : Extern) (x y : List ℕ) → IsFine a → IsFine b → Unit {0} → Unit {0} → export_text a.0 a.1 s ++ x ≡ export_text b.0 b.1 s ++ y
        → (a ≡ b) × (x ≡ y)
    law a b x y p q _ _ e =
        export_rests.law a b x y p q tt tt (past_numbers (extern_index a.1 s) (extern_index b.1 s) (rest a ++ x) (rest b ++ y)
        (append_cancel_left (codes "(export (;") (decimal (extern_index a.1 s) ++ (59 ∷ (rest a ++ x))) (decimal (extern_index b.1 s) ++ (59 ∷ (rest b ++ y)))
        (sym (split a x) ∙ e ∙ split b y)))

-- ---- canonical functions

lifts : (s : IndexSpaces) → Told (λ (l : ℕ × ℕ). IsNumber l.0 × IsNumber l.1) Anything (λ l. canon_text (lift l.1 l.0) s)
lifts s =
    after (after (after (both numbers (after last (codes ") (canon lift (core func ")) (λ i x _ _. lit< tt)) (codes ";) (type ")) (decimal s.functions))
    (codes "(func (;")

lowers : (s : IndexSpaces) → Told IsNumber Anything (λ f. canon_text (lower f) s)
lowers s = after (after (after last (codes ";) (canon lower (func ")) (decimal s.core_functions)) (codes "(core func (;")

lift_encoded : (c t : ℕ) → IsEncoded (canon (lift c t)) → IsNumber t × IsNumber c
lift_encoded c t h =
    let r = back (bytes (0x00 ∷ 0x00 ∷ [])) (u c ⊕ byte 0x00 ⊕ u t) h in
    (index_number t (back (byte 0x00) (u t) (back (u c) (byte 0x00 ⊕ u t) r)), index_number c (Encoded.front (u c) (byte 0x00 ⊕ u t) r))

lower_encoded : (f : ℕ) → IsEncoded (canon (lower f)) → IsNumber f
lower_encoded f h = index_number f (Encoded.front (u f) (byte 0x00) (back (bytes (0x01 ∷ 0x00 ∷ [])) (u f ⊕ byte 0x00) h))

canon_law : (s : IndexSpaces) (a b : Canon) (x y : List ℕ) → IsEncoded (canon a) → IsEncoded (canon b) → canon_text a s ++ x ≡ canon_text b s ++ y
    → (a ≡ b) × (x ≡ y)
canon_law s (lift c t) (lift d r) x y p q e = same (λ l. lift l.1 l.0) ((lifts s).law (t, c) (r, d) x y (lift_encoded c t p) (lift_encoded d r q) tt tt e)
canon_law s (lower f) (lower g) x y p q e = same lower ((lowers s).law f g x y (lower_encoded f p) (lower_encoded g q) tt tt e)
canon_law s a b x y p q e = absurd (omega (arith, ap (λ l. get_or l 1 0) e))

pub canons_told : (s : IndexSpaces) → Told (λ f. IsEncoded (canon f)) Anything (λ f. canon_text f s)
canons_told s = record { law = λ a b x y p q _ _ e. canon_law s a b x y p q e }
