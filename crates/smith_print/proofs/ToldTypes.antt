-- How types and the declarations in them are told apart.
use Rattle.std.proofs.Common.{◌≡◌, ℕ, ◌+◌, ◌*◌, Bool, true, false, List, [], ◌∷◌, ◌++◌, Some, None, drop, get_or, inl, inr, refl, ap, sym}
use Rattle.std.proofs.Common.{◌∙◌, append_assoc, arith, lit<}
use Rattle.std.proofs.lemmas.List.{append_cancel_left}
use Rattle.std.specs.Prelude.{codes, decimal}
use Rattle.smith_format.specs.Piece.{◌⊕◌, byte, many, u}
use Rattle.smith_syntax.specs.Entries.{CoreEntry, Decl, Decls, DefValType, Entry, component_type, core_func, core_module, core_type_alias}
use Rattle.smith_syntax.specs.Entries.{core_type_decl, decl_count, defined}
use Rattle.smith_syntax.specs.Entries.{ModuleDecl, aliases, declares, exports, imports}
use Rattle.smith_syntax.specs.Entries.{export_decl, function, import_decl, instance_type, no_decls, primitive_type, then_decls, type_alias, type_decl}
use Rattle.smith_syntax.specs.Grammar.{core_entry, decl, decls, entry, importdecl, moduledecl, named_extern}
use Rattle.smith_syntax.specs.declared.deftype.ComponentTypeRef.{ComponentTypeRef}
use Rattle.smith_print.specs.CoreTypes.{after_module_decl, module_decl_line}
use Rattle.smith_print.specs.Lines.{lines}
use Rattle.smith_print.specs.Spaces.{nothing}
use Rattle.smith_print.specs.Types.{after_decl, core_entry_text, core_type_text, decl_lines, decl_text, entry_text, nested, type_text}
use Rattle.smith_print.specs.Values.{defined_text}
use Rattle.smith_print.specs.Words.{deeper, line}
use Rattle.smith_print.specs.declared.spaces.IndexSpaces.{IndexSpaces}
use Rattle.smith_print.proofs.Encoded
use Rattle.smith_print.proofs.Encoded.{IsEncoded, back, many_encoded}
use Rattle.smith_print.proofs.Told.{Anything, IsNumber, Stops, Told, after, both, close, ended, numbers, past, same}
use Rattle.smith_print.proofs.ToldCore.{core_functions, counts_encoded, module_decls}
use Rattle.smith_print.proofs.ToldExterns.{exports_told, extern_encoded, imports_told}
use Rattle.smith_print.proofs.ToldLines.{AreLines, ending, ends_here, goes_on, lines_law, are_lines, nested_law, next_line, same_ending}
use Rattle.smith_print.proofs.ToldValues.{definitions, functions, primitive_head}

-- ---- core types

module_decl_opens : (d : ModuleDecl) (s : IndexSpaces) → (k : List ℕ) × (module_decl_line d s ≡ codes "(" ++ k)
module_decl_opens (imports m n e) s = (_, refl)
module_decl_opens (declares f) s = (_, refl)
module_decl_opens (aliases c i) s = (_, refl)
module_decl_opens (exports n e) s = (_, refl)

abbrev module_lines : List ModuleDecl → ℕ → List ℕ
module_lines ds c = lines (λ d _ s. module_decl_line d s) after_module_decl c nothing ds

core_entry_law : (columns : ℕ) (a b : CoreEntry) (x y : List ℕ) → IsEncoded (core_entry a) → IsEncoded (core_entry b)
    → core_entry_text a columns ++ x ≡ core_entry_text b columns ++ y → (a ≡ b) × (x ≡ y)
core_entry_law columns (core_func f) (core_func g) x y p q e = same core_func ((after core_functions (codes " ")).law f g x y p q tt tt e)
core_entry_law columns (core_module ds) (core_module es) x y p q e =
    let d = deeper columns in
    let c = deeper d in
    let n = nested_law (codes "(module") columns (module_lines ds c) (module_lines es c) x y (are ds c) (are es c) e in
    let r = lines_law (λ a _ s. module_decl_line a s) after_module_decl c (codes "(") module_decls module_decl_opens ds es nothing
    (ending d (line columns ++ x)) (ending d (line columns ++ y)) (many_encoded moduledecl ds (back (byte 0x50) (many moduledecl ds) p))
    (many_encoded moduledecl es (back (byte 0x50) (many moduledecl es) q)) (λ k. ends_here d c (line columns ++ x) k) (λ k. ends_here d c
    (line columns ++ y) k) n in
    (ap core_module r.0, append_cancel_left (line columns) x y (same_ending d (line columns ++ x) (line columns ++ y) r.1))
  where
    are : (ds : List ModuleDecl) (c : ℕ) → AreLines (module_lines ds c)
    are ds c = are_lines (λ a _ s. module_decl_line a s) after_module_decl c (codes "(") module_decls module_decl_opens ds nothing
core_entry_law columns a b x y p q e = absurd (omega (arith, ap (λ l. get_or l 0 0) e))

pub core_entries : (columns : ℕ) → Told (λ t. IsEncoded (core_entry t)) Anything (λ t. core_entry_text t columns)
core_entries columns = record { law = λ a b x y p q _ _ e. core_entry_law columns a b x y p q e }

pub core_types_told : (columns : ℕ) (s : IndexSpaces) → Told (λ t. IsEncoded (core_entry t)) Anything (λ t. core_type_text t columns s)
core_types_told columns s = after (after (after (ended (core_entries columns) close (λ x. tt)) (codes ";)")) (decimal s.core_types)) (codes "(core type (;")

-- ---- types

-- No type of values begins as a type of functions does.
not_function : (t : DefValType) (x y : List ℕ) → defined_text t ++ x ≡ codes "(func" ++ y → ⊥
not_function (primitive_type p) x y e = absurd (omega (arith, ap (λ l. get_or l 0 0) e, primitive_head p x))
not_function t x y e = absurd (omega (arith, ap (λ l. get_or l 1 0 + 256 * get_or l 2 0) e))

-- outer aliases, before the sort of what they are of
alias_fronts : Told (λ (a : ℕ × ℕ). IsNumber a.0 × IsNumber a.1) Stops (λ a. codes "(alias outer " ++ (decimal a.0 ++ (codes " " ++ decimal a.1)))
alias_fronts = after (both numbers (after numbers (codes " ")) (λ i x _ _. lit< tt)) (codes "(alias outer ")

abbrev aliased : ℕ → ℕ → ℕ × ℕ
aliased c i = (c, i)

alias_law : (behind other : List ℕ) (c i d j : ℕ) (x y : List ℕ) → IsNumber c × IsNumber i → IsNumber d × IsNumber j
    → (codes "(alias outer " ++ (decimal c ++ (codes " " ++ (decimal i ++ (32 ∷ behind))))) ++ x
    ≡ (codes "(alias outer " ++ (decimal d ++ (codes " " ++ (decimal j ++ (32 ∷ other))))) ++ y
    → (aliased c i ≡ aliased d j) × (behind ++ x ≡ other ++ y)
alias_law behind other c i d j x y p q e =
    let r = alias_fronts.law (c, i) (d, j) (32 ∷ (behind ++ x)) (32 ∷ (other ++ y)) p q (lit< tt) (lit< tt) (sym (split c i behind x) ∙ e
    ∙ split d j other y) in
    (r.0, append_cancel_left (32 ∷ []) (behind ++ x) (other ++ y) r.1)
  where
    split : (c i : ℕ) (k x : List ℕ) → (codes "(alias outer " ++ (decimal c ++ (codes " " ++ (decimal i ++ (32 ∷ k))))) ++ x
        ≡ (codes "(alias outer " ++ (decimal c ++ (codes " " ++ decimal i))) ++ (32 ∷ (k ++ x))
    split c i k x =
        ap (λ l. codes "(alias outer " ++ l)
        (append_assoc (decimal c) (32 ∷ (decimal i ++ (32 ∷ k))) x ∙ ap (λ l. decimal c ++ (32 ∷ l)) (append_assoc (decimal i) (32 ∷ k) x)
        ∙ sym (append_assoc (decimal c) (32 ∷ decimal i) (32 ∷ (k ++ x))))

abbrev alias_end : List ℕ → ℕ → List ℕ
alias_end sort next = sort ++ (decimal next ++ codes ";)))")

decl_opens : (d : Decl) (c : ℕ) (s : IndexSpaces) → (k : List ℕ) × (decl_text d c s ≡ 40 ∷ k)
decl_opens (core_type_decl t k) c s = (_, refl)
decl_opens (type_decl e) c s = (_, refl)
decl_opens (type_alias count i k) c s = (_, refl)
decl_opens (core_type_alias count i k) c s = (_, refl)
decl_opens (import_decl name n r) c s = (_, refl)
decl_opens (export_decl name n r) c s = (_, refl)

decls_are_lines : (ds : Decls) (c : ℕ) → AreLines (decl_lines ds c nothing)
decls_are_lines no_decls c = inl refl
decls_are_lines (then_decls d ds) c = inr (_, refl)

one_more : (d : Decl) (ds : Decls) (c m : ℕ) (s : IndexSpaces) (x y : List ℕ) → ending m x ≡ decl_lines (then_decls d ds) c s ++ ending m y → ⊥
one_more d ds c m s x y e =
    let o = decl_opens d c s in goes_on m c (decl_text d c s) o.0 (decl_lines ds c (after_decl d s)) x (ending m y) o.1 e

import_encoded : (importing : Bool) (name : List ℕ) (r : ComponentTypeRef) → IsEncoded (importdecl importing name r) → IsEncoded (named_extern name r)
import_encoded true name r t = back (byte 0x03) (named_extern name r) t
import_encoded false name r t = absurd (let z : None ≡ Some t.0 = t.1 in cc)

-- ---- types that hold types

abbrev inside : List ℕ → ℕ → Decls → List ℕ
inside word columns ds = nested word (λ c. decl_lines ds c nothing) columns

opened : (word : List ℕ) (columns : ℕ) (ds es : Decls) (x y : List ℕ) → inside word columns ds ++ x ≡ inside word columns es ++ y
    → decl_lines ds (deeper (deeper columns)) nothing ++ ending (deeper columns) (line columns ++ x)
    ≡ decl_lines es (deeper (deeper columns)) nothing ++ ending (deeper columns) (line columns ++ y)
opened word columns ds es x y e =
    let c = deeper (deeper columns) in
    nested_law word columns (decl_lines ds c nothing) (decl_lines es c nothing) x y (decls_are_lines ds c) (decls_are_lines es c) e

differ : (columns : ℕ) (ds es : Decls) (x y : List ℕ) → inside (codes "(component") columns ds ++ x ≡ inside (codes "(instance") columns es ++ y → ⊥
differ columns ds es x y e =
    absurd (omega (
      arith,
      ap (λ l. get_or l 1 0) (append_cancel_left (line (deeper columns)) _ _ (sym (append_assoc (line (deeper columns)) _ x) ∙ e
          ∙ append_assoc (line (deeper columns)) _ y)),
    ))

inner_encoded : (importing : Bool) (first : ℕ) (ds : Decls) → IsEncoded (byte first ⊕ u (decl_count ds) ⊕ decls importing ds) → IsEncoded (decls importing ds)
inner_encoded importing first ds t = back (u (decl_count ds)) (decls importing ds) (back (byte first) (u (decl_count ds) ⊕ decls importing ds) t)

type_inside : (c : ℕ) (s : IndexSpaces) (a b : Entry) (x y : List ℕ) → type_text a c s ++ x ≡ type_text b c s ++ y
    → entry_text a c ++ (41 ∷ x) ≡ entry_text b c ++ (41 ∷ y)
type_inside c s a b x y e =
    let third = λ (t : Entry). entry_text t c ++ close in
    let second = λ (t : Entry). codes ";)" ++ third t in
    let first = λ (t : Entry). decimal s.types ++ second t in
    sym (append_assoc (entry_text a c) close x)
    ∙ past (codes ";)") (third a) (third b) x y (past (decimal s.types) (second a) (second b) x y (past (codes "(type (;") (first a) (first b) x y e))
    ∙ append_assoc (entry_text b c) close y

mutual
  entry_law : (columns : ℕ) (a b : Entry) (x y : List ℕ) → IsEncoded (entry a) → IsEncoded (entry b) → Stops x → Stops y
      → entry_text a columns ++ x ≡ entry_text b columns ++ y → (a ≡ b) × (x ≡ y)
  entry_law columns (defined t) (defined r) x y p q n m e = same defined ((after definitions (codes " ")).law t r x y p q n m e)
  entry_law columns (function s) (function t) x y p q n m e = same function ((after functions (codes " ")).law s t x y p q tt tt e)
  entry_law columns (component_type ds) (component_type es) x y p q n m e =
      let r = decls_law true (deeper (deeper columns)) (deeper columns) ds es nothing (line columns ++ x) (line columns ++ y) (inner_encoded true 0x41 ds p)
      (inner_encoded true 0x41 es q) (opened (codes "(component") columns ds es x y e) in
      (ap component_type r.0, append_cancel_left (line columns) x y r.1)
  entry_law columns (instance_type ds) (instance_type es) x y p q n m e =
      let r = decls_law false (deeper (deeper columns)) (deeper columns) ds es nothing (line columns ++ x) (line columns ++ y) (inner_encoded false 0x42 ds p)
      (inner_encoded false 0x42 es q) (opened (codes "(instance") columns ds es x y e) in
      (ap instance_type r.0, append_cancel_left (line columns) x y r.1)
  entry_law columns (defined t) (function s) x y p q n m e = absurd (not_function t x _ (ap (drop 1) e))
  entry_law columns (function s) (defined t) x y p q n m e = absurd (not_function t y _ (ap (drop 1) (sym e)))
  entry_law columns (component_type ds) (instance_type es) x y p q n m e = absurd (differ columns ds es x y e)
  entry_law columns (instance_type ds) (component_type es) x y p q n m e = absurd (differ columns es ds y x (sym e))
  entry_law columns a b x y p q n m e = absurd (omega (arith, ap (λ l. get_or l 0 0) e))

  decl_law : (importing : Bool) (c : ℕ) (s : IndexSpaces) (a b : Decl) (x y : List ℕ) → IsEncoded (decl importing a) → IsEncoded (decl importing b)
      → decl_text a c s ++ x ≡ decl_text b c s ++ y → (a ≡ b) × (x ≡ y)
  decl_law importing c s (core_type_decl t k) (core_type_decl r l) x y p q e =
      same (λ z. core_type_decl z k) ((core_types_told c s).law t r x y (back (byte 0x00) (core_entry t) p) (back (byte 0x00) (core_entry r) q) tt tt e)
  decl_law importing c s (type_decl t) (type_decl r) x y p q e =
      let z = entry_law c t r (41 ∷ x) (41 ∷ y) (back (byte 0x01) (entry t) p) (back (byte 0x01) (entry r) q) (lit< tt) (lit< tt) (type_inside c s t r x y e) in
      (ap type_decl z.0, append_cancel_left (41 ∷ []) x y z.1)
  decl_law importing c s (type_alias n i k) (type_alias m j l) x y p q e =
      let b = alias_end (codes "(type (;") s.types in
      let r = alias_law b b n i m j x y (counts_encoded (0x02 ∷ 0x03 ∷ 0x02 ∷ []) n i p) (counts_encoded (0x02 ∷ 0x03 ∷ 0x02 ∷ []) m j q) e in
      (ap (λ z. type_alias z.0 z.1 k) r.0, append_cancel_left b x y r.1)
  decl_law importing c s (core_type_alias n i k) (core_type_alias m j l) x y p q e =
      let b = alias_end (codes "(core type (;") s.core_types in
      let r = alias_law b b n i m j x y (counts_encoded (0x02 ∷ 0x00 ∷ 0x10 ∷ 0x02 ∷ []) n i p) (counts_encoded (0x02 ∷ 0x00 ∷ 0x10 ∷ 0x02 ∷ []) m j q) e in
      (ap (λ z. core_type_alias z.0 z.1 k) r.0, append_cancel_left b x y r.1)
  decl_law importing c s (type_alias n i k) (core_type_alias m j l) x y p q e =
      let r = alias_law (alias_end (codes "(type (;") s.types) (alias_end (codes "(core type (;") s.core_types) n i m j x y
      (counts_encoded (0x02 ∷ 0x03 ∷ 0x02 ∷ []) n i p) (counts_encoded (0x02 ∷ 0x00 ∷ 0x10 ∷ 0x02 ∷ []) m j q) e in
      absurd (omega (arith, ap (λ z. get_or z 1 0) r.1))
  decl_law importing c s (core_type_alias n i k) (type_alias m j l) x y p q e =
      let r = alias_law (alias_end (codes "(core type (;") s.core_types) (alias_end (codes "(type (;") s.types) n i m j x y
      (counts_encoded (0x02 ∷ 0x00 ∷ 0x10 ∷ 0x02 ∷ []) n i p) (counts_encoded (0x02 ∷ 0x03 ∷ 0x02 ∷ []) m j q) e in
      absurd (omega (arith, ap (λ z. get_or z 1 0) r.1))
  decl_law importing c s (import_decl name k r) (import_decl other l t) x y p q e =
      same (λ z. import_decl z.0 k z.1) ((imports_told s).law (name, r) (other, t) x y (extern_encoded name r (import_encoded importing name r p))
      (extern_encoded other t (import_encoded importing other t q)) tt tt e)
  decl_law importing c s (export_decl name k r) (export_decl other l t) x y p q e =
      same (λ z. export_decl z.0 k z.1) ((exports_told s).law (name, r) (other, t) x y (extern_encoded name r (back (byte 0x04) (named_extern name r) p))
      (extern_encoded other t (back (byte 0x04) (named_extern other t) q)) tt tt e)
  decl_law importing c s a b x y p q e = absurd (omega (arith, ap (λ l. get_or l 1 0) e))

  decls_law : (importing : Bool) (c m : ℕ) (ds es : Decls) (s : IndexSpaces) (x y : List ℕ) → IsEncoded (decls importing ds) → IsEncoded (decls importing es)
      → decl_lines ds c s ++ ending m x ≡ decl_lines es c s ++ ending m y → (ds ≡ es) × (x ≡ y)
  decls_law importing c m no_decls no_decls s x y p q e = (refl, same_ending m x y e)
  decls_law importing c m no_decls (then_decls d es) s x y p q e = absurd (one_more d es c m s x y e)
  decls_law importing c m (then_decls d ds) no_decls s x y p q e = absurd (one_more d ds c m s y x (sym e))
  decls_law importing c m (then_decls d ds) (then_decls b es) s x y p q e =
      let r = decl_law importing c s d b (decl_lines ds c (after_decl d s) ++ ending m x) (decl_lines es c (after_decl b s) ++ ending m y)
      (Encoded.front (decl importing d) (decls importing ds) p) (Encoded.front (decl importing b) (decls importing es) q)
      (next_line c (decl_text d c s) (decl_text b c s) (decl_lines ds c (after_decl d s)) (decl_lines es c (after_decl b s)) (ending m x) (ending m y) e) in
      let z = decls_law importing c m ds es (after_decl d s) x y (back (decl importing d) (decls importing ds) p) (back (decl importing b)
      (decls importing es) q)
      (r.1 ∙ ap (λ k. decl_lines es c (after_decl k s) ++ ending m y) (sym r.0)) in
      (λ i. then_decls (r.0 i) (z.0 i), z.1)

pub types_told : (c : ℕ) (s : IndexSpaces) → Told (λ e. IsEncoded (entry e)) Anything (λ e. type_text e c s)
types_told c s = record {
  law = λ a b x y p q _ _ e.
      let z = entry_law c a b (41 ∷ x) (41 ∷ y) p q (lit< tt) (lit< tt) (type_inside c s a b x y e) in (z.0, append_cancel_left (41 ∷ []) x y z.1);
}
