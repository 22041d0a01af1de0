-- The declarations of a module type one by one, and their names.
use Rattle.std.proofs.Common.{◌≡◌, ℕ, ◌+◌, ◌<◌, Bool, true, false, ◌&&◌, ◌||◌, List, [], ◌∷◌, ◌++◌, map, length, take, get_or, refl, sym, ap, ◌∙◌, subst}
use Rattle.std.proofs.Common.{append-nil, bytes_eq, Result, Ok, Err}
use Rattle.std.proofs.Math.ListN.{drop}
use Rattle.std.proofs.lemmas.Bool.{false≢true}
use Rattle.std.proofs.lemmas.Grind.{flat_map-append}
use Rattle.std.proofs.lemmas.List.{map-append, map_more, take-append-drop}
use Rattle.std.proofs.lemmas.List.Elements.{filter-append}
use Rattle.std.proofs.lemmas.List.Folds.{list_any-append}
use Rattle.std.proofs.lemmas.Slice.Eq.{bytes_eq-Decides}
use Rattle.std.specs.Borrow.{Bor}
use Rattle.std.specs.List.{IsDistinct, filter, flat_map, list_any}
use Rattle.std.specs.Prelude.{IfErr, IfOk, OnOk, if◌then◌else◌}
use Rattle.smith_format.specs.CoreTypes.{Function}
use Rattle.smith_format.specs.Entities.{CoreImport}
use Rattle.smith_format.specs.declared.types.EntityType.{EntityType}
use Rattle.smith_input.specs.NewNames.{is_among}
use Rattle.smith_input.proofs.Rests.{rest_at}
use Rattle.smith_syntax.specs.Entries.{CoreEntry, ModuleDecl, exports, imports}
use Rattle.smith_syntax.specs.ModuleTypes.{HasNewNames, adds, module_export_names, module_export_of, module_import_of, names_from}
use Rattle.smith_syntax.specs.Possible.{PossibleDecl, PossibleModule, is_beyond}
use Rattle.smith_syntax.specs.WellFormed.{FormedDecl, FormedDecls}
use Rattle.smith_check.specs.Judges.{Judges}
use Rattle.smith_check.specs.Taken.{Holds, HoldsModule, has_pair}
use Rattle.smith_check.specs.declared.error.Stop.{Stop}
use Rattle.smith_check.specs.declared.error.Stop.TheVariants.{OutOfMemory}
use Rattle.smith_check.specs.declared.modules.ModuleNames.{ModuleNames}
use Rattle.smith_check.proofs.Judging.{Same, judged_by, on_by, same_by}
use Rattle.smith_check.proofs.NameSteps.{distinct_last, distinct_push}
use Rattle.smith_input.proofs.DistinctNames.{distinct_new, new_distinct, new_front, none_before}

-- one more declaration

snoc_flat : {A : Type 0} (f : ModuleDecl → List A) (ds : List ModuleDecl) (d : ModuleDecl) → flat_map f (ds ++ d ∷ []) ≡ flat_map f ds ++ f d
snoc_flat f ds d = flat_map-append f ds (d ∷ []) ∙ ap (λ xs. flat_map f ds ++ xs) (append-nil (f d))

-- the names that these import from a module
abbrev from_among : List ℕ → List CoreImport → List (List ℕ)
from_among from is = map (λ i. i.1) (filter (λ i. bytes_eq i.0 from) is)

from_append : (from : List ℕ) (is js : List CoreImport) → from_among from (is ++ js) ≡ from_among from is ++ from_among from js
from_append from is js =
    ap (map (λ i. i.1)) (filter-append (λ i. bytes_eq i.0 from) is js)
    ∙ map-append (λ i. i.1) (filter (λ i. bytes_eq i.0 from) is) (filter (λ i. bytes_eq i.0 from) js)

names_append : (from : List ℕ) (ds es : List ModuleDecl) → names_from from (ds ++ es) ≡ names_from from ds ++ names_from from es
names_append from ds es =
    ap (from_among from) (flat_map-append module_import_of ds es) ∙ from_append from (flat_map module_import_of ds) (flat_map module_import_of es)

exported_append : (ds es : List ModuleDecl) → module_export_names (ds ++ es) ≡ module_export_names ds ++ module_export_names es
exported_append ds es =
    ap (map (λ x. x.0)) (flat_map-append module_export_of ds es) ∙ map-append (λ x. x.0) (flat_map module_export_of ds) (flat_map module_export_of es)

-- an import of one more name, or of none from there
more_from : (m n from : List ℕ) (e : EntityType) (ds : List ModuleDecl)
    → names_from from (ds ++ imports m n e ∷ []) ≡ names_from from ds ++ map (λ (i : CoreImport). i.1) (if bytes_eq m from then (m, n, e) ∷ [] else [])
more_from m n from e ds = names_append from ds (imports m n e ∷ [])

-- whether a name is imported from a module, and whether it is among those imported from there
pair_among : (is : List CoreImport) (m n : List ℕ) → list_any (λ i. bytes_eq i.0 m && bytes_eq i.1 n) is ≡ is_among (from_among m is) n
pair_among [] m n = refl
pair_among (i ∷ is) m n = by_test (bytes_eq i.0 m) (pair_among is m n)
  where
    by_test : (b : Bool) → list_any (λ j. bytes_eq j.0 m && bytes_eq j.1 n) is ≡ is_among (from_among m is) n
        → ((b && bytes_eq i.1 n) || list_any (λ j. bytes_eq j.0 m && bytes_eq j.1 n) is)
        ≡ is_among (map (λ (j : CoreImport). j.1) (if b then i ∷ filter (λ j. bytes_eq j.0 m) is else filter (λ j. bytes_eq j.0 m) is)) n
    by_test true rest = ap (λ b. bytes_eq i.1 n || b) rest
    by_test false rest = rest

-- the names of an import

new_from : (m n from : List ℕ) (e : EntityType) (before : List ModuleDecl) → HasNewNames before → is_among (names_from m before) n ≡ false
    → IsDistinct bytes_eq (names_from from (before ++ imports m n e ∷ []))
new_from m n from e before h new = subst (IsDistinct bytes_eq) (sym (more_from m n from e before)) (by_test (bytes_eq m from) refl)
  where
    by_test : (b : Bool) → bytes_eq m from ≡ b
        → IsDistinct bytes_eq (names_from from before ++ map (λ (i : CoreImport). i.1) (if b then (m, n, e) ∷ [] else []))
    by_test true t =
        let same : m ≡ from = (bytes_eq-Decides m from).0 t in
        distinct_push (names_from from before) n (subst (λ z. is_among (names_from z before) n ≡ false) same new) (h.imported from)
    by_test false t = subst (IsDistinct bytes_eq) (sym (append-nil (names_from from before))) (h.imported from)

import_exports : (m n : List ℕ) (e : EntityType) (before : List ModuleDecl) → module_export_names (before ++ imports m n e ∷ []) ≡ module_export_names before
import_exports m n e before = exported_append before (imports m n e ∷ []) ∙ append-nil (module_export_names before)

import_new : (m n : List ℕ) (e : EntityType) (before : List ModuleDecl) → HasNewNames before → is_among (names_from m before) n ≡ false
    → HasNewNames (before ++ imports m n e ∷ [])
import_new m n e before h new = record {
  imported = λ from. new_from m n from e before h new;
  exported = subst (IsDistinct bytes_eq) (sym (import_exports m n e before)) h.exported;
}

import_was_new : (m n : List ℕ) (e : EntityType) (before : List ModuleDecl) → HasNewNames (before ++ imports m n e ∷ [])
    → is_among (names_from m before) n ≡ false
import_was_new m n e before h =
    let same : bytes_eq m m ≡ true = (bytes_eq-Decides m m).1 refl in
    let more : names_from m (before ++ imports m n e ∷ []) ≡ names_from m before ++ n ∷ [] =
    more_from m n m e before ∙ ap (λ b. names_from m before ++ map (λ (i : CoreImport). i.1) (if b then (m, n, e) ∷ [] else [])) same in
    distinct_last (names_from m before) n (subst (IsDistinct bytes_eq) more (h.imported m))

pub import_judged : {A : Type 0} (r : Result A Stop) (s : ModuleNames) (m n : Bor (List ℕ)) (e : EntityType) (before : List ModuleDecl) → HoldsModule s before
    → HasNewNames before → IfOk r (λ _. has_pair s m n ≡ false) → IfErr r (λ f. ¬ (f ≡ OutOfMemory) → has_pair s m n ≡ true)
    → Judges r (HasNewNames (before ++ imports m.now n.now e ∷ []))
import_judged (Ok x) s m n e before holds h ok err =
    import_new m.now n.now e before h (sym (holds.imports m n ∙ pair_among (flat_map module_import_of before) m.now n.now) ∙ ok)
import_judged (Err f) s m n e before holds h ok err = record {
  is = λ not k. false≢true
      (sym (holds.imports m n ∙ (pair_among (flat_map module_import_of before) m.now n.now ∙ import_was_new m.now n.now e before k)) ∙ err not);
}

or_swap : (a b : Bool) → (a || b) ≡ (b || a)
or_swap true true = refl
or_swap true false = refl
or_swap false true = refl
or_swap false false = refl

or_false : (a : Bool) → (a || false) ≡ a
or_false true = refl
or_false false = refl

pub import_held : {A : Type 0} (r : Result A Stop) (s t : ModuleNames) (m n : Bor (List ℕ)) (e : EntityType) (before : List ModuleDecl) → HoldsModule s before
    → OnOk r ((p q : Bor (List ℕ)) → has_pair t p q ≡ ((bytes_eq m.now p.now && bytes_eq n.now q.now) || has_pair s p q)) → t.exports ≡ s.exports
    → OnOk r (HoldsModule t (before ++ imports m.now n.now e ∷ []))
import_held (Ok x) s t m n e before h more same = record {
  imports = λ p q.
      let one = bytes_eq m.now p.now && bytes_eq n.now q.now in
      let test : CoreImport → Bool = λ i. bytes_eq i.0 p.now && bytes_eq i.1 q.now in
      let old = flat_map module_import_of before in
      let all : list_any test (flat_map module_import_of (before ++ imports m.now n.now e ∷ [])) ≡ (list_any test old || (one || false)) =
      ap (list_any test) (snoc_flat module_import_of before (imports m.now n.now e)) ∙ list_any-append test old ((m.now, n.now, e) ∷ []) in
      more p q ∙ (ap (λ b. one || b) (h.imports p q) ∙ (or_swap one (list_any test old) ∙ (ap (λ b. list_any test old || b) (sym (or_false one)) ∙ sym all)));
  exports = subst (λ z. Holds z (module_export_names (before ++ imports m.now n.now e ∷ []))) (sym same)
      (subst (Holds s.exports) (sym (import_exports m.now n.now e before)) h.exports);
}
import_held (Err f) s t m n e before h more same = tt

-- the name of an export

export_names_more : (n : List ℕ) (e : EntityType) (before : List ModuleDecl)
    → module_export_names (before ++ exports n e ∷ []) ≡ module_export_names before ++ n ∷ []
export_names_more n e before = exported_append before (exports n e ∷ [])

export_imports : (n : List ℕ) (e : EntityType) (from : List ℕ) (before : List ModuleDecl)
    → names_from from (before ++ exports n e ∷ []) ≡ names_from from before
export_imports n e from before = names_append from before (exports n e ∷ []) ∙ append-nil (names_from from before)

pub export_judged : {A : Type 0} (r : Result A Stop) (s : ModuleNames) (n : List ℕ) (e : EntityType) (before : List ModuleDecl) → HasNewNames before
    → Judges r (IsDistinct bytes_eq (module_export_names before ++ n ∷ [])) → Judges r (HasNewNames (before ++ exports n e ∷ []))
export_judged r s n e before h j = judged_by r
    (λ d. record {
      imported = λ from. subst (IsDistinct bytes_eq) (sym (export_imports n e from before)) (h.imported from);
      exported = subst (IsDistinct bytes_eq) (sym (export_names_more n e before)) d;
    })
    (λ k. subst (IsDistinct bytes_eq) (export_names_more n e before) k.exported)
    j

pub export_held : {A : Type 0} (r : Result A Stop) (s t : ModuleNames) (n : List ℕ) (e : EntityType) (before : List ModuleDecl) → HoldsModule s before
    → OnOk r (Holds t.exports (module_export_names before ++ n ∷ [])) → t.imports ≡ s.imports
    → OnOk r (HoldsModule t (before ++ exports n e ∷ []))
export_held r s t n e before h more same = on_by r
    (λ k. record {
      imports = λ p q.
          let test : CoreImport → Bool = λ i. bytes_eq i.0 p.now && bytes_eq i.1 q.now in
          ap (λ z. has_pair (record { imports = z; exports = t.exports }) p q) same
          ∙ (h.imports p q
          ∙ sym (ap (list_any test) (snoc_flat module_import_of before (exports n e) ∙ append-nil (flat_map module_import_of before))));
      exports = subst (Holds t.exports) (sym (export_names_more n e before)) k;
    })
    more

-- a declaration without names

module _ (before : List ModuleDecl) (d : ModuleDecl) (no_import : module_import_of d ≡ []) (no_export : module_export_of d ≡ []) where
  quiet_imports : flat_map module_import_of (before ++ d ∷ []) ≡ flat_map module_import_of before
  quiet_imports =
      snoc_flat module_import_of before d ∙ (ap (λ xs. flat_map module_import_of before ++ xs) no_import ∙ append-nil (flat_map module_import_of before))

  quiet_exports : module_export_names (before ++ d ∷ []) ≡ module_export_names before
  quiet_exports = ap (map (λ x. x.0))
      (snoc_flat module_export_of before d ∙ (ap (λ xs. flat_map module_export_of before ++ xs) no_export ∙ append-nil (flat_map module_export_of before)))

  pub quiet_new : HasNewNames before → HasNewNames (before ++ d ∷ [])
  quiet_new h = record {
    imported = λ from. subst (λ is. IsDistinct bytes_eq (from_among from is)) (sym quiet_imports) (h.imported from);
    exported = subst (IsDistinct bytes_eq) (sym quiet_exports) h.exported;
  }

  pub quiet_held : (s : ModuleNames) → HoldsModule s before → HoldsModule s (before ++ d ∷ [])
  quiet_held s h = record {
    imports = λ p q. h.imports p q ∙ sym (ap (list_any (λ i. bytes_eq i.0 p.now && bytes_eq i.1 q.now)) quiet_imports);
    exports = subst (Holds s.exports) (sym quiet_exports) h.exports;
  }

-- the rest of the declarations begins with one
pub decls_at : {A : Type 0} (around : List CoreEntry) (shown : A → ModuleDecl) (xs : List A) (i : ℕ) (x : A) (own more : List Function) → i < length xs
    → x ≡ get_or xs i x → more ≡ own ++ adds around own (shown x)
    → Same (FormedDecls around own (map shown (drop i xs))) (FormedDecl around own (shown x) × FormedDecls around more (map shown (drop (i + 1) xs)))
decls_at around shown xs i x own more h e m =
    subst
    (λ (fs : List Function). Same (FormedDecls around own (map shown (drop i xs)))
    (FormedDecl around own (shown x) × FormedDecls around fs (map shown (drop (i + 1) xs))))
    (sym m)
    (same_by (λ ys. FormedDecls around own (map shown ys)) _ _ (rest_at xs i x h e))

pub module_at : {A : Type 0} (around : List CoreEntry) (far : ℕ) (shown : A → ModuleDecl) (xs : List A) (i : ℕ) (x : A) (own more : List Function)
    → i < length xs → x ≡ get_or xs i x → more ≡ own ++ adds around own (shown x) → PossibleModule around far own (map shown (drop i xs))
    → PossibleDecl around far own (shown x) × (is_beyond (shown x) ≡ false → PossibleModule around far more (map shown (drop (i + 1) xs)))
module_at around far shown xs i x own more h e m p =
    let q = subst (λ ys. PossibleModule around far own (map shown ys)) (rest_at xs i x h e) p in
    (q.0, λ b. subst (λ fs. PossibleModule around far fs (map shown (drop (i + 1) xs))) (sym m) (q.1 b))

pub no_new_names : HasNewNames []
unfolding IsDistinct
no_new_names = record { imported = λ from. tt; exported = tt }

-- names that are new up to a place

distinct_front : (xs ys : List (List ℕ)) → IsDistinct bytes_eq (xs ++ ys) → IsDistinct bytes_eq xs
distinct_front xs ys d = new_distinct [] xs (new_front [] xs ys (distinct_new [] (xs ++ ys) (none_before (xs ++ ys)) d))

new_front_names : (ds es : List ModuleDecl) → HasNewNames (ds ++ es) → HasNewNames ds
new_front_names ds es h = record {
  imported = λ from. distinct_front (names_from from ds) (names_from from es) (subst (IsDistinct bytes_eq) (names_append from ds es) (h.imported from));
  exported = distinct_front (module_export_names ds) (module_export_names es) (subst (IsDistinct bytes_eq) (exported_append ds es) h.exported);
}

module _ {A : Type 0} (shown : A → ModuleDecl) (xs : List A) (i : ℕ) (x : A) (h : i < length xs) (e : x ≡ get_or xs i x) where
  pub shown_more : map shown (take i xs) ++ shown x ∷ [] ≡ map shown (take (i + 1) xs)
  shown_more = sym (map_more shown xs i x h ∙ ap (λ y. map shown (take i xs) ++ shown y ∷ []) (sym e))

  pub new_upto : HasNewNames (map shown xs) → HasNewNames (map shown (take i xs) ++ shown x ∷ [])
  new_upto n =
      let all : map shown (take (i + 1) xs) ++ map shown (drop (i + 1) xs) ≡ map shown xs =
      sym (map-append shown (take (i + 1) xs) (drop (i + 1) xs)) ∙ ap (map shown) (take-append-drop (i + 1) xs) in
      subst HasNewNames (sym shown_more)
      (new_front_names (map shown (take (i + 1) xs)) (map shown (drop (i + 1) xs)) (subst HasNewNames (sym all) n))
