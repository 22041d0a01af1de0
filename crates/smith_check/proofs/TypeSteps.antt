-- Declarations and members one by one.
use Rattle.std.proofs.Common.{◌≡◌, ℕ, ◌+◌, ◌<◌, ◌≤◌, List, [], ◌∷◌, ◌++◌, length, map, get_or, take, refl, sym, ap, ◌∙◌, subst, arith, Option, Some}
use Rattle.std.proofs.Common.{true, false}
use Rattle.std.proofs.Common.{append-nil, append_assoc, bytes_eq}
use Rattle.std.proofs.Math.ListN.{drop}
use Rattle.std.proofs.lemmas.List.{length-map, map_more, take_more, map-append, take-append-drop}
use Rattle.std.specs.List.{AllByRecursion, IsDistinct}
use Rattle.std.specs.Prelude.{String, string_bytes}
use Rattle.std.specs.declared.alloc.Global.{Global}
use Rattle.smith_syntax.specs.Signature.{named, signature}
use Rattle.smith_input.proofs.Rests.{drop_past, rest_at}
use Rattle.smith_input.specs.Kebab.{Kebab}
use Rattle.smith_input.proofs.Lists.{all_front}
use Rattle.smith_input.proofs.DistinctNames.{distinct_new, new_distinct, new_front, none_before}
use Rattle.smith_syntax.specs.Entries.{Decl, in_order}
use Rattle.smith_syntax.specs.Entries.{function, record_type, variant_type}
use Rattle.smith_syntax.specs.Entries.{import_decl, export_decl}
use Rattle.smith_check.specs.Taken.{Knows, KnowsDeclared, NamedDeclared, exported, imported}
use Rattle.smith_check.specs.declared.types.DeclaredNames.{DeclaredNames}
use Rattle.smith_syntax.specs.Scope.{Scope, after_decl}
use Rattle.smith_syntax.specs.Possible.{PossibleDeclaration, PossibleDeclarations, PossibleDefined, PossibleEntry, PossibleNames, after_possible}
use Rattle.smith_syntax.specs.WellFormed.{FormedDeclaration, FormedDeclarations, FormedDefined, FormedEntry, FormedMaybe, FormedVal, Named}
use Rattle.smith_syntax.specs.WellFormed.{decl_exports, decl_imports, export_of, import_of, names}
use Rattle.smith_syntax.specs.declared.types.ComponentValType.{ComponentValType}
use Rattle.smith_read.specs.TypeNodes.{shown_decl_node}
use Rattle.smith_read.specs.declared.type_nodes.DeclNode.{DeclNode}
use Rattle.smith_syntax.specs.declared.deftype.ComponentTypeRef.{ComponentTypeRef}
use Rattle.smith_read.specs.declared.type_nodes.DeclNode.TheVariants as declared
use Rattle.smith_read.proofs.ShownNodes.{shown_export, shown_import}
use Rattle.smith_syntax.proofs.Possible.{after_same}
use Rattle.smith_check.proofs.Judging.{Same, same_by, same_step}

pub imports_at : (ds : List DeclNode) (i : ℕ) (d : DeclNode) → i < length ds → d ≡ get_or ds i d
    → decl_imports (in_order (map shown_decl_node (drop i ds)))
    ≡ import_of (shown_decl_node d) ++ decl_imports (in_order (map shown_decl_node (drop (i + 1) ds)))
imports_at ds i d h e = ap (λ (ys : List DeclNode). decl_imports (in_order (map shown_decl_node ys))) (rest_at ds i d h e)

pub imports_done : (ds : List DeclNode) (i : ℕ) → length ds ≤ i → decl_imports (in_order (map shown_decl_node (drop i ds))) ≡ []
imports_done ds i h = ap (λ (ys : List DeclNode). decl_imports (in_order (map shown_decl_node ys))) (drop_past ds i h)

pub none_there : {A : Type 0} (xs : List A) → (0 < length xs → ⊥) → xs ≡ []
none_there [] h = refl
none_there (x ∷ xs) h = absurd (h (omega arith))

pub front_none : {A : Type 0} (xs ys : List A) → xs ≡ [] → xs ++ ys ≡ ys
front_none xs ys e = ap (λ z. z ++ ys) e

pub some_there : {A : Type 0} (xs ys : List A) → 0 < length xs → xs ++ ys ≡ [] → ⊥
some_there [] ys h e = absurd (omega arith)
some_there (x ∷ xs) ys h e = absurd (let z : x ∷ (xs ++ ys) ≡ [] = e in cc)

-- value types that are there
pub all_some : (own : Scope) (vs : List ComponentValType) → Same (AllByRecursion (FormedMaybe own) (map (λ v. Some v) vs)) (AllByRecursion (FormedVal own) vs)
all_some own [] = record { to = λ p. p; from = λ p. p }
all_some own (v ∷ vs) = let s = all_some own vs in record { to = λ p. (p.0, s.to p.1); from = λ p. (p.0, s.from p.1) }

-- Names that have a property, of which no two are the same.
abbrev pub NamedBy : (List ℕ → Type 0) → List (List ℕ) → Type 0
NamedBy P ns = AllByRecursion P ns × IsDistinct bytes_eq ns

-- names in front of others
pub front_of : (P : List ℕ → Type 0) (xs ys : List (List ℕ)) → NamedBy P (xs ++ ys) → NamedBy P xs
front_of P xs ys n = (
  all_front P xs ys n.0,
  new_distinct [] xs (new_front [] xs ys (distinct_new [] (xs ++ ys) (none_before (xs ++ ys)) n.1)),
)

pub named_front : (xs ys : List (List ℕ)) → Named (xs ++ ys) → Named xs
named_front xs ys n = front_of Kebab xs ys n

module _ {A : Type 0} (text : A → List ℕ) (xs : List A) (i : ℕ) where
  -- one more name of a list
  pub upto : (P : List ℕ → Type 0) (x : A) → i < length xs → x ≡ get_or xs i x → NamedBy P (map text xs) → NamedBy P (map text (take i xs) ++ text x ∷ [])
  upto P x h e n =
      let one : map text (take (i + 1) xs) ≡ map text (take i xs) ++ text x ∷ [] =
      map_more text xs i x h ∙ ap (λ y. map text (take i xs) ++ text y ∷ []) (sym e) in
      let all : map text (take (i + 1) xs) ++ map text (drop (i + 1) xs) ≡ map text xs =
      sym (map-append text (take (i + 1) xs) (drop (i + 1) xs)) ∙ ap (map text) (take-append-drop (i + 1) xs) in
      subst (NamedBy P) one (front_of P (map text (take (i + 1) xs)) (map text (drop (i + 1) xs)) (subst (NamedBy P) (sym all) n))

  pub named_upto : (x : A) → i < length xs → x ≡ get_or xs i x → Named (map text xs) → Named (map text (take i xs) ++ text x ∷ [])
  named_upto x h e n = upto Kebab x h e n

  pub names_more : (x : A) → i < length xs → x ≡ get_or xs i x → map text (take i xs) ++ text x ∷ [] ≡ map text (take (i + 1) xs)
  names_more x h e = sym (map_more text xs i x h ∙ ap (λ y. map text (take i xs) ++ text y ∷ []) (sym e))

-- members with names

pub names_named : {B : Type 0} (ps : List (String Global × B)) → map (λ p. p.0) (map named ps) ≡ map (λ p. string_bytes p.0) ps
names_named [] = refl
names_named (p ∷ ps) = ap (λ z. string_bytes p.0 ∷ z) (names_named ps)

fields_named : (own : Scope) (ps : List (String Global × ComponentValType))
    → Same (AllByRecursion (FormedMaybe own) (map (λ p. Some p.1) ps)) (AllByRecursion (λ f. FormedVal own f.1) (map named ps))
fields_named own [] = record { to = λ p. p; from = λ p. p }
fields_named own (q ∷ ps) = let s = fields_named own ps in record { to = λ p. (p.0, s.to p.1); from = λ p. (p.0, s.from p.1) }

cases_named : (own : Scope) (ps : List (String Global × Option ComponentValType))
    → Same (AllByRecursion (FormedMaybe own) (map (λ p. p.1) ps)) (AllByRecursion (λ f. FormedMaybe own f.1) (map named ps))
cases_named own [] = record { to = λ p. p; from = λ p. p }
cases_named own (q ∷ ps) = let s = cases_named own ps in record { to = λ p. (p.0, s.to p.1); from = λ p. (p.0, s.from p.1) }

module _ {B : Type 0} (ps : List (String Global × B)) {P Q : Type 0} (s : Same P Q) where
  pub members_formed : Same (Named (map (λ p. string_bytes p.0) ps) × P × (1 ≤ length ps) × (length ps ≤ 100))
      (Named (map (λ p. p.0) (map named ps)) × Q × (1 ≤ length (map named ps)) × (length (map named ps) ≤ 100))
  members_formed = record {
    to = λ p. (subst Named (sym (names_named ps)) p.0, s.to p.1, omega (arith, length-map ps named, p.2), omega (arith, length-map ps named, p.3));
    from = λ p. (subst Named (names_named ps) p.0, s.from p.1, omega (arith, length-map ps named, p.2), omega (arith, length-map ps named, p.3));
  }

pub record_formed : (own : Scope) (ps : List (String Global × ComponentValType))
    → Same (Named (map (λ p. string_bytes p.0) ps) × AllByRecursion (FormedMaybe own) (map (λ p. Some p.1) ps) × (1 ≤ length ps) × (length ps ≤ 100))
    (FormedDefined (record_type (map named ps)) own)
record_formed own ps = members_formed ps (fields_named own ps)

pub variant_formed : (own : Scope) (ps : List (String Global × Option ComponentValType))
    → Same (Named (map (λ p. string_bytes p.0) ps) × AllByRecursion (FormedMaybe own) (map (λ p. p.1) ps) × (1 ≤ length ps) × (length ps ≤ 100))
    (FormedDefined (variant_type (map named ps)) own)
variant_formed own ps = members_formed ps (cases_named own ps)

-- a function type by its members
pub signature_formed : (own : Scope) (outer : List Scope) (ps : List (String Global × ComponentValType)) (r : Option ComponentValType)
    → Same (Named (map (λ p. string_bytes p.0) ps) × AllByRecursion (FormedMaybe own) (map (λ p. Some p.1) ps) × (length ps ≤ 16) × FormedMaybe own r)
    (FormedEntry (function (signature ps r)) own outer)
signature_formed own outer ps r = let s = fields_named own ps in record {
  to = λ p. (subst Named (sym (names_named ps)) p.0, s.to p.1, omega (arith, length-map ps named, p.2), p.3);
  from = λ p. (subst Named (names_named ps) p.0, s.from p.1, omega (arith, length-map ps named, p.2), p.3);
}

-- the same as far as the standard asks it

module _ {B : Type 0} (ps : List (String Global × B)) where
  possible_names : PossibleNames false (map (λ p. p.0) (map named ps)) → PossibleNames false (map (λ p. string_bytes p.0) ps)
  possible_names n = subst (PossibleNames false) (names_named ps) n

  some_named : 1 ≤ length (map named ps) → 1 ≤ length ps
  some_named h = omega (arith, length-map ps named, h)

pub record_possible : (own : Scope) (ps : List (String Global × ComponentValType)) → PossibleDefined (record_type (map named ps)) own
    → PossibleNames false (map (λ p. string_bytes p.0) ps) × AllByRecursion (FormedMaybe own) (map (λ p. Some p.1) ps) × (1 ≤ length ps)
record_possible own ps f = (possible_names ps f.0, (fields_named own ps).from f.1, some_named ps f.2)

pub variant_possible : (own : Scope) (ps : List (String Global × Option ComponentValType)) → PossibleDefined (variant_type (map named ps)) own
    → PossibleNames false (map (λ p. string_bytes p.0) ps) × AllByRecursion (FormedMaybe own) (map (λ p. p.1) ps) × (1 ≤ length ps)
variant_possible own ps f = (possible_names ps f.0, (cases_named own ps).from f.1, some_named ps f.2)

pub signature_possible : (own : Scope) (outer : List Scope) (ps : List (String Global × ComponentValType)) (r : Option ComponentValType)
    → PossibleEntry (function (signature ps r)) own outer
    → PossibleNames false (map (λ p. string_bytes p.0) ps) × AllByRecursion (FormedMaybe own) (map (λ p. Some p.1) ps) × FormedMaybe own r
signature_possible own outer ps r f = (possible_names ps f.0, (fields_named own ps).from f.1, f.2)

pub named_none : (xs : List (List ℕ × Unit {0})) → xs ≡ [] → Named (names xs)
unfolding IsDistinct
named_none xs e = subst (λ (ys : List (List ℕ × Unit {0})). Named (names ys)) (sym e) (tt, tt)

-- the names of declarations, and one more declaration

pub imports_push : (ds : List DeclNode) (d : DeclNode) → imported (ds ++ d ∷ []) ≡ imported ds ++ names (import_of (shown_decl_node d))
imports_push [] d = ap names (append-nil (import_of (shown_decl_node d)))
imports_push (x ∷ ds) d =
    map-append (λ y. y.0) (import_of (shown_decl_node x)) (decl_imports (in_order (map shown_decl_node (ds ++ d ∷ []))))
    ∙ ap (λ z. names (import_of (shown_decl_node x)) ++ z) (imports_push ds d)
    ∙ sym (append_assoc (names (import_of (shown_decl_node x))) (imported ds) (names (import_of (shown_decl_node d))))
    ∙ ap (λ z. z ++ names (import_of (shown_decl_node d)))
    (sym (map-append (λ y. y.0) (import_of (shown_decl_node x)) (decl_imports (in_order (map shown_decl_node ds)))))

pub exports_push : (ds : List DeclNode) (d : DeclNode) → exported (ds ++ d ∷ []) ≡ exported ds ++ names (export_of (shown_decl_node d))
exports_push [] d = ap names (append-nil (export_of (shown_decl_node d)))
exports_push (x ∷ ds) d =
    map-append (λ y. y.0) (export_of (shown_decl_node x)) (decl_exports (in_order (map shown_decl_node (ds ++ d ∷ []))))
    ∙ ap (λ z. names (export_of (shown_decl_node x)) ++ z) (exports_push ds d)
    ∙ sym (append_assoc (names (export_of (shown_decl_node x))) (exported ds) (names (export_of (shown_decl_node d))))
    ∙ ap (λ z. z ++ names (export_of (shown_decl_node d)))
    (sym (map-append (λ y. y.0) (export_of (shown_decl_node x)) (decl_exports (in_order (map shown_decl_node ds)))))

-- the rest of the declarations, as far as the standard asks it
pub declarations_at : (ds : List DeclNode) (i : ℕ) (d : DeclNode) (own : Scope) (outer : List Scope) → i < length ds → d ≡ get_or ds i d
    → PossibleDeclarations (in_order (map shown_decl_node (drop i ds))) own outer
    → PossibleDeclaration (shown_decl_node d) own outer
    × PossibleDeclarations (in_order (map shown_decl_node (drop (i + 1) ds))) (after_possible outer own (shown_decl_node d)) outer
declarations_at ds i d own outer h e p =
    subst (λ (ys : List DeclNode). PossibleDeclarations (in_order (map shown_decl_node ys)) own outer) (rest_at ds i d h e) p

-- What is judged of declarations up to a place, and one more.
module _ (ds : List DeclNode) (i : ℕ) (d : DeclNode) (h : i < length ds) (e : d ≡ get_or ds i d) (own : Scope) (outer : List Scope)
    (f : FormedDeclaration (shown_decl_node d) own outer) where
  abbrev FormedFrom : ℕ → Scope → List Scope → Type 0
  FormedFrom n own outer = FormedDeclarations (in_order (map shown_decl_node (drop n ds))) own outer

  abbrev PossibleFrom : ℕ → Scope → List Scope → Type 0
  PossibleFrom n own outer = PossibleDeclarations (in_order (map shown_decl_node (drop n ds))) own outer

  abbrev next : Scope
  next = after_decl outer own (shown_decl_node d)

  pub formed_more : (P : Type 0) → Same P (FormedFrom i own outer) → Same P (FormedFrom (i + 1) next outer)
  formed_more P s =
      same_step s (same_by (λ (ys : List DeclNode). FormedDeclarations (in_order (map shown_decl_node ys)) own outer) _ _ (rest_at ds i d h e)) f

  pub possible_more : PossibleFrom i own outer → PossibleFrom (i + 1) next outer
  possible_more p =
      subst (λ s. PossibleFrom (i + 1) s outer) (after_same (shown_decl_node d) own outer f) (declarations_at ds i d own outer h e p).1

pub possible_none : (xs : List (List ℕ × Unit {0})) → xs ≡ [] → PossibleNames true (names xs)
unfolding IsDistinct
possible_none xs e = subst (λ (ys : List (List ℕ × Unit {0})). PossibleNames true (names ys)) (sym e) (tt, tt)

-- a declaration that has no name
pub quiet_knows : (s : DeclaredNames) (before : List DeclNode) (d : DeclNode) → import_of (shown_decl_node d) ≡ [] → export_of (shown_decl_node d) ≡ []
    → KnowsDeclared s before → KnowsDeclared s (before ++ d ∷ [])
quiet_knows s before d e f k = record {
  imports = subst (Knows s.imports) (sym (imports_push before d ∙ ap (λ z. imported before ++ names z) e ∙ append-nil (imported before))) k.imports;
  exports = subst (Knows s.exports) (sym (exports_push before d ∙ ap (λ z. exported before ++ names z) f ∙ append-nil (exported before))) k.exports;
}

pub import_push : (before : List DeclNode) (d : DeclNode) (name : String Global) (r : ComponentTypeRef) → d ≡ declared.Import name r
    → (imported (before ++ d ∷ []) ≡ imported before ++ string_bytes name ∷ []) × (exported (before ++ d ∷ []) ≡ exported before)
import_push before d name r e =
    let s : shown_decl_node d ≡ import_decl (string_bytes name) tt r = ap shown_decl_node e ∙ shown_import name r in (
      imports_push before d ∙ ap (λ (x : Decl). imported before ++ names (import_of x)) s,
      exports_push before d ∙ ap (λ (x : Decl). exported before ++ names (export_of x)) s ∙ append-nil (exported before),
    )

pub export_push : (before : List DeclNode) (d : DeclNode) (name : String Global) (r : ComponentTypeRef) → d ≡ declared.Export name r
    → (exported (before ++ d ∷ []) ≡ exported before ++ string_bytes name ∷ []) × (imported (before ++ d ∷ []) ≡ imported before)
export_push before d name r e =
    let s : shown_decl_node d ≡ export_decl (string_bytes name) tt r = ap shown_decl_node e ∙ shown_export name r in (
      exports_push before d ∙ ap (λ (x : Decl). exported before ++ names (export_of x)) s,
      imports_push before d ∙ ap (λ (x : Decl). imported before ++ names (import_of x)) s ∙ append-nil (imported before),
    )

pub known_named : (s : DeclaredNames) (before : List DeclNode) → KnowsDeclared s before → NamedDeclared before
known_named s before k = (k.imports.named, k.exports.named)

pub quiet_at : (s : DeclaredNames) (before : List DeclNode) (d : DeclNode) (x : Decl) → shown_decl_node d ≡ x → import_of x ≡ [] → export_of x ≡ []
    → KnowsDeclared s before → KnowsDeclared s (before ++ d ∷ [])
quiet_at s before d x e f g k = quiet_knows s before d (ap import_of e ∙ f) (ap export_of e ∙ g) k

imports_append : (xs ys : List DeclNode) → imported (xs ++ ys) ≡ imported xs ++ imported ys
imports_append [] ys = refl
imports_append (x ∷ xs) ys =
    map-append (λ y. y.0) (import_of (shown_decl_node x)) (decl_imports (in_order (map shown_decl_node (xs ++ ys))))
    ∙ ap (λ z. names (import_of (shown_decl_node x)) ++ z) (imports_append xs ys)
    ∙ sym (append_assoc (names (import_of (shown_decl_node x))) (imported xs) (imported ys))
    ∙ ap (λ z. z ++ imported ys) (sym (map-append (λ y. y.0) (import_of (shown_decl_node x)) (decl_imports (in_order (map shown_decl_node xs)))))

exports_append : (xs ys : List DeclNode) → exported (xs ++ ys) ≡ exported xs ++ exported ys
exports_append [] ys = refl
exports_append (x ∷ xs) ys =
    map-append (λ y. y.0) (export_of (shown_decl_node x)) (decl_exports (in_order (map shown_decl_node (xs ++ ys))))
    ∙ ap (λ z. names (export_of (shown_decl_node x)) ++ z) (exports_append xs ys)
    ∙ sym (append_assoc (names (export_of (shown_decl_node x))) (exported xs) (exported ys))
    ∙ ap (λ z. z ++ exported ys) (sym (map-append (λ y. y.0) (export_of (shown_decl_node x)) (decl_exports (in_order (map shown_decl_node xs)))))

-- Declarations that are well named are so up to a place.
-- What they import, and what they export, is named so.
abbrev pub DeclaredBy : (List ℕ → Type 0) → List DeclNode → Type 0
DeclaredBy P ds = NamedBy P (imported ds) × NamedBy P (exported ds)

pub one_more : (ds : List DeclNode) (i : ℕ) (d : DeclNode) → i < length ds → d ≡ get_or ds i d → take i ds ++ d ∷ [] ≡ take (i + 1) ds
one_more ds i d h e = sym (take_more ds i d h ∙ ap (λ y. take i ds ++ y ∷ []) (sym e))

pub declared_upto : (P : List ℕ → Type 0) (ds : List DeclNode) (i : ℕ) (d : DeclNode) → i < length ds → d ≡ get_or ds i d → DeclaredBy P ds
    → DeclaredBy P (take i ds ++ d ∷ [])
declared_upto P ds i d h e n =
    let whole : take (i + 1) ds ++ drop (i + 1) ds ≡ ds = take-append-drop (i + 1) ds in
    let m : DeclaredBy P (take (i + 1) ds ++ drop (i + 1) ds) = subst (DeclaredBy P) (sym whole) n in
    subst (DeclaredBy P) (sym (one_more ds i d h e)) (
      front_of P _ _ (subst (NamedBy P) (imports_append (take (i + 1) ds) (drop (i + 1) ds)) m.0),
      front_of P _ _ (subst (NamedBy P) (exports_append (take (i + 1) ds) (drop (i + 1) ds)) m.1),
    )
