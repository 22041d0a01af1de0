-- Sections that are lists: each entry is judged after the ones before it, and adds to what they add.
use Rattle.std.specs.Prelude.{◌≡◌, ◌↔◌, ℕ, List, [], ◌∷◌, ◌++◌, Option, None, Some, fold, map, refl, slice_get}
use Rattle.std.specs.Option.{option_to_list}
use Rattle.std.proofs.Common.{ap, append-nil, append_assoc, sym}
use Rattle.smith_syntax.specs.declared.deftype.ComponentTypeRef.{ComponentTypeRef}
use Rattle.smith_syntax.specs.declared.deftype.ComponentTypeRef.TheVariants as to
use Rattle.smith_tree.specs.Bodies.{Body, after_export}
use Rattle.smith_tree.specs.Demands.{Demands}
use Rattle.smith_tree.specs.Facts.{FactScope}
use Rattle.smith_tree.specs.Spaces.{after_export as spaces_after_export}
use Rattle.smith_tree.specs.Tree.{Part, canons, core_types, exports, imports, types}
use Rattle.smith_tree.specs.Validates.{ValidExports, ValidPart, after_part, exported_references}
use Rattle.smith_validate.specs.Parts.{after_section}
use Rattle.smith_validate.specs.Steps.{At}
use Rattle.smith_validate.specs.Usual.{IsUsualPart}

-- It is so of the sections with any entries. What holds of a list holds of its first entry alone, and of the others after that.
pub record AreByEntry {B : Type 0} (section : List B → Part) : Type 0 where
  pub after_none : (at : At) (outer : List FactScope) → after_section (section []) at outer ≡ at
  pub after_more : (x : B) (xs : List B) (at : At) (outer : List FactScope)
      → after_section (section (x ∷ xs)) at outer ≡ after_section (section xs) (after_section (section (x ∷ [])) at outer) outer
  pub valid_none : (d : Demands) (at : At) (outer : List FactScope) → ValidPart d (section []) at.0 outer at.1
  pub valid_more : (d : Demands) (x : B) (xs : List B) (at : At) (outer : List FactScope)
      → ValidPart d (section (x ∷ xs)) at.0 outer at.1 ↔ (ValidPart d (section (x ∷ [])) at.0 outer at.1
      × ValidPart d (section xs) (after_section (section (x ∷ [])) at outer).0 outer (after_section (section (x ∷ [])) at outer).1)
  pub usual_none : (at : At) (outer : List FactScope) → IsUsualPart (section []) at.0 outer at.1
  pub usual_more : (x : B) (xs : List B) (at : At) (outer : List FactScope)
      → IsUsualPart (section (x ∷ xs)) at.0 outer at.1 ↔ (IsUsualPart (section (x ∷ [])) at.0 outer at.1
      × IsUsualPart (section xs) (after_section (section (x ∷ [])) at outer).0 outer (after_section (section (x ∷ [])) at outer).1)

pub core_types_by_entry : AreByEntry core_types
core_types_by_entry = record {
  after_none = λ at outer. ap (λ ts. (record at.0 { core_types = ts }, at.1)) (append-nil at.0.core_types);
  after_more = λ x xs at outer.
      ap (λ ts. (record at.0 { core_types = ts }, after_part (core_types (x ∷ xs)) at.0 outer at.1)) (sym (append_assoc at.0.core_types (x ∷ []) xs));
  valid_none = λ d at outer. tt;
  valid_more = λ d x xs at outer. (λ q. ((q.0, q.1, tt), q.2), λ q. (q.0.0, q.0.1, q.1));
  usual_none = λ at outer. tt;
  usual_more = λ x xs at outer. (λ u. (tt, tt), λ u. tt);
}

pub types_by_entry : AreByEntry types
types_by_entry = record {
  after_none = λ at outer. ap (λ ts. (record at.0 { types = ts }, at.1)) (append-nil at.0.types);
  after_more = λ x xs at outer.
      ap (λ ts. (record at.0 { types = ts }, after_part (types (x ∷ xs)) at.0 outer at.1)) (sym (append_assoc at.0.types (x ∷ []) xs));
  valid_none = λ d at outer. tt;
  valid_more = λ d x xs at outer. (λ q. ((q.0, q.1, tt), q.2), λ q. (q.0.0, q.0.1, q.1));
  usual_none = λ at outer. tt;
  usual_more = λ x xs at outer. (λ u. ((u.0, tt), u.1), λ u. (u.0.0, u.1));
}

pub canons_by_entry : AreByEntry canons
canons_by_entry = record {
  after_none = λ at outer. refl;
  after_more = λ x xs at outer. refl;
  valid_none = λ d at outer. tt;
  valid_more = λ d x xs at outer. (λ q. ((q.0, tt), q.1), λ q. (q.0.0, q.1));
  usual_none = λ at outer. tt;
  usual_more = λ x xs at outer. (λ u. (tt, tt), λ u. tt);
}

pub imports_by_entry : AreByEntry imports
imports_by_entry = record {
  after_none = λ at outer. refl;
  after_more = λ x xs at outer. refl;
  valid_none = λ d at outer. tt;
  valid_more = λ d x xs at outer. (λ q. ((q.0, q.1, tt), q.2), λ q. (q.0.0, q.0.1, q.1));
  usual_none = λ at outer. tt;
  usual_more = λ x xs at outer. (λ u. ((u.0, tt), u.1), λ u. (u.0.0, u.1));
}

-- an export of the function that it names, if there is one

abbrev pub found : Option ℕ → List ComponentTypeRef
found o = map (λ t. to.Func t) (option_to_list o)

module _ (outer : List FactScope) (b : Body) (rest : List ComponentTypeRef) where
  found_after : (o : Option ℕ)
      → fold (after_export outer) b (found o ++ rest) ≡ fold (after_export outer) (fold (after_export outer) b (found o ++ [])) rest
  found_after None = refl
  found_after (Some t) = refl

  found_valid : (d : Demands) (o : Option ℕ)
      → ValidExports d (found o ++ rest) outer b
      ↔ (ValidExports d (found o ++ []) outer b × ValidExports d rest outer (fold (after_export outer) b (found o ++ [])))
  found_valid d None = (λ q. (tt, q), λ q. q.1)
  found_valid d (Some t) = (λ q. ((q.0, q.1, tt), q.2), λ q. (q.0.0, q.0.1, q.1))

pub exports_by_entry : AreByEntry exports
exports_by_entry = record {
  after_none = λ at outer. refl;
  after_more = λ x xs at outer.
      let s = spaces_after_export at.0 x in
      ap (λ (b : Body). (fold spaces_after_export s xs, b)) (found_after outer at.1 (exported_references s xs) (slice_get at.0.functions x.func));
  valid_none = λ d at outer. tt;
  valid_more = λ d x xs at outer.
      found_valid outer at.1 (exported_references (spaces_after_export at.0 x) xs) d (slice_get at.0.functions x.func);
  usual_none = λ at outer. tt;
  usual_more = λ x xs at outer. (λ u. (tt, tt), λ u. tt);
}
