-- What is named in a component or a component type.
use Rattle.std.proofs.Common.{arith, ◌≡◌, true, List, ◌∷◌, ◌++◌, length, sym, ap, ◌∙◌, subst}
use Rattle.std.proofs.Common.{None, Some}
use Rattle.std.specs.Option.{option_to_list}
use Rattle.smith_tree.specs.Bodies.{Body}
use Rattle.smith_tree.specs.Facts.{Extern, Id}
use Rattle.smith_tree.specs.Validates.{RefersTo, exported, imported, names_of}
use Rattle.smith_validate.specs.Bodies.{AreSets}
use Rattle.smith_validate.specs.Deferring.{AreSettled}
use Rattle.smith_validate.specs.Exposing.{Meets, named_after, number_of}
use Rattle.smith_validate.specs.Externs.{IsPiece, with_exports, with_imports}
use Rattle.smith_validate.specs.Instances.{Surface, outside_of, reach}
use Rattle.smith_validate.specs.Marks.{Within, is_nothing, is_within}
use Rattle.smith_validate.specs.declared.body.Extern.{Extern as KeptExtern}
use Rattle.smith_validate.specs.declared.body.Sets.{Sets}
use Rattle.smith_validate.specs.declared.exposure.Exposure.{Exposure}
use Rattle.smith_validate.specs.declared.instances.Use.{Use}
use Rattle.smith_validate.proofs.Covering.{covers_nothing, covers_within}
use Rattle.smith_validate.proofs.Names.{Sub, sub_both, sub_left, sub_right, sub_same, sub_then, within_sub}
use Rattle.smith_validate.proofs.Roles.{UseOf, single_met, use_of}
use Rattle.smith_validate.proofs.Deferring.{are_sub}
use Rattle.smith_tree.proofs.Named.{names_of_both as names_append}

module _ (b : Body) (xs : List Extern) where
  pub imports_grow : Sub (imported b ++ names_of xs) (imported (with_imports b xs))
  imports_grow = λ id h. subst (λ ids. Sub (imported b ++ names_of xs) ids) (sym (names_append b.imports xs)) (sub_same (imported b ++ names_of xs)) id h

  pub imports_export : Sub (exported b ++ names_of xs) (exported (with_imports b xs))
  imports_export = grind (arith, sub_then, sub_left, imports_grow, sub_right, sub_both)

  pub exports_grow : Sub (exported b ++ names_of xs) (exported (with_exports b xs))
  exports_grow = grind (arith, names_append, sub_same, sub_then, sub_right, sub_both, sub_left)

module _ (table : List Surface) (names : List (List Id)) (k : KeptExtern) (xs : List Extern) (i : IsPiece table names k xs) where
  -- what is of no type of instances
  pub refers_single : (named : List Id) → k.used ≡ None → Within named (reach table i.piece) → RefersTo named xs
  refers_single named e w = subst (λ ys. RefersTo named ys) (sym i.externs_are) (single_met table i.piece named (i.used_is ∙ ap option_to_list e) w)

  -- what is of one
  pub use_is : (u : Use) → k.used ≡ Some u → UseOf table u i.piece
  use_is u e = use_of table u i.piece (i.used_is ∙ ap option_to_list e) i.known

  module _ (named : List Id) (u : Use) (e : k.used ≡ Some u) where
    pub outside_within : Within named (reach table i.piece) → Within named (outside_of table (number_of u))
    outside_within w = subst (λ ids. Within named ids) (use_is u e).reach_is w

    pub refers_met : (S : List Id → Type 0) → Meets table u S named → RefersTo named xs
    refers_met S m = subst (λ ys. RefersTo named ys) (sym i.externs_are) ((use_is u e).met named m.met)

    pub after_met : Sub (named_after table u named) (named ++ names_of xs)
    after_met = subst (λ ys. Sub (named_after table u named) (named ++ names_of ys)) (sym i.externs_are) ((use_is u e).after named)

-- What an import or an export names, if names are asked.
module _ (table : List Surface) (names : List (List Id)) (s : Sets) (b : Body) (k : KeptExtern) (xs : List Extern) where
  module _ (i : IsPiece table names k xs) (sets : AreSets table s b) (none : is_nothing k.refers.outermost ≡ true) where
    pub import_single : k.used ≡ None → RefersTo (imported b) xs × AreSets table s (with_imports b xs)
    import_single e = (
      refers_single table names k xs i (imported b) e (covers_nothing names k.refers (imported b) (reach table i.piece) none i.covered),
      record {
        imported_are = are_sub table s.imported (imported b) (imported (with_imports b xs))
            (sub_then (imported b) (imported b ++ names_of xs) (imported (with_imports b xs)) (sub_left (imported b) (names_of xs)) (imports_grow b xs))
            sets.imported_are;
        exported_are = are_sub table s.exported (exported b) (exported (with_imports b xs))
            (sub_then (exported b) (exported b ++ names_of xs) (exported (with_imports b xs)) (sub_left (exported b) (names_of xs)) (imports_export b xs))
            sets.exported_are;
      },
    )

    pub import_within : (u : Use) (e : k.used ≡ Some u) (named : List Id) → Within named (outside_of table (number_of u))
    import_within u e named =
        outside_within table names k xs i named u e (covers_nothing names k.refers named (reach table i.piece) none i.covered)

    pub import_met : (u : Use) (e : k.used ≡ Some u) (n : Sets) → Meets table u (AreSettled table n.imported) (imported b)
        → Meets table u (AreSettled table n.exported) (exported b)
        → RefersTo (imported b) xs × AreSets table n (with_imports b xs)
    import_met u e n m o = (
      refers_met table names k xs i (imported b) u e (AreSettled table n.imported) m,
      record {
        imported_are = are_sub table n.imported (named_after table u (imported b)) (imported (with_imports b xs))
            (sub_then (named_after table u (imported b)) (imported b ++ names_of xs) (imported (with_imports b xs))
            (after_met table names k xs i (imported b) u e) (imports_grow b xs)) m.settled;
        exported_are = are_sub table n.exported (named_after table u (exported b)) (exported (with_imports b xs))
            (sub_then (named_after table u (exported b)) (exported b ++ names_of xs) (exported (with_imports b xs))
            (after_met table names k xs i (exported b) u e) (imports_export b xs)) o.settled;
      },
    )

module _ (table : List Surface) (names : List (List Id)) (s : Sets) (b : Body) (k : KeptExtern) (xs : List Extern) where
  module _ (i : IsPiece table (names_of b.exports ∷ names) k xs) (sets : AreSets table s b) (own : is_within k.refers.outermost (length names) ≡ true) where
    export_reach : Within (exported b) (reach table i.piece)
    export_reach = grind (arith, within_sub, sub_right, covers_within)

    abbrev all : List (List Id)
    all = names_of b.exports ∷ names

    pub export_single : k.used ≡ None → RefersTo (exported b) xs × AreSets table s (with_exports b xs)
    export_single e = (
      refers_single table all k xs i (exported b) e export_reach,
      record {
        imported_are = sets.imported_are;
        exported_are = are_sub table s.exported (exported b) (exported (with_exports b xs))
            (sub_then (exported b) (exported b ++ names_of xs) (exported (with_exports b xs)) (sub_left (exported b) (names_of xs)) (exports_grow b xs))
            sets.exported_are;
      },
    )

    pub export_within : (u : Use) (e : k.used ≡ Some u) → Within (exported b) (outside_of table (number_of u))
    export_within u e = outside_within table all k xs i (exported b) u e export_reach

    pub export_met : (u : Use) (e : k.used ≡ Some u) (n : Exposure) → Meets table u (AreSettled table n) (exported b)
        → RefersTo (exported b) xs × AreSets table (record { imported = s.imported; exported = n }) (with_exports b xs)
    export_met u e n m = (
      refers_met table all k xs i (exported b) u e (AreSettled table n) m,
      record {
        imported_are = sets.imported_are;
        exported_are = are_sub table n (named_after table u (exported b)) (exported (with_exports b xs))
            (sub_then (named_after table u (exported b)) (exported b ++ names_of xs) (exported (with_exports b xs))
            (after_met table all k xs i (exported b) u e) (exports_grow b xs)) m.settled;
      },
    )
