-- What is exposed in a component or a component type after an import or an export.
use Rattle.std.proofs.Common.{◌≡◌, inl, inr, ℕ, ◌+◌, true, false, List, ◌++◌, length}
use Rattle.std.proofs.Common.{refl, sym, subst, arith, append_assoc, None, Some}
use Rattle.std.proofs.lemmas.Bool.{leb-false}
use Rattle.smith_input.specs.NewNames.{is_among}
use Rattle.smith_tree.specs.Bodies.{Body}
use Rattle.smith_tree.specs.Facts.{Extern, Id}
use Rattle.smith_tree.specs.Validates.{RefersTo, exported, imported, names_of}
use Rattle.smith_validate.specs.Deferring.{IsExposure}
use Rattle.smith_validate.specs.Exact.{AreNamedFor, AreSetsExactly, IsPieceExactly}
use Rattle.smith_validate.specs.Exposing.{IsMet, named_after}
use Rattle.smith_validate.specs.Externs.{with_exports, with_imports}
use Rattle.smith_validate.specs.Instances.{Surface}
use Rattle.smith_validate.specs.Marks.{is_nothing, is_within}
use Rattle.smith_validate.specs.Tables.{AreAdded, names_in}
use Rattle.smith_validate.specs.declared.body.Extern.{Extern as KeptExtern}
use Rattle.smith_validate.specs.declared.body.Sets.{Sets}
use Rattle.smith_validate.specs.declared.facts.Outermost.{Outermost}
use Rattle.smith_validate.specs.declared.facts.Outermost.TheVariants.{Unnamed, Scope, Nothing}
use Rattle.smith_validate.specs.declared.exposure.Exposure.{Exposure}
use Rattle.smith_validate.specs.declared.instances.Use.{Use}
use Rattle.smith_validate.proofs.Attaining.{not_both}
use Rattle.smith_validate.proofs.Names.{Sub, among_cases, refers_sub, sub_left, sub_right}
use Rattle.smith_validate.proofs.Deferring.{exposure_sub}
use Rattle.smith_validate.proofs.Piecing.{AttainedBy, not_closed, not_referred, piece_met, single_exposed, used_exposed}
use Rattle.smith_validate.proofs.Sets.{imports_export}
use Rattle.smith_tree.proofs.Named.{names_of_both as names_append}

module _ (table : List Surface) (s : Exposure) (b : Body) (xs : List Extern) where
  -- for imports
  after_import : IsExposure table s (imported b ++ names_of xs) → IsExposure table s (imported (with_imports b xs))
  after_import x = subst (λ ids. IsExposure table s ids) (sym (names_append b.imports xs)) x

  -- for exports, after an import
  import_back : Sub (exported (with_imports b xs)) (exported b ++ names_of xs)
  import_back = grind (arith, among_cases, names_append, sub_left, sub_right)

  after_import_too : IsExposure table s (exported b ++ names_of xs) → IsExposure table s (exported (with_imports b xs))
  after_import_too x = exposure_sub table s (exported b ++ names_of xs) (exported (with_imports b xs)) (imports_export b xs) import_back x

  -- for exports, after an export
  also_exported : IsExposure table s (exported b ++ names_of xs) → IsExposure table s (exported (with_exports b xs))
  also_exported x = grind (arith, append_assoc, names_append)

module _ (table : List Surface) (place around : Id) (full : List Id) (k : KeptExtern) (xs : List Extern) (added : AreAdded place table)
    (i : IsPieceExactly table place around full k xs) (b : Body) where
  pub import_alone : (s : Sets) → AreSetsExactly table s b → k.used ≡ None → AreSetsExactly table s (with_imports b xs)
  import_alone s a e = (
    after_import table s.imported b xs (single_exposed table place around full k xs added i s.imported (imported b) e a.0),
    after_import_too table s.exported b xs (single_exposed table place around full k xs added i s.exported (exported b) e a.1),
  )

  pub import_used : (s : Sets) (u : Use) → k.used ≡ Some u → IsExposure table s.imported (named_after table u (imported b))
      → IsExposure table s.exported (named_after table u (exported b)) → AreSetsExactly table s (with_imports b xs)
  import_used s u e x y = (
    after_import table s.imported b xs (used_exposed table place around full k xs added i s.imported (imported b) u e x),
    after_import_too table s.exported b xs (used_exposed table place around full k xs added i s.exported (exported b) u e y),
  )

  pub export_alone : (s : Sets) → AreSetsExactly table s b → k.used ≡ None → AreSetsExactly table s (with_exports b xs)
  export_alone s a e = (a.0, also_exported table s.exported b xs (single_exposed table place around full k xs added i s.exported (exported b) e a.1))

  pub export_used : (s : Sets) (n : Exposure) (u : Use) → AreSetsExactly table s b → k.used ≡ Some u → IsExposure table n (named_after table u (exported b))
      → AreSetsExactly table (record { imported = s.imported; exported = n }) (with_exports b xs)
  export_used s n u a e x = (a.0, also_exported table n b xs (used_exposed table place around full k xs added i n (exported b) u e x))

  -- what is found not to be met
  pub import_unmet : (u : Use) → k.used ≡ Some u → ¬ (IsMet table u (imported b)) → ¬ (RefersTo (imported b) xs)
  import_unmet u e n = λ r. n (piece_met table place around full k xs added i u e (imported b) r)

  pub export_unmet : (u : Use) → k.used ≡ Some u → ¬ (IsMet table u (exported b)) → ¬ (RefersTo (exported b) xs)
  export_unmet u e n = λ r. n (piece_met table place around full k xs added i u e (exported b) r)

  pub import_unmet_too : (u : Use) → k.used ≡ Some u → ¬ (IsMet table u (exported b)) → ¬ (RefersTo (imported b) xs)
  import_unmet_too u e n = λ r.
      n (piece_met table place around full k xs added i u e (exported b)
      (refers_sub (imported b) (exported b) xs (sub_left (names_of b.imports) (names_of b.exports)) r))

  module _ (f : AreNamedFor table place full b) where
    abbrev By : Outermost → Id → Type 0
    By o id = AttainedBy table place around full k xs added i o id

    -- what types of instances name is attained by nothing
    table_not : (o : Outermost) (id : Id) → is_among (names_in table) id ≡ true → By o id → ⊥
    table_not Unnamed id h a = not_both (is_among full id) (f.table_named id h) a.1
    table_not (Scope level) id h a = not_closed table place around full k xs added i id a.0 h
    table_not Nothing id h a = a

    pub import_refused : is_nothing k.refers.outermost ≡ false → ¬ (RefersTo (imported b) xs)
    import_refused h = λ r.
        not_referred table place around full k xs added i k.refers.outermost (imported b) i.refers_are.outer h f.table_named
        (λ id y a. table_not k.refers.outermost id (f.imports_are id y) a) r

    own_not : (depth : ℕ) → length place ≡ depth + 1 → (o : Outermost) → is_within o depth ≡ false → (id : Id)
        → is_among (names_of b.exports) id ≡ true → By o id → ⊥
    own_not depth d Unnamed h id y a = not_both (is_among full id) (f.exports_named id y) a.1
    own_not depth d (Scope level) h id y a =
        elim (f.exports_are id y) [
          | inl z ↦ table_not (Scope level) id z a
          | inr z ↦ let l = leb-false depth level h in omega (arith, l, z.1, a.1, d)
        ]
    own_not depth d Nothing h id y a = a

    within_nothing : (o : Outermost) (depth : ℕ) → is_within o depth ≡ false → is_nothing o ≡ false
    within_nothing Unnamed depth h = refl
    within_nothing (Scope level) depth h = refl
    within_nothing Nothing depth h = absurd (let z : true ≡ false = h in cc)

    pub export_refused : (depth : ℕ) → length place ≡ depth + 1 → is_within k.refers.outermost depth ≡ false → ¬ (RefersTo (exported b) xs)
    export_refused depth d h = λ r.
        not_referred table place around full k xs added i k.refers.outermost (exported b) i.refers_are.outer
        (within_nothing k.refers.outermost depth h) f.table_named
        (λ id y a. elim (among_cases (names_of b.imports) (names_of b.exports) id y) [
          | inl z ↦ table_not k.refers.outermost id (f.imports_are id z) a
          | inr z ↦ own_not depth d k.refers.outermost h id z a
        ]) r
