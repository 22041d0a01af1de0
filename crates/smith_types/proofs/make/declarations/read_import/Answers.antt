use Rattle.std.proofs.Common.{sym, ap, ◌∙◌, refl, arith}
use Rattle.smith_tree.specs.TypeOffers.{has_reference}
use Rattle.smith_types.specs.Declarations.{nothing_there}
use Rattle.smith_types.proofs.MakingTypes.{import_not_asked, import_fits_none, import_read}
use Rattle.smith_types.proofs.make.declarations.read_import.Goals as goal
use Rattle.smith_types.proofs.make.declarations.read_import.Goals.{then-not-has_reference-via-then-not-has_reference}
use Rattle.smith_types.proofs.make.declarations.read_import.Goals.{then-not-has_reference-via-else-not-has_reference+then-int_in_range-ne0}

pub returns-then-not-has_reference-clause-reads : goal.returns-then-not-has_reference-clause-reads
returns-then-not-has_reference-clause-reads c = λ so_far held.
    elim c.then-not-has_reference.branch [
      | then-not-has_reference-via-then-not-has_reference w ↦ rw w.u-is
          (nothing_there refl (sym (c.has_reference.ensures ∙ ap has_reference c.last.ensures.marked) ∙ w.if-not-has_reference.true))
      | then-not-has_reference-via-else-not-has_reference+then-int_in_range-ne0 w ↦ rw w.u-is
          (import_not_asked _ _ _ _ w.int_in_range.result
          (sym (c.has_reference.ensures ∙ ap has_reference c.last.ensures.marked) ∙ w.if-not-has_reference.false) w.int_in_range.ensures
          (omega (arith, w.if-int_in_range-ne0.true)))
    ]

pub returns-in_default-clause-reads : goal.returns-in_default-clause-reads
returns-in_default-clause-reads c = λ so_far held.
    let none = rw c.in_default.is at c.arbitrary_type_ref.ensures.reads in
    let some = sym (c.has_reference.ensures ∙ ap has_reference c.last.ensures.marked) ∙ c.if-not-has_reference.false in
    rw none.1
    (import_fits_none _ _ _ _ c.int_in_range.result some c.int_in_range.ensures c.if-int_in_range-ne0.false none.0)

pub returns-clause-reads : goal.returns-clause-reads
returns-clause-reads c = λ so_far held.
    let some = sym (c.has_reference.ensures ∙ ap has_reference c.last.ensures.marked) ∙ c.if-not-has_reference.false in
    import_read _ _ _ _ c.int_in_range.result some c.int_in_range.ensures so_far c.in-Some.ty _ _ _
    c.if-int_in_range-ne0.false
    (rw c.in-Some.is at c.arbitrary_type_ref.ensures.reads)
    (c.in_ok-name.ensures.reads so_far held)
