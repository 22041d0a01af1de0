-- What an export section reads: well formed exports under names that are new, within the limits, and a tail of the bytes.
use Rattle.std.proofs.Common.{◌≡◌, ℕ, ◌+◌, ◌-◌, ◌<◌, ◌≤◌, Bool, true, false, if◌then◌else◌, List, [], ◌∷◌, ◌++◌, length, arith, refl, ap, ◌∙◌, subst}
use Rattle.smith_input.specs.Reading.{IsTail}
use Rattle.smith_input.proofs.Loops.{loop_few, loop_gives, loop_tail}
use Rattle.smith_input.proofs.NewNames.{new_tail}
use Rattle.smith_input.proofs.Reading.{reads_tail, tail_is, tail_trans}
use Rattle.smith_format.specs.declared.config.Config.{Config}
use Rattle.smith_syntax.specs.WellFormed.{Named}
use Rattle.smith_component.specs.ExportReading.{ReadsExport, ReadsExports}
use Rattle.smith_tree.specs.Limits.{OwnLimits}
use Rattle.smith_tree.specs.Functions.{functions_of}
use Rattle.smith_syntax.specs.Marked.{Marked}
use Rattle.smith_tree.specs.Marking.{marked_inner}
use Rattle.smith_tree.specs.Offered.{OfferedExports}
use Rattle.smith_tree.specs.Offers.{with_exports}
use Rattle.smith_tree.specs.Open.{Open}
use Rattle.smith_component.specs.Sound.{IsAddable, Sound}
use Rattle.smith_tree.specs.Spaces.{Spaces, after_export, after_part, spaces_of}
use Rattle.smith_tree.specs.Tree.{ExportEntry, Tree, exports}
use Rattle.smith_tree.specs.Tree.{exports_of}
use Rattle.smith_tree.specs.TypeOffers.{has_room}
use Rattle.smith_tree.specs.WellFormed.{FormedExports, export_names}
use Rattle.smith_component.proofs.Fits.{fits_kept, fits_of, own_limits-add, own_sizes-add, sizes_keep}
use Rattle.smith_component.proofs.Growth.{KeepsTypes, exports_keep, spaces-add, spaces_export}
use Rattle.smith_component.proofs.Marks.{exports_marked, exports_marked_more}
use Rattle.smith_component.proofs.Named.{NewEntry, exports_are_named, loop_named}
use Rattle.smith_component.proofs.Sound.{addable_level, own_limits_of}

module _ (config : Config) (outer : List Tree) (t : Tree) where
  there : (b : Bool) (fs : List ℕ) (f : ℕ) → f < length (if b then fs else []) → (b ≡ true) × (f < length fs)
  there true fs f h = (refl, h)
  there false fs f h = absurd (omega (arith, h))

  -- There is room for an export that is read, and it is of a function that is there.
  export_there : {s u : List ExportEntry} {b r : List ℕ} {x : ExportEntry} → ReadsExport config outer t s b x r u
      → (has_room (marked_inner config outer (with_exports t s)) false ≡ true) × (x.func < length (functions_of (with_exports t s)))
  export_there {s} {x = x} i =
      there (has_room (marked_inner config outer (with_exports t s)) false) (functions_of (with_exports t s)) x.func i.of.below

  pub export_new : (s : List ExportEntry) (b : List ℕ) (x : ExportEntry) (r : List ℕ) (u : List ExportEntry) → ReadsExport config outer t s b x r u
      → NewEntry config.max_name_length (λ (e : ExportEntry). e.name) (exports_of t) s x u
  export_new s b x r u i = record { bytes = i.mid; rest = r; read = i.named; next_is = i.next_is }

  module _ {b rest : List ℕ} {es : List ExportEntry} (r : ReadsExports config outer t b es rest) where
    -- An export section leaves a tail of the bytes.
    pub exports_tail : IsTail rest b
    exports_tail = loop_tail (λ s c q u e. tail_is e.1) (λ s c x q u i. tail_trans (new_tail i.named) (reads_tail i.of)) 0 [] b es rest es r

    -- A component has as many exports as it may, at most.
    exports_few : length (exports_of t) ≤ config.max_exports → length (exports_of t) + length es ≤ config.max_exports
    exports_few h = grind (arith, loop_few)

    -- What is exported is there.
    exports_formed : FormedExports es (spaces_of t)
    exports_formed =
        let R : List ExportEntry → List ExportEntry → List ExportEntry → Type 0 = λ s xs u. FormedExports xs (spaces_of (with_exports t s)) in
        subst (FormedExports es) (spaces-add t (exports []))
        (loop_gives R (λ s. tt) (λ s c q u e. tt)
        (λ s u v c x q xs i more. (
          (export_there i).1,
          subst (FormedExports xs) (ap (λ z. spaces_of (with_exports t z)) i.next_is ∙ spaces_export t s x) more,
        ))
        0 [] b es rest es r)

    -- As there was room for each, all were offered.
    pub exports_offered : OfferedExports es (spaces_of t) (marked_inner config outer t)
    exports_offered =
        let marked : List ExportEntry → Marked = λ s. marked_inner config outer (with_exports t s) in
        let R : List ExportEntry → List ExportEntry → List ExportEntry → Type 0 =
        λ s xs u. OfferedExports xs (spaces_of (with_exports t s)) (marked s) in
        subst (OfferedExports es (spaces_of t)) (exports_marked config outer t [])
        (subst (λ z. OfferedExports es z (marked [])) (spaces-add t (exports []))
        (loop_gives R (λ s. tt) (λ s c q u e. tt)
        (λ s u v c x q xs i more. (
          (export_there i).0,
          subst (OfferedExports xs (after_export (spaces_of (with_exports t s)) x)) (exports_marked_more config outer t s x)
              (subst (λ z. OfferedExports xs z (marked (s ++ x ∷ []))) (spaces_export t s x)
              (subst (λ z. OfferedExports xs (spaces_of (with_exports t z)) (marked z)) i.next_is more)),
        ))
        0 [] b es rest es r))

    exports_named : Named (export_names (exports_of t)) → Named (export_names (exports_of t ++ es))
    exports_named h = loop_named config.max_name_length (λ (e : ExportEntry). e.name) (exports_of t) (λ s c q u e. e.2) export_new h r

-- What an export section reads may be added.
pub exports_addable : (config : Config) (stack : Open) {b rest : List ℕ} {es : List ExportEntry} → Sound config stack
    → ReadsExports config stack.outer stack.inner b es rest → IsAddable config stack (exports es)
exports_addable config stack {es = es} sound r =
    let inner : Tree = stack.inner in
    let limits : OwnLimits config inner = own_limits_of config stack sound in
    let few : length (exports_of inner) + length es ≤ config.max_exports = exports_few config stack.outer inner r limits.exports in
    let spaces : Spaces = after_part (spaces_of inner) (exports es) in
    let same : KeepsTypes (spaces_of inner) spaces = exports_keep (spaces_of inner) es in
    addable_level config stack (exports es) (
      exports_formed config stack.outer inner r,
      exports_named config stack.outer inner r (exports_are_named config stack sound),
    )
    (λ o.
    own_limits-add config inner (exports es) o (fits_kept config (spaces_of inner) spaces same (fits_of config inner o))
    (record { imports = omega (arith, o.imports); functions = omega (arith, o.functions); exports = few }) tt)
    (λ o. own_sizes-add config inner (exports es) (sizes_keep config (spaces_of inner) spaces same o)) refl refl refl
    (λ h. omega (arith, h))
