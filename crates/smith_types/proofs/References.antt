-- What an import or an export is of.
use Rattle.std.proofs.Common.{◌≡◌, ℕ, Bool, true, false, List, [], refl, sym, subst}
use Rattle.std.proofs.lemmas.Bool.{false≢true, and_parts}
use Rattle.std.specs.Prelude.{Some, if◌then◌else◌, slice_get, Option, None}
use Rattle.smith_input.proofs.Offered.{offer_holds}
use Rattle.smith_format.specs.declared.config.Config.{Config}
use Rattle.smith_syntax.specs.Marked.{Marked, scope_in}
use Rattle.smith_syntax.specs.Marks.{is_everywhere, is_small, is_somewhere}
use Rattle.smith_syntax.specs.Scope.{is_component, is_core_module, is_func, is_instance}
use Rattle.smith_syntax.specs.Usable.{OfferedRef, is_equatable, is_exportable, is_importable, is_small_component, is_small_instance, mark_at}
use Rattle.smith_syntax.specs.WellFormed.{FormedRef, is_type_eq}
use Rattle.smith_syntax.specs.declared.deftype.ComponentTypeRef.{ComponentTypeRef}
use Rattle.smith_types.specs.References.{ref_to, ReadsRef, offer_of}
use Rattle.smith_tree.specs.TypeOffers.{ref_places, has_place, has_room, kinds_offered, ref_offers}
use Rattle.smith_tree.specs.declared.choices.RefKind.{RefKind}
use Rattle.smith_tree.specs.declared.choices.RefKind.TheVariants as kind
use Rattle.smith_tree.specs.declared.totals.RefTotals.{RefTotals}
use Rattle.smith_scope.proofs.Places.{place_stands}
use Rattle.smith_types.proofs.MarkedPlaces.{marked_stands, three_parts}
use Rattle.smith_syntax.specs.Places.{places}
use Rattle.smith_scope.specs.Kept.{offered_places}
use Rattle.smith_scope.specs.declared.offers.Offer.{Offer}

-- It names what is in the scope and is of its kind, and it was offered.
abbrev pub IsRef : Marked → Bool → ComponentTypeRef → Type 0
IsRef own for_import r = FormedRef (scope_in own) r × OfferedRef own for_import r

kind_is : (own : Marked) (for_import : Bool) (k : RefKind) (place i : ℕ) → slice_get (ref_places own for_import k) place ≡ Some i
    → IsRef own for_import (ref_to k i)
kind_is own for_import kind.Module place i h = (place_stands is_core_module own.core_types place i h, tt)
kind_is own for_import kind.TypeEq place i h =
    let p = marked_stands is_equatable own.types own.marks place i h in
    let m = mark_at own.marks i in
    ((p.0, p.1), and_parts (is_small m) (is_somewhere m) p.2)
kind_is own true kind.Func place i h =
    let p = marked_stands is_importable own.types own.marks place i h in
    let m = mark_at own.marks i in
    let q = three_parts (is_func p.0) (is_small m) (is_everywhere m) p.2 in
    ((p.0, p.1, q.0), (q.1, q.2))
kind_is own false kind.Func place i h =
    let p = marked_stands is_exportable own.types own.marks place i h in
    let m = mark_at own.marks i in
    let q = three_parts (is_func p.0) (is_small m) (is_somewhere m) p.2 in
    ((p.0, p.1, q.0), (q.1, q.2))
kind_is own for_import kind.Component place i h =
    let p = marked_stands is_small_component own.types own.marks place i h in
    let q = and_parts (is_component p.0) (is_small (mark_at own.marks i)) p.2 in
    ((p.0, p.1, q.0), q.1)
kind_is own for_import kind.Instance place i h =
    let p = marked_stands is_small_instance own.types own.marks place i h in
    let q = and_parts (is_instance p.0) (is_small (mark_at own.marks i)) p.2 in
    ((p.0, p.1, q.0), q.1)

pub ref_is : (config : Config) (own : Marked) (totals : RefTotals) (for_import for_type_def : Bool) (b : List ℕ) (r : ComponentTypeRef) (rest : List ℕ)
    → ReadsRef config own totals for_import for_type_def b r rest → IsRef own for_import r
ref_is config own totals for_import for_type_def b r rest h =
    subst (IsRef own for_import) (sym h.is) (kind_is own for_import h.kind h.names.place h.index h.names.named)

-- What a reference names is in the scope, and is of its kind.
pub ref_formed : (config : Config) (own : Marked) (totals : RefTotals) (for_import for_type_def : Bool) (b : List ℕ) (r : ComponentTypeRef) (rest : List ℕ)
    → ReadsRef config own totals for_import for_type_def b r rest → FormedRef (scope_in own) r
ref_formed config own totals for_import for_type_def b r rest h = (ref_is config own totals for_import for_type_def b r rest h).0

pub ref_offered : (config : Config) (own : Marked) (totals : RefTotals) (for_import for_type_def : Bool) (b : List ℕ) (r : ComponentTypeRef) (rest : List ℕ)
    → ReadsRef config own totals for_import for_type_def b r rest → OfferedRef own for_import r
ref_offered config own totals for_import for_type_def b r rest h = (ref_is config own totals for_import for_type_def b r rest h).1

-- What is offered is offered if there is room.
pub offered_where : {A : Type 0} (room : Bool) (xs : List A) (k : ℕ) (x : A) → slice_get (if room then xs else []) k ≡ Some x → slice_get xs k ≡ Some x
offered_where true xs k x h = h
offered_where false xs k x h = absurd (cc)

-- Does a kind never yield a type that is equal to another?
abbrev IsNeverEqual : RefKind → Type 0
IsNeverEqual k = (i : ℕ) → is_type_eq (ref_to k i) ≡ false

-- What is imported is of no type that is equal to another.
pub import_not_equal : (config : Config) (own : Marked) (totals : RefTotals) (for_type_def : Bool) (b : List ℕ) (r : ComponentTypeRef) (rest : List ℕ)
    → ReadsRef config own totals true for_type_def b r rest → is_type_eq r ≡ false
import_not_equal config own totals for_type_def b r rest h =
    let named = offered_where (has_room own for_type_def) (kinds_offered config own totals true for_type_def) h.choice.place h.kind h.choice.named in
    let never : IsNeverEqual h.kind =
    offer_holds IsNeverEqual (ref_offers config own totals true for_type_def) (
      λ t i. refl,
      (
        λ t. absurd (false≢true (and_parts (has_place own true kind.TypeEq) false t).1),
        (
          λ t i. refl,
          (
            λ t i. refl,
            (
              λ t i. refl,
              tt,
            ),
          ),
        ),
      ),
    ) h.choice.place h.kind named in
    subst (λ z. is_type_eq z ≡ false) (sym h.is) (never h.index)

-- the places that it may name

abbrev Places : Marked → List ℕ → Option Offer → Type 0
Places own row None = row ≡ places is_core_module 0 own.core_types
Places own row (Some o) = row ≡ offered_places o own

places_by : (k : RefKind) (for_import : Bool) (own : Marked) → Places own (ref_places own for_import k) (offer_of k for_import)
places_by kind.Module for_import own = refl
places_by kind.TypeEq for_import own = refl
places_by kind.Func true own = refl
places_by kind.Func false own = refl
places_by kind.Component for_import own = refl
places_by kind.Instance for_import own = refl

pub places_offered : (k : RefKind) (for_import : Bool) (o : Offer) (own : Marked) → offer_of k for_import ≡ Some o
    → ref_places own for_import k ≡ offered_places o own
places_offered k for_import o own e = subst (Places own (ref_places own for_import k)) e (places_by k for_import own)

pub places_of_modules : (k : RefKind) (for_import : Bool) (own : Marked) → offer_of k for_import ≡ None
    → ref_places own for_import k ≡ places is_core_module 0 own.core_types
places_of_modules k for_import own e = subst (Places own (ref_places own for_import k)) e (places_by k for_import own)
