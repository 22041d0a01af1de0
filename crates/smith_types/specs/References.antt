-- How a reference is read, which is what an import or an export is of.
use Rattle.std.specs.Prelude.{◌≡◌, ℕ, Bool, true, false, List, [], Option, Some, None}
use Rattle.smith_input.specs.Choices.{ReadsAmong}
use Rattle.smith_format.specs.declared.config.Config.{Config}
use Rattle.smith_syntax.specs.Marked.{Marked}
use Rattle.smith_syntax.specs.declared.deftype.ComponentTypeRef.{ComponentTypeRef}
use Rattle.smith_syntax.specs.declared.deftype.ComponentTypeRef.TheVariants as to
use Rattle.smith_tree.specs.declared.choices.RefKind.{RefKind}
use Rattle.smith_tree.specs.declared.choices.RefKind.TheVariants as kind
use Rattle.smith_tree.specs.declared.totals.RefTotals.{RefTotals}
use Rattle.smith_scope.specs.declared.offers.Offer.{Offer}
use Rattle.smith_scope.specs.declared.offers.Offer.TheVariants as offer
use Rattle.smith_tree.specs.TypeOffers.{ref_kinds, ref_places}

-- the reference of a kind to an index
abbrev pub ref_to : RefKind → ℕ → ComponentTypeRef
ref_to kind.Module i = to.Module i
ref_to kind.TypeEq i = to.TypeEq i
ref_to kind.Func i = to.Func i
ref_to kind.Component i = to.Component i
ref_to kind.Instance i = to.Instance i

-- a choice of a kind, and of an entry of that kind
pub record ReadsRef (config : Config) (own : Marked) (totals : RefTotals) (for_import for_type_def : Bool) (bytes : List ℕ) (r : ComponentTypeRef)
    (rest : List ℕ) : Type 0 where
  pub kind : RefKind
  pub mid : List ℕ
  pub index : ℕ
  pub choice : ReadsAmong (ref_kinds config own totals for_import for_type_def) bytes kind mid
  pub names : ReadsAmong (ref_places own for_import kind) mid index rest
  pub is : r ≡ ref_to kind index

-- a reference, or none exactly if there is no kind to choose, and then nothing is read
abbrev pub MaybeRef : Config → Marked → RefTotals → Bool → Bool → List ℕ → Option ComponentTypeRef → List ℕ → Type 0
MaybeRef config own totals for_import for_type_def b None rest = (ref_kinds config own totals for_import for_type_def ≡ []) × (rest ≡ b)
MaybeRef config own totals for_import for_type_def b (Some r) rest = ReadsRef config own totals for_import for_type_def b r rest

-- what types have to be offered for, to be imported or exported as a kind: none as a module, which is not a type
abbrev pub offer_of : RefKind → Bool → Option Offer
offer_of kind.Module for_import = None
offer_of kind.TypeEq for_import = Some offer.Equal
offer_of kind.Func true = Some offer.Import
offer_of kind.Func false = Some offer.Export
offer_of kind.Component for_import = Some offer.Component
offer_of kind.Instance for_import = Some offer.Instance
