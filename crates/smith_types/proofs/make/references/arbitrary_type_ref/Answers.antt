use Rattle.std.proofs.Common.{◌≡◌, ◌<◌, ◌≤◌, ◌^◌, ap, rules, Some, ℕ, ◌&&◌, Bool, true, List, length, arith}
use Rattle.std.proofs.lemmas.Bool.Decides.{nat_tests}
use Rattle.std.specs.Prelude.{nat_lt}
use Rattle.smith_input.proofs.Offered.{offer_holds}
use Rattle.smith_input.specs.Choices.{ReadsAmong}
use Rattle.smith_format.specs.declared.config.Config.{Config}
use Rattle.smith_syntax.specs.Marked.{Marked}
use Rattle.smith_tree.specs.TypeOffers.{has_room, kinds_offered, ref_kinds, ref_offers, ref_places}
use Rattle.smith_scopes.specs.Scopes.{own_marked}
use Rattle.smith_tree.specs.declared.choices.RefKind.{RefKind}
use Rattle.smith_tree.specs.declared.totals.RefTotals.{RefTotals}
use Rattle.smith_types.proofs.References.{offered_where}
use Rattle.smith_types.proofs.ReferencesRead.{ref_not_none, ref_scripted}
use Rattle.smith_types.proofs.make.references.arbitrary_type_ref.Goals as goal
use Rattle.std.proofs.lemmas.Bool.{and_parts}

placed : (n : ℕ) (allowed : Bool) → (nat_lt 0 n && allowed) ≡ true → 0 < n
placed n allowed t = let some = (and_parts (nat_lt 0 n) allowed t).0 in grind (arith, nat_tests, some)

-- A kind that is chosen has an entry.
chosen_has_place : (config : Config) (own : Marked) (totals : RefTotals) (for_import for_type_def : Bool) (b : List ℕ) (k : RefKind) (rest : List ℕ)
    → ReadsAmong (ref_kinds config own totals for_import for_type_def) b k rest → 0 < length (ref_places own for_import k)
chosen_has_place config own totals for_import for_type_def b k rest h =
    offer_holds (λ j. 0 < length (ref_places own for_import j)) (ref_offers config own totals for_import for_type_def)
    (placed _ _, (placed _ _, (placed _ _, (placed _ _, (placed _ _, tt))))) h.place k
    (offered_where (has_room own for_type_def) (kinds_offered config own totals for_import for_type_def) h.place k h.named)

pub choose_index-rank-requires : goal.choose_index-rank-requires
choose_index-rank-requires c =
    let some = chosen_has_place c.args.config.now (own_marked c.args.scopes.now) c.args.totals c.args.for_import c.args.for_type_def _ c.in_ok-kind.kind _
    c.in_ok-kind.ensures in
    omega (arith, some, c.place_count.ensures.count)

pub returns-clause-reads : goal.returns-clause-reads
returns-clause-reads c = record {
  kind = c.in_ok-kind.kind;
  mid = _;
  index = _;
  choice = c.in_ok-kind.ensures;
  names = record { place = _; reads = search rules; named = c.place_at.ensures };
  is = c.reference.ensures;
}

pub returns-clause-script : goal.returns-clause-script
unfolding returns-clause-reads
returns-clause-script c r rest formed offered room allowed begins =
    let own = own_marked c.args.scopes.now in
    let few : length (ref_places own c.args.for_import c.in_ok-kind.kind) ≤ 2 ^ 64 = omega (arith, c.place_count.ensures.count, c.place_count.ensures.few) in
    let d = ref_scripted c.args.config.now own c.args.totals c.args.for_import c.args.for_type_def _ r _ _ rest formed offered room allowed begins
    (returns-clause-reads c) few in
    (ap Some d.0, d.1)

pub returns-in_err-kind-clause-script : goal.returns-in_err-kind-clause-script
returns-in_err-kind-clause-script c r rest formed offered room allowed begins =
    absurd (ref_not_none c.args.config.now (own_marked c.args.scopes.now) c.args.totals c.args.for_import c.args.for_type_def r formed offered room allowed
    c.in_err-kind.ensures.0)
