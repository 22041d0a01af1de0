-- What a change leads to is another component.
use Rattle.std.proofs.Common.{◌≡◌, ℕ, ◌/◌, ◌%◌, Bool, true, false, Option, Some, None, ap, sym, refl, ◌∙◌, rules, ◌⊎◌, inl, inr, append_assoc}
use Rattle.std.proofs.Common.{List}
use Rattle.std.specs.Prelude.{if◌then◌else◌}
use Rattle.smith_format.specs.Piece.{Piece}
use Rattle.smith_tree.specs.Grammar.{Spells, component_text}
use Rattle.smith_tree.specs.TooLong.{TreeTooLong}
use Rattle.smith_tree.proofs.TooLong.{component_none}
use Rattle.smith_tree.specs.Tree.{Tree}
use Rattle.smith_change.specs.Changes.{changed, if_other, same_piece}
use Rattle.smith_change.specs.Differs.{DiffersInOneList, DiffersInOneToken, InOneList, InOneToken, IsModuleChange, entries_tokens}
use Rattle.smith_core.specs.StandInText.{StandIn, stand_in_text}
use Rattle.smith_read.specs.ModuleSections.{stand_in_at}
use Rattle.smith_change.specs.Parts.{module_changed, sections_changed, spelled, stand_in_changed}
use Rattle.smith_change.specs.Tokens.{Token, stand_in_tokens, tokens}
use Rattle.smith_change.proofs.Differing.{Differ, OneList, OneToken}
use Rattle.smith_change.proofs.DifferingTrees.{component_differs, stand_in_differs}

pub same_itself : (p : Piece) → same_piece p p ≡ true
same_itself None = refl
same_itself (Some b) = search rules

-- the component with one place changed, and that it is another
pub other_is : (t r : Tree) (o : Option Tree) → if_other t o ≡ Some r → (o ≡ Some r) × (same_piece (component_text t) (component_text r) ≡ false)
other_is t r None e = absurd cc
other_is t r (Some u) e = go (same_piece (component_text t) (component_text u)) refl e
  where
    go : (b : Bool) → same_piece (component_text t) (component_text u) ≡ b → (if b then None else Some u) ≡ Some r
        → (Some u ≡ Some r) × (same_piece (component_text t) (component_text r) ≡ false)
    go true is e = absurd cc
    go false is e = (e, (let same : u ≡ r = cc in ap (λ v. same_piece (component_text t) (component_text v)) (sym same) ∙ is))

pub place_changed : (k : ℕ) (t r : Tree) → changed k t ≡ Some r → sections_changed (k % 16) (k / 16) t ≡ Some r
place_changed k t r e = (other_is t r (sections_changed (k % 16) (k / 16) t) e).0

pub leads_to_other : (k : ℕ) (t r : Tree) → changed k t ≡ Some r → ¬ (t ≡ r)
leads_to_other k t r e same =
    let differs = (other_is t r (sections_changed (k % 16) (k / 16) t) e).1 in
    let alike : same_piece (component_text t) (component_text r) ≡ true =
    ap (λ v. same_piece (component_text t) (component_text v)) (sym same) ∙ same_itself (component_text t) in
    absurd cc

-- where they differ

abbrev as_token : {was is : List Token} {P : Type 0} → OneToken was is P → InOneToken was is
as_token d = record { before = d.before; old = d.old; new = d.new; after = d.after; was = d.of_old; is = d.of_new }

abbrev as_edit : {was is : List Token} → OneList was is → InOneList was is
as_edit d = record {
  before = d.before;
  old = d.old;
  new = d.new;
  after = d.after;
  was = d.of_old ∙ sym (append_assoc d.before (entries_tokens d.old) d.after);
  is = d.of_new ∙ sym (append_assoc d.before (entries_tokens d.new) d.after);
  edited = d.edited;
}

pub one_or_list : (k : ℕ) (t r : Tree) → changed k t ≡ Some r → DiffersInOneToken t r ⊎ DiffersInOneList t r
one_or_list k t r e = go (component_differs (k % 16) (k / 16) t r (place_changed k t r e))
  where
    go : Differ (tokens t) (tokens r) (t ≡ r) → DiffersInOneToken t r ⊎ DiffersInOneList t r
    go (inl d) = inl (as_token d, λ s. leads_to_other k t r e (d.same s))
    go (inr d) = inr (as_edit d, leads_to_other k t r e)

-- A component has an encoding, or is too long for one.
pub spelled_or_long : (r : Tree) → ((c : List ℕ) × Spells r c) ⊎ TreeTooLong r
spelled_or_long r = go (component_text r) refl
  where
    go : (p : Piece) → component_text r ≡ p → ((c : List ℕ) × Spells r c) ⊎ TreeTooLong r
    go None e = inr ((component_none r).0 e)
    go (Some c) e = inl (c, e)

pub spelled_or_too_long : (k : ℕ) (t r : Tree) (b : List ℕ) → changed k t ≡ Some r → Spells t b → ((c : List ℕ) × Spells r c) ⊎ TreeTooLong r
spelled_or_too_long k t r b e spells = spelled_or_long r

-- where core modules differ

module_of : (a k : ℕ) (s : StandIn) (new : List ℕ) → spelled (stand_in_changed a k s) ≡ Some new
    → (r : StandIn) × (stand_in_text r ≡ Some new) × Differ (stand_in_tokens s) (stand_in_tokens r) (s ≡ r)
module_of a k s new e = go (stand_in_changed a k s) refl e
  where
    go : (o : Option StandIn) → stand_in_changed a k s ≡ o → spelled o ≡ Some new
        → (r : StandIn) × (stand_in_text r ≡ Some new) × Differ (stand_in_tokens s) (stand_in_tokens r) (s ≡ r)
    go None is e = absurd cc
    go (Some r) is e = (r, e, stand_in_differs a k s r is)

pub modules_differ : (a k : ℕ) (text new : List ℕ) → module_changed a k text ≡ Some new → IsModuleChange text new
modules_differ a k text new e = go (stand_in_at text) refl e
  where
    as_one : (s r : StandIn) → Differ (stand_in_tokens s) (stand_in_tokens r) (s ≡ r)
        → InOneToken (stand_in_tokens s) (stand_in_tokens r) ⊎ InOneList (stand_in_tokens s) (stand_in_tokens r)
    as_one s r (inl d) = inl (as_token d)
    as_one s r (inr d) = inr (as_edit d)

    go : (o : Option StandIn) → stand_in_at text ≡ o → elim o [ None ↦ None | Some s ↦ spelled (stand_in_changed a k s) ] ≡ Some new
        → IsModuleChange text new
    go None is e = absurd cc
    go (Some s) is e =
        let m = module_of a k s new e in
        record { old = s; new = m.0; was = is; is = m.1; differ = as_one s m.0 m.2 }
