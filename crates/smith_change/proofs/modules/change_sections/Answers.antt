use Rattle.std.proofs.Common.{◌≡◌, List, Some, ap, map, refl, subst, sym, ◌∙◌}
use Rattle.std.proofs.lemmas.List.{map-id}
use Rattle.std.specs.Option.{IsSome, option_map}
use Rattle.smith_core.specs.StandInText.{StandIn}
use Rattle.smith_format.specs.CoreTypes.{Function}
use Rattle.smith_format.specs.Shown.{shown_func}
use Rattle.smith_format.specs.declared.types.MemoryType.{MemoryType}
use Rattle.smith_read.specs.Search.{past, sought}
use Rattle.smith_change.specs.Parts.{functions_changed, functions_places, memories_changed, memories_places}
use Rattle.smith_change.proofs.Seeking.{found_both, moved_both}
use Rattle.smith_change.proofs.modules.change_sections.Goals as goal

abbrev with : List Function → List MemoryType → StandIn
with ts ms = record { types = ts; memories = ms }

pub returns-in_default-clause-sections : goal.returns-in_default-clause-sections
returns-in_default-clause-sections c =
    let s = c.args.search.now in
    let a = c.args.change.alternative in
    let fs = map shown_func c.args.sections.now.types.items in
    let ms = c.args.sections.now.memories.items in
    let types = ap (map shown_func) c.deref.ensures.value in
    let memories = map-id c.deref-2.result.now ∙ c.deref-2.ensures.value in
    let told = c.in_ok-types.ensures {u = tt} in
    let first = subst
    (λ ts. option_map (λ v. map shown_func v.items) c.in_ok-types.types ≡ sought (functions_places ts) s (λ k. functions_changed a k ts) ts)
    types told.entries in
    let moved = subst (λ ts. IsSome c.in_ok-types.types → c.change_row.new.search ≡ past (functions_places ts) s) types told.moved in
    let second = subst
    (λ ns. option_map (λ v. map (λ m. m) v.items) c.in_ok-memories.memories
    ≡ sought (memories_places ns) c.change_row.new.search (λ k. memories_changed a k ns) ns)
    memories (c.in_ok-memories.ensures {u = tt}).entries in
    sym (ap (option_map (λ p. with (map shown_func p.0.items) (map (λ m. m) p.1.items))) (sym c.zip.ensures ∙ c.in_default.is))
    ∙ found_both (λ v. map shown_func v.items) (λ v. map (λ m. m) v.items) (λ p. with (map shown_func p.0.items) (map (λ m. m) p.1.items)) with (λ x y. refl)
    (functions_places fs) (memories_places ms) (λ k. functions_changed a k fs) (λ k. memories_changed a k ms) fs ms s c.change_row.new.search
    c.in_ok-types.types c.in_ok-memories.memories first moved second

pub returns-clause-sections : goal.returns-clause-sections
returns-clause-sections c =
    let s = c.args.search.now in
    let a = c.args.change.alternative in
    let fs = map shown_func c.args.sections.now.types.items in
    let ms = c.args.sections.now.memories.items in
    let types = ap (map shown_func) c.deref.ensures.value in
    let memories = map-id c.deref-2.result.now ∙ c.deref-2.ensures.value in
    let told = c.in_ok-types.ensures {u = tt} in
    let first = subst
    (λ ts. option_map (λ v. map shown_func v.items) c.in_ok-types.types ≡ sought (functions_places ts) s (λ k. functions_changed a k ts) ts)
    types told.entries in
    let moved = subst (λ ts. IsSome c.in_ok-types.types → c.change_row.new.search ≡ past (functions_places ts) s) types told.moved in
    let second = subst
    (λ ns. option_map (λ v. map (λ m. m) v.items) c.in_ok-memories.memories
    ≡ sought (memories_places ns) c.change_row.new.search (λ k. memories_changed a k ns) ns)
    memories (c.in_ok-memories.ensures {u = tt}).entries in
    ap (λ ns. Some (with (map shown_func c.in-Some.types.items) ns)) (sym (map-id c.in-Some.memories.items))
    ∙ sym (ap (option_map (λ p. with (map shown_func p.0.items) (map (λ m. m) p.1.items))) (sym c.zip.ensures ∙ c.in-Some.is))
    ∙ found_both (λ v. map shown_func v.items) (λ v. map (λ m. m) v.items) (λ p. with (map shown_func p.0.items) (map (λ m. m) p.1.items)) with (λ x y. refl)
    (functions_places fs) (memories_places ms) (λ k. functions_changed a k fs) (λ k. memories_changed a k ms) fs ms s c.change_row.new.search
    c.in_ok-types.types c.in_ok-memories.memories first moved second

pub returns-in_default-clause-moved : goal.returns-in_default-clause-moved
returns-in_default-clause-moved c = λ is. absurd cc

pub returns-clause-moved : goal.returns-clause-moved
returns-clause-moved c = λ is.
    let s = c.args.search.now in
    let fs = map shown_func c.args.sections.now.types.items in
    let ms = c.args.sections.now.memories.items in
    let memories = map-id c.deref-2.result.now ∙ c.deref-2.ensures.value in
    let moved = subst (λ ts. IsSome c.in_ok-types.types → c.change_row.new.search ≡ past (functions_places ts) s) (ap (map shown_func) c.deref.ensures.value)
    (c.in_ok-types.ensures {u = tt}).moved in
    let more = subst (λ ns. IsSome c.in_ok-memories.memories → c.change_row-2.new.search ≡ past (memories_places ns) c.change_row.new.search) memories
    (c.in_ok-memories.ensures {u = tt}).moved in
    moved_both (functions_places fs) (memories_places ms) s c.change_row.new.search c.change_row-2.new.search c.in_ok-types.types c.in_ok-memories.memories
    moved more (subst IsSome (sym (sym c.zip.ensures ∙ c.in-Some.is)) refl)
