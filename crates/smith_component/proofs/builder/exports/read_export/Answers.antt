use Rattle.std.proofs.Common.{◌≡◌, ℕ, ◌<◌, List, [], ◌∷◌, length, length-append, arith, ap, refl, subst, sym, ◌∙◌}
use Rattle.std.proofs.lemmas.Grind.{common_steps}
use Rattle.std.proofs.lemmas.Option.{slice_get-get_or}
use Rattle.std.specs.Prelude.{Some, false, nat_le, slice_get}
use Rattle.smith_scopes.proofs.Marking.{grown_export, length-changed, same_export}
use Rattle.smith_scopes.proofs.Stack.{own_marked_last, own_scope_is}
use Rattle.smith_scopes.specs.Scopes.{Changes, Contents, last_of, own_marked, own_scope}
use Rattle.smith_syntax.specs.Marked.{Marked, scope_in, with_export}
use Rattle.smith_syntax.specs.Marks.{room_size}
use Rattle.smith_syntax.specs.Scope.{Scope}
use Rattle.smith_syntax.specs.declared.deftype.ComponentTypeRef.TheVariants as to
use Rattle.smith_tree.specs.TypeOffers.{has_room}
use Rattle.smith_component.specs.Tables.{AddsFunction, IsKnown}
use Rattle.smith_tree.specs.Shown.{shown_export}
use Rattle.smith_component.specs.declared.builder.tables.Tables.{Tables}
use Rattle.smith_tree.specs.declared.entries.Export.{Export}
use Rattle.smith_component.proofs.SectionsState.{export_is_kept, export_is_read, known_at, known_more, no_room, none_there}
use Rattle.smith_component.proofs.builder.exports.read_export.Goals as goal

-- The type of the function that was chosen is there.
type_known : (c : goal.After-note_export) → c.index-ty.result.now < length (own_scope c.args.scopes.now).types
type_known c = grind (arith, known_at)

-- The scope by itself stays.
same_scope : (old new : List Contents) (ty : ℕ) → Changes (λ d. with_export d (to.Func ty)) old new → own_scope new ≡ own_scope old
same_scope old new ty noted = (same_export old new (to.Func ty) noted).own

-- Is there room?
room_at : (scopes : List Contents) → has_room (own_marked scopes) false ≡ nat_le (last_of scopes).size room_size
room_at scopes = ap (λ (m : Marked). nat_le m.size room_size) (own_marked_last scopes)

no_items : (xs : List ℕ) → length xs ≡ 0 → xs ≡ []
no_items [] e = refl
no_items (x ∷ xs) e = absurd (omega (arith, e))

pub returns-clause-tables : goal.returns-clause-tables
returns-clause-tables c =
    let adds = c.in_ok-add_exported.ensures.ok in
    let old : Tables = c.args.tables.now in
    let ty : ℕ = c.index-ty.result.now in
    record {
      known = subst (λ s. IsKnown s c.add_exported.new.self) (sym (same_scope c.args.scopes.now c.note_export.new.self ty c.note_export.ensures))
          (known_more (type_known c) adds c.requires.known);
      imports = adds.imports;
      most = omega (arith, ap length adds.functions, length-append old.functions.items (ty ∷ []));
    }

pub returns-clause-exports : goal.returns-clause-exports
returns-clause-exports c outer t es h =
    let config = c.args.config.now in
    let own : Marked = own_marked c.args.scopes.now in
    let old : Tables = c.args.tables.now in
    let f : ℕ = c.choose_index-func_index.result in
    let ty : ℕ = c.index-ty.result.now in
    let x : Export = record { name = c.in_ok-name.name; func_index = f } in
    let mid : Tables = record old { exports = c.unique_kebab_string.new.names } in
    let count : c.len.result ≡ length old.functions.items = omega (arith, c.len.ensures) in
    let below : f < length old.functions.items = omega (arith, count, c.choose_index-func_index.ensures.below) in
    let at : slice_get old.functions.items f ≡ Some ty = slice_get-get_or old.functions.items f ty below ∙ ap Some (sym c.index-ty.ensures) in
    let plain : own_scope c.args.scopes.now ≡ scope_in own = own_scope_is c.args.scopes.now in
    let known : ty < length own.types = omega (arith, type_known c, ap (λ (s : Scope). length s.types) plain) in
    let noted = (grown_export c.args.scopes.now c.note_export.new.self (to.Func ty) c.note_export.ensures).own in (
      export_is_read config outer t es own old h (room_at c.args.scopes.now ∙ (sym c.has_room.ensures ∙ c.if-not-has_room.false)) c.len.result
          c.args.u.now c.choose_index-func_index.new.self c.unique_kebab_string.new.u old.exports x count
          c.choose_index-func_index.ensures refl c.in_ok-name.ensures.read,
      export_is_kept config outer t es own old h (shown_export x) ty mid c.add_exported.new.self (own_marked c.note_export.new.self) noted at
          known
          refl refl refl refl c.in_ok-name.ensures.gained
          (subst (λ s. AddsFunction s 0 mid ty c.add_exported.new.self) plain c.in_ok-add_exported.ensures.ok),
    )

pub returns-then-is_empty-clause-exports : goal.returns-then-is_empty-clause-exports
returns-then-is_empty-clause-exports c outer t es h = grind (arith, common_steps, none_there, no_items)

pub returns-then-not-has_room-clause-exports : goal.returns-then-not-has_room-clause-exports
returns-then-not-has_room-clause-exports c outer t es h = grind (arith, room_at, no_room)

pub returns-clause-around : goal.returns-clause-around
returns-clause-around c = record {
  outer = (grown_export c.args.scopes.now c.note_export.new.self (to.Func c.index-ty.result.now) c.note_export.ensures).outer;
  depth = length-changed (λ d. with_export d (to.Func c.index-ty.result.now)) c.args.scopes.now c.note_export.new.self c.note_export.ensures;
}
