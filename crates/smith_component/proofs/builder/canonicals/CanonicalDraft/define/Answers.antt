use Rattle.std.proofs.Common.{◌∷◌, ◌++◌, [], subst, ap, ◌∙◌, refl, arith}
use Rattle.smith_syntax.specs.Shown.{shown_type}
use Rattle.smith_scopes.specs.Scopes.{own_scope}
use Rattle.smith_scopes.proofs.Marking.{length-changed}
use Rattle.smith_scopes.proofs.Stack.{grown_marked, length-last}
use Rattle.smith_types.specs.declared.make.externs.ExternNames.{ExternNames}
use Rattle.smith_component.specs.Tables.{AddsFunction}
use Rattle.smith_component.specs.declared.builder.open.OpenComponent.{OpenComponent}
use Rattle.smith_component.specs.declared.builder.tables.Tables.{Tables}
use Rattle.smith_component.proofs.CanonicalsState.{define_draft, defines, front_push, front_same, shown_function, type_index}
use Rattle.smith_component.proofs.Growth.{functions_counted}
use Rattle.smith_component.proofs.builder.canonicals.CanonicalDraft.define.Goals as goal

pub push_marked-requires : goal.push_marked-requires
push_marked-requires c = omega (arith, length-last c.args.self.now.scopes.now, c.requires.types)

pub add_function-requires-clause-few : goal.add_function-requires-clause-few
add_function-requires-clause-few c = grind (arith, functions_counted)

pub returns-clause-defines : goal.returns-clause-defines
returns-clause-defines c = grind (arith, shown_function, type_index, defines)

pub returns-clause-drafts : goal.returns-clause-drafts
returns-clause-drafts c =
    let d = c.args.self.now in
    let old : OpenComponent = d.component.now in
    let mid : OpenComponent = c.push-2.new.self in
    let new : OpenComponent = record {
      sections = c.push-3.new.self.sections;
      height = c.push-3.new.self.height;
      is_early = c.push-3.new.self.is_early;
      tables = c.add_function.new.self;
    } in
    let T : Tables → Type 0 = λ z. AddsFunction (own_scope c.push_marked.new.self) 1 z c.in_ok-func_ty.func_ty c.add_function.new.self in
    let names : Tables → ExternNames = λ t. t.imports in
    let shows = ap shown_type (c.in_ok-clone.ensures.cases ∙ c.in_ok-shared.ensures.ok) ∙ shown_function c.args.ty in
    let adds = subst T (c.push-3.ensures.tables ∙ c.push-2.ensures.tables) c.in_ok-add_function.ensures.ok in
    let ended = front_push old old mid _ (front_same old old refl refl) c.in_ok-push-2.ensures.items refl (ap names c.push-2.ensures.tables) in
    record {
      draft = λ around held. define_draft d around held c.push_marked.new.self new c.push-4.new.self.items
          c.args.core_func_index c.in_ok-func_ty.func_ty c.args.ty.value c.in_ok-clone.field-0.value c.function_mark-mark.result
          shows c.in_ok-func_ty.ensures.ok (rw c.deref.ensures at c.function_mark-mark.ensures) (returns-clause-defines c) c.in_ok-func_ty.ensures.index
          adds;
      front = front_push old mid new _ ended c.in_ok-push-3.ensures.items refl
          (c.in_ok-add_function.ensures.ok.imports ∙ ap names c.push-3.ensures.tables);
      around = record {
        outer = (grown_marked d.scopes.now c.push_marked.new.self c.in_ok-clone.field-0.value c.in_ok-func_ty.ensures.ok).outer;
        depth = length-changed _ _ _ c.in_ok-func_ty.ensures.ok;
      };
    }
