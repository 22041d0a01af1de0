use Rattle.std.proofs.Common.{◌≡◌, ◌∷◌, ◌++◌, ◌+◌, [], ap, refl, subst, sym, ◌∙◌, length, append-nil, arith, true, false}
use Rattle.std.specs.Prelude.{string_bytes}
use Rattle.smith_input.specs.Script.{pick}
use Rattle.smith_scopes.specs.NodeScopes.{outer_marked_in, own_marked_in}
use Rattle.smith_scopes.proofs.PlainTrees.{plain_same}
use Rattle.smith_read.proofs.ShownNodes.{shown_alias, shown_core_alias, shown_declared, shown_export, shown_import}
use Rattle.smith_read.specs.TypeNodes.{shown_decl_node, shown_type_node}
use Rattle.smith_scopes.proofs.Marking.{marked_alike}
use Rattle.smith_syntax.specs.Entries.{Decl}
use Rattle.smith_syntax.specs.Marked.{Marked, mark, marked_after, with_marked}
use Rattle.smith_tree.specs.TypeOffers.{uncounted}
use Rattle.smith_tree.specs.TypeScript.{script_alias, script_decl, script_declares, script_extern, script_ref}
use Rattle.smith_tree.specs.declared.choices.DeclarationItem.TheVariants as item
use Rattle.smith_script_types.specs.Says.{Adds}
use Rattle.smith_script_types.proofs.Saying.{adds_then, gives_up, towards_exit, towards_step}
use Rattle.smith_script_types.proofs.Decls.{decls_at, decls_over}
use Rattle.smith_script_types.specs.Declaring.{taken_in}
use Rattle.smith_script_types.proofs.types.+types.Goals as goal

pub say_decls-returns-in_err-say_byte-clause-said : goal.say_decls-returns-in_err-say_byte-clause-said
say_decls-returns-in_err-say_byte-clause-said t c =
    let split = decls_at c.args.given.config.now c.args.start.importing (own_marked_in c.args.scopes.now ∷ outer_marked_in c.args.scopes.now) _ _ _
    (taken_in c.loop-decl.here) (own_marked_in c.loop-decl.scopes) c.decl-item.result c.loop-decl-test.true c.decl-item.is in
    gives_up _ _ _ _ c.from_residual-in_err-say_byte.ensures.1
    (towards_exit (1 ∷ []) _ c.loop-decl.invariant.left split (c.in_err-say_byte.ensures {u = tt}))

pub say_decls-returns-in_err-left-clause-said : goal.say_decls-returns-in_err-left-clause-said
say_decls-returns-in_err-left-clause-said t c =
    let split = decls_at c.args.given.config.now c.args.start.importing (own_marked_in c.args.scopes.now ∷ outer_marked_in c.args.scopes.now) _ _ _
    (taken_in c.loop-decl.here) (own_marked_in c.loop-decl.scopes) c.decl-item.result c.loop-decl-test.true c.decl-item.is in
    gives_up _ _ _ _ c.from_residual-in_err-left.ensures.1
    (towards_exit _ _ (towards_step (1 ∷ []) _ c.loop-decl.invariant.left split (c.in_ok-say_byte.ensures {u = tt})) refl
    (rw (
      c.loop-decl.invariant.outer,
      c.with_fuel-turn.ensures.importing,
      c.loop-decl.invariant.importing,
      c.with_fuel-turn.ensures.fuel,
      c.saturating_sub.ensures,
      c.with_fuel-turn.ensures.taken,
    )
    at c.in_err-left.ensures.said))

pub say_decls-returns-in_err-say_end-clause-said : goal.say_decls-returns-in_err-say_end-clause-said
say_decls-returns-in_err-say_end-clause-said t c =
    gives_up _ _ _ _ c.from_residual-in_err-say_end.ensures.1
    (towards_exit _ [] c.loop-decl.invariant.left (decls_over _ _ _ _ _ _ _ _ _ c.loop-decl-test.false ∙ sym (append-nil _))
    (rw (let all : length c.args.decls.now ≡ c.loop-decl.decl-index = omega (arith, c.loop-decl-test.false, c.loop-decl.auto.decl-index-end) in all)
    at (c.in_err-say_end.ensures {u = tt})))

-- a declaration

pub say_decl-returns-in-Type-clause-own : goal.say_decl-returns-in-Type-clause-own
say_decl-returns-in-Type-clause-own t c =
    let own = own_marked_in c.args.scopes.now in
    let outer = outer_marked_in c.args.scopes.now in
    let e = shown_type_node c.in-Type.ty in
    let m = c.in_ok-typed-in-Type.typed.mark in
    c.in_ok-add_marked-in-Type.ensures.own
    ∙ (ap (λ (s : Marked). with_marked s e m) c.in_ok-typed-in-Type.ensures.own
    ∙ (marked_alike own e m (mark e own outer) c.in_ok-typed-in-Type.ensures.mark
    ∙ (ap (λ f. with_marked own f (mark e own outer)) (sym (plain_same e))
    ∙ sym (ap (λ d. marked_after d outer own) (ap shown_decl_node c.in-Type.is ∙ shown_declared c.in-Type.ty)))))

pub say_decl-returns-in_ok-add_alias-in-TypeAlias-clause-said : goal.say_decl-returns-in_ok-add_alias-in-TypeAlias-clause-said
say_decl-returns-in_ok-add_alias-in-TypeAlias-clause-said t c =
    let p = c.place-in-TypeAlias.ensures in
    let q = c.place-in-TypeAlias-2.ensures in
    let shows = ap shown_decl_node c.in-TypeAlias.is ∙ shown_alias c.in-TypeAlias.count c.in-TypeAlias.index in
    subst
    (λ (d : Decl). Adds c.args.out.now c.say_alias.new.out
    (script_decl d c.args.given.config.now c.args.here.importing c.args.here.fuel (taken_in c.args.here) (own_marked_in c.args.scopes.now)
    (outer_marked_in c.args.scopes.now)))
    (sym shows)
    (adds_then
    (subst (Adds _ _) (λ j. script_declares (p.config j) c.args.here.importing (p.own j) (p.outer j) item.Alias)
    (c.in_ok-say_declares-in-TypeAlias.ensures {u = tt}))
    (subst (Adds _ _) (λ j. script_alias (q.own j ∷ q.outer j) c.in-TypeAlias.count (λ s. c.in-TypeAlias.index))
    (c.in_ok-say_alias-in-TypeAlias.ensures {u = tt})))

pub say_decl-returns-in_ok-add_core_alias-in-CoreTypeAlias-clause-said : goal.say_decl-returns-in_ok-add_core_alias-in-CoreTypeAlias-clause-said
say_decl-returns-in_ok-add_core_alias-in-CoreTypeAlias-clause-said t c =
    let p = c.place-in-CoreTypeAlias.ensures in
    let q = c.place-in-CoreTypeAlias-2.ensures in
    let shows = ap shown_decl_node c.in-CoreTypeAlias.is ∙ shown_core_alias c.in-CoreTypeAlias.count c.in-CoreTypeAlias.index in
    subst
    (λ (d : Decl). Adds c.args.out.now c.say_alias-in-CoreTypeAlias.new.out
    (script_decl d c.args.given.config.now c.args.here.importing c.args.here.fuel (taken_in c.args.here) (own_marked_in c.args.scopes.now)
    (outer_marked_in c.args.scopes.now)))
    (sym shows)
    (adds_then
    (subst (Adds _ _) (λ j. script_declares (p.config j) c.args.here.importing (p.own j) (p.outer j) item.Alias)
    (c.in_ok-say_declares-in-CoreTypeAlias.ensures {u = tt}))
    (subst (Adds _ _) (λ j. script_alias (q.own j ∷ q.outer j) c.in-CoreTypeAlias.count (λ s. length s.types + c.in-CoreTypeAlias.index))
    (c.in_ok-say_alias-in-CoreTypeAlias.ensures {u = tt})))

pub say_decl-returns-in_ok-say_extern-in-Import-clause-said : goal.say_decl-returns-in_ok-say_extern-in-Import-clause-said
say_decl-returns-in_ok-say_extern-in-Import-clause-said t c =
    let p = c.place-in-Import.ensures in
    let shows = ap shown_decl_node c.in-Import.is ∙ shown_import c.in-Import.name c.in-Import.to in
    subst
    (λ (d : Decl). Adds c.args.out.now c.say_extern.new.out
    (script_decl d c.args.given.config.now c.args.here.importing c.args.here.fuel (taken_in c.args.here) (own_marked_in c.args.scopes.now)
    (outer_marked_in c.args.scopes.now)))
    (sym shows)
    (adds_then (c.in_ok-say_choice-in-Import.ensures {u = tt})
    (adds_then
    (subst (Adds _ _) (λ j. script_ref (p.config j) (p.own j) uncounted true true c.in-Import.to) (c.in_ok-say_reference-in-Import.ensures {u = tt}))
    (subst (Adds _ _) (ap (script_extern c.args.given.config.now c.args.here.imports) c.deref.ensures) (c.in_ok-say_extern-in-Import.ensures {u = tt}))))

pub say_decl-returns-in_ok-add_export-in-Export-clause-said : goal.say_decl-returns-in_ok-add_export-in-Export-clause-said
say_decl-returns-in_ok-add_export-in-Export-clause-said t c =
    let p = c.place-in-Export.ensures in
    let q = c.place-in-Export-2.ensures in
    let shows = ap shown_decl_node c.in-Export.is ∙ shown_export c.in-Export.name c.in-Export.to in
    subst
    (λ (d : Decl). Adds c.args.out.now c.say_extern-in-Export.new.out
    (script_decl d c.args.given.config.now c.args.here.importing c.args.here.fuel (taken_in c.args.here) (own_marked_in c.args.scopes.now)
    (outer_marked_in c.args.scopes.now)))
    (sym shows)
    (adds_then
    (subst (Adds _ _) (λ j. script_declares (p.config j) c.args.here.importing (p.own j) (p.outer j) item.Export)
    (c.in_ok-say_declares-in-Export.ensures {u = tt}))
    (adds_then
    (subst (Adds _ _) (λ j. script_ref (q.config j) (q.own j) uncounted false true c.in-Export.to) (c.in_ok-say_reference-in-Export.ensures {u = tt}))
    (subst (Adds _ _) (ap (script_extern c.args.given.config.now c.args.here.exports) c.deref-in-Export.ensures)
    (c.in_ok-say_extern-in-Export.ensures {u = tt}))))
