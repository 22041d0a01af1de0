use Rattle.std.proofs.Common.{◌≡◌, ℕ, List, [], map, ap, refl, sym, subst, arith}
use Rattle.smith_input.specs.Reading.{Reads}
use Rattle.smith_syntax.specs.Entries.{core_module}
use Rattle.smith_types.specs.MadeCore.{MadeModule, of_function, of_module, spent_core}
use Rattle.smith_types.specs.MakingCore.{KeepEach}
use Rattle.smith_syntax.specs.Places.{own_of}
use Rattle.smith_scopes.specs.Scopes.{inward}
use Rattle.smith_syntax.specs.Shown.{shown_decl}
use Rattle.smith_types.proofs.core_types.make_core_type.Goals as goal

pub returns-then-fuel-eq0-clause-made : goal.returns-then-fuel-eq0-clause-made
returns-then-fuel-eq0-clause-made c =
    spent_core
    (omega (arith, c.burn.ensures, c.if-fuel-eq0.true))
    (ap (λ ds. core_module (map shown_decl ds)) c.new-defs.ensures.items)
    c.if-fuel-eq0.true

pub returns-then-choose_index-eq0-clause-made : goal.returns-then-choose_index-eq0-clause-made
returns-then-choose_index-eq0-clause-made c =
    let P : ℕ → Type 0 = λ k. Reads 2 c.args.u.now k c.choose_index.new.self in
    of_function (omega (arith, c.burn.ensures, c.if-fuel-eq0.false)) (subst P c.if-choose_index-eq0.true c.choose_index.ensures)
    c.in_ok-read_core_function.ensures.reads refl c.burn.ensures

pub returns-clause-made : goal.returns-clause-made
returns-clause-made c =
    let P : ℕ → Type 0 = λ k. Reads 2 c.args.u.now k c.choose_index.new.self in
    let one : c.choose_index.result ≡ 1 = omega (arith, c.choose_index.ensures.below, c.if-choose_index-eq0.false) in
    let M : ℕ → Type 0 = λ n. MadeModule c.args.making.now.config.now (own_of (inward c.args.scopes.now)) c.choose_index.new.self n
    (map shown_decl c.in_ok-defs.defs.items) c.read_module_type.new.u c.read_module_type.new.fuel in
    of_module
    (omega (arith, c.burn.ensures, c.if-fuel-eq0.false))
    (subst P one c.choose_index.ensures)
    (subst M c.burn.ensures c.in_ok-defs.ensures.made)
    refl

pub returns-then-fuel-eq0-clause-kept : goal.returns-then-fuel-eq0-clause-kept
returns-then-fuel-eq0-clause-kept c =
    let K : List _ → Type 0 = λ ds. KeepEach (own_of (inward c.args.scopes.now)).core_types [] ds in
    subst K (sym c.new-defs.ensures.items) tt

pub returns-clause-kept : goal.returns-clause-kept
returns-clause-kept c = c.in_ok-defs.ensures.kept
