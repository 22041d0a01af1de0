use Rattle.std.proofs.Common.{◌≡◌, ℕ, ◌-◌, Bool, true, false, ◌++◌, ◌∷◌, [], ap, sym, ◌∙◌, refl, subst, arith}
use Rattle.smith_input.proofs.Loops.{begins, stops, ends_early, ends_full, goes_on}
use Rattle.smith_input.proofs.Reading.{tail_same, tail_trans, more_tail}
use Rattle.smith_types.specs.MadeCore.{no_fuel}
use Rattle.smith_types.specs.MakingCore.{DeclTurn, so_far}
use Rattle.smith_syntax.specs.Places.{own_of}
use Rattle.smith_scopes.specs.Scopes.{inward}
use Rattle.smith_types.proofs.core_types.module_types.read_declarations.Goals as goal

pub loop-done-init : goal.loop-done-init
loop-done-init c = record { tail = tail_same _; few = omega (arith, c.requires.few); kept = λ k. k; read = []; onward = begins _ _ _ _ _ _ _ [] refl }

pub returns-then-not-more_of-clause-reads : goal.returns-then-not-more_of-clause-reads
returns-then-not-more_of-clause-reads c = (
  c.loop-done.invariant.read,
  stops _ _ _ _ _ _ _ _ _ _ _ _ _ c.if-not-more_of.true c.more_of.ensures c.loop-done.invariant.onward,
)

pub returns-then-fuel-eq0-clause-reads : goal.returns-then-fuel-eq0-clause-reads
returns-then-fuel-eq0-clause-reads c =
    let none : c.loop-done.fuel - 1 ≡ 0 = sym c.burn.ensures ∙ c.if-fuel-eq0.true in (
      c.loop-done.invariant.read,
      ends_early _ _ _ _ _ _ _ _ _ _ _ _ _ _ _ c.if-not-more_of.false c.more_of.ensures
          (no_fuel none (ap (so_far c.loop-done.declared) c.if-fuel-eq0.true)) c.loop-done.invariant.onward,
    )

pub returns-then-not-branch-clause-reads : goal.returns-then-not-branch-clause-reads
returns-then-not-branch-clause-reads c =
    let around = own_of (inward c.args.scopes.now) in
    let fuel = c.loop-done.fuel in
    let T : Bool → ℕ → Type 0 = λ b n. DeclTurn c.args.making.now.config.now around (so_far c.loop-done.declared fuel) c.more_of.new.self b
    c.read_declaration.new.u (so_far c.read_declaration.new.declared n) in
    let turned = c.in_ok-read_declaration.ensures.turns fuel (omega (arith, c.burn.ensures, c.if-fuel-eq0.false)) in
    let ends = subst (T false) (sym c.burn.ensures) (subst (λ b. T b (fuel - 1)) c.if-not-branch.true turned) in
    (c.loop-done.invariant.read, ends_early _ _ _ _ _ _ _ _ _ _ _ _ _ _ _ c.if-not-more_of.false c.more_of.ensures ends c.loop-done.invariant.onward)

pub loop-done-preserved : goal.loop-done-preserved
loop-done-preserved c =
    let around = own_of (inward c.args.scopes.now) in
    let fuel = c.loop-done.fuel in
    let v = c.loop-done.invariant in
    let T : Bool → ℕ → Type 0 = λ b n. DeclTurn c.args.making.now.config.now around (so_far c.loop-done.declared fuel) c.more_of.new.self b
    c.read_declaration.new.u (so_far c.read_declaration.new.declared n) in
    let turned = c.in_ok-read_declaration.ensures.turns fuel (omega (arith, c.burn.ensures, c.if-fuel-eq0.false)) in
    let one = subst (T true) (sym c.burn.ensures) (subst (λ b. T b (fuel - 1)) c.if-not-branch.false turned) in
    record {
      tail = tail_trans c.in_ok-read_declaration.ensures.input.tail (tail_trans (more_tail c.more_of.ensures) v.tail);
      few = omega (arith, c.in_ok-read_declaration.ensures.own, v.few);
      kept = λ k. c.in_ok-read_declaration.ensures.kept (v.kept k);
      read = v.read ++ one.0 ∷ [];
      onward = goes_on _ _ _ _ _ _ _ _ _ _ _ _ _ _ _ _ _ c.if-not-more_of.false c.more_of.ensures one.1 refl v.onward;
    }

pub returns-clause-reads : goal.returns-clause-reads
returns-clause-reads c = (c.loop-done.invariant.read, ends_full _ _ _ _ _ _ _ _ _ _ _ c.loop-done-test.false c.loop-done.invariant.onward)

pub returns-then-not-more_of-clause-kept : goal.returns-then-not-more_of-clause-kept
returns-then-not-more_of-clause-kept c k = c.loop-done.invariant.kept k

pub returns-then-fuel-eq0-clause-kept : goal.returns-then-fuel-eq0-clause-kept
returns-then-fuel-eq0-clause-kept c k = c.loop-done.invariant.kept k

pub returns-then-not-branch-clause-kept : goal.returns-then-not-branch-clause-kept
returns-then-not-branch-clause-kept c k = c.in_ok-read_declaration.ensures.kept (c.loop-done.invariant.kept k)

pub returns-clause-kept : goal.returns-clause-kept
returns-clause-kept c k = c.loop-done.invariant.kept k
