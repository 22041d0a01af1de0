use Rattle.std.proofs.Common.{ℕ, ◌+◌, ◌≤◌, List, sym, subst, ◌∙◌}
use Rattle.std.specs.Prelude.{max}
use Rattle.smith_syntax.specs.Marked.{scope_in}
use Rattle.smith_syntax.specs.Nesting.{nesting}
use Rattle.smith_syntax.specs.Scope.{Scope}
use Rattle.smith_syntax.specs.Shown.{full_type, shown_shared}
use Rattle.smith_syntax.specs.WellFormed.{FormedEntry}
use Rattle.smith_scopes.specs.Scopes.{inward_marked, outer_marked, outer_scopes, own_marked}
use Rattle.smith_scopes.proofs.Stack.{length-inward_marked, outer_scopes_are, own_scope_is}
use Rattle.smith_types.proofs.MadeFits.{made_fits, nesting_within}
use Rattle.smith_types.proofs.MarkedPlain.{mark_plain}
use Rattle.smith_types.proofs.ScopedScript.{type_scripted}
use Rattle.smith_types.proofs.make.arbitrary_marked_type.Goals as goal

pub returns-clause-made : goal.returns-clause-made
returns-clause-made c =
    let scopes = c.args.scopes.now in
    let config = c.args.config.now in
    let made = c.in_ok-made.ensures.made in
    let fits = made_fits made in
    let e = shown_shared c.in_ok-made.made.0 in
    let Own : Scope → Type 0 = λ s. FormedEntry e s (outer_scopes scopes) in
    let Outer : List Scope → Type 0 = λ ss. FormedEntry e (scope_in (own_marked scopes)) ss in
    let Nests : ℕ → Type 0 = λ n. n + nesting e ≤ max (n + 1) config.max_nesting_depth in
    record {
      made = made;
      formed = subst Own (sym (own_scope_is scopes)) (subst Outer (sym (outer_scopes_are scopes)) fits.is.0);
      offered = fits.is.1;
      limits = fits.limits;
      nesting = subst Nests (length-inward_marked scopes) (nesting_within config (inward_marked scopes) e fits.nests);
      size = fits.takes.within;
    }

pub returns-clause-mark : goal.returns-clause-mark
returns-clause-mark c = λ keeps.
    c.in_ok-made.ensures.mark keeps
    ∙ sym (mark_plain (full_type c.in_ok-made.made.0.value) (own_marked c.args.scopes.now) (outer_marked c.args.scopes.now))

pub returns-clause-script : goal.returns-clause-script
returns-clause-script c e rest said begins = type_scripted c.args.config.now said.names c.requires.consistent.nesting _ _ _ _ e _ _ rest _ said begins
    c.in_ok-made.ensures.made
