-- A well-formed component that is allowed has a script.
use Rattle.std.proofs.Common.{ℕ, List, [], ◌∷◌, arith}
use Rattle.std.specs.List.{AllByRecursion}
use Rattle.smith_format.specs.declared.config.Config.{Config}
use Rattle.smith_tree.specs.Grammar.{Spells}
use Rattle.smith_tree.specs.Limits.{Minima}
use Rattle.smith_tree.specs.Script.{Within, script}
use Rattle.smith_tree.specs.Tree.{Tree, inside}
use Rattle.smith_tree.specs.WellFormed.{WellFormed}
use Rattle.smith_tree.proofs.Everything.{everything_offered}
use Rattle.smith_script.proofs.Given.{given_formed, script_given}
use Rattle.smith_script.proofs.Plans.{plan_script}
use Rattle.smith_reduce.specs.Allowed.{HasNoDemands, IsAllowed}
use Rattle.smith_reduce.specs.Smaller.{HasScript}
use Rattle.smith_reduce.proofs.LimitsFit.{all_finishable, fit_maxima, fit_sizes}
use Rattle.smith_reduce.proofs.ReadableFit.{fit_readable}

module _ (config : Config) where
  no_minimum : HasNoDemands config → (t : Tree) → Minima config t
  no_minimum limits t = record {
    types = omega (arith, limits.types);
    imports = omega (arith, limits.imports);
    functions = omega (arith, limits.functions);
  }

  no_minima : HasNoDemands config → (ts : List Tree) → AllByRecursion (Minima config) ts
  no_minima limits [] = tt
  no_minima limits (t ∷ ts) = (no_minimum limits t, no_minima limits ts)

  module _ (t : Tree) (bytes : List ℕ) (spells : Spells t bytes) (allowed : IsAllowed config t) where
    pub allowed_script : WellFormed t → HasScript config t
    allowed_script formed =
        let within : Within config t = record {
          possible = record {
            formed = formed;
            limits = record {
              maxima = fit_maxima config t allowed.counts allowed.fits allowed.depth;
              minima = no_minima allowed.limits (t ∷ inside t);
            };
            sized = fit_sizes config t allowed.fits;
            readable = fit_readable config t formed allowed.fits;
            offered = everything_offered config allowed.limits.unvalidated t;
          };
          finishable = all_finishable config t allowed.finishable allowed.fits;
          spelled = (bytes, spells);
        } in
        (script config t, plan_script config t allowed.limits.consistent within)

  -- A component with a script is well formed.
  pub script_formed : (t : Tree) → HasScript config t → WellFormed t
  script_formed t has = given_formed config t has.0 (script_given config t has.0 has.1)
