use Rattle.std.proofs.Common.{◌≡◌, drop, fold, map}
use Rattle.smith_input.specs.Script.{script_loop}
use Rattle.smith_scopes.specs.NodeScopes.{outer_marked_in, own_marked_in}
use Rattle.smith_script_types.proofs.Saying.{Towards}
use Rattle.smith_script.specs.Saying.{rows_say}
use Rattle.smith_script.specs.Preceding.{preceding}
use Rattle.smith_script.proofs.rows.say_rows.Given as goal

abbrev pub invariant-loop-row : goal.invariant-loop-row
invariant-loop-row g l = record {
  counted : l.done ≡ l.row-index;
  outer : outer_marked_in l.scopes ≡ outer_marked_in l.initial.scopes;
  said : Towards l.initial.out l.out (
      rows_say (g.T.Row.says l.given.config.now (outer_marked_in l.initial.scopes)) (g.T.Row.after (outer_marked_in l.initial.scopes))
      l.section.max (preceding (own_marked_in l.initial.scopes) l.initial.here)
      (map g.T.Row.shown l.section.rows.now)
      ) (
      script_loop (g.T.Row.says l.given.config.now (outer_marked_in l.initial.scopes)) (g.T.Row.after (outer_marked_in l.initial.scopes))
      0 l.section.max l.done (preceding (own_marked_in l.scopes) l.here)
      (map g.T.Row.shown (drop l.row-index l.section.rows.now))
      );
  added : fold (g.T.Row.after (outer_marked_in l.initial.scopes)) (preceding (own_marked_in l.scopes) l.here)
      (map g.T.Row.shown (drop l.row-index l.section.rows.now))
      ≡ fold (g.T.Row.after (outer_marked_in l.initial.scopes)) (preceding (own_marked_in l.initial.scopes) l.initial.here)
      (map g.T.Row.shown l.section.rows.now);
}
