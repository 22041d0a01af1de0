use Rattle.std.proofs.Common.{arith}
use Rattle.std.proofs.lemmas.Grind.{common_steps}
use Rattle.smith_script_types.proofs.TableSteps.{tags_more}
use Rattle.smith_script_types.proofs.tables.Tables.add_type.Goals as goal

pub returns-in_ok-push-2-clause-added : goal.returns-in_ok-push-2-clause-added
returns-in_ok-push-2-clause-added c = λ own ds h.
    let more = (c.in_ok-push.ensures {u = tt}).items in
    rw c.in-Some.is (record {
      own = grind (arith, common_steps, h.own, more);
      tags = grind (arith, common_steps, tags_more c.args.self.now.own.items c.in-Some.ty, h.tags, more);
      kinds = h.kinds;
      exports = h.exports;
      imports = h.imports;
    })

pub returns-else-is_empty-clause-added : goal.returns-else-is_empty-clause-added
returns-else-is_empty-clause-added c = λ own ds h.
    let more = (c.in_ok-push.ensures {u = tt}).items in
    rw c.in-Some.is (record {
      own = grind (arith, common_steps, h.own, more);
      tags = grind (arith, common_steps, tags_more c.args.self.now.own.items c.in-Some.ty, h.tags, more);
      kinds = h.kinds;
      exports = h.exports;
      imports = h.imports;
    })
