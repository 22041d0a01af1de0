use Rattle.std.proofs.Common.{arith, map}
use Rattle.std.proofs.lemmas.List.{length-map}
use Rattle.smith_syntax.specs.Shown.{shown_decl}
use Rattle.smith_types.proofs.ModuleSaid.{count_small}
use Rattle.smith_types.proofs.core_types.counted.CountedDefs.push.Goals as goal

pub count-requires : goal.count-requires
count-requires c = λ k.
    let old = c.args.self.now in
    let defs = old.defs in
    let few = count_small k (map shown_decl defs.items) in
    omega (arith, old.counted.of_kind k, few, length-map defs.items shown_decl, defs.ok.0, defs.ok.1, defs.small)
