use Rattle.std.specs.Hash.{fed_along, fed_then, slice, option}
use Rattle.smith_syntax.specs.contracts.types.ComponentValTypeHash.TheImpl.{ghosts as val_hash}
use Rattle.smith_syntax.specs.Signature.{named}
use Rattle.smith_syntax.specs.SameSignature.{field_input}
use Rattle.smith_syntax.proofs.Signature.{input-named}
use Rattle.smith_syntax.proofs.func.FuncTypeHash.hash.Goals as goal

pub returns : goal.returns
returns g c =
    let us = slice (λ p. field_input (named p)) c.self.inside.params.items in
    let vs = option val_hash.hash_input c.self.inside.result in
    rw (← c.self.view_is) (fed_along g.H.Hasher.write c.args.state.now c.hash-2.new.state (input-named c.self.inside.params.items c.self.inside.result)
    (fed_then g.H.Hasher.write c.args.state.now c.hash.new.state c.hash-2.new.state us vs c.hash.ensures c.hash-2.ensures))
