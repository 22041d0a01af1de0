use Rattle.std.proofs.Common.{◌≡◌, ◌++◌, ◌∷◌, []}
use Rattle.smith_change.proofs.WrongBytes.{put_behind}
use Rattle.smith_change.proofs.miswritten.behind.Goals as goal

pub returns : goal.returns
returns c =
    let headed : c.push.new.self.items ≡ c.args.front.now ++ c.args.section.id ∷ [] = cc (c.in_ok-push.ensures.items, c.in_ok-all.ensures.items) in
    put_behind c.args.front.now c.put_number.new.out.items _ c.args.section.rest.now c.args.section.id c.args.section.length
    (cc (c.in_ok-put_number.ensures, headed)) c.in_ok-extend_from_slice.ensures.items
