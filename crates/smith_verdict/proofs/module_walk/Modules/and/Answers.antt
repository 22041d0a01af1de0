use Rattle.std.proofs.Common.{◌+◌, ◌∷◌, [], arith, inl, inr}
use Rattle.smith_verdict.specs.Modules.{BoundedModule, BrokenModule, SoundModule}
use Rattle.smith_verdict.proofs.ModuleWalk.{one_here, one_more}
use Rattle.smith_verdict.proofs.module_walk.Modules.and.Goals as goal

pub returns-in-Sound-self : goal.returns-in-Sound-self
returns-in-Sound-self c = λ text texts j a. one_here BrokenModule c.args.item texts text (rw c.in-Broken.is at j)

pub returns-in-Sound-self-2 : goal.returns-in-Sound-self-2
returns-in-Sound-self-2 c = λ text texts j a. one_here BoundedModule c.args.item texts text (rw c.in-Bounded.is at j)

pub returns-in-Broken-self-2 : goal.returns-in-Broken-self-2
returns-in-Broken-self-2 c = λ text texts j a.
    elim c.in-Broken-self-2.is [
      | inl b ↦ rw b.1 (one_more BrokenModule c.args.item (c.args.item + 1) texts (text ∷ []) b.0 (omega arith) (rw b.1 at a))
      | inr b ↦ rw b.1 (one_more BoundedModule c.args.item (c.args.item + 1) texts (text ∷ []) b.0 (omega arith) (rw b.1 at a))
    ]

pub returns-in-Sound-self-3 : goal.returns-in-Sound-self-3
returns-in-Sound-self-3 c = λ text texts j a. one_here (λ t. ¬ SoundModule t) c.args.item texts text (rw c.in-Other.is at j).0

pub returns-in-Broken-self-3 : goal.returns-in-Broken-self-3
returns-in-Broken-self-3 c = λ text texts j a.
    elim c.in-Broken-self-3.is [
      | inl b ↦ rw b.1 (one_more BrokenModule c.args.item (c.args.item + 1) texts (text ∷ []) b.0 (omega arith) (rw b.1 at a))
      | inr d ↦ elim d [
        | inl b ↦ rw b.1 (one_more BoundedModule c.args.item (c.args.item + 1) texts (text ∷ []) b.0 (omega arith) (rw b.1 at a))
        | inr b ↦ rw b.1 (one_more (λ t. ¬ SoundModule t) c.args.item (c.args.item + 1) texts (text ∷ []) b.0 (omega arith) (rw b.1 at a))
      ]
    ]
