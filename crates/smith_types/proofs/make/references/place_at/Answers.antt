use Rattle.std.proofs.Common.{◌≡◌, ◌<◌, ℕ, List, length, sym, ap, ◌∙◌, arith}
use Rattle.std.specs.Prelude.{slice_get}
use Rattle.smith_syntax.specs.Places.{places}
use Rattle.smith_syntax.specs.Scope.{is_core_module}
use Rattle.smith_scopes.specs.Scopes.{own_marked}
use Rattle.smith_scopes.proofs.Stack.{own_scope_is}
use Rattle.smith_types.proofs.References.{places_of_modules}
use Rattle.smith_types.proofs.make.references.place_at.Goals as goal

found : {row all : List ℕ} (k : ℕ) → row ≡ all → k < length all → k < length row
found k e h = let l = ap length e in omega (arith, l, h)

pub kind_at-requires : goal.kind_at-requires
kind_at-requires c =
    found c.args.rank
    (ap (λ s. places is_core_module 0 s.core_types) (own_scope_is c.args.scopes.now)
    ∙ sym (places_of_modules c.args.kind c.args.for_import (own_marked c.args.scopes.now) (sym c.offer_of.ensures ∙ c.in-None.is)))
    c.requires

pub returns-in-None : goal.returns-in-None
returns-in-None c =
    ap (λ xs. slice_get xs c.args.rank)
    (places_of_modules c.args.kind c.args.for_import (own_marked c.args.scopes.now) (sym c.offer_of.ensures ∙ c.in-None.is)
    ∙ sym (ap (λ s. places is_core_module 0 s.core_types) (own_scope_is c.args.scopes.now)))
    ∙ c.kind_at.ensures.value
