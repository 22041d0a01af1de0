-- The names of members, as the program and as the plain tree has them.
use Rattle.std.proofs.Common.{◌≡◌, List, [], ◌∷◌, map, refl, ap, sym, subst, Result}
use Rattle.std.specs.Prelude.{String, string_bytes}
use Rattle.std.specs.declared.alloc.Global.{Global}
use Rattle.smith_syntax.specs.Signature.{named}
use Rattle.smith_verdict.specs.Contained.{Content, OfNames}
use Rattle.smith_verdict.specs.Shows.{Shows}
use Rattle.smith_verdict.specs.declared.contained.Found.{Found}
use Rattle.smith_check.proofs.TypeSteps.{names_named}

pub members_named : {A B : Type 0} (asked : Found) (P : Content → Type 0) (r : Result A Found) (ps : List (String Global × B))
    → Shows asked r (OfNames P (map (λ p. string_bytes p.0) ps)) → Shows asked r (OfNames P (map (λ p. p.0) (map named ps)))
members_named asked P r ps s = subst (λ ns. Shows asked r (OfNames P ns)) (sym (names_named ps)) s
