use Rattle.std.proofs.Common.{◌≡◌, ℕ, ◌<◌, Bool, true, false, List, map, length, refl, sym, ap, ◌∙◌}
use Rattle.std.proofs.lemmas.Bool.{false≢true}
use Rattle.std.proofs.lemmas.List.Folds.{list_all_at, list_all-map}
use Rattle.std.specs.List.{list_all}
use Rattle.std.specs.Option.{is_some}
use Rattle.std.specs.Prelude.{String, get_or}
use Rattle.std.specs.declared.alloc.Global.{Global}
use Rattle.smith_syntax.specs.Entries.{Field}
use Rattle.smith_syntax.specs.Flat.{flat_value}
use Rattle.smith_syntax.specs.Signature.{named}
use Rattle.smith_syntax.specs.declared.types.ComponentValType.{ComponentValType}
use Rattle.smith_types.proofs.canonical.flat_params.Goals as goal

-- each parameter is a scalar if all are
some_at : (xs : List (String Global × ComponentValType)) (i : ℕ) (p : String Global × ComponentValType)
    → list_all (λ (q : Field). is_some (flat_value q.1)) (map named xs) ≡ true → i < length xs → p ≡ get_or xs i p → is_some (flat_value p.1) ≡ true
some_at xs i p all l at = by_test (is_some (flat_value p.1)) refl
  where
    test : Field → Bool
    test = λ f. is_some (flat_value f.1)

    by_test : (b : Bool) → is_some (flat_value p.1) ≡ b → is_some (flat_value p.1) ≡ true
    by_test true e = e
    by_test false e =
        let none = list_all-map test named xs ∙ list_all_at (λ q. test (named q)) xs i p l (ap (λ q. test (named q)) (sym at) ∙ e) in
        absurd (false≢true (sym none ∙ all))

pub unwrap-requires : goal.unwrap-requires
unwrap-requires c = ap is_some c.flat_value.ensures ∙ some_at _ c.loop-ty.ty-index c.loop-ty-item.result c.requires c.loop-ty-test.true c.loop-ty-item.is
