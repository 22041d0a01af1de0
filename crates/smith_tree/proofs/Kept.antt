-- What is kept if anything is.
use Rattle.std.proofs.Common.{◌≡◌, Bool, true, false, List, [], ◌++◌, refl, if◌then◌else◌, append-nil, ◌∙◌}
use Rattle.smith_syntax.specs.Marked.{more_kept}

pub kept_more : {A : Type 0} (keeps : Bool) (xs ys : List A) → keeps ≡ true → more_kept keeps xs ys ≡ xs ++ ys
kept_more true xs ys e = refl
kept_more false xs ys e = cc

pub kept_none : {A : Type 0} (keeps : Bool) (xs : List A) → keeps ≡ true → more_kept keeps xs [] ≡ xs
kept_none keeps xs e = kept_more keeps xs [] e ∙ append-nil xs

pub kept_either : {A : Type 0} (keeps : Bool) (a b : A) → keeps ≡ true → (if keeps then a else b) ≡ a
kept_either true a b e = refl
kept_either false a b e = cc
