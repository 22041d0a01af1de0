-- The sizes of own function types after an outer alias.
use Rattle.std.proofs.Common.{◌≡◌, ℕ, List, [], ◌∷◌, ◌++◌, sym, ap, ◌∙◌, append-nil, Option, Some, None}
use Rattle.std.proofs.lemmas.List.{map-append}
use Rattle.std.specs.Option.{option_map, option_to_list}
use Rattle.smith_format.specs.CoreTypes.{Function}
use Rattle.smith_syntax.specs.Sizes.{capped, function_size}
use Rattle.smith_syntax.specs.OwnSizes.{sizes_in}

abbrev pub kept_size : Option Function → Option ℕ
kept_size o = option_map (λ f. capped (function_size f)) o

pub alias_added : (fs : List Function) (o : Option Function) → sizes_in fs ++ option_to_list (kept_size o) ≡ sizes_in (fs ++ option_to_list o)
alias_added fs None = append-nil (sizes_in fs) ∙ ap sizes_in (sym (append-nil fs))
alias_added fs (Some f) = sym (map-append (λ g. capped (function_size g)) fs (f ∷ []))
