-- What may follow in a label, by where in it that is.
use Rattle.std.specs.Prelude.{◌⊎◌, ℕ, List}
use Rattle.smith_input.specs.Kebab.{AreInWord}
use Rattle.smith_syntax.specs.Labels.{AreInAcronym, BeginsWith, IsFragment, IsLabel}
use Rattle.smith_check.specs.declared.names.Fragment.{Fragment}
use Rattle.smith_check.specs.declared.names.Fragment.TheVariants.{Capital, Digits, First, Next, Small}

abbrev pub Goes : Fragment → List ℕ → Type 0
Goes First cs = IsLabel cs
Goes Next cs = BeginsWith IsFragment cs
Goes Digits cs = BeginsWith AreInWord cs ⊎ BeginsWith AreInAcronym cs
Goes Small cs = BeginsWith AreInWord cs
Goes Capital cs = BeginsWith AreInAcronym cs
