-- What a turn of the builder may choose among if input is left, said of what is counted before it.
use Rattle.std.specs.Prelude.{ℕ, ◌+◌, ◌&&◌, List, nat_le, nat_lt}
use Rattle.smith_format.specs.declared.config.Config.{Config}
use Rattle.smith_tree.specs.Open.{is_export_offered, more_items}
use Rattle.smith_tree.specs.declared.choices.Item.{Item}
use Rattle.smith_tree.specs.declared.totals.RefTotals.{RefTotals}

-- within that many components, after that many sections of the inner one
abbrev pub turn_items : Config → ℕ → ℕ → RefTotals → List Item
turn_items config depth sections totals =
    more_items (nat_le config.finish_after sections) (nat_lt totals.modules config.max_modules)
    (nat_lt (depth + 1) config.max_nesting_depth && nat_lt totals.components config.max_components) (is_export_offered config)
