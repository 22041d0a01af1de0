-- The limits of the profile `fuzz`.
use Rattle.smith_format.specs.declared.config.Config.{Config}

-- limits with four that the profile sets over them
abbrev pub fuzzed : Config → Config
fuzzed given = record given { max_exports = 10; finish_after = 8; max_name_length = 8; loop_bits = 2 }
