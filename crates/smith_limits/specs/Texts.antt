-- The limits that a text of TOML spells, and why it spells none.
use Rattle.std.specs.Prelude.{◌≡◌, ℕ, List, Some, None}
use Rattle.toml.specs.Data.{Members}
use Rattle.toml.specs.Errors.{IsBlank, IsWithin}
use Rattle.toml.specs.Parse.{parse_document}
use Rattle.smith_format.specs.Consistency.{IsDefault}
use Rattle.smith_format.specs.declared.config.Config.{Config}
use Rattle.smith_limits.specs.Limits.{IsRefused, SetsLimits}
use Rattle.smith_limits.specs.declared.text.TextFault.{TextFault}
use Rattle.smith_limits.specs.declared.text.TextFault.TheVariants.{NotToml, Limits, OutOfMemory}

-- The text is a table of TOML that sets these limits.
pub record SpellsLimits (text : List ℕ) (config : Config) : Type 0 where
  pub members : Members
  pub is : parse_document text ≡ Some members
  pub sets : SetsLimits members config

-- Why a text spells no limits: it is not a table of TOML, with a place in the text, or its table sets none. Without memory nothing is known
-- except that the text is more than white space and comments.
abbrev pub IsTextFault : List ℕ → TextFault → Type 0
IsTextFault text (NotToml error) = (parse_document text ≡ None) × IsWithin text error
IsTextFault text (Limits fault) =
    (members : Members) × (parse_document text ≡ Some members) × ((default : Config) → IsDefault default → IsRefused members default fault)
IsTextFault text OutOfMemory = ¬ IsBlank text
