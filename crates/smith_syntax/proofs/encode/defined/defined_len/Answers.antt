use Rattle.std.proofs.Common.{string_bytes}
use Rattle.smith_format.specs.Piece.{text}
use Rattle.smith_format.proofs.Many.{many-map}
use Rattle.smith_syntax.specs.Grammar.{labelvaltype, case}
use Rattle.smith_syntax.specs.Signature.{named}
use Rattle.smith_syntax.proofs.encode.defined.defined_len.Goals as goal

pub returns-in-Record : goal.returns-in-Record
returns-in-Record c = rw (c.in-Record.is, many-map labelvaltype named _) (rw c.deref.ensures.value at (c.tagged_len.ensures 0x72))

pub returns-in-Variant : goal.returns-in-Variant
returns-in-Variant c = rw (c.in-Variant.is, many-map case named _) (rw c.deref-in-Variant.ensures.value at (c.tagged_len-in-Variant.ensures 0x71))

pub returns-in-Flags : goal.returns-in-Flags
returns-in-Flags c = rw (c.in-Flags.is, many-map text string_bytes _) (rw c.deref-in-Flags.ensures.value at (c.tagged_len-in-Flags.ensures 0x6e))

pub returns-in-Enum : goal.returns-in-Enum
returns-in-Enum c = rw (c.in-Enum.is, many-map text string_bytes _) (rw c.deref-in-Enum.ensures.value at (c.tagged_len-in-Enum.ensures 0x6d))
