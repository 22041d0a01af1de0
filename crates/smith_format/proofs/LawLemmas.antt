-- The lemmas that the laws state.
use Rattle.smith_format.proofs.Clear.{clear_many, clear_number, clear_s, clear_s_index, clear_sized, clear_text, clear_u}
use Rattle.smith_format.proofs.Clear.{exact, exact_both, exact_bytes, exact_raw}
use Rattle.smith_format.proofs.CoreReading.{function_unique, memory_unique, table_unique, tag_unique}
use Rattle.smith_format.proofs.CoreScript.{function_read, memory_read}
use Rattle.smith_format.proofs.CoreTypes.{clear_core_function, clear_core_val}
use Rattle.smith_format.proofs.Digits.{signed_last_le, signed_more_lt, unsigned_last, unsigned_more}
use Rattle.smith_format.proofs.Entities.{clear_core_import, clear_entity}
use Rattle.smith_format.proofs.Sizes.{s_index_none_where, sized_none_where, text_none_where, u_none_where}
use Rattle.smith_format.proofs.TooLong.{entity_none_where, function_none_where, import_none_where, raw_some, val_none_where}

pub ruleset laws = (
  clear_core_function,
  clear_core_import,
  clear_core_val,
  clear_entity,
  clear_many,
  clear_number,
  clear_s,
  clear_s_index,
  clear_sized,
  clear_text,
  clear_u,
  entity_none_where,
  exact,
  exact_both,
  exact_bytes,
  exact_raw,
  function_none_where,
  function_read,
  function_unique,
  import_none_where,
  memory_read,
  memory_unique,
  raw_some,
  s_index_none_where,
  signed_last_le,
  signed_more_lt,
  sized_none_where,
  table_unique,
  tag_unique,
  text_none_where,
  u_none_where,
  unsigned_last,
  unsigned_more,
  val_none_where,
)
