use Rattle.smith_format.proofs.Sizes.{length_then}
use Rattle.smith_core.proofs.module.encode.types.SubTypeSpelledModuleFormat.spelled_len.Goals as goal

pub returns : goal.returns
returns c =
    let l = c.sub_prefix_len-prefix.ensures.length in
    length_then c.checked_add.result c.checked_add.ensures l ((c.in_ok-spelled_len.ensures {u = tt}).0)
