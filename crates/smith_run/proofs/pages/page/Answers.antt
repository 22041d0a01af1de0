use Rattle.std.proofs.Common.{append_assoc}
use Rattle.smith_run.specs.Page.{page}
use Rattle.smith_run.proofs.pages.page.Goals as goal

pub returns : goal.returns
unfolding page
returns c =
    rw (c.in_ok-extend_from_slice.ensures.items, c.in_ok-text.ensures, c.as_bytes.ensures.value, c.in_ok-last_line.ensures.ok) (simp append_assoc)
