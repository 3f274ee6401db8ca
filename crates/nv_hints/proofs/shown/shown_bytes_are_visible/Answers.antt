use Rattle.nv_hints.proofs.Visible.{shown-visible}
use Rattle.nv_hints.proofs.shown.shown_bytes_are_visible.Goals as goal

pub returns : goal.returns
returns c = shown-visible
