use Rattle.std.proofs.Common.{append_assoc, sym}
use Rattle.std.specs.Prelude.{option_to_list}
use Rattle.nv_calls.proofs.runs.RunList.push.Goals as goal

pub returns : goal.returns
returns c = rw (c.in_ok-push.ensures.items, ← c.self.view_is) (sym (append_assoc (option_to_list c.self.inside.first) _ _))
