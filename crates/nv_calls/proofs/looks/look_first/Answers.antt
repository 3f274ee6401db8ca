use Rattle.std.proofs.Common.{◌∙◌, sym}
use Rattle.std.specs.Option.{option_map}
use Rattle.nv_calls.specs.Looks.{in_slot}
use Rattle.nv_calls.specs.Nodes.{copies_by}
use Rattle.nv_calls.proofs.RefusedLooks.{look_refused}
use Rattle.nv_calls.proofs.looks.look_first.Goals as goal

pub returns-in-Err : goal.returns-in-Err
returns-in-Err c bytes =
    look_refused (copies_by bytes (in_slot c.args.ino (option_map (λ cell. cell.now) c.args.cell))) c.args.dir.now c.args.name.now
    c.in-Err.fault (sym (c.look_up.ensures bytes) ∙ c.in-Err.is)
