use Rattle.std.proofs.Common.{arith}
use Rattle.std.specs.Option.{option_map}
use Rattle.nv_calls.specs.Looks.{in_slot}
use Rattle.nv_calls.specs.Nodes.{copies_by}
use Rattle.nv_calls.proofs.RefusedLooks.{look_removal, look_rename, look_second}
use Rattle.nv_calls.proofs.looks.look_at.Goals as goal

pub returns-in-Unlink : goal.returns-in-Unlink
returns-in-Unlink c bytes text =
    look_removal (copies_by bytes (in_slot c.args.ino (option_map (λ cell. cell.now) c.args.cell))) c.args.update.now text c.args.place
    c.args.before.now c.look_first-in-Unlink.result c.in-Unlink.dir c.in-Unlink.name c.in-Unlink.is c.requires
    (rw c.as_slice-in-Unlink.ensures at (c.look_first-in-Unlink.ensures bytes))

pub returns-then-place-gt0 : goal.returns-then-place-gt0
returns-then-place-gt0 c bytes text =
    look_second (copies_by bytes (in_slot c.args.ino (option_map (λ cell. cell.now) c.args.cell))) c.args.update.now text c.args.place
    c.args.before.now c.in-Rename.from c.in-Rename.old c.in-Rename.to c.in-Rename.new c.found_by.result c.in-Rename.is
    c.if-place-gt0.true c.requires (rw c.as_slice.ensures at (c.found_by.ensures bytes))

pub returns-else-place-gt0 : goal.returns-else-place-gt0
returns-else-place-gt0 c bytes text =
    look_rename (copies_by bytes (in_slot c.args.ino (option_map (λ cell. cell.now) c.args.cell))) c.args.update.now text c.args.place
    c.args.before.now c.look_first.result c.in-Rename.from c.in-Rename.old c.in-Rename.to c.in-Rename.new c.found_beside-second.result
    c.in-Rename.is (omega (arith, c.if-place-gt0.false))
    (rw c.as_slice-in-Rename.ensures at (c.found_beside-second.ensures bytes))
    (rw c.as_slice-in-Rename-2.ensures at (c.look_first.ensures bytes))
