use Rattle.std.proofs.Common.{arith}
use Rattle.nv_audit.proofs.PendingSlots.{put_nowhere, put_there}
use Rattle.nv_audit.proofs.pending.put_part.Goals as goal

pub returns-then-place-len : goal.returns-then-place-len
returns-then-place-len c =
    put_nowhere c.args.lists.now.items c.number-place.result c.args.ino c.args.part c.number-place.ensures
    (omega (arith, c.if-place-len.true, c.len.ensures))

pub returns : goal.returns
returns c =
    put_there c.args.lists.now.items c.number-place.result c.args.ino c.args.part c.index_mut-list.result.now c.push.new.self c.number-place.ensures
    (omega (arith, c.if-place-len.false, c.len.ensures)) c.index_mut-list.ensures.value c.in_ok-push.ensures.items
