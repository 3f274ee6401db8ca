use Rattle.std.proofs.Common.{◌≡◌, arith, inl, inr, length}
use Rattle.nv_alloc.specs.Hand.{blocks_of}
use Rattle.nv_sessions.specs.Changing.{blocks_in}
use Rattle.nv_sessions.proofs.Raised.{bytes_alone, room_alone, same_blocks, still_counted, still_returned, still_whole}
use Rattle.nv_sessions.proofs.Refusals.{memory_wants}
use Rattle.nv_sessions.proofs.change.make_change.Goals as goal

pub commit_ready-requires-clause-whole : goal.commit_ready-requires-clause-whole
commit_ready-requires-clause-whole g c = still_whole _ _ c.ready_filled.ensures.cells c.requires.whole

pub returns-in-Err-ready_filled-clause-back : goal.returns-in-Err-ready_filled-clause-back
returns-in-Err-ready_filled-clause-back g c =
    let cells = same_blocks _ _ c.ready_filled.ensures.cells in
    let hand : length (blocks_of c.in-Err-ready_filled.refused.1) ≡ length (blocks_of c.take_all-taken.new.hand) =
    elim c.in-Err-ready_filled.ensures.err [
      | inl room ↦ room_alone _ _ room.1
      | inr bytes ↦ bytes_alone _ _ bytes.1
    ] in
    omega (arith, cells, hand, c.take_all-taken.ensures.amount, c.requires.blocks)

pub returns-in-Ok-clause-blocks : goal.returns-in-Ok-clause-blocks
returns-in-Ok-clause-blocks g c =
    let mid = g.L.Cells.cells c.ready_filled.new.cells in
    let cells = same_blocks _ _ c.ready_filled.ensures.cells in
    let hand = bytes_alone _ _ c.in-Ok.ensures.ok.hand_same in
    still_counted c.commit_ready.result c.take_all-taken.new.mine.amount (length (blocks_of c.in-Ok.ready.hand)) (blocks_in mid)
    (blocks_in (g.L.Cells.cells c.commit_ready.new.lent)) (omega (arith, cells, hand, c.take_all-taken.ensures.amount, c.requires.blocks))
    c.commit_ready.ensures.blocks

pub returns-in-Ok-clause-back : goal.returns-in-Ok-clause-back
returns-in-Ok-clause-back g c =
    let mid = g.L.Cells.cells c.ready_filled.new.cells in
    let cells = same_blocks _ _ c.ready_filled.ensures.cells in
    let hand = bytes_alone _ _ c.in-Ok.ensures.ok.hand_same in
    still_returned c.commit_ready.result c.take_all-taken.new.mine.amount c.in-Ok.ready.hand mid (g.L.Cells.cells c.commit_ready.new.lent) _
    (omega (arith, cells, hand, c.take_all-taken.ensures.amount, c.requires.blocks)) c.commit_ready.ensures.hand c.commit_ready.ensures.same

pub returns-in-Err-ready_filled-clause-err : goal.returns-in-Err-ready_filled-clause-err
returns-in-Err-ready_filled-clause-err g c =
    elim c.in-Err-ready_filled.ensures.err [
      | inl room ↦ inl (inr (memory_wants c.in-Err-ready_filled.refused.0 room.0))
      | inr bytes ↦ inr bytes.0
    ]
