use Rattle.std.proofs.Common.{◌∙◌, ap}
use Rattle.nv_calls.specs.Locked as locked
use Rattle.nv_calls.specs.SlotList.{slots_in}
use Rattle.nv_calls.proofs.SomeSlots.{with_chain}
use Rattle.nv_calls.proofs.locks.slots_of.Goals as goal

pub returns : goal.returns
returns c text =
    with_chain c.args.inodes (slots_in c.none.result) (slots_in c.with.result) (slots_in c.with-2.result) (slots_in c.with-3.result)
    (slots_in c.with-4.result)
    c.locked-first.result.0 c.locked-first.result.1 c.locked-first.result.2 c.locked-first.result.3 c.none.ensures c.with.ensures
    c.with-2.ensures c.with-3.ensures c.with-4.ensures
    ∙ ap (locked.slots_in c.args.inodes) (c.locked-first.ensures text)
