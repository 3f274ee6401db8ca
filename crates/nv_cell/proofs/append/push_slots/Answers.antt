use Rattle.std.proofs.Common.{◌+◌, ◌-◌, ◌≤◌, length, arith, subst}
use Rattle.std.specs.Prelude.{vec_capacity, vec_len}
use Rattle.std.proofs.lemmas.List.FromFn.{length-range_with_len}
use Rattle.nv_entry.specs.Blocks.{item_blocks}
use Rattle.nv_entry.specs.declared.item.Item.{Item}
use Rattle.nv_entry.specs.Keys.{parts_of}
use Rattle.nv_cell.specs.Append.{IsWithinFile}
use Rattle.nv_cell.proofs.Appending.{length_parts}
use Rattle.nv_cell.proofs.append.push_slots.Goals as goal

pub push_blocks-requires-clause-room : goal.push_blocks-requires-clause-room
push_blocks-requires-clause-room c =
    let w = c.in-Write in
    let room =
    subst (λ (item : Item). vec_len c.args.slots.now + (length (parts_of item) - 1) ≤ vec_capacity c.args.slots.now) w.is c.requires.room in
    let within = subst IsWithinFile w.is c.requires.within in
    omega (arith, room, length_parts w.first w.size w.run' within)

pub push_blocks-requires-clause-there : goal.push_blocks-requires-clause-there
push_blocks-requires-clause-there c =
    let w = c.in-Write in
    let there = subst (λ (item : Item). length (item_blocks item) ≤ length c.args.queue.now.blocks) w.is c.requires.there in
    omega (arith, there, length-range_with_len w.run'.start w.run'.len)

pub returns-in-Write-clause-slots : goal.returns-in-Write-clause-slots
returns-in-Write-clause-slots c =
    let w = c.in-Write in
    rw (w.is, length-range_with_len w.run'.start w.run'.len) c.push_blocks.ensures.slots

pub returns-in-Write-clause-queue : goal.returns-in-Write-clause-queue
returns-in-Write-clause-queue c =
    let w = c.in-Write in
    rw (w.is, length-range_with_len w.run'.start w.run'.len) c.push_blocks.ensures.queue
