use Rattle.std.proofs.Common.{◌≡◌, ◌∙◌, ℕ, true, ap, refl, slice_set, subst, sym}
use Rattle.nv_machine.specs.World as machine
use Rattle.nv_machine.specs.World.{Moves}
use Rattle.nv_core.specs.Shown.{hand_of, shown}
use Rattle.nv_core.proofs.LentCells.{numbers_in, unlinked_here, with_cells}
use Rattle.nv_core.proofs.Settled.{cell_there}
use Rattle.nv_alloc.specs.declared.hand.Hand.{Hand}
use Rattle.nv_core.specs.Rooms.{IsHandOf}
use Rattle.nv_core.proofs.HeldRooms.{can_end}
use Rattle.nv_core.proofs.kinds.unlink.unlink.Goals as goal

pub returns-clause-turn : goal.returns-clause-turn
returns-clause-turn c told =
    let shared = c.args.shared.now in
    let ino = c.args.plan.ino in
    let r = shown told c.args.running.now in
    let new = c.unlink-cleaned.new.cell in
    let cells = slice_set shared.cells.items c.number.result new in
    let here =
    cell_there shared.cells.items ino c.index_mut.result.now c.requires.can.slot (rw c.number.ensures at c.index_mut.ensures.value) in
    unlinked_here shared c.requires.home c.requires.wide ino c.index_mut.result.now.state here c.requires.can.slot r
    (hand_of c.args.hand.now) (hand_of c.unlink-cleaned.new.hand) new cells
    (ap (λ (n : ℕ). slice_set shared.cells.items n new) c.number.ensures) c.unlink-cleaned.result
    (c.unlink-cleaned.ensures.turn (numbers_in shared) 0 ino true (machine.go_to (machine.SnapshotOrCleaner (machine.Unlink ino)) r)
    (record { next = refl; slots = c.requires.slots }))
    ∙ ap (λ (q : machine.Running). Moves (with_cells cells shared) (hand_of c.unlink-cleaned.new.hand) q)
    (sym (c.unlock_first.ensures.ends told))

pub returns-clause-rooms : goal.returns-clause-rooms
returns-clause-rooms c =
    c.unlock_first.ensures.rooms _ c.unlink-cleaned.new.hand (can_end c.args.running.now _ c.requires.call.request (λ same. absurd (cc)))
    (subst (λ (h : Hand). IsHandOf c.args.shared.now.geometry.numbers h) (sym c.unlink-cleaned.ensures.hand)
    (record { blocks = c.requires.sized.blocks; pages = c.requires.sized.pages })) tt
