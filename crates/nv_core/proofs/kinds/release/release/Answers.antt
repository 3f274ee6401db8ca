use Rattle.std.proofs.Common.{◌≡◌, ◌∙◌, ℕ, true, ap, arith, get_or-set_other, length-set, refl, slice_set, subst, sym}
use Rattle.nv_calls.specs.Cells.{no_cell}
use Rattle.nv_machine.specs.SnapshotOrCleaner.{release_turn}
use Rattle.nv_machine.specs.World as machine
use Rattle.nv_machine.specs.World.{HandState, Moves}
use Rattle.nv_core.specs.Shown.{draining_of, hand_of, shared_of, shown}
use Rattle.nv_core.proofs.LentCells.{numbers_in, released_here, with_cells}
use Rattle.nv_core.proofs.Settled.{cell_there}
use Rattle.nv_core.proofs.SnapRest.{rest_cell}
use Rattle.nv_alloc.specs.declared.hand.Hand.{Hand}
use Rattle.nv_calls.specs.Retiring as calls
use Rattle.nv_core.specs.GhostCalls.{IsSnapshotOrCleaner}
use Rattle.nv_core.specs.Rooms.{FitsNext, HasNextRoom, HoldsOne, IsHandOf}
use Rattle.nv_core.specs.declared.next.Next.{Next}
use Rattle.nv_core.proofs.HeldRooms.{can_end, holds_back, holds_with}
use Rattle.nv_core.proofs.Retires.{with_stays}
use Rattle.nv_core.proofs.kinds.release.release.Goals as goal

pub returns-clause-turn : goal.returns-clause-turn
returns-clause-turn c told =
    let shared = c.args.shared.now in
    let picked = c.args.picked in
    let r = shown told c.args.running.now in
    let new = c.release.new.cell in
    let cells = slice_set shared.cells.items c.number.result new in
    let d = draining_of c.args.draining in
    let after = hand_of c.release.new.hand in
    let here =
    cell_there shared.cells.items picked.ino c.index_mut.result.now c.requires.can.slot (rw c.number.ensures at c.index_mut.ensures.value) in
    subst (λ (h : HandState). release_turn d picked (shared_of shared) h r
    ≡ Moves (with_cells cells shared) after (shown told c.unlock_first.new.running)) c.requires.empty
    (released_here shared c.requires.home c.requires.wide picked c.index_mut.result.now.state here c.requires.can.slot d r
    (hand_of c.args.hand.now) after new cells (ap (λ (n : ℕ). slice_set shared.cells.items n new) c.number.ensures)
    (c.release.ensures.turn (numbers_in shared) 0 true d (machine.go_to (machine.SnapshotOrCleaner (machine.Release d picked)) r)
    (record { next = refl; slots = c.requires.slots }))
    ∙ ap (λ (q : machine.Running). Moves (with_cells cells shared) after q) (sym (c.unlock_first.ensures.ends told)))

pub returns-clause-rest : goal.returns-clause-rest
returns-clause-rest c actor =
    let items = c.args.shared.now.cells.items in
    let new = c.release.new.cell in
    let n = c.number.result in
    rw c.requires.next (rw c.requires.slots (rest_cell actor c.args.picked.ino c.args.shared.now _
    (λ ino ne. get_or-set_other items n ino new (no_cell.1) (λ e. ne (e ∙ c.number.ensures)))
    (length-set items n new) refl))

pub returns-clause-rooms : goal.returns-clause-rooms
returns-clause-rooms c =
    let g = c.args.shared.now.geometry.numbers in
    let running = c.args.running.now in
    let picked = c.args.picked in
    let hand = c.args.hand.now in
    let old = c.index_mut.result.now.state in
    let mid = calls.released picked old in
    let free = calls.released_blocks picked old in
    let put : Hand = record hand { «data» = calls.with_back free hand.«data» } in
    let sized = c.requires.rooms.1 in
    let request : IsSnapshotOrCleaner running.request =
    subst (λ (n : Next). FitsNext n running.request) c.requires.next c.requires.rooms.0.before in
    let room = subst (λ (n : Next). HasNextRoom n running.ending running.request c.args.shared.now hand) c.requires.next c.requires.rooms.3 in
    c.unlock_first.ensures.rooms _ c.release.new.hand (can_end running _ request (λ same. absurd (cc)))
    (subst (λ (h : Hand). IsHandOf g h) (sym c.release.ensures.hand)
    (with_stays picked.ino mid put g (record { blocks = sized.blocks; pages = sized.pages }))) (
      request,
      omega (arith, room.0),
      subst (λ (h : Hand). HoldsOne h) (sym c.release.ensures.hand) (holds_with picked.ino mid put (holds_back free hand room.1)),
    )
