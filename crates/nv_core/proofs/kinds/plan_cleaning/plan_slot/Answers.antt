use Rattle.std.proofs.Common.{◌≡◌, ◌∙◌, ap, false, subst, sym, true}
use Rattle.nv_alloc.specs.Queue.{QueueValue}
use Rattle.nv_alloc.specs.declared.hand.Hand.{Hand}
use Rattle.nv_cell.specs.Cell.{CellState}
use Rattle.nv_cell.specs.Readers.{has_inode}
use Rattle.nv_machine.specs.Cleaning.{inode_turn, is_thorough}
use Rattle.nv_machine.specs.World as machine
use Rattle.nv_machine.specs.World.{Moves, cell_at}
use Rattle.nv_steps.specs.Planning.{IsFoundIn}
use Rattle.nv_core.specs.GhostCalls.{IsEither}
use Rattle.nv_core.specs.Rooms.{IsHandOf}
use Rattle.nv_core.specs.Shown.{hand_of, manner_of, next_of, shared_of, shown}
use Rattle.nv_core.proofs.HeldRooms.{can_end}
use Rattle.nv_core.proofs.LentCells.{numbers_in, planned_here}
use Rattle.nv_core.proofs.Settled.{cell_there}
use Rattle.nv_core.proofs.kinds.plan_cleaning.plan_slot.Goals as goal

pub go_by_plan-requires-clause-found : goal.go_by_plan-requires-clause-found
go_by_plan-requires-clause-found c =
    let shared = c.args.shared.now in
    let ino = c.args.ino in
    let thorough = is_thorough (manner_of c.args.manner) c.index-cell.result.now.state in
    let here =
    cell_there shared.cells.items ino c.index-cell.result.now c.requires.there (rw c.number.ensures at c.index-cell.ensures) in
    (thorough, subst (λ (x : CellState). IsFoundIn x thorough c.in-Ok.planned) (sym here) c.in-Ok.ensures.found)

pub returns-in-Ok-clause-turn : goal.returns-in-Ok-clause-turn
returns-in-Ok-clause-turn c told =
    let shared = c.args.shared.now in
    let s = shared_of shared in
    let ino = c.args.ino in
    let r = shown told c.args.running.now in
    let here =
    cell_there shared.cells.items ino c.index-cell.result.now c.requires.there (rw c.number.ensures at c.index-cell.ensures) in
    let next = ap next_of c.requires.next in
    subst (λ (q : machine.Running). IsEither (λ granted. inode_turn (has_inode (cell_at s ino)) (manner_of c.args.manner) ino granted s
    (hand_of c.args.hand.now) r) (Moves s (hand_of c.plan_cleaning.new.hand) q)) (sym (c.go_by_plan.ensures.turn told))
    (planned_here shared c.requires.home c.requires.wide ino c.index-cell.result.now.state here c.requires.there (manner_of c.args.manner) r _
    (hand_of c.args.hand.now) (hand_of c.plan_cleaning.new.hand) true next
    (c.in-Ok.ensures.turn (numbers_in shared) 0 ino r (record { next = next; slots = c.requires.slots })))

pub returns-in-Err-clause-turn : goal.returns-in-Err-clause-turn
returns-in-Err-clause-turn c told =
    let shared = c.args.shared.now in
    let s = shared_of shared in
    let ino = c.args.ino in
    let r = shown told c.args.running.now in
    let here =
    cell_there shared.cells.items ino c.index-cell.result.now c.requires.there (rw c.number.ensures at c.index-cell.ensures) in
    let next = ap next_of c.requires.next in
    subst (λ (q : machine.Running). IsEither (λ granted. inode_turn (has_inode (cell_at s ino)) (manner_of c.args.manner) ino granted s
    (hand_of c.args.hand.now) r) (Moves s (hand_of c.plan_cleaning.new.hand) q)) (sym (c.unlock_first.ensures.ends told))
    (planned_here shared c.requires.home c.requires.wide ino c.index-cell.result.now.state here c.requires.there (manner_of c.args.manner) r _
    (hand_of c.args.hand.now) (hand_of c.plan_cleaning.new.hand) false next
    (c.in-Err.ensures.turn (numbers_in shared) 0 ino r (record { next = next; slots = c.requires.slots })))

pub returns-in-Err-clause-rooms : goal.returns-in-Err-clause-rooms
returns-in-Err-clause-rooms c =
    let hand = c.plan_cleaning.new.hand in
    let sized : IsHandOf c.args.shared.now.geometry.numbers hand = record {
      blocks = ap (λ (h : Hand). h.«data».size) c.in-Err.ensures.rest ∙ c.requires.sized.blocks;
      pages = ap (λ (q : QueueValue). q.size) c.in-Err.ensures.pages.same ∙ c.requires.sized.pages;
    } in
    c.unlock_first.ensures.rooms c.args.shared.now hand (can_end c.args.running.now _ c.requires.call.request (λ same. absurd (cc))) sized tt
