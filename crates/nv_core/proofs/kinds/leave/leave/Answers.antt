use Rattle.std.proofs.Common.{◌≡◌, ◌∙◌, List, None, ap, arith, length, subst, sym}
use Rattle.nv_alloc.specs.declared.hand.Hand.{Hand}
use Rattle.nv_cell.specs.declared.killed.KilledPart.{KilledPart}
use Rattle.nv_machine.specs.Kinds.{end_turn, leave_turn}
use Rattle.nv_machine.specs.World as machine
use Rattle.nv_core.specs.Shown.{ending_of, hand_of, hand_with, held_by, killed_in, shared_of, shown, shown_at, slots_in, turn_of}
use Rattle.nv_core.specs.Rooms.{HasRooms, hand_held}
use Rattle.nv_core.specs.declared.reservation.Reservation.{Reservation}
use Rattle.nv_core.proofs.Stages.{leave_due}
use Rattle.nv_core.proofs.Ends.{all_retired, end_anywhere}
use Rattle.nv_core.proofs.kinds.leave.leave.Goals as goal

pub returns-clause-turn : goal.returns-clause-turn
returns-clause-turn c told owes =
    let running = c.args.running.now in
    let commit = c.requires.step.0 in
    let at = c.requires.step.1 in
    let rooms = subst (λ (h : Reservation). HasRooms c.args.shared.now h running) at c.requires.rooms in
    let past = (leave_due commit c.requires.step.2).1 in
    let most = rooms.3.way.retired in
    let all : commit.retired ≡ length commit.plans = omega (arith, past, most) in
    let s = record (shared_of c.args.shared.now) { holder = None } in
    let left : c.in-Hand.hand ≡ commit.hand =
    ap (λ (h : Reservation). hand_held h) (sym c.in-Hand.is ∙ c.replace_with.ensures commit at) in
    let hand : hand_with (killed_in commit) commit.hand ≡ hand_of c.in-Hand.hand =
    ap (λ (parts : List (List KilledPart)). hand_with parts commit.hand) (all_retired commit all) ∙ ap hand_of (sym left) in
    subst (λ (h : Reservation). leave_turn (shared_of c.args.shared.now) (held_by h) (shown_at machine.Leave told running)
    ≡ turn_of c.end.result c.end.new.running.answer s (hand_of (hand_held h)) (shown told c.end.new.running)) (sym at)
    (ap (λ (h : machine.HandState). end_turn (slots_in running.slots)
    (ending_of running.ending) s h (shown_at machine.Leave told running)) hand
    ∙ end_anywhere (slots_in running.slots) (ending_of running.ending) s (hand_of c.in-Hand.hand)
    (shown told running) machine.Leave
    ∙ c.end.ensures.turn told owes
    ∙ ap (λ (h : Hand). turn_of c.end.result c.end.new.running.answer s (hand_of h) (shown told c.end.new.running)) left)
