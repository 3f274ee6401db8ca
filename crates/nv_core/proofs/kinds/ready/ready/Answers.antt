use Rattle.std.proofs.Common.{◌≡◌, ◌∙◌, List, ℕ, ap, ap₂, inl, inr, refl, subst, sym}
use Rattle.std.specs.Vec.{with_items}
use Rattle.nv_alloc.specs.declared.hand.Hand.{Hand}
use Rattle.nv_base.specs.Memory.{out_of_memory}
use Rattle.nv_base.specs.declared.fault.Fault.{Fault}
use Rattle.nv_calls.specs.FillPages.{filled, fresh_pages}
use Rattle.nv_calls.specs.Prepared.{CanReady, HaveNoLessRoom, IsReadyBy}
use Rattle.nv_calls.specs.SlotCells.{lent_cells}
use Rattle.nv_calls.specs.declared.call.Call.{Call}
use Rattle.nv_cell.specs.Cell.{CellValue}
use Rattle.nv_machine.specs.Kinds.{refuse, with_bytes}
use Rattle.nv_machine.specs.Reads.{copies, plan_by}
use Rattle.nv_machine.specs.World as machine
use Rattle.nv_core.specs.Parts.{IsOfDevice}
use Rattle.nv_core.specs.Readied.{filled_hand}
use Rattle.nv_core.specs.Rooms.{HasRooms, hand_held}
use Rattle.nv_core.specs.declared.reservation.Reservation.{Reservation}
use Rattle.nv_core.specs.declared.reservation.Reservation.TheVariants as reserved
use Rattle.nv_core.specs.GhostCalls.{IsRequestOf}
use Rattle.nv_core.specs.declared.request.Request.{Request}
use Rattle.nv_core.specs.Shown.{hand_of, shared_of, shown, slots_in}
use Rattle.nv_core.proofs.Readies.{at_ready, filled_same, placed_ready, plan_ready, plans_ready, rooms_ready, shared_same}
use Rattle.nv_core.proofs.Stepped.{cells_left, written_is}
use Rattle.nv_core.proofs.Takes.{can_ready}
use Rattle.nv_core.proofs.kinds.ready.ready.Goals as goal

pub ready_in-ready-requires-clause-can : goal.ready_in-ready-requires-clause-can
ready_in-ready-requires-clause-can c =
    let at = c.in-Hand.is ∙ ap (λ (h : Hand). reserved.Hand h) (sym c.replace-hand.ensures.value) in
    let rooms = subst (λ (h : Reservation). HasRooms c.args.shared.now h c.args.running.now) at c.requires.rooms in
    let device = subst (λ (h : Reservation). IsOfDevice c.args.shared.now.geometry.numbers (hand_held h)) at c.requires.device in
    let has = at_ready c.args.shared.now c.replace-hand.result c.args.running.now c.in-Change.update c.in-Change.text c.requires.next
    (sym c.in-Change.ensures.value) rooms in
    let slots = slots_in c.args.running.now.slots in
    subst (λ (xs : List CellValue). CanReady (lent_cells slots xs) c.replace-hand.result c.in-Change.update) (sym c.deref_mut.ensures.value)
    (can_ready c.args.shared.now slots c.replace-hand.result c.args.running.now.looked c.in-Change.update
    c.requires.limits device rooms.1 has.1.0 has.1.1.blocks)

pub returns-in-Ok-clause-turn : goal.returns-in-Ok-clause-turn
returns-in-Ok-clause-turn c told is =
    let at = c.in-Hand.is ∙ ap (λ (h : Hand). reserved.Hand h) (sym c.replace-hand.ensures.value) in
    let rooms = subst (λ (h : Reservation). HasRooms c.args.shared.now h c.args.running.now) at c.requires.rooms in
    let shared = c.args.shared.now in let hand = c.replace-hand.result in let running = c.args.running.now in
    let slots = slots_in running.slots in let u = c.in-Change.update in let text = c.in-Change.text in
    let s = shared_of shared in let r = shown told running in
    let has = at_ready shared hand running c.in-Change.update text c.requires.next (sym c.in-Change.ensures.value) rooms in
    let of = subst (λ (j : Request). IsRequestOf j running.owed told.call) (sym c.in-Change.ensures.value) is in
    let gives = rw c.deref_mut.ensures.value at c.in-Ok.ensures in
    let fill : hand_of c.in-Ok.ready.hand ≡ with_bytes shared.geometry.numbers.block s r (hand_of hand) =
    gives.filled
    ∙ ap (λ (t : List ℕ). filled_hand (lent_cells slots shared.cells.items) t u hand) c.as_slice.ensures
    ∙ filled_same shared slots hand running.looked u text c.requires.limits.some_bytes c.requires.can.sound rooms.1 has.1.0 of.1
    ∙ ap (λ (d : Call). record (hand_of hand) {
      blocks = filled (fresh_pages shared.geometry.numbers.block (copies s) d) hand.«data».blocks;
    }) (sym of.0) in
    rw c.replace_with.ensures (rw at (inl (ap₂ (λ (t : machine.Shared) (h : machine.HandState). machine.Moves t h (record r {
      plan = plan_by shared.geometry.numbers.block s (hand_of hand) r;
      next = machine.Enter;
    })) (sym (shared_same shared slots c.ready_in-ready.new.cells gives.count gives.cells gives.others)) (sym fill))))

pub returns-in-Ok-clause-plans : goal.returns-in-Ok-clause-plans
returns-in-Ok-clause-plans c told is =
    let at = c.in-Hand.is ∙ ap (λ (h : Hand). reserved.Hand h) (sym c.replace-hand.ensures.value) in
    let rooms = subst (λ (h : Reservation). HasRooms c.args.shared.now h c.args.running.now) at c.requires.rooms in
    let device = subst (λ (h : Reservation). IsOfDevice c.args.shared.now.geometry.numbers (hand_held h)) at c.requires.device in
    let shared = c.args.shared.now in let hand = c.replace-hand.result in let running = c.args.running.now in
    let slots = slots_in running.slots in let u = c.in-Change.update in
    let has = at_ready shared hand running c.in-Change.update c.in-Change.text c.requires.next (sym c.in-Change.ensures.value)
    rooms in
    let gives = rw c.deref_mut.ensures.value at c.in-Ok.ensures in
    rw c.replace_with.ensures (rw at (plans_ready slots shared.cells.items (lent_cells slots c.ready_in-ready.new.cells) hand u c.in-Ok.ready
    (plan_by shared.geometry.numbers.block (shared_of shared) (hand_of hand) (shown told running))
    (can_ready shared slots hand running.looked u c.requires.limits device rooms.1 has.1.0 has.1.1.blocks)
    gives.ok
    (plan_ready shared hand running told c.in-Change.update c.in-Change.text (sym c.in-Change.ensures.value) is has.0 has.1.0)))

pub returns-in-Ok-clause-placed : goal.returns-in-Ok-clause-placed
returns-in-Ok-clause-placed c told is =
    let at = c.in-Hand.is ∙ ap (λ (h : Hand). reserved.Hand h) (sym c.replace-hand.ensures.value) in
    let rooms = subst (λ (h : Reservation). HasRooms c.args.shared.now h c.args.running.now) at c.requires.rooms in
    let device = subst (λ (h : Reservation). IsOfDevice c.args.shared.now.geometry.numbers (hand_held h)) at c.requires.device in
    let shared = c.args.shared.now in let hand = c.replace-hand.result in let running = c.args.running.now in
    let slots = slots_in running.slots in let u = c.in-Change.update in
    let has = at_ready shared hand running c.in-Change.update c.in-Change.text c.requires.next (sym c.in-Change.ensures.value)
    rooms in
    rw c.replace_with.ensures (rw at (placed_ready slots shared.cells.items hand u
    (plan_by shared.geometry.numbers.block (shared_of shared) (hand_of hand) (shown told running))
    (can_ready shared slots hand running.looked u c.requires.limits device rooms.1 has.1.0 has.1.1.blocks)
    (plan_ready shared hand running told c.in-Change.update c.in-Change.text (sym c.in-Change.ensures.value) is has.0 has.1.0)))

pub returns-in-Ok-clause-rooms : goal.returns-in-Ok-clause-rooms
returns-in-Ok-clause-rooms c =
    let at = c.in-Hand.is ∙ ap (λ (h : Hand). reserved.Hand h) (sym c.replace-hand.ensures.value) in
    let rooms = subst (λ (h : Reservation). HasRooms c.args.shared.now h c.args.running.now) at c.requires.rooms in
    let device = subst (λ (h : Reservation). IsOfDevice c.args.shared.now.geometry.numbers (hand_held h)) at c.requires.device in
    let shared = c.args.shared.now in let hand = c.replace-hand.result in let running = c.args.running.now in
    let slots = slots_in running.slots in let u = c.in-Change.update in let new = c.ready_in-ready.new.cells in
    let has = at_ready shared hand running c.in-Change.update c.in-Change.text c.requires.next (sym c.in-Change.ensures.value)
    rooms in
    let gives = rw c.deref_mut.ensures.value at c.in-Ok.ensures in
    let lent = lent_cells slots shared.cells.items in
    let whole = sym (written_is shared new gives.count) in
    let made = rooms_ready shared (record shared { cells = with_items shared.cells new }) hand running u c.in-Ok.ready
    (can_ready shared slots hand running.looked u c.requires.limits device rooms.1 has.1.0 has.1.1.blocks)
    (subst (λ (xs : List CellValue). HaveNoLessRoom lent (lent_cells slots xs)) whole gives.cells)
    (subst (λ (xs : List CellValue). IsReadyBy lent hand u (lent_cells slots xs) c.in-Ok.ready) whole gives.ok)
    rooms.1 refl c.requires.can.answers in
    rw c.replace_with.ensures (c.in-Change.ensures.after, made.1, made.2, made.3)

pub returns-in-Ok-clause-rest : goal.returns-in-Ok-clause-rest
returns-in-Ok-clause-rest c =
    let gives = rw c.deref_mut.ensures.value at c.in-Ok.ensures in
    cells_left (slots_in c.args.running.now.slots) c.args.shared.now c.args.shared.now.book c.ready_in-ready.new.cells gives.count
    gives.others

pub returns-clause-turn : goal.returns-clause-turn
returns-clause-turn c told is =
    let at = c.in-Hand.is ∙ ap (λ (h : Hand). reserved.Hand h) (sym c.replace-hand.ensures.value) in
    let shared = c.args.shared.now in let slots = slots_in c.args.running.now.slots in let r = shown told c.args.running.now in
    let new = c.ready_in-ready.new.cells in
    let gives = rw c.deref_mut.ensures.value at c.in-Err.ensures in
    let same = shared_same shared slots new gives.count gives.cells gives.others in
    rw at (inr (ap (λ (t : machine.Shared). refuse out_of_memory t (hand_of c.replace-hand.result) r) (sym same)
    ∙ ap₂ (λ (h : machine.HandState) (fault : Fault). refuse fault (shared_of (record shared { cells = with_items shared.cells new })) h r)
    (sym (ap hand_of gives.err.1.same) ∙ ap hand_of (sym c.replace-empty.ensures.after)) (sym gives.err.0)
    ∙ c.refuse.ensures.turn told))

pub returns-clause-rest : goal.returns-clause-rest
returns-clause-rest c =
    let gives = rw c.deref_mut.ensures.value at c.in-Err.ensures in
    cells_left (slots_in c.args.running.now.slots) c.args.shared.now c.args.shared.now.book c.ready_in-ready.new.cells gives.count
    gives.others
