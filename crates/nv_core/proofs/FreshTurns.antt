-- A cleaner takes log pages from one list: the turn, and what it takes yet.
use Rattle.std.proofs.Common.{◌≡◌, ◌∙◌, ℕ, zero, suc, ◌+◌, ◌-◌, ◌<◌, Bool, true, false, nat_lt, List, ap, arith, length, min, refl, subst, sym}
use Rattle.nv_alloc.specs.Queue.{QueueValue}
use Rattle.nv_alloc.specs.declared.hand.Hand.{Hand}
use Rattle.nv_base.specs.declared.fault.Fault.TheVariants.{NoSpace}
use Rattle.nv_clean.specs.Plans.{wanted_of}
use Rattle.nv_machine.specs.Cleaning.{fresh_turn, take_fresh_turn, with_fresh}
use Rattle.nv_machine.specs.Kinds.{asked_list, less_list}
use Rattle.nv_machine.specs.Step.{kind_turn}
use Rattle.nv_machine.specs.World as machine
use Rattle.nv_machine.specs.World.{cell_at, go_to, list_at}
use Rattle.nv_calls.specs.declared.looked.LookupResult.{LookupResult}
use Rattle.nv_core.specs.Cleaning.{CanCompact, IsMaintaining, IsMove, TakesFresh}
use Rattle.nv_core.specs.GhostCalls.{IsSnapshotOrCleaner}
use Rattle.nv_core.specs.Rooms.{HasRooms, HasStepRoom, IsHandOf, LooksAsTold}
use Rattle.nv_core.specs.declared.request.Request.{Request}
use Rattle.nv_core.specs.declared.request.Request.TheVariants as request
use Rattle.nv_core.specs.declared.reservation.Reservation.TheVariants as reserved
use Rattle.nv_core.specs.declared.next.SnapshotOrCleanerStep.{SnapshotOrCleanerStep}
use Rattle.nv_core.specs.Shown.{ShownCall, next_of, shared_of, shown, slots_in}
use Rattle.nv_core.specs.Steps.{Given}
use Rattle.nv_core.specs.Takings.{IsTaken}
use Rattle.nv_core.specs.declared.next.FreshPages.{FreshPages}
use Rattle.nv_core.specs.declared.next.SnapshotOrCleanerStep.TheVariants as on
use Rattle.nv_core.specs.declared.next.Next.{Next}
use Rattle.nv_core.specs.declared.next.Next.TheVariants as next
use Rattle.nv_core.specs.declared.running.Running.{Running}
use Rattle.nv_core.specs.declared.shared.Shared.{Shared}
use Rattle.nv_core.proofs.Ends.{end_anywhere}
use Rattle.nv_core.proofs.TakenBlocks.{taken_count}

module _ (old new : Shared) (hand : Hand) (fresh : FreshPages) (queue : QueueValue) (below cpu left : ℕ)
    (rest : new ≡ record old { lists = new.lists })
    (is : IsTaken below fresh.left cpu (list_at (shared_of old) cpu) old.lists.items new.lists.items hand.pages queue)
    (q : left ≡ fresh.left - min fresh.left (length (list_at (shared_of old) cpu).blocks)) (takes : TakesFresh old hand fresh) where
  -- the plan is still of the cell
  moves_still : IsMove new fresh.plan
  moves_still = record {
    walk = subst (λ (t : Shared). fresh.plan.walk ≡ wanted_of (cell_at (shared_of t) fresh.plan.ino)) (sym rest) takes.move.walk;
    some = takes.move.some;
  }

  counted : length queue.blocks + left ≡ fresh.plan.walk.pages
  counted =
      let count = taken_count below fresh.left cpu (list_at (shared_of old) cpu) old.lists.items new.lists.items hand.pages queue is in
      omega (arith, q, count, takes.count)

  -- a cleaner that lacks some takes them from the next list
  pub fresh_next : fresh.asked + 1 < length new.lists.items
      → TakesFresh new (record hand { pages = queue }) (record fresh { asked = fresh.asked + 1; left = left })
  fresh_next more = record {
    move = moves_still;
    count = counted;
    room = let room = ap (λ (v : QueueValue). v.room) is.queue in omega (arith, q, room, takes.room);
    list = more;
  }

  -- a cleaner that has all compacts
  pub fresh_all : left ≡ 0 → CanCompact new (record hand { pages = queue }) fresh.plan
  fresh_all none = record { move = moves_still; count = omega (arith, counted, none) }

  -- ---- what holds of the call behind it

  module _ (running : Running) (call : IsMaintaining running) (sized : IsHandOf old.geometry.numbers hand) where
    abbrev after : Hand
    after = record hand { pages = queue }

    same_block : old.geometry.numbers.block ≡ new.geometry.numbers.block
    same_block = ap (λ (t : Shared). t.geometry.numbers.block) (sym rest)

    looks_on : (j : Request) (found : LookupResult) → IsSnapshotOrCleaner j → LooksAsTold j found
    looks_on (request.Change plan text) found on = absurd on
    looks_on (request.Visit visit) found on = tt
    looks_on (request.SnapshotOrCleaner what) found on = tt
    looks_on request.Taken found on = tt

    rooms_on : (step : SnapshotOrCleanerStep) → HasStepRoom step new after
        → HasRooms new (reserved.Hand after) (record running { next = next.SnapshotOrCleaner step })
    rooms_on step room = (
      record { before = call.request; looks = looks_on running.request running.looked call.request; overtaken = call.overtaken },
      record { blocks = sized.blocks ∙ same_block; pages = ap (λ (v : QueueValue). v.size) is.queue ∙ sized.pages ∙ same_block },
      tt,
      room,
    )

    pub rooms_lack : fresh.asked + 1 < length new.lists.items → HasRooms new (reserved.Hand after)
        (record running { next = next.SnapshotOrCleaner (on.Fresh (record fresh { asked = fresh.asked + 1; left = left })) })
    rooms_lack more = rooms_on (on.Fresh (record fresh { asked = fresh.asked + 1; left = left })) (fresh_next more)

    pub rooms_all : left ≡ 0
        → HasRooms new (reserved.Hand after) (record running { next = next.SnapshotOrCleaner (on.Compact fresh.plan) })
    rooms_all none = rooms_on (on.Compact fresh.plan) (fresh_all none)

-- ---- the call, whatever stands in the place of its step meanwhile

fresh_anywhere : (left : ℕ) (more : Bool) (ino asked : ℕ) (s : machine.Shared) (h : machine.HandState) (r : machine.Running)
    (next : machine.Next) → fresh_turn left more ino asked s h (go_to next r) ≡ fresh_turn left more ino asked s h r
fresh_anywhere zero more ino asked s h r next = refl
fresh_anywhere (suc n) true ino asked s h r next = refl
fresh_anywhere (suc n) false ino asked s h r next = end_anywhere r.slots (machine.Refuses NoSpace) s h r next

pub taken_anywhere : (cpu ino asked left : ℕ) (s : machine.Shared) (h : machine.HandState) (r : machine.Running) (next : machine.Next)
    → take_fresh_turn cpu ino asked left s h (go_to next r) ≡ take_fresh_turn cpu ino asked left s h r
taken_anywhere cpu ino asked left s h r next =
    fresh_anywhere (left - length (list_at s cpu).blocks) (nat_lt (asked + 1) (length s.lists)) ino asked (less_list cpu left s)
    (with_fresh cpu left s h) r next

pub fresh_shown : (told : ShownCall) (running : Running) (meanwhile : Next) (fresh : FreshPages) (block actor : ℕ) (granted : Bool)
    (s : machine.Shared) (h : machine.HandState) (turn : machine.Turn) → running.next ≡ next.SnapshotOrCleaner (on.Fresh fresh)
    → take_fresh_turn (asked_list (length s.lists) actor fresh.asked) fresh.plan.ino fresh.asked fresh.left s h
    (shown told (record running { next = meanwhile })) ≡ turn
    → kind_turn (next_of running.next) block actor granted s h (shown told running) ≡ turn
fresh_shown told running meanwhile fresh block actor granted s h turn e is =
    let cpu = asked_list (length s.lists) actor fresh.asked in
    ap (λ (n : Next). kind_turn (next_of n) block actor granted s h (shown told running)) e
    ∙ sym (taken_anywhere cpu fresh.plan.ino fresh.asked fresh.left s h (shown told running) (next_of meanwhile))
    ∙ is

-- a cleaner holds the slot of its inode
pub holds_fresh : (shared : Shared) (hand : Hand) (running : Running) (fresh : FreshPages)
    → running.next ≡ next.SnapshotOrCleaner (on.Fresh fresh) → Given running.next shared hand running → 0 < length (slots_in running.slots)
holds_fresh shared hand running fresh at given =
    let own = subst (λ (n : Next). Given n shared hand running) at given in
    subst (λ (slots : List ℕ). 0 < length slots) (sym own.0) (omega arith)
