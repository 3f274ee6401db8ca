-- The steps that pass the hand on, as turns of their call.
use Rattle.std.proofs.Common.{◌≡◌, ◌∙◌, ℕ, true, List, ap, length, refl, subst, sym}
use Rattle.nv_alloc.specs.declared.hand.Hand.{Hand}
use Rattle.nv_alloc.specs.Numbers.{has}
use Rattle.nv_book.specs.Book.{BookState}
use Rattle.nv_calls.specs.Commit.{CommitValue}
use Rattle.nv_calls.specs.Progress.{step_of}
use Rattle.nv_calls.specs.Ready.{ReadyValue}
use Rattle.nv_calls.specs.declared.progress.CommitStep.TheVariants as step
use Rattle.nv_machine.specs.Locks.{held_at}
use Rattle.nv_machine.specs.Step.{kind_turn, turn}
use Rattle.nv_machine.specs.World as machine
use Rattle.nv_core.proofs.Turns.{either}
use Rattle.nv_core.specs.Appends.{IsPlacedBy}
use Rattle.nv_core.proofs.Others.{others_stay}
use Rattle.nv_core.specs.Frames.{LeavesCells}
use Rattle.nv_core.specs.Shown.{ShownCall, hand_of, held_by, machine_step, next_of, shared_of, shown, shown_at, shown_by, slots_in, turn_of}
use Rattle.nv_core.specs.GhostCalls.{IsEither, IsReservationOf, IsRequestOf, IsShownCallOf, OwesAt, planned, shown_in}
use Rattle.nv_core.specs.Turns.{IsTurn, LeavesOthers, ShowsAfter}
use Rattle.nv_core.specs.Worlds.{ShowsCall, shown_call_of}
use Rattle.nv_core.specs.declared.reservation.Reservation.{Reservation}
use Rattle.nv_core.specs.declared.reservation.Reservation.TheVariants as reserved
use Rattle.nv_core.specs.declared.request.Request.{Request}
use Rattle.nv_core.specs.declared.request.Request.TheVariants as request
use Rattle.nv_core.specs.declared.next.Next.{Next}
use Rattle.nv_core.specs.declared.next.Next.TheVariants as next
use Rattle.nv_core.specs.declared.running.Running.{Running}
use Rattle.nv_core.specs.declared.shared.Shared.{Shared}
use Rattle.nv_calls.specs.declared.slots.LockedSlots.{LockedSlots}
use Rattle.nv_core.specs.declared.turn.Turn.{Turn}
use Rattle.nv_core.specs.declared.turn.Turn.TheVariants as result

-- what is told is what is shown
told_back : (h : Reservation) (told : ShownCall) (running : Running) → shown_call_of (shown_by h told running) ≡ told
told_back (reserved.Hand hand) told running = refl
told_back (reserved.Ready ready) told running = refl
told_back (reserved.Commit commit) told running = refl

shows_call : (h : Reservation) (after : Running) (told : ShownCall) → IsShownCallOf after told → IsReservationOf (slots_in after.slots) h told
    → IsPlacedBy (slots_in after.slots) h told → ShowsCall h after (shown_by h told after)
shows_call h after told is of placed =
    let back = told_back h told after in
    record {
      shown = ap (λ (t : ShownCall). shown_by h t after) back;
      request = subst (λ (t : ShownCall). IsShownCallOf after t) (sym back) is;
      plan = subst (λ (t : ShownCall). IsReservationOf (slots_in after.slots) h t) (sym back) of;
      place = subst (λ (t : ShownCall). IsPlacedBy (slots_in after.slots) h t) (sym back) placed;
    }

pub shows_hold : (t : Turn) (h : Reservation) (after : Running) (told : ShownCall) → IsShownCallOf after told → IsReservationOf (slots_in after.slots) h told
    → IsPlacedBy (slots_in after.slots) h told → ShowsAfter t h after (shown_by h told after)
shows_hold result.Moves h after told is of placed = shows_call h after told is of placed
shows_hold result.Waits h after told is of placed = shows_call h after told is of placed
shows_hold result.Ends h after told is of placed = tt

-- a plan is told of what is ready, and a commit of what enters
call_planned : (h : Reservation) (block : ℕ) (s : machine.Shared) (hand : machine.HandState) (r : machine.Running) (told : ShownCall) (after : Running)
    → IsShownCallOf after told → IsShownCallOf after (planned h block s hand r told)
call_planned (reserved.Hand h) block s hand r told after is = is
call_planned (reserved.Ready ready) block s hand r told after is = is
call_planned (reserved.Commit commit) block s hand r told after is = is

call_entered : (h : Reservation) (book : BookState) (told : ShownCall) (after : Running) → IsShownCallOf after told → IsShownCallOf after (shown_in h book told)
call_entered (reserved.Hand hand) book told after is = is
call_entered (reserved.Ready ready) book told after is = is
call_entered (reserved.Commit commit) book told after is = is

-- ---- ready

pub turns_ready : (actor : ℕ) (shared : Shared) (hand : Hand) (running : Running) (r : machine.Running) (done : Reservation × Turn)
    (shared_after : Shared) (after : Running) → running.next ≡ next.Ready → ShowsCall (reserved.Hand hand) running r
    → after.slots ≡ running.slots → ((told : ShownCall) → IsShownCallOf running told → IsShownCallOf after told)
    → ((told : ShownCall) → IsShownCallOf running told → let t = planned done.0 shared.geometry.numbers.block (shared_of shared) (hand_of hand)
    (shown told running) told in
    IsEither (λ granted. kind_turn machine.Ready shared.geometry.numbers.block actor granted (shared_of shared) (hand_of hand)
    (shown told running))
    (turn_of done.1 after.answer (shared_of shared_after) (held_by done.0) (shown_by done.0 t after))
    × IsReservationOf (slots_in running.slots) done.0 t × IsPlacedBy (slots_in running.slots) done.0 t)
    → IsTurn actor shared (reserved.Hand hand) r done.1 shared_after done.0 after
turns_ready actor shared hand running r done shared_after after here shows same keeps by =
    let told = shown_call_of r in
    let block = shared.geometry.numbers.block in
    let t = planned done.0 block (shared_of shared) (hand_of hand) (shown told running) told in
    let all = by told shows.request in
    let one = either (λ granted. kind_turn machine.Ready block actor granted (shared_of shared) (hand_of hand) (shown told running))
    (turn_of done.1 after.answer (shared_of shared_after) (held_by done.0) (shown_by done.0 t after)) all.0 in
    record {
      granted = one.0;
      after = shown_by done.0 t after;
      is = ap (λ (x : machine.Running). turn block actor one.0 (shared_of shared) (hand_of hand) x) (sym shows.shown)
          ∙ ap (λ (n : Next). kind_turn (next_of n) block actor one.0 (shared_of shared) (hand_of hand) (shown told running)) here
          ∙ one.1;
      shows = shows_hold done.1 done.0 after t
          (call_planned done.0 block (shared_of shared) (hand_of hand) (shown told running) told after (keeps told shows.request))
          (subst (λ (s : LockedSlots). IsReservationOf (slots_in s) done.0 t) (sym same) all.1)
          (subst (λ (s : LockedSlots). IsPlacedBy (slots_in s) done.0 t) (sym same) all.2);
    }

-- ---- enter

pub turns_enter : (actor : ℕ) (shared : Shared) (ready : ReadyValue) (running : Running) (r : machine.Running) (done : Reservation × Turn)
    (shared_after : Shared) (after : Running) → ShowsCall (reserved.Ready ready) running r → after.slots ≡ running.slots
    → ((told : ShownCall) → IsShownCallOf running told → IsShownCallOf after told)
    → ((told : ShownCall) → IsReservationOf (slots_in running.slots) (reserved.Ready ready) told
    → IsPlacedBy (slots_in running.slots) (reserved.Ready ready) told
    → let t = shown_in done.0 shared.book.state told in
    IsEither (λ granted. kind_turn machine.Enter shared.geometry.numbers.block actor granted (shared_of shared) (hand_of ready.hand)
    (shown_by (reserved.Ready ready) told running))
    (turn_of done.1 after.answer (shared_of shared_after) (held_by done.0) (shown_by done.0 t after))
    × IsReservationOf (slots_in running.slots) done.0 t × IsPlacedBy (slots_in running.slots) done.0 t)
    → IsTurn actor shared (reserved.Ready ready) r done.1 shared_after done.0 after
turns_enter actor shared ready running r done shared_after after shows same keeps by =
    let told = shown_call_of r in
    let block = shared.geometry.numbers.block in
    let t = shown_in done.0 shared.book.state told in
    let all = by told shows.plan shows.place in
    let one = either (λ granted. kind_turn machine.Enter block actor granted (shared_of shared) (hand_of ready.hand)
    (shown_by (reserved.Ready ready) told running))
    (turn_of done.1 after.answer (shared_of shared_after) (held_by done.0) (shown_by done.0 t after)) all.0 in
    record {
      granted = one.0;
      after = shown_by done.0 t after;
      is = ap (λ (x : machine.Running). turn block actor one.0 (shared_of shared) (hand_of ready.hand) x) (sym shows.shown) ∙ one.1;
      shows = shows_hold done.1 done.0 after t (call_entered done.0 shared.book.state told after (keeps told shows.request))
          (subst (λ (s : LockedSlots). IsReservationOf (slots_in s) done.0 t) (sym same) all.1)
          (subst (λ (s : LockedSlots). IsPlacedBy (slots_in s) done.0 t) (sym same) all.2);
    }

-- ---- leave

pub turns_leave : (actor : ℕ) (shared : Shared) (commit : CommitValue) (running : Running) (r : machine.Running) (done : Hand × Turn)
    (shared_after : Shared) (after : Running) → step_of commit ≡ step.Leave → ShowsCall (reserved.Commit commit) running r
    → ((told : ShownCall) → IsShownCallOf running told → IsShownCallOf after told)
    → ((told : ShownCall) → IsShownCallOf running told
    → kind_turn machine.Leave shared.geometry.numbers.block actor true (shared_of shared) (held_by (reserved.Commit commit))
    (shown_at machine.Leave told running) ≡ turn_of done.1 after.answer (shared_of shared_after) (hand_of done.0) (shown told after))
    → IsTurn actor shared (reserved.Commit commit) r done.1 shared_after (reserved.Hand done.0) after
turns_leave actor shared commit running r done shared_after after here shows keeps by =
    let told = shown_call_of r in
    let block = shared.geometry.numbers.block in
    record {
      granted = true;
      after = shown told after;
      is = ap (λ (x : machine.Running). turn block actor true (shared_of shared) (held_by (reserved.Commit commit)) x) (sym shows.shown)
          ∙ ap (λ n. kind_turn (machine_step n commit) block actor true (shared_of shared) (held_by (reserved.Commit commit))
          (shown_at (machine_step n commit) told running)) here
          ∙ by told shows.request;
      shows = shows_hold done.1 (reserved.Hand done.0) after told (keeps told shows.request) tt tt;
    }

-- ---- what they leave to the others

held_ready : (r : machine.Running) (slots : List ℕ) → r.next ≡ machine.Ready → r.slots ≡ slots → held_at r.next r.slots ≡ slots
held_ready r slots e f = ap (λ (n : machine.Next). held_at n r.slots) e ∙ f

pub rest_ready : (actor : ℕ) (old new : Shared) (running : Running) (r : machine.Running) (hand : Hand) → running.next ≡ next.Ready
    → ShowsCall (reserved.Hand hand) running r → LeavesCells (slots_in running.slots) old new → new.book ≡ old.book
    → LeavesOthers actor r old new
rest_ready actor old new running r hand here shows leaves book =
    let held : held_at r.next r.slots ≡ slots_in running.slots =
    held_ready r (slots_in running.slots) (ap (λ (x : machine.Running). x.next) (sym shows.shown) ∙ ap next_of here)
    (ap (λ (x : machine.Running). x.slots) (sym shows.shown)) in
    record {
      geometry = leaves.geometry;
      lists = ap (λ l. length l.items) leaves.lists;
      count = leaves.count;
      cells = λ ino none. others_stay (slots_in running.slots) old.cells.items new.cells.items leaves.count leaves.others ino
          (ap (λ (xs : List ℕ). has xs ino) (sym held) ∙ none);
      book = λ other is apart. (book, leaves.holder);
    }

-- what a call is owed whose commit has its request
pub owes_given : (running : Running) (told : ShownCall) → running.request ≡ request.Taken → IsShownCallOf running told → OwesAt running.ending running told
owes_given running told given is answers = (subst (λ (j : Request). IsRequestOf j running.owed told.call) given is).1
