-- Each kind of step as the turn of its call.
use Rattle.std.specs.Prelude.{◌≢◌, Result}
use Rattle.std.proofs.Common.{◌≡◌, ◌∙◌, ℕ, Bool, true, false, ap, refl, subst, sym, inl, inr}
use Rattle.nv_alloc.specs.declared.hand.Hand.{Hand}
use Rattle.nv_base.specs.declared.fault.Fault.{Fault}
use Rattle.nv_calls.specs.declared.answer.Answer.{Answer}
use Rattle.nv_calls.specs.declared.call.Call.{Call}
use Rattle.nv_machine.specs.Step as machine_step
use Rattle.nv_machine.specs.World as machine
use Rattle.nv_core.specs.Rooms.{FitsCall, FitsNext}
use Rattle.nv_core.specs.Shown.{ShownCall, hand_of, next_of, shared_of, shown, turn_of}
use Rattle.nv_core.specs.GhostCalls.{IsEither, IsRequestOf, IsOwed, IsShownCallOf, KeepsRequest, OwesAt}
use Rattle.nv_core.specs.Turns.{IsTurn, ShowsAfter}
use Rattle.nv_core.specs.Worlds.{ShowsCall, shown_call_of}
use Rattle.nv_core.specs.declared.reservation.Reservation.TheVariants as reserved
use Rattle.nv_core.specs.declared.request.Request.{Request}
use Rattle.nv_core.specs.declared.request.Request.TheVariants as request
use Rattle.nv_core.specs.declared.request.PendingAnswer.{PendingAnswer}
use Rattle.nv_core.specs.declared.next.Next.{Next}
use Rattle.nv_core.specs.declared.next.Next.TheVariants as next
use Rattle.nv_core.specs.declared.running.Running.{Running}
use Rattle.nv_core.specs.declared.shared.Shared.{Shared}
use Rattle.nv_core.specs.declared.turn.Turn.{Turn}
use Rattle.nv_core.specs.declared.turn.Turn.TheVariants as turn

-- the memory that a step asks for was there or not
pub either : (by : Bool → machine.Turn) (result : machine.Turn) → IsEither by result → (granted : Bool) × (by granted ≡ result)
either by result (inl e) = (true, e)
either by result (inr e) = (false, e)

pub told_same : (old new : Running) (told : ShownCall) → KeepsRequest old new → IsShownCallOf old told → IsShownCallOf new told
told_same old new told keeps is =
    subst (λ (j : Request). IsRequestOf j new.owed told.call) (sym keeps.request)
    (subst (λ (o : PendingAnswer). IsRequestOf old.request o told.call) (sym keeps.owed) is)

-- the turn of a kind, with the memory granted or not, for whatever is told of the call
abbrev pub TurnsAlone : Next → ℕ → Shared → Hand → Running → Turn → Shared → Hand → Running → Type 0
TurnsAlone next actor shared hand running result shared_after hand_after after =
    (told : ShownCall) → IsShownCallOf running told
    → (granted : Bool) × (machine_step.kind_turn (next_of next) shared.geometry.numbers.block actor granted (shared_of shared)
    (hand_of hand)
    (shown told running)
    ≡ turn_of result after.answer (shared_of shared_after) (hand_of hand_after) (shown told after))

shows_after : (result : Turn) (hand : Hand) (after : Running) (told : ShownCall) → IsShownCallOf after told
    → ShowsAfter result (reserved.Hand hand) after (shown told after)
shows_after turn.Moves hand after told is = record { shown = refl; request = is; plan = tt; place = tt }
shows_after turn.Waits hand after told is = record { shown = refl; request = is; plan = tt; place = tt }
shows_after turn.Ends hand after told is = tt

turned : (next : Next) (actor : ℕ) (shared : Shared) (hand : Hand) (running : Running) (r : machine.Running) (result : Turn)
    (shared_after : Shared) (hand_after : Hand) (after : Running) → running.next ≡ next → ShowsCall (reserved.Hand hand) running r
    → ((told : ShownCall) → IsShownCallOf running told → ShowsAfter result (reserved.Hand hand_after) after (shown told after))
    → TurnsAlone next actor shared hand running result shared_after hand_after after
    → IsTurn actor shared (reserved.Hand hand) r result shared_after (reserved.Hand hand_after) after
turned next actor shared hand running r result shared_after hand_after after here shows then by =
    let told = shown_call_of r in
    let one = by told shows.request in
    record {
      granted = one.0;
      after = shown told after;
      is = ap (λ (x : machine.Running). machine_step.turn shared.geometry.numbers.block actor one.0 (shared_of shared) (hand_of hand) x)
          (sym shows.shown)
          ∙ ap (λ (n : Next). machine_step.kind_turn (next_of n) shared.geometry.numbers.block actor one.0 (shared_of shared) (hand_of hand)
          (shown told running)) here
          ∙ one.1;
      shows = then told shows.request;
    }

-- a call whose hand is alone
pub turns_alone : (next : Next) (actor : ℕ) (shared : Shared) (hand : Hand) (running : Running) (r : machine.Running) (result : Turn)
    (shared_after : Shared) (hand_after : Hand) (after : Running) → running.next ≡ next → ShowsCall (reserved.Hand hand) running r
    → KeepsRequest running after
    → TurnsAlone next actor shared hand running result shared_after hand_after after
    → IsTurn actor shared (reserved.Hand hand) r result shared_after (reserved.Hand hand_after) after
turns_alone next actor shared hand running r result shared_after hand_after after here shows keeps =
    turned next actor shared hand running r result shared_after hand_after after here shows
    (λ told is. shows_after result hand_after after told (told_same running after told keeps is))

-- ---- what is owed

-- a call at its last steps is told what it is owed
owed_by : (j : Request) (owed : PendingAnswer) (c : Call) → FitsNext next.ReturnNumber j → IsRequestOf j owed c → IsOwed owed c
owed_by (request.Change plan text) owed c fits is = is.3
owed_by (request.Visit visit) owed c fits is = absurd fits
owed_by (request.SnapshotOrCleaner on) owed c fits is = is.2
owed_by request.Taken owed c fits is = is.1

last_unlock : (place : ℕ) (j : Request) → FitsNext (next.Unlock place) j → FitsNext next.ReturnNumber j
last_unlock place (request.Change plan text) fits = tt
last_unlock place (request.Visit visit) fits = fits
last_unlock place (request.SnapshotOrCleaner on) fits = tt
last_unlock place request.Taken fits = tt

last_give : (cpu : ℕ) (j : Request) → FitsNext (next.Give cpu) j → FitsNext next.ReturnNumber j
last_give cpu (request.Change plan text) fits = tt
last_give cpu (request.Visit visit) fits = fits
last_give cpu (request.SnapshotOrCleaner on) fits = tt
last_give cpu request.Taken fits = tt

pub owes_unlock : (place : ℕ) (running : Running) (told : ShownCall) → running.next ≡ next.Unlock place → FitsCall running
    → IsShownCallOf running told
    → OwesAt running.ending running told
owes_unlock place running told here fits is answers =
    owed_by running.request running.owed told.call (last_unlock place running.request
    (subst (λ (n : Next). FitsNext n running.request) here fits.before)) is

pub owes_give : (cpu : ℕ) (running : Running) (told : ShownCall) → running.next ≡ next.Give cpu → FitsCall running → IsShownCallOf running told
    → OwesAt running.ending running told
owes_give cpu running told here fits is answers =
    owed_by running.request running.owed told.call (last_give cpu running.request
    (subst (λ (n : Next). FitsNext n running.request) here fits.before)) is

pub owes_back : (running : Running) (told : ShownCall) → running.next ≡ next.ReturnNumber → FitsCall running → IsShownCallOf running told
    → OwesAt running.ending running told
owes_back running told here fits is answers =
    owed_by running.request running.owed told.call (subst (λ (n : Next). FitsNext n running.request) here fits.before) is

-- ---- a visit, which waits or ends

visit_after : (result : Turn) (hand : Hand) (running after : Running) (told : ShownCall) → (result ≢ turn.Moves)
    → (result ≡ turn.Waits → after ≡ running) → IsShownCallOf running told → ShowsAfter result (reserved.Hand hand) after (shown told after)
visit_after turn.Moves hand running after told ends waits is = absurd (ends refl)
visit_after turn.Waits hand running after told ends waits is =
    record { shown = refl; request = subst (λ (x : Running). IsShownCallOf x told) (sym (waits refl)) is; plan = tt; place = tt }
visit_after turn.Ends hand running after told ends waits is = tt

pub turns_visit : (actor : ℕ) (shared : Shared) (hand : Hand) (running : Running) (r : machine.Running) (result : Turn) (after : Running)
    → running.next ≡ next.Visit → ShowsCall (reserved.Hand hand) running r → (result ≢ turn.Moves) → (result ≡ turn.Waits → after ≡ running)
    → TurnsAlone next.Visit actor shared hand running result shared hand after
    → IsTurn actor shared (reserved.Hand hand) r result shared (reserved.Hand hand) after
turns_visit actor shared hand running r result after here shows ends waits =
    turned next.Visit actor shared hand running r result shared hand after here shows
    (λ told is. visit_after result hand running after told ends waits is)

-- an empty hand is that of the call
pub visit_any : (h empty : machine.HandState) (by : Bool → machine.HandState → machine.Turn) (result : Turn)
    (answer : Result Answer Fault) (s : machine.Shared) (r : machine.Running) → h ≡ empty
    → IsEither (λ granted. by granted empty) (turn_of result answer s empty r)
    → (granted : Bool) × (by granted h ≡ turn_of result answer s h r)
visit_any h empty by result answer s r same is =
    subst (λ (x : machine.HandState). (granted : Bool) × (by granted x ≡ turn_of result answer s x r)) (sym same)
    (either (λ granted. by granted empty) (turn_of result answer s empty r) is)
