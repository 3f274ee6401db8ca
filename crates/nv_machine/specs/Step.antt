-- The step of an actor's call, and events.
pub use Rattle.nv_calls.specs.Looks.{handle_at}
pub use Rattle.nv_calls.specs.Checked.{same_found, same_looked}
pub use Rattle.nv_calls.specs.Views.{visit_grows}
use Rattle.std.specs.Prelude.{ℕ, ◌%◌, ◌||◌, Bool, true, false, is_some, not, nat_le, nat_lt, List, [], ◌∷◌, length, Option, Some, None, Result, Ok, Err, slice_set}
use Rattle.nv_calls.specs.Locked.{handles}
use Rattle.nv_base.specs.declared.fault.Fault.{Fault}
use Rattle.nv_base.specs.declared.fault.Fault.TheVariants.{ActorBusy, ActorIdle, NoActor}
use Rattle.nv_base.specs.declared.limits.TheConstants.{NUMBER}
use Rattle.nv_base.specs.declared.numbers.Handle.{Handle}
use Rattle.nv_calls.specs.AllCalls.{answer, blocks_wanted, early, effect, look_refusal, looked, refusal}
use Rattle.nv_calls.specs.declared.answer.Answer.{Answer}
use Rattle.nv_calls.specs.declared.call.Call.{Call}
use Rattle.nv_machine.specs.Kinds.{append_turn, asked_list, return_number_turn, check_ending, check_turn, close_turn, enter_turn, first_killed, give_turn, leave_turn, lock_turn, look_tests, look_turn, number_turn, open_turn, publish_turn, ready_turn, retire_turn, seen_at, take_blocks_turn, take_log_pages_turn, unlock_turn, visit_turn, wants_room}
use Rattle.nv_machine.specs.Reads.{copies, has_last_page, nodes, pages_needed, pages_wanted, plan_by, slot_at, written_slots}
use Rattle.nv_machine.specs.Sequence.{Beginning, Looks, Locks, Numbers, Maintains, Visits, beginning, begun, directories, nothing_looked}
use Rattle.nv_machine.specs.SnapshotOrCleaner.{snapshot_or_cleaner_turn}
use Rattle.nv_machine.specs.World.{Append, ReturnNumber, Check, Close, Done, Ending, Ends, Enter, Event, Give, Go, HandState, Leave, Lock, Look, Moved, Moves, Next, Number, Open, Publish, Ready, Refused, Reply, Retire, Running, Shared, SnapshotOrCleaner, Start, Started, TakeBlocks, TakeLogPages, Turn, Unlock, Visit, Waiting, Waits, World, actor_at, cell_at, owner_at}

-- ---- what decides

-- the call has the number that it needs: a new inode's is in the hand
abbrev pub is_numbered : Beginning → Option ℕ → Bool
is_numbered Numbers number = is_some number
is_numbered Looks number = true
is_numbered Locks number = true
is_numbered Visits number = true
is_numbered (Maintains what) number = true

-- a new inode's handle: the number in the hand, with its slot's generation
abbrev pub made_in : Shared → Option ℕ → Handle → Handle
made_in s None made = made
made_in s (Some ino) made = record { ino = ino; generation = (cell_at s ino).generation }

-- a running call with the handle of its new inode, if a number is in the hand
abbrev pub with_made : Shared → HandState → Running → Running
with_made s h r = record r { made = made_in s h.ino r.made }

-- how the check of a call ends it, if it does: by the tests of the call, or since it makes an
-- inode and has no number
abbrev pub ending_at : ℕ → Shared → HandState → Running → Option Ending
ending_at block s h r =
    check_ending (early (copies s) r.call) (same_looked (looked (copies s) r.call) r.looked) (refusal block (copies s) r.call)
    (is_numbered (beginning r.call) h.ino) (effect (copies s) (made_in s h.ino r.made) r.call)

-- a check takes memory where the call takes blocks: data blocks, or else log pages
abbrev pub check_grows : ℕ → Shared → HandState → Running → Bool
check_grows block s h r =
    wants_room (blocks_wanted block (copies s) (has_last_page block s r.call) r.call)
    (pages_wanted s r.slots (plan_by block s h (with_made s h r)))

-- ---- THE STEP

-- THE STEP, with one function a kind in `Kinds.antt` of this crate: what is shared, the hand and
-- the call after the step; or that it waits; or, at the last step, what the call is answered. What
-- decides a step is an argument of its function.
abbrev pub kind_turn : Next → ℕ → ℕ → Bool → Shared → HandState → Running → Turn
kind_turn Number block actor granted s h r = number_turn s.pool.numbers s h r
kind_turn (Look place) block actor granted s h r =
    look_turn (owner_at s (handle_at (directories r.call) place).ino) (look_tests place (look_refusal (copies s) r.call))
    (seen_at (directories r.call) place (looked (copies s) r.call) r.looked) place s h r
kind_turn (Lock place) block actor granted s h r = lock_turn (owner_at s (slot_at r.slots place)) actor place s h r
kind_turn Check block actor granted s h r =
    check_turn (ending_at block s h r) granted (blocks_wanted block (copies s) (has_last_page block s r.call) r.call) block s h
    (with_made s h r)
kind_turn (TakeBlocks asked) block actor granted s h r = take_blocks_turn (asked_list (length s.lists) actor asked) asked block s h r
kind_turn (TakeLogPages asked) block actor granted s h r = take_log_pages_turn (asked_list (length s.lists) actor asked) asked s h r
kind_turn Ready block actor granted s h r = ready_turn granted block s h r
kind_turn Enter block actor granted s h r = enter_turn s.holder (nat_le NUMBER s.book.commit) granted actor s h r
kind_turn (Append place) block actor granted s h r =
    append_turn (slot_at (written_slots r) place) (pages_needed s r.plan (slot_at (written_slots r) place)) place s h r
kind_turn Open block actor granted s h r = open_turn (actor % length s.lists) s h r
kind_turn (Publish place) block actor granted s h r = publish_turn (slot_at (written_slots r) place) place s h r
kind_turn Close block actor granted s h r = close_turn (actor % length s.lists) s h r
kind_turn (Retire place) block actor granted s h r = retire_turn (slot_at (written_slots r) place) (first_killed h.killed) place s h r
kind_turn Leave block actor granted s h r = leave_turn s h r
kind_turn (Unlock place) block actor granted s h r = unlock_turn place s h r
kind_turn (Give cpu) block actor granted s h r = give_turn cpu s h r
kind_turn ReturnNumber block actor granted s h r = return_number_turn h.ino s h r
kind_turn Visit block actor granted s h r =
    visit_turn (owner_at s (handle_at (handles nothing_looked r.call) 0).ino) (refusal block (copies s) r.call)
    (granted || not (visit_grows r.call)) (answer (nodes s) r.made r.call) s h r
kind_turn (SnapshotOrCleaner step) block actor granted s h r = snapshot_or_cleaner_turn step actor granted s h r

-- the turn of a running call's next step
abbrev pub turn : ℕ → ℕ → Bool → Shared → HandState → Running → Turn
turn block actor granted s h r = kind_turn r.next block actor granted s h r

-- ---- events

-- a world with this shared, and with this hand and call of an actor
abbrev pub changed : Shared → HandState → Option Running → ℕ → World → World
changed s h running actor w = record w { shared = s; actors = slice_set w.actors actor (record { hand = h; running = running }) }

-- what an event leads to
pub record Step : Type 0 where
  -- what the actor is replied
  pub reply : Reply
  -- the world after the event
  pub world : World

-- a reply, and the world as it was
abbrev pub stays : Reply → World → Step
stays reply w = record { reply = reply; world = w }

-- the reply of a last step
abbrev pub reply_of : Result Answer Fault → Reply
reply_of (Ok found) = Done found
reply_of (Err fault) = Refused fault

-- reply and world of a turn
abbrev pub turned : Turn → ℕ → World → Step
turned (Moves s h r) actor w = record { reply = Moved; world = changed s h (Some r) actor w }
turned Waits actor w = stays Waiting w
turned (Ends result s h) actor w = record { reply = reply_of result; world = changed s h None actor w }

-- a start changes its actor alone
abbrev pub start_step : Bool → Option Running → ℕ → Call → World → Step
start_step false running actor c w = stays (Refused NoActor) w
start_step true (Some r) actor c w = stays (Refused ActorBusy) w
start_step true None actor c w =
    record { reply = Started; world = changed w.shared (actor_at w actor).hand (Some (begun (beginning c) w.shared c)) actor w }

-- a Go: refused for its actor, or one step of its call
abbrev pub go_step : Bool → Option Running → ℕ → Bool → World → Step
go_step false running actor granted w = stays (Refused NoActor) w
go_step true None actor granted w = stays (Refused ActorIdle) w
go_step true (Some r) actor granted w = turned (turn w.numbers.block actor granted w.shared (actor_at w actor).hand r) actor w

-- ONE EVENT, a start or a `Go` of an actor: the reply, and the world after it
abbrev pub step : World → Event → Step
step w (Start actor c) = start_step (nat_lt actor (length w.actors)) (actor_at w actor).running actor c w
step w (Go actor granted) = go_step (nat_lt actor (length w.actors)) (actor_at w actor).running actor granted w

-- several events, one after another: the replies, and the world at the end
abbrev pub replies : World → List Event → List Reply
replies w [] = []
replies w (e ∷ events) = (step w e).reply ∷ replies (step w e).world events

-- the world after events, one after another
abbrev pub after : World → List Event → World
after w [] = w
after w (e ∷ events) = after (step w e).world events
