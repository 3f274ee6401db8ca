-- What decides how a call is answered, and what has been decided of a call since it was started.
use Rattle.std.specs.Prelude.{ℕ, ◌==◌, ◌&&◌, Bool, true, false, if◌then◌else◌, not, List, [], ◌∷◌, ◌++◌, Option, Some, None, Ok, Err}
use Rattle.nv_base.specs.declared.numbers.Handle.{Handle}
use Rattle.nv_entry.specs.declared.node.NodeCopy.{NodeCopy}
use Rattle.nv_calls.specs.AllCalls.{answer, effect, looked, refusal}
use Rattle.nv_calls.specs.Plain.{Change, node_in}
use Rattle.nv_calls.specs.Refusals.{Check as Tests}
use Rattle.nv_calls.specs.declared.answer.Answer.{Answer}
use Rattle.nv_calls.specs.declared.call.Call.{Call}
use Rattle.nv_calls.specs.declared.call.Call.TheVariants as call
use Rattle.nv_machine.specs.PlainRun.{plain_change, keeps_nodes}
use Rattle.nv_machine.specs.Reads.{written_slots}
use Rattle.nv_machine.specs.Settled.{settled_nodes}
use Rattle.nv_machine.specs.Step.{same_looked, step, turn}
use Rattle.nv_machine.specs.World.{Check, Ends, Event, Go, Moves, Next, Reply, Running, Shared, Start, Started, Turn, Visit, Waits, World, actor_at}

-- ---- what decides

-- the tests are passed
abbrev pub is_pass : Tests → Bool
is_pass (Ok passed) = true
is_pass (Err fault) = false

-- nothing is changed
abbrev pub is_no_change : List Change → Bool
is_no_change [] = true
is_no_change (change ∷ changes) = false

-- over these nodes a call is not refused, its names are bound as its looks found them, and it has nothing to change
abbrev pub has_nothing_to_do : ℕ → (Handle → Option NodeCopy) → Running → Bool
has_nothing_to_do block nodes r =
    is_pass (refusal block nodes r.call) && same_looked (looked nodes r.call) r.looked && is_no_change (effect nodes r.made r.call)

-- the turn is the last of its call, and answers it
abbrev pub is_answered : Turn → Bool
is_answered (Moves s h r) = false
is_answered Waits = false
is_answered (Ends (Ok told) s h) = true
is_answered (Ends (Err fault) s h) = false

-- a call on snapshots, of which the laws of snapshots tell the answer
abbrev pub is_snapshot_or_cleaner : Call → Bool
is_snapshot_or_cleaner (call.SnapshotOrCleaner c) = true
is_snapshot_or_cleaner other = false

-- WHETHER A STEP DECIDES that its call is answered, by the nodes of the plain world: a commit point does; a check where
-- the call has nothing to do; and a visit that is answered, and that the plain world does not refuse
abbrev pub decides : Next → ℕ → Shared → Running → Turn → Bool
decides Check block s r t = has_nothing_to_do block (node_in (settled_nodes s)) r
decides Visit block s r t = is_pass (refusal block (node_in (settled_nodes s)) r.call) && is_answered t
decides other block s r t = not (keeps_nodes (plain_change other (written_slots r) t))

-- the plain world's answer there, where a step decides
abbrev pub decision : Next → ℕ → Shared → Running → Turn → List Answer
decision next block s r t = if decides next block s r t then answer (settled_nodes s) r.made r.call ∷ [] else []

-- ---- over events

-- what an actor's next step decides, if anything
abbrev pub decision_of : Option Running → World → ℕ → Bool → List Answer
decision_of None w actor granted = []
decision_of (Some r) w actor granted =
    decision r.next w.numbers.block w.shared r (turn w.numbers.block actor granted w.shared (actor_at w actor).hand r)

-- of a call that is started now, nothing was decided before
abbrev pub unless_started : Reply → List Answer → List Answer
unless_started Started before = []
unless_started other before = before

-- the answers that were decided since an actor's call was started, with what this event decides
abbrev pub decided_in : ℕ → World → Event → List Answer → List Answer
decided_in actor w (Start other c) before =
    if other == actor then unless_started (step w (Start other c)).reply before else before
decided_in actor w (Go other granted) before =
    if other == actor then decision_of (actor_at w actor).running w actor granted ++ before else before

-- WHAT HAS BEEN DECIDED of a call since its start, the last one first: the plain world's answers
-- at the steps that decide it. These are a commit point, a `visit` that is answered, or a `check`
-- that passes with nothing to change.
abbrev pub decided : ℕ → World → List Event → List Answer → List Answer
decided actor w [] before = before
decided actor w (e ∷ events) before = decided actor (step w e).world events (decided_in actor w e before)
