-- Which record a call has picked after a step, and that it has killed parts in its hand within its commit alone.
use Rattle.std.proofs.Common.{◌≡◌, ℕ, zero, suc, Bool, true, false, List, [], ◌∷◌, refl, length}
use Rattle.std.proofs.lemmas.Bool.{false≢true, true≢false}
use Rattle.nv_base.specs.declared.geometry.GeometryNumbers.{GeometryNumbers}
use Rattle.nv_book.specs.declared.record.Record.{Record}
use Rattle.nv_calls.specs.declared.call.Call.{Call}
use Rattle.nv_calls.specs.declared.call.Call.TheVariants as call
use Rattle.nv_calls.specs.declared.snapshot_or_cleaner_call.SnapshotOrCleanerCall.{SnapshotOrCleanerCall}
use Rattle.nv_reader.specs.Walk as walk
use Rattle.nv_machine.specs.Hands.{HandAt}
use Rattle.nv_machine.specs.Held.{picked_at, picked_on}
use Rattle.nv_machine.specs.Locks.{commits_at}
use Rattle.nv_machine.specs.Sequence.{beginning, begun, first_step, locking}
use Rattle.nv_machine.specs.SnapshotOrCleaner.{copies_at, first_showing, seen_on, show_or_unpin, visited}
use Rattle.nv_machine.specs.Step.{kind_turn}
use Rattle.nv_machine.specs.World.{Append, ReturnNumber, Close, Ends, Give, HandState, Leave, LockPicked, Look, Moves, Next, Number, Open, Pick, Pin, Publish, Retire, Running, Shared, Show, Showing, SnapshotOrCleanerStep, SnapshotOrCleaner, Turn, Unlock, Visit, Waits, LockCleaned, Fresh, Unlink, Compact}
use Rattle.nv_machine.proofs.NextSteps.{IsNext, files_next, snapshots_next}
use Rattle.nv_machine.proofs.LoopSteps.{is_on_files, locking_on}
use Rattle.nv_machine.proofs.SnapshotOrCleanerWalk.{goes_next, next_on, LeadsTo}
use Rattle.nv_machine.proofs.FirstSteps.{first_by}
use Rattle.nv_machine.proofs.HandsInCommits.{none_in}

-- the record that the call has picked after a turn
abbrev pub picked_after : Turn → List Record
picked_after (Moves s h q) = picked_at q.next
picked_after Waits = []
picked_after (Ends result s h) = []

abbrev HasNone : Next → Type 0
HasNone k = picked_at k ≡ []

none_next : (t : Turn) → IsNext HasNone t → picked_after t ≡ []
none_next (Moves s h q) e = e
none_next Waits e = refl
none_next (Ends result s h) e = refl

pub none_on : (k : Next) → is_on_files k ≡ true → picked_at k ≡ []
none_on (SnapshotOrCleaner step) is = absurd (false≢true is)
none_on other is = refl

none_showing : (left : ℕ) (visits : List walk.Visit) (snapshot : ℕ) (showing : Showing)
    → picked_on (show_or_unpin left visits snapshot showing) ≡ []
none_showing zero visits snapshot showing = refl
none_showing (suc left) [] snapshot showing = refl
none_showing (suc left) (visit ∷ visits) snapshot showing = refl

-- ---- every kind but those that pick, and those of a record that is picked

abbrev pub picks : Next → Bool
picks (SnapshotOrCleaner (Pick draining)) = true
picks (SnapshotOrCleaner (LockPicked draining picked)) = true
picks other = false

pub none_goes : (step : SnapshotOrCleanerStep) (s : Shared) → picks (SnapshotOrCleaner step) ≡ false → goes_next step ≡ true
    → picked_on (next_on step s) ≡ []
none_goes (Pin snapshot) s e on = none_showing (first_showing s).left (first_showing s).visits snapshot (first_showing s)
none_goes (Show snapshot showing) s e on = none_showing _ _ snapshot (seen_on (copies_at s snapshot (visited showing.visits)) showing)
none_goes (Pick draining) s e on = absurd (true≢false e)
none_goes (LockPicked draining picked) s e on = absurd (true≢false e)
none_goes (LockCleaned manner ino) s e on = refl
none_goes other s e on = absurd (false≢true on)

-- a cleaner picks none
pub none_leads : (step next : SnapshotOrCleanerStep) → LeadsTo step next → picked_on next ≡ []
none_leads step (Fresh ino asked wanted) leads = refl
none_leads step (Unlink ino) leads = refl
none_leads step (Compact ino) leads = refl
none_leads step other leads = absurd (false≢true leads.to)

pub none_picked : (k : Next) (block actor : ℕ) (granted : Bool) (s : Shared) (h : HandState) (r : Running) → picks k ≡ false
    → picked_after (kind_turn k block actor granted s h r) ≡ []
none_picked (SnapshotOrCleaner step) block actor granted s h r e =
    none_next (kind_turn (SnapshotOrCleaner step) block actor granted s h r)
    (snapshots_next HasNone none_on (λ draining. refl) step actor granted s h r
    (λ on clear. none_goes step s e on) (λ snapshot showing on. refl) (none_leads step))
none_picked other block actor granted s h r e =
    none_next (kind_turn other block actor granted s h r) (files_next HasNone none_on (λ draining. refl) other block actor granted s h r refl)

-- ---- a call that starts has picked none

begun_locks : (slots : List ℕ) → picked_at (locking 0 slots) ≡ []
begun_locks slots = none_on _ (locking_on 0 slots)

begun_first : (slots : ℕ) (what : SnapshotOrCleanerCall) → picked_on (first_step slots what) ≡ []
begun_first slots = first_by (λ (step : SnapshotOrCleanerStep). picked_on step ≡ []) slots refl (λ snapshot. refl) (λ snapshot. refl)
    (λ count. refl) (λ manner ino inside. refl) (λ manner. refl)

pub begun_none : (s : Shared) (c : Call) → picked_at (begun (beginning c) s c).next ≡ []
begun_none s (call.Write file offset text) = begun_locks _
begun_none s (call.Size file size) = begun_locks _
begun_none s (call.Mode handle mode) = begun_locks _
begun_none s (call.SnapshotOrCleaner what) = begun_first (length s.cells) what
begun_none s other = refl

-- ---- killed parts in the hand

-- outside a commit there are none
pub none_killed : (g : GeometryNumbers) (k : Next) (h : HandState) (r : Running) → commits_at k ≡ false → HandAt g k h r → h.killed ≡ []
none_killed g Number h r e at = rw at.0 refl
none_killed g (Look place) h r e at = rw at.0 refl
none_killed g (Append place) h r e at = absurd (true≢false e)
none_killed g Open h r e at = absurd (true≢false e)
none_killed g (Publish place) h r e at = absurd (true≢false e)
none_killed g Close h r e at = absurd (true≢false e)
none_killed g (Retire place) h r e at = absurd (true≢false e)
none_killed g Leave h r e at = absurd (true≢false e)
none_killed g (Unlock place) h r e at = at.0
none_killed g (Give cpu) h r e at = at.0
none_killed g ReturnNumber h r e at = at.0
none_killed g Visit h r e at = rw at refl
none_killed g (SnapshotOrCleaner step) h r e at = none_in step h at
none_killed g other h r e at = at.killed
