-- How many inodes the pool is of, and how many actors there are, whatever events come.
use Rattle.std.proofs.Common.{List, length, refl, ℕ, ◌∙◌, ◌≡◌}
use Rattle.nv_base.specs.declared.geometry.GeometryNumbers.{GeometryNumbers}
use Rattle.nv_book.specs.declared.record.Record.{Record}
use Rattle.nv_machine.specs.Starts.{IsStart}
use Rattle.nv_machine.specs.Step.{after, step}
use Rattle.nv_machine.specs.World.{ReturnNumber, Event, HandState, Make, Next, Number, Running, Shared, SnapshotOrCleanerStep, SnapshotOrCleaner, World, actor_at}
use Rattle.nv_machine.proofs.StepWork.{by_back, by_number, work, snapshot_or_cleaner_work}
use Rattle.nv_machine.proofs.OverEvents.{event_actors, event_shared, events_by}
use Rattle.nv_machine.proofs.WorkKeeps.{turn_keeps}

-- a world is of these numbers of inodes and actors
pub record IsOfNumbers (g : GeometryNumbers) (w : World) : Type 0 where
  pub pool : w.shared.pool.inodes ≡ g.inodes
  pub actors : length w.actors ≡ g.actors

-- ---- the pool

snapshot_pool : (step : SnapshotOrCleanerStep) (actor : ℕ) (s : Shared) (h : HandState)
    → (snapshot_or_cleaner_work step actor s h).shared.pool.inodes ≡ s.pool.inodes
snapshot_pool Make actor s h = refl
snapshot_pool other actor s h = refl

work_pool : (k : Next) (block actor : ℕ) (s : Shared) (h : HandState) (r : Running)
    → (work k block actor s h r).shared.pool.inodes ≡ s.pool.inodes
work_pool Number block actor s h r = by_number (λ t g. t.pool.inodes ≡ s.pool.inodes) s h (λ numbers ino. refl)
work_pool ReturnNumber block actor s h r = by_back (λ t g. t.pool.inodes ≡ s.pool.inodes) s h (λ numbers ino. refl)
work_pool (SnapshotOrCleaner step) block actor s h r = snapshot_pool step actor s h
work_pool other block actor s h r = refl

-- ---- events

event_pool : (w : World) (e : Event) → (step w e).world.shared.pool.inodes ≡ w.shared.pool.inodes
event_pool w e = event_shared (λ (s : Shared). s.pool.inodes ≡ w.shared.pool.inodes) w refl e (λ actor granted r there is.
    turn_keeps (λ t held. t.pool.inodes ≡ w.shared.pool.inodes) r.next w.numbers.block actor granted w.shared (actor_at w actor).hand r
    refl (work_pool r.next w.numbers.block actor w.shared (actor_at w actor).hand r))

pub of_numbers : (g : GeometryNumbers) (start : World) (records : List Record) (events : List Event) → IsStart g start records
    → IsOfNumbers g (after start events)
of_numbers g start records events is_start =
    events_by (λ (v : World). Unit {0}) (IsOfNumbers g)
    (λ v e known is. record { pool = event_pool v e ∙ is.pool; actors = event_actors v e ∙ is.actors }) events start (λ before. tt)
    (record { pool = is_start.inodes; actors = is_start.actors })
