-- A snapshot has a pin for each show of it that is under way.
use Rattle.nv_book.specs.declared.record.Record.{Record}
use Rattle.std.proofs.Common.{◌≡◌, ℕ, suc, ◌+◌, ◌<◌, ◌∙◌, Bool, false, List, [], ◌∷◌, length, Option, Some, None, ap, arith, refl, set, sym, subst}
use Rattle.std.proofs.lemmas.List.Sums.{sum_by-cons, sum_by-set}
use Rattle.std.specs.Prelude.{count_by, slice_index_or}
use Rattle.nv_base.specs.declared.geometry.GeometryNumbers.{GeometryNumbers}
use Rattle.nv_calls.specs.declared.call.Call.{Call}
use Rattle.nv_calls.specs.declared.snapshot_or_cleaner_call.SnapshotOrCleanerCall.{SnapshotOrCleanerCall}
use Rattle.nv_calls.specs.declared.call.Call.TheVariants as call
use Rattle.nv_epoch.specs.SnapList.{pins_of}
use Rattle.nv_machine.specs.Reading.{ArePins, pins_at, pins_by_call, pins_on, shows_of}
use Rattle.nv_machine.specs.Sequence.{beginning, begun, first_step}
use Rattle.nv_machine.specs.Starts.{IsStart}
use Rattle.nv_machine.specs.Step.{after, step, turned}
use Rattle.nv_machine.specs.World.{Actor, Ends, Event, Moves, Running, Shared, Turn, Waits, World, actor_at, idle, SnapshotOrCleanerStep}
use Rattle.nv_machine.proofs.OverEvents.{begun_at, begun_in, event_by, events_by, turn_at, with_call}
use Rattle.nv_machine.proofs.PinSteps.{OnPins, kind_pins, no_pin, one_if, same_fits}
use Rattle.nv_machine.proofs.LoopSteps.{locking_on}
use Rattle.nv_machine.proofs.FirstSteps.{first_by}

-- ---- an actor that changes its call

module _ (snapshot : ℕ) where
  abbrev counted : Actor → ℕ
  counted actor = one_if (pins_by_call snapshot actor.running)

  shows_change : (w : World) (actor : ℕ) (x : Actor) (t : Shared) → actor < length w.actors
      → shows_of snapshot (record w { shared = t; actors = set w.actors actor x })
      + one_if (pins_by_call snapshot (actor_at w actor).running)
      ≡ shows_of snapshot w + one_if (pins_by_call snapshot x.running)
  shows_change w actor x t there = sum_by-set counted w.actors actor x idle there

  -- the snapshot has a pin for each show
  abbrev Pinned : World → Type 0
  Pinned w = ArePins (shows_of snapshot w) (pins_of w.shared.book.snaps snapshot)

  turned_pinned : (t : Turn) (actor : ℕ) (w : World) (r : Running) → actor < length w.actors → (actor_at w actor).running ≡ Some r
      → OnPins snapshot (pins_at snapshot r.next) w.shared.book.snaps t → Pinned w → Pinned (turned t actor w).world
  turned_pinned (Moves s h q) actor w r there is on are =
      let shows : ℕ = shows_of snapshot (record w { shared = s; actors = set w.actors actor (with_call h (Some q)) }) in
      on (shows_of snapshot w) shows
      (ap (λ (o : Option Running). shows + one_if (pins_by_call snapshot o)) (sym is)
      ∙ shows_change w actor (with_call h (Some q)) s there) are
  turned_pinned Waits actor w r there is on are = are
  turned_pinned (Ends result s h) actor w r there is on are =
      let shows : ℕ = shows_of snapshot (record w { shared = s; actors = set w.actors actor (with_call h None) }) in
      on (shows_of snapshot w) shows
      (ap (λ (o : Option Running). shows + one_if (pins_by_call snapshot o)) (sym is)
      ∙ shows_change w actor (with_call h None) s there) are

  -- a call that starts is no show yet
  first_none : (slots : ℕ) (c : SnapshotOrCleanerCall) → pins_on snapshot (first_step slots c) ≡ false
  first_none slots = first_by (λ (step : SnapshotOrCleanerStep). pins_on snapshot step ≡ false) slots refl (λ other. refl) (λ other. refl)
      (λ count. refl) (λ manner ino inside. refl) (λ manner. refl)

  pub begun_none : (c : Call) (s : Shared) → pins_at snapshot (begun (beginning c) s c).next ≡ false
  begun_none (call.Write file offset text) s = no_pin snapshot _ (locking_on 0 _)
  begun_none (call.Size file size) s = no_pin snapshot _ (locking_on 0 _)
  begun_none (call.Mode handle mode) s = no_pin snapshot _ (locking_on 0 _)
  begun_none (call.SnapshotOrCleaner c) s = first_none (length s.cells) c
  begun_none other s = refl

  event_pinned : (w : World) (e : Event) → Pinned w → Pinned (step w e).world
  event_pinned w e are = event_by Pinned w are e
      (λ actor c there is.
      let shows : ℕ = shows_of snapshot (begun_in w actor c) in
      same_fits snapshot false w.shared.book.snaps (shows_of snapshot w) shows
      (ap (λ (o : Option Running). shows + one_if (pins_by_call snapshot o)) (sym is)
      ∙ shows_change w actor (begun_at w actor c) w.shared there
      ∙ ap (λ (b : Bool). shows_of snapshot w + one_if b) (begun_none c w.shared)) are)
      (λ actor granted r there is. turned_pinned (turn_at w actor granted r) actor w r there is
      (kind_pins snapshot r.next w.numbers.block actor granted w.shared (actor_at w actor).hand r) are)

pub no_shows : (snapshot : ℕ) (actors : List Actor) → ((a : ℕ) → slice_index_or actors a idle ≡ idle)
    → count_by (λ (actor : Actor). pins_by_call snapshot actor.running) actors ≡ 0
no_shows snapshot [] none = refl
no_shows snapshot (x ∷ actors) none =
    let own = ap (λ (y : Actor). one_if (pins_by_call snapshot y.running)) (none 0) in
    omega (arith, sum_by-cons (counted snapshot) x actors, own, no_shows snapshot actors (λ a. none (suc a)))

pub pins_of_shows : (g : GeometryNumbers) (start : World) (records : List Record) (events : List Event) (snapshot : ℕ)
    → IsStart g start records
    → ArePins (shows_of snapshot (after start events)) (pins_of (after start events).shared.book.snaps snapshot)
pins_of_shows g start records events snapshot is_start =
    events_by (λ (v : World). Unit {0}) (Pinned snapshot) (λ v e known are. event_pinned snapshot v e are) events start (λ before. tt)
    (subst (λ (n : ℕ). ArePins n (pins_of start.shared.book.snaps snapshot)) (sym (no_shows snapshot start.actors is_start.idle_all))
    (is_start.unpinned snapshot))
