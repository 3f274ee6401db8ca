-- Whatever events come but drops, what is deferred, and picked and not yet answered for, falls by what
-- drains are answered.
use Rattle.std.proofs.Common.{◌≡◌, ℕ, suc, ◌+◌, ◌<◌, ◌≤◌, ◌++◌, ◌∙◌, Bool, true, false, List, [], ◌∷◌, length, nat_lt, Option, Some, None, ap, arith, refl, set, slice_index_or, sym}
use Rattle.std.specs.List.{sum_by}
use Rattle.std.proofs.lemmas.Bool.{ltb-true, true≢false}
use Rattle.std.proofs.lemmas.List.Sums.{sum_by-cons, sum_by-set}
use Rattle.nv_base.specs.declared.fault.Fault.{Fault}
use Rattle.nv_base.specs.declared.fault.Fault.TheVariants.{NoActor}
use Rattle.nv_book.specs.declared.record.Record.{Record}
use Rattle.nv_calls.specs.declared.call.Call.{Call}
use Rattle.nv_calls.specs.declared.call.Call.TheVariants as call
use Rattle.nv_calls.specs.declared.snapshot_or_cleaner_call.SnapshotOrCleanerCall.TheVariants as on
use Rattle.nv_machine.specs.Needed.{AreNoDrops, IsAtRest, IsNoDrop, count_in, drained, is_drop, told_in, told_to, told_to_call}
use Rattle.nv_machine.specs.Sequence.{beginning, begun, first_clean, locking, slots_on, started}
use Rattle.nv_machine.specs.Step.{after, go_step, start_step, step, turn, turned}
use Rattle.nv_machine.specs.World.{Actor, Answers, Auto, Ends, Event, Fast, Go, SnapshotOrCleaner, SnapshotOrCleanerStep, Manner, Moves, Refused, Running, Start, Thorough, Turn, Waits, World, actor_at, idle, Shared}
use Rattle.nv_machine.proofs.FirstSteps.{clean_by}
use Rattle.nv_machine.proofs.DrainSteps.{OnDeferred, drops_at, kind_owed, owed_at, owed_same, told_few}
use Rattle.nv_machine.proofs.OverEvents.{begun_at, set_begun, set_one, with_call}
use Rattle.nv_machine.proofs.LoopSteps.{locking_on}

-- ---- a world

abbrev owed_to_call : Option Running → ℕ
owed_to_call None = 0
owed_to_call (Some r) = owed_at r.next r.ending

abbrev owed_to : Actor → ℕ
owed_to actor = owed_to_call actor.running

-- what is deferred, and what calls have picked and are yet to be answered
abbrev left_in : World → ℕ
left_in w = length w.shared.book.deferred + sum_by owed_to w.actors

abbrev drops_by : Option Running → Bool
drops_by None = false
drops_by (Some r) = drops_at r.next

abbrev NoneDrops : World → Type 0
NoneDrops w = (actor : ℕ) → drops_by (actor_at w actor).running ≡ false

owed_change : (w : World) (actor : ℕ) (x : Actor) → actor < length w.actors
    → sum_by owed_to (set w.actors actor x) + owed_to (actor_at w actor) ≡ sum_by owed_to w.actors + owed_to x
owed_change w actor x there = sum_by-set owed_to w.actors actor x idle there

-- ---- one event

told_nothing : (running : Option Running) (fault : Fault) → told_to_call running (Refused fault) ≤ 0
told_nothing None fault = omega arith
told_nothing (Some r) fault = told_few r.call 0

turned_owes : (t : Turn) (actor : ℕ) (w : World) (r : Running) → actor < length w.actors → (actor_at w actor).running ≡ Some r
    → OnDeferred (length w.shared.book.deferred + owed_at r.next r.ending) r.call t
    → left_in (turned t actor w).world + told_to r.call (count_in (turned t actor w).reply) ≤ left_in w
turned_owes (Moves s h q) actor w r there is on =
    let own = ap owed_to_call is in
    let change = owed_change w actor (record { hand = h; running = Some q }) there in
    let few = on.0 in
    omega (arith, few, own, change, told_few r.call 0)
turned_owes Waits actor w r there is on = omega (arith, told_few r.call 0)
turned_owes (Ends result s h) actor w r there is on =
    let own = ap owed_to_call is in
    let change = owed_change w actor (record { hand = h; running = None }) there in
    omega (arith, on, own, change)

abbrev DropsNone : ℕ → Shared → Actor → Type 0
DropsNone b s x = drops_by x.running ≡ false

turned_drops : (most : ℕ) (c : Call) (t : Turn) (actor : ℕ) (w : World) → actor < length w.actors → OnDeferred most c t → NoneDrops w
    → NoneDrops (turned t actor w).world
turned_drops most c (Moves s h q) actor w there on none =
    set_one DropsNone w actor (with_call h (Some q)) s there on.1 (λ b ne. none b)
turned_drops most c Waits actor w there on none = none
turned_drops most c (Ends result s h) actor w there on none =
    set_one DropsNone w actor (with_call h None) s there refl (λ b ne. none b)

-- what an event leaves, and how much drains are told by it
record IsLess (w v : World) (told : ℕ) : Type 0 where
  less : left_in v + told ≤ left_in w
  none : NoneDrops v

go_less : (b : Bool) (running : Option Running) (w : World) (actor : ℕ) (granted : Bool) → nat_lt actor (length w.actors) ≡ b
    → (actor_at w actor).running ≡ running → NoneDrops w
    → IsLess w (go_step b running actor granted w).world (told_to_call running (go_step b running actor granted w).reply)
go_less false running w actor granted there is none = record { less = omega (arith, told_nothing running NoActor); none = none }
go_less true None w actor granted there is none = record { less = omega arith; none = none }
go_less true (Some r) w actor granted there is none =
    let inside = ltb-true actor (length w.actors) there in
    let t = turn w.numbers.block actor granted w.shared (actor_at w actor).hand r in
    let on = kind_owed r.next w.numbers.block actor granted w.shared (actor_at w actor).hand r (sym (ap drops_by is) ∙ none actor) in
    record {
      less = turned_owes t actor w r inside is on;
      none = turned_drops (length w.shared.book.deferred + owed_at r.next r.ending) r.call t actor w inside on none;
    }

-- a call that starts is owed nothing, and drops nothing unless it is a drop
record IsFirst (r : Running) : Type 0 where
  owed : owed_at r.next r.ending ≡ 0
  none : drops_at r.next ≡ false

locks_first : (slots : List ℕ) → (owed_at (locking 0 slots) Answers ≡ 0) × (drops_at (locking 0 slots) ≡ false)
locks_first slots = owed_same (locking 0 slots) Answers (locking_on 0 slots)

clean_first : (w : World) (c : Call) (manner : Manner) (ino : ℕ) → let step = first_clean (length w.shared.cells) manner ino in
    IsFirst (started c (SnapshotOrCleaner step) (slots_on step))
clean_first w c = clean_by (λ (step : SnapshotOrCleanerStep). IsFirst (started c (SnapshotOrCleaner step) (slots_on step)))
    (length w.shared.cells) (λ manner ino inside. record { owed = refl; none = refl }) (λ manner. record { owed = refl; none = refl })

begun_first : (w : World) (c : Call) → is_drop c ≡ false → IsFirst (begun (beginning c) w.shared c)
begun_first w (call.Write file offset text) apart = let first = locks_first _ in record { owed = first.0; none = first.1 }
begun_first w (call.Size file size) apart = let first = locks_first _ in record { owed = first.0; none = first.1 }
begun_first w (call.Mode handle mode) apart = let first = locks_first _ in record { owed = first.0; none = first.1 }
begun_first w (call.SnapshotOrCleaner (on.Drop snapshot)) apart = absurd (true≢false apart)
begun_first w (call.SnapshotOrCleaner (on.Fast ino)) apart = clean_first w (call.SnapshotOrCleaner (on.Fast ino)) Fast ino
begun_first w (call.SnapshotOrCleaner (on.Thorough ino)) apart = clean_first w (call.SnapshotOrCleaner (on.Thorough ino)) Thorough ino
begun_first w (call.SnapshotOrCleaner (on.Auto ino)) apart = clean_first w (call.SnapshotOrCleaner (on.Auto ino)) Auto ino
begun_first w other apart = record { owed = refl; none = refl }

start_less : (b : Bool) (running : Option Running) (w : World) (actor : ℕ) (c : Call) → nat_lt actor (length w.actors) ≡ b
    → (actor_at w actor).running ≡ running → is_drop c ≡ false → NoneDrops w → IsLess w (start_step b running actor c w).world 0
start_less false running w actor c there is apart none = record { less = omega arith; none = none }
start_less true (Some r) w actor c there is apart none = record { less = omega arith; none = none }
start_less true None w actor c there is apart none =
    let inside = ltb-true actor (length w.actors) there in
    let first : IsFirst (begun (beginning c) w.shared c) = begun_first w c apart in
    let own = ap owed_to_call is in
    let owed = first.owed in
    let change = owed_change w actor (begun_at w actor c) inside in
    record { less = omega (arith, own, owed, change); none = set_begun DropsNone w actor c inside first.none none }

event_less : (w : World) (e : Event) → IsNoDrop e → NoneDrops w → IsLess w (step w e).world (told_in w e)
event_less w (Start actor c) apart none =
    start_less (nat_lt actor (length w.actors)) (actor_at w actor).running w actor c refl refl apart none
event_less w (Go actor granted) apart none =
    go_less (nat_lt actor (length w.actors)) (actor_at w actor).running w actor granted refl refl none

-- ---- events

events_less : (events : List Event) (w : World) → AreNoDrops events → NoneDrops w → left_in (after w events) + drained w events ≤ left_in w
events_less [] w apart none = omega arith
events_less (e ∷ events) w apart none =
    let one = event_less w e apart.0 none in
    let less = one.less in
    let rest = events_less events (step w e).world apart.1 one.none in
    omega (arith, less, rest)

none_owed : (xs : List Actor) → ((b : ℕ) → (slice_index_or xs b idle).running ≡ None) → sum_by owed_to xs ≡ 0
none_owed [] at_rest = refl
none_owed (x ∷ xs) at_rest =
    let first = ap owed_to_call (at_rest 0) in
    let rest = none_owed xs (λ b. at_rest (suc b)) in
    omega (arith, sum_by-cons owed_to x xs, first, rest)

no_records : (ds : List Record) → length ds ≤ 0 → ds ≡ []
no_records [] few = refl
no_records (d ∷ ds) few = absurd (omega (arith, few))

pub after_both : (before events : List Event) (w : World) → after w (before ++ events) ≡ after (after w before) events
after_both [] events w = refl
after_both (e ∷ before) events w = after_both before events (step w e).world

-- ---- the law

pub none_left : (start : World) (before events : List Event) → IsAtRest (after start before) → AreNoDrops events
    → length (after start before).shared.book.deferred ≤ drained (after start before) events
    → (after start (before ++ events)).shared.book.deferred ≡ []
none_left start before events at_rest apart enough =
    let w = after start before in
    let less = events_less events w apart (λ b. ap drops_by (at_rest b)) in
    let owed = none_owed w.actors at_rest in
    ap (λ (v : World). v.shared.book.deferred) (after_both before events start)
    ∙ no_records (after w events).shared.book.deferred (omega (arith, less, owed, enough))
