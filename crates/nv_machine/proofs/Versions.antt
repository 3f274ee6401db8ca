-- No cell has seen more commits than there were, whatever events come, since each commit publishes a cell once.
use Rattle.nv_book.specs.declared.record.Record.{Record}
use Rattle.std.proofs.Common.{◌≡◌, ◌≢◌, ℕ, ◌<◌, ◌≤◌, ◌∙◌, Bool, true, List, Option, Some, None, ap, arith, drop, length, refl, subst, sym}
use Rattle.std.proofs.lemmas.Bool.{false≢true}
use Rattle.nv_alloc.specs.Numbers.{has}
use Rattle.nv_base.specs.declared.geometry.GeometryNumbers.{GeometryNumbers}
use Rattle.nv_base.specs.declared.limits.TheConstants.{NUMBER}
use Rattle.nv_cell.specs.Cell.{CellState}
use Rattle.nv_machine.proofs.EveryWorld.{reached}
use Rattle.nv_machine.proofs.LogTails.{same_slot as some_same}
use Rattle.nv_machine.specs.Format.{formatted}
use Rattle.nv_machine.specs.Frame.{IsFramed, Lent, lent}
use Rattle.nv_machine.specs.Locks.{AreLocks, HoldsIts, commits_at}
use Rattle.nv_machine.specs.Order.{CommitsIn, IsInOrder}
use Rattle.nv_machine.specs.Reached.{IsReached}
use Rattle.nv_machine.specs.Reads.{slot_at, written_slots}
use Rattle.nv_machine.specs.Sequence.{beginning}
use Rattle.nv_machine.specs.Starts.{IsStart}
use Rattle.nv_machine.specs.Step.{after, step, turned}
use Rattle.nv_machine.specs.Versions.{AreCounted, AreVersions, HasUnseen, HasUnseenBy, to_publish}
use Rattle.nv_machine.specs.World.{Actor, Ends, Event, HandState, Moves, Next, Publish, Running, Shared, Turn, Waits, World, actor_at, cell_at, owner_at}
use Rattle.nv_machine.proofs.NewWorld.{each_cell}
use Rattle.nv_machine.proofs.OverEvents.{event_by, events_by, set_begun, set_one, turn_at, with_call}
use Rattle.nv_machine.proofs.StepFrames.{framed}
use Rattle.nv_machine.proofs.LogsInOrder.{begun_commits}
use Rattle.nv_machine.proofs.WorkKeeps.{AfterTurn}
use Rattle.nv_machine.proofs.Lists.{has_drop, self}
use Rattle.nv_machine.proofs.LocksHeld.{Before, lent_cell, owner_is}
use Rattle.nv_machine.proofs.LocksOverEvents.{before}
use Rattle.nv_machine.proofs.StartParts.{first_counted}
use Rattle.nv_machine.proofs.VersionSteps.{OnUnseen, publish_held, turn_unseen, turn_versions}

-- ---- other calls: what they have yet to publish is theirs

their_unseen : (a b : ℕ) (s t : Shared) (l : Lent) (running : Option Running) → b ≢ a
    → ((ino : ℕ) → l.cell ≢ Some ino → cell_at t ino ≡ cell_at s ino) → ((ino : ℕ) → l.cell ≡ Some ino → owner_at s ino ≡ Some a)
    → HoldsIts s b running → HasUnseenBy s running → HasUnseenBy t running
their_unseen a b s t l None ne cells own holds yet = tt
their_unseen a b s t l (Some r) ne cells own holds yet = λ e ino there.
    let held = owner_is b (owner_at s ino) (holds.owners ino ∙ publish_held r.next r ino there) in
    subst (λ (c : CellState). c.version < r.commit) (sym (cells ino (λ is. ne (some_same b a (sym held ∙ own ino is))))) (yet e ino there)

abbrev UnseenBy : ℕ → Shared → Actor → Type 0
UnseenBy b s x = HasUnseenBy s x.running

-- ---- events

turned_counted : (t : Turn) (actor : ℕ) (w : World) (l : Lent) → actor < length w.actors → AreLocks w → AreCounted w
    → AfterTurn (λ (u : Shared) (x : HandState). AreVersions u) t → OnUnseen t → IsFramed l w.shared t
    → ((ino : ℕ) → l.cell ≡ Some ino → owner_at w.shared ino ≡ Some actor) → AreCounted (turned t actor w).world
turned_counted (Moves s h r) actor w l there locks counted on mine f own = record {
  versions = on;
  each = set_one UnseenBy w actor (with_call h (Some r)) s there mine
      (λ b ne. their_unseen actor b w.shared s l (actor_at w b).running ne f.cells own (locks.each b) (counted.each b));
}
turned_counted Waits actor w l there locks counted on mine f own = counted
turned_counted (Ends result s h) actor w l there locks counted on mine f own = record {
  versions = on;
  each = set_one UnseenBy w actor (with_call h None) s there tt
      (λ b ne. their_unseen actor b w.shared s l (actor_at w b).running ne f.cells own (locks.each b) (counted.each b));
}

go_counted : (w : World) → AreLocks w → IsInOrder w → AreCounted w → (actor : ℕ) (granted : Bool) (r : Running) → actor < length w.actors
    → (actor_at w actor).running ≡ Some r → AreCounted (turned (turn_at w actor granted r) actor w).world
go_counted w locks order counted actor granted r there is =
    let s = w.shared in
    let h = (actor_at w actor).hand in
    let b = before w actor r locks is in
    let yet : HasUnseen s r = subst (λ (o : Option Running). HasUnseenBy s o) is (counted.each actor) in
    let entered : CommitsIn s (Some r) = subst (λ (o : Option Running). CommitsIn s o) is (order.each actor) in
    turned_counted (turn_at w actor granted r) actor w (lent r.next (length s.lists) actor r) there locks counted
    (turn_versions w.numbers.block actor s h r counted.versions r.next granted b
    (λ c ino there. subst (λ (n : ℕ). (cell_at s ino).version < n) (entered c).commit (yet c ino there)))
    (turn_unseen w.numbers.block actor s h r counted.versions r.next granted b yet)
    (framed r.next w.numbers.block actor granted s h r) (lent_cell r.next (length s.lists) actor s r b)

event_counted : (w : World) (e : Event) → AreLocks w → IsInOrder w → AreCounted w → AreCounted (step w e).world
event_counted w e locks order counted = event_by AreCounted w counted e
    (λ actor c there is. record {
      versions = counted.versions;
      each = set_begun UnseenBy w actor c there (λ k. absurd (false≢true (sym (begun_commits (beginning c) w.shared c) ∙ k))) counted.each;
    })
    (go_counted w locks order counted)

-- ---- a new world

pub new_versions : (g : GeometryNumbers) → AreVersions (formatted g).shared
new_versions g = record {
  cells = each_cell g (λ (c : CellState). c.version ≤ 0) (omega arith) (λ block page generation. omega arith);
  limit = omega arith;
}

-- ---- every world

pub all_counted : (g : GeometryNumbers) (start : World) (records : List Record) (events : List Event) → IsStart g start records
    → AreCounted (after start events)
all_counted g start records events is_start =
    events_by IsReached AreCounted (λ v e known counted. event_counted v e known.locks known.order counted) events start
    (λ before. reached g start records before is_start) (first_counted g start records is_start)

pub cells_counted : (g : GeometryNumbers) (start : World) (records : List Record) (events : List Event) (ino : ℕ) → IsStart g start records
    → (cell_at (after start events).shared ino).version ≤ (after start events).shared.book.commit
cells_counted g start records events ino is_start = (all_counted g start records events is_start).versions.cells ino

pub commits_limited : (g : GeometryNumbers) (start : World) (records : List Record) (events : List Event) → IsStart g start records
    → (after start events).shared.book.commit ≤ NUMBER
commits_limited g start records events is_start = (all_counted g start records events is_start).versions.limit

pub commits_unseen : (g : GeometryNumbers) (start : World) (records : List Record) (events : List Event) (actor ino : ℕ)
    (r : Running) → IsStart g start records
    → (actor_at (after start events) actor).running ≡ Some r → commits_at r.next ≡ true
    → has (to_publish r.next (written_slots r)) ino ≡ true → (cell_at (after start events).shared ino).version < r.commit
commits_unseen g start records events actor ino r is_start is e there =
    let w = after start events in
    let yet : HasUnseen w.shared r =
    subst (λ (o : Option Running). HasUnseenBy w.shared o) is ((all_counted g start records events is_start).each actor) in
    yet e ino there

-- so the slot that a commit publishes next has not had the last version
pub publish_counts : (g : GeometryNumbers) (start : World) (records : List Record) (events : List Event) (actor place : ℕ)
    (r : Running) → IsStart g start records
    → (actor_at (after start events) actor).running ≡ Some r → r.next ≡ Publish place
    → (cell_at (after start events).shared (slot_at (written_slots r) place)).version < NUMBER
publish_counts g start records events actor place r is_start is next =
    let w = after start events in
    let known = reached g start records events is_start in
    let slot = slot_at (written_slots r) place in
    let own = before w actor r known.locks is in
    let b : Before actor w.shared (Publish place) r = subst (λ (k : Next). Before actor w.shared k r) next own in
    let commits : commits_at r.next ≡ true = ap commits_at next in
    let entered : CommitsIn w.shared (Some r) = subst (λ (o : Option Running). CommitsIn w.shared o) is (known.order.each actor) in
    let here : has (drop place (written_slots r)) slot ≡ true =
    has_drop place (written_slots r) slot b.inside ∙ (let e = self slot in rw e refl) in
    let there : has (to_publish r.next (written_slots r)) slot ≡ true =
    ap (λ (k : Next). has (to_publish k (written_slots r)) slot) next ∙ here in
    let low : (cell_at w.shared slot).version < r.commit = commits_unseen g start records events actor slot r is_start is commits there in
    let same : r.commit ≡ w.shared.book.commit = (entered commits).commit in
    let top : w.shared.book.commit ≤ NUMBER = commits_limited g start records events is_start in
    omega (arith, low, same, top)
