-- Logs have their pages, and hands those of the appends to come, whatever events come.
use Rattle.nv_book.specs.declared.record.Record.{Record}
use Rattle.std.proofs.Common.{◌≡◌, ◌≢◌, ℕ, ◌<◌, ◌∙◌, Bool, true, false, List, Option, Some, None, ap, arith, if◌then◌else◌, length, nat_lt, refl, subst, sym}
use Rattle.std.specs.Prelude.{unwrap_or}
use Rattle.nv_alloc.specs.Numbers.{has}
use Rattle.nv_base.specs.Limits.{IsWithinLimits}
use Rattle.nv_base.specs.declared.geometry.GeometryNumbers.{GeometryNumbers}
use Rattle.nv_calls.specs.Slots.{items_for, place_in}
use Rattle.nv_calls.specs.declared.call.Call.{Call}
use Rattle.nv_cell.specs.Cell.{CellState}
use Rattle.nv_machine.specs.Format.{formatted}
use Rattle.nv_machine.specs.Frame.{IsFramed, Lent, lent}
use Rattle.nv_machine.specs.Grown.{HasGrownBy}
use Rattle.nv_machine.specs.Locks.{HoldsIts, held_at}
use Rattle.nv_machine.specs.Order.{CommitsIn, entries_at}
use Rattle.nv_machine.specs.Pages.{AreOnPages, HasLogPages, HasPagesOn, PagesOf}
use Rattle.nv_machine.specs.Reads.{slots_of, written_slots}
use Rattle.nv_machine.specs.Sequence.{Beginning, Locks, beginning, begun, nothing_looked, Maintains}
use Rattle.nv_machine.specs.Starts.{IsStart}
use Rattle.nv_machine.specs.Step.{step, turn, turned}
use Rattle.nv_machine.specs.World.{Actor, Check, Ends, Event, HandState, Lock, Moves, Running, Shared, Turn, Waits, World, actor_at, owner_at, SnapshotOrCleanerStep}
use Rattle.nv_machine.proofs.NewWorld.{new_cell}
use Rattle.nv_machine.proofs.AppendsToCome.{appended_log}
use Rattle.nv_machine.proofs.OverEvents.{event_by, event_numbers, set_begun, set_one, turn_at, with_call}
use Rattle.nv_machine.proofs.FitsEvents.{IsKnown, own_hand}
use Rattle.nv_machine.proofs.FitsStages.{FitsOf}
use Rattle.nv_machine.proofs.StepFrames.{framed}
use Rattle.nv_machine.proofs.UnsettledLogs.{CellsLeft, OnGrown}
use Rattle.nv_machine.proofs.UnsettledTurns.{grown_turn, standing as grown_standing}
use Rattle.nv_machine.proofs.WorkKeeps.{AfterTurn, turn_keeps}
use Rattle.nv_machine.proofs.LocksHeld.{owner_is}
use Rattle.nv_machine.proofs.LocksOverEvents.{before}
use Rattle.nv_machine.proofs.PageTurns.{OnPages}
use Rattle.nv_machine.proofs.PageRuns.{AllOnPages, work_on, appends_commit, own_pages, their_pages}
use Rattle.nv_machine.proofs.FirstSteps.{first_by}

-- ---- one event

pub record ArePaged (w : World) : Type 0 where
  pub on : AllOnPages w.numbers.page w.shared
  pub each : (actor : ℕ) → PagesOf (actor_at w actor).running w.numbers.block w.shared (actor_at w actor).hand

abbrev PagesBy : ℕ → ℕ → Shared → Actor → Type 0
PagesBy block b s x = PagesOf x.running block s x.hand

-- what is left by a turn
abbrev EachPaged : GeometryNumbers → World → Type 0
EachPaged n v = AllOnPages n.page v.shared × ((b : ℕ) → PagesBy n.block b v.shared (actor_at v b))

module _ (g : GeometryNumbers) (limits : IsWithinLimits g) (w : World) (known : IsKnown g w) (paged : ArePaged w)
    (actor : ℕ) where
  abbrev block : ℕ
  block = w.numbers.block

  within : IsWithinLimits w.numbers
  within = subst IsWithinLimits (sym known.numbers.numbers) limits

  others_pages : (b : ℕ) (t : Shared) (running : Option Running) → b ≢ actor → CellsLeft actor w.shared t
      → length t.cells ≡ length w.shared.cells → (actor_at w b).running ≡ running
      → PagesOf running block w.shared (actor_at w b).hand → PagesOf running block t (actor_at w b).hand
  others_pages b t None ne left many is has_them = has_them
  others_pages b t (Some r) ne left many is has_them =
      their_pages r.next block b w.shared t (actor_at w b).hand r many (λ e ino held. left.cells ino (not_theirs e ino held))
      mine holds.slots.1
      (subst (λ (o : Option Running). HasGrownBy o w.shared b) is (known.reached.grown.each b))
      (subst (λ (o : Option Running). FitsOf o block w.shared (actor_at w b).hand) is (known.fit.each b)) has_them where
        holds : HoldsIts w.shared b (Some r)
        holds = subst (λ (o : Option Running). HoldsIts w.shared b o) is (known.reached.locks.each b)

        mine : held_at r.next r.slots ≡ r.slots → (ino : ℕ) → has r.slots ino ≡ true → owner_at w.shared ino ≡ Some b
        mine e ino held = owner_is b (owner_at w.shared ino) (holds.owners ino ∙ ap (λ (l : List ℕ). has l ino) e ∙ held)

        not_theirs : held_at r.next r.slots ≡ r.slots → (ino : ℕ) → has r.slots ino ≡ true → owner_at w.shared ino ≢ Some actor
        not_theirs e ino held other = ne (ap (λ (o : Option ℕ). unwrap_or o 0) (sym (mine e ino held) ∙ other))

  others : (t : Shared) → CellsLeft actor w.shared t → length t.cells ≡ length w.shared.cells → (b : ℕ) → b ≢ actor
      → PagesBy block b t (actor_at w b)
  others t left many b ne = others_pages b t (actor_at w b).running ne left many refl (paged.each b)

  turned_pages : (l : Lent) (t : Turn) → actor < length w.actors → OnGrown actor w.shared t → IsFramed l w.shared t → OnPages block t
      → AfterTurn (λ (s : Shared) (h : HandState). AllOnPages w.numbers.page s) t → EachPaged w.numbers (turned t actor w).world
  turned_pages l (Moves s h r) there grown frame own on =
      (on, set_one (PagesBy block) w actor (with_call h (Some r)) s there own (others s grown.0 frame.slots))
  turned_pages l Waits there grown frame own on = (paged.on, paged.each)
  turned_pages l (Ends result s h) there grown frame own on =
      (on, set_one (PagesBy block) w actor (with_call h None) s there tt (others s grown.0 frame.slots))

  own_each : (granted : Bool) (r : Running) → (actor_at w actor).running ≡ Some r → actor < length w.actors
      → EachPaged w.numbers (turned (turn_at w actor granted r) actor w).world
  own_each granted r is there =
      let s = w.shared in
      let h = (actor_at w actor).hand in
      let k = known.reached in
      let b = before w actor r k.locks is in
      let has_them = subst (λ (o : Option Running). PagesOf o block s h) is (paged.each actor) in
      let commits : CommitsIn s (Some r) = subst (λ (o : Option Running). CommitsIn s o) is (k.order.each actor) in
      turned_pages (lent r.next (length s.lists) actor r) (turn block actor granted s h r) there
      (grown_turn r.next block actor granted s h r (grown_standing w actor r k.locks k.kept k.grown is))
      (framed r.next block actor granted s h r)
      (own_pages w.numbers actor granted s h r r.next (own_hand g w known actor granted r is) b has_them)
      (turn_keeps (λ (t : Shared) (h : HandState). AllOnPages w.numbers.page t) r.next block actor granted s h r paged.on
      (work_on w.numbers within actor s h r paged.on r.next b has_them (λ ino there.
      (appended_log r.commit r.epoch (place_in r.plan ino) (items_for r.plan ino) (entries_at s ino)
      ((commits (appends_commit r.next (written_slots r) ino there)).earlier ino there)).ordered) k.apart.cleanable.cells))

  begun_pages : (b : Beginning) (c : Call) (h : HandState) → PagesOf (Some (begun b w.shared c)) block w.shared h
  begun_pages Locks c h = go (nat_lt 0 (length (slots_of w.shared None nothing_looked c))) where
    go : (b : Bool) → HasLogPages (if b then Lock 0 else Check) block w.shared h (begun Locks w.shared c)
    go true = tt
    go false = tt
  begun_pages (Maintains what) c h =
      first_by (λ (step : SnapshotOrCleanerStep). HasPagesOn step w.shared h) (length w.shared.cells) tt (λ snapshot. tt) (λ snapshot. tt)
      (λ count. tt) (λ manner ino inside. tt) (λ manner. tt) what
  begun_pages other c h = tt

-- ---- all events

pub event_pages : (g : GeometryNumbers) → IsWithinLimits g → (w : World) (e : Event) → IsKnown g w → ArePaged w
    → ArePaged (step w e).world
event_pages g limits w e known paged = as_paged (event_by (EachPaged w.numbers) w (paged.on, paged.each) e
    (λ actor c there is. (
      paged.on,
      set_begun (PagesBy w.numbers.block) w actor c there
          (begun_pages g limits w known paged actor (beginning c) c (actor_at w actor).hand) paged.each,
    ))
    (λ actor granted r there is. own_each g limits w known paged actor granted r is there)) where
      v : World
      v = (step w e).world

      as_paged : EachPaged w.numbers v → ArePaged v
      as_paged each = record {
        on = subst (λ (n : GeometryNumbers). AllOnPages n.page v.shared) (sym (event_numbers w e)) each.0;
        each = λ b. subst (λ (n : GeometryNumbers). PagesBy n.block b v.shared (actor_at v b)) (sym (event_numbers w e)) (each.1 b);
      }

-- ---- a new world

pub new_all : (g : GeometryNumbers) → IsWithinLimits g → AllOnPages g.page (formatted g).shared
new_all g limits =
    new_cell g (λ (ino : ℕ) (c : CellState). ino < length (formatted g).shared.cells → AreOnPages g.page c.chain)
    (λ lt. record {
      size = refl;
      each = omega arith;
      parted = (omega arith, (let least = limits.some_entries in omega (arith, least)), refl);
    })
    (λ n lt. record { size = refl; each = omega arith; parted = refl }) (λ n past lt. absurd (omega (arith, past, lt)))

-- ---- a start

pub first_paged : (g : GeometryNumbers) (start : World) (records : List Record) → IsStart g start records → ArePaged start
first_paged g start records is_start = record {
  on =
      subst (λ (n : GeometryNumbers). AllOnPages n.page start.shared) (sym is_start.numbers)
      (λ ino lt. is_start.pages ino (omega (arith, lt, is_start.slots)));
  each = λ actor.
      subst (λ (x : Actor). PagesOf x.running start.numbers.block start.shared x.hand) (sym (is_start.idle_all actor)) tt;
}
