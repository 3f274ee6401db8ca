-- Whatever events come, each block number stands once, lists are in order, and idle hands are empty.
use Rattle.std.proofs.Common.{Bool, List, None, Option, Some, ap, arith, false, if◌then◌else◌, inr, length, nat_lt, refl, subst, sym, true, ℕ, ◌<◌, ◌∙◌, ◌≡◌, ◌≢◌}
use Rattle.std.proofs.lemmas.Bool.{false≢true}
use Rattle.std.proofs.lemmas.Option.{none-some}
use Rattle.nv_alloc.specs.Block.{AreSized}
use Rattle.nv_alloc.specs.Numbers.{has}
use Rattle.nv_base.specs.Limits.{IsWithinLimits}
use Rattle.nv_base.specs.declared.geometry.GeometryNumbers.{GeometryNumbers}
use Rattle.nv_calls.specs.declared.call.Call.{Call}
use Rattle.nv_machine.specs.Frame.{IsFramed, lent}
use Rattle.nv_machine.specs.Hands.{AreNumbers, HandOf, makes_inode, unpublished_at, unpublished_by, HandOn}
use Rattle.nv_machine.specs.Kinds.{blocks_in}
use Rattle.nv_machine.specs.Kept.{AreCleanable}
use Rattle.nv_machine.specs.Locks.{AreLocks}
use Rattle.nv_machine.specs.Reads.{slots_of, written_slots}
use Rattle.nv_machine.specs.Sequence.{Beginning, Locks, Looks, Numbers, beginning, begun, nothing_looked, started, Maintains}
use Rattle.nv_machine.specs.Step.{kind_turn, step, turned}
use Rattle.nv_machine.specs.World.{Actor, Check, Ends, Event, HandState, Lock, Moves, Running, Shared, Turn, Waits, World, actor_at, cell_at, empty_hand, owner_at, SnapshotOrCleanerStep}
use Rattle.nv_machine.proofs.BlockCounts.{work_times}
use Rattle.nv_machine.proofs.OverEvents.{begun_at, begun_in, event_by, turn_at}
use Rattle.nv_machine.proofs.StepFrames.{framed}
use Rattle.nv_machine.proofs.HandsAfterSteps.{OnHand, taken_none}
use Rattle.nv_machine.proofs.HandsInCommits.{hand_kept}
use Rattle.nv_machine.proofs.StepWork.{work}
use Rattle.nv_machine.proofs.WorkKeeps.{AfterTurn, turn_keeps}
use Rattle.nv_machine.proofs.LocksHeld.{lent_cell}
use Rattle.nv_machine.proofs.LocksOverEvents.{before}
use Rattle.nv_machine.proofs.Cleanable.{IsCleanable, cleanable}
use Rattle.nv_machine.proofs.BlockNumbers.{IsKept, can_count, clean_parted, can_give, goes_home, lent_inside, new_times, set_actor, tails_after, was_kept}
use Rattle.nv_machine.proofs.SoundWorlds.{work_sound}
use Rattle.nv_machine.proofs.LogTails.{HasLeft, IsTailLast, LeavesTail, left_unpublished, lent_tail}
use Rattle.nv_machine.proofs.FirstSteps.{first_by}

-- ---- a Go

-- what is known of a turn
record IsKnownTurn (g : GeometryNumbers) (w : World) (actor : ℕ) (r : Running) (t : Turn) : Type 0 where
  kept : AfterTurn (IsKept g w actor) t
  hand : OnHand g t
  frame : IsFramed (lent r.next (length w.shared.lists) actor r) w.shared t
  left : (ino : ℕ) → (lent r.next (length w.shared.lists) actor r).cell ≢ Some ino
      → has (unpublished_at r.next (written_slots r)) ino ≡ true → HasLeft ino t
  tail : (ino : ℕ) → (lent r.next (length w.shared.lists) actor r).cell ≡ Some ino
      → (has (unpublished_at r.next (written_slots r)) ino ≡ false → IsTailLast (cell_at w.shared ino)) → LeavesTail ino t

known : (g : GeometryNumbers) (w : World) (actor : ℕ) (granted : Bool) (r : Running) → IsWithinLimits g → AreLocks w
    → AreNumbers g w → (actor_at w actor).running ≡ Some r → IsCleanable r.next g.block w.shared (actor_at w actor).hand r
    → IsKnownTurn g w actor r (kind_turn r.next g.block actor granted w.shared (actor_at w actor).hand r)
known g w actor granted r limits locks all is ready =
    let some : 0 < g.cpus = omega (arith, limits.some_cpus) in
    let s = w.shared in
    let h = (actor_at w actor).hand in
    let b = before w actor r locks is in
    let own : HandOf g h (Some r) = subst (λ (o : Option Running). HandOf g h o) is (all.hands actor) in
    let was = was_kept g w actor all in
    let done : IsKept g w actor (work r.next g.block actor s h r).shared (work r.next g.block actor s h r).hand = record {
      sound = work_sound g r.next actor s h r b own.0 was.sound
          (clean_parted g w actor r r.next refl locks all is b ready);
      same = λ n. work_times r.next n g.block actor s h r (can_count g w actor r r.next refl locks all is b ready);
    } in
    record {
      kept = turn_keeps (IsKept g w actor) r.next g.block actor granted s h r was done;
      hand = hand_kept g r.next actor granted s h r (omega (arith, limits.some_bytes)) (omega (arith, limits.blocks_fit)) b (
        goes_home g w actor s h some all was,
        goes_home g w actor (work r.next g.block actor s h r).shared (work r.next g.block actor s h r).hand some all done,
      ) (can_give g w actor r.next all) own.0 own.1;
      frame = framed r.next g.block actor granted s h r;
      left = λ ino ne there. left_unpublished r.next g.block actor granted s h r b ino ne there;
      tail = λ ino here tail. lent_tail r.next g.block actor granted s h r b ino here (lent_inside r.next actor s r b ino here) tail;
    }

as_running : (w : World) (actor : ℕ) (r : Running) (ino : ℕ) → (actor_at w actor).running ≡ Some r
    → has (unpublished_by (actor_at w actor).running) ino ≡ has (unpublished_at r.next (written_slots r)) ino
as_running w actor r ino is = ap (λ (o : Option Running). has (unpublished_by o) ino) is

turned_numbers : (g : GeometryNumbers) (w : World) (actor : ℕ) (r : Running) (t : Turn) → actor < length w.actors → AreLocks w
    → AreNumbers g w → (actor_at w actor).running ≡ Some r
    → ((ino : ℕ) → (lent r.next (length w.shared.lists) actor r).cell ≡ Some ino → owner_at w.shared ino ≡ Some actor)
    → IsKnownTurn g w actor r t → AreNumbers g (turned t actor w).world
turned_numbers g w actor r (Moves t h q) there locks all is owned k = record {
  numbers = all.numbers;
  once = λ n. new_times g w actor (record { hand = h; running = Some q }) t n there (k.kept.same n) ∙ all.once n;
  lists = k.kept.sound.lists;
  cells = k.kept.sound.cells;
  tails = tails_after w actor (record { hand = h; running = Some q }) t there locks all.tails
      (lent r.next (length w.shared.lists) actor r).cell k.frame.cells owned
      (λ ino ne there. k.left ino ne (sym (as_running w actor r ino is) ∙ there))
      (λ ino here tail. k.tail ino here (λ none. tail (as_running w actor r ino is ∙ none)));
  sized = set_actor (λ (x : Actor). AreSized g.block (blocks_in x.hand)) w actor (record { hand = h; running = Some q }) there
      k.kept.sound.sized all.sized;
  hands = set_actor (λ (x : Actor). HandOf g x.hand x.running) w actor (record { hand = h; running = Some q }) there k.hand all.hands;
}
turned_numbers g w actor r Waits there locks all is owned k = all
turned_numbers g w actor r (Ends result t h) there locks all is owned k = record {
  numbers = all.numbers;
  once = λ n. new_times g w actor (record { hand = h; running = None }) t n there (k.kept.same n) ∙ all.once n;
  lists = k.kept.sound.lists;
  cells = k.kept.sound.cells;
  tails = tails_after w actor (record { hand = h; running = None }) t there locks all.tails
      (lent r.next (length w.shared.lists) actor r).cell k.frame.cells owned
      (λ ino ne there. absurd (k.left ino ne (sym (as_running w actor r ino is) ∙ there)))
      (λ ino here tail. inr (k.tail ino here (λ none. tail (as_running w actor r ino is ∙ none))));
  sized = set_actor (λ (x : Actor). AreSized g.block (blocks_in x.hand)) w actor (record { hand = h; running = None }) there
      k.kept.sound.sized all.sized;
  hands = set_actor (λ (x : Actor). HandOf g x.hand x.running) w actor (record { hand = h; running = None }) there k.hand all.hands;
}

go_numbers : (g : GeometryNumbers) (w : World) → IsWithinLimits g → AreLocks w → AreNumbers g w → (actor : ℕ) (granted : Bool)
    (r : Running) → actor < length w.actors → (actor_at w actor).running ≡ Some r
    → IsCleanable r.next w.numbers.block w.shared (actor_at w actor).hand r
    → AreNumbers g (turned (turn_at w actor granted r) actor w).world
go_numbers g w limits locks all actor granted r there is ready =
    let h = (actor_at w actor).hand in
    subst (λ (n : GeometryNumbers). AreNumbers g (turned (kind_turn r.next n.block actor granted w.shared h r) actor w).world)
    (sym all.numbers)
    (turned_numbers g w actor r (kind_turn r.next g.block actor granted w.shared h r) there locks all is
    (λ ino here. lent_cell r.next (length w.shared.lists) actor w.shared r (before w actor r locks is) ino here)
    (known g w actor granted r limits locks all is
    (subst (λ (n : GeometryNumbers). IsCleanable r.next n.block w.shared h r) all.numbers ready)))

-- ---- a Start

begun_hand : (g : GeometryNumbers) (b : Beginning) (s : Shared) (c : Call) (h : HandState) → beginning c ≡ b → h ≡ empty_hand
    → HandOf g h (Some (begun b s c))
begun_hand g Numbers s c h is empty = ((empty, ap makes_inode is, refl), λ e. refl)
begun_hand g Looks s c h is empty = ((empty, ap makes_inode is), λ e. refl)
begun_hand g Locks s c h is empty =
    let slots = slots_of s None nothing_looked c in
    go slots (nat_lt 0 (length slots)) where
      go : (slots : List ℕ) (lock : Bool) → HandOf g h (Some (started c (if lock then Lock 0 else Check) slots))
      go slots true = (taken_none h (started c (Lock 0) slots) empty (ap makes_inode is), λ e. refl)
      go slots false = (taken_none h (started c Check slots) empty (ap makes_inode is), λ e. refl)
begun_hand g (Maintains what) s c h is empty = (
  first_by (λ (step : SnapshotOrCleanerStep). HandOn step h) (length s.cells) empty (λ snapshot. empty) (λ snapshot. empty)
      (λ count. empty) (λ manner ino inside. empty) (λ manner. empty) what,
  λ e. refl,
)
begun_hand g other s c h is empty = (empty, λ e. refl)

start_numbers : (g : GeometryNumbers) (w : World) → AreLocks w → AreNumbers g w → (actor : ℕ) (c : Call) → actor < length w.actors
    → (actor_at w actor).running ≡ None → AreNumbers g (begun_in w actor c)
start_numbers g w locks all actor c there is =
    let h = (actor_at w actor).hand in
    let x : Actor = begun_at w actor c in
    let empty : HandOf g h None = subst (λ (o : Option Running). HandOf g h o) is (all.hands actor) in
    record {
      numbers = all.numbers;
      once = λ n. new_times g w actor x w.shared n there refl ∙ all.once n;
      lists = all.lists;
      cells = all.cells;
      tails = tails_after w actor x w.shared there locks all.tails None (λ ino ne. refl) (λ ino here. absurd (none-some ino here))
          (λ ino ne there. absurd (false≢true (sym (ap (λ (o : Option Running). has (unpublished_by o) ino) is) ∙ there)))
          (λ ino here tail. absurd (none-some ino here));
      sized = set_actor (λ (y : Actor). AreSized g.block (blocks_in y.hand)) w actor x there (all.sized actor) all.sized;
      hands = set_actor (λ (y : Actor). HandOf g y.hand y.running) w actor x there (begun_hand g (beginning c) w.shared c h refl empty)
          all.hands;
    }

-- ---- events

pub event_blocks : (g : GeometryNumbers) (w : World) (e : Event) → IsWithinLimits g → AreLocks w → AreNumbers g w → AreCleanable w
    → AreNumbers g (step w e).world
event_blocks g w e limits locks all are = event_by (AreNumbers g) w all e (start_numbers g w locks all)
    (λ actor granted r there is. go_numbers g w limits locks all actor granted r there is (cleanable w actor r are is))
