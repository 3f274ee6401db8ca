-- Whatever events come, a slot whose inode is gone is one that a commit has published and not yet retired.
use Rattle.nv_book.specs.declared.record.Record.{Record}
use Rattle.std.proofs.Common.{◌≡◌, ℕ, ◌<◌, ◌==◌, ◌∙◌, Bool, true, false, List, [], Option, Some, None, ap, get_or-set_other, get_or-set_same, length, refl, set, subst, sym}
use Rattle.std.proofs.lemmas.Bool.{eqb-false, eqb-true, false≢true, true≢false}
use Rattle.nv_alloc.specs.Numbers.{has}
use Rattle.nv_base.specs.declared.geometry.GeometryNumbers.{GeometryNumbers}
use Rattle.nv_cell.specs.Readers.{is_erased}
use Rattle.nv_cell.specs.Cell.{CellState}
use Rattle.nv_machine.specs.Format.{formatted}
use Rattle.nv_machine.specs.Grown.{HasGrownBy}
use Rattle.nv_machine.specs.Hands.{AreNumbers}
use Rattle.nv_machine.specs.Held.{killed_slots}
use Rattle.nv_machine.specs.Locks.{AreLocks, commits_at, commits_by, is_owner}
use Rattle.nv_machine.specs.Reached.{IsReached}
use Rattle.nv_machine.specs.Reads.{written_slots}
use Rattle.nv_machine.specs.Starts.{IsStart}
use Rattle.nv_machine.specs.Step.{after, kind_turn, step, turned}
use Rattle.nv_machine.specs.World.{Actor, Append, Close, Ends, Event, HandState, Leave, Moves, Next, Open, Publish, Retire, Running, Shared, Turn, Waits, World, actor_at, cell_at, idle}
use Rattle.nv_machine.proofs.EveryWorld.{all_known, reached}
use Rattle.nv_machine.proofs.NewWorld.{each_cell}
use Rattle.nv_machine.proofs.FiledWorlds.{others_out}
use Rattle.nv_machine.proofs.OverEvents.{begun_at, event_by, events_by}
use Rattle.nv_machine.proofs.FitsEvents.{IsKnown}
use Rattle.nv_machine.proofs.Cleanable.{cleanable}
use Rattle.nv_machine.proofs.GoneTurns.{IsGoneAt, OnGone, OnlyGone, WasGone, gone_kept, turn_was}
use Rattle.nv_machine.proofs.WorkKeeps.{AfterTurn}
use Rattle.nv_machine.proofs.LocksHeld.{lent_holder}
use Rattle.nv_machine.proofs.LocksOverEvents.{before}

-- ---- what holds of each world

abbrev pub slots_killed : Option Running → List ℕ
slots_killed None = []
slots_killed (Some r) = killed_slots r.next (written_slots r)

-- the actor whose commit has published a slot and not yet retired it
pub record IsRetiring (w : World) (ino : ℕ) : Type 0 where
  pub actor : ℕ
  pub there : has (slots_killed (actor_at w actor).running) ino ≡ true

abbrev pub AreRetiring : World → Type 0
AreRetiring w = (ino : ℕ) → IsGoneAt w.shared ino → IsRetiring w ino

-- a call outside a commit has published none
outside : (running : Option Running) (ino : ℕ) → commits_by running ≡ false → has (slots_killed running) ino ≡ true → ⊥
outside None ino out there = false≢true there
outside (Some r) ino out there = go r.next out there where
  go : (k : Next) → commits_at k ≡ false → has (killed_slots k (written_slots r)) ino ≡ true → ⊥
  go (Append place) e there = true≢false e
  go Open e there = true≢false e
  go (Publish place) e there = true≢false e
  go Close e there = true≢false e
  go (Retire place) e there = true≢false e
  go Leave e there = true≢false e
  go other e there = false≢true there

-- ---- another actor, or the same

own_retiring : (w : World) (a : ℕ) (x : Actor) (t : Shared) (ino : ℕ) → a < length w.actors → has (slots_killed x.running) ino ≡ true
    → IsRetiring (record w { shared = t; actors = set w.actors a x }) ino
own_retiring w a x t ino there listed = record {
  actor = a;
  there = subst (λ (y : Actor). has (slots_killed y.running) ino ≡ true) (sym (get_or-set_same w.actors a x idle there)) listed;
}

-- where the actor that makes the step is in no commit, the other's commit goes on
others_retiring : (w : World) (a : ℕ) (x : Actor) (t : Shared) (ino : ℕ) → commits_by (actor_at w a).running ≡ false → IsRetiring w ino
    → IsRetiring (record w { shared = t; actors = set w.actors a x }) ino
others_retiring w a x t ino out was = go (was.actor == a) refl where
  go : (c : Bool) → (was.actor == a) ≡ c → IsRetiring (record w { shared = t; actors = set w.actors a x }) ino
  go true q =
      absurd (outside (actor_at w a).running ino out
      (subst (λ (n : ℕ). has (slots_killed (actor_at w n).running) ino ≡ true) (eqb-true was.actor a q) was.there))
  go false q = record {
    actor = was.actor;
    there = subst (λ (y : Actor). has (slots_killed y.running) ino ≡ true)
        (sym (get_or-set_other w.actors a was.actor x idle (eqb-false was.actor a q))) was.there;
  }

-- what a commit has published is all that is
only_own : (w : World) (a : ℕ) (r : Running) → AreLocks w → w.shared.holder ≡ Some a → (actor_at w a).running ≡ Some r → AreRetiring w
    → OnlyGone (killed_slots r.next (written_slots r)) w.shared
only_own w a r locks held is all ino gone = go (all ino gone) where
  go : IsRetiring w ino → has (killed_slots r.next (written_slots r)) ino ≡ true
  go was = same (was.actor == a) refl where
    same : (c : Bool) → (was.actor == a) ≡ c → has (killed_slots r.next (written_slots r)) ino ≡ true
    same true q = subst (λ (o : Option Running). has (slots_killed o) ino ≡ true) is
        (subst (λ (n : ℕ). has (slots_killed (actor_at w n).running) ino ≡ true) (eqb-true was.actor a q) was.there)
    same false q =
        absurd (outside (actor_at w was.actor).running ino (others_out w a was.actor locks held (eqb-false was.actor a q)) was.there)

-- ---- a Go

turned_commit : (t : Turn) (a : ℕ) (w : World) → a < length w.actors → AreRetiring w → OnGone t → AreRetiring (turned t a w).world
turned_commit (Moves s h q) a w there was on =
    λ ino gone. own_retiring w a (record { hand = h; running = Some q }) s ino there (on ino gone)
turned_commit Waits a w there was on = was
turned_commit (Ends result s h) a w there was on = λ ino gone. absurd (false≢true (on ino gone))

turned_other : (t : Turn) (a : ℕ) (w : World) (r : Running) → (actor_at w a).running ≡ Some r → commits_at r.next ≡ false → AreRetiring w
    → AfterTurn (λ (u : Shared) (g : HandState). WasGone w.shared u) t → AreRetiring (turned t a w).world
turned_other (Moves s h q) a w r is out was on = λ ino gone.
    others_retiring w a (record { hand = h; running = Some q }) s ino (ap commits_by is ∙ out) (was ino (on ino gone))
turned_other Waits a w r is out was on = was
turned_other (Ends result s h) a w r is out was on = λ ino gone.
    others_retiring w a (record { hand = h; running = None }) s ino (ap commits_by is ∙ out) (was ino (on ino gone))

running_retiring : (g : GeometryNumbers) (w : World) (a : ℕ) (granted : Bool) (r : Running) → a < length w.actors
    → (actor_at w a).running ≡ Some r → IsReached w → AreNumbers g w → AreRetiring w → (b : Bool) → commits_at r.next ≡ b
    → AreRetiring (turned (kind_turn r.next w.numbers.block a granted w.shared (actor_at w a).hand r) a w).world
running_retiring g w a granted r there is reached all was b c = go b c where
  locks : AreLocks w
  locks = reached.locks

  h : HandState
  h = (actor_at w a).hand

  t : Turn
  t = kind_turn r.next w.numbers.block a granted w.shared h r

  go : (b : Bool) → commits_at r.next ≡ b → AreRetiring (turned t a w).world
  go true c =
      let held = lent_holder r.next a w.shared r (before w a r locks is) c in
      turned_commit t a w there was
      (gone_kept r.next w.numbers.block a granted w.shared h r c (before w a r locks is) (λ ino. (all.cells ino).within)
      (only_own w a r locks held is was))
  go false c =
      turned_other t a w r is c was (turn_was w.numbers.block a w.shared h r r.next granted c (before w a r locks is)
      (subst (λ (o : Option Running). HasGrownBy o w.shared a) is (reached.grown.each a))
      (cleanable w a r reached.apart.cleanable is))

event_retiring : (g : GeometryNumbers) (w : World) (e : Event) → IsReached w → AreNumbers g w → AreRetiring w
    → AreRetiring (step w e).world
event_retiring g w e reached all was = event_by AreRetiring w was e
    (λ a c there is ino gone. others_retiring w a (begun_at w a c) w.shared ino (ap commits_by is) (was ino gone))
    (λ a granted r there is. running_retiring g w a granted r there is reached all was (commits_at r.next) refl)

-- ---- every world

pub new_erased : (g : GeometryNumbers) (ino : ℕ) → is_erased (cell_at (formatted g).shared ino) ≡ false
new_erased g = each_cell g (λ (c : CellState). is_erased c ≡ false) refl (λ block page generation. refl)

pub all_retiring : (g : GeometryNumbers) (start : World) (records : List Record) (events : List Event) → IsStart g start records
    → AreRetiring (after start events)
all_retiring g start records events is_start =
    events_by (IsKnown g) AreRetiring (λ v e known was. event_retiring g v e known.reached known.numbers was) events start
    (all_known g start records is_start) (λ ino gone. absurd (true≢false (sym gone ∙ is_start.erased ino)))

-- with the commit lock free none is
pub none_retiring : (g : GeometryNumbers) (start : World) (records : List Record) (events : List Event) (ino : ℕ) → IsStart g start records
    → (after start events).shared.holder ≡ None → IsGoneAt (after start events).shared ino → ⊥
none_retiring g start records events ino is_start free gone =
    let w = after start events in
    let known = all_retiring g start records events is_start ino gone in
    let locks = (reached g start records events is_start).locks in
    outside (actor_at w known.actor).running ino (sym (locks.each known.actor).holder ∙ ap (is_owner known.actor) free) known.there
