-- The copies of the living snapshots stay, whatever event comes.
use Rattle.std.proofs.Common.{◌≡◌, ℕ, ◌<◌, ◌==◌, ◌++◌, ◌∙◌, Bool, true, false, List, if◌then◌else◌, inl, inr, length, Option, Some, None, ap, arith, refl, subst, sym}
use Rattle.std.specs.List.{Contains}
use Rattle.std.proofs.lemmas.Bool.{cases_lt, true≢false}
use Rattle.std.proofs.lemmas.List.{append-nil, get_or_past}
use Rattle.nv_alloc.specs.Numbers.{has}
use Rattle.nv_base.specs.declared.geometry.GeometryNumbers.{GeometryNumbers}
use Rattle.nv_base.specs.declared.numbers.Handle.{Handle}
use Rattle.nv_cell.specs.Cell.{CellState}
use Rattle.nv_entry.specs.Log.{up_to}
use Rattle.nv_entry.specs.Node.{node_now}
use Rattle.nv_entry.specs.declared.item.Entry.{Entry}
use Rattle.nv_entry.specs.declared.node.NodeCopy.{NodeCopy}
use Rattle.nv_epoch.specs.SnapList.{ids}
use Rattle.nv_machine.specs.Frame.{lent}
use Rattle.nv_machine.specs.Grown.{HasGrown, HasGrownBy, fresh_entries, is_appended}
use Rattle.nv_machine.specs.Locks.{commits_at, held_by, is_owner}
use Rattle.nv_machine.specs.Order.{CommitsIn}
use Rattle.nv_machine.specs.Reached.{IsReached}
use Rattle.nv_machine.specs.Reads.{bytes_among, written_slots}
use Rattle.nv_machine.specs.Settled.{settled, settled_copies}
use Rattle.nv_machine.specs.Step.{step}
use Rattle.nv_machine.specs.Whole.{HaveTheirParts}
use Rattle.nv_machine.specs.World.{Append, Close, Event, HandState, Next, Open, Publish, Running, Shared, World, actor_at, cell_at, no_cell, owner_at}
use Rattle.nv_machine.proofs.Cleanable.{cleanable}
use Rattle.nv_machine.proofs.CopySteps.{GoesOut, Stands, StepsTo, work_steps, entries_later, same_cell}
use Rattle.nv_machine.proofs.OverEvents.{event_by, event_shared, turn_at}
use Rattle.nv_machine.proofs.EpochLogs.{IsHeldAt, copies_same, copy_at, log_at}
use Rattle.nv_machine.proofs.SingleEvents.{turned_frame}
use Rattle.nv_machine.proofs.StepFrames.{framed}
use Rattle.nv_machine.proofs.WorkKeeps.{turn_keeps}
use Rattle.nv_epoch.proofs.Pins.{pins_at-lives}
use Rattle.nv_machine.proofs.Lists.{self}
use Rattle.nv_machine.proofs.LocksOverEvents.{before}
use Rattle.nv_machine.proofs.SnapshotCopies.{AreBefore}

-- ---- what is known of a world

-- what the marks of its cells tell: the parts that a living snapshot's logs have and have not covered are there, and
-- none of them goes out next
pub record HaveMarks (w : World) : Type 0 where
  pub held : (epoch ino : ℕ) → Contains (ids w.shared.book.snaps) epoch → IsHeldAt epoch (cell_at w.shared ino)
  pub goes : (epoch actor : ℕ) (r : Running) → Contains (ids w.shared.book.snaps) epoch → (actor_at w actor).running ≡ Some r
      → GoesOut epoch r.next w.shared (actor_at w actor).hand r

pub record IsReadable (g : GeometryNumbers) (w : World) : Type 0 where
  pub reached : IsReached w
  pub parts : HaveTheirParts g.block w.shared
  pub marks : HaveMarks w
  pub before : AreBefore w.shared.book.snaps

pub earlier : (w : World) (epoch : ℕ) → AreBefore w.shared.book.snaps → Contains (ids w.shared.book.snaps) epoch
    → epoch < w.shared.book.snaps.epoch
earlier w epoch are lives = are epoch (pins_at-lives w.shared.book.snaps.living epoch lives)

-- ---- the settled logs say the same of an earlier epoch

appending_commits : (k : Next) (written : List ℕ) (ino : ℕ) → is_appended k written ino ≡ true → commits_at k ≡ true
appending_commits (Append place) written ino e = refl
appending_commits Open written ino e = refl
appending_commits (Publish place) written ino e = refl
appending_commits Close written ino e = refl
appending_commits other written ino e = cc

module _ (w : World) (known : IsReached w) (epoch : ℕ) (lt : epoch < w.shared.book.snaps.epoch) where
  pub own_later : (actor : ℕ) (r : Running) → (actor_at w actor).running ≡ Some r → commits_at r.next ≡ true → epoch < r.epoch
  own_later actor r is commits =
      let in_order : CommitsIn w.shared (Some r) = subst (CommitsIn w.shared) is (known.order.each actor) in
      let same = (in_order commits).epoch in
      omega (arith, lt, same)

  more_later : (actor ino : ℕ) (r : Running) → (actor_at w actor).running ≡ Some r → owner_at w.shared ino ≡ Some actor
      → up_to epoch (settled w.shared ino) ≡ log_at epoch (cell_at w.shared ino)
  more_later actor ino r is own = go (is_appended r.next (written_slots r) ino) refl where
    grown : HasGrown r.next w.shared actor r
    grown = subst (λ (o : Option Running). HasGrownBy o w.shared actor) is (known.grown.each actor)

    go : (b : Bool) → is_appended r.next (written_slots r) ino ≡ b
        → up_to epoch (settled w.shared ino) ≡ log_at epoch (cell_at w.shared ino)
    go true e =
        sym (ap (up_to epoch) (grown.entries ino own ∙ ap (λ (b : Bool). settled w.shared ino ++ fresh_entries b r ino) e)
        ∙ entries_later epoch r ino (settled w.shared ino) (own_later actor r is (appending_commits r.next (written_slots r) ino e)))
    go false e =
        sym (ap (up_to epoch) (grown.entries ino own ∙ ap (λ (b : Bool). settled w.shared ino ++ fresh_entries b r ino) e
        ∙ append-nil (settled w.shared ino)))

  pub settled_says : (ino : ℕ) → up_to epoch (settled w.shared ino) ≡ log_at epoch (cell_at w.shared ino)
  settled_says ino = go (owner_at w.shared ino) refl where
    held : (actor : ℕ) (running : Option Running) → (actor_at w actor).running ≡ running → owner_at w.shared ino ≡ Some actor
        → up_to epoch (settled w.shared ino) ≡ log_at epoch (cell_at w.shared ino)
    held actor None is own =
        absurd (true≢false (sym (ap (is_owner actor) own ∙ self actor)
        ∙ (known.locks.each actor).owners ino ∙ ap (λ (o : Option Running). has (held_by o) ino) is))
    held actor (Some r) is own = more_later actor ino r is own

    go : (owner : Option ℕ) → owner_at w.shared ino ≡ owner → up_to epoch (settled w.shared ino) ≡ log_at epoch (cell_at w.shared ino)
    go None e = ap (up_to epoch) (sym (known.grown.free ino e).entries)
    go (Some actor) e = held actor (actor_at w actor).running refl e

  -- the copy of a snapshot by the cells
  abbrev copies_in : Shared → Handle → Option NodeCopy
  copies_in s handle = if handle.generation == (cell_at s handle.ino).generation then copy_at epoch (cell_at s handle.ino) else None

  pub settled_is : (handle : Handle) → settled_copies w.shared epoch handle ≡ copies_in w.shared handle
  settled_is handle =
      let cell = cell_at w.shared handle.ino in
      ap (λ (l : List Entry). if handle.generation == cell.generation then node_now (bytes_among cell.blocks) cell.block l else None)
      (settled_says handle.ino)

-- ---- one event

module _ (g : GeometryNumbers) (w : World) (known : IsReadable g w) (epoch : ℕ) (lives : Contains (ids w.shared.book.snaps) epoch) where
  stands : (actor : ℕ) (r : Running) → (actor_at w actor).running ≡ Some r
      → Stands epoch r.next actor w.shared (actor_at w actor).hand r
  stands actor r is = record {
    before = before w actor r known.reached.locks is;
    lives = lives;
    later = λ commits. own_later w known.reached epoch (earlier w epoch known.before lives) actor r is commits;
    grown = subst (λ (o : Option Running). HasGrownBy o w.shared actor) is (known.reached.grown.each actor);
    logs = λ ino. (known.reached.order.logs ino).ordered;
    marks = λ ino low. (known.parts ino low).marks.len;
    held = λ ino. known.marks.held epoch ino lives;
    goes = known.marks.goes epoch actor r lives is;
  }

  abbrev All : Shared → Type 0
  All t = (ino : ℕ) → StepsTo epoch (cell_at w.shared ino) (cell_at t ino)

  all_same : All w.shared
  all_same ino = same_cell epoch (cell_at w.shared ino)

  event_steps : (e : Event) → All (step w e).world.shared
  event_steps e = event_shared All w all_same e (λ actor granted r there is.
      let h = (actor_at w actor).hand in
      turn_keeps (λ (t : Shared) (x : HandState). All t) r.next w.numbers.block actor granted w.shared h r all_same
      (work_steps epoch w.numbers.block actor w.shared h r r.next (stands actor r is)
      (cleanable w actor r known.reached.apart.cleanable is)))

-- no cell comes or goes
pub cells_stay : (w : World) (e : Event) → length (step w e).world.shared.cells ≡ length w.shared.cells
cells_stay w e = event_by (λ (v : World). length v.shared.cells ≡ length w.shared.cells) w refl e (λ actor c there is. refl)
    (λ actor granted r there is. (turned_frame (lent r.next (length w.shared.lists) actor r) (turn_at w actor granted r) actor w
    (framed r.next w.numbers.block actor granted w.shared (actor_at w actor).hand r)).slots)

module _ (g : GeometryNumbers) (w v : World) (a : IsReadable g w) (b : IsReadable g v) (epoch : ℕ)
    (old : Contains (ids w.shared.book.snaps) epoch) (new : Contains (ids v.shared.book.snaps) epoch)
    (many : length v.shared.cells ≡ length w.shared.cells) where
  one_copy : (ino generation : ℕ) → StepsTo epoch (cell_at w.shared ino) (cell_at v.shared ino)
      → (if generation == (cell_at v.shared ino).generation then copy_at epoch (cell_at v.shared ino) else None)
      ≡ (if generation == (cell_at w.shared ino).generation then copy_at epoch (cell_at w.shared ino) else None)
  one_copy ino generation (inr (inl keeps)) =
      let y = cell_at v.shared ino in
      ap (λ (n : ℕ). if generation == n then copy_at epoch y else None) keeps.generation
      ∙ ap (λ (o : Option NodeCopy). if generation == (cell_at w.shared ino).generation then o else None) keeps.copy
  one_copy ino generation (inr (inr emptied)) = either (generation == y.generation) ∙ sym (neither (generation == x.generation)) where
    x : CellState
    x = cell_at w.shared ino

    y : CellState
    y = cell_at v.shared ino

    none : copy_at epoch y ≡ None
    none = ap (λ (l : List Entry). node_now (bytes_among y.blocks) y.block (up_to epoch l)) emptied.empty

    either : (c : Bool) → (if c then copy_at epoch y else None) ≡ None
    either true = none
    either false = refl

    neither : (c : Bool) → (if c then copy_at epoch x else None) ≡ None
    neither true = emptied.none
    neither false = refl
  one_copy ino generation (inl goes) = elim (cases_lt ino (length w.shared.cells)) [
    | inl low ↦
        let x = cell_at w.shared ino in
        let y = cell_at v.shared ino in
        ap (λ (n : ℕ). if generation == n then copy_at epoch y else None) goes.generation
        ∙ ap (λ (o : Option NodeCopy). if generation == x.generation then o else None)
        (copies_same epoch x y (a.reached.order.logs ino).ordered (b.reached.order.logs ino).ordered
        (a.parts ino low).blocks (b.parts ino (omega (arith, low, many))).blocks (a.reached.apart.cells ino) (b.reached.apart.cells ino)
        goes.block goes.log goes.same (a.marks.held epoch ino old) (b.marks.held epoch ino new))
    | inr past ↦
        ap (λ (c : CellState). if generation == c.generation then copy_at epoch c else None)
        (get_or_past v.shared.cells ino no_cell (omega (arith, past, many)) ∙ sym (get_or_past w.shared.cells ino no_cell past))
  ]

pub event_copies : (g : GeometryNumbers) (w : World) (e : Event) → IsReadable g w → IsReadable g (step w e).world → (epoch : ℕ)
    → Contains (ids w.shared.book.snaps) epoch → Contains (ids (step w e).world.shared.book.snaps) epoch → (handle : Handle)
    → settled_copies (step w e).world.shared epoch handle ≡ settled_copies w.shared epoch handle
event_copies g w e a b epoch old new handle =
    let v = (step w e).world in
    settled_is v b.reached epoch (earlier v epoch b.before new) handle
    ∙ one_copy g w v a b epoch old new (cells_stay w e) handle.ino handle.generation (event_steps g w a epoch old e handle.ino)
    ∙ sym (settled_is w a.reached epoch (earlier w epoch a.before old) handle)
