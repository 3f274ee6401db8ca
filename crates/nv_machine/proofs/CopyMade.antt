-- A making copies the nodes as they are, and leaves cells and journals.
use Rattle.std.proofs.Common.{◌≡◌, ℕ, zero, suc, ◌+◌, ◌<◌, ◌≤◌, ◌==◌, ◌∙◌, Bool, true, false, cond, List, [], ◌∷◌, if◌then◌else◌, length, nat_lt, Option, Some, None, ap, refl, subst, sym, take}
use Rattle.std.specs.List.{AllByRecursion}
use Rattle.std.specs.Option.{option_map}
use Rattle.std.specs.Prelude.{Ok, Err}
use Rattle.std.proofs.lemmas.Bool.{le-leb}
use Rattle.nv_base.specs.declared.numbers.Handle.{Handle}
use Rattle.nv_calls.specs.Plain.{PlainNode, node_in, stamped}
use Rattle.nv_calls.specs.Slots.{last_commit}
use Rattle.nv_entry.specs.Log.{up_to}
use Rattle.nv_entry.specs.Node.{node_now}
use Rattle.nv_entry.specs.declared.item.Entry.{Entry}
use Rattle.nv_entry.specs.declared.node.NodeCopy.{NodeCopy}
use Rattle.nv_journal.specs.Journal.{settled_tail}
use Rattle.nv_journal.specs.declared.old_tail.OldTail.{OldTail}
use Rattle.nv_cell.specs.Cell.{CellState}
use Rattle.nv_machine.specs.Locks.{commits_at}
use Rattle.nv_machine.specs.Order.{AreLogsOrdered}
use Rattle.nv_machine.specs.PlainRun.{Commits, PlainChange, Nothing, Numbers, Maintains, plain_change as deed_in, plain_change_of, done_on, entered}
use Rattle.nv_machine.specs.Reads.{bytes_among, written_slots}
use Rattle.nv_machine.specs.Settled.{node_by, settled, settled_copies, settled_nodes}
use Rattle.nv_machine.specs.Step.{kind_turn, step}
use Rattle.nv_machine.specs.World.{Ends, Enter, Event, HandState, Make, Moves, Next, Publish, Running, Shared, SnapshotOrCleanerStep, SnapshotOrCleaner, Turn, Waits, World, actor_at, cell_at}
use Rattle.nv_machine.proofs.OverEvents.{event_deed, turn_at, turned_shared}
use Rattle.nv_machine.proofs.WorkKeeps.{AfterTurn, turn_keeps}

-- ---- which step makes a snapshot

abbrev pub is_make_step : SnapshotOrCleanerStep → Bool
is_make_step Make = true
is_make_step other = false

abbrev pub is_make : PlainChange → Bool
is_make (Maintains step) = is_make_step step
is_make other = false

make_is : (step : SnapshotOrCleanerStep) → is_make_step step ≡ true → step ≡ Make
make_is Make e = refl
make_is other e = cc

done_make : (step : SnapshotOrCleanerStep) (t : Turn) → is_make (done_on step t) ≡ true → step ≡ Make
done_make step (Moves s h r) e = make_is step e
done_make step Waits e = cc
done_make Make (Ends result s h) e = refl
done_make other (Ends (Ok found) s h) e = cc
done_make other (Ends (Err fault) s h) e = cc

entered_none : (t : Turn) → is_make (entered t) ≡ true → ⊥
entered_none (Moves s h r) e = go (commits_at r.next) e where
  go : (b : Bool) → is_make (if b then Numbers else Nothing) ≡ true → ⊥
  go true e = cc
  go false e = cc
entered_none Waits e = cc
entered_none (Ends result s h) e = cc

published_none : (b : Bool) → is_make (if b then Nothing else Commits) ≡ true → ⊥
published_none true e = cc
published_none false e = cc

kind_is : (k : Next) (written : List ℕ) (t : Turn) → is_make (deed_in k written t) ≡ true → k ≡ SnapshotOrCleaner Make
kind_is Enter written t e = absurd (entered_none t e)
kind_is (Publish place) written t e = absurd (published_none (nat_lt 1 (length written)) e)
kind_is (SnapshotOrCleaner step) written t e = ap SnapshotOrCleaner (done_make step t e)
kind_is other written t e = cc

-- ---- it leaves cells and journals

abbrev pub Leaves : Shared → Shared → Type 0
Leaves s t = (t.cells ≡ s.cells) × (t.book.journals ≡ s.book.journals)

made_keeps : (k : Next) (block a : ℕ) (granted : Bool) (s : Shared) (h : HandState) (r : Running) → k ≡ SnapshotOrCleaner Make
    → AfterTurn (λ (t : Shared) (x : HandState). Leaves s t) (kind_turn k block a granted s h r)
made_keeps k block a granted s h r e =
    subst (λ (n : Next). AfterTurn (λ (t : Shared) (x : HandState). Leaves s t) (kind_turn n block a granted s h r)) (sym e)
    (turn_keeps (λ (t : Shared) (x : HandState). Leaves s t) (SnapshotOrCleaner Make) block a granted s h r (refl, refl) (refl, refl))

pub event_leaves : (w : World) (e : Event) → is_make (plain_change_of w e) ≡ true → Leaves w.shared (step w e).world.shared
event_leaves w e = event_deed (λ (d : PlainChange) (v : World). is_make d ≡ true → Leaves w.shared v.shared) w (λ make. cc) e
    (λ actor c there is make. cc)
    (λ actor granted r there is make. turned_shared (Leaves w.shared) (turn_at w actor granted r) actor w (refl, refl)
    (made_keeps r.next w.numbers.block actor granted w.shared (actor_at w actor).hand r
    (kind_is r.next (written_slots r) (turn_at w actor granted r) make)))

abbrev copies_by : List CellState → List (List OldTail) → Shared → ℕ → Handle → Option NodeCopy
copies_by cells journals s = settled_copies (record s { cells = cells; book = record s.book { journals = journals } })

pub make_copies : (w : World) (e : Event) → is_make (plain_change_of w e) ≡ true → (epoch : ℕ) (handle : Handle)
    → settled_copies (step w e).world.shared epoch handle ≡ settled_copies w.shared epoch handle
make_copies w e made epoch handle =
    let both = event_leaves w e made in
    let v = (step w e).world.shared in
    ap (λ (cells : List CellState). copies_by cells v.book.journals v epoch handle) both.0
    ∙ ap (λ (journals : List (List OldTail)). copies_by w.shared.cells journals v epoch handle) both.1

-- ---- the nodes at the end of this epoch are those of now

pub all_up : (commit epoch : ℕ) (log : List Entry) → AllByRecursion (λ (e : Entry). (e.id.commit < commit) × (e.epoch ≤ epoch)) log
    → up_to epoch log ≡ log
all_up commit epoch [] all = refl
all_up commit epoch (e ∷ log) all =
    ap (λ (b : Bool). cond b (e ∷ up_to epoch log) (up_to epoch log)) (le-leb e.epoch epoch all.0.1)
    ∙ ap (λ (l : List Entry). e ∷ l) (all_up commit epoch log all.1)

pub all_front : (P : Entry → Type 0) (n : ℕ) (log : List Entry) → AllByRecursion P log → AllByRecursion P (take n log)
all_front P zero [] all = tt
all_front P (suc n) [] all = tt
all_front P zero (e ∷ log) all = tt
all_front P (suc n) (e ∷ log) all = (all.0, all_front P n log all.1)

pub unstamped : (commit : ℕ) (node : Option NodeCopy) → option_map (λ (p : PlainNode). p.node) (stamped commit node) ≡ node
unstamped commit None = refl
unstamped commit (Some node) = refl

pub copies_now : (s : Shared) → AreLogsOrdered s → (handle : Handle)
    → settled_copies s s.book.snaps.epoch handle ≡ node_in (settled_nodes s) handle
copies_now s ordered handle = go (handle.generation == cell.generation) where
  cell : CellState
  cell = cell_at s handle.ino

  log : List Entry
  log = settled s handle.ino

  all : up_to s.book.snaps.epoch log ≡ log
  all = all_up (s.book.commit + 1) s.book.snaps.epoch log
      (all_front (λ (e : Entry). (e.id.commit < s.book.commit + 1) × (e.epoch ≤ s.book.snaps.epoch))
      (settled_tail s.book.journals handle.ino cell.chain.tail) cell.chain.entries (ordered handle.ino).earlier)

  go : (b : Bool) → (if b then node_now (bytes_among cell.blocks) cell.block (up_to s.book.snaps.epoch log) else None)
      ≡ option_map (λ (p : PlainNode). p.node) (if b then node_by cell log else None)
  go true = ap (node_now (bytes_among cell.blocks) cell.block) all
      ∙ sym (unstamped (last_commit log) (node_now (bytes_among cell.blocks) cell.block log))
  go false = refl
