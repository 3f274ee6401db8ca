-- The copies of the living snapshots, in every world that events lead to.
use Rattle.nv_book.specs.declared.record.Record.{Record}
use Rattle.std.proofs.Common.{map, zero, suc, arith, ◌≡◌, ℕ, ◌++◌, ◌∙◌, List, [], ◌∷◌, length, refl, subst, sym}
use Rattle.std.specs.List.{Contains}
use Rattle.nv_base.specs.declared.geometry.GeometryNumbers.{GeometryNumbers}
use Rattle.nv_base.specs.declared.numbers.Handle.{Handle}
use Rattle.nv_calls.specs.Plain.{node_in}
use Rattle.nv_entry.specs.Tree.{FormTree, root}
use Rattle.nv_epoch.specs.SnapList.{ids, numbers}
use Rattle.nv_machine.specs.Directories.{AreTree}
use Rattle.nv_machine.specs.PlainRun.{copy_in, Plain, plain_after, plain_of, plain_step}
use Rattle.nv_machine.specs.Reading.{AreCopied}
use Rattle.nv_machine.specs.Settled.{settled_copies, settled_nodes}
use Rattle.nv_machine.specs.Starts.{IsStart}
use Rattle.nv_machine.specs.Step.{after, step}
use Rattle.nv_epoch.specs.declared.snapshot.Snapshot.{Snapshot}
use Rattle.nv_machine.specs.World.{Shared, Event, World}
use Rattle.nv_machine.proofs.EveryWorld.{all_parts, reached}
use Rattle.nv_machine.proofs.CopiesKept.{IsWhole, ReadsAs, copied, event_alike, stays, whole}
use Rattle.nv_machine.proofs.CopyMarks.{all_have_marks}
use Rattle.nv_machine.proofs.CopyRuns.{IsReadable, cells_stay}
use Rattle.nv_machine.proofs.DirectoriesChanged.{some_directory}
use Rattle.nv_machine.proofs.DirectoryLaws.{all_numbered, all_trees}
use Rattle.nv_machine.proofs.OverEvents.{events_by}
use Rattle.nv_machine.proofs.FitsPlain.{plain_nodes}
use Rattle.nv_machine.proofs.SnapRuns.{all_bare, in_step}
use Rattle.nv_machine.proofs.SnapSteps.{AreBare}
use Rattle.nv_machine.proofs.SnapshotCopies.{AreAlike}
use Rattle.nv_machine.proofs.TreeNumbers.{copies_by_numbers}

pub events_cells : (events : List Event) (w : World) → length (after w events).shared.cells ≡ length w.shared.cells
events_cells events w = events_by (λ (v : World). Unit {0}) (λ (v : World). length v.shared.cells ≡ length w.shared.cells)
    (λ v e known same. cells_stay v e ∙ same) events w (λ before. tt) refl

pub after_one : (events : List Event) (w : World) (e : Event) → (step (after w events) e).world ≡ after w (events ++ e ∷ [])
after_one [] w e = refl
after_one (x ∷ events) w e = after_one events (step w x).world e

-- what is known of a world beside the plain world
pub record IsRead (g : GeometryNumbers) (inodes : ℕ) (w : World) (p : Plain) : Type 0 where
  pub readable : IsReadable g w
  pub bare : AreBare w
  pub epoch : w.shared.book.snaps.epoch ≡ p.epoch
  pub nodes : (handle : Handle) → settled_nodes w.shared handle ≡ p.nodes handle
  pub now : IsWhole inodes (node_in (settled_nodes w.shared))

abbrev pub AllReadAs : ℕ → World → Plain → Type 0
AllReadAs inodes w p = AreAlike (ReadsAs inodes w.shared) w.shared.book.snaps.living p.copies

pub events_read : (g : GeometryNumbers) (inodes : ℕ) (events : List Event) (w : World) (p : Plain)
    → ((before : List Event) → IsRead g inodes (after w before) (plain_after w before p)) → AllReadAs inodes w p
    → AllReadAs inodes (after w events) (plain_after w events p)
events_read g inodes [] w p known are = are
events_read g inodes (e ∷ events) w p known are =
    let a = known [] in
    events_read g inodes events (step w e).world (plain_step w e p) (λ before. known (e ∷ before))
    (event_alike g inodes w e a.readable (known (e ∷ [])).readable a.bare p a.epoch a.nodes a.now are)

copied_read : (s : Shared) (inodes : ℕ) (living : List Snapshot)
    → ((n : ℕ) → Contains (numbers living) n → IsWhole inodes (settled_copies s n))
    → AreAlike (ReadsAs inodes s) living (map (copy_in s) living)
copied_read s inodes [] each = tt
copied_read s inodes (snapshot ∷ living) each = (
  record { number = refl; pins = refl; nodes = (λ handle. refl, each snapshot.number (zero, omega arith, refl)) },
  copied_read s inodes living (λ n there. each n (suc there.0, omega (arith, there.1), there.2)),
)

-- a snapshot whose directories form a tree reads as whole
whole_tree : (s : Shared) (snapshot : ℕ) → AreTree (settled_copies s snapshot) → IsWhole (length s.cells) (settled_copies s snapshot)
whole_tree s snapshot tree = record {
  tree = copies_by_numbers s snapshot tree;
  top = some_directory (settled_copies s snapshot root) tree.one_name.top;
  leads = tree.one_name.leads;
  one_tree = tree;
}

module _ (g : GeometryNumbers) (start : World) (records : List Record) (is_start : IsStart g start records) where
  abbrev at : List Event → World
  at events = after start events

  abbrev beside : List Event → Plain
  beside events = plain_after start events (plain_of start)

  abbrev inodes : ℕ
  inodes = length start.shared.cells

  pub readable : (events : List Event) → IsReadable g (at events)
  readable events = record {
    reached = reached g start records events is_start;
    parts = all_parts g start records events is_start;
    marks = all_have_marks g start records is_start events;
    before = (in_step g start records events is_start).before;
  }

  is_read : (events : List Event) → IsRead g inodes (at events) (beside events)
  is_read events = record {
    readable = readable events;
    bare = all_bare g start records events is_start;
    epoch = (in_step g start records events is_start).epoch;
    nodes = λ handle. plain_nodes g start records events is_start handle;
    now = record {
      tree = subst (FormTree (node_in (settled_nodes (at events).shared))) (events_cells events start)
          (all_numbered g start records events is_start);
      top = some_directory (node_in (settled_nodes (at events).shared) root) (all_trees g start records events is_start).one_name.top;
      leads = (all_trees g start records events is_start).one_name.leads;
      one_tree = all_trees g start records events is_start;
    };
  }

  pub all_read : (events : List Event) → AllReadAs inodes (at events) (beside events)
  all_read events = events_read g inodes events start (plain_of start) is_read
      (copied_read start.shared inodes start.shared.book.snaps.living
      (λ snapshot lives. whole_tree start.shared snapshot (is_start.copies snapshot lives)))

  pub all_copied : (events : List Event) → AreCopied (at events).shared (at events).shared.book.snaps.living (beside events).copies
  all_copied events =
      copied inodes (at events).shared (at events).shared.book.snaps.living (beside events).copies (all_read events)

  pub all_whole : (events : List Event) (snapshot : ℕ) → Contains (ids (at events).shared.book.snaps) snapshot
      → IsWhole (length (at events).shared.cells) (settled_copies (at events).shared snapshot)
  all_whole events snapshot lives =
      subst (λ (n : ℕ). IsWhole n (settled_copies (at events).shared snapshot)) (sym (events_cells events start))
      (whole inodes (at events).shared (at events).shared.book.snaps.living (beside events).copies snapshot (all_read events) lives)

  pub all_form_trees : (events : List Event) (snapshot : ℕ) → Contains (ids (at events).shared.book.snaps) snapshot
      → FormTree (settled_copies (at events).shared snapshot) (length (at events).shared.cells)
  all_form_trees events snapshot lives = (all_whole events snapshot lives).tree

  pub all_stay : (events : List Event) (e : Event) (n : ℕ) → Contains (ids (step (at events) e).world.shared.book.snaps) n
      → (handle : Handle) → settled_copies (step (at events) e).world.shared n handle ≡ settled_copies (at events).shared n handle
  all_stay events e =
      stays g (at events) e (readable events)
      (subst (IsReadable g) (sym (after_one events start e)) (readable (events ++ e ∷ [])))
      (all_bare g start records events is_start)
