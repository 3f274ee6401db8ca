-- What shows are answered, in every world that events lead to.
use Rattle.nv_book.specs.declared.record.Record.{Record}
use Rattle.std.proofs.Common.{◌≡◌, ℕ, ◌≤◌, ◌==◌, ◌-◌, ◌∙◌, Bool, true, if◌then◌else◌, List, length, Some, None, IsSome, ap, arith, refl, subst, sym, take}
use Rattle.std.specs.List.{Contains}
use Rattle.std.proofs.lemmas.Option.{none-some}
use Rattle.nv_base.specs.declared.geometry.GeometryNumbers.{GeometryNumbers}
use Rattle.nv_base.specs.declared.limits.TheConstants.{INODES}
use Rattle.nv_base.specs.declared.numbers.Handle.{Handle}
use Rattle.nv_calls.specs.declared.answer.Answer.{Answer}
use Rattle.nv_calls.specs.declared.answer.Answer.TheVariants as answers
use Rattle.nv_cell.specs.Cell.{empty_cell, log_of}
use Rattle.nv_cell.proofs.Publishing.{take_whole}
use Rattle.nv_entry.specs.Node.{node_at}
use Rattle.nv_entry.specs.Tree.{root}
use Rattle.nv_entry.specs.declared.item.Entry.{Entry}
use Rattle.nv_entry.specs.declared.tree.TreeNode.{TreeNode}
use Rattle.nv_epoch.specs.SnapList.{ids, pins_of}
use Rattle.nv_machine.specs.Grown.{AreGrown}
use Rattle.nv_machine.specs.Reading.{pins_at}
use Rattle.nv_machine.specs.Reads.{bytes_among}
use Rattle.nv_machine.specs.Settled.{settled, settled_copies, snapshot_tree}
use Rattle.nv_machine.specs.SnapshotOrCleaner.{copies_at, first_showing}
use Rattle.nv_machine.specs.Starts.{IsStart}
use Rattle.nv_machine.specs.Step.{after, step}
use Rattle.nv_machine.specs.World.{Actor, Done, Event, Go, Running, SnapshotOrCleaner, Unpin, World, actor_at, cell_at, owner_at}
use Rattle.nv_machine.proofs.EveryWorld.{reached}
use Rattle.nv_machine.proofs.CopiesAll.{all_stay, all_whole, events_cells}
use Rattle.nv_epoch.proofs.Pins.{lives-from_pins}
use Rattle.nv_machine.proofs.Lists.{self}
use Rattle.nv_machine.proofs.LocksOverEvents.{many_same}
use Rattle.nv_machine.proofs.Pins.{pins_of_shows}
use Rattle.nv_machine.proofs.ShowRuns.{AllShow, IsShown, events_show, show_told, shown_lives}
use Rattle.nv_machine.proofs.Showing.{IsSeen, tree_by}
use Rattle.nv_machine.proofs.SnapRuns.{all_bare}
use Rattle.nv_machine.proofs.WalkBounds.{root_few}
use Rattle.nv_reader.proofs.Coming.{whole as tree_to_come}

-- a cell that nobody holds is read as its settled log says
free_copies : (w : World) → AreGrown w → (snapshot : ℕ) (handle : Handle) → owner_at w.shared handle.ino ≡ None
    → copies_at w.shared snapshot handle ≡ settled_copies w.shared snapshot handle
free_copies w grown snapshot handle none =
    let cell = cell_at w.shared handle.ino in
    let es = cell.chain.entries in
    let free = grown.free handle.ino none in
    let same : log_of cell ≡ settled w.shared handle.ino =
    ap (λ (n : ℕ). take n es) free.tail ∙ take_whole es ∙ free.entries in
    ap (λ (log : List Entry). if handle.generation == cell.generation
    then node_at (bytes_among cell.blocks) cell.block snapshot log
    else None) same

many_cells : (g : GeometryNumbers) (start : World) (records : List Record) (events : List Event) → IsStart g start records
    → length (after start events).shared.cells ≤ INODES
many_cells g start records events is_start =
    omega (
      arith,
      events_cells events start,
      many_same (g.inodes - 1) (empty_cell g.block g.page 1 0),
      is_start.limits.inodes_fit,
      is_start.limits.some_inodes,
    )

module _ (g : GeometryNumbers) (start : World) (records : List Record) (is_start : IsStart g start records) where
  abbrev at : List Event → World
  at events = after start events

  first_seen : (events : List Event) (snapshot pins : ℕ) → pins_of (at events).shared.book.snaps snapshot ≡ Some pins
      → IsSeen (settled_copies (at events).shared snapshot)
      (tree_by (settled_copies (at events).shared) (length (at events).shared.cells) snapshot) (first_showing (at events).shared)
  first_seen events snapshot pins is =
      let copies = settled_copies (at events).shared snapshot in
      let inodes = length (at events).shared.cells in
      let lives = lives-from_pins (at events).shared.book.snaps.living snapshot (subst IsSome (sym is) refl) in
      let whole = all_whole g start records is_start events snapshot lives in
      record {
        seen = tree_to_come copies inodes root;
        enough = omega (arith, root_few copies whole.leads inodes inodes whole.tree whole.top, many_cells g start records events is_start);
      }

  is_shown : (events : List Event) → IsShown (at events)
  is_shown events = record {
    bare = all_bare g start records events is_start;
    found = free_copies (at events) (reached g start records events is_start).grown;
    first = first_seen events;
    pinned = λ snapshot. pins_of_shows g start records events snapshot is_start;
  }

  none_shown : AllShow start
  none_shown actor r is =
      absurd (none-some r (sym (ap (λ (x : Actor). x.running) (is_start.idle_all actor)) ∙ is))

  all_show : (events : List Event) → AllShow (at events)
  all_show events =
      events_show events start is_shown (λ before e. all_stay g start records is_start before e) none_shown

  pub all_told : (events : List Event) (actor snapshot : ℕ) (granted : Bool) (r : Running) (seen : List TreeNode) (told : Answer)
      → (actor_at (at events) actor).running ≡ Some r → r.next ≡ SnapshotOrCleaner (Unpin snapshot seen)
      → (step (at events) (Go actor granted)).reply ≡ Done told
      → (told ≡ answers.Tree (snapshot_tree (at events) snapshot)) × Contains (ids (at events).shared.book.snaps) snapshot
  all_told events actor snapshot granted r seen told is next reply = (
    show_told (at events) actor snapshot granted r seen told (all_show events) is next reply,
    shown_lives (at events) actor snapshot r (pins_of_shows g start records events snapshot is_start) is
        (subst (λ k. pins_at snapshot k ≡ true) (sym next) (self snapshot)),
  )
