-- A cleaning keeps what marks say of every slot.
use Rattle.std.proofs.Common.{◌≡◌, ◌∙◌, ℕ, ◌<◌, ◌≤◌, ◌++◌, Bool, List, [], Option, None, ap, length, refl, subst, sym}
use Rattle.std.specs.List.{AllByRecursion}
use Rattle.nv_book.specs.Records.{holder_of}
use Rattle.nv_book.specs.declared.record.Record.{Record}
use Rattle.nv_cell.specs.Cell.{CellState, log_of}
use Rattle.nv_entry.specs.Log.{IsLog}
use Rattle.nv_epoch.specs.SnapList.{ids}
use Rattle.nv_machine.specs.Held.{killed_by_actor, killed_by_call, killed_in, picked_by_actor, picked_by_call, retention_at}
use Rattle.nv_machine.specs.Step.{changed}
use Rattle.nv_machine.specs.World.{HandState, Running, Shared, World, actor_at, cell_at, with_cell}
use Rattle.nv_machine.proofs.CleanedCells.{Cleans}
use Rattle.nv_machine.proofs.CleanedMarks.{cleaned_marks}
use Rattle.nv_machine.proofs.FiledCommits.{one_cell}
use Rattle.nv_machine.proofs.FiledSteps.{none_fresh}
use Rattle.nv_machine.proofs.FiledWorlds.{AreMarked, marks_as, picked_in, same_killed, same_picked}

-- the slot is its actor's, so that no part of it is killed and not yet retired
pub clean_marked : (w : World) (a slot : ℕ) (rs : List Record) (h : HandState) (running : Option Running) (flags : List Bool)
    (new : CellState) → Cleans (retention_at w slot) flags (cell_at w.shared slot) new → slot < length w.shared.cells
    → IsLog (log_of (cell_at w.shared slot)) → killed_in w slot ≡ []
    → ((ino : ℕ) → killed_by_call running h ino ≡ killed_by_actor ino (actor_at w a))
    → picked_by_call running ≡ picked_by_actor (actor_at w a) → AreMarked w rs
    → AreMarked (changed (with_cell slot new w.shared) h running a w) rs
clean_marked w a slot rs h running flags new cleans low is none killed picked m =
    let s : Shared = w.shared in
    let living = ids s.book.snaps in
    let epoch = s.book.snaps.epoch in
    let old : CellState = cell_at s slot in
    let t : Shared = with_cell slot new s in
    let v : World = changed t h running a w in
    let killed_same : (ino : ℕ) → killed_in v ino ≡ killed_in w ino = λ ino. same_killed w a ino t h running (killed ino) in
    let picked_same : picked_in v ≡ picked_in w = same_picked w a t h running picked in
    let records : rs ++ picked_in v ≡ rs ++ picked_in w = ap (λ (l : List Record). rs ++ l) picked_same in
    one_cell w a slot rs rs t h running new (λ ino. refl) refl low
    (marks_as living slot epoch [] (killed_in v slot) (rs ++ picked_in w) (rs ++ picked_in v) new (killed_same slot ∙ none) records
    (cleaned_marks (retention_at w slot) flags old new cleans slot epoch (rs ++ picked_in w) is
    (marks_as living slot epoch (killed_in w slot) [] (rs ++ picked_in w) (rs ++ picked_in w) old (sym none) refl (m.cells slot))))
    (λ ino ne. marks_as living ino epoch (killed_in w ino) (killed_in v ino) (rs ++ picked_in w) (rs ++ picked_in v) (cell_at s ino)
    (killed_same ino) records (m.cells ino))
    (none_fresh epoch new cleans.tail)
    (subst (AllByRecursion (λ d. holder_of living d ≡ None)) (sym picked_same) m.unheld)
    (subst (AllByRecursion (λ (d : Record). d.death ≤ epoch)) (sym picked_same) m.dead) m
