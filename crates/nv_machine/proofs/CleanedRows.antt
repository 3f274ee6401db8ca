-- Worked rows of cleaners: a killer is cleaned away, whole pages are unlinked, and what a deferred record keeps stays.
use Rattle.std.proofs.Common.{◌≡◌, ◌++◌, ℕ, true, false, List, [], ◌∷◌, Some, None, length, map, refl}
use Rattle.nv_base.specs.declared.geometry.GeometryNumbers.{GeometryNumbers}
use Rattle.nv_base.specs.declared.node.Kind.{Kind}
use Rattle.nv_base.specs.declared.node.Kind.TheVariants as kind
use Rattle.nv_book.specs.Listed.{all_records}
use Rattle.nv_calls.specs.declared.answer.Answer.TheVariants as answer
use Rattle.nv_calls.specs.declared.call.Call.TheVariants as call
use Rattle.nv_calls.specs.declared.snapshot_or_cleaner_call.SnapshotOrCleanerCall.TheVariants as on
use Rattle.nv_cell.specs.Cell.{log_of}
use Rattle.nv_cell.specs.Marks.{is_there}
use Rattle.nv_book.specs.declared.record.Record.{Record}
use Rattle.nv_entry.specs.Log.{pairs}
use Rattle.nv_entry.specs.declared.held.Pair.{Pair}
use Rattle.nv_machine.specs.Format.{formatted}
use Rattle.nv_machine.specs.World.{Done, Reply, World, cell_at}
use Rattle.nv_machine.proofs.ScriptRows.{DoCall, Line, handle, line, play, played, shown, space}
use Rattle.nv_machine.proofs.SnapshotRows.{after_lines, made, page, snap, write}

-- the nodes of a tree that is replied
abbrev told : Reply → List (List (List ℕ) × (Kind × (ℕ × List ℕ)))
told (Done (answer.Tree nodes)) = map shown nodes
told reply = []

-- ---- a killer is cleaned away: the entry that made the first page's pair die goes, and a later one ends it now

abbrev killed_twice : List Line
killed_twice = made ++ snap ∷ write 98 ∷ snap ∷ DoCall 0 (call.SnapshotOrCleaner (on.Drop 2)) ∷ write 99 ∷ []

abbrev thorough : Line
thorough = DoCall 1 (call.SnapshotOrCleaner (on.Thorough 1))

abbrev behind : World
behind = after_lines (killed_twice ++ thorough ∷ [])

-- one entry goes, and no page
pub one_goes : (line (after_lines killed_twice) thorough).reply ≡ Done (answer.Cleaned true 1 0)
one_goes = refl

entries_before : length (cell_at (after_lines killed_twice).shared 1).chain.entries ≡ 4
entries_before = refl

entries_left : length (cell_at behind.shared 1).chain.entries ≡ 3
entries_left = refl

-- the records of the first size and of the first page have the death that they had
death_stored : map (λ (d : Record). d.birth ∷ d.death ∷ []) (all_records behind.shared.book.manifests)
    ≡ (1 ∷ 2 ∷ []) ∷ (1 ∷ 2 ∷ []) ∷ []
death_stored = refl

-- the scan of the log gives a later one: of the first write's two pairs
death_scanned : map (λ (pair : Pair). pair.death) (pairs 4 (log_of (cell_at behind.shared 1)))
    ≡ None ∷ None ∷ Some 1 ∷ Some 3 ∷ Some 3 ∷ None ∷ None ∷ []
death_scanned = refl

-- which of the parts of the entries left are not out: all but the first size, which died in its own epoch
parts_left : map is_there (cell_at behind.shared 1).marks ≡ true ∷ true ∷ false ∷ true ∷ true ∷ true ∷ true ∷ []
parts_left = refl

as_it_was : told (line behind (DoCall 0 (call.SnapshotOrCleaner (on.Show 1)))).reply
    ≡ ([], (kind.Dir, (493, []))) ∷ ((97 ∷ []) ∷ [], (kind.File, (420, page 97))) ∷ []
as_it_was = refl

-- a page of the log is in use as before
free_blocks : space behind ≡ 12 ∷ 2 ∷ 2 ∷ 0 ∷ 0 ∷ []
free_blocks = refl

-- ---- whole pages: of nine entries on pages of two the middle ones are overtaken

abbrev small : GeometryNumbers
small = record { blocks = 16; cpus = 2; block = 4; page = 2; inodes = 8; snaps = 4; actors = 3 }

abbrev modes : List Line
modes = map (λ mode. DoCall 0 (call.Mode (handle 1 1) mode)) (1 ∷ 2 ∷ 3 ∷ 4 ∷ 5 ∷ 6 ∷ 7 ∷ 8 ∷ [])

abbrev nine : World
nine = played (formatted small) (DoCall 0 (call.Create (handle 0 1) (97 ∷ []) 420) ∷ modes)

abbrev fast : Line
fast = DoCall 0 (call.SnapshotOrCleaner (on.Fast 1))

-- six entries go with three of eight pages; the three behind the last entry stay. Then none goes, by a fast cleaning and by
-- the one that the log asks for
pages_go : play nine (fast ∷ fast ∷ DoCall 0 (call.SnapshotOrCleaner (on.Auto 1)) ∷ [])
    ≡ Done (answer.Cleaned false 6 3) ∷ Done (answer.Cleaned false 0 0) ∷ Done (answer.Cleaned false 0 0) ∷ []
pages_go = refl

pages_free : space nine ∷ space (played nine (fast ∷ [])) ∷ [] ≡ (7 ∷ 9 ∷ 0 ∷ 0 ∷ 0 ∷ []) ∷ (10 ∷ 6 ∷ 0 ∷ 0 ∷ 0 ∷ []) ∷ []
pages_free = refl

-- a thorough cleaning takes seven of the nine entries, and of the eight pages all but one, those without an entry too
pages_counted : play nine (DoCall 0 (call.SnapshotOrCleaner (on.Thorough 1)) ∷ []) ≡ Done (answer.Cleaned true 7 7) ∷ []
pages_counted = refl

-- ---- a deferred record: what it alone keeps stays, and goes once a drain has released it

abbrev deferred : World
deferred = after_lines (made ++ snap ∷ write 98 ∷ DoCall 0 (call.SnapshotOrCleaner (on.Drop 1)) ∷ [])

kept_while_deferred : play deferred (thorough ∷ DoCall 0 (call.SnapshotOrCleaner (on.Drain 4)) ∷ thorough ∷ [])
    ≡ Done (answer.Cleaned true 0 0) ∷ Done (answer.Count 2) ∷ Done (answer.Cleaned true 1 0) ∷ []
kept_while_deferred = refl
