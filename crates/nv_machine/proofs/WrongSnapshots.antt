-- What the laws of snapshots refuse: wrong steps of a drop, a retire, a release, a write, a show and a
-- drain, at worked rows.
use Rattle.std.proofs.Common.{◌≡◌, ◌++◌, ℕ, true, List, [], ◌∷◌, Option, Some, None, ap, arith, length, refl}
use Rattle.std.specs.Prelude.{map, replicate, slice_index_or, slice_set}
use Rattle.nv_base.specs.declared.fault.Fault.TheVariants as fault
use Rattle.nv_book.specs.Listed.{IsRecordList, all_records, manifest_of}
use Rattle.nv_book.specs.declared.manifest.Manifest.{Manifest}
use Rattle.nv_book.specs.declared.record.Record.{Record}
use Rattle.nv_calls.specs.declared.answer.Answer.{Answer}
use Rattle.nv_calls.specs.declared.answer.Answer.TheVariants as answer
use Rattle.nv_calls.specs.declared.call.Call.TheVariants as call
use Rattle.nv_calls.specs.declared.snapshot_or_cleaner_call.SnapshotOrCleanerCall.TheVariants as on
use Rattle.nv_cell.specs.Cell.{CellState}
use Rattle.nv_entry.specs.declared.item.Entry.{Entry}
use Rattle.nv_entry.specs.declared.node.NodeCopy.{NodeCopy}
use Rattle.nv_entry.specs.declared.tree.TreeNode.{TreeNode}
use Rattle.nv_epoch.specs.SnapList.{ids, pins_of}
use Rattle.nv_machine.specs.Needed.{drained, free_but_needed}
use Rattle.nv_machine.specs.Numbers.{free_of}
use Rattle.nv_machine.specs.PlainRun.{Copy, plain_of}
use Rattle.nv_machine.specs.Reading.{ArePins, GoesBy, IsCopied, plain_tests, releases, shows_of}
use Rattle.nv_machine.specs.Recorded.{AreRecordedOnce, records_in}
use Rattle.nv_machine.specs.Settled.{settled_copies, snapshot_tree, tree_of}
use Rattle.nv_machine.specs.Step.{step}
use Rattle.nv_machine.specs.World.{Done, Drop, Event, Go, Refused, Start, World, cell_at, idle, list_at, with_book, with_cell}
use Rattle.nv_machine.proofs.ScriptRows.{DoCall, Goes, StartCall, device, handle}
use Rattle.nv_machine.proofs.SnapshotRows.{after_lines, deferring, made, page, snap, twice_held, twice_written, write}

-- a world whose book has these manifests and this deferred list
abbrev with_filed : List Manifest → List Record → World → World
with_filed manifests deferred w =
    record w { shared = with_book (record w.shared.book { manifests = manifests; deferred = deferred }) w.shared }

-- a world that an event leads to, where these were the records before it, does not have the records that it should
abbrev IsRefused : World → List Record → World → Type 0
IsRefused before rs w =
    IsRecordList (ids w.shared.book.snaps) w.shared.book.manifests w.shared.book.deferred (records_in before (Go 0 true) rs) → ⊥

-- ---- a drop: two snapshots hold the page and the size that a write has replaced, and the younger one goes

abbrev dropping_two : World
dropping_two = after_lines (twice_held ++ StartCall 0 (call.SnapshotOrCleaner (on.Drop 2)) ∷ [])

abbrev both : List Record
both = all_records dropping_two.shared.book.manifests

-- a drop that defers all, whoever holds it yet
deferred_all : IsRefused dropping_two both (with_filed (manifest_of 1 [] ∷ []) both (step dropping_two (Go 0 true)).world)
deferred_all e = let many : 2 ≡ 0 = ap (λ (ds : List Record). length ds) e.deferred_is in omega (arith, many)

-- and where no older snapshot holds them, a drop that defers nothing
abbrev dropping_one : World
dropping_one = after_lines (made ++ snap ∷ write 98 ∷ StartCall 0 (call.SnapshotOrCleaner (on.Drop 1)) ∷ [])

deferred_nothing : IsRefused dropping_one (all_records dropping_one.shared.book.manifests)
    (with_filed [] [] (step dropping_one (Go 0 true)).world)
deferred_nothing e = let many : 0 ≡ 2 = ap (λ (ds : List Record). length ds) e.deferred_is in omega (arith, many)

-- ---- a retire of a page that was born behind the only snapshot: one that records it there

abbrev retiring : World
retiring = after_lines (snap ∷ made ++ StartCall 0 (call.Write (handle 1 1) 0 (page 98)) ∷ Goes 0 7 ∷ [])

recorded_before_birth : (d : Record) → IsRefused retiring [] (with_filed (manifest_of 1 (d ∷ []) ∷ []) [] (step retiring (Go 0 true)).world)
recorded_before_birth d e =
    let many : 1 ≡ 0 = ap (λ (ms : List Manifest). length (all_records ms)) e.manifests_are in omega (arith, many)

-- ---- a release: the first record is that of the size, the part 3; one that leaves its mark

abbrev releasing : World
releasing = after_lines (deferring ++ StartCall 0 (call.SnapshotOrCleaner (on.Drain 9)) ∷ Goes 0 2 ∷ [])

abbrev still_marked : World
still_marked = let w = (step releasing (Go 0 true)).world in
    record w { shared = with_cell 1 (cell_at releasing.shared 1) w.shared }

left_marked : AreRecordedOnce still_marked → ⊥
left_marked e = let many : 0 ≡ 1 = e 1 3 in omega (arith, many)

-- ---- a write that was started before a snapshot and commits behind it: one whose entries are stamped at its start

abbrev across : World
across =
    after_lines (made ++ StartCall 0 (call.Write (handle 1 1) 0 (page 98)) ∷ Goes 0 3
    ∷ DoCall 1 (call.SnapshotOrCleaner on.Snap) ∷ Goes 0 99 ∷ [])

abbrev stamped_early : CellState → CellState
stamped_early cell =
    record cell { chain = record cell.chain { entries = map (λ (e : Entry). record e { epoch = 1 }) cell.chain.entries } }

abbrev stamped_at_start : World
stamped_at_start = record across { shared = with_cell 1 (stamped_early (cell_at across.shared 1)) across.shared }

abbrev first_byte : Option NodeCopy → ℕ
first_byte None = 0
first_byte (Some node) = slice_index_or node.bytes 0 0

as_made : first_byte (settled_copies across.shared 1 (handle 1 1)) ≡ 97
as_made = refl

as_written : first_byte (settled_copies stamped_at_start.shared 1 (handle 1 1)) ≡ 98
as_written = refl

no_copy : (copy : Copy) → first_byte (copy.nodes (handle 1 1)) ≡ 97
    → IsCopied stamped_at_start.shared (record { number = 1; pins = 0 }) copy → ⊥
no_copy copy was e =
    let same = ap first_byte (e.nodes (handle 1 1)) in
    omega (arith, was, same, as_written)

-- ---- a show that tells the tree of now

abbrev written_since : World
written_since = after_lines twice_written

abbrev byte_of : List TreeNode → ℕ
byte_of nodes = slice_index_or (slice_index_or (map (λ (n : TreeNode). n.node.bytes) nodes) 1 []) 0 0

abbrev byte_told : Answer → ℕ
byte_told (answer.Tree nodes) = byte_of nodes
byte_told other = 0

byte_then : byte_told (answer.Tree (snapshot_tree written_since 1)) ≡ 97
byte_then = refl

byte_now : byte_told (answer.Tree (tree_of written_since)) ≡ 99
byte_now = refl

shown_now : answer.Tree (tree_of written_since) ≡ answer.Tree (snapshot_tree written_since 1) → ⊥
shown_now e = let same = ap byte_told e in omega (arith, same, byte_then, byte_now)

-- ---- a show that is refused and leaves its pin; and a drop that heeds no pin

abbrev showing : World
showing = after_lines (snap ∷ StartCall 0 (call.SnapshotOrCleaner (on.Show 1)) ∷ Goes 0 1 ∷ [])

one_pin : ArePins (shows_of 1 showing) (pins_of showing.shared.book.snaps 1)
one_pin = refl

abbrev left_pinned : World
left_pinned = record showing { actors = slice_set showing.actors 0 idle }

pin_left : ArePins (shows_of 1 left_pinned) (pins_of left_pinned.shared.book.snaps 1) → ⊥
pin_left e = let many : 1 ≡ 0 = e in omega (arith, many)

dropped_while_shown : GoesBy (plain_tests 4 (Drop 1) (plain_of showing)) (Done answer.Nothing) → ⊥
dropped_while_shown e = let same : Done answer.Nothing ≡ Refused fault.Pinned = e in cc

-- ---- a drain of two records: one that counts its picks, the last of which finds nothing

abbrev draining : World
draining = (step (after_lines deferring) (Start 0 (call.SnapshotOrCleaner (on.Drain 9)))).world

abbrev goes_on : List Event
goes_on = replicate 14 (Go 0 true)

two_released : releases 0 draining goes_on ≡ 2
two_released = refl

picks_counted : 3 ≡ releases 0 draining goes_on → ⊥
picks_counted e = omega (arith, e, two_released)

-- ---- once both are drained block 2 is free, and it is not before

two_answered : drained (after_lines deferring) (Start 0 (call.SnapshotOrCleaner (on.Drain 9)) ∷ goes_on) ≡ 2
two_answered = refl

free_then : free_but_needed device (after_lines (deferring ++ DoCall 0 (call.SnapshotOrCleaner (on.Drain 9)) ∷ [])) 0
    ≡ 2 ∷ 4 ∷ 5 ∷ 6 ∷ 7 ∷ []
free_then = refl

not_needed : free_but_needed device (after_lines deferring) 0 ≡ 2 ∷ 4 ∷ 5 ∷ 6 ∷ 7 ∷ []
not_needed = refl

deferred_yet : free_of (list_at (after_lines deferring).shared 0) ≡ 4 ∷ 5 ∷ 6 ∷ 7 ∷ []
deferred_yet = refl
