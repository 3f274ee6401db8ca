-- Worked rows of snapshots: born and dead in one epoch, born behind the snapshot, deferred is not free, a record
-- moves down, and refusals.
use Rattle.std.proofs.Common.{◌≡◌, ◌++◌, ℕ, false, List, [], ◌∷◌, Some, None, map, refl}
use Rattle.nv_base.specs.declared.fault.Fault.TheVariants as fault
use Rattle.nv_base.specs.declared.node.Kind.{Kind}
use Rattle.nv_base.specs.declared.node.Kind.TheVariants as kind
use Rattle.nv_book.specs.Manifests.{gain_of, held_of}
use Rattle.nv_calls.specs.declared.answer.Answer.TheVariants as answer
use Rattle.nv_calls.specs.declared.call.Call.TheVariants as call
use Rattle.nv_calls.specs.declared.snapshot_or_cleaner_call.SnapshotOrCleanerCall.TheVariants as on
use Rattle.nv_epoch.specs.SnapList.{ids}
use Rattle.nv_machine.specs.Format.{formatted}
use Rattle.nv_machine.specs.Step.{step}
use Rattle.nv_machine.specs.World.{Done, Go, Moved, Refused, Reply, Started, World}
use Rattle.nv_machine.proofs.ScriptRows.{DoCall, Goes, Line, StartCall, device, handle, line, play, played, shown, space}
use Rattle.nv_base.specs.Memory.{out_of_memory}

abbrev pub snap : Line
snap = DoCall 0 (call.SnapshotOrCleaner on.Snap)

abbrev dropping : ℕ → ℕ → Line
dropping actor snapshot = DoCall actor (call.SnapshotOrCleaner (on.Drop snapshot))

-- a page of four equal bytes
abbrev pub page : ℕ → List ℕ
page byte = byte ∷ byte ∷ byte ∷ byte ∷ []

abbrev pub write : ℕ → Line
write byte = DoCall 0 (call.Write (handle 1 1) 0 (page byte))

-- a file with a page
abbrev pub made : List Line
made = DoCall 0 (call.Create (handle 0 1) (97 ∷ []) 420) ∷ write 97 ∷ []

abbrev pub after_lines : List Line → World
after_lines lines = played (formatted device) lines

-- the nodes of a tree that is replied
abbrev told : Reply → List (List (List ℕ) × (Kind × (ℕ × List ℕ)))
told (Done (answer.Tree nodes)) = map shown nodes
told reply = []

-- ---- born and dead in one epoch: the second page is free as soon as the third is written, and the first is held

abbrev pub twice_written : List Line
twice_written = made ++ snap ∷ write 98 ∷ write 99 ∷ []

both_done : play (formatted device) twice_written
    ≡ Done (answer.Made (handle 1 1)) ∷ Done (answer.Count 4) ∷ Done (answer.Snapshot 1) ∷ Done (answer.Count 4)
    ∷ Done (answer.Count 4) ∷ []
both_done = refl

one_held : space (after_lines twice_written) ≡ 12 ∷ 2 ∷ 2 ∷ 0 ∷ 0 ∷ []
one_held = refl

held_by_one : held_of 1 (after_lines twice_written).shared.book.manifests ≡ 1
held_by_one = refl

as_it_was : told (line (after_lines twice_written) (DoCall 0 (call.SnapshotOrCleaner (on.Show 1)))).reply
    ≡ ([], (kind.Dir, (493, []))) ∷ ((97 ∷ []) ∷ [], (kind.File, (420, page 97))) ∷ []
as_it_was = refl

-- ---- born behind the snapshot: what a write replaces is held by none, and its block is free

abbrev born_later : List Line
born_later = snap ∷ made ++ write 98 ∷ []

none_held : space (after_lines born_later) ≡ 13 ∷ 2 ∷ 1 ∷ 0 ∷ 0 ∷ []
none_held = refl

held_by_none : held_of 1 (after_lines born_later).shared.book.manifests ≡ 0
held_by_none = refl

-- ---- deferred is not free, until it is drained: the page and its key

abbrev pub deferring : List Line
deferring = made ++ snap ∷ write 98 ∷ dropping 0 1 ∷ []

not_free : space (after_lines deferring) ≡ 12 ∷ 2 ∷ 1 ∷ 1 ∷ 0 ∷ []
not_free = refl

drained : play (after_lines deferring) (DoCall 0 (call.SnapshotOrCleaner (on.Drain 9)) ∷ []) ≡ Done (answer.Count 2) ∷ []
drained = refl

free_then : space (after_lines (deferring ++ DoCall 0 (call.SnapshotOrCleaner (on.Drain 9)) ∷ [])) ≡ 13 ∷ 2 ∷ 1 ∷ 0 ∷ 0 ∷ []
free_then = refl

-- ---- a record moves down

abbrev pub twice_held : List Line
twice_held = made ++ snap ∷ snap ∷ write 98 ∷ []

held_by_both : held_of 1 (after_lines twice_held).shared.book.manifests ∷ held_of 2 (after_lines twice_held).shared.book.manifests ∷ []
    ≡ 1 ∷ 1 ∷ []
held_by_both = refl

no_gain : gain_of 1 None (after_lines twice_held).shared.book.manifests
    ∷ gain_of 2 (Some 1) (after_lines twice_held).shared.book.manifests ∷ [] ≡ 0 ∷ 0 ∷ []
no_gain = refl

moved_down : gain_of 1 None (after_lines (twice_held ++ dropping 0 2 ∷ [])).shared.book.manifests ≡ 1
moved_down = refl

deferred_then : space (after_lines (twice_held ++ dropping 0 2 ∷ dropping 0 1 ∷ [])) ≡ 12 ∷ 2 ∷ 1 ∷ 1 ∷ 0 ∷ []
deferred_then = refl

-- ---- refusals: no such snapshot, too many, and one that is shown

abbrev four : List Line
four = dropping 0 7 ∷ snap ∷ snap ∷ snap ∷ snap ∷ snap ∷ []

refused : play (formatted device) (four ++ StartCall 0 (call.SnapshotOrCleaner (on.Show 2)) ∷ Goes 0 1 ∷ dropping 1 2 ∷ [])
    ≡ Refused fault.NoSnapshot ∷ Done (answer.Snapshot 1) ∷ Done (answer.Snapshot 2) ∷ Done (answer.Snapshot 3)
    ∷ Done (answer.Snapshot 4) ∷ Refused fault.TooManySnapshots ∷ Started ∷ Moved ∷ Refused fault.Pinned ∷ []
refused = refl

abbrev showing_two : World
showing_two = after_lines (four ++ StartCall 0 (call.SnapshotOrCleaner (on.Show 2)) ∷ Goes 0 1 ∷ [])

shown_then : told (line showing_two (Goes 0 99)).reply ≡ ([], (kind.Dir, (493, []))) ∷ []
shown_then = refl

dropped_then : play showing_two (Goes 0 99 ∷ dropping 1 2 ∷ []) ≡ (line showing_two (Goes 0 99)).reply ∷ Done answer.Nothing ∷ []
dropped_then = refl

three_left : ids (played showing_two (Goes 0 99 ∷ dropping 1 2 ∷ [])).shared.book.snaps ≡ 1 ∷ 3 ∷ 4 ∷ []
three_left = refl

-- a show whose memory is refused takes its pin off
abbrev show_refused : World
show_refused = (step showing_two (Go 0 false)).world

unpinned_then : play show_refused (dropping 1 2 ∷ Goes 0 9 ∷ dropping 1 2 ∷ [])
    ≡ Refused fault.Pinned ∷ Refused out_of_memory ∷ Done answer.Nothing ∷ []
unpinned_then = refl
