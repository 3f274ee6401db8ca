-- Worked rows of stops in a world with numbers: deferred is free at once, a gone inode is erased, a
-- page without an entry goes, and records stand by inode number.
use Rattle.std.proofs.Common.{◌≡◌, ℕ, List, [], ◌∷◌, codes, map, refl}
use Rattle.nv_book.specs.declared.record.Record.{Record}
use Rattle.nv_calls.specs.declared.call.Call.TheVariants as call
use Rattle.nv_calls.specs.declared.snapshot_or_cleaner_call.SnapshotOrCleanerCall.TheVariants as on
use Rattle.nv_serial.specs.Free.{used_by}
use Rattle.nv_serial.specs.Reports.{lists_told, tree_told}
use Rattle.nv_serial.specs.Serial.{Serial}
use Rattle.nv_serial.specs.Stopped.{serial_stopped}
use Rattle.nv_serial.proofs.FileRows.{new}
use Rattle.nv_serial.proofs.GrowthRows.{grown}
use Rattle.nv_serial.proofs.Scripts.{Line, by, counted, create, file_shown, handle, line, log, made_as, maintain, nothing, play, played, root_shown, shown, snapped, snaps, space, unlink, write}
use Rattle.nv_serial.proofs.SnapshotRows.{deferred}

-- ---- deferred is free after a stop, and nothing is left for a drain

abbrev freed : Serial
freed = serial_stopped deferred

freed_space : space freed ≡ 13 ∷ 2 ∷ 1 ∷ 0 ∷ []
freed_space = refl

freed_drained : (line freed (maintain (on.Drain 9))).reply ≡ counted 0
freed_drained = refl

-- ---- a gone inode is erased, and its number comes again

abbrev over_lines : List Line
over_lines =
    create (codes "a") ∷ maintain on.Snap ∷ unlink (codes "a") ∷ create (codes "b")
    ∷ maintain (on.Drop 1) ∷ []

over_replies : play new over_lines ≡ made_as 1 1 ∷ snapped 1 ∷ nothing ∷ made_as 2 1 ∷ nothing ∷ []
over_replies = refl

over_space : space (played new over_lines) ≡ 13 ∷ 3 ∷ 0 ∷ 0 ∷ []
over_space = refl

abbrev over : Serial
over = serial_stopped (played new over_lines)

stopped_space : space over ≡ 14 ∷ 2 ∷ 0 ∷ 0 ∷ []
stopped_space = refl

stopped_made : (line over (create (codes "c"))).reply ≡ made_as 1 2
stopped_made = refl

stopped_tree : map shown (tree_told over) ≡ root_shown ∷ file_shown (codes "b" ∷ []) [] ∷ []
stopped_tree = refl

-- ---- a page without an entry goes, and the others stay

abbrev shorter : Serial
shorter = serial_stopped grown

shorter_blocks : used_by shorter 1 ≡ 1 ∷ 10 ∷ 11 ∷ 3 ∷ 7 ∷ 9 ∷ []
shorter_blocks = refl

shorter_log : log shorter 1 ≡ (5, (2 ∷ 2 ∷ []) ∷ (2 ∷ 2 ∷ []) ∷ (1 ∷ 1 ∷ []) ∷ [])
shorter_log = refl

shorter_lists : lists_told shorter ≡ [] ∷ (12 ∷ 13 ∷ 14 ∷ 15 ∷ []) ∷ []
shorter_lists = refl

-- ---- what a snapshot holds stays, with its records by inode number

abbrev other : List ℕ → Line
other text = by 0 (call.Write (handle 2 1) 0 text)

abbrev held : Serial
held = played new (
    create (codes "a") ∷ create (codes "b") ∷ write 0 (codes "aaaa") ∷ other (codes "bbbb")
    ∷ maintain on.Snap ∷ other (codes "BBBB") ∷ write 0 (codes "AAAA") ∷ [])

abbrev inodes : Serial → List ℕ
inodes s = map (λ (r : Record). r.ino) s.records

held_inodes : inodes held ≡ 2 ∷ 2 ∷ 1 ∷ 1 ∷ []
held_inodes = refl

stopped_inodes : inodes (serial_stopped held) ≡ 1 ∷ 1 ∷ 2 ∷ 2 ∷ []
stopped_inodes = refl

held_snaps : snaps held ≡ (2 ∷ 6 ∷ []) ∷ (1 ∷ 2 ∷ 2 ∷ []) ∷ []
held_snaps = refl

stopped_snaps : snaps (serial_stopped held) ≡ (2 ∷ 6 ∷ []) ∷ (1 ∷ 2 ∷ 2 ∷ []) ∷ []
stopped_snaps = refl
