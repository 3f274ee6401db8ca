-- Worked rows of a rename over a file in a world with numbers: the file that is replaced is erased in that call, and where a
-- snapshot holds it, with its last record.
use Rattle.std.proofs.Common.{◌≡◌, ℕ, List, [], ◌∷◌, codes, map, refl}
use Rattle.nv_base.specs.declared.fault.Fault.TheVariants as fault
use Rattle.nv_book.specs.declared.record.Record.{Record}
use Rattle.nv_calls.specs.declared.call.Call.TheVariants as call
use Rattle.nv_calls.specs.declared.snapshot_or_cleaner_call.SnapshotOrCleanerCall.TheVariants as on
use Rattle.nv_entry.specs.declared.part.Part.{Part}
use Rattle.nv_entry.specs.declared.part.Part.TheVariants as part
use Rattle.nv_machine.specs.World.{Refused}
use Rattle.nv_serial.specs.Reports.{lists_told, tree_told}
use Rattle.nv_serial.specs.Serial.{Serial}
use Rattle.nv_serial.proofs.FileRows.{from_eight, new}
use Rattle.nv_serial.proofs.Scripts.{Line, by, counted, create, dir_shown, file_shown, handle, line, log, made_as, maintain, nothing, play, played, root_shown, show, shown, snapped, snaps, space, told}

-- ---- two directories with a file each, on blocks 0 to 6

abbrev laid_lines : List Line
laid_lines =
    by 0 (call.Mkdir (handle 0 1) (codes "d") 493)
    ∷ by 0 (call.Mkdir (handle 0 1) (codes "e") 493)
    ∷ by 0 (call.Create (handle 1 1) (codes "x") 420)
    ∷ by 0 (call.Create (handle 2 1) (codes "y") 420)
    ∷ by 0 (call.Write (handle 3 1) 0 (codes "new"))
    ∷ by 0 (call.Write (handle 4 1) 0 (codes "old"))
    ∷ []

abbrev laid : Serial
laid = played new laid_lines

laid_replies : play new laid_lines
    ≡ made_as 1 1 ∷ made_as 2 1 ∷ made_as 3 1 ∷ made_as 4 1 ∷ counted 3 ∷ counted 3 ∷ []
laid_replies = refl

laid_space : space laid ≡ 9 ∷ 5 ∷ 2 ∷ 0 ∷ []
laid_space = refl

-- ---- the file at the second name is replaced: its log page 4 and its data block 6 are free, and its number comes again

abbrev over : Line
over = by 0 (call.Rename (handle 1 1) (codes "x") (handle 2 1) (codes "y"))

abbrev old_stat : Line
old_stat = by 0 (call.Stat (handle 4 1))

abbrev replaced : Serial
replaced = (line laid over).world

replaced_replies : play laid (over ∷ old_stat ∷ create (codes "z") ∷ [])
    ≡ nothing ∷ Refused fault.Stale ∷ made_as 4 2 ∷ []
replaced_replies = refl

replaced_tree : map shown (tree_told replaced) ≡
    root_shown ∷ dir_shown (codes "d" ∷ []) ∷ dir_shown (codes "e" ∷ [])
    ∷ file_shown (codes "e" ∷ codes "y" ∷ []) (codes "new") ∷ []
replaced_tree = refl

replaced_space : space replaced ≡ 11 ∷ 4 ∷ 1 ∷ 0 ∷ []
replaced_space = refl

replaced_lists : lists_told replaced ≡ (4 ∷ 6 ∷ 7 ∷ []) ∷ from_eight ∷ []
replaced_lists = refl

-- the first directory has an unbind, and the second one a second bind; the file that is moved has no entry more

replaced_logs : map (log replaced) (1 ∷ 2 ∷ 3 ∷ 4 ∷ []) ≡
    (3, (1 ∷ 1 ∷ []) ∷ []) ∷ (3, (2 ∷ 2 ∷ []) ∷ []) ∷ (2, (2 ∷ 2 ∷ []) ∷ []) ∷ (0, []) ∷ []
replaced_logs = refl

-- ---- a snapshot before the rename: what the rename kills is on record, and the slot is not free

abbrev held : Serial
held = played laid (maintain on.Snap ∷ over ∷ [])

held_replies : play laid (maintain on.Snap ∷ over ∷ old_stat ∷ create (codes "z") ∷ [])
    ≡ snapped 1 ∷ nothing ∷ Refused fault.Stale ∷ made_as 5 1 ∷ []
held_replies = refl

-- of each record the inode and the part
abbrev recorded : Serial → List (ℕ × Part)
recorded s = map (λ (r : Record). (r.ino, r.part)) s.records

held_records : recorded held ≡
    (1, part.Bound) ∷ (2, part.Bound) ∷ (4, part.Kind) ∷ (4, part.Mode)
    ∷ (4, part.Size) ∷ (4, part.Page 0) ∷ []
held_records = refl

held_space : space held ≡ 9 ∷ 5 ∷ 2 ∷ 0 ∷ []
held_space = refl

held_snaps : snaps held ≡ (2 ∷ 7 ∷ []) ∷ (1 ∷ 1 ∷ 1 ∷ []) ∷ []
held_snaps = refl

held_shown : told (line held (show 1)).reply ≡
    root_shown ∷ dir_shown (codes "d" ∷ []) ∷ file_shown (codes "d" ∷ codes "x" ∷ []) (codes "new")
    ∷ dir_shown (codes "e" ∷ []) ∷ file_shown (codes "e" ∷ codes "y" ∷ []) (codes "old") ∷ []
held_shown = refl

-- ---- the drop defers them, and the drain of the last one, which has block 6, erases the file

abbrev dropped : Serial
dropped = (line held (maintain (on.Drop 1))).world

dropped_space : space dropped ≡ 9 ∷ 5 ∷ 1 ∷ 1 ∷ []
dropped_space = refl

drained_reply : (line dropped (maintain (on.Drain 9))).reply ≡ counted 6
drained_reply = refl

abbrev drained_five : Serial
drained_five = (line dropped (maintain (on.Drain 5))).world

five_space : space drained_five ≡ 9 ∷ 5 ∷ 1 ∷ 1 ∷ []
five_space = refl

five_replies : play drained_five (
    create (codes "w") ∷ maintain (on.Drain 9) ∷ create (codes "z") ∷ [])
    ≡ made_as 5 1 ∷ counted 1 ∷ made_as 4 2 ∷ []
five_replies = refl

abbrev drained : Serial
drained = (line dropped (maintain (on.Drain 9))).world

drained_space : space drained ≡ 11 ∷ 4 ∷ 1 ∷ 0 ∷ []
drained_space = refl

drained_lists : lists_told drained ≡ (4 ∷ 6 ∷ 7 ∷ []) ∷ from_eight ∷ []
drained_lists = refl
