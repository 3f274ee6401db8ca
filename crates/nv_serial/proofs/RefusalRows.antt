-- Worked rows of refusals in a world with numbers: names, what is unlinked, numbers
-- out of range, and limits.
use Rattle.std.proofs.Common.{◌≡◌, List, [], ◌∷◌, codes, map, refl, replicate}
use Rattle.nv_base.specs.declared.fault.Fault.TheVariants as fault
use Rattle.nv_base.specs.declared.node.Kind.TheVariants as kind
use Rattle.nv_calls.specs.declared.answer.Answer.TheVariants as answer
use Rattle.nv_calls.specs.declared.call.Call.TheVariants as call
use Rattle.nv_calls.specs.declared.snapshot_or_cleaner_call.SnapshotOrCleanerCall.TheVariants as on
use Rattle.nv_machine.specs.World.{Done, Refused}
use Rattle.nv_serial.specs.Reports.{tree_told}
use Rattle.nv_serial.specs.Serial.{Serial, new_serial}
use Rattle.nv_serial.proofs.FileRows.{new}
use Rattle.nv_serial.proofs.Scripts.{Line, by, counted, create, dir_shown, file_shown, handle, made_as, maintain, nothing, play, played, root_shown, shown, space, unlink, write}

-- ---- names

abbrev named_lines : List Line
named_lines =
    by 0 (call.Mkdir (handle 0 1) (codes "d") 493)
    ∷ by 0 (call.Create (handle 1 1) (codes "x") 420)
    ∷ by 0 (call.Lookup (handle 0 1) (codes "d"))
    ∷ by 0 (call.Rmdir (handle 0 1) (codes "d"))
    ∷ unlink (codes "d")
    ∷ by 0 (call.Rmdir (handle 1 1) (codes "x"))
    ∷ create (codes "..")
    ∷ create (codes "d")
    ∷ by 0 (call.Mkdir (handle 0 1) (codes "f") 493)
    ∷ by 0 (call.Rename (handle 0 1) (codes "f") (handle 1 1) (codes "f"))
    ∷ by 0 (call.Rename (handle 0 1) (codes "d") (handle 0 1) (codes "e"))
    ∷ []

abbrev pub named : Serial
named = played new named_lines

named_replies : play new named_lines ≡
    made_as 1 1 ∷ made_as 2 1 ∷ made_as 1 1 ∷ Refused fault.NotEmpty
    ∷ Refused fault.NotFile ∷ Refused fault.NotDirectory ∷ Refused fault.BadName ∷ Refused fault.Exists ∷ made_as 3 1
    ∷ Refused fault.MoveDirectory ∷ nothing ∷ []
named_replies = refl

abbrev moved_lines : List Line
moved_lines =
    by 0 (call.List (handle 0 1))
    ∷ by 0 (call.Rename (handle 1 1) (codes "x") (handle 0 1) (codes "x"))
    ∷ by 0 (call.Rmdir (handle 0 1) (codes "e"))
    ∷ by 0 (call.Stat (handle 0 1))
    ∷ []

moved_replies : play named moved_lines ≡
    Done (answer.Names ((record { name = codes "f"; to = handle 3 1 }) ∷ (record { name = codes "e"; to = handle 1 1 }) ∷ []))
    ∷ nothing ∷ nothing ∷ Done (answer.Stat kind.Dir 493 0 6) ∷ []
moved_replies = refl

moved_tree : map shown (tree_told (played named moved_lines)) ≡
    root_shown ∷ dir_shown (codes "f" ∷ []) ∷ file_shown (codes "x" ∷ []) [] ∷ []
moved_tree = refl

-- ---- what is unlinked is stale, and its slot has the next generation

unlinked : play new (
    create (codes "a") ∷ write 0 (codes "aaaa") ∷ unlink (codes "a") ∷ by 0 (call.Lookup (handle 0 1) (codes "a"))
    ∷ by 0 (call.Stat (handle 1 1)) ∷ create (codes "a") ∷ []) ≡
    made_as 1 1 ∷ counted 4 ∷ nothing ∷ Refused fault.Missing ∷ Refused fault.Stale
    ∷ made_as 1 2 ∷ []
unlinked = refl

unlinked_space : space (played new (
    create (codes "a") ∷ write 0 (codes "aaaa") ∷ unlink (codes "a") ∷ []))
    ≡ 15 ∷ 1 ∷ 0 ∷ 0 ∷ []
unlinked_space = refl

-- ---- numbers out of range: of an actor, a snapshot and slots

out_of_range : play new (
    by 9 (call.SnapshotOrCleaner on.Snap) ∷ by 3 (call.SnapshotOrCleaner on.Snap) ∷ maintain (on.Drop 18446744073709551615)
    ∷ by 0 (call.Stat (handle 99 1)) ∷ create (codes "/") ∷ maintain (on.Fast 99) ∷ maintain (on.Thorough 1) ∷ maintain (on.Auto 8) ∷ [])
    ≡ Refused fault.NoActor ∷ Refused fault.NoActor ∷ Refused fault.NoSnapshot ∷ Refused fault.Stale ∷ Refused fault.BadName
    ∷ Refused fault.Stale ∷ Refused fault.Stale ∷ Refused fault.Stale ∷ []
out_of_range = refl

-- ---- limits

abbrev limited : Serial
limited = new_serial (record { blocks = 8; cpus = 1; block = 1; page = 2; inodes = 2; snaps = 1; actors = 1 })

abbrev sized : List Line
sized = create (codes "a") ∷ create (codes "b") ∷ by 0 (call.Size (handle 1 1) 65536) ∷ []

sized_replies : play limited sized ≡ made_as 1 1 ∷ Refused fault.NoInode ∷ nothing ∷ []
sized_replies = refl

too_big : play (played limited sized) (write 65536 (codes "a") ∷ write 65536 (replicate 1025 97) ∷ [])
    ≡ Refused fault.FileTooBig ∷ Refused fault.WriteTooBig ∷ []
too_big = refl

past_the_end : play (played limited sized) (by 0 (call.Read (handle 1 1) 65536 9) ∷ []) ≡ Done (answer.Bytes []) ∷ []
past_the_end = refl

at_the_end : play (played limited sized) (by 0 (call.Read (handle 1 1) 65535 9) ∷ []) ≡ Done (answer.Bytes (0 ∷ [])) ∷ []
at_the_end = refl
