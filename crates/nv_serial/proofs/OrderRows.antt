-- Worked rows of order in a world with numbers: which blocks a call takes first, which records go first, when an inode is
-- erased, and which want is answered first.
use Rattle.std.proofs.Common.{◌≡◌, ◌++◌, List, [], ◌∷◌, codes, refl}
use Rattle.nv_base.specs.declared.fault.Fault.TheVariants as fault
use Rattle.nv_base.specs.declared.limits.TheConstants.{NUMBER}
use Rattle.nv_calls.specs.declared.call.Call.TheVariants as call
use Rattle.nv_calls.specs.declared.snapshot_or_cleaner_call.SnapshotOrCleanerCall.TheVariants as on
use Rattle.nv_machine.specs.World.{Refused}
use Rattle.nv_serial.specs.Reports.{lists_told}
use Rattle.nv_serial.specs.Serial.{Serial, new_serial}
use Rattle.nv_serial.proofs.CleanerRows.{full, mode, paired}
use Rattle.nv_serial.proofs.FileRows.{from_eight, new}
use Rattle.nv_serial.proofs.Scripts.{Line, by, counted, create, handle, line, made_as, maintain, nothing, play, played, snapped, snaps, space, unlink, write}
use Rattle.nv_serial.proofs.SnapshotRows.{deferred, made}

-- ---- data before log pages: the second write takes 3 as data and 4 as a log page, and the third one takes 2 and gives 3 back

data_first : lists_told (played (new_serial paired) (made ++ write 0 (codes "bbbb") ∷ write 0 (codes "cccc") ∷ []))
    ≡ (3 ∷ 5 ∷ 6 ∷ 7 ∷ []) ∷ from_eight ∷ []
data_first = refl

-- ---- log pages by rising inode: the root gets 2 and the new file 3, which is free once that file is erased

lower_first : lists_told (played (new_serial paired) (
    create (codes "a") ∷ create (codes "b") ∷ unlink (codes "b") ∷ []))
    ≡ (3 ∷ 4 ∷ 5 ∷ 6 ∷ 7 ∷ []) ∷ from_eight ∷ []
lower_first = refl

-- ---- each actor takes from its own CPU on, in a circle

own_first : lists_told (played new (
    by 1 (call.Create (handle 0 1) (codes "a") 420) ∷ by 2 (call.Create (handle 0 1) (codes "b") 420) ∷ []))
    ≡ (2 ∷ 3 ∷ 4 ∷ 5 ∷ 6 ∷ 7 ∷ []) ∷ (9 ∷ 10 ∷ 11 ∷ 12 ∷ 13 ∷ 14 ∷ 15 ∷ []) ∷ []
own_first = refl

in_a_circle : lists_told (played new (
    create (codes "a") ∷ by 1 (call.Write (handle 1 1) 0 (codes "aaaabbbbccccddddeeeeffffgggghhhhiiii")) ∷ []))
    ≡ (3 ∷ 4 ∷ 5 ∷ 6 ∷ 7 ∷ []) ∷ [] ∷ []
in_a_circle = refl

-- ---- records of one entry by part: the size first, which has no block, and then the page

one_drained : space (line deferred (maintain (on.Drain 1))).world ≡ 12 ∷ 2 ∷ 1 ∷ 1 ∷ []
one_drained = refl

both_drained : space (played deferred (maintain (on.Drain 1) ∷ maintain (on.Drain 0) ∷ [])) ≡ 13 ∷ 2 ∷ 1 ∷ 0 ∷ []
both_drained = refl

drains : play deferred (maintain (on.Drain 0) ∷ maintain (on.Drain 1) ∷ maintain (on.Drain 1) ∷ [])
    ≡ counted 1 ∷ counted 1 ∷ counted 0 ∷ []
drains = refl

-- ---- records of a later commit behind those before: the mode that a third call has killed is the last to be released

first_come : space (played new (
    made ++ maintain on.Snap ∷ write 0 (codes "bbbb") ∷ mode 1 ∷ maintain (on.Drop 1) ∷ maintain (on.Drain 2) ∷ []))
    ≡ 13 ∷ 2 ∷ 1 ∷ 0 ∷ []
first_come = refl

-- ---- records that a drop defers behind those deferred before: the page of the second snapshot, which is dropped first

abbrev turned : Serial
turned = played new (
    made ++ maintain on.Snap ∷ write 0 (codes "bbbb") ∷ maintain on.Snap ∷ write 0 (codes "cccc") ∷ maintain (on.Drop 2)
    ∷ maintain (on.Drop 1) ∷ [])

turned_half : lists_told (line turned (maintain (on.Drain 2))).world ≡ (3 ∷ 5 ∷ 6 ∷ 7 ∷ []) ∷ from_eight ∷ []
turned_half = refl

turned_all : lists_told (line turned (maintain (on.Drain 4))).world ≡ (2 ∷ 3 ∷ 5 ∷ 6 ∷ 7 ∷ []) ∷ from_eight ∷ []
turned_all = refl

-- ---- what has died is of no later snapshot

later_snaps : snaps (played new (made ++ maintain on.Snap ∷ write 0 (codes "bbbb") ∷ maintain on.Snap ∷ []))
    ≡ (3 ∷ 3 ∷ []) ∷ (1 ∷ 1 ∷ 1 ∷ []) ∷ (2 ∷ 0 ∷ 0 ∷ []) ∷ []
later_snaps = refl

-- ---- erased by the drain and not by the drop: until then the slot is not free

abbrev dropped : List Line
dropped =
    create (codes "a") ∷ maintain on.Snap ∷ unlink (codes "a") ∷ maintain (on.Drop 1) ∷ create (codes "b")
    ∷ maintain (on.Drain 3) ∷ create (codes "c") ∷ maintain (on.Drain 1) ∷ create (codes "d") ∷ []

dropped_replies : play new dropped ≡
    made_as 1 1 ∷ snapped 1 ∷ nothing ∷ nothing ∷ made_as 2 1
    ∷ counted 3 ∷ made_as 3 1 ∷ counted 1 ∷ made_as 1 2 ∷ []
dropped_replies = refl

-- ---- want of blocks for data and log pages together: one block is free, and a write needs two

abbrev pub tight : Serial
tight = new_serial (record { blocks = 4; cpus = 1; block = 4; page = 2; inodes = 2; snaps = 1; actors = 1 })

both_wanted : play tight (made ++ write 0 (codes "bbbb") ∷ mode 1 ∷ mode 2 ∷ mode 3 ∷ [])
    ≡ made_as 1 1 ∷ counted 4 ∷ Refused fault.NoSpace ∷ nothing ∷ nothing
    ∷ Refused fault.NoSpace ∷ []
both_wanted = refl

-- ---- a name that is there is refused before want of an inode, and want of an inode before want of blocks

abbrev narrow : Serial
narrow = new_serial (record { blocks = 2; cpus = 1; block = 4; page = 4; inodes = 2; snaps = 1; actors = 1 })

exists_first : play narrow (create (codes "a") ∷ create (codes "a") ∷ create (codes "b") ∷ [])
    ≡ made_as 1 1 ∷ Refused fault.Exists ∷ Refused fault.NoInode ∷ []
exists_first = refl

-- ---- want of blocks before the last commit number; and the last epoch before want of room for a snapshot

abbrev with_last : Serial → Serial
with_last s = record s { plain = record s.plain { commit = NUMBER; epoch = NUMBER } }

last_number : play (with_last new) (create (codes "a") ∷ create (codes "") ∷ maintain on.Snap ∷ [])
    ≡ Refused fault.CommitLimit ∷ Refused fault.BadName ∷ Refused fault.EpochLimit ∷ []
last_number = refl

space_first : play (with_last full) (write 12 (codes "mnop") ∷ []) ≡ Refused fault.NoSpace ∷ []
space_first = refl

abbrev four : Serial
four = played new (maintain on.Snap ∷ maintain on.Snap ∷ maintain on.Snap ∷ maintain on.Snap ∷ [])

epoch_first : play (with_last four) (maintain on.Snap ∷ []) ≡ Refused fault.EpochLimit ∷ []
epoch_first = refl
