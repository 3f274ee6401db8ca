-- Worked scripts of rounds, names, limits and full devices.
use Rattle.std.proofs.Common.{List, [], map, refl, replicate, ℕ, ◌++◌, ◌∷◌, ◌≡◌}
use Rattle.nv_alloc.specs.Block.{numbers_of}
use Rattle.nv_alloc.specs.FreeList.{FreeBlocks}
use Rattle.nv_base.specs.declared.geometry.GeometryNumbers.{GeometryNumbers}
use Rattle.nv_base.specs.declared.node.Kind.TheVariants.{Dir, File}
use Rattle.nv_machine.specs.Format.{formatted}
use Rattle.nv_machine.specs.World.{Done, Moved, Refused, Reply, Started}
use Rattle.nv_machine.proofs.ScriptRows.{DoCall, Goes, Line, StartCall, device, free_count, handle, play, played, space}
use Rattle.nv_base.specs.declared.fault.Fault.TheVariants as fault
use Rattle.nv_calls.specs.declared.answer.Answer.TheVariants as answer
use Rattle.nv_calls.specs.declared.call.Call.TheVariants as call

-- ---- bounded retries: a name is bound anew after each look

abbrev pub unlink_a : Line
unlink_a = StartCall 0 (call.Unlink (handle 0 1) (97 ∷ []))

abbrev pub anew : List Line
anew =
    Goes 0 1
    ∷ DoCall 1 (call.Unlink (handle 0 1) (97 ∷ []))
    ∷ DoCall 1 (call.Create (handle 0 1) (97 ∷ []) 420)
    ∷ Goes 0 5
    ∷ []

abbrev pub said : ℕ → Reply → List Reply
said generation last = Moved ∷ Done answer.Nothing ∷ Done (answer.Made (handle 1 generation)) ∷ last ∷ []

abbrev pub first_four : List Line
first_four = DoCall 0 (call.Create (handle 0 1) (97 ∷ []) 420) ∷ unlink_a ∷ anew ++ anew ++ anew ++ anew

retried : play (formatted device) (first_four ++ anew ++ anew ++ anew ++ anew ++ DoCall 0 (call.Lookup (handle 0 1) (97 ∷ [])) ∷ [])
    ≡ Done (answer.Made (handle 1 1)) ∷ Started ∷ said 2 Moved ++ said 3 Moved ++ said 4 Moved ++ said 5 Moved ++ said 6 Moved
    ++ said 7 Moved ++ said 8 Moved
    ++ said 9 (Refused fault.Contended) ++ Done (answer.Made (handle 1 9)) ∷ []
retried = refl

-- ten blocks are free, and six in chains
retried_space : space (played (formatted device) (first_four ++ anew ++ anew ++ anew ++ anew)) ≡ 7 ∷ 9 ∷ 0 ∷ 0 ∷ 0 ∷ []
retried_space = refl

-- ---- names

names : play (formatted device) (
    DoCall 0 (call.Mkdir (handle 0 1) (100 ∷ []) 493)
    ∷ DoCall 0 (call.Create (handle 1 1) (120 ∷ []) 420)
    ∷ DoCall 0 (call.Lookup (handle 0 1) (100 ∷ []))
    ∷ DoCall 0 (call.Rmdir (handle 0 1) (100 ∷ []))
    ∷ DoCall 0 (call.Unlink (handle 0 1) (100 ∷ []))
    ∷ DoCall 0 (call.Rmdir (handle 1 1) (120 ∷ []))
    ∷ DoCall 0 (call.Create (handle 0 1) (46 ∷ 46 ∷ []) 420)
    ∷ DoCall 0 (call.Create (handle 0 1) (100 ∷ []) 420)
    ∷ DoCall 0 (call.Mkdir (handle 0 1) (102 ∷ []) 493)
    ∷ DoCall 0 (call.Rename (handle 0 1) (102 ∷ []) (handle 1 1) (102 ∷ []))
    ∷ DoCall 0 (call.Rename (handle 0 1) (100 ∷ []) (handle 0 1) (101 ∷ []))
    ∷ DoCall 0 (call.Rename (handle 1 1) (120 ∷ []) (handle 0 1) (120 ∷ []))
    ∷ DoCall 0 (call.Rmdir (handle 0 1) (101 ∷ []))
    ∷ DoCall 0 (call.Stat (handle 0 1))
    ∷ [])
    ≡ Done (answer.Made (handle 1 1))
    ∷ Done (answer.Made (handle 2 1))
    ∷ Done (answer.Made (handle 1 1))
    ∷ Refused fault.NotEmpty
    ∷ Refused fault.NotFile
    ∷ Refused fault.NotDirectory
    ∷ Refused fault.BadName
    ∷ Refused fault.Exists
    ∷ Done (answer.Made (handle 3 1))
    ∷ Refused fault.MoveDirectory
    ∷ Done answer.Nothing
    ∷ Done answer.Nothing
    ∷ Done answer.Nothing
    ∷ Done (answer.Stat Dir 493 0 6)
    ∷ []
names = refl

-- ---- limits

abbrev pub small : GeometryNumbers
small = record { blocks = 8; cpus = 1; block = 1; page = 2; inodes = 2; snaps = 1; actors = 1 }

limits : play (formatted small) (
    DoCall 0 (call.Create (handle 0 1) (97 ∷ []) 420)
    ∷ DoCall 0 (call.Create (handle 0 1) (98 ∷ []) 420)
    ∷ DoCall 0 (call.Write (handle 1 1) 65536 (97 ∷ []))
    ∷ [])
    ≡ Done (answer.Made (handle 1 1)) ∷ Refused fault.NoInode ∷ Refused fault.FileTooBig ∷ []
limits = refl

-- ---- several runs in one write, across the home ranges

abbrev pub several_runs : List Line
several_runs =
    DoCall 0 (call.Create (handle 0 1) (97 ∷ []) 420)
    ∷ DoCall 0 (call.Write (handle 1 1) 0 (97 ∷ 97 ∷ 97 ∷ 97 ∷ 98 ∷ 98 ∷ 98 ∷ 98 ∷ 99 ∷ 99 ∷ 99 ∷ 99 ∷ []))
    ∷ DoCall 0 (call.Write (handle 1 1) 4 (66 ∷ 66 ∷ 66 ∷ 66 ∷ []))
    ∷ DoCall 0 (call.Write (handle 1 1) 12 (100 ∷ 100 ∷ 100 ∷ 100 ∷ 101 ∷ 101 ∷ 101 ∷ 101 ∷ []))
    ∷ DoCall 0 (call.Read (handle 1 1) 0 20)
    ∷ DoCall 0 (call.Stat (handle 1 1))
    ∷ []

several : play (formatted device) several_runs
    ≡ Done (answer.Made (handle 1 1))
    ∷ Done (answer.Count 12)
    ∷ Done (answer.Count 4)
    ∷ Done (answer.Count 8)
    ∷ Done (answer.Bytes (97 ∷ 97 ∷ 97 ∷ 97 ∷ 66 ∷ 66 ∷ 66 ∷ 66 ∷ 99 ∷ 99 ∷ 99 ∷ 99 ∷ 100 ∷ 100 ∷ 100 ∷ 100 ∷ 101 ∷ 101 ∷ 101 ∷ 101 ∷ []))
    ∷ Done (answer.Stat File 420 20 4)
    ∷ []
several = refl

several_lists : map (λ (l : FreeBlocks). numbers_of l.blocks) (played (formatted device) several_runs).shared.lists
    ≡ [] ∷ (8 ∷ 9 ∷ 10 ∷ 11 ∷ 12 ∷ 13 ∷ 14 ∷ 15 ∷ []) ∷ []
several_lists = refl

-- ---- a full device

abbrev pub narrow : GeometryNumbers
narrow = record { blocks = 8; cpus = 2; block = 4; page = 2; inodes = 4; snaps = 2; actors = 2 }

abbrev pub set_modes : List Line
set_modes =
    DoCall 0 (call.Mode (handle 1 1) 1)
    ∷ DoCall 0 (call.Mode (handle 1 1) 2)
    ∷ DoCall 0 (call.Mode (handle 1 1) 3)
    ∷ DoCall 0 (call.Mode (handle 1 1) 4)
    ∷ []

abbrev pub filling : List Line
filling =
    DoCall 0 (call.Create (handle 0 1) (97 ∷ []) 420)
    ∷ set_modes
    ++ DoCall 0 (call.Write (handle 1 1) 0 (97 ∷ 98 ∷ 99 ∷ 100 ∷ 101 ∷ 102 ∷ 103 ∷ 104 ∷ 105 ∷ 106 ∷ 107 ∷ 108 ∷ []))
    ∷ DoCall 0 (call.Write (handle 1 1) 12 (109 ∷ 110 ∷ 111 ∷ 112 ∷ []))
    ∷ []

full : play (formatted narrow) filling
    ≡ Done (answer.Made (handle 1 1)) ∷ replicate 4 (Done answer.Nothing) ++ Done (answer.Count 12) ∷ Refused fault.NoSpace ∷ []
full = refl

-- what the refused call took is back
full_space : space (played (formatted narrow) filling) ≡ 0 ∷ 5 ∷ 3 ∷ 0 ∷ 0 ∷ []
full_space = refl

-- ---- two takings: a data block, and then a log page, since the page of the file's log is full

abbrev pub two_takings : ℕ → List Line
two_takings steps =
    DoCall 0 (call.Create (handle 0 1) (97 ∷ []) 420)
    ∷ DoCall 0 (call.Mode (handle 1 1) 1)
    ∷ DoCall 0 (call.Mode (handle 1 1) 2)
    ∷ DoCall 0 (call.Mode (handle 1 1) 3)
    ∷ StartCall 0 (call.Write (handle 1 1) 0 (97 ∷ []))
    ∷ Goes 0 steps
    ∷ []

checked_free : free_count (played (formatted device) (two_takings 2)).shared ≡ 14
checked_free = refl

block_free : free_count (played (formatted device) (two_takings 3)).shared ≡ 13
block_free = refl

page_free : free_count (played (formatted device) (two_takings 4)).shared ≡ 12
page_free = refl

-- ---- a second round passes: a name is bound anew after the first look only, and what the second finds is what is unlinked

abbrev pub two_rounds : List Line
two_rounds =
    DoCall 0 (call.Create (handle 0 1) (97 ∷ []) 420)
    ∷ DoCall 0 (call.Create (handle 0 1) (98 ∷ []) 420)
    ∷ unlink_a
    ∷ Goes 0 1
    ∷ DoCall 1 (call.Unlink (handle 0 1) (97 ∷ []))
    ∷ DoCall 1 (call.Rename (handle 0 1) (98 ∷ []) (handle 0 1) (97 ∷ []))
    ∷ Goes 0 5
    ∷ []

-- the inode that had the name first is gone, and the other one is there
second_round : play (formatted device) (
    two_rounds
    ++ DoCall 1 (call.Stat (handle 2 1))
    ∷ Goes 0 99
    ∷ DoCall 1 (call.Stat (handle 2 1))
    ∷ DoCall 1 (call.Lookup (handle 0 1) (97 ∷ []))
    ∷ [])
    ≡ Done (answer.Made (handle 1 1)) ∷ Done (answer.Made (handle 2 1)) ∷ Started ∷ Moved ∷ Done answer.Nothing ∷ Done answer.Nothing
    ∷ Moved ∷ Done (answer.Stat File 420 0 2) ∷ Done answer.Nothing ∷ Refused fault.Stale ∷ Refused fault.Missing ∷ []
second_round = refl
