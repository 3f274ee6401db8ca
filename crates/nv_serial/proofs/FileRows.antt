-- Worked rows of files in a world with numbers: nothing is held, a write is partial at both ends, it has several runs, a file
-- is cut inside a block, a block goes home, and two lists fall short.
use Rattle.std.proofs.Common.{◌≡◌, ◌++◌, ℕ, List, [], ◌∷◌, codes, map, refl}
use Rattle.nv_base.specs.declared.fault.Fault.TheVariants as fault
use Rattle.nv_base.specs.declared.node.Kind.TheVariants as kind
use Rattle.nv_calls.specs.declared.answer.Answer.TheVariants as answer
use Rattle.nv_calls.specs.declared.call.Call.TheVariants as call
use Rattle.nv_calls.specs.declared.snapshot_or_cleaner_call.SnapshotOrCleanerCall.TheVariants as on
use Rattle.nv_machine.proofs.ScriptRows.{device}
use Rattle.nv_machine.specs.World.{Done, Refused}
use Rattle.nv_serial.specs.Reports.{lists_told, tree_told}
use Rattle.nv_serial.specs.Serial.{Serial, new_serial}
use Rattle.nv_serial.proofs.Scripts.{Line, by, counted, create, file_shown, handle, line, log, made_as, maintain, play, played, read, root_shown, show, shown, space, told, write}

-- a new device, on which the lists of two CPUs have 1 to 7 and 8 to 15
abbrev pub new : Serial
new = new_serial device

abbrev pub from_eight : List ℕ
from_eight = 8 ∷ 9 ∷ 10 ∷ 11 ∷ 12 ∷ 13 ∷ 14 ∷ 15 ∷ []

-- ---- nothing held

nothing_tree : map shown (tree_told new) ≡ root_shown ∷ []
nothing_tree = refl

nothing_space : space new ≡ 15 ∷ 1 ∷ 0 ∷ 0 ∷ []
nothing_space = refl

nothing_lists : lists_told new ≡ (1 ∷ 2 ∷ 3 ∷ 4 ∷ 5 ∷ 6 ∷ 7 ∷ []) ∷ from_eight ∷ []
nothing_lists = refl

-- ---- partial at both ends

abbrev partial : List Line
partial = create (codes "a") ∷ write 3 (codes "abcdefghij") ∷ []

partial_replies : play new (partial ++ read 0 20 ∷ [])
    ≡ made_as 1 1 ∷ counted 10 ∷ Done (answer.Bytes (0 ∷ 0 ∷ 0 ∷ codes "abcdefghij")) ∷ []
partial_replies = refl

partial_tree : map shown (tree_told (played new partial))
    ≡ root_shown ∷ file_shown (codes "a" ∷ []) (0 ∷ 0 ∷ 0 ∷ codes "abcdefghij") ∷ []
partial_tree = refl

partial_space : space (played new partial) ≡ 10 ∷ 2 ∷ 4 ∷ 0 ∷ []
partial_space = refl

partial_log : log (played new partial) 1 ≡ (2, (2 ∷ 2 ∷ []) ∷ [])
partial_log = refl

-- ---- several runs in one write

abbrev runs : Serial
runs = played new (create (codes "a") ∷ write 0 (codes "aaaabbbbcccc") ∷ write 4 (codes "BBBB") ∷ write 12 (codes "ddddeeee") ∷ [])

runs_read : play runs (read 0 20 ∷ by 0 (call.Stat (handle 1 1)) ∷ [])
    ≡ Done (answer.Bytes (codes "aaaaBBBBccccddddeeee")) ∷ Done (answer.Stat kind.File 420 20 4) ∷ []
runs_read = refl

runs_log : log runs 1 ≡ (5, (4 ∷ 4 ∷ []) ∷ (1 ∷ 1 ∷ []) ∷ [])
runs_log = refl

runs_lists : lists_told runs ≡ [] ∷ from_eight ∷ []
runs_lists = refl

-- ---- a cut inside a block

abbrev cut : Serial
cut = played new (
    create (codes "a") ∷ write 0 (codes "abcdefghij") ∷ maintain on.Snap ∷ by 0 (call.Size (handle 1 1) 5)
    ∷ by 0 (call.Size (handle 1 1) 12) ∷ [])

cut_read : (line cut (read 0 20)).reply
    ≡ Done (answer.Bytes (codes "abcde" ++ 0 ∷ 0 ∷ 0 ∷ 0 ∷ 0 ∷ 0 ∷ 0 ∷ []))
cut_read = refl

cut_shown : told (line cut (show 1)).reply
    ≡ root_shown ∷ file_shown (codes "a" ∷ []) (codes "abcdefghij") ∷ []
cut_shown = refl

cut_space : space cut ≡ 9 ∷ 3 ∷ 4 ∷ 0 ∷ []
cut_space = refl

-- ---- cut, then grown: what a cut leaves over is free, and comes again

abbrev regrown : Serial
regrown = played new (
    create (codes "a") ∷ write 0 (codes "abcdefghij") ∷ by 0 (call.Size (handle 1 1) 5) ∷ by 0 (call.Size (handle 1 1) 12) ∷ [])

regrown_log : log regrown 1 ≡ (5, (3 ∷ 3 ∷ []) ∷ (1 ∷ 1 ∷ []) ∷ [])
regrown_log = refl

regrown_lists : lists_told regrown ≡ (4 ∷ 6 ∷ 7 ∷ []) ∷ from_eight ∷ []
regrown_lists = refl

regrown_space : space regrown ≡ 11 ∷ 3 ∷ 2 ∷ 0 ∷ []
regrown_space = refl

-- ---- a block goes home

abbrev overwritten : Serial
overwritten = played new (create (codes "a") ∷ write 0 (codes "aaaa") ∷ write 0 (codes "bbbb") ∷ [])

home_lists : lists_told overwritten ≡ (2 ∷ 4 ∷ 5 ∷ 6 ∷ 7 ∷ []) ∷ from_eight ∷ []
home_lists = refl

home_space : space overwritten ≡ 13 ∷ 2 ∷ 1 ∷ 0 ∷ []
home_space = refl

-- ---- two lists fall short: what both have is asked for before a call is refused, and is there for the next one

abbrev short : Serial
short = new_serial (record { blocks = 4; cpus = 2; block = 4; page = 4; inodes = 4; snaps = 1; actors = 1 })

short_replies : play short (
    create (codes "a") ∷ write 0 (codes "abcdefghi") ∷ write 0 (codes "abcdefgh") ∷ write 0 (codes "x") ∷ [])
    ≡ made_as 1 1 ∷ Refused fault.NoSpace ∷ counted 8 ∷ Refused fault.NoSpace ∷ []
short_replies = refl

short_lists : lists_told (played short (create (codes "a") ∷ write 0 (codes "abcdefghi") ∷ [])) ≡ [] ∷ (2 ∷ 3 ∷ []) ∷ []
short_lists = refl

short_space : space (played short (create (codes "a") ∷ write 0 (codes "abcdefghi") ∷ write 0 (codes "abcdefgh") ∷ []))
    ≡ 0 ∷ 2 ∷ 2 ∷ 0 ∷ []
short_space = refl
