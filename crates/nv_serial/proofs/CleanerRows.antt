-- Worked rows of cleaners in a world with numbers: a killer is cleaned away, the tombstone, fast cleaning repeated, a device
-- that is full, and a log that grows by doubling.
use Rattle.std.proofs.Common.{◌≡◌, ◌++◌, ℕ, true, false, List, [], ◌∷◌, codes, map, refl}
use Rattle.nv_base.specs.declared.fault.Fault.TheVariants as fault
use Rattle.nv_base.specs.declared.geometry.GeometryNumbers.{GeometryNumbers}
use Rattle.nv_calls.specs.declared.answer.Answer.TheVariants as answer
use Rattle.nv_calls.specs.declared.call.Call.TheVariants as call
use Rattle.nv_calls.specs.declared.snapshot_or_cleaner_call.SnapshotOrCleanerCall.TheVariants as on
use Rattle.nv_machine.specs.World.{Done, Refused}
use Rattle.nv_serial.specs.Reports.{lists_told, tree_told}
use Rattle.nv_serial.specs.Serial.{Serial, new_serial}
use Rattle.nv_serial.proofs.FileRows.{from_eight, new}
use Rattle.nv_serial.proofs.Scripts.{Line, by, counted, create, file_shown, handle, line, log, made_as, maintain, nothing, play, played, root_shown, show, shown, snapped, space, told, unlink, write}
use Rattle.nv_serial.proofs.SnapshotRows.{made}

-- ---- a killer is cleaned away

abbrev pub killer : Serial
killer = played new (
    made ++ maintain on.Snap ∷ write 0 (codes "bbbb") ∷ maintain on.Snap ∷ maintain (on.Drop 2) ∷ write 0 (codes "cccc") ∷ [])

killer_log : log killer 1 ≡ (4, (2 ∷ 3 ∷ []) ∷ [])
killer_log = refl

killer_shown : told (line killer (show 1)).reply
    ≡ root_shown ∷ file_shown (codes "a" ∷ []) (codes "aaaa") ∷ []
killer_shown = refl

abbrev killer_thorough : Line
killer_thorough = by 1 (call.SnapshotOrCleaner (on.Thorough 1))

abbrev killed : Serial
killed = (line killer killer_thorough).world

killed_reply : (line killer killer_thorough).reply ≡ Done (answer.Cleaned true 1 0)
killed_reply = refl

killed_log : log killed 1 ≡ (3, (2 ∷ 3 ∷ []) ∷ [])
killed_log = refl

killed_shown : told (line killed (show 1)).reply
    ≡ root_shown ∷ file_shown (codes "a" ∷ []) (codes "aaaa") ∷ []
killed_shown = refl

killed_tree : map shown (tree_told killed) ≡ root_shown ∷ file_shown (codes "a" ∷ []) (codes "cccc") ∷ []
killed_tree = refl

killed_lists : lists_told killed ≡ (1 ∷ 3 ∷ 5 ∷ 6 ∷ 7 ∷ []) ∷ (9 ∷ 10 ∷ 11 ∷ 12 ∷ 13 ∷ 14 ∷ 15 ∷ []) ∷ []
killed_lists = refl

-- ---- the tombstone: an unbind stays as long as the bind before it

abbrev tomb_lines : List Line
tomb_lines =
    create (codes "a") ∷ maintain on.Snap ∷ unlink (codes "a") ∷ create (codes "b") ∷ maintain (on.Thorough 0) ∷ []

abbrev tomb : Serial
tomb = played new tomb_lines

tomb_replies : play new tomb_lines ≡
    made_as 1 1 ∷ snapped 1 ∷ nothing ∷ made_as 2 1
    ∷ Done (answer.Cleaned true 0 0) ∷ []
tomb_replies = refl

tomb_tree : map shown (tree_told tomb) ≡ root_shown ∷ file_shown (codes "b" ∷ []) [] ∷ []
tomb_tree = refl

tomb_shown : told (line tomb (show 1)).reply
    ≡ root_shown ∷ file_shown (codes "a" ∷ []) [] ∷ []
tomb_shown = refl

abbrev opened_lines : List Line
opened_lines = maintain (on.Drop 1) ∷ maintain (on.Drain 9) ∷ maintain (on.Thorough 0) ∷ []

opened_replies : play tomb opened_lines ≡ nothing ∷ counted 4 ∷ Done (answer.Cleaned true 2 0) ∷ []
opened_replies = refl

opened_log : log (played tomb opened_lines) 0 ≡ (2, (2 ∷ 2 ∷ []) ∷ [])
opened_log = refl

opened_lists : lists_told (played tomb opened_lines) ≡ (0 ∷ 3 ∷ 4 ∷ 5 ∷ 6 ∷ 7 ∷ []) ∷ from_eight ∷ []
opened_lists = refl

-- ---- fast cleaning, repeated, on pages of two entries

abbrev pub mode : ℕ → Line
mode m = by 0 (call.Mode (handle 1 1) m)

abbrev pub paired : GeometryNumbers
paired = record { blocks = 16; cpus = 2; block = 4; page = 2; inodes = 8; snaps = 4; actors = 3 }

abbrev moded : Serial
moded = played (new_serial paired) (create (codes "a") ∷ map mode (1 ∷ 2 ∷ 3 ∷ 4 ∷ 5 ∷ 6 ∷ 7 ∷ 8 ∷ []))

moded_log : log moded 1 ≡ (
  9,
  (1 ∷ 1 ∷ []) ∷ (0 ∷ 0 ∷ []) ∷ (0 ∷ 0 ∷ []) ∷ (0 ∷ 0 ∷ []) ∷ (1 ∷ 1 ∷ []) ∷ (0 ∷ 0 ∷ []) ∷ (0 ∷ 0 ∷ []) ∷ (0 ∷ 0 ∷ []) ∷ [],
)
moded_log = refl

abbrev fast_lines : List Line
fast_lines = maintain (on.Fast 1) ∷ maintain (on.Fast 1) ∷ maintain (on.Auto 1) ∷ []

fast_replies : play moded fast_lines
    ≡ Done (answer.Cleaned false 6 3) ∷ Done (answer.Cleaned false 0 0) ∷ Done (answer.Cleaned false 0 0) ∷ []
fast_replies = refl

fast_log : log (line moded (maintain (on.Fast 1))).world 1
    ≡ (3, (1 ∷ 1 ∷ []) ∷ (1 ∷ 1 ∷ []) ∷ (0 ∷ 0 ∷ []) ∷ (0 ∷ 0 ∷ []) ∷ (0 ∷ 0 ∷ []) ∷ [])
fast_log = refl

fast_space : space (played moded fast_lines) ≡ 10 ∷ 6 ∷ 0 ∷ 0 ∷ []
fast_space = refl

fast_lists : lists_told (played moded fast_lines) ≡ (2 ∷ 3 ∷ 4 ∷ []) ∷ (9 ∷ 10 ∷ 11 ∷ 12 ∷ 13 ∷ 14 ∷ 15 ∷ []) ∷ []
fast_lists = refl

-- ---- device full

abbrev pub full : Serial
full = played (new_serial (record { blocks = 8; cpus = 2; block = 4; page = 2; inodes = 4; snaps = 2; actors = 2 })) (
    create (codes "a") ∷ mode 1 ∷ mode 2 ∷ mode 3 ∷ mode 4 ∷ write 0 (codes "abcdefghijkl") ∷ [])

full_space : space full ≡ 0 ∷ 5 ∷ 3 ∷ 0 ∷ []
full_space = refl

abbrev more : Line
more = write 12 (codes "mnop")

full_replies : play full (more ∷ maintain (on.Fast 1) ∷ more ∷ [])
    ≡ Refused fault.NoSpace ∷ Done (answer.Cleaned false 2 1) ∷ counted 4 ∷ []
full_replies = refl

fuller_space : space (played full (more ∷ maintain (on.Fast 1) ∷ more ∷ [])) ≡ 0 ∷ 4 ∷ 4 ∷ 0 ∷ []
fuller_space = refl

-- a thorough cleaning takes its pages before it gives any back; auto, where half of six entries would stay, is a fast one,
-- and where three of seven would, it is refused and not made otherwise

full_thorough : play full (maintain (on.Thorough 1) ∷ maintain (on.Auto 1) ∷ [])
    ≡ Refused fault.NoSpace ∷ Done (answer.Cleaned false 2 1) ∷ []
full_thorough = refl

full_auto : play full (mode 5 ∷ maintain (on.Auto 1) ∷ maintain (on.Fast 1) ∷ [])
    ≡ nothing ∷ Refused fault.NoSpace ∷ Done (answer.Cleaned false 2 1) ∷ []
full_auto = refl

-- ---- a log grows by doubling

abbrev grown : Serial
grown = played (new_serial (record { blocks = 64; cpus = 1; block = 4; page = 2; inodes = 4; snaps = 1; actors = 1 })) (
    create (codes "a") ∷ map mode (1 ∷ 2 ∷ 3 ∷ 4 ∷ 5 ∷ 6 ∷ 7 ∷ 8 ∷ 9 ∷ 10 ∷ 11 ∷ 12 ∷ 13 ∷ 14 ∷ 15 ∷ 16 ∷ []))

abbrev zeros : List (List ℕ)
zeros = (0 ∷ 0 ∷ []) ∷ (0 ∷ 0 ∷ []) ∷ (0 ∷ 0 ∷ []) ∷ (0 ∷ 0 ∷ []) ∷ (0 ∷ 0 ∷ []) ∷ (0 ∷ 0 ∷ []) ∷ (0 ∷ 0 ∷ []) ∷ []

grown_log : log grown 1 ≡ (17, (1 ∷ 1 ∷ []) ∷ zeros ++ (1 ∷ 1 ∷ []) ∷ zeros)
grown_log = refl

grown_replies : play grown (maintain (on.Thorough 1) ∷ maintain (on.Thorough 1) ∷ [])
    ≡ Done (answer.Cleaned true 15 15) ∷ Done (answer.Cleaned true 0 0) ∷ []
grown_replies = refl

shrunk_log : log (line grown (maintain (on.Thorough 1))).world 1 ≡ (2, (2 ∷ 2 ∷ []) ∷ [])
shrunk_log = refl

shrunk_space : space (line grown (maintain (on.Thorough 1))).world ≡ 62 ∷ 2 ∷ 0 ∷ 0 ∷ []
shrunk_space = refl
