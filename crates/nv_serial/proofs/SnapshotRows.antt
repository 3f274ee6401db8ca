-- Worked rows of snapshots in a world with numbers: born and dead in one epoch, partial at both ends, deferred is not free, a
-- record moves down, reuse, a drain within a run, the old tree, and refusals.
use Rattle.std.proofs.Common.{◌≡◌, ◌++◌, List, [], ◌∷◌, Some, None, codes, map, refl}
use Rattle.std.specs.Option.{option_map}
use Rattle.nv_base.specs.declared.fault.Fault.TheVariants as fault
use Rattle.nv_base.specs.declared.node.Kind.TheVariants as kind
use Rattle.nv_calls.specs.declared.answer.Answer.TheVariants as answer
use Rattle.nv_calls.specs.declared.call.Call.TheVariants as call
use Rattle.nv_calls.specs.declared.snapshot_or_cleaner_call.SnapshotOrCleanerCall.TheVariants as on
use Rattle.nv_entry.specs.declared.tree.TreeNode.{TreeNode}
use Rattle.nv_machine.specs.World.{Done, Refused}
use Rattle.nv_serial.specs.Reports.{lists_told, snapshot_tree_told, tree_told}
use Rattle.nv_serial.specs.Serial.{Serial}
use Rattle.nv_serial.proofs.FileRows.{from_eight, new}
use Rattle.nv_serial.proofs.Scripts.{Line, by, counted, create, dir_shown, file_shown, handle, line, log, made_as, maintain, nothing, play, played, read, root_shown, show, shown, snapped, snaps, space, told, unlink, write}

-- a file with a page
abbrev pub made : List Line
made = create (codes "a") ∷ write 0 (codes "aaaa") ∷ []

-- ---- born and dead in one epoch

abbrev born_lines : List Line
born_lines = made ++ maintain on.Snap ∷ write 0 (codes "bbbb") ∷ write 0 (codes "cccc") ∷ []

abbrev born : Serial
born = played new born_lines

born_replies : play new born_lines
    ≡ made_as 1 1 ∷ counted 4 ∷ snapped 1 ∷ counted 4 ∷ counted 4 ∷ []
born_replies = refl

born_space : space born ≡ 12 ∷ 2 ∷ 2 ∷ 0 ∷ []
born_space = refl

born_lists : lists_told born ≡ (3 ∷ 5 ∷ 6 ∷ 7 ∷ []) ∷ from_eight ∷ []
born_lists = refl

born_snaps : snaps born ≡ (2 ∷ 4 ∷ []) ∷ (1 ∷ 1 ∷ 1 ∷ []) ∷ []
born_snaps = refl

born_log : log born 1 ≡ (4, (2 ∷ 3 ∷ []) ∷ [])
born_log = refl

born_shown : told (line born (show 1)).reply
    ≡ root_shown ∷ file_shown (codes "a" ∷ []) (codes "aaaa") ∷ []
born_shown = refl

born_old : option_map (λ (nodes : List TreeNode). map shown nodes) (snapshot_tree_told born 1)
    ≡ Some (root_shown ∷ file_shown (codes "a" ∷ []) (codes "aaaa") ∷ [])
born_old = refl

born_no_other : snapshot_tree_told born 2 ≡ None
born_no_other = refl

-- ---- partial at both ends, under a snapshot

abbrev pub over : Serial
over = played new (create (codes "a") ∷ write 0 (codes "aaaabbbbcccc") ∷ maintain on.Snap ∷ write 3 (codes "XXXXXX") ∷ [])

over_read : (line over (read 0 20)).reply ≡ Done (answer.Bytes (codes "aaaXXXXXXccc"))
over_read = refl

over_lists : lists_told over ≡ [] ∷ from_eight ∷ []
over_lists = refl

over_space : space over ≡ 8 ∷ 2 ∷ 6 ∷ 0 ∷ []
over_space = refl

over_log : log over 1 ≡ (3, (2 ∷ 3 ∷ []) ∷ [])
over_log = refl

over_snaps : snaps over ≡ (2 ∷ 3 ∷ []) ∷ (1 ∷ 3 ∷ 3 ∷ []) ∷ []
over_snaps = refl

abbrev pub let_go : Serial
let_go = (line over (maintain (on.Drop 1))).world

let_go_space : space let_go ≡ 8 ∷ 2 ∷ 3 ∷ 3 ∷ []
let_go_space = refl

let_go_drained : (line let_go (maintain (on.Drain 9))).reply ≡ counted 4
let_go_drained = refl

let_go_lists : lists_told (line let_go (maintain (on.Drain 9))).world ≡ (2 ∷ 3 ∷ 4 ∷ []) ∷ from_eight ∷ []
let_go_lists = refl

-- ---- deferred is not free

abbrev pub deferred : Serial
deferred = played new (made ++ maintain on.Snap ∷ write 0 (codes "bbbb") ∷ maintain (on.Drop 1) ∷ [])

deferred_space : space deferred ≡ 12 ∷ 2 ∷ 1 ∷ 1 ∷ []
deferred_space = refl

drained_reply : (line deferred (maintain (on.Drain 9))).reply ≡ counted 2
drained_reply = refl

drained_space : space (line deferred (maintain (on.Drain 9))).world ≡ 13 ∷ 2 ∷ 1 ∷ 0 ∷ []
drained_space = refl

-- ---- a record moves down

abbrev two : Serial
two = played new (made ++ maintain on.Snap ∷ maintain on.Snap ∷ write 0 (codes "bbbb") ∷ [])

two_snaps : snaps two ≡ (3 ∷ 3 ∷ []) ∷ (1 ∷ 1 ∷ 0 ∷ []) ∷ (2 ∷ 1 ∷ 0 ∷ []) ∷ []
two_snaps = refl

abbrev one : Serial
one = (line two (maintain (on.Drop 2))).world

one_snap : snaps one ≡ (3 ∷ 3 ∷ []) ∷ (1 ∷ 1 ∷ 1 ∷ []) ∷ []
one_snap = refl

none_space : space (line one (maintain (on.Drop 1))).world ≡ 12 ∷ 2 ∷ 1 ∷ 1 ∷ []
none_space = refl

-- ---- reuse: a file that a snapshot holds is unlinked, and its number comes again once its records are drained

abbrev reuse : List Line
reuse =
    create (codes "a") ∷ maintain on.Snap ∷ unlink (codes "a") ∷ create (codes "b") ∷ maintain (on.Drop 1)
    ∷ maintain (on.Drain 9) ∷ create (codes "c") ∷ []

reuse_replies : play new reuse ≡
    made_as 1 1 ∷ snapped 1 ∷ nothing ∷ made_as 2 1
    ∷ nothing ∷ counted 4 ∷ made_as 1 2 ∷ []
reuse_replies = refl

reuse_stats : play (played new reuse) (by 0 (call.Stat (handle 1 1)) ∷ by 0 (call.Stat (handle 1 2)) ∷ [])
    ≡ Refused fault.Stale ∷ Done (answer.Stat kind.File 420 0 4) ∷ []
reuse_stats = refl

reuse_log : log (played new reuse) 0 ≡ (5, (2 ∷ 2 ∷ []) ∷ (1 ∷ 1 ∷ []) ∷ [])
reuse_log = refl

-- ---- a drain ends within a run of blocks

abbrev three : Serial
three = played new (
    create (codes "a") ∷ write 0 (codes "aaaabbbbcccc") ∷ maintain on.Snap ∷ write 0 (codes "ddddeeeeffff") ∷ [])

three_snaps : snaps three ≡ (2 ∷ 3 ∷ []) ∷ (1 ∷ 3 ∷ 3 ∷ []) ∷ []
three_snaps = refl

abbrev drain_two : Serial
drain_two = played three (maintain (on.Drop 1) ∷ maintain (on.Drain 2) ∷ [])

drain_two_space : space drain_two ≡ 9 ∷ 2 ∷ 3 ∷ 2 ∷ []
drain_two_space = refl

drain_two_lists : lists_told drain_two ≡ (2 ∷ []) ∷ from_eight ∷ []
drain_two_lists = refl

drain_rest : (line drain_two (maintain (on.Drain 9))).reply ≡ counted 2
drain_rest = refl

drain_rest_lists : lists_told (line drain_two (maintain (on.Drain 9))).world ≡ (2 ∷ 3 ∷ 4 ∷ []) ∷ from_eight ∷ []
drain_rest_lists = refl

-- ---- a snapshot shows the old tree

abbrev emptied : Serial
emptied = played new (
    by 0 (call.Mkdir (handle 0 1) (codes "d") 493) ∷ by 0 (call.Create (handle 1 1) (codes "x") 420) ∷ maintain on.Snap
    ∷ by 0 (call.Unlink (handle 1 1) (codes "x")) ∷ by 0 (call.Rmdir (handle 0 1) (codes "d")) ∷ [])

emptied_tree : map shown (tree_told emptied) ≡ root_shown ∷ []
emptied_tree = refl

emptied_shown : told (line emptied (show 1)).reply ≡
    root_shown ∷ dir_shown (codes "d" ∷ []) ∷ file_shown (codes "d" ∷ codes "x" ∷ []) [] ∷ []
emptied_shown = refl

emptied_refused : (line emptied (show 2)).reply ≡ Refused fault.NoSnapshot
emptied_refused = refl

-- ---- snapshot refusals, without those of a call that runs

abbrev refusals : List Line
refusals =
    maintain (on.Drop 7) ∷ maintain on.Snap ∷ maintain on.Snap ∷ maintain on.Snap ∷ maintain on.Snap ∷ maintain on.Snap
    ∷ by 1 (call.SnapshotOrCleaner (on.Drop 2)) ∷ []

refusals_replies : play new refusals ≡
    Refused fault.NoSnapshot ∷ snapped 1 ∷ snapped 2 ∷ snapped 3 ∷ snapped 4
    ∷ Refused fault.TooManySnapshots ∷ nothing ∷ []
refusals_replies = refl

refusals_snaps : snaps (played new refusals) ≡ (5 ∷ 0 ∷ []) ∷ (1 ∷ 0 ∷ 0 ∷ []) ∷ (3 ∷ 0 ∷ 0 ∷ []) ∷ (4 ∷ 0 ∷ 0 ∷ []) ∷ []
refusals_snaps = refl
