-- Worked scripts, computed step by step.
use Rattle.std.proofs.Common.{List, [], map, refl, replicate, true, ◌++◌, ◌∷◌, ◌≡◌}
use Rattle.nv_base.specs.declared.fault.Fault.TheVariants.{ActorBusy, ActorIdle, NoActor}
use Rattle.nv_base.specs.declared.node.Kind.TheVariants.{Dir, File}
use Rattle.nv_machine.specs.Format.{formatted}
use Rattle.nv_machine.specs.Settled.{tree_of}
use Rattle.nv_machine.specs.Step.{replies, stays}
use Rattle.nv_machine.specs.World.{Done, Go, Moved, Refused, Start, Started, Waiting}
use Rattle.nv_machine.proofs.ScriptRows.{DoCall, Goes, Line, StartCall, device, free_count, handle, line, play, played, shown, space}
use Rattle.nv_calls.specs.declared.answer.Answer.TheVariants as answer
use Rattle.nv_calls.specs.declared.call.Call.TheVariants as call

-- a create with one taking has eighteen steps
created : replies (formatted device) (Start 0 (call.Create (handle 0 1) (97 ∷ []) 420) ∷ replicate 18 (Go 0 true))
    ≡ Started ∷ replicate 17 Moved ++ Done (answer.Made (handle 1 1)) ∷ []
created = refl

-- ---- events and lines

abbrev pub events_and_lines : List Line
events_and_lines =
    Goes 0 1
    ∷ StartCall 3 (call.Stat (handle 0 1))
    ∷ DoCall 0 (call.Create (handle 0 1) (97 ∷ []) 420)
    ∷ StartCall 0 (call.Write (handle 1 1) 0 (122 ∷ 122 ∷ []))
    ∷ StartCall 0 (call.Stat (handle 0 1))
    ∷ Goes 0 1
    ∷ DoCall 1 (call.Read (handle 1 1) 0 2)
    ∷ Goes 1 1
    ∷ Goes 0 99
    ∷ Goes 1 1
    ∷ []

events : play (formatted device) events_and_lines ≡
    Refused ActorIdle
    ∷ Refused NoActor
    ∷ Done (answer.Made (handle 1 1))
    ∷ Started
    ∷ Refused ActorBusy
    ∷ Moved
    ∷ Waiting
    ∷ Waiting
    ∷ Done (answer.Count 2)
    ∷ Done (answer.Bytes (122 ∷ 122 ∷ []))
    ∷ []
events = refl

-- ---- a write across a snapshot, up to its report of space

abbrev pub a_write_across : List Line
a_write_across =
    DoCall 0 (call.Create (handle 0 1) (97 ∷ []) 420)
    ∷ DoCall 0 (call.Write (handle 1 1) 0 (97 ∷ 97 ∷ 97 ∷ 97 ∷ []))
    ∷ StartCall 0 (call.Write (handle 1 1) 0 (98 ∷ 98 ∷ 98 ∷ 98 ∷ []))
    ∷ Goes 0 4
    ∷ []

across : play (formatted device) a_write_across ≡ Done (answer.Made (handle 1 1)) ∷ Done (answer.Count 4) ∷ Started ∷ Moved ∷ []
across = refl

-- 12 free, 2 in chains, one in the file, none pending, and one in the hand
across_space : space (played (formatted device) a_write_across) ≡ 12 ∷ 2 ∷ 1 ∷ 0 ∷ 1 ∷ []
across_space = refl

-- ---- the tree by settled logs, while a rename replaces a file

abbrev pub renames : List Line
renames =
    DoCall 0 (call.Mkdir (handle 0 1) (100 ∷ []) 493)
    ∷ DoCall 0 (call.Mkdir (handle 0 1) (101 ∷ []) 493)
    ∷ DoCall 0 (call.Create (handle 1 1) (120 ∷ []) 420)
    ∷ DoCall 0 (call.Create (handle 2 1) (121 ∷ []) 420)
    ∷ DoCall 0 (call.Write (handle 3 1) 0 (110 ∷ 101 ∷ 119 ∷ []))
    ∷ DoCall 0 (call.Write (handle 4 1) 0 (111 ∷ 108 ∷ 100 ∷ []))
    ∷ StartCall 0 (call.Rename (handle 1 1) (120 ∷ []) (handle 2 1) (121 ∷ []))
    ∷ Goes 0 14
    ∷ []

renamed : play (formatted device) renames ≡
    Done (answer.Made (handle 1 1))
    ∷ Done (answer.Made (handle 2 1))
    ∷ Done (answer.Made (handle 3 1))
    ∷ Done (answer.Made (handle 4 1))
    ∷ Done (answer.Count 3)
    ∷ Done (answer.Count 3)
    ∷ Started
    ∷ Moved
    ∷ []
renamed = refl

-- the first tail has moved, and the journal is open
before_the_close : map shown (tree_of (played (formatted device) renames)) ≡
    ([], (Dir, (493, [])))
    ∷ ((100 ∷ []) ∷ [], (Dir, (493, [])))
    ∷ ((100 ∷ []) ∷ (120 ∷ []) ∷ [], (File, (420, 110 ∷ 101 ∷ 119 ∷ [])))
    ∷ ((101 ∷ []) ∷ [], (Dir, (493, [])))
    ∷ ((101 ∷ []) ∷ (121 ∷ []) ∷ [], (File, (420, 111 ∷ 108 ∷ 100 ∷ [])))
    ∷ []
before_the_close = refl

-- all tails have moved, and the journal is open still
second_moves : (line (played (formatted device) renames) (Goes 0 2)).reply ≡ Moved
second_moves = refl

all_are_published : map shown (tree_of (line (played (formatted device) renames) (Goes 0 2)).world) ≡
    ([], (Dir, (493, [])))
    ∷ ((100 ∷ []) ∷ [], (Dir, (493, [])))
    ∷ ((100 ∷ []) ∷ (120 ∷ []) ∷ [], (File, (420, 110 ∷ 101 ∷ 119 ∷ [])))
    ∷ ((101 ∷ []) ∷ [], (Dir, (493, [])))
    ∷ ((101 ∷ []) ∷ (121 ∷ []) ∷ [], (File, (420, 111 ∷ 108 ∷ 100 ∷ [])))
    ∷ []
all_are_published = refl

-- the journal is closed
third_moves : (line (played (formatted device) renames) (Goes 0 3)).reply ≡ Moved
third_moves = refl

after_the_close : map shown (tree_of (line (played (formatted device) renames) (Goes 0 3)).world) ≡
    ([], (Dir, (493, [])))
    ∷ ((100 ∷ []) ∷ [], (Dir, (493, [])))
    ∷ ((101 ∷ []) ∷ [], (Dir, (493, [])))
    ∷ ((101 ∷ []) ∷ (121 ∷ []) ∷ [], (File, (420, 110 ∷ 101 ∷ 119 ∷ [])))
    ∷ []
after_the_close = refl

-- the replaced file is erased
at_the_end : line (played (formatted device) renames) (Goes 0 99)
    ≡ stays (Done answer.Nothing) (line (played (formatted device) renames) (Goes 0 99)).world
at_the_end = refl

erased_free : free_count (line (played (formatted device) renames) (Goes 0 99)).world.shared ≡ 11
erased_free = refl

erased_pool : (line (played (formatted device) renames) (Goes 0 99)).world.shared.pool.numbers ≡ 4 ∷ 5 ∷ 6 ∷ 7 ∷ []
erased_pool = refl
