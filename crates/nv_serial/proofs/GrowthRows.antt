-- A worked row of growth in a world with numbers: a log grows twice in one call, behind data that two lists give.
use Rattle.std.proofs.Common.{◌≡◌, List, [], ◌∷◌, codes, refl}
use Rattle.std.specs.List.{flat_map, range_with_len}
use Rattle.nv_base.specs.declared.node.Kind.TheVariants as kind
use Rattle.nv_calls.specs.declared.answer.Answer.TheVariants as answer
use Rattle.nv_calls.specs.declared.call.Call.TheVariants as call
use Rattle.nv_machine.specs.World.{Done}
use Rattle.nv_serial.specs.Free.{used_by}
use Rattle.nv_serial.specs.Reports.{lists_told}
use Rattle.nv_serial.specs.Serial.{Serial, new_serial}
use Rattle.nv_serial.proofs.CleanerRows.{mode}
use Rattle.nv_serial.proofs.Scripts.{Line, by, counted, create, handle, line, log, made_as, nothing, play, played, read, space, unlink, write}

abbrev narrow : Serial
narrow = new_serial (
    record { blocks = 16; cpus = 2; block = 1; page = 2; inodes = 8; snaps = 1; actors = 1 })

-- ---- five files, two of which go: the root has log pages 0, 2, 5 and 6, and the files 1, 3, 4, 7 and 8

abbrev five_lines : List Line
five_lines =
    create (codes "a") ∷ create (codes "b") ∷ create (codes "c") ∷ create (codes "d")
    ∷ create (codes "e") ∷ []

abbrev five : Serial
five = played narrow five_lines

five_replies : play narrow five_lines
    ≡ made_as 1 1 ∷ made_as 2 1 ∷ made_as 3 1 ∷ made_as 4 1 ∷ made_as 5 1 ∷ []
five_replies = refl

five_blocks : flat_map (used_by five) (range_with_len 0 6) ≡ 0 ∷ 2 ∷ 5 ∷ 6 ∷ 1 ∷ 3 ∷ 4 ∷ 7 ∷ 8 ∷ []
five_blocks = refl

five_lists : lists_told five ≡ [] ∷ (9 ∷ 10 ∷ 11 ∷ 12 ∷ 13 ∷ 14 ∷ 15 ∷ []) ∷ []
five_lists = refl

abbrev before_lines : List Line
before_lines = unlink (codes "b") ∷ unlink (codes "d") ∷ mode 1 ∷ []

abbrev before : Serial
before = played five before_lines

before_replies : play five before_lines ≡ nothing ∷ nothing ∷ nothing ∷ []
before_replies = refl

before_lists : lists_told before ≡ (3 ∷ 7 ∷ []) ∷ (9 ∷ 10 ∷ 11 ∷ 12 ∷ 13 ∷ 14 ∷ 15 ∷ []) ∷ []
before_lists = refl

-- the mode has filled the one log page of the file
before_log : log before 1 ≡ (2, (2 ∷ 2 ∷ []) ∷ [])
before_log = refl

-- ---- data on 3, 7 and 9, no two of which are one run: three entries, for which the log of one page grows by 1 and then by 2

abbrev three_bytes : Line
three_bytes = write 0 (codes "xyz")

abbrev pub grown : Serial
grown = (line before three_bytes).world

grown_replies : play before (three_bytes ∷ read 0 9 ∷ by 0 (call.Stat (handle 1 1)) ∷ [])
    ≡ counted 3 ∷ Done (answer.Bytes (codes "xyz")) ∷ Done (answer.Stat kind.File 1 3 9) ∷ []
grown_replies = refl

-- its log pages, and then its data
grown_blocks : used_by grown 1 ≡ 1 ∷ 10 ∷ 11 ∷ 12 ∷ 3 ∷ 7 ∷ 9 ∷ []
grown_blocks = refl

grown_log : log grown 1 ≡ (5, (2 ∷ 2 ∷ []) ∷ (2 ∷ 2 ∷ []) ∷ (1 ∷ 1 ∷ []) ∷ (0 ∷ 0 ∷ []) ∷ [])
grown_log = refl

grown_lists : lists_told grown ≡ [] ∷ (13 ∷ 14 ∷ 15 ∷ []) ∷ []
grown_lists = refl

grown_space : space grown ≡ 3 ∷ 10 ∷ 3 ∷ 0 ∷ []
grown_space = refl
