-- The grammar of a line: what its words spell, or the first fault that applies. The calls are a table, from which
-- their counts of words and their reading follow; so are the words of the commands.
use Rattle.std.specs.Prelude.{◌≡◌, ℕ, ◌+◌, ◌-◌, ◌==◌, ◌&&◌, Bool, true, false, if◌then◌else◌, nat_lt, nat_le, List, [], ◌∷◌, length, take, drop, codes, bytes_eq, Option, Some, None, Result, Ok, Err, ok_or, map, slice_index_or}
use Rattle.std.specs.List.{list_all}
use denote.Ref.{Bor}
use Rattle.nv_base.specs.declared.fault.ScriptFaultKind.{ScriptFaultKind}
use Rattle.nv_base.specs.declared.fault.ScriptFaultKind.TheVariants as kind
use Rattle.nv_base.specs.declared.geometry.GeometryNumbers.{GeometryNumbers}
use Rattle.nv_base.specs.declared.limits.TheConstants.{DRAIN, MODE}
use Rattle.nv_base.specs.declared.numbers.Handle.{Handle}
use Rattle.nv_calls.specs.declared.call.Call.{Call}
use Rattle.nv_calls.specs.declared.call.Call.TheVariants as call
use Rattle.nv_calls.specs.declared.snapshot_or_cleaner_call.SnapshotOrCleanerCall.{SnapshotOrCleanerCall}
use Rattle.nv_calls.specs.declared.snapshot_or_cleaner_call.SnapshotOrCleanerCall.TheVariants as snapshot_or_cleaner
use Rattle.nv_script.specs.declared.call.CallWord.{CallWord}
use Rattle.nv_script.specs.declared.call.CallWord.TheVariants as calls
use Rattle.nv_script.specs.declared.command.Command.{Command}
use Rattle.nv_script.specs.declared.command.Command.TheVariants as command
use Rattle.nv_script.specs.declared.command.CommandWord.{CommandWord}
use Rattle.nv_script.specs.declared.command.CommandWord.TheVariants as word
use Rattle.nv_script.specs.declared.command.Head.{Head}
use Rattle.nv_script.specs.declared.command.Head.TheVariants as head
use Rattle.nv_script.specs.declared.fault.LineFault.{LineFault}
use Rattle.nv_script.specs.declared.fault.LineFault.TheVariants as line
use Rattle.nv_script.specs.declared.field.Field.{Field}
use Rattle.nv_script.specs.declared.field.Field.TheVariants as field
use Rattle.nv_script.specs.Words.{number_of, number_up_to, positive_up_to, handle_of, text_of}

-- what was read, or the fault of the line
abbrev pub Parsed : Type 0 → Type 0
Parsed T = Result T ScriptFaultKind

-- goes on with what was read
infixl 10 ◌>>=◌
-- what is read next, where the first was read
abbrev pub ◌>>=◌ : {A B : Type 0} → Parsed A → (A → Parsed B) → Parsed B
(Ok a) >>= next = next a
(Err fault) >>= next = Err fault

-- goes on where the test holds, and else has this fault
abbrev pub if_so : {A : Type 0} → Bool → ScriptFaultKind → Parsed A → Parsed A
if_so true fault next = next
if_so false fault next = Err fault

-- the word at a place, which has no bytes where there is none
abbrev pub word_at : List (List ℕ) → ℕ → List ℕ
word_at words place = slice_index_or words place []

-- what a word of this kind stands for
abbrev pub Value : Field → Type 0
Value field.Handle = Handle
Value field.Number = ℕ
Value field.Mode = ℕ
Value field.Records = ℕ
Value field.Text = List ℕ

-- the word at a place, read as its kind says
abbrev pub value_at : (f : Field) → List (List ℕ) → ℕ → Parsed (Value f)
value_at field.Handle words place = ok_or (handle_of (word_at words place)) kind.Number
value_at field.Number words place = ok_or (number_of (word_at words place)) kind.Number
value_at field.Mode words place = ok_or (number_up_to MODE (word_at words place)) kind.Number
value_at field.Records words place = ok_or (positive_up_to DRAIN (word_at words place)) kind.Number
value_at field.Text words place = ok_or (text_of (word_at words place)) kind.Text

-- what makes an A of one value for each field
abbrev pub Maker : List Field → Type 0 → Type 0
Maker [] A = A
Maker (f ∷ fields) A = Value f → Maker fields A

-- what is made of the words from a place on, read from left to right as the fields say
abbrev pub made_of : {A : Type 0} → (fields : List Field) → Maker fields A → List (List ℕ) → ℕ → Parsed A
made_of [] made words place = Ok made
made_of {A = A} (f ∷ fields) make words place = value_at f words place >>= λ value. made_of {A = A} fields (make value) words (place + 1)

-- a row of the table of calls
pub data Row : Type 0 where
  -- the name, what the words after it are, and the call that their values make
  entry : (name : List ℕ) (fields : List Field) → Maker fields Call → Row

-- the table of calls
abbrev pub row : CallWord → Row
row calls.Create = entry (codes "create") (field.Handle ∷ field.Text ∷ field.Mode ∷ []) (λ dir name mode. call.Create dir name mode)
row calls.Mkdir = entry (codes "mkdir") (field.Handle ∷ field.Text ∷ field.Mode ∷ []) (λ dir name mode. call.Mkdir dir name mode)
row calls.Write = entry (codes "write") (field.Handle ∷ field.Number ∷ field.Text ∷ []) (λ file offset text. call.Write file offset text)
row calls.Read = entry (codes "read") (field.Handle ∷ field.Number ∷ field.Number ∷ []) (λ file offset count. call.Read file offset count)
row calls.Size = entry (codes "size") (field.Handle ∷ field.Number ∷ []) (λ file size. call.Size file size)
row calls.Mode = entry (codes "mode") (field.Handle ∷ field.Mode ∷ []) (λ handle mode. call.Mode handle mode)
row calls.Stat = entry (codes "stat") (field.Handle ∷ []) (λ handle. call.Stat handle)
row calls.List = entry (codes "list") (field.Handle ∷ []) (λ dir. call.List dir)
row calls.Lookup = entry (codes "lookup") (field.Handle ∷ field.Text ∷ []) (λ dir name. call.Lookup dir name)
row calls.Unlink = entry (codes "unlink") (field.Handle ∷ field.Text ∷ []) (λ dir name. call.Unlink dir name)
row calls.Rmdir = entry (codes "rmdir") (field.Handle ∷ field.Text ∷ []) (λ dir name. call.Rmdir dir name)
row calls.Rename =
    entry (codes "rename") (field.Handle ∷ field.Text ∷ field.Handle ∷ field.Text ∷ []) (λ from old to new. call.Rename from old to new)
row calls.Snap = entry (codes "snap") [] (call.SnapshotOrCleaner snapshot_or_cleaner.Snap)
row calls.Drop = entry (codes "drop") (field.Number ∷ []) (λ s. call.SnapshotOrCleaner (snapshot_or_cleaner.Drop s))
row calls.Show = entry (codes "show") (field.Number ∷ []) (λ s. call.SnapshotOrCleaner (snapshot_or_cleaner.Show s))
row calls.Drain = entry (codes "drain") (field.Records ∷ []) (λ most. call.SnapshotOrCleaner (snapshot_or_cleaner.Drain most))
row calls.Fast = entry (codes "fast") (field.Number ∷ []) (λ ino. call.SnapshotOrCleaner (snapshot_or_cleaner.Fast ino))
row calls.Thorough = entry (codes "thorough") (field.Number ∷ []) (λ ino. call.SnapshotOrCleaner (snapshot_or_cleaner.Thorough ino))
row calls.Auto = entry (codes "auto") (field.Number ∷ []) (λ ino. call.SnapshotOrCleaner (snapshot_or_cleaner.Auto ino))

-- all words of calls, in the order of their table
abbrev pub all_calls : List CallWord
all_calls =
    calls.Create ∷ calls.Mkdir ∷ calls.Write ∷ calls.Read ∷ calls.Size ∷ calls.Mode ∷ calls.Stat ∷ calls.List
    ∷ calls.Lookup ∷ calls.Unlink ∷ calls.Rmdir ∷ calls.Rename ∷ calls.Snap ∷ calls.Drop ∷ calls.Show ∷ calls.Drain
    ∷ calls.Fast ∷ calls.Thorough ∷ calls.Auto ∷ []

-- the name of a row
abbrev pub name_in : Row → List ℕ
name_in (entry name fields make) = name

-- the kinds of words of a row
abbrev pub fields_in : Row → List Field
fields_in (entry name fields make) = fields

-- the call of a line, whose own words stand from place 3 on
abbrev pub call_in : Row → List (List ℕ) → Parsed Call
call_in (entry name fields make) words = made_of {A = Call} fields make words 3

-- the call that these words make
abbrev pub call_with : CallWord → List (List ℕ) → Parsed Call
call_with c words = call_in (row c) words

-- a `stat`, `list` or `lookup`, or a call that takes a name away
abbrev pub reads_or_unbinds : CallWord → Bool
reads_or_unbinds calls.Create = false
reads_or_unbinds calls.Mkdir = false
reads_or_unbinds calls.Write = false
reads_or_unbinds calls.Read = false
reads_or_unbinds calls.Size = false
reads_or_unbinds calls.Mode = false
reads_or_unbinds calls.Stat = true
reads_or_unbinds calls.List = true
reads_or_unbinds calls.Lookup = true
reads_or_unbinds calls.Unlink = true
reads_or_unbinds calls.Rmdir = true
reads_or_unbinds calls.Rename = true
reads_or_unbinds calls.Snap = false
reads_or_unbinds calls.Drop = false
reads_or_unbinds calls.Show = false
reads_or_unbinds calls.Drain = false
reads_or_unbinds calls.Fast = false
reads_or_unbinds calls.Thorough = false
reads_or_unbinds calls.Auto = false

-- the calls on snapshots, and the cleaners
abbrev pub is_snapshot_or_cleaner : CallWord → Bool
is_snapshot_or_cleaner calls.Snap = true
is_snapshot_or_cleaner calls.Drop = true
is_snapshot_or_cleaner calls.Show = true
is_snapshot_or_cleaner calls.Drain = true
is_snapshot_or_cleaner calls.Fast = true
is_snapshot_or_cleaner calls.Thorough = true
is_snapshot_or_cleaner calls.Auto = true
is_snapshot_or_cleaner other = false

-- such a call that was read
abbrev pub snapshot_or_cleaner_read : Parsed SnapshotOrCleanerCall → Parsed Call
snapshot_or_cleaner_read (Ok c) = Ok (call.SnapshotOrCleaner c)
snapshot_or_cleaner_read (Err fault) = Err fault

-- the first of some calls that has this name
abbrev pub named_among : List CallWord → List ℕ → Option CallWord
named_among [] name = None
named_among (c ∷ cs) name = if bytes_eq name (name_in (row c)) then Some c else named_among cs name

-- the call that the third word names
abbrev pub third_call : List (List ℕ) → Parsed CallWord
third_call words = if_so (nat_le 3 (length words)) kind.Count (ok_or (named_among all_calls (word_at words 2)) kind.Word)

-- the commands that name no call
abbrev pub plain_word : List ℕ → Option CommandWord
plain_word name =
    if bytes_eq name (codes "go") then Some word.Go
    else if bytes_eq name (codes "run") then Some word.Run
    else if bytes_eq name (codes "stop") then Some word.Stop
    else if bytes_eq name (codes "tree") then Some word.Tree
    else if bytes_eq name (codes "stree") then Some word.SnapTree
    else if bytes_eq name (codes "snaps") then Some word.Snaps
    else if bytes_eq name (codes "space") then Some word.Space
    else if bytes_eq name (codes "lists") then Some word.Lists
    else if bytes_eq name (codes "log") then Some word.Log
    else if bytes_eq name (codes "audit") then Some word.Audit
    else None

-- what a line is by its first words: a `format`, or a command on a made world
abbrev pub head_of : List (List ℕ) → Parsed Head
head_of words =
    if bytes_eq (word_at words 0) (codes "format") then Ok head.Format
    else if bytes_eq (word_at words 0) (codes "start") then (third_call words >>= λ c. Ok (head.Command (word.Start c)))
    else if bytes_eq (word_at words 0) (codes "do") then (third_call words >>= λ c. Ok (head.Command (word.Do c)))
    else (ok_or (plain_word (word_at words 0)) kind.Word >>= λ w. Ok (head.Command w))

-- the words of a command after its name, before those of its call
abbrev pub own_fields : CommandWord → List Field
own_fields (word.Start c) = field.Number ∷ []
own_fields (word.Do c) = field.Number ∷ []
own_fields word.Go = field.Number ∷ field.Number ∷ []
own_fields word.Run = field.Number ∷ []
own_fields word.SnapTree = field.Number ∷ []
own_fields word.Log = field.Number ∷ []
own_fields _ = []

-- how many of them may be left out: a `go` goes once where it does not say how often
abbrev pub optional_count : CommandWord → ℕ
optional_count word.Go = 1
optional_count _ = 0

-- how many words the name of a call and its own words are
abbrev pub called_count : CommandWord → ℕ
called_count (word.Start c) = 1 + length (fields_in (row c))
called_count (word.Do c) = 1 + length (fields_in (row c))
called_count _ = 0

-- how many words a command takes
abbrev pub word_count : CommandWord → ℕ
word_count w = 1 + length (own_fields w) + called_count w

-- no word is empty
abbrev pub none_empty : List (List ℕ) → Bool
none_empty words = list_all (λ w. nat_lt 0 (length w)) words

-- the words are so many, of which some may be left out, and each has a byte
abbrev pub are_counted : (most optional : ℕ) → List (List ℕ) → Bool
are_counted most optional words = nat_le most (length words + optional) && nat_le (length words) most && none_empty words

-- the most steps of a `go`
abbrev pub most_goes : ℕ
most_goes = 1048576

-- how often a `go` goes
abbrev pub goes_in : List (List ℕ) → Parsed ℕ
goes_in words = if nat_lt 2 (length words) then ok_or (positive_up_to most_goes (word_at words 2)) kind.Number else Ok 1

-- the command with all words of its line, read from left to right
abbrev pub command_with : CommandWord → List (List ℕ) → Parsed Command
command_with (word.Start c) words = value_at field.Number words 1 >>= λ actor. call_with c words >>= λ call. Ok (command.Start actor call)
command_with (word.Do c) words = value_at field.Number words 1 >>= λ actor. call_with c words >>= λ call. Ok (command.Do actor call)
command_with word.Go words = value_at field.Number words 1 >>= λ actor. goes_in words >>= λ count. Ok (command.Go actor (count - 1))
command_with word.Run words = value_at field.Number words 1 >>= λ actor. Ok (command.Run actor)
command_with word.Stop words = Ok command.Stop
command_with word.Tree words = Ok command.Tree
command_with word.SnapTree words = value_at field.Number words 1 >>= λ s. Ok (command.SnapTree s)
command_with word.Snaps words = Ok command.Snaps
command_with word.Space words = Ok command.Space
command_with word.Lists words = Ok command.Lists
command_with word.Log words = value_at field.Number words 1 >>= λ ino. Ok (command.Log ino)
command_with word.Audit words = Ok command.Audit

-- a name, `=` and a number; the name comes with its `=`
abbrev pub setting_of : List ℕ → List ℕ → Option ℕ
setting_of name w = if bytes_eq (take (length name) w) name then number_of (drop (length name) w) else None

-- a setting of `format` at a place
abbrev pub setting_at : List (List ℕ) → ℕ → List ℕ → Parsed ℕ
setting_at words place name = ok_or (setting_of name (word_at words place)) kind.Number

-- the seven numbers of a `format`, in this order
abbrev pub numbers_with : List (List ℕ) → Parsed GeometryNumbers
numbers_with words =
    setting_at words 1 (codes "blocks=") >>= λ blocks.
    setting_at words 2 (codes "cpus=") >>= λ cpus.
    setting_at words 3 (codes "block=") >>= λ block.
    setting_at words 4 (codes "page=") >>= λ page.
    setting_at words 5 (codes "inodes=") >>= λ inodes.
    setting_at words 6 (codes "snaps=") >>= λ snaps.
    setting_at words 7 (codes "actors=") >>= λ actors.
    Ok (record { blocks = blocks; cpus = cpus; block = block; page = page; inodes = inodes; snaps = snaps; actors = actors })

-- where no world is made: the numbers of a `format`, and any other command is out of order
abbrev pub format_with : Head → List (List ℕ) → Parsed GeometryNumbers
format_with head.Format words = if_so (are_counted 8 0 words) kind.Count (numbers_with words)
format_with (head.Command w) words = Err kind.Order

-- on a made world: a command, and a `format` is out of order
abbrev pub command_due : Head → List (List ℕ) → Parsed Command
command_due head.Format words = Err kind.Order
command_due (head.Command w) words = if_so (are_counted (word_count w) (optional_count w) words) kind.Count (command_with w words)

-- THE NUMBERS OF A `format` LINE, where no world is made, or the first fault that applies. The
-- faults are `word` or `count` of the first words, `order`, `count` of all words, then `number` or
-- `text` from left to right.
abbrev pub format_of : List (List ℕ) → Parsed GeometryNumbers
format_of words = head_of words >>= λ h. format_with h words

-- THE COMMAND OF A LINE, on a made world, or the first fault that applies, in the same order
abbrev pub command_of : List (List ℕ) → Parsed Command
command_of words = head_of words >>= λ h. command_due h words

-- an empty line, or one that begins with `#`, has no command. Example: `do 0 create 0.1 %4 4096`
-- has the fault `text`, since its escape stands before its mode. `do 0 ` has the fault `word`,
-- since its third word names no call.
abbrev pub is_skipped : List ℕ → Bool
is_skipped [] = true
is_skipped (byte ∷ bytes) = byte == 35

-- the bytes of borrowed words
abbrev pub texts : List (Bor (List ℕ)) → List (List ℕ)
texts words = map (λ w. w.now) words

-- the fault of a line is that of its reading
abbrev pub IsLineFault : {A : Type 0} → LineFault → Parsed A → Type 0
IsLineFault (line.OutOfMemory _) read = Unit {0}
IsLineFault line.Write read = ⊥
IsLineFault (line.Faulty fault) read = read ≡ Err fault

-- what was read, unless memory was refused
abbrev pub Reads : {A : Type 0} → Result A LineFault → Parsed A → Type 0
Reads (Ok a) read = read ≡ Ok a
Reads (Err fault) read = IsLineFault fault read
