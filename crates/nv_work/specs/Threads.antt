-- THE CALLS OF THREADS: which calls a thread makes, and the text of its answers.
use Rattle.std.specs.Prelude.{◌≡◌, ◌≤◌, ℕ, ◌%◌, ◌==◌, Bool, bytes_eq, if◌then◌else◌, List, [], ◌∷◌, ◌++◌, length, codes, decimal, filter, fold, map, slice_index_or, slice_set, Result, Ok, Err}
use Rattle.std.specs.List.{AllZip, enumerate_from, flat_map, range_with_len}
use Rattle.nv_base.specs.declared.fault.Fault.{Fault}
use Rattle.nv_base.specs.declared.fault.Fault.TheVariants as fault
use Rattle.nv_base.specs.declared.fault.ScriptFaultKind.TheVariants as kind
use Rattle.nv_calls.specs.declared.answer.Answer.{Answer}
use Rattle.nv_machine.specs.World.{Done, Refused, Reply}
use Rattle.nv_script.specs.declared.command.Command.{Command}
use Rattle.nv_script.specs.declared.command.Command.TheVariants as command
use Rattle.nv_script.specs.Grammar.{Parsed, command_of, is_skipped, word_at}
use Rattle.nv_script.specs.Texts.{reply_line}
use Rattle.nv_script.specs.Words.{words_of}
use Rattle.nv_work.specs.declared.forked.ForkedCall.{ForkedCall}

-- ---- the calls

-- the command of a line behind `fork`: of another than `do` the word is unknown
abbrev pub forked_of : List (List ℕ) → Parsed Command
forked_of words = if bytes_eq (word_at words 0) (codes "do") then command_of words else Err kind.Word

-- the call that was read, if one was
abbrev pub call_read : Parsed Command → List ForkedCall
call_read (Ok (command.Do actor call)) = record { actor = actor; call = call } ∷ []
call_read _ = []

-- the call of a line behind `fork`, if it has one
abbrev pub calls_on : List ℕ → List ForkedCall
calls_on line = if is_skipped line then [] else call_read (forked_of (words_of line))

-- the calls of these lines behind `fork`, in their order
abbrev pub calls_in : List (List ℕ) → List ForkedCall
calls_in lines = flat_map calls_on lines

-- a thread makes the calls of the actors whose number is its own modulo the number of threads
abbrev pub is_own : (threads thread : ℕ) → ForkedCall → Bool
is_own threads thread forked = (forked.actor % threads) == thread

-- the calls that a thread makes, in order
abbrev pub share_of : (threads : ℕ) → List ForkedCall → (thread : ℕ) → List ForkedCall
share_of threads calls thread = filter (is_own threads thread) calls

-- THE CALLS OF EACH THREAD, in the order of their lines. Example: of calls by the actors 0, 1, 2
-- and 0, two threads have the first, third and fourth, and the second.
abbrev pub shares_of : (threads : ℕ) → List ForkedCall → List (List ForkedCall)
shares_of threads calls = map (share_of threads calls) (range_with_len 0 threads)

-- the lists of calls, with one call more at the end of its thread's
abbrev pub with_call : List (List ForkedCall) → ForkedCall → List (List ForkedCall)
with_call lists forked =
    let thread = forked.actor % length lists in
    slice_set lists thread (slice_index_or lists thread [] ++ forked ∷ [])

-- the lists of calls, with more calls given to their threads
abbrev pub with_calls : List (List ForkedCall) → List ForkedCall → List (List ForkedCall)
with_calls lists calls = fold with_call lists calls

-- ---- the answers

-- what a call is answered: an answer or a refusal
abbrev pub Told : Type 0
Told = Result Answer Fault

-- the reply of what was told
abbrev pub reply_by : Told → Reply
reply_by (Ok answer) = Done answer
reply_by (Err why) = Refused why

-- a call of an actor that the world does not have is refused; what another is answered is open.
-- Example: a thread 1 with two calls, of which the second is of an actor 7 among three, has the
-- text `1: done 4`, `1: refused E23 NoActor`.
abbrev pub IsAnswered : (actors : ℕ) → ForkedCall → Told → Type 0
IsAnswered actors forked told = actors ≤ forked.actor → told ≡ Err fault.NoActor

-- an answer's text: it stands behind the number of its thread
abbrev pub answer_line : (thread : ℕ) → Told → List ℕ
answer_line thread told = decimal thread ++ codes ": " ++ reply_line (reply_by told)

-- THE TEXT OF A THREAD: one answer for each of its calls, in their order, behind the thread's
-- number and a colon
abbrev pub IsThreadText : (actors : ℕ) → ℕ × List ForkedCall → List ℕ → Type 0
IsThreadText actors share text =
    (answers : List Told) × AllZip (IsAnswered actors) share.1 answers × (text ≡ flat_map (answer_line share.0) answers)

-- THE TEXTS OF ALL THREADS, in the order of their numbers from 0 on
abbrev pub AreThreadTexts : (actors : ℕ) → List (List ForkedCall) → List (List ℕ) → Type 0
AreThreadTexts actors shares texts = AllZip (IsThreadText actors) (enumerate_from 0 shares) texts
