-- What a call that is made alone has made of logs, of the plain world and of the records before each step: nothing up to its
-- enter, then of each slot that it writes what its entries make of the log, and at its end the whole commit or nothing.
use Rattle.std.proofs.Common.{◌≡◌, ◌⊎◌, ℕ, ◌+◌, ◌<◌, ◌≤◌, ◌==◌, ◌++◌, Bool, true, false, List, [], ◌∷◌, None, drop, filter, if◌then◌else◌, length, map, slice_index_or, take}
use Rattle.std.specs.Prelude.{Err, Ok, nat_le, option_to_list}
use Rattle.std.specs.List.{AllByRecursion, flat_map}
use Rattle.nv_alloc.specs.Block.{BlockValue, numbers_of}
use Rattle.nv_alloc.specs.FreeList.{FreeBlocks}
use Rattle.nv_alloc.specs.Numbers.{IsRising, has}
use Rattle.nv_base.specs.declared.limits.TheConstants.{NUMBER}
use Rattle.nv_base.specs.declared.numbers.Handle.{Handle}
use Rattle.nv_book.specs.Book.{BookState}
use Rattle.nv_book.specs.declared.record.Record.{Record}
use Rattle.nv_calls.specs.AllCalls.{answer, effect, is_nothing}
use Rattle.nv_calls.specs.Plain.{node_in, nodes_after}
use Rattle.nv_calls.specs.Retiring.{erased, name_of}
use Rattle.nv_calls.specs.Slots.{entries_of, items_for, place_in}
use Rattle.nv_calls.specs.declared.answer.Answer.{Answer}
use Rattle.nv_calls.specs.declared.call.Call.{Call}
use Rattle.nv_calls.specs.declared.plan.InodePlan.{InodePlan}
use Rattle.nv_cell.specs.Cell.{CellState}
use Rattle.nv_cell.specs.Numbers.{killed_numbers, killed_part}
use Rattle.nv_cell.specs.Readers.{is_erased, is_gone}
use Rattle.nv_cell.specs.declared.killed.KilledPart.{KilledPart}
use Rattle.nv_entry.specs.Held.{Retention, keeps}
use Rattle.nv_entry.specs.Log.{pairs}
use Rattle.nv_entry.specs.declared.held.Pair.{Pair}
use Rattle.nv_entry.specs.declared.item.Entry.{Entry}
use Rattle.nv_epoch.specs.SnapList.{ids}
use Rattle.nv_log.specs.Chain.{ChainState, appended, with_page}
use Rattle.nv_machine.specs.Held.{is_of_slot}
use Rattle.nv_machine.specs.PlainRun.{Plain}
use Rattle.nv_machine.specs.Reads.{is_written, pages_needed, pages_wanted, written_slots}
use Rattle.nv_machine.specs.Recorded.{with_parts}
use Rattle.nv_machine.specs.World.{Answers, Append, Cleans, Close, Drains, Ending, Give, Leave, SnapshotOrCleaner, Open, BoundAnew, Publish, Refuses, Retire, ReturnNumber, Running, Shared, Unlock, cell_at, no_cell}
use Rattle.nv_machine.proofs.NextSteps.{Known}
use Rattle.nv_machine.proofs.StepWays.{Telling}
use Rattle.nv_serial.specs.Row.{data_for, plan_by_row, row, row_at}
use Rattle.nv_serial.proofs.AloneStages.{PlainState}
use Rattle.nv_serial.proofs.MadeTaken.{IsMade}

-- ---- chains

abbrev pub pages_on : List BlockValue → ChainState → ChainState
pages_on [] chain = chain
pages_on (b ∷ blocks) chain = pages_on blocks (with_page b chain)

abbrev pub entries_on : List Entry → ChainState → ChainState
entries_on [] chain = chain
entries_on (e ∷ entries) chain = entries_on entries (appended e chain)

-- a chain whatever its tail
abbrev pub untailed : ChainState → ChainState
untailed chain = record chain { tail = 0 }

-- the slots in front of one
abbrev pub front : ℕ → List ℕ → List ℕ
front ino [] = []
front ino (m ∷ slots) = if m == ino then [] else m ∷ front ino slots

module _ (block actor : ℕ) (s0 : Shared) (c : Call) (b0 : PlainState) where
  -- the numbers behind those of the data, which log pages take
  abbrev pub fresh : List ℕ
  fresh = drop (data_for block s0 c) (row_at s0 actor)

  abbrev pub left_row : List FreeBlocks → List ℕ
  left_row lists = row (length s0.lists) actor 0 (length s0.lists) lists

  -- ---- the call

  -- the slots rise, there are cells for them, and the plan has items for them and no others
  pub record ArePlanned (plans : List InodePlan) (slots : List ℕ) : Type 0 where
    pub rising : IsRising slots
    pub inside : AllByRecursion (λ ino. ino < length s0.cells) slots
    pub written : AllByRecursion (λ ino. is_written plans ino ≡ true) slots
    pub others : (ino : ℕ) → has slots ino ≡ false → items_for plans ino ≡ []

  -- it commits its plan, with the next commit number, in the epoch of now, and writes some slot
  pub record IsCommitting (call : Call) (plans : List InodePlan) (made : Handle) (commit epoch : ℕ) (written : List ℕ) : Type 0 where
    pub some : 0 < length written
    pub slots : ArePlanned plans written
    pub enough : data_for block s0 c + pages_wanted s0 written plans ≤ length (row_at s0 actor)
    pub limit : nat_le NUMBER s0.book.commit ≡ false
    pub call_is : call ≡ c
    pub made_is : IsMade block actor s0 c made
    pub plan_is : plans ≡ plan_by_row block s0 actor c made
    pub commit_is : commit ≡ s0.book.commit + 1
    pub epoch_is : epoch ≡ s0.book.snaps.epoch

  abbrev pub CommittingIn : Running → Type 0
  CommittingIn r = IsCommitting r.call r.plan r.made r.commit r.epoch (written_slots r)

  -- ---- logs

  abbrev pub cell0 : ℕ → CellState
  cell0 ino = cell_at s0 ino

  module _ (plans : List InodePlan) (commit epoch : ℕ) where
    abbrev pub entries_at : ℕ → List Entry
    entries_at ino = entries_of commit epoch (place_in plans ino) (items_for plans ino)

    -- the log of a slot with these, and what they kill of it
    abbrev pub log_then : ℕ → List Entry
    log_then ino = (cell0 ino).chain.entries ++ entries_at ino

    abbrev pub killed_at : ℕ → List KilledPart
    killed_at ino =
        flat_map (λ n. option_to_list (killed_part (log_then ino) n))
        (killed_numbers (cell0 ino).block (log_then ino) (cell0 ino).chain.tail)

    -- the records once so many slots are retired
    abbrev pub records_on : List ℕ → List Record → List Record
    records_on [] rs = rs
    records_on (ino ∷ slots) rs = records_on slots (with_parts (ids s0.book.snaps) ino epoch (killed_at ino) rs)

    -- a cell has its entries behind its log, and its pages behind those of its chain
    pub record IsGrown (written : List ℕ) (ino : ℕ) (cell : CellState) : Type 0 where
      pub pages : List BlockValue
      pub many : length pages ≡ pages_needed s0 plans ino
      pub numbers : numbers_of pages ≡ take (pages_needed s0 plans ino) (drop (pages_wanted s0 (front ino written) plans) fresh)
      pub chain : untailed cell.chain ≡ untailed (entries_on (entries_at ino) (pages_on pages (cell0 ino).chain))
      pub generation : cell.generation ≡ (cell0 ino).generation
      pub size_is : cell.block ≡ (cell0 ino).block

    -- what keeps its pairs: the living snapshots, and the deferred records by name
    abbrev pub kept_by : ℕ → Retention
    kept_by ino = record {
      block = (cell0 ino).block;
      snapshots = ids s0.book.snaps;
      pending = map name_of (filter (is_of_slot ino) s0.book.deferred);
    }

    -- with its entries it is gone, and nothing of it is kept
    pub record IsOverThen (ino : ℕ) : Type 0 where
      pub gone : is_gone (log_then ino) ≡ true
      pub kept : AllByRecursion (λ (pair : Pair). keeps (kept_by ino) pair ≡ false) (pairs (cell0 ino).block (log_then ino))

    -- and what was killed of it is retired; it is erased only where it is over
    pub record IsSettled (written : List ℕ) (ino : ℕ) (cell : CellState) : Type 0 where
      pub old : CellState
      pub grown : IsGrown written ino old
      pub is : cell ≡ erased old
      pub over : is_erased old ≡ true → IsOverThen ino

    -- the log of a slot: as it was, grown, or grown and settled
    abbrev pub LogAt : (grown settled : Bool) → List ℕ → ℕ → CellState → Type 0
    LogAt false settled written ino cell = cell ≡ cell0 ino
    LogAt true false written ino cell = IsGrown written ino cell
    LogAt true true written ino cell = IsSettled written ino cell

  abbrev pub LogsAt : (grown settled : List ℕ) → Shared → Running → Type 0
  LogsAt grown settled s r =
      (ino : ℕ) → LogAt r.plan r.commit r.epoch (has grown ino) (has settled ino) (written_slots r) ino (cell_at s ino)

  -- the logs that are not yet published end where they ended
  abbrev pub TailsAt : List ℕ → Shared → Type 0
  TailsAt published s = (ino : ℕ) → has published ino ≡ false → (cell_at s ino).chain.tail ≡ (cell0 ino).chain.tail

  -- ---- beside it

  abbrev pub entered : Plain
  entered = record b0.plain { commit = b0.plain.commit + 1 }

  abbrev pub committed : Handle → Plain
  committed made = record entered { nodes = nodes_after entered.commit (effect (node_in entered.nodes) made c) entered.nodes }

  -- the commit is entered, and the plain world and the records are these
  pub record IsUnderWay (cells : List CellState) (book : BookState) (plain : Plain) (records : List Record) (left : Plain)
      (told : List Record) : Type 0 where
    pub count : length cells ≡ length s0.cells
    pub snaps : book.snaps ≡ s0.book.snaps
    pub deferred : book.deferred ≡ s0.book.deferred
    pub commit_is : book.commit ≡ s0.book.commit + 1
    pub plain_is : plain ≡ left
    pub records_are : records ≡ told

  -- nothing has changed
  pub record IsUnchanged (cells : List CellState) (book : BookState) (plain : Plain) (records : List Record) : Type 0 where
    pub cells_are : cells ≡ s0.cells
    pub book_is : book ≡ s0.book
    pub plain_is : plain ≡ b0.plain
    pub records_are : records ≡ b0.records

  abbrev pub LogsOf : List InodePlan → ℕ → ℕ → List ℕ → List CellState → Type 0
  LogsOf plans commit epoch slots cells =
      (ino : ℕ) → LogAt plans commit epoch (has slots ino) (has slots ino) slots ino (slice_index_or cells ino no_cell)

  -- THE WHOLE COMMIT is made, where a new inode has this handle
  pub record IsCommitted (cells : List CellState) (book : BookState) (plain : Plain) (records : List Record) (made : Handle) : Type 0 where
    pub slots : List ℕ
    pub made_is : IsMade block actor s0 c made
    pub planned : ArePlanned (plan_by_row block s0 actor c made) slots
    pub enough : data_for block s0 c + pages_wanted s0 slots (plan_by_row block s0 actor c made) ≤ length (row_at s0 actor)
    pub limit : nat_le NUMBER s0.book.commit ≡ false
    pub under_way : IsUnderWay cells book plain records (committed made)
        (records_on (plan_by_row block s0 actor c made) (s0.book.commit + 1) s0.book.snaps.epoch slots b0.records)
    pub logs : LogsOf (plan_by_row block s0 actor c made) (s0.book.commit + 1) s0.book.snaps.epoch slots cells

  -- ---- before each step

  abbrev pub UnchangedIn : PlainState → Shared → Type 0
  UnchangedIn now s = IsUnchanged s.cells s.book now.plain now.records

  abbrev pub UnderWayIn : PlainState → Shared → Plain → List Record → Type 0
  UnderWayIn now s plain records = IsUnderWay s.cells s.book now.plain now.records plain records

  -- it had nothing to commit and has changed nothing, or its whole commit is made
  abbrev pub IsEnded : PlainState → List CellState → BookState → Handle → Type 0
  IsEnded now cells book made =
      ((is_nothing c ≡ true) × IsUnchanged cells book now.plain now.records)
      ⊎ ((is_nothing c ≡ false) × IsCommitted cells book now.plain now.records made)

  -- with this answer
  pub record IsAnswered (found : Answer) (cells : List CellState) (book : BookState) (plain : Plain) (records : List Record) : Type 0 where
    pub made : Handle
    pub some : is_nothing c ≡ false
    pub commits : IsCommitted cells book plain records made
    pub told : found ≡ answer (λ handle. None) made c

  abbrev pub IsDone : Answer → PlainState → List CellState → BookState → Type 0
  IsDone found now cells book =
      ((is_nothing c ≡ true) × IsUnchanged cells book now.plain now.records) ⊎ IsAnswered found cells book now.plain now.records

  -- how it ends: with a commit where there is something to commit, else with nothing
  abbrev pub EndsSo : Ending → PlainState → List CellState → BookState → Handle → Call → Type 0
  EndsSo Answers now cells book made call = (call ≡ c) × IsEnded now cells book made
  EndsSo (Refuses fault) now cells book made call = IsUnchanged cells book now.plain now.records
  EndsSo BoundAnew now cells book made call = IsUnchanged cells book now.plain now.records
  EndsSo (Drains draining) now cells book made call = ⊥
  EndsSo (Cleans cleaned) now cells book made call = ⊥

  abbrev pub ToldSo : PlainState → Telling
  ToldSo now (Ok found) s h = IsDone found now s.cells s.book
  ToldSo now (Err fault) s h = UnchangedIn now s

  abbrev pub CommitStage : PlainState → Known
  CommitStage now (Append place) s h r =
      CommittingIn r × UnderWayIn now s entered b0.records × LogsAt (take place (written_slots r)) [] s r × TailsAt [] s
      × (numbers_of h.pages ++ left_row s.lists ≡ drop (pages_wanted s0 (take place (written_slots r)) r.plan) fresh)
      × (h.killed ≡ [])
  CommitStage now Open s h r =
      CommittingIn r × UnderWayIn now s entered b0.records × LogsAt (written_slots r) [] s r × TailsAt [] s × (h.killed ≡ [])
  CommitStage now (Publish place) s h r =
      CommittingIn r × UnderWayIn now s entered b0.records × LogsAt (written_slots r) [] s r
      × TailsAt (take place (written_slots r)) s
      × (h.killed ≡ map (killed_at r.plan r.commit r.epoch) (take place (written_slots r)))
  CommitStage now Close s h r =
      CommittingIn r × UnderWayIn now s entered b0.records × LogsAt (written_slots r) [] s r
      × (h.killed ≡ map (killed_at r.plan r.commit r.epoch) (written_slots r))
  CommitStage now (Retire place) s h r =
      CommittingIn r
      × UnderWayIn now s (committed r.made) (records_on r.plan r.commit r.epoch (take place (written_slots r)) b0.records)
      × LogsAt (written_slots r) (take place (written_slots r)) s r
      × (h.killed ≡ map (killed_at r.plan r.commit r.epoch) (drop place (written_slots r)))
  CommitStage now Leave s h r =
      CommittingIn r × UnderWayIn now s (committed r.made) (records_on r.plan r.commit r.epoch (written_slots r) b0.records)
      × LogsAt (written_slots r) (written_slots r) s r
  CommitStage now (Unlock place) s h r = EndsSo r.ending now s.cells s.book r.made r.call
  CommitStage now (Give cpu) s h r = EndsSo r.ending now s.cells s.book r.made r.call
  CommitStage now ReturnNumber s h r = EndsSo r.ending now s.cells s.book r.made r.call
  CommitStage now (SnapshotOrCleaner step) s h r = ⊥
  CommitStage now other s h r = UnchangedIn now s
