-- Every kind of step keeps settled logs, and all but commit points keep every settled node.
use Rattle.std.proofs.Common.{Bool, List, None, Option, Some, [], ap, arith, cond, false, length, nat_lt, refl, subst, sym, true, ℕ, ◌%◌, ◌+◌, ◌<◌, ◌^◌, ◌∙◌, ◌≡◌}
use Rattle.std.specs.List.{AllByRecursion}
use Rattle.std.specs.Prelude.{is_none, slice_index_or}
use Rattle.std.proofs.lemmas.Bool.{false≢true, true≢false}
use Rattle.nv_alloc.specs.Block.{BlockValue}
use Rattle.nv_base.specs.declared.fault.Fault.{Fault}
use Rattle.nv_calls.specs.AllCalls.{blocks_wanted, early, effect, looked, refusal}
use Rattle.nv_cell.specs.Cell.{CellState}
use Rattle.nv_journal.specs.Journal.{settled_tail}
use Rattle.nv_machine.specs.Kept.{AreApart, AreLogsKept, HasNothing, IsInFile, IsPlanFor, IsReleaseCovered, Knows}
use Rattle.nv_alloc.specs.Numbers.{has}
use Rattle.nv_machine.specs.Hands.{unpublished_at}
use Rattle.nv_machine.specs.Kinds.{enter_turn}
use Rattle.nv_machine.proofs.Cleanable.{IsCleanable}
use Rattle.nv_machine.proofs.LogTails.{IsTailLast}
use Rattle.nv_machine.specs.Locks.{AreSlots, is_owner}
use Rattle.nv_machine.specs.Order.{AreLogsOrdered}
use Rattle.nv_machine.specs.PlainRun.{Commits, Nothing, plain_change, keeps_nodes}
use Rattle.nv_machine.specs.Reads.{copies, has_last_page, slot_at, written_slots}
use Rattle.nv_machine.specs.Sequence.{beginning, locking, looking}
use Rattle.nv_machine.specs.Step.{ending_at, is_numbered, kind_turn, made_in, same_looked}
use Rattle.nv_machine.specs.World.{Append, ReturnNumber, Check, Close, Ending, Ends, Enter, Give, HandState, Leave, Lock, LockPicked, Look, Moves, Next, Number, Open, BoundAnew, Publish, Ready, Refuses, Release, Retire, Running, Shared, Show, SnapshotOrCleanerStep, SnapshotOrCleaner, TakeBlocks, TakeLogPages, Turn, Unlock, Visit, Waits, cell_at, go_to, no_cell, owner_at, with_book, LockCleaned, PlanCleaning, Fresh, Unlink, Compact, with_cell}
use Rattle.nv_machine.proofs.LogsKeptByCommits.{OnKept, append_kept, close_kept, knows_appending, open_kept, publish_kept, retire_kept}
use Rattle.nv_machine.proofs.UnlentSteps.{IsBeside, aside, is_aside}
use Rattle.nv_machine.proofs.CallKnowledge.{KnownBy, OnKnows, closes_knows, denied_knows, locking_knows, not_overtaken, number_nothing, passed_check, ready_knows, snapshot_knows, wanted_in_file}
use Rattle.nv_machine.proofs.NextSteps.{KnowsNext, Untold}
use Rattle.nv_machine.proofs.LoopSteps.{looking_any}
use Rattle.nv_machine.proofs.StepWays.{Closes, EndsBy, Going, any_ends, noted, take_sum}
use Rattle.nv_machine.proofs.StepWalk.{counted, last_walk, walk_of}
use Rattle.nv_machine.proofs.LocksHeld.{Before, lent_holder}
use Rattle.nv_machine.proofs.LogsKept.{KeptLeft, SameLogs, Still, still_left, still_nodes}
use Rattle.nv_machine.proofs.AppendsToCome.{OnShared, end_shared}
use Rattle.nv_machine.specs.SnapshotOrCleaner.{snapshot_or_cleaner_turn}
use Rattle.nv_machine.proofs.StepWork.{snapshot_or_cleaner_work}
use Rattle.nv_machine.proofs.WorkKeeps.{AfterTurn, snapshot_keeps}
use Rattle.nv_machine.proofs.LogsKeptByReleases.{release_retires, released_left, released_logs}
use Rattle.nv_calls.specs.Retiring.{released}
use Rattle.nv_book.specs.Book.{BookState}
use Rattle.nv_machine.proofs.SnapshotOrCleanerTurns.{done_keeps}
use Rattle.nv_machine.proofs.CellChanges.{clean_cell_on, clean_slot_on, is_clean_on, lent_clean, lent_inside_own}
use Rattle.nv_machine.proofs.LogsKeptByCleanings.{cleaned_left, cleaned_logs}
use Rattle.nv_machine.proofs.CleanSteps.{cleans_own}

pub none_some : (ino : ℕ) → None ≡ Some ino → ⊥
none_some ino e = true≢false (ap (λ (o : Option ℕ). is_none o) e)

-- a step that is lent neither a cell nor the book nor the commit lock
aside_kept : (k : Next) (block a : ℕ) (granted : Bool) (s : Shared) (h : HandState) (r : Running) → is_aside k ≡ true → (same : Bool)
    → AreLogsKept s → OnKnows block (a % length s.lists) (kind_turn k block a granted s h r)
    → OnKept same block a s (kind_turn k block a granted s h r)
aside_kept k block a granted s h r is same kept on =
    go (kind_turn k block a granted s h r) (aside k block a granted s h r is) on where
      still : (t : Shared) → IsBeside s t → Still s t
      still t by = record {
        cells = λ ino. ap (λ (l : List CellState). slice_index_or l ino no_cell) by.cells;
        journals = ap (λ (b : BookState). b.journals) by.book;
        cpus = by.cpus;
      }

      left : (t : Shared) → IsBeside s t → KeptLeft a s t
      left t by = still_left a s t kept (still t by) (λ e. kept.closed (sym by.holder ∙ e))

      go : (turn : Turn) → AfterTurn (λ (t : Shared) (g : HandState). IsBeside s t) turn → OnKnows block (a % length s.lists) turn
          → OnKept same block a s turn
      go (Moves t g q) by on = (left t by, (λ e. still_nodes s t (still t by)), on)
      go Waits by on = tt
      go (Ends result t g) by on = (left t by, (λ e. still_nodes s t (still t by)))

-- a turn whose world is this one
ending : (same : Bool) (block a : ℕ) (s t : Shared) (turn : Turn) → KeptLeft a s t → SameLogs s t → OnShared t turn
    → OnKnows block (a % length s.lists) turn → OnKept same block a s turn
ending same block a s t (Moves u h q) left nodes e on =
    (subst (KeptLeft a s) (sym e) left, (λ is. subst (SameLogs s) (sym e) nodes), on)
ending same block a s t Waits left nodes e on = tt
ending same block a s t (Ends result u h) left nodes e on = (subst (KeptLeft a s) (sym e) left, (λ is. subst (SameLogs s) (sym e) nodes))

pub same_still : (s : Shared) → Still s s
same_still s = record { cells = λ ino. refl; journals = refl; cpus = refl }

enter_kept : (same : Bool) (block : ℕ) (holder : Option ℕ) (last granted : Bool) (a : ℕ) (s : Shared) (h : HandState) (r : Running)
    → s.holder ≡ holder → AreLogsKept s → OnKnows block (a % length s.lists) (enter_turn holder last granted a s h r)
    → OnKept same block a s (enter_turn holder last granted a s h r)
enter_kept same block (Some other) last granted a s h r e kept on = tt
enter_kept same block None true granted a s h r e kept on =
    ending same block a s s _ (still_left a s s kept (same_still s) kept.closed) (still_nodes s s (same_still s))
    (end_shared r.slots _ s h r) on
enter_kept same block None false false a s h r e kept on =
    ending same block a s s _ (still_left a s s kept (same_still s) kept.closed) (still_nodes s s (same_still s))
    (end_shared r.slots _ s h r) on
enter_kept same block None false true a s h r e kept on =
    let still : Still s _ = record { cells = λ ino. refl; journals = refl; cpus = refl } in
    (still_left a s _ kept still (λ held. kept.closed e), (λ is. still_nodes s _ still), on)

-- a call that passes its check has the pages of a file
checked : (block : ℕ) (s : Shared) (h : HandState) (r : Running) → 0 < block → ending_at block s h r ≡ None
    → IsInFile block r.call (blocks_wanted block (copies s) (has_last_page block s r.call) r.call)
checked block s h r some e = wanted_in_file block (copies s) (has_last_page block s r.call) r.call some
    (passed_check (early (copies s) r.call) (same_looked (looked (copies s) r.call) r.looked) (refusal block (copies s) r.call)
    (is_numbered (beginning r.call) h.ino) (effect (copies s) (made_in s h.ino r.made) r.call) e)

keeps_if : (b : Bool) → b ≡ keeps_nodes (cond b Nothing Commits)
keeps_if true = refl
keeps_if false = refl

-- ---- every kind

-- what a step may rely on
pub record Standing (k : Next) (block a : ℕ) (s : Shared) (h : HandState) (r : Running) : Type 0 where
  pub before : Before a s k r
  pub kept : AreLogsKept s
  pub logs : AreLogsOrdered s
  pub apart : (ino : ℕ) → AreApart (cell_at s ino).blocks
  pub small : AllByRecursion (λ (b : BlockValue). b.number < 2 ^ 32) h.blocks
  pub some : 0 < block
  pub knows : Knows k block s (a % length s.lists) h r
  pub releases : IsReleaseCovered s k
  pub tails : (ino : ℕ) → owner_at s ino ≡ Some a → is_owner a s.holder ≡ false → (tail : ℕ) → settled_tail s.book.journals ino tail ≡ tail
  pub published : (ino : ℕ) → owner_at s ino ≡ Some a → has (unpublished_at k (written_slots r)) ino ≡ false
      → IsTailLast (cell_at s ino)
  pub ready : IsCleanable k block s h r

-- a step of a call on snapshots that is lent the book alone: it leaves journals and cells
booked : (block a : ℕ) (s : Shared) (book : BookState) (h : HandState) → AreLogsKept s → book.journals ≡ s.book.journals
    → KeptLeft a s (with_book book s) × SameLogs s (with_book book s)
booked block a s book h kept same =
    let still : Still s (with_book book s) = record { cells = λ ino. refl; journals = same; cpus = refl } in
    (still_left a s (with_book book s) kept still (λ e. kept.closed e), still_nodes s (with_book book s) still)

-- a turn keeps what it keeps, and its call knows nothing of it
abbrev IsLeft : ℕ → Shared → Shared → HandState → Type 0
IsLeft a s t h = KeptLeft a s t × SameLogs s t

kept_after : (block a : ℕ) (s : Shared) (t : Turn) → AfterTurn (IsLeft a s) t → OnKnows block (a % length s.lists) t
    → OnKept true block a s t
kept_after block a s (Moves t h q) left on = (left.0, (λ e. left.1), on)
kept_after block a s Waits left on = tt
kept_after block a s (Ends result t h) left on = (left.0, λ e. left.1)

abbrev Keeps : Next → ℕ → ℕ → Bool → Shared → HandState → Running → Type 0
Keeps k block a granted s h r =
    OnKept (keeps_nodes (plain_change k (written_slots r) (kind_turn k block a granted s h r))) block a s (kind_turn k block a granted s h r)

slots_of_cells : (k : Next) (block a : ℕ) (s : Shared) (h : HandState) (r : Running) → Standing k block a s h r
    → AreSlots (length s.cells) r.slots
slots_of_cells k block a s h r st = subst (λ (n : ℕ). AreSlots n r.slots) st.before.wide st.before.are

book_step : (block a : ℕ) (granted : Bool) (step : SnapshotOrCleanerStep) (s : Shared) (h : HandState) (r : Running) → AreLogsKept s
    → (snapshot_or_cleaner_work step a s h).shared.book.journals ≡ s.book.journals
    → ((snapshot_or_cleaner_work step a s h).shared ≡ with_book (snapshot_or_cleaner_work step a s h).shared.book s)
    → OnKnows block (a % length s.lists) (snapshot_or_cleaner_turn step a granted s h r)
    → OnKept true block a s (snapshot_or_cleaner_turn step a granted s h r)
book_step block a granted step s h r kept same is on =
    kept_after block a s (snapshot_or_cleaner_turn step a granted s h r)
    (snapshot_keeps (IsLeft a s) step a granted s h r
    (still_left a s s kept (same_still s) kept.closed, still_nodes s s (same_still s))
    (subst (λ (t : Shared). IsLeft a s t (snapshot_or_cleaner_work step a s h).hand) (sym is)
    (booked block a s (snapshot_or_cleaner_work step a s h).shared.book h kept same))) on

-- a cleaning
cleaned_kept : (step : SnapshotOrCleanerStep) (block a : ℕ) (granted : Bool) (s : Shared) (h : HandState) (r : Running)
    → is_clean_on step ≡ true → Standing (SnapshotOrCleaner step) block a s h r
    → with_cell (clean_slot_on step) (clean_cell_on step s h) s ≡ (snapshot_or_cleaner_work step a s h).shared
    → OnKnows block (a % length s.lists) (snapshot_or_cleaner_turn step a granted s h r)
    → OnKept true block a s (snapshot_or_cleaner_turn step a granted s h r)
cleaned_kept step block a granted s h r is st made on =
    let k = SnapshotOrCleaner step in
    let ino = clean_slot_on step in
    let here = lent_inside_own k a s r st.before ino (lent_clean k (length s.lists) a r is) in
    let tails = st.tails ino here.1 st.before.mine.holder in
    let cleans = cleans_own k block s h r is here.0 (st.published ino here.1 refl) st.ready in
    kept_after block a s (snapshot_or_cleaner_turn step a granted s h r)
    (snapshot_keeps (IsLeft a s) step a granted s h r
    (still_left a s s st.kept (same_still s) st.kept.closed, still_nodes s s (same_still s))
    (subst (λ (t : Shared). IsLeft a s t (snapshot_or_cleaner_work step a s h).hand) made (
      cleaned_left a s st.kept ino _ here.0 here.1 tails _ _ cleans,
      cleaned_logs a s st.kept ino _ here.0 here.1 tails _ _ cleans,
    ))) on

snapshot_kept : (step : SnapshotOrCleanerStep) (block a : ℕ) (granted : Bool) (s : Shared) (h : HandState) (r : Running)
    → Standing (SnapshotOrCleaner step) block a s h r → OnKnows block (a % length s.lists) (snapshot_or_cleaner_turn step a granted s h r)
    → OnKept true block a s (snapshot_or_cleaner_turn step a granted s h r)
snapshot_kept (Show snapshot showing) block a granted s h r st on =
    aside_kept (SnapshotOrCleaner (Show snapshot showing)) block a granted s h r refl true st.kept on
snapshot_kept (LockPicked draining picked) block a granted s h r st on =
    aside_kept (SnapshotOrCleaner (LockPicked draining picked)) block a granted s h r refl true st.kept on
snapshot_kept (LockCleaned manner ino) block a granted s h r st on =
    aside_kept (SnapshotOrCleaner (LockCleaned manner ino)) block a granted s h r refl true st.kept on
snapshot_kept (PlanCleaning manner slot) block a granted s h r st on =
    aside_kept (SnapshotOrCleaner (PlanCleaning manner slot)) block a granted s h r refl true st.kept on
snapshot_kept (Fresh ino asked wanted) block a granted s h r st on =
    aside_kept (SnapshotOrCleaner (Fresh ino asked wanted)) block a granted s h r refl true st.kept on
snapshot_kept (Unlink ino) block a granted s h r st on = cleaned_kept (Unlink ino) block a granted s h r refl st refl on
snapshot_kept (Compact ino) block a granted s h r st on = cleaned_kept (Compact ino) block a granted s h r refl st refl on
snapshot_kept (Release draining picked) block a granted s h r st on =
    let here = lent_inside_own (SnapshotOrCleaner (Release draining picked)) a s r st.before picked.ino refl in
    let new = released picked (cell_at s picked.ino) in
    let is = release_retires picked (cell_at s picked.ino) st.releases in
    let tails = st.tails picked.ino here.1 st.before.mine.holder in
    kept_after block a s (snapshot_or_cleaner_turn (Release draining picked) a granted s h r)
    (snapshot_keeps (IsLeft a s) (Release draining picked) a granted s h r
    (still_left a s s st.kept (same_still s) st.kept.closed, still_nodes s s (same_still s)) (
      released_left a s st.kept picked.ino new here.0 here.1 is tails (st.apart picked.ino),
      released_logs a s st.kept picked.ino new here.0 here.1 is tails (st.apart picked.ino),
    )) on
snapshot_kept other block a granted s h r st on = book_step block a granted other s h r st.kept refl refl on

more_than_none : (bs : List BlockValue) (n : ℕ) → bs ≡ [] → n ≡ length bs + n
more_than_none bs n none = rw none (omega arith)

abbrev is_outside : Next → Bool
is_outside (Append place) = false
is_outside Open = false
is_outside (Publish place) = false
is_outside Close = false
is_outside (Retire place) = false
is_outside other = true

-- what a call knows after a step outside of a commit
module _ (block a : ℕ) (granted : Bool) (s : Shared) (h : HandState) (r : Running) where
  abbrev Knows_ : Going
  Knows_ = KnowsNext (KnownBy block (a % length s.lists))

  closes_if : {t : Shared} {x : HandState} {q : Running} {e : Ending} → (e ≡ BoundAnew → HasNothing x) → Closes Knows_ Untold t x q e
  closes_if none = closes_knows block (a % length s.lists) _ _ _ _ none

  denied : {slots : List ℕ} {t : Shared} {x : HandState} {q : Running} {fault : Fault} → EndsBy Knows_ Untold slots t x q (Refuses fault)
  denied = denied_knows block (a % length s.lists)

  pub knows_turn : (k : Next) → Standing k block a s h r → is_outside k ≡ true
      → OnKnows block (a % length s.lists) (kind_turn k block a granted s h r)
  knows_turn Number st is = walk_of Knows_ Untold block a s h r Number granted
      (let q = noted Number block s h r in
      locking_knows block _ 0 q.slots _ _ (go_to (locking 0 q.slots) q) (number_nothing s.pool.numbers s h st.knows.0) st.knows.1) refl
  knows_turn (Look place) st is = walk_of Knows_ Untold block a s h r (Look place) granted (
    λ fault free by. denied,
    λ clear. (let q = noted (Look place) block s h r in
        looking_any (λ (k : Next). Knows k block s (a % length s.lists) h (go_to (looking (place + 1) q) q)) (λ place. st.knows)
        (λ place. st.knows) st.knows (place + 1) q),
  ) refl
  knows_turn (Lock place) st is = walk_of Knows_ Untold block a s h r (Lock place) granted
      (λ free. locking_knows block _ (place + 1) r.slots _ h (go_to (locking (place + 1) r.slots) r) st.knows.0 st.knows.1) refl
  knows_turn Check st is = walk_of Knows_ Untold block a s h r Check granted (
    λ e by. any_ends (closes_if (λ over. st.knows.0)),
    λ none lacks. denied,
    λ none. counted Knows_ Untold block a s h r Check (IsInFile block r.call)
        (subst (IsInFile block r.call) (more_than_none h.blocks _ st.knows.0.blocks) (checked block s h r st.some none))
        (λ n q. (st.knows.0.killed, st.knows.1, q)) (λ n q. (st.knows.0.killed, st.knows.1, q))
        (λ q. (st.knows.0.killed, st.knows.1, q)),
  ) refl
  knows_turn (TakeBlocks asked) st is = walk_of Knows_ Untold block a s h r (TakeBlocks asked) granted (
    counted Knows_ Untold block a s h r (TakeBlocks asked) (IsInFile block r.call)
        (subst (IsInFile block r.call) (sym (take_sum h.blocks _ r.wanted)) st.knows.2)
        (λ n q. (st.knows.0, st.knows.1, q)) (λ n q. (st.knows.0, st.knows.1, q)) (λ q. (st.knows.0, st.knows.1, q)),
    λ n is last. denied,
  ) refl
  knows_turn (TakeLogPages asked) st is = walk_of Knows_ Untold block a s h r (TakeLogPages asked) granted (
    record { more = λ n is ask. st.knows; pages = λ n none is. st.knows; ready = λ none is. st.knows },
    λ n is last. denied,
  ) refl
  knows_turn Ready st is = walk_of Knows_ Untold block a s h r Ready granted
      (λ lacks. denied, (st.knows.0, st.knows.1, ready_knows block s h r st.small st.knows.2)) refl
  knows_turn Enter st is = walk_of Knows_ Untold block a s h r Enter granted (
    λ free last. denied,
    λ clear lacks. denied,
    λ clear. knows_appending block _ _ h (noted Enter block s h r) st.knows.1 0 st.knows.0 (st.kept.closed clear.0)
        (λ lt numbers at. subst (IsPlanFor r.plan) (sym (at refl)) st.knows.2),
  ) refl
  knows_turn Leave st is = walk_of Knows_ Untold block a s h r Leave granted
      (any_ends (closes_if (λ over. absurd (not_overtaken r.ending st.knows.0 over)))) refl
  knows_turn (Unlock place) st is = last_walk Knows_ Untold block a s h r (Unlock place) granted refl (closes_if st.knows)
  knows_turn (Give cpu) st is = walk_of Knows_ Untold block a s h r (Give cpu) granted
      (record { give = λ cpu is. tt; back = λ ino none is. tt; lasts = λ none is. record { told = λ full. tt; picks = λ d left drains some. tt } })
      refl
  knows_turn ReturnNumber st is =
      walk_of Knows_ Untold block a s h r ReturnNumber granted (record { told = λ full. tt; picks = λ d left drains some. tt }) refl
  knows_turn Visit st is = walk_of Knows_ Untold block a s h r Visit granted
      (λ fault free by. denied, λ free passed lacks. denied, λ free passed. tt) refl
  knows_turn (SnapshotOrCleaner step) st is = snapshot_knows block _ step a granted s h r
  knows_turn other st is = absurd (false≢true is)

pub kept_turn : (k : Next) (block a : ℕ) (granted : Bool) (s : Shared) (h : HandState) (r : Running) → Standing k block a s h r
    → Keeps k block a granted s h r
kept_turn Enter block a granted s h r st = enter_kept _ block s.holder _ granted a s h r refl st.kept
    (knows_turn block a granted s h r Enter st refl)
kept_turn (Append place) block a granted s h r st =
    append_kept block a s h r st.kept (slots_of_cells (Append place) block a s h r st)
    (lent_holder (Append place) a s r st.before refl) place
    st.before.inside _ st.knows
kept_turn Open block a granted s h r st =
    open_kept block a s h r st.kept (slots_of_cells Open block a s h r st) (lent_holder Open a s r st.before refl) st.knows
kept_turn (Publish place) block a granted s h r st =
    subst (λ (same : Bool). OnKept same block a s (kind_turn (Publish place) block a granted s h r))
    (keeps_if (nat_lt 1 (length (written_slots r))))
    (publish_kept block a s h r st.kept (slots_of_cells (Publish place) block a s h r st)
    (lent_holder (Publish place) a s r st.before refl) place
    st.before.inside (st.logs (slot_at (written_slots r) place)).ordered _ refl st.knows)
kept_turn Close block a granted s h r st =
    close_kept block a s h r st.kept (slots_of_cells Close block a s h r st) (lent_holder Close a s r st.before refl) st.knows
kept_turn (Retire place) block a granted s h r st =
    retire_kept block a s h r st.kept (slots_of_cells (Retire place) block a s h r st)
    (lent_holder (Retire place) a s r st.before refl) place
    st.before.inside (st.apart (slot_at (written_slots r) place)) st.knows
kept_turn Leave block a granted s h r st =
    ending true block a s (record s { holder = None }) _
    (still_left a s (record s { holder = None }) st.kept (record { cells = λ ino. refl; journals = refl; cpus = refl }) (λ e. st.knows.1))
    (still_nodes s (record s { holder = None }) (record { cells = λ ino. refl; journals = refl; cpus = refl })) (end_shared r.slots _ _ h r)
    (knows_turn block a granted s h r Leave st refl)
kept_turn (SnapshotOrCleaner step) block a granted s h r st =
    subst (λ (same : Bool). OnKept same block a s (snapshot_or_cleaner_turn step a granted s h r))
    (sym (done_keeps step (snapshot_or_cleaner_turn step a granted s h r)))
    (snapshot_kept step block a granted s h r st (snapshot_knows block _ step a granted s h r))
kept_turn other block a granted s h r st =
    aside_kept other block a granted s h r refl true st.kept (knows_turn block a granted s h r other st refl)
