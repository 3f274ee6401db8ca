-- A step leaves what it is not lent.
use Rattle.std.proofs.Common.{Bool, List, None, Option, Some, [], ap, false, get_or-set_other, length, length-set, refl, sym, true, ℕ, ◌∷◌, ◌≡◌}
use Rattle.nv_alloc.specs.FreeList.{FreeBlocks}
use Rattle.nv_alloc.specs.InodePool.{FreeInodes}
use Rattle.nv_book.specs.Book.{BookState}
use Rattle.nv_cell.specs.Cell.{CellState}
use Rattle.nv_machine.specs.Frame.{Frame, IsFramed, Lent, Stays, lent, lent_on, nothing_lent}
use Rattle.nv_machine.specs.Step.{kind_turn}
use Rattle.nv_machine.specs.World.{Append, ReturnNumber, Close, Ends, Enter, Give, HandState, Leave, Lock, LockPicked, Moves, Next, Number, Open, Publish, Release, Retire, Running, Shared, Show, SnapshotOrCleanerStep, SnapshotOrCleaner, TakeBlocks, TakeLogPages, Turn, Unlock, Waits, no_cell, no_list, with_book, with_cell, with_list, with_owner, Compact, Fresh, PlanCleaning, LockCleaned, Unlink}
use Rattle.nv_machine.proofs.StepWork.{return_number_work, work, number_work, snapshot_or_cleaner_work}
use Rattle.nv_machine.proofs.WorkKeeps.{AfterTurn, turn_keeps}

-- ---- what is changed

stays_same : (b : Bool) {claim : Type 0} → claim → Stays b claim
stays_same true h = tt
stays_same false h = h

-- pool, book and commit lock may be others
parts_frame : (l : Lent) (pool : FreeInodes) (book : BookState) (holder : Option ℕ) (s : Shared) → Stays l.pool (pool ≡ s.pool)
    → Stays l.book (book ≡ s.book) → Stays l.commit_lock (holder ≡ s.holder)
    → Frame l s (record s { pool = pool; book = book; holder = holder })
parts_frame l pool book holder s pools books holders = record {
  lists = λ cpu h. refl;
  pool = pools;
  cells = λ ino h. refl;
  owners = λ ino h. refl;
  book = books;
  holder = holders;
  cpus = refl;
  slots = refl;
  locks = refl;
}

pub same_frame : (l : Lent) (s : Shared) → Frame l s s
same_frame l s = parts_frame l s.pool s.book s.holder s (stays_same l.pool refl) (stays_same l.book refl) (stays_same l.commit_lock refl)

pool_frame : (pool : FreeInodes) (s : Shared) → Frame (record nothing_lent { pool = true }) s (record s { pool = pool })
pool_frame pool s = parts_frame _ pool s.book s.holder s tt refl refl

book_frame : (book : BookState) (s : Shared) → Frame (record nothing_lent { book = true }) s (with_book book s)
book_frame book s = parts_frame _ s.pool book s.holder s refl tt refl

leave_frame : (s : Shared) → Frame (record nothing_lent { commit_lock = true }) s (record s { holder = None })
leave_frame s = parts_frame _ s.pool s.book None s refl refl tt

list_frame : (cpu : ℕ) (list : FreeBlocks) (s : Shared) → Frame (record nothing_lent { list = Some cpu }) s (with_list cpu list s)
list_frame cpu list s = record {
  lists = λ n h. get_or-set_other s.lists cpu n list no_list (λ e. h (ap Some (sym e)));
  pool = refl;
  cells = λ ino h. refl;
  owners = λ ino h. refl;
  book = refl;
  holder = refl;
  cpus = length-set s.lists cpu list;
  slots = refl;
  locks = refl;
}

-- a cell, and the book where it is lent too
cell_frame : (lent : Bool) (ino : ℕ) (book : BookState) (cell : CellState) (s : Shared) → Stays lent (book ≡ s.book)
    → Frame (record nothing_lent { book = lent; cell = Some ino }) s (with_cell ino cell (with_book book s))
cell_frame lent ino book cell s books = record {
  lists = λ cpu h. refl;
  pool = refl;
  cells = λ n h. get_or-set_other s.cells ino n cell no_cell (λ e. h (ap Some (sym e)));
  owners = λ n h. refl;
  book = books;
  holder = refl;
  cpus = refl;
  slots = length-set s.cells ino cell;
  locks = refl;
}

lock_frame : (ino : ℕ) (owner : Option ℕ) (s : Shared) → Frame (record nothing_lent { lock = Some ino }) s (with_owner ino owner s)
lock_frame ino owner s = record {
  lists = λ cpu h. refl;
  pool = refl;
  cells = λ n h. refl;
  owners = λ n h. get_or-set_other s.owners ino n owner None (λ e. h (ap Some (sym e)));
  book = refl;
  holder = refl;
  cpus = refl;
  slots = refl;
  locks = length-set s.owners ino owner;
}

-- ---- what each kind does

number_framed : (numbers : List ℕ) (s : Shared) (h : HandState)
    → Frame (record nothing_lent { pool = true }) s (number_work numbers s h).shared
number_framed [] s h = same_frame _ s
number_framed (ino ∷ numbers) s h = pool_frame _ s

back_framed : (number : Option ℕ) (s : Shared) (h : HandState)
    → Frame (record nothing_lent { pool = true }) s (return_number_work number s h).shared
back_framed None s h = same_frame _ s
back_framed (Some ino) s h = pool_frame _ s

snapshot_framed : (step : SnapshotOrCleanerStep) (actor : ℕ) (s : Shared) (h : HandState)
    → Frame (lent_on step (length s.lists) actor) s (snapshot_or_cleaner_work step actor s h).shared
snapshot_framed (Show snapshot showing) actor s h = same_frame _ s
snapshot_framed (LockPicked draining picked) actor s h = lock_frame picked.ino (Some actor) s
snapshot_framed (Release draining picked) actor s h = cell_frame false _ s.book _ s refl
snapshot_framed (LockCleaned manner ino) actor s h = lock_frame ino (Some actor) s
snapshot_framed (PlanCleaning manner slot) actor s h = same_frame _ s
snapshot_framed (Fresh ino asked wanted) actor s h = list_frame _ _ s
snapshot_framed (Unlink ino) actor s h = cell_frame false _ s.book _ s refl
snapshot_framed (Compact ino) actor s h = cell_frame false _ s.book _ s refl
snapshot_framed other actor s h = book_frame _ s

pub work_framed : (k : Next) (block actor : ℕ) (s : Shared) (h : HandState) (r : Running)
    → Frame (lent k (length s.lists) actor r) s (work k block actor s h r).shared
work_framed Number block actor s h r = number_framed s.pool.numbers s h
work_framed (Lock place) block actor s h r = lock_frame _ (Some actor) s
work_framed (TakeBlocks asked) block actor s h r = list_frame _ _ s
work_framed (TakeLogPages asked) block actor s h r = list_frame _ _ s
work_framed Enter block actor s h r = parts_frame _ s.pool _ _ s refl tt tt
work_framed (Append place) block actor s h r = cell_frame false _ s.book _ s refl
work_framed Open block actor s h r = book_frame _ s
work_framed (Publish place) block actor s h r = cell_frame false _ s.book _ s refl
work_framed Close block actor s h r = book_frame _ s
work_framed (Retire place) block actor s h r = cell_frame true _ _ _ s tt
work_framed Leave block actor s h r = leave_frame s
work_framed (Unlock place) block actor s h r = lock_frame _ None s
work_framed (Give cpu) block actor s h r = list_frame cpu _ s
work_framed ReturnNumber block actor s h r = back_framed h.ino s h
work_framed (SnapshotOrCleaner step) block actor s h r = snapshot_framed step actor s h
work_framed other block actor s h r = same_frame _ s

-- ---- turns

on_frame : (l : Lent) (s : Shared) (turn : Turn) → AfterTurn (λ (t : Shared) (h : HandState). Frame l s t) turn → IsFramed l s turn
on_frame l s (Moves t h q) f = f
on_frame l s Waits f = tt
on_frame l s (Ends result t h) f = f

pub framed : (k : Next) (block actor : ℕ) (granted : Bool) (s : Shared) (h : HandState) (r : Running)
    → IsFramed (lent k (length s.lists) actor r) s (kind_turn k block actor granted s h r)
framed k block actor granted s h r =
    let l = lent k (length s.lists) actor r in
    on_frame l s (kind_turn k block actor granted s h r)
    (turn_keeps (λ (t : Shared) (g : HandState). Frame l s t) k block actor granted s h r (same_frame l s)
    (work_framed k block actor s h r))
