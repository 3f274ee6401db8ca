-- A step moves inode numbers between the pool, the hand and the slots: each stands as often as before.
use Rattle.std.proofs.Common.{◌≡◌, ◌≢◌, ◌+◌, ◌<◌, ◌≤◌, ◌==◌, ◌∙◌, ◌∷◌, ℕ, Bool, true, false, cond, List, [], Option, Some, None, ap, arith, length, refl, subst, sym, take, if◌then◌else◌}
use Rattle.std.specs.Prelude.{nat_le}
use Rattle.std.proofs.lemmas.Bool.{eqb-true, false≢true}
use Rattle.std.proofs.lemmas.List.{map-id}
use Rattle.nv_alloc.specs.Numbers.{has, put_by, times}
use Rattle.nv_alloc.proofs.Lists.{times-cons, times-no, times-put_by, times-yes}
use Rattle.nv_base.specs.declared.limits.TheConstants.{NUMBER}
use Rattle.nv_calls.specs.Retiring.{erased, number_back}
use Rattle.nv_cell.specs.Cell.{CellState, empty_cell}
use Rattle.nv_machine.specs.Kinds.{entries_for, with_erased}
use Rattle.nv_machine.specs.Cleaning.{compacted_cell, unlinked}
use Rattle.nv_machine.specs.Reads.{if_number, pages_needed, slot_at, written_slots}
use Rattle.nv_machine.specs.World.{Actor, Append, ReturnNumber, Close, HandState, Next, Number, Publish, Retire, Running, Shared, cell_at, with_cell, SnapshotOrCleaner, SnapshotOrCleanerStep, Compact, Unlink}
use Rattle.nv_machine.proofs.StepWork.{return_number_work, snapshot_or_cleaner_work, work, number_work}
use Rattle.nv_machine.proofs.Lists.{self}
use Rattle.nv_machine.proofs.LogsKept.{cell_set}
use Rattle.nv_machine.proofs.PoolCells.{IsLike, appended_like, erased_gone, gone_inode, like_taken, one_if, keeps_like, taken_once, with_inode}
use Rattle.nv_cell.specs.Readers.{is_erased}
use Rattle.nv_machine.proofs.CellChanges.{clean_cell_on, clean_slot_on, is_clean_on, IsRemoval, Removal, hand_freed, is_removal_on, is_removed, on_step, removal, removal_on, removed}

-- ---- how often a number stands

-- a new inode has entries in its published log, and its number is in the hand until the close
abbrev pub is_begun : Next → List ℕ → ℕ → Bool
is_begun (Publish place) written n = has (take place written) n
is_begun Close written n = has written n
is_begun other written n = false

-- the number in a hand, while its slot has no inode
abbrev pub not_begun : Option ℕ → (ℕ → Bool) → List ℕ
not_begun None begun = []
not_begun (Some n) begun = cond (begun n) [] (n ∷ [])

abbrev pub loose : Next → List ℕ → Option ℕ → List ℕ
loose k written number = not_begun number (is_begun k written)

abbrev pub loose_of : Option Running → Option ℕ → List ℕ
loose_of None number = if_number number
loose_of (Some r) number = loose r.next (written_slots r) number

abbrev pub loose_by : Actor → List ℕ
loose_by actor = loose_of actor.running actor.hand.ino

-- in the pool, among these numbers, and as a slot's that has an inode or is withheld
abbrev pub tally : ℕ → Shared → List ℕ → ℕ
tally n s numbers = times n s.pool.numbers + times n numbers + taken_once (cell_at s n)

-- ---- where cells change

pub set_taken : (s : Shared) (slot : ℕ) (cell : CellState) (n : ℕ) → slot < length s.cells → IsLike (cell_at s slot) cell
    → taken_once (cell_at (with_cell slot cell s) n) ≡ taken_once (cell_at s n)
set_taken s slot cell n inside same =
    cell_set s slot cell n (λ (c : CellState). taken_once c ≡ taken_once (cell_at s n)) inside
    (λ is. like_taken (cell_at s slot) cell same ∙ ap (λ (k : ℕ). taken_once (cell_at s k)) is) (λ ne. refl)

-- ---- number and back

number_tally : (n : ℕ) (numbers : List ℕ) (s : Shared) (h : HandState) → s.pool.numbers ≡ numbers → h.ino ≡ None
    → tally n (number_work numbers s h).shared (if_number (number_work numbers s h).hand.ino) ≡ tally n s (if_number h.ino)
number_tally n [] s h is none = refl
number_tally n (ino ∷ numbers) s h is none =
    let all = ap (times n) is in
    let hand = ap (λ (o : Option ℕ). times n (if_number o)) none in
    omega (arith, all, hand, times-cons n ino numbers)

back_tally : (n : ℕ) (number : Option ℕ) (s : Shared) (h : HandState) → h.ino ≡ number
    → tally n (return_number_work number s h).shared (if_number (return_number_work number s h).hand.ino) ≡ tally n s (if_number h.ino)
back_tally n None s h is = refl
back_tally n (Some ino) s h is =
    let numbers = s.pool.numbers in
    let hand = ap (λ (o : Option ℕ). times n (if_number o)) is in
    let put = ap (times n) (sym (map-id (put_by (λ m. m) ino numbers))) ∙ times-put_by (λ m. m) n ino numbers
    ∙ ap (λ (l : List ℕ). times n (ino ∷ l)) (map-id numbers) in
    omega (arith, hand, put, times-cons n ino numbers)

-- ---- retire: an erased inode's number goes to the hand, or is withheld

pub other_times : (n m : ℕ) → m ≢ n → times n (m ∷ []) ≡ 0
other_times n m ne = go (m == n) refl where
  go : (b : Bool) → (m == n) ≡ b → times n (m ∷ []) ≡ 0
  go true q = absurd (ne (eqb-true m n q))
  go false q = times-no n m [] q

abbrev emptied : CellState → CellState
emptied cell = empty_cell cell.block cell.chain.page (cell.generation + 1) cell.version

own_back : (ino : ℕ) (cell : CellState) → times ino (if_number (number_back ino cell None)) + taken_once (emptied cell) ≡ 1
own_back ino cell = go (nat_le NUMBER (cell.generation + 1)) where
  go : (b : Bool) → times ino (if_number (cond b None (Some ino))) + one_if b ≡ 1
  go true = refl
  go false = let one = times-yes ino ino [] (self ino) in omega (arith, one)

other_back : (n ino : ℕ) (cell : CellState) → ino ≢ n → times n (if_number (number_back ino cell None)) ≡ 0
other_back n ino cell ne = go (nat_le NUMBER (cell.generation + 1)) where
  go : (b : Bool) → times n (if_number (cond b None (Some ino))) ≡ 0
  go true = refl
  go false = other_times n ino ne

-- a cell that is settled, and erased where nothing is left of it
erased_tally : (n ino : ℕ) (cell : CellState) (s : Shared) (number : Option ℕ) → ino < length s.cells
    → IsLike (cell_at s ino) cell → (is_erased cell ≡ true → number ≡ None)
    → times n s.pool.numbers + times n (if_number (if is_erased cell then number_back ino cell number else number))
    + taken_once (cell_at (with_cell ino (erased cell) s) n) ≡ tally n s (if_number number)
erased_tally n ino cell s number inside like none = go (is_erased cell) refl where
  Kept : CellState → Option ℕ → Type 0
  Kept new o =
      times n s.pool.numbers + times n (if_number o) + taken_once (cell_at (with_cell ino new s) n) ≡ tally n s (if_number number)

  erased_one : is_erased cell ≡ true → Kept (emptied cell) (number_back ino cell number)
  erased_one q =
      let hand = ap (λ (o : Option ℕ). times n (if_number o)) (none q) in
      let new = ap (λ (o : Option ℕ). times n (if_number (number_back ino cell o))) (none q) in
      let was : taken_once (cell_at s ino) ≡ 1 =
      sym (like_taken (cell_at s ino) cell like) ∙ with_inode cell (gone_inode cell (erased_gone cell q)) in
      cell_set s ino (emptied cell) n (λ (c : CellState). times n s.pool.numbers + times n (if_number (number_back ino cell number))
      + taken_once c ≡ tally n s (if_number number)) inside
      (λ is. subst (λ (k : ℕ). times k s.pool.numbers + times k (if_number (number_back ino cell number)) + taken_once (emptied cell)
      ≡ tally k s (if_number number)) is
      (let hand = ap (λ (o : Option ℕ). times ino (if_number o)) (none q) in
      let new = ap (λ (o : Option ℕ). times ino (if_number (number_back ino cell o))) (none q) in
      omega (arith, hand, new, was, own_back ino cell)))
      (λ ne. omega (arith, hand, new, other_back n ino cell ne))

  kept_one : Kept cell number
  kept_one = let e = set_taken s ino cell n inside like in omega (arith, e)

  go : (b : Bool) → is_erased cell ≡ b
      → times n s.pool.numbers + times n (if_number (if is_erased cell then number_back ino cell number else number))
      + taken_once (cell_at (with_cell ino (erased cell) s) n) ≡ tally n s (if_number number)
  go true q = rw q (erased_one q)
  go false q = rw q kept_one

hand_erased : (ino : ℕ) (cell : CellState) (h : HandState)
    → (with_erased ino cell h).ino ≡ (if is_erased cell then number_back ino cell h.ino else h.ino)
hand_erased ino cell h = go (is_erased cell) refl where
  go : (b : Bool) → is_erased cell ≡ b → (with_erased ino cell h).ino ≡ (if is_erased cell then number_back ino cell h.ino else h.ino)
  go true q = rw q refl
  go false q = rw q refl

removal_tally : (n : ℕ) (x : Removal) (s : Shared) (h : HandState) → IsRemoval s x → x.slot < length s.cells
    → (is_erased x.cell ≡ true → h.ino ≡ None)
    → tally n (removed x s h).shared (if_number (removed x s h).hand.ino) ≡ tally n s (if_number h.ino)
removal_tally n x s h is inside none =
    ap (λ (o : Option ℕ). tally n (removed x s h).shared (if_number o)) (hand_erased x.slot x.cell (hand_freed x h))
    ∙ erased_tally n x.slot x.cell s h.ino inside (keeps_like (cell_at s x.slot) x.cell is.keeps) none

-- ---- every kind but publish and close

-- no number is in the hand of one that erases a cell
abbrev pub CanErase : Removal → Shared → HandState → Type 0
CanErase x s h = (x.slot < length s.cells) × (is_erased x.cell ≡ true → h.ino ≡ None)

-- what a kind needs to know
abbrev pub CanTally : Next → Shared → HandState → Running → Type 0
CanTally Number s h r = h.ino ≡ None
CanTally (Append place) s h r = (slot_at (written_slots r) place < length s.cells)
    × ((cell_at s (slot_at (written_slots r) place)).chain.tail ≤ length (cell_at s (slot_at (written_slots r) place)).chain.entries)
CanTally (Publish place) s h r = ⊥
CanTally Close s h r = ⊥
CanTally (Retire place) s h r = CanErase (removal (Retire place) s h r) s h
CanTally (SnapshotOrCleaner step) s h r =
    (is_removal_on step ≡ true → CanErase (removal_on step s h) s h)
    × (is_clean_on step ≡ true
    → (clean_slot_on step < length s.cells) × IsLike (cell_at s (clean_slot_on step)) (clean_cell_on step s h))
CanTally other s h r = Unit {0}

cleaned_tally : (step : SnapshotOrCleanerStep) (n a : ℕ) (s : Shared) (h : HandState) → is_clean_on step ≡ true
    → clean_slot_on step < length s.cells → IsLike (cell_at s (clean_slot_on step)) (clean_cell_on step s h)
    → tally n (snapshot_or_cleaner_work step a s h).shared (if_number (snapshot_or_cleaner_work step a s h).hand.ino) ≡ tally n s (if_number h.ino)
cleaned_tally (Unlink ino) n a s h is low like = let e = set_taken s ino (unlinked (cell_at s ino)) n low like in omega (arith, e)
cleaned_tally (Compact ino) n a s h is low like =
    let e = set_taken s ino (compacted_cell h (cell_at s ino)) n low like in omega (arith, e)
cleaned_tally other n a s h is low like = absurd (false≢true is)

pub work_tally : (k : Next) (n block actor : ℕ) (s : Shared) (h : HandState) (r : Running) → CanTally k s h r
    → tally n (work k block actor s h r).shared (if_number (work k block actor s h r).hand.ino) ≡ tally n s (if_number h.ino)
work_tally Number n block actor s h r can = number_tally n s.pool.numbers s h refl can
work_tally (Append place) n block actor s h r can =
    let ino = slot_at (written_slots r) place in
    let e = set_taken s ino _ n can.0
    (appended_like (entries_for r ino) h.blocks (take (pages_needed s r.plan ino) h.pages) (cell_at s ino) can.1) in
    omega (arith, e)
work_tally (Publish place) n block actor s h r can = absurd can
work_tally Close n block actor s h r can = absurd can
work_tally (Retire place) n block actor s h r can =
    removal_tally n (removal (Retire place) s h r) s h (is_removed (Retire place) s h r refl) can.0 can.1
work_tally ReturnNumber n block actor s h r can = back_tally n h.ino s h refl
work_tally (SnapshotOrCleaner step) n block actor s h r can =
    on_step (λ (t : Shared) (g : HandState). tally n t (if_number g.ino) ≡ tally n s (if_number h.ino)) step actor s h
    (λ is. let ok = can.0 is in removal_tally n (removal_on step s h) s h (is_removed (SnapshotOrCleaner step) s h r is) ok.0 ok.1)
    (λ ino asked wanted is. refl)
    (λ is. let ok = can.1 is in cleaned_tally step n actor s h is ok.0 ok.1)
    (λ book owners. refl)
work_tally other n block actor s h r can = refl
