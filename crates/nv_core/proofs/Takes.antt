-- What a call takes: it can be made ready with it, it needs few log pages, and its plan is the machine's.
use Rattle.std.proofs.Common.{◌≡◌, ℕ, zero, suc, ◌+◌, ◌<◌, ◌≤◌, ◌^◌, ◌∙◌, true, List, [], ◌∷◌, ◌++◌, length, arith, refl, ap, sym, subst, subst₂}
use Rattle.std.specs.List.{AllByRecursion}
use Rattle.std.proofs.lemmas.List.{length-map}
use Rattle.nv_alloc.specs.Block.{BlockValue, numbers_of}
use Rattle.nv_alloc.specs.declared.hand.Hand.{Hand}
use Rattle.nv_base.specs.Limits.{IsWithinLimits}
use Rattle.nv_base.specs.declared.geometry.GeometryNumbers.{GeometryNumbers}
use Rattle.nv_base.specs.declared.limits.TheConstants.{BLOCK_BYTES}
use Rattle.nv_base.specs.declared.numbers.Handle.{Handle}
use Rattle.nv_calls.specs.AllCalls.{blocks_wanted, ends_in_page, plan, refusal}
use Rattle.nv_calls.specs.AllCalls.{looked as found_in}
use Rattle.nv_calls.specs.Locked.{handles}
use Rattle.nv_calls.specs.Nodes.{block_in, has_page_in, nodes_in, plain_nodes}
use Rattle.nv_calls.specs.Plan.{block_runs_of}
use Rattle.nv_calls.specs.Prepared.{CanReady, IsStill, planned_by}
use Rattle.nv_calls.specs.Refusals.{passes}
use Rattle.nv_calls.specs.SlotCells.{cell_in, lent_cells}
use Rattle.nv_calls.specs.Updates.{blank_call, call_of, text_len}
use Rattle.nv_calls.specs.declared.call.Call.{Call}
use Rattle.nv_calls.specs.declared.call.Call.TheVariants as call
use Rattle.nv_calls.specs.declared.looked.LookupResult.{LookupResult}
use Rattle.nv_calls.specs.declared.allocation.Allocation.{Allocation}
use Rattle.nv_calls.specs.declared.update.Update.{Update}
use Rattle.nv_calls.proofs.TextLengths.{same_plan}
use Rattle.nv_cell.specs.Cell.{CellValue}
use Rattle.nv_machine.specs.Kinds.{wants_pages}
use Rattle.nv_machine.specs.Reads.{copies, nodes, pages_wanted}
use Rattle.nv_machine.specs.Sequence.{nothing_looked}
use Rattle.nv_machine.specs.World as machine
use Rattle.nv_calls.specs.declared.log_pages.TheConstants.{MORE_PAGES}
use Rattle.nv_core.proofs.Nodes.{nodes_agree}
use Rattle.nv_core.proofs.Plans.{block_same, looks_same, pages_same, planned_same}
use Rattle.nv_core.specs.Parts.{AreHome, IsOfDevice}
use Rattle.nv_core.specs.Nodes.{CanRead}
use Rattle.nv_core.specs.Rooms.{CanWantPages, FitsCall, FitsNext, HasItsBlocks, HasMade, HasRooms, HasTaken, IsChecked, IsHandOf, LooksAsTold, TakesPages, blocks_to_take, pages_to_take}
use Rattle.nv_core.specs.Shown.{shared_of, slots_in}
use Rattle.nv_core.specs.GhostCalls.{IsChangeBy, IsChangeWith, IsRequestOf, IsLookAt, is_change}
use Rattle.nv_core.specs.declared.request.Request.{Request}
use Rattle.nv_core.specs.declared.request.Request.TheVariants as request
use Rattle.nv_core.specs.declared.request.PendingAnswer.{PendingAnswer}
use Rattle.nv_core.specs.declared.reservation.Reservation.TheVariants as reserved
use Rattle.nv_core.specs.declared.next.Next.TheVariants as next
use Rattle.nv_core.specs.declared.running.Running.{Running}
use Rattle.nv_core.specs.declared.shared.Shared.{Shared}

-- ---- requests

-- what holds of a request's call holds of its plan's
pub with_by : (P : Update → Type 0) (j : Request) (by : Update) → IsChangeWith P j → IsChangeBy j by → P by
with_by P (request.Change plan text) by has is = subst (λ (p : Update). P p) is has
with_by P (request.Visit visit) by has is = elim has [ ]
with_by P (request.SnapshotOrCleaner on) by has is = elim has [ ]
with_by P request.Taken by has is = elim has [ ]

pub over_all : (P Q : Update → Type 0) (j : Request) → ((u : Update) → P u → Q u) → IsChangeWith P j → IsChangeWith Q j
over_all P Q (request.Change plan text) more has = more plan has
over_all P Q (request.Visit visit) more has = elim has [ ]
over_all P Q (request.SnapshotOrCleaner on) more has = elim has [ ]
over_all P Q request.Taken more has = elim has [ ]

pub by_with : (P : Update → Type 0) (j : Request) (by : Update) → P by → IsChangeBy j by → IsChangeWith P j
by_with P (request.Change plan text) by has is = subst (λ (p : Update). P p) (sym is) has
by_with P (request.Visit visit) by has is = elim is [ ]
by_with P (request.SnapshotOrCleaner on) by has is = elim is [ ]
by_with P request.Taken by has is = elim is [ ]

-- ---- growths

block_lent : (shared : Shared) (slots : List ℕ) (hand : Hand) (looked : LookupResult) (u : Update) → IsChecked shared slots hand looked u
    → block_in (lent_cells slots shared.cells.items) ≡ shared.geometry.numbers.block
block_lent shared slots hand looked u is = block_same shared slots (handles looked (blank_call u)) is.read is.some

front_all : (P : BlockValue → Type 0) (bs rest : List BlockValue) → AllByRecursion P (bs ++ rest) → AllByRecursion P bs
front_all P [] rest all = tt
front_all P (b ∷ bs) rest all = (all.0, front_all P bs rest all.1)

all_small : (g : GeometryNumbers) (bs : List BlockValue) → g.blocks ≤ 2 ^ 32
    → AllByRecursion (λ (b : BlockValue). b.number < g.blocks) bs → AllByRecursion (λ (b : BlockValue). b.number < 2 ^ 32) bs
all_small g [] few all = tt
all_small g (b ∷ bs) few all = (omega (arith, all.0, few), all_small g bs few all.1)

-- a call that is checked and has its data blocks can be made ready
pub can_ready : (shared : Shared) (slots : List ℕ) (hand : Hand) (looked : LookupResult) (u : Update) → IsWithinLimits shared.geometry.numbers
    → IsOfDevice shared.geometry.numbers hand → IsHandOf shared.geometry.numbers hand → IsChecked shared slots hand looked u
    → length hand.«data».blocks ≡ blocks_to_take shared slots u → CanReady (lent_cells slots shared.cells.items) hand u
can_ready shared slots hand looked u limits device sizes is count =
    let lent = lent_cells slots shared.cells.items in
    let same : shared.geometry.numbers.block ≡ block_in lent = sym (block_lent shared slots hand looked u is) in
    let below = λ (b : BlockValue). b.number < shared.geometry.numbers.blocks in
    record {
      lent = is.lent;
      some = omega (arith, is.some, length-map {B = ℕ × CellValue} slots (λ (ino : ℕ). (ino, cell_in shared.cells.items ino)));
      still = subst (λ (n : ℕ). AllByRecursion (λ (c : ℕ × CellValue). IsStill n c.1.state) lent) same is.still;
      few_bytes = subst (λ (n : ℕ). n ≤ BLOCK_BYTES) same limits.bytes_fit;
      passed = subst (λ (n : ℕ). refusal n (nodes_in lent) (blank_call u) ≡ passes) same is.passed;
      something = is.something;
      number = is.number;
      count = subst (λ (n : ℕ). length hand.«data».blocks ≡ blocks_wanted n (nodes_in lent) (ends_in_page (has_page_in lent) n
          (blank_call u)) (blank_call u)) same count;
      size = sizes.blocks ∙ same;
      small = all_small shared.geometry.numbers hand.«data».blocks (omega (arith, limits.blocks_fit))
          (front_all below hand.«data».blocks hand.pages.blocks (front_all below
          (hand.«data».blocks ++ hand.pages.blocks) hand.chain device));
    }

-- ---- the machine's plan

-- what holds of all handles that a call locks holds of those that it names
named_of : (P : Handle → Type 0) (looked : LookupResult) (c : Call) → AllByRecursion P (handles looked c)
    → AllByRecursion P (handles nothing_looked c)
named_of P looked (call.Unlink dir name) all = (all.0, tt)
named_of P looked (call.Rmdir dir name) all = (all.0, tt)
named_of P looked (call.Rename from old to new) all = (all.0, (all.1.0, tt))
named_of P looked (call.Create dir name mode) all = all
named_of P looked (call.Mkdir dir name mode) all = all
named_of P looked (call.Write file offset text) all = all
named_of P looked (call.Read file offset count) all = all
named_of P looked (call.Size file size) all = all
named_of P looked (call.Mode handle mode) all = all
named_of P looked (call.Stat handle) all = all
named_of P looked (call.List dir) all = all
named_of P looked (call.SnapshotOrCleaner on) all = all
named_of P looked (call.Lookup dir name) all = all

-- the names of a checked call lead in the machine to what its looks found
pub found_same : (shared : Shared) (slots : List ℕ) (hand : Hand) (looked : LookupResult) (u : Update) → IsChecked shared slots hand looked u
    → found_in (copies (shared_of shared)) (blank_call u) ≡ looked
found_same shared slots hand looked u is =
    let c = blank_call u in
    let one = nodes (shared_of shared) in
    let other = plain_nodes (lent_cells slots shared.cells.items) in
    sym (looks_same one other c (named_of (λ (h : Handle). other h ≡ one h) looked c (nodes_agree shared slots
    (handles looked c) is.read))).found
    ∙ is.same

-- the plan of a checked call over its lent cells is the machine's
pub plan_same : (shared : Shared) (slots : List ℕ) (hand : Hand) (looked : LookupResult) (u : Update) (text : List ℕ) (made : Handle)
    → IsChecked shared slots hand looked u → HasMade shared slots hand made u → text_len u ≡ length text
    → plan shared.geometry.numbers.block (copies (shared_of shared))
    (record { made = made; runs = block_runs_of (numbers_of hand.«data».blocks) }) (call_of u text)
    ≡ planned_by (lent_cells slots shared.cells.items) hand u
plan_same shared slots hand looked u text made is has len =
    let taken : Allocation = record { made = made; runs = block_runs_of (numbers_of hand.«data».blocks) } in
    let all = copies (shared_of shared) in
    let blank = same_plan shared.geometry.numbers.block all (has_page_in (lent_cells slots shared.cells.items)) taken u text (sym len) in
    let here : handles looked (blank_call u) ≡ handles (found_in all (call_of u text)) (call_of u text) =
    ap (λ (l : LookupResult). handles l (blank_call u)) (sym (found_same shared slots hand looked u is)) ∙ sym blank.handles in
    planned_same shared slots hand u text made (subst (CanRead shared slots) here is.read) is.some len has

-- a request's call wants as many log pages as in the machine
pub wanted_same : (shared : Shared) (slots : List ℕ) (hand : Hand) (looked : LookupResult) (made : Handle) (j : Request) (owed : PendingAnswer) (c : Call)
    (n : ℕ) → IsRequestOf j owed c → IsChangeWith (λ
    (u : Update). HasMade shared slots hand made u × IsChecked shared slots hand looked u) j
    → IsChangeWith (λ (u : Update). n ≡ pages_to_take shared slots hand u) j
    → pages_wanted (shared_of shared) slots (plan shared.geometry.numbers.block (copies (shared_of shared))
    (record { made = made; runs = block_runs_of (numbers_of hand.«data».blocks) }) c) ≡ n
wanted_same shared slots hand looked made (request.Change by text) owed c n is has wants =
    let taken : Allocation = record { made = made; runs = block_runs_of (numbers_of hand.«data».blocks) } in
    ap (λ (d : Call). pages_wanted (shared_of shared) slots (plan shared.geometry.numbers.block (copies (shared_of shared)) taken d)) is.0
    ∙ ap (pages_wanted (shared_of shared) slots) (plan_same shared slots hand looked by text made has.1 has.0 is.1)
    ∙ sym (pages_same shared slots (planned_by (lent_cells slots shared.cells.items) hand by) has.1.read.there)
    ∙ sym wants
wanted_same shared slots hand looked made (request.Visit visit) owed c n is has wants = elim has [ ]
wanted_same shared slots hand looked made (request.SnapshotOrCleaner on) owed c n is has wants = elim has [ ]
wanted_same shared slots hand looked made request.Taken owed c n is has wants = elim has [ ]

-- ---- the turn

pub none_wanted : (n wanted : ℕ) (s : machine.Shared) (h : machine.HandState) (r : machine.Running) → n ≡ wanted → wanted ≡ 0
    → wants_pages n s h r ≡ machine.Moves s h (record r { wanted = wanted; next = machine.Ready })
none_wanted n wanted s h r same none = rw (none, same ∙ none) refl

pub some_wanted : (n wanted : ℕ) (s : machine.Shared) (h : machine.HandState) (r : machine.Running) → n ≡ wanted → (wanted ≡ 0 → ⊥)
    → wants_pages n s h r ≡ machine.Moves s h (record r { wanted = wanted; next = machine.TakeLogPages 0 })
some_wanted n zero s h r same some = absurd (some refl)
some_wanted n (suc wanted) s h r same some = rw same refl

-- ---- what holds before the next step

pub with_both : (P Q : Update → Type 0) (j : Request) → IsChangeWith P j → IsChangeWith Q j → IsChangeWith (λ (u : Update). P u × Q u) j
with_both P Q (request.Change plan text) one other = (one, other)
with_both P Q (request.Visit visit) one other = elim one [ ]
with_both P Q (request.SnapshotOrCleaner on) one other = elim one [ ]
with_both P Q request.Taken one other = elim one [ ]

pub is_changed : (P : Update → Type 0) (j : Request) → IsChangeWith P j → is_change j ≡ true
is_changed P (request.Change plan text) has = refl
is_changed P (request.Visit visit) has = elim has [ ]
is_changed P (request.SnapshotOrCleaner on) has = elim has [ ]
is_changed P request.Taken has = elim has [ ]

-- the room that it has once it wants log pages
module _ (shared : Shared) (slots : List ℕ) (hand : Hand) (looked : LookupResult) (made : Handle) (u : Update) where
  abbrev Has : Type 0
  Has = HasMade shared slots hand made u × IsChecked shared slots hand looked u × HasItsBlocks shared slots hand u

  pub taken_none : Has → (n : ℕ) → n ≡ 0 → n ≡ pages_to_take shared slots hand u
      → HasMade shared slots hand made u × (IsChecked shared slots hand looked u × HasTaken shared slots hand u)
  taken_none has n none wants = (
    has.0,
    (
      has.1,
      record {
        blocks = has.2.blocks;
        pages = ap (λ (bs : List BlockValue). length bs) has.2.none ∙ sym none ∙ wants;
      },
    ),
  )

  pub taken_next : Has → IsWithinLimits shared.geometry.numbers → AreHome shared → (n : ℕ) → n ≡ pages_to_take shared slots hand u
      → n ≤ length hand.«data».blocks + MORE_PAGES
      → HasMade shared slots hand made u × (IsChecked shared slots hand looked u × TakesPages shared slots hand 0 n u)
  taken_next has limits home n wants few = (
    has.0,
    (
      has.1,
      record {
        blocks = has.2.blocks;
        count = omega (arith, ap (λ (bs : List BlockValue). length bs) has.2.none, wants);
        room = omega (arith, few, wants, has.2.room);
        list = omega (arith, home.count, limits.some_cpus);
      },
    ),
  )

-- a call's request stays, and it goes on to take
pub fits_still : (running new : Running) → FitsCall running → new.request ≡ running.request → new.looked ≡ running.looked
    → new.ending ≡ running.ending
    → FitsNext new.next new.request → FitsCall new
fits_still running new fits request looked ending before = record {
  before = before;
  looks = subst₂ (λ (j : Request) (l : LookupResult). LooksAsTold j l) (sym request) (sym looked) fits.looks;
  overtaken = λ is. subst (λ (j : Request). IsLookAt 0 j) (sym request) (fits.overtaken (sym ending ∙ is));
}

pub rooms_none : (shared now : Shared) (hand : Hand) (running : Running) (n : ℕ) → IsHandOf shared.geometry.numbers hand → FitsCall running
    → CanWantPages shared hand running → n ≡ 0 → IsChangeWith (λ (u : Update). n ≡ pages_to_take shared
    (slots_in running.slots) hand u) running.request
    → now ≡ shared → HasRooms now (reserved.Hand hand) (record running { wanted = n; next = next.Ready })
rooms_none shared now hand running n sizes fits can none wants same =
    subst (λ (s : Shared). HasRooms s (reserved.Hand hand) (record running { wanted = n; next = next.Ready })) (sym same) (
      fits_still running (record running { wanted = n; next = next.Ready }) fits refl refl refl (is_changed _ running.request can),
      sizes,
      over_all _ _ running.request (λ u h. taken_none shared (slots_in running.slots) hand running.looked running.made u h.0 n none h.1)
          (with_both _ _ running.request can wants),
      tt,
    )

pub rooms_next : (shared now : Shared) (hand : Hand) (running : Running) (n : ℕ) → IsWithinLimits shared.geometry.numbers → AreHome shared
    → IsHandOf shared.geometry.numbers hand → FitsCall running → CanWantPages shared hand running
    → IsChangeWith (λ (u : Update). n ≡ pages_to_take shared (slots_in running.slots) hand u) running.request
    → n ≤ length hand.«data».blocks + MORE_PAGES
    → now ≡ shared → HasRooms now (reserved.Hand hand) (record running { wanted = n; next = next.TakeLogPages 0 })
rooms_next shared now hand running n limits home sizes fits can wants few same =
    subst (λ (s : Shared). HasRooms s (reserved.Hand hand) (record running { wanted = n; next = next.TakeLogPages 0 })) (sym same) (
      fits_still running (record running { wanted = n; next = next.TakeLogPages 0 }) fits refl refl refl (is_changed _ running.request can),
      sizes,
      over_all _ _ running.request (λ u h.
          taken_next shared (slots_in running.slots) hand running.looked running.made u h.0 limits home n h.1 few)
          (with_both _ _ running.request can wants),
      tt,
    )
