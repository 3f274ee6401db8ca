-- Each actor holds exactly the locks of its call, and waits for another's alone.
use Rattle.std.proofs.Common.{Bool, List, None, Option, Some, [], ap, arith, drop, false, length, refl, subst, suc, sym, true, zero, ℕ, ◌+◌, ◌<◌, ◌==◌, ◌∙◌, ◌∷◌, ◌≡◌, option_to_list}
use Rattle.std.proofs.lemmas.Option.{none-some}
use Rattle.std.specs.Prelude.{slice_index_or, unwrap_or, ◌||◌}
use Rattle.std.proofs.lemmas.Bool.{eqb-false, eqb-true, false≢true, ltb-false, ltb-true}
use Rattle.std.specs.List.{AllByRecursion}
use Rattle.nv_alloc.specs.Numbers.{has}
use Rattle.nv_base.specs.declared.fault.Fault.{Fault}
use Rattle.nv_machine.specs.Frame.{lent, lent_on}
use Rattle.nv_machine.specs.Locks.{AreSlots, HoldsIts, IsHeldByOther, IsInside, IsOfSlot, WaitsFor, WaitsOn, commits_at, held_at, is_owner, held_on}
use Rattle.nv_calls.specs.declared.looked.LookupResult.{LookupResult}
use Rattle.nv_machine.specs.Reads.{is_written, slot_at, slots_of, written_slots}
use Rattle.nv_machine.specs.Sequence.{locking, slots_on}
use Rattle.nv_machine.specs.SnapshotOrCleaner.{copies_at, first_showing, seen_on, show_or_unpin, visited}
use Rattle.nv_machine.specs.Step.{kind_turn, with_made}
use Rattle.nv_machine.specs.World.{Append, ReturnNumber, Check, Close, Drop, Enter, Give, HandState, Leave, Lock, LockPicked, Look, Make, Next, Number, Open, Pick, Pin, Publish, Ready, Refuses, Release, Retire, Running, Shared, Show, Showing, SnapshotOrCleanerStep, SnapshotOrCleaner, TakeBlocks, TakeLogPages, Unlock, Unpin, Visit, go_to, owner_at, with_numbers, with_owner, Compact, Fresh, PlanCleaning, LockCleaned, Unlink, cell_at}
use Rattle.nv_machine.proofs.StepWork.{return_number_work, work, number_work, snapshot_or_cleaner_work}
use Rattle.nv_machine.proofs.Lists.{drop_all, has_at, has_drop, has_filter, self, slot_inside, slots_are, take_apart}
use Rattle.nv_machine.proofs.LocksAlongCalls.{Holds, LocksGo, LocksLeft, LocksTold, OnLocks, apart, appending_holds, ends_locks, holds_as, idle_as, lasts_locks, locked_holds, locked_left, locking_holds, looking_holds, others_not, overs_locks, publishing_holds, rests_locks, retiring_holds, same_locks, unlocked_holds, unlocked_left}
use Rattle.nv_machine.proofs.StepWays.{EndsBy, Going, IsBlocked, IsBlockedOn, Telling, by_taking, is_taking, noted, numbered_slots}
use Rattle.nv_machine.proofs.StepWalk.{WaysOf, any_takes, walk_by}
use Rattle.nv_machine.proofs.SnapshotOrCleanerWalk.{StepWaysOf, step_walk_by}
use Rattle.nv_reader.specs.Walk as walk
use Rattle.nv_clean.specs.Plans.{wanted_of}

-- ---- the kinds

-- what an actor holds before a step
pub record Before (a : ℕ) (s : Shared) (k : Next) (r : Running) : Type 0 where
  pub mine : Holds s a (held_at k r.slots) (commits_at k)
  pub are : AreSlots (length s.owners) r.slots
  pub inside : IsInside k r
  pub wide : length s.owners ≡ length s.cells
  pub deferred : AllByRecursion (IsOfSlot (length s.owners)) s.book.deferred

pub new_slots : (s : Shared) (number : Option ℕ) (looked : LookupResult) (r : Running) → length s.owners ≡ length s.cells
    → AreSlots (length s.owners) (slots_of s number looked r.call)
new_slots s number looked r e = subst (λ (n : ℕ). AreSlots n (slots_of s number looked r.call)) (sym e) (slots_are (length s.cells) _)

not_mine : (a : ℕ) (owner : Option ℕ) (other : ℕ) → owner ≡ Some other → is_owner a owner ≡ false → IsHeldByOther a owner
not_mine a owner other e no-own = (other, e, λ is. eqb-false other a (sym (ap (is_owner a) e) ∙ no-own) is)

-- the commit lock is taken, and given up
entered_left : (a : ℕ) (s t : Shared) → s.holder ≡ None → t.holder ≡ Some a → t.owners ≡ s.owners → LocksLeft a s t
entered_left a s t e f same = record {
  owners = λ b ne ino. ap (λ (l : List (Option ℕ)). is_owner b (slice_index_or l ino None)) same;
  holder = λ b ne. ap (is_owner b) f ∙ apart a b (a == b) refl (λ is. ne (sym is)) ∙ sym (ap (is_owner b) e);
  wide = ap (λ (l : List (Option ℕ)). length l) same;
}

left_left : (a : ℕ) (s : Shared) → is_owner a s.holder ≡ true → LocksLeft a s (record s { holder = None })
left_left a s own = record { owners = λ b ne ino. refl; holder = λ b ne. sym (others_not a b s.holder ne own); wide = refl }

-- owners and holder are as before
as_before : (a : ℕ) (s t : Shared) → t.owners ≡ s.owners → t.holder ≡ s.holder → LocksLeft a s t
as_before a s t e f = record {
  owners = λ b ne ino. ap (λ (l : List (Option ℕ)). is_owner b (slice_index_or l ino None)) e;
  holder = λ b ne. ap (is_owner b) f;
  wide = ap (λ (l : List (Option ℕ)). length l) e;
}

-- ---- what it waits for

waits_on : (a : ℕ) (s : Shared) (r : Running) (step : SnapshotOrCleanerStep) → Before a s (SnapshotOrCleaner step) r → IsBlockedOn step s
    → WaitsOn s a step
waits_on a s r (Show snapshot showing) b held = not_mine a _ held.0 held.1 (b.mine.owners (visited showing.visits).ino)
waits_on a s r (LockPicked draining picked) b held = not_mine a _ held.0 held.1 (b.mine.owners picked.ino)
waits_on a s r (Release draining picked) b held = held
waits_on a s r (LockCleaned manner ino) b held = not_mine a _ held.0 held.1 (b.mine.owners ino)
waits_on a s r (PlanCleaning manner slot) b held = held
waits_on a s r (Fresh ino asked wanted) b held = held
waits_on a s r (Unlink ino) b held = held
waits_on a s r (Compact ino) b held = held
waits_on a s r other b held = not_mine a s.holder held.0 held.1 b.mine.holder

waits_for : (a : ℕ) (s : Shared) (r : Running) (k : Next) → Before a s k r → IsBlocked k s r → WaitsFor s a r k
waits_for a s r (Look place) b held = not_mine a _ held.0 held.1 (b.mine.owners _)
waits_for a s r (Lock place) b held =
    not_mine a _ held.0 held.1 (b.mine.owners (slot_at r.slots place) ∙ take_apart place r.slots b.are.rising b.inside)
waits_for a s r Enter b held = not_mine a s.holder held.0 held.1 b.mine.holder
waits_for a s r Visit b held = not_mine a _ held.0 held.1 (b.mine.owners _)
waits_for a s r (SnapshotOrCleaner step) b held = waits_on a s r step b held
waits_for a s r other b held = held

-- ---- every kind

number_locks : (a : ℕ) (numbers : List ℕ) (s : Shared) (h : HandState) (r : Running) → Before a s Number r
    → let q = record r { slots = numbered_slots numbers s r } in let d = number_work numbers s h in
    LocksGo a s d.shared d.hand (go_to (locking 0 q.slots) q)
number_locks a [] s h r b = (
  same_locks a s,
  locking_holds s a 0 (record r { slots = slots_of s None r.looked r.call }) b.mine (new_slots s None r.looked r b.wide),
)
number_locks a (ino ∷ numbers) s h r b = (
  as_before a s _ refl refl,
  locking_holds (with_numbers numbers s) a 0 (record r { slots = slots_of s (Some ino) r.looked r.call })
      (record { owners = b.mine.owners; holder = b.mine.holder }) (new_slots s (Some ino) r.looked r b.wide),
)

back_locks : (a : ℕ) (number : Option ℕ) (s : Shared) (h : HandState) → Holds s a [] false
    → LocksLeft a s (return_number_work number s h).shared × Holds (return_number_work number s h).shared a [] false
back_locks a None s h mine = (same_locks a s, mine)
back_locks a (Some ino) s h mine = (as_before a s _ refl refl, record { owners = mine.owners; holder = mine.holder })

taking_holds : (a : ℕ) (s t : Shared) (h : HandState) (q : Running) (next : Next) → is_taking next ≡ true → LocksLeft a s t
    → Holds t a q.slots false → AreSlots (length t.owners) q.slots → LocksGo a s t h (go_to next q)
taking_holds a s t h q next is left mine are = by_taking (λ (k : Next). LocksGo a s t h (go_to k q))
    (λ asked. (left, holds_as t a _ q.slots false mine refl refl are tt))
    (λ asked. (left, holds_as t a _ q.slots false mine refl refl are tt)) (left, holds_as t a _ q.slots false mine refl refl are tt) next is

module _ (a : ℕ) (granted : Bool) (s : Shared) (h : HandState) (r : Running) where
  abbrev Goes : Going
  Goes = LocksGo a s

  abbrev Tells : Telling
  Tells = LocksTold a s

  -- the next step of a show holds nothing
  showing_locks : (t : Shared) (snapshot left : ℕ) (visits : List walk.Visit) (showing : Showing) → LocksLeft a s t → r.slots ≡ []
      → Holds t a [] false → AreSlots (length t.owners) r.slots
      → Goes t h (go_to (SnapshotOrCleaner (show_or_unpin left visits snapshot showing)) r)
  showing_locks t snapshot zero visits showing left none mine are = (left, holds_as t a _ [] false mine refl refl are none)
  showing_locks t snapshot (suc n) [] showing left none mine are = (left, holds_as t a _ [] false mine refl refl are none)
  showing_locks t snapshot (suc n) (visit ∷ visits) showing left none mine are = (left, holds_as t a _ [] false mine refl refl are none)

  -- a call without slots is refused
  none_held : {fault : Fault} → r.slots ≡ [] → Holds s a [] false → AreSlots (length s.owners) r.slots
      → EndsBy Goes Tells r.slots s h r (Refuses fault)
  none_held none mine are = ends_locks (same_locks a s) (subst (λ (l : List ℕ). Holds s a l false) (sym none) mine) are

  -- the lock of a slot that the call has and no other
  locked_one : (ino : ℕ) (next : SnapshotOrCleanerStep) → r.slots ≡ ino ∷ [] → AreSlots (length s.owners) r.slots → Holds s a [] false
      → owner_at s ino ≡ None → held_on next r.slots ≡ r.slots → slots_on next ≡ ino ∷ []
      → Goes (with_owner ino (Some a) s) h (go_to (SnapshotOrCleaner next) r)
  locked_one ino next one are mine free held same =
      let in-range = (subst (λ (l : List ℕ). AreSlots (length s.owners) l) one are).inside.0 in
      let left = locked_left a s ino in-range free in
      let now = locked_holds a s 0 (ino ∷ []) (omega arith) in-range mine in (
        left,
        holds_as _ a _ r.slots false (subst (λ (l : List ℕ). Holds (with_owner ino (Some a) s) a l false) (sym one) now)
            held refl (subst (λ (n : ℕ). AreSlots n r.slots) (sym left.wide) are) (one ∙ sym same),
      )

  -- the slot of a cleaner stays locked
  leads_locks : (next : SnapshotOrCleanerStep) (t : Shared) (g : HandState) → LocksLeft a s t → Holds t a r.slots false
      → AreSlots (length t.owners) r.slots → held_on next r.slots ≡ r.slots → r.slots ≡ slots_on next
      → Goes t g (go_to (SnapshotOrCleaner next) r)
  leads_locks next t g left mine are held inside = (left, holds_as t a _ r.slots false mine held refl are inside)

  step_ways : (step : SnapshotOrCleanerStep) → Before a s (SnapshotOrCleaner step) r → StepWaysOf Goes Tells step a granted s h r
  step_ways Make b = (
    λ fault by. none_held b.inside b.mine b.are,
    λ clear. (as_before a s _ refl refl, idle_as _ a (record { owners = b.mine.owners; holder = b.mine.holder })),
  )
  step_ways (Drop snapshot) b = (
    λ fault by. none_held b.inside b.mine b.are,
    λ clear. (as_before a s _ refl refl, idle_as _ a (record { owners = b.mine.owners; holder = b.mine.holder })),
  )
  step_ways (Pin snapshot) b = (
    λ none. none_held b.inside b.mine b.are,
    λ clear. showing_locks _ snapshot (first_showing s).left (first_showing s).visits (first_showing s) (as_before a s _ refl refl)
        b.inside (record { owners = b.mine.owners; holder = b.mine.holder }) b.are,
  )
  step_ways (Show snapshot showing) b = (
    λ lacks. (same_locks a s, holds_as s a _ [] false b.mine refl refl b.are b.inside),
    λ clear. (let seen = seen_on (copies_at s snapshot (visited showing.visits)) showing in
        showing_locks s snapshot seen.left seen.visits seen (same_locks a s) b.inside b.mine b.are),
  )
  step_ways (Unpin snapshot seen) b =
      λ clear. (as_before a s _ refl refl, idle_as _ a (record { owners = b.mine.owners; holder = b.mine.holder }))
  step_ways (Pick draining) b = (
    λ lacks first. none_held b.inside b.mine b.are,
    λ empty. (same_locks a s, idle_as s a b.mine),
    λ picked rest free is. (
      as_before a s _ refl refl,
      holds_as _ a _ [] false (record { owners = b.mine.owners; holder = b.mine.holder }) refl refl (record {
        rising = (tt, tt);
        inside = ((subst (AllByRecursion (IsOfSlot (length s.owners))) is b.deferred).0, tt);
      }) refl,
    ),
  )
  step_ways (LockPicked draining picked) b =
      λ free. locked_one picked.ino (Release draining picked) b.inside b.are b.mine free refl refl
  step_ways (Release draining picked) b =
      ends_locks (as_before a s _ refl refl) (record { owners = b.mine.owners; holder = b.mine.holder }) b.are
  step_ways (LockCleaned manner ino) b =
      λ free. locked_one ino (PlanCleaning manner (Some ino)) b.inside b.are b.mine free refl refl
  step_ways (PlanCleaning manner slot) b = (
    λ none. ends_locks (same_locks a s) b.mine b.are,
    λ some lacks. ends_locks (same_locks a s) b.mine b.are,
    λ ino is some. (let one = b.inside ∙ ap (λ (o : Option ℕ). option_to_list o) is in record {
      fast = λ plain. leads_locks (Unlink ino) s h (same_locks a s) b.mine b.are refl one;
      some = λ n plain more. leads_locks (Fresh ino 0 (wanted_of (cell_at s ino)).pages) s h (same_locks a s) b.mine b.are refl one;
      none = λ plain less. ends_locks (same_locks a s) b.mine b.are;
    }),
  )
  step_ways (Fresh ino asked wanted) b =
      let left = as_before a s (snapshot_or_cleaner_work (Fresh ino asked wanted) a s h).shared refl refl in
      let mine : Holds (snapshot_or_cleaner_work (Fresh ino asked wanted) a s h).shared a r.slots false =
      record { owners = b.mine.owners; holder = b.mine.holder } in
      record {
        ready = λ q. leads_locks (Compact ino) _ (snapshot_or_cleaner_work (Fresh ino asked wanted) a s h).hand left mine b.are refl b.inside;
        more = λ n q m. leads_locks (Fresh ino (asked + 1) (suc n)) _ (snapshot_or_cleaner_work (Fresh ino asked wanted) a s h).hand left
            mine b.are refl b.inside;
        short = λ n q m. ends_locks left mine b.are;
      }
  step_ways (Unlink ino) b =
      ends_locks (as_before a s _ refl refl) (record { owners = b.mine.owners; holder = b.mine.holder }) b.are
  step_ways (Compact ino) b =
      ends_locks (as_before a s _ refl refl) (record { owners = b.mine.owners; holder = b.mine.holder }) b.are

  ways : (k : Next) (block : ℕ) → Before a s k r → WaysOf Goes Tells k block a granted s h r
  ways Number block b = number_locks a s.pool.numbers s h r b
  ways (Look place) block b = (
    λ fault free by. record {
      unlock = λ some. absurd (omega (arith, some));
      overs = λ none. overs_locks (same_locks a s) b.mine b.are;
    },
    λ clear. (
      same_locks a s,
      looking_holds s a (place + 1) (noted (Look place) block s h r) b.mine (new_slots s None _ r b.wide),
    ),
  )
  ways (Lock place) block b = λ free.
      let in-range = slot_inside (length s.owners) r.slots place b.are b.inside in
      let left = locked_left a s (slot_at r.slots place) in-range free in (
        left,
        locking_holds (with_owner (slot_at r.slots place) (Some a) s) a (place + 1) r
            (locked_holds a s place r.slots b.inside in-range b.mine)
            (subst (λ (n : ℕ). AreSlots n r.slots) (sym left.wide) b.are),
      )
  ways Check block b = (
    λ e by. ends_locks (same_locks a s) b.mine b.are,
    λ none lacks. ends_locks (same_locks a s) b.mine b.are,
    λ none. any_takes Goes Tells block a s h r Check (λ n next is.
        taking_holds a s s h (record (with_made s h r) { wanted = n }) next is (same_locks a s) b.mine b.are) refl,
  )
  ways (TakeBlocks asked) block b = (
    any_takes Goes Tells block a s h r (TakeBlocks asked) (λ n next is.
        taking_holds a s _ (work (TakeBlocks asked) block a s h r).hand (record r { wanted = n }) next is (as_before a s _ refl refl)
        (record { owners = b.mine.owners; holder = b.mine.holder }) b.are) refl,
    λ n is last. ends_locks (as_before a s _ refl refl) (record { owners = b.mine.owners; holder = b.mine.holder }) b.are,
  )
  ways (TakeLogPages asked) block b = (
    any_takes Goes Tells block a s h r (TakeLogPages asked) (λ n next is.
        taking_holds a s _ (work (TakeLogPages asked) block a s h r).hand (record r { wanted = n }) next is (as_before a s _ refl refl)
        (record { owners = b.mine.owners; holder = b.mine.holder }) b.are) refl,
    λ n is last. ends_locks (as_before a s _ refl refl) (record { owners = b.mine.owners; holder = b.mine.holder }) b.are,
  )
  ways Ready block b = (
    λ lacks. ends_locks (same_locks a s) b.mine b.are,
    (same_locks a s, holds_as s a _ r.slots false b.mine refl refl b.are tt),
  )
  ways Enter block b = (
    λ free last. ends_locks (same_locks a s) b.mine b.are,
    λ clear lacks. ends_locks (same_locks a s) b.mine b.are,
    λ clear. (
      entered_left a s _ clear.0 refl refl,
      appending_holds _ a (noted Enter block s h r) (record { owners = b.mine.owners; holder = self a }) b.are 0,
    ),
  )
  ways (Append place) block b =
      (as_before a s _ refl refl, appending_holds _ a r (record { owners = b.mine.owners; holder = b.mine.holder }) b.are (place + 1))
  ways Open block b =
      (as_before a s _ refl refl, publishing_holds _ a r (record { owners = b.mine.owners; holder = b.mine.holder }) b.are 0)
  ways (Publish place) block b =
      (as_before a s _ refl refl, publishing_holds _ a r (record { owners = b.mine.owners; holder = b.mine.holder }) b.are (place + 1))
  ways Close block b =
      (as_before a s _ refl refl, retiring_holds _ a r (record { owners = b.mine.owners; holder = b.mine.holder }) b.are 0)
  ways (Retire place) block b =
      (as_before a s _ refl refl, retiring_holds _ a r (record { owners = b.mine.owners; holder = b.mine.holder }) b.are (place + 1))
  ways Leave block b = ends_locks (left_left a s b.mine.holder) (record { owners = b.mine.owners; holder = refl }) b.are
  ways (Unlock place) block b =
      let slot = slot_at r.slots place in
      let left = unlocked_left a s slot (slot_inside (length s.owners) r.slots place b.are b.inside)
      (b.mine.owners slot ∙ has_drop place r.slots slot b.inside
      ∙ ap (λ (c : Bool). (c || has (drop (place + 1) r.slots) slot)) (self slot)) in
      let mine = unlocked_holds a s place r.slots b.inside b.are b.mine in
      let are = subst (λ (n : ℕ). AreSlots n r.slots) (sym left.wide) b.are in (
        λ more. (left, holds_as _ a _ (drop (place + 1) r.slots) false mine refl refl are (ltb-true (place + 1) (length r.slots) more)),
        λ past. overs_locks left (subst (λ (l : List ℕ). Holds (with_owner slot None s) a l false)
            (drop_all (place + 1) r.slots (ltb-false (place + 1) (length r.slots) past)) mine) are,
      )
  ways (Give cpu) block b = rests_locks (as_before a s _ refl refl) (record { owners = b.mine.owners; holder = b.mine.holder }) b.are
  ways ReturnNumber block b = let left = back_locks a h.ino s h b.mine in lasts_locks left.0 left.1
  ways Visit block b = (
    λ fault free by. none_held b.inside b.mine b.are,
    λ free passed lacks. none_held b.inside b.mine b.are,
    λ free passed. (same_locks a s, idle_as s a b.mine),
  )
  ways (SnapshotOrCleaner step) block b = tt

pub locks_kept : (k : Next) (block a : ℕ) (granted : Bool) (s : Shared) (h : HandState) (r : Running) → Before a s k r
    → OnLocks a s (WaitsFor s a r k) (kind_turn k block a granted s h r)
locks_kept (SnapshotOrCleaner step) block a granted s h r b =
    step_walk_by (WaitsOn s a step) (LocksGo a s) (LocksTold a s) a s h r step granted (waits_on a s r step b)
    (step_ways a granted s h r step b)
locks_kept other block a granted s h r b =
    walk_by (WaitsFor s a r other) (LocksGo a s) (LocksTold a s) block a s h r other granted (waits_for a s r other b)
    (ways a granted s h r other block b) refl

-- ---- what a step is lent is its actor's

pub owner_is : (a : ℕ) (owner : Option ℕ) → is_owner a owner ≡ true → owner ≡ Some a
owner_is a None e = absurd (false≢true e)
owner_is a (Some o) e = ap (λ (n : ℕ). Some n) (eqb-true o a e)

written_owned : (a place : ℕ) (s : Shared) (r : Running) → Holds s a r.slots true → place < length (written_slots r)
    → owner_at s (slot_at (written_slots r) place) ≡ Some a
written_owned a place s r mine inside =
    owner_is a (owner_at s (slot_at (written_slots r) place))
    (mine.owners (slot_at (written_slots r) place)
    ∙ has_filter (is_written r.plan) r.slots (slot_at (written_slots r) place) (has_at (written_slots r) place inside))

pub slot_owned : (a : ℕ) (s : Shared) (r : Running) (ino : ℕ) → HoldsIts s a (Some r) → has (held_at r.next r.slots) ino ≡ true
    → owner_at s ino ≡ Some a
slot_owned a s r ino mine there = owner_is a (owner_at s ino) (mine.owners ino ∙ there)

some_cell : (a n ino : ℕ) (s : Shared) → owner_at s n ≡ Some a → Some n ≡ Some ino → owner_at s ino ≡ Some a
some_cell a n ino s own e = subst (λ (m : ℕ). owner_at s m ≡ Some a) (ap (λ (o : Option ℕ). unwrap_or o 0) e) own

self_or : (n : ℕ) → has (n ∷ []) n ≡ true
self_or n = ap (λ (b : Bool). b || false) (self n)

-- the slot of a picked record, and the one that is cleaned
one_owned : (slot a : ℕ) (s : Shared) (r : Running) → Holds s a r.slots false → r.slots ≡ slot ∷ [] → owner_at s slot ≡ Some a
one_owned slot a s r mine one =
    owner_is a (owner_at s slot) (mine.owners slot ∙ ap (λ (l : List ℕ). has l slot) one ∙ self_or slot)

lent_on_cell : (step : SnapshotOrCleanerStep) (cpus a : ℕ) (s : Shared) (r : Running) → Before a s (SnapshotOrCleaner step) r → (ino : ℕ)
    → (lent_on step cpus a).cell ≡ Some ino → owner_at s ino ≡ Some a
lent_on_cell (Release draining picked) cpus a s r b ino e =
    some_cell a picked.ino ino s (one_owned picked.ino a s r b.mine b.inside) e
lent_on_cell (Unlink slot) cpus a s r b ino e = some_cell a slot ino s (one_owned slot a s r b.mine b.inside) e
lent_on_cell (Compact slot) cpus a s r b ino e = some_cell a slot ino s (one_owned slot a s r b.mine b.inside) e
lent_on_cell other cpus a s r b ino e = absurd (none-some ino e)

pub lent_cell : (k : Next) (cpus a : ℕ) (s : Shared) (r : Running) → Before a s k r → (ino : ℕ)
    → (lent k cpus a r).cell ≡ Some ino → owner_at s ino ≡ Some a
lent_cell (Append place) cpus a s r b ino e = some_cell a (slot_at (written_slots r) place) ino s
    (written_owned a place s r b.mine b.inside) e
lent_cell (Publish place) cpus a s r b ino e = some_cell a (slot_at (written_slots r) place) ino s
    (written_owned a place s r b.mine b.inside) e
lent_cell (Retire place) cpus a s r b ino e = some_cell a (slot_at (written_slots r) place) ino s
    (written_owned a place s r b.mine b.inside) e
lent_cell (SnapshotOrCleaner step) cpus a s r b ino e = lent_on_cell step cpus a s r b ino e
lent_cell other cpus a s r b ino e = absurd (none-some ino e)

pub lent_holder : (k : Next) (a : ℕ) (s : Shared) (r : Running) → Before a s k r → commits_at k ≡ true → s.holder ≡ Some a
lent_holder k a s r b e = owner_is a s.holder (b.mine.holder ∙ e)
