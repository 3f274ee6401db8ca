-- After each kind of step: what the call knows of inodes, and that each number stands as often as before.
use Rattle.std.proofs.Common.{◌≡◌, ◌⊎◌, inl, inr, ℕ, ◌+◌, ◌<◌, ◌==◌, ◌∙◌, Bool, true, false, cond, List, [], ◌∷◌, Option, Some, None, ap, arith, refl, subst, sym, take, length}
use Rattle.std.specs.Prelude.{◌||◌}
use Rattle.std.proofs.lemmas.Bool.{eqb-true, false≢true}
use Rattle.std.proofs.lemmas.Option.{none-some}
use Rattle.nv_alloc.specs.Numbers.{has, times}
use Rattle.nv_alloc.proofs.Lists.{times-yes}
use Rattle.nv_base.specs.declared.geometry.GeometryNumbers.{GeometryNumbers}
use Rattle.nv_cell.specs.Cell.{published}
use Rattle.nv_machine.specs.Reads.{if_number, is_written, slot_at, written_slots}
use Rattle.nv_machine.specs.Step.{kind_turn}
use Rattle.nv_machine.specs.World.{Append, Check, Close, Ends, Enter, HandState, Lock, Look, Moves, Next, Number, Open, Publish, Ready, Retire, Running, Shared, TakeBlocks, TakeLogPages, Turn, Waits, cell_at, with_cell, SnapshotOrCleanerStep, SnapshotOrCleaner, Fresh, PlanCleaning}
use Rattle.nv_machine.proofs.StepWork.{work}
use Rattle.nv_machine.proofs.WorkKeeps.{AfterTurn, turn_keeps}
use Rattle.nv_machine.proofs.Lists.{has_filter, has_take, rising_filter, self, take_apart}
use Rattle.nv_machine.proofs.LogsKept.{cell_set}
use Rattle.nv_machine.proofs.PoolCells.{IsLike, taken_once, with_inode}
use Rattle.nv_machine.proofs.PoolCommits.{append_inside, append_plan, close_retiring, erased_number, publish_inode, publish_inside, publish_plan, publish_retiring, retire_inside, retire_retiring}
use Rattle.nv_machine.proofs.NextSteps.{QuietWays, quiet_walk}
use Rattle.nv_machine.proofs.PoolKnown.{OnSeen, SeesBy, appending_seen, beginning_seen, begun_by, locking_sees, looking_sees, none_begun, number_sees, publishing_seen, retiring_seen, sees_quiet}
use Rattle.nv_machine.proofs.PoolTally.{CanTally, work_tally, is_begun, loose, not_begun, other_times, tally}
use Rattle.nv_machine.proofs.PoolTurns.{Standing, check_taken, ready_plan}
use Rattle.nv_machine.proofs.StepWays.{noted}
use Rattle.nv_machine.proofs.WrittenSlots.{written_there}
use Rattle.nv_machine.specs.Frame.{lent}
use Rattle.nv_machine.proofs.CellChanges.{clean_cell, clean_cell_on, clean_slot, clean_slot_on, is_clean, is_clean_on, lent_clean, lent_inside_own, lent_removal, removal_on}
use Rattle.nv_machine.proofs.HandsInCommits.{alone_on}

-- ---- what the call knows

module _ (g : GeometryNumbers) (block a : ℕ) (granted : Bool) (s : Shared) (h : HandState) (r : Running) where
  ways : (k : Next) → Standing g k a s h r → QuietWays (SeesBy (begun_by k (written_slots r))) k block a s h r
  ways Number st = number_sees s.pool.numbers s h r (ap (λ (x : HandState). x.ino) st.hand.0)
  ways (Look place) st =
      looking_sees (place + 1) s h (noted (Look place) block s h r) (ap (λ (x : HandState). x.ino) st.hand.0) refl
  ways (Lock place) st = locking_sees (place + 1) _ h r st.sees
  ways Check st = λ none.
      let t = check_taken g block a s h r st none in
      record { more = λ n is ask. (t, λ n. refl); pages = λ n few is. (t, λ n. refl); ready = λ few is. (t, λ n. refl) }
  ways (TakeBlocks asked) st =
      record { more = λ n is ask. (st.sees, λ n. refl); pages = λ n few is. (st.sees, λ n. refl); ready = λ few is. (st.sees, λ n. refl) }
  ways (TakeLogPages asked) st =
      record { more = λ n is ask. (st.sees, λ n. refl); pages = λ n few is. (st.sees, λ n. refl); ready = λ few is. (st.sees, λ n. refl) }
  ways Ready st = (ready_plan g block a s h r st.sees, λ n. refl)
  ways Enter st = λ clear. appending_seen (work Enter block a s h r).shared h (noted Enter block s h r) 0 st.sees
  ways (Append place) st =
      appending_seen _ (work (Append place) block a s h r).hand r (place + 1) (append_plan g block a s h r place st)
  ways Open st = beginning_seen (work Open block a s h r).shared h r st.sees
  ways Close st =
      retiring_seen (work Close block a s h r).shared (record h { ino = None }) r 0 (close_retiring g block a s h r st)
  ways (Retire place) st =
      retiring_seen (work (Retire place) block a s h r).shared (work (Retire place) block a s h r).hand r (place + 1)
      (retire_retiring g block a s h r place st)
  ways (Publish place) st =
      publishing_seen _ (work (Publish place) block a s h r).hand r (place + 1) (publish_plan g block a s h r place st)
      (λ past single. publish_retiring g block a s h r place st single) (omega arith)
  ways (SnapshotOrCleaner (PlanCleaning manner slot)) st = λ ino. ((tt, λ n. refl), (tt, λ n. refl))
  ways (SnapshotOrCleaner (Fresh ino asked wanted)) st = (λ q. (tt, λ n. refl), λ n q. (tt, λ n. refl))
  ways other st = tt

  pub turn_seen : (k : Next) → Standing g k a s h r → OnSeen (begun_by k (written_slots r)) (kind_turn k block a granted s h r)
  turn_seen (Publish place) st = ways (Publish place) st
  turn_seen other st = quiet_walk (SeesBy none_begun) sees_quiet block a granted s h r other (ways other st)

-- ---- each number

-- after a turn
abbrev pub OnTally : ℕ → ℕ → Turn → Type 0
OnTally n total (Moves t h q) = tally n t (loose q.next (written_slots q) h.ino) ≡ total
OnTally n total Waits = Unit {0}
OnTally n total (Ends result t h) = tally n t (if_number h.ino) ≡ total

none_loose : (k : Next) (written : List ℕ) (number : Option ℕ) → ((n : ℕ) → is_begun k written n ≡ false)
    → loose k written number ≡ if_number number
none_loose k written None none = refl
none_loose k written (Some n) none = rw (none n) refl

-- where no inode has begun, the number in the hand counts
settles : (n total : ℕ) (turn : Turn) → AfterTurn (λ (t : Shared) (h : HandState). tally n t (if_number h.ino) ≡ total) turn
    → OnSeen none_begun turn → OnTally n total turn
settles n total (Moves t h q) after seen = ap (tally n t) (none_loose q.next (written_slots q) h.ino seen.1) ∙ after
settles n total Waits after seen = tt
settles n total (Ends result t h) after seen = after

quiet_tally : (g : GeometryNumbers) (k : Next) (n block a : ℕ) (granted : Bool) (s : Shared) (h : HandState) (r : Running)
    → CanTally k s h r → ((m : ℕ) → is_begun k (written_slots r) m ≡ false)
    → OnSeen none_begun (kind_turn k block a granted s h r)
    → OnTally n (tally n s (loose k (written_slots r) h.ino)) (kind_turn k block a granted s h r)
quiet_tally g k n block a granted s h r can none seen =
    let same = ap (tally n s) (none_loose k (written_slots r) h.ino none) in
    settles n _ (kind_turn k block a granted s h r)
    (turn_keeps (λ (t : Shared) (x : HandState). tally n t (if_number x.ino) ≡ tally n s (loose k (written_slots r) h.ino)) k block a
    granted s h r (sym same) (work_tally k n block a s h r can ∙ sym same)) seen

-- ---- publish

is_number : (number : Option ℕ) (n : ℕ) → (number ≡ Some n) ⊎ (number ≡ Some n → ⊥)
is_number None n = inr (λ e. none-some n e)
is_number (Some m) n = go (m == n) refl where
  go : (b : Bool) → (m == n) ≡ b → (Some m ≡ Some n) ⊎ (Some m ≡ Some n → ⊥)
  go true q = inl (ap (λ (k : ℕ). Some k) (eqb-true m n q))
  go false q = inr (λ e. false≢true (sym q ∙ same m n (ap (λ (o : Option ℕ). number_or o) e))) where
    number_or : Option ℕ → ℕ
    number_or None = 0
    number_or (Some k) = k

    same : (m n : ℕ) → m ≡ n → (m == n) ≡ true
    same m n e = rw e (self n)

-- a number that is not in the hand
no_times : (number : Option ℕ) (begun : ℕ → Bool) (n : ℕ) → (number ≡ Some n → ⊥) → times n (not_begun number begun) ≡ 0
no_times None begun n other = refl
no_times (Some m) begun n other = go (begun m) where
  go : (b : Bool) → times n (cond b [] (m ∷ [])) ≡ 0
  go true = refl
  go false = other_times n m (λ e. other (ap (λ (k : ℕ). Some k) e))

-- one that is, by whether its inode has begun
own_times : (number : Option ℕ) (begun : ℕ → Bool) (n : ℕ) (b : Bool) → number ≡ Some n → begun n ≡ b
    → times n (not_begun number begun) ≡ cond b 0 1
own_times number begun n b is e = ap (λ (o : Option ℕ). times n (not_begun o begun)) is ∙ go (begun n) b e where
  go : (c b : Bool) → c ≡ b → times n (cond c [] (n ∷ [])) ≡ cond b 0 1
  go true true e = refl
  go false false e = times-yes n n [] (self n)
  go true false e = absurd (false≢true (sym e))
  go false true e = absurd (false≢true e)

same_times : (number : Option ℕ) (old new : ℕ → Bool) (n : ℕ) → (number ≡ Some n → new n ≡ old n)
    → times n (not_begun number new) ≡ times n (not_begun number old)
same_times number old new n same = elim (is_number number n) [
  | inl is ↦ own_times number new n (old n) is (same is) ∙ sym (own_times number old n (old n) is refl)
  | inr other ↦ no_times number new n other ∙ sym (no_times number old n other)
]

same_begun : (number : Option ℕ) (old new : ℕ → Bool) → ((n : ℕ) → old n ≡ new n) → not_begun number old ≡ not_begun number new
same_begun None old new same = refl
same_begun (Some n) old new same = ap (λ (b : Bool). cond b [] (n ∷ [])) (same n)

module _ (g : GeometryNumbers) (block a : ℕ) (s : Shared) (h : HandState) (r : Running) (place : ℕ)
    (st : Standing g (Publish place) a s h r) where
  abbrev written : List ℕ
  written = written_slots r

  abbrev slot : ℕ
  slot = slot_at written place

  abbrev before_it : ℕ → Bool
  before_it n = has (take place written) n

  -- with the slot that is published, where several are
  with_slot : (n : ℕ) (b : Bool) → (slot == n) ≡ b → h.ino ≡ Some n
      → begun_by (Publish place) written n ≡ (before_it n || b)
  with_slot n b q is =
      let several = (st.sees.1 n is).several in
      rw several (has_take place written n st.before.inside ∙ ap (λ (c : Bool). before_it n || c) q)

  slot_held : has r.slots slot ≡ true
  slot_held = has_filter (is_written r.plan) r.slots slot (written_there r place st.before.inside)

  or_false : (b : Bool) → (b || false) ≡ b
  or_false true = refl
  or_false false = refl

  or_true : (b : Bool) → (b || true) ≡ true
  or_true true = refl
  or_true false = refl

  published_tally : (n : ℕ)
      → tally n (with_cell slot (published (cell_at s slot)) s) (not_begun h.ino (begun_by (Publish place) written))
      ≡ tally n s (not_begun h.ino before_it)
  published_tally n = go (slot == n) refl where
    go : (b : Bool) → (slot == n) ≡ b
        → tally n (with_cell slot (published (cell_at s slot)) s) (not_begun h.ino (begun_by (Publish place) written))
        ≡ tally n s (not_begun h.ino before_it)
    go false q =
        let numbers = same_times h.ino before_it (begun_by (Publish place) written) n
        (λ is. with_slot n false q is ∙ or_false (before_it n)) in
        let cells : taken_once (cell_at (with_cell slot (published (cell_at s slot)) s) n) ≡ taken_once (cell_at s n) =
        cell_set s slot (published (cell_at s slot)) n (λ c. taken_once c ≡ taken_once (cell_at s n))
        (publish_inside g block a s h r place st)
        (λ same. absurd (false≢true (sym q ∙ (let e = self n in rw same e)))) (λ ne. refl) in
        omega (arith, numbers, cells)
    go true q = subst (λ (k : ℕ).
        tally k (with_cell slot (published (cell_at s slot)) s) (not_begun h.ino (begun_by (Publish place) written))
        ≡ tally k s (not_begun h.ino before_it)) (eqb-true slot n q) own where
          now : taken_once (cell_at (with_cell slot (published (cell_at s slot)) s) slot) ≡ 1
          now = cell_set s slot (published (cell_at s slot)) slot (λ c. taken_once c ≡ 1) (publish_inside g block a s h r place st)
              (λ same. with_inode (published (cell_at s slot)) (publish_inode g block a s h r place st)) (λ ne. absurd (ne refl))

          own : tally slot (with_cell slot (published (cell_at s slot)) s) (not_begun h.ino (begun_by (Publish place) written))
              ≡ tally slot s (not_begun h.ino before_it)
          own = elim (is_number h.ino slot) [
            | inl is ↦
                let first = take_apart place written (rising_filter (is_written r.plan) r.slots st.before.are.rising) st.before.inside in
                let was = own_times h.ino before_it slot false is first in
                let will = own_times h.ino (begun_by (Publish place) written) slot true is
                (with_slot slot true (self slot) is ∙ or_true (before_it slot)) in
                let few = st.few slot in
                omega (arith, now, was, will, few)
            | inr other ↦
                let was = no_times h.ino before_it slot other in
                let will = no_times h.ino (begun_by (Publish place) written) slot other in
                let inode : taken_once (cell_at s slot) ≡ 1 = elim (st.sees.0 slot slot_held) [
                  | inl is ↦ absurd (other is)
                  | inr there ↦ with_inode (cell_at s slot) there
                ] in
                omega (arith, now, was, will, inode)
          ]

-- ---- close

close_tally : (g : GeometryNumbers) (block a : ℕ) (s : Shared) (h : HandState) (r : Running) → Standing g Close a s h r → (n : ℕ)
    → tally n s [] ≡ tally n s (loose Close (written_slots r) h.ino)
close_tally g block a s h r st n = ap (tally n s) (go h.ino refl) where
  go : (o : Option ℕ) → h.ino ≡ o → [] ≡ loose Close (written_slots r) o
  go None is = refl
  go (Some m) is = rw ((st.sees.1 m is).own) refl

-- ---- every kind

can_tally : (g : GeometryNumbers) (step : SnapshotOrCleanerStep) (a : ℕ) (s : Shared) (h : HandState) (r : Running)
    → Standing g (SnapshotOrCleaner step) a s h r
    → (is_clean_on step ≡ true → IsLike (cell_at s (clean_slot_on step)) (clean_cell_on step s h))
    → CanTally (SnapshotOrCleaner step) s h r
can_tally g step a s h r st like = (
  λ is. (inside (removal_on step s h).slot (lent_removal k (length s.lists) a s h r is), λ q. ap (λ (x : HandState). x.ino) (alone_on step h st.hand)),
  λ is. (inside (clean_slot_on step) (lent_clean k (length s.lists) a r is), like is),
) where
  k : Next
  k = SnapshotOrCleaner step

  inside : (ino : ℕ) → (lent k (length s.lists) a r).cell ≡ Some ino → ino < length s.cells
  inside ino is = (lent_inside_own k a s r st.before ino is).0

pub turn_tally : (g : GeometryNumbers) (k : Next) (n block a : ℕ) (granted : Bool) (s : Shared) (h : HandState) (r : Running)
    → Standing g k a s h r → (is_clean k ≡ true → IsLike (cell_at s (clean_slot k)) (clean_cell k s h))
    → OnTally n (tally n s (loose k (written_slots r) h.ino)) (kind_turn k block a granted s h r)
turn_tally g Number n block a granted s h r st like = quiet_tally g Number n block a granted s h r
    (ap (λ (x : HandState). x.ino) st.hand.0) (λ m. refl) (turn_seen g block a granted s h r Number st)
turn_tally g (Append place) n block a granted s h r st like = quiet_tally g (Append place) n block a granted s h r
    (append_inside g block a s h r place st, st.within _) (λ m. refl) (turn_seen g block a granted s h r (Append place) st)
turn_tally g (Publish place) n block a granted s h r st like =
    ap (λ (numbers : List ℕ). tally n (work (Publish place) block a s h r).shared numbers)
    (same_begun h.ino _ _ (turn_seen g block a granted s h r (Publish place) st).1)
    ∙ published_tally g block a s h r place st n
turn_tally g Close n block a granted s h r st like = close_tally g block a s h r st n
turn_tally g (Retire place) n block a granted s h r st like = quiet_tally g (Retire place) n block a granted s h r
    (retire_inside g block a s h r place st, erased_number g block a s h r place st) (λ m. refl)
    (turn_seen g block a granted s h r (Retire place) st)
turn_tally g (SnapshotOrCleaner step) n block a granted s h r st like = quiet_tally g (SnapshotOrCleaner step) n block a granted s h r
    (can_tally g step a s h r st like) (λ m. refl) (turn_seen g block a granted s h r (SnapshotOrCleaner step) st)
turn_tally g other n block a granted s h r st like = quiet_tally g other n block a granted s h r tt (λ m. refl)
    (turn_seen g block a granted s h r other st)
