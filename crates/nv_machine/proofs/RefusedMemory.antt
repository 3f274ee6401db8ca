-- Memory that is refused makes the same turn of every step that grows anything, and want of it is answered only there.
use Rattle.std.proofs.Common.{Bool, List, None, Option, Some, [], ap, false, if◌then◌else◌, nat_le, not, refl, suc, true, zero, ℕ, ◌||◌, ◌∷◌, ◌≡◌}
use Rattle.std.specs.Prelude.{Err, Ok, Result, ◌||◌}
use Rattle.nv_base.specs.declared.fault.Fault.{Fault}
use Rattle.nv_base.specs.declared.fault.Fault.TheVariants.{CommitLimit, Stale}
use Rattle.nv_base.specs.Memory.{out_of_memory}
use Rattle.nv_base.specs.declared.limits.TheConstants.{NUMBER}
use Rattle.nv_calls.specs.AllCalls.{answer, refusal}
use Rattle.nv_calls.specs.Refusals.{Check as Tests}
use Rattle.nv_calls.specs.declared.answer.Answer.{Answer}
use Rattle.nv_calls.specs.Locked.{handles}
use Rattle.nv_machine.specs.Kinds.{check_turn, end_turn, enter_turn, grown, refuse, visit_turn, wants_blocks, wants_pages, wants_room, blocks_in, rest_turn}
use Rattle.nv_machine.specs.Memory.{denied_at, denied_turn, does_its_work, grows, grows_on, is_answered, is_onward, moves_onward, noted, moves_unrefused}
use Rattle.nv_machine.specs.Reads.{copies, nodes, pages_wanted, plan_by, written_slots, home_from}
use Rattle.nv_machine.specs.Sequence.{appending, nothing_looked}
use Rattle.nv_machine.specs.Step.{ending_at, handle_at, kind_turn, visit_grows, with_made}
use Rattle.nv_machine.specs.World.{Check, Draining, Ending, Ends, Enter, HandState, Moves, Next, Pick, Ready, Refuses, Running, Shared, Show, Showing, SnapshotOrCleanerStep, SnapshotOrCleaner, Turn, Visit, Waits, owner_at, PlanCleaning, Manner, Cleans}
use Rattle.nv_machine.specs.SnapshotOrCleaner.{if_free, is_first, picked_turn, show_turn, snapshot_or_cleaner_turn}
use Rattle.nv_machine.proofs.LoopSteps.{appending_any}
use Rattle.nv_machine.proofs.StepWays.{After, Going, Telling, by_last, end_goes, is_last}
use Rattle.nv_book.specs.declared.record.Record.{Record}
use Rattle.nv_entry.specs.declared.node.NodeCopy.{NodeCopy}
use Rattle.nv_machine.specs.Cleaning.{chosen_turn, inode_turn, plan_cleaning_turn, thorough_turn, nothing_cleaned}
use Rattle.nv_clean.specs.declared.cleaned.Cleaned.{Cleaned}

-- ---- the last steps

last_not : (k : Next) → is_last k ≡ true → is_onward k ≡ false
last_not = by_last (λ (k : Next). is_onward k ≡ false) (λ place. refl) (λ cpu. refl) refl

abbrev Stops : Going
Stops s h q = is_onward q.next ≡ false

abbrev Unanswered : Telling
Unanswered x s h = is_answered (Ends x s h) ≡ false

onward_not : (t : Turn) → After Stops (λ (x : Result Answer Fault) (s : Shared) (h : HandState). Unit {0}) t → moves_onward t ≡ false
onward_not (Moves s h q) on = on
onward_not Waits on = refl
onward_not (Ends x s h) on = refl

pub answered_not : (t : Turn) → After (λ (s : Shared) (h : HandState) (q : Running). Unit {0}) Unanswered t → is_answered t ≡ false
answered_not (Moves s h q) on = refl
answered_not Waits on = refl
answered_not (Ends x s h) on = on

end_stops : (slots : List ℕ) (e : Ending) (s : Shared) (h : HandState) (r : Running) → moves_onward (end_turn slots e s h r) ≡ false
end_stops slots e s h r = onward_not (end_turn slots e s h r) (end_goes Stops _ s h r e
    (record { last = λ k is. last_not k is; told = tt; again = λ n over some. refl; picks = λ d left drains some. refl }) slots)

pub refused_unanswered : (fault : Fault) (slots : List ℕ) (s : Shared) (h : HandState) (r : Running)
    → is_answered (end_turn slots (Refuses fault) s h r) ≡ false
refused_unanswered fault slots s h r = answered_not (end_turn slots (Refuses fault) s h r) (end_goes _ Unanswered s h r (Refuses fault)
    (record { last = λ k is. tt; told = refl; again = λ n over some. tt; picks = λ d left drains some. tt }) slots)

-- ---- a turn that does its work, and one that does not

stays_so : (k : Next) (s : Shared) (h : HandState) (r : Running) (t : Turn) → does_its_work k t ≡ false → t ≡ denied_turn k s h r t
stays_so k s h r t e = go (does_its_work k t) e where
  go : (b : Bool) → b ≡ false → t ≡ (if b then denied_at k s h (noted k s h r) else t)
  go true e = cc
  go false e = refl

refuses_so : (k : Next) (s : Shared) (h : HandState) (r : Running) (t : Turn) → does_its_work k t ≡ true
    → denied_at k s h (noted k s h r) ≡ denied_turn k s h r t
refuses_so k s h r t e = go (does_its_work k t) e where
  go : (b : Bool) → b ≡ true → denied_at k s h (noted k s h r) ≡ (if b then denied_at k s h (noted k s h r) else t)
  go true e = refl
  go false e = cc

-- ---- kind by kind

wants_pages_on : (n : ℕ) (s : Shared) (h : HandState) (r : Running) → moves_onward (wants_pages n s h r) ≡ true
wants_pages_on zero s h r = refl
wants_pages_on (suc n) s h r = refl

wants_on : (n block : ℕ) (s : Shared) (h : HandState) (r : Running) → moves_onward (wants_blocks n block s h r) ≡ true
wants_on zero block s h r = wants_pages_on _ s h r
wants_on (suc n) block s h r = refl

check_denied : (ending : Option Ending) (wanted block : ℕ) (s : Shared) (h : HandState) (r : Running)
    → wants_room wanted (pages_wanted s r.slots (plan_by block s h (with_made s h r))) ≡ true
    → check_turn ending false wanted block s h (with_made s h r)
    ≡ denied_turn Check s h r (check_turn ending true wanted block s h (with_made s h r))
check_denied (Some ending) wanted block s h r room =
    stays_so Check s h r (end_turn r.slots ending s h (with_made s h r)) (end_stops r.slots ending s h (with_made s h r))
check_denied None wanted block s h r room =
    go (wants_room wanted (pages_wanted s r.slots (plan_by block s h (with_made s h r)))) room where
      on : Turn
      on = wants_blocks wanted block s h (with_made s h r)

      go : (b : Bool) → b ≡ true
          → grown (false || not b) on s h (with_made s h r) ≡ denied_turn Check s h r (grown (true || not b) on s h (with_made s h r))
      go true is = refuses_so Check s h r on (wants_on wanted block s h (with_made s h r))
      go false is = cc

check_alike : (ending : Option Ending) (wanted block : ℕ) (s : Shared) (h : HandState) (r : Running)
    → wants_room wanted (pages_wanted s r.slots (plan_by block s h r)) ≡ false
    → check_turn ending false wanted block s h r ≡ check_turn ending true wanted block s h r
check_alike (Some ending) wanted block s h r none = refl
check_alike None wanted block s h r none = rw none refl

appending_on : (written : List ℕ) → is_onward (appending 0 written) ≡ true
appending_on written = appending_any (λ (k : Next). is_onward k ≡ true)
    (record { append = λ place. refl; opens = refl; publish = λ place. refl; close = refl; retire = λ place. refl; leave = refl }) 0 written

enter_denied : (holder : Option ℕ) (last : Bool) (actor : ℕ) (s : Shared) (h : HandState) (r : Running)
    → enter_turn holder last false actor s h r ≡ denied_turn Enter s h r (enter_turn holder last true actor s h r)
enter_denied (Some other) last actor s h r = refl
enter_denied None true actor s h r =
    stays_so Enter s h r (refuse CommitLimit s h r) (end_stops r.slots (Refuses CommitLimit) s h r)
enter_denied None false actor s h r =
    refuses_so Enter s h r (enter_turn None false true actor s h r) (appending_on (written_slots r))

visit_denied : (owner : Option ℕ) (tests : Tests) (found : Answer) (s : Shared) (h : HandState) (r : Running)
    → visit_turn owner tests false found s h r ≡ denied_turn Visit s h r (visit_turn owner tests true found s h r)
visit_denied (Some other) tests found s h r = refl
visit_denied None (Err fault) found s h r = stays_so Visit s h r (refuse fault s h r) (refused_unanswered fault r.slots s h r)
visit_denied None (Ok passed) found s h r = refl

show_denied : (owner : Option ℕ) (found : Option NodeCopy) (snapshot : ℕ) (showing : Showing) (s : Shared) (h : HandState) (r : Running)
    → show_turn owner false found snapshot showing s h r
    ≡ denied_turn (SnapshotOrCleaner (Show snapshot showing)) s h r (show_turn owner true found snapshot showing s h r)
show_denied (Some other) found snapshot showing s h r = refl
show_denied None found snapshot showing s h r = refl

picked_denied : (deferred : List Record) (draining : Draining) (s : Shared) (h : HandState) (r : Running)
    → refuse out_of_memory s h r ≡ denied_turn (SnapshotOrCleaner (Pick draining)) s h r (picked_turn deferred draining s h r)
picked_denied [] draining s h r = refl
picked_denied (picked ∷ deferred) draining s h r = refl

-- a first pick makes room before it picks, and no other does
pick_denied : (holder : Option ℕ) (first : Bool) (draining : Draining) (s : Shared) (h : HandState) (r : Running) → first ≡ true
    → if_free holder (grown (false || not first) (picked_turn s.book.deferred draining s h r) s h r)
    ≡ denied_turn (SnapshotOrCleaner (Pick draining)) s h r
    (if_free holder (grown (true || not first) (picked_turn s.book.deferred draining s h r) s h r))
pick_denied (Some other) first draining s h r e = refl
pick_denied None true draining s h r e = picked_denied s.book.deferred draining s h r
pick_denied None false draining s h r e = cc

pick_alike : (first : Bool) (turn : Turn) (s : Shared) (h : HandState) (r : Running) → first ≡ false
    → grown (false || not first) turn s h r ≡ grown (true || not first) turn s h r
pick_alike true turn s h r e = cc
pick_alike false turn s h r e = refl

-- a planning that ends with what it found does its work, and one that refuses does not
abbrev has_planned : Turn → Bool
has_planned t = is_answered t || moves_unrefused t

cleans_works : (slots : List ℕ) (c : Cleaned) (s : Shared) (h : HandState) (r : Running)
    → has_planned (end_turn slots (Cleans c) s h r) ≡ true
cleans_works (slot ∷ slots) c s h r = refl
cleans_works [] c s h r = go (home_from 0 0 s.lists (blocks_in h)) h.ino where
  go : (home number : Option ℕ) → has_planned (rest_turn home number s h (record r { ending = Cleans c })) ≡ true
  go (Some cpu) number = refl
  go None (Some ino) = refl
  go None None = refl

stale_stops : (slots : List ℕ) (s : Shared) (h : HandState) (r : Running) → has_planned (end_turn slots (Refuses Stale) s h r) ≡ false
stale_stops (slot ∷ slots) s h r = refl
stale_stops [] s h r = go (home_from 0 0 s.lists (blocks_in h)) h.ino where
  go : (home number : Option ℕ) → has_planned (rest_turn home number s h (record r { ending = Refuses Stale })) ≡ false
  go (Some cpu) number = refl
  go None (Some ino) = refl
  go None None = refl

-- a planning of an inode refuses its call by the walk's memory wherever it would go on or end
thorough_denied : (n pages ino : ℕ) (manner : Manner) (slot : Option ℕ) (s : Shared) (h : HandState) (r : Running)
    → refuse out_of_memory s h r ≡ denied_turn (SnapshotOrCleaner (PlanCleaning manner slot)) s h r (thorough_turn n pages ino s h r)
thorough_denied zero pages ino manner slot s h r =
    refuses_so (SnapshotOrCleaner (PlanCleaning manner slot)) s h r _ (cleans_works r.slots nothing_cleaned s h r)
thorough_denied (suc n) pages ino manner slot s h r =
    refl

chosen_denied : (thorough : Bool) (ino : ℕ) (manner : Manner) (slot : Option ℕ) (s : Shared) (h : HandState) (r : Running)
    → refuse out_of_memory s h r ≡ denied_turn (SnapshotOrCleaner (PlanCleaning manner slot)) s h r (chosen_turn thorough ino s h r)
chosen_denied true ino manner slot s h r = thorough_denied _ _ ino manner slot s h r
chosen_denied false ino manner slot s h r = refl

inode_denied : (is : Bool) (ino : ℕ) (manner : Manner) (slot : Option ℕ) (s : Shared) (h : HandState) (r : Running)
    → inode_turn is manner ino false s h r
    ≡ denied_turn (SnapshotOrCleaner (PlanCleaning manner slot)) s h r (inode_turn is manner ino true s h r)
inode_denied true ino manner slot s h r = chosen_denied _ ino manner slot s h r
inode_denied false ino manner slot s h r =
    stays_so (SnapshotOrCleaner (PlanCleaning manner slot)) s h r (refuse Stale s h r) (stale_stops r.slots s h r)

plan_cleaning_denied : (named : Option ℕ) (manner : Manner) (slot : Option ℕ) (s : Shared) (h : HandState) (r : Running)
    → plan_cleaning_turn manner named false s h r
    ≡ denied_turn (SnapshotOrCleaner (PlanCleaning manner slot)) s h r (plan_cleaning_turn manner named true s h r)
plan_cleaning_denied None manner slot s h r =
    stays_so (SnapshotOrCleaner (PlanCleaning manner slot)) s h r (refuse Stale s h r) (stale_stops r.slots s h r)
plan_cleaning_denied (Some ino) manner slot s h r = inode_denied _ ino manner slot s h r

snapshot_denied : (step : SnapshotOrCleanerStep) (actor : ℕ) (s : Shared) (h : HandState) (r : Running) → grows_on step ≡ true
    → snapshot_or_cleaner_turn step actor false s h r ≡ denied_turn (SnapshotOrCleaner step) s h r (snapshot_or_cleaner_turn step actor true s h r)
snapshot_denied (Show snapshot showing) actor s h r e = show_denied _ _ snapshot showing s h r
snapshot_denied (Pick draining) actor s h r e = pick_denied s.holder (is_first draining) draining s h r e
snapshot_denied (PlanCleaning manner slot) actor s h r e = plan_cleaning_denied slot manner slot s h r
snapshot_denied other actor s h r e = cc

snapshot_alike : (step : SnapshotOrCleanerStep) (actor : ℕ) (s : Shared) (h : HandState) (r : Running) → grows_on step ≡ false
    → snapshot_or_cleaner_turn step actor false s h r ≡ snapshot_or_cleaner_turn step actor true s h r
snapshot_alike (Show snapshot showing) actor s h r e = cc
snapshot_alike (Pick draining) actor s h r e = ap (if_free s.holder) (pick_alike (is_first draining) _ s h r e)
snapshot_alike (PlanCleaning manner slot) actor s h r e = cc
snapshot_alike other actor s h r e = refl

-- ---- all kinds

pub denied_alike : (k : Next) (block actor : ℕ) (s : Shared) (h : HandState) (r : Running) → grows k block s h r ≡ true
    → kind_turn k block actor false s h r ≡ denied_turn k s h r (kind_turn k block actor true s h r)
denied_alike Check block actor s h r e = check_denied (ending_at block s h r) _ block s h r e
denied_alike Ready block actor s h r e = refl
denied_alike Enter block actor s h r e = enter_denied s.holder (nat_le NUMBER s.book.commit) actor s h r
denied_alike Visit block actor s h r e = go (visit_grows r.call) e where
  visit : Bool → Turn
  visit granted = visit_turn (owner_at s (handle_at (handles nothing_looked r.call) 0).ino) (refusal block (copies s) r.call) granted
      (answer (nodes s) r.made r.call) s h r

  go : (grow : Bool) → grow ≡ true → visit (false || not grow) ≡ denied_turn Visit s h r (visit (true || not grow))
  go true e = visit_denied (owner_at s (handle_at (handles nothing_looked r.call) 0).ino) (refusal block (copies s) r.call)
      (answer (nodes s) r.made r.call) s h r
  go false e = cc
denied_alike (SnapshotOrCleaner step) block actor s h r e = snapshot_denied step actor s h r e
denied_alike other block actor s h r e = cc

pub ungrown : (k : Next) (block actor : ℕ) (s : Shared) (h : HandState) (r : Running) → grows k block s h r ≡ false
    → kind_turn k block actor false s h r ≡ kind_turn k block actor true s h r
ungrown Check block actor s h r e = check_alike (ending_at block s h r) _ block s h (with_made s h r) e
ungrown Ready block actor s h r e = cc
ungrown Enter block actor s h r e = cc
ungrown Visit block actor s h r e = rw e refl
ungrown (SnapshotOrCleaner step) block actor s h r e = snapshot_alike step actor s h r e
ungrown other block actor s h r e = refl
