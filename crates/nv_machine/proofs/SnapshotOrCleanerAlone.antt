-- A call on snapshots holds nothing but the lock of a picked record: where a step of it is refused, it is answered at once.
use Rattle.std.proofs.Common.{◌≡◌, ◌∙◌, ℕ, ◌+◌, Bool, true, false, cond, List, [], ◌∷◌, None, ap, arith, length, nat_lt, refl, sym, ◌<◌}
use Rattle.std.specs.Prelude.{Ok, Err}
use Rattle.std.proofs.lemmas.Bool.{false≢true}
use Rattle.std.proofs.lemmas.Option.{none-some}
use Rattle.nv_alloc.specs.FreeList.{FreeBlocks}
use Rattle.nv_base.specs.declared.fault.Fault.{Fault}
use Rattle.nv_base.specs.Memory.{out_of_memory}
use Rattle.nv_calls.specs.declared.answer.Answer.TheVariants as answers
use Rattle.nv_machine.specs.Kinds.{blocks_in}
use Rattle.nv_machine.specs.Hands.{HandOn}
use Rattle.nv_machine.specs.Sequence.{slots_on}
use Rattle.nv_machine.specs.Reads.{home_from}
use Rattle.nv_machine.specs.SnapshotOrCleaner.{snapshot_or_cleaner_turn}
use Rattle.nv_machine.specs.World.{Draining, Drop, Ends, HandState, Make, Moves, Pick, Pin, Refuses, Running, Shared, Show, Showing, SnapshotOrCleanerStep, SnapshotOrCleaner, Turn, Unlock, Unpin, Waits, empty_hand, Ending, PlanCleaning, go_to}
use Rattle.nv_machine.proofs.StepWork.{snapshot_or_cleaner_work}
use Rattle.nv_machine.proofs.StepWays.{After, EndsBy, Going, IsClearOn, Telling, is_overtaken}
use Rattle.nv_machine.proofs.SnapshotOrCleanerWalk.{goes_next, is_denied, next_on, slots_next, snapshot_or_cleaner_walk, tells, told_on, EndsWith, LeadsTo, ends_slots}

pub none_home : (from cpu : ℕ) (lists : List FreeBlocks) → home_from from cpu lists [] ≡ None
none_home from cpu [] = refl
none_home from cpu (list ∷ lists) = go (nat_lt cpu from) (none_home from (cpu + 1) lists) where
  go : (b : Bool) → home_from from (cpu + 1) lists [] ≡ None
      → cond b (home_from from (cpu + 1) lists []) (home_from from (cpu + 1) lists []) ≡ None
  go true none = none
  go false none = none

-- a step that may be refused has an empty hand, unless it is a taking
pub denied_empty : (step : SnapshotOrCleanerStep) (h : HandState) → is_denied step ≡ true → HandOn step h → h ≡ empty_hand
denied_empty Make h is empty = empty
denied_empty (Drop snapshot) h is empty = empty
denied_empty (Pin snapshot) h is empty = empty
denied_empty (Pick draining) h is empty = empty
denied_empty (PlanCleaning manner slot) h is empty = empty
denied_empty other h is empty = absurd (false≢true is)

at_once : (P : Going) (E : Telling) (fault : Fault) (s : Shared) (h : HandState) (r : Running) → h ≡ empty_hand → r.slots ≡ []
    → E (Err fault) s h → EndsBy P E r.slots s h r (Refuses fault)
at_once P E fault s h r empty none told = record {
  unlock = λ some. absurd (omega (arith, some, ap (λ (l : List ℕ). length l) none));
  overs = λ free. record {
    again = λ n over some. absurd (false≢true (ap is_overtaken over));
    contended = λ over some. absurd (false≢true (ap is_overtaken over));
    rests = λ apart. record {
      give = λ cpu home. absurd (none-some cpu (sym nothing_home ∙ home));
      back = λ ino home has_it. absurd (none-some ino (sym (ap (λ (x : HandState). x.ino) empty) ∙ has_it));
      lasts = λ home no. record { told = λ full. told; picks = λ d left drains some. cc };
    };
  };
} where
  nothing_home : home_from 0 0 s.lists (blocks_in h) ≡ None
  nothing_home = ap (λ (x : HandState). home_from 0 0 s.lists (blocks_in x)) empty ∙ none_home 0 0 s.lists

-- WHAT A LAW SAYS OF A TURN of such a step: of one that waits, of one that is refused, at once or by an unlock, and behind its
-- work of one that goes on or is told; of a show whose memory is refused; of one that unlocks; and of a pick that finds none
pub record AloneWays (Q : Turn → Type 0) (step : SnapshotOrCleanerStep) (a : ℕ) (s : Shared) (h : HandState) (r : Running) : Type 0 where
  pub waits : Q Waits
  pub refused : (fault : Fault) → is_denied step ≡ true → Q (Ends (Err fault) s h)
  pub goes : goes_next step ≡ true → IsClearOn step s
      → Q (Moves (snapshot_or_cleaner_work step a s h).shared (snapshot_or_cleaner_work step a s h).hand
      (record r { slots = slots_next step s r; next = SnapshotOrCleaner (next_on step s) }))
  pub told : tells step ≡ true → IsClearOn step s
      → Q (Ends (told_on step s r) (snapshot_or_cleaner_work step a s h).shared (snapshot_or_cleaner_work step a s h).hand)
  pub denied : (snapshot : ℕ) (showing : Showing) → step ≡ Show snapshot showing
      → Q (Moves s h (record r { ending = Refuses out_of_memory; next = SnapshotOrCleaner (Unpin snapshot []) }))
  pub unlocks : (fault : Fault) → is_denied step ≡ true → 0 < length (slots_on step)
      → Q (Moves s h (record r { ending = Refuses fault; next = Unlock 0 }))
  pub leads_on : (next : SnapshotOrCleanerStep) → LeadsTo step next
      → Q (Moves (snapshot_or_cleaner_work step a s h).shared (snapshot_or_cleaner_work step a s h).hand (go_to (SnapshotOrCleaner next) r))
  pub over : (e : Ending) → EndsWith step a s h e
      → Q (Moves (snapshot_or_cleaner_work step a s h).shared (snapshot_or_cleaner_work step a s h).hand (record r { ending = e; next = Unlock 0 }))
  pub none : (draining : Draining) → step ≡ Pick draining → s.book.deferred ≡ [] → Q (Ends (Ok (answers.Count draining.released)) s h)

module _ (Q : Turn → Type 0) where
  abbrev P : Going
  P t h q = Q (Moves t h q)

  abbrev E : Telling
  E result t h = Q (Ends result t h)

  by_turn : Q Waits → (t : Turn) → After P E t → Q t
  by_turn waits (Moves t h q) on = on
  by_turn waits Waits on = waits
  by_turn waits (Ends result t h) on = on

  pub alone_walk : (step : SnapshotOrCleanerStep) (a : ℕ) (granted : Bool) (s : Shared) (h : HandState) (r : Running) → HandOn step h
      → r.slots ≡ slots_on step → AloneWays Q step a s h r → Q (snapshot_or_cleaner_turn step a granted s h r)
  alone_walk step a granted s h r empty slots w =
      by_turn w.waits (snapshot_or_cleaner_turn step a granted s h r) (snapshot_or_cleaner_walk P E a s h r step granted (record {
        stops = λ fault cause. stops fault cause.0;
        goes = w.goes;
        told = w.told;
        denied = λ snapshot showing on. w.denied snapshot showing on.0;
        leads_on = w.leads_on;
        over = λ e ends. record {
          unlock = λ some. w.over e ends;
          overs = λ nothing. absurd (omega (arith, ends_slots step a s h e ends, ap (λ (l : List ℕ). length l) (sym slots ∙ nothing)));
        };
        none = w.none;
      })) where
        slotted : (fault : Fault) → is_denied step ≡ true → 0 < length (slots_on step) → EndsBy P E r.slots s h r (Refuses fault)
        slotted fault on some = record {
          unlock = λ there. w.unlocks fault on some;
          overs = λ nothing. absurd (omega (arith, some, ap (λ (l : List ℕ). length l) (sym slots ∙ nothing)));
        }

        by_slots : (fault : Fault) → is_denied step ≡ true → (l : List ℕ) → slots_on step ≡ l
            → EndsBy P E r.slots s h r (Refuses fault)
        by_slots fault on [] none =
            at_once P E fault s h r (denied_empty step h on empty) (slots ∙ none) (w.refused fault on)
        by_slots fault on (slot ∷ l) some =
            slotted fault on (omega (arith, ap (λ (m : List ℕ). length m) some))

        stops : (fault : Fault) → is_denied step ≡ true → EndsBy P E r.slots s h r (Refuses fault)
        stops fault on = by_slots fault on (slots_on step) refl
