-- Data is taken first, and then log pages, each as many as are wanted.
use Rattle.std.proofs.Common.{Bool, arith, inl, inr, refl, sym, ℕ}
use Rattle.nv_machine.specs.Step.{kind_turn}
use Rattle.nv_machine.specs.Wanted.{LeadsTo, TakesInTurn}
use Rattle.nv_machine.specs.World.{Check, Ends, HandState, Moves, Next, Ready, Running, Shared, TakeBlocks, TakeLogPages, Turn, Waits, SnapshotOrCleaner, PlanCleaning, Fresh, SnapshotOrCleanerStep}
use Rattle.nv_machine.proofs.StepPhases.{IsApart, OnApart, apart}
use Rattle.nv_machine.proofs.NextSteps.{IsQuiet, Known, OnKnown, quiet_walk, QuietWays, quiet_step}

module _ (k : Next) (block actor : ℕ) (s : Shared) (r : Running) where
  abbrev Leads : Known
  Leads next t h q = LeadsTo next k block actor s r t h q

  leads : (t : Turn) → OnKnown Leads t → TakesInTurn k block actor s r t
  leads (Moves t h q) on = on
  leads Waits on = tt
  leads (Ends result t h) on = tt

  -- a step that goes on to no taking, nor past both
  apart_leads : (next : Next) (t : Shared) (h : HandState) (q : Running) → IsApart next → Leads next t h q
  apart_leads (TakeBlocks asked) t h q is = absurd is
  apart_leads (TakeLogPages asked) t h q is = absurd is
  apart_leads Ready t h q is = absurd is
  apart_leads other t h q is = tt

  from_apart : (turn : Turn) → OnApart turn → TakesInTurn k block actor s r turn
  from_apart (Moves t h q) is = apart_leads q.next t h q is
  from_apart Waits is = tt
  from_apart (Ends result t h) is = tt

  quiet : IsQuiet Leads
  quiet = record {
    unlock = λ place s h r. tt;
    give = λ cpu s h r. tt;
    back = λ s h r. tt;
    look = λ s h r. tt;
    steps = λ step plain s h r. tt;
  }

pub takes_in_turn : (k : Next) (block actor : ℕ) (granted : Bool) (s : Shared) (h : HandState) (r : Running)
    → TakesInTurn k block actor s r (kind_turn k block actor granted s h r)
takes_in_turn Check block actor granted s h r =
    leads Check block actor s r _ (quiet_walk (Leads Check block actor s r) (quiet Check block actor s r) block actor granted s h r Check
    (λ none. record {
      more = λ n is ask. inl (refl, record { own_list = refl; is = sym is; some = omega arith });
      pages = λ n few is. inl (few, record { own_list = refl; is = sym is; some = omega arith });
      ready = λ few is. inl (few, is);
    }))
takes_in_turn (TakeBlocks asked) block actor granted s h r =
    leads (TakeBlocks asked) block actor s r _
    (quiet_walk (Leads (TakeBlocks asked) block actor s r) (quiet (TakeBlocks asked) block actor s r) block actor granted s h r
    (TakeBlocks asked) (record {
      more = λ n is ask. inr (asked, refl, record { next = refl; is = sym is; some = omega arith });
      pages = λ n few is. inl (few, record { own_list = refl; is = sym is; some = omega arith });
      ready = λ few is. inl (few, is);
    }))
takes_in_turn (TakeLogPages asked) block actor granted s h r =
    leads (TakeLogPages asked) block actor s r _
    (quiet_walk (Leads (TakeLogPages asked) block actor s r) (quiet (TakeLogPages asked) block actor s r) block actor granted s h r
    (TakeLogPages asked) (record {
      more = λ n is ask. inr (asked, refl, record { next = refl; is = sym is; some = omega arith });
      pages = λ n few is. cc;
      ready = λ few is. inr (asked, refl, few);
    }))
takes_in_turn (SnapshotOrCleaner step) block actor granted s h r =
    leads (SnapshotOrCleaner step) block actor s r _
    (quiet_step (Leads (SnapshotOrCleaner step) block actor s r) (quiet (SnapshotOrCleaner step) block actor s r) step block actor granted s h r
    (leads_nothing step)) where
      leads_nothing : (x : SnapshotOrCleanerStep) → QuietWays (Leads (SnapshotOrCleaner step) block actor s r) (SnapshotOrCleaner x) block actor s h r
      leads_nothing (PlanCleaning manner slot) = λ ino. (tt, tt)
      leads_nothing (Fresh ino asked wanted) = (λ q. tt, λ n q. tt)
      leads_nothing other = tt
takes_in_turn other block actor granted s h r =
    from_apart other block actor s r (kind_turn other block actor granted s h r) (apart other block actor granted s h r refl)
