-- What calls know between the steps outside of commits.
use Rattle.std.proofs.Common.{Bool, List, None, Option, [], ap, false, length, refl, subst, sym, true, ℕ, ◌<◌, ◌^◌, ◌∙◌, ◌∷◌, ◌≡◌}
use Rattle.std.specs.List.{AllByRecursion}
use Rattle.std.specs.Prelude.{Err, Ok}
use Rattle.std.proofs.lemmas.Bool.{false≢true}
use Rattle.nv_alloc.specs.Block.{BlockValue, numbers_of}
use Rattle.nv_base.specs.declared.fault.Fault.{Fault}
use Rattle.nv_base.specs.declared.numbers.Handle.{Handle}
use Rattle.nv_calls.proofs.FillPages.{filled_numbers}
use Rattle.nv_calls.proofs.Within.{size_within, write_within}
use Rattle.nv_calls.specs.AllCalls.{blocks_wanted, refusal}
use Rattle.nv_calls.specs.FillPages.{fresh_pages}
use Rattle.nv_calls.specs.Plain.{Change}
use Rattle.nv_calls.specs.Refusals.{Check as Tests, passes}
use Rattle.nv_calls.specs.declared.call.Call.{Call}
use Rattle.nv_entry.specs.declared.node.NodeCopy.{NodeCopy}
use Rattle.nv_machine.specs.Kept.{HasNothing, IsInFile, IsPlanFor, Knows}
use Rattle.nv_machine.specs.Kinds.{check_ending, with_bytes}
use Rattle.nv_machine.specs.Reads.{copies, plan_by, taken_by}
use Rattle.nv_machine.specs.Sequence.{locking}
use Rattle.nv_machine.specs.SnapshotOrCleaner.{snapshot_or_cleaner_turn}
use Rattle.nv_machine.specs.World.{Answers, Ending, HandState, Next, BoundAnew, Refuses, Running, Shared, SnapshotOrCleanerStep, Turn}
use Rattle.nv_machine.proofs.StepWork.{number_work}
use Rattle.nv_machine.proofs.NextSteps.{Known, KnowsNext, OnKnown, Untold}
use Rattle.nv_machine.proofs.PlansOfBlocks.{length_numbers, plan_fits, runs_are, small_numbers}
use Rattle.nv_machine.proofs.LoopSteps.{locking_any}
use Rattle.nv_machine.proofs.StepWays.{Closes, EndsBy, any_ends, by_last, is_last, is_overtaken}
use Rattle.nv_machine.proofs.SnapshotOrCleanerWalk.{snapshot_or_cleaner_walk, ends_apart}
use Rattle.nv_calls.specs.declared.call.Call.TheVariants as call

abbrev pub KnownBy : ℕ → ℕ → Known
KnownBy block cpu k s h r = Knows k block s cpu h r

abbrev pub OnKnows : ℕ → ℕ → Turn → Type 0
OnKnows block cpu t = OnKnown (KnownBy block cpu) t

pub not_overtaken : (e : Ending) → e ≡ Answers → e ≡ BoundAnew → ⊥
not_overtaken e a o = false≢true (ap is_overtaken (sym a ∙ o))

module _ (block cpu : ℕ) where
  -- ---- the last steps

  pub closes_knows : (s : Shared) (h : HandState) (r : Running) (e : Ending) → (e ≡ BoundAnew → HasNothing h)
      → Closes (KnowsNext (KnownBy block cpu)) Untold s h r e
  closes_knows s h r e none = record {
    last = last;
    told = tt;
    again = λ n over some. (none over, refl);
    picks = λ d left drains some. tt;
  } where
    last : (k : Next) → is_last k ≡ true → KnownBy block cpu k s h (record r { ending = e; next = k })
    last = by_last (λ (k : Next). KnownBy block cpu k s h (record r { ending = e; next = k })) (λ place. none) (λ home. tt) tt

  pub denied_knows : {slots : List ℕ} {s : Shared} {h : HandState} {r : Running} {fault : Fault}
      → EndsBy (KnowsNext (KnownBy block cpu)) Untold slots s h r (Refuses fault)
  denied_knows = any_ends (closes_knows _ _ _ _ (λ over. absurd (false≢true (ap is_overtaken over))))

  pub snapshot_knows : (step : SnapshotOrCleanerStep) (actor : ℕ) (granted : Bool) (s : Shared) (h : HandState) (r : Running)
      → OnKnows block cpu (snapshot_or_cleaner_turn step actor granted s h r)
  snapshot_knows step actor granted s h r = snapshot_or_cleaner_walk (KnowsNext (KnownBy block cpu)) Untold actor s h r step granted (record {
    stops = λ fault cause. any_ends (closes_knows _ _ _ _ (λ over. absurd (false≢true (ap is_overtaken over))));
    goes = λ on clear. tt;
    told = λ on clear. tt;
    denied = λ snapshot showing on. tt;
    leads_on = λ next leads. tt;
    over = λ e ends. any_ends (closes_knows _ _ _ _ (λ over. absurd (ends_apart step actor s h e ends over)));
    none = λ draining on empty. tt;
  })

  -- ---- before the check

  pub locking_knows : (place : ℕ) (slots : List ℕ) (s : Shared) (h : HandState) (r : Running) → HasNothing h → r.ending ≡ Answers
      → Knows (locking place slots) block s cpu h r
  locking_knows place slots s h r none answers =
      locking_any (λ (k : Next). Knows k block s cpu h r) (λ place. (none, answers)) (none, answers) place slots

pub number_nothing : (numbers : List ℕ) (s : Shared) (h : HandState) → HasNothing h → HasNothing (number_work numbers s h).hand
number_nothing [] s h none = none
number_nothing (ino ∷ numbers) s h none = record { blocks = none.blocks; killed = none.killed }

-- ---- ready

pub ready_knows : (block : ℕ) (s : Shared) (h : HandState) (r : Running) → AllByRecursion (λ (b : BlockValue). b.number < 2 ^ 32) h.blocks
    → IsInFile block r.call (length h.blocks) → IsPlanFor (plan_by block s h r) (numbers_of (with_bytes block s r h).blocks)
ready_knows block s h r small fits =
    subst (IsPlanFor (plan_by block s h r)) (sym (filled_numbers (fresh_pages block (copies s) r.call) h.blocks))
    (plan_fits block (copies s) (taken_by block s h r) r.call (numbers_of h.blocks)
    (runs_are (numbers_of h.blocks) (small_numbers h.blocks small))
    (subst (IsInFile block r.call) (sym (length_numbers h.blocks)) fits))

-- ---- a call that passes its check

pub passed_check : (early : Tests) (same : Bool) (tests : Tests) (numbered : Bool) (effect : List Change)
    → check_ending early same tests numbered effect ≡ None → tests ≡ passes
passed_check (Err fault) same tests numbered effect e = cc
passed_check (Ok passed) false tests numbered effect e = cc
passed_check (Ok passed) true (Err fault) numbered effect e = cc
passed_check (Ok passed) true (Ok all) numbered effect e = refl

pub wanted_in_file : (block : ℕ) (nodes : Handle → Option NodeCopy) (present : Bool) (c : Call) → 0 < block → refusal block nodes c ≡ passes
    → IsInFile block c (blocks_wanted block nodes present c)
wanted_in_file block nodes present (call.Write file offset text) some h = λ any. write_within block nodes some file offset text present _
    h refl any
wanted_in_file block nodes present (call.Size file size) some h = size_within block nodes some file size present _ h refl
wanted_in_file block nodes present other some h = tt
