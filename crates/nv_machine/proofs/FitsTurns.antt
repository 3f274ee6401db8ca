-- What a call knows between its check and its commit point is there after each step of its own.
use Rattle.std.proofs.Common.{◌≡◌, ℕ, suc, ◌+◌, ◌∙◌, false, List, [], ◌∷◌, Option, Some, None, ap, arith, length, nat_lt, refl, sym}
use Rattle.std.specs.List.{AllByRecursion}
use Rattle.std.proofs.lemmas.Bool.{ltb-false, ltb-true, true≢false}
use Rattle.nv_machine.specs.Reads.{slots_of}
use Rattle.nv_machine.specs.Sequence.{appending, closing, locking, looking, opening, publishing, retiring}
use Rattle.nv_machine.specs.World.{Append, Close, HandState, Leave, Next, Open, Publish, Retire, Running, Shared, Turn, go_to, with_numbers}
use Rattle.nv_machine.proofs.StepWork.{number_work}
use Rattle.nv_machine.proofs.FitsStages.{Drawn, FitsAt, IsStored, Passed}
use Rattle.nv_machine.proofs.NextSteps.{IsQuiet, Known, OnKnown}
use Rattle.nv_machine.proofs.LoopSteps.{by_test, either, locking_any, looking_any}
use Rattle.nv_machine.proofs.StepWays.{numbered_slots}

abbrev pub Fits : ℕ → Known
Fits block k s h r = FitsAt k block s h r

abbrev pub OnFits : ℕ → Turn → Type 0
OnFits block t = OnKnown (Fits block) t

pub fits_quiet : (block : ℕ) → IsQuiet (Fits block)
fits_quiet block = record {
  unlock = λ place s h r. tt;
  give = λ cpu s h r. tt;
  back = λ s h r. tt;
  look = λ s h r. tt;
  steps = λ step plain s h r. tt;
}

module _ (block : ℕ) where
  -- ---- before the check

  pub locking_fits : (place : ℕ) (slots : List ℕ) (s : Shared) (h : HandState) (r : Running) → r.slots ≡ slots_of s h.ino r.looked r.call
      → FitsAt (locking place slots) block s h r
  locking_fits place slots s h r e = locking_any (λ (k : Next). FitsAt k block s h r) (λ place. e) e place slots

  pub number_fits : (numbers : List ℕ) (s : Shared) (h : HandState) (r : Running) → h.ino ≡ None
      → let q = record r { slots = numbered_slots numbers s r } in let d = number_work numbers s h in
      FitsAt (locking 0 q.slots) block d.shared d.hand (go_to (locking 0 q.slots) q)
  number_fits [] s h r none =
      let slots = slots_of s None r.looked r.call in
      locking_fits 0 slots s h (record r { slots = slots; next = locking 0 slots })
      (ap (λ (o : Option ℕ). slots_of s o r.looked r.call) (sym none))
  number_fits (ino ∷ numbers) s h r none =
      let slots = slots_of s (Some ino) r.looked r.call in
      locking_fits 0 slots (with_numbers numbers s) (record h { ino = Some ino }) (record r { slots = slots; next = locking 0 slots }) refl

  pub looking_fits : (place : ℕ) (s : Shared) (h : HandState) (q : Running) → h.ino ≡ None → q.slots ≡ slots_of s None q.looked q.call
      → FitsAt (looking place q) block s h (go_to (looking place q) q)
  looking_fits place s h q none e =
      let are = e ∙ ap (λ (o : Option ℕ). slots_of s o q.looked q.call) (sym none) in
      looking_any (λ (k : Next). FitsAt k block s h (go_to (looking place q) q)) (λ place. tt) (λ place. are) are place q

  -- ---- the steps of a commit

  pub retiring_fits : (place : ℕ) (written : List ℕ) (s : Shared) (h : HandState) (r : Running)
      → FitsAt (retiring place written) block s h r
  retiring_fits place written s h r =
      either (λ (k : Next). FitsAt k block s h r) (nat_lt place (length written)) (Retire place) Leave tt tt

  module _ (t : Shared) (h : HandState) (r : Running) (p : Passed block t r) where
    abbrev Stored : Type 0
    Stored = Drawn block t r (AllByRecursion (IsStored t r.slots))

    abbrev At : Next → Type 0
    At k = FitsAt k block t h r

    pub publishing_fits : (place : ℕ) (written : List ℕ) → Stored → FitsAt (publishing place written) block t h r
    publishing_fits place written d =
        either At (nat_lt place (length written)) (Publish place) (closing written) (p, d)
        (either At (nat_lt 1 (length written)) Close (retiring 0 written) (p, d) (retiring_fits 0 written t h r))

    opening_fits : (written : List ℕ) → Stored → FitsAt (opening written) block t h r
    opening_fits written d =
        either At (nat_lt 1 (length written)) Open (publishing 0 written) (p, d) (publishing_fits 0 written d)

    pub appending_fits : (place : ℕ) (written : List ℕ) → Stored → FitsAt (appending (suc place) written) block t h r
    appending_fits place written d =
        either At (nat_lt (suc place) (length written)) (Append (suc place)) (opening written)
        (p, record { fresh = d.fresh; drawn = d.drawn; at = d.at }) (opening_fits written d)

    -- a commit that writes nothing has no append
    pub entering_fits : (written : List ℕ) → Drawn block t r (λ fresh. h.blocks ≡ fresh) → FitsAt (appending 0 written) block t h r
    entering_fits [] d = tt
    entering_fits (slot ∷ written) d =
        by_test At (nat_lt 0 (length (slot ∷ written))) (Append 0) (opening (slot ∷ written))
        (λ e. (p, record { fresh = d.fresh; drawn = d.drawn; at = d.at }))
        (λ e. absurd (omega (arith, ltb-false 0 (length (slot ∷ written)) e)))

  -- a publish that is the commit point is the last
  pub single_fits : (place : ℕ) (written : List ℕ) (t : Shared) (h : HandState) (r : Running) → nat_lt 1 (length written) ≡ false
      → FitsAt (publishing (place + 1) written) block t h r
  single_fits place written t h r one =
      by_test (λ (k : Next). FitsAt k block t h r) (nat_lt (place + 1) (length written)) (Publish (place + 1)) (closing written)
      (λ e. absurd (omega (arith, ltb-true (place + 1) (length written) e, ltb-false 1 (length written) one)))
      (λ e. by_test (λ (k : Next). FitsAt k block t h r) (nat_lt 1 (length written)) Close (retiring 0 written) (λ several. absurd (true≢false (sym several ∙ one)))
      (λ few. retiring_fits 0 written t h r))
