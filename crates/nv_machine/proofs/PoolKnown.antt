-- What a call knows of the inodes in its slots and of a new inode's number, between its steps.
use Rattle.std.proofs.Common.{◌≡◌, ◌⊎◌, ℕ, ◌<◌, ◌≤◌, ◌==◌, ◌∙◌, Bool, true, false, List, [], ◌∷◌, Option, Some, None, ap, arith, drop, if◌then◌else◌, length, nat_lt, refl, subst, sym, take}
use Rattle.std.specs.Prelude.{◌+◌, ◌&&◌}
use Rattle.std.proofs.lemmas.Bool.{false≢true, le-ltb, ltb-false, ltb-true}
use Rattle.nv_alloc.specs.Numbers.{has}
use Rattle.nv_base.specs.declared.numbers.Handle.{Handle}
use Rattle.nv_calls.specs.declared.call.Call.{Call}
use Rattle.nv_calls.specs.declared.plan.InodePlan.{InodePlan}
use Rattle.nv_cell.specs.Cell.{log_of}
use Rattle.nv_cell.specs.Readers.{has_inode, is_gone}
use Rattle.nv_machine.specs.Hands.{makes_inode}
use Rattle.nv_machine.specs.Kinds.{entries_for}
use Rattle.nv_machine.specs.Reads.{slots_of, written_slots}
use Rattle.nv_machine.specs.Sequence.{appending, beginning, closing, locking, looking, opening, publishing, retiring}
use Rattle.nv_machine.specs.World.{Append, Check, Close, Enter, HandState, Leave, Lock, Next, Open, Publish, Ready, Retire, Running, Shared, TakeBlocks, TakeLogPages, Turn, cell_at, go_to}
use Rattle.nv_machine.proofs.StepWork.{number_work}
use Rattle.nv_machine.proofs.Lists.{drop_all, take_all}
use Rattle.nv_machine.proofs.NextSteps.{IsQuiet, Known, OnKnown}
use Rattle.nv_machine.proofs.PoolPlans.{LeavesOne, parent_of}
use Rattle.nv_machine.proofs.PoolTally.{is_begun}
use Rattle.nv_machine.proofs.LoopSteps.{by_test, either, locking_any, looking_any}
use Rattle.nv_machine.proofs.StepWays.{numbered_slots}

-- ---- what is known

-- each of these slots has an inode, but for the new one's
abbrev pub HaveInodes : Shared → Option ℕ → List ℕ → Type 0
HaveInodes s number slots = (ino : ℕ) → has slots ino ≡ true → (number ≡ Some ino) ⊎ (has_inode (cell_at s ino) ≡ true)

-- a number in the hand is the new inode's, whose slot and whose directory's are locked
pub record IsNew (n : ℕ) (c : Call) (made : Handle) (slots : List ℕ) : Type 0 where
  pub makes : makes_inode (beginning c) ≡ true
  pub is_made : made.ino ≡ n
  pub own : has slots n ≡ true
  pub above : has slots (parent_of c).ino ≡ true
  pub apart : ((parent_of c).ino == n) ≡ false

abbrev pub HasTaken : Shared → Option ℕ → Call → Handle → List ℕ → Type 0
HasTaken s number c made slots = HaveInodes s number slots × ((n : ℕ) → number ≡ Some n → IsNew n c made slots)

-- the new inode is written, and so is another
pub record IsWritten (n : ℕ) (written : List ℕ) : Type 0 where
  pub own : has written n ≡ true
  pub several : nat_lt 1 (length written) ≡ true

abbrev pub HasPlan : Shared → Option ℕ → List ℕ → List ℕ → List InodePlan → Type 0
HasPlan s number slots written plan =
    HaveInodes s number slots × ((n : ℕ) → number ≡ Some n → IsWritten n written) × LeavesOne plan

-- of what is yet to be retired an inode that is gone leaves by this commit, and none does where the hand has a number
abbrev pub IsRetiring : List ℕ → Shared → Option ℕ → Running → Type 0
IsRetiring slots s number r =
    LeavesOne r.plan
    × ((ino : ℕ) → has slots ino ≡ true → is_gone (log_of (cell_at s ino)) ≡ true → is_gone (entries_for r ino) ≡ true)
    × ((n ino : ℕ) → number ≡ Some n → has slots ino ≡ true → is_gone (entries_for r ino) ≡ true → ⊥)

-- by the step that comes next
abbrev pub Sees : Next → Shared → HandState → Running → Type 0
Sees (Lock place) s h r = r.slots ≡ slots_of s h.ino r.looked r.call
Sees Check s h r = r.slots ≡ slots_of s h.ino r.looked r.call
Sees (TakeBlocks asked) s h r = HasTaken s h.ino r.call r.made r.slots
Sees (TakeLogPages asked) s h r = HasTaken s h.ino r.call r.made r.slots
Sees Ready s h r = HasTaken s h.ino r.call r.made r.slots
Sees Enter s h r = HasPlan s h.ino r.slots (written_slots r) r.plan
Sees (Append place) s h r = HasPlan s h.ino r.slots (written_slots r) r.plan
Sees Open s h r = HasPlan s h.ino r.slots (written_slots r) r.plan
Sees (Publish place) s h r = HasPlan s h.ino r.slots (written_slots r) r.plan
Sees Close s h r = HasPlan s h.ino r.slots (written_slots r) r.plan
Sees (Retire place) s h r = IsRetiring (drop place (written_slots r)) s h.ino r
Sees other s h r = Unit {0}

abbrev pub SeesOf : Option Running → Shared → HandState → Type 0
SeesOf None s h = Unit {0}
SeesOf (Some r) s h = Sees r.next s h r

-- ---- after a turn

-- a number that is in the hand yet, whose inode has begun, after a step
abbrev pub begun_by : Next → List ℕ → ℕ → Bool
begun_by (Publish place) written n = nat_lt 1 (length written) && has (take (place + 1) written) n
begun_by other written n = false

abbrev pub none_begun : ℕ → Bool
none_begun n = false

abbrev pub SeesBy : (ℕ → Bool) → Known
SeesBy begun k s h q = Sees k s h q × ((n : ℕ) → is_begun k (written_slots q) n ≡ begun n)

abbrev pub OnSeen : (ℕ → Bool) → Turn → Type 0
OnSeen begun t = OnKnown (SeesBy begun) t

pub sees_quiet : IsQuiet (SeesBy none_begun)
sees_quiet = record {
  unlock = λ place s h r. (tt, λ n. refl);
  give = λ cpu s h r. (tt, λ n. refl);
  back = λ s h r. (tt, λ n. refl);
  look = λ s h r. (tt, λ n. refl);
  steps = λ step plain s h r. (tt, λ n. refl);
}

-- ---- before the check

pub locking_sees : (place : ℕ) (t : Shared) (h : HandState) (r : Running) → r.slots ≡ slots_of t h.ino r.looked r.call
    → SeesBy none_begun (locking place r.slots) t h (go_to (locking place r.slots) r)
locking_sees place t h r are =
    locking_any (λ (k : Next). SeesBy none_begun k t h (go_to (locking place r.slots) r)) (λ place. (are, λ n. refl)) (are, λ n. refl)
    place r.slots

pub number_sees : (numbers : List ℕ) (s : Shared) (h : HandState) (r : Running) → h.ino ≡ None
    → let q = record r { slots = numbered_slots numbers s r } in let d = number_work numbers s h in
    SeesBy none_begun (locking 0 q.slots) d.shared d.hand (go_to (locking 0 q.slots) q)
number_sees [] s h r none =
    locking_sees 0 s h (record r { slots = slots_of s None r.looked r.call })
    (ap (λ (number : Option ℕ). slots_of s number r.looked r.call) (sym none))
number_sees (ino ∷ numbers) s h r none =
    locking_sees 0 _ (record h { ino = Some ino }) (record r { slots = slots_of s (Some ino) r.looked r.call }) refl

pub looking_sees : (place : ℕ) (s : Shared) (h : HandState) (q : Running) → h.ino ≡ None → q.slots ≡ slots_of s None q.looked q.call
    → SeesBy none_begun (looking place q) s h (go_to (looking place q) q)
looking_sees place s h q none e =
    let are = e ∙ ap (λ (number : Option ℕ). slots_of s number q.looked q.call) (sym none) in
    looking_any (λ (k : Next). SeesBy none_begun k s h (go_to (looking place q) q)) (λ place. (tt, λ n. refl))
    (λ place. (are, λ n. refl)) (are, λ n. refl) place q

-- ---- along a commit

module _ (t : Shared) (h : HandState) (r : Running) where
  abbrev written : List ℕ
  written = written_slots r

  abbrev Goes : (ℕ → Bool) → Next → Type 0
  Goes begun next = Sees next t h (go_to next r) × ((n : ℕ) → is_begun next written n ≡ begun n)

  pub retiring_seen : (place : ℕ) → IsRetiring (drop place written) t h.ino r → Goes none_begun (retiring place written)
  retiring_seen place known =
      either (Goes none_begun) (nat_lt place (length written)) (Retire place) Leave (known, λ n. refl) (tt, λ n. refl)

  -- a commit of several closes, and another has published its only inode
  closing_seen : (b : Bool) → HasPlan t h.ino r.slots written r.plan → (b ≡ false → IsRetiring written t h.ino r)
      → Goes (λ n. b && has written n) (if b then Close else retiring 0 written)
  closing_seen true plan known = (plan, λ n. refl)
  closing_seen false plan known = retiring_seen 0 (known refl)

  pub publishing_seen : (place : ℕ) → HasPlan t h.ino r.slots written r.plan
      → (length written ≤ place → nat_lt 1 (length written) ≡ false → IsRetiring written t h.ino r) → 0 < place
      → Goes (λ n. nat_lt 1 (length written) && has (take place written) n) (publishing place written)
  publishing_seen place plan known some =
      by_test (Goes (λ n. nat_lt 1 (length written) && has (take place written) n)) (nat_lt place (length written)) (Publish place)
      (closing written) (λ e. (
        plan,
        λ n. (let many = single (nat_lt 1 (length written)) refl (ltb-true place (length written) e) in rw many refl),
      )) (λ e. let past = ltb-false place (length written) e in
      subst (λ (l : List ℕ). Goes (λ n. nat_lt 1 (length written) && has l n) (closing written)) (sym (take_all place written past))
      (closing_seen (nat_lt 1 (length written)) plan (known past))) where
        single : (b : Bool) → nat_lt 1 (length written) ≡ b → place < length written → b ≡ true
        single true e lt = refl
        single false e lt = absurd (omega (arith, some, lt, ltb-false 1 (length written) e))

  -- nothing is published yet
  pub beginning_seen : HasPlan t h.ino r.slots written r.plan → Goes none_begun (publishing 0 written)
  beginning_seen plan =
      by_test (Goes none_begun) (nat_lt 0 (length written)) (Publish 0) (closing written) (λ e. (plan, λ n. refl))
      (λ e. let past = ltb-false 0 (length written) e in
      let few : nat_lt 1 (length written) ≡ false = le-ltb 1 (length written) (omega (arith, past)) in
      let none : written ≡ [] = drop_all 0 written past in
      subst (λ (b : Bool). Goes none_begun (if b then Close else retiring 0 written)) (sym few)
      (retiring_seen 0 (
        plan.2,
        λ ino there. absurd (false≢true (ap (λ (l : List ℕ). has l ino) (sym none) ∙ there)),
        λ n ino is there. absurd (false≢true (ap (λ (l : List ℕ). has l ino) (sym none) ∙ there)),
      )))

  pub appending_seen : (place : ℕ) → HasPlan t h.ino r.slots written r.plan → Goes none_begun (appending place written)
  appending_seen place plan =
      either (Goes none_begun) (nat_lt place (length written)) (Append place) (opening written) (plan, λ n. refl)
      (either (Goes none_begun) (nat_lt 1 (length written)) Open (publishing 0 written) (plan, λ n. refl) (beginning_seen plan))
