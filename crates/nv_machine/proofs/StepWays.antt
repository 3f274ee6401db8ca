-- EVERY WAY THAT A STEP CAN GO: what a law says of each, of steps of calls on files and directories.
use Rattle.std.proofs.Common.{◌≡◌, ◌∙◌, ℕ, zero, suc, ◌+◌, ◌-◌, Bool, true, false, List, [], ◌∷◌, Option, Some, None, ◌++◌, ap, arith, ◌<◌, length, length-append, length-take, nat_lt, refl, subst, sym, take}
use Rattle.std.specs.Prelude.{Result, Ok, Err, is_some, nat_le}
use Rattle.std.proofs.lemmas.Bool.{false≢true, true≢false}
use Rattle.nv_alloc.specs.Block.{BlockValue}
use Rattle.nv_base.specs.declared.fault.Fault.{Fault}
use Rattle.nv_base.specs.declared.fault.Fault.TheVariants.{Contended, NoSpace}
use Rattle.nv_base.specs.declared.limits.TheConstants.{NUMBER}
use Rattle.nv_calls.specs.AllCalls.{answer, blocks_wanted, look_refusal, looked}
use Rattle.nv_calls.specs.Locked.{handles}
use Rattle.nv_calls.specs.declared.answer.Answer.{Answer}
use Rattle.nv_epoch.specs.SnapList.{pins_of}
use Rattle.nv_machine.specs.Kinds.{again_turn, asked_list, blocks_in, drained_turn, end_turn, last_turn, look_tests, over_turn, rest_turn, result_by, seen_at}
use Rattle.nv_machine.specs.Reads.{copies, has_last_page, home_from, nodes, pages_wanted, plan_by, slot_at, slots_of}
use Rattle.nv_machine.specs.Sequence.{directories, nothing_looked, sequel}
use Rattle.nv_machine.specs.SnapshotOrCleaner.{drop_tests, make_tests, visited}
use Rattle.nv_machine.specs.Step.{ending_at, handle_at, with_made}
use Rattle.nv_machine.specs.World.{Answers, ReturnNumber, Check, Compact, Draining, Drains, Drop, Ending, Ends, Enter, Fresh, Give, HandState, PlanCleaning, Leave, Lock, LockCleaned, LockPicked, Look, Make, Moves, Next, Number, BoundAnew, Pick, Pin, Ready, Refuses, Release, Running, Shared, Show, SnapshotOrCleanerStep, SnapshotOrCleaner, TakeBlocks, TakeLogPages, Turn, Unlink, Unlock, Unpin, Visit, Waits, go_to, list_at, owner_at, Cleans}
use Rattle.nv_machine.proofs.StepWork.{work}
use Rattle.nv_machine.proofs.LoopSteps.{goes_on}

-- ---- what a law says of a turn: of one that moves on, and of one that ends its call

abbrev pub Going : Type 1
Going = Shared → HandState → Running → Type 0

abbrev pub Telling : Type 1
Telling = Result Answer Fault → Shared → HandState → Type 0

-- and of one that waits
abbrev pub AfterBy : Type 0 → Going → Telling → Turn → Type 0
AfterBy W P E (Moves s h r) = P s h r
AfterBy W P E Waits = W
AfterBy W P E (Ends x s h) = E x s h

abbrev pub After : Going → Telling → Turn → Type 0
After P E t = AfterBy (Unit {0}) P E t

-- ---- which way each kind may go

-- it turns to the last steps, or is one of them
abbrev pub is_over : Next → Bool
is_over Leave = true
is_over (Unlock place) = true
is_over (Give cpu) = true
is_over ReturnNumber = true
is_over other = false

abbrev pub is_last : Next → Bool
is_last (Unlock place) = true
is_last (Give cpu) = true
is_last ReturnNumber = true
is_last other = false

-- a taking may come next
abbrev pub is_taker : Next → Bool
is_taker Check = true
is_taker (TakeBlocks asked) = true
is_taker (TakeLogPages asked) = true
is_taker other = false

abbrev pub is_taking : Next → Bool
is_taking (TakeBlocks asked) = true
is_taking (TakeLogPages asked) = true
is_taking Ready = true
is_taking other = false

abbrev pub is_list_taker : Next → Bool
is_list_taker (TakeBlocks asked) = true
is_list_taker (TakeLogPages asked) = true
is_list_taker other = false

module _ (P : Next → Type 0) where
  pub by_last : ((place : ℕ) → P (Unlock place)) → ((cpu : ℕ) → P (Give cpu)) → P ReturnNumber → (k : Next) → is_last k ≡ true → P k
  by_last unlock give back (Unlock place) is = unlock place
  by_last unlock give back (Give cpu) is = give cpu
  by_last unlock give back ReturnNumber is = back
  by_last unlock give back other is = absurd (false≢true is)

  pub by_taking : ((asked : ℕ) → P (TakeBlocks asked)) → ((asked : ℕ) → P (TakeLogPages asked)) → P Ready → (k : Next)
      → is_taking k ≡ true → P k
  by_taking blocks pages ready (TakeBlocks asked) is = blocks asked
  by_taking blocks pages ready (TakeLogPages asked) is = pages asked
  by_taking blocks pages ready Ready is = ready
  by_taking blocks pages ready other is = absurd (false≢true is)

-- A CALL TURNS TO ITS LAST STEPS with this ending: to one of them, it is told, it looks its names up again, or it picks the
-- next record
pub record Closes (P : Going) (E : Telling) (s : Shared) (h : HandState) (r : Running) (e : Ending) : Type 0 where
  pub last : (k : Next) → is_last k ≡ true → P s h (record r { ending = e; next = k })
  pub told : E (result_by e r) s h
  pub again : (n : ℕ) → e ≡ BoundAnew → r.rounds ≡ suc n → P s h (record r { ending = Answers; rounds = n; next = Look 0 })
  pub picks : (d : Draining) (left : ℕ) → e ≡ Drains d → d.left ≡ suc left
      → P s h (record r { ending = Answers; slots = []; next = SnapshotOrCleaner (Pick (record { released = d.released; left = left })) })

abbrev pub numbered_slots : List ℕ → Shared → Running → List ℕ
numbered_slots [] s r = slots_of s None r.looked r.call
numbered_slots (ino ∷ numbers) s r = slots_of s (Some ino) r.looked r.call

-- what a kind notes in its call where it does its work, and where it stops before
abbrev pub noted : Next → ℕ → Shared → HandState → Running → Running
noted Number block s h r = record r { slots = numbered_slots s.pool.numbers s r }
noted (Look place) block s h r =
    let found = seen_at (directories r.call) place (looked (copies s) r.call) r.looked in
    record r { looked = found; slots = slots_of s None found r.call }
noted Check block s h r = with_made s h r
noted Ready block s h r = record r { plan = plan_by block s h r }
noted Enter block s h r = record r { commit = s.book.commit + 1; epoch = s.book.snaps.epoch }
noted other block s h r = r

pub noted_ending : (k : Next) (block : ℕ) (s : Shared) (h : HandState) (r : Running) → (noted k block s h r).ending ≡ r.ending
noted_ending Number block s h r = refl
noted_ending other block s h r = refl

abbrev pub stopped : Next → Shared → HandState → Running → Running
stopped Check s h r = with_made s h r
stopped other s h r = r

-- how it may stop: by a fault, and a check also as it decides
abbrev pub may_refuse : Next → Bool
may_refuse (Look place) = true
may_refuse Check = true
may_refuse Ready = true
may_refuse Enter = true
may_refuse Visit = true
may_refuse other = false

abbrev pub StopsBy : Next → ℕ → Shared → HandState → Running → Ending → Type 0
StopsBy k block s h r (Refuses fault) = may_refuse k ≡ true
StopsBy Check block s h r e = ending_at block s h r ≡ Some e
StopsBy k block s h r e = ⊥

pub never_stops : (k : Next) (block : ℕ) (s : Shared) (h : HandState) (r : Running) (e : Ending) → may_refuse k ≡ false
    → StopsBy k block s h r e → ⊥
never_stops k block s h r (Refuses fault) none by = true≢false (sym by ∙ none)
never_stops Check block s h r e none by = true≢false none
never_stops other block s h r e none by = by

-- nothing stops a step: no other actor has what it needs, and it passes its tests
abbrev pub IsClearOn : SnapshotOrCleanerStep → Shared → Type 0
IsClearOn Make s = (s.holder ≡ None) × (make_tests s.book.snaps ≡ Ok tt)
IsClearOn (Drop snapshot) s = (s.holder ≡ None) × (drop_tests (pins_of s.book.snaps snapshot) ≡ Ok tt)
IsClearOn (Pin snapshot) s = (s.holder ≡ None) × (is_some (pins_of s.book.snaps snapshot) ≡ true)
IsClearOn (Show snapshot showing) s = owner_at s (visited showing.visits).ino ≡ None
IsClearOn (Unpin snapshot seen) s = (s.holder ≡ None) × Unit {0}
IsClearOn (Pick draining) s = (s.holder ≡ None) × (0 < length s.book.deferred)
IsClearOn (LockPicked draining picked) s = owner_at s picked.ino ≡ None
IsClearOn (Release draining picked) s = Unit {0}
IsClearOn (LockCleaned manner ino) s = owner_at s ino ≡ None
IsClearOn (PlanCleaning manner slot) s = Unit {0}
IsClearOn (Fresh ino asked wanted) s = Unit {0}
IsClearOn (Unlink ino) s = Unit {0}
IsClearOn (Compact ino) s = Unit {0}

abbrev pub IsClear : Next → Shared → Running → Type 0
IsClear (Look place) s r =
    (owner_at s (handle_at (directories r.call) place).ino ≡ None) × (look_tests place (look_refusal (copies s) r.call) ≡ Ok tt)
IsClear (Lock place) s r = owner_at s (slot_at r.slots place) ≡ None
IsClear Enter s r = (s.holder ≡ None) × (nat_le NUMBER s.book.commit ≡ false)
IsClear Visit s r = owner_at s (handle_at (handles nothing_looked r.call) 0).ino ≡ None
IsClear (SnapshotOrCleaner step) s r = IsClearOn step s
IsClear other s r = Unit {0}

-- or it waits: another has what it needs
abbrev pub IsHeld : Option ℕ → Type 0
IsHeld owner = (other : ℕ) × (owner ≡ Some other)

abbrev pub IsBlockedOn : SnapshotOrCleanerStep → Shared → Type 0
IsBlockedOn (Show snapshot showing) s = IsHeld (owner_at s (visited showing.visits).ino)
IsBlockedOn (LockPicked draining picked) s = IsHeld (owner_at s picked.ino)
IsBlockedOn (Release draining picked) s = ⊥
IsBlockedOn (LockCleaned manner ino) s = IsHeld (owner_at s ino)
IsBlockedOn (PlanCleaning manner slot) s = ⊥
IsBlockedOn (Fresh ino asked wanted) s = ⊥
IsBlockedOn (Unlink ino) s = ⊥
IsBlockedOn (Compact ino) s = ⊥
IsBlockedOn other s = IsHeld s.holder

abbrev pub IsBlocked : Next → Shared → Running → Type 0
IsBlocked (Look place) s r = IsHeld (owner_at s (handle_at (directories r.call) place).ino)
IsBlocked (Lock place) s r = IsHeld (owner_at s (slot_at r.slots place))
IsBlocked Enter s r = IsHeld s.holder
IsBlocked Visit s r = IsHeld (owner_at s (handle_at (handles nothing_looked r.call) 0).ino)
IsBlocked (SnapshotOrCleaner step) s r = IsBlockedOn step s
IsBlocked other s r = ⊥

-- WHAT A LAW SAYS OF A KIND of a call on files and directories: of one that stops before its work, and behind its work of
-- one that goes on in the sequence, that takes, that turns to its last steps, that lacks blocks, and of a visit that is told
pub record Ways (P : Going) (E : Telling) (k : Next) (block a : ℕ) (s : Shared) (h : HandState) (r : Running) : Type 0 where
  pub stops : (e : Ending) → StopsBy k block s h r e → Closes P E s h (stopped k s h r) e
  pub goes : goes_on k ≡ true → IsClear k s r
      → P (work k block a s h r).shared (work k block a s h r).hand (go_to (sequel (noted k block s h r) k) (noted k block s h r))
  pub takes : is_taker k ≡ true → (n : ℕ) (next : Next) → is_taking next ≡ true
      → P (work k block a s h r).shared (work k block a s h r).hand (record (noted k block s h r) { wanted = n; next = next })
  pub over : is_over k ≡ true → Closes P E (work k block a s h r).shared (work k block a s h r).hand r r.ending
  pub short : is_list_taker k ≡ true → Closes P E (work k block a s h r).shared (work k block a s h r).hand r (Refuses NoSpace)
  pub told : k ≡ Visit → IsClear k s r → E (Ok (answer (nodes s) r.made r.call)) s h

-- ---- the last steps, with what is known at each

abbrev pub is_overtaken : Ending → Bool
is_overtaken BoundAnew = true
is_overtaken other = false

abbrev pub is_drain : Ending → Bool
is_drain (Drains draining) = true
is_drain other = false

-- of a call on snapshots or of a cleaner
abbrev pub is_maintained : Ending → Bool
is_maintained (Drains draining) = true
is_maintained (Cleans cleaned) = true
is_maintained other = false

-- no drain, or one that has released its number
abbrev pub IsFull : Ending → Type 0
IsFull e = (d : Draining) → e ≡ Drains d → d.left ≡ 0

-- nothing is locked, and nothing in the hand: the call is told, or picks the next record
pub record Lasts (P : Going) (E : Telling) (s : Shared) (h : HandState) (r : Running) (e : Ending) : Type 0 where
  pub told : IsFull e → E (result_by e r) s h
  pub picks : (d : Draining) (left : ℕ) → e ≡ Drains d → d.left ≡ suc left
      → P s h (record r { ending = Answers; slots = []; next = SnapshotOrCleaner (Pick (record { released = d.released; left = left })) })

-- nothing is locked: blocks are at home on a CPU, or none are and a number is in the hand, or nothing is
pub record Rests (P : Going) (E : Telling) (home : Option ℕ) (s : Shared) (h : HandState) (r : Running) (e : Ending) : Type 0 where
  pub give : (cpu : ℕ) → home ≡ Some cpu → P s h (record r { ending = e; next = Give cpu })
  pub back : (ino : ℕ) → home ≡ None → h.ino ≡ Some ino → P s h (record r { ending = e; next = ReturnNumber })
  pub lasts : home ≡ None → h.ino ≡ None → Lasts P E s h r e

pub record Overs (P : Going) (E : Telling) (s : Shared) (h : HandState) (r : Running) (e : Ending) : Type 0 where
  pub again : (n : ℕ) → e ≡ BoundAnew → r.rounds ≡ suc n → P s h (record r { ending = Answers; rounds = n; next = Look 0 })
  pub contended : e ≡ BoundAnew → r.rounds ≡ 0 → E (Err Contended) s h
  pub rests : is_overtaken e ≡ false → Rests P E (home_from 0 0 s.lists (blocks_in h)) s h r e

-- with these slots locked
pub record EndsBy (P : Going) (E : Telling) (slots : List ℕ) (s : Shared) (h : HandState) (r : Running) (e : Ending) : Type 0 where
  pub unlock : 0 < length slots → P s h (record r { ending = e; next = Unlock 0 })
  pub overs : slots ≡ [] → Overs P E s h r e

module _ (W : Type 0) (P : Going) (E : Telling) (s : Shared) (h : HandState) (r : Running) (e : Ending) where
  pub last_goes : (x : Ending) → e ≡ x → Lasts P E s h r e → AfterBy W P E (last_turn x s h (record r { ending = e }))
  last_goes (Drains d) is c = go d.left refl where
    same_left : (other : Draining) → Drains d ≡ Drains other → other.left ≡ d.left
    same_left other same = cc

    go : (left : ℕ) → d.left ≡ left → AfterBy W P E (drained_turn left d.released s h (record r { ending = e }))
    go zero q = subst (λ (y : Ending). E (result_by y r) s h) is (c.told (λ other same. same_left other (sym is ∙ same) ∙ q))
    go (suc left) q = c.picks d left is q
  last_goes other is c =
      subst (λ (y : Ending). E (result_by y r) s h) is (c.told (λ d same. absurd (false≢true (ap is_drain (sym is ∙ same)))))

  pub rest_goes : (home number : Option ℕ) → h.ino ≡ number → Rests P E home s h r e
      → AfterBy W P E (rest_turn home number s h (record r { ending = e }))
  rest_goes (Some cpu) number is c = c.give cpu refl
  rest_goes None (Some ino) is c = c.back ino refl is
  rest_goes None None is c = last_goes e refl (c.lasts refl is)

  pub over_goes : (x : Ending) → e ≡ x → Overs P E s h r e → AfterBy W P E (over_turn x s h (record r { ending = e }))
  over_goes BoundAnew is c = go r.rounds refl where
    go : (n : ℕ) → r.rounds ≡ n → AfterBy W P E (again_turn n s h (record r { ending = e }))
    go zero q = c.contended is q
    go (suc n) q = c.again n is q
  over_goes other is c = rest_goes _ h.ino refl (c.rests (ap is_overtaken is))

  pub ends_go : (slots : List ℕ) → EndsBy P E slots s h r e → AfterBy W P E (end_turn slots e s h r)
  ends_go [] c = over_goes e refl (c.overs refl)
  ends_go (slot ∷ slots) c = c.unlock (omega arith)

-- with nothing of that known
module _ {P : Going} {E : Telling} {s : Shared} {h : HandState} {r : Running} {e : Ending} where
  pub any_lasts : Closes P E s h r e → Lasts P E s h r e
  any_lasts c = record { told = λ full. c.told; picks = c.picks }

  pub any_rests : {home : Option ℕ} → Closes P E s h r e → Rests P E home s h r e
  any_rests c = record { give = λ cpu is. c.last (Give cpu) refl; back = λ ino none is. c.last ReturnNumber refl; lasts = λ none is. any_lasts c }

  pub any_overs : Closes P E s h r e → Overs P E s h r e
  any_overs c = record {
    again = c.again;
    contended = λ is none. subst (λ (y : Ending). E (result_by y r) s h) is c.told;
    rests = λ is. any_rests c;
  }

  pub any_ends : {slots : List ℕ} → Closes P E s h r e → EndsBy P E slots s h r e
  any_ends c = record { unlock = λ some. c.last (Unlock 0) refl; overs = λ none. any_overs c }

pub end_goes : (P : Going) (E : Telling) (s : Shared) (h : HandState) (r : Running) (e : Ending) → Closes P E s h r e → (slots : List ℕ)
    → After P E (end_turn slots e s h r)
end_goes P E s h r e c slots = ends_go (Unit {0}) P E s h r e slots (any_ends c)

-- ---- what a check or a taking leaves to take

-- so many are wanted behind it: of a check blocks, and of a taking what its list lacked
abbrev pub wanted_yet : Next → ℕ → ℕ → Shared → Running → ℕ
wanted_yet Check block a s r = blocks_wanted block (copies s) (has_last_page block s r.call) r.call
wanted_yet (TakeBlocks asked) block a s r = r.wanted - length (list_at s (asked_list (length s.lists) a asked)).blocks
wanted_yet (TakeLogPages asked) block a s r = r.wanted - length (list_at s (asked_list (length s.lists) a asked)).blocks
wanted_yet other block a s r = 0

-- and so many log pages, where no more blocks are wanted
abbrev pub pages_yet : Next → ℕ → ℕ → Shared → HandState → Running → ℕ
pages_yet Check block a s h r = pages_wanted s r.slots (plan_by block s h (with_made s h r))
pages_yet (TakeBlocks asked) block a s h r =
    let d = work (TakeBlocks asked) block a s h r in pages_wanted d.shared r.slots (plan_by block d.shared d.hand r)
pages_yet other block a s h r = 0

-- the list that is asked then, and whether there is one
abbrev pub asks_on : Next → Next
asks_on Check = TakeBlocks 0
asks_on (TakeBlocks asked) = TakeBlocks (asked + 1)
asks_on (TakeLogPages asked) = TakeLogPages (asked + 1)
asks_on other = other

abbrev pub may_ask : Next → Shared → Bool
may_ask (TakeBlocks asked) s = nat_lt (asked + 1) (length s.lists)
may_ask (TakeLogPages asked) s = nat_lt (asked + 1) (length s.lists)
may_ask other s = true

-- what is taken and what is wanted yet are what was wanted
pub take_sum : (had taken : List BlockValue) (wanted : ℕ)
    → length (had ++ take wanted taken) + (wanted - length taken) ≡ length had + wanted
take_sum had taken wanted = omega (arith, length-append had (take wanted taken), length-take wanted taken)

pub record Takes (P : Going) (k : Next) (block a : ℕ) (s : Shared) (h : HandState) (r : Running) : Type 0 where
  pub more : (n : ℕ) → wanted_yet k block a s r ≡ suc n → may_ask k s ≡ true
      → P (work k block a s h r).shared (work k block a s h r).hand (record (noted k block s h r) { wanted = suc n; next = asks_on k })
  pub pages : (n : ℕ) → wanted_yet k block a s r ≡ 0 → pages_yet k block a s h r ≡ suc n
      → P (work k block a s h r).shared (work k block a s h r).hand (record (noted k block s h r) { wanted = suc n; next = TakeLogPages 0 })
  pub ready : wanted_yet k block a s r ≡ 0 → pages_yet k block a s h r ≡ 0
      → P (work k block a s h r).shared (work k block a s h r).hand (record (noted k block s h r) { wanted = 0; next = Ready })
