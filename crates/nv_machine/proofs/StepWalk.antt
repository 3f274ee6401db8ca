-- EVERY STEP OF A CALL ON FILES AND DIRECTORIES, walked once for all laws: a law that says what it wants of each way
-- (`Ways`) gets it of the turn.
use Rattle.std.proofs.Common.{◌≡◌, ℕ, zero, suc, ◌+◌, ◌||◌, not, Bool, true, false, List, [], ◌∷◌, Option, Some, None, arith, length, nat_lt, refl, subst}
use Rattle.std.specs.Prelude.{Ok, Err, nat_le}
use Rattle.std.proofs.lemmas.Bool.{false≢true}
use Rattle.nv_base.specs.declared.fault.Fault.{Fault}
use Rattle.nv_base.specs.declared.fault.Fault.TheVariants.{CommitLimit, NoSpace}
use Rattle.nv_base.specs.Memory.{out_of_memory}
use Rattle.nv_base.specs.declared.limits.TheConstants.{NUMBER}
use Rattle.nv_calls.specs.AllCalls.{answer, look_refusal, looked, refusal}
use Rattle.nv_calls.specs.Locked.{handles}
use Rattle.nv_calls.specs.Refusals.{Check as Tests}
use Rattle.nv_machine.specs.Kinds.{return_number_turn, blocks_in, blocks_turn, check_turn, end_turn, enter_turn, given, grown, lock_turn, look_tests, look_turn, number_turn, pages_turn, seen_at, unlocked_turn, visit_turn, wants_blocks, wants_pages, with_given}
use Rattle.nv_machine.specs.Reads.{copies, home_from, nodes, slot_at}
use Rattle.nv_machine.specs.Sequence.{directories, nothing_looked, sequel}
use Rattle.nv_machine.specs.Step.{check_grows, ending_at, handle_at, kind_turn, visit_grows, with_made}
use Rattle.nv_machine.specs.World.{Answers, ReturnNumber, Check, Cleans, Drains, Ending, Ends, Enter, Give, HandState, Leave, Lock, Look, Next, Number, BoundAnew, Ready, Refuses, Running, Shared, SnapshotOrCleaner, TakeBlocks, TakeLogPages, Turn, Unlock, Visit, go_to, owner_at}
use Rattle.nv_machine.proofs.StepWork.{return_number_work, work, number_work}
use Rattle.nv_machine.proofs.LoopSteps.{is_on_files}
use Rattle.nv_machine.proofs.StepWays.{After, AfterBy, Closes, EndsBy, Going, IsBlocked, IsClear, Lasts, Overs, Rests, StopsBy, Takes, Telling, Ways, any_ends, any_lasts, any_overs, any_rests, asks_on, ends_go, is_last, is_taking, last_goes, may_ask, noted, numbered_slots, over_goes, pages_yet, rest_goes, wanted_yet}

-- ---- the kinds

-- behind its work a step goes on in the sequence
abbrev pub Works : Going → Next → ℕ → ℕ → Shared → HandState → Running → Type 0
Works P k block a s h r =
    P (work k block a s h r).shared (work k block a s h r).hand (go_to (sequel (noted k block s h r) k) (noted k block s h r))

-- it stops before its work, by this fault
abbrev pub Denies : Going → Telling → Shared → HandState → Running → Fault → Type 0
Denies P E s h r fault = EndsBy P E r.slots s h r (Refuses fault)

-- EVERY WAY OF A KIND of a call on files and directories, with what is known there
abbrev pub WaysOf : Going → Telling → Next → ℕ → ℕ → Bool → Shared → HandState → Running → Type 0
WaysOf P E (Look place) block a granted s h r =
    ((fault : Fault) → owner_at s (handle_at (directories r.call) place).ino ≡ None
    → look_tests place (look_refusal (copies s) r.call) ≡ Err fault → EndsBy P E [] s h r (Refuses fault))
    × (IsClear (Look place) s r → Works P (Look place) block a s h r)
WaysOf P E (Lock place) block a granted s h r = IsClear (Lock place) s r → Works P (Lock place) block a s h r
WaysOf P E Check block a granted s h r =
    ((e : Ending) → ending_at block s h r ≡ Some e → EndsBy P E r.slots s h (with_made s h r) e)
    × (ending_at block s h r ≡ None → (granted || not (check_grows block s h r)) ≡ false → Denies P E s h (with_made s h r) out_of_memory)
    × (ending_at block s h r ≡ None → Takes P Check block a s h r)
WaysOf P E (TakeBlocks asked) block a granted s h r =
    Takes P (TakeBlocks asked) block a s h r
    × ((n : ℕ) → wanted_yet (TakeBlocks asked) block a s r ≡ suc n → may_ask (TakeBlocks asked) s ≡ false
    → Denies P E (work (TakeBlocks asked) block a s h r).shared (work (TakeBlocks asked) block a s h r).hand r NoSpace)
WaysOf P E (TakeLogPages asked) block a granted s h r =
    Takes P (TakeLogPages asked) block a s h r
    × ((n : ℕ) → wanted_yet (TakeLogPages asked) block a s r ≡ suc n → may_ask (TakeLogPages asked) s ≡ false
    → Denies P E (work (TakeLogPages asked) block a s h r).shared (work (TakeLogPages asked) block a s h r).hand r NoSpace)
WaysOf P E Ready block a granted s h r = (granted ≡ false → Denies P E s h r out_of_memory) × Works P Ready block a s h r
WaysOf P E Enter block a granted s h r =
    (s.holder ≡ None → nat_le NUMBER s.book.commit ≡ true → Denies P E s h r CommitLimit)
    × (IsClear Enter s r → granted ≡ false → Denies P E s h r out_of_memory)
    × (IsClear Enter s r → Works P Enter block a s h r)
WaysOf P E Leave block a granted s h r = EndsBy P E r.slots (work Leave block a s h r).shared h r r.ending
WaysOf P E (Unlock place) block a granted s h r =
    (nat_lt (place + 1) (length r.slots) ≡ true → P (work (Unlock place) block a s h r).shared h (go_to (Unlock (place + 1)) r))
    × (nat_lt (place + 1) (length r.slots) ≡ false → Overs P E (work (Unlock place) block a s h r).shared h r r.ending)
WaysOf P E (Give cpu) block a granted s h r =
    Rests P E (home_from (cpu + 1) 0 s.lists (blocks_in (given cpu s h))) (with_given cpu h s) (given cpu s h) r r.ending
WaysOf P E ReturnNumber block a granted s h r = Lasts P E (return_number_work h.ino s h).shared (return_number_work h.ino s h).hand r r.ending
WaysOf P E Visit block a granted s h r =
    ((fault : Fault) → IsClear Visit s r → refusal block (copies s) r.call ≡ Err fault → Denies P E s h r fault)
    × (IsClear Visit s r → refusal block (copies s) r.call ≡ Ok tt → (granted || not (visit_grows r.call)) ≡ false
    → Denies P E s h r out_of_memory)
    × (IsClear Visit s r → refusal block (copies s) r.call ≡ Ok tt → E (Ok (answer (nodes s) r.made r.call)) s h)
WaysOf P E (SnapshotOrCleaner step) block a granted s h r = Unit {0}
WaysOf P E other block a granted s h r = Works P other block a s h r

module _ (W : Type 0) (P : Going) (E : Telling) where
  pub refused_goes : (fault : Fault) (s : Shared) (h : HandState) (r : Running) → Denies P E s h r fault
      → AfterBy W P E (end_turn r.slots (Refuses fault) s h r)
  refused_goes fault s h r c = ends_go W P E s h r (Refuses fault) r.slots c

  pub grown_goes : (granted : Bool) (t : Turn) (s : Shared) (h : HandState) (r : Running)
      → (granted ≡ false → Denies P E s h r out_of_memory) → AfterBy W P E t → AfterBy W P E (grown granted t s h r)
  grown_goes true t s h r c on = on
  grown_goes false t s h r c on = refused_goes out_of_memory s h r (c refl)

module _ (W : Type 0) (P : Going) (E : Telling) (block a : ℕ) (s : Shared) (h : HandState) (r : Running) where
  number_goes : (numbers : List ℕ)
      → (let q = record r { slots = numbered_slots numbers s r } in
      P (number_work numbers s h).shared (number_work numbers s h).hand (go_to (sequel q Number) q))
      → AfterBy W P E (number_turn numbers s h r)
  number_goes [] p = p
  number_goes (ino ∷ numbers) p = p

  look_goes : (owner : Option ℕ) (tests : Tests) (place : ℕ) (granted : Bool)
      → owner_at s (handle_at (directories r.call) place).ino ≡ owner → look_tests place (look_refusal (copies s) r.call) ≡ tests
      → (IsBlocked (Look place) s r → W) → WaysOf P E (Look place) block a granted s h r
      → AfterBy W P E (look_turn owner tests (seen_at (directories r.call) place (looked (copies s) r.call) r.looked) place s h r)
  look_goes (Some other) tests place granted free passed wait w = wait (other, free)
  look_goes None (Err fault) place granted free passed wait w = ends_go W P E s h r (Refuses fault) [] (w.0 fault free passed)
  look_goes None (Ok tt) place granted free passed wait w = w.1 (free, passed)

  lock_goes : (owner : Option ℕ) (place : ℕ) → owner_at s (slot_at r.slots place) ≡ owner
      → (IsBlocked (Lock place) s r → W) → (IsClear (Lock place) s r → Works P (Lock place) block a s h r)
      → AfterBy W P E (lock_turn owner a place s h r)
  lock_goes (Some other) place free wait w = wait (other, free)
  lock_goes None place free wait w = w free

  check_goes : (x : Option Ending) (granted : Bool) → ending_at block s h r ≡ x → WaysOf P E Check block a granted s h r
      → AfterBy W P E (check_turn x granted (wanted_yet Check block a s r) block s h (with_made s h r))
  check_goes (Some e) granted is w = ends_go W P E s h (with_made s h r) e r.slots (w.0 e is)
  check_goes None granted is w =
      grown_goes W P E (granted || not (check_grows block s h r)) _ s h (with_made s h r) (w.1 is) (go (wanted_yet Check block a s r) refl) where
        pages : (n : ℕ) → wanted_yet Check block a s r ≡ 0 → pages_yet Check block a s h r ≡ n
            → AfterBy W P E (wants_pages n s h (with_made s h r))
        pages zero none q = (w.2 is).ready none q
        pages (suc n) none q = (w.2 is).pages n none q

        go : (n : ℕ) → wanted_yet Check block a s r ≡ n → AfterBy W P E (wants_blocks n block s h (with_made s h r))
        go zero q = pages _ q refl
        go (suc n) q = (w.2 is).more n q refl

  blocks_goes : (n : ℕ) (more : Bool) (asked : ℕ) (granted : Bool) → wanted_yet (TakeBlocks asked) block a s r ≡ n
      → may_ask (TakeBlocks asked) s ≡ more → WaysOf P E (TakeBlocks asked) block a granted s h r
      → let d = work (TakeBlocks asked) block a s h r in AfterBy W P E (blocks_turn n more asked block d.shared d.hand r)
  blocks_goes zero more asked granted q m w = pages _ refl where
    pages : (n : ℕ) → pages_yet (TakeBlocks asked) block a s h r ≡ n
        → let d = work (TakeBlocks asked) block a s h r in AfterBy W P E (wants_pages n d.shared d.hand r)
    pages zero e = w.0.ready q e
    pages (suc n) e = w.0.pages n q e
  blocks_goes (suc n) true asked granted q m w = w.0.more n q m
  blocks_goes (suc n) false asked granted q m w = refused_goes W P E NoSpace _ _ r (w.1 n q m)

  taken_goes : (n : ℕ) (more : Bool) (asked : ℕ) (granted : Bool) → wanted_yet (TakeLogPages asked) block a s r ≡ n
      → may_ask (TakeLogPages asked) s ≡ more → WaysOf P E (TakeLogPages asked) block a granted s h r
      → let d = work (TakeLogPages asked) block a s h r in AfterBy W P E (pages_turn n more asked d.shared d.hand r)
  taken_goes zero more asked granted q m w = w.0.ready q refl
  taken_goes (suc n) true asked granted q m w = w.0.more n q m
  taken_goes (suc n) false asked granted q m w = refused_goes W P E NoSpace _ _ r (w.1 n q m)

  enter_goes : (holder : Option ℕ) (last granted : Bool) → s.holder ≡ holder → nat_le NUMBER s.book.commit ≡ last
      → (IsBlocked Enter s r → W) → WaysOf P E Enter block a granted s h r → AfterBy W P E (enter_turn holder last granted a s h r)
  enter_goes (Some other) last granted free few wait w = wait (other, free)
  enter_goes None true granted free few wait w = refused_goes W P E CommitLimit s h r (w.0 free few)
  enter_goes None false granted free few wait w = grown_goes W P E granted _ s h r (w.1 (free, few)) (w.2 (free, few))

  unlocked_goes : (more : Bool) (place : ℕ) (granted : Bool) → nat_lt (place + 1) (length r.slots) ≡ more
      → WaysOf P E (Unlock place) block a granted s h r
      → AfterBy W P E (unlocked_turn more place (work (Unlock place) block a s h r).shared h r)
  unlocked_goes true place granted is w = w.0 is
  unlocked_goes false place granted is w = over_goes W P E _ _ r r.ending r.ending refl (w.1 is)

  back_goes : (number : Option ℕ) → Lasts P E (return_number_work number s h).shared (return_number_work number s h).hand r r.ending
      → AfterBy W P E (return_number_turn number s h r)
  back_goes None c = last_goes W P E _ _ r r.ending r.ending refl c
  back_goes (Some ino) c = last_goes W P E _ _ r r.ending r.ending refl c

  visit_goes : (owner : Option ℕ) (tests : Tests) (granted : Bool)
      → owner_at s (handle_at (handles nothing_looked r.call) 0).ino ≡ owner → refusal block (copies s) r.call ≡ tests
      → (IsBlocked Visit s r → W) → WaysOf P E Visit block a granted s h r
      → AfterBy W P E (visit_turn owner tests (granted || not (visit_grows r.call)) (answer (nodes s) r.made r.call) s h r)
  visit_goes (Some other) tests granted free passed wait w = wait (other, free)
  visit_goes None (Err fault) granted free passed wait w = refused_goes W P E fault s h r (w.0 fault free passed)
  visit_goes None (Ok tt) granted free passed wait w =
      grown_goes W P E _ (Ends (Ok (answer (nodes s) r.made r.call)) s h) s h r (w.1 free passed) (w.2 free passed)

  -- EVERY KIND of a call on files and directories
  pub walk_by : (k : Next) (granted : Bool) → (IsBlocked k s r → W) → WaysOf P E k block a granted s h r → is_on_files k ≡ true
      → AfterBy W P E (kind_turn k block a granted s h r)
  walk_by Number granted wait w is = number_goes s.pool.numbers w
  walk_by (Look place) granted wait w is = look_goes _ _ place granted refl refl wait w
  walk_by (Lock place) granted wait w is = lock_goes _ place refl wait w
  walk_by Check granted wait w is = check_goes (ending_at block s h r) granted refl w
  walk_by (TakeBlocks asked) granted wait w is = blocks_goes _ _ asked granted refl refl w
  walk_by (TakeLogPages asked) granted wait w is = taken_goes _ _ asked granted refl refl w
  walk_by Ready granted wait w is = grown_goes W P E granted _ s h r w.0 w.1
  walk_by Enter granted wait w is = enter_goes s.holder _ granted refl refl wait w
  walk_by Leave granted wait w is = ends_go W P E _ _ r r.ending r.slots w
  walk_by (Unlock place) granted wait w is = unlocked_goes _ place granted refl w
  walk_by (Give cpu) granted wait w is = rest_goes W P E _ _ r r.ending _ (given cpu s h).ino refl w
  walk_by ReturnNumber granted wait w is = back_goes h.ino w
  walk_by Visit granted wait w is = visit_goes _ _ granted refl refl wait w
  walk_by (SnapshotOrCleaner step) granted wait w is = absurd (false≢true is)
  walk_by other granted wait w is = w

module _ (P : Going) (E : Telling) (block a : ℕ) (s : Shared) (h : HandState) (r : Running) where
  pub walk_of : (k : Next) (granted : Bool) → WaysOf P E k block a granted s h r → is_on_files k ≡ true
      → After P E (kind_turn k block a granted s h r)
  walk_of k granted w is = walk_by (Unit {0}) P E block a s h r k granted (λ blocked. tt) w is

  -- one of the last steps
  pub last_ways : (k : Next) (granted : Bool) → is_last k ≡ true
      → Closes P E (work k block a s h r).shared (work k block a s h r).hand r r.ending → WaysOf P E k block a granted s h r
  last_ways (Unlock place) granted is c = (λ more. c.last (Unlock (place + 1)) refl, λ past. any_overs c)
  last_ways (Give cpu) granted is c = any_rests c
  last_ways ReturnNumber granted is c = any_lasts c
  last_ways other granted is c = absurd (false≢true is)

  pub any_takes : (k : Next) → ((n : ℕ) (next : Next) → is_taking next ≡ true
      → P (work k block a s h r).shared (work k block a s h r).hand (record (noted k block s h r) { wanted = n; next = next }))
      → is_taking (asks_on k) ≡ true → Takes P k block a s h r
  any_takes k takes on = record {
    more = λ n is ask. takes (suc n) (asks_on k) on;
    pages = λ n none is. takes (suc n) (TakeLogPages 0) refl;
    ready = λ none is. takes 0 Ready refl;
  }

  -- of how many blocks there are with those still wanted
  pub counted : (k : Next) (Q : ℕ → Type 0) → Q (length (work k block a s h r).hand.blocks + wanted_yet k block a s r)
      → ((n : ℕ) → Q (length (work k block a s h r).hand.blocks + n)
      → P (work k block a s h r).shared (work k block a s h r).hand (record (noted k block s h r) { wanted = n; next = asks_on k }))
      → ((n : ℕ) → Q (length (work k block a s h r).hand.blocks)
      → P (work k block a s h r).shared (work k block a s h r).hand (record (noted k block s h r) { wanted = n; next = TakeLogPages 0 }))
      → (Q (length (work k block a s h r).hand.blocks)
      → P (work k block a s h r).shared (work k block a s h r).hand (record (noted k block s h r) { wanted = 0; next = Ready }))
      → Takes P k block a s h r
  counted k Q q more pages ready = record {
    more = λ n is ask. more (suc n) (subst (λ (w : ℕ). Q (length (work k block a s h r).hand.blocks + w)) is q);
    pages = λ n none is. pages (suc n) (no_more none);
    ready = λ none is. ready (no_more none);
  } where
    no_more : wanted_yet k block a s r ≡ 0 → Q (length (work k block a s h r).hand.blocks)
    no_more none = subst Q (omega (arith, none)) q

  any_ways : (k : Next) (granted : Bool) → Ways P E k block a s h r → is_on_files k ≡ true → WaysOf P E k block a granted s h r
  any_ways Number granted w is = w.goes refl tt
  any_ways (Look place) granted w is = (λ fault free by. any_ends (w.stops (Refuses fault) refl), w.goes refl)
  any_ways (Lock place) granted w is = w.goes refl
  any_ways Check granted w is = (
    λ e by. any_ends (w.stops e (check_stops e by)),
    λ none lacks. any_ends (w.stops (Refuses out_of_memory) refl),
    λ none. any_takes Check (w.takes refl) refl,
  ) where
    check_stops : (e : Ending) → ending_at block s h r ≡ Some e → StopsBy Check block s h r e
    check_stops (Refuses fault) by = refl
    check_stops Answers by = by
    check_stops BoundAnew by = by
    check_stops (Drains d) by = by
    check_stops (Cleans cleaned) by = by
  any_ways (TakeBlocks asked) granted w is =
      (any_takes (TakeBlocks asked) (w.takes refl) refl, λ n is last. any_ends (w.short refl))
  any_ways (TakeLogPages asked) granted w is =
      (any_takes (TakeLogPages asked) (w.takes refl) refl, λ n is last. any_ends (w.short refl))
  any_ways Ready granted w is = (λ lacks. any_ends (w.stops (Refuses out_of_memory) refl), w.goes refl tt)
  any_ways Enter granted w is = (
    λ free last. any_ends (w.stops (Refuses CommitLimit) refl),
    λ clear lacks. any_ends (w.stops (Refuses out_of_memory) refl),
    w.goes refl,
  )
  any_ways Leave granted w is = any_ends (w.over refl)
  any_ways (Unlock place) granted w is = last_ways (Unlock place) granted refl (w.over refl)
  any_ways (Give cpu) granted w is = last_ways (Give cpu) granted refl (w.over refl)
  any_ways ReturnNumber granted w is = last_ways ReturnNumber granted refl (w.over refl)
  any_ways Visit granted w is = (
    λ fault free by. any_ends (w.stops (Refuses fault) refl),
    λ free passed lacks. any_ends (w.stops (Refuses out_of_memory) refl),
    λ free passed. w.told refl free,
  )
  any_ways (SnapshotOrCleaner step) granted w is = absurd (false≢true is)
  any_ways other granted w is = w.goes refl tt

  pub last_walk : (k : Next) (granted : Bool) → is_last k ≡ true
      → Closes P E (work k block a s h r).shared (work k block a s h r).hand r r.ending → After P E (kind_turn k block a granted s h r)
  last_walk (Unlock place) granted is c = walk_of (Unlock place) granted (last_ways (Unlock place) granted is c) refl
  last_walk (Give cpu) granted is c = walk_of (Give cpu) granted (last_ways (Give cpu) granted is c) refl
  last_walk ReturnNumber granted is c = walk_of ReturnNumber granted (last_ways ReturnNumber granted is c) refl
  last_walk other granted is c = absurd (false≢true is)

  pub walk : (k : Next) (granted : Bool) → Ways P E k block a s h r → is_on_files k ≡ true
      → After P E (kind_turn k block a granted s h r)
  walk k granted w is = walk_of k granted (any_ways k granted w is) is
