-- What is moved on to has fewer steps left: the last steps, and the loops of a call on files and directories.
use Rattle.std.proofs.Common.{Bool, List, None, Option, Some, [], arith, false, if◌then◌else◌, length, nat_lt, refl, subst, true, ℕ, ◌*◌, ◌+◌, ◌-◌, ◌<◌, ◌∷◌, ◌≡◌, ◌≤◌}
use Rattle.std.proofs.Math.Nat.{suc-mul}
use Rattle.std.proofs.lemmas.Bool.{ltb-true}
use Rattle.std.specs.Prelude.{Err, Ok}
use Rattle.nv_calls.specs.Plain.{Change}
use Rattle.nv_calls.specs.Refusals.{Check as Tests}
use Rattle.nv_machine.specs.Bound.{Falls, bound, rank, rank_behind, round}
use Rattle.nv_machine.specs.Kinds.{check_ending}
use Rattle.nv_machine.specs.Sequence.{closing, directories, locking, opening, publishing, retiring}
use Rattle.nv_machine.specs.World.{Append, Check, Close, Ending, Ends, HandState, Leave, Lock, Look, Moves, Open, Publish, Retire, Running, Shared, Turn, Waits}
use Rattle.nv_machine.proofs.SlotBounds.{directories-length}
use Rattle.nv_machine.proofs.NextSteps.{Untold}
use Rattle.nv_machine.proofs.StepWays.{After, EndsBy, Going, Lasts, Overs, Rests}

-- ---- the last steps

module _ (c m : ℕ) where
  abbrev pub Lower : Going
  Lower s h q = bound c q < m

  pub falls_so : (t : Turn) → After Lower Untold t → Falls c m t
  falls_so (Moves s h q) low = low
  falls_so Waits low = tt
  falls_so (Ends x s h) low = tt

  module _ {r : Running} {e : Ending} where
    -- a drain goes on to the next record, of those that it may still release
    pub lasts_fall : {s : Shared} {h : HandState} → rank_behind c e + r.rounds * round c < m → Lasts Lower Untold s h r e
    lasts_fall low = record {
      told = λ full. tt;
      picks = λ d left drains some.
          let less = subst (λ (n : ℕ). n * round c + r.rounds * round c < m) some
          (subst (λ (x : Ending). rank_behind c x + r.rounds * round c < m) drains low) in
          let more = suc-mul left (round c) in omega (arith, less, more);
    }

    pub rests_fall : {home : Option ℕ} {s : Shared} {h : HandState}
        → ((cpu : ℕ) → home ≡ Some cpu → rank_behind c e + r.rounds * round c + (2 + (c - cpu)) < m)
        → rank_behind c e + r.rounds * round c + 1 < m → Rests Lower Untold home s h r e
    rests_fall low one = record {
      give = λ cpu is. low cpu is;
      back = λ ino none is. one;
      lasts = λ none gone. lasts_fall (omega (arith, one));
    }

    pub overs_fall : {s : Shared} {h : HandState} → rank_behind c e + r.rounds * round c + (2 + c) < m → Overs Lower Untold s h r e
    overs_fall low = record {
      again = λ n over some.
          let less = subst (λ (k : ℕ). rank_behind c e + k * round c + (2 + c) < m) some low in
          let more = suc-mul n (round c) in omega (arith, less, more);
      contended = λ over none. tt;
      rests = λ not. rests_fall (λ cpu is. omega (arith, low)) (omega (arith, low));
    }

    pub ends_fall : {slots : List ℕ} {s : Shared} {h : HandState}
        → rank_behind c e + r.rounds * round c + (3 + c + length r.slots) < m → EndsBy Lower Untold slots s h r e
    ends_fall low = record { unlock = λ some. omega (arith, low); overs = λ none. overs_fall (omega (arith, low)) }

-- ---- loops

lock_at : (c place n : ℕ) (b : Bool) → nat_lt place n ≡ b → rank c n (if b then Lock place else Check) ≤ 15 + 3 * c + 4 * n + (n - place)
lock_at c place n true e = omega arith
lock_at c place n false e = omega arith

pub lock_next : (c place n : ℕ) (b : Bool) → nat_lt (place + 1) n ≡ b
    → rank c n (if b then Lock (place + 1) else Check) < 15 + 3 * c + 4 * n + (n - place)
lock_next c place n true e = omega (arith, ltb-true (place + 1) n e)
lock_next c place n false e = omega arith

-- the first lock of at most five
pub first_lock : (c : ℕ) (slots : List ℕ) → length slots ≤ 5 → rank c (length slots) (locking 0 slots) ≤ 40 + 3 * c
first_lock c slots few = omega (arith, few, lock_at c 0 (length slots) (nat_lt 0 (length slots)) refl)

pub look_next : (c place : ℕ) (r : Running) (b : Bool) → nat_lt (place + 1) (length (directories r.call)) ≡ b → length r.slots ≤ 5
    → rank c (length r.slots) (if b then Look (place + 1) else locking 0 r.slots) < 41 + 3 * c + (2 - place)
look_next c place r true e few = omega (arith, ltb-true (place + 1) (length (directories r.call)) e, directories-length r.call)
look_next c place r false e few = omega (arith, first_lock c r.slots few)

pub retire_from : (c n place : ℕ) (b : Bool) → rank c n (if b then Retire place else Leave) ≤ 5 + c + n + (n - place)
retire_from c n place true = omega arith
retire_from c n place false = omega arith

pub retire_next : (c place n w : ℕ) (b : Bool) → nat_lt (place + 1) w ≡ b → w ≤ n
    → rank c n (if b then Retire (place + 1) else Leave) < 5 + c + n + (n - place)
retire_next c place n w true e few = omega (arith, few, ltb-true (place + 1) w e)
retire_next c place n w false e few = omega arith

closing_at : (c n : ℕ) (written : List ℕ) (b : Bool) → rank c n (if b then Close else retiring 0 written) ≤ 6 + c + 2 * n
closing_at c n written true = omega arith
closing_at c n written false = omega (arith, retire_from c n 0 (nat_lt 0 (length written)))

pub publish_from : (c n place : ℕ) (written : List ℕ) (b : Bool)
    → rank c n (if b then Publish place else closing written) ≤ 7 + c + 2 * n + (n - place)
publish_from c n place written true = omega arith
publish_from c n place written false = omega (arith, closing_at c n written (nat_lt 1 (length written)))

pub publish_next : (c n place : ℕ) (written : List ℕ) (b : Bool) → nat_lt (place + 1) (length written) ≡ b → length written ≤ n
    → rank c n (if b then Publish (place + 1) else closing written) < 7 + c + 2 * n + (n - place)
publish_next c n place written true e few = omega (arith, few, ltb-true (place + 1) (length written) e)
publish_next c n place written false e few = omega (arith, closing_at c n written (nat_lt 1 (length written)))

opening_at : (c n : ℕ) (written : List ℕ) (b : Bool) → rank c n (if b then Open else publishing 0 written) ≤ 8 + c + 3 * n
opening_at c n written true = omega arith
opening_at c n written false = omega (arith, publish_from c n 0 written (nat_lt 0 (length written)))

pub append_from : (c n place : ℕ) (written : List ℕ) (b : Bool)
    → rank c n (if b then Append place else opening written) ≤ 9 + c + 3 * n + (n - place)
append_from c n place written true = omega arith
append_from c n place written false = omega (arith, opening_at c n written (nat_lt 1 (length written)))

pub append_next : (c n place : ℕ) (written : List ℕ) (b : Bool) → nat_lt (place + 1) (length written) ≡ b → length written ≤ n
    → rank c n (if b then Append (place + 1) else opening written) < 9 + c + 3 * n + (n - place)
append_next c n place written true e few = omega (arith, few, ltb-true (place + 1) (length written) e)
append_next c n place written false e few = omega (arith, opening_at c n written (nat_lt 1 (length written)))

-- ---- a check

-- a check never ends a call to go on with a record
abbrev pub behind_of : ℕ → Option Ending → ℕ
behind_of c None = 0
behind_of c (Some e) = rank_behind c e

pub none_behind : (c : ℕ) (first : Tests) (same : Bool) (tests : Tests) (numbered : Bool) (effect : List Change)
    → behind_of c (check_ending first same tests numbered effect) ≡ 0
none_behind c (Err fault) same tests numbered effect = refl
none_behind c (Ok passed) false tests numbered effect = refl
none_behind c (Ok passed) true (Err fault) numbered effect = refl
none_behind c (Ok passed) true (Ok all) false effect = refl
none_behind c (Ok passed) true (Ok all) true [] = refl
none_behind c (Ok passed) true (Ok all) true (change ∷ effect) = refl
