-- A number in the hand of a call that is late stays there, up to the step that ends the call and puts it into the pool.
use Rattle.nv_book.specs.declared.record.Record.{Record}
use Rattle.std.proofs.Common.{Bool, List, None, Option, Some, ap, arith, false, get_or-set_same, if◌then◌else◌, inl, inr, length, map, nat_lt, refl, subst, sym, true, ℕ, ◌++◌, ◌+◌, ◌<◌, ◌==◌, ◌∙◌, ◌≡◌, ◌≢◌, ◌⊎◌}
use Rattle.std.proofs.lemmas.Bool.{eqb-false, eqb-true, false≢true}
use Rattle.std.proofs.lemmas.List.{map-id}
use Rattle.std.proofs.lemmas.Option.{none-some}
use Rattle.nv_alloc.specs.Numbers.{has, put_by, times}
use Rattle.nv_alloc.proofs.Lists.{times-put_by, times-yes}
use Rattle.nv_base.specs.declared.geometry.GeometryNumbers.{GeometryNumbers}
use Rattle.nv_calls.specs.Retiring.{number_back}
use Rattle.nv_cell.specs.Cell.{CellState}
use Rattle.nv_machine.specs.Erasing.{IsOnItsWay, IsOnItsWayOrBack, is_done_with, is_late}
use Rattle.nv_machine.specs.Hands.{HandOf, is_going}
use Rattle.nv_machine.specs.Kinds.{first_killed, retired_cell, with_freed}
use Rattle.nv_machine.specs.Reads.{slot_at, written_slots}
use Rattle.nv_machine.specs.PlainRun.{actor_of}
use Rattle.nv_machine.specs.Starts.{IsStart}
use Rattle.nv_machine.specs.Step.{Step, after, kind_turn, step, turned}
use Rattle.nv_machine.specs.World.{Actor, Answers, ReturnNumber, Ending, Ends, Event, Give, Go, HandState, Leave, Moves, Next, BoundAnew, Retire, Running, Shared, Start, Turn, Unlock, Waits, World, actor_at, idle}
use Rattle.nv_machine.proofs.EveryWorld.{all_known}
use Rattle.nv_machine.proofs.OverEvents.{others_stay, runs_inside}
use Rattle.nv_machine.proofs.FitsEvents.{IsKnown}
use Rattle.nv_machine.proofs.SingleEvents.{busy, goes}
use Rattle.nv_machine.proofs.FromScratch.{not_counted}
use Rattle.nv_machine.proofs.Lists.{self}
use Rattle.nv_machine.proofs.PoolCommits.{erased_number}
use Rattle.nv_machine.proofs.PoolRuns.{standing}
use Rattle.nv_machine.proofs.PoolTurns.{Standing}
use Rattle.nv_machine.proofs.StepWork.{return_number_work}
use Rattle.nv_machine.proofs.StepWays.{After, Going, Overs, Rests, Telling, is_overtaken}
use Rattle.nv_cell.specs.Readers.{is_erased}
use Rattle.nv_machine.proofs.StepWalk.{walk_of}

-- ---- a turn

-- it leaves the number in the hand of a call that is late, or ends, or goes on to the next pick, with
-- the number in the pool
abbrev WayGoes : ℕ → Going
WayGoes ino t h q =
    ((is_late q.next ≡ true) × (h.ino ≡ Some ino)) ⊎ ((is_done_with (Some q) ≡ true) × (has t.pool.numbers ino ≡ true))

abbrev WayTold : ℕ → Telling
WayTold ino x t h = has t.pool.numbers ino ≡ true

abbrev OnWay : ℕ → Turn → Type 0
OnWay ino t = After (WayGoes ino) (WayTold ino) t

module _ {ino : ℕ} {h : HandState} (is : h.ino ≡ Some ino) where
  rests_way : {home : Option ℕ} {s : Shared} {r : Running} {e : Ending} → Rests (WayGoes ino) (WayTold ino) home s h r e
  rests_way = record {
    give = λ cpu some. inl (refl, is);
    back = λ n none some. inl (refl, is);
    lasts = λ none gone. absurd (none-some ino (sym gone ∙ is));
  }

  overs_way : {s : Shared} {r : Running} {e : Ending} → e ≢ BoundAnew → Overs (WayGoes ino) (WayTold ino) s h r e
  overs_way going = record {
    again = λ n over some. absurd (going over);
    contended = λ over zero. absurd (going over);
    rests = λ not. rests_way;
  }

put_has : (ino : ℕ) (numbers : List ℕ) → has (put_by (λ n. n) ino numbers) ino ≡ true
put_has ino numbers = go (has (put_by (λ n. n) ino numbers) ino) refl where
  many : times ino (put_by (λ n. n) ino numbers) ≡ 1 + times ino numbers
  many =
      ap (times ino) (sym (map-id (put_by (λ n. n) ino numbers))) ∙ times-put_by (λ n. n) ino ino numbers
      ∙ times-yes ino ino (map (λ n. n) numbers) (self ino) ∙ ap (λ (l : List ℕ). 1 + times ino l) (map-id numbers)

  go : (b : Bool) → has (put_by (λ n. n) ino numbers) ino ≡ b → b ≡ true
  go true e = refl
  go false e = absurd (omega (arith, many, not_counted ino (put_by (λ n. n) ino numbers) e))

back_has : (ino : ℕ) (number : Option ℕ) (s : Shared) (h : HandState) → number ≡ Some ino
    → has (return_number_work number s h).shared.pool.numbers ino ≡ true
back_has ino number s h is =
    subst (λ (o : Option ℕ). has (return_number_work o s h).shared.pool.numbers ino ≡ true) (sym is) (put_has ino s.pool.numbers)

module _ (g : GeometryNumbers) (block a ino : ℕ) (granted : Bool) (s : Shared) (h : HandState) (r : Running)
    (is : h.ino ≡ Some ino) where
  retire_way : (place : ℕ) → Standing g (Retire place) a s h r → OnWay ino (kind_turn (Retire place) block a granted s h r)
  retire_way place st = inl (next (nat_lt (place + 1) (length (written_slots r))), number (is_erased cell) refl) where
    slot : ℕ
    slot = slot_at (written_slots r) place

    cell : CellState
    cell = retired_cell slot (first_killed h.killed) s r

    freed : HandState
    freed = with_freed slot (first_killed h.killed) s r h

    next : (b : Bool) → is_late (if b then Retire (place + 1) else Leave) ≡ true
    next true = refl
    next false = refl

    number : (b : Bool) → is_erased cell ≡ b
        → (if b then record freed { chain = freed.chain ++ cell.chain.blocks; ino = number_back slot cell freed.ino } else freed).ino
        ≡ Some ino
    number true q = absurd (none-some ino (sym (erased_number g block a s h r place st q) ∙ is))
    number false q = is

  late_way : (k : Next) → is_late k ≡ true → Standing g k a s h r → (is_going k ≡ true → r.ending ≡ Answers)
      → OnWay ino (kind_turn k block a granted s h r)
  late_way (Retire place) late st going = retire_way place st
  late_way Leave late st going = walk_of (WayGoes ino) (WayTold ino) block a s h r Leave granted (record {
    unlock = λ some. inl (refl, is);
    overs = λ none. overs_way is (λ over. false≢true (ap is_overtaken (sym (going refl) ∙ over)));
  }) refl
  late_way (Unlock place) late st going = walk_of (WayGoes ino) (WayTold ino) block a s h r (Unlock place) granted (
    λ more. inl (refl, is),
    λ past. overs_way is (λ over. none-some ino (sym (ap (λ (x : HandState). x.ino) (st.hand.1 over).empty) ∙ is)),
  ) refl
  late_way (Give cpu) late st going = walk_of (WayGoes ino) (WayTold ino) block a s h r (Give cpu) granted (rests_way is) refl
  late_way ReturnNumber late st going =
      let there = back_has ino h.ino s h is in
      walk_of (WayGoes ino) (WayTold ino) block a s h r ReturnNumber granted
      (record { told = λ full. there; picks = λ d left drains some. inr (refl, there) }) refl
  late_way other late st going = absurd (false≢true late)

-- ---- an event

-- another actor's event leaves it as it was
as_it_was : (actor ino : ℕ) (w v : World) → actor_at v actor ≡ actor_at w actor → IsOnItsWay actor ino w → IsOnItsWay actor ino v
as_it_was actor ino w v same way = record {
  running = way.running;
  runs = ap (λ (y : Actor). y.running) same ∙ way.runs;
  late = way.late;
  number = ap (λ (y : Actor). y.hand.ino) same ∙ way.number;
}

turned_own : (t : Turn) (actor ino : ℕ) (w : World) → actor < length w.actors → IsOnItsWay actor ino w → OnWay ino t
    → IsOnItsWayOrBack actor ino (turned t actor w).world
turned_own (Moves s h q) actor ino w there way on = go on where
  own : actor_at (turned (Moves s h q) actor w).world actor ≡ record { hand = h; running = Some q }
  own = get_or-set_same w.actors actor (record { hand = h; running = Some q }) idle there

  go : OnWay ino (Moves s h q) → IsOnItsWayOrBack actor ino (turned (Moves s h q) actor w).world
  go (inl late) = inl (record {
    running = q;
    runs = ap (λ (x : Actor). x.running) own;
    late = late.0;
    number = ap (λ (x : Actor). x.hand.ino) own ∙ late.1;
  })
  go (inr back) = inr (record { ended = ap (λ (x : Actor). is_done_with x.running) own ∙ back.0; pool = back.1 })
turned_own Waits actor ino w there way on = inl way
turned_own (Ends result s h) actor ino w there way on =
    inr (record {
      ended = ap (λ (x : Actor). is_done_with x.running)
          (get_or-set_same w.actors actor (record { hand = h; running = None }) idle there);
      pool = on;
    })

module _ (g : GeometryNumbers) (w : World) (all : IsKnown g w) (actor ino : ℕ) (way : IsOnItsWay actor ino w) where
  abbrev h : HandState
  h = (actor_at w actor).hand

  abbrev r : Running
  r = way.running

  own : HandOf g h (Some r)
  own = subst (λ (o : Option Running). HandOf g h o) way.runs (all.numbers.hands actor)

  own_way : (granted : Bool) → OnWay ino (kind_turn r.next w.numbers.block actor granted w.shared h r)
  own_way granted =
      late_way g w.numbers.block actor ino granted w.shared h r way.number r.next way.late
      (standing g w actor r all.reached.locks all.numbers all.reached.grown all.pooled way.runs) own.1

  event_way : (e : Event) → IsOnItsWayOrBack actor ino (step w e).world
  event_way e = go (actor_of e == actor) e refl where
    there : actor < length w.actors
    there = runs_inside w actor r way.runs

    go : (c : Bool) (e : Event) → (actor_of e == actor) ≡ c → IsOnItsWayOrBack actor ino (step w e).world
    go false e q =
        inl (as_it_was actor ino w (step w e).world (others_stay w actor e (λ is. eqb-false (actor_of e) actor q (sym is))) way)
    go true (Go b granted) q =
        subst (λ (n : ℕ). IsOnItsWayOrBack actor ino (step w (Go n granted)).world) (sym (eqb-true b actor q))
        (subst (λ (x : Step). IsOnItsWayOrBack actor ino x.world) (sym (goes w actor granted r there way.runs).is_turn)
        (turned_own (kind_turn r.next w.numbers.block actor granted w.shared h r) actor ino w there way (own_way granted)))
    go true (Start b c) q =
        subst (λ (n : ℕ). IsOnItsWayOrBack actor ino (step w (Start n c)).world) (sym (eqb-true b actor q))
        (subst (λ (x : Step). IsOnItsWayOrBack actor ino x.world) (sym (busy w actor c r there way.runs)) (inl way))

-- ---- the law

pub number_returns : (g : GeometryNumbers) (start : World) (records : List Record) (events : List Event) (actor ino : ℕ)
    (e : Event) → IsStart g start records
    → IsOnItsWay actor ino (after start events)
    → IsOnItsWayOrBack actor ino (step (after start events) e).world
number_returns g start records events actor ino e is_start way =
    event_way g (after start events) (all_known g start records is_start events) actor ino way e
