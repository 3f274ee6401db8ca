-- Whatever events come, marks say of every slot what is killed, recorded and out; so each part that is
-- kept has one record.
use Rattle.std.proofs.Common.{◌≡◌, ℕ, ◌∙◌, Bool, true, false, List, [], ◌∷◌, Option, Some, None, ap, arith, if◌then◌else◌, length, nat_lt, refl, sym}
use Rattle.std.specs.List.{AllByRecursion}
use Rattle.std.proofs.lemmas.Bool.{ltb-false, ltb-true}
use Rattle.nv_base.specs.declared.geometry.GeometryNumbers.{GeometryNumbers}
use Rattle.nv_book.specs.declared.record.Record.{Record}
use Rattle.nv_calls.specs.declared.call.Call.{Call}
use Rattle.nv_cell.specs.Cell.{log_of}
use Rattle.nv_epoch.specs.SnapList.{ids}
use Rattle.nv_machine.specs.Held.{killed_by_call, picked_by_call}
use Rattle.nv_machine.specs.PlainRun as plain
use Rattle.nv_machine.specs.Recorded.{IsOfPair, after_deed, records_in, retired_in}
use Rattle.nv_machine.specs.Sequence.{beginning, begun}
use Rattle.nv_machine.specs.Step.{go_step, start_step, step}
use Rattle.nv_machine.specs.World.{Event, Go, Running, Start, World, actor_at, cell_at}
use Rattle.nv_machine.proofs.OverEvents.{runs_inside}
use Rattle.nv_machine.proofs.Cleanable.{cleanable}
use Rattle.nv_machine.proofs.FiledKinds.{kind_marked}
use Rattle.nv_machine.proofs.FiledMarks.{IsTold}
use Rattle.nv_machine.proofs.FiledPicks.{begun_none}
use Rattle.nv_machine.proofs.FiledRuns.{IsListable}
use Rattle.nv_machine.proofs.FiledTurns.{Listed}
use Rattle.nv_machine.proofs.FiledWorlds.{AreMarked, outside, quiet_marked, same_quiet}
use Rattle.nv_machine.proofs.LogsInOrder.{begun_commits}

-- ---- events

module _ (g : GeometryNumbers) (w : World) (is_known : IsListable g w) (rs : List Record) (l : Listed rs w.shared) (m : AreMarked w rs) where
  go_marked : (b : Bool) (running : Option Running) (actor : ℕ) (granted : Bool) → nat_lt actor (length w.actors) ≡ b
      → (actor_at w actor).running ≡ running
      → AreMarked (go_step b running actor granted w).world
      (after_deed (if b then plain.plain_change_by running w actor granted else plain.Nothing) (ids w.shared.book.snaps)
      (retired_in w (Go actor granted) running rs))
  go_marked false None actor granted there e = m
  go_marked false (Some r) actor granted there e = absurd (omega (arith, ltb-false actor (length w.actors) there, runs_inside w actor r e))
  go_marked true None actor granted there e = m
  go_marked true (Some r) actor granted there e =
      kind_marked g w is_known rs l m actor w.numbers.block granted r (ltb-true actor (length w.actors) there) e r.next refl
      (cleanable w actor r is_known.cleanable e)

  start_marked : (b : Bool) (running : Option Running) (actor : ℕ) (c : Call) → (actor_at w actor).running ≡ running
      → AreMarked (start_step b running actor c w).world rs
  start_marked false running actor c e = m
  start_marked true (Some r) actor c e = m
  start_marked true None actor c e =
      let h = (actor_at w actor).hand in
      let new : Running = begun (beginning c) w.shared c in
      quiet_marked w actor rs w.shared h (Some new) (same_quiet w.shared)
      (λ ino. outside (Some new) h ino (begun_commits (beginning c) w.shared c)
      ∙ sym (ap (λ (o : Option Running). killed_by_call o h ino) e))
      (begun_none w.shared c ∙ sym (ap (λ (o : Option Running). picked_by_call o) e)) m

  pub event_marked : (e : Event) → AreMarked (step w e).world (records_in w e rs)
  event_marked (Start actor c) = start_marked (nat_lt actor (length w.actors)) (actor_at w actor).running actor c refl
  event_marked (Go actor granted) = go_marked (nat_lt actor (length w.actors)) (actor_at w actor).running actor granted refl refl

-- ---- the laws, of each world

-- what is told of each slot is told of each record
pub each_of : (w : World) (rs : List Record)
    → ((ino : ℕ) → AllByRecursion (IsTold (ids w.shared.book.snaps) ino (cell_at w.shared ino).block (log_of (cell_at w.shared ino))) rs)
    → AllByRecursion (IsOfPair w) rs
each_of w [] told = tt
each_of w (d ∷ rs) told =
    let pair = (told d.ino).0 refl in (
      record {
        n = pair.n;
        pair = pair.pair;
        is = pair.is;
        name = pair.name;
        birth = pair.birth_is;
        died = pair.died;
        holders =
            pair.holders;
      },
      each_of w rs (λ ino. (told ino).1),
    )
