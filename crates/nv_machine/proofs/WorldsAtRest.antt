-- A world at rest that events lead to is one where a run may start, with its records.
use Rattle.std.proofs.Common.{Bool, List, None, Option, Some, [], ap, arith, false, length, refl, subst, sym, true, ℕ, ◌<◌, ◌∙◌, ◌∷◌, ◌≡◌}
use Rattle.std.specs.List.{AllByRecursion}
use Rattle.std.proofs.lemmas.Bool.{eq-eqb, false≢true}
use Rattle.nv_alloc.specs.Numbers.{has}
use Rattle.nv_base.specs.declared.geometry.GeometryNumbers.{GeometryNumbers}
use Rattle.nv_book.specs.declared.record.Record.{Record}
use Rattle.nv_cell.specs.Readers.{is_erased}
use Rattle.nv_cell.specs.Cell.{log_of}
use Rattle.nv_cell.specs.Marks.{bit, is_killed, mark_at}
use Rattle.nv_cell.specs.declared.killed.KilledPart.{KilledPart}
use Rattle.nv_entry.specs.Held.{holds, is_held}
use Rattle.nv_entry.specs.declared.held.Pair.{Pair}
use Rattle.nv_epoch.specs.SnapList.{ids, pins_of}
use Rattle.nv_machine.specs.Hands.{HandOf}
use Rattle.nv_machine.specs.Held.{killed_by_actor, killed_in, picked_by_actor}
use Rattle.nv_machine.specs.Locks.{commits_by, held_by, is_owner}
use Rattle.nv_machine.specs.Needed.{IsAtRest}
use Rattle.nv_machine.specs.Reading.{ArePins}
use Rattle.nv_machine.specs.Starts.{IsStart}
use Rattle.nv_machine.specs.World.{Event, HandState, Running, World, actor_at, cell_at, empty_hand, idle, owner_at}
use Rattle.nv_machine.proofs.EveryWorld.{all_known, all_listed, all_marked, all_parts}
use Rattle.nv_machine.proofs.WorldFacts.{are_cells, logs_paged, pool_scanned, recorded_once}
use Rattle.nv_machine.proofs.EachElement.{all_front}
use Rattle.nv_machine.proofs.FiledLists.{count}
use Rattle.nv_machine.proofs.FiledMarks.{IsTold, is_killed_on}
use Rattle.nv_machine.proofs.FiledTurns.{Listed}
use Rattle.nv_machine.proofs.FiledWorlds.{AreMarked, picked_in}
use Rattle.nv_machine.proofs.PartsFor.{none_of}
use Rattle.nv_machine.specs.Recorded.{records_after}
use Rattle.nv_machine.specs.Step.{after}
use Rattle.nv_machine.proofs.CopiesAll.{all_whole}
use Rattle.nv_machine.proofs.WorldSizes.{of_numbers}
use Rattle.nv_machine.proofs.DirectoryLaws.{all_trees}
use Rattle.nv_machine.proofs.FiledLaw.{each_of}
use Rattle.nv_machine.proofs.FitsEvents.{IsKnown}
use Rattle.nv_machine.proofs.FromScratch.{none_true}
use Rattle.nv_machine.proofs.Generations.{all_early}
use Rattle.nv_machine.proofs.GoneRuns.{none_retiring}
use Rattle.nv_machine.proofs.Pins.{no_shows, pins_of_shows}
use Rattle.nv_machine.proofs.ShapeEvents.{all_shaped}
use Rattle.nv_machine.proofs.SnapRuns.{in_step}
use Rattle.nv_machine.proofs.Versions.{all_counted}

-- nobody owns what each actor does not
not_owned : (owner : Option ℕ) → ((actor : ℕ) → is_owner actor owner ≡ false) → owner ≡ None
not_owned None none = refl
not_owned (Some actor) none = absurd (false≢true (sym (none actor) ∙ eq-eqb actor actor refl))

bit_of_none : (b : Bool) → 0 ≡ bit b → b ≡ false
bit_of_none true e = absurd (omega (arith, e))
bit_of_none false e = refl

not_held : (living : List ℕ) (pair : Pair) → AllByRecursion (λ s. holds s pair ≡ false) living → is_held living pair ≡ false
not_held [] pair none = refl
not_held (s ∷ living) pair none = rw none.0 (not_held living pair none.1)

module _ (g : GeometryNumbers) (start : World) (records : List Record) (events : List Event) (is_start : IsStart g start records)
    (at_rest : IsAtRest (after start events)) where
  abbrev w : World
  w = after start events

  abbrev rs : List Record
  rs = records_after start events records

  known : IsKnown g w
  known = all_known g start records is_start events

  listed : Listed rs w.shared
  listed = all_listed g start records events is_start

  marked : AreMarked w rs
  marked = all_marked g start records events is_start

  inside : (ino : ℕ) → ino < g.inodes → ino < length w.shared.cells
  inside ino lt = omega (arith, lt, known.pooled.slots)

  idle_actor : (actor : ℕ) → actor_at w actor ≡ idle
  idle_actor actor = go (actor_at w actor).hand (actor_at w actor).running refl
      (subst (λ (o : Option Running). HandOf g (actor_at w actor).hand o) (at_rest actor) (known.numbers.hands actor)) (at_rest actor) where
        go : (hand : HandState) (running : Option Running) → actor_at w actor ≡ record { hand = hand; running = running }
            → hand ≡ empty_hand → running ≡ None → actor_at w actor ≡ idle
        go hand running same empty none = rw (same, empty, none) refl

  unlocked : (ino : ℕ) → owner_at w.shared ino ≡ None
  unlocked ino = not_owned (owner_at w.shared ino) (λ actor.
      (known.reached.locks.each actor).owners ino ∙ ap (λ (o : Option Running). has (held_by o) ino) (at_rest actor))

  uncommitted : w.shared.holder ≡ None
  uncommitted = not_owned w.shared.holder (λ actor. (known.reached.locks.each actor).holder ∙ ap commits_by (at_rest actor))

  no_killed : (ino : ℕ) → killed_in w ino ≡ []
  no_killed ino = none_of (killed_by_actor ino) w.actors (λ b. ap (killed_by_actor ino) (idle_actor b))

  no_picked : picked_in w ≡ []
  no_picked = none_of picked_by_actor w.actors (λ b. ap picked_by_actor (idle_actor b))

  pub start_again : IsStart g w rs
  start_again = record {
    limits = is_start.limits;
    numbers = known.numbers.numbers;
    actors = (of_numbers g start records events is_start).actors;
    slots = known.pooled.slots;
    owners = known.reached.locks.wide ∙ known.pooled.slots;
    inodes = (of_numbers g start records events is_start).pool;
    journals = known.reached.kept.logs.wide ∙ known.numbers.lists.cpus;
    most = (in_step g start records events is_start).most;
    idle_all = idle_actor;
    unlocked = unlocked;
    uncommitted = uncommitted;
    closed = known.reached.kept.logs.closed uncommitted;
    unpinned = λ snapshot. subst (λ (n : ℕ). ArePins n (pins_of w.shared.book.snaps snapshot)) (no_shows snapshot w.actors idle_actor)
        (pins_of_shows g start records events snapshot is_start);
    once = known.numbers.once;
    lists = known.numbers.lists;
    pool = pool_scanned g start records events is_start;
    cells = λ ino lt. are_cells g start records events ino is_start (inside ino lt);
    sizes = λ ino lt. (all_parts g start records events is_start ino (inside ino lt)).size;
    pages = λ ino lt. logs_paged g start records events ino is_start (inside ino lt);
    tails = λ ino. (known.reached.grown.free ino (unlocked ino)).tail;
    order = known.reached.order.logs;
    versions = (all_counted g start records events is_start).versions;
    early = all_early g start records events is_start;
    erased = λ ino. none_true (is_erased (cell_at w.shared ino)) (none_retiring g start records events ino is_start uncommitted);
    rising = listed.rising;
    before = listed.below;
    list = listed.list;
    dead = listed.dead;
    paired =
        each_of w rs (λ ino. all_front (IsTold (ids w.shared.book.snaps) ino (cell_at w.shared ino).block (log_of (cell_at w.shared ino)))
        rs (picked_in w) (marked.cells ino).told);
    recorded = recorded_once g start records events is_start;
    alive = λ ino n. bit_of_none (is_killed (mark_at (cell_at w.shared ino).marks n))
        (subst (λ (ks : List KilledPart). count (is_killed_on (log_of (cell_at w.shared ino)) n) ks
        ≡ bit (is_killed (mark_at (cell_at w.shared ino).marks n))) (no_killed ino) ((marked.cells ino).killed_are n));
    out = λ ino n pair got gone. not_held (ids w.shared.book.snaps) pair ((marked.cells ino).out n pair got gone);
    shaped = all_shaped g start records events is_start;
    sound = known.fit.sound;
    tree = all_trees g start records events is_start;
    copies = λ snapshot there. (all_whole g start records is_start events snapshot there).one_tree;
  }
