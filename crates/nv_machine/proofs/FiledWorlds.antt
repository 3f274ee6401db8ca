-- The marks of every slot of a world, beside the killed parts in all hands, the record list and what drains have
-- picked; and that steps which leave cells and snapshots keep them so.
use Rattle.std.proofs.Common.{◌≡◌, ◌≢◌, ℕ, ◌<◌, ◌≤◌, ◌==◌, ◌++◌, ◌∙◌, Bool, true, false, List, [], Option, Some, None, ap, flat_map, get_or-set_other, get_or-set_same, arith, length, length-set, refl, set, subst, sym}
use Rattle.std.specs.List.{AllByRecursion}
use Rattle.std.proofs.lemmas.Bool.{eqb-true, true≢false}
use Rattle.nv_book.specs.Records.{holder_of}
use Rattle.nv_book.specs.declared.record.Record.{Record}
use Rattle.nv_cell.specs.Cell.{CellState}
use Rattle.nv_cell.specs.declared.killed.KilledPart.{KilledPart}
use Rattle.nv_epoch.specs.SnapList.{ids}
use Rattle.nv_machine.specs.Held.{killed_by_actor, killed_by_call, killed_in, killed_slots, parts_for, picked_at, picked_by_actor, picked_by_call}
use Rattle.nv_machine.specs.Locks.{AreLocks, commits_at, commits_by, is_owner}
use Rattle.nv_machine.specs.Reads.{written_slots}
use Rattle.nv_machine.specs.Step.{changed, turned}
use Rattle.nv_machine.specs.World.{Actor, Append, Close, Ends, HandState, Leave, Moves, Next, Open, Publish, Retire, Running, Shared, Turn, Waits, World, actor_at, cell_at, idle}
use Rattle.nv_machine.proofs.FiledSteps.{AreFresh, MarksOf}
use Rattle.nv_machine.proofs.WorkKeeps.{AfterTurn}
use Rattle.nv_machine.proofs.PartsFor.{alone, none_of, same_of}

-- what drains have picked and not yet released
abbrev pub picked_in : World → List Record
picked_in w = flat_map picked_by_actor w.actors

-- what marks say of each slot; what stands past a tail is of the book's epoch; and what is picked has died by now, and
-- no living snapshot holds it
pub record AreMarked (w : World) (rs : List Record) : Type 0 where
  pub cells : (ino : ℕ) → MarksOf (ids w.shared.book.snaps) ino w.shared.book.snaps.epoch (killed_in w ino) (rs ++ picked_in w)
      (cell_at w.shared ino)
  pub fresh : (ino : ℕ) → AreFresh w.shared.book.snaps.epoch (cell_at w.shared ino)
  pub unheld : AllByRecursion (λ d. holder_of (ids w.shared.book.snaps) d ≡ None) (picked_in w)
  pub dead : AllByRecursion (λ (d : Record). d.death ≤ w.shared.book.snaps.epoch) (picked_in w)

-- ---- the killed parts of all hands are those of the commit under way

-- a call outside a commit has none
pub outside : (running : Option Running) (h : HandState) (ino : ℕ) → commits_by running ≡ false → killed_by_call running h ino ≡ []
outside None h ino out = refl
outside (Some r) h ino out = go r.next out where
  go : (k : Next) → commits_at k ≡ false → parts_for (killed_slots k (written_slots r)) h.killed ino ≡ []
  go (Append place) e = absurd (true≢false e)
  go Open e = absurd (true≢false e)
  go (Publish place) e = absurd (true≢false e)
  go Close e = absurd (true≢false e)
  go (Retire place) e = absurd (true≢false e)
  go Leave e = absurd (true≢false e)
  go other e = refl

-- another actor than the one that has the commit lock
pub others_out : (w : World) (a b : ℕ) → AreLocks w → w.shared.holder ≡ Some a → b ≢ a → commits_by (actor_at w b).running ≡ false
others_out w a b locks held ne = sym (locks.each b).holder ∙ ap (is_owner b) held ∙ other (a == b) refl where
  other : (c : Bool) → (a == b) ≡ c → c ≡ false
  other true q = absurd (ne (sym (eqb-true a b q)))
  other false q = refl

pub own_killed : (w : World) (a ino : ℕ) → a < length w.actors → AreLocks w → w.shared.holder ≡ Some a
    → killed_in w ino ≡ killed_by_actor ino (actor_at w a)
own_killed w a ino there locks held =
    alone (killed_by_actor ino) w.actors a there
    (λ b ne. outside (actor_at w b).running (actor_at w b).hand ino (others_out w a b locks held ne))

pub new_killed : (w : World) (a ino : ℕ) (s : Shared) (h : HandState) (running : Option Running) → a < length w.actors → AreLocks w
    → w.shared.holder ≡ Some a → killed_in (changed s h running a w) ino ≡ killed_by_call running h ino
new_killed w a ino s h running there locks held =
    let x : Actor = record { hand = h; running = running } in
    alone (killed_by_actor ino) (set w.actors a x) a (omega (arith, there, length-set w.actors a x))
    (λ b ne. ap (killed_by_actor ino) (get_or-set_other w.actors a b x idle ne)
    ∙ outside (actor_at w b).running (actor_at w b).hand ino (others_out w a b locks held ne))
    ∙ ap (killed_by_actor ino) (get_or-set_same w.actors a x idle there)

-- where nobody commits there are none
pub no_killed : (w : World) (ino : ℕ) → AreLocks w → w.shared.holder ≡ None → killed_in w ino ≡ []
no_killed w ino locks free =
    none_of (killed_by_actor ino) w.actors
    (λ b. outside (actor_at w b).running (actor_at w b).hand ino (sym (locks.each b).holder ∙ ap (is_owner b) free))

-- ---- a world after a step

-- of an actor that has now what it had, of killed parts and of what it has picked
pub same_killed : (w : World) (a ino : ℕ) (s : Shared) (h : HandState) (running : Option Running)
    → killed_by_call running h ino ≡ killed_by_actor ino (actor_at w a) → killed_in (changed s h running a w) ino ≡ killed_in w ino
same_killed w a ino s h running e = same_of (killed_by_actor ino) w.actors a (record { hand = h; running = running }) e

pub same_picked : (w : World) (a : ℕ) (s : Shared) (h : HandState) (running : Option Running)
    → picked_by_call running ≡ picked_by_actor (actor_at w a) → picked_in (changed s h running a w) ≡ picked_in w
same_picked w a s h running e = same_of picked_by_actor w.actors a (record { hand = h; running = running }) e

-- with killed parts and records that are these
pub marks_as : (living : List ℕ) (ino epoch : ℕ) (killed others : List KilledPart) (rs now : List Record) (cell : CellState)
    → others ≡ killed → now ≡ rs → MarksOf living ino epoch killed rs cell → MarksOf living ino epoch others now cell
marks_as living ino epoch killed others rs now cell e f h =
    subst (λ (l : List KilledPart). MarksOf living ino epoch l now cell) (sym e)
    (subst (λ (l : List Record). MarksOf living ino epoch killed l cell) (sym f) h)

-- ---- steps that leave cells and snapshots

pub record IsQuiet (s t : Shared) : Type 0 where
  pub cells : (ino : ℕ) → cell_at t ino ≡ cell_at s ino
  pub living : ids t.book.snaps ≡ ids s.book.snaps
  pub epoch : t.book.snaps.epoch ≡ s.book.snaps.epoch

pub same_quiet : (s : Shared) → IsQuiet s s
same_quiet s = record { cells = λ ino. refl; living = refl; epoch = refl }

pub quiet_marked : (w : World) (a : ℕ) (rs : List Record) (s : Shared) (h : HandState) (running : Option Running) → IsQuiet w.shared s
    → ((ino : ℕ) → killed_by_call running h ino ≡ killed_by_actor ino (actor_at w a))
    → picked_by_call running ≡ picked_by_actor (actor_at w a) → AreMarked w rs → AreMarked (changed s h running a w) rs
quiet_marked w a rs s h running quiet killed picked m = record {
  cells = λ ino. subst (λ (living : List ℕ). MarksOf living ino s.book.snaps.epoch (killed_in v ino) (rs ++ picked_in v) (cell_at s ino))
      (sym quiet.living)
      (subst (λ (epoch : ℕ). MarksOf (ids w.shared.book.snaps) ino epoch (killed_in v ino) (rs ++ picked_in v) (cell_at s ino))
      (sym quiet.epoch)
      (subst (MarksOf (ids w.shared.book.snaps) ino w.shared.book.snaps.epoch (killed_in v ino) (rs ++ picked_in v)) (sym (quiet.cells ino))
      (marks_as (ids w.shared.book.snaps) ino w.shared.book.snaps.epoch (killed_in w ino) (killed_in v ino) (rs ++ picked_in w)
      (rs ++ picked_in v) (cell_at w.shared ino) (same_killed w a ino s h running (killed ino))
      (ap (λ (l : List Record). rs ++ l) same) (m.cells ino))));
  fresh = λ ino. subst (λ (epoch : ℕ). AreFresh epoch (cell_at s ino)) (sym quiet.epoch)
      (subst (AreFresh w.shared.book.snaps.epoch) (sym (quiet.cells ino)) (m.fresh ino));
  unheld = subst (λ (living : List ℕ). AllByRecursion (λ d. holder_of living d ≡ None) (picked_in v)) (sym quiet.living)
      (subst (AllByRecursion (λ d. holder_of (ids w.shared.book.snaps) d ≡ None)) (sym same) m.unheld);
  dead = subst (λ (epoch : ℕ). AllByRecursion (λ (d : Record). d.death ≤ epoch) (picked_in v)) (sym quiet.epoch)
      (subst (AllByRecursion (λ (d : Record). d.death ≤ w.shared.book.snaps.epoch)) (sym same) m.dead);
} where
  v : World
  v = changed s h running a w

  same : picked_in v ≡ picked_in w
  same = same_picked w a s h running picked

-- a turn leaves its actor the killed parts and the picked record that it had
abbrev pub KeepsShares : Actor → Turn → Type 0
KeepsShares x (Moves s h q) = ((ino : ℕ) → killed_by_call (Some q) h ino ≡ killed_by_actor ino x) × (picked_at q.next ≡ picked_by_actor x)
KeepsShares x Waits = Unit {0}
KeepsShares x (Ends result s h) = ((ino : ℕ) → [] ≡ killed_by_actor ino x) × ([] ≡ picked_by_actor x)

pub turned_quiet : (t : Turn) (w : World) (a : ℕ) (rs : List Record) → AfterTurn (λ (s : Shared) (h : HandState). IsQuiet w.shared s) t
    → KeepsShares (actor_at w a) t → AreMarked w rs → AreMarked (turned t a w).world rs
turned_quiet (Moves s h q) w a rs quiet keeps m = quiet_marked w a rs s h (Some q) quiet keeps.0 keeps.1 m
turned_quiet Waits w a rs quiet keeps m = m
turned_quiet (Ends result s h) w a rs quiet keeps m = quiet_marked w a rs s h None quiet keeps.0 keeps.1 m
