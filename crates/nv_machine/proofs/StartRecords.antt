-- In a world where a run may start the marks of each slot tell which of its parts are recorded.
use Rattle.std.proofs.Common.{◌≡◌, ℕ, zero, suc, ◌<◌, ◌≤◌, ◌==◌, if◌then◌else◌, ◌++◌, ◌∙◌, Bool, true, false, List, [], ◌∷◌, Some, None, ap, append-nil, arith, inl, inr, length, refl, subst, sym}
use Rattle.std.specs.Prelude.{All}
use Rattle.std.specs.List.{AllByRecursion}
use Rattle.std.specs.Option.{IsSome}
use Rattle.std.proofs.lemmas.Bool.{cases_lt, eqb-true, or_parts}
use Rattle.std.proofs.lemmas.List.{drop_all, get_or_past}
use Rattle.nv_base.specs.declared.geometry.GeometryNumbers.{GeometryNumbers}
use Rattle.nv_book.specs.Listed.{all_records}
use Rattle.nv_book.specs.Records.{holder_of}
use Rattle.nv_book.specs.declared.record.Record.{Record}
use Rattle.nv_cell.specs.Cell.{HasMarks, log_of}
use Rattle.nv_cell.specs.Marks.{bit, mark_at}
use Rattle.nv_cell.specs.declared.killed.KilledPart.{KilledPart}
use Rattle.nv_entry.specs.Held.{holds, is_held}
use Rattle.nv_entry.specs.declared.held.Pair.{Pair}
use Rattle.nv_entry.specs.declared.item.Entry.{Entry}
use Rattle.nv_epoch.specs.SnapList.{ids, numbers, pins_at}
use Rattle.nv_epoch.specs.declared.snapshot.Snapshot.{Snapshot}
use Rattle.nv_machine.specs.Held.{killed_by_actor, killed_in, picked_by_actor}
use Rattle.nv_machine.specs.Recorded.{IsOfPair, is_marked_kept, recorded_in}
use Rattle.nv_machine.specs.Starts.{IsStart}
use Rattle.nv_machine.specs.World.{World, cell_at, no_cell}
use Rattle.nv_machine.proofs.FiledLists.{count, count_append, count_filed}
use Rattle.nv_machine.proofs.FiledMarks.{IsTold, is_filed_on}
use Rattle.nv_machine.proofs.FiledSteps.{MarksOf}
use Rattle.nv_machine.proofs.FiledTurns.{Listed}
use Rattle.nv_machine.proofs.FiledWorlds.{AreMarked, picked_in}
use Rattle.nv_machine.proofs.Pairs.{IsRecordOf}
use Rattle.nv_machine.proofs.PartsFor.{none_of}
use Rattle.nv_machine.proofs.SnapshotCopies.{AreBefore}

-- ---- the living snapshots

before_at : (epoch n : ℕ) (living : List Snapshot) → All (λ s. s < epoch) (numbers living) → IsSome (pins_at living n) → n < epoch
before_at epoch n [] all lives = cc
before_at epoch n (s ∷ living) all lives =
    go (s.number == n) refl (before_at epoch n living (λ k d lt. all (suc k) d (omega (arith, lt)))) lives where
      go : (b : Bool) → (s.number == n) ≡ b → (IsSome (pins_at living n) → n < epoch)
          → IsSome (if b then Some s.pins else pins_at living n) → n < epoch
      go true same later lives = omega (arith, all zero 0 (omega arith), eqb-true s.number n same)
      go false same later lives = later lives

none_holds : (living : List ℕ) (pair : Pair) → is_held living pair ≡ false → AllByRecursion (λ s. holds s pair ≡ false) living
none_holds [] pair e = tt
none_holds (s ∷ living) pair e = let parts = or_parts (holds s pair) (is_held living pair) e in (parts.0, none_holds living pair parts.1)

-- what each record is of, told of one slot
told_of : (w : World) (ino : ℕ) (rs : List Record) → AllByRecursion (IsOfPair w) rs
    → AllByRecursion (IsTold (ids w.shared.book.snaps) ino (cell_at w.shared ino).block (log_of (cell_at w.shared ino))) rs
told_of w ino [] all = tt
told_of w ino (d ∷ rs) all = (
  (λ same. subst (λ (n : ℕ). IsRecordOf (ids w.shared.book.snaps) (cell_at w.shared n).block (log_of (cell_at w.shared n)) d) same (record {
    n = all.0.n;
    pair = all.0.pair;
    is = all.0.is;
    name = all.0.name;
    birth_is = all.0.birth;
    died = all.0.died;
    holders = all.0.holders;
  })),
  told_of w ino rs all.1,
)

module _ (g : GeometryNumbers) (w : World) (records : List Record) (is : IsStart g w records) where
  pub first_before : AreBefore w.shared.book.snaps
  first_before n lives = before_at w.shared.book.snaps.epoch n w.shared.book.snaps.living is.before lives

  pub first_listed : Listed records w.shared
  first_listed = record { rising = is.rising; below = is.before; list = is.list; dead = is.dead }

  no_picked : picked_in w ≡ []
  no_picked = none_of picked_by_actor w.actors (λ b. ap picked_by_actor (is.idle_all b))

  no_killed : (ino : ℕ) → killed_in w ino ≡ []
  no_killed ino = none_of (killed_by_actor ino) w.actors (λ b. ap (killed_by_actor ino) (is.idle_all b))

  -- a part is recorded on the list as often as in manifests and among what is pending
  filed : (ino n : ℕ) → count (is_filed_on ino (log_of (cell_at w.shared ino)) n) records
      ≡ bit (is_marked_kept (mark_at (cell_at w.shared ino).marks n))
  filed ino n =
      let p : Record → Bool = is_filed_on ino (log_of (cell_at w.shared ino)) n in
      let book = w.shared.book in
      let all = count_append p (all_records book.manifests) (book.deferred ++ picked_in w) in
      let rest = count_append p book.deferred (picked_in w) in
      let picked : count p (picked_in w) ≡ 0 = ap (count p) no_picked in
      let list = count_filed p (ids book.snaps) book.manifests book.deferred records is.rising is.list in
      let once : count p (recorded_in w) ≡ bit (is_marked_kept (mark_at (cell_at w.shared ino).marks n)) = is.recorded ino n in
      omega (arith, all, rest, picked, list, once)

  marks_of : (ino : ℕ) → HasMarks (cell_at w.shared ino)
  marks_of ino = elim (cases_lt ino (length w.shared.cells)) [
    | inl lt ↦ (is.cells ino (omega (arith, lt, is.slots))).marks
    | inr past ↦ subst HasMarks (sym (get_or_past w.shared.cells ino no_cell past))
        (record { len = refl; current = λ n lt. absurd (omega (arith, lt)) })
  ]

  marks : (ino : ℕ) → MarksOf (ids w.shared.book.snaps) ino w.shared.book.snaps.epoch [] records (cell_at w.shared ino)
  marks ino = record {
    len = (marks_of ino).len;
    current = (marks_of ino).current;
    killed_are = λ n. ap bit (sym (is.alive ino n));
    kept_are = filed ino;
    dying = tt;
    told = told_of w ino records is.paired;
    out = λ n pair got gone. none_holds (ids w.shared.book.snaps) pair (is.out ino n pair got gone);
  }

  pub first_marked : AreMarked w records
  first_marked = record {
    cells = λ ino. subst (λ (ks : List KilledPart). MarksOf (ids w.shared.book.snaps) ino w.shared.book.snaps.epoch ks
        (records ++ picked_in w) (cell_at w.shared ino)) (sym (no_killed ino))
        (subst (λ (rs : List Record). MarksOf (ids w.shared.book.snaps) ino w.shared.book.snaps.epoch [] rs (cell_at w.shared ino))
        (sym (ap (λ (rs : List Record). records ++ rs) no_picked ∙ append-nil records)) (marks ino));
    fresh = λ ino. subst (AllByRecursion (λ (e : Entry). e.epoch ≡ w.shared.book.snaps.epoch))
        (sym (drop_all (cell_at w.shared ino).chain.tail (cell_at w.shared ino).chain.entries (omega (arith, is.tails ino)))) tt;
    unheld = subst (AllByRecursion (λ d. holder_of (ids w.shared.book.snaps) d ≡ None)) (sym no_picked) tt;
    dead = subst (AllByRecursion (λ (d : Record). d.death ≤ w.shared.book.snaps.epoch)) (sym no_picked) tt;
  }
