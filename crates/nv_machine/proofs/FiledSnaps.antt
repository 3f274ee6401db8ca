-- Makings, drops, picks and releases keep what marks say of every slot.
use Rattle.std.proofs.Common.{◌≡◌, ℕ, zero, suc, ◌+◌, ◌-◌, ◌<◌, ◌≤◌, ◌==◌, ◌++◌, ◌∙◌, Bool, true, false, cond, not, List, [], ◌∷◌, Option, Some, None, ap, arith, inl, inr, length, refl, slice_get, subst, sym, take}
use Rattle.std.specs.List.{AllByRecursion}
use Rattle.std.specs.Option.{option_map}
use Rattle.std.proofs.lemmas.Bool.{cases_lt, false≢true}
use Rattle.std.proofs.lemmas.Option.{same_Some}
use Rattle.nv_book.specs.Book.{after_drop_snapshot, after_make_snapshot, after_pick}
use Rattle.nv_book.specs.Listed.{unheld, with_moved, without_first}
use Rattle.nv_book.specs.Records.{holder_of}
use Rattle.nv_book.specs.declared.record.Record.{Record}
use Rattle.nv_calls.specs.Retiring.{erased, released}
use Rattle.nv_calls.specs.Slots.{IsBefore}
use Rattle.nv_cell.specs.Cell.{CellState, log_of}
use Rattle.nv_cell.specs.Marks.{is_current, mark_at}
use Rattle.nv_cell.specs.declared.killed.KilledPart.{KilledPart}
use Rattle.nv_cell.specs.declared.mark.Mark.TheVariants.{Out}
use Rattle.nv_cell.proofs.NamedParts.{pair_first, pair_later}
use Rattle.nv_cell.proofs.ValuesNow.{IsLog-take}
use Rattle.nv_entry.specs.Covered.{part_count, part_total}
use Rattle.nv_entry.specs.Held as held
use Rattle.nv_entry.specs.Held.{holds}
use Rattle.nv_entry.specs.Keys.{Key, covers, parts_of}
use Rattle.nv_entry.specs.Log.{IsLog, first_cover, pair_of, pairs}
use Rattle.nv_entry.specs.declared.held.Pair.{Pair}
use Rattle.nv_entry.specs.declared.item.Entry.{Entry}
use Rattle.nv_entry.specs.declared.part.Part.{Part}
use Rattle.nv_epoch.specs.Holders.{without}
use Rattle.nv_epoch.specs.SnapList.{ids}
use Rattle.nv_machine.specs.Held.{killed_by_actor, killed_by_call, killed_in, picked_by_actor, picked_by_call}
use Rattle.nv_machine.specs.Locks.{AreLocks}
use Rattle.nv_machine.specs.Step.{changed}
use Rattle.nv_machine.specs.World.{Actor, HandState, Running, Shared, World, actor_at, cell_at, with_book, with_cell}
use Rattle.nv_machine.proofs.FiledBooks.{ids_made, ids_removed}
use Rattle.nv_machine.proofs.FiledCommits.{one_cell}
use Rattle.nv_machine.proofs.FiledDrops.{makes, removes}
use Rattle.nv_machine.proofs.EachElement.{all_append, all_back, all_filter, all_front, all_weaker, all_with}
use Rattle.nv_machine.proofs.FiledLists.{all_first, all_moved, count, count_append, count_cons, count_first, count_moved, first_among, first_unheld, one}
use Rattle.nv_machine.proofs.FiledMarks.{IsTold, is_filed_on, pair_low}
use Rattle.nv_machine.proofs.FiledPublish.{filed_marks, living_marks}
use Rattle.nv_machine.proofs.FiledSteps.{MarksOf, erased_cell, erased_fresh, none_fresh, other_slot, recounted, released_cell}
use Rattle.nv_machine.proofs.FiledTurns.{Listed}
use Rattle.nv_machine.proofs.FiledWorlds.{AreMarked, marks_as, no_killed, picked_in, same_killed, same_picked}
use Rattle.nv_cell.proofs.NamedPairs.{current_is}
use Rattle.nv_machine.proofs.Pairs.{dead_then, record_dropped, record_made}
use Rattle.nv_machine.proofs.PartsFor.{own_all, swap_all, swap_count}

-- ---- deaths are of epochs in the log

abbrev pub AreBy : ℕ → List Entry → Type 0
AreBy epoch log = AllByRecursion (λ (e : Entry). e.epoch ≤ epoch) log

cover_by : (block epoch : ℕ) (log : List Entry) (key : Key) (death : ℕ) → AreBy epoch log → first_cover block log key ≡ Some death
    → death ≤ epoch
cover_by block epoch [] key death by e = cc
cover_by block epoch (x ∷ log) key death by e = go (covers block x.item key) e (cover_by block epoch log key death by.1) where
  go : (b : Bool) → cond b (Some x.epoch) (first_cover block log key) ≡ Some death
      → (first_cover block log key ≡ Some death → death ≤ epoch) → death ≤ epoch
  go true f more = let same : x.epoch ≡ death = cc in omega (arith, same, by.0)
  go false f more = more f

pub dead_by : (block epoch : ℕ) (log : List Entry) (n death : ℕ) (pair : Pair) → AreBy epoch log
    → slice_get (pairs block log) n ≡ Some pair → pair.death ≡ Some death → death ≤ epoch
dead_by block epoch [] n death pair by got dead = cc
dead_by block epoch (x ∷ log) n death pair by got dead = elim (cases_lt n (part_count x)) [
  | inl lt ↦ own (slice_get (parts_of x.item) n) (sym (pair_first block x log n lt) ∙ got)
  | inr ge ↦ dead_by block epoch log (n - part_count x) death pair by.1 (sym (pair_later block x log n ge) ∙ got) dead
] where
  own : (o : Option Part) → option_map (pair_of block x log) o ≡ Some pair → death ≤ epoch
  own None e = cc
  own (Some p) e =
      let same : pair_of block x log p ≡ pair = same_Some (pair_of block x log p) pair e in
      cover_by block epoch log _ death by.1 (ap (λ (q : Pair). q.death) same ∙ dead)

take_by : (epoch t : ℕ) (log : List Entry) → AreBy epoch log → AreBy epoch (take t log)
take_by epoch zero log by = tt
take_by epoch (suc t) [] by = tt
take_by epoch (suc t) (e ∷ log) by = (by.0, take_by epoch t log by.1)

-- a part that is out has died, and no later snapshot holds it
not_held_later : (living : List ℕ) (ino epoch : ℕ) (killed : List KilledPart) (rs : List Record) (cell : CellState) → IsLog (log_of cell)
    → AreBy epoch (log_of cell) → MarksOf living ino epoch killed rs cell → (n : ℕ) (pair : Pair)
    → slice_get (pairs cell.block (log_of cell)) n ≡ Some pair → mark_at cell.marks n ≡ Out → holds epoch pair ≡ false
not_held_later living ino epoch killed rs cell is by h n pair got out = go pair.death refl where
  low : n < part_total (log_of cell)
  low = pair_low cell.block (log_of cell) n pair got

  dead : held.is_current pair ≡ false
  dead = current_is cell.block (log_of cell) is n pair got ∙ sym (h.current n low) ∙ ap is_current out

  go : (o : Option ℕ) → pair.death ≡ o → holds epoch pair ≡ false
  go None e = absurd (false≢true (sym dead ∙ ended)) where
    ended : held.is_current pair ≡ true
    ended = rw e refl
  go (Some death) e = dead_then epoch death pair e (dead_by cell.block epoch (log_of cell) n death pair by got e)

module _ (w : World) (a : ℕ) (rs : List Record) (locks : AreLocks w) (free : w.shared.holder ≡ None)
    (logs : (ino : ℕ) → IsBefore (w.shared.book.commit + 1) w.shared.book.snaps.epoch (cell_at w.shared ino).chain.entries)
    (l : Listed rs w.shared) (m : AreMarked w rs) (h : HandState) (running : Option Running)
    (killed : (ino : ℕ) → killed_by_call running h ino ≡ killed_by_actor ino (actor_at w a)) where
  abbrev s : Shared
  s = w.shared

  abbrev living : List ℕ
  living = ids w.shared.book.snaps

  abbrev epoch : ℕ
  epoch = w.shared.book.snaps.epoch

  log_is : (ino : ℕ) → IsLog (log_of (cell_at s ino))
  log_is ino = IsLog-take (cell_at s ino).chain.tail (cell_at s ino).chain.entries (logs ino).ordered

  by_now : (ino : ℕ) → AreBy epoch (log_of (cell_at s ino))
  by_now ino = take_by epoch (cell_at s ino).chain.tail (cell_at s ino).chain.entries (all_weaker
      (λ (e : Entry). (e.id.commit < s.book.commit + 1) × (e.epoch ≤ epoch)) (λ (e : Entry). e.epoch ≤ epoch) (λ e both. both.1)
      (cell_at s ino).chain.entries (logs ino).earlier)

  none_now : (t : Shared) (ino : ℕ) → killed_in (changed t h running a w) ino ≡ []
  none_now t ino = same_killed w a ino t h running (killed ino) ∙ no_killed w ino locks free

  before : (ino : ℕ) → MarksOf living ino epoch [] (rs ++ picked_in w) (cell_at s ino)
  before ino = marks_as living ino epoch (killed_in w ino) [] (rs ++ picked_in w) (rs ++ picked_in w) (cell_at s ino)
      (sym (no_killed w ino locks free)) refl (m.cells ino)

  -- ---- a making

  pub make_marked : picked_by_call running ≡ picked_by_actor (actor_at w a)
      → ((ino : ℕ) → (cell_at s ino).chain.tail ≡ length (cell_at s ino).chain.entries)
      → AreMarked (changed (with_book (after_make_snapshot s.book) s) h running a w) rs
  make_marked picks tails =
      let t : Shared = with_book (after_make_snapshot s.book) s in
      let v : World = changed t h running a w in
      let picked : picked_in v ≡ picked_in w = same_picked w a t h running picks in
      record {
        cells = λ ino. marks_as (ids t.book.snaps) ino (epoch + 1) [] (killed_in v ino) (rs ++ picked_in w) (rs ++ picked_in v)
            (cell_at s ino)
            (none_now t ino) (ap (λ (d : List Record). rs ++ d) picked)
            (subst (λ (ss : List ℕ). MarksOf ss ino (epoch + 1) [] (rs ++ picked_in w) (cell_at s ino)) (sym (ids_made s.book.snaps))
            (living_marks living (living ++ epoch ∷ []) ino epoch (epoch + 1) (rs ++ picked_in w) (cell_at s ino).block
            (log_of (cell_at s ino)) (cell_at s ino).marks (before ino) (told_made ino)
            (λ n pair got out all. all_append (λ x. holds x pair ≡ false) living (epoch ∷ []) all (
              not_held_later living ino epoch [] (rs ++ picked_in w) (cell_at s ino) (log_is ino) (by_now ino) (before ino) n pair got out,
              tt,
            ))));
        fresh = λ ino. none_fresh (epoch + 1) (cell_at s ino) (tails ino);
        unheld = subst (λ (ss : List ℕ). AllByRecursion (λ d. holder_of ss d ≡ None) (picked_in v)) (sym (ids_made s.book.snaps))
            (subst (AllByRecursion (λ d. holder_of (living ++ epoch ∷ []) d ≡ None)) (sym picked)
            (still_unheld (picked_in w) m.unheld m.dead));
        dead = subst (AllByRecursion (λ (d : Record). d.death ≤ epoch + 1)) (sym picked)
            (all_weaker (λ (d : Record). d.death ≤ epoch) (λ (d : Record). d.death ≤ epoch + 1) (λ d le. omega (arith, le)) (picked_in w)
            m.dead);
      }
    where
      -- records are of pairs that have died by now, and so have they
      told_made : (ino : ℕ) → AllByRecursion (IsTold (living ++ epoch ∷ []) ino (cell_at s ino).block (log_of (cell_at s ino)))
          (rs ++ picked_in w)
      told_made ino =
          let cell : CellState = cell_at s ino in
          all_with (IsTold living ino cell.block (log_of cell)) (λ (d : Record). d.death ≤ epoch)
          (IsTold (living ++ epoch ∷ []) ino cell.block (log_of cell))
          (λ d of le same. record_made living epoch cell.block (log_of cell) d le
          (λ n death pair got dead. dead_by cell.block epoch (log_of cell) n death pair (by_now ino) got dead) (of same))
          (rs ++ picked_in w) (before ino).told
          (all_append (λ (d : Record). d.death ≤ epoch) rs (picked_in w) l.dead m.dead)

      still_unheld : (ds : List Record) → AllByRecursion (λ d. holder_of living d ≡ None) ds
          → AllByRecursion (λ (d : Record). d.death ≤ epoch) ds → AllByRecursion (λ d. holder_of (living ++ epoch ∷ []) d ≡ None) ds
      still_unheld [] none dead = tt
      still_unheld (d ∷ ds) none dead = (makes living epoch d.birth d.death dead.0 ∙ none.0, still_unheld ds none.1 dead.1)

  -- ---- a drop

  pub drop_marked : (snapshot : ℕ) → picked_by_call running ≡ picked_by_actor (actor_at w a)
      → AreMarked (changed (with_book (after_drop_snapshot snapshot s.book) s) h running a w) (with_moved snapshot living rs)
  drop_marked snapshot picks =
      let t : Shared = with_book (after_drop_snapshot snapshot s.book) s in
      let v : World = changed t h running a w in
      let picked : picked_in v ≡ picked_in w = same_picked w a t h running picks in
      let moved : List Record = with_moved snapshot living rs in
      let left : List ℕ = without snapshot living in
      record {
        cells = λ ino. let cell : CellState = cell_at s ino in
            let T : Record → Type 0 = IsTold living ino cell.block (log_of cell) in
            let was = before ino in
            let told = all_append T moved (picked_in w) (all_moved T snapshot living rs (all_front T rs (picked_in w) was.told))
            (all_back T rs (picked_in w) was.told) in
            marks_as (ids t.book.snaps) ino epoch [] (killed_in v ino) (moved ++ picked_in w) (moved ++ picked_in v) cell
            (none_now t ino) (ap (λ (d : List Record). moved ++ d) picked)
            (subst (λ (ss : List ℕ). MarksOf ss ino epoch [] (moved ++ picked_in w) cell) (sym (ids_removed s.book.snaps.living snapshot))
            (living_marks living left ino epoch epoch (moved ++ picked_in w) cell.block (log_of cell) cell.marks
            (filed_marks living ino epoch [] (rs ++ picked_in w) (moved ++ picked_in w) cell.block (log_of cell) cell.marks was
            (λ p. omega (
              arith,
              count_append p moved (picked_in w),
              count_append p rs (picked_in w),
              count_moved p snapshot living rs,
            ))
            told)
            (all_weaker T (IsTold left ino cell.block (log_of cell))
            (λ d of same. record_dropped living (λ x. not (x == snapshot)) cell.block (log_of cell) d (of same))
            (moved ++ picked_in w) told)
            (λ n pair got out all. all_filter (λ x. holds x pair ≡ false) (λ x. not (x == snapshot)) living all)));
        fresh = m.fresh;
        unheld = subst (λ (ss : List ℕ). AllByRecursion (λ d. holder_of ss d ≡ None) (picked_in v))
            (sym (ids_removed s.book.snaps.living snapshot))
            (subst (AllByRecursion (λ d. holder_of left d ≡ None)) (sym picked)
            (all_weaker (λ d. holder_of living d ≡ None) (λ d. holder_of left d ≡ None)
            (λ d none. (removes living snapshot l.rising).none d.birth d.death none) (picked_in w) m.unheld));
        dead = subst (AllByRecursion (λ (d : Record). d.death ≤ epoch)) (sym picked) m.dead;
      }

  -- ---- a pick

  pub pick_marked : (d : Record) (ds : List Record) → s.book.deferred ≡ d ∷ ds → a < length w.actors
      → picked_by_actor (actor_at w a) ≡ [] → picked_by_call running ≡ d ∷ []
      → AreMarked (changed (with_book (after_pick s.book) s) h running a w) (without_first living rs)
  pick_marked d ds e there none picks =
      let t : Shared = with_book (after_pick s.book) s in
      let v : World = changed t h running a w in
      let x : Actor = record { hand = h; running = running } in
      let first : unheld living rs ≡ d ∷ ds = sym l.list.deferred_is ∙ e in
      let left : List Record = without_first living rs in
      let swapped : (P : Record → Type 0) → AllByRecursion P (picked_in w) → P d → AllByRecursion P (picked_in v) =
      λ P all new. swap_all picked_by_actor P w.actors a x all (rw picks (new, tt)) in
      let counted : (p : Record → Bool) → count p (picked_in v) ≡ one (p d) + count p (picked_in w) =
      λ p. omega (
        arith,
        swap_count picked_by_actor p w.actors a x there,
        ap (λ (ys : List Record). count p ys) none,
        ap (λ (ys : List Record). count p ys) picks,
        count_cons p d [],
      ) in
      record {
        cells = λ ino. let cell : CellState = cell_at s ino in
            let T : Record → Type 0 = IsTold living ino cell.block (log_of cell) in
            let was = before ino in
            marks_as living ino epoch [] (killed_in v ino) (left ++ picked_in v) (left ++ picked_in v) cell (none_now t ino) refl
            (filed_marks living ino epoch [] (rs ++ picked_in w) (left ++ picked_in v) cell.block (log_of cell) cell.marks was
            (λ p. omega (
              arith,
              count_append p left (picked_in v),
              count_append p rs (picked_in w),
              counted p,
              count_first p living d ds rs first,
            ))
            (all_append T left (picked_in v) (all_first T living rs (all_front T rs (picked_in w) was.told))
            (swapped T (all_back T rs (picked_in w) was.told)
            (first_among T living d ds rs first (all_front T rs (picked_in w) was.told)))));
        fresh = m.fresh;
        unheld = swapped (λ r. holder_of living r ≡ None) m.unheld (first_unheld living d ds rs first);
        dead = swapped (λ (r : Record). r.death ≤ epoch) m.dead
            (first_among (λ (r : Record). r.death ≤ epoch) living d ds rs first l.dead);
      }

-- ---- a release

pub release_marked : (w : World) (a : ℕ) (rs : List Record) (d : Record) (h : HandState) (running : Option Running) → a < length w.actors
    → ((ino : ℕ) → killed_by_call running h ino ≡ killed_by_actor ino (actor_at w a))
    → picked_by_actor (actor_at w a) ≡ d ∷ [] → picked_by_call running ≡ [] → d.ino < length w.shared.cells
    → IsLog (cell_at w.shared d.ino).chain.entries → AreMarked w rs
    → AreMarked (changed (with_cell d.ino (erased (released d (cell_at w.shared d.ino))) w.shared) h running a w) rs
release_marked w a rs d h running there killed had now low log m =
    let s : Shared = w.shared in
    let living = ids s.book.snaps in
    let epoch = s.book.snaps.epoch in
    let cell : CellState = cell_at s d.ino in
    let t : Shared = with_cell d.ino (erased (released d cell)) s in
    let v : World = changed t h running a w in
    let x : Actor = record { hand = h; running = running } in
    let is : IsLog (log_of cell) = IsLog-take cell.chain.tail cell.chain.entries log in
    let left : (P : Record → Type 0) → AllByRecursion P (picked_in w) → AllByRecursion P (picked_in v) =
    λ P all. swap_all picked_by_actor P w.actors a x all (rw now tt) in
    let own : (P : Record → Type 0) → AllByRecursion P (picked_in w) → P d =
    λ P all. (rw had at (own_all picked_by_actor P w.actors a there all)).0 in
    let counts : (p : Record → Bool) → count p (rs ++ picked_in w) ≡ one (p d) + count p (rs ++ picked_in v) =
    λ p. omega (
      arith,
      swap_count picked_by_actor p w.actors a x there,
      ap (λ (ys : List Record). count p ys) had,
      ap (λ (ys : List Record). count p ys) now,
      count_cons p d [],
      count_append p rs (picked_in w),
      count_append p rs (picked_in v),
    ) in
    let same : (ino : ℕ) → killed_in v ino ≡ killed_in w ino = λ ino. same_killed w a ino t h running (killed ino) in
    let told : (ino : ℕ) → AllByRecursion (IsTold living ino (cell_at s ino).block (log_of (cell_at s ino))) (rs ++ picked_in v) =
    λ ino. (let T : Record → Type 0 = IsTold living ino (cell_at s ino).block (log_of (cell_at s ino)) in
    all_append T rs (picked_in v) (all_front T rs (picked_in w) (m.cells ino).told)
    (left T (all_back T rs (picked_in w) (m.cells ino).told))) in
    let T : Record → Type 0 = IsTold living d.ino cell.block (log_of cell) in
    one_cell w a d.ino rs rs t h running (erased (released d cell)) (λ ino. refl) refl low
    (erased_cell living d.ino epoch (killed_in v d.ino) (rs ++ picked_in v) (released d cell) is
    (marks_as living d.ino epoch (killed_in w d.ino) (killed_in v d.ino) (rs ++ picked_in v) (rs ++ picked_in v) (released d cell)
    (same d.ino) refl
    (released_cell living epoch (killed_in w d.ino) (rs ++ picked_in w) (rs ++ picked_in v) d cell is (m.cells d.ino)
    (own T (all_back T rs (picked_in w) (m.cells d.ino).told) refl) counts (told d.ino) (own (λ r. holder_of living r ≡ None) m.unheld))))
    (λ ino ne. marks_as living ino epoch (killed_in w ino) (killed_in v ino) (rs ++ picked_in v) (rs ++ picked_in v) (cell_at s ino)
    (same ino) refl
    (recounted living ino epoch (killed_in w ino) (rs ++ picked_in w) (rs ++ picked_in v) (cell_at s ino)
    (λ n. (let out : is_filed_on ino (log_of (cell_at s ino)) n d ≡ false = other_slot ino (log_of (cell_at s ino)) n d ne in
    omega (arith, counts (is_filed_on ino (log_of (cell_at s ino)) n), ap one out)))
    (told ino) (m.cells ino)))
    (erased_fresh epoch (released d cell) (m.fresh d.ino))
    (left (λ r. holder_of living r ≡ None) m.unheld) (left (λ (r : Record). r.death ≤ epoch) m.dead) m
