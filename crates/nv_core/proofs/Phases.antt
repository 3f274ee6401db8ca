-- A commit on its way: its begin, what it is given while it appends, and what all its appends and publishes come to.
use Rattle.std.proofs.Common.{◌≡◌, ℕ, ◌+◌, ◌<◌, ◌≤◌, ◌⊎◌, inl, inr, nat_lt, Bool, true, false, cond, List, length, Option, None, Some, arith, refl, ap, ap₂, sym, ◌∙◌, subst, []}
use Rattle.std.specs.Option.{IsSome, option_map}
use Rattle.std.proofs.lemmas.Bool.{le-ltb, lt-ltb}
use Rattle.nv_base.specs.declared.numbers.Handle.{Handle}
use Rattle.nv_book.specs.Book.{BookValue, with_journal}
use Rattle.nv_cell.specs.Cell.{CellValue, killed_by, published}
use Rattle.nv_cell.specs.Room.{IsReadyFor}
use Rattle.nv_journal.specs.declared.old_tail.OldTail.{OldTail}
use Rattle.nv_calls.specs.CanCommit.{CanBePublished, CanCommit, CanRetireAll, KillsAsTold}
use Rattle.nv_calls.specs.Cells.{AreCells, state_at, value_at, with_value}
use Rattle.nv_calls.specs.Commit.{CommitValue, HasJournal, after_append, after_close, after_open, begun, stamp_of, to_append}
use Rattle.nv_calls.specs.Committed.{ChangesPlanned, HaveAppendRoom, HaveSamePlaces, grown, journaled, cell_place_of}
use Rattle.nv_calls.specs.PlanByPlan.{AppendsTo, PublishesTo, published_of}
use Rattle.nv_calls.specs.Progress.{is_open}
use Rattle.nv_calls.specs.Ready.{ArePlaced, CellCommitValue, ReadyValue, old_tails, plan_at}
use Rattle.nv_calls.specs.Steps.{CanAppendPlan, with_plan}
use Rattle.nv_calls.proofs.AppendAll as append_all
use Rattle.nv_calls.proofs.Changes.{all_changed}
use Rattle.nv_calls.proofs.Composed.{AreAppended, ArePublished, appended_by, can_publish, can_retire, done_placed, full_cells, full_placed, published_by, stamp_is}
use Rattle.nv_calls.proofs.Tails.{journal_open}
use Rattle.nv_core.specs.Committing.{Begin, IsAppending, IsCommitting, IsPublishing, IsRetiring, first_of, noted_by, shelf_by}
use Rattle.nv_core.proofs.Appends.{append_way}

-- ---- at its begin

pub begins : (cpu : ℕ) (cells : List (ℕ × CellValue)) (book : BookValue) (ready : ReadyValue) → CanCommit cells book cpu ready
    → IsCommitting cpu cells book (begun (stamp_of book.state) ready)
begins cpu cells book ready can = record {
  begin = record { cells = cells; shelf = book; ready = ready };
  can = can;
  way = record {
    appended = omega arith;
    published = omega arith;
    retired = omega arith;
    appends = λ less. refl;
    publishes = λ less. refl;
    opened = λ is. cc;
    between = λ two some less. absurd (omega (arith, some));
  };
  phase = inl (record { to = append_all.begins cells (begun (stamp_of book.state) ready) refl refl; book_is = refl });
}

-- ---- the journal, where it is due

-- what the opening leaves as it is
pub noted_field : {X : Type 0} (cpu : ℕ) (cells : List (ℕ × CellValue)) (c : CommitValue) (f : CommitValue → X)
    → f (after_open cpu (old_tails cells c.plans) c) ≡ f c → f (noted_by cpu cells c) ≡ f c
noted_field cpu cells c f same = go (nat_lt 1 (length c.plans)) where
  go : (b : Bool) → f (cond b (after_open cpu (old_tails cells c.plans) c) c) ≡ f c
  go true = same
  go false = refl

pub noted_two : (cpu : ℕ) (cells : List (ℕ × CellValue)) (c : CommitValue) → 2 ≤ length c.plans
    → noted_by cpu cells c ≡ after_open cpu (old_tails cells c.plans) c
noted_two cpu cells c two = rw (lt-ltb 1 (length c.plans) (omega (arith, two))) refl

pub shelf_two : (cpu : ℕ) (cells : List (ℕ × CellValue)) (c : CommitValue) (shelf : BookValue) → 2 ≤ length c.plans
    → shelf_by cpu cells c shelf ≡ (let b : BookValue = record shelf {
      state = with_journal cpu
          (old_tails cells c.plans) shelf.state;
    } in b)
shelf_two cpu cells c shelf two = rw (lt-ltb 1 (length c.plans) (omega (arith, two))) refl

pub noted_one : (cpu : ℕ) (cells : List (ℕ × CellValue)) (c : CommitValue) → length c.plans < 2 → noted_by cpu cells c ≡ c
noted_one cpu cells c lt = rw (le-ltb 1 (length c.plans) (omega (arith, lt))) refl

pub shelf_one : (cpu : ℕ) (cells : List (ℕ × CellValue)) (c : CommitValue) (shelf : BookValue) → length c.plans < 2
    → shelf_by cpu cells c shelf ≡ shelf
shelf_one cpu cells c shelf lt = rw (le-ltb 1 (length c.plans) (omega (arith, lt))) refl

-- ---- on its way

module _ (cpu : ℕ) (now : List (ℕ × CellValue)) (book : BookValue) (commit : CommitValue) (w : IsCommitting cpu now book commit) where
  abbrev pub b : Begin
  b = w.begin

  abbrev pub n : ℕ
  n = length b.ready.plans

  -- ---- the counts in each phase

  pub append_counts : IsAppending b now book commit → (commit.published ≡ 0) × (is_open commit ≡ false) × (length commit.plans ≡ n)
  append_counts a = (ap (λ (c : CommitValue). c.published) a.to.is, ap is_open a.to.is, a.to.plans.same.count)

  pub publish_counts : IsPublishing b cpu now book commit → (commit.appended ≡ n) × (length commit.plans ≡ n)
  publish_counts p = (
    ap (λ (c : CommitValue). c.appended) p.to.is
        ∙ noted_field cpu p.full p.appended (λ (c : CommitValue). c.appended) refl
        ∙ ap (λ (c : CommitValue). c.appended) p.all.is,
    p.to.plans.same.count
        ∙ noted_field cpu p.full p.appended (λ (c : CommitValue). length c.plans) refl
        ∙ p.all.plans.same.count,
  )

  pub retire_counts : IsRetiring b cpu now book commit → (commit.appended ≡ n) × (commit.published ≡ n) × (length commit.plans ≡ n)
      × (is_open commit ≡ false)
  retire_counts r = (
    ap (λ (c : CommitValue). c.appended) r.to.is
        ∙ ap (λ (c : CommitValue). c.appended) r.done.is
        ∙ noted_field cpu r.full r.appended (λ (c : CommitValue). c.appended) refl
        ∙ ap (λ (c : CommitValue). c.appended) r.all.is,
    ap (λ (c : CommitValue). c.published) r.to.is ∙ ap (λ (c : CommitValue). c.published) r.done.is,
    r.to.plans.same.count ∙ r.done.plans.same.count
        ∙ noted_field cpu r.full r.appended (λ (c : CommitValue). length c.plans) refl
        ∙ r.all.plans.same.count,
    ap is_open r.to.is,
  )

  -- ---- appending

  module _ (lt : commit.appended < length commit.plans) where
    pub appending : IsAppending b now book commit
    appending = go w.phase where
      go : IsAppending b now book commit ⊎ (IsPublishing b cpu now book commit ⊎ IsRetiring b cpu now book commit)
          → IsAppending b now book commit
      go (inl a) = a
      go (inr (inl p)) = let counts = publish_counts p in absurd (omega (arith, lt, counts.0, counts.1))
      go (inr (inr r)) = let counts = retire_counts r in absurd (omega (arith, lt, counts.0, counts.2))

    pub append_inside : commit.appended < length (first_of b).plans
    append_inside = let counts = append_counts appending in omega (arith, lt, counts.2)

    pub append_can : CanAppendPlan commit.stamp commit.place (to_append commit).items commit.hand (value_at now (to_append commit).at)
    append_can = append_all.can_next commit.appended b.cells (first_of b) now commit w.can.placed append_inside appending.to w.can.append

    pub append_within : (to_append commit).at < length now
    append_within =
        omega (
          arith,
          append_all.at_is commit.appended b.cells (first_of b) now commit w.can.placed append_inside appending.to,
          w.can.placed.within commit.appended append_inside,
          appending.to.changed.count,
        )

    pub append_goes : (new : List (ℕ × CellValue)) (later : CommitValue)
        → new ≡ with_value now (to_append commit).at
        (with_plan commit.stamp commit.place (to_append commit).items commit.hand (value_at now (to_append commit).at))
        → later ≡ after_append (state_at now (to_append commit).at).chain commit
        → IsReadyFor [] (value_at new (to_append commit).at)
        → IsCommitting cpu new book later
    append_goes new later only is ready =
        let count : commit.appended + 1 ≡ later.appended = sym (ap (λ (c : CommitValue). c.appended) is) in
        record {
          begin = b;
          can = w.can;
          way = append_way commit later (state_at now (to_append commit).at) w.way lt is;
          phase = inl (record {
            to = subst (λ (j : ℕ). AppendsTo j b.cells (first_of b) new later) count
                (append_all.goes_on commit.appended b.cells (first_of b) now commit w.can.placed append_inside appending.to new later only
                is ready);
            book_is = appending.book_is;
          });
        }

-- ---- all is appended

module _ (b : Begin) (cpu : ℕ) (can : CanCommit b.cells b.shelf cpu b.ready) (full : List (ℕ × CellValue)) (appended : CommitValue)
    (all : AppendsTo (length b.ready.plans) b.cells (first_of b) full appended) where
  abbrev pub are : AreAppended b.cells b.shelf cpu b.ready can full appended
  are =
      appended_by b.cells b.shelf cpu b.ready can full appended (first_of b) refl
      (all_changed (length b.ready.plans) b.ready.plans (λ i. (grown b.cells (first_of b) i).state) b.cells full (omega arith) all.changed)
      all.rooms all.ready all.plans.same all.is

  abbrev pub start : CommitValue
  start = noted_by cpu full appended

  pub start_plans : start.plans ≡ appended.plans
  start_plans = noted_field cpu full appended (λ (c : CommitValue). c.plans) refl

  pub many : length appended.plans ≡ length b.ready.plans
  many = all.plans.same.count

  pub start_many : length start.plans ≡ length b.ready.plans
  start_many = ap (λ (ps : List CellCommitValue). length ps) start_plans ∙ many

  pub cells_are_full : AreCells full
  cells_are_full = full_cells b.cells b.shelf cpu b.ready can full appended are

  pub plans_placed : ArePlaced full appended.plans
  plans_placed = full_placed b.cells b.shelf cpu b.ready can full appended are

  pub start_placed : ArePlaced full start.plans
  start_placed = subst (ArePlaced full) (sym start_plans) plans_placed

  pub start_can : (i : ℕ) → i < length start.plans → CanBePublished (value_at full (cell_place_of start.plans i))
  start_can =
      subst (λ (ps : List CellCommitValue). (i : ℕ) → i < length ps → CanBePublished (value_at full (cell_place_of ps i))) (sym start_plans)
      (can_publish b.cells b.shelf cpu b.ready can full appended are)

  -- the journal of two or more is open, with their tails
  pub start_journal : (book : BookValue) → book ≡ shelf_by cpu full appended b.shelf → 2 ≤ length appended.plans
      → HasJournal book.state start
  start_journal book is two =
      journal_open b.shelf book appended start cpu (old_tails full appended.plans) can.cpu_is
      (is ∙ shelf_two cpu full appended b.shelf two) (noted_two cpu full appended two)

  pub start_noted : 2 ≤ length start.plans → start.noted ≡ old_tails full start.plans
  start_noted two =
      ap (λ (c : CommitValue). c.noted)
      (noted_two cpu full appended (omega (arith, two, ap (λ (ps : List CellCommitValue). length ps) start_plans)))
      ∙ ap (old_tails full) (sym start_plans)

  pub start_open : 2 ≤ length appended.plans → start.journal ≡ Some cpu
  start_open two = ap (λ (c : CommitValue). c.journal) (noted_two cpu full appended two)

  pub appended_journal : appended.journal ≡ None
  appended_journal = ap (λ (c : CommitValue). c.journal) all.is

  pub appended_noted : appended.noted ≡ []
  appended_noted = ap (λ (c : CommitValue). c.noted) all.is

  -- the number of a new inode is still in the hand
  pub start_number : start.hand.ino ≡ option_map (λ (h : Handle). h.ino) start.made
  start_number =
      noted_field cpu full appended (λ (c : CommitValue). c.hand.ino) refl
      ∙ ap (λ (c : CommitValue). c.hand.ino) all.is ∙ can.number.number
      ∙ ap (option_map (λ (h : Handle). h.ino))
      (sym (noted_field cpu full appended (λ (c : CommitValue). c.made) refl ∙ ap (λ (c : CommitValue). c.made) all.is))

  -- one inode alone is none that is made
  pub no_number : length b.ready.plans < 2 → b.ready.hand.ino ≡ None
  no_number lt = can.number.number ∙ go b.ready.made can.number.linked where
    go : (made : Option Handle) → (IsSome made → 2 ≤ length b.ready.plans) → option_map (λ (h : Handle). h.ino) made ≡ None
    go None linked = refl
    go (Some h) linked = let two : 2 ≤ length b.ready.plans = linked refl in absurd (omega (arith, two, lt))

  -- ---- all is published

  module _ (over : List (ℕ × CellValue)) (last : CommitValue) (done : PublishesTo (length b.ready.plans) full start over last) where
    abbrev pub shut : CommitValue
    shut = after_close last

    pub shut_is : shut ≡ (let c : CommitValue = record appended {
      plans = last.plans;
      hand = record appended.hand { ino = None };
      published = length appended.plans;
      noted = journaled full appended.plans;
    } in c)
    shut_is =
        ap after_close done.is
        ∙ go (nat_lt 1 (length appended.plans))
        ∙ ap₂ (λ (k : ℕ) (j : Option ℕ). let c : CommitValue = record appended {
          plans = last.plans;
          hand = record appended.hand { ino = None };
          published = k;
          journal = j;
          noted = journaled full appended.plans;
        } in c) (sym many) (sym appended_journal)
      where
        go : (x : Bool)
            → after_close (let c : CommitValue = record (cond x (after_open cpu (old_tails full appended.plans) appended) appended) {
              plans = last.plans;
              published = length b.ready.plans;
            } in c)
            ≡ (let c : CommitValue = record appended {
              plans = last.plans;
              hand = record appended.hand { ino = None };
              published = length b.ready.plans;
              journal = None;
              noted = cond x (old_tails full appended.plans) [];
            } in c)
        go true = refl
        go false = ap (λ (ts : List OldTail). let c : CommitValue = record appended {
          plans = last.plans;
          hand = record appended.hand { ino = None };
          published = length b.ready.plans;
          journal = None;
          noted = ts;
        } in c) appended_noted

    pub own : ArePublished b.cells b.shelf cpu b.ready can full appended are over shut
    own =
        published_by b.cells b.shelf cpu b.ready can full appended are over shut
        (subst (λ (ps : List CellCommitValue). ChangesPlanned ps (λ j. published (state_at full (cell_place_of ps j))) full over) start_plans
        (all_changed (length b.ready.plans) start.plans (published_of full start) full over (omega (arith, start_many)) done.changed))
        (subst (λ (ps : List CellCommitValue). HaveAppendRoom ps (λ j. (value_at full (cell_place_of ps j)).room) over) start_plans
        (λ j lt. done.kept j (omega (arith, lt, start_many))))
        (subst (λ (ps : List CellCommitValue). (j : ℕ) → j < length ps → (plan_at last.plans j).killed ≡ killed_by
        (state_at full (cell_place_of ps j)))
        start_plans (λ j lt. done.killed j (omega (arith, lt, start_many))))
        (subst (λ (ps : List CellCommitValue). (j : ℕ) → j < length ps → KillsAsTold (state_at full (cell_place_of ps j)))
        start_plans (λ j lt. done.told j (omega (arith, lt, start_many))))
        (subst (λ (ps : List CellCommitValue). HaveSamePlaces ps last.plans) start_plans done.plans.same)
        shut_is

    pub shut_can : CanRetireAll b.shelf.room over shut
    shut_can = can_retire b.cells b.shelf cpu b.ready can full appended are over shut own

    pub shut_placed : ArePlaced over shut.plans
    shut_placed = done_placed b.cells b.shelf cpu b.ready can full appended are over shut own

    pub shut_dead : shut.stamp.epoch ≤ b.shelf.state.snaps.epoch
    shut_dead = omega (arith, stamp_is b.cells b.shelf cpu b.ready can full appended are over shut own)

    pub shut_many : length shut.plans ≡ length b.ready.plans
    shut_many = done.plans.same.count ∙ start_many
