-- Plan by plan, all entries of a commit are published.
use Rattle.std.proofs.Common.{◌≡◌, ℕ, ◌+◌, ◌<◌, ◌≤◌, List, length, map, Option, Some, below_more, arith, ap, ap₂, sym, ◌∙◌, subst}
use Rattle.std.specs.Prelude.{slice_get, slice_set}
use Rattle.std.specs.Option.{option_map}
use Rattle.std.proofs.lemmas.Option.{slice_get-get_or, slice_get-map}
use Rattle.nv_book.specs.Book.{BookState}
use Rattle.nv_cell.specs.Cell.{CellValue, KeepsAppendRoom, fresh_of, killed_by, log_of, published}
use Rattle.nv_cell.specs.Effects.{items_of}
use Rattle.nv_cell.specs.Killed.{AreKilled}
use Rattle.nv_cell.specs.Weights.{weights_in}
use Rattle.nv_journal.specs.declared.old_tail.OldTail.{OldTail}
use Rattle.nv_calls.specs.CanCommit.{CanBePublished, KillsAsTold}
use Rattle.nv_calls.specs.Cells.{OnlyAt, ino_at, state_at, value_at}
use Rattle.nv_calls.specs.Commit.{CommitValue, HasJournal, NotesNext, after_publish, to_publish}
use Rattle.nv_calls.specs.Committed.{cell_place_of}
use Rattle.nv_calls.specs.PlanByPlan.{PublishesTo, cell_of, published_of}
use Rattle.nv_calls.specs.Ready.{ArePlaced, CellCommitValue, no_plan, old_tail, old_tails, plan_at}
use Rattle.nv_calls.specs.Retiring.{part_in}
use Rattle.nv_calls.proofs.CellLists.{other-only}
use Rattle.nv_calls.proofs.Changes.{apart, none_changed, one_more, plan_other, plan_own, plans_more, plans_none}

pub begins : (cells : List (ℕ × CellValue)) (start : CommitValue) → start.published ≡ 0 → PublishesTo 0 cells start cells start
begins cells start none = record {
  changed = none_changed start.plans (published_of cells start) cells;
  plans = plans_none start.plans;
  is = ap (λ (n : ℕ). let c : CommitValue = record start { published = n } in c) none;
  kept = λ i lt. absurd (omega (arith, lt));
  killed = λ i lt. absurd (omega (arith, lt));
  told = λ i lt. absurd (omega (arith, lt));
}

module _ (j : ℕ) (cells : List (ℕ × CellValue)) (start : CommitValue) (now : List (ℕ × CellValue)) (commit : CommitValue)
    (placed : ArePlaced cells start.plans) (lt : j < length start.plans) (way : PublishesTo j cells start now commit) where
  abbrev plan : CellCommitValue
  plan = plan_at start.plans j

  published_is : commit.published ≡ j
  published_is = ap (λ (c : CommitValue). c.published) way.is

  pub turn_is : to_publish commit ≡ plan
  turn_is = ap (plan_at commit.plans) published_is ∙ way.plans.rest j (omega arith)

  pub at_is : (to_publish commit).at ≡ plan.at
  at_is = ap (λ (p : CellCommitValue). p.at) turn_is

  pub within_now : (to_publish commit).at < length now
  within_now = omega (arith, at_is, placed.within j lt, way.changed.count)

  pub value_is : value_at now (to_publish commit).at ≡ value_at cells plan.at
  value_is = ap (value_at now) at_is ∙ way.changed.waiting j (omega arith) lt

  pub can_next : ((i : ℕ) → i < length start.plans → CanBePublished (value_at cells (cell_place_of start.plans i)))
      → CanBePublished (value_at now (to_publish commit).at)
  can_next can = subst CanBePublished (sym value_is) (can j lt)

  -- what the journal notes of the plan is the tail that its cell still has
  pub notes_next : (book : BookState) → (2 ≤ length start.plans → HasJournal book start)
      → (2 ≤ length start.plans → start.noted ≡ old_tails cells start.plans) → 2 ≤ length commit.plans → NotesNext book now commit
  notes_next book has noted two =
      let many : 2 ≤ length start.plans = omega (arith, two, way.plans.same.count) in
      let tail : old_tail cells plan ≡ old_tail now (to_publish commit) =
      ap₂ (λ (m n : ℕ). let t : OldTail = record { ino = m; tail = n } in t)
      (sym (ap (ino_at now) at_is ∙ way.changed.numbers plan.at)) (sym (ap (λ (v : CellValue). v.state.chain.tail) value_is)) in
      record {
        journal = subst (λ (c : CommitValue). HasJournal book c) (sym way.is) (has many);
        tail = ap (λ (c : CommitValue). slice_get c.noted c.published) way.is ∙ ap (λ (ts : List OldTail). slice_get ts j) (noted many)
            ∙ slice_get-map (old_tail cells) start.plans j
            ∙ ap (λ (p : Option CellCommitValue). option_map (old_tail cells) p) (slice_get-get_or start.plans j no_plan lt)
            ∙ ap (λ (t : OldTail). Some t) tail;
      }

  pub goes_on : (new : List (ℕ × CellValue)) (later : CommitValue) → OnlyAt (to_publish commit).at now new
      → state_at new (to_publish commit).at ≡ published (state_at now (to_publish commit).at)
      → later ≡ after_publish (killed_by (state_at now (to_publish commit).at)) commit
      → (let cell = state_at now (to_publish commit).at in
      length (killed_by cell) ≤ weights_in cell.block (log_of cell) (items_of (fresh_of cell)))
      → AreKilled (map part_in (killed_by (state_at now (to_publish commit).at))) (state_at new (to_publish commit).at)
      → KeepsAppendRoom (value_at now (to_publish commit).at).room (value_at new (to_publish commit).at).room
      → PublishesTo (j + 1) cells start new later
  goes_on new later only state is few marked room =
      let cell : state_at now (to_publish commit).at ≡ cell_of cells start j = ap (λ (v : CellValue). v.state) value_is in
      let own_state : state_at new plan.at ≡ published_of cells start j = ap (state_at new) (sym at_is) ∙ state ∙ ap published cell in
      let changed : OnlyAt plan.at now new = subst (λ (k : ℕ). OnlyAt k now new) at_is only in
      let p : CellCommitValue = record (to_publish commit) { killed = killed_by (state_at now (to_publish commit).at) } in
      let plans : later.plans ≡ slice_set commit.plans j p =
      ap (λ (c : CommitValue). c.plans) is ∙ ap (λ (n : ℕ). slice_set commit.plans n p) published_is in
      let inside : j < length commit.plans = omega (arith, lt, way.plans.same.count) in
      let count : later.published ≡ j + 1 = ap (λ (c : CommitValue). c.published) is ∙ ap (λ (n : ℕ). n + 1) published_is in
      record {
        changed = one_more j start.plans (published_of cells start) cells now new placed lt way.changed changed own_state;
        plans = plans_more j start.plans commit.plans later.plans p lt way.plans plans
            (ap (λ (n : ℕ). cell_place_of commit.plans n) published_is);
        is = is ∙ ap (λ (c : CommitValue). let d : CommitValue = record c {
          plans = (after_publish (killed_by (state_at now (to_publish commit).at)) commit).plans;
          published = (after_publish (killed_by (state_at now (to_publish commit).at)) commit).published;
        } in d) way.is
            ∙ sym (ap (λ (c : CommitValue). let d : CommitValue = record start { plans = c.plans; published = c.published } in d) is)
            ∙ ap (λ (n : ℕ). let d : CommitValue = record start { plans = later.plans; published = n } in d) count;
        kept = below_more
            (λ i. KeepsAppendRoom (value_at cells (cell_place_of start.plans i)).room (value_at new (cell_place_of start.plans i)).room) j
            (λ i li. subst (λ (v : CellValue). KeepsAppendRoom (value_at cells (cell_place_of start.plans i)).room v.room)
            (sym (other-only now new plan.at (cell_place_of start.plans i) changed
            (apart cells start.plans placed i j (omega (arith, li, lt)) lt (λ e. omega (arith, li, e)))))
            (way.kept i li))
            (subst (λ (v : CellValue). KeepsAppendRoom v.room (value_at new plan.at).room) value_is
            (subst (λ (k : ℕ). KeepsAppendRoom (value_at now (to_publish commit).at).room (value_at new k).room) at_is room));
        killed = below_more (λ i. (plan_at later.plans i).killed ≡ killed_by (cell_of cells start i)) j
            (λ i li. ap (λ (q : CellCommitValue). q.killed) (plan_other commit.plans later.plans j i p plans (λ e. omega (arith, li, e)))
            ∙ way.killed i li)
            (ap (λ (q : CellCommitValue). q.killed) (plan_own commit.plans later.plans j p plans inside) ∙ ap killed_by cell);
        told = below_more (λ i. KillsAsTold (cell_of cells start i)) j way.told
            (subst KillsAsTold cell (record {
              few = few;
              marked = subst (AreKilled (map part_in (killed_by (state_at now (to_publish commit).at)))) state marked;
            }));
      }
