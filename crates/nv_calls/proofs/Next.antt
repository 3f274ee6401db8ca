-- What a commit leaves of its cells for the next call.
use Rattle.std.proofs.Common.{◌≡◌, ℕ, ◌+◌, ◌<◌, ◌≤◌, ◌⊎◌, inl, inr, Bool, true, false, cond, List, [], ◌∷◌, ◌++◌, Option, Some, None, length, arith, refl, ap, subst, sym, ◌∙◌}
use Rattle.std.specs.List.{AllByRecursion}
use Rattle.std.specs.Option.{ForSome, option_map}
use Rattle.nv_base.specs.declared.limits.TheConstants.{NUMBER}
use Rattle.nv_base.specs.declared.numbers.EntryId.{EntryId}
use Rattle.nv_book.specs.Book.{BookValue}
use Rattle.nv_entry.specs.declared.item.Entry.{Entry}
use Rattle.nv_entry.specs.declared.item.Item.{Item}
use Rattle.nv_log.specs.Chain.{ChainState, last_epoch, last_id, last_of}
use Rattle.nv_cell.specs.Cell.{CellState, CellValue, empty_cell, published}
use Rattle.nv_cell.specs.declared.killed.KilledPart.{KilledPart}
use Rattle.nv_calls.specs.CanCommit.{CanCommit, TakesCommit}
use Rattle.nv_calls.specs.Cells.{AreCells, ino_at, no_cell, state_at, value_at}
use Rattle.nv_calls.specs.Commit.{CommitValue, begun, stamp_of}
use Rattle.nv_calls.specs.Committed.{ChangesPlanned, IsUnplanned, committed, grown, killing, place_before, cell_place_of}
use Rattle.nv_calls.specs.Next.{AreUpTo, IsUpTo}
use Rattle.nv_calls.specs.Prepared.{IsStill}
use Rattle.nv_calls.specs.Ready.{CellCommitValue, ReadyValue, no_plan, plan_at}
use Rattle.nv_calls.specs.Retiring.{erased, keeper_of, retired, retired_one, settled}
use Rattle.nv_calls.specs.Slots.{entries_of}
use Rattle.nv_calls.specs.Steps.{stamped_entries}
use Rattle.nv_calls.specs.declared.stamp.Stamp.{Stamp}
use Rattle.nv_cell.specs.Cell.{number_in}
use Rattle.nv_calls.proofs.CellCommits.{all_at, all_by}
use Rattle.nv_calls.proofs.Composed.{cells_stay, own_grown}
use Rattle.nv_calls.proofs.Effective.{has_plan}
use Rattle.nv_cell.specs.Readers.{is_erased}
use Rattle.nv_calls.proofs.Grown.{IsGrown, entry_count_is, last_behind, last_step}

-- ---- retiring and erasing

pub record Keeps (cell new : CellState) : Type 0 where
  pub chain : new.chain ≡ cell.chain
  pub generation : new.generation ≡ cell.generation
  pub version : new.version ≡ cell.version
  pub block : new.block ≡ cell.block

keeps_one : (keeper : Option ℕ) (n : ℕ) (cell : CellState) → Keeps cell (settled keeper n cell)
keeps_one (Some s) n cell = record { chain = refl; generation = refl; version = refl; block = refl }
keeps_one None n cell = record { chain = refl; generation = refl; version = refl; block = refl }

pub keeps : (living : List ℕ) (ino epoch : ℕ) (all : List KilledPart) (cell : CellState) → Keeps cell (retired living ino epoch all cell)
keeps living ino epoch [] cell = record { chain = refl; generation = refl; version = refl; block = refl }
keeps living ino epoch (killed ∷ later) cell =
    let first : Keeps cell (retired_one living ino epoch killed cell) =
    keeps_one (keeper_of living ino epoch killed) (number_in cell killed.part) cell in
    let rest = keeps living ino epoch later (retired_one living ino epoch killed cell) in
    record {
      chain = rest.chain ∙ first.chain;
      generation = rest.generation ∙ first.generation;
      version = rest.version ∙ first.version;
      block = rest.block ∙ first.block;
    }

abbrev pub emptied : CellState → CellState
emptied cell = empty_cell cell.block cell.chain.page (cell.generation + 1) cell.version

-- what holds of a cell and of an empty slot holds of one that may be erased
pub by_erased : (P : CellState → Type 0) (cell : CellState) → P cell → P (emptied cell) → P (erased cell)
by_erased P cell stays gone = go (is_erased cell) where
  go : (b : Bool) → P (cond b (emptied cell) cell)
  go true = gone
  go false = stays

-- ---- the last of the entries that a plan adds

last_made : (commit epoch place : ℕ) (items : List Item) (e : Entry)
    → last_of (stamped_entries (record { commit = commit; epoch = epoch }) place items) ≡ Some e
    → (e.id.commit ≡ commit) × (e.epoch ≡ epoch)
last_made commit epoch place [] e h = cc
last_made commit epoch place (item ∷ []) e h =
    let first : Entry = record { id = record { commit = commit; place = place }; epoch = epoch; item = item } in
    let same : Some first ≡ Some e = h in
    let is : first ≡ e = cc in
    (ap (λ (x : Entry). x.id.commit) (sym is), ap (λ (x : Entry). x.epoch) (sym is))
last_made commit epoch place (item ∷ next ∷ items) e h =
    let one : Entry = record { id = record { commit = commit; place = place }; epoch = epoch; item = item } in
    let two : Entry = record { id = record { commit = commit; place = place + 1 }; epoch = epoch; item = next } in
    last_made commit epoch (place + 1) (next ∷ items) e (sym (last_step one two (entries_of commit epoch (place + 1 + 1) items)) ∙ h)

last_added : (log es : List Entry) → 0 < length es → last_of (log ++ es) ≡ last_of es
last_added log [] some = absurd (omega (arith, some))
last_added log (e ∷ es) some = last_behind log e es

mapped : {X Y : Type 0} (f : X → Y) (o : Option X) (y : Y) → option_map f o ≡ Some y → (x : X) × (o ≡ Some x) × (f x ≡ y)
mapped f None y h = cc
mapped f (Some x) y h = let is : f x ≡ y = cc in (x, refl, is)

module _ (cells : List (ℕ × CellValue)) (book : BookValue) (cpu : ℕ) (ready : ReadyValue) (can : CanCommit cells book cpu ready)
    (living : List ℕ) where
  abbrev start : CommitValue
  start = begun (stamp_of book.state) ready

  abbrev own : ℕ → CellState
  own j = state_at cells (cell_place_of ready.plans j)

  abbrev entries : ℕ → List Entry
  entries j = stamped_entries start.stamp (place_before start.plans j) (plan_at start.plans j).items

  abbrev full : ℕ → CellState
  full j = (grown cells start j).state

  abbrev after : ℕ → CellState
  after j = retired living (killing cells start j).ino start.stamp.epoch (killing cells start j).parts (killing cells start j).cell

  grown_is : (j : ℕ) → j < length ready.plans
      → IsGrown (entries j) (plan_at start.plans j).items (own j) (full j)
  grown_is j lt = own_grown cells book cpu ready can cells start j lt

  kept : (j : ℕ) → Keeps (published (full j)) (after j)
  kept j = keeps living (killing cells start j).ino start.stamp.epoch (killing cells start j).parts (killing cells start j).cell

  -- ---- a cell of a plan is settled

  still_after : (block j : ℕ) → j < length ready.plans → IsStill block (own j) → IsStill block (committed living cells start j)
  still_after block j lt still =
      let size : (after j).block ≡ block = (kept j).block ∙ (grown_is j lt).grows.block ∙ still.size in
      by_erased (IsStill block) (after j)
      (record {
        size = size;
        settled = subst (λ (c : ChainState). c.tail ≡ length c.entries) (sym (kept j).chain) refl;
      })
      (record { size = size; settled = refl })

  -- ---- and no later than the commit

  module _ (before : Stamp) (counts : ℕ → ℕ) (next : before.commit < book.state.commit)
      (rises : before.epoch ≤ book.state.snaps.epoch) where
    up_to_after : (j : ℕ) → j < length ready.plans → (first : ℕ)
        → TakesCommit (stamp_of book.state) (value_at cells (cell_place_of ready.plans j)) → IsUpTo before first (own j)
        → IsUpTo (stamp_of book.state) first (committed living cells start j)
    up_to_after j lt first takes up =
        let g = grown_is j lt in
        let es : List Entry = entries j in
        let count : length es ≡ length (plan_at start.plans j).items =
        entry_count_is start.stamp (place_before start.plans j) (plan_at start.plans j).items in
        let some : 0 < length es = omega (arith, count, (can.settled j lt).some) in
        let last : last_of (full j).chain.entries ≡ last_of es =
        ap (λ (xs : List Entry). last_of xs) g.grows.entries ∙ last_added (own j).chain.entries es some in
        let made : (e : Entry) → last_of (full j).chain.entries ≡ Some e
        → (e.id.commit ≡ book.state.commit) × (e.epoch ≡ book.state.snaps.epoch) =
        λ e h.
        last_made book.state.commit book.state.snaps.epoch (place_before start.plans j) (plan_at start.plans j).items e
        (sym last ∙ h) in
        let version : (after j).version ≤ book.state.commit + first = omega (arith, (kept j).version, g.grows.version, up.version, next) in
        by_erased (IsUpTo (stamp_of book.state) first) (after j)
        (record {
          commit = subst (λ (c : ChainState). ForSome (last_id c) (λ id. id.commit ≤ book.state.commit)) (sym (kept j).chain)
              (λ id h.
              let found = mapped (λ (e : Entry). e.id) (last_of (full j).chain.entries) id h in
              omega (arith, (made found.0 found.1).0, ap (λ (i : EntryId). i.commit) found.2));
          epoch = subst (λ (c : ChainState). ForSome (last_epoch c) (λ epoch. epoch ≤ book.state.snaps.epoch)) (sym (kept j).chain)
              (λ epoch h.
              let found = mapped (λ (e : Entry). e.epoch) (last_of (full j).chain.entries) epoch h in
              omega (arith, (made found.0 found.1).1, found.2));
          version = version;
          generation = λ some. omega (arith, (kept j).generation, g.grows.generation, takes.generation);
        })
        (record {
          commit = λ id h. cc;
          epoch = λ epoch h. cc;
          version = version;
          generation = λ some. absurd (omega (arith, some));
        })

    later_still : (first : ℕ) (cell : CellState) → IsUpTo before first cell → IsUpTo (stamp_of book.state) first cell
    later_still first cell up = record {
      commit = λ id h. omega (arith, up.commit id h, next);
      epoch = λ epoch h. omega (arith, up.epoch epoch h, rises);
      version = omega (arith, up.version, next);
      generation = up.generation;
    }

  -- ---- all cells

  module _ (now : List (ℕ × CellValue)) (changes : ChangesPlanned ready.plans (committed living cells start) cells now) where
    pub by_place : (P : ℕ → CellState → Type 0)
        → ((j : ℕ) → j < length ready.plans → P (ino_at cells (cell_place_of ready.plans j)) (committed living cells start j))
        → ((k : ℕ) → k < length cells → IsUnplanned ready.plans k → P (ino_at cells k) (state_at cells k))
        → (k : ℕ) → k < length now → P (ino_at now k) (state_at now k)
    by_place P planned others k lt = go (has_plan ready.plans k) where
      go : (((j : ℕ) × (j < length ready.plans) × (cell_place_of ready.plans j ≡ k)) ⊎ IsUnplanned ready.plans k)
          → P (ino_at now k) (state_at now k)
      go (inl found) =
          subst (λ (m : ℕ). P (ino_at now m) (state_at now m)) found.2
          (subst (λ (c : CellState). P (ino_at now (cell_place_of ready.plans found.0)) c) (sym (changes.planned found.0 found.1))
          (subst (λ (n : ℕ). P n (committed living cells start found.0)) (sym (changes.numbers (cell_place_of ready.plans found.0)))
          (planned found.0 found.1)))
      go (inr none) =
          subst (λ (c : CellState). P (ino_at now k) c) (sym (ap (λ (v : CellValue). v.state) (changes.others k none)))
          (subst (λ (n : ℕ). P n (state_at cells k)) (sym (changes.numbers k)) (others k (omega (arith, lt, changes.count)) none))

    pub cells_after : AreCells now
    cells_after = cells_stay cells now changes.count changes.numbers can.cells_are

    pub all_still : (block : ℕ) → AllByRecursion (λ (c : ℕ × CellValue). IsStill block c.1.state) cells
        → AllByRecursion (λ (c : ℕ × CellValue). IsStill block c.1.state) now
    all_still block still =
        let at : (k : ℕ) → k < length cells → IsStill block (state_at cells k) =
        λ k lt. all_at (λ (c : ℕ × CellValue). IsStill block c.1.state) cells no_cell k still lt in
        all_by (λ (c : ℕ × CellValue). IsStill block c.1.state) now no_cell
        (by_place (λ ino cell. IsStill block cell)
        (λ j lt. still_after block j lt (at (cell_place_of ready.plans j) (can.placed.within j lt)))
        (λ k lt none. at k lt))

    pub all_up_to : (before : Stamp) (counts : ℕ → ℕ) → before.commit < book.state.commit → before.epoch ≤ book.state.snaps.epoch
        → AllByRecursion (λ (p : CellCommitValue). TakesCommit (stamp_of book.state) (value_at cells p.at)) ready.plans
        → AreUpTo before counts cells → AreUpTo (stamp_of book.state) counts now
    all_up_to before counts next rises takes up =
        by_place (λ ino cell. IsUpTo (stamp_of book.state) (counts ino) cell)
        (λ j lt.
        up_to_after before counts next rises j lt (counts (ino_at cells (cell_place_of ready.plans j)))
        (all_at (λ (p : CellCommitValue). TakesCommit (stamp_of book.state) (value_at cells p.at)) ready.plans no_plan j takes lt)
        (up (cell_place_of ready.plans j) (can.placed.within j lt)))
        (λ k lt none. later_still before counts next rises (counts (ino_at cells k)) (state_at cells k) (up k lt))

-- ---- an empty slot is up to any commit

pub empty_up_to : (stamp : Stamp) (before block page generation : ℕ) → IsUpTo stamp before (empty_cell block page generation before)
empty_up_to stamp before block page generation = record {
  commit = λ id h. cc;
  epoch = λ epoch h. cc;
  version = omega arith;
  generation = λ some. absurd (omega (arith, some));
}

-- ---- what is no later than a commit takes a later one

pub takes_next : (stamp next : Stamp) (before : ℕ) (cell : CellValue) → IsUpTo stamp before cell.state → stamp.commit < next.commit
    → stamp.epoch ≤ next.epoch → stamp.commit + before < NUMBER → cell.state.generation < NUMBER → TakesCommit next cell
takes_next stamp next before cell up commit epoch few generation = record {
  later = record {
    commit = λ id h. omega (arith, up.commit id h, commit);
    epoch = λ last h. omega (arith, up.epoch last h, epoch);
  };
  version = omega (arith, up.version, few);
  generation = generation;
}
