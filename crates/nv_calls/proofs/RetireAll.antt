-- Plan by plan, what a commit killed is retired.
use Rattle.std.proofs.Common.{◌≡◌, ℕ, suc, ◌+◌, ◌-◌, ◌<◌, ◌≤◌, ◌&&◌, Bool, true, false, cond, List, [], length, take, below_more, add-one, arith, refl, ap, ap₂, sym, ◌∙◌, subst}
use Rattle.std.specs.Prelude.{slice_set}
use Rattle.std.specs.List.{sum_by}
use Rattle.std.proofs.lemmas.List.Sums.{sum_by_more, sum_by_more_le}
use Rattle.nv_alloc.specs.Queue.{QueueValue}
use Rattle.nv_alloc.specs.declared.hand.Hand.{Hand}
use Rattle.nv_book.specs.Book.{BookState, BookValue}
use Rattle.nv_book.specs.declared.manifest.Manifest.{Manifest}
use Rattle.nv_cell.specs.Cell.{CellRoom, CellState, CellValue, log_of}
use Rattle.nv_cell.specs.Readers.{is_gone, keeps_nothing}
use Rattle.nv_cell.specs.declared.killed.KilledPart.{KilledPart}
use Rattle.nv_epoch.specs.SnapList.{ids}
use Rattle.nv_log.specs.Chain.{ChainState, log}
use Rattle.nv_calls.specs.CanCommit.{CanBeRetired, CanRetireAll}
use Rattle.nv_calls.specs.Cells.{OnlyAt, ino_at, state_at, value_at}
use Rattle.nv_calls.specs.Commit.{CommitValue, after_retire, to_retire}
use Rattle.nv_calls.specs.Committed.{Killing, hand_after_killings, killed_count, manifests_after, noted_killing, cell_place_of}
use Rattle.nv_calls.specs.PlanByPlan.{IsFree, NoneGone, RetiresTo, cell_of, room_of, settled_of}
use Rattle.nv_calls.specs.Ready.{ArePlaced, CellCommitValue, no_plan, plan_at}
use Rattle.nv_calls.specs.Retired.{CanRetire}
use Rattle.nv_calls.specs.Retiring.{erased, freed_by, hand_retired, hand_with, number_back, retired, room_erased, with_back, with_records}
use Rattle.nv_calls.proofs.CellLists.{other-only}
use Rattle.nv_calls.proofs.Changes.{apart, none_changed, one_more, plans_more, plans_none}
use Rattle.nv_calls.proofs.Retires.{chain_stays, data_stays, freed_within}

pub begins : (cells : List (ℕ × CellValue)) (start : CommitValue) (book : BookValue) → start.retired ≡ 0
    → RetiresTo 0 cells start book cells start book
begins cells start book none = record {
  changed = none_changed start.plans (settled_of (ids book.state.snaps) cells start) cells;
  plans = plans_none start.plans;
  is = ap (λ (n : ℕ). let c : CommitValue = record start { retired = n } in c) none;
  state = refl;
  rooms = λ i lt. absurd (omega (arith, lt));
  records = omega arith;
  freed = omega arith;
  size = refl;
  free = λ free gone. free;
}

-- ---- one inode

-- where the inode is not gone, nothing of it goes to the hand
not_gone : (ino : ℕ) (cell : CellState) (hand : Hand) → is_gone (log_of cell) ≡ false → hand_with ino cell hand ≡ hand
not_gone ino cell hand stays = go (is_gone (log_of cell)) stays where
  go : (b : Bool) → b ≡ false
      → cond (b && keeps_nothing cell) (let h : Hand = record hand { chain = cell.chain.blocks; ino = number_back ino cell hand.ino } in
      h) hand ≡ hand
  go true q = cc
  go false q = refl

-- what a hand keeps
pub hand_keeps : (living : List ℕ) (ino epoch : ℕ) (killed : List KilledPart) (cell : CellState) (hand : Hand)
    → (hand_retired living ino epoch killed cell hand).data ≡ with_back (freed_by living ino epoch killed cell) hand.data
hand_keeps living ino epoch killed cell hand =
    data_stays ino (retired living ino epoch killed cell) (record hand {
      «data» = with_back
          (freed_by living ino epoch killed cell) hand.data;
    })

free_still : (living : List ℕ) (ino epoch : ℕ) (killed : List KilledPart) (cell : CellState) (hand : Hand)
    → is_gone (log_of cell) ≡ false → IsFree hand → IsFree (hand_retired living ino epoch killed cell hand)
free_still living ino epoch killed cell hand stays free =
    let after : CellState = retired living ino epoch killed cell in
    let gone : is_gone (log_of after) ≡ false =
    ap (λ (ch : ChainState). is_gone (log ch)) (chain_stays living ino epoch killed cell) ∙ stays in
    let same : hand_retired living ino epoch killed cell hand
    ≡ (let h : Hand = record hand { «data» = with_back (freed_by living ino epoch killed cell) hand.data } in h) =
    not_gone ino after (record hand { «data» = with_back (freed_by living ino epoch killed cell) hand.data }) gone in
    record { chain = ap (λ (h : Hand). length h.chain) same ∙ free.chain; number = ap (λ (h : Hand). h.ino) same ∙ free.number }

-- it is gone or not
told : (b : Bool) → (b ≡ true → ⊥) → b ≡ false
told true none = absurd (none refl)
told false none = refl

next_is : {X : Type 0} (f : ℕ → X) (j : ℕ) → f (suc j) ≡ f (j + 1)
next_is f j = rw add-one refl

-- ---- one plan more

module _ (j : ℕ) (cells : List (ℕ × CellValue)) (start : CommitValue) (shelf : BookValue) (now : List (ℕ × CellValue))
    (commit : CommitValue)
    (book : BookValue) (placed : ArePlaced cells start.plans) (lt : j < length start.plans)
    (way : RetiresTo j cells start shelf now commit book) where
  abbrev plan : CellCommitValue
  plan = plan_at start.plans j

  abbrev living : List ℕ
  living = ids shelf.state.snaps

  abbrev noted : Killing
  noted = noted_killing cells start j

  retired_is : commit.retired ≡ j
  retired_is = ap (λ (c : CommitValue). c.retired) way.is

  pub turn_is : to_retire commit ≡ plan
  turn_is = ap (plan_at commit.plans) retired_is ∙ way.plans.rest j (omega arith)

  pub at_is : (to_retire commit).at ≡ plan.at
  at_is = ap (λ (p : CellCommitValue). p.at) turn_is

  pub within_now : (to_retire commit).at < length now
  within_now = omega (arith, at_is, placed.within j lt, way.changed.count)

  value_is : value_at now (to_retire commit).at ≡ value_at cells plan.at
  value_is = ap (value_at now) at_is ∙ way.changed.waiting j (omega arith) lt

  cell_is : state_at now (to_retire commit).at ≡ cell_of cells start j
  cell_is = ap (λ (k : ℕ). state_at now k) at_is ∙ ap (λ (v : CellValue). v.state) (way.changed.waiting j (omega arith) lt)

  ino_is : ino_at now (to_retire commit).at ≡ noted.ino
  ino_is = ap (ino_at now) at_is ∙ way.changed.numbers plan.at

  killed_is : (to_retire commit).killed ≡ plan.killed
  killed_is = ap (λ (p : CellCommitValue). p.killed) turn_is

  count_is : length (to_retire commit).killed ≡ killed_count plan
  count_is = ap length killed_is

  lives : ids book.state.snaps ≡ living
  lives = ap (λ (b : BookState). ids b.snaps) way.state

  epoch_is : commit.stamp.epoch ≡ start.stamp.epoch
  epoch_is = ap (λ (c : CommitValue). c.stamp.epoch) way.is

  sum_is : sum_by killed_count (take (j + 1) start.plans) ≡ sum_by killed_count (take j start.plans) + killed_count plan
  sum_is = sum_by_more killed_count start.plans j no_plan lt

  within_sum : sum_by killed_count (take j start.plans) + killed_count plan ≤ sum_by killed_count start.plans
  within_sum = sum_by_more_le killed_count start.plans j no_plan lt

  pub room_next : CanRetireAll shelf.room cells start → length (to_retire commit).killed ≤ book.room
  room_next can = omega (arith, way.records, can.records, count_is, within_sum)

  pub free_next : CanRetireAll shelf.room cells start → length (to_retire commit).killed ≤ commit.hand.data.room
  free_next can = omega (arith, way.freed, can.freed, count_is, within_sum)

  pub dead_next : start.stamp.epoch ≤ shelf.state.snaps.epoch → commit.stamp.epoch ≤ book.state.snaps.epoch
  dead_next dead =
      let e : book.state.snaps.epoch ≡ shelf.state.snaps.epoch = ap (λ (b : BookState). b.snaps.epoch) way.state in
      omega (arith, epoch_is, e, dead)

  pub can_next : CanRetireAll shelf.room cells start
      → CanRetire (to_retire commit).killed commit.hand (state_at now (to_retire commit).at)
  can_next can =
      let each : CanBeRetired start.hand plan (cell_of cells start j) = can.each j lt in
      let start_free : IsFree start.hand = record { chain = can.chain; number = can.number } in
      let own : CanRetire plan.killed commit.hand (cell_of cells start j) = record {
        marked = each.marked;
        size = way.size ∙ each.size;
        published = each.published;
        gone = λ gone.
            let before : NoneGone j cells start =
            λ i li other. let e : i ≡ j = can.one i j (omega (arith, li, lt)) lt other gone in omega (arith, li, e) in
            let free : IsFree commit.hand = way.free start_free before in
            record { generation = each.generation gone; chain = free.chain; number = free.number };
      } in
      subst (λ (ks : List KilledPart). CanRetire ks commit.hand (state_at now (to_retire commit).at)) (sym killed_is)
      (subst (CanRetire plan.killed commit.hand) (sym cell_is) own)

  pub goes_on : (new : List (ℕ × CellValue)) (later : CommitValue) (after : BookValue)
      → OnlyAt (to_retire commit).at now new
      → state_at new (to_retire commit).at ≡ erased (retired (ids book.state.snaps) (ino_at now (to_retire commit).at) commit.stamp.epoch
      (to_retire commit).killed (state_at now (to_retire commit).at))
      → after.state ≡ (let b : BookState = record book.state {
        manifests = with_records (ids book.state.snaps) (ino_at now (to_retire commit).at) commit.stamp.epoch (to_retire commit).killed
            book.state.manifests;
      } in b)
      → book.room ≤ after.room + length (to_retire commit).killed
      → later ≡ after_retire (ids book.state.snaps) (ino_at now (to_retire commit).at) (state_at now (to_retire commit).at) commit
      → (value_at new (to_retire commit).at).room
      ≡ room_erased (retired (ids book.state.snaps) (ino_at now (to_retire commit).at) commit.stamp.epoch (to_retire commit).killed
      (state_at now (to_retire commit).at)) (value_at now (to_retire commit).at).room
      → RetiresTo (j + 1) cells start shelf new later after
  goes_on new later after only state book_is room is cell_room =
      let changed : OnlyAt plan.at now new = subst (λ (k : ℕ). OnlyAt k now new) at_is only in
      let settle : List ℕ → ℕ → ℕ → List KilledPart → CellState → CellState = λ l m e ks c. erased (retired l m e ks c) in
      let own_state : state_at new plan.at ≡ settled_of living cells start j =
      ap (state_at new) (sym at_is) ∙ state
      ∙ ap₂ (λ (l : List ℕ) (m : ℕ). settle l m commit.stamp.epoch (to_retire commit).killed
      (state_at now (to_retire commit).at)) lives ino_is
      ∙ ap₂ (λ (e : ℕ) (ks : List KilledPart). settle living noted.ino e ks (state_at now (to_retire commit).at)) epoch_is killed_is
      ∙ ap (settle living noted.ino start.stamp.epoch plan.killed) cell_is in
      let leave : List ℕ → ℕ → ℕ → List KilledPart → CellValue → CellRoom = λ l m e ks v. room_erased (retired l m e ks v.state) v.room in
      let own_cell_room : (value_at new plan.at).room ≡ room_of living cells start j =
      ap (λ (k : ℕ). (value_at new k).room) (sym at_is) ∙ cell_room
      ∙ ap₂ (λ (l : List ℕ) (m : ℕ). leave l m commit.stamp.epoch (to_retire commit).killed (value_at now (to_retire commit).at))
      lives ino_is
      ∙ ap₂ (λ (e : ℕ) (ks : List KilledPart). leave living noted.ino e ks (value_at now (to_retire commit).at)) epoch_is killed_is
      ∙ ap (leave living noted.ino start.stamp.epoch plan.killed) value_is in
      let p : CellCommitValue = record (to_retire commit) { killed = [] } in
      let plans : later.plans ≡ slice_set commit.plans j p =
      ap (λ (c : CommitValue). c.plans) is ∙ ap (λ (n : ℕ). slice_set commit.plans n p) retired_is in
      let count : later.retired ≡ j + 1 = ap (λ (c : CommitValue). c.retired) is ∙ ap (λ (n : ℕ). n + 1) retired_is in
      let own_hand : later.hand ≡ hand_retired living noted.ino start.stamp.epoch plan.killed (cell_of cells start j) commit.hand =
      ap (λ (c : CommitValue). c.hand) is
      ∙ ap₂ (λ (l : List ℕ) (m : ℕ). hand_retired l m commit.stamp.epoch (to_retire commit).killed
      (state_at now (to_retire commit).at) commit.hand)
      lives ino_is
      ∙ ap₂ (λ (e : ℕ) (ks : List KilledPart). hand_retired living noted.ino e ks
      (state_at now (to_retire commit).at) commit.hand) epoch_is killed_is
      ∙ ap (λ (c : CellState). hand_retired living noted.ino start.stamp.epoch plan.killed c commit.hand) cell_is in
      let hand : later.hand ≡ hand_after_killings living start.stamp.epoch (noted_killing cells start) (j + 1) start.hand =
      own_hand ∙ ap (λ (c : CommitValue). hand_retired living noted.ino start.stamp.epoch plan.killed (cell_of cells start j) c.hand) way.is
      ∙ hand_suc in
      let own_data : later.hand.data ≡ with_back (freed_by living noted.ino start.stamp.epoch plan.killed
      (cell_of cells start j)) commit.hand.data =
      ap (λ (h : Hand). h.data) own_hand ∙ hand_keeps living noted.ino start.stamp.epoch plan.killed (cell_of cells start j) commit.hand in
      let few : length (freed_by living noted.ino start.stamp.epoch plan.killed (cell_of cells start j)) ≤ killed_count plan =
      freed_within living noted.ino start.stamp.epoch plan.killed (cell_of cells start j) in
      let own_room : later.hand.data.room
      ≡ commit.hand.data.room - length (freed_by living noted.ino start.stamp.epoch plan.killed (cell_of cells start j)) =
      ap (λ (q : QueueValue). q.room) own_data in
      let records : List Manifest → List Manifest = with_records living noted.ino start.stamp.epoch plan.killed in
      let own_records : with_records (ids book.state.snaps) (ino_at now (to_retire commit).at) commit.stamp.epoch (to_retire commit).killed
      book.state.manifests ≡ records book.state.manifests =
      ap₂ (λ (l : List ℕ) (m : ℕ). with_records l m commit.stamp.epoch (to_retire commit).killed book.state.manifests) lives ino_is
      ∙ ap₂ (λ (e : ℕ) (ks : List KilledPart). with_records living noted.ino e ks book.state.manifests) epoch_is killed_is in
      record {
        changed = one_more j start.plans (settled_of living cells start) cells now new placed lt way.changed changed own_state;
        plans = plans_more j start.plans commit.plans later.plans p lt way.plans plans (ap (λ (n : ℕ). cell_place_of commit.plans n) retired_is);
        is = is ∙ ap (λ (c : CommitValue). let d : CommitValue = record c {
          plans = (after_retire (ids book.state.snaps) (ino_at now (to_retire commit).at)
              (state_at now (to_retire commit).at) commit).plans;
          hand = (after_retire (ids book.state.snaps) (ino_at now (to_retire commit).at) (state_at now (to_retire commit).at) commit).hand;
          retired = (after_retire (ids book.state.snaps) (ino_at now (to_retire commit).at)
              (state_at now (to_retire commit).at) commit).retired;
        } in d) way.is
            ∙ sym (ap (λ (c : CommitValue). let d : CommitValue = record start { plans = c.plans; hand = c.hand; retired = c.retired } in
            d) is)
            ∙ ap₂ (λ (h : Hand) (n : ℕ). let d : CommitValue = record start { plans = later.plans; hand = h; retired = n } in d) hand count;
        state = book_is ∙ ap (λ (m : List Manifest). let b : BookState = record book.state { manifests = m } in b) own_records
            ∙ ap (λ (s : BookState). let b : BookState = record s { manifests = records s.manifests } in b) way.state
            ∙ ap (λ (m : List Manifest). let b : BookState = record shelf.state { manifests = m } in b) manifests_suc;
        rooms = below_more (λ i. (value_at new (cell_place_of start.plans i)).room ≡ room_of living cells start i) j
            (λ i li. ap (λ (v : CellValue). v.room) (other-only now new plan.at (cell_place_of start.plans i) changed
            (apart cells start.plans placed i j (omega (arith, li, lt)) lt (λ e. omega (arith, li, e))))
            ∙ way.rooms i li) own_cell_room;
        records = omega (arith, way.records, room, count_is, sum_is);
        freed = omega (arith, way.freed, own_room, few, sum_is);
        size = ap (λ (q : QueueValue). q.size) own_data ∙ way.size;
        free = λ free none.
            let stays : is_gone (log_of (cell_of cells start j)) ≡ false = told (is_gone (log_of (cell_of cells start j)))
            (none j (omega arith)) in
            subst IsFree (sym own_hand) (free_still living noted.ino start.stamp.epoch plan.killed (cell_of cells start j) commit.hand stays
            (way.free free (λ i li. none i (omega (arith, li)))));
      } where
        hand_suc : hand_retired living noted.ino start.stamp.epoch plan.killed (cell_of cells start j)
            (hand_after_killings living start.stamp.epoch (noted_killing cells start) j start.hand)
            ≡ hand_after_killings living start.stamp.epoch (noted_killing cells start) (j + 1) start.hand
        hand_suc = next_is (λ n. hand_after_killings living start.stamp.epoch (noted_killing cells start) n start.hand) j

        manifests_suc : with_records living noted.ino start.stamp.epoch plan.killed
            (manifests_after living start.stamp.epoch (noted_killing cells start) j shelf.state.manifests)
            ≡ manifests_after living start.stamp.epoch (noted_killing cells start) (j + 1) shelf.state.manifests
        manifests_suc = next_is (λ n. manifests_after living start.stamp.epoch (noted_killing cells start) n shelf.state.manifests) j
