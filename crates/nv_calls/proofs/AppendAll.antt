-- Plan by plan, all items of a commit are appended.
use Rattle.std.proofs.Common.{◌≡◌, ℕ, suc, ◌+◌, ◌<◌, ◌≤◌, List, [], ◌∷◌, ◌++◌, length, take, drop, below_more, arith, ap, ap₂, sym, ◌∙◌, subst}
use Rattle.std.specs.Prelude.{slice_set}
use Rattle.std.specs.List.{sum_by}
use Rattle.std.proofs.lemmas.List.{drop-drop, length-drop}
use Rattle.std.proofs.lemmas.List.Concat.{flat_map-cons, length-flat_map}
use Rattle.std.proofs.lemmas.Grind.{flat_map-append}
use Rattle.std.proofs.Math.Seq.{split_at}
use Rattle.std.proofs.lemmas.List.Sums.{sum_by_more, sum_by_more_le}
use Rattle.nv_alloc.specs.Block.{BlockValue, numbers_of}
use Rattle.nv_alloc.specs.Queue.{QueueValue}
use Rattle.nv_alloc.specs.declared.hand.Hand.{Hand}
use Rattle.nv_cell.specs.Cell.{CellValue}
use Rattle.nv_cell.specs.Room.{IsReadyFor}
use Rattle.nv_log.specs.Chain.{ChainState}
use Rattle.nv_calls.specs.CanCommit.{CanAppendAll, CanTakeItems, numbers_of_all}
use Rattle.nv_calls.specs.Cells.{OnlyAt, state_at, value_at, with_value}
use Rattle.nv_calls.specs.Commit.{CommitValue, after_append, to_append}
use Rattle.nv_calls.specs.Committed.{block_count, entry_count, grown, hand_before, page_count, place_before, cell_place_of}
use Rattle.nv_calls.specs.PlanByPlan.{AppendsTo}
use Rattle.nv_calls.specs.Ready.{ArePlaced, CellCommitValue, no_plan, plan_at}
use Rattle.nv_calls.specs.Steps.{CanAppendPlan, hand_after, numbers_in, with_plan, without_front}
use Rattle.nv_calls.proofs.Appends.{front, map-drop, map-take, none_front}
use Rattle.nv_calls.proofs.CellLists.{only_value, other-only, value_given}
use Rattle.nv_calls.proofs.Changes.{apart, none_changed, one_more, plans_more, plans_none}

pub begins : (cells : List (ℕ × CellValue)) (start : CommitValue) → start.appended ≡ 0 → start.place ≡ 0
    → AppendsTo 0 cells start cells start
begins cells start none first = record {
  changed = none_changed start.plans (λ i. (grown cells start i).state) cells;
  plans = plans_none start.plans;
  is =
      let hand : start.hand ≡ hand_before cells start 0 =
      ap₂ (λ (d p : QueueValue). let h : Hand = record start.hand { «data» = d; pages = p } in h)
      (none_front start.hand.data) (none_front start.hand.pages) in
      ap (λ (n : ℕ). let c : CommitValue = record start { appended = n } in c) none
      ∙ ap₂ (λ (h : Hand) (n : ℕ). let c : CommitValue = record start { hand = h; place = n; appended = 0 } in c) hand first;
  rooms = λ i lt. absurd (omega (arith, lt));
  ready = λ i lt. absurd (omega (arith, lt));
}

-- ---- what the plans before one leave

-- a queue without its first blocks, and then without more
front_more : (n m : ℕ) (queue : QueueValue) → without_front m (without_front n queue) ≡ without_front (n + m) queue
front_more n m queue =
    let room : queue.room + n + m ≡ queue.room + (n + m) = omega arith in
    ap₂ (λ (bs : List BlockValue) (r : ℕ). let q : QueueValue = record { blocks = bs; size = queue.size; room = r } in q)
    (drop-drop m n queue.blocks) room

hand_more : (cells : List (ℕ × CellValue)) (start : CommitValue) (j : ℕ) → j < length start.plans
    → hand_after (plan_at start.plans j).items (state_at cells (cell_place_of start.plans j)).chain (hand_before cells start j)
    ≡ hand_before cells start (j + 1)
hand_more cells start j lt =
    let blocks : sum_by block_count (take (j + 1) start.plans) ≡ sum_by block_count (take j start.plans) + block_count
    (plan_at start.plans j) =
    sum_by_more block_count start.plans j no_plan lt in
    let pages : sum_by (page_count cells) (take (j + 1) start.plans)
    ≡ sum_by (page_count cells) (take j start.plans) + page_count cells (plan_at start.plans j) =
    sum_by_more (page_count cells) start.plans j no_plan lt in
    ap₂ (λ (d p : QueueValue). let h : Hand = record start.hand { «data» = d; pages = p } in h)
    (front_more (sum_by block_count (take j start.plans)) (block_count (plan_at start.plans j)) start.hand.data
    ∙ ap (λ (n : ℕ). without_front n start.hand.data) (sym blocks))
    (front_more (sum_by (page_count cells) (take j start.plans)) (page_count cells (plan_at start.plans j)) start.hand.pages
    ∙ ap (λ (n : ℕ). without_front n start.hand.pages) (sym pages))

-- the numbers of the blocks of the first plans' pages
counted : (plans : List CellCommitValue) → length (numbers_of_all plans) ≡ sum_by block_count plans
counted plans = length-flat_map (λ (p : CellCommitValue). numbers_in p.items) plans

-- the blocks of a plan's pages are behind those of the plans before it
own_blocks : (j : ℕ) (plans : List CellCommitValue) (blocks : List BlockValue) → j < length plans
    → numbers_of (take (length (numbers_of_all plans)) blocks) ≡ numbers_of_all plans
    → numbers_of (take (block_count (plan_at plans j)) (drop (sum_by block_count (take j plans)) blocks)) ≡ numbers_in
    (plan_at plans j).items
own_blocks j plans blocks lt h =
    let f : CellCommitValue → List ℕ = λ p. numbers_in p.items in
    let xs : List ℕ = numbers_of_all (take j plans) in
    let ys : List ℕ = numbers_in (plan_at plans j).items in
    let zs : List ℕ = numbers_of_all (drop (suc j) plans) in
    let ns : List ℕ = numbers_of blocks in
    let split : plans ≡ take j plans ++ plan_at plans j ∷ drop (suc j) plans = split_at plans j no_plan lt in
    let all : numbers_of_all plans ≡ xs ++ (ys ++ zs) =
    ap numbers_of_all split ∙ flat_map-append f (take j plans) (plan_at plans j ∷ drop (suc j) plans)
    ∙ ap (λ (ms : List ℕ). xs ++ ms) (flat_map-cons f (plan_at plans j) (drop (suc j) plans)) in
    let whole : take (length (xs ++ (ys ++ zs))) ns ≡ xs ++ (ys ++ zs) =
    ap (λ (ms : List ℕ). take (length ms) ns) (sym all) ∙ sym (map-take (length (numbers_of_all plans)) blocks) ∙ h ∙ all in
    let behind : take (length (ys ++ zs)) (drop (length xs) ns) ≡ ys ++ zs = (front xs (ys ++ zs) ns whole).1 in
    let own : take (length ys) (drop (length xs) ns) ≡ ys = (front ys zs (drop (length xs) ns) behind).0 in
    map-take (length ys) (drop (sum_by block_count (take j plans)) blocks)
    ∙ ap (take (length ys)) (map-drop (sum_by block_count (take j plans)) blocks)
    ∙ ap (λ (n : ℕ). take (length ys) (drop n ns)) (sym (counted (take j plans))) ∙ own

-- ---- one plan more

module _ (j : ℕ) (cells : List (ℕ × CellValue)) (start : CommitValue) (now : List (ℕ × CellValue)) (commit : CommitValue)
    (placed : ArePlaced cells start.plans) (lt : j < length start.plans) (way : AppendsTo j cells start now commit) where
  abbrev plan : CellCommitValue
  plan = plan_at start.plans j

  appended_is : commit.appended ≡ j
  appended_is = ap (λ (c : CommitValue). c.appended) way.is

  pub turn_is : to_append commit ≡ plan
  turn_is = ap (plan_at commit.plans) appended_is ∙ way.plans.rest j (omega arith)

  pub at_is : (to_append commit).at ≡ plan.at
  at_is = ap (λ (p : CellCommitValue). p.at) turn_is

  pub value_is_still : value_at now plan.at ≡ value_at cells plan.at
  value_is_still = way.changed.waiting j (omega arith) lt

  -- the cell then
  becomes : with_plan commit.stamp commit.place (to_append commit).items commit.hand (value_at now (to_append commit).at)
      ≡ grown cells start j
  becomes =
      ap (λ (p : CellCommitValue). with_plan commit.stamp commit.place p.items commit.hand (value_at now p.at)) turn_is
      ∙ ap (λ (v : CellValue). with_plan commit.stamp commit.place plan.items commit.hand v) value_is_still
      ∙ ap (λ (c : CommitValue). with_plan c.stamp c.place plan.items c.hand (value_at cells plan.at)) way.is

  pub goes_on : (new : List (ℕ × CellValue)) (later : CommitValue)
      → new ≡ with_value now (to_append commit).at
      (with_plan commit.stamp commit.place (to_append commit).items commit.hand (value_at now (to_append commit).at))
      → later ≡ after_append (state_at now (to_append commit).at).chain commit
      → IsReadyFor [] (value_at new (to_append commit).at)
      → AppendsTo (j + 1) cells start new later
  goes_on new later only is ready =
      let within : plan.at < length now = omega (arith, placed.within j lt, way.changed.count) in
      let made : new ≡ with_value now plan.at (grown cells start j) =
      only ∙ ap₂ (λ (k : ℕ) (v : CellValue). with_value now k v) at_is becomes in
      let changed : OnlyAt plan.at now new = only_value now new plan.at (grown cells start j) within made in
      let value : value_at new plan.at ≡ grown cells start j = value_given now new plan.at (grown cells start j) within made in
      let own : IsReadyFor [] (value_at new plan.at) = subst (λ (k : ℕ). IsReadyFor [] (value_at new k)) at_is ready in
      let chain : (state_at now (to_append commit).at).chain ≡ (state_at cells plan.at).chain =
      ap (λ (k : ℕ). (state_at now k).chain) at_is ∙ ap (λ (v : CellValue). v.state.chain) value_is_still in
      let hand : later.hand ≡ hand_before cells start (j + 1) =
      ap (λ (c : CommitValue). c.hand) is
      ∙ ap₂ (λ (p : CellCommitValue) (ch : ChainState). hand_after p.items ch commit.hand) turn_is chain
      ∙ ap (λ (c : CommitValue). hand_after plan.items (state_at cells plan.at).chain c.hand) way.is
      ∙ hand_more cells start j lt in
      let place : later.place ≡ place_before start.plans (j + 1) =
      ap (λ (c : CommitValue). c.place) is
      ∙ ap₂ (λ (c : CommitValue) (p : CellCommitValue). c.place + length p.items) way.is turn_is
      ∙ sym (sum_by_more entry_count start.plans j no_plan lt) in
      let count : later.appended ≡ j + 1 = ap (λ (c : CommitValue). c.appended) is ∙ ap (λ (n : ℕ). n + 1) appended_is in
      let rest : later ≡ record start { plans = later.plans; hand = later.hand; place = later.place; appended = later.appended } =
      is ∙ ap (λ (c : CommitValue). let d : CommitValue = record c {
        plans = (after_append (state_at now (to_append commit).at).chain commit).plans;
        hand = (after_append (state_at now (to_append commit).at).chain commit).hand;
        place = (after_append (state_at now (to_append commit).at).chain commit).place;
        appended = (after_append (state_at now (to_append commit).at).chain commit).appended;
      } in d) way.is
      ∙ sym (ap (λ (c : CommitValue). let d : CommitValue = record start {
        plans = c.plans;
        hand = c.hand;
        place = c.place;
        appended = c.appended;
      } in d) is) in
      record {
        changed = one_more j start.plans (λ i. (grown cells start i).state) cells now new placed lt way.changed changed
            (ap (λ (v : CellValue). v.state) value);
        plans = plans_more j start.plans commit.plans later.plans (record (to_append commit) { items = [] }) lt way.plans
            (ap (λ (c : CommitValue). c.plans) is
            ∙ ap (λ (n : ℕ). slice_set commit.plans n (record (to_append commit) { items = [] })) appended_is)
            (ap (λ (n : ℕ). cell_place_of commit.plans n) appended_is);
        is = rest ∙ ap₂ (λ (h : Hand) (n : ℕ × ℕ). let c : CommitValue = record start {
          plans = later.plans;
          hand = h;
          place = n.0;
          appended = n.1;
        } in c) hand (ap₂ (λ (a b : ℕ). (a, b)) place count);
        rooms = below_more (λ i. (value_at new (cell_place_of start.plans i)).room ≡ (grown cells start i).room) j
            (λ i li. ap (λ (v : CellValue). v.room) (other-only now new plan.at (cell_place_of start.plans i) changed
            (apart cells start.plans placed i j (omega (arith, li, lt)) lt (λ e. omega (arith, li, e))))
            ∙ way.rooms i li) (ap (λ (v : CellValue). v.room) value);
        ready = below_more (λ i. IsReadyFor [] (value_at new (cell_place_of start.plans i))) j
            (λ i li. subst (λ (v : CellValue). IsReadyFor [] v)
            (sym (other-only now new plan.at (cell_place_of start.plans i) changed
            (apart cells start.plans placed i j (omega (arith, li, lt)) lt (λ e. omega (arith, li, e)))))
            (way.ready i li)) own;
      }

  -- ---- the next plan can be appended

  before : ℕ
  before = sum_by block_count (take j start.plans)

  pub can_next : CanAppendAll cells start
      → CanAppendPlan commit.stamp commit.place (to_append commit).items commit.hand (value_at now (to_append commit).at)
  can_next can =
      let each : CanTakeItems start.stamp start.hand plan.items (value_at cells plan.at) = can.each j lt in
      let pages : sum_by (page_count cells) (take j start.plans) + page_count cells plan ≤ sum_by (page_count cells) start.plans =
      sum_by_more_le (page_count cells) start.plans j no_plan lt in
      let entries : place_before start.plans j + entry_count plan ≤ sum_by entry_count start.plans =
      sum_by_more_le entry_count start.plans j no_plan lt in
      let own : CanAppendPlan start.stamp (place_before start.plans j) plan.items (hand_before cells start j)
      (value_at cells plan.at) = record {
        ready = each.ready;
        later = each.later;
        pages = omega (arith, can.pages, pages, length-drop (sum_by (page_count cells) (take j start.plans)) start.hand.pages.blocks);
        page_size = each.page_size;
        blocks = record {
          size = each.block_size;
          numbers = own_blocks j start.plans start.hand.data.blocks lt can.blocks;
          within = each.within;
        };
        places = omega (arith, can.few, entries);
      } in
      let P : CommitValue → CellCommitValue → CellValue → Type 0 = λ c p v. CanAppendPlan c.stamp c.place p.items c.hand v in
      subst (λ (p : CellCommitValue). P commit p (value_at now p.at)) (sym turn_is)
      (subst (P commit plan) (sym value_is_still) (subst (λ (c : CommitValue). P c plan (value_at cells plan.at)) (sym way.is) own))
