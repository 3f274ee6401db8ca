-- A commit is its appends, its publishes and what it retires, one behind the other.
use Rattle.std.proofs.Common.{◌≡◌, ℕ, zero, suc, ◌<◌, ◌≤◌, ◌^◌, nat_lt, Bool, true, false, cond, List, [], ◌∷◌, length, map, get_or, None, arith, refl, ap, ap₂, sym, ◌∙◌, subst}
use Rattle.std.specs.List.{sum_by}
use Rattle.std.proofs.lemmas.Bool.{lt-ltb}
use Rattle.std.proofs.lemmas.List.{ext_get_or, get_or-map, get_or_default}
use Rattle.std.proofs.Math.ListN.{length-map}
use Rattle.std.proofs.lemmas.List.Sums.{sum_by-cons}
use Rattle.nv_alloc.specs.declared.hand.Hand.{Hand}
use Rattle.nv_base.specs.declared.limits.TheConstants.{NUMBER}
use Rattle.nv_book.specs.Book.{BookValue}
use Rattle.nv_book.specs.declared.manifest.Manifest.{Manifest}
use Rattle.nv_cell.specs.Cell.{CellRoom, CellState, CellValue, KeepsAppendRoom, fresh_of, killed_by, log_of, published}
use Rattle.nv_cell.specs.Effects.{items_of}
use Rattle.nv_cell.specs.Killed.{AreKilled}
use Rattle.nv_cell.specs.Readers.{is_erased, is_gone}
use Rattle.nv_cell.specs.Room.{IsReadyFor}
use Rattle.nv_cell.specs.Weights.{weights_in}
use Rattle.nv_cell.specs.declared.killed.KilledPart.{KilledPart}
use Rattle.nv_entry.specs.declared.item.Entry.{Entry}
use Rattle.nv_epoch.specs.SnapList.{ids}
use Rattle.nv_journal.specs.declared.old_tail.OldTail.{OldTail}
use Rattle.nv_calls.specs.CanCommit.{CanBePublished, CanCommit, CanRetireAll, KillsAsTold, goes}
use Rattle.nv_calls.specs.Cells.{AreCells, ino_at, no_cell, state_at, value_at}
use Rattle.nv_calls.specs.Commit.{CommitValue, ReceiptValue, begun, receipt_of, stamp_of}
use Rattle.nv_calls.specs.Committed.{ChangesPlanned, HaveAppendRoom, HaveSamePlaces, Killing, committed, grown, hand_after_killings, hand_before, journaled, killed_count, killing, manifests_after, noted_killing, place_before, cell_place_of, receipt_by, room_left, settled_cell, settled_room}
use Rattle.nv_calls.specs.Ready.{ArePlaced, CellCommitValue, ReadyValue, kills_of, need_of, no_plan, old_tail, old_tails, plan_at}
use Rattle.nv_calls.specs.Retiring.{hand_retired, part_in, retired, room_erased, with_records}
use Rattle.nv_calls.specs.Steps.{stamped_entries}
use Rattle.nv_calls.proofs.Grown.{IsGrown, is_grown}

-- ---- cells and plans stay cells and plans

pub cells_stay : (old new : List (ℕ × CellValue)) → length new ≡ length old → ((k : ℕ) → ino_at new k ≡ ino_at old k) → AreCells old
    → AreCells new
cells_stay old new count numbers are = record {
  few = omega (arith, are.few, count);
  rising = λ i j d lt lj.
      let oj : j < length old = omega (arith, lj, count) in
      let first : (get_or new i d).0 ≡ ino_at old i =
      ap (λ (c : ℕ × CellValue). c.0) (get_or_default new i d no_cell (omega (arith, lt, lj))) ∙ numbers i in
      let second : (get_or new j d).0 ≡ ino_at old j = ap (λ (c : ℕ × CellValue). c.0) (get_or_default new j d no_cell lj) ∙ numbers j in
      omega (arith, first, second, are.rising i j no_cell lt oj);
}

pub places_stay : (cells now : List (ℕ × CellValue)) (old new : List CellCommitValue) → length now ≡ length cells → HaveSamePlaces old new
    → ArePlaced cells old → ArePlaced now new
places_stay cells now old new count same placed = record {
  within = λ j lt. omega (arith, same.places j, placed.within j (omega (arith, lt, same.count)), count);
  rising = λ i j d lt lj.
      let oj : j < length old = omega (arith, lj, same.count) in
      let first : (get_or new i d).at ≡ cell_place_of old i =
      ap (λ (p : CellCommitValue). p.at) (get_or_default new i d no_plan (omega (arith, lt, lj))) ∙ same.places i in
      let second : (get_or new j d).at ≡ cell_place_of old j = ap (λ (p : CellCommitValue). p.at) (get_or_default new j d no_plan lj)
      ∙ same.places j in
      omega (arith, first, second, placed.rising i j no_plan lt oj);
}

pub places_again : (old mid new : List CellCommitValue) → HaveSamePlaces old mid → HaveSamePlaces mid new → HaveSamePlaces old new
places_again old mid new first second = record {
  count = second.count ∙ first.count;
  places = λ j. second.places j ∙ first.places j;
}

-- changes by plans of the same cells are changes by these
pub changes_by : (old new : List CellCommitValue) (becomes : ℕ → CellState) (cells now : List (ℕ × CellValue)) → HaveSamePlaces old new
    → ChangesPlanned new becomes cells now → ChangesPlanned old becomes cells now
changes_by old new becomes cells now same changes = record {
  count = changes.count;
  numbers = changes.numbers;
  planned = λ j lt. ap (state_at now) (sym (same.places j)) ∙ changes.planned j (omega (arith, lt, same.count));
  others = λ k un. changes.others k (λ j lt e. un j (omega (arith, lt, same.count)) (sym (same.places j) ∙ e));
}

-- ---- sums, term by term

pub sums : (f g : CellCommitValue → ℕ) (xs ys : List CellCommitValue) → length xs ≡ length ys
    → ((j : ℕ) → j < length ys → f (plan_at xs j) ≤ g (plan_at ys j)) → sum_by f xs ≤ sum_by g ys
sums f g [] [] len le = omega arith
sums f g [] (y ∷ ys) len le = absurd (omega (arith, len))
sums f g (x ∷ xs) [] len le = absurd (omega (arith, len))
sums f g (x ∷ xs) (y ∷ ys) len le =
    let first : 0 < length (y ∷ ys) = omega arith in
    omega (
      arith,
      sum_by-cons f x xs,
      sum_by-cons g y ys,
      le 0 first,
      sums f g xs ys (omega (arith, len)) (λ j lt. let more : suc j < length (y ∷ ys) = omega (arith, lt) in le (suc j) more),
    )

-- ---- the same killings, retired

pub same_manifests : (living : List ℕ) (epoch : ℕ) (a b : ℕ → Killing) (n : ℕ) (manifests : List Manifest) → ((j : ℕ) → j < n → a j ≡ b j)
    → manifests_after living epoch a n manifests ≡ manifests_after living epoch b n manifests
same_manifests living epoch a b zero manifests same = refl
same_manifests living epoch a b (suc n) manifests same =
    let last : n < suc n = omega arith in
    ap₂ (λ (k : Killing) (m : List Manifest). with_records living k.ino epoch k.parts m) (same n last)
    (same_manifests living epoch a b n manifests (λ j lt. same j (omega (arith, lt))))

pub same_hand : (living : List ℕ) (epoch : ℕ) (a b : ℕ → Killing) (n : ℕ) (hand : Hand) → ((j : ℕ) → j < n → a j ≡ b j)
    → hand_after_killings living epoch a n hand ≡ hand_after_killings living epoch b n hand
same_hand living epoch a b zero hand same = refl
same_hand living epoch a b (suc n) hand same =
    let last : n < suc n = omega arith in
    ap₂ (λ (k : Killing) (h : Hand). hand_retired living k.ino epoch k.parts k.cell h) (same n last)
    (same_hand living epoch a b n hand (λ j lt. same j (omega (arith, lt))))

-- ---- room

-- what is erased keeps no room, and what is not what it had
still_room : (cell : CellState) (old new : CellRoom) → KeepsAppendRoom old new
    → KeepsAppendRoom (room_erased cell old) (room_erased cell new)
still_room cell old new keeps = go (is_erased cell) refl where
  go : (b : Bool) → is_erased cell ≡ b → KeepsAppendRoom (room_erased cell old) (room_erased cell new)
  go true e = rw e (record { pages = refl; entries = refl; parts = refl; killed = keeps.killed })
  go false e = rw e keeps

-- ---- after the appends

module _ (cells : List (ℕ × CellValue)) (book : BookValue) (cpu : ℕ) (ready : ReadyValue) (can : CanCommit cells book cpu ready)
    (full : List (ℕ × CellValue)) (appended : CommitValue) where
  abbrev start : CommitValue
  start = begun (stamp_of book.state) ready

  abbrev count : ℕ
  count = length ready.plans

  -- what the appends ensure of a commit
  pub record AreAppendedTo (before : CommitValue) : Type 0 where
    pub changes : ChangesPlanned before.plans (λ j. (grown cells before j).state) cells full
    pub rooms : (j : ℕ) → j < length before.plans → (value_at full (cell_place_of before.plans j)).room ≡ (grown cells before j).room
    pub fit : (j : ℕ) → j < length before.plans → IsReadyFor [] (value_at full (cell_place_of before.plans j))
    pub plans : HaveSamePlaces before.plans appended.plans
    pub is : appended ≡ (let c : CommitValue = record before {
      plans = appended.plans;
      hand = hand_before cells before (length before.plans);
      place = place_before before.plans (length before.plans);
      appended = length before.plans;
    } in c)

  abbrev pub AreAppended : Type 0
  AreAppended = AreAppendedTo start

  pub appended_by : (before : CommitValue) → before ≡ start → ChangesPlanned before.plans (λ j. (grown cells before j).state) cells full
      → ((j : ℕ) → j < length before.plans → (value_at full (cell_place_of before.plans j)).room ≡ (grown cells before j).room)
      → ((j : ℕ) → j < length before.plans → IsReadyFor [] (value_at full (cell_place_of before.plans j)))
      → HaveSamePlaces before.plans appended.plans
      → appended ≡ (let c : CommitValue = record before {
        plans = appended.plans;
        hand = hand_before cells before (length before.plans);
        place = place_before before.plans (length before.plans);
        appended = length before.plans;
      } in c) → AreAppended
  appended_by before same changes rooms fit plans is =
      subst AreAppendedTo same (record { changes = changes; rooms = rooms; fit = fit; plans = plans; is = is })

  pub own_grown : (j : ℕ) → j < count → IsGrown (stamped_entries start.stamp (place_before start.plans j) (plan_at start.plans j).items)
      (plan_at start.plans j).items (state_at cells (cell_place_of start.plans j)) (grown cells start j).state
  own_grown j lt =
      is_grown start.stamp (place_before start.plans j) (plan_at start.plans j).items (hand_before cells start j)
      (value_at cells (cell_place_of start.plans j)) (can.settled j lt).some (can.settled j lt).settled

  module _ (a : AreAppended) where
    pub full_cells : AreCells full
    full_cells = cells_stay cells full a.changes.count a.changes.numbers can.cells_are

    pub full_placed : ArePlaced full appended.plans
    full_placed = places_stay cells full start.plans appended.plans a.changes.count a.plans can.placed

    pub full_count : appended.appended ≡ length appended.plans
    full_count = ap (λ (c : CommitValue). c.appended) a.is ∙ sym a.plans.count

    -- the cell of a plan is full
    pub full_is : (j : ℕ) → j < count → state_at full (cell_place_of appended.plans j) ≡ (grown cells start j).state
    full_is j lt = ap (state_at full) (a.plans.places j) ∙ a.changes.planned j lt

    pub can_publish : (j : ℕ) → j < length appended.plans → CanBePublished (value_at full (cell_place_of appended.plans j))
    can_publish j lt =
        let li : j < count = omega (arith, lt, a.plans.count) in
        let g = own_grown j li in
        let is = full_is j li in
        record {
          some = subst (λ (s : CellState). s.chain.tail < length s.chain.entries) (sym is) g.some;
          version = subst (λ (s : CellState). s.version < 2 ^ 62) (sym is)
              (subst (λ (n : ℕ). n < 2 ^ 62) (sym g.grows.version) (can.settled j li).version);
          ready = subst (λ (k : ℕ). IsReadyFor [] (value_at full k)) (sym (a.plans.places j)) (a.fit j li);
        }

    -- the journal notes the tails that the cells had before
    tail_is : (j : ℕ) → j < count → old_tail full (plan_at appended.plans j) ≡ old_tail cells (plan_at start.plans j)
    tail_is j lt =
        ap₂ (λ (m n : ℕ). let t : OldTail = record { ino = m; tail = n } in t)
        (ap (ino_at full) (a.plans.places j) ∙ a.changes.numbers _)
        (ap (λ (s : CellState). s.chain.tail) (full_is j lt) ∙ (own_grown j lt).grows.tail)

    tails_are : old_tails full appended.plans ≡ old_tails cells start.plans
    tails_are =
        ext_get_or no_tail (old_tails full appended.plans) (old_tails cells start.plans)
        (length-map appended.plans (old_tail full) ∙ a.plans.count ∙ sym (length-map start.plans (old_tail cells)))
        (λ i lt.
        let li : i < length appended.plans = omega (arith, lt, length-map appended.plans (old_tail full)) in
        let lj : i < count = omega (arith, li, a.plans.count) in
        get_or-map (old_tail full) appended.plans i no_plan no_tail li ∙ tail_is i lj
        ∙ sym (get_or-map (old_tail cells) start.plans i no_plan no_tail lj)) where
          no_tail : OldTail
          no_tail = record { ino = 0; tail = 0 }

    pub journal_is : journaled full appended.plans ≡ journaled cells start.plans
    journal_is = ap₂ (λ (n : ℕ) (ts : List OldTail). cond (nat_lt 1 n) ts []) a.plans.count tails_are

    -- ---- after the publishes

    module _ (now : List (ℕ × CellValue)) (done : CommitValue) where
      pub record ArePublished : Type 0 where
        pub changes : ChangesPlanned appended.plans (λ j. published (state_at full (cell_place_of appended.plans j))) full now
        pub kept : HaveAppendRoom appended.plans (λ j. (value_at full (cell_place_of appended.plans j)).room) now
        pub killed : (j : ℕ) → j < length appended.plans → (plan_at done.plans j).killed ≡ killed_by
            (state_at full (cell_place_of appended.plans j))
        pub told : (j : ℕ) → j < length appended.plans → KillsAsTold (state_at full (cell_place_of appended.plans j))
        pub plans : HaveSamePlaces appended.plans done.plans
        pub is : done ≡ (let c : CommitValue = record appended {
          plans = done.plans;
          hand = record appended.hand { ino = None };
          published = length appended.plans;
          noted = journaled full appended.plans;
        } in c)

      pub published_by : ChangesPlanned appended.plans (λ j. published (state_at full (cell_place_of appended.plans j))) full now
          → HaveAppendRoom appended.plans (λ j. (value_at full (cell_place_of appended.plans j)).room) now
          → ((j : ℕ) → j < length appended.plans → (plan_at done.plans j).killed ≡ killed_by (state_at full (cell_place_of appended.plans j)))
          → ((j : ℕ) → j < length appended.plans → KillsAsTold (state_at full (cell_place_of appended.plans j)))
          → HaveSamePlaces appended.plans done.plans
          → done ≡ (let c : CommitValue = record appended {
            plans = done.plans;
            hand = record appended.hand { ino = None };
            published = length appended.plans;
            noted = journaled full appended.plans;
          } in c) → ArePublished
      published_by changes kept killed told plans is =
          record { changes = changes; kept = kept; killed = killed; told = told; plans = plans; is = is }

      module _ (p : ArePublished) where
        pub same_places : HaveSamePlaces start.plans done.plans
        same_places = places_again start.plans appended.plans done.plans a.plans p.plans

        pub done_placed : ArePlaced now done.plans
        done_placed = places_stay full now appended.plans done.plans p.changes.count p.plans full_placed

        pub done_count : done.published ≡ length done.plans
        done_count = ap (λ (c : CommitValue). c.published) p.is ∙ sym p.plans.count

        inner : (j : ℕ) → j < count → j < length appended.plans
        inner j lt = omega (arith, lt, a.plans.count)

        pub killed_is : (j : ℕ) → j < count → (plan_at done.plans j).killed ≡ killed_by (grown cells start j).state
        killed_is j lt = p.killed j (inner j lt) ∙ ap killed_by (full_is j lt)

        pub cell_is : (j : ℕ) → j < count → state_at now (cell_place_of done.plans j) ≡ published (grown cells start j).state
        cell_is j lt = ap (state_at now) (p.plans.places j) ∙ p.changes.planned j (inner j lt) ∙ ap published (full_is j lt)

        pub number_is : (j : ℕ) → ino_at now (cell_place_of done.plans j) ≡ ino_at cells (cell_place_of start.plans j)
        number_is j = ap (ino_at now) (same_places.places j) ∙ p.changes.numbers _ ∙ a.changes.numbers _

        -- what is noted is what was killed
        pub killing_is : (j : ℕ) → j < count → noted_killing now done j ≡ killing cells start j
        killing_is j lt =
            ap₂ (λ (m : ℕ) (s : CellState). let k : Killing = record { ino = m; parts = (plan_at done.plans j).killed; cell = s } in k)
            (number_is j) (cell_is j lt)
            ∙ ap (λ (ks : List KilledPart). let k : Killing = record {
              ino = ino_at cells (cell_place_of start.plans j);
              parts = ks;
              cell = published (grown cells start j).state;
            } in k) (killed_is j lt)

        hand_is : done.hand ≡ (let h : Hand = record (hand_before cells start count) { ino = None } in h)
        hand_is =
            ap (λ (c : CommitValue). c.hand) p.is
            ∙ ap (λ (c : CommitValue). let h : Hand = record c.hand { ino = None } in h) a.is

        few : (j : ℕ) → j < count → killed_count (plan_at done.plans j) ≤ kills_of cells (plan_at start.plans j)
        few j lt =
            let g = own_grown j lt in
            let told : KillsAsTold (grown cells start j).state = subst KillsAsTold (full_is j lt) (p.told j (inner j lt)) in
            let weights : weights_in (grown cells start j).state.block (log_of (grown cells start j).state)
            (items_of (fresh_of (grown cells start j).state))
            ≡ kills_of cells (plan_at start.plans j) =
            ap₂ (λ (b : ℕ) (l : List Entry). weights_in b l (items_of (fresh_of (grown cells start j).state))) g.grows.block g.log
            ∙ ap (weights_in (state_at cells (cell_place_of start.plans j)).block (log_of (state_at cells (cell_place_of start.plans j)))) g.fresh in
            omega (arith, ap length (killed_is j lt), told.few, weights)

        pub all_few : sum_by killed_count done.plans ≤ need_of cells start.plans
        all_few = sums killed_count (kills_of cells) done.plans start.plans same_places.count few

        gone_is : (j : ℕ) → j < count → is_gone (log_of (state_at now (cell_place_of done.plans j))) ≡ goes (plan_at start.plans j).items
        gone_is j lt = ap (λ (s : CellState). is_gone (log_of s)) (cell_is j lt) ∙ (own_grown j lt).gone

        pub can_retire : CanRetireAll book.room now done
        can_retire = record {
          each = λ j lj.
              let lt : j < count = omega (arith, lj, same_places.count) in
              let g = own_grown j lt in
              let told : KillsAsTold (grown cells start j).state = subst KillsAsTold (full_is j lt) (p.told j (inner j lt)) in
              let size : done.hand.data.size ≡ (state_at cells (cell_place_of start.plans j)).block =
              ap (λ (h : Hand). h.data.size) hand_is ∙ (can.append.each j lt).block_size in
              let marked : AreKilled (map part_in (plan_at done.plans j).killed) (published (grown cells start j).state) =
              subst (λ (ks : List KilledPart). AreKilled (map part_in ks) (published (grown cells start j).state))
              (sym (killed_is j lt)) told.marked in
              record {
                marked = subst (AreKilled (map part_in (plan_at done.plans j).killed)) (sym (cell_is j lt)) marked;
                size = size ∙ sym g.grows.block ∙ sym (ap (λ (s : CellState). s.block) (cell_is j lt));
                published = subst (λ (s : CellState). s.chain.tail ≡ length s.chain.entries) (sym (cell_is j lt)) refl;
                generation = λ gone.
                    subst (λ (s : CellState). s.generation < NUMBER) (sym (cell_is j lt))
                    (subst (λ (n : ℕ). n < NUMBER) (sym g.grows.generation) ((can.settled j lt).generation (sym (gone_is j lt) ∙ gone)));
              };
          records = omega (arith, all_few, can.records);
          freed = omega (arith, all_few, can.freed, ap (λ (h : Hand). h.data.room) hand_is);
          chain = ap (λ (h : Hand). length h.chain) hand_is ∙ can.chain;
          number = ap (λ (h : Hand). h.ino) hand_is;
          one = λ i j li lj gi gj.
              let si : i < count = omega (arith, li, same_places.count) in
              let sj : j < count = omega (arith, lj, same_places.count) in
              can.one_goes i j si sj (sym (gone_is i si) ∙ gi) (sym (gone_is j sj) ∙ gj);
        }

        -- ---- after all

        pub stamp_is : done.stamp.epoch ≡ book.state.snaps.epoch
        stamp_is = ap (λ (c : CommitValue). c.stamp.epoch) p.is ∙ ap (λ (c : CommitValue). c.stamp.epoch) a.is

        pub all_changes : (last : List (ℕ × CellValue)) (living : List ℕ)
            → ChangesPlanned done.plans (λ j. settled_cell living done.stamp.epoch (noted_killing now done j)) now last
            → ChangesPlanned ready.plans (committed living cells start) cells last
        all_changes last living r =
            let second = changes_by start.plans appended.plans
            (λ j. published (state_at full (cell_place_of appended.plans j))) full now a.plans p.changes in
            let third = changes_by start.plans done.plans (λ j. settled_cell living done.stamp.epoch
            (noted_killing now done j)) now last same_places r in
            record {
              count = third.count ∙ second.count ∙ a.changes.count;
              numbers = λ k. third.numbers k ∙ second.numbers k ∙ a.changes.numbers k;
              planned = λ j lt. third.planned j lt ∙ ap₂ (settled_cell living) stamp_is (killing_is j lt);
              others = λ k un. third.others k un ∙ second.others k un ∙ a.changes.others k un;
            }

        -- the room that is left in a planned cell
        pub all_rooms : (last : List (ℕ × CellValue)) (living : List ℕ)
            → ((j : ℕ) → j < length done.plans → (value_at last (cell_place_of done.plans j)).room
            ≡ settled_room living done.stamp.epoch (noted_killing now done j) (value_at now (cell_place_of done.plans j)).room)
            → HaveAppendRoom ready.plans (room_left living cells start) last
        all_rooms last living rooms j lt =
            let k : Killing = killing cells start j in
            let after : CellState = retired living k.ino start.stamp.epoch k.parts k.cell in
            let had : CellRoom = (value_at full (cell_place_of appended.plans j)).room in
            let left : CellRoom = (value_at now (cell_place_of done.plans j)).room in
            let grew : had ≡ (grown cells start j).room = ap (λ (m : ℕ). (value_at full m).room) (a.plans.places j) ∙ a.rooms j lt in
            let keeps : KeepsAppendRoom (grown cells start j).room left =
            subst (λ (r : CellRoom). KeepsAppendRoom r left) grew
            (subst (λ (m : ℕ). KeepsAppendRoom had (value_at now m).room) (sym (p.plans.places j)) (p.kept j (inner j lt))) in
            let is : (value_at last (cell_place_of start.plans j)).room ≡ room_erased after left =
            ap (λ (m : ℕ). (value_at last m).room) (sym (same_places.places j)) ∙ rooms j (omega (arith, lt, same_places.count))
            ∙ ap₂ (λ (e : ℕ) (x : Killing). settled_room living e x left) stamp_is (killing_is j lt) in
            subst (λ (r : CellRoom). KeepsAppendRoom (room_left living cells start j) r) (sym is)
            (still_room after (grown cells start j).room left keeps)

        -- two planned cells or more are all noted, and the receipt tells them
        pub all_noted : 2 ≤ length done.plans → length done.noted ≡ length done.plans
        all_noted two =
            let many : 1 < length appended.plans = omega (arith, two, p.plans.count) in
            ap (λ (c : CommitValue). length c.noted) p.is
            ∙ ap (λ (b : Bool). length (cond b (old_tails full appended.plans) [])) (lt-ltb 1 (length appended.plans) many)
            ∙ length-map appended.plans (old_tail full) ∙ sym p.plans.count

        pub all_receipt : receipt_of done ≡ receipt_by cells start
        all_receipt =
            ap receipt_of p.is
            ∙ ap₂ (λ (c : CommitValue) (ts : List OldTail). let r : ReceiptValue = record (receipt_of c) { noted = ts } in r)
            a.is journal_is

        pub all_manifests : manifests_after (ids book.state.snaps) done.stamp.epoch (noted_killing now done)
            (length done.plans) book.state.manifests
            ≡ manifests_after (ids book.state.snaps) start.stamp.epoch (killing cells start) count book.state.manifests
        all_manifests =
            ap₂ (λ (e n : ℕ). manifests_after (ids book.state.snaps) e
            (noted_killing now done) n book.state.manifests) stamp_is same_places.count
            ∙ same_manifests (ids book.state.snaps) start.stamp.epoch (noted_killing now done)
            (killing cells start) count book.state.manifests killing_is

        pub all_hand : hand_after_killings (ids book.state.snaps) done.stamp.epoch (noted_killing now done) (length done.plans) done.hand
            ≡ hand_after_killings (ids book.state.snaps) start.stamp.epoch (killing cells start) count
            (let h : Hand = record (hand_before cells start count) { ino = None } in h)
        all_hand =
            ap₂ (λ (e n : ℕ). hand_after_killings (ids book.state.snaps) e (noted_killing now done) n done.hand) stamp_is same_places.count
            ∙ same_hand (ids book.state.snaps) start.stamp.epoch (noted_killing now done) (killing cells start) count done.hand killing_is
            ∙ ap (hand_after_killings (ids book.state.snaps) start.stamp.epoch (killing cells start) count) hand_is

  -- all entries are appended, and then published
  pub record AreAllPublished (now : List (ℕ × CellValue)) (done : CommitValue) : Type 0 where
    pub appends : AreAppended
    pub publishes : ArePublished appends now done
