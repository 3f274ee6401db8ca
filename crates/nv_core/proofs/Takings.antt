-- A taking from one list: what is in the hand after it, and the step that comes next.
use Rattle.std.proofs.Common.{◌≡◌, ℕ, ◌+◌, ◌-◌, ◌<◌, ◌≤◌, ◌∙◌, ◌++◌, Bool, true, List, arith, ap, drop, length, min, refl, subst, sym, length-set, mod-lt, ◌%◌}
use Rattle.nv_alloc.specs.FreeList.{FreeBlocks}
use Rattle.nv_alloc.specs.Queue.{QueueValue}
use Rattle.nv_alloc.specs.declared.hand.Hand.{Hand}
use Rattle.nv_base.specs.Limits.{IsWithinLimits}
use Rattle.nv_base.specs.declared.geometry.GeometryNumbers.{GeometryNumbers}
use Rattle.nv_base.specs.declared.numbers.Handle.{Handle}
use Rattle.nv_calls.specs.declared.looked.LookupResult.{LookupResult}
use Rattle.nv_calls.specs.declared.update.Update.{Update}
use Rattle.nv_machine.specs.World.{list_at}
use Rattle.nv_steps.specs.OnList.{DataBlocks, LogPages, taking_on}
use Rattle.nv_core.proofs.Takes.{fits_still, is_changed, over_all}
use Rattle.nv_core.specs.Parts.{AreHome, AreListsOf}
use Rattle.nv_core.specs.Rooms.{CanWantPages, HasItsBlocks, HasMade, HasRooms, HasTaken, IsChecked, IsHandOf, Takes, TakesBlocks, TakesIf, TakesPages, blocks_to_take, pages_to_take, takes}
use Rattle.nv_core.specs.Shown.{ShownCall, next_of, shared_of, shown, slots_in}
use Rattle.nv_core.specs.Takings.{IsTaken}
use Rattle.nv_core.specs.GhostCalls.{IsChangeWith}
use Rattle.nv_core.specs.declared.request.Request.{Request}
use Rattle.nv_core.specs.declared.request.Request.TheVariants as request
use Rattle.nv_core.specs.declared.reservation.Reservation.TheVariants as reserved
use Rattle.nv_core.specs.declared.next.Next.{Next}
use Rattle.nv_core.specs.declared.next.Next.TheVariants as next
use Rattle.nv_core.specs.declared.running.Running.{Running}
use Rattle.nv_core.specs.declared.shared.Shared.{Shared}
use Rattle.nv_core.proofs.TakenBlocks.{home_after, taken_count}

-- ---- what the call has found stays

module _ (old new : Shared) (slots : List ℕ) (hand after : Hand) (looked : LookupResult) (u : Update) (geometry : new.geometry ≡ old.geometry)
    (cells : new.cells ≡ old.cells) (ino : after.ino ≡ hand.ino) where
  pub made_moved : (made : Handle) → HasMade old slots hand made u → HasMade new slots after made u
  made_moved made has = rw (cells, ino) has

  pub checked_moved : after.chain ≡ hand.chain → IsChecked old slots hand looked u → IsChecked new slots after looked u
  checked_moved chain is = record {
    read = record { there = rw cells is.read.there; own = rw (cells, geometry) is.read.own; held = rw cells is.read.held };
    lent = rw cells is.lent;
    some = is.some;
    still = rw (cells, geometry) is.still;
    passed = rw (cells, geometry) is.passed;
    something = is.something;
    same = rw cells is.same;
    number = rw (cells, ino) is.number;
    chain = rw chain is.chain;
  }

-- ---- what the call takes

-- what a call has before a taking
pub takes_at : (shared : Shared) (hand : Hand) (running : Running) (n : Next) → running.next ≡ n → takes n ≡ true
    → HasRooms shared (reserved.Hand hand) running
    → IsChangeWith (λ (u : Update). HasMade shared (slots_in running.slots) hand running.made u
    × Takes n shared (slots_in running.slots) hand running.wanted running.looked u) running.request
takes_at shared hand running n at is has =
    subst (λ (m : Next). IsChangeWith (λ (u : Update). HasMade shared (slots_in running.slots) hand running.made u
    × Takes m shared (slots_in running.slots) hand running.wanted running.looked u) running.request) at
    (subst (λ (b : Bool). TakesIf b shared hand running) (ap takes at ∙ is) has.2)

module _ (old new : Shared) (slots : List ℕ) (hand : Hand) (looked : LookupResult) (made : Handle) (u : Update) (below n cpu asked : ℕ)
    (list : FreeBlocks)
    (queue : QueueValue) (geometry : new.geometry ≡ old.geometry) (cells : new.cells ≡ old.cells) where
  -- data blocks
  module _ (is : IsTaken below n cpu list old.lists.items new.lists.items hand.«data» queue)
      (has : HasMade old slots hand made u × (IsChecked old slots hand looked u × TakesBlocks old slots hand asked n u)) where
    abbrev Filled : Hand
    Filled = record hand { «data» = queue }

    count_filled : (left : ℕ) → left ≡ n - min n (length list.blocks) → length queue.blocks + left ≡ blocks_to_take old slots u
    count_filled left q =
        omega (arith, q, has.1.1.count, taken_count below n cpu list old.lists.items new.lists.items hand.«data» queue is)

    want_same : blocks_to_take old slots u ≡ blocks_to_take new slots u
    want_same = rw (cells, geometry) refl

    pub blocks_taken : 0 ≡ n - min n (length list.blocks)
        → HasMade new slots Filled made u × IsChecked new slots Filled looked u × HasItsBlocks new slots Filled u
    blocks_taken none = (
      made_moved old new slots hand Filled looked u geometry cells refl made has.0,
      checked_moved old new slots hand Filled looked u geometry cells refl refl has.1.0,
      record {
        blocks = let all = count_filled 0 none in let short : length queue.blocks ≡ length queue.blocks + 0 = omega arith in
            short ∙ all ∙ want_same;
        none = has.1.1.none;
        room = let all = count_filled 0 none in let count = has.1.1.count in let room = has.1.1.pages in omega (arith, all, count, room);
      },
    )

    pub blocks_next : (left more : ℕ) → left ≡ n - min n (length list.blocks) → more < length new.lists.items
        → HasMade new slots Filled made u × (IsChecked new slots Filled looked u × TakesBlocks new slots Filled more left u)
    blocks_next left more q lt = (
      made_moved old new slots hand Filled looked u geometry cells refl made has.0,
      (
        checked_moved old new slots hand Filled looked u geometry cells refl refl has.1.0,
        record {
          count = count_filled left q ∙ want_same;
          none = has.1.1.none;
          room = let room = ap (λ (v : QueueValue). v.room) is.queue in omega (arith, q, room, has.1.1.room);
          pages = let all = count_filled left q in omega (arith, all, has.1.1.count, has.1.1.pages);
          list = lt;
        },
      ),
    )

  -- log pages
  module _ (is : IsTaken below n cpu list old.lists.items new.lists.items hand.pages queue)
      (has : HasMade old slots hand made u × (IsChecked old slots hand looked u × TakesPages old slots hand asked n u)) where
    abbrev Paged : Hand
    Paged = record hand { pages = queue }

    count_paged : (left : ℕ) → left ≡ n - min n (length list.blocks) → length queue.blocks + left ≡ pages_to_take old slots hand u
    count_paged left q =
        omega (arith, q, has.1.1.count, taken_count below n cpu list old.lists.items new.lists.items hand.pages queue is)

    pages_same : pages_to_take old slots hand u ≡ pages_to_take new slots Paged u
    pages_same = rw cells refl

    held : length hand.«data».blocks ≡ blocks_to_take new slots u
    held = has.1.1.blocks ∙ (rw (cells, geometry) refl)

    pub pages_taken : 0 ≡ n - min n (length list.blocks)
        → HasMade new slots Paged made u × (IsChecked new slots Paged looked u × HasTaken new slots Paged u)
    pages_taken none = (
      made_moved old new slots hand Paged looked u geometry cells refl made has.0,
      (
        checked_moved old new slots hand Paged looked u geometry cells refl refl has.1.0,
        record {
          blocks = held;
          pages = let all = count_paged 0 none in let short : length queue.blocks ≡ length queue.blocks + 0 = omega arith in
              short ∙ all ∙ pages_same;
        },
      ),
    )

    pub pages_next : (left more : ℕ) → left ≡ n - min n (length list.blocks) → more < length new.lists.items
        → HasMade new slots Paged made u × (IsChecked new slots Paged looked u × TakesPages new slots Paged more left u)
    pages_next left more q lt = (
      made_moved old new slots hand Paged looked u geometry cells refl made has.0,
      (
        checked_moved old new slots hand Paged looked u geometry cells refl refl has.1.0,
        record {
          blocks = held;
          count = count_paged left q ∙ pages_same;
          room = let room = ap (λ (v : QueueValue). v.room) is.queue in omega (arith, q, room, has.1.1.room);
          list = lt;
        },
      ),
    )

-- ---- the call before it

pub before_blocks : (told : ShownCall) (running : Running) (asked : ℕ) → running.next ≡ next.TakeBlocks asked
    → shown told running ≡ taking_on DataBlocks asked running.wanted (shown told running)
before_blocks told running asked at = ap (λ (n : Next). record (shown told running) { next = next_of n }) at

pub before_pages : (told : ShownCall) (running : Running) (asked : ℕ) → running.next ≡ next.TakeLogPages asked
    → shown told running ≡ taking_on LogPages asked running.wanted (shown told running)
before_pages told running asked at = ap (λ (n : Next). record (shown told running) { next = next_of n }) at

-- a call that has passed its check holds a slot
holds_one : (P : Update → Type 0) (n : ℕ) (j : Request) → ((u : Update) → P u → 0 < n) → IsChangeWith P j → 0 < n
holds_one P n (request.Change plan text) some has = some plan has
holds_one P n (request.Visit visit) some has = elim has [ ]
holds_one P n (request.SnapshotOrCleaner on) some has = elim has [ ]
holds_one P n request.Taken some has = elim has [ ]

pub holds_blocks : (shared : Shared) (hand : Hand) (running : Running) (asked : ℕ) → running.next ≡ next.TakeBlocks asked
    → HasRooms shared (reserved.Hand hand) running → 0 < length (slots_in running.slots)
holds_blocks shared hand running asked at has =
    holds_one (λ (u : Update). HasMade shared (slots_in running.slots) hand running.made u
    × Takes (next.TakeBlocks asked) shared (slots_in running.slots) hand running.wanted running.looked u)
    (length (slots_in running.slots)) running.request (λ u h. h.1.0.some)
    (takes_at shared hand running (next.TakeBlocks asked) at refl has)

pub holds_pages : (shared : Shared) (hand : Hand) (running : Running) (asked : ℕ) → running.next ≡ next.TakeLogPages asked
    → HasRooms shared (reserved.Hand hand) running → 0 < length (slots_in running.slots)
holds_pages shared hand running asked at has =
    holds_one (λ (u : Update). HasMade shared (slots_in running.slots) hand running.made u
    × Takes (next.TakeLogPages asked) shared (slots_in running.slots) hand running.wanted running.looked u)
    (length (slots_in running.slots)) running.request (λ u h. h.1.0.some)
    (takes_at shared hand running (next.TakeLogPages asked) at refl has)

-- ---- what holds of the call after it

module _ (old new : Shared) (hand : Hand) (running : Running) (queue : QueueValue) (below cpu asked : ℕ) (list : FreeBlocks)
    (rest : new ≡ record old { lists = new.lists }) (has : HasRooms old (reserved.Hand hand) running) where
  abbrev geometry : new.geometry ≡ old.geometry
  geometry = ap (λ (t : Shared). t.geometry) rest

  abbrev cells : new.cells ≡ old.cells
  cells = ap (λ (t : Shared). t.cells) rest

  abbrev slots : List ℕ
  slots = slots_in running.slots

  hand_moved : (after : Hand) → after.«data».size ≡ hand.«data».size → after.pages.size ≡ hand.pages.size
      → IsHandOf new.geometry.numbers after
  hand_moved after front pages = record {
    blocks = front ∙ has.1.blocks ∙ ap (λ (t : Shared). t.geometry.numbers.block) (sym rest);
    pages = pages ∙ has.1.pages ∙ ap (λ (t : Shared). t.geometry.numbers.block) (sym rest);
  }

  module _ (at : running.next ≡ next.TakeBlocks asked)
      (is : IsTaken below running.wanted cpu list old.lists.items new.lists.items hand.«data» queue) where
    pub want_after : 0 ≡ running.wanted - min running.wanted (length list.blocks) → CanWantPages new
        (record hand { «data» = queue }) running
    want_after none =
        over_all _ _ running.request (λ u h.
        blocks_taken old new slots hand running.looked running.made u below running.wanted cpu asked list queue geometry cells is h none)
        (takes_at old hand running (next.TakeBlocks asked) at refl has)

    pub rooms_blocks : (left : ℕ) → left ≡ running.wanted - min running.wanted (length list.blocks) → asked + 1 < length new.lists.items
        → HasRooms new (reserved.Hand (record hand { «data» = queue })) (record running { wanted = left; next = next.TakeBlocks (asked + 1) })
    rooms_blocks left q lt =
        let had = takes_at old hand running (next.TakeBlocks asked) at refl has in (
          fits_still running (record running { wanted = left; next = next.TakeBlocks (asked + 1) }) has.0 refl refl refl
              (is_changed _ running.request had),
          hand_moved (record hand { «data» = queue }) (ap (λ (v : QueueValue). v.size) is.queue) refl,
          over_all _ _ running.request (λ u h.
              blocks_next old new slots hand running.looked running.made u below running.wanted cpu asked list queue geometry cells is h
              left
              (asked + 1) q lt)
              had,
          tt,
        )

  module _ (at : running.next ≡ next.TakeLogPages asked)
      (is : IsTaken below running.wanted cpu list old.lists.items new.lists.items hand.pages queue) where
    pub rooms_taken : 0 ≡ running.wanted - min running.wanted (length list.blocks)
        → HasRooms new (reserved.Hand (record hand { pages = queue })) (record running { wanted = 0; next = next.Ready })
    rooms_taken none =
        let had = takes_at old hand running (next.TakeLogPages asked) at refl has in (
          fits_still running (record running { wanted = 0; next = next.Ready }) has.0 refl refl refl (is_changed _ running.request had),
          hand_moved (record hand { pages = queue }) refl (ap (λ (v : QueueValue). v.size) is.queue),
          over_all _ _ running.request (λ u h.
              pages_taken old new slots hand running.looked running.made u below running.wanted cpu asked list queue geometry cells is h
              none)
              had,
          tt,
        )

    pub rooms_pages : (left : ℕ) → left ≡ running.wanted - min running.wanted (length list.blocks) → asked + 1 < length new.lists.items
        → HasRooms new (reserved.Hand (record hand { pages = queue })) (record running { wanted = left; next = next.TakeLogPages (asked + 1) })
    rooms_pages left q lt =
        let had = takes_at old hand running (next.TakeLogPages asked) at refl has in (
          fits_still running (record running { wanted = left; next = next.TakeLogPages (asked + 1) }) has.0 refl refl refl
              (is_changed _ running.request had),
          hand_moved (record hand { pages = queue }) refl (ap (λ (v : QueueValue). v.size) is.queue),
          over_all _ _ running.request (λ u h.
              pages_next old new slots hand running.looked running.made u below running.wanted cpu asked list queue geometry cells is h left
              (asked + 1) q lt)
              had,
          tt,
        )

-- ---- what is shared after it

pub count_after : (below n cpu : ℕ) (list : FreeBlocks) (old new : List FreeBlocks) (before after : QueueValue)
    → IsTaken below n cpu list old new before after → length new ≡ length old
count_after below n cpu list old new before after is =
    ap (λ (l : List FreeBlocks). length l) is.lists ∙ length-set old cpu (record list { blocks = drop n list.blocks })

pub home_new : (old new : Shared) (n place : ℕ) (before after : QueueValue) → IsWithinLimits old.geometry.numbers → AreHome old
    → new ≡ record old { lists = new.lists }
    → IsTaken old.geometry.numbers.blocks n (place % length old.lists.items) (list_at (shared_of old) (place % length old.lists.items))
    old.lists.items new.lists.items before after → AreHome new
home_new old new n place before after limits home rest is =
    let some : 0 < length old.lists.items = omega (arith, limits.some_cpus, home.count) in
    subst (λ (g : GeometryNumbers). AreListsOf g new.lists.items) (ap (λ (t : Shared). t.geometry.numbers) (sym rest))
    (home_after old.geometry.numbers old.geometry.numbers.blocks n
    (place % length old.lists.items) old.lists.items new.lists.items before after home
    (mod-lt place some) is)
