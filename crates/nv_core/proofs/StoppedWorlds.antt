-- A world whose machine stops: its image, its blocks, and the world that goes on from there.
use Rattle.std.proofs.Common.{◌≡◌, ◌∙◌, ℕ, suc, ◌+◌, ◌<◌, ◌≤◌, ◌==◌, ◌||◌, ◌++◌, inl, inr, Bool, true, false, cond, nat_lt, List, [], ◌∷◌, Option, None, Some, ap, ap₂, arith, flat_map, length, map, refl, subst, sym}
use Rattle.std.specs.Prelude.{slice_index_or}
use Rattle.std.specs.List.{AllByRecursion}
use Rattle.std.specs.Option.{option_map, option_or}
use Rattle.std.proofs.Math.ListN.{get_or-map as get_or-mapped}
use Rattle.std.proofs.lemmas.Bool.{cases_lt, eqb-true, false≢true, le-ltb, lt-ltb}
use Rattle.std.proofs.lemmas.List.{get_or-map, length-map}
use Rattle.nv_alloc.specs.Block.{AreSized, BlockValue, block_by, numbers_of, zero_block, zeroed}
use Rattle.nv_alloc.specs.FreeList.{AreListsOf, FreeBlocks, IsHomeList, free_blocks, no_list}
use Rattle.nv_alloc.specs.Hand.{blocks_of}
use Rattle.nv_alloc.specs.Numbers.{IsRising, has, times}
use Rattle.nv_alloc.proofs.AllLists.{either_by, none_by}
use Rattle.nv_alloc.proofs.Lists.{has-first, has-times, times-append, times-cons}
use Rattle.nv_audit.specs.Faults.{FitsGeometry, IsFaultless}
use Rattle.nv_audit.specs.Image.{ImageValue, SlotImageValue, image_numbers, no_slot, slot_of}
use Rattle.nv_audit.specs.Mounted.{free_block, records_anew}
use Rattle.nv_audit.specs.Records.{states_of}
use Rattle.nv_base.specs.declared.fault.ImageFault.TheVariants as fault
use Rattle.nv_base.specs.declared.geometry.Geometry.{Geometry}
use Rattle.nv_base.specs.declared.geometry.GeometryNumbers.{GeometryNumbers}
use Rattle.nv_cell.specs.Cell.{CellState, CellValue, no_room, stored_in}
use Rattle.nv_log.specs.Chain.{ChainState}
use Rattle.nv_log.specs.Image.{chain_of}
use Rattle.nv_machine.specs.Hands.{AreLists, AreNumbers}
use Rattle.nv_machine.specs.Kinds.{blocks_in}
use Rattle.nv_machine.specs.Numbers.{free_of, held_by_actor, used_blocks}
use Rattle.nv_machine.specs.Starts.{IsStart}
use Rattle.nv_machine.specs.Step.{after}
use Rattle.nv_machine.specs.World as machine
use Rattle.nv_machine.specs.World.{cell_at, idle, no_cell}
use Rattle.nv_machine.proofs.EachElement.{all_append}
use Rattle.nv_machine.proofs.EveryWorld.{all_whole, reached}
use Rattle.nv_machine.proofs.FromScratch.{counted, not_counted}
use Rattle.nv_machine.proofs.WorldFacts.{logs_paged}
use Rattle.nv_machine.proofs.WorldSizes.{of_numbers}
use Rattle.nv_mount.specs.Build.{AreFree, AreGivenHome, CanAllGoHome, block_at_home}
use Rattle.nv_mount.specs.View.{IsSeen, IsSlotSeen, SlotViewValue, nothing, slot_in}
use Rattle.nv_mount.proofs.Marked.{numbers_append}
use Rattle.nv_restart.proofs.Happenings.{stop_may_stop, stop_starts}
use Rattle.nv_restart.proofs.WorldImages.{faultless}
use Rattle.nv_restart.specs.Mounted.{mounted}
use Rattle.nv_restart.specs.Restarted.{image_of, slot_image}
use Rattle.nv_restart.specs.Stops.{MayStop}
use Rattle.nv_core.specs.Restarts.{AreStopped, all_stored, cleared, held, image_by, shown_cell, view_of}
use Rattle.nv_core.specs.Rooms.{hand_held}
use Rattle.nv_core.specs.Shown.{held_by, shared_of}
use Rattle.nv_core.specs.Stops.{FitsRoom}
use Rattle.nv_core.specs.Worlds.{EventRun, IsWorld, Shows, ShowsActor, WorldState}
use Rattle.nv_core.specs.declared.reservation.Reservation.{Reservation}
use Rattle.nv_core.specs.declared.reservation.Reservation.TheVariants as reserved
use Rattle.nv_core.specs.declared.shared.Shared as code
use Rattle.nv_core.specs.declared.world.Actor.{Actor}
use Rattle.nv_core.proofs.FreshBlocks.{by_zeroed, free_unseen, numbers_zeroed, sized_zeroed}
use Rattle.nv_core.proofs.PutCells.{times_all}

-- ---- the image

-- a world has the image of each world of the machine that it shows
pub image_shown : (w : WorldState) (m : machine.World) → Shows w m → image_by w.shared ≡ image_of m
image_shown w m shows =
    ap₂ (λ (g : GeometryNumbers) (s : machine.Shared).
    let x : machine.World = record { numbers = g; shared = s; actors = [] } in image_of x) shows.numbers shows.shared

-- an image that has no fault has room in the lists of its device
pub fits_room : (s : code.Shared) → IsFaultless (image_by s) → FitsRoom s
fits_room s without =
    let fits : FitsGeometry (image_by s) = without fault.Geometry in
    let slots = length-map (map (λ (c : CellValue). c.state) s.cells.items) slot_image in
    let cells = length-map s.cells.items (λ (c : CellValue). c.state) in
    record { slots = omega (arith, slots, cells, fits.slots); snapshots = fits.snapshots }

-- ---- what hands have

blocks_held : (r : Reservation) → blocks_of (hand_held r) ≡ blocks_in (held_by r)
blocks_held (reserved.Hand hand) = refl
blocks_held (reserved.Ready ready) = refl
blocks_held (reserved.Commit commit) = refl

abbrev ShowEach : List Actor → List machine.Actor → Type 0
ShowEach actors shown = (k : ℕ) (d : Actor) → k < length actors → ShowsActor (slice_index_or actors k d) (slice_index_or shown k idle)

one_held : (actor : Actor) (x : machine.Actor) → ShowsActor actor x → held actor ≡ blocks_in x.hand
one_held actor x shows = blocks_held actor.reserved ∙ ap blocks_in shows.hand

held_numbers : (actors : List Actor) (shown : List machine.Actor) → length actors ≡ length shown → ShowEach actors shown
    → numbers_of (flat_map held actors) ≡ flat_map held_by_actor shown
held_numbers [] [] same each = refl
held_numbers [] (x ∷ shown) same each = absurd (omega (arith, same))
held_numbers (a ∷ actors) [] same each = absurd (omega (arith, same))
held_numbers (a ∷ actors) (x ∷ shown) same each =
    numbers_append (held a) (flat_map held actors)
    ∙ ap₂ (λ (xs ys : List ℕ). xs ++ ys) (ap numbers_of (one_held a x (each 0 a (omega arith))))
    (held_numbers actors shown (omega (arith, same)) (λ k d lt. each (suc k) d (omega (arith, lt))))

held_sized : (size : ℕ) (actors : List Actor) (shown : List machine.Actor) → ShowEach actors shown
    → ((k : ℕ) → AreSized size (blocks_in (slice_index_or shown k idle).hand)) → AreSized size (flat_map held actors)
held_sized size [] shown each sized = tt
held_sized size (a ∷ actors) [] each sized =
    all_append (λ (b : BlockValue). length b.bytes ≡ size) (held a) (flat_map held actors)
    (subst (AreSized size) (sym (one_held a idle (each 0 a (omega arith)))) (sized 0))
    (held_sized size actors [] (λ k d lt. each (suc k) d (omega (arith, lt))) sized)
held_sized size (a ∷ actors) (x ∷ shown) each sized =
    all_append (λ (b : BlockValue). length b.bytes ≡ size) (held a) (flat_map held actors)
    (subst (AreSized size) (sym (one_held a x (each 0 a (omega arith)))) (sized 0))
    (held_sized size actors shown (λ k d lt. each (suc k) d (omega (arith, lt))) (λ k. sized (suc k)))

-- ---- what lists have

pub numbers_free : (lists : List FreeBlocks) → numbers_of (free_blocks lists) ≡ flat_map free_of lists
numbers_free [] = refl
numbers_free (l ∷ lists) = numbers_append l.blocks (free_blocks lists) ∙ ap (λ (ns : List ℕ). free_of l ++ ns) (numbers_free lists)

sized_free : (size : ℕ) (lists : List FreeBlocks)
    → ((k : ℕ) → k < length lists → AreSized size (slice_index_or lists k no_list).blocks) → AreSized size (free_blocks lists)
sized_free size [] each = tt
sized_free size (l ∷ lists) each =
    all_append (λ (b : BlockValue). length b.bytes ≡ size) l.blocks (free_blocks lists) (each 0 (omega arith))
    (sized_free size lists (λ k lt. each (suc k) (omega (arith, lt))))

-- ---- lists with 0 in all bytes

map_either : (a b : Option BlockValue) → option_map zeroed (option_or a b) ≡ option_or (option_map zeroed a) (option_map zeroed b)
map_either None b = refl
map_either (Some x) b = refl

cleared_by : (lists : List FreeBlocks) (n : ℕ) → block_at_home n (map cleared lists) ≡ option_map zeroed (block_at_home n lists)
cleared_by [] n = refl
cleared_by (l ∷ lists) n =
    either_by (map zeroed l.blocks) (free_blocks (map cleared lists)) n
    ∙ ap₂ (λ (a b : Option BlockValue). option_or a b) (by_zeroed l.blocks n) (cleared_by lists n)
    ∙ sym (map_either (block_by l.blocks n) (block_by (free_blocks lists) n))
    ∙ ap (option_map zeroed) (sym (either_by l.blocks (free_blocks lists) n))

cleared_lists : (g : GeometryNumbers) (lists : List FreeBlocks) → AreListsOf g lists → AreListsOf g (map cleared lists)
cleared_lists g lists are = record {
  cpus = length-map lists cleared ∙ are.cpus;
  each = λ cpu lt.
      subst (IsHomeList g cpu) (sym (get_or-mapped cleared lists cpu no_list))
      (one (slice_index_or lists cpu no_list) cpu (are.each cpu lt));
} where
  one : (l : FreeBlocks) (cpu : ℕ) → IsHomeList g cpu l → IsHomeList g cpu (cleared l)
  one l cpu is = record {
    start = is.start;
    end = is.end;
    size = is.size;
    free = record {
      rising = subst IsRising (sym (numbers_zeroed l.blocks)) is.free.rising;
      from_start = subst (AllByRecursion (λ n. l.start ≤ n)) (sym (numbers_zeroed l.blocks)) is.free.from_start;
      below_end = subst (AllByRecursion (λ n. n < l.end)) (sym (numbers_zeroed l.blocks)) is.free.below_end;
      sized = sized_zeroed l.size l.blocks is.free.sized;
    };
  }

zero_there : (size n : ℕ) (bs : List BlockValue) → AreSized size bs → has (numbers_of bs) n ≡ true
    → option_map zeroed (block_by bs n) ≡ Some (zero_block size n)
zero_there size n [] sized there = absurd (false≢true there)
zero_there size n (x ∷ bs) sized there = go (x.number == n) refl there (zero_there size n bs sized.1) where
  go : (c : Bool) → (x.number == n) ≡ c → (c || has (numbers_of bs) n) ≡ true
      → (has (numbers_of bs) n ≡ true → option_map zeroed (block_by bs n) ≡ Some (zero_block size n))
      → option_map zeroed (cond c (Some x) (block_by bs n)) ≡ Some (zero_block size n)
  go true q is later = ap₂ (λ (k m : ℕ). Some (zero_block k m)) sized.0 (eqb-true x.number n q)
  go false q is later = later is

each_below : (count : ℕ) (bs : List BlockValue) → ((n : ℕ) → 1 ≤ times n (numbers_of bs) → n < count)
    → AllByRecursion (λ (b : BlockValue). b.number < count) bs
each_below count [] low = tt
each_below count (x ∷ bs) low = (
  low x.number (some x.number (numbers_of bs)),
  each_below count bs (λ n there. low n (more n x.number (numbers_of bs) there)),
) where
  some : (n : ℕ) (ns : List ℕ) → 1 ≤ times n (n ∷ ns)
  some n ns = counted n (n ∷ ns) (has-first n ns)

  more : (n m : ℕ) (ns : List ℕ) → 1 ≤ times n ns → 1 ≤ times n (m ∷ ns)
  more n m ns there = let all = times-cons n m ns in omega (arith, all, there)

-- ---- a world

module _ (w : WorldState) (is : IsWorld w) where
  abbrev g : GeometryNumbers
  g = w.shared.geometry.numbers

  abbrev m : machine.World
  m = is.0

  abbrev run : EventRun
  run = is.1

  abbrev v : machine.World
  v = after run.start run.events

  is_start : IsStart g run.start run.records
  is_start = is.2.is_start

  image_run : image_by w.shared ≡ image_of v
  image_run = image_shown w m is.2.shows ∙ ap image_of is.2.reached

  -- its image has no fault
  pub world_faultless : IsFaultless (image_by w.shared)
  world_faultless = subst IsFaultless (sym image_run) (faultless g run.start run.records run.events is_start is.2.may)

  -- A RUN MAY START in the world that goes on
  pub world_starts : IsStart g (mounted (image_by w.shared)) (records_anew (image_by w.shared))
  world_starts =
      subst (λ (i : ImageValue). IsStart g (mounted i) (records_anew i)) (sym image_run)
      (stop_starts g run.start run.records run.events is_start is.2.may)

  pub world_may_stop : MayStop g.block (mounted (image_by w.shared)).shared
  world_may_stop =
      subst (λ (i : ImageValue). MayStop g.block (mounted i).shared) (sym image_run)
      (stop_may_stop g run.start run.records run.events is_start is.2.may)

  -- ---- its cells

  numbers : AreNumbers g m
  numbers =
      subst (AreNumbers g) (sym is.2.reached) (all_whole g run.start run.records run.events is_start).numbers

  shown_as : machine.Shared
  shown_as = shared_of w.shared

  cell_shown : (ino : ℕ) (d : CellValue) → ino < length w.shared.cells.items
      → cell_at m.shared ino ≡ (slice_index_or w.shared.cells.items ino d).state
  cell_shown ino d lt =
      ap (λ (s : machine.Shared). cell_at s ino) (sym is.2.shows.shared)
      ∙ get_or-map (λ (c : CellValue). c.state) w.shared.cells.items ino d no_cell lt

  count : length m.shared.cells ≡ length w.shared.cells.items
  count = ap (λ (s : machine.Shared). length s.cells) (sym is.2.shows.shared)
      ∙ length-map w.shared.cells.items (λ (c : CellValue). c.state)

  pages_are : (ino : ℕ) (d : CellValue) → ino < length w.shared.cells.items
      → (slice_index_or w.shared.cells.items ino d).state.chain.page ≡ g.page
  pages_are ino d lt =
      ap (λ (c : CellState). c.chain.page) (sym (cell_shown ino d lt))
      ∙ subst (λ (x : machine.World). ino < length x.shared.cells → (cell_at x.shared ino).chain.page ≡ g.page) (sym is.2.reached)
      (λ less. (logs_paged g run.start run.records run.events ino is_start less).size) (omega (arith, lt, count))

  sizes_are : (ino : ℕ) (d : CellValue) → ino < length w.shared.cells.items
      → (slice_index_or w.shared.cells.items ino d).state.block ≡ g.block
  sizes_are ino d lt =
      ap (λ (c : CellState). c.block) (sym (cell_shown ino d lt))
      ∙ subst (λ (x : machine.World). ino < length x.shared.cells → (cell_at x.shared ino).block ≡ g.block) (sym is.2.reached)
      (λ less. ((all_whole g run.start run.records run.events is_start).parts ino less).size) (omega (arith, lt, count))

  slot_shown : (ino : ℕ) (d : CellValue) → ino < length w.shared.cells.items
      → slot_of (image_by w.shared) ino ≡ slot_image (slice_index_or w.shared.cells.items ino d).state
  slot_shown ino d lt =
      get_or-map slot_image (states_of w.shared.cells.items) ino (slice_index_or w.shared.cells.items ino d).state no_slot
      (let long = length-map w.shared.cells.items (λ (c : CellValue). c.state) in omega (arith, long, lt))
      ∙ ap slot_image (get_or-map (λ (c : CellValue). c.state) w.shared.cells.items ino d
      (slice_index_or w.shared.cells.items ino d).state lt)

  -- WHAT A PLAN READS of it is its image
  pub world_seen : IsSeen (image_by w.shared) (view_of w.shared)
  world_seen = record {
    numbers = refl;
    count = length-map w.shared.cells.items shown_cell ∙ sym many;
    slots = λ ino lt. one ino (omega (arith, lt, many));
    journals = refl;
    snapshots = refl;
    epoch = refl;
    commit = refl;
  } where
    no_value : CellValue
    no_value = record { state = no_cell; room = no_room }

    many : length (image_by w.shared).slots ≡ length w.shared.cells.items
    many = length-map (states_of w.shared.cells.items) slot_image ∙ length-map w.shared.cells.items (λ (c : CellValue). c.state)

    one : (ino : ℕ) → ino < length w.shared.cells.items → IsSlotSeen (image_by w.shared) ino (slot_in (view_of w.shared) ino)
    one ino lt =
        let cell = slice_index_or w.shared.cells.items ino no_value in
        let seen : slot_in (view_of w.shared) ino ≡ shown_cell cell =
        get_or-map shown_cell w.shared.cells.items ino no_value nothing lt in
        let slot = slot_shown ino no_value lt in
        subst (λ (v : SlotViewValue). IsSlotSeen (image_by w.shared) ino v) (sym seen) (record {
          generation = sym (ap (λ (x : SlotImageValue). x.generation) slot);
          chain =
              ap (λ (p : ℕ). let c : ChainState = record cell.state.chain { page = p } in c) (pages_are ino no_value lt)
              ∙ sym (ap (λ (x : SlotImageValue). chain_of g.page x.chain) slot);
        })

  -- ---- its blocks

  homes : AreListsOf g w.shared.lists.items
  homes =
      let are : AreLists g (shared_of w.shared) = subst (AreLists g) (sym is.2.shows.shared) numbers.lists in
      record { cpus = are.cpus; each = are.each }

  -- each block is in a list, in a cell or in a hand
  once : (n : ℕ) → times n (numbers_of (free_blocks w.shared.lists.items)) + times n (all_stored w.shared.cells.items)
      + times n (numbers_of (flat_map held w.actors)) ≡ cond (nat_lt n g.blocks) 1 0
  once n =
      let lists = ap (times n) (numbers_free w.shared.lists.items) in
      let free = ap (λ (s : machine.Shared). times n (flat_map free_of s.lists)) is.2.shows.shared in
      let stored = ap (λ (s : machine.Shared). times n (flat_map stored_in s.cells)) is.2.shows.shared in
      let hands = ap (times n) (held_numbers w.actors m.actors is.2.shows.count is.2.shows.each) in
      let all = times-append n (flat_map free_of m.shared.lists) (used_blocks m) in
      let used = times-append n (flat_map stored_in m.shared.cells) (flat_map held_by_actor m.actors) in
      omega (arith, lists, free, stored, hands, all, used, numbers.once n)

  most : (n : ℕ) → times n (numbers_of (free_blocks w.shared.lists.items)) + times n (all_stored w.shared.cells.items)
      + times n (numbers_of (flat_map held w.actors)) ≤ 1
  most n = go (nat_lt n g.blocks) (once n) where
    go : (b : Bool) → times n (numbers_of (free_blocks w.shared.lists.items)) + times n (all_stored w.shared.cells.items)
        + times n (numbers_of (flat_map held w.actors)) ≡ cond b 1 0
        → times n (numbers_of (free_blocks w.shared.lists.items)) + times n (all_stored w.shared.cells.items)
        + times n (numbers_of (flat_map held w.actors)) ≤ 1
    go true e = omega (arith, e)
    go false e = omega (arith, e)

  inside : (n : ℕ) → 1 ≤ times n (numbers_of (free_blocks w.shared.lists.items)) + times n (all_stored w.shared.cells.items)
      + times n (numbers_of (flat_map held w.actors)) → n < g.blocks
  inside n some = elim (cases_lt n g.blocks) [
    | inl lt ↦ lt
    | inr past ↦ absurd
        (let none = once n ∙ ap (λ (b : Bool). cond b 1 0) (le-ltb n g.blocks past) in omega (arith, none, some))
  ]

  -- THE CELLS of a device that stops
  pub world_stopped : AreStopped (image_by w.shared) w.shared.cells.items
  world_stopped = record {
    faultless = world_faultless;
    slots = refl;
    sizes = sizes_are;
    once = λ n. (let few = most n in omega (arith, few));
    within = λ n there.
        (let some = counted n (all_stored w.shared.cells.items) there in inside n (omega (arith, some)));
  }

  sized_hands : AreSized g.block (flat_map held w.actors)
  sized_hands = held_sized g.block w.actors m.actors is.2.shows.each numbers.sized

  -- WHAT IS IN HANDS can go home
  pub hands_go_home : CanAllGoHome g (flat_map held w.actors) w.shared.lists.items
  hands_go_home = record {
    homes = homes;
    device = each_below g.blocks (flat_map held w.actors) (λ n some. inside n (omega (arith, some)));
    sized = sized_hands;
    once = λ n. (let few = most n in omega (arith, few));
    away = λ n there.
        let some = counted n (numbers_of (flat_map held w.actors)) there in
        let few = most n in
        let none : times n (numbers_of (free_blocks w.shared.lists.items)) ≡ 0 = omega (arith, some, few) in
        none_by (free_blocks w.shared.lists.items) n (has-times n (numbers_of (free_blocks w.shared.lists.items)) none);
  }

  sized_all : AreSized g.block (flat_map held w.actors ++ free_blocks w.shared.lists.items)
  sized_all =
      all_append (λ (b : BlockValue). length b.bytes ≡ g.block) (flat_map held w.actors) (free_blocks w.shared.lists.items) sized_hands
      (sized_free g.block w.shared.lists.items (λ k lt.
      let home = homes.each k (let cpus = homes.cpus in omega (arith, lt, cpus)) in
      subst (λ (size : ℕ). AreSized size (slice_index_or w.shared.lists.items k no_list).blocks) home.size home.free.sized))

  -- AND THEN each block that no cell has is free, and all 0
  pub hands_given : (new : List FreeBlocks) → AreGivenHome g (flat_map held w.actors) w.shared.lists.items new
      → AreFree (image_by w.shared) 0 (all_stored w.shared.cells.items) (map cleared new)
  hands_given new given = record {
    homes = cleared_lists g new given.homes;
    each = λ n lt.
        cleared_by new n ∙ ap (option_map zeroed) (given.each n ∙ sym (either_by hands lists n))
        ∙ go n lt (has (all_stored w.shared.cells.items) n) refl;
  } where
    hands : List BlockValue
    hands = flat_map held w.actors

    lists : List BlockValue
    lists = free_blocks w.shared.lists.items

    both : (n : ℕ) → times n (numbers_of (hands ++ lists)) ≡ times n (numbers_of hands) + times n (numbers_of lists)
    both n = ap (times n) (numbers_append hands lists) ∙ times-append n (numbers_of hands) (numbers_of lists)

    image_less : (n : ℕ) → times n (image_numbers (image_by w.shared)) ≤ times n (all_stored w.shared.cells.items)
    image_less n = let all = times_all n (states_of w.shared.cells.items) in omega (arith, all)

    has_it : (n : ℕ) → 1 ≤ times n (numbers_of (hands ++ lists)) → has (numbers_of (hands ++ lists)) n ≡ true
    has_it n some = pick (has (numbers_of (hands ++ lists)) n) refl where
      pick : (b : Bool) → has (numbers_of (hands ++ lists)) n ≡ b → b ≡ true
      pick true e = refl
      pick false e = absurd (let none = not_counted n (numbers_of (hands ++ lists)) e in omega (arith, none, some))

    go : (n : ℕ) → n < g.blocks → (b : Bool) → has (all_stored w.shared.cells.items) n ≡ b
        → option_map zeroed (block_by (hands ++ lists) n) ≡ cond b None (Some (free_block (image_by w.shared) n))
    go n lt true e =
        let some = counted n (all_stored w.shared.cells.items) e in
        let few = most n in
        let none : times n (numbers_of (hands ++ lists)) ≡ 0 = omega (arith, some, few, both n) in
        ap (option_map zeroed) (none_by (hands ++ lists) n (has-times n (numbers_of (hands ++ lists)) none))
    go n lt false e =
        let none = not_counted n (all_stored w.shared.cells.items) e in
        let all = once n ∙ ap (λ (b : Bool). cond b 1 0) (lt-ltb n g.blocks lt) in
        let some : 1 ≤ times n (numbers_of (hands ++ lists)) = omega (arith, none, all, both n) in
        let out : times n (image_numbers (image_by w.shared)) ≡ 0 = omega (arith, none, image_less n) in
        zero_there g.block n (hands ++ lists) sized_all (has_it n some)
        ∙ ap Some (sym (free_unseen (image_by w.shared) n (has-times n (image_numbers (image_by w.shared)) out)))

  -- ---- its sizes

  pub world_actors : length w.actors ≡ g.actors
  world_actors =
      is.2.shows.count ∙ ap (λ (x : machine.World). length x.actors) is.2.reached
      ∙ (of_numbers g run.start run.records run.events is_start).actors

  pub world_owners : length w.shared.owners.items ≡ g.inodes
  world_owners =
      ap (λ (s : machine.Shared). length s.owners) is.2.shows.shared ∙ ap (λ (x : machine.World). length x.shared.owners) is.2.reached
      ∙ (reached g run.start run.records run.events is_start).locks.wide
      ∙ (all_whole g run.start run.records run.events is_start).pooled.slots
