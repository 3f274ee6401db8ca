-- A world that was just made, part by part.
use Rattle.std.proofs.Common.{◌≡◌, ℕ, zero, suc, ◌+◌, ◌-◌, ◌*◌, ◌<◌, ◌≤◌, List, [], ◌∷◌, ◌++◌, drop, map, replicate, take, None, slice_index_or, slice_set, ◌∙◌, ap, arith, length, refl, subst, sym}
use Rattle.std.proofs.lemmas.List.{get_or-replicate, length-replicate}
use Rattle.std.proofs.lemmas.Nat.{le-div}
use Rattle.std.specs.List.{range_with_len}
use Rattle.nv_alloc.specs.Block.{BlockValue, zero_block, zero_blocks}
use Rattle.nv_alloc.specs.FreeList.{FreeBlocks}
use Rattle.nv_alloc.specs.declared.hand.Hand.{Hand}
use Rattle.nv_base.specs.Homes.{home_start}
use Rattle.nv_base.specs.Limits.{IsWithinLimits}
use Rattle.nv_base.specs.declared.geometry.GeometryNumbers.{GeometryNumbers}
use Rattle.nv_base.specs.declared.node.Kind.TheVariants.{Dir}
use Rattle.nv_base.proofs.HomeRanges.{cuts}
use Rattle.nv_book.specs.Book.{empty_book}
use Rattle.nv_cell.specs.Append.{first_entry, founded}
use Rattle.nv_cell.specs.Cell.{CellState, CellValue, empty_cell}
use Rattle.nv_log.specs.Chain.{empty_chain, open_of, with_page}
use Rattle.nv_machine.proofs.NewStart.{new_start}
use Rattle.nv_machine.specs.Format.{formatted, full_list, root_cell, without_lowest}
use Rattle.nv_machine.specs.Starts.{IsStart}
use Rattle.nv_machine.specs.World.{Shared, actor_at, idle}
use Rattle.nv_restart.proofs.MountStops.{new_may_stop}
use Rattle.nv_restart.specs.Stops.{MayStop}
use Rattle.nv_core.specs.Formats.{empty_of, idle_actor, rootless}
use Rattle.nv_core.specs.Rooms.{IsHandOf}
use Rattle.nv_core.specs.Shown.{shared_of}
use Rattle.nv_core.specs.Worlds.{IsWorldAfter, ShowsActor, new_run}
use Rattle.nv_core.specs.declared.shared.Shared as code
use Rattle.nv_core.specs.declared.world.Actor.{Actor}

-- a list with all blocks of its range
pub list_full : (g : GeometryNumbers) (cpu : ℕ) (list : FreeBlocks) → list.start ≡ home_start g.blocks g.cpus cpu
    → list.end ≡ home_start g.blocks g.cpus (cpu + 1) → list.size ≡ g.block
    → list.blocks ≡ zero_blocks g.block list.start (list.end - list.start) → list ≡ full_list g cpu
list_full g cpu list start end size blocks =
    let same : record { start = list.start; end = list.end; size = list.size; blocks = list.blocks } ≡ full_list g cpu =
    rw (blocks, start, end, size) refl in
    same

-- a hand with nothing in it
pub hand_empty : (g : GeometryNumbers) (hand : Hand) → hand.«data» ≡ record { blocks = []; size = g.block; room = 0 }
    → hand.pages ≡ record { blocks = []; size = g.block; room = 0 } → hand.chain ≡ [] → hand.ino ≡ None → hand ≡ empty_of g
hand_empty g hand blocks pages chain ino =
    let same : record { «data» = hand.«data»; pages = hand.pages; chain = hand.chain; ino = hand.ino } ≡ empty_of g =
    rw (blocks, pages, chain, ino) refl in
    same

-- ---- the root

range_first : (a n : ℕ) → 0 < n → range_with_len a n ≡ a ∷ range_with_len (a + 1) (n - 1)
range_first a zero some = absurd (omega (arith, some))
range_first a (suc n) some =
    let less : suc n - 1 ≡ n = omega arith in
    rw less refl

range_behind : (n : ℕ) → drop 1 (range_with_len 0 n) ≡ range_with_len 1 (n - 1)
range_behind zero = refl
range_behind (suc n) =
    let less : suc n - 1 ≡ n = omega arith in
    rw less refl

-- the first list without its lowest block
pub lowest_gone : (lists : List FreeBlocks) (old new : FreeBlocks) (page : BlockValue) → old ≡ slice_index_or lists 0 old
    → new ≡ record old { blocks = new.blocks } → old.blocks ≡ page ∷ new.blocks → slice_set lists 0 new ≡ without_lowest lists
lowest_gone [] old new page there is blocks = refl
lowest_gone (list ∷ lists) old new page there is blocks =
    let behind : drop 1 old.blocks ≡ new.blocks = ap (drop 1) blocks in
    let first : new ≡ record old { blocks = drop 1 old.blocks } = rw behind is in
    ap (λ (l : FreeBlocks). l ∷ lists) (first ∙ ap (λ (l : FreeBlocks). record l { blocks = drop 1 l.blocks }) there)

-- the first of cells that are all in one state
pub first_state : (cells : List CellValue) (cell : CellValue) (n : ℕ) (e : CellState) → 0 < n
    → map (λ (c : CellValue). c.state) cells ≡ replicate n e → cell ≡ slice_index_or cells 0 cell → cell.state ≡ e
first_state cells cell zero e some all there = absurd (omega (arith, some))
first_state [] cell (suc n) e some all there = absurd cc
first_state (c ∷ cells) cell (suc n) e some all there =
    let first : c.state ≡ e = cc in
    ap (λ (v : CellValue). v.state) there ∙ first

-- another one in its place
pub first_cell : (cells : List CellValue) (new : CellValue) (n : ℕ) (e root : CellState) → 0 < n
    → map (λ (c : CellValue). c.state) cells ≡ replicate n e → new.state ≡ root
    → map (λ (c : CellValue). c.state) (slice_set cells 0 new) ≡ root ∷ replicate (n - 1) e
first_cell cells new zero e root some all is = absurd (omega (arith, some))
first_cell [] new (suc n) e root some all is = absurd cc
first_cell (c ∷ cells) new (suc n) e root some all is =
    let less : suc n - 1 ≡ n = omega arith in
    let rest : map (λ (c : CellValue). c.state) cells ≡ replicate n e = cc in
    rw (is, less, rest) refl

-- the lowest block of the first list
pub lowest_block : (g : GeometryNumbers) → IsWithinLimits g
    → (full_list g 0).blocks ≡ zero_block g.block 0 ∷ drop 1 (full_list g 0).blocks
lowest_block g limits =
    let cut = cuts g.blocks g.cpus (omega (arith, limits.some_cpus)) in
    let some : 1 ≤ home_start g.blocks g.cpus 1 =
    le-div 1 (1 * g.blocks) g.cpus (omega (arith, limits.some_cpus)) (omega (arith, limits.cpus_have_blocks)) in
    let none : home_start g.blocks g.cpus 0 ≡ 0 = cut.first in
    let range = range_first 0 (home_start g.blocks g.cpus 1 - 0) (omega (arith, some)) in
    rw (none, range) refl

pub first_list : (g : GeometryNumbers) (lists : List FreeBlocks) (list : FreeBlocks) → IsWithinLimits g
    → lists ≡ map (full_list g) (range_with_len 0 g.cpus) → list ≡ slice_index_or lists 0 list → list ≡ full_list g 0
first_list g lists list limits all there =
    let range = range_first 0 g.cpus (omega (arith, limits.some_cpus)) in
    let is : list ≡ slice_index_or (map (full_list g) (0 ∷ range_with_len (0 + 1) (g.cpus - 1))) 0 list = rw (all, range) at there in
    is

take_none : (n : ℕ) → take {A = ℕ} n [] ≡ []
take_none zero = refl
take_none (suc n) = refl

-- the cell of the root
pub root_founded : (g : GeometryNumbers)
    → founded (first_entry Dir 493 1) (zero_block g.block 0) (empty_cell g.block g.page 1 0) ≡ root_cell g
root_founded g =
    ap (λ (ends : List ℕ). record (root_cell g) { chain = record (root_cell g).chain { ends = ends ++ 1 ∷ [] } })
    (take_none (open_of (with_page (zero_block g.block 0) (empty_chain g.page))))

-- what is shared, from its parts
pub shared_made : (g : GeometryNumbers) (s : Shared) → s.lists ≡ without_lowest (map (full_list g) (range_with_len 0 g.cpus))
    → s.pool ≡ record (rootless g).pool { numbers = drop 1 (rootless g).pool.numbers }
    → s.cells ≡ root_cell g ∷ replicate (g.inodes - 1) (empty_cell g.block g.page 1 0) → s.owners ≡ replicate g.inodes None
    → s.book ≡ empty_book g 1 0 → s.holder ≡ None → s ≡ (formatted g).shared
shared_made g s lists pool cells owners book holder =
    let behind = range_behind g.inodes in
    let same : record { lists = s.lists; pool = s.pool; cells = s.cells; owners = s.owners; book = s.book; holder = s.holder }
    ≡ (formatted g).shared = rw (lists, pool, cells, owners, book, holder, behind) refl in
    same

pub is_rootless : (g : GeometryNumbers) (s : Shared) → s.lists ≡ (rootless g).lists → s.pool ≡ (rootless g).pool
    → s.cells ≡ (rootless g).cells → s.owners ≡ (rootless g).owners → s.book ≡ (rootless g).book → s.holder ≡ None → s ≡ rootless g
is_rootless g s lists pool cells owners book holder =
    let same : record { lists = s.lists; pool = s.pool; cells = s.cells; owners = s.owners; book = s.book; holder = s.holder }
    ≡ rootless g = rw (lists, pool, cells, owners, book, holder) refl in
    same

-- cells that are all alike are all in one state
pub states_alike : (n : ℕ) (cell : CellValue) → map (λ (c : CellValue). c.state) (replicate n cell) ≡ replicate n cell.state
states_alike zero cell = refl
states_alike (suc n) cell = ap (λ (l : List CellState). cell.state ∷ l) (states_alike n cell)

-- ---- the world

-- an actor of many that are idle
pub idle_at : (g : GeometryNumbers) (n k : ℕ) (d : Actor) → k < length (replicate n (idle_actor g))
    → slice_index_or (replicate n (idle_actor g)) k d ≡ idle_actor g
idle_at g n k d inside = get_or-replicate n k (idle_actor g) d (omega (arith, length-replicate n (idle_actor g)))

shows_idle : (g : GeometryNumbers) → ShowsActor (idle_actor g) idle
shows_idle g = record { hand = refl; running = tt }

pub each_shown : (g : GeometryNumbers) (k : ℕ) (d : Actor) → k < length (replicate g.actors (idle_actor g))
    → ShowsActor (slice_index_or (replicate g.actors (idle_actor g)) k d) (actor_at (formatted g) k)
each_shown g k d inside =
    let less : k < g.actors = omega (arith, length-replicate g.actors (idle_actor g)) in
    let shown : actor_at (formatted g) k ≡ idle = get_or-replicate g.actors k idle idle less in
    rw (idle_at g g.actors k d inside, shown) (shows_idle g)

-- it shows the machine's after no event, with room for what its actors are about to do
pub world_made : (g : GeometryNumbers) (s : code.Shared) (actors : List Actor) → IsWithinLimits g → s.geometry.numbers ≡ g
    → shared_of s ≡ (formatted g).shared → actors ≡ replicate g.actors (idle_actor g)
    → IsWorldAfter (record { shared = s; actors = actors }) (formatted g) (new_run g)
world_made g s actors limits numbers shared idles =
    let block : g.block ≡ s.geometry.numbers.block = sym (ap (λ (n : GeometryNumbers). n.block) numbers) in
    let hand : IsHandOf s.geometry.numbers (empty_of g) = record { blocks = block; pages = block } in
    let count : length (replicate g.actors (idle_actor g)) ≡ length (formatted g).actors =
    length-replicate g.actors (idle_actor g) ∙ sym (length-replicate g.actors idle) in
    record {
      is_start = subst (λ (n : GeometryNumbers). IsStart n (formatted g) []) (sym numbers) (new_start g limits);
      reached = refl;
      may = subst (λ (n : GeometryNumbers). MayStop n.block (formatted g).shared) (sym numbers) (new_may_stop g);
      shows = record { numbers = numbers; shared = shared; count = rw idles count; each = rw idles (each_shown g) };
      rooms = rw idles (λ k d inside. rw (idle_at g g.actors k d inside) hand);
    }
