-- One page or entry more in a cell, in the course of a commit.
use Rattle.std.proofs.Common.{◌≡◌, ℕ, zero, suc, ◌+◌, ◌-◌, ◌<◌, ◌≤◌, List, [], ◌∷◌, ◌++◌, length, take, drop, Option, Some, inl, inr, arith, refl, ap, ap₂, sym, ◌∙◌, subst, append_assoc, slice_get}
use Rattle.std.specs.Prelude.{option_to_list}
use Rattle.std.specs.Option.{option_map}
use Rattle.std.proofs.lemmas.List.{append-nil, length-append, drop-drop}
use Rattle.std.proofs.lemmas.List.Concat.{flat_map-cons}
use Rattle.nv_alloc.specs.Block.{AreSized, BlockValue, numbers_of}
use Rattle.nv_alloc.specs.Queue.{QueueValue}
use Rattle.nv_base.specs.Ids.{IsIdBefore}
use Rattle.nv_base.specs.declared.numbers.EntryId.{EntryId}
use Rattle.nv_entry.specs.declared.item.Entry.{Entry}
use Rattle.nv_entry.specs.declared.item.Item.{Item}
use Rattle.nv_log.specs.Chain.{AppendsEntry, IsChain, last_epoch, last_id, last_entry, pages_for, room_of, with_page}
use Rattle.nv_log.proofs.Chains.{appends_entry}
use Rattle.nv_entry.specs.Blocks.{item_blocks}
use Rattle.nv_cell.specs.Append.{MayAppend, blocks_for}
use Rattle.nv_cell.specs.Cell.{CellState, CellValue}
use Rattle.nv_cell.specs.Room.{IsReadyFor}
use Rattle.nv_cell.proofs.ReadySteps.{adds_page, first_may, others_ready, page_ready}
use Rattle.nv_calls.specs.Steps.{HaveBlocks, IsLater, MayFollow, id_at, numbers_in, stamped_entry, with_entry, with_new_pages, without_front}
use Rattle.nv_calls.proofs.CellLists.{value_is}
use Rattle.nv_calls.specs.declared.stamp.Stamp.{Stamp}

-- items that are left to append to a cell, from a place in the commit on, with blocks for their pages
pub record IsUnderway (stamp : Stamp) (place : ℕ) (items : List Item) (queue : QueueValue) (now : CellValue) : Type 0 where
  pub ready : IsReadyFor items now
  pub room : length items ≤ room_of now.state.chain
  pub follow : MayFollow stamp place now
  pub blocks : HaveBlocks items now.state.block queue

-- ---- blocks

pub front : (xs ys ns : List ℕ) → take (length (xs ++ ys)) ns ≡ xs ++ ys
    → (take (length xs) ns ≡ xs) × (take (length ys) (drop (length xs) ns) ≡ ys)
front [] ys ns h = (refl, h)
front (x ∷ xs) ys [] h = cc
front (x ∷ xs) ys (n ∷ ns) h =
    let head : n ≡ x = cc in
    let rest : take (length (xs ++ ys)) ns ≡ xs ++ ys = cc in
    let f = front xs ys ns rest in
    (ap₂ (λ (m : ℕ) (ms : List ℕ). m ∷ ms) head f.0, f.1)

pub map-take : (n : ℕ) (bs : List BlockValue) → numbers_of (take n bs) ≡ take n (numbers_of bs)
map-take zero bs = refl
map-take (suc n) [] = refl
map-take (suc n) (b ∷ bs) = ap (λ (ms : List ℕ). b.number ∷ ms) (map-take n bs)

pub map-drop : (n : ℕ) (bs : List BlockValue) → numbers_of (drop n bs) ≡ drop n (numbers_of bs)
map-drop zero bs = refl
map-drop (suc n) [] = refl
map-drop (suc n) (b ∷ bs) = map-drop n bs

pub numbers-cons : (item : Item) (items : List Item) → numbers_in (item ∷ items) ≡ item_blocks item ++ numbers_in items
numbers-cons item items = flat_map-cons item_blocks item items

split : (item : Item) (items : List Item) (block : ℕ) (queue : QueueValue) → HaveBlocks (item ∷ items) block queue
    → (numbers_of (blocks_for item queue.blocks) ≡ item_blocks item) × HaveBlocks items block
    (without_front (length (item_blocks item)) queue)
split item items block queue h =
    let xs = item_blocks item in
    let ys = numbers_in items in
    let cons = numbers-cons item items in
    let all : take (length (xs ++ ys)) (numbers_of queue.blocks) ≡ xs ++ ys =
    ap (λ (ms : List ℕ). take (length ms) (numbers_of queue.blocks)) (sym cons)
    ∙ sym (map-take (length (numbers_in (item ∷ items))) queue.blocks) ∙ h.numbers ∙ cons in
    let f = front xs ys (numbers_of queue.blocks) all in (
      map-take (length xs) queue.blocks ∙ f.0,
      record {
        size = h.size;
        numbers = map-take (length ys) (drop (length xs) queue.blocks)
            ∙ ap (take (length ys)) (map-drop (length xs) queue.blocks) ∙ f.1;
        within = h.within.1;
      },
    )

-- a queue without its first blocks, and then without more
pub without_more : (item : Item) (items : List Item) (queue : QueueValue)
    → without_front (length (numbers_in items)) (without_front (length (item_blocks item)) queue)
    ≡ without_front (length (numbers_in (item ∷ items))) queue
without_more item items queue =
    let n = length (item_blocks item) in
    let m = length (numbers_in items) in
    let all : length (numbers_in (item ∷ items)) ≡ n + m =
    ap length (numbers-cons item items) ∙ length-append (item_blocks item) (numbers_in items) in
    let room : queue.room + n + m ≡ queue.room + (n + m) = omega arith in
    rw all
    (ap₂ (λ (bs : List BlockValue) (r : ℕ). let q : QueueValue = record { blocks = bs; size = queue.size; room = r } in q)
    (drop-drop m n queue.blocks) room)

-- ---- one entry more

pub blocks_are : (stamp : Stamp) (place : ℕ) (item : Item) (items : List Item) (queue : QueueValue) (now : CellValue)
    → IsUnderway stamp place (item ∷ items) queue now → numbers_of (blocks_for item queue.blocks) ≡ item_blocks item
blocks_are stamp place item items queue now h = (split item items now.state.block queue h.blocks).0

pub may_append : (stamp : Stamp) (place : ℕ) (item : Item) (items : List Item) (queue : QueueValue) (now : CellValue)
    → IsUnderway stamp place (item ∷ items) queue now → MayAppend (stamped_entry stamp place item) now
may_append stamp place item items queue now h =
    first_may (stamped_entry stamp place item) items now h.ready (omega (arith, h.room)) h.follow.id h.follow.epoch h.blocks.within.0

follows : (stamp : Stamp) (place : ℕ) (item : Item) (new : CellValue) → last_entry new.state.chain ≡ Some (stamped_entry stamp place item)
    → MayFollow stamp (place + 1) new
follows stamp place item new h =
    let next : IsIdBefore (id_at stamp place) (id_at stamp (place + 1)) = inr (refl, omega arith) in
    let same : stamp.epoch ≤ stamp.epoch = omega arith in
    let id : last_id new.state.chain ≡ Some (id_at stamp place) = ap (option_map (λ (x : Entry). x.id)) h in
    let epoch : last_epoch new.state.chain ≡ Some stamp.epoch = ap (option_map (λ (x : Entry). x.epoch)) h in
    record {
      id = λ last is. let e : id_at stamp place ≡ last = cc in subst (λ (x : EntryId). IsIdBefore x (id_at stamp (place + 1))) e next;
      epoch = λ last is. let e : stamp.epoch ≡ last = cc in subst (λ (x : ℕ). x ≤ stamp.epoch) e same;
    }

pub goes_on : (stamp : Stamp) (place : ℕ) (item : Item) (items : List Item) (queue : QueueValue) (now new : CellValue)
    → IsUnderway stamp place (item ∷ items) queue now → IsChain now.state.chain
    → new ≡ with_entry (stamped_entry stamp place item) queue.blocks now
    → IsUnderway stamp (place + 1) items (without_front (length (item_blocks item)) queue) new
goes_on stamp place item items queue now new h is e =
    let entry : Entry = stamped_entry stamp place item in
    let bs : List BlockValue = blocks_for item queue.blocks in
    let after : CellValue = with_entry entry queue.blocks now in
    let some : 0 < room_of now.state.chain = omega (arith, h.room) in
    let appends : AppendsEntry entry now.state.chain after.state.chain = appends_entry now.state.chain entry is some in
    rw e (record {
      ready = others_ready entry bs items now after is some refl refl h.ready;
      room = omega (arith, h.room, appends.room_falls);
      follow = follows stamp place item after appends.last_is;
      blocks = (split item items now.state.block queue h.blocks).1;
    })

-- ---- one page more

next_taken : (bs : List BlockValue) (n : ℕ) (b : BlockValue) → Some b ≡ slice_get (drop n bs) 0 → take (n + 1) bs ≡ take n bs ++ b ∷ []
next_taken [] zero b h = cc
next_taken [] (suc n) b h = cc
next_taken (x ∷ bs) zero b h = let e : x ≡ b = cc in ap (λ (y : BlockValue). y ∷ []) e
next_taken (x ∷ bs) (suc n) b h =
    let more : suc n + 1 ≡ suc (n + 1) = omega arith in
    rw more (ap (λ (ys : List BlockValue). x ∷ ys) (next_taken bs n b h))

abbrev page_more : BlockValue → CellValue → CellValue
page_more b v = record {
  state = record v.state { chain = with_page b v.state.chain };
  room = record v.room { pages = v.room.pages - 1 };
}

paged : (bs : List BlockValue) (n : ℕ) (b : BlockValue) (v : CellValue) → Some b ≡ slice_get (drop n bs) 0
    → page_more b (with_new_pages (take n bs) v) ≡ with_new_pages (take (n + 1) bs) v
paged bs n b v h =
    let taken = next_taken bs n b h in
    let len : length (take (n + 1) bs) ≡ length (take n bs) + 1 = ap length taken ∙ length-append (take n bs) (b ∷ []) in
    let pages : v.room.pages - length (take n bs) - 1 ≡ v.room.pages - length (take (n + 1) bs) = omega (arith, len) in
    let blocks : (v.state.chain.blocks ++ take n bs) ++ b ∷ [] ≡ v.state.chain.blocks ++ take (n + 1) bs =
    append_assoc v.state.chain.blocks (take n bs) (b ∷ []) ∙ ap (λ (ys : List BlockValue). v.state.chain.blocks ++ ys) (sym taken) in
    ap₂ (λ (ys : List BlockValue) (p : ℕ). let w : CellValue = record {
      state = record v.state { chain = record v.state.chain { blocks = ys } };
      room = record v.room { pages = p };
    } in w) blocks pages

pub no_pages : (v : CellValue) → v ≡ with_new_pages [] v
no_pages v =
    let blocks : v.state.chain.blocks ≡ v.state.chain.blocks ++ [] = sym (append-nil v.state.chain.blocks) in
    let pages : v.room.pages ≡ v.room.pages - 0 = omega arith in
    ap₂ (λ (ys : List BlockValue) (p : ℕ). let w : CellValue = record {
      state = record v.state { chain = record v.state.chain { blocks = ys } };
      room = record v.room { pages = p };
    } in w) blocks pages

pub one_front : (n : ℕ) (queue now new : QueueValue) (b : Option BlockValue) (block : BlockValue) → b ≡ Some block
    → now ≡ without_front n queue
    → new ≡ (let q : QueueValue = record now { blocks = drop 1 now.blocks; room = now.room + length (option_to_list b) } in q)
    → new ≡ without_front (n + 1) queue
one_front n queue now new b block some is e =
    let one : length (option_to_list b) ≡ 1 = ap (λ (o : Option BlockValue). length (option_to_list o)) some in
    let room : queue.room + n + 1 ≡ queue.room + (n + 1) = omega arith in
    e ∙ ap₂ (λ (q : QueueValue) (m : ℕ). let r : QueueValue = record q { blocks = drop 1 q.blocks; room = q.room + m } in r) is one
    ∙ ap₂ (λ (bs : List BlockValue) (r : ℕ). let q : QueueValue = record { blocks = bs; size = queue.size; room = r } in q)
    (drop-drop 1 n queue.blocks) room

pub first_sized : (size : ℕ) (bs : List BlockValue) (b : BlockValue) → AreSized size bs → Some b ≡ slice_get bs 0 → length b.bytes ≡ size
first_sized size [] b sized h = cc
first_sized size (x ∷ bs) b sized h = let e : b ≡ x = cc in ap (λ (y : BlockValue). length y.bytes) e ∙ sized.0

pub none_front : (queue : QueueValue) → queue ≡ without_front 0 queue
none_front queue =
    let room : queue.room ≡ queue.room + 0 = omega arith in
    ap (λ (r : ℕ). let q : QueueValue = record { blocks = queue.blocks; size = queue.size; room = r } in q) room

-- a page more in the course of several
pub record IsPaged (n : ℕ) (v0 now new : CellValue) (bs : List BlockValue) : Type 0 where
  pub value : new ≡ with_new_pages (take (n + 1) bs) v0
  pub ready : (items : List Item) → IsReadyFor items now → IsReadyFor items new
  pub more : room_of new.state.chain ≡ room_of now.state.chain + now.state.chain.page

pub page_added : (n : ℕ) (v0 now new : CellValue) (bs : List BlockValue) (b : BlockValue) → Some b ≡ slice_get (drop n bs) 0
    → IsChain now.state.chain → now ≡ with_new_pages (take n bs) v0
    → new.state ≡ (page_more b now).state → new.room ≡ (page_more b now).room → IsPaged n v0 now new bs
page_added n v0 now new bs b here is now_is state room = record {
  value = value_is new _ _ state room ∙ ap (page_more b) now_is ∙ paged bs n b v0 here;
  ready = λ items h. page_ready b items now new is state room h;
  more = ap (λ (s : CellState). room_of s.chain) state ∙ (adds_page b now.state.chain is).room_rises;
}

-- entries of a later commit may follow, from any place in it on
pub later_follows : (stamp : Stamp) (place : ℕ) (cell : CellValue) → IsLater stamp cell → MayFollow stamp place cell
later_follows stamp place cell later = record { id = λ last is. inl (later.commit last is); epoch = later.epoch }
