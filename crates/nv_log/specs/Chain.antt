-- Chains: the pages of a log, its entries in append order, and how many of them count.
use Rattle.std.specs.Prelude.{◌≡◌, ℕ, zero, suc, ◌==◌, nat_le, ◌+◌, ◌-◌, ◌*◌, ◌<◌, ◌≤◌, Bool, true, not, if◌then◌else◌, nat_lt, min, List, [], ◌∷◌, ◌++◌, length, take, drop, map, replicate, find, position, Option, Some, slice_get, slice_index_or}
use Rattle.std.specs.Int.{div_ceil}
use Rattle.std.specs.List.{flat_map, range_with_len}
use Rattle.std.specs.Option.{option_map}
use Rattle.nv_base.specs.Ids.{is_same_id}
use Rattle.nv_base.specs.declared.limits.TheConstants.{LEAST_PAGE_ENTRIES, PAGE_ENTRIES}
use Rattle.nv_base.specs.declared.numbers.EntryId.{EntryId}
use Rattle.nv_alloc.specs.Block.{BlockValue}
use Rattle.nv_entry.specs.Clean.{select}
use Rattle.nv_entry.specs.declared.item.Entry.{Entry}
use Rattle.nv_entry.specs.Log.{IsLog}

-- what clauses see of a chain, except for its room
pub record ChainState : Type 0 where
  -- how many entries a log page holds
  pub page : ℕ
  -- the block of each log page
  pub blocks : List BlockValue
  -- where each log page with entries ends, as a number of entries; these pages stand first
  pub ends : List ℕ
  -- all entries in append order; those past the tail are not yet published
  pub entries : List Entry
  -- how many of the entries count
  pub tail : ℕ

-- a chain with its room
pub record ChainValue : Type 0 where
  -- its log pages, its entries and its tail
  pub state : ChainState
  -- how many more log pages may be added without memory
  pub spare : ℕ

-- a chain without a page, of pages that hold so many entries
abbrev pub empty_chain : ℕ → ChainState
empty_chain page = record { page = page; blocks = []; ends = []; entries = []; tail = 0 }

-- the entries that count
abbrev pub log : ChainState → List Entry
log chain = take chain.tail chain.entries

-- the last of a list, if there is one
abbrev pub last_of : {X : Type 0} → List X → Option X
last_of xs = slice_get xs (length xs - 1)

-- the last entry of a chain, if it has one
abbrev pub last_entry : ChainState → Option Entry
last_entry chain = last_of chain.entries

-- the id of the last entry, if there is one
abbrev pub last_id : ChainState → Option EntryId
last_id chain = option_map (λ e. e.id) (last_entry chain)

-- the epoch of the last entry, if there is one
abbrev pub last_epoch : ChainState → Option ℕ
last_epoch chain = option_map (λ e. e.epoch) (last_entry chain)

-- the entry of that id
abbrev pub entry_of : ChainState → EntryId → Option Entry
entry_of chain id = find (λ e. is_same_id e.id id) chain.entries

-- the place of the entry of that id, in append order
abbrev pub place_of_id : List Entry → EntryId → Option ℕ
place_of_id entries id = position (λ e. is_same_id e.id id) entries

-- where page `k` begins among `len` items; a page past those with items begins where all items end
abbrev pub start_in : List ℕ → ℕ → ℕ → ℕ
start_in ends len k = slice_index_or (0 ∷ ends) k len

-- where page `k` ends among `len` items; a page past those with items ends where all items end
abbrev pub end_in : List ℕ → ℕ → ℕ → ℕ
end_in ends len k = slice_index_or ends k len

-- where a page of the chain starts, as a number of entries
abbrev pub start_of : ChainState → ℕ → ℕ
start_of chain k = start_in chain.ends (length chain.entries) k

-- where a page of the chain ends, as a number of entries
abbrev pub end_of : ChainState → ℕ → ℕ
end_of chain k = end_in chain.ends (length chain.entries) k

-- a list that begins at place `start`, cut at each of the ends
abbrev pub parts_from : {X : Type 0} → ℕ → List ℕ → List X → List (List X)
parts_from start [] xs = []
parts_from start (end ∷ ends) xs = take (end - start) xs ∷ parts_from end ends (drop (end - start) xs)

-- the entries of each log page that has any
abbrev pub pages_of : ChainState → List (List Entry)
pages_of chain = parts_from 0 chain.ends chain.entries

-- the entries that count, log page by log page
abbrev pub log_pages : ChainState → List (List Entry)
log_pages chain = parts_from 0 chain.ends (log chain)

-- the entries of page `k`
abbrev pub page_entries : ChainState → ℕ → List Entry
page_entries chain k = slice_index_or (pages_of chain) k []

-- the page that gets the next entry: that of the last entry, or once it is full the one after it
abbrev pub open_page : ℕ → List ℕ → ℕ → ℕ
open_page page ends len = if nat_lt (len - start_in ends len (length ends - 1)) page then length ends - 1 else length ends

-- the page of the chain that gets the next entry
abbrev pub open_of : ChainState → ℕ
open_of chain = open_page chain.page chain.ends (length chain.entries)

-- how many more entries the log pages take that are there, those without an entry too
abbrev pub room_of : ChainState → ℕ
room_of chain = chain.page * (length chain.blocks - open_of chain) - (length chain.entries - start_of chain (open_of chain))

-- how many log pages a log with so many takes at once: one where it has none, then as many again
-- up to eight in all, and then eight.
-- Example: a log grows from 0 to 1, 2, 4, 8, 16 and 24 log pages.
abbrev pub growth : ℕ → ℕ
growth pages = if pages == 0 then 1 else if nat_lt pages 8 then min pages (8 - pages) else 8

-- how many log pages a log takes, growth by growth, until there is room for so many entries; there
-- are at most `steps` growths
abbrev pub pages_in : ℕ → ℕ → ℕ → ℕ → ℕ → ℕ
pages_in zero page pages room entries = 0
pages_in (suc steps) page pages room entries =
    if nat_le entries room then 0
    else growth pages + pages_in steps page (pages + growth pages) (room + growth pages * page) entries

-- how many log pages a log takes, growth by growth, until there is room to append so many entries.
-- Example: a log with two full pages of two entries takes two pages
-- for one to four entries, and six for five.
abbrev pub pages_for : ChainState → ℕ → ℕ
pages_for chain n = pages_in n chain.page (length chain.blocks) (room_of chain) n

-- the chain with one more log page, which has no entry
abbrev pub with_page : BlockValue → ChainState → ChainState
with_page block chain = record chain { blocks = chain.blocks ++ block ∷ [] }

-- the chain with one more entry, which stands last on the open page
abbrev pub appended : Entry → ChainState → ChainState
appended e chain = record chain {
  ends = take (open_of chain) chain.ends ++ (length chain.entries + 1) ∷ [];
  entries = chain.entries ++ e ∷ [];
}

-- what flags leave of a list: the items that they mark as staying, and those past the flags
abbrev pub left_of : {X : Type 0} → List Bool → List X → List X
left_of stays xs = select stays xs ++ drop (length stays) xs

-- the items that flags mark as going
abbrev pub gone_of : {X : Type 0} → List Bool → List X → List X
gone_of stays xs = select (map not stays) xs

-- flags from place `first` on, before which all stay
abbrev pub flags_from : ℕ → List Bool → List Bool
flags_from first stays = replicate first true ++ stays

-- lists one behind the other, as one
abbrev pub joined : {X : Type 0} → List (List X) → List X
joined parts = flat_map (λ part. part) parts

-- where each of some lists ends once they are joined, where the first begins at place `start`
abbrev pub ends_from : {X : Type 0} → ℕ → List (List X) → List ℕ
ends_from start [] = []
ends_from start (part ∷ parts) = (start + length part) ∷ ends_from (start + length part) parts

-- the chain without the entries of the pages that go; the log pages themselves stay
abbrev pub with_entries_left : List Bool → ChainState → ChainState
with_entries_left stays chain = record chain {
  ends = ends_from 0 (left_of stays (pages_of chain));
  entries = joined (left_of stays (pages_of chain));
  tail = length (joined (left_of stays (log_pages chain)));
}

-- the chain without the pages that go, and without their entries
abbrev pub with_pages_left : List Bool → ChainState → ChainState
with_pages_left stays chain = record (with_entries_left stays chain) { blocks = left_of stays chain.blocks }

-- where the pages end that `n` entries fill one after the other
abbrev pub packed : ℕ → ℕ → List ℕ
packed page n = map (λ k. min ((k + 1) * page) n) (range_with_len 0 (div_ceil n page))

-- the chain with what is left of its entries on fresh log pages
abbrev pub compacted : List Bool → List BlockValue → ChainState → ChainState
compacted stays pages chain = record chain {
  blocks = pages;
  ends = packed chain.page (length (left_of stays chain.entries));
  entries = left_of stays chain.entries;
  tail = length (left_of stays (log chain));
}

-- one entry was appended to a chain
pub record AppendsEntry (e : Entry) (old new : ChainState) : Type 0 where
  -- there is room for one entry less
  pub room_falls : room_of new + 1 ≡ room_of old
  -- the entry is the last
  pub last_is : last_entry new ≡ Some e
  -- the entry stands behind those of its log page, and all others stand where they stood
  pub pages_are : pages_of new ≡ take (open_of old) (pages_of old) ++ (page_entries old (open_of old) ++ e ∷ []) ∷ []
  -- the entries that count are those of before
  pub log_stays : log new ≡ log old

-- some log pages left a chain
pub record KeepsPages (stays : List Bool) (old new : ChainState) : Type 0 where
  -- each log page that stays keeps its entries
  pub pages_are : pages_of new ≡ left_of stays (pages_of old)
  -- the log keeps what the pages that stay had of it
  pub log_is : log new ≡ joined (left_of stays (log_pages old))

-- where pages of one to `most` items end; the first begins at `start`, and the last ends at `len`
abbrev pub AreEnds : ℕ → ℕ → List ℕ → ℕ → Type 0
AreEnds most start [] len = start ≡ len
AreEnds most start (end ∷ ends) len = (start < end) × (end ≤ start + most) × AreEnds most end ends len

-- what holds of each chain
pub record IsChain (chain : ChainState) : Type 0 where
  -- a log page holds at least 2 entries
  pub least : LEAST_PAGE_ENTRIES ≤ chain.page
  -- a log page holds at most 63 entries
  pub most : chain.page ≤ PAGE_ENTRIES
  -- no more log pages have entries than there are
  pub paged : length chain.ends ≤ length chain.blocks
  -- each log page with entries has 1 to `page` of them, and the last ends where all end
  pub parted : AreEnds chain.page 0 chain.ends (length chain.entries)
  -- ids rise and epochs never fall along all entries, those past the tail too
  pub rising : IsLog chain.entries
  -- the tail is within the entries
  pub within : chain.tail ≤ length chain.entries
