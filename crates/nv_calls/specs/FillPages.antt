-- The pages of a call's fresh blocks, and what a source is asked for them.
use Rattle.std.specs.Prelude.{◌≡◌, ℕ, ◌-◌, ◌*◌, ◌/◌, ◌%◌, ◌<◌, ◌≤◌, min, List, [], ◌∷◌, ◌++◌, length, map, replicate, take, Option, option_and_then}
use Rattle.std.specs.List.{AllByRecursion, range_with_len}
use Rattle.nv_alloc.specs.Block.{BlockValue, numbers_of}
use Rattle.nv_alloc.specs.Queue.{QueueValue}
use Rattle.nv_base.specs.declared.limits.TheConstants.{BLOCK_BYTES}
use Rattle.nv_base.specs.declared.numbers.Handle.{Handle}
use Rattle.nv_entry.specs.declared.node.NodeCopy.{NodeCopy}
use Rattle.nv_entry.specs.Bytes.{page_of, pages_touched, read_at, written}
use Rattle.nv_cell.specs.Cell.{CellValue}
use Rattle.nv_cell.specs.Pages.{block_at_page, slot_bytes}
use Rattle.nv_calls.specs.declared.call.Call.{Call}
use Rattle.nv_calls.specs.declared.call.Call.TheVariants as call
use Rattle.nv_calls.specs.declared.update.Update.{Update}
use Rattle.nv_calls.specs.declared.update.Update.TheVariants as update
use Rattle.nv_calls.specs.AllCalls.{refusal}
use Rattle.nv_calls.specs.Filling.{overlaid, text_part}
use Rattle.nv_calls.specs.Nodes.{cell_of, has_page_in, nodes_in}
use Rattle.nv_calls.specs.Ready.{ReadyValue}
use Rattle.nv_calls.specs.Refusals.{bytes_of, passes}
use Rattle.nv_calls.specs.Updates.{blank_call, blocks_taken, call_of, text_len}
use Rattle.nv_calls.specs.calls.Size.{resized}

-- ---- bytes

-- the bytes of a call's fresh pages: of each page that a text touches, and of one that is cut, after the call
abbrev pub fresh_pages : ℕ → (Handle → Option NodeCopy) → Call → List (List ℕ)
fresh_pages block nodes (call.Write file offset text) =
    map (λ page. page_of block page (written offset text (bytes_of (nodes file))))
    (range_with_len (offset / block) (pages_touched block offset (length text)))
fresh_pages block nodes (call.Size file size) = page_of block (size / block) (resized size (bytes_of (nodes file))) ∷ []
fresh_pages block nodes other = []

-- blocks with these bytes, one after another
abbrev pub filled : List (List ℕ) → List BlockValue → List BlockValue
filled [] blocks = blocks
filled (bytes ∷ rest) [] = []
filled (bytes ∷ rest) (b ∷ blocks) = record b { bytes = bytes } ∷ filled rest blocks

-- ---- by the pages of before

-- an old page with the part of a text that lies in it, where the text begins at `offset`
abbrev pub page_with : ℕ → ℕ → List ℕ → ℕ → List ℕ → List ℕ
page_with block offset text page old =
    let from = offset - page * block in overlaid from (read_at (page * block - offset) (block - from) text) old

-- an old page with zeros from a place on
abbrev pub cut_page : ℕ → ℕ → List ℕ → List ℕ
cut_page block place old = take place old ++ replicate (block - place) 0

-- the bytes of a call's fresh pages, each made of the page that the file had before
abbrev pub pages_over : ℕ → (Handle → ℕ → List ℕ) → Call → List (List ℕ)
pages_over block old (call.Write file offset text) =
    map (λ page. page_with block offset text page (old file page))
    (range_with_len (offset / block) (pages_touched block offset (length text)))
pages_over block old (call.Size file size) = cut_page block (size % block) (old file (size / block)) ∷ []
pages_over block old other = []

-- the block that the cells have for a page of a file, if they have one
abbrev pub block_for : List (ℕ × CellValue) → Handle → ℕ → Option BlockValue
block_for cells file page = option_and_then (λ c. block_at_page c.state page) (cell_of cells file.ino)

-- the bytes of a file's page by the block that the cells have for it; zeros where they have none
abbrev pub page_in : List (ℕ × CellValue) → ℕ → Handle → ℕ → List ℕ
page_in cells block file page = slot_bytes block (block_for cells file page)

-- the call, where a write has the text of a source
abbrev pub sourced : (ℕ → ℕ) → Update → Call
sourced byte_at u = call_of u (text_part byte_at 0 (text_len u))

-- the blocks of a queue, with the pages of a call over these cells
abbrev pub filled_by : List (ℕ × CellValue) → (ℕ → ℕ) → Update → QueueValue → List BlockValue
filled_by cells byte_at u queue = filled (pages_over queue.size (page_in cells queue.size) (sourced byte_at u)) queue.blocks

-- ---- what a source is asked

-- what a source is asked for one page: from which place of the text on, and how many bytes
abbrev pub ask_for : ℕ → ℕ → ℕ → ℕ → ℕ × ℕ
ask_for block offset count page = let at = page * block - offset in (at, min (block - (offset - page * block)) (count - at))

-- what a source is asked for the first pages that a text touches, one after another
abbrev pub asks_of : ℕ → ℕ → ℕ → ℕ → List (ℕ × ℕ)
asks_of block offset count pages = map (ask_for block offset count) (range_with_len (offset / block) pages)

-- what a source is asked by a call that fills so many blocks
abbrev pub asks_by : ℕ → Update → ℕ → List (ℕ × ℕ)
asks_by block (update.Write file offset count) pages = asks_of block offset count pages
asks_by block other pages = []

-- ---- what is ready and what is filled

-- a call passed its check over these cells, and these are the blocks that it takes
pub record CanFill (cells : List (ℕ × CellValue)) (u : Update) (blocks : QueueValue) : Type 0 where
  -- there are at most four cells
  pub few : length cells ≤ 4
  -- a block has at least one byte
  pub some_bytes : 0 < blocks.size
  -- a block has at most `BLOCK_BYTES` bytes
  pub few_bytes : blocks.size ≤ BLOCK_BYTES
  -- the blocks of each cell are of that size
  pub sizes : AllByRecursion (λ c. c.1.state.block ≡ blocks.size) cells
  -- the call passes its check over the nodes of the cells
  pub passed : refusal blocks.size (nodes_in cells) (blank_call u) ≡ passes
  -- there are as many blocks as the call takes
  pub count : length blocks.blocks ≡ blocks_taken blocks.size (nodes_in cells) (has_page_in cells) u

-- two queues whose blocks may differ in their bytes, and in nothing else
pub record HasOtherBytes (old new : QueueValue) : Type 0 where
  -- the blocks have the same numbers, in the same order
  pub numbers : numbers_of new.blocks ≡ numbers_of old.blocks
  -- the blocks are of the same size as before
  pub size : new.size ≡ old.size
  -- there is as much room for more blocks
  pub room : new.room ≡ old.room

-- what is ready, with these data blocks in its hand
abbrev pub with_blocks : QueueValue → ReadyValue → ReadyValue
with_blocks queue ready = record ready { hand = record ready.hand { «data» = queue } }
