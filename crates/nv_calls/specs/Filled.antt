-- What the blocks of a call have once they are filled.
use Rattle.std.specs.Prelude.{◌≡◌, ℕ, ◌<◌, ◌^◌, Bool, List, length, Option}
use Rattle.std.specs.List.{AllByRecursion}
use Rattle.nv_alloc.specs.Block.{BlockValue}
use Rattle.nv_base.specs.declared.numbers.Handle.{Handle}
use Rattle.nv_cell.specs.Cell.{CellValue}
use Rattle.nv_entry.specs.declared.node.NodeCopy.{NodeCopy}
use Rattle.nv_calls.specs.AllCalls.{blocks_wanted}
use Rattle.nv_calls.specs.FillPages.{filled, fresh_pages, sourced}
use Rattle.nv_calls.specs.Nodes.{nodes_in}
use Rattle.nv_calls.specs.Ready.{ReadyValue}
use Rattle.nv_calls.specs.declared.call.Call.{Call}

-- the data blocks of a call, filled with its fresh pages
pub record AreFilled (block : ℕ) (nodes : Handle → Option NodeCopy) (present : Bool) (c : Call) (fresh : List BlockValue) : Type 0 where
  -- the blocks before they were filled
  pub before : List BlockValue
  -- the n-th block has the bytes of the n-th fresh page
  pub is : fresh ≡ filled (fresh_pages block nodes c) before
  -- there are as many blocks as the call takes
  pub count : length fresh ≡ blocks_wanted block nodes present c
  -- block numbers are below 2^32
  pub small : AllByRecursion (λ (b : BlockValue). b.number < 2 ^ 32) fresh

-- `bytes` gives by its number what a block has
abbrev pub AreRead : (ℕ → List ℕ) → List BlockValue → Type 0
AreRead bytes blocks = AllByRecursion (λ (b : BlockValue). bytes b.number ≡ b.bytes) blocks

-- the data blocks of a ready call, once they are filled over these cells with a source's text
pub record HavePages (bytes : ℕ → List ℕ) (cells : List (ℕ × CellValue)) (byte_at : ℕ → ℕ) (ready : ReadyValue) (blocks : List BlockValue)
    : Type 0 where
  -- they are the hand's data blocks, with the bytes of the call's fresh pages
  pub filled : blocks ≡ filled (fresh_pages ready.hand.data.size (nodes_in cells) (sourced byte_at ready.update)) ready.hand.data.blocks
  -- `bytes` gives for the number of each block what this block has
  pub read : AreRead bytes blocks
