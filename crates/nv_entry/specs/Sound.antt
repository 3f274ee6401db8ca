-- Logs that store a node: its bytes stand page by page, with zeros where nothing is.
use Rattle.std.specs.Prelude.{◌≡◌, ℕ, ◌+◌, ◌-◌, ◌*◌, ◌/◌, ◌<◌, ◌≤◌, if◌then◌else◌, List, [], ◌∷◌, length, replicate, Option, Some, None, slice_index_or}
use Rattle.std.specs.List.{flat_map, range_with_len}
use Rattle.nv_base.specs.declared.limits.TheConstants.{FILE_PAGES}
use Rattle.nv_base.specs.declared.node.Kind.{Kind}
use Rattle.nv_base.specs.declared.node.Kind.TheVariants.{File, Dir}
use Rattle.nv_entry.specs.declared.item.Entry.{Entry}
use Rattle.nv_entry.specs.declared.item.Item.{Item}
use Rattle.nv_entry.specs.declared.item.Item.TheVariants.{Init, Write, SetSize, SetMode, Bind, Unbind, Gone}
use Rattle.nv_entry.specs.declared.item.BlockRun.{BlockRun}
use Rattle.nv_entry.specs.declared.names.BoundName.{BoundName}
use Rattle.nv_entry.specs.declared.node.NodeCopy.{NodeCopy}
use Rattle.nv_entry.specs.Bytes.{page_of, pages_touched, written}
use Rattle.nv_entry.specs.Index.{with_last, without}
use Rattle.nv_entry.specs.Keys.{in_run, is_page, is_past, pages_for}
use Rattle.nv_entry.specs.Node.{node_now, page_bytes}
use Rattle.nv_entry.specs.Stored.{Stored, nothing, stored, stored_after_all}

-- a file has no names, and a directory the size 0
abbrev pub SuitsKind : Kind → ℕ → List BoundName → Type 0
SuitsKind File size names = names ≡ []
SuitsKind Dir size names = size ≡ 0

-- a node is stored, where `bytes` gives those of a block
pub record Stands (bytes : ℕ → List ℕ) (block : ℕ) (s : Stored) (node : NodeCopy) : Type 0 where
  -- the kind is the node's
  pub kind : s.kind ≡ Some node.kind
  -- the mode is the node's
  pub mode : s.mode ≡ node.mode
  -- the size is the node's
  pub size : s.size ≡ node.size
  -- the node has as many bytes as its size says
  pub length : length node.bytes ≡ node.size
  -- the node is no larger than the greatest file
  pub fits : node.size ≤ FILE_PAGES * block
  -- each page has the node's bytes of that page, padded with zeros; an absent one is zeros
  pub pages : (page : ℕ) → page_bytes bytes block (s.blocks page) ≡ page_of block page node.bytes
  -- no page past the size is present, so that a directory has none
  pub within : (page number : ℕ) → s.blocks page ≡ Some number → page < pages_for block node.size
  -- the names are the node's, in the same order
  pub names : s.names ≡ node.names
  -- a file has no names, and a directory the size 0
  pub suits : SuitsKind node.kind node.size node.names

-- a node is stored, or nothing is
abbrev pub Tied : (ℕ → List ℕ) → ℕ → Stored → Option NodeCopy → Type 0
Tied bytes block s None = s ≡ nothing
Tied bytes block s (Some node) = Stands bytes block s node

-- a log is sound: what it has stored is the node that it gives, and nothing where it gives none
abbrev pub IsSound : (ℕ → List ℕ) → ℕ → List Entry → Type 0
IsSound bytes block log = Tied bytes block (stored block log) (node_now bytes block log)

-- a log is sound and gives this node, or none
pub record Gives (bytes : ℕ → List ℕ) (block : ℕ) (log : List Entry) (node : Option NodeCopy) : Type 0 where
  -- the log's node is this one
  pub is : node_now bytes block log ≡ node
  -- what the log has stored is that node
  pub sound : IsSound bytes block log

-- a node of a kind and a mode without bytes and names
abbrev pub empty_node : Kind → ℕ → NodeCopy
empty_node kind mode = record { kind = kind; mode = mode; size = 0; bytes = []; names = [] }

-- the bytes of a page after one more item
abbrev pub page_after : (ℕ → List ℕ) → ℕ → Item → ℕ → List ℕ → List ℕ
page_after bytes block (Write first run size) page before = if in_run first run page then bytes (run.start + (page - first)) else before
page_after bytes block (SetSize size) page before = if is_past block size page then replicate block 0 else before
page_after bytes block Gone page before = if is_page page then replicate block 0 else before
page_after bytes block item page before = before

-- an item makes of one file another, with other bytes
pub record Rewrites (bytes : ℕ → List ℕ) (block : ℕ) (item : Item) (size : ℕ) (before after : NodeCopy) : Type 0 where
  -- the node is a file
  pub file : before.kind ≡ File
  -- all except size and bytes stays
  pub same : after ≡ record before { size = size; bytes = after.bytes }
  -- there are as many bytes as the new size says
  pub length : length after.bytes ≡ size
  -- the file is no larger than the greatest
  pub fits : size ≤ FILE_PAGES * block
  -- each page of the new file is what the item makes of the old one's, padded with zeros
  pub pages : (page : ℕ) → page_of block page after.bytes ≡ page_after bytes block item page (page_of block page before.bytes)

-- a lawful item, and the node that it makes of another. A Write and a SetSize need a file, a Bind
-- and an Unbind a directory. After a Write its pages and those of before lie below the size.
abbrev pub Makes : (ℕ → List ℕ) → ℕ → Item → Option NodeCopy → Option NodeCopy → Type 0
Makes bytes block (Init kind mode) None (Some after) = after ≡ empty_node kind mode
Makes bytes block (Write first run size) (Some node) (Some after) =
    (first + run.len ≤ pages_for block size) × (pages_for block node.size ≤ pages_for block size)
    × Rewrites bytes block (Write first run size) size node after
Makes bytes block (SetSize size) (Some node) (Some after) = Rewrites bytes block (SetSize size) size node after
Makes bytes block (SetMode mode) (Some node) (Some after) = after ≡ record node { mode = mode }
Makes bytes block (Bind name to) (Some node) (Some after) =
    (node.kind ≡ Dir) × (after ≡ record node { names = with_last name to node.names })
Makes bytes block (Unbind name) (Some node) (Some after) = (node.kind ≡ Dir) × (after ≡ record node { names = without name node.names })
Makes bytes block Gone (Some node) None = Unit {0}
Makes bytes block item before after = ⊥

-- several items that are lawful together: where the one node is stored, the other is after them.
-- Example: with blocks of 4 bytes, a node of the 6 bytes `abcdef` is stored as the pages `abcd`
-- and `ef` with two zeros. A SetSize to 5 is no lawful item there: it would leave the `f` past the
-- size in page 1. A Write of page 1 as `e` and three zeros with size 5 is one.
abbrev pub MakesAll : (ℕ → List ℕ) → ℕ → List Item → Option NodeCopy → Option NodeCopy → Type 0
MakesAll bytes block items before after = (s : Stored) → Tied bytes block s before → Tied bytes block (stored_after_all block items s) after

-- the blocks of runs, in order
abbrev pub blocks_of : List BlockRun → List ℕ
blocks_of runs = flat_map (λ run. range_with_len run.start run.len) runs

-- the items of a write from a page on: one for each run, with the size of the file after them all
abbrev pub write_items : ℕ → List BlockRun → ℕ → List Item
write_items first [] size = []
write_items first (run ∷ runs) size = Write first run size ∷ write_items (first + run.len) runs size

-- blocks have the pages that a text touches
pub record HaveText (bytes : ℕ → List ℕ) (block offset : ℕ) (text before blocks : List ℕ) : Type 0 where
  -- there is one block for each page that the text touches
  pub count : length blocks ≡ pages_touched block offset (length text)
  -- each block has the bytes that its page has after the write
  pub filled : (place : ℕ) → place < length blocks
      → bytes (slice_index_or blocks place 0) ≡ page_of block (offset / block + place) (written offset text before)

-- a block run has the pages that a text touches
pub record HasText (bytes : ℕ → List ℕ) (block offset : ℕ) (text before : List ℕ) (run : BlockRun) : Type 0 where
  -- the run has one block for each page that the text touches
  pub count : run.len ≡ pages_touched block offset (length text)
  -- each block has the bytes that its page has after the write
  pub filled : (place : ℕ) → place < run.len
      → bytes (run.start + place) ≡ page_of block (offset / block + place) (written offset text before)

-- a file after a text was written to it
abbrev pub rewritten : ℕ → List ℕ → NodeCopy → NodeCopy
rewritten offset text node = record node { size = length (written offset text node.bytes); bytes = written offset text node.bytes }
