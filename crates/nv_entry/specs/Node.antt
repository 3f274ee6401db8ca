-- What an inode is by its log: a node.
use Rattle.std.specs.Prelude.{ℕ, List, take, replicate, Option, Some, None, option_and_then, unwrap_or}
use Rattle.nv_entry.specs.Data.{block_in, mode_in, size_in}
use Rattle.std.specs.List.{flat_map, range_with_len}
use Rattle.nv_entry.specs.declared.item.Entry.{Entry}
use Rattle.nv_entry.specs.declared.key.Datum.{Datum}
use Rattle.nv_entry.specs.declared.key.Datum.TheVariants as datum
use Rattle.nv_entry.specs.declared.node.NodeCopy.{NodeCopy}
use Rattle.nv_entry.specs.Index.{names_of}
use Rattle.nv_entry.specs.Keys.{KindKey, ModeKey, SizeKey, PageKey, pages_for}
use Rattle.nv_entry.specs.Log.{value_now, up_to}

-- the bytes of a page by its block, of which `bytes` tells them; zeros where there is no block
abbrev pub page_bytes : (ℕ → List ℕ) → ℕ → Option ℕ → List ℕ
page_bytes bytes block (Some number) = bytes number
page_bytes bytes block None = replicate block 0

-- the size in bytes, 0 where there is none
abbrev pub size_now : ℕ → List Entry → ℕ
size_now block log = unwrap_or (option_and_then size_in (value_now block log SizeKey)) 0

-- the mode that a log gives now, 0 where it gives none
abbrev pub mode_now : ℕ → List Entry → ℕ
mode_now block log = unwrap_or (option_and_then mode_in (value_now block log ModeKey)) 0

-- the block that a page's current value stands in, if it has one
abbrev pub block_now : ℕ → List Entry → ℕ → Option ℕ
block_now block log page = option_and_then block_in (value_now block log (PageKey page))

-- the first pages of a file, one after another
abbrev pub pages_bytes : (ℕ → List ℕ) → ℕ → List Entry → ℕ → List ℕ
pages_bytes bytes block log count = flat_map (λ page. page_bytes bytes block (block_now block log page)) (range_with_len 0 count)

-- the bytes of a file: page by page, zeros where a page is absent, cut at the size
abbrev pub file_bytes : (ℕ → List ℕ) → ℕ → List Entry → List ℕ
file_bytes bytes block log = take (size_now block log) (pages_bytes bytes block log (pages_for block (size_now block log)))

-- the node of a log by the value of its kind: none where there is no kind
abbrev pub node_of_kind : Option Datum → (ℕ → List ℕ) → ℕ → List Entry → Option NodeCopy
node_of_kind (Some (datum.Kind kind)) bytes block log =
    Some (record {
      kind = kind;
      mode = mode_now block log;
      size = size_now block log;
      bytes = file_bytes bytes block log;
      names = names_of log;
    })
node_of_kind value bytes block log = None

-- the node of a log now: kind, mode, size, bytes and names. There is none where the kind is
-- absent: before its Init, or after its Gone.
-- Example (partial at both ends): with blocks of 4 bytes, to write `abcdefghij` at 3 into an empty
-- file makes pages 0 to 3 and size 13.
-- The bytes are three zeros and then `abcdefghij`.
abbrev pub node_now : (ℕ → List ℕ) → ℕ → List Entry → Option NodeCopy
node_now bytes block log = node_of_kind (value_now block log KindKey) bytes block log

-- the node at an epoch
abbrev pub node_at : (ℕ → List ℕ) → ℕ → ℕ → List Entry → Option NodeCopy
node_at bytes block epoch log = node_now bytes block (up_to epoch log)
