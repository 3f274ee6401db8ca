-- The bytes of a file by the blocks of the parts that hold its pages.
use Rattle.std.specs.Prelude.{◌≡◌, ℕ, ◌<◌, List, [], Option, option_and_then, replicate, take, unwrap_or}
use Rattle.std.specs.List.{flat_map, range_with_len}
use Rattle.std.specs.Option.{option_map}
use Rattle.nv_base.specs.declared.numbers.EntryId.{EntryId}
use Rattle.nv_entry.specs.declared.item.Entry.{Entry}
use Rattle.nv_entry.specs.declared.node.NodeCopy.{NodeCopy}
use Rattle.nv_entry.specs.declared.part.Part.TheVariants.{Page}
use Rattle.nv_entry.specs.declared.part.PartId.{PartId}
use Rattle.nv_entry.specs.Keys.{PageKey, pages_for}
use Rattle.nv_entry.specs.Node.{block_now, node_now, size_now}
use Rattle.nv_entry.specs.Refs.{scan_ref}

-- the entry that holds a page
abbrev pub page_writer : ℕ → List Entry → ℕ → Option EntryId
page_writer block log page = option_map (λ r. r.entry) (scan_ref block log (PageKey page))

-- the part of an entry that is a page
abbrev pub page_part : ℕ → EntryId → PartId
page_part page entry = record { entry = entry; part = Page page }

-- the bytes of a page's block; zeros where it has none
abbrev pub page_text : ℕ → Option (List ℕ) → List ℕ
page_text block page = unwrap_or page (replicate block 0)

-- the bytes of a page of a file, by the block of the part that holds it
abbrev pub shown_page : (PartId → Option (List ℕ)) → ℕ → List Entry → ℕ → List ℕ
shown_page parts block log page = page_text block (option_and_then (λ entry. parts (page_part page entry)) (page_writer block log page))

-- the bytes of a file by the blocks of the parts that hold its pages, page by page, up to the size
abbrev pub shown_bytes : (PartId → Option (List ℕ)) → ℕ → List Entry → List ℕ
shown_bytes parts block log =
    let size = size_now block log in take size (flat_map (shown_page parts block log) (range_with_len 0 (pages_for block size)))

-- the node of a log, with these bytes
abbrev pub node_with : List ℕ → ℕ → List Entry → Option NodeCopy
node_with text block log = option_map (λ (node : NodeCopy). record node { bytes = text }) (node_now (λ number. []) block log)

-- the node of a log, by the blocks of its parts
abbrev pub shown_node : (PartId → Option (List ℕ)) → ℕ → List Entry → Option NodeCopy
shown_node parts block log = node_with (shown_bytes parts block log) block log

-- each part that holds a page below the size has its block, with the bytes that `bytes` gives.
-- `parts` gives the bytes of the block of each part, if it has
-- one, and `bytes` those of each block number.
abbrev pub HaveBytes : (PartId → Option (List ℕ)) → (ℕ → List ℕ) → ℕ → List Entry → Type 0
HaveBytes parts bytes block log = (page : ℕ) → page < pages_for block (size_now block log)
    → option_and_then (λ entry. parts (page_part page entry)) (page_writer block log page) ≡ option_map bytes (block_now block log page)
