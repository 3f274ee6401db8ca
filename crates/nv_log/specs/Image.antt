-- A chain as it stands in an image, and the chain that is cut from it.
use Rattle.std.specs.Prelude.{ℕ, ◌≤◌, nat_lt, if◌then◌else◌, List, [], ◌∷◌, drop, length, take}
use Rattle.nv_alloc.specs.Block.{BlockValue}
use Rattle.nv_entry.specs.declared.item.Entry.{Entry}
use Rattle.nv_log.specs.Chain.{AreEnds, ChainState}

-- what clauses see of a chain in an image. It may come from anywhere, so
-- that its parts need not fit one another.
pub record ChainImageValue : Type 0 where
  -- the block of each log page
  pub pages : List BlockValue
  -- where each log page with entries ends, as a number of entries
  pub ends : List ℕ
  -- all entries in append order
  pub entries : List Entry
  -- how many of them count
  pub tail : ℕ

-- the image of an empty slot's chain
abbrev pub no_chain : ChainImageValue
no_chain = record { pages = []; ends = []; entries = []; tail = 0 }

-- the entries of a chain image stand on its log pages.
-- Example: with pages of 4 entries, 5 entries stand on two pages with the ends 4 and 5. With the
-- one end 5 they do not, since that page would have 5 entries.
pub record IsPaged (page : ℕ) (chain : ChainImageValue) : Type 0 where
  -- each log page with entries has 1 to `page` of them, and the last ends where all end
  pub parted : AreEnds page 0 chain.ends (length chain.entries)
  -- no more log pages have entries than there are
  pub paged : length chain.ends ≤ length chain.pages
  -- the tail is within the entries
  pub within : chain.tail ≤ length chain.entries

-- a chain as an image has it
abbrev pub image_of : ChainState → ChainImageValue
image_of chain = record { pages = chain.blocks; ends = chain.ends; entries = chain.entries; tail = chain.tail }

-- the chain of an image, with log pages that hold `page` entries
abbrev pub chain_of : ℕ → ChainImageValue → ChainState
chain_of page chain =
    record { page = page; blocks = chain.pages; ends = chain.ends; entries = chain.entries; tail = chain.tail }

-- where the log pages end on which the first `n` entries stand
abbrev pub cut_ends : ℕ → List ℕ → List ℕ
cut_ends n [] = []
cut_ends n (end ∷ ends) = if nat_lt end n then end ∷ cut_ends n ends else if nat_lt 0 n then n ∷ [] else []

-- the blocks of the log pages on which none of the first `n` entries stands
abbrev pub pages_past : ℕ → ChainState → List BlockValue
pages_past n chain = drop (length (cut_ends n chain.ends)) chain.blocks

-- a chain image cut to its first `n` entries, on the log pages that these stand on.
-- Example: of 5 entries on two pages with the ends 4 and 5, a
-- cut to 3 leaves one page with the end 3.
abbrev pub cut_chain : ℕ → ℕ → ChainImageValue → ChainState
cut_chain page n chain = record {
  page = page;
  blocks = take (length (cut_ends n chain.ends)) chain.pages;
  ends = cut_ends n chain.ends;
  entries = take n chain.entries;
  tail = n;
}
