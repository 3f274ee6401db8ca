-- The file of a cell whose log is sound ends at its size.
use Rattle.std.proofs.Common.{◌≡◌, ℕ, zero, suc, ◌+◌, ◌*◌, ◌<◌, ◌≤◌, ◌∙◌, inl, inr, List, length, replicate, Option, Some, None, ap, arith, refl, subst, sym}
use Rattle.std.specs.Prelude.{slice_index_or}
use Rattle.std.proofs.lemmas.Bool.{cases_lt}
use Rattle.std.proofs.lemmas.List.{get_or_past}
use Rattle.std.proofs.lemmas.List.FromFn.{get_or-map-range_with_len, length-map-range_with_len}
use Rattle.std.proofs.lemmas.Option.{none-some}
use Rattle.nv_audit.specs.Sound.{EndsAtSize, own_size}
use Rattle.nv_cell.proofs.PageBlocks.{page_is}
use Rattle.nv_cell.specs.Cell.{CellState, IsCell, log_of}
use Rattle.nv_cell.specs.Pages.{AreBytesOf, own_page}
use Rattle.nv_entry.specs.Bytes.{page_of}
use Rattle.nv_entry.specs.Keys.{pages_for}
use Rattle.nv_entry.specs.Node.{block_now, node_now, page_bytes}
use Rattle.nv_entry.specs.Sound.{IsSound, Tied}
use Rattle.nv_entry.specs.Stored.{Stored, stored}
use Rattle.nv_entry.specs.declared.node.NodeCopy.{NodeCopy}

-- the byte at a place
abbrev pub byte_at : List ℕ → ℕ → ℕ
byte_at bytes place = slice_index_or bytes place 0

pub zeros_at : (n place : ℕ) → byte_at (replicate n 0) place ≡ 0
zeros_at zero place = refl
zeros_at (suc n) zero = refl
zeros_at (suc n) (suc place) = zeros_at n place

-- past the end of bytes a page has zeros
zeros_past : (block page : ℕ) (bytes : List ℕ) (place : ℕ) → length bytes ≤ page * block + place
    → byte_at (page_of block page bytes) place ≡ 0
zeros_past block page bytes place past = elim (cases_lt place block) [
  | inl lt ↦
      get_or-map-range_with_len (λ (k : ℕ). slice_index_or bytes k 0) (page * block) block place
      (page * block + place) 0 lt refl
      ∙ get_or_past bytes (page * block + place) 0 past
  | inr over ↦ get_or_past (page_of block page bytes) place 0
      (omega (
        arith,
        over,
        length-map-range_with_len (λ (k : ℕ). slice_index_or bytes k 0) (page * block) block,
      ))
]

module _ (cell : CellState) (bytes : ℕ → List ℕ) (is : IsCell cell) (are : AreBytesOf cell bytes)
  where
    own : (page : ℕ)
        → page_bytes bytes cell.block (block_now cell.block (log_of cell) page) ≡ own_page cell page
    own page = page_is cell bytes page is are

    pub sound_ends : IsSound bytes cell.block (log_of cell) → EndsAtSize cell
    sound_ends sound = go (node_now bytes cell.block (log_of cell)) sound where
      go : (node : Option NodeCopy) → Tied bytes cell.block (stored cell.block (log_of cell)) node
          → EndsAtSize cell
      go None none = record {
        pages = λ page number says.
            absurd (none-some number (sym (ap (λ (s : Stored). s.blocks page) none) ∙ says));
        zeros = λ page place le.
            ap (λ (bs : List ℕ). slice_index_or bs place 0)
            (sym (own page)
            ∙ ap (λ (s : Stored). page_bytes bytes cell.block (s.blocks page)) none)
            ∙ zeros_at cell.block place;
      }
      go (Some node) stands =
          let size : own_size cell ≡ node.size = stands.size in
          let long = stands.length in
          record {
            pages = λ page number says.
                subst (λ (n : ℕ). page < pages_for cell.block n) (sym size)
                (stands.within page number says);
            zeros = λ page place le.
                ap (λ (bs : List ℕ). slice_index_or bs place 0)
                (sym (own page) ∙ stands.pages page)
                ∙ zeros_past cell.block page node.bytes place (omega (arith, le, size, long));
          }
