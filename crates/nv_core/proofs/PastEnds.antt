-- A cell whose log stores a node has a file that ends at its size.
use Rattle.std.proofs.Common.{◌≡◌, inl, inr, ℕ, zero, suc, ◌+◌, ◌*◌, ◌<◌, ◌≤◌, List, length, Option, Some, None, arith, refl, ap, sym, ◌∙◌, subst}
use Rattle.std.specs.Prelude.{replicate, slice_index_or}
use Rattle.std.proofs.lemmas.Bool.{cases_lt}
use Rattle.std.proofs.lemmas.List.{get_or_past}
use Rattle.std.proofs.lemmas.List.FromFn.{get_or-map-range_with_len, length-map-range_with_len}
use Rattle.nv_entry.specs.Bytes.{page_of}
use Rattle.nv_entry.specs.Keys.{pages_for}
use Rattle.nv_entry.specs.Node.{node_now, page_bytes}
use Rattle.nv_entry.specs.Sound.{IsSound, Stands, Tied}
use Rattle.nv_entry.specs.Stored.{Stored, nothing, stored}
use Rattle.nv_entry.specs.declared.item.Entry.{Entry}
use Rattle.nv_entry.specs.declared.node.NodeCopy.{NodeCopy}
use Rattle.nv_cell.specs.Cell.{CellState, IsCell, log_of}
use Rattle.nv_cell.specs.Pages.{AreBytesOf, own_page}
use Rattle.nv_cell.proofs.PageBlocks.{page_is}
use Rattle.nv_audit.specs.Sound.{EndsAtSize, own_size}

zeros_only : (n j : ℕ) → slice_index_or (replicate {A = ℕ} n 0) j 0 ≡ 0
zeros_only zero j = refl
zeros_only (suc n) zero = refl
zeros_only (suc n) (suc j) = zeros_only n j

-- a page has zeros past the end of the bytes
zeros_of : (block page : ℕ) (bytes : List ℕ) (place : ℕ) → length bytes ≤ page * block + place
    → slice_index_or (page_of block page bytes) place 0 ≡ 0
zeros_of block page bytes place past = elim (cases_lt place block) [
  | inl lt ↦
      get_or-map-range_with_len (λ k. slice_index_or bytes k 0) (page * block) block place (page * block + place) 0 lt refl
      ∙ get_or_past bytes (page * block + place) 0 past
  | inr behind ↦
      let len = length-map-range_with_len (λ k. slice_index_or bytes k 0) (page * block) block in
      get_or_past (page_of block page bytes) place 0 (omega (arith, behind, len))
]

module _ (cell : CellState) (bytes : ℕ → List ℕ) (is : IsCell cell) (are : AreBytesOf cell bytes) where
  abbrev log : List Entry
  log = log_of cell

  own : (page : ℕ) → own_page cell page ≡ page_bytes bytes cell.block ((stored cell.block log).blocks page)
  own page = sym (page_is cell bytes page is are)

  empty_ends : stored cell.block log ≡ nothing → EndsAtSize cell
  empty_ends none = record {
    pages = λ page number e.
        let absent : (stored cell.block log).blocks page ≡ None = ap (λ (s : Stored). s.blocks page) none in
        let two : None ≡ Some number = sym absent ∙ e in
        cc;
    zeros = λ page place le.
        ap (λ bs. slice_index_or bs place 0)
        (own page ∙ ap (λ (s : Stored). page_bytes bytes cell.block (s.blocks page)) none) ∙ zeros_only cell.block place;
  }

  node_ends : (node : NodeCopy) → Stands bytes cell.block (stored cell.block log) node → EndsAtSize cell
  node_ends node stands = record {
    pages = λ page number e.
        subst (λ (size : ℕ). page < pages_for cell.block size) (sym stands.size) (stands.within page number e);
    zeros = λ page place le.
        let size : own_size cell ≡ node.size = stands.size in
        ap (λ bs. slice_index_or bs place 0) (own page ∙ stands.pages page)
        ∙ zeros_of cell.block page node.bytes place (omega (arith, le, size, stands.length));
  }

  pub sound_ends : IsSound bytes cell.block log → EndsAtSize cell
  sound_ends sound = go (node_now bytes cell.block log) sound where
    go : (node : Option NodeCopy) → Tied bytes cell.block (stored cell.block log) node → EndsAtSize cell
    go None none = empty_ends none
    go (Some node) stands = node_ends node stands
