-- The pages that a fill puts into the fresh blocks of a call are those of the machine.
use Rattle.std.proofs.Common.{◌≡◌, ℕ, ◌==◌, ◌/◌, ◌%◌, ◌<◌, ◌∙◌, Bool, true, false, List, [], ◌∷◌, Option, Some, None, if◌then◌else◌, length, map, ap, refl, replicate, slice_index_or, subst, sym}
use Rattle.std.specs.Prelude.{option_and_then, option_map}
use Rattle.std.specs.List.{AllByRecursion, range_with_len}
use Rattle.std.proofs.Math.Path.{fun_ext}
use Rattle.std.proofs.lemmas.Bool.{eq-eqb}
use Rattle.std.proofs.lemmas.Simd.{pick_l_whole}
use Rattle.nv_base.specs.declared.numbers.Handle.{Handle}
use Rattle.nv_entry.proofs.SoundLogs.{empty_sound}
use Rattle.nv_entry.specs.Bytes.{page_of, pages_touched, written}
use Rattle.nv_entry.specs.Sound.{IsSound}
use Rattle.nv_entry.specs.declared.node.NodeCopy.{NodeCopy}
use Rattle.nv_calls.proofs.FillFresh.{fresh_are}
use Rattle.nv_calls.proofs.Passed.{file_passed}
use Rattle.nv_calls.specs.FillPages.{cut_page, fresh_pages, page_in, page_with, pages_over, sourced}
use Rattle.nv_calls.specs.Filling.{text_part}
use Rattle.nv_calls.specs.Locked.{handles}
use Rattle.nv_calls.specs.Nodes.{alone, cell_of, nodes_in, own_node, slots_by}
use Rattle.nv_calls.specs.Plain.{PlainNode}
use Rattle.nv_calls.specs.Refusals.{bytes_of, kind_of, passes, want_file}
use Rattle.nv_calls.specs.SlotCells.{lent_cells}
use Rattle.nv_calls.specs.Updates.{blank_call}
use Rattle.nv_calls.specs.calls.Size.{resized, size_refusal}
use Rattle.nv_calls.specs.calls.Write.{text_refusal}
use Rattle.nv_calls.specs.declared.looked.LookupResult.{LookupResult}
use Rattle.nv_calls.specs.declared.update.Update.{Update}
use Rattle.nv_calls.specs.declared.update.Update.TheVariants as update
use Rattle.nv_cell.specs.Cell.{CellState, CellValue, log_of}
use Rattle.nv_cell.specs.Pages.{block_at_page, slot_bytes}
use Rattle.nv_alloc.specs.declared.hand.Hand.{Hand}
use Rattle.nv_machine.specs.Effects.{IsSoundIn}
use Rattle.nv_machine.specs.Reads.{bytes_among, copies}
use Rattle.nv_core.proofs.Nodes.{node_same}
use Rattle.nv_core.specs.Nodes.{CanRead, HasOwn}
use Rattle.nv_core.specs.Rooms.{IsChecked}
use Rattle.nv_core.specs.Shown.{shared_of}
use Rattle.nv_core.specs.declared.shared.Shared.{Shared}

-- ---- a cell that is found

found_all : (P : CellState → Type 0) (cells : List (ℕ × CellValue)) (ino : ℕ) (c : CellValue) → cell_of cells ino ≡ Some c
    → AllByRecursion (λ (d : ℕ × CellValue). P d.1.state) cells → P c.state
found_all P [] ino c q all = cc
found_all P (d ∷ cells) ino c q all = go (d.0 == ino) q (λ e. found_all P cells ino c e all.1) where
  go : (b : Bool) → (if b then Some d.1 else cell_of cells ino) ≡ Some c → (cell_of cells ino ≡ Some c → P c.state) → P c.state
  go true e rest = let same : d.1 ≡ c = cc in subst (λ (v : CellValue). P v.state) same all.0
  go false e rest = rest e

-- ---- one cell for all

module _ (block : ℕ) (lent : List (ℕ × CellValue)) (file : Handle) (c : CellValue) (q : cell_of lent file.ino ≡ Some c) where
  abbrev one : List (ℕ × CellValue)
  one = alone file.ino c

  one_cell : cell_of one file.ino ≡ cell_of lent file.ino
  one_cell = ap (λ (b : Bool). if b then Some c else None) (eq-eqb file.ino file.ino refl) ∙ sym q

  one_node : nodes_in one file ≡ nodes_in lent file
  one_node = ap (λ (o : Option CellValue). option_map (λ (x : PlainNode). x.node) (option_and_then (λ
      (v : CellValue). own_node v.state file) o)) one_cell

  one_page : (page : ℕ) → page_in one block file page ≡ page_in lent block file page
  one_page page = ap (λ (o : Option CellValue). slot_bytes block (option_and_then (λ
      (v : CellValue). block_at_page v.state page) o)) one_cell

  one_sound : HasOwn block c.state → IsSoundIn c.state (log_of c.state) → (ino : ℕ)
      → IsSound (bytes_among c.state.blocks) block (slots_by one ino).log
  one_sound own sound ino = go (file.ino == ino) refl where
    go : (b : Bool) → (file.ino == ino) ≡ b → IsSound (bytes_among c.state.blocks) block (slots_by one ino).log
    go true e = rw e (subst (λ (n : ℕ). IsSound (bytes_among c.state.blocks) n (log_of c.state)) own.size sound)
    go false e = rw e (empty_sound (bytes_among c.state.blocks) block)

-- ---- the pages

module _ (shared : Shared) (slots : List ℕ) (hand : Hand) (looked : LookupResult) (byte_at : ℕ → ℕ)
    (some : 0 < shared.geometry.numbers.block)
    (sound : AllByRecursion (λ (c : ℕ × CellValue). IsSoundIn c.1.state (log_of c.1.state)) (lent_cells slots shared.cells.items)) where
  abbrev block : ℕ
  block = shared.geometry.numbers.block

  abbrev lent : List (ℕ × CellValue)
  lent = lent_cells slots shared.cells.items

  machine_node : (file : Handle) (u : Update) → handles looked (blank_call u) ≡ file ∷ [] → IsChecked shared slots hand looked u
      → nodes_in lent file ≡ copies (shared_of shared) file
  machine_node file u named is =
      ap (λ (o : Option PlainNode). option_map (λ (x : PlainNode). x.node) o)
      (node_same shared slots file (subst (λ (l : List Handle). CanRead shared slots l) named is.read))

  pub pages_are : (u : Update) → IsChecked shared slots hand looked u
      → pages_over block (page_in lent block) (sourced byte_at u) ≡ fresh_pages block (copies (shared_of shared)) (sourced byte_at u)
  pages_are (update.Write file offset count) is = go (cell_of lent file.ino) refl where
    u : Update
    u = update.Write file offset count

    go : (o : Option CellValue) → cell_of lent file.ino ≡ o
        → pages_over block (page_in lent block) (sourced byte_at (update.Write file offset count))
        ≡ fresh_pages block (copies (shared_of shared)) (sourced byte_at (update.Write file offset count))
    go None q =
        let f = (file_passed (nodes_in lent file) (text_refusal block offset (replicate count 0)) is.passed).0 in
        let none : nodes_in lent file ≡ None =
        ap (λ (o : Option CellValue). option_map (λ (x : PlainNode). x.node) (option_and_then (λ
        (v : CellValue). own_node v.state file) o)) q in
        let there = f.is in cc
    go (Some c) q =
        let own = found_all (HasOwn block) lent file.ino c q is.read.own in
        let text = text_part byte_at 0 count in
        let range = range_with_len (offset / block) (pages_touched block offset (length text)) in
        ap (λ (f : ℕ → List ℕ). map (λ (page : ℕ). page_with block offset text page (f page)) range)
        (fun_ext (λ (page : ℕ). sym (one_page block lent file c q page)))
        ∙ fresh_are (bytes_among c.state.blocks) block (alone file.ino c) (own, tt)
        (one_sound block lent file c q own (found_all (λ (s : CellState). IsSoundIn s (log_of s)) lent file.ino c q sound))
        (update.Write file offset count) byte_at some
        (subst (λ (o : Option NodeCopy). want_file (kind_of o) (text_refusal block offset (replicate count 0)) ≡ passes)
        (sym (one_node block lent file c q)) is.passed)
        ∙ ap (λ (o : Option NodeCopy). map (λ (page : ℕ). page_of block page (written offset text (bytes_of o))) range)
        (one_node block lent file c q ∙ machine_node file (update.Write file offset count) refl is)
  pages_are (update.Size file size) is = go (cell_of lent file.ino) refl where
    go : (o : Option CellValue) → cell_of lent file.ino ≡ o
        → pages_over block (page_in lent block) (sourced byte_at (update.Size file size))
        ≡ fresh_pages block (copies (shared_of shared)) (sourced byte_at (update.Size file size))
    go None q =
        let f = (file_passed (nodes_in lent file) _ is.passed).0 in
        let none : nodes_in lent file ≡ None =
        ap (λ (o : Option CellValue). option_map (λ (x : PlainNode). x.node) (option_and_then (λ
        (v : CellValue). own_node v.state file) o)) q in
        let there = f.is in cc
    go (Some c) q =
        let own = found_all (HasOwn block) lent file.ino c q is.read.own in
        ap (λ (bytes : List ℕ). cut_page block (size % block) bytes ∷ [])
        (sym (one_page block lent file c q (size / block)))
        ∙ fresh_are (bytes_among c.state.blocks) block (alone file.ino c) (own, tt)
        (one_sound block lent file c q own (found_all (λ (s : CellState). IsSoundIn s (log_of s)) lent file.ino c q sound))
        (update.Size file size) byte_at some
        (subst (λ (o : Option NodeCopy). size_refusal block (λ handle. o) file size ≡ passes) (sym
        (one_node block lent file c q)) is.passed)
        ∙ ap (λ (o : Option NodeCopy). page_of block (size / block) (resized size (bytes_of o)) ∷ [])
        (one_node block lent file c q ∙ machine_node file (update.Size file size) refl is)
  pages_are (update.Create dir name mode) is = refl
  pages_are (update.Mkdir dir name mode) is = refl
  pages_are (update.Mode handle mode) is = refl
  pages_are (update.Unlink dir name) is = refl
  pages_are (update.Rmdir dir name) is = refl
  pages_are (update.Rename from old to new) is = refl

-- a text by its bytes
pub text_whole : (text : List ℕ) (n : ℕ) → n ≡ length text → text_part (λ (i : ℕ). slice_index_or text i 0) 0 n ≡ text
text_whole text n same = ap (λ (m : ℕ). text_part (λ (i : ℕ). slice_index_or text i 0) 0 m) same ∙ pick_l_whole 0 text (length text) refl
