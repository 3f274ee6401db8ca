-- A log of its shape, whose file ends at its size, stores a node.
use Rattle.std.proofs.Common.{◌≡◌, inl, inr, ℕ, ◌+◌, ◌-◌, ◌*◌, ◌<◌, ◌≤◌, ◌++◌, ◌&&◌, Bool, true, false, cond, List, [], ◌∷◌, length, take, get_or, Option, Some, None, arith, refl, ap, sym, ◌∙◌, subst}
use Rattle.std.specs.Prelude.{slice_get, slice_index_or, unwrap_or}
use Rattle.std.specs.List.{flat_map, range_with_len}
use Rattle.std.specs.Option.{option_map}
use Rattle.std.proofs.Math.Path.{fun_ext}
use Rattle.std.proofs.lemmas.Bool.{cases_lt, lt-ltb}
use Rattle.std.proofs.lemmas.Grind.{div_ceil_times}
use Rattle.std.proofs.lemmas.List.{length-take, take_all, take_more}
use Rattle.std.proofs.lemmas.Option.{slice_get-get_or, slice_get_within}
use Rattle.nv_base.specs.declared.limits.TheConstants.{FILE_PAGES}
use Rattle.nv_base.specs.declared.node.Kind.{Kind}
use Rattle.nv_base.specs.declared.node.Kind.TheVariants.{Dir, File}
use Rattle.nv_entry.specs.declared.item.Entry.{Entry}
use Rattle.nv_entry.specs.declared.item.Item.{Item}
use Rattle.nv_entry.specs.declared.item.Item.TheVariants.{Init, Write, SetSize, SetMode, Bind, Unbind, Gone}
use Rattle.nv_entry.specs.declared.item.BlockRun.{BlockRun}
use Rattle.nv_entry.specs.declared.node.NodeCopy.{NodeCopy}
use Rattle.nv_entry.specs.Index.{names_of}
use Rattle.nv_entry.specs.Keys.{in_run, is_page, is_past, pages_for}
use Rattle.nv_entry.specs.Node.{block_now, file_bytes, mode_now, page_bytes, size_now}
use Rattle.nv_entry.specs.Shape.{AreLawful, IsLawful, items_of, kind_after}
use Rattle.nv_entry.specs.Sound.{IsSound, Stands, SuitsKind}
use Rattle.nv_entry.specs.Stored.{Stored, block_after, nothing, stored, stored_after, stored_after_all}
use Rattle.nv_entry.proofs.Nodes.{block_now-past}
use Rattle.nv_entry.proofs.SoundLogs.{gives}
use Rattle.nv_entry.proofs.StoredItems.{stored-append, stored-push}
use Rattle.nv_cell.specs.Cell.{CellState, IsCell, log_of}
use Rattle.nv_cell.specs.Pages.{AreBytesOf, own_page}
use Rattle.nv_cell.specs.Readers.{is_gone, is_last_word}
use Rattle.nv_cell.specs.Shape.{IsLeftShaped}
use Rattle.nv_cell.proofs.PageBlocks as held
use Rattle.nv_audit.specs.Sound.{EndsAtSize}
use Rattle.nv_audit.proofs.CutPages.{len_pages, page_is}
use Rattle.nv_audit.proofs.SizeEnds.{own_length, whole}

-- ---- what is stored suits the kind

record FitsKind (block : ℕ) (kind : Kind) (s : Stored) : Type 0 where
  kind_is : s.kind ≡ Some kind
  fits : s.size ≤ FILE_PAGES * block
  pages : (page number : ℕ) → s.blocks page ≡ Some number → is_page page ≡ true
  suits : SuitsKind kind s.size s.names

-- the same, and nothing is stored where there is no kind
abbrev Suits : ℕ → Option Kind → Stored → Type 0
Suits block None s = s ≡ nothing
Suits block (Some kind) s = FitsKind block kind s

begun : (block : ℕ) (kind : Kind) (mode : ℕ) → FitsKind block kind (stored_after block (Init kind mode) nothing)
begun block File mode = record { kind_is = refl; fits = omega arith; pages = λ page number h. cc; suits = refl }
begun block Dir mode = record { kind_is = refl; fits = omega arith; pages = λ page number h. cc; suits = refl }

write_page : (block first : ℕ) (run : BlockRun) (size : ℕ) (kind : Kind) (s : Stored) → FitsKind block kind s → (page number : ℕ)
    → block_after block (Write first run size) page (s.blocks page) ≡ Some number → is_page page ≡ true
write_page block first run size kind s f page number h = go (in_run first run page) refl h where
  go : (b : Bool) → in_run first run page ≡ b → cond b (Some (run.start + (page - first))) (s.blocks page) ≡ Some number → is_page page ≡ true
  go true q h = last_and _ (is_page page) q where
    last_and : (a b : Bool) → (a && b) ≡ true → b ≡ true
    last_and true b e = e
    last_and false b e = cc
  go false q h = f.pages page number h

cut_page : (block size : ℕ) (kind : Kind) (s : Stored) → FitsKind block kind s → (page number : ℕ)
    → block_after block (SetSize size) page (s.blocks page) ≡ Some number → is_page page ≡ true
cut_page block size kind s f page number h = go (is_past block size page) h where
  go : (b : Bool) → cond b None (s.blocks page) ≡ Some number → is_page page ≡ true
  go true h = cc
  go false h = f.pages page number h

-- a Gone leaves nothing, where no page but a file's is there
gone_leaves : (block : ℕ) (s : Stored) → ((page number : ℕ) → s.blocks page ≡ Some number → is_page page ≡ true)
    → stored_after block Gone s ≡ nothing
gone_leaves block s pages = ap (λ (blocks : ℕ → Option ℕ). record nothing { blocks = blocks }) (fun_ext gone) where
  gone : (page : ℕ) → block_after block Gone page (s.blocks page) ≡ None
  gone page = go (is_page page) refl (s.blocks page) refl where
    go : (b : Bool) → is_page page ≡ b → (o : Option ℕ) → s.blocks page ≡ o → cond b None (s.blocks page) ≡ None
    go true q o e = refl
    go false q None e = e
    go false q (Some number) e = let no : false ≡ true = sym q ∙ pages page number e in cc

one_more : (block : ℕ) (item : Item) (before : Option Kind) (s : Stored) → IsLawful block item before → Suits block before s
    → Suits block (kind_after item before) (stored_after block item s)
one_more block (Init kind mode) None s is suits =
    subst (λ (x : Stored). FitsKind block kind (stored_after block (Init kind mode) x)) (sym suits) (begun block kind mode)
one_more block (Init kind mode) (Some File) s is f = absurd is
one_more block (Init kind mode) (Some Dir) s is f = absurd is
one_more block (Write first run size) None s is f = absurd is
one_more block (Write first run size) (Some File) s is f = record {
  kind_is = f.kind_is;
  fits = is.2;
  pages = write_page block first run size File s f;
  suits = f.suits;
}
one_more block (Write first run size) (Some Dir) s is f = absurd is
one_more block (SetSize size) None s is f = absurd is
one_more block (SetSize size) (Some File) s is f = record {
  kind_is = f.kind_is;
  fits = is;
  pages = cut_page block size File s f;
  suits = f.suits;
}
one_more block (SetSize size) (Some Dir) s is f = absurd is
one_more block (SetMode mode) None s is f = absurd is
one_more block (SetMode mode) (Some kind) s is f = record { kind_is = f.kind_is; fits = f.fits; pages = f.pages; suits = f.suits }
one_more block (Bind name to) None s is f = absurd is
one_more block (Bind name to) (Some File) s is f = absurd is
one_more block (Bind name to) (Some Dir) s is f = record { kind_is = f.kind_is; fits = f.fits; pages = f.pages; suits = f.suits }
one_more block (Unbind name) None s is f = absurd is
one_more block (Unbind name) (Some File) s is f = absurd is
one_more block (Unbind name) (Some Dir) s is f = record { kind_is = f.kind_is; fits = f.fits; pages = f.pages; suits = f.suits }
one_more block Gone None s is f = absurd is
one_more block Gone (Some kind) s is f = gone_leaves block s f.pages

all_more : (block : ℕ) (items : List Item) (before : Option Kind) (s : Stored) → AreLawful block items before → Suits block before s
    → (kind : Option Kind) × Suits block kind (stored_after_all block items s)
all_more block [] before s are suits = (before, suits)
all_more block (item ∷ items) before s are suits =
    all_more block items (kind_after item before) (stored_after block item s) are.1 (one_more block item before s are.0 suits)

-- behind a Gone nothing is stored
pages_only : (block : ℕ) (log : List Entry) (page number : ℕ) → block_now block log page ≡ Some number → is_page page ≡ true
pages_only block log page number e = elim (cases_lt page FILE_PAGES) [
  | inl lt ↦ lt-ltb page FILE_PAGES lt
  | inr past ↦ let none = block_now-past block page log (omega (arith, past)) in cc
]

gone_item : (item : Item) → is_last_word item ≡ true → item ≡ Gone
gone_item Gone e = refl
gone_item (Init kind mode) e = cc
gone_item (Write first run size) e = cc
gone_item (SetSize size) e = cc
gone_item (SetMode mode) e = cc
gone_item (Bind name to) e = cc
gone_item (Unbind name) e = cc

some_same : {X : Type 0} (x y : X) → Some x ≡ Some y → x ≡ y
some_same x y e = cc

gone_stores : (block : ℕ) (log : List Entry) → is_gone log ≡ true → stored block log ≡ nothing
gone_stores block log gone = go (slice_get log (length log - 1)) refl gone where
  go : (o : Option Entry) → slice_get log (length log - 1) ≡ o
      → unwrap_or (option_map (λ (e : Entry). is_last_word e.item) o) false ≡ true → stored block log ≡ nothing
  go None q last = cc
  go (Some e) q last =
      let lt : length log - 1 < length log = slice_get_within log (length log - 1) e q in
      let own : get_or log (length log - 1) e ≡ e =
      some_same (get_or log (length log - 1) e) e (sym (slice_get-get_or log (length log - 1) e lt) ∙ q) in
      let count : length log - 1 + 1 ≡ length log = omega (arith, lt) in
      let front : List Entry = take (length log - 1) log in
      let split : log ≡ front ++ e ∷ [] =
      sym (take_all (length log) log (omega arith)) ∙ ap (λ (n : ℕ). take n log) (sym count)
      ∙ take_more log (length log - 1) e lt ∙ ap (λ (x : Entry). front ++ x ∷ []) own in
      ap (stored block) split ∙ stored-push block front e
      ∙ ap (λ (item : Item). stored_after block item (stored block front)) (gone_item e.item last)
      ∙ gone_leaves block (stored block front) (pages_only block front)

suited : (block : ℕ) (log : List Entry) → IsLeftShaped block log → (kind : Option Kind) × Suits block kind (stored block log)
suited block log shaped = go (is_gone log) refl where
  go : (b : Bool) → is_gone log ≡ b → (kind : Option Kind) × Suits block kind (stored block log)
  go true gone = (None, gone_stores block log gone)
  go false runs =
      subst (λ (s : Stored). (kind : Option Kind) × Suits block kind s) (sym (stored-append block [] log))
      (all_more block (items_of log) None nothing (shaped.lawful runs) refl)

-- ---- the node

module _ (cell : CellState) (bytes : ℕ → List ℕ) (is : IsCell cell) (are : AreBytesOf cell bytes) (ends : EndsAtSize cell) where
  abbrev log : List Entry
  log = log_of cell

  abbrev page_of_file : ℕ → List ℕ
  page_of_file page = page_bytes bytes cell.block (block_now cell.block log page)

  own : (page : ℕ) → page_of_file page ≡ own_page cell page
  own page = held.page_is cell bytes page is are

  sized : (page : ℕ) → length (page_of_file page) ≡ cell.block
  sized page = ap length (own page) ∙ own_length cell (whole cell is) ends.pages page

  zeros : (page place : ℕ) → size_now cell.block log ≤ page * cell.block + place → slice_index_or (page_of_file page) place 0 ≡ 0
  zeros page place le = ap (λ bs. slice_index_or bs place 0) (own page) ∙ ends.zeros page place le

  enough : size_now cell.block log ≤ pages_for cell.block (size_now cell.block log) * cell.block
  enough = (div_ceil_times (size_now cell.block log) cell.block is.some).0

  abbrev node : Kind → NodeCopy
  node kind = record {
    kind = kind;
    mode = mode_now cell.block log;
    size = size_now cell.block log;
    bytes = file_bytes bytes cell.block log;
    names = names_of log;
  }

  stands : (kind : Kind) → FitsKind cell.block kind (stored cell.block log) → Stands bytes cell.block (stored cell.block log) (node kind)
  stands kind f = record {
    kind = f.kind_is;
    mode = refl;
    size = refl;
    length = omega (
      arith,
      length-take (size_now cell.block log) (flat_map page_of_file (range_with_len 0 (pages_for cell.block (size_now cell.block log)))),
      len_pages cell.block page_of_file sized 0 (pages_for cell.block (size_now cell.block log)),
      enough,
    );
    fits = f.fits;
    pages = page_is cell.block page_of_file sized (size_now cell.block log) (pages_for cell.block (size_now cell.block log)) enough zeros;
    within = ends.pages;
    names = refl;
    suits = f.suits;
  }

  by_kind : (kind : Option Kind) → Suits cell.block kind (stored cell.block log) → IsSound bytes cell.block log
  by_kind None none = (gives bytes cell.block log None is.some none).sound
  by_kind (Some kind) f = (gives bytes cell.block log (Some (node kind)) is.some (stands kind f)).sound

  pub shaped_sound : IsLeftShaped cell.block log → IsSound bytes cell.block log
  shaped_sound shaped = let s = suited cell.block log shaped in by_kind s.0 s.1
