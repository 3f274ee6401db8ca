-- The pages of a log are read from its cell's blocks, whatever is appended, published or retired there.
use Rattle.std.proofs.Common.{◌≡◌, ℕ, zero, suc, ◌-◌, ◌<◌, ◌≤◌, ◌==◌, ◌&&◌, ◌++◌, ◌∙◌, Bool, true, false, cond, not, List, [], ◌∷◌, Option, Some, None, ap, arith, drop, flat_map, length-append, nat_lt, refl, slice_index_or, subst, sym, take, inl, inr}
use Rattle.std.specs.Prelude.{option_and_then}
use Rattle.std.specs.List.{range_with_len}
use Rattle.std.specs.Option.{option_map}
use Rattle.std.proofs.Math.Path.{fun_ext}
use Rattle.std.proofs.lemmas.Bool.{cases_lt, eq-eqb, eqb-true, true≢false}
use Rattle.std.proofs.lemmas.List.{get_or_append_left, get_or-append_right, take-append-drop}
use Rattle.nv_alloc.specs.Block.{BlockValue, number_of, numbers_of}
use Rattle.nv_calls.specs.Plain.{stamped}
use Rattle.nv_calls.specs.Slots.{last_commit}
use Rattle.nv_cell.specs.Append.{IsWithinFile, appended, part_blocks}
use Rattle.nv_cell.specs.Cell.{CellState, page_block}
use Rattle.nv_cell.specs.Numbers.{is_number}
use Rattle.nv_cell.proofs.Appending.{back_block, length_part_blocks, part_block_is}
use Rattle.nv_cell.proofs.Numbers.{scan_key, scan_n, scan_names, total_append}
use Rattle.nv_cell.proofs.PagesNow.{block_scanned, front_block}
use Rattle.nv_cell.proofs.Publishing.{covered_take}
use Rattle.nv_entry.specs.Blocks.{item_blocks}
use Rattle.nv_entry.specs.Covered.{is_covered, key_at, part_total}
use Rattle.nv_entry.specs.Index.{names_of}
use Rattle.nv_entry.specs.Keys.{Key, KindKey, PageKey, pages_for}
use Rattle.nv_entry.specs.Log.{value_now}
use Rattle.nv_entry.specs.Node.{block_now, file_bytes, mode_now, node_now, node_of_kind, page_bytes, size_now}
use Rattle.nv_entry.specs.declared.item.Entry.{Entry}
use Rattle.nv_entry.specs.declared.key.Datum.{Datum}
use Rattle.nv_entry.specs.declared.key.Datum.TheVariants as datum
use Rattle.nv_entry.specs.declared.node.NodeCopy.{NodeCopy}
use Rattle.nv_entry.specs.Sound.{IsSound, Tied}
use Rattle.nv_entry.specs.Stored.{Stored, stored}
use Rattle.nv_machine.specs.Effects.{IsSoundIn}
use Rattle.nv_machine.specs.Kept.{AreApart, HasPages}
use Rattle.nv_machine.specs.Reads.{bytes_among}
use Rattle.nv_machine.specs.Settled.{node_by}

-- ---- a node reads the blocks of its pages alone

page_read : (bytes other : ℕ → List ℕ) (block : ℕ) (at : Option ℕ) → ((number : ℕ) → at ≡ Some number → other number ≡ bytes number)
    → page_bytes other block at ≡ page_bytes bytes block at
page_read bytes other block None same = refl
page_read bytes other block (Some number) same = same number refl

kind_read : (o : Option Datum) (bytes other : ℕ → List ℕ) (block : ℕ) (log : List Entry)
    → file_bytes other block log ≡ file_bytes bytes block log → node_of_kind o other block log ≡ node_of_kind o bytes block log
kind_read None bytes other block log e = refl
kind_read (Some (datum.Kind kind)) bytes other block log e = ap (λ (b : List ℕ). Some (node b)) e where
  node : List ℕ → NodeCopy
  node b = record { kind = kind; mode = mode_now block log; size = size_now block log; bytes = b; names = names_of log }
kind_read (Some (datum.Mode mode)) bytes other block log e = refl
kind_read (Some (datum.Size size)) bytes other block log e = refl
kind_read (Some (datum.Node to)) bytes other block log e = refl
kind_read (Some (datum.Block number)) bytes other block log e = refl

pub node_read : (bytes other : ℕ → List ℕ) (block : ℕ) (log : List Entry)
    → ((page number : ℕ) → block_now block log page ≡ Some number → other number ≡ bytes number)
    → node_now other block log ≡ node_now bytes block log
node_read bytes other block log same = kind_read (value_now block log KindKey) bytes other block log
    (ap (λ (f : ℕ → List ℕ). take (size_now block log) (flat_map f (range_with_len 0 (pages_for block (size_now block log)))))
    (fun_ext (λ (page : ℕ). page_read bytes other block (block_now block log page) (same page))))

-- so does its being sound
tied_read : (bytes other : ℕ → List ℕ) (block : ℕ) (s : Stored) (node : Option NodeCopy)
    → ((page number : ℕ) → s.blocks page ≡ Some number → other number ≡ bytes number) → Tied bytes block s node → Tied other block s node
tied_read bytes other block s None same t = t
tied_read bytes other block s (Some node) same t = record {
  kind = t.kind;
  mode = t.mode;
  size = t.size;
  length = t.length;
  fits = t.fits;
  pages = λ page. page_read bytes other block (s.blocks page) (same page) ∙ t.pages page;
  within = t.within;
  names = t.names;
  suits = t.suits;
}

pub sound_read : (bytes other : ℕ → List ℕ) (block : ℕ) (log : List Entry)
    → ((page number : ℕ) → block_now block log page ≡ Some number → other number ≡ bytes number)
    → IsSound bytes block log → IsSound other block log
sound_read bytes other block log same sound =
    subst (Tied other block (stored block log)) (sym (node_read bytes other block log same))
    (tied_read bytes other block (stored block log) (node_now bytes block log) same sound)

-- ---- the part of a page

pub record IsPart (block : ℕ) (log : List Entry) (number n : ℕ) : Type 0 where
  pub uncovered : is_covered block log n ≡ false
  pub low : n < part_total log
  pub says : page_block block log n ≡ Some number

pub low_and : (a b : Bool) → true ≡ (a && not b) → b ≡ false
low_and true true h = cc
low_and true false h = refl
low_and false b h = cc

pub found : (block : ℕ) (log : List Entry) (page number : ℕ) → block_now block log page ≡ Some number
    → (n : ℕ) × IsPart block log number n
found block log page number h = go (scan_n block log (PageKey page)) refl (sym (block_scanned block log (PageKey page)) ∙ h) where
  go : (o : Option ℕ) → scan_n block log (PageKey page) ≡ o → option_and_then (page_block block log) o ≡ Some number
      → (n : ℕ) × IsPart block log number n
  go None q e = cc
  go (Some n) q e =
      let s = scan_key block log (PageKey page) n q in
      let at : is_number (scan_n block log (key_at log n)) n ≡ true =
      ap (λ (k : Key). is_number (scan_n block log k) n) s.1 ∙ ap (λ (o : Option ℕ). is_number o n) q ∙ eq-eqb n n refl in (
        n,
        record {
          uncovered = low_and (nat_lt n (part_total log)) (is_covered block log n)
              (sym at ∙ scan_names block log n);
          low = s.0;
          says = e;
        },
      )

-- ---- the bytes of a block by its number

number_is : (b : BlockValue) (number : ℕ) → option_map number_of (Some b) ≡ Some number → b.number ≡ number
number_is b number h = cc

pub among_more : (xs ys : List (Option BlockValue)) (n number : ℕ) → option_map number_of (slice_index_or xs n None) ≡ Some number
    → bytes_among (xs ++ ys) number ≡ bytes_among xs number
among_more [] ys n number h = cc
among_more (None ∷ xs) ys zero number h = cc
among_more (None ∷ xs) ys (suc n) number h = among_more xs ys n number h
among_more (Some b ∷ xs) ys zero number h = let e = number_is b number h in rw (eq-eqb b.number number e) refl
among_more (Some b ∷ xs) ys (suc n) number h = go (b.number == number) (among_more xs ys n number h) where
  go : (c : Bool) → bytes_among (xs ++ ys) number ≡ bytes_among xs number
      → cond c b.bytes (bytes_among (xs ++ ys) number) ≡ cond c b.bytes (bytes_among xs number)
  go true e = refl
  go false e = e

apart_later : (x : Option BlockValue) (xs : List (Option BlockValue)) → AreApart (x ∷ xs) → AreApart xs
apart_later x xs apart n m b c e f same = omega (arith, apart (suc n) (suc m) b c e f same)

pub among_at : (xs : List (Option BlockValue)) → AreApart xs → (n : ℕ) (b : BlockValue) → slice_index_or xs n None ≡ Some b
    → bytes_among xs b.number ≡ b.bytes
among_at [] apart n b h = cc
among_at (None ∷ xs) apart zero b h = cc
among_at (None ∷ xs) apart (suc n) b h = among_at xs (apart_later None xs apart) n b h
among_at (Some c ∷ xs) apart zero b h = let e : c ≡ b = cc in rw (← e) (rw (eq-eqb c.number c.number refl) refl)
among_at (Some c ∷ xs) apart (suc n) b h = go (c.number == b.number) refl (among_at xs (apart_later (Some c) xs apart) n b h) where
  go : (t : Bool) → (c.number == b.number) ≡ t → bytes_among xs b.number ≡ b.bytes
      → cond t c.bytes (bytes_among xs b.number) ≡ b.bytes
  go true q more = absurd (omega (arith, apart 0 (suc n) c b refl h (eqb-true c.number b.number q)))
  go false q more = more

-- ---- a log at the front of a cell's entries

whole : (es : List Entry) (t : ℕ) → take t es ++ drop t es ≡ es
whole es t = take-append-drop t es

pub front_says : (block : ℕ) (es : List Entry) (t n : ℕ) → n < part_total (take t es) → page_block block es n ≡ page_block block (take t es) n
front_says block es t n lt =
    ap (λ (xs : List Entry). page_block block xs n) (sym (whole es t)) ∙ front_block block (take t es) (drop t es) n lt

-- the block of a page of the log is in the cell
pub page_there : (cell : CellState) (t page number : ℕ) → HasPages (take t cell.chain.entries) cell
    → block_now cell.block (take t cell.chain.entries) page ≡ Some number
    → (n : ℕ) × (is_covered cell.block (take t cell.chain.entries) n ≡ false)
    × (option_map number_of (slice_index_or cell.blocks n None) ≡ Some number)
page_there cell t page number has h =
    let f = found cell.block (take t cell.chain.entries) page number h in
    (f.0, f.1.uncovered, has.pages f.0 number f.1.uncovered (front_says cell.block cell.chain.entries t f.0 f.1.low ∙ f.1.says))

-- a cell where the pages of a log have the same bytes
pub same_node : (old new : CellState) (t : ℕ) → new.block ≡ old.block
    → ((page number : ℕ) → block_now old.block (take t old.chain.entries) page ≡ Some number
    → bytes_among new.blocks number ≡ bytes_among old.blocks number)
    → node_by new (take t old.chain.entries) ≡ node_by old (take t old.chain.entries)
same_node old new t e same =
    let log = take t old.chain.entries in
    ap (stamped (last_commit log))
    (ap (λ (block : ℕ). node_now (bytes_among new.blocks) block log) e
    ∙ node_read (bytes_among old.blocks) (bytes_among new.blocks) old.block log same)

pub same_sound : (old new : CellState) (t : ℕ) → new.block ≡ old.block
    → ((page number : ℕ) → block_now old.block (take t old.chain.entries) page ≡ Some number
    → bytes_among new.blocks number ≡ bytes_among old.blocks number)
    → IsSoundIn old (take t old.chain.entries) → IsSoundIn new (take t old.chain.entries)
same_sound old new t e same sound =
    subst (λ (block : ℕ). IsSound (bytes_among new.blocks) block (take t old.chain.entries)) (sym e)
    (sound_read (bytes_among old.blocks) (bytes_among new.blocks) old.block (take t old.chain.entries) same sound)

-- ---- more of a log

pub later_pages : (cell : CellState) (a b : ℕ) → a ≤ b → HasPages (take a cell.chain.entries) cell
    → HasPages (take b cell.chain.entries) cell
later_pages cell a b le h = record {
  pages = λ n number unc says. h.pages n number (go n (is_covered cell.block (take a cell.chain.entries) n) refl unc) says;
  len = h.len;
  within = h.within;
} where
  go : (n : ℕ) (c : Bool) → is_covered cell.block (take a cell.chain.entries) n ≡ c
      → is_covered cell.block (take b cell.chain.entries) n ≡ false → is_covered cell.block (take a cell.chain.entries) n ≡ false
  go n true q unc = absurd (true≢false (sym (covered_take cell.block cell.chain.entries a b n le q) ∙ unc))
  go n false q unc = q

-- ---- one more entry

module _ (log : List Entry) (cell : CellState) (h : HasPages log cell) (e : Entry) (bs : List BlockValue) where
  abbrev es : List Entry
  es = cell.chain.entries

  abbrev slots : List (Option BlockValue)
  slots = part_blocks e.item bs

  pub appended_pages : IsWithinFile e.item → numbers_of bs ≡ item_blocks e.item → HasPages log (appended e bs cell)
  appended_pages within nums = record {
    pages = λ n number unc says. at n number unc says;
    len = omega (arith, length-append cell.blocks slots, h.len, length_part_blocks e.item bs within nums, total_append es (e ∷ []));
    within = omega (arith, h.within, length-append es (e ∷ []));
  } where
    at : (n number : ℕ) → is_covered cell.block log n ≡ false → page_block cell.block (es ++ e ∷ []) n ≡ Some number
        → option_map number_of (slice_index_or (cell.blocks ++ slots) n None) ≡ Some number
    at n number unc says = elim (cases_lt n (part_total es)) [
      | inl lt ↦
          ap (option_map number_of) (get_or_append_left cell.blocks slots None n (omega (arith, lt, h.len)))
          ∙ h.pages n number unc (sym (front_block cell.block es (e ∷ []) n lt) ∙ says)
      | inr ge ↦
          ap (option_map number_of) (get_or-append_right cell.blocks slots (part_total es) n None h.len ge)
          ∙ part_block_is cell.block e.item bs (n - part_total es) within nums
          ∙ sym (back_block cell.block es (e ∷ []) n ge) ∙ says
    ]

-- the node of a log that is there already
pub appended_node : (cell : CellState) (t : ℕ) (e : Entry) (bs : List BlockValue) → HasPages (take t cell.chain.entries) cell
    → node_by (appended e bs cell) (take t cell.chain.entries) ≡ node_by cell (take t cell.chain.entries)
appended_node cell t e bs h = same_node cell (appended e bs cell) t refl
    (λ page number is. let p = page_there cell t page number h is in among_more cell.blocks (part_blocks e.item bs) p.0 number p.2)

pub appended_sound : (cell : CellState) (t : ℕ) (e : Entry) (bs : List BlockValue) → HasPages (take t cell.chain.entries) cell
    → IsSoundIn cell (take t cell.chain.entries) → IsSoundIn (appended e bs cell) (take t cell.chain.entries)
appended_sound cell t e bs h = same_sound cell (appended e bs cell) t refl
    (λ page number is. let p = page_there cell t page number h is in among_more cell.blocks (part_blocks e.item bs) p.0 number p.2)
