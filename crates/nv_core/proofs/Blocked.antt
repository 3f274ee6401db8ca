-- Which parts of an entry have a block: the pages that are not out.
use Rattle.std.proofs.Common.{◌≡◌, ◌∙◌, ℕ, zero, suc, ◌+◌, ◌-◌, ◌<◌, Bool, true, false, cond, List, [], ◌∷◌, ◌++◌, drop, Option, Some, None, ap, arith, is_some, nat_lt, option_map, refl, slice_get, sym, take-append-drop}
use Rattle.std.specs.Prelude.{option_and_then}
use Rattle.std.proofs.lemmas.Bool.{le-ltb, lt-ltb}
use Rattle.std.proofs.lemmas.Option.{get_or_from_slice_get, slice_get_within}
use Rattle.nv_alloc.specs.Block.{BlockValue, number_of}
use Rattle.nv_base.specs.Names.{same_name}
use Rattle.nv_book.specs.Records.{is_page}
use Rattle.nv_cell.proofs.PagesNow.{front_block}
use Rattle.nv_cell.specs.Cell.{CellState, HasBlocks, log_of, page_block}
use Rattle.nv_cell.specs.Marks.{is_there}
use Rattle.nv_cell.specs.Numbers.{part_base}
use Rattle.nv_core.proofs.Kept.{entry_within}
use Rattle.nv_core.proofs.PageParts.{has_block}
use Rattle.nv_core.specs.Reports.{block_at, mark_of}
use Rattle.nv_entry.proofs.Covering.{part_present}
use Rattle.nv_entry.specs.Covered.{part_count, part_key}
use Rattle.nv_entry.specs.Data.{block_in}
use Rattle.nv_entry.specs.Keys.{Key, KindKey, ModeKey, NameKey, PageKey, SizeKey, is_page_key, key_of, name_of, parts_of, sets}
use Rattle.nv_entry.specs.Log.{value_of}
use Rattle.nv_entry.specs.declared.item.Entry.{Entry}
use Rattle.nv_entry.specs.declared.item.Item.{Item}
use Rattle.nv_entry.specs.declared.item.Item.TheVariants.{Init, Write, SetSize, SetMode, Bind, Unbind, Gone}
use Rattle.nv_entry.specs.declared.key.Datum.TheVariants.{Node}
use Rattle.nv_entry.specs.declared.key.Setting.TheVariants.{Untouched, Absent, Present}
use Rattle.nv_entry.specs.declared.part.Part.{Part}
use Rattle.nv_entry.specs.declared.part.Part.TheVariants as part

-- the block number that a part of an entry says
said_at : (block : ℕ) (log : List Entry) (place k : ℕ) (e : Entry) → slice_get log place ≡ Some e → k < part_count e
    → page_block block log (part_base log place + k) ≡ option_and_then block_in (value_of (sets block e.item (part_key e k)))
said_at block [] place k e at few = absurd cc
said_at block (x ∷ log) zero k e at few =
    let is : x ≡ e = cc in
    let first : nat_lt k (part_count e) ≡ true = lt-ltb k (part_count e) few in
    let from_zero : 0 + k ≡ k = omega arith in
    rw (is, from_zero, first) refl
said_at block (x ∷ log) (suc place) k e at few =
    let n = part_count x + part_base log place + k in
    let past : nat_lt n (part_count x) ≡ false = le-ltb n (part_count x) (omega arith) in
    let back : n - part_count x ≡ part_base log place + k = omega arith in
    rw (past, back) (said_at block log place k e at few)

-- no other key than a page has a block
no_block : (block : ℕ) (item : Item) (key : Key) → is_page_key key ≡ false
    → option_and_then block_in (value_of (sets block item key)) ≡ None
no_block block item (PageKey page) h = absurd cc
no_block block (Init kind mode) KindKey h = refl
no_block block (Init kind mode) ModeKey h = refl
no_block block (Init kind mode) SizeKey h = refl
no_block block (Init kind mode) (NameKey name) h = refl
no_block block (Write first run size) KindKey h = refl
no_block block (Write first run size) ModeKey h = refl
no_block block (Write first run size) SizeKey h = refl
no_block block (Write first run size) (NameKey name) h = refl
no_block block (SetSize size) KindKey h = refl
no_block block (SetSize size) ModeKey h = refl
no_block block (SetSize size) SizeKey h = refl
no_block block (SetSize size) (NameKey name) h = refl
no_block block (SetMode mode) KindKey h = refl
no_block block (SetMode mode) ModeKey h = refl
no_block block (SetMode mode) SizeKey h = refl
no_block block (SetMode mode) (NameKey name) h = refl
no_block block (Bind name to) KindKey h = refl
no_block block (Bind name to) ModeKey h = refl
no_block block (Bind name to) SizeKey h = refl
no_block block (Bind name to) (NameKey other) h = go (same_name name other) where
  go : (b : Bool) → option_and_then block_in (value_of (cond b (Present (Node to)) Untouched)) ≡ None
  go true = refl
  go false = refl
no_block block (Unbind name) KindKey h = refl
no_block block (Unbind name) ModeKey h = refl
no_block block (Unbind name) SizeKey h = refl
no_block block (Unbind name) (NameKey other) h = go (same_name name other) where
  go : (b : Bool) → option_and_then block_in (value_of (cond b Absent Untouched)) ≡ None
  go true = refl
  go false = refl
no_block block Gone KindKey h = refl
no_block block Gone ModeKey h = refl
no_block block Gone SizeKey h = refl
no_block block Gone (NameKey name) h = refl

-- a page has a block
pub says : (block : ℕ) (item : Item) (k : ℕ) (p : Part) → slice_get (parts_of item) k ≡ Some p
    → is_some (option_and_then block_in (value_of (sets block item (key_of item p)))) ≡ is_page p
says block item k part.Kind at = ap is_some (no_block block item KindKey refl)
says block item k part.Mode at = ap is_some (no_block block item ModeKey refl)
says block item k part.Size at = ap is_some (no_block block item SizeKey refl)
says block item k part.Bound at = ap is_some (no_block block item (NameKey (name_of item)) refl)
says block item k (part.Page page) at = ap is_some (has_block block item page (part_present block item k (part.Page page) at)).is

pub some_number : (o : Option BlockValue) → is_some (option_map number_of o) ≡ is_some o
some_number None = refl
some_number (Some b) = refl

-- so a part of an entry that is not out has one exactly where it is a page
pub page_has : (cell : CellState) (place k : ℕ) (e : Entry) (p : Part) → HasBlocks cell → slice_get (log_of cell) place ≡ Some e
    → slice_get (parts_of e.item) k ≡ Some p → is_there (mark_of cell place k) ≡ true → is_some (block_at cell place k) ≡ is_page p
page_has cell place k e p blocks at named there =
    let log = log_of cell in
    let later = drop cell.chain.tail cell.chain.entries in
    let n = part_base log place + k in
    let few = slice_get_within (parts_of e.item) k p named in
    let within = entry_within log place e at in
    let whole : log ++ later ≡ cell.chain.entries = take-append-drop cell.chain.tail cell.chain.entries in
    let key : part_key e k ≡ key_of e.item p = ap (key_of e.item) (get_or_from_slice_get (parts_of e.item) k p part.Kind named) in
    sym (some_number (block_at cell place k))
    ∙ ap is_some (blocks.numbers n ∙ ap (λ (b : Bool). cond b (page_block cell.block cell.chain.entries n) None) there
    ∙ ap (λ (es : List Entry). page_block cell.block es n) (sym whole) ∙ front_block cell.block log later n (omega (arith, within, few))
    ∙ said_at cell.block log place k e at few ∙ ap (λ (key : Key). option_and_then block_in (value_of (sets cell.block e.item key))) key)
    ∙ says cell.block e.item k p named
