-- The bytes of the parts of a cell are those of the blocks that its log names.
use Rattle.std.proofs.Common.{◌≡◌, ℕ, ◌+◌, ◌-◌, ◌≤◌, Bool, true, false, cond, List, [], ◌∷◌, ◌++◌, take, drop, Option, Some, None, refl, ap, sym, subst, ◌∙◌, slice_index_or, take-take, length, arith}
use Rattle.std.proofs.lemmas.Bool.{eq-eqb}
use Rattle.std.specs.Prelude.{IsSome, option_and_then}
use Rattle.std.specs.List.{AllByRecursion}
use Rattle.std.specs.Option.{IfSome, option_map}
use Rattle.std.proofs.lemmas.List.{length-take, take-append-drop}
use Rattle.nv_alloc.specs.Block.{BlockValue, number_of}
use Rattle.nv_base.proofs.Ids.{before-same}
use Rattle.nv_base.specs.Ids.{IsIdBefore, is_same_id}
use Rattle.nv_base.specs.declared.numbers.EntryId.{EntryId}
use Rattle.nv_entry.specs.declared.item.Entry.{Entry}
use Rattle.nv_entry.specs.declared.item.Item.{Item}
use Rattle.nv_entry.specs.declared.item.Item.TheVariants.{Init, Write, SetSize, SetMode, Bind, Unbind, Gone}
use Rattle.nv_entry.specs.declared.key.Datum.{Datum}
use Rattle.nv_entry.specs.declared.key.Datum.TheVariants.{Block}
use Rattle.nv_entry.specs.declared.key.Setting.{Setting}
use Rattle.nv_entry.specs.declared.key.Setting.TheVariants.{Untouched, Absent, Present}
use Rattle.nv_entry.specs.declared.part.Part.TheVariants.{Page}
use Rattle.nv_entry.specs.declared.part.PartId.{PartId}
use Rattle.nv_entry.specs.declared.part_ref.PartRef.{PartRef}
use Rattle.nv_entry.specs.Covered.{any_cover, part_count}
use Rattle.nv_entry.specs.Keys.{PageKey, in_run, is_page, is_past, pages_for, sets}
use Rattle.nv_entry.specs.Data.{block_in}
use Rattle.nv_entry.specs.Log.{IsLog, MayFollow}
use Rattle.nv_entry.specs.Node.{block_now, size_now}
use Rattle.nv_entry.specs.Refs.{left_by, part_ref, place_in, ref_after, scan_ref, value_in}
use Rattle.nv_entry.proofs.Refs.{refs_give, scan_ref-cons}
use Rattle.nv_cell.specs.Cell.{CellState, IsCell, block_named, log_of, mark_or_fresh, page_block}
use Rattle.nv_cell.specs.Marks.{is_there}
use Rattle.nv_cell.specs.Named.{number_named, place_of_part}
use Rattle.nv_cell.specs.Numbers.{number}
use Rattle.nv_cell.specs.Pages.{AreBytesOf, own_bytes, own_page, slot_bytes}
use Rattle.nv_cell.proofs.Numbers.{scan_key, scan_n}
use Rattle.nv_cell.proofs.PagesNow.{block_scanned, front_block}
use Rattle.nv_cell.proofs.Publishing.{scanned}
use Rattle.nv_cell.proofs.ValuesNow.{IsLog-take}
use Rattle.nv_reader.specs.Blocks.{HaveBytes, page_part, page_text, page_writer, shown_bytes, shown_page}
use Rattle.nv_reader.specs.Cells.{NoneOut, part_bytes}
use Rattle.nv_reader.proofs.PageBytes.{pages_same}

-- a part of entries behind one is of a later entry
ref_behind : (first : Entry) (block : ℕ) (log : List Entry) (p : ℕ) (r : PartRef) → AllByRecursion (MayFollow first) log
    → scan_ref block log (PageKey p) ≡ Some r → IsIdBefore first.id r.entry
ref_behind first block [] p r all q = cc
ref_behind first block (e ∷ later) p r all q =
    go (any_cover block later (PageKey p)) (λ h. ref_behind first block later p r all.1 h)
    (sym (scan_ref-cons block e later (PageKey p)) ∙ q)
  where
    own : (s : Setting) → left_by s (part_ref e.id (place_in e.item (PageKey p))) None ≡ Some r → IsIdBefore first.id r.entry
    own Untouched h = cc
    own Absent h = cc
    own (Present v) h = let same : e.id ≡ r.entry = cc in subst (IsIdBefore first.id) same all.0.id_rises

    go : (b : Bool) → (scan_ref block later (PageKey p) ≡ Some r → IsIdBefore first.id r.entry)
        → cond b (scan_ref block later (PageKey p)) (ref_after block e (PageKey p) None) ≡ Some r → IsIdBefore first.id r.entry
    go true rec h = rec h
    go false rec h = own (sets block e.item (PageKey p)) h

same_id-self : (id : EntryId) → is_same_id id id ≡ true
same_id-self id = rw (eq-eqb id.commit id.commit refl, eq-eqb id.place id.place refl) refl

-- a page that an item sets stands at the place of its key
page_place : (block : ℕ) (item : Item) (p : ℕ) (value : Datum) → sets block item (PageKey p) ≡ Present value
    → place_of_part item (Page p) ≡ Some (place_in item (PageKey p))
page_place block (Write first run size) p value h = go (in_run first run p) h where
  go : (b : Bool) → cond b (Present (Block (run.start + (p - first)))) Untouched ≡ Present value
      → cond b (Some (p - first + 1)) None ≡ Some (p - first + 1)
  go true h = refl
  go false h = cc
page_place block (SetSize size) p value h = absurd (go (is_past block size p) h) where
  go : (b : Bool) → cond b Absent Untouched ≡ Present value → ⊥
  go true h = cc
  go false h = cc
page_place block Gone p value h = absurd (go (is_page p) h) where
  go : (b : Bool) → cond b Absent Untouched ≡ Present value → ⊥
  go true h = cc
  go false h = cc
page_place block (Init kind mode) p value h = cc
page_place block (SetMode mode) p value h = cc
page_place block (Bind name to) p value h = cc
page_place block (Unbind name) p value h = cc

-- the number of the part that holds a page
record Numbered (block : ℕ) (log : List Entry) (p : ℕ) (r : PartRef) : Type 0 where
  n : ℕ
  scanned : scan_n block log (PageKey p) ≡ Some n
  named : number_named log (page_part p r.entry) ≡ Some n

numbered : (block : ℕ) (log : List Entry) (p : ℕ) (r : PartRef) → IsLog log → scan_ref block log (PageKey p) ≡ Some r
    → Numbered block log p r
numbered block [] p r is q = cc
numbered block (e ∷ later) p r is q =
    go (any_cover block later (PageKey p)) refl (λ h. numbered block later p r is.1 h) (sym (scan_ref-cons block e later (PageKey p)) ∙ q)
  where
    behind : scan_ref block later (PageKey p) ≡ Some r → is_same_id e.id r.entry ≡ false
    behind h = before-same e.id r.entry (ref_behind e block later p r is.0 h)

    own : (s : Setting) → sets block e.item (PageKey p) ≡ s → any_cover block later (PageKey p) ≡ false
        → left_by s (part_ref e.id (place_in e.item (PageKey p))) None ≡ Some r → Numbered block (e ∷ later) p r
    own Untouched set none h = cc
    own Absent set none h = cc
    own (Present v) set none h =
        let same : e.id ≡ r.entry = cc in
        record {
          n = place_in e.item (PageKey p);
          scanned = rw (none, set) refl;
          named = rw (← same, same_id-self e.id) (page_place block e.item p v set);
        }

    go : (b : Bool) → any_cover block later (PageKey p) ≡ b → (scan_ref block later (PageKey p) ≡ Some r → Numbered block later p r)
        → cond b (scan_ref block later (PageKey p)) (ref_after block e (PageKey p) None) ≡ Some r → Numbered block (e ∷ later) p r
    go true cover rec h =
        let at = rec h in
        record {
          n = part_count e + at.n;
          scanned = rw cover (ap (option_map (λ m. part_count e + m)) at.scanned);
          named = rw (behind h) (ap (option_map (λ m. part_count e + m)) at.named);
        }
    go false cover rec h = own (sets block e.item (PageKey p)) refl cover h

-- the number of a part stays with more entries behind
named_front : (log more : List Entry) (id : PartId) (n : ℕ) → number_named log id ≡ Some n → number_named (log ++ more) id ≡ Some n
named_front [] more id n q = cc
named_front (e ∷ log) more id n q = go (is_same_id e.id id.entry) (λ m h. named_front log more id m h) q where
  later : (o : Option ℕ) → ((m : ℕ) → number_named log id ≡ Some m → number_named (log ++ more) id ≡ Some m)
      → number_named log id ≡ o → option_map (λ m. part_count e + m) o ≡ Some n
      → option_map (λ m. part_count e + m) (number_named (log ++ more) id) ≡ Some n
  later None rec h k = cc
  later (Some m) rec h k = rw (rec m h) k

  go : (b : Bool) → ((m : ℕ) → number_named log id ≡ Some m → number_named (log ++ more) id ≡ Some m)
      → cond b (place_of_part e.item id.part) (option_map (λ m. part_count e + m) (number_named log id)) ≡ Some n
      → cond b (place_of_part e.item id.part) (option_map (λ m. part_count e + m) (number_named (log ++ more) id)) ≡ Some n
  go true rec h = h
  go false rec h = later (number_named log id) rec refl h

-- no page has a block where no part holds it
none_held : (block : ℕ) (log : List Entry) (p : ℕ) → IsLog log → scan_ref block log (PageKey p) ≡ None → block_now block log p ≡ None
none_held block log p is q =
    ap (option_and_then block_in) ((refs_give block log is).value (PageKey p) ∙ ap (option_and_then (value_in block log (PageKey p))) q)

-- the block of the part that holds a page
held_block : (cell : CellState) (t p n : ℕ) (b : BlockValue) → IsCell cell
    → scan_n cell.block (take t cell.chain.entries) (PageKey p) ≡ Some n
    → slice_index_or cell.blocks n None ≡ Some b → block_now cell.block (take t cell.chain.entries) p ≡ Some b.number
held_block cell t p n b is scanned slot =
    let es = cell.chain.entries in
    let log = take t es in
    let low = (scan_key cell.block log (PageKey p) n scanned).0 in
    let whole : page_block cell.block es n ≡ page_block cell.block log n =
    ap (λ (xs : List Entry). page_block cell.block xs n) (sym (take-append-drop t es)) ∙ front_block cell.block log (drop t es) n low in
    let numbered : Some b.number ≡ cond (is_there (mark_or_fresh cell.marks n)) (page_block cell.block es n) None =
    sym (ap (option_map number_of) slot) ∙ is.blocks.numbers n in
    block_scanned cell.block log (PageKey p) ∙ ap (option_and_then (page_block cell.block log)) scanned
    ∙ sym whole ∙ go (is_there (mark_or_fresh cell.marks n)) numbered
  where
    go : (there : Bool) → Some b.number ≡ cond there (page_block cell.block cell.chain.entries n) None
        → page_block cell.block cell.chain.entries n ≡ Some b.number
    go true h = sym h
    go false h = cc

-- ---- by the blocks that a cell has

slot_text : (block : ℕ) (slot : Option BlockValue) → slot_bytes block slot ≡ page_text block (option_map (λ (b : BlockValue). b.bytes) slot)
slot_text block None = refl
slot_text block (Some b) = refl

page_own : (cell : CellState) (p : ℕ) → IsLog cell.chain.entries → own_page cell p ≡ shown_page (part_bytes cell) cell.block (log_of cell) p
page_own cell p is = go (scan_ref cell.block (log_of cell) (PageKey p)) refl where
  es : List Entry
  es = cell.chain.entries

  go : (o : Option PartRef) → scan_ref cell.block (log_of cell) (PageKey p) ≡ o
      → own_page cell p ≡ shown_page (part_bytes cell) cell.block (log_of cell) p
  go None q = rw q refl
  go (Some r) q =
      let id = page_part p r.entry in
      let num = numbered cell.block (log_of cell) p r (IsLog-take cell.chain.tail es is) q in
      let same : Some (number es r) ≡ Some num.n =
      ap (option_map (number es)) (sym q) ∙ scanned cell.block es cell.chain.tail (PageKey p) is ∙ num.scanned in
      let one : slice_index_or cell.blocks (number es r) None ≡ block_named cell id =
      ap (option_and_then (λ (n : ℕ). slice_index_or cell.blocks n None)) (same ∙ sym num.named) in
      rw q (ap (slot_bytes cell.block) one ∙ slot_text cell.block (block_named cell id))

-- the bytes of the file that a cell holds are those that it shows of its log
pub own_shown : (cell : CellState) → IsLog cell.chain.entries → own_bytes cell ≡ shown_bytes (part_bytes cell) cell.block (log_of cell)
own_shown cell is =
    ap (take (size_now cell.block (log_of cell)))
    (pages_same (own_page cell) (shown_page (part_bytes cell) cell.block (log_of cell)) 0
    (pages_for cell.block (size_now cell.block (log_of cell)))
    (λ page le lt. page_own cell page is))

-- ---- by the bytes of blocks

front_of : (t tail : ℕ) (es : List Entry) → t ≤ tail → take t es ++ drop t (take tail es) ≡ take tail es
front_of t tail es le =
    ap (λ (xs : List Entry). xs ++ drop t (take tail es)) (sym (take-take t tail es le)) ∙ take-append-drop t (take tail es)

-- the parts of a cell have the bytes of their blocks, where none that is asked for is out
pub cell_gives : (cell : CellState) (t : ℕ) (bytes : ℕ → List ℕ) → IsCell cell → t ≤ cell.chain.tail → AreBytesOf cell bytes
    → NoneOut cell (take t cell.chain.entries) → HaveBytes (part_bytes cell) bytes cell.block (take t cell.chain.entries)
cell_gives cell t bytes is le same there p low =
    go (scan_ref cell.block log (PageKey p)) refl (there p low)
  where
    log : List Entry
    log = take t cell.chain.entries

    rising : IsLog log
    rising = IsLog-take t cell.chain.entries is.chain.rising

    at : (n : ℕ) → scan_n cell.block log (PageKey p) ≡ Some n → (id : PartId) → block_named cell id ≡ slice_index_or cell.blocks n None
        → (slot : Option BlockValue) → slice_index_or cell.blocks n None ≡ slot → IsSome (block_named cell id)
        → part_bytes cell id ≡ option_map bytes (block_now cell.block log p)
    at n scanned id named None slot h = let none : block_named cell id ≡ None = named ∙ slot in
        let z : false ≡ true = subst IsSome none h in cc
    at n scanned id named (Some b) slot h =
        ap (option_map (λ (v : BlockValue). v.bytes)) (named ∙ slot) ∙ ap Some (sym (same n b slot))
        ∙ sym (ap (option_map bytes) (held_block cell t p n b is scanned slot))

    go : (o : Option PartRef) → scan_ref cell.block log (PageKey p) ≡ o
        → IfSome (page_writer cell.block log p) (λ entry. IsSome (block_named cell (page_part p entry)))
        → option_and_then (λ entry. part_bytes cell (page_part p entry)) (page_writer cell.block log p)
        ≡ option_map bytes (block_now cell.block log p)
    go None q h = rw q (sym (ap (option_map bytes) (none_held cell.block log p rising q)))
    go (Some r) q h =
        let id = page_part p r.entry in
        let num = numbered cell.block log p r rising q in
        let found : number_named (log_of cell) id ≡ Some num.n =
        ap (λ (xs : List Entry). number_named xs id) (sym (front_of t cell.chain.tail cell.chain.entries le))
        ∙ named_front log (drop t (log_of cell)) id num.n num.named in
        let named : block_named cell id ≡ slice_index_or cell.blocks num.n None =
        ap (option_and_then (λ (n : ℕ). slice_index_or cell.blocks n None)) found in
        let there : IsSome (block_named cell id) = rw q at h in
        rw q (at num.n num.scanned id named (slice_index_or cell.blocks num.n None) refl there)

-- the same of any first entries of the log
pub front_gives : (cell : CellState) (log : List Entry) (bytes : ℕ → List ℕ) → IsCell cell → log ≡ take (length log) (log_of cell)
    → AreBytesOf cell bytes → NoneOut cell log → HaveBytes (part_bytes cell) bytes cell.block log
front_gives cell log bytes is front same there =
    let t = length log in
    let tail = cell.chain.tail in
    let es = cell.chain.entries in
    let le : t ≤ tail = omega (arith, ap length front, length-take t (log_of cell), length-take tail es) in
    let whole : log ≡ take t es = front ∙ take-take t tail es le in
    subst (HaveBytes (part_bytes cell) bytes cell.block) (sym whole)
    (cell_gives cell t bytes is le same (subst (NoneOut cell) whole there))
