-- What stays of a cell once entries are taken out that may go.
use Rattle.std.proofs.Common.{◌≡◌, ℕ, zero, suc, ◌+◌, ◌-◌, ◌*◌, ◌≤◌, min, Bool, true, false, not, cond, List, [], ◌∷◌, ◌++◌, length, take, replicate, Option, Some, None, arith, refl, ap, sym, ◌∙◌, subst, slice_index_or}
use Rattle.std.specs.List.{AllByRecursion}
use Rattle.std.specs.Option.{option_map}
use Rattle.std.specs.Prelude.{option_and_then, unwrap_or}
use Rattle.std.proofs.lemmas.List.{length-take, length-take-le}
use Rattle.nv_alloc.specs.Block.{BlockValue, number_of}
use Rattle.nv_entry.specs.declared.item.Entry.{Entry}
use Rattle.nv_entry.specs.Clean.{select}
use Rattle.nv_entry.specs.Covered.{is_covered, part_count, part_total}
use Rattle.nv_entry.specs.Keys.{Key, KindKey, ModeKey, SizeKey}
use Rattle.nv_entry.specs.Leaving.{MayAllLeave}
use Rattle.nv_entry.specs.Data.{mode_in, size_in}
use Rattle.nv_entry.specs.declared.key.Datum.{Datum}
use Rattle.nv_entry.specs.Log.{value_now}
use Rattle.nv_entry.specs.Refs.{scan_ref}
use Rattle.nv_entry.specs.Stored.{kind_in}
use Rattle.nv_entry.proofs.Leaving.{keeps_the_rest}
use Rattle.nv_log.specs.Chain.{ChainState, IsChain, compacted, gone_of, last_of, left_of, log, packed}
use Rattle.nv_log.proofs.Flags.{left_of-select, length-left_of, take-left_of}
use Rattle.nv_log.proofs.Parts.{div_ceil-le, len_le}
use Rattle.std.specs.Int.{div_ceil}
use Rattle.std.proofs.lemmas.List.FromFn.{length-map-range_with_len}
use Rattle.nv_cell.specs.declared.mark.Mark.{Mark}
use Rattle.nv_cell.specs.declared.mark.Mark.TheVariants.{Current, Out}
use Rattle.nv_cell.specs.Cell.{CellState, HasBlocks, HasMarks, log_of, mark_or_fresh, page_block}
use Rattle.nv_cell.specs.Index.{bindings_of}
use Rattle.nv_cell.specs.Marks.{is_current, is_there}
use Rattle.nv_cell.specs.Readers.{is_last_word}
use Rattle.nv_cell.specs.Reading.{stat_now}
use Rattle.nv_cell.specs.declared.stat.Stat.{Stat}
use Rattle.nv_cell.specs.Removal.{KeepsTheLast, MayGo, flags_by, left_in, part_flags, slot_flags, source}
use Rattle.nv_cell.specs.Slots.{by_part, slot_count, slot_total}
use Rattle.nv_cell.proofs.LastStays.{last_left}
use Rattle.nv_cell.proofs.Publishing.{total_take}
use Rattle.nv_cell.proofs.Leaving.{covered_left, cell_may_leave}
use Rattle.nv_cell.proofs.NamesLeft.{bindings_left}
use Rattle.nv_cell.proofs.RunFlags.{part_totals, slot_totals}
use Rattle.nv_cell.proofs.Slots.{slots_gone, slots_left}
use Rattle.nv_cell.proofs.Sources.{at_source, source_within, block_left, left_within, length-part_flags, total_left}

-- ---- the cell

-- what the chain is once its entries are taken out
pub record IsLeft (flags : List Bool) (old new : ChainState) : Type 0 where
  pub flags_len : length flags ≡ length (log old)
  pub entries : new.entries ≡ left_of flags old.entries
  pub log_is : log new ≡ select flags (log old)
  pub tail : new.tail ≡ length (left_of flags (log old))

-- flags of the log's entries say nothing of those past it
flags_of_all : (count : Entry → ℕ) (flags : List Bool) (chain : ChainState) → length flags ≡ length (log chain)
    → flags_by count flags chain.entries ≡ flags_by count flags (log chain)
flags_of_all count flags chain len = front flags chain.tail chain.entries (omega (arith, len)) where
  front : (fs : List Bool) (t : ℕ) (es : List Entry) → length fs ≤ length (take t es)
      → flags_by count fs es ≡ flags_by count fs (take t es)
  front [] t es le = refl
  front (b ∷ fs) zero es le = absurd (omega arith)
  front (b ∷ fs) (suc t) [] le = refl
  front (b ∷ fs) (suc t) (e ∷ es) le = ap (λ gs. replicate (count e) b ++ gs) (front fs t es (omega (arith, le)))

no_number : (o : Option BlockValue) → option_map number_of o ≡ None → o ≡ None
no_number None h = refl
no_number (Some b) h = cc

all_gone_none : (fs : List Bool) (bs : List (Option BlockValue)) (ms : List Mark) (page : ℕ → Option ℕ)
    → AllByRecursion (λ m. m ≡ Out) (gone_of fs ms)
    → ((n : ℕ) → option_map number_of (slice_index_or bs n None) ≡ cond (is_there (mark_or_fresh ms n)) (page n) None)
    → length fs ≤ length ms → AllByRecursion (λ b. b ≡ None) (gone_of fs bs)
all_gone_none [] bs ms page out numbers le = tt
all_gone_none (b ∷ fs) [] ms page out numbers le = tt
all_gone_none (b ∷ fs) (x ∷ bs) [] page out numbers le = absurd (omega arith)
all_gone_none (true ∷ fs) (x ∷ bs) (m ∷ ms) page out numbers le = all_gone_none fs bs ms (λ n. page (suc n)) out (λ n. numbers (suc n))
    (omega (arith, le))
all_gone_none (false ∷ fs) (x ∷ bs) (m ∷ ms) page out numbers le = (
  no_number x (numbers 0 ∙ ap (λ k. cond (is_there k) (page 0) None) out.0),
  all_gone_none fs bs ms (λ n. page (suc n)) out.1 (λ n. numbers (suc n)) (omega (arith, le)),
)

-- what an inode tells of itself, by its values and its last entry
stat_of : Option Datum → Option Datum → Option Datum → Option Entry → Option Stat
stat_of kind mode size last = option_and_then (λ k. option_map (λ (e : Entry). record {
  kind = k;
  mode = unwrap_or (option_and_then mode_in mode) 0;
  size = unwrap_or (option_and_then size_in size) 0;
  commit = e.id.commit;
}) last) (option_and_then kind_in kind)

stat_kept : (block : ℕ) (new old : List Entry) → ((key : Key) → value_now block new key ≡ value_now block old key)
    → last_of new ≡ last_of old → stat_now block new ≡ stat_now block old
unfolding stat_of
stat_kept block new old values last =
    ap (λ v. stat_of v (value_now block new ModeKey) (value_now block new SizeKey) (last_of new)) (values KindKey)
    ∙ ap (λ v. stat_of (value_now block old KindKey) v (value_now block new SizeKey) (last_of new)) (values ModeKey)
    ∙ ap (λ v. stat_of (value_now block old KindKey) (value_now block old ModeKey) v (last_of new)) (values SizeKey)
    ∙ ap (stat_of (value_now block old KindKey) (value_now block old ModeKey) (value_now block old SizeKey)) last

-- entries may be taken out of a cell, and this chain is left
pub record AreTaken (flags : List Bool) (cell : CellState) (chain : ChainState) : Type 0 where
  pub left : IsLeft flags cell.chain chain
  pub marks : HasMarks cell
  pub blocks : HasBlocks cell
  pub may : MayGo flags cell

module _ {flags : List Bool} {cell : CellState} {chain : ChainState} (taken : AreTaken flags cell chain) where
  open taken use {left, marks, blocks, may}

  pub may_leave : MayAllLeave cell.block [] (log_of cell) flags
  may_leave = cell_may_leave flags cell left.flags_len marks may

  pub few : length (part_flags flags (log_of cell)) ≤ length cell.marks
  few = omega (arith, length-part_flags flags (log_of cell), marks.len)

  pub marks_count : length (left_of (part_flags flags (log_of cell)) cell.marks) ≡ part_total (log chain)
  marks_count = total_left part_totals flags (log_of cell) cell.marks marks.len
      ∙ ap part_total (left_of-select flags (log_of cell) left.flags_len ∙ sym left.log_is)

  pub marks_left : HasMarks (left_in flags chain cell)
  marks_left = record {
    len = marks_count;
    current = λ n lt.
        let within = source_within (part_flags flags (log_of cell)) cell.marks n few (omega (arith, lt, marks_count)) in
        ap is_current (at_source (part_flags flags (log_of cell)) cell.marks n Out few)
        ∙ marks.current (source (part_flags flags (log_of cell)) n) (omega (arith, within, marks.len))
        ∙ ap not (sym (ap (λ es. is_covered cell.block es n) left.log_is
        ∙ covered_left cell.block flags (log_of cell) n left.flags_len may_leave));
  }

  pub some : length (part_flags flags (log_of cell)) ≤ length cell.blocks
  some = omega (arith, length-part_flags flags (log_of cell), blocks.len, total_take cell.chain.entries cell.chain.tail)

  pub blocks_left : HasBlocks (left_in flags chain cell)
  blocks_left =
      let fs = part_flags flags (log_of cell) in
      let all = flags_of_all part_count flags cell.chain left.flags_len in
      record {
        len = ap (λ gs. length (left_of gs cell.blocks)) (sym all) ∙ total_left part_totals flags cell.chain.entries cell.blocks blocks.len
            ∙ ap part_total (sym left.entries);
        numbers = λ n.
            ap (option_map number_of) (at_source fs cell.blocks n None some) ∙ blocks.numbers (source fs n)
            ∙ ap (λ m. cond (is_there m) (page_block cell.block cell.chain.entries (source fs n)) None)
            (sym (at_source fs cell.marks n Current few))
            ∙ ap (λ o. cond (is_there (mark_or_fresh (left_of fs cell.marks) n)) o None)
            (sym (ap (λ es. page_block cell.block es n) left.entries
            ∙ block_left cell.block flags cell.chain.entries n ∙ ap (λ gs. page_block cell.block cell.chain.entries (source gs n)) all));
        sized = λ n b is. blocks.sized (source fs n) b (sym (at_source fs cell.blocks n None some) ∙ is);
      }

  pub refs_left : (key : Key) → scan_ref cell.block (log chain) key ≡ scan_ref cell.block (log_of cell) key
  refs_left key = ap (λ es. scan_ref cell.block es key) left.log_is ∙ (keeps_the_rest cell.block (log_of cell) flags may_leave).index key

  pub names_left : bindings_of (log chain) ≡ bindings_of (log_of cell)
  names_left = ap bindings_of left.log_is ∙ bindings_left cell.block (log_of cell) flags may_leave

  at_end : slice_index_or flags (length flags - 1) true ≡ true
  at_end = subst (λ (n : ℕ). slice_index_or flags (n - 1) true ≡ true) (sym left.flags_len) may.last

  last_is : last_of (log chain) ≡ last_of (log_of cell)
  last_is = ap last_of (left.log_is ∙ sym (left_of-select flags (log_of cell) left.flags_len))
      ∙ last_left flags (log_of cell) (omega (arith, left.flags_len)) at_end

  -- the last entry stays, and what the inode tells of itself
  pub last_stays : KeepsTheLast cell (left_in flags chain cell)
  last_stays =
      let values : (key : Key) → value_now cell.block (log chain) key ≡ value_now cell.block (log_of cell) key = λ key.
      ap (λ es. value_now cell.block es key) left.log_is ∙ (keeps_the_rest cell.block (log_of cell) flags may_leave).values key in
      record {
        entry = ap last_of left.entries
            ∙ last_left flags cell.chain.entries (omega (arith, left.flags_len, length-take cell.chain.tail cell.chain.entries)) at_end;
        stat = stat_kept cell.block (log chain) (log_of cell) values last_is;
        gone = ap (λ last. unwrap_or (option_map (λ (e : Entry). is_last_word e.item) last) false) last_is;
      }

  -- the parts that go have no blocks
  pub none_gone : AllByRecursion (λ b. b ≡ None) (gone_of (part_flags flags (log_of cell)) cell.blocks)
  none_gone = all_gone_none (part_flags flags (log_of cell)) cell.blocks cell.marks
      (page_block cell.block cell.chain.entries) may.out blocks.numbers
      few

-- ---- the chain and the room

pub compact_left : (flags : List Bool) (pages : List BlockValue) (chain : ChainState) → length flags ≡ chain.tail
    → chain.tail ≤ length chain.entries
    → IsLeft flags chain (compacted flags pages chain)
compact_left flags pages chain len within =
    let few : length flags ≡ length (log chain) = len ∙ sym (length-take-le chain.tail chain.entries within) in
    record {
      flags_len = few;
      entries = refl;
      log_is = take-left_of flags chain.tail chain.entries ∙ left_of-select flags (log chain) few;
      tail = refl;
    }

-- fresh pages are no more than the old ones
pages_within : (flags : List Bool) (chain : ChainState) → IsChain chain
    → div_ceil (length (left_of flags chain.entries)) chain.page ≤ length chain.ends
pages_within flags chain is =
    let n = length (left_of flags chain.entries) in
    let most = len_le chain.page 0 chain.ends (length chain.entries) is.parted in
    let le : n ≤ length chain.ends * chain.page = omega (arith, most, length-left_of flags chain.entries) in
    div_ceil-le n chain.page (length chain.ends) (omega (arith, is.least)) le

pub fresh_within : (flags : List Bool) (pages : List BlockValue) (chain : ChainState) → IsChain chain
    → length pages ≡ div_ceil (length (left_of flags chain.entries)) chain.page → length pages ≤ length chain.ends
fresh_within flags pages chain is size = omega (arith, size, pages_within flags chain is)

pub packed_within : (flags : List Bool) (pages : List BlockValue) (chain : ChainState) → IsChain chain
    → length (compacted flags pages chain).ends ≤ length chain.ends
packed_within flags pages chain is =
    let n = length (left_of flags chain.entries) in
    let size : length (packed chain.page n) ≡ div_ceil n chain.page = length-map-range_with_len (λ k. min ((k + 1) * chain.page) n) 0
    (div_ceil n chain.page) in
    omega (arith, size, pages_within flags chain is)

-- no more is there than before
pub record IsFewer (old new : ChainState) : Type 0 where
  pub entries : length new.entries ≤ length old.entries
  pub tail : new.tail ≤ length (log old)
  pub parts : part_total new.entries ≤ part_total old.entries
  pub slots : slot_total new.entries ≤ slot_total old.entries

pub fewer : {flags : List Bool} {old new : ChainState} → IsLeft flags old new → IsFewer old new
fewer {flags} {old} {new} left = record {
  entries = omega (arith, ap length left.entries, length-left_of flags old.entries);
  tail = omega (arith, left.tail, length-left_of flags (log old));
  parts = omega (arith, ap part_total left.entries, left_within part_totals flags old.entries);
  slots = omega (arith, ap slot_total left.entries, left_within slot_totals flags old.entries);
}

-- ---- the slots

module _ {flags : List Bool} {old new : ChainState} (left : IsLeft flags old new) (slots : List (Option BlockValue))
    (len : length slots ≡ slot_total old.entries) where
  -- no slot that goes has a block where no part that goes has one
  pub no_slot_gone : AllByRecursion (λ b. b ≡ None) (gone_of (part_flags flags (log old)) (by_part old.entries slots))
      → AllByRecursion (λ b. b ≡ None) (gone_of (slot_flags flags (log old)) slots)
  no_slot_gone none =
      let parts = flags_of_all part_count flags old left.flags_len in
      subst (λ fs. AllByRecursion (λ b. b ≡ None) (gone_of fs slots)) (flags_of_all slot_count flags old left.flags_len)
      (slots_gone flags old.entries slots len
      (subst (λ fs. AllByRecursion (λ b. b ≡ None) (gone_of fs (by_part old.entries slots))) (sym parts) none))

  -- what is left of the slots is what is left of the blocks by number
  pub left_by_part : (next : List (Option BlockValue)) → next ≡ left_of (slot_flags flags (log old)) slots
      → (by_part new.entries next ≡ left_of (part_flags flags (log old)) (by_part old.entries slots))
      × (length next ≡ slot_total new.entries)
  left_by_part next is =
      let parts = flags_of_all part_count flags old left.flags_len in
      let all : next ≡ left_of (slot_flags flags old.entries) slots =
      is ∙ ap (λ fs. left_of fs slots) (sym (flags_of_all slot_count flags old left.flags_len)) in (
        ap (by_part new.entries) all ∙ ap (λ es. by_part es (left_of (slot_flags flags old.entries) slots)) left.entries
            ∙ slots_left flags old.entries slots len ∙ ap (λ fs. left_of fs (by_part old.entries slots)) parts,
        ap length all ∙ total_left slot_totals flags old.entries slots len ∙ ap slot_total (sym left.entries),
      )
