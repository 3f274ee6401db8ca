-- What a cleaning leaves of a cell, told once for both cleanings.
use Rattle.std.proofs.Common.{◌≡◌, ◌∙◌, ◌==◌, ℕ, zero, suc, ◌-◌, ◌<◌, ◌≤◌, Bool, true, false, cond, if◌then◌else◌, not, List, [], ◌∷◌, Option, Some, None, ap, arith, inl, inr, length, option_to_list, refl, subst, sym, take_all}
use Rattle.std.specs.List.{flat_map}
use Rattle.std.specs.Option.{option_map}
use Rattle.std.specs.Prelude.{slice_index_or, unwrap_or}
use Rattle.std.proofs.Math.Path.{fun_ext}
use Rattle.std.proofs.lemmas.Bool.{cases_lt, false≢true}
use Rattle.std.proofs.lemmas.List.{get_or_past}
use Rattle.nv_alloc.specs.Block.{AreSized, BlockValue, number_of, numbers_of}
use Rattle.nv_cell.specs.Cell.{CellState, HasBlocks, HasMarks, IsCell, log_of, mark_or_fresh, of_part, page_block}
use Rattle.nv_cell.specs.Cleaned.{KeepsNodes, KeepsRecords, was_number}
use Rattle.nv_cell.specs.Marks.{is_current, is_there, mark_at}
use Rattle.nv_cell.specs.Readers.{has_entry, is_gone, is_last_word}
use Rattle.nv_cell.specs.Removal.{KeepsTheLast, left_in, part_flags, source}
use Rattle.nv_cell.specs.declared.mark.Mark.{Mark}
use Rattle.nv_cell.specs.declared.mark.Mark.TheVariants.{Current}
use Rattle.nv_entry.specs.Covered.{is_covered}
use Rattle.nv_entry.specs.Held.{Retention}
use Rattle.nv_entry.specs.Node.{node_now}
use Rattle.nv_entry.specs.Sound.{IsSound}
use Rattle.nv_entry.specs.declared.item.Entry.{Entry}
use Rattle.nv_cell.proofs.CleanNodes.{cleaned_nodes}
use Rattle.nv_cell.proofs.CleanParts.{cleaned_records}
use Rattle.nv_cell.proofs.Removing.{AreTaken, last_stays}
use Rattle.nv_cell.proofs.Sources.{block_left}
use Rattle.nv_cell.proofs.ValuesNow.{IsLog-take}
use Rattle.nv_entry.specs.Clean.{select}
use Rattle.nv_entry.specs.Laws.{KeepsReads}
use Rattle.nv_log.specs.Chain.{ChainState, IsChain, last_of, left_of}
use Rattle.nv_calls.specs.Plain.{stamped}
use Rattle.nv_calls.specs.Slots.{last_commit}
use Rattle.nv_machine.specs.Effects.{IsSoundIn}
use Rattle.nv_machine.specs.Hands.{IsParted}
use Rattle.nv_machine.specs.Kept.{HasPages}
use Rattle.nv_machine.specs.Reads.{bytes_among}
use Rattle.nv_machine.specs.Settled.{node_by}
use Rattle.nv_machine.specs.Whole.{HasItsParts}
use Rattle.nv_machine.proofs.PoolCells.{IsLike}

-- ---- small things

-- the bytes of a block by its number, among blocks that are there
abbrev pub bytes_in : List BlockValue → ℕ → List ℕ
bytes_in [] number = []
bytes_in (b ∷ blocks) number = if b.number == number then b.bytes else bytes_in blocks number

among_there : (blocks : List (Option BlockValue)) (number : ℕ) → bytes_among blocks number ≡ bytes_in (flat_map option_to_list blocks) number
among_there [] number = refl
among_there (None ∷ blocks) number = among_there blocks number
among_there (Some b ∷ blocks) number = ap (λ (bytes : List ℕ). cond (b.number == number) b.bytes bytes) (among_there blocks number)

numbers_there : (blocks : List (Option BlockValue)) → flat_map of_part blocks ≡ numbers_of (flat_map option_to_list blocks)
numbers_there [] = refl
numbers_there (None ∷ blocks) = numbers_there blocks
numbers_there (Some b ∷ blocks) = ap (λ (l : List ℕ). b.number ∷ l) (numbers_there blocks)

-- the commit of a log's last entry
commit_of : Option Entry → ℕ
commit_of None = 0
commit_of (Some e) = e.id.commit

last_step : (x y : Entry) (ys : List Entry) → last_of (x ∷ y ∷ ys) ≡ last_of (y ∷ ys)
last_step x y ys = let e : length (x ∷ y ∷ ys) - 1 ≡ suc (length (y ∷ ys) - 1) = omega arith in rw e refl

pub gone_step : (x y : Entry) (ys : List Entry) → is_gone (x ∷ y ∷ ys) ≡ is_gone (y ∷ ys)
gone_step x y ys = ap (λ (o : Option Entry). unwrap_or (option_map (λ (e : Entry). is_last_word e.item) o) false) (last_step x y ys)

last_commit_is : (log : List Entry) → last_commit log ≡ commit_of (last_of log)
unfolding commit_of
last_commit_is [] = refl
last_commit_is (e ∷ []) = refl
last_commit_is (e ∷ f ∷ later) = last_commit_is (f ∷ later) ∙ sym (ap commit_of (last_step e f later))

-- a log with a last entry has one
some_last : (log : List Entry) (e : Entry) → last_of log ≡ Some e → 0 < length log
some_last [] e is = cc
some_last (x ∷ log) e is = omega arith

last_there : (log : List Entry) → 0 < length log → (e : Entry) × (last_of log ≡ Some e)
last_there [] some = absurd (omega (arith, some))
last_there (e ∷ []) some = (e, refl)
last_there (e ∷ f ∷ log) some =
    let more = last_there (f ∷ log) (omega arith) in (more.0, last_step e f log ∙ more.1)

fresh_mark : (marks : List Mark) (n : ℕ) → n < length marks → mark_or_fresh marks n ≡ mark_at marks n
fresh_mark [] n lt = absurd (omega (arith, lt))
fresh_mark (m ∷ marks) zero lt = refl
fresh_mark (m ∷ marks) (suc n) lt = fresh_mark marks n (omega (arith, lt))

current_there : (m : Mark) → is_current m ≡ true → is_there m ≡ true
current_there Current e = refl
current_there other e = absurd (false≢true e)

-- ---- a cell by its parts

-- each part that is not covered has its block
pub parts_paged : (cell : CellState) → cell.chain.tail ≤ length cell.chain.entries → HasMarks cell → HasBlocks cell
    → HasPages (log_of cell) cell
parts_paged cell within marks blocks = record {
  pages = λ n number unc says.
      blocks.numbers n
      ∙ ap (λ (b : Bool). cond b (page_block cell.block cell.chain.entries n) None) (there n unc) ∙ says;
  len = blocks.len;
  within = within;
} where
  there : (n : ℕ) → is_covered cell.block (log_of cell) n ≡ false → is_there (mark_or_fresh cell.marks n) ≡ true
  there n unc = elim (cases_lt n (length cell.marks)) [
    | inl lt ↦ ap is_there (fresh_mark cell.marks n lt)
        ∙ current_there (mark_at cell.marks n) (marks.current n (omega (arith, lt, marks.len)) ∙ ap not unc)
    | inr ge ↦ ap is_there (get_or_past cell.marks n Current ge)
  ]

-- an entry there on both sides, or on none
both_some : (xs ys : List Entry) → (0 < length xs → 0 < length ys) → (0 < length ys → 0 < length xs) → has_entry ys ≡ has_entry xs
both_some [] [] some none = refl
both_some [] (y ∷ ys) some none = absurd (let lt = none (omega arith) in omega (arith, lt))
both_some (x ∷ xs) [] some none = absurd (let lt = some (omega arith) in omega (arith, lt))
both_some (x ∷ xs) (y ∷ ys) some none = refl

no_block : (o : Option BlockValue) → option_map number_of o ≡ None → o ≡ None
no_block None e = refl
no_block (Some b) e = cc

-- ---- WHAT A CLEANING LEAVES OF A CELL, told once for both: entries are taken out of its log by flags, the last one stays, and
-- what is left has the nodes, the blocks and the parts that it had
pub record Cleans (r : Retention) (flags : List Bool) (old new : CellState) : Type 0 where
  pub block : new.block ≡ old.block
  pub generation : new.generation ≡ old.generation
  pub version : new.version ≡ old.version
  pub page : new.chain.page ≡ old.chain.page
  pub entries : new.chain.entries ≡ left_of flags old.chain.entries
  pub left : log_of new ≡ select flags (log_of old)
  pub old_tail : old.chain.tail ≡ length old.chain.entries
  pub tail : new.chain.tail ≡ length new.chain.entries
  pub chain : IsChain new.chain
  pub last : KeepsTheLast old new
  pub nodes : KeepsNodes r old new
  pub records : KeepsRecords r flags old new

-- so do both cleanings: entries that may go are taken out of a cell whose log ends at its tail, and what is read stays
pub taken_cleans : {flags : List Bool} {cell : CellState} {chain : ChainState} → (taken : AreTaken flags cell chain) → (r : Retention)
    → IsCell cell → cell.chain.tail ≡ length cell.chain.entries → r.block ≡ cell.block
    → KeepsReads r (log_of cell) (select flags (log_of cell)) → IsChain chain → chain.page ≡ cell.chain.page
    → Cleans r flags cell (left_in flags chain cell)
taken_cleans {flags} {cell} {chain} taken r is published size reads left page = record {
  block = refl;
  generation = refl;
  version = refl;
  page = page;
  entries = taken.left.entries;
  left = taken.left.log_is;
  old_tail = published;
  tail =
      taken.left.tail
      ∙ ap (λ (l : List Entry). length (left_of flags l)) (take_all cell.chain.tail cell.chain.entries (omega (arith, published)))
      ∙ sym (ap (λ (l : List Entry). length l) taken.left.entries);
  chain = left;
  last = last_stays taken;
  nodes = cleaned_nodes taken r size reads;
  records = cleaned_records taken r (IsLog-take cell.chain.tail cell.chain.entries is.chain.rising) size reads;
}

module _ (r : Retention) (flags : List Bool) (old new : CellState) (c : Cleans r flags old new) where
  -- the log is all entries
  pub old_log : log_of old ≡ old.chain.entries
  old_log = take_all old.chain.tail old.chain.entries (omega (arith, c.old_tail))

  pub new_log : log_of new ≡ new.chain.entries
  new_log = take_all new.chain.tail new.chain.entries (omega (arith, c.tail))

  -- a log with an entry keeps one, and one without has none
  pub cleaned_some : 0 < length (log_of old) → 0 < length (log_of new)
  cleaned_some some =
      let was = last_there old.chain.entries (subst (λ (l : List Entry). 0 < length l) old_log some) in
      subst (λ (l : List Entry). 0 < length l) (sym new_log)
      (some_last new.chain.entries was.0 (c.last.entry ∙ was.1))

  pub cleaned_none : 0 < length (log_of new) → 0 < length (log_of old)
  cleaned_none some =
      let was = last_there new.chain.entries (subst (λ (l : List Entry). 0 < length l) new_log some) in
      subst (λ (l : List Entry). 0 < length l) (sym old_log)
      (some_last old.chain.entries was.0 (sym c.last.entry ∙ was.1))

  -- the same blocks stand in the same order
  pub cleaned_bytes : bytes_among new.blocks ≡ bytes_among old.blocks
  cleaned_bytes = fun_ext (λ (number : ℕ).
      among_there new.blocks number
      ∙ ap (λ (l : List BlockValue). bytes_in l number) c.nodes.blocks_stay
      ∙ sym (among_there old.blocks number))

  pub cleaned_numbers : flat_map of_part new.blocks ≡ flat_map of_part old.blocks
  cleaned_numbers = numbers_there new.blocks ∙ ap numbers_of c.nodes.blocks_stay ∙ sym (numbers_there old.blocks)

  -- the settled node stays, and what is sound
  pub cleaned_node : node_by new (log_of new) ≡ node_by old (log_of old)
  cleaned_node =
      ap (λ (bytes : ℕ → List ℕ). stamped (last_commit (log_of new)) (node_now bytes new.block (log_of new))) cleaned_bytes
      ∙ ap (stamped (last_commit (log_of new))) (c.nodes.now (bytes_among old.blocks))
      ∙ ap (λ (commit : ℕ). stamped commit (node_now (bytes_among old.blocks) old.block (log_of old))) commit
    where
      commit : last_commit (log_of new) ≡ last_commit (log_of old)
      commit =
          ap last_commit new_log ∙ last_commit_is new.chain.entries ∙ ap commit_of c.last.entry
          ∙ sym (ap last_commit old_log ∙ last_commit_is old.chain.entries)

  pub cleaned_sound : IsSoundIn old (log_of old) → IsSoundIn new (log_of new)
  cleaned_sound sound =
      subst (λ (bytes : ℕ → List ℕ). IsSound bytes new.block (log_of new)) (sym cleaned_bytes)
      (c.nodes.sound (bytes_among old.blocks) sound)

  -- its parts have their marks and blocks
  pub cleaned_pages : HasPages (log_of new) new
  cleaned_pages = parts_paged new (omega (arith, c.tail)) c.nodes.marks c.nodes.blocks

  pub cleaned_parts : (size : ℕ) → old.block ≡ size → HasItsParts size new
  cleaned_parts size is = record {
    size = c.block ∙ is;
    within = omega (arith, c.tail);
    marks = c.nodes.marks;
    blocks = c.nodes.blocks;
  }

  -- a part that is out has no block, and a block is of the number that its entry says
  pub cleaned_parted : (size : ℕ) → IsParted size old → AreSized size new.chain.blocks → IsParted size new
  cleaned_parted size parted sized = record {
    within = omega (arith, c.tail);
    marks = c.nodes.marks.len;
    places = c.nodes.blocks.len;
    out = λ n out. no_block (slice_index_or new.blocks n None)
        (c.nodes.blocks.numbers n
        ∙ ap (λ (b : Bool). cond b (page_block new.block new.chain.entries n) None) out);
    told = λ n b e. says n ∙ parted.told (was_number flags old n) b (sym (c.records.blocks n) ∙ e);
    sized = λ n b e. parted.sized (was_number flags old n) b (sym (c.records.blocks n) ∙ e);
    pages = sized;
  } where
    says : (n : ℕ) → page_block size new.chain.entries n ≡ page_block size old.chain.entries (was_number flags old n)
    says n =
        ap (λ (l : List Entry). page_block size l n) c.entries ∙ block_left size flags old.chain.entries n
        ∙ ap (λ (l : List Entry). page_block size old.chain.entries (source (part_flags flags l) n)) (sym old_log)

  -- an inode that is gone and keeps nothing was so before
  pub cleaned_gone : is_gone (log_of new) ≡ is_gone (log_of old)
  cleaned_gone = c.last.gone

  -- it has an inode where it had one, of the same generation
  pub cleaned_like : IsLike old new
  cleaned_like = record { inode = both_some (log_of old) (log_of new) cleaned_some cleaned_none; generation = c.generation }
