-- Marks of all slots, and what an append, a publish, a retire, an erasing and a release leave of them.
use Rattle.std.proofs.Common.{◌≡◌, ◌≢◌, ℕ, zero, suc, ◌+◌, ◌≤◌, ◌&&◌, ◌++◌, ◌∙◌, Bool, true, false, cond, not, List, [], ◌∷◌, Option, Some, None, ap, append-nil, arith, drop, if◌then◌else◌, length, refl, set, subst, sym}
use Rattle.std.specs.Prelude.{is_none, unwrap_or}
use Rattle.std.specs.List.{AllByRecursion, list_any}
use Rattle.std.proofs.lemmas.Bool.{and_parts, false≢true, ne_eqb}
use Rattle.std.proofs.lemmas.List.{append_assoc, drop-append-le, take-append-le}
use Rattle.nv_alloc.specs.Block.{BlockValue}
use Rattle.nv_book.specs.Listed.{with_retired}
use Rattle.nv_book.specs.Records.{holder_of}
use Rattle.nv_book.specs.declared.record.Record.{Record}
use Rattle.nv_calls.specs.Retiring.{erased, keeper_of, name_of, record_of, released, retired, settled}
use Rattle.nv_cell.specs.Append.{appended, blocks_for}
use Rattle.nv_cell.specs.Cell.{CellState, empty_cell, killed_by, log_of, number_in, published}
use Rattle.nv_cell.specs.Marks.{is_there, mark_at}
use Rattle.nv_cell.specs.Readers.{is_erased, is_gone, keeps_nothing}
use Rattle.nv_cell.specs.declared.killed.KilledPart.{KilledPart}
use Rattle.nv_cell.specs.declared.mark.Mark.{Mark}
use Rattle.nv_cell.specs.declared.mark.Mark.TheVariants.{Kept, Out}
use Rattle.nv_cell.proofs.Droppable.{all_out}
use Rattle.nv_cell.proofs.Publishing.{take_whole}
use Rattle.nv_entry.specs.Blocks.{item_blocks}
use Rattle.nv_entry.specs.Log.{IsLog}
use Rattle.nv_entry.specs.declared.item.Entry.{Entry}
use Rattle.nv_machine.specs.Kinds.{with_entries, with_log_pages}
use Rattle.nv_machine.specs.Recorded.{with_parts}
use Rattle.nv_machine.proofs.EachElement.{all_append}
use Rattle.nv_machine.proofs.FiledLists.{HasHolder, count, count_cons, one}
use Rattle.nv_machine.proofs.FiledMarks.{AreMarks, IsTold, freed_marks, is_filed_on, kept_marks, killed_number, released_marks, filed_number}
use Rattle.nv_machine.proofs.FiledPublish.{erased_marks, published_marks}
use Rattle.nv_machine.proofs.Pairs.{IsRecordOf}

-- ---- the marks of a cell

abbrev pub MarksOf : List ℕ → ℕ → ℕ → List KilledPart → List Record → CellState → Type 0
MarksOf living ino epoch killed rs cell = AreMarks living ino epoch killed rs cell.block (log_of cell) cell.marks

-- ---- appended

-- a cell with more entries past its tail
record Appends (entries : List Entry) (old new : CellState) : Type 0 where
  entries_are : new.chain.entries ≡ old.chain.entries ++ entries
  tail : new.chain.tail ≡ old.chain.tail
  marks : new.marks ≡ old.marks
  block : new.block ≡ old.block

pages_append : (pages : List BlockValue) (cell : CellState) → Appends [] cell (with_log_pages pages cell)
pages_append [] cell = record { entries_are = sym (append-nil cell.chain.entries); tail = refl; marks = refl; block = refl }
pages_append (b ∷ pages) cell =
    let more = pages_append pages (record cell { chain = record cell.chain { blocks = cell.chain.blocks ++ b ∷ [] } }) in
    record { entries_are = more.entries_are; tail = more.tail; marks = more.marks; block = more.block }

entries_append : (entries : List Entry) (bs : List BlockValue) (cell : CellState) → Appends entries cell (with_entries entries bs cell)
entries_append [] bs cell = record { entries_are = sym (append-nil cell.chain.entries); tail = refl; marks = refl; block = refl }
entries_append (e ∷ entries) bs cell =
    let more = entries_append entries (drop (length (item_blocks e.item)) bs) (appended e (blocks_for e.item bs) cell) in
    record {
      entries_are = more.entries_are ∙ append_assoc cell.chain.entries (e ∷ []) entries;
      tail = more.tail;
      marks = more.marks;
      block = more.block;
    }

appends : (entries : List Entry) (bs pages : List BlockValue) (cell : CellState)
    → Appends entries cell (with_entries entries bs (with_log_pages pages cell))
appends entries bs pages cell =
    let first = pages_append pages cell in
    let more = entries_append entries bs (with_log_pages pages cell) in
    record {
      entries_are = more.entries_are ∙ ap (λ (l : List Entry). l ++ entries) (first.entries_are ∙ append-nil cell.chain.entries);
      tail = more.tail ∙ first.tail;
      marks = more.marks ∙ first.marks;
      block = more.block ∙ first.block;
    }

same_log : (entries : List Entry) (old new : CellState) → old.chain.tail ≤ length old.chain.entries → Appends entries old new
    → log_of new ≡ log_of old
same_log entries old new within is =
    rw (is.tail, is.entries_are) (take-append-le old.chain.tail old.chain.entries entries within)

pub appended_marks : (living : List ℕ) (ino epoch : ℕ) (killed : List KilledPart) (rs : List Record) (entries : List Entry)
    (bs pages : List BlockValue) (cell : CellState) → cell.chain.tail ≤ length cell.chain.entries → MarksOf living ino epoch killed rs cell
    → MarksOf living ino epoch killed rs (with_entries entries bs (with_log_pages pages cell))
appended_marks living ino epoch killed rs entries bs pages cell within h =
    let new = with_entries entries bs (with_log_pages pages cell) in
    let is = appends entries bs pages cell in
    subst (λ (block : ℕ). AreMarks living ino epoch killed rs block (log_of new) new.marks) (sym is.block)
    (subst (λ (log : List Entry). AreMarks living ino epoch killed rs cell.block log new.marks)
    (sym (same_log entries cell new within is))
    (subst (λ (marks : List Mark). AreMarks living ino epoch killed rs cell.block (log_of cell) marks) (sym is.marks) h))

-- so an inode is gone, and nothing is there of it, exactly where that was so
pub appended_gone : (entries : List Entry) (bs pages : List BlockValue) (cell : CellState) → cell.chain.tail ≤ length cell.chain.entries
    → is_erased (with_entries entries bs (with_log_pages pages cell)) ≡ is_erased cell
appended_gone entries bs pages cell within =
    let new = with_entries entries bs (with_log_pages pages cell) in
    let is = appends entries bs pages cell in
    ap (λ (log : List Entry). is_gone log && not (list_any is_there new.marks)) (same_log entries cell new within is)
    ∙ ap (λ (marks : List Mark). is_gone (log_of cell) && not (list_any is_there marks)) is.marks

-- what stands past the tail
abbrev pub AreFresh : ℕ → CellState → Type 0
AreFresh epoch cell = AllByRecursion (λ (e : Entry). e.epoch ≡ epoch) (drop cell.chain.tail cell.chain.entries)

-- a log that ends at its tail has nothing past it
pub none_fresh : (epoch : ℕ) (cell : CellState) → cell.chain.tail ≡ length cell.chain.entries → AreFresh epoch cell
none_fresh epoch cell last = rw last (go cell.chain.entries) where
  go : (es : List Entry) → AllByRecursion (λ (e : Entry). e.epoch ≡ epoch) (drop (length es) es)
  go [] = tt
  go (e ∷ es) = go es

pub appended_fresh : (epoch : ℕ) (entries : List Entry) (bs pages : List BlockValue) (cell : CellState)
    → cell.chain.tail ≤ length cell.chain.entries → AllByRecursion (λ (e : Entry). e.epoch ≡ epoch) entries → AreFresh epoch cell
    → AreFresh epoch (with_entries entries bs (with_log_pages pages cell))
appended_fresh epoch entries bs pages cell within new old =
    let is = appends entries bs pages cell in
    rw (is.tail, is.entries_are, drop-append-le cell.chain.tail cell.chain.entries entries within)
    (all_append (λ (e : Entry). e.epoch ≡ epoch) (drop cell.chain.tail cell.chain.entries) entries old new)

-- ---- published

pub published_cell : (living : List ℕ) (ino epoch : ℕ) (rs : List Record) (cell : CellState) → IsLog cell.chain.entries
    → cell.chain.tail ≤ length cell.chain.entries → AreFresh epoch cell → MarksOf living ino epoch [] rs cell
    → MarksOf living ino epoch (killed_by cell) rs (published cell)
published_cell living ino epoch rs cell is within fresh h =
    subst (λ (log : List Entry). AreMarks living ino epoch (killed_by cell) rs cell.block log (published cell).marks)
    (sym (take_whole cell.chain.entries))
    (published_marks cell.block cell.chain.entries cell.chain.tail is living ino epoch rs cell.marks within fresh h)

published_none : (epoch : ℕ) (es : List Entry) → AllByRecursion (λ (e : Entry). e.epoch ≡ epoch) (drop (length es) es)
published_none epoch [] = tt
published_none epoch (e ∷ es) = published_none epoch es

pub published_fresh : (epoch : ℕ) (cell : CellState) → AreFresh epoch (published cell)
published_fresh epoch cell = published_none epoch cell.chain.entries

-- ---- retired

-- the records that a retire adds stand at the end
pub parts_behind : (living : List ℕ) (ino epoch : ℕ) (ks : List KilledPart) (rs : List Record)
    → with_parts living ino epoch ks rs ≡ rs ++ with_parts living ino epoch ks []
parts_behind living ino epoch [] rs = sym (append-nil rs)
parts_behind living ino epoch (k ∷ ks) rs =
    go (is_none (holder_of living (record_of ino epoch k))) (parts_behind living ino epoch ks) where
      r : Record
      r = record_of ino epoch k

      go : (b : Bool) → ((ds : List Record) → with_parts living ino epoch ks ds ≡ ds ++ with_parts living ino epoch ks [])
          → with_parts living ino epoch ks (cond b rs (rs ++ r ∷ [])) ≡ rs ++ with_parts living ino epoch ks (cond b [] (r ∷ []))
      go true more = more rs
      go false more =
          more (rs ++ r ∷ []) ∙ append_assoc rs (r ∷ []) (with_parts living ino epoch ks [])
          ∙ ap (λ (l : List Record). rs ++ l) (sym (more (r ∷ [])))

-- and are of its slot
pub parts_are_of : (living : List ℕ) (ino epoch : ℕ) (ks : List KilledPart) (rs : List Record)
    → AllByRecursion (λ (d : Record). d.ino ≡ ino) rs
    → AllByRecursion (λ (d : Record). d.ino ≡ ino) (with_parts living ino epoch ks rs)
parts_are_of living ino epoch [] rs h = h
parts_are_of living ino epoch (k ∷ ks) rs h =
    parts_are_of living ino epoch ks (with_retired living (record_of ino epoch k) rs)
    (go (is_none (holder_of living (record_of ino epoch k)))) where
      go : (b : Bool) → AllByRecursion (λ (d : Record). d.ino ≡ ino) (cond b rs (rs ++ record_of ino epoch k ∷ []))
      go true = h
      go false = all_append (λ (d : Record). d.ino ≡ ino) rs (record_of ino epoch k ∷ []) h (refl, tt)

-- and each has a living holder
pub parts_held : (living : List ℕ) (ino epoch : ℕ) (ks : List KilledPart) (rs : List Record) → AllByRecursion (HasHolder living) rs
    → AllByRecursion (HasHolder living) (with_parts living ino epoch ks rs)
parts_held living ino epoch [] rs h = h
parts_held living ino epoch (k ∷ ks) rs h =
    parts_held living ino epoch ks (with_retired living (record_of ino epoch k) rs)
    (go (holder_of living (record_of ino epoch k)) refl) where
      go : (o : Option ℕ) → holder_of living (record_of ino epoch k) ≡ o
          → AllByRecursion (HasHolder living) (cond (is_none o) rs (rs ++ record_of ino epoch k ∷ []))
      go None e = h
      go (Some t) e = all_append (HasHolder living) rs (record_of ino epoch k ∷ []) h (record { snapshot = t; is = e }, tt)

settled_log : (o : Option ℕ) (n : ℕ) (cell : CellState) → log_of (settled o n cell) ≡ log_of cell
settled_log (Some s) n cell = refl
settled_log None n cell = refl

-- the first killed part is kept, or goes out
module _ (living : List ℕ) (ino epoch : ℕ) (k : KilledPart) (ks : List KilledPart) (rs : List Record) (cell : CellState)
    (is : IsLog (log_of cell)) (h : MarksOf living ino epoch (k ∷ ks) rs cell) where
  pub number_is_its : number_in cell k.part ≡ h.dying.0.n
  number_is_its = ap (λ (o : Option ℕ). unwrap_or o 0)
      (killed_number living ino epoch k ks rs cell.block (log_of cell) cell.marks is h)

  pub settled_marks : MarksOf living ino epoch ks (with_retired living (record_of ino epoch k) rs)
      (settled (keeper_of living ino epoch k) (number_in cell k.part) cell)
  settled_marks = go (keeper_of living ino epoch k) refl where
    go : (o : Option ℕ) → keeper_of living ino epoch k ≡ o
        → MarksOf living ino epoch ks (cond (is_none o) rs (rs ++ record_of ino epoch k ∷ [])) (settled o (number_in cell k.part) cell)
    go (Some s) e =
        subst (λ (n : ℕ). AreMarks living ino epoch ks (rs ++ record_of ino epoch k ∷ []) cell.block (log_of cell) (set cell.marks n Kept))
        (sym number_is_its) (kept_marks living ino epoch k ks rs cell.block (log_of cell) cell.marks is h)
    go None e =
        subst (λ (n : ℕ). AreMarks living ino epoch ks rs cell.block (log_of cell) (set cell.marks n Out)) (sym number_is_its)
        (freed_marks living ino epoch k ks rs cell.block (log_of cell) cell.marks is h e)

  pub settled_is_log : IsLog (log_of (settled (keeper_of living ino epoch k) (number_in cell k.part) cell))
  settled_is_log = subst IsLog (sym (settled_log (keeper_of living ino epoch k) (number_in cell k.part) cell)) is

pub retired_marks : (living : List ℕ) (ino epoch : ℕ) (ks : List KilledPart) (rs : List Record) (cell : CellState) → IsLog (log_of cell)
    → MarksOf living ino epoch ks rs cell
    → MarksOf living ino epoch [] (with_parts living ino epoch ks rs) (retired living ino epoch ks cell)
retired_marks living ino epoch [] rs cell is h = h
retired_marks living ino epoch (k ∷ ks) rs cell is h =
    retired_marks living ino epoch ks (with_retired living (record_of ino epoch k) rs)
    (settled (keeper_of living ino epoch k) (number_in cell k.part) cell) (settled_is_log living ino epoch k ks rs cell is h)
    (settled_marks living ino epoch k ks rs cell is h)

settled_chain : (o : Option ℕ) (n : ℕ) (cell : CellState) → (settled o n cell).chain ≡ cell.chain
settled_chain (Some s) n cell = refl
settled_chain None n cell = refl

pub retired_chain : (living : List ℕ) (ino epoch : ℕ) (ks : List KilledPart) (cell : CellState)
    → (retired living ino epoch ks cell).chain ≡ cell.chain
retired_chain living ino epoch [] cell = refl
retired_chain living ino epoch (k ∷ ks) cell =
    retired_chain living ino epoch ks (settled (keeper_of living ino epoch k) (number_in cell k.part) cell)
    ∙ settled_chain (keeper_of living ino epoch k) (number_in cell k.part) cell

settled_block : (o : Option ℕ) (n : ℕ) (cell : CellState) → (settled o n cell).block ≡ cell.block
settled_block (Some s) n cell = refl
settled_block None n cell = refl

pub retired_block : (living : List ℕ) (ino epoch : ℕ) (ks : List KilledPart) (cell : CellState)
    → (retired living ino epoch ks cell).block ≡ cell.block
retired_block living ino epoch [] cell = refl
retired_block living ino epoch (k ∷ ks) cell =
    retired_block living ino epoch ks (settled (keeper_of living ino epoch k) (number_in cell k.part) cell)
    ∙ settled_block (keeper_of living ino epoch k) (number_in cell k.part) cell

pub retired_log : (living : List ℕ) (ino epoch : ℕ) (ks : List KilledPart) (cell : CellState)
    → log_of (retired living ino epoch ks cell) ≡ log_of cell
retired_log living ino epoch [] cell = refl
retired_log living ino epoch (k ∷ ks) cell =
    retired_log living ino epoch ks (settled (keeper_of living ino epoch k) (number_in cell k.part) cell)
    ∙ settled_log (keeper_of living ino epoch k) (number_in cell k.part) cell

-- ---- erased

outs_at : (marks : List Mark) (n : ℕ) → AllByRecursion (λ m. m ≡ Out) marks → mark_at marks n ≡ Out
outs_at [] n all = refl
outs_at (m ∷ marks) zero all = all.0
outs_at (m ∷ marks) (suc n) all = outs_at marks n all.1

pub erased_cell : (living : List ℕ) (ino epoch : ℕ) (killed : List KilledPart) (rs : List Record) (cell : CellState) → IsLog (log_of cell)
    → MarksOf living ino epoch killed rs cell → MarksOf living ino epoch killed rs (erased cell)
erased_cell living ino epoch killed rs cell is h = go (is_erased cell) refl where
  none : (b : Bool) → not b ≡ true → b ≡ false
  none true e = absurd (false≢true e)
  none false e = refl

  go : (b : Bool) → is_erased cell ≡ b
      → MarksOf living ino epoch killed rs (if b then empty_cell cell.block cell.chain.page (cell.generation + 1) cell.version else cell)
  go true e =
      let nothing : keeps_nothing cell ≡ true = (and_parts (is_gone (log_of cell)) (keeps_nothing cell) e).1 in
      erased_marks living ino epoch killed rs cell.block (log_of cell) cell.marks is h
      (λ n. outs_at cell.marks n (all_out cell.marks (none (list_any is_there cell.marks) nothing)))
  go false e = h

pub erased_fresh : (epoch : ℕ) (cell : CellState) → AreFresh epoch cell → AreFresh epoch (erased cell)
erased_fresh epoch cell h = go (is_erased cell) where
  go : (b : Bool) → AreFresh epoch (if b then empty_cell cell.block cell.chain.page (cell.generation + 1) cell.version else cell)
  go true = tt
  go false = h

-- ---- released

pub released_cell : (living : List ℕ) (epoch : ℕ) (killed : List KilledPart) (before after : List Record) (d : Record) (cell : CellState)
    → IsLog (log_of cell) → MarksOf living d.ino epoch killed before cell
    → IsRecordOf living cell.block (log_of cell) d → ((p : Record → Bool) → count p before ≡ one (p d) + count p after)
    → AllByRecursion (IsTold living d.ino cell.block (log_of cell)) after → holder_of living d ≡ None
    → MarksOf living d.ino epoch killed after (released d cell)
released_cell living epoch killed before after d cell is h pair counts told none =
    let number : number_in cell (name_of d) ≡ pair.n =
    ap (λ (o : Option ℕ). unwrap_or o 0)
    (filed_number living d.ino epoch killed before after d cell.block (log_of cell) cell.marks is h refl pair counts) in
    subst (λ (n : ℕ). AreMarks living d.ino epoch killed after cell.block (log_of cell) (set cell.marks n Out)) (sym number)
    (released_marks living d.ino epoch killed before after d cell.block (log_of cell) cell.marks is h refl pair counts told none)

-- ---- records of other slots

-- one of another slot is of no part of this one
pub other_slot : (ino : ℕ) (log : List Entry) (n : ℕ) (d : Record) → d.ino ≢ ino → is_filed_on ino log n d ≡ false
other_slot ino log n d ne = rw (ne_eqb d.ino ino ne) refl

pub none_other : (ino : ℕ) (log : List Entry) (n : ℕ) (rs : List Record) → AllByRecursion (λ (d : Record). d.ino ≢ ino) rs
    → count (is_filed_on ino log n) rs ≡ 0
none_other ino log n [] h = refl
none_other ino log n (d ∷ rs) h =
    omega (arith, count_cons (is_filed_on ino log n) d rs, ap one (other_slot ino log n d h.0), none_other ino log n rs h.1)

-- records whose count is the same for each part, and of which those of this slot are told
pub recounted : (living : List ℕ) (ino epoch : ℕ) (killed : List KilledPart) (before after : List Record) (cell : CellState)
    → ((n : ℕ) → count (is_filed_on ino (log_of cell) n) after ≡ count (is_filed_on ino (log_of cell) n) before)
    → AllByRecursion (IsTold living ino cell.block (log_of cell)) after → MarksOf living ino epoch killed before cell
    → MarksOf living ino epoch killed after cell
recounted living ino epoch killed before after cell same told h = record {
  len = h.len;
  current = h.current;
  killed_are = h.killed_are;
  kept_are = λ n. same n ∙ h.kept_are n;
  dying = h.dying;
  told = told;
  out = h.out;
}
