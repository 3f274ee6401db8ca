-- What becomes of the copies at the end of an earlier epoch at every kind of step: each cell keeps its own, or had
-- none and is emptied.
use Rattle.std.proofs.Common.{◌≡◌, ◌⊎◌, ℕ, ◌+◌, ◌<◌, ◌++◌, ◌∙◌, Bool, true, false, List, [], ◌∷◌, if◌then◌else◌, inl, inr, length, Option, Some, None, ap, refl, subst, sym, take}
use Rattle.std.specs.List.{Contains}
use Rattle.std.specs.Prelude.{slice_index_or}
use Rattle.std.proofs.lemmas.Bool.{and_parts, false≢true}
use Rattle.std.proofs.lemmas.Option.{same_Some}
use Rattle.nv_alloc.specs.Block.{BlockValue}
use Rattle.nv_calls.specs.Retiring.{erased, keeper_of, name_of, retired, retired_one, settled as settled_part}
use Rattle.nv_calls.specs.Slots.{entries_of}
use Rattle.nv_cell.specs.Cell.{CellState, empty_cell, log_of, number_in}
use Rattle.nv_cell.specs.Readers.{is_erased, is_gone, keeps_nothing}
use Rattle.nv_cell.specs.declared.killed.KilledPart.{KilledPart}
use Rattle.nv_cell.specs.declared.mark.Mark.TheVariants.{Kept, Out}
use Rattle.nv_cell.proofs.Publishing.{take_whole}
use Rattle.nv_cell.proofs.Remarking.{length_set}
use Rattle.nv_entry.specs.Covered.{is_covered, part_total}
use Rattle.nv_entry.specs.Keys.{KindKey}
use Rattle.nv_entry.specs.Later.{AreAfter}
use Rattle.nv_entry.proofs.Later.{up_to-append}
use Rattle.nv_entry.specs.declared.item.Item.{Item}
use Rattle.nv_entry.specs.Log.{IsLog, up_to, value_now}
use Rattle.nv_entry.specs.declared.item.Entry.{Entry}
use Rattle.nv_epoch.specs.SnapList.{ids}
use Rattle.nv_log.specs.Chain.{ChainState}
use Rattle.nv_machine.specs.Grown.{HasGrown, is_behind}
use Rattle.nv_machine.specs.Kinds.{entries_for, first_killed, with_entries, with_log_pages}
use Rattle.nv_machine.specs.Locks.{commits_at}
use Rattle.nv_machine.specs.Reads.{pages_needed, slot_at, written_slots}
use Rattle.nv_machine.specs.World.{Append, cell_at, HandState, Next, Open, Publish, Release, Retire, Running, Shared, SnapshotOrCleaner}
use Rattle.nv_machine.proofs.CellSteps.{slot_set}
use Rattle.nv_machine.proofs.AppendsToCome.{entries_more, pages_keep}
use Rattle.nv_machine.proofs.EpochLogs.{HaveSameBlocks, IsHeldAt, copy_at, log_at, none_at, nothing_kept}
use Rattle.nv_machine.proofs.EpochSteps.{AreParts, out_held, retired_held}
use Rattle.nv_machine.proofs.FitsCells.{append_wider}
use Rattle.nv_machine.proofs.StepWork.{work}
use Rattle.nv_machine.proofs.LocksHeld.{Before}
use Rattle.nv_machine.proofs.CellChanges.{cells_after, clean_cell, clean_slot, is_clean, is_removal, lent_inside_own, lent_removal, removal}
use Rattle.nv_machine.proofs.Cleanable.{IsCleanable}
use Rattle.nv_machine.proofs.CleanedLogs.{clean_here, cleans_held}
use Rattle.nv_machine.proofs.CleanSteps.{stays_at}
use Rattle.nv_machine.proofs.EpochCleanings.{cleaned_copy}

-- ---- one cell

-- the copy of the epoch goes on
pub record Continues (epoch : ℕ) (a b : CellState) : Type 0 where
  pub block : b.block ≡ a.block
  pub generation : b.generation ≡ a.generation
  pub log : log_at epoch b ≡ log_at epoch a
  pub same : HaveSameBlocks a b

-- the copy is the same, by whatever entries
pub record KeepsCopy (epoch : ℕ) (a b : CellState) : Type 0 where
  pub generation : b.generation ≡ a.generation
  pub copy : copy_at epoch b ≡ copy_at epoch a

-- the cell had none, and is emptied
pub record IsEmptied (epoch : ℕ) (a b : CellState) : Type 0 where
  pub none : copy_at epoch a ≡ None
  pub empty : b.chain.entries ≡ []

abbrev pub StepsTo : ℕ → CellState → CellState → Type 0
StepsTo epoch a b = Continues epoch a b ⊎ (KeepsCopy epoch a b ⊎ IsEmptied epoch a b)

pub same_cell : (epoch : ℕ) (cell : CellState) → StepsTo epoch cell cell
same_cell epoch cell = inl (record { block = refl; generation = refl; log = refl; same = λ n x y e f. same_Some x y (sym e ∙ f) })

-- fewer blocks, of the same log
pub record Fewer (a b : CellState) : Type 0 where
  pub block : b.block ≡ a.block
  pub chain : b.chain ≡ a.chain
  pub generation : b.generation ≡ a.generation
  pub marks : length b.marks ≡ length a.marks
  pub less : (n : ℕ) (x : BlockValue) → slice_index_or b.blocks n None ≡ Some x → slice_index_or a.blocks n None ≡ Some x

fewer_on : (a b c : CellState) → Fewer a b → Fewer b c → Fewer a c
fewer_on a b c f g = record {
  block = g.block ∙ f.block;
  chain = g.chain ∙ f.chain;
  generation = g.generation ∙ f.generation;
  marks = g.marks ∙ f.marks;
  less = λ n x e. f.less n x (g.less n x e);
}

one_fewer : (keeper : Option ℕ) (n : ℕ) (cell : CellState) → Fewer cell (settled_part keeper n cell)
one_fewer (Some s) n cell =
    record { block = refl; chain = refl; generation = refl; marks = length_set cell.marks n Kept; less = λ m x e. e }
one_fewer None n cell = record {
  block = refl;
  chain = refl;
  generation = refl;
  marks = length_set cell.marks n Out;
  less = λ m x. slot_set cell.blocks n m (λ (o : Option BlockValue). o ≡ Some x → slice_index_or cell.blocks m None ≡ Some x) (λ e q. cc)
      (λ e. e);
}

retired_fewer : (living : List ℕ) (ino epoch : ℕ) (parts : List KilledPart) (cell : CellState)
    → Fewer cell (retired living ino epoch parts cell)
retired_fewer living ino epoch [] cell =
    record { block = refl; chain = refl; generation = refl; marks = refl; less = λ n x e. e }
retired_fewer living ino epoch (k ∷ parts) cell =
    fewer_on cell (retired_one living ino epoch k cell) (retired living ino epoch parts (retired_one living ino epoch k cell))
    (one_fewer (keeper_of living ino epoch k) (number_in cell k.part) cell)
    (retired_fewer living ino epoch parts (retired_one living ino epoch k cell))

fewer_continues : (epoch : ℕ) (a b : CellState) → Fewer a b → Continues epoch a b
fewer_continues epoch a b f = record {
  block = f.block;
  generation = f.generation;
  log = ap (λ (c : ChainState). up_to epoch c.entries) f.chain;
  same = λ n x y e q. same_Some x y (sym e ∙ f.less n y q);
}

-- a cell that is left so, or erased, where all its parts are out then
erased_steps : (epoch : ℕ) (a b : CellState) → Fewer a b → IsLog a.chain.entries → length a.marks ≡ part_total a.chain.entries
    → IsHeldAt epoch b → StepsTo epoch a (erased b)
erased_steps epoch a b f is len held = go (is_erased b) refl where
  none : is_erased b ≡ true → copy_at epoch a ≡ None
  none e =
      let kind = nothing_kept epoch b (subst (λ (c : ChainState). IsLog c.entries) (sym f.chain) is)
      (f.marks ∙ len ∙ ap (λ (c : ChainState). part_total c.entries) (sym f.chain)) held
      (and_parts (is_gone (log_of b)) (keeps_nothing b) e).1 in
      none_at epoch a
      (ap (λ (c : ChainState). value_now a.block (up_to epoch c.entries) KindKey) (sym f.chain)
      ∙ ap (λ (size : ℕ). value_now size (log_at epoch b) KindKey) (sym f.block) ∙ kind)

  go : (c : Bool) → is_erased b ≡ c
      → StepsTo epoch a (if c then empty_cell b.block b.chain.page (b.generation + 1) b.version else b)
  go true e = inr (inr (record { none = none e; empty = refl }))
  go false e = inl (fewer_continues epoch a b f)

are_after : (epoch commit now place : ℕ) (items : List Item) → epoch < now → AreAfter epoch (entries_of commit now place items)
are_after epoch commit now place [] lt = tt
are_after epoch commit now place (item ∷ items) lt = (lt, are_after epoch commit now (place + 1) items lt)

-- the entries of a commit of a later epoch
pub entries_later : (epoch : ℕ) (r : Running) (ino : ℕ) (log : List Entry) → epoch < r.epoch
    → up_to epoch (log ++ entries_for r ino) ≡ up_to epoch log
entries_later epoch r ino log lt = up_to-append epoch log (entries_for r ino) (are_after epoch r.commit r.epoch _ _ lt)

append_continues : (epoch : ℕ) (entries : List Entry) (bs pages : List BlockValue) (cell : CellState)
    → up_to epoch (cell.chain.entries ++ entries) ≡ up_to epoch cell.chain.entries
    → Continues epoch cell (with_entries entries bs (with_log_pages pages cell))
append_continues epoch entries bs pages cell later =
    let w = append_wider entries bs pages cell in
    record {
      block = w.block;
      generation = w.generation;
      log = ap (up_to epoch) (entries_more entries bs (with_log_pages pages cell)
          ∙ ap (λ (l : List Entry). l ++ entries) (pages_keep pages cell)) ∙ later;
      same = λ n x y e q. same_Some x y (sym (w.blocks n x e) ∙ q);
    }

-- ---- every kind

-- what is ready to go out: the killed parts of a retire are of its cell; and the part of a release is not one that the
-- epoch's log has and has not covered
abbrev pub GoesOut : ℕ → Next → Shared → HandState → Running → Type 0
GoesOut epoch (Retire place) s h r = AreParts (cell_at s (slot_at (written_slots r) place)) (first_killed h.killed)
GoesOut epoch (SnapshotOrCleaner (Release draining picked)) s h r =
    let cell : CellState = cell_at s picked.ino in
    number_in cell (name_of picked) < part_total (log_at epoch cell)
    → is_covered cell.block (log_at epoch cell) (number_in cell (name_of picked)) ≡ false → ⊥
GoesOut epoch other s h r = Unit {0}

-- what a step may rely on
pub record Stands (epoch : ℕ) (k : Next) (a : ℕ) (s : Shared) (h : HandState) (r : Running) : Type 0 where
  pub before : Before a s k r
  pub lives : Contains (ids s.book.snaps) epoch
  pub later : commits_at k ≡ true → epoch < r.epoch
  pub grown : HasGrown k s a r
  pub logs : (ino : ℕ) → IsLog (cell_at s ino).chain.entries
  pub marks : (ino : ℕ) → ino < length s.cells → length (cell_at s ino).marks ≡ part_total (log_of (cell_at s ino))
  pub held : (ino : ℕ) → IsHeldAt epoch (cell_at s ino)
  pub goes : GoesOut epoch k s h r

module _ (epoch block a : ℕ) (s : Shared) (h : HandState) (r : Running) where
  all_marks : (k : Next) → Stands epoch k a s h r → (ino : ℕ) → ino < length s.cells
      → (cell_at s ino).chain.tail ≡ length (cell_at s ino).chain.entries
      → length (cell_at s ino).marks ≡ part_total (cell_at s ino).chain.entries
  all_marks k st ino low tail =
      let es = (cell_at s ino).chain.entries in
      st.marks ino low ∙ ap (λ (n : ℕ). part_total (take n es)) tail ∙ ap part_total (take_whole es)

  -- a removal has published what it appended
  none_behind : (k : Next) (written : List ℕ) (ino : ℕ) → is_removal k ≡ true → is_behind k written ino ≡ false
  none_behind (Append place) written ino is = absurd (false≢true is)
  none_behind Open written ino is = absurd (false≢true is)
  none_behind (Publish place) written ino is = absurd (false≢true is)
  none_behind other written ino is = refl

  -- what a removal leaves holds what a snapshot holds
  removal_held : (k : Next) → Stands epoch k a s h r → is_removal k ≡ true → let x = removal k s h r in
      Fewer (cell_at s x.slot) x.cell × IsHeldAt epoch x.cell
  removal_held (Retire place) st is =
      let slot = slot_at (written_slots r) place in
      let living = ids s.book.snaps in
      let parts = first_killed h.killed in (
        retired_fewer living slot r.epoch parts (cell_at s slot),
        retired_held living epoch slot r.epoch parts (cell_at s slot) st.lives (st.later refl) (st.logs slot) st.goes (st.held slot),
      )
  removal_held (SnapshotOrCleaner (Release draining picked)) st is =
      let cell = cell_at s picked.ino in
      let k = number_in cell (name_of picked) in (one_fewer None k cell, out_held epoch k cell st.goes (st.held picked.ino))
  removal_held other st is = absurd (false≢true is)

  -- a cleaning keeps the copy
  clean_copy : (k : Next) → Stands epoch k a s h r → IsCleanable k block s h r → is_clean k ≡ true
      → KeepsCopy epoch (cell_at s (clean_slot k)) (clean_cell k s h)
  clean_copy k st ready is =
      let low = (clean_here k block a s h r is st.before st.grown ready).0 in
      let cleans = cleans_held k block a s h r is st.before st.grown ready in
      record {
        generation = cleans.generation;
        copy = cleaned_copy epoch (stays_at k s) (cell_at s (clean_slot k)) (clean_cell k s h) cleans
            (ready.cells (clean_slot k) low) (st.held (clean_slot k));
      }

  pub work_steps : (k : Next) → Stands epoch k a s h r → IsCleanable k block s h r → (ino : ℕ)
      → StepsTo epoch (cell_at s ino) (cell_at (work k block a s h r).shared ino)
  work_steps k st ready =
      cells_after (λ (ino : ℕ). StepsTo epoch (cell_at s ino)) block a s h r (λ ino. same_cell epoch (cell_at s ino)) k st.before
      (record {
        appends = λ place is inside low.
            let slot = slot_at (written_slots r) place in
            inl (append_continues epoch (entries_for r slot) h.blocks (take (pages_needed s r.plan slot) h.pages) (cell_at s slot)
            (entries_later epoch r slot (cell_at s slot).chain.entries (st.later (ap commits_at is))));
        publishes = λ place is inside low.
            inl (record { block = refl; generation = refl; log = refl; same = λ n x y e f. same_Some x y (sym e ∙ f) });
        removes = λ is low left.
            let x = removal k s h r in
            let held = removal_held k st is in
            let own = (lent_inside_own k a s r st.before x.slot (lent_removal k (length s.lists) a s h r is)).1 in
            let tail = st.grown.tails x.slot own (none_behind k (written_slots r) x.slot is) in
            erased_steps epoch (cell_at s x.slot) x.cell held.0 (st.logs x.slot) (all_marks k st x.slot low tail) held.1;
        cleans = λ is low. inr (inl (clean_copy k st ready is));
      })
