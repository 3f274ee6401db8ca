-- What a call knows between its check and its commit point, at every kind of step.
use Rattle.std.proofs.Common.{◌≡◌, ℕ, zero, suc, ◌+◌, ◌%◌, ◌<◌, ◌++◌, ◌∙◌, Bool, true, false, List, Some, add-one, ap, arith, drop, if◌then◌else◌, length, length-set, map, mod-lt, nat_lt, refl, subst, sym, take}
use Rattle.std.specs.List.{AllByRecursion}
use Rattle.nv_alloc.specs.Block.{BlockValue}
use Rattle.nv_alloc.specs.Numbers.{has}
use Rattle.nv_base.specs.declared.geometry.GeometryNumbers.{GeometryNumbers}
use Rattle.nv_base.specs.declared.numbers.Handle.{Handle}
use Rattle.nv_book.specs.Book.{with_journal}
use Rattle.nv_calls.specs.Locked.{handles}
use Rattle.nv_cell.specs.Cell.{CellState, killed_by, log_of, published}
use Rattle.nv_cell.proofs.Publishing.{take_whole}
use Rattle.nv_machine.specs.Grown.{HasGrown, is_appended, is_behind}
use Rattle.nv_machine.specs.Hands.{HandAt}
use Rattle.nv_machine.specs.Kept.{HasNoted, IsNotedIf}
use Rattle.nv_machine.specs.Kinds.{asked_list, blocks_left, entries_for, old_tails, with_entries, with_killed, with_log_pages}
use Rattle.nv_machine.specs.Locks.{AreSlots, held_at}
use Rattle.nv_machine.specs.PlainRun.{Commits, Nothing, keeps_nodes}
use Rattle.nv_machine.specs.Reads.{if_number, is_written, pages_needed, slot_at, slots_in, written_slots}
use Rattle.nv_machine.specs.Sequence.{appending, locking, publishing}
use Rattle.nv_machine.specs.Settled.{settled}
use Rattle.nv_machine.specs.Step.{kind_turn}
use Rattle.nv_machine.specs.World.{Append, Check, Close, Enter, HandState, Lock, Look, Next, Number, Open, Publish, Ready, Retire, Running, Shared, TakeBlocks, TakeLogPages, cell_at, go_to, list_at, owner_at, with_book, with_cell, SnapshotOrCleaner, PlanCleaning, Fresh}
use Rattle.nv_machine.proofs.FitsCells.{append_logs, append_wider, publish_logs, same_wider, wider_cells}
use Rattle.nv_machine.proofs.FitsOwn.{IsNumberFree, all_in, all_stored, passed_check, ready_drawn, same_stored, wanted_check}
use Rattle.nv_machine.proofs.FitsStages.{Drawn, FitsAt, IsDrawn, IsStored, Passed, SameStored, drawn_on, fits_still, passed_on, stored_on, view, wanted_in}
use Rattle.nv_machine.proofs.StepWork.{work}
use Rattle.nv_machine.proofs.FitsTurns.{Fits, OnFits, appending_fits, entering_fits, fits_quiet, locking_fits, looking_fits, number_fits, publishing_fits, retiring_fits, single_fits}
use Rattle.nv_machine.proofs.NextSteps.{KnowsNext, QuietWays, Untold, quiet_walk}
use Rattle.nv_machine.proofs.StepWays.{noted, take_sum}
use Rattle.nv_machine.proofs.StepWalk.{Works, counted}
use Rattle.nv_machine.proofs.UnsettledLogs.{is_settled}
use Rattle.nv_machine.proofs.Journals.{closed_tail, open_same}
use Rattle.nv_machine.proofs.LogsKeptTurns.{Standing, kept_turn}
use Rattle.nv_machine.proofs.Lists.{has_filter, written_inside}
use Rattle.nv_machine.proofs.LocksHeld.{owner_is}
use Rattle.nv_machine.proofs.LogsKept.{same_nodes}
use Rattle.nv_machine.proofs.WrittenSlots.{written_there}

-- ---- a step of its own

-- what a step may rely on
pub record Own (g : GeometryNumbers) (k : Next) (a : ℕ) (s : Shared) (h : HandState) (r : Running) : Type 0 where
  pub kept : Standing k g.block a s h r
  pub grown : HasGrown k s a r
  pub at : HandAt g k h r
  pub fits : FitsAt k g.block s h r
  pub free : k ≡ Check → (ino : ℕ) → h.ino ≡ Some ino → IsNumberFree s ino

-- outside of a commit all that is locked is settled
pub logs_of : (k : Next) (s : Shared) (a : ℕ) (r : Running) → HasGrown k s a r → (ino : ℕ) → is_appended k (written_slots r) ino ≡ false
    → is_behind k (written_slots r) ino ≡ false → owner_at s ino ≡ Some a → settled s ino ≡ log_of (cell_at s ino)
logs_of k s a r grown ino none behind own =
    let i = is_settled k s a r grown ino none behind own in
    sym i.entries ∙ sym (take_whole (cell_at s ino).chain.entries) ∙ sym (ap (λ (n : ℕ). take n (cell_at s ino).chain.entries) i.tail)

module _ (g : GeometryNumbers) (a : ℕ) (s : Shared) (h : HandState) (r : Running) where
  abbrev written : List ℕ
  written = written_slots r

  slots_of_cells : (k : Next) → Own g k a s h r → AreSlots (length s.cells) r.slots
  slots_of_cells k st = subst (λ (n : ℕ). AreSlots n r.slots) st.kept.before.wide st.kept.before.are

  module _ (place : ℕ) (st : Own g (Append place) a s h r) where
    abbrev slot : ℕ
    slot = slot_at written place

    abbrev pages : ℕ
    pages = pages_needed s r.plan slot

    abbrev old : CellState
    old = with_log_pages (take pages h.pages) (cell_at s slot)

    abbrev new : CellState
    new = with_entries (entries_for r slot) h.blocks old

    abbrev t : Shared
    t = with_cell slot new s

    low : slot < length s.cells
    low = written_inside (length s.cells) r place (slots_of_cells (Append place) st) st.kept.before.inside

    there : has written slot ≡ true
    there = written_there r place st.kept.before.inside

    append_same : SameStored s t r.slots
    append_same = same_stored s t r.slots (length-set s.cells slot new)
        (same_nodes s t ((kept_turn (Append place) g.block a true s h r st.kept).1 refl).nodes)
        (append_logs s slot (entries_for r slot) h.blocks (take pages h.pages) low st.kept.knows.2 (st.kept.kept.pages slot).within)
        (wider_cells s slot new low (append_wider (entries_for r slot) h.blocks (take pages h.pages) (cell_at s slot)))

    append_stored : (p : ℕ) → place ≡ p → Passed g.block s r → FitsAt (Append p) g.block s h r
        → Drawn g.block t r (AllByRecursion (IsStored t r.slots))
    append_stored zero e p f =
        let d = f.1 in
        let mine : IsDrawn g.block (view s) r.call r.made r.plan h.blocks =
        subst (IsDrawn g.block (view s) r.call r.made r.plan) (sym d.at) d.drawn in
        drawn_on g.block s t h r append_same (AllByRecursion (IsStored t r.slots)) (AllByRecursion (IsStored t r.slots))
        (λ fresh all. all) p (record {
          fresh = d.fresh;
          drawn = d.drawn;
          at = subst (AllByRecursion (IsStored t r.slots)) d.at
              (all_stored g.block s r slot there low h.blocks mine old h.blocks (has_filter (is_written r.plan) r.slots slot there)
              (all_in g.block s r slot there low h.blocks mine old));
        })
    append_stored (suc n) e p f =
        drawn_on g.block s t h r append_same (AllByRecursion (IsStored s r.slots)) (AllByRecursion (IsStored t r.slots))
        (stored_on g.block s t h r append_same) p f.1

    append_own : Works (KnowsNext (Fits g.block)) (Append place) g.block a s h r
    append_own =
        let hand = record h { blocks = blocks_left (entries_for r slot) h.blocks; pages = drop pages h.pages } in
        subst (λ (n : ℕ). FitsAt (appending n written) g.block t hand (go_to (appending n written) r)) (sym (add-one place))
        (appending_fits g.block t hand (go_to (appending (suc place) written) r) (passed_on g.block s t h r append_same st.fits.0) place
        written (append_stored place refl st.fits.0 st.fits))

  open_own : Own g Open a s h r → Works (KnowsNext (Fits g.block)) Open g.block a s h r
  open_own st = publishing_fits g.block t h (go_to (publishing 0 written) r) (passed_on g.block s t h r same st.fits.0) 0 written
      (drawn_on g.block s t h r same (AllByRecursion (IsStored s r.slots)) (AllByRecursion (IsStored t r.slots))
      (stored_on g.block s t h r same) st.fits.0 st.fits.1) where
        cpu : ℕ
        cpu = a % length s.lists

        t : Shared
        t = with_book (with_journal (a % length s.lists) (old_tails s written) s.book) s

        inside : a % length s.lists < length s.book.journals
        inside = omega (arith, st.kept.kept.wide, mod-lt a st.kept.kept.some)

        logs : (ino : ℕ) → settled t ino ≡ settled s ino
        logs ino = ap (λ (n : ℕ). take n (cell_at s ino).chain.entries)
            (open_same s (a % length s.lists) written st.kept.knows.2 inside ino
            ∙ sym (closed_tail s.book.journals ino (cell_at s ino).chain.tail st.kept.knows.2))

        same : SameStored s t r.slots
        same = same_stored s t r.slots refl (same_nodes s t ((kept_turn Open g.block a true s h r st.kept).1 refl).nodes) logs
            (λ ino. same_wider (cell_at s ino))

  publish_own : (place : ℕ) → Own g (Publish place) a s h r → (b : Bool) → nat_lt 1 (length written) ≡ b
      → Works (KnowsNext (Fits g.block)) (Publish place) g.block a s h r
  publish_own place st false one =
      single_fits g.block place written (with_cell slot_ (published (cell_at s slot_)) s)
      (with_killed (killed_by (cell_at s slot_)) h) (go_to (publishing (place + 1) written) r) one where
        slot_ : ℕ
        slot_ = slot_at (written_slots r) place
  publish_own place st true several =
      publishing_fits g.block t_ (with_killed (killed_by (cell_at s slot_)) h) (go_to (publishing (place + 1) written) r)
      (passed_on g.block s t_ h r same st.fits.0) (place + 1) written
      (drawn_on g.block s t_ h r same (AllByRecursion (IsStored s r.slots)) (AllByRecursion (IsStored t_ r.slots))
      (stored_on g.block s t_ h r same) st.fits.0 st.fits.1) where
        slot_ : ℕ
        slot_ = slot_at (written_slots r) place

        t_ : Shared
        t_ = with_cell (slot_at (written_slots r) place) (published (cell_at s (slot_at (written_slots r) place))) s

        low_ : slot_at (written_slots r) place < length s.cells
        low_ = written_inside (length s.cells) r place (slots_of_cells (Publish place) st) st.kept.before.inside

        noted : (b : Bool) → b ≡ true → IsNotedIf b s (a % length s.lists) (written_slots r) → HasNoted s (a % length s.lists)
            (written_slots r)
        noted true e n = n
        noted false e n = cc

        same : SameStored s t_ r.slots
        same = same_stored s t_ r.slots (length-set s.cells slot_ (published (cell_at s slot_)))
            (same_nodes s t_ ((kept_turn (Publish place) g.block a true s h r st.kept).1
            (ap (λ (b : Bool). keeps_nodes (if b then Nothing else Commits)) several)).nodes)
            (publish_logs s slot_ (a % length s.lists) (written_slots r) low_
            (noted (nat_lt 1 (length (written_slots r))) several st.kept.knows.2)
            (written_there r place st.kept.before.inside))
            (wider_cells s slot_ (published (cell_at s slot_)) low_ (record { generation = refl; block = refl; blocks = λ n b e. e }))

  logs_at_check : Own g Check a s h r → (ino : ℕ) → has r.slots ino ≡ true → settled s ino ≡ log_of (cell_at s ino)
  logs_at_check st ino held = logs_of Check s a r st.grown ino refl refl
      (owner_is a (owner_at s ino) (st.kept.before.mine.owners ino ∙ held))

  logs_at_ready : Own g Ready a s h r → (ino : ℕ) → has r.slots ino ≡ true → settled s ino ≡ log_of (cell_at s ino)
  logs_at_ready st ino held = logs_of Ready s a r st.grown ino refl refl
      (owner_is a (owner_at s ino) (st.kept.before.mine.owners ino ∙ held))

  -- a taking leaves the call with what is wanted
  abbrev Wants : Shared → ℕ → Type 0
  Wants t n = n ≡ wanted_in g.block (view t) r.call

  ways : (k : Next) → Own g k a s h r → QuietWays (Fits g.block) k g.block a s h r
  ways Number st = number_fits g.block s.pool.numbers s h r (ap (λ (x : HandState). x.ino) st.at.0)
  ways (Look place) st =
      looking_fits g.block (place + 1) s h (noted (Look place) g.block s h r) (ap (λ (x : HandState). x.ino) st.at.0) refl
  ways (Lock place) st = locking_fits g.block (place + 1) r.slots _ h (go_to (locking (place + 1) r.slots) r) st.fits
  ways Check st = λ e.
      let p = passed_check g.block s h r (logs_at_check st) st.fits (st.free refl) e in
      let none = ap (λ (l : List BlockValue). length l) st.kept.knows.0.blocks in
      let wanted = wanted_check g.block s h r (logs_at_check st) st.fits (st.free refl) e in
      counted (KnowsNext (Fits g.block)) Untold g.block a s h r Check (Wants s) (omega (arith, none, wanted)) (λ n q. (p, q))
      (λ n q. (p, q)) (λ q. (p, q))
  ways (TakeBlocks asked) st =
      counted (KnowsNext (Fits g.block)) Untold g.block a s h r (TakeBlocks asked) (Wants s)
      (take_sum h.blocks (list_at s (asked_list (length s.lists) a asked)).blocks r.wanted ∙ st.fits.1) (λ n q. (st.fits.0, q))
      (λ n q. (st.fits.0, q)) (λ q. (st.fits.0, q))
  ways (TakeLogPages asked) st = record { more = λ n is ask. st.fits; pages = λ n none is. st.fits; ready = λ none is. st.fits }
  ways Ready st = (st.fits.0, ready_drawn g.block s h r (logs_at_ready st) st.fits.0 st.fits.1 st.kept.small)
  ways Enter st = λ clear.
      entering_fits g.block (work Enter g.block a s h r).shared h (go_to (appending 0 (written_slots r)) (noted Enter g.block s h r))
      st.fits.0 (written_slots r) st.fits.1
  ways (Append place) st = append_own place st
  ways Open st = open_own st
  ways (Publish place) st = publish_own place st (nat_lt 1 (length (written_slots r))) refl
  ways Close st = retiring_fits g.block 0 (written_slots r) _ _ _
  ways (Retire place) st = retiring_fits g.block (place + 1) (written_slots r) _ _ _
  ways (SnapshotOrCleaner (PlanCleaning manner held)) st = λ ino. (tt, tt)
  ways (SnapshotOrCleaner (Fresh ino asked wanted)) st = (λ q. tt, λ n q. tt)
  ways other st = tt

  pub own_turn : (k : Next) (granted : Bool) → Own g k a s h r → OnFits g.block (kind_turn k g.block a granted s h r)
  own_turn k granted st = quiet_walk (Fits g.block) (fits_quiet g.block) g.block a granted s h r k (ways k st)

-- ---- a step of another

pub their_fits : (k : Next) (block : ℕ) (s t : Shared) (h : HandState) (r : Running) → length t.cells ≡ length s.cells
    → (held_at k r.slots ≡ r.slots → SameStored s t r.slots) → FitsAt k block s h r → FitsAt k block t h r
their_fits (Lock place) block s t h r many same f =
    f ∙ ap (λ (n : ℕ). slots_in n (if_number h.ino ++ map (λ (x : Handle). x.ino) (handles r.looked r.call))) (sym many)
their_fits Check block s t h r many same f = fits_still block s t h r (same refl) Check f
their_fits (TakeBlocks asked) block s t h r many same f = fits_still block s t h r (same refl) (TakeBlocks asked) f
their_fits (TakeLogPages asked) block s t h r many same f = fits_still block s t h r (same refl) (TakeLogPages asked) f
their_fits Ready block s t h r many same f = fits_still block s t h r (same refl) Ready f
their_fits Enter block s t h r many same f = fits_still block s t h r (same refl) Enter f
their_fits (Append place) block s t h r many same f = fits_still block s t h r (same refl) (Append place) f
their_fits Open block s t h r many same f = fits_still block s t h r (same refl) Open f
their_fits (Publish place) block s t h r many same f = fits_still block s t h r (same refl) (Publish place) f
their_fits Close block s t h r many same f = fits_still block s t h r (same refl) Close f
their_fits other block s t h r many same f = tt
