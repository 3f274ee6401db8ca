-- What each kind of step leaves past settled logs, and what a commit point settles.
use Rattle.std.proofs.Common.{Bool, List, None, Some, [], ap, append-nil, arith, drop, false, get_or-set_other, if◌then◌else◌, length, nat_lt, refl, set, subst, suc, sym, take, true, zero, ℕ, ◌%◌, ◌++◌, ◌+◌, ◌<◌, ◌==◌, ◌||◌, ◌∙◌, ◌∷◌, ◌≡◌, ◌≢◌, ◌≤◌}
use Rattle.std.proofs.lemmas.Bool.{eq-eqb, eqb-true, false≢true, ltb-false, ltb-true}
use Rattle.std.proofs.lemmas.List.{take-append-le}
use Rattle.nv_alloc.specs.Block.{BlockValue}
use Rattle.nv_alloc.specs.Numbers.{IsRising, has}
use Rattle.nv_book.specs.Book.{BookState, with_journal}
use Rattle.nv_calls.proofs.Retires.{chain_stays}
use Rattle.nv_calls.specs.Retiring.{erased}
use Rattle.nv_cell.specs.Cell.{CellState, empty_cell, published}
use Rattle.nv_cell.specs.declared.killed.KilledPart.{KilledPart}
use Rattle.nv_cell.proofs.Publishing.{take_whole}
use Rattle.nv_entry.specs.declared.item.Entry.{Entry}
use Rattle.nv_epoch.specs.SnapList.{ids}
use Rattle.nv_journal.specs.Journal.{settled_tail}
use Rattle.nv_log.specs.Chain.{ChainState}
use Rattle.nv_journal.specs.declared.old_tail.OldTail.{OldTail}
use Rattle.nv_machine.specs.Grown.{HasGrown, IsAllSettled, fresh_entries}
use Rattle.nv_machine.specs.Kept.{AreClosed, AreLogsKept, HasNoted}
use Rattle.nv_machine.specs.Kinds.{append_turn, close_turn, entries_for, old_tails, open_turn, publish_turn, retire_turn, retired_book, retired_cell, with_entries, with_log_pages}
use Rattle.nv_machine.specs.Locks.{AreSlots}
use Rattle.nv_machine.specs.Reads.{is_written, slot_at, written_slots}
use Rattle.nv_machine.specs.Sequence.{appending, closing, publishing, retiring}
use Rattle.nv_machine.specs.Settled.{settled}
use Rattle.nv_machine.specs.World.{Append, Close, HandState, Open, Publish, Retire, Running, Shared, cell_at, no_cell, owner_at, with_book, with_cell}
use Rattle.nv_machine.proofs.WrittenSlots.{written_there}
use Rattle.nv_machine.proofs.UnsettledEntries.{AreTests, GrownBy, as_next, tests_appending, tests_retiring, tests_several, tests_single}
use Rattle.nv_machine.proofs.UnsettledLogs.{CellsLeft, OnGrown}
use Rattle.nv_machine.proofs.Journals.{closed_tail, open_same}
use Rattle.nv_machine.proofs.Lists.{has_drop, has_later, has_take, rising_filter, take_apart, written_inside}
use Rattle.nv_machine.proofs.LogsKept.{cell_set}
use Rattle.nv_cell.specs.Readers.{is_erased}
use Rattle.nv_machine.proofs.AppendsToCome.{entries_more, pages_keep}

-- ---- small facts

self : (n : ℕ) → (n == n) ≡ true
self n = eq-eqb n n refl

other_test : (n m : ℕ) (b : Bool) → (n == m) ≡ b → n ≢ m → b ≡ false
other_test n m true e ne = absurd (ne (eqb-true n m e))
other_test n m false e ne = refl

or_true : (b : Bool) → (b || true) ≡ true
or_true true = refl
or_true false = refl

or_false : (b : Bool) → (b || false) ≡ b
or_false true = refl
or_false false = refl

pub tail_keeps : (entries : List Entry) (blocks : List BlockValue) (cell : CellState)
    → (with_entries entries blocks cell).chain.tail ≡ cell.chain.tail
tail_keeps [] blocks cell = refl
tail_keeps (e ∷ entries) blocks cell = tail_keeps entries _ _

pub paged_tail : (pages : List BlockValue) (cell : CellState) → (with_log_pages pages cell).chain.tail ≡ cell.chain.tail
paged_tail [] cell = refl
paged_tail (b ∷ pages) cell = paged_tail pages _

-- the only slot of a list
only_slot : (written : List ℕ) (place ino : ℕ) → length written ≤ 1 → place < length written → has written ino ≡ true
    → slot_at written place ≡ ino
only_slot [] place ino le lt h = absurd (omega (arith, lt))
only_slot (x ∷ y ∷ written) place ino le lt h = absurd (omega (arith, le))
only_slot (x ∷ []) (suc place) ino le lt h = absurd (omega (arith, lt))
only_slot (x ∷ []) zero ino le lt h = go (x == ino) refl h where
  go : (b : Bool) → (x == ino) ≡ b → (b || false) ≡ true → x ≡ ino
  go true e k = eqb-true x ino e
  go false e k = cc

not_has : (written : List ℕ) (ino : ℕ) (b : Bool) → has written ino ≡ b → (has written ino ≡ true → ⊥) → has written ino ≡ false
not_has written ino true e h = absurd (h e)
not_has written ino false e h = e

-- what a commit settles: of each slot that it writes its entries, and of no other slot anything
abbrev pub SettlesAll : Shared → Shared → Running → Type 0
SettlesAll s t r = (ino : ℕ) → settled t ino ≡ settled s ino ++ fresh_entries (has (written_slots r) ino) r ino

-- ---- the kinds

module _ (a : ℕ) (s : Shared) (h : HandState) (r : Running) (kept : AreLogsKept s) (are : AreSlots (length s.cells) r.slots)
    (own : (ino : ℕ) → has (written_slots r) ino ≡ true → owner_at s ino ≡ Some a)
    (free : (ino : ℕ) → owner_at s ino ≡ None → IsAllSettled s ino) where
  abbrev written : List ℕ
  written = written_slots r

  abbrev cpu : ℕ
  cpu = a % length s.lists

  rising : IsRising written
  rising = rising_filter (is_written r.plan) r.slots are.rising

  -- a log of which nothing is noted
  closed_is : (ino : ℕ) → AreClosed s.book.journals → settled s ino ≡ take (cell_at s ino).chain.tail (cell_at s ino).chain.entries
  closed_is ino closed = ap (λ (n : ℕ). take n (cell_at s ino).chain.entries)
      (closed_tail s.book.journals ino (cell_at s ino).chain.tail closed)

  module _ (place : ℕ) (inside : place < length written) where
    abbrev slot : ℕ
    slot = slot_at written place

    abbrev cell : CellState
    cell = cell_at s slot

    low : slot < length s.cells
    low = written_inside (length s.cells) r place are inside

    mine : owner_at s slot ≡ Some a
    mine = own slot (written_there r place inside)

    -- another cell in the place of the slot's
    module _ (new : CellState) (book : BookState) (journals : book.journals ≡ s.book.journals) where
      abbrev t : Shared
      t = with_cell slot new (with_book book s)

      other : (ino : ℕ) → ino ≢ slot → cell_at t ino ≡ cell_at s ino
      other ino ne = get_or-set_other s.cells slot ino new no_cell ne

      other_log : (ino : ℕ) → ino ≢ slot → settled t ino ≡ settled s ino
      other_log ino ne = rw (other ino ne, journals) refl

      not_mine : (ino : ℕ) → owner_at s ino ≢ Some a → ino ≢ slot
      not_mine ino out e = out (ap (owner_at s) e ∙ mine)

      one_left : CellsLeft a s t
      one_left = record { cells = λ ino out. other ino (not_mine ino out); logs = λ ino out. other_log ino (not_mine ino out) }

      one_free : (ino : ℕ) → owner_at t ino ≡ None → IsAllSettled t ino
      one_free ino e =
          let ne = not_mine ino (λ q. none_owned (sym e ∙ q)) in
          record { entries = rw (other ino ne, journals) (free ino e).entries; tail = rw (other ino ne) (free ino e).tail } where
            none_owned : None ≡ Some a → ⊥
            none_owned q = cc

      -- what is so of the new cell and of the others is so of all
      each_slot : (P : ℕ → CellState → Type 0) → P slot new → ((ino : ℕ) → slot ≢ ino → P ino (cell_at s ino)) → (ino : ℕ)
          → P ino (cell_at t ino)
      each_slot P here there ino = cell_set s slot new ino (P ino) low (λ e. subst (λ (n : ℕ). P n new) e here) (λ ne. there ino ne)

      settled_is : (ino : ℕ) → settled t ino ≡ take (settled_tail s.book.journals ino (cell_at t ino).chain.tail)
          (cell_at t ino).chain.entries
      settled_is ino = ap (λ (l : List (List OldTail)). take (settled_tail l ino (cell_at t ino).chain.tail)
          (cell_at t ino).chain.entries) journals

      grown_by : (appended behind : ℕ → Bool)
          → new.chain.entries ≡ take (settled_tail s.book.journals slot new.chain.tail) new.chain.entries ++ fresh_entries
          (appended slot) r slot
          → (behind slot ≡ false → new.chain.tail ≡ length new.chain.entries)
          → ((ino : ℕ) → slot ≢ ino → owner_at s ino ≡ Some a
          → (cell_at s ino).chain.entries ≡ settled s ino ++ fresh_entries (appended ino) r ino)
          → ((ino : ℕ) → slot ≢ ino → owner_at s ino ≡ Some a → behind ino ≡ false
          → (cell_at s ino).chain.tail ≡ length (cell_at s ino).chain.entries)
          → GrownBy t a r appended behind
      grown_by appended behind here tail there tails = record {
        entries = λ ino q.
            each_slot (λ n c. owner_at s n ≡ Some a → c.chain.entries
            ≡ take (settled_tail s.book.journals n c.chain.tail) c.chain.entries ++ fresh_entries (appended n) r n)
            (λ o. here) there ino q
            ∙ ap (λ (l : List Entry). l ++ fresh_entries (appended ino) r ino) (sym (settled_is ino));
        tails = λ ino q.
            each_slot (λ n c. owner_at s n ≡ Some a → behind n ≡ false → c.chain.tail ≡ length c.chain.entries) (λ o. tail) tails ino q;
      }

    -- append
    pub append_grown : (pages : ℕ) → AreClosed s.book.journals → HasGrown (Append place) s a r
        → OnGrown a s (append_turn slot pages place s h r)
    append_grown pages closed g = (
      one_left new s.book refl,
      one_free new s.book refl,
      as_next (appending (place + 1) written) _ a r (has (take (place + 1) written)) (has (take (place + 1) written))
          (tests_appending (place + 1) written)
          (grown_by new s.book refl (has (take (place + 1) written)) (has (take (place + 1) written))
          (more ∙ ap (λ (b : Bool). take (settled_tail s.book.journals slot new.chain.tail) new.chain.entries ++ fresh_entries b r slot)
          (sym here))
          (λ e. absurd (false≢true (sym e ∙ here)))
          (λ ino ne q. g.entries ino q ∙ ap (λ (b : Bool). settled s ino ++ fresh_entries b r ino) (sym (there ino ne)))
          (λ ino ne q e. g.tails ino q (sym (there ino ne) ∙ e))),
    ) where
      new : CellState
      new = with_entries (entries_for r slot) h.blocks (with_log_pages (take pages h.pages) cell)

      here : has (take (place + 1) written) slot ≡ true
      here = has_take place written slot inside ∙ ap (λ (b : Bool). (has (take place written) slot || b)) (self slot)
          ∙ or_true (has (take place written) slot)

      there : (ino : ℕ) → slot ≢ ino → has (take (place + 1) written) ino ≡ has (take place written) ino
      there ino ne = has_take place written ino inside
          ∙ ap (λ (b : Bool). (has (take place written) ino || b)) (other_test slot ino (slot == ino) refl ne)
          ∙ or_false (has (take place written) ino)

      tail : new.chain.tail ≡ cell.chain.tail
      tail = tail_keeps (entries_for r slot) h.blocks (with_log_pages (take pages h.pages) cell) ∙ paged_tail (take pages h.pages) cell

      entries : new.chain.entries ≡ cell.chain.entries ++ entries_for r slot
      entries = entries_more (entries_for r slot) h.blocks (with_log_pages (take pages h.pages) cell)
          ∙ ap (λ (l : List Entry). l ++ entries_for r slot) (pages_keep (take pages h.pages) cell)

      before : cell.chain.entries ≡ settled s slot
      before = g.entries slot mine ∙ ap (λ (b : Bool). settled s slot ++ fresh_entries b r slot) (take_apart place written rising inside)
          ∙ append-nil (settled s slot)

      log : take (settled_tail s.book.journals slot new.chain.tail) new.chain.entries ≡ settled s slot
      log = rw (tail, entries) (take-append-le (settled_tail s.book.journals slot cell.chain.tail) cell.chain.entries (entries_for r slot)
          (omega (arith, closed_tail s.book.journals slot cell.chain.tail closed, (kept.pages slot).within)))

      more : new.chain.entries ≡ take (settled_tail s.book.journals slot new.chain.tail) new.chain.entries ++ entries_for r slot
      more = entries ∙ ap (λ (l : List Entry). l ++ entries_for r slot) (before ∙ sym log)

    -- publish under a journal
    pub publish_grown : HasNoted s cpu written → nat_lt 1 (length written) ≡ true → HasGrown (Publish place) s a r
        → OnGrown a s (publish_turn slot place s h r)
    publish_grown noted several g = (
      one_left (published cell) s.book refl,
      one_free (published cell) s.book refl,
      as_next (publishing (place + 1) written) _ a r (has written) (has (drop (place + 1) written))
          (tests_several (place + 1) written several)
          (grown_by (published cell) s.book refl (has written) (has (drop (place + 1) written))
          (g.entries slot mine ∙ ap (λ (n : ℕ). take n cell.chain.entries ++ fresh_entries (has written slot) r slot)
          (noted.noted slot cell.chain.tail (length cell.chain.entries) (written_there r place inside)))
          (λ e. refl) (λ ino ne q. g.entries ino q) (λ ino ne q e. g.tails ino q (was ino ne e))),
    ) where
      was : (ino : ℕ) → slot ≢ ino → has (drop (place + 1) written) ino ≡ false → has (drop place written) ino ≡ false
      was ino ne e = has_drop place written ino inside
          ∙ ap (λ (b : Bool). (b || has (drop (place + 1) written) ino)) (other_test slot ino (slot == ino) refl ne) ∙ e

    -- the one publish of a commit of one inode
    module _ (closed : AreClosed s.book.journals) (one : nat_lt 1 (length written) ≡ false) (g : HasGrown (Publish place) s a r) where
      few : length written ≤ 1
      few = ltb-false 1 (length written) one

      alone : (ino : ℕ) → slot ≢ ino → has written ino ≡ false
      alone ino ne = not_has written ino (has written ino) refl (λ e. ne (only_slot written place ino few inside e))

      all : take (settled_tail s.book.journals slot (length cell.chain.entries)) cell.chain.entries ≡ cell.chain.entries
      all = ap (λ (n : ℕ). take n cell.chain.entries) (closed_tail s.book.journals slot (length cell.chain.entries) closed)
          ∙ take_whole cell.chain.entries

      pub single_grown : OnGrown a s (publish_turn slot place s h r)
      single_grown = (
        one_left (published cell) s.book refl,
        one_free (published cell) s.book refl,
        as_next (publishing (place + 1) written) _ a r (λ ino. false) (λ ino. false) (last (nat_lt (place + 1) (length written)) refl)
            (grown_by (published cell) s.book refl (λ ino. false) (λ ino. false) (sym (append-nil _ ∙ all)) (λ e. refl)
            (λ ino ne q. g.entries ino q ∙ ap (λ (b : Bool). settled s ino ++ fresh_entries b r ino) (alone ino ne))
            (λ ino ne q e. g.tails ino q (not_has (drop place written) ino (has (drop place written) ino) refl
            (λ k. false≢true (sym (alone ino ne) ∙ has_later place written ino k))))),
      ) where
        last : (b : Bool) → nat_lt (place + 1) (length written) ≡ b
            → AreTests (if b then Publish (place + 1) else closing written) written (λ ino. false) (λ ino. false)
        last true e = absurd (omega (arith, few, ltb-true (place + 1) (length written) e))
        last false e = tests_single written one

      pub single_settles : SettlesAll s (with_cell slot (published cell) s) r
      single_settles ino = settled_is (published cell) s.book refl ino ∙ each_slot (published cell) s.book refl
          (λ n c. take (settled_tail s.book.journals n c.chain.tail) c.chain.entries ≡ settled s n ++ fresh_entries (has written n) r n)
          (all ∙ g.entries slot mine)
          (λ n ne. sym (ap (λ (b : Bool). settled s n ++ fresh_entries b r n) (alone n ne) ∙ append-nil (settled s n))) ino

    -- retire
    pub retire_grown : (parts : List KilledPart) → HasGrown (Retire place) s a r → OnGrown a s (retire_turn slot parts place s h r)
    retire_grown parts g = (
      one_left (erased old) (retired_book slot parts s r) refl,
      one_free (erased old) (retired_book slot parts s r) refl,
      as_next (retiring (place + 1) written) _ a r (λ ino. false) (λ ino. false) (tests_retiring (place + 1) written)
          (grown_by (erased old) (retired_book slot parts s r) refl (λ ino. false) (λ ino. false)
          (entries (is_erased old)) (λ e. tail (is_erased old)) (λ ino ne q. g.entries ino q) (λ ino ne q e. g.tails ino q refl)),
    ) where
      old : CellState
      old = retired_cell slot parts s r

      take_none : (n : ℕ) → take {A = Entry} n [] ≡ []
      take_none zero = refl
      take_none (suc n) = refl

      chain : old.chain ≡ cell.chain
      chain = chain_stays (ids s.book.snaps) slot r.epoch parts cell

      entries : (b : Bool) → (if b then empty_cell old.block old.chain.page (old.generation + 1) old.version else old).chain.entries
          ≡ take (settled_tail s.book.journals slot
          (if b then empty_cell old.block old.chain.page (old.generation + 1) old.version else old).chain.tail)
          (if b then empty_cell old.block old.chain.page (old.generation + 1) old.version else old).chain.entries ++ []
      entries true = sym (append-nil _ ∙ take_none _)
      entries false = subst (λ (c : ChainState). c.entries ≡ take (settled_tail s.book.journals slot c.tail) c.entries ++ []) (sym chain)
          (g.entries slot mine)

      tail : (b : Bool) → (if b then empty_cell old.block old.chain.page (old.generation + 1) old.version else old).chain.tail
          ≡ length (if b then empty_cell old.block old.chain.page (old.generation + 1) old.version else old).chain.entries
      tail true = refl
      tail false = subst (λ (c : ChainState). c.tail ≡ length c.entries) (sym chain) (g.tails slot mine refl)

  -- ---- open and close

  pub open_grown : AreClosed s.book.journals → nat_lt 1 (length written) ≡ true → cpu < length s.book.journals → HasGrown Open s a r
      → OnGrown a s (open_turn cpu s h r)
  open_grown closed several inside g = (
    record { cells = λ ino out. refl; logs = λ ino out. same ino },
    (λ ino e. record { entries = (free ino e).entries ∙ sym (same ino); tail = (free ino e).tail }),
    as_next (publishing 0 written) t a r (has written) (has (drop 0 written)) (tests_several 0 written several) (record {
      entries = λ ino q. g.entries ino q ∙ ap (λ (l : List Entry). l ++ fresh_entries (has written ino) r ino) (sym (same ino));
      tails = λ ino q e. g.tails ino q e;
    }),
  ) where
    t : Shared
    t = with_book (with_journal cpu (old_tails s written) s.book) s

    same : (ino : ℕ) → settled t ino ≡ settled s ino
    same ino = ap (λ (n : ℕ). take n (cell_at s ino).chain.entries) (open_same s cpu written closed inside ino) ∙ sym (closed_is ino closed)

  module _ (noted : HasNoted s cpu written) (g : HasGrown Close s a r) where
    abbrev closed_after : Shared
    closed_after = with_book (with_journal cpu [] s.book) s

    tail_is : (ino : ℕ) → settled closed_after ino ≡ take (cell_at s ino).chain.tail (cell_at s ino).chain.entries
    tail_is ino = ap (λ (n : ℕ). take n (cell_at s ino).chain.entries)
        (closed_tail (set s.book.journals cpu []) ino (cell_at s ino).chain.tail noted.alone)

    out_is : (ino : ℕ) → has written ino ≡ false → settled closed_after ino ≡ settled s ino
    out_is ino out = tail_is ino ∙ ap (λ (n : ℕ). take n (cell_at s ino).chain.entries)
        (sym (noted.free ino (cell_at s ino).chain.tail out))

    own_is : (ino : ℕ) → owner_at s ino ≡ Some a → settled closed_after ino ≡ (cell_at s ino).chain.entries
    own_is ino q = tail_is ino ∙ ap (λ (n : ℕ). take n (cell_at s ino).chain.entries) (g.tails ino q refl)
        ∙ take_whole (cell_at s ino).chain.entries

    not_written : (ino : ℕ) → owner_at s ino ≢ Some a → has written ino ≡ false
    not_written ino out = not_has written ino (has written ino) refl (λ e. out (own ino e))

    pub close_grown : OnGrown a s (close_turn cpu s h r)
    close_grown = (
      record { cells = λ ino out. refl; logs = λ ino out. out_is ino (not_written ino out) },
      (λ ino e. record {
        entries = (free ino e).entries
            ∙ sym (out_is ino (not_written ino (λ q. none_owned (sym e ∙ q))));
        tail = (free ino e).tail;
      }),
      as_next (retiring 0 written) closed_after a r (λ ino. false) (λ ino. false) (tests_retiring 0 written) (record {
        entries = λ ino q. sym (append-nil _ ∙ own_is ino q);
        tails = λ ino q e. g.tails ino q refl;
      }),
    ) where
      none_owned : None ≡ Some a → ⊥
      none_owned q = cc

    pub close_settles : SettlesAll s closed_after r
    close_settles ino = go (has written ino) refl where
      go : (b : Bool) → has written ino ≡ b → settled closed_after ino ≡ settled s ino ++ fresh_entries (has written ino) r ino
      go true e = own_is ino (own ino e) ∙ g.entries ino (own ino e)
      go false e = out_is ino e ∙ sym (ap (λ (b : Bool). settled s ino ++ fresh_entries b r ino) e ∙ append-nil (settled s ino))
