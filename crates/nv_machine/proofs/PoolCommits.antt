-- What the steps of a commit leave of what a call knows of inodes.
use Rattle.std.proofs.Common.{◌≡◌, ◌≢◌, inr, ℕ, zero, suc, ◌+◌, ◌<◌, ◌≤◌, ◌==◌, ◌++◌, ◌∙◌, Bool, true, false, List, [], ◌∷◌, Option, Some, None, ap, arith, drop, if◌then◌else◌, length, nat_lt, refl, subst, sym, take}
use Rattle.std.specs.Prelude.{◌||◌}
use Rattle.std.proofs.lemmas.Bool.{eqb-true, false≢true, ltb-false}
use Rattle.std.proofs.lemmas.Option.{none-some}
use Rattle.nv_alloc.specs.Numbers.{IsRising, has}
use Rattle.nv_alloc.proofs.Lists.{has-below}
use Rattle.nv_base.specs.declared.geometry.GeometryNumbers.{GeometryNumbers}
use Rattle.nv_calls.specs.Retiring.{erased, number_back}
use Rattle.nv_calls.specs.Slots.{place_in}
use Rattle.nv_calls.proofs.Retires.{chain_stays}
use Rattle.nv_cell.specs.Cell.{CellState, log_of, published}
use Rattle.nv_cell.specs.Readers.{has_entry, has_inode, is_erased, is_gone}
use Rattle.nv_cell.proofs.Publishing.{take_whole}
use Rattle.nv_epoch.specs.SnapList.{ids}
use Rattle.nv_log.specs.Chain.{ChainState, log}
use Rattle.nv_machine.specs.Grown.{fresh_entries, is_appended, is_behind}
use Rattle.nv_machine.specs.Kinds.{entries_for, first_killed, retired_book, retired_cell, with_erased, with_freed}
use Rattle.nv_machine.specs.Locks.{AreSlots, held_at}
use Rattle.nv_machine.specs.Reads.{is_written, pages_needed, slot_at, written_slots}
use Rattle.nv_machine.specs.Settled.{settled}
use Rattle.nv_machine.specs.World.{Append, Close, HandState, Next, Publish, Retire, Running, Shared, cell_at, owner_at, with_book, with_cell}
use Rattle.nv_machine.proofs.StepWork.{work}
use Rattle.nv_machine.proofs.Lists.{drop_apart, has_drop, has_filter, has_later, or_right, rising_filter, self, written_inside}
use Rattle.nv_machine.proofs.LocksHeld.{Before, owner_is}
use Rattle.nv_machine.proofs.LogsKept.{cell_set}
use Rattle.nv_machine.proofs.PoolCells.{EndsWith, IsLike, appended_like, ends_gone, ends_some, erased_gone, like_inode, published_log, retired_like, written_some}
use Rattle.nv_machine.proofs.PoolKnown.{HasPlan, IsRetiring}
use Rattle.nv_machine.proofs.PoolSlots.{filtered, two_of}
use Rattle.nv_machine.proofs.PoolTally.{is_begun}
use Rattle.nv_machine.proofs.PoolTurns.{Standing, set_inodes}
use Rattle.nv_machine.proofs.LogTails.{has_front}
use Rattle.nv_machine.proofs.WrittenSlots.{written_there}

-- a number in a list of one is its first
only_one : (xs : List ℕ) (n m : ℕ) → length xs ≤ 1 → has xs n ≡ true → has xs m ≡ true → n ≡ m
only_one xs n m few p q = go (n == m) refl where
  go : (b : Bool) → (n == m) ≡ b → n ≡ m
  go true e = eqb-true n m e
  go false e = absurd (omega (arith, few, two_of xs n m (λ is. false≢true (sym e ∙ same n m is)) p q)) where
    same : (n m : ℕ) → n ≡ m → (n == m) ≡ true
    same n m is = rw is (self m)

-- what stands first in a rising list does not stand behind
first_alone : (p : ℕ) (xs : List ℕ) (n : ℕ) → IsRising xs → has (take p xs) n ≡ true → has (drop p xs) n ≡ false
first_alone zero xs n rising there = absurd (false≢true there)
first_alone (suc p) [] n rising there = absurd (false≢true there)
first_alone (suc p) (x ∷ xs) n rising there = go (x == n) refl there (first_alone p xs n rising.1) where
  later : x ≡ n → (b : Bool) → has (drop p xs) n ≡ b → b ≡ false
  later is false e = refl
  later is true e =
      let none = has-below x xs rising.0 in
      absurd (false≢true (sym none ∙ ap (has xs) is ∙ has_later p xs n e))

  go : (b : Bool) → (x == n) ≡ b → (b || has (take p xs) n) ≡ true
      → (has (take p xs) n ≡ true → has (drop p xs) n ≡ false) → has (drop p xs) n ≡ false
  go true q there more = later (eqb-true x n q) (has (drop p xs) n) refl
  go false q there more = more there

module _ (g : GeometryNumbers) (block a : ℕ) (s : Shared) (h : HandState) (r : Running) where
  abbrev written : List ℕ
  written = written_slots r

  inside_slots : (k : Next) → Before a s k r → AreSlots (length s.cells) r.slots
  inside_slots k b = subst (λ (n : ℕ). AreSlots n r.slots) b.wide b.are

  -- ---- append

  pub append_inside : (place : ℕ) → Standing g (Append place) a s h r → slot_at written place < length s.cells
  append_inside place st =
      written_inside (length s.cells) r place (inside_slots (Append place) st.before) st.before.inside

  pub append_plan : (place : ℕ) → Standing g (Append place) a s h r
      → HasPlan (work (Append place) block a s h r).shared h.ino r.slots written r.plan
  append_plan place st =
      let slot = slot_at written place in
      let pages = take (pages_needed s r.plan slot) h.pages in
      let like = appended_like (entries_for r slot) h.blocks pages (cell_at s slot) (st.within slot) in (
        set_inodes g block a s h r slot _ (append_inside place st) (inr (like_inode (cell_at s slot) _ like)) st.sees.0,
        st.sees.1,
        st.sees.2,
      )

  -- ---- publish

  -- the entries of a slot that is written stand behind its settled log
  grown_ends : (k : Next) → Standing g k a s h r → held_at k r.slots ≡ r.slots
      → ((ino : ℕ) → is_appended k written ino ≡ has written ino)
      → (ino : ℕ) → has written ino ≡ true → EndsWith (entries_for r ino) (cell_at s ino).chain.entries
  grown_ends k st held appended ino there =
      let mine = owner_is a (owner_at s ino) (st.before.mine.owners ino ∙ ap (λ (l : List ℕ). has l ino) held
      ∙ has_filter (is_written r.plan) r.slots ino there) in
      record {
        front = settled s ino;
        is = st.grown.entries ino mine ∙ ap (λ (b : Bool). settled s ino ++ fresh_entries b r ino) (appended ino ∙ there);
      }

  some_for : (ino : ℕ) → has written ino ≡ true → has_entry (entries_for r ino) ≡ true
  some_for ino there = written_some r ino (filtered (is_written r.plan) r.slots ino there)

  module _ (place : ℕ) (st : Standing g (Publish place) a s h r) where
    abbrev slot : ℕ
    slot = slot_at written place

    pub publish_inside : slot < length s.cells
    publish_inside = written_inside (length s.cells) r place (inside_slots (Publish place) st.before) st.before.inside

    there : has written slot ≡ true
    there = written_there r place st.before.inside

    ends : EndsWith (entries_for r slot) (cell_at s slot).chain.entries
    ends = grown_ends (Publish place) st refl (λ ino. refl) slot there

    pub publish_inode : has_inode (published (cell_at s slot)) ≡ true
    publish_inode = ap has_entry (published_log (cell_at s slot)) ∙ ends_some (entries_for r slot) _ ends (some_for slot there)

    pub publish_plan : HasPlan (with_cell slot (published (cell_at s slot)) s) h.ino r.slots written r.plan
    publish_plan = (
      set_inodes g block a s h r slot (published (cell_at s slot)) publish_inside (inr (λ inode. publish_inode)) st.sees.0,
      st.sees.1,
      st.sees.2,
    )

    -- the only inode of a commit
    pub publish_retiring : nat_lt 1 (length written) ≡ false
        → IsRetiring written (with_cell slot (published (cell_at s slot)) s) h.ino r
    publish_retiring single = (
      st.sees.2,
      λ ino has_it gone. own_gone ino (only_one written slot ino (ltb-false 1 (length written) single) there has_it) gone,
      λ n ino is has_it leaves. false≢true (sym single ∙ (st.sees.1 n is).several),
    ) where
      own_gone : (ino : ℕ) → slot ≡ ino → is_gone (log_of (cell_at (with_cell slot (published (cell_at s slot)) s) ino)) ≡ true
          → is_gone (entries_for r ino) ≡ true
      own_gone ino same =
          cell_set s slot (published (cell_at s slot)) ino
          (λ (c : CellState). is_gone (log_of c) ≡ true → is_gone (entries_for r ino) ≡ true) publish_inside
          (λ e gone. subst (λ (k : ℕ). is_gone (entries_for r k) ≡ true) e
          (sym (ends_gone (entries_for r slot) _ ends (some_for slot there)) ∙ sym (ap is_gone (published_log (cell_at s slot))) ∙ gone))
          (λ ne. absurd (ne same))

  -- ---- an inode that has begun

  -- the log of a slot that is written and published
  log_ends : (k : Next) → Standing g k a s h r → held_at k r.slots ≡ r.slots
      → ((ino : ℕ) → is_appended k written ino ≡ has written ino)
      → (ino : ℕ) → has written ino ≡ true → is_behind k written ino ≡ false → EndsWith (entries_for r ino) (log_of (cell_at s ino))
  log_ends k st held appended ino there past =
      let mine = owner_is a (owner_at s ino) (st.before.mine.owners ino ∙ ap (λ (l : List ℕ). has l ino) held
      ∙ has_filter (is_written r.plan) r.slots ino there) in
      let whole : log_of (cell_at s ino) ≡ (cell_at s ino).chain.entries =
      ap (λ (n : ℕ). take n (cell_at s ino).chain.entries) (st.grown.tails ino mine past) ∙ take_whole (cell_at s ino).chain.entries in
      let ends = grown_ends k st held appended ino there in
      record { front = ends.front; is = whole ∙ ends.is }

  pub begun_inode : (k : Next) → Standing g k a s h r → (n : ℕ) → is_begun k written n ≡ true → has_inode (cell_at s n) ≡ true
  begun_inode (Publish place) st n is =
      let there = has_front place written n is in
      let rising = rising_filter (is_written r.plan) r.slots st.before.are.rising in
      ends_some (entries_for r n) _ (log_ends (Publish place) st refl (λ ino. refl) n there (first_alone place written n rising is))
      (some_for n there)
  begun_inode Close st n is = ends_some (entries_for r n) _ (log_ends Close st refl (λ ino. refl) n is refl) (some_for n is)
  begun_inode other st n is = absurd (false≢true is)

  -- ---- close

  pub close_retiring : Standing g Close a s h r → IsRetiring written s None r
  close_retiring st = (
    st.sees.2,
    λ ino there gone.
        let ends = log_ends Close st refl (λ n. refl) ino there refl in
        sym (ends_gone (entries_for r ino) _ ends (some_for ino there)) ∙ gone,
    λ n ino is there leaves. none-some n is,
  )

  -- ---- retire

  module _ (place : ℕ) (st : Standing g (Retire place) a s h r) where
    abbrev gone_slot : ℕ
    gone_slot = slot_at written place

    abbrev cell : CellState
    cell = retired_cell gone_slot (first_killed h.killed) s r

    abbrev freed : HandState
    freed = with_freed gone_slot (first_killed h.killed) s r h

    pub retire_inside : gone_slot < length s.cells
    retire_inside = written_inside (length s.cells) r place (inside_slots (Retire place) st.before) st.before.inside

    like : IsLike (cell_at s gone_slot) cell
    like = retired_like (ids s.book.snaps) gone_slot r.epoch (first_killed h.killed) (cell_at s gone_slot)

    same_chain : cell.chain ≡ (cell_at s gone_slot).chain
    same_chain = chain_stays (ids s.book.snaps) gone_slot r.epoch (first_killed h.killed) (cell_at s gone_slot)

    first : has (drop place written) gone_slot ≡ true
    first = has_drop place written gone_slot st.before.inside ∙ (let e = self gone_slot in rw e refl)

    later : (ino : ℕ) → has (drop (place + 1) written) ino ≡ true → has (drop place written) ino ≡ true
    later ino there = has_drop place written ino st.before.inside ∙ or_right (gone_slot == ino) _ there

    apart : (ino : ℕ) → has (drop (place + 1) written) ino ≡ true → gone_slot ≢ ino
    apart ino there same =
        let none = drop_apart place written (rising_filter (is_written r.plan) r.slots st.before.are.rising) st.before.inside in
        false≢true (sym none ∙ ap (has (drop (place + 1) written)) same ∙ there)

    -- an inode that is erased leaves by this commit
    erased_leaves : is_erased cell ≡ true → is_gone (entries_for r gone_slot) ≡ true
    erased_leaves q = st.sees.1 gone_slot first (sym (ap (λ (c : ChainState). is_gone (log c)) same_chain) ∙ erased_gone cell q)

    -- and the hand has no number before
    pub erased_number : is_erased cell ≡ true → h.ino ≡ None
    erased_number q = go h.ino refl where
      go : (o : Option ℕ) → h.ino ≡ o → o ≡ None
      go None is = refl
      go (Some n) is = absurd (st.sees.2 n gone_slot is first (erased_leaves q))

    pub retire_retiring : IsRetiring (drop (place + 1) written)
        (with_cell gone_slot (erased cell) (with_book (retired_book gone_slot (first_killed h.killed) s r) s))
        (with_erased gone_slot cell freed).ino r
    retire_retiring = (
      st.sees.0,
      λ ino there.
          cell_set (with_book (retired_book gone_slot (first_killed h.killed) s r) s) gone_slot (erased cell) ino
          (λ (c : CellState). is_gone (log_of c) ≡ true → is_gone (entries_for r ino) ≡ true) retire_inside
          (λ same. absurd (apart ino there same))
          (λ ne gone. st.sees.1 ino (later ino there) gone),
      λ n ino. alone (is_erased cell) refl n ino,
    ) where
      alone : (b : Bool) → is_erased cell ≡ b → (n ino : ℕ)
          → (if b then record freed { chain = freed.chain ++ cell.chain.blocks; ino = number_back gone_slot cell freed.ino } else freed).ino
          ≡ Some n → has (drop (place + 1) written) ino ≡ true → is_gone (entries_for r ino) ≡ true → ⊥
      alone true q n ino is there leaves =
          apart ino there
          (st.sees.0 r.commit r.epoch (place_in r.plan gone_slot) (place_in r.plan ino) gone_slot ino (erased_leaves q) leaves)
      alone false q n ino is there leaves = st.sees.2 n ino is (later ino there) leaves
