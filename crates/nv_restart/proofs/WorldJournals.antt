-- What the open journals of a world have noted is good: each is of an inode that has a page, and
-- lies within its tail.
use Rattle.std.proofs.Common.{◌≡◌, ℕ, suc, zero, ◌+◌, ◌<◌, ◌≤◌, ◌==◌, ◌&&◌, ◌%◌, ◌||◌, ◌++◌, ◌∙◌, Bool, true, false, cond, filter, nat_le, nat_lt, not, List, [], ◌∷◌, Option, Some, None, ap, arith, length, refl, subst, sym}
use Rattle.std.specs.Prelude.{slice_get}
use Rattle.std.specs.List.{find, list_all}
use Rattle.std.specs.Option.{option_map}
use Rattle.std.proofs.lemmas.Bool.{and_from, and_parts, eq-eqb, eqb-true, false≢true, le-leb, lt-ltb, ltb-true}
use Rattle.std.proofs.lemmas.List.{length-append}
use Rattle.std.proofs.lemmas.Option.{same_Some}
use Rattle.nv_alloc.specs.Numbers.{has}
use Rattle.nv_audit.specs.Image.{ImageValue, SlotImageValue, all_notes}
use Rattle.nv_audit.specs.Mounted.{are_apart, are_journals_good, is_note_good}
use Rattle.nv_base.specs.declared.geometry.GeometryNumbers.{GeometryNumbers}
use Rattle.nv_book.specs.declared.record.Record.{Record}
use Rattle.nv_calls.specs.Slots.{entries_of, items_for}
use Rattle.nv_cell.specs.Cell.{CellState}
use Rattle.nv_entry.specs.declared.item.Entry.{Entry}
use Rattle.nv_entry.specs.declared.item.Item.{Item}
use Rattle.nv_journal.specs.Journal.{noted_or, settled_tail, tail_noted}
use Rattle.nv_journal.specs.declared.old_tail.OldTail.{OldTail}
use Rattle.nv_log.specs.Chain.{AreEnds, ChainState}
use Rattle.nv_machine.proofs.EveryWorld.{IsWhole, all_whole, on_pages, reached}
use Rattle.nv_machine.proofs.Lists.{has_filter}
use Rattle.nv_machine.proofs.LocksHeld.{slot_owned}
use Rattle.nv_machine.specs.Grown.{HasGrown, HasGrownBy, fresh_entries, is_appended}
use Rattle.nv_machine.specs.Kept.{AreClosed, HasNoted, IsNotedIf, Knows, KnowsOf}
use Rattle.nv_machine.specs.Kinds.{entries_for}
use Rattle.nv_machine.specs.Locks.{HoldsIts, commits_at, commits_by, held_at, is_owner}
use Rattle.nv_machine.specs.Pages.{AreOnPages}
use Rattle.nv_machine.specs.Reached.{IsReached}
use Rattle.nv_machine.specs.Reads.{is_written, written_slots}
use Rattle.nv_machine.specs.Recorded.{records_after}
use Rattle.nv_machine.specs.Settled.{settled}
use Rattle.nv_machine.specs.Starts.{IsStart}
use Rattle.nv_machine.specs.Step.{after}
use Rattle.nv_machine.specs.World.{Append, Close, Event, Leave, Next, Open, Publish, Retire, Running, Shared, World, actor_at, cell_at, owner_at}
use Rattle.nv_restart.proofs.NotedOnce.{NotesOnce, all_once, none_noted}
use Rattle.nv_restart.proofs.WorldSlots.{at_cell, slot_is}
use Rattle.nv_restart.specs.Restarted.{image_of}

-- ---- lists of notes

each_good : (p : OldTail → Bool) (notes : List OldTail)
    → ((k : ℕ) (note : OldTail) → slice_get notes k ≡ Some note → p note ≡ true)
    → list_all p notes ≡ true
each_good p [] each = refl
each_good p (note ∷ notes) each =
    and_from (p note) (list_all p notes) (each 0 note refl)
    (each_good p notes (λ k. each (suc k)))

one_of_all : (p : OldTail → Bool) (notes : List OldTail) (k : ℕ) (note : OldTail)
    → list_all p notes ≡ true → slice_get notes k ≡ Some note → p note ≡ true
one_of_all p [] k note all is = cc
one_of_all p (x ∷ notes) zero note all is =
    ap p (sym (same_Some x note is)) ∙ (and_parts (p x) (list_all p notes) all).0
one_of_all p (x ∷ notes) (suc k) note all is =
    one_of_all p notes k note (and_parts (p x) (list_all p notes) all).1 is

-- the tail that is noted among all notes is the one that the first journal with the inode has noted
joined_tail : (xs ys : List OldTail) (ino tail : ℕ)
    → noted_or (tail_noted xs ino) (noted_or (tail_noted ys ino) tail)
    ≡ noted_or (tail_noted (xs ++ ys) ino) tail
joined_tail [] ys ino tail = refl
joined_tail (x ∷ xs) ys ino tail = go (x.ino == ino) (joined_tail xs ys ino tail) where
  go : (b : Bool)
      → noted_or (tail_noted xs ino) (noted_or (tail_noted ys ino) tail)
      ≡ noted_or (tail_noted (xs ++ ys) ino) tail
      → noted_or
      (option_map (λ (t : OldTail). t.tail)
      (cond b (Some x) (find (λ (t : OldTail). t.ino == ino) xs)))
      (noted_or (tail_noted ys ino) tail)
      ≡ noted_or
      (option_map (λ (t : OldTail). t.tail)
      (cond b (Some x) (find (λ (t : OldTail). t.ino == ino) (xs ++ ys))))
      tail
  go true more = refl
  go false more = more

settled_by_notes : (journals : List (List OldTail)) (ino tail : ℕ)
    → settled_tail journals ino tail ≡ noted_or (tail_noted (all_notes journals) ino) tail
settled_by_notes [] ino tail = refl
settled_by_notes (tails ∷ journals) ino tail =
    ap (noted_or (tail_noted tails ino)) (settled_by_notes journals ino tail)
    ∙ joined_tail tails (all_notes journals) ino tail

-- where no inode stands twice, the tail noted for the inode of a note is the note's
own_noted : (notes : List OldTail) (k : ℕ) (note : OldTail) → are_apart notes ≡ true
    → slice_get notes k ≡ Some note → tail_noted notes note.ino ≡ Some note.tail
own_noted [] k note apart is = cc
own_noted (x ∷ notes) zero note apart is =
    let same : x ≡ note = same_Some x note is in
    let here : (x.ino == note.ino) ≡ true =
    eq-eqb x.ino note.ino (ap (λ (t : OldTail). t.ino) same) in
    rw here (ap (λ (t : OldTail). Some t.tail) same)
own_noted (x ∷ notes) (suc k) note apart is =
    go (x.ino == note.ino) refl (own_noted notes k note parts.1 is) where
      parts : (list_all (λ (t : OldTail). not (t.ino == x.ino)) notes ≡ true)
          × (are_apart notes ≡ true)
      parts = and_parts (list_all (λ (t : OldTail). not (t.ino == x.ino)) notes) (are_apart notes)
          apart

      differs : not (note.ino == x.ino) ≡ true
      differs = one_of_all (λ (t : OldTail). not (t.ino == x.ino)) notes k note parts.0 is

      go : (b : Bool) → (x.ino == note.ino) ≡ b → tail_noted notes note.ino ≡ Some note.tail
          → option_map (λ (t : OldTail). t.tail)
          (cond b (Some x) (find (λ (t : OldTail). t.ino == note.ino) notes))
          ≡ Some note.tail
      go true e more =
          let same : (note.ino == x.ino) ≡ true =
          eq-eqb note.ino x.ino (sym (eqb-true x.ino note.ino e)) in
          absurd (false≢true (sym (ap not same) ∙ differs))
      go false e more = more

-- ---- slots that a call writes

filter_true : (f : ℕ → Bool) (xs : List ℕ) (n : ℕ) → has (filter f xs) n ≡ true → f n ≡ true
filter_true f [] n there = absurd (false≢true there)
filter_true f (x ∷ xs) n there = go (f x) refl there (filter_true f xs n) where
  at : (b : Bool) → (x == n) ≡ b → f x ≡ true → (b || has (filter f xs) n) ≡ true
      → (has (filter f xs) n ≡ true → f n ≡ true) → f n ≡ true
  at true e passes is more = ap f (sym (eqb-true x n e)) ∙ passes
  at false e passes is more = more is

  go : (b : Bool) → f x ≡ b → has (cond b (x ∷ filter f xs) (filter f xs)) n ≡ true
      → (has (filter f xs) n ≡ true → f n ≡ true) → f n ≡ true
  go true passes is more = at (x == n) refl passes is more
  go false fails is more = more is

some_entries : (commit epoch place : ℕ) (items : List Item) → 0 < length items
    → 0 < length (entries_of commit epoch place items)
some_entries commit epoch place [] some = absurd (omega (arith, some))
some_entries commit epoch place (item ∷ items) some = omega arith

-- entries stand on pages
some_page : (page : ℕ) (chain : ChainState) → AreOnPages page chain → 0 < length chain.entries
    → 0 < length chain.blocks
some_page page chain is some = go chain.ends refl where
  go : (ends : List ℕ) → chain.ends ≡ ends → 0 < length chain.blocks
  go [] e =
      let none : 0 ≡ length chain.entries =
      subst (λ (l : List ℕ). AreEnds page 0 l (length chain.entries)) e is.parted in
      absurd (omega (arith, none, some))
  go (end ∷ ends) e =
      let few = is.each in
      let many = ap (λ (l : List ℕ). length l) e in
      omega (arith, few, many)

-- ---- a world

module _ (g : GeometryNumbers) (start : World) (records : List Record) (events : List Event)
    (is_start : IsStart g start records) where
  abbrev w : World
  w = after start events

  abbrev s : Shared
  s = w.shared

  abbrev image : ImageValue
  image = image_of w

  abbrev notes : List OldTail
  notes = all_notes s.book.journals

  whole : IsWhole g w (records_after start events records)
  whole = all_whole g start records events is_start

  known : IsReached w
  known = reached g start records events is_start

  once : NotesOnce s
  once = all_once g start records events is_start

  -- a note that the call of an actor has made
  module _ (b cpu : ℕ) (r : Running) (k : Next) (noted : HasNoted s cpu (written_slots r))
      (grown : HasGrown k s b r)
      (appended : (ino : ℕ) → has (written_slots r) ino ≡ true
      → is_appended k (written_slots r) ino ≡ true)
      (owned : (ino : ℕ) → has (written_slots r) ino ≡ true → owner_at s ino ≡ Some b) where
    module _ (n : ℕ) (note : OldTail) (is : slice_get notes n ≡ Some note) where
      tail_is : (tail : ℕ) → settled_tail s.book.journals note.ino tail ≡ note.tail
      tail_is tail =
          settled_by_notes s.book.journals note.ino tail
          ∙ ap (λ (o : Option ℕ). noted_or o tail) (own_noted notes n note once is)

      written : has (written_slots r) note.ino ≡ true
      written = go (has (written_slots r) note.ino) refl where
        go : (c : Bool) → has (written_slots r) note.ino ≡ c → c ≡ true
        go true e = refl
        go false e =
            let own = noted.free note.ino (note.tail + 1) e in
            let is = tail_is (note.tail + 1) in absurd (omega (arith, own, is))

      low : note.tail ≤ (cell_at s note.ino).chain.tail
      low =
          let older = noted.older note.ino in
          let is = tail_is (cell_at s note.ino).chain.tail in omega (arith, older, is)

      long : 0 < length (cell_at s note.ino).chain.entries
      long =
          let planned = ltb-true 0 (length (items_for r.plan note.ino))
          (filter_true (is_written r.plan) r.slots note.ino written) in
          let some : 0 < length (entries_for r note.ino) =
          some_entries r.commit r.epoch _ (items_for r.plan note.ino) planned in
          let all = ap (λ (l : List Entry). length l)
          (grown.entries note.ino (owned note.ino written)
          ∙ ap (λ (c : Bool). settled s note.ino ++ fresh_entries c r note.ino)
          (appended note.ino written)) in
          omega (arith, some, all, length-append (settled s note.ino) (entries_for r note.ino))

      paged : 0 < length (cell_at s note.ino).chain.blocks
      paged = at_cell (λ (c : CellState). 0 < length c.chain.entries → 0 < length c.chain.blocks)
          s note.ino
          (λ lt some. some_page g.page (cell_at s note.ino).chain
          (on_pages g is_start.limits w (records_after start events records) whole note.ino lt)
          some)
          (λ some. absurd (omega (arith, some))) long

      is_good : is_note_good image note ≡ true
      is_good =
          subst (λ (slot : SlotImageValue).
          (nat_lt 0 (length slot.chain.pages) && nat_le note.tail slot.chain.tail) ≡ true)
          (sym (slot_is w note.ino))
          (and_from (nat_lt 0 (length (cell_at s note.ino).chain.blocks))
          (nat_le note.tail (cell_at s note.ino).chain.tail)
          (lt-ltb 0 (length (cell_at s note.ino).chain.blocks) paged)
          (le-leb note.tail (cell_at s note.ino).chain.tail low))

  abbrev AllGood : Type 0
  AllGood = list_all (is_note_good image) notes ≡ true

  none_good : AreClosed s.book.journals → AllGood
  none_good closed =
      ap (λ (l : List OldTail). list_all (is_note_good image) l)
      (none_noted s.book.journals closed)

  -- by what a call knows that commits
  module _ (b : ℕ) (r : Running) (runs : (actor_at w b).running ≡ Some r) where
    holds : HoldsIts s b (Some r)
    holds = subst (λ (o : Option Running). HoldsIts s b o) runs (known.locks.each b)

    grown_now : HasGrown r.next s b r
    grown_now = subst (λ (o : Option Running). HasGrownBy o s b) runs (known.grown.each b)

    owned : (k : Next) → r.next ≡ k → held_at k r.slots ≡ r.slots → (ino : ℕ)
        → has (written_slots r) ino ≡ true → owner_at s ino ≡ Some b
    owned k next all ino there =
        slot_owned b s r ino holds
        (ap (λ (n : Next). has (held_at n r.slots) ino) next ∙ ap (λ (l : List ℕ). has l ino) all
        ∙ has_filter (is_written r.plan) r.slots ino there)

    noted_good : (k : Next) → r.next ≡ k → held_at k r.slots ≡ r.slots
        → ((ino : ℕ) → has (written_slots r) ino ≡ true
        → is_appended k (written_slots r) ino ≡ true)
        → HasNoted s (b % length s.lists) (written_slots r) → AllGood
    noted_good k next all appended noted =
        each_good (is_note_good image) notes
        (is_good b (b % length s.lists) r k noted
        (subst (λ (n : Next). HasGrown n s b r) next grown_now) appended (owned k next all))

    published : (place : ℕ) → r.next ≡ Publish place → (c : Bool)
        → IsNotedIf c s (b % length s.lists) (written_slots r) → AllGood
    published place next true noted =
        noted_good (Publish place) next refl (λ ino there. there) noted
    published place next false closed = none_good closed

    by_kind : (k : Next) → r.next ≡ k → commits_at k ≡ true
        → Knows k w.numbers.block s (b % length s.lists) (actor_at w b).hand r → AllGood
    by_kind (Append place) next commits knows = none_good knows.2
    by_kind Open next commits knows = none_good knows.2
    by_kind (Publish place) next commits knows =
        published place next (nat_lt 1 (length (written_slots r))) knows.2
    by_kind Close next commits knows =
        noted_good Close next refl (λ ino there. there) knows.2
    by_kind (Retire place) next commits knows = none_good knows.2
    by_kind Leave next commits knows = none_good knows.1
    by_kind other next commits knows = absurd (false≢true commits)

    by_call : commits_at r.next ≡ true → AllGood
    by_call commits =
        by_kind r.next refl commits
        (subst (λ (o : Option Running).
        KnowsOf o w.numbers.block s (b % length s.lists) (actor_at w b).hand) runs
        (known.kept.each b))

  all_good : AllGood
  all_good = go s.holder refl where
    by_holder : (b : ℕ) → s.holder ≡ Some b → (running : Option Running)
        → (actor_at w b).running ≡ running → AllGood
    by_holder b held running is = at running is
        (sym (known.locks.each b).holder ∙ ap (is_owner b) held ∙ eq-eqb b b refl) where
          at : (o : Option Running) → (actor_at w b).running ≡ o
              → commits_by (actor_at w b).running ≡ true → AllGood
          at None none commits = absurd (false≢true (sym (ap commits_by none) ∙ commits))
          at (Some r) some commits = by_call b r some (sym (ap commits_by some) ∙ commits)

    go : (holder : Option ℕ) → s.holder ≡ holder → AllGood
    go None free = none_good (known.kept.logs.closed free)
    go (Some b) held = by_holder b held (actor_at w b).running refl

  -- NO FAULT 'journal'
  pub journals_good : are_journals_good (image_of (after start events)) ≡ true
  journals_good = and_from (list_all (is_note_good image) notes) (are_apart notes) all_good once
