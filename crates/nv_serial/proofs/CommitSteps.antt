-- What each step of a commit makes of logs, of records and of the plain world.
use Rattle.std.proofs.Common.{◌≡◌, ◌∙◌, ℕ, ◌+◌, ◌<◌, ◌≤◌, ◌++◌, Bool, true, false, List, [], ◌∷◌, ap, arith, drop, filter, length, length-take, map, refl, subst, sym, take}
use Rattle.std.specs.Prelude.{option_to_list}
use Rattle.std.specs.List.{AllByRecursion, flat_map}
use Rattle.std.proofs.lemmas.Bool.{false≢true}
use Rattle.std.proofs.lemmas.List.{drop-append-le, length-map, take-append-le}
use Rattle.std.proofs.lemmas.List.Sums.{sum_by-cons}
use Rattle.nv_alloc.specs.Block.{BlockValue, numbers_of}
use Rattle.nv_alloc.specs.Numbers.{IsRising, has}
use Rattle.nv_book.specs.declared.record.Record.{Record}
use Rattle.nv_calls.proofs.Appends.{map-drop, map-take}
use Rattle.nv_calls.proofs.Retires.{chain_stays, generation_stays}
use Rattle.nv_calls.specs.Retiring.{erased, name_of, retired}
use Rattle.nv_calls.specs.Slots.{items_for}
use Rattle.nv_calls.specs.declared.call.Call.{Call}
use Rattle.nv_calls.specs.declared.plan.InodePlan.{InodePlan}
use Rattle.nv_cell.specs.Cell.{CellState, killed_by, published}
use Rattle.nv_cell.specs.Numbers.{killed_numbers, killed_part}
use Rattle.nv_cell.specs.Readers.{is_erased, is_gone}
use Rattle.nv_cell.specs.declared.killed.KilledPart.{KilledPart}
use Rattle.nv_entry.specs.Held.{Retention, keeps}
use Rattle.nv_entry.specs.Log.{pairs}
use Rattle.nv_entry.specs.declared.held.Pair.{Pair}
use Rattle.nv_entry.specs.declared.item.Entry.{Entry}
use Rattle.nv_epoch.specs.SnapList.{ids}
use Rattle.nv_log.specs.Chain.{ChainState, pages_for}
use Rattle.nv_machine.specs.Erasing.{IsOver, keepers_of}
use Rattle.nv_machine.specs.Held.{is_of_slot}
use Rattle.nv_machine.specs.Kinds.{with_entries, with_erased, with_log_pages}
use Rattle.nv_machine.specs.Reads.{pages_needed, pages_wanted, slot_at}
use Rattle.nv_machine.specs.Recorded.{with_parts}
use Rattle.nv_machine.specs.Settled.{settled}
use Rattle.nv_machine.specs.World.{HandState, Shared, cell_at, with_cell}
use Rattle.nv_machine.proofs.CommitPoints.{paged_tail, tail_keeps}
use Rattle.nv_machine.proofs.FiledSteps.{retired_block}
use Rattle.nv_machine.proofs.Lists.{has_at, take_apart}
use Rattle.nv_machine.proofs.LogsKept.{cell_set}
use Rattle.nv_machine.proofs.PartsFor.{slots_from, slots_to}
use Rattle.nv_serial.proofs.AloneStages.{PlainState}
use Rattle.nv_serial.proofs.CommitStages.{IsGrown, IsOverThen, IsSettled, LogAt, kept_by, entries_at, entries_on, fresh, front, killed_at, log_then, pages_on, records_on, untailed}
use Rattle.nv_serial.proofs.LogsGrown.{drop_two, front_at, grown_block, grown_chain, grown_entries, grown_generation, has_here, has_there, map_to, sum_to}

-- what an erased cell leaves in the hand keeps what was killed
pub erased_killed : (ino : ℕ) (cell : CellState) (h : HandState) → (with_erased ino cell h).killed ≡ h.killed
erased_killed ino cell h = go (is_erased cell) refl where
  go : (b : Bool) → is_erased cell ≡ b → (with_erased ino cell h).killed ≡ h.killed
  go true e = rw e refl
  go false e = rw e refl

module _ (block actor : ℕ) (s0 : Shared) (c : Call) (b0 : PlainState) (plans : List InodePlan) (commit epoch : ℕ) (written : List ℕ) where
  abbrev Logs : (grown settled : List ℕ) → Shared → Type 0
  Logs grown settled s = (ino : ℕ) → LogAt block actor s0 c b0 plans commit epoch (has grown ino) (has settled ino) written ino (cell_at s ino)

  abbrev Grown : ℕ → CellState → Type 0
  Grown ino cell = IsGrown block actor s0 c b0 plans commit epoch written ino cell

  abbrev Settled : ℕ → CellState → Type 0
  Settled ino cell = IsSettled block actor s0 c b0 plans commit epoch written ino cell

  abbrev Over : ℕ → Type 0
  Over ino = IsOverThen block actor s0 c b0 plans commit epoch ino

  abbrev Tails : List ℕ → Shared → Type 0
  Tails published s = (ino : ℕ) → has published ino ≡ false → (cell_at s ino).chain.tail ≡ (cell_at s0 ino).chain.tail

  abbrev killed_of : ℕ → List KilledPart
  killed_of ino = killed_at block actor s0 c b0 plans commit epoch ino

  module _ (rising : IsRising written) (place : ℕ) (inside : place < length written) (s : Shared) (low : slot_at written place < length s.cells) where
    abbrev slot : ℕ
    slot = slot_at written place

    abbrev cell : CellState
    cell = cell_at s slot

    apart : has (take place written) slot ≡ false
    apart = take_apart place written rising inside

    there : has written slot ≡ true
    there = has_at written place inside

    -- ---- append

    module _ (logs : Logs (take place written) [] s) where
      pub cell_is : cell ≡ cell_at s0 slot
      cell_is = subst (λ (b : Bool). LogAt block actor s0 c b0 plans commit epoch b false written slot cell) apart (logs slot)

      abbrev needed : ℕ
      needed = pages_needed s plans slot

      needed_is : needed ≡ pages_needed s0 plans slot
      needed_is = ap (λ (x : CellState). pages_for x.chain (length (items_for plans slot))) cell_is

      -- the front of the hand's pages has those of the slot
      module _ (pages : List BlockValue) (rest : List ℕ)
          (are : numbers_of pages ++ rest ≡ drop (pages_wanted s0 (take place written) plans) (fresh block actor s0 c b0))
          (enough : length pages ≡ pages_wanted s (drop place written) plans) where
        few : needed ≤ length (numbers_of pages)
        few =
            let sum : pages_wanted s (drop place written) plans ≡ needed + pages_wanted s (drop (place + 1) written) plans =
            ap (λ (l : List ℕ). pages_wanted s l plans) (slots_from place written inside)
            ∙ sum_by-cons (pages_needed s plans) slot (drop (place + 1) written) in
            omega (arith, sum, enough, length-map pages (λ (b : BlockValue). b.number))

        taken : numbers_of (take needed pages)
            ≡ take (pages_needed s0 plans slot) (drop (pages_wanted s0 (front slot written) plans) (fresh block actor s0 c b0))
        taken =
            map-take needed pages ∙ sym (take-append-le needed (numbers_of pages) rest few) ∙ ap (take needed) are
            ∙ ap (λ (n : ℕ). take n (drop (pages_wanted s0 (take place written) plans) (fresh block actor s0 c b0))) needed_is
            ∙ ap (λ (l : List ℕ). take (pages_needed s0 plans slot) (drop (pages_wanted s0 l plans) (fresh block actor s0 c b0)))
            (sym (front_at place written rising inside))

        pub left_pages : numbers_of (drop needed pages) ++ rest
            ≡ drop (pages_wanted s0 (take (place + 1) written) plans) (fresh block actor s0 c b0)
        left_pages =
            ap (λ (l : List ℕ). l ++ rest) (map-drop needed pages)
            ∙ sym (drop-append-le needed (numbers_of pages) rest few) ∙ ap (drop needed) are
            ∙ drop_two needed (pages_wanted s0 (take place written) plans) (fresh block actor s0 c b0)
            ∙ ap (λ (n : ℕ). drop n (fresh block actor s0 c b0))
            (ap (λ (n : ℕ). pages_wanted s0 (take place written) plans + n) needed_is
            ∙ sym (sum_to (pages_needed s0 plans) place written inside))

        module _ (blocks : List BlockValue) where
          abbrev entries : List Entry
          entries = entries_at block actor s0 c b0 plans commit epoch slot

          abbrev grown : CellState
          grown = with_entries entries blocks (with_log_pages (take needed pages) cell)

          grown_is : Grown slot grown
          grown_is = record {
            pages = take needed pages;
            many = (let len = length-take needed pages in
                omega (arith, len, few, needed_is, length-map pages (λ (b : BlockValue). b.number)));
            numbers = taken;
            chain = ap untailed (grown_chain entries blocks (take needed pages) cell
                ∙ ap (λ (x : CellState). entries_on entries (pages_on (take needed pages) x.chain)) cell_is);
            generation = grown_generation entries blocks (take needed pages) cell ∙ ap (λ (x : CellState). x.generation) cell_is;
            size_is = grown_block entries blocks (take needed pages) cell ∙ ap (λ (x : CellState). x.block) cell_is;
          }

          pub appended_logs : Logs (take (place + 1) written) [] (with_cell slot grown s)
          appended_logs ino = cell_set s slot grown ino
              (λ (x : CellState). LogAt block actor s0 c b0 plans commit epoch (has (take (place + 1) written) ino) false written ino x) low
              (λ here. subst (λ (b : Bool). LogAt block actor s0 c b0 plans commit epoch b false written ino grown)
              (sym (has_here place written inside ino here)) (subst (λ (n : ℕ). Grown n grown) here grown_is))
              (λ other. subst (λ (b : Bool). LogAt block actor s0 c b0 plans commit epoch b false written ino (cell_at s ino))
              (sym (has_there place written inside ino other)) (logs ino))

          pub appended_tails : Tails [] s → Tails [] (with_cell slot grown s)
          appended_tails tails ino none = cell_set s slot grown ino (λ (x : CellState). x.chain.tail ≡ (cell_at s0 ino).chain.tail) low
              (λ here. tail_keeps entries blocks (with_log_pages (take needed pages) cell) ∙ paged_tail (take needed pages) cell
              ∙ tails slot refl ∙ ap (λ (n : ℕ). (cell_at s0 n).chain.tail) here)
              (λ other. tails ino none)

    -- ---- publish

    module _ (logs : Logs written [] s) where
      pub grown_now : Grown slot cell
      grown_now = subst (λ (b : Bool). LogAt block actor s0 c b0 plans commit epoch b false written slot cell) there (logs slot)

      publish_grown : (ino : ℕ) (x : CellState) → Grown ino x → Grown ino (published x)
      publish_grown ino x g = record {
        pages = g.pages;
        many = g.many;
        numbers = g.numbers;
        chain = g.chain;
        generation = g.generation;
        size_is = g.size_is;
      }

      pub published_logs : Logs written [] (with_cell slot (published cell) s)
      published_logs ino = cell_set s slot (published cell) ino
          (λ (x : CellState). LogAt block actor s0 c b0 plans commit epoch (has written ino) false written ino x) low
          (λ here. subst (λ (n : ℕ). LogAt block actor s0 c b0 plans commit epoch (has written n) false written n (published cell)) here
          (subst (λ (b : Bool). LogAt block actor s0 c b0 plans commit epoch b false written slot (published cell)) (sym there)
          (publish_grown slot cell grown_now)))
          (λ other. logs ino)

      pub published_tails : Tails (take place written) s → Tails (take (place + 1) written) (with_cell slot (published cell) s)
      published_tails tails ino none = cell_set s slot (published cell) ino (λ (x : CellState). x.chain.tail ≡ (cell_at s0 ino).chain.tail) low
          (λ here. absurd (false≢true (sym none ∙ has_here place written inside ino here)))
          (λ other. tails ino (sym (has_there place written inside ino other) ∙ none))

      -- its log has the entries
      log_is : cell.chain.entries ≡ log_then block actor s0 c b0 plans commit epoch slot
      log_is =
          ap (λ (x : ChainState). x.entries) grown_now.chain
          ∙ grown_entries (entries_at block actor s0 c b0 plans commit epoch slot) grown_now.pages (cell_at s0 slot).chain

      abbrev kills : ℕ → List Entry → ℕ → List KilledPart
      kills size log tail = flat_map (λ n. option_to_list (killed_part log n)) (killed_numbers size log tail)

      pub killed_is : Tails (take place written) s → killed_by cell ≡ killed_of slot
      killed_is tails =
          ap (λ (n : ℕ). kills n cell.chain.entries cell.chain.tail) grown_now.size_is
          ∙ ap (λ (l : List Entry). kills (cell_at s0 slot).block l cell.chain.tail) log_is
          ∙ ap (λ (n : ℕ). kills (cell_at s0 slot).block (log_then block actor s0 c b0 plans commit epoch slot) n) (tails slot apart)

      pub killed_more : Tails (take place written) s → (killed : List (List KilledPart)) → killed ≡ map killed_of (take place written)
          → killed ++ killed_by cell ∷ [] ≡ map killed_of (take (place + 1) written)
      killed_more tails killed are =
          ap (λ (l : List (List KilledPart)). l ++ killed_by cell ∷ []) are
          ∙ ap (λ (parts : List KilledPart). map killed_of (take place written) ++ parts ∷ []) (killed_is tails)
          ∙ sym (map_to killed_of place written inside)

    -- ---- retire

    module _ (logs : Logs written (take place written) s) where
      grown_yet : Grown slot cell
      grown_yet =
          subst (λ (b : Bool). LogAt block actor s0 c b0 plans commit epoch true b written slot cell) apart
          (subst (λ (b : Bool). LogAt block actor s0 c b0 plans commit epoch b (has (take place written) slot) written slot cell) there
          (logs slot))

      -- of a world with the snapshots and the deferred records of the start
      pub is_over_then : s.book.snaps ≡ s0.book.snaps → s.book.deferred ≡ s0.book.deferred → settled s slot ≡ cell.chain.entries
          → IsOver s.book.deferred s slot → Over slot
      is_over_then snaps deferred whole over =
          let log : settled s slot ≡ log_then block actor s0 c b0 plans commit epoch slot =
          whole ∙ ap (λ (x : ChainState). x.entries) grown_yet.chain
          ∙ grown_entries (entries_at block actor s0 c b0 plans commit epoch slot) grown_yet.pages (cell_at s0 slot).chain in
          let kept : keepers_of s.book.deferred s slot ≡ kept_by block actor s0 c b0 plans commit epoch slot =
          λ i. record {
            block = grown_yet.size_is i;
            snapshots = ids (snaps i);
            pending = map name_of (filter (is_of_slot slot) (deferred i));
          } in
          record {
            gone = sym (ap is_gone log) ∙ over.gone;
            kept =
                subst (λ (x : Retention). AllByRecursion (λ (pair : Pair). keeps x pair ≡ false)
                (pairs (cell_at s0 slot).block (log_then block actor s0 c b0 plans commit epoch slot))) kept
                (subst (λ (n : ℕ). AllByRecursion (λ (pair : Pair). keeps (keepers_of s.book.deferred s slot) pair ≡ false)
                (pairs n (log_then block actor s0 c b0 plans commit epoch slot))) grown_yet.size_is
                (subst (λ (l : List Entry). AllByRecursion (λ (pair : Pair). keeps (keepers_of s.book.deferred s slot) pair ≡ false)
                (pairs cell.block l)) log over.kept));
          }

      module _ (living : List ℕ) (parts : List KilledPart) where
        abbrev old : CellState
        old = retired living slot epoch parts cell

        settled_is : (is_erased old ≡ true → Over slot) → Settled slot (erased old)
        settled_is over = record {
          old = old;
          grown = record {
            pages = grown_yet.pages;
            many = grown_yet.many;
            numbers = grown_yet.numbers;
            chain = ap untailed (chain_stays living slot epoch parts cell) ∙ grown_yet.chain;
            generation = generation_stays living slot epoch parts cell ∙ grown_yet.generation;
            size_is = retired_block living slot epoch parts cell ∙ grown_yet.size_is;
          };
          is = refl;
          over = over;
        }

        pub retired_logs : (is_erased old ≡ true → Over slot) → Logs written (take (place + 1) written) (with_cell slot (erased old) s)
        retired_logs over ino = cell_set s slot (erased old) ino
            (λ (x : CellState). LogAt block actor s0 c b0 plans commit epoch (has written ino) (has (take (place + 1) written) ino) written ino x) low
            (λ here. subst (λ (b : Bool). LogAt block actor s0 c b0 plans commit epoch (has written ino) b written ino (erased old))
            (sym (has_here place written inside ino here))
            (subst (λ (n : ℕ). LogAt block actor s0 c b0 plans commit epoch (has written n) true written n (erased old)) here
            (subst (λ (b : Bool). LogAt block actor s0 c b0 plans commit epoch b true written slot (erased old)) (sym there) (settled_is over))))
            (λ other. subst (λ (b : Bool). LogAt block actor s0 c b0 plans commit epoch (has written ino) b written ino (cell_at s ino))
            (sym (has_there place written inside ino other)) (logs ino))

    -- the first of what is killed is of the slot
    pub killed_from : map killed_of (drop place written) ≡ killed_of slot ∷ map killed_of (drop (place + 1) written)
    killed_from = ap (map killed_of) (slots_from place written inside)

  -- ---- records

  records_append : (front back : List ℕ) (rs : List Record)
      → records_on block actor s0 c b0 plans commit epoch (front ++ back) rs
      ≡ records_on block actor s0 c b0 plans commit epoch back (records_on block actor s0 c b0 plans commit epoch front rs)
  records_append [] back rs = refl
  records_append (ino ∷ front) back rs = records_append front back (with_parts (ids s0.book.snaps) ino epoch (killed_of ino) rs)

  pub records_to : (place : ℕ) → place < length written → (rs : List Record)
      → with_parts (ids s0.book.snaps) (slot_at written place) epoch (killed_of (slot_at written place))
      (records_on block actor s0 c b0 plans commit epoch (take place written) rs)
      ≡ records_on block actor s0 c b0 plans commit epoch (take (place + 1) written) rs
  records_to place inside rs =
      sym (records_append (take place written) (slot_at written place ∷ []) rs)
      ∙ ap (λ (l : List ℕ). records_on block actor s0 c b0 plans commit epoch l rs) (sym (slots_to place written inside))
