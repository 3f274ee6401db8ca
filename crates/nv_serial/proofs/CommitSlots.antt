-- The slots of a commit are those of the world with numbers: one that the plan writes has its entries on its pages, and
-- another is as it was.
use Rattle.std.proofs.Common.{◌≡◌, ◌∙◌, ℕ, zero, suc, ◌+◌, ◌-◌, ◌<◌, ◌≤◌, ◌++◌, Bool, true, false, List, [], append-nil, ap, arith, drop, filter, length, nat_lt, refl, sym, take}
use Rattle.std.specs.List.{range_with_len, sum_by}
use Rattle.std.proofs.lemmas.List.{length-map}
use Rattle.std.proofs.lemmas.List.Sums.{sum_by-cons}
use Rattle.nv_alloc.specs.Block.{numbers_of}
use Rattle.nv_alloc.specs.Numbers.{has}
use Rattle.nv_base.specs.declared.geometry.GeometryNumbers.{GeometryNumbers}
use Rattle.nv_book.specs.declared.record.Record.{Record}
use Rattle.nv_calls.specs.Slots.{entries_of, items_for, place_in}
use Rattle.nv_calls.specs.declared.call.Call.{Call}
use Rattle.nv_calls.specs.declared.plan.InodePlan.{InodePlan}
use Rattle.nv_cell.specs.Cell.{CellState}
use Rattle.nv_entry.specs.Log.{IsLog}
use Rattle.nv_entry.specs.declared.item.Entry.{Entry}
use Rattle.nv_entry.specs.declared.item.Item.{Item}
use Rattle.nv_log.specs.Chain.{ChainState, pages_for, pages_of}
use Rattle.nv_machine.specs.Kinds.{with_entries, with_log_pages}
use Rattle.nv_machine.specs.Reads.{is_written, pages_needed, pages_wanted}
use Rattle.nv_machine.specs.Starts.{IsStart}
use Rattle.nv_machine.specs.World.{World, cell_at}
use Rattle.nv_machine.proofs.AppendsToCome.{appended_log}
use Rattle.nv_machine.proofs.EachElement.{all_weaker}
use Rattle.nv_machine.proofs.Lists.{all_has}
use Rattle.nv_serial.specs.Committed.{need_of, needs, slot_after}
use Rattle.nv_serial.specs.LogPages.{fresh as pages_with, pages_more, with_all}
use Rattle.nv_serial.specs.Serial.{NumberedSlot, Serial, slot_of}
use Rattle.nv_serial.specs.Shown.{pages_told, slot_told}
use Rattle.nv_serial.proofs.AloneStages.{PlainState}
use Rattle.nv_serial.proofs.AtRestLogs.{slot_is, told_by}
use Rattle.nv_serial.proofs.CommitStages.{ArePlanned, IsGrown, entries_at, fresh, front, untailed}
use Rattle.nv_serial.proofs.LogsGrown.{grown_chain, grown_generation}
use Rattle.nv_serial.proofs.PagesMore.{need_is}
use Rattle.nv_serial.proofs.SlotLists.{front_filter, length-entries, none_needed, slots_are, sum_filter}
use Rattle.nv_serial.proofs.WithAll.{told_all}

-- sums of the same over slots from one on
pub sum_range : (f k : ℕ → ℕ) (n from : ℕ) → ((x : ℕ) → from ≤ x → x < from + n → f x ≡ k x)
    → sum_by f (range_with_len from n) ≡ sum_by k (range_with_len from n)
sum_range f k zero from same = refl
sum_range f k (suc n) from same =
    let one = sum_by-cons f from (range_with_len (from + 1) n) in
    let other = sum_by-cons k from (range_with_len (from + 1) n) in
    let here = same from (omega arith) (omega arith) in
    let more = sum_range f k n (from + 1) (λ x ge lt. same x (omega (arith, ge)) (omega (arith, lt))) in
    omega (arith, one, other, here, more)

module _ (g : GeometryNumbers) (w : World) (rs : List Record) (is : IsStart g w rs) (actor : ℕ) (c : Call) (b0 : PlainState) (plan : List InodePlan)
    (slots : List ℕ) (planned : ArePlanned g.block actor w.shared c b0 plan slots) where
  abbrev s : Serial
  s = told_by g w rs

  abbrev commit : ℕ
  commit = w.shared.book.commit + 1

  abbrev epoch : ℕ
  epoch = w.shared.book.snaps.epoch

  abbrev numbers : List ℕ
  numbers = fresh g.block actor w.shared c b0

  abbrev many : ℕ
  many = length w.shared.cells

  -- ---- which slots these are

  has_written : (ino : ℕ) → is_written plan ino ≡ true → has slots ino ≡ true
  has_written ino is_it = go (has slots ino) refl where
    go : (b : Bool) → has slots ino ≡ b → b ≡ true
    go true e = refl
    go false e =
        let none = ap (λ (items : List Item). nat_lt 0 (length items)) (planned.others ino e) in
        let clash : true ≡ false = sym is_it ∙ none in cc

  pub slots_all : slots ≡ filter (is_written plan) (range_with_len 0 many)
  slots_all = slots_are (is_written plan) many 0 slots (record {
    rise = planned.rising;
    low = all_weaker (λ ino. ino < many) (λ ino. 0 ≤ ino) (λ ino lt. omega arith) slots planned.inside;
    high = all_weaker (λ ino. ino < many) (λ ino. ino < 0 + many) (λ ino lt. omega (arith, lt)) slots planned.inside;
    pass = planned.written;
    every = λ ino ge lt is_it. has_written ino is_it;
  })

  -- all pages that it needs
  pub needs_are : pages_wanted w.shared slots plan ≡ needs s plan
  needs_are =
      ap (λ (l : List ℕ). pages_wanted w.shared l plan) slots_all
      ∙ sum_filter (is_written plan) (pages_needed w.shared plan) (none_needed w.shared plan) (range_with_len 0 many)
      ∙ sum_range (pages_needed w.shared plan) (need_of s plan) many 0
      (λ x ge lt. sym (need_is g w rs is plan x (omega (arith, lt, is.slots))))
      ∙ ap (λ (n : ℕ). sum_by (need_of s plan) (range_with_len 0 n)) (sym (length-map w.shared.cells slot_told))

  module _ (ino : ℕ) (low : ino < g.inodes) where
    abbrev cell : CellState
    cell = cell_at w.shared ino

    inside : ino < many
    inside = omega (arith, low, is.slots)

    -- the pages of the slots before it
    before_is : has slots ino ≡ true → pages_wanted w.shared (front ino slots) plan ≡ sum_by (need_of s plan) (range_with_len 0 ino)
    before_is there =
        let p : ℕ → Bool = is_written plan in
        let zeroth : ino - 0 ≡ ino = omega arith in
        ap (λ (l : List ℕ). pages_wanted w.shared (front ino l) plan) slots_all
        ∙ ap (λ (l : List ℕ). pages_wanted w.shared l plan)
        (front_filter p many 0 ino (omega arith) (omega (arith, inside)) (all_has (λ x. p x ≡ true) slots ino planned.written there)
        ∙ ap (λ (n : ℕ). filter p (range_with_len 0 n)) zeroth)
        ∙ sum_filter p (pages_needed w.shared plan) (none_needed w.shared plan) (range_with_len 0 ino)
        ∙ sum_range (pages_needed w.shared plan) (need_of s plan) ino 0
        (λ x ge lt. sym (need_is g w rs is plan x (omega (arith, lt, low))))

    -- ---- one that the plan writes

    module _ (now : CellState) (grown : IsGrown g.block actor w.shared c b0 plan commit epoch slots ino now) (there : has slots ino ≡ true) where
      abbrev entries : List Entry
      entries = entries_at g.block actor w.shared c b0 plan commit epoch ino

      pub log_then : IsLog (cell.chain.entries ++ entries)
      log_then = (appended_log commit epoch (place_in plan ino) (items_for plan ino) cell.chain.entries (is.order ino)).ordered

      pub needed : pages_for cell.chain (length entries) ≡ length grown.pages
      needed =
          ap (pages_for cell.chain) (length-entries commit epoch (place_in plan ino) (items_for plan ino)) ∙ sym grown.many

      -- as if its cell had been appended to without blocks
      abbrev pub as_grown : CellState
      as_grown = with_entries entries [] (with_log_pages grown.pages cell)

      pub chain_is : untailed now.chain ≡ untailed as_grown.chain
      chain_is = grown.chain ∙ sym (ap untailed (grown_chain entries [] grown.pages cell))

      pub told_is : slot_told now ≡ slot_told as_grown
      told_is =
          let generation = grown.generation ∙ sym (grown_generation entries [] grown.pages cell) in
          let pages = ap (λ (chain : ChainState). pages_told chain.blocks (pages_of chain)) chain_is in
          λ i. record { generation = generation i; pages = pages i }

      numbers_are : numbers_of grown.pages ≡ take (need_of s plan ino) (drop (sum_by (need_of s plan) (range_with_len 0 ino)) numbers)
      numbers_are =
          grown.numbers
          ∙ ap (λ (n : ℕ). take n (drop (pages_wanted w.shared (front ino slots) plan) numbers)) (sym (need_is g w rs is plan ino low))
          ∙ ap (λ (n : ℕ). take (need_of s plan ino) (drop n numbers)) (before_is there)

      pub grown_told : slot_told now ≡ slot_after s plan numbers ino
      grown_told =
          told_is
          ∙ told_all g.page is.limits.some_entries is.limits.entries_fit entries [] grown.pages cell (is.pages ino low) log_then needed
          ∙ ap (λ (ns : List ℕ). let x : NumberedSlot = record (slot_told cell) {
            pages = with_all g.page entries ((slot_told cell).pages ++ pages_with ns);
          } in x) numbers_are
          ∙ ap (λ (slot : NumberedSlot). let x : NumberedSlot = record slot {
            pages = with_all g.page entries
                (slot.pages ++ pages_with (take (need_of s plan ino) (drop (sum_by (need_of s plan) (range_with_len 0 ino)) numbers)));
          } in x) (sym (slot_is g w rs is ino))

    -- ---- another

    pub other_told : has slots ino ≡ false → slot_after s plan numbers ino ≡ slot_of s ino
    other_told none =
        let slot = slot_of s ino in
        ap (λ (items : List Item). let x : NumberedSlot = record slot {
          pages = with_all g.page (entries_of commit epoch (place_in plan ino) items)
              (slot.pages ++ pages_with (take (pages_more g.page slot.pages (length items))
              (drop (sum_by (need_of s plan) (range_with_len 0 ino)) numbers)));
        } in x) (planned.others ino none)
        ∙ (let same = append-nil slot.pages in λ i. record { generation = slot.generation; pages = same i })
