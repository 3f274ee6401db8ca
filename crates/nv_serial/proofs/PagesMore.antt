-- How many more entries the pages of a log take, and how many more pages it gets, by its pages with
-- numbers.
use Rattle.std.proofs.Common.{◌≡◌, ℕ, suc, ◌+◌, ◌-◌, ◌*◌, ◌<◌, ◌≤◌, ◌∙◌, Bool, true, false, List, [], ◌∷◌, ap, arith, drop, get_or, if◌then◌else◌, length, length-drop, length-take, nat_lt, refl, sym, take}
use Rattle.std.specs.List.{AllByRecursion}
use Rattle.std.proofs.lemmas.Bool.{ltb-false, ltb-true}
use Rattle.nv_alloc.specs.Block.{BlockValue}
use Rattle.nv_base.specs.declared.geometry.GeometryNumbers.{GeometryNumbers}
use Rattle.nv_base.specs.declared.limits.TheConstants.{LEAST_PAGE_ENTRIES}
use Rattle.nv_book.specs.declared.record.Record.{Record}
use Rattle.nv_calls.specs.Slots.{items_for}
use Rattle.nv_calls.specs.declared.plan.InodePlan.{InodePlan}
use Rattle.nv_entry.specs.declared.item.Entry.{Entry}
use Rattle.nv_log.specs.Chain.{AreEnds, ChainState, open_page, pages_for, pages_in, parts_from, room_of, start_in}
use Rattle.nv_log.proofs.Parts.{AreSized-parts, in_order, length-parts, part_any, start_past}
use Rattle.nv_machine.specs.Pages.{AreOnPages}
use Rattle.nv_machine.specs.Reads.{pages_needed}
use Rattle.nv_machine.specs.Starts.{IsStart}
use Rattle.nv_machine.specs.World.{World, cell_at}
use Rattle.nv_serial.specs.Committed.{need_of}
use Rattle.nv_serial.specs.LogPages.{Page, has_more, pages_more, room_in}
use Rattle.nv_serial.specs.Serial.{NumberedSlot, Serial}
use Rattle.nv_serial.specs.Shown.{pages_told}
use Rattle.nv_serial.proofs.AtRestLogs.{slot_is, told_by}
use Rattle.nv_serial.proofs.AtRestReports.{told_many}
use Rattle.nv_serial.proofs.WithAll.{shown}

-- ---- the room of pages

-- one page more
one_more : (size n : ℕ) → size * suc n ≡ size * n + size
one_more size n = let step : suc n ≡ n + 1 = omega arith in ap (λ (k : ℕ). size * k) step
    ∙ omega arith

none_has : (blocks : List BlockValue) → has_more (pages_told blocks []) ≡ false
none_has [] = refl
none_has (b ∷ blocks) = none_has blocks

some_has : (b : BlockValue) (blocks : List BlockValue) (part : List Entry)
    (parts : List (List Entry)) → 0 < length part
    → has_more (pages_told (b ∷ blocks) (part ∷ parts)) ≡ true
some_has b blocks [] parts some = absurd (omega (arith, some))
some_has b blocks (e ∷ part) parts some = refl

-- the room of a page and of pages behind it
here : (size : ℕ) (p : Page) (pages : List Page) → has_more pages ≡ false
    → room_in size (p ∷ pages) ≡ (size - length p.entries) + size * length pages
here size p pages none =
    ap (λ b. if b then room_in size pages else (size - length p.entries) + size * length pages) none

behind : (size : ℕ) (p : Page) (pages : List Page) → has_more pages ≡ true
    → room_in size (p ∷ pages) ≡ room_in size pages
behind size p pages more = ap (λ b. if b then room_in size pages else (size - length p.entries)
    + size * length pages) more

room_fresh : (size : ℕ) (blocks : List BlockValue) → room_in size (pages_told blocks [])
    ≡ size * length blocks
room_fresh size [] = omega arith
room_fresh size (b ∷ blocks) =
    here size (record { number = b.number; entries = [] }) (pages_told blocks []) (none_has blocks)
    ∙ ap (λ (n : ℕ). (size - 0) + size * n) (told_many blocks [])
    ∙ (let more = one_more size (length blocks) in omega (arith, more))

abbrev Some : List Entry → Type 0
Some part = 0 < length part

room_parts : (size : ℕ) (blocks : List BlockValue) (part : List Entry) (parts : List (List Entry))
    → AllByRecursion Some (part ∷ parts)
    → length (part ∷ parts) ≤ length blocks → room_in size (pages_told blocks (part ∷ parts))
    ≡ (size - length (get_or (part ∷ parts) (length parts) [])) + size * (length blocks - length
    (part ∷ parts))
room_parts size [] part parts some le = absurd (omega (arith, le))
room_parts size (b ∷ blocks) part [] some le =
    let left : length blocks ≡ length (b ∷ blocks) - 1 = omega arith in
    here size (record { number = b.number; entries = part }) (pages_told blocks [])
    (none_has blocks)
    ∙ ap (λ (n : ℕ). (size - length part) + size * n) (told_many blocks [] ∙ left)
room_parts size (b ∷ []) part (next ∷ parts) some le = absurd (omega (arith, le))
room_parts size (b ∷ c ∷ blocks) part (next ∷ parts) some le =
    let left : length (c ∷ blocks) - length (next ∷ parts) ≡ length (b ∷ c ∷ blocks) - length
    (part ∷ next ∷ parts) = omega arith in
    behind size (record { number = b.number; entries = part })
    (pages_told (c ∷ blocks) (next ∷ parts))
    (some_has c blocks next parts some.1.0)
    ∙ room_parts size (c ∷ blocks) next parts some.1 (omega (arith, le))
    ∙ ap (λ (n : ℕ). (size - length (get_or (next ∷ parts) (length parts) [])) + size * n) left

only_some : (most : ℕ) (parts : List (List Entry))
    → AllByRecursion (λ (part : List Entry). (0 < length part) × (length part ≤ most)) parts
    → AllByRecursion Some parts
only_some most [] all = tt
only_some most (part ∷ parts) all = (all.0.0, only_some most parts all.1)

-- ---- of a chain

module _ (size : ℕ) (some : 1 ≤ size) (blocks : List BlockValue) (entries : List Entry) where
  abbrev len : ℕ
  len = length entries

  abbrev room_by : List ℕ → ℕ → ℕ
  room_by ends at = size * (length blocks - at) - (len - start_in ends len at)

  module _ (end : ℕ) (ends : List ℕ) (are : AreEnds size 0 (end ∷ ends) len)
      (paged : length (end ∷ ends) ≤ length blocks) where
    abbrev k : ℕ
    k = length ends

    abbrev held : ℕ
    held = len - start_in (end ∷ ends) len k

    stops : get_or (end ∷ ends) k len ≡ len
    stops = start_past size end ends len k are.2 (omega arith)

    last_many : length (get_or (parts_from 0 (end ∷ ends) entries) k []) ≡ held
    last_many =
        let part = part_any size (end ∷ ends) k entries are in
        let order = in_order size (end ∷ ends) len k are in
        let start : ℕ = get_or (0 ∷ end ∷ ends) k len in
        let cut = length-drop start entries in
        let taken = length-take (get_or (end ∷ ends) k len - start) (drop start entries) in
        omega (arith, ap length part, cut, taken, stops, order.0, order.1)

    last_k : length (end ∷ ends) - 1 ≡ k
    last_k = omega arith

    abbrev held_last : ℕ
    held_last = len - start_in (end ∷ ends) len (length (end ∷ ends) - 1)

    same_held : held_last ≡ held
    same_held = ap (λ (n : ℕ). len - start_in (end ∷ ends) len n) last_k

    -- where the last page with entries has a place left, and where it has none
    open_last : (b : Bool) → nat_lt held_last size ≡ b
        → (size - held) + size * (length blocks - length (end ∷ ends))
        ≡ room_by (end ∷ ends) (if b then length (end ∷ ends) - 1 else length (end ∷ ends))
    open_last true is =
        let low = ltb-true held_last size is in
        let step : length blocks - (length (end ∷ ends) - 1)
        ≡ suc (length blocks - length (end ∷ ends)) = omega (arith, paged) in
        let more = ap (λ (n : ℕ). size * n) step
        ∙ one_more size (length blocks - length (end ∷ ends)) in
        omega (arith, low, more, same_held)
    open_last false is =
        let high = ltb-false held_last size is in
        let past : start_in (end ∷ ends) len (length (end ∷ ends)) ≡ len =
        start_past size 0 (end ∷ ends) len (length (end ∷ ends)) are (omega arith) in
        omega (arith, high, past, same_held)

    room_some : room_in size (pages_told blocks (parts_from 0 (end ∷ ends) entries))
        ≡ room_by (end ∷ ends) (open_page size (end ∷ ends) len)
    room_some =
        let rest : List (List Entry) = parts_from end ends (drop (end - 0) entries) in
        let each = only_some size (parts_from 0 (end ∷ ends) entries)
        (AreSized-parts size 0 (end ∷ ends) len entries are (omega arith)) in
        let many : length rest ≡ k = length-parts end ends (drop (end - 0) entries) in
        room_parts size blocks (take (end - 0) entries) rest each (omega (arith, many, paged))
        ∙ ap (λ (n : ℕ). (size - length (get_or (parts_from 0 (end ∷ ends) entries) n [])) + size
        * (length blocks - suc n)) many
        ∙ ap (λ (n : ℕ). (size - n) + size * (length blocks - suc k)) last_many
        ∙ open_last (nat_lt held_last size) refl

  room_any : (ends : List ℕ) → AreEnds size 0 ends len → length ends ≤ length blocks
      → room_in size (pages_told blocks (parts_from 0 ends entries))
      ≡ room_by ends (open_page size ends len)
  room_any [] are paged =
      room_fresh size blocks ∙ go (nat_lt (len - start_in [] len (length {A = ℕ} [] - 1))
      size) where
        none : len ≡ 0
        none = sym are

        go : (b : Bool) → size * length blocks
            ≡ room_by [] (if b then length {A = ℕ} [] - 1 else length {A = ℕ} [])
        go true = let whole : length blocks - 0 ≡ length blocks = omega arith in
            let same = ap (λ (n : ℕ). size * n) whole in omega (arith, none, same)
        go false = let whole : length blocks - 0 ≡ length blocks = omega arith in
            let same = ap (λ (n : ℕ). size * n) whole in omega (arith, none, same)
  room_any (end ∷ ends) are paged = room_some end ends are paged

module _ (page : ℕ) (least : LEAST_PAGE_ENTRIES ≤ page) where
  -- THE ROOM of a chain, and HOW MANY PAGES it gets for so many entries
  pub room_is : (chain : ChainState) → AreOnPages page chain → room_in page (shown chain)
      ≡ room_of chain
  room_is chain on =
      room_any page (omega (arith, least)) chain.blocks chain.entries chain.ends on.parted on.each
      ∙ ap (λ (size : ℕ). size * (length chain.blocks - open_page size chain.ends
      (length chain.entries))
      - (length chain.entries - start_in chain.ends (length chain.entries)
      (open_page size chain.ends (length chain.entries))))
      (sym on.size)

  pub more_is : (chain : ChainState) (n : ℕ) → AreOnPages page chain → pages_more page (shown chain)
      n ≡ pages_for chain n
  more_is chain n on =
      ap (λ (room : ℕ). pages_in n page (length (shown chain)) room n) (room_is chain on)
      ∙ ap (λ (many : ℕ). pages_in n page many (room_of chain) n) (told_many chain.blocks _)
      ∙ ap (λ (size : ℕ). pages_in n size (length chain.blocks) (room_of chain) n) (sym on.size)

-- ---- where nothing runs

module _ (g : GeometryNumbers) (w : World) (rs : List Record) (is : IsStart g w rs) where
  abbrev s : Serial
  s = told_by g w rs

  pub need_is : (plan : List InodePlan) (ino : ℕ) → ino < g.inodes → need_of s plan ino
      ≡ pages_needed w.shared plan ino
  need_is plan ino lt =
      ap (λ (slot : NumberedSlot). pages_more g.page slot.pages (length (items_for plan ino)))
      (slot_is g w rs is ino)
      ∙ more_is g.page is.limits.some_entries (cell_at w.shared ino).chain
      (length (items_for plan ino)) (is.pages ino lt)
