use Rattle.std.proofs.Common.{◌≡◌, ℕ, ◌+◌, ◌-◌, ◌*◌, ◌≤◌, List, Option, min, arith, refl, ap, sym, ◌∙◌, subst, take, rules}
use Rattle.std.proofs.lemmas.Grind.{div_ceil_times}
use Rattle.nv_alloc.specs.Block.{BlockValue}
use Rattle.nv_entry.specs.Bytes.{read_at}
use Rattle.nv_entry.specs.Keys.{pages_for}
use Rattle.nv_entry.specs.Node.{size_now}
use Rattle.nv_cell.specs.Cell.{AreSlotsSized, CellValue, IsCell, log_of}
use Rattle.nv_cell.specs.Fields.{state_in}
use Rattle.nv_cell.specs.Pages.{AreBytesOf, own_bytes, pages_now}
use Rattle.nv_cell.specs.Slots.{page_slot}
use Rattle.nv_cell.proofs.PartSlots.{slots_begin}
use Rattle.nv_cell.proofs.ReadAt.{read_cut, read_none}
use Rattle.nv_cell.proofs.PageBlocks.{file_is, pages_are, slots_sized}
use Rattle.nv_cell.proofs.cell.InodeCell.read.Goals as goal

pub read_pages-requires-clause-slots : goal.read_pages-requires-clause-slots
read_pages-requires-clause-slots c = slots_begin c.self.inside c.self.invariant

pub read_pages-requires-clause-sized : goal.read_pages-requires-clause-sized
read_pages-requires-clause-sized c =
    let i = c.self.inside in
    let inv = c.self.invariant in
    subst (AreSlotsSized i.block) (sym c.deref.ensures.value)
    (slots_sized i.block i.chain.state.entries i.blocks.items inv.slots inv.blocks.sized)

-- the bytes that were read are the file's, by its blocks
read : (c : goal.After-from_vec) → c.from_vec.result ≡ read_at c.args.at c.args.len (own_bytes (state_in c.self.inside))
read c =
    let s = state_in c.self.inside in
    let inv = c.self.invariant in
    let size : ℕ = size_now s.block (log_of s) in
    let numbers : ℕ → Option ℕ = page_slot s.chain.entries c.self.inside.index in
    let own : List (Option BlockValue) = c.self.inside.blocks.items in
    let all : List ℕ = pages_now s.block own numbers (pages_for s.block size) in
    let ended : c.min-end.result ≡ min size (c.args.at + c.args.len) =
    omega (arith, c.min-end.ensures, c.saturating_add.ensures, c.size_of-size.ensures, c.size_of-size.type_inv) in
    let begun : c.min-start.result ≡ min c.args.at c.min-end.result = c.min-start.ensures in
    let fits : c.min-end.result ≤ pages_for s.block size * s.block = omega (arith, ended, (div_ceil_times size s.block inv.some).0) in
    let slots : c.deref.result.now ≡ own = c.deref.ensures.value in
    let pages : c.read_pages.new.bytes.items ≡ read_at c.min-start.result (c.min-end.result - c.min-start.result) all =
    c.in_ok-read_pages.ensures (pages_for s.block size) fits
    ∙ ap (λ (xs : List (Option BlockValue)). read_at c.min-start.result (c.min-end.result - c.min-start.result)
    (pages_now s.block xs numbers (pages_for s.block size))) slots in
    c.from_vec.ensures ∙ pages ∙ read_cut c.args.at c.args.len size c.min-start.result c.min-end.result all ended begun
    ∙ ap (λ (xs : List ℕ). read_at c.args.at c.args.len (take size xs)) (pages_are s own c.self.inside.index
    (pages_for s.block size) refl inv.slots c.holds_together.ensures.rising inv.refs)

pub returns-clause-own : goal.returns-clause-own
returns-clause-own c = rw (← c.self.view_is) (read c)

pub returns-clause-bytes : goal.returns-clause-bytes
returns-clause-bytes c bytes are =
    let s = state_in c.self.inside in
    let inv = c.self.invariant in
    let is : IsCell s =
    record { some = inv.some; chain = c.holds_together.ensures; pages = inv.pages; marks = inv.marks; blocks = inv.blocks } in
    rw (← c.self.view_is)
    (read c ∙ ap (read_at c.args.at c.args.len)
    (file_is s bytes is (subst (λ (v : CellValue). AreBytesOf v.state bytes) (sym c.self.view_is) are)))

-- where no byte is asked for or none lies there, none is read
nothing : (c : goal.After-empty) (all : List ℕ)
    → c.empty.result ≡ read_at c.args.at c.args.len (take (size_now c.self.inside.block (log_of (state_in c.self.inside))) all)
nothing c all =
    let s = state_in c.self.inside in
    let size : ℕ = size_now s.block (log_of s) in
    let ended : c.min-end.result ≡ min size (c.args.at + c.args.len) =
    omega (arith, c.min-end.ensures, c.saturating_add.ensures, c.size_of-size.ensures, c.size_of-size.type_inv) in
    let same : c.min-start.result ≡ c.min-end.result = search rules in
    c.empty.ensures ∙ read_none c.args.at c.args.len size c.min-start.result c.min-end.result all ended c.min-start.ensures same

pub returns-then-start-end-clause-own : goal.returns-then-start-end-clause-own
returns-then-start-end-clause-own c = rw (← c.self.view_is) (nothing c _)

pub returns-then-start-end-clause-bytes : goal.returns-then-start-end-clause-bytes
returns-then-start-end-clause-bytes c bytes are = rw (← c.self.view_is) (nothing c _)
