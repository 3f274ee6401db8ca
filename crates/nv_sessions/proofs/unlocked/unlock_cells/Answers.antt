use Rattle.std.proofs.Common.{◌≡◌, ◌∙◌, ℕ, ap, arith, sym, vec_len}
use Rattle.std.specs.List.{range_with_len}
use Rattle.nv_sessions.specs.Fresh.{Owned}
use Rattle.nv_sessions.specs.Locked.{version_at}
use Rattle.nv_sessions.specs.UnlockedParts.{Told, rest_told, cell_told}
use Rattle.nv_sessions.proofs.Slots.{falling, joined, risen}
use Rattle.nv_sessions.proofs.Turning.{joined_last, turned}
use Rattle.nv_sessions.proofs.unlocked.unlock_cells.Goals as goal

abbrev told : ℕ → ℕ → Told
told blocks version = record { blocks = blocks; version = version }

same_told : (held counted owned had : ℕ) → held ≡ counted → had ≡ owned → told held owned ≡ told counted had
same_told held counted owned had blocks version = ap (λ (n : ℕ). told n owned) blocks ∙ ap (told counted) (sym version)

pub loop-slot-preserved : goal.loop-slot-preserved
loop-slot-preserved g c =
    let i = c.loop-slot.invariant in
    let taken = c.in-Some.ensures in
    let cell = c.push_reserved.ensures in
    let rest = c.push_reserved-in-Some.ensures in
    let low = vec_len c.take_last.new.self.locks in
    let owned = ap (λ (o : Owned). version_at g.C.Commits.opened c.locked.inside.ino o.version) (sym c.out_of-blocks.ensures.owner) in
    record {
      locks = taken.room ∙ i.locks;
      count = omega (arith, i.count, taken.taken, rest.len);
      parts = omega (arith, i.parts, cell.len, rest.len);
      fit = joined_last rest_told cell_told c.loop-slot.rests.items c.push_reserved-in-Some.new.self.items _ c.loop-slot.cells.items
          c.push_reserved.new.self.items c.cell_or_empty.result i.fit rest.items cell.items
          (same_told _ _ _ _ (c.out_of-blocks.ensures.blocks ∙ c.locked.invariant.1) (c.locked.invariant.3 ∙ owned) ∙ sym c.cell_or_empty.ensures);
      slots = joined c.loop-slot.rests.items c.push_reserved-in-Some.new.self.items _ low (vec_len c.loop-slot.rests)
          (i.slots ∙ ap (λ (n : ℕ). falling n (vec_len c.loop-slot.rests)) (sym taken.taken)) rest.items taken.slot
          ∙ ap (λ (n : ℕ). falling low n) (sym rest.len);
      part_room = omega (arith, i.part_room, taken.taken, cell.len, cell.capacity);
      rest_room = omega (arith, i.rest_room, taken.taken, rest.len, rest.capacity);
    }

pub returns-clause-fit : goal.returns-clause-fit
returns-clause-fit g c =
    let l = c.loop-slot in
    turned rest_told cell_told l.rests.items c.reverse-2.new.self.items l.cells.items c.reverse.new.self.items
    l.invariant.fit c.reverse-2.ensures.items c.reverse.ensures.items

pub returns-clause-slots : goal.returns-clause-slots
returns-clause-slots g c =
    let l = c.loop-slot in
    let turn = c.reverse-2.ensures in
    risen l.rests.items c.reverse-2.new.self.items (vec_len l.rests)
    (l.invariant.slots ∙ ap (λ (n : ℕ). falling n (vec_len l.rests)) c.in_default.ensures.taken.0) turn.items
    ∙ ap (λ (n : ℕ). range_with_len 0 n) (omega (arith, turn.len, c.reverse-2.new.self.ok))
