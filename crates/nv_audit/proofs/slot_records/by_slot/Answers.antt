use Rattle.std.proofs.Common.{◌≡◌, ℕ, ◌+◌, ◌++◌, ◌<◌, List, [], ◌∷◌, length, take, slice_set, arith, ap, sym, ◌∙◌, subst}
use Rattle.nv_book.specs.declared.record.Record.{Record}
use Rattle.nv_audit.specs.KeptParts.{AreBySlot, list_at}
use Rattle.nv_audit.proofs.SlotRecords.{list_here, slot_more}
use Rattle.nv_audit.proofs.slot_records.by_slot.Goals as goal

pub loop-record-preserved : goal.loop-record-preserved
loop-record-preserved c =
    let d = c.record-item.result in
    let i = c.loop-record.record-index in
    let lists = c.loop-record.lists.items in
    let v = c.index_mut-list.result.now in
    let number : c.number.result ≡ d.ino = c.number.ensures in
    let within : d.ino < c.args.slots =
    subst (λ (x : Record). x.ino < c.args.slots) (sym c.record-item.is) (c.requires i d c.loop-record-test.true) in
    let there : c.number.result < length lists = omega (arith, number, within, c.loop-record.invariant.len) in
    let put = c.in_ok-push.ensures.items ∙ ap (λ (l : List Record). l ++ d ∷ [])
    (sym (list_here lists c.number.result v there c.index_mut-list.ensures.value) ∙ ap (list_at lists) number) in
    subst (λ (k : ℕ). AreBySlot c.args.slots (take (i + 1) c.args.records.now) (slice_set lists k c.push.new.self)) (sym number)
    (slot_more c.args.slots c.args.records.now i d lists c.push.new.self c.loop-record.invariant c.loop-record-test.true c.record-item.is within put)
