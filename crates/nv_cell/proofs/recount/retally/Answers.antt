use Rattle.std.proofs.Common.{◌≡◌, ℕ, ◌+◌, length, arith, ap, ◌∙◌}
use Rattle.std.proofs.lemmas.List.{length_push}
use Rattle.nv_cell.specs.Marks.{is_current, is_there}
use Rattle.nv_cell.specs.Numbers.{part_base}
use Rattle.nv_cell.specs.Slots.{slot_base}
use Rattle.nv_cell.specs.Tallies.{count_in, no_tally}
use Rattle.nv_cell.proofs.Cells.{end_step}
use Rattle.nv_cell.proofs.EntryRead.{entry_read, parts_below, slots_below}
use Rattle.nv_cell.proofs.Recounting.{tallied_by, one_more}
use Rattle.nv_cell.proofs.recount.retally.Goals as goal

pub overflow_add-end : goal.overflow_add-end
overflow_add-end c =
    let chain = c.args.chain.now.state in
    let low = parts_below chain.entries c.loop-t.t chain.tail _ c.entry_at.ensures
    (omega (arith, c.loop-t-test.true, c.tail-t-end.ensures.value)) in
    omega (arith, low, c.requires.marks, c.part_count-count.ensures, c.loop-t.invariant.started)

pub overflow_add-slots_end : goal.overflow_add-slots_end
overflow_add-slots_end c =
    let chain = c.args.chain.now.state in
    let low = slots_below chain.entries c.loop-t.t chain.tail _ c.entry_at.ensures
    (omega (arith, c.loop-t-test.true, c.tail-t-end.ensures.value)) in
    omega (arith, low, c.requires.marks, c.part_count-count.ensures, c.loop-t.invariant.slotted)

pub tally_in-tally-requires-clause-within : goal.tally_in-tally-requires-clause-within
tally_in-tally-requires-clause-within c =
    let chain = c.args.chain.now.state in
    let low = parts_below chain.entries c.loop-t.t chain.tail _ c.entry_at.ensures
    (omega (arith, c.loop-t-test.true, c.tail-t-end.ensures.value)) in
    omega (arith, low, c.requires.marks, c.part_count-count.ensures, c.loop-t.invariant.started)

pub loop-t-preserved : goal.loop-t-preserved
loop-t-preserved c =
    let es = c.args.chain.now.state.entries in
    let marks = c.args.marks.now in
    let t = c.loop-t.t in
    let p = entry_read es t _ c.entry_at.ensures in
    let inv = c.loop-t.invariant in
    let tally = c.tally_in-tally.result in
    let end = c.loop-t.start + c.part_count-count.result in
    let to : end ≡ part_base es (t + 1) = omega (arith, p.parts, c.part_count-count.ensures, inv.started) in
    let want_current : ℕ → ℕ = λ i. count_in is_current marks (part_base es i) (part_base es (i + 1)) in
    let want_there : ℕ → ℕ = λ i. count_in is_there marks (part_base es i) (part_base es (i + 1)) in
    let current : tally.current ≡ want_current t = c.tally_in-tally.ensures.current
    ∙ ap (λ s. count_in is_current marks s end) inv.started ∙ ap (λ k. count_in is_current marks (part_base es t) k) to in
    let there : tally.there ≡ want_there t = c.tally_in-tally.ensures.there ∙ ap (λ s. count_in is_there marks s end) inv.started
    ∙ ap (λ k. count_in is_there marks (part_base es t) k) to in
    let want_slots : ℕ → ℕ = λ i. slot_base es (i + 1) in
    let next : c.loop-t.slots_end + c.saturating_sub-slots_end.result ≡ slot_base es (t + 1) =
    omega (arith, p.slots, c.part_count-count.ensures, c.saturating_sub-slots_end.ensures, inv.slotted) in
    let slots : tally.slots_end ≡ want_slots t = c.tally_in-tally.ensures.slots ∙ next in
    record {
      started = to;
      slotted = next;
      ends_len = ap length c.push_reserved-in-loop-t.ensures.items ∙ length_push c.loop-t.ends.items end ∙ ap (λ n. n + 1) inv.ends_len;
      tallies_len = ap length c.push_reserved.ensures.items ∙ length_push c.loop-t.tallies.items tally ∙ ap (λ n. n + 1) inv.tallies_len;
      ended = λ i li. rw c.push_reserved-in-loop-t.ensures.items
          (end_step c.loop-t.ends.items es t end i inv.ends_len to li (λ l. inv.ended i l));
      current = λ i li. rw c.push_reserved.ensures.items
          (one_more (λ x. x.current) no_tally c.loop-t.tallies.items tally want_current t inv.tallies_len inv.current current i li);
      there = λ i li. rw c.push_reserved.ensures.items
          (one_more (λ x. x.there) no_tally c.loop-t.tallies.items tally want_there t inv.tallies_len inv.there there i li);
      slots = λ i li. rw c.push_reserved.ensures.items
          (one_more (λ x. x.slots_end) no_tally c.loop-t.tallies.items tally want_slots t inv.tallies_len inv.slots slots i li);
      ends_capacity = c.push_reserved-in-loop-t.ensures.capacity ∙ inv.ends_capacity;
      tallies_capacity = c.push_reserved.ensures.capacity ∙ inv.tallies_capacity;
    }

pub returns-clause-tallies : goal.returns-clause-tallies
returns-clause-tallies c =
    let es = c.args.chain.now.state.entries in
    let tail = c.args.chain.now.state.tail in
    let inv = c.loop-t.invariant in
    let done : c.loop-t.t ≡ tail = omega (arith, c.loop-t-test.false, c.tail-t-end.ensures.value, c.loop-t.auto.t-end) in
    tallied_by c.loop-t.tallies.items c.loop-t.ends.items c.args.marks.now es tail (inv.ends_len ∙ done)
    (inv.tallies_len ∙ done) c.requires.marks
    (λ i lt. inv.ended i (omega (arith, lt, done))) (λ i lt. inv.current i (omega (arith, lt, done)))
    (λ i lt. inv.there i (omega (arith, lt, done))) (λ i lt. inv.slots i (omega (arith, lt, done)))
