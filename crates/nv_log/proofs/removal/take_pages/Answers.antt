use Rattle.std.proofs.Common.{◌≡◌, ◌<◌, ◌≤◌, length, refl, sym, ◌∙◌, arith}
use Rattle.nv_log.proofs.Removals.{page_next, swept_all, sweeps_down, sweeps_none, sweeps_out}
use Rattle.nv_log.proofs.removal.take_pages.Goals as goal
use Rattle.nv_log.proofs.removal.take_pages.Goals.{After-index-end, then-is_left, else-is_left}

-- where the page that comes next stands
next : (c : After-index-end) → (c.loop-k.k < length c.args.ends.now.items) × (c.loop-k.start < c.index-end.result.now)
    × (c.index-end.result.now ≤ length c.args.entries.now.items)
next c =
    let lt : c.loop-k.k < length c.args.ends.now.items = omega (arith, c.args.ends.now.ok) in
    let at = page_next _ _ c.requires.parted.1 lt c.index-end.ensures c.loop-k.invariant.swept in
    (lt, at.1, at.2)

pub move_down-requires-clause-onward : goal.move_down-requires-clause-onward
move_down-requires-clause-onward c = omega (arith, next (goal.at.move_down-requires-clause-onward c).After-index-end)

pub move_down-requires-clause-within : goal.move_down-requires-clause-within
move_down-requires-clause-within c =
    omega (arith, next (goal.at.move_down-requires-clause-within c).After-index-end, c.loop-k.invariant.swept.len, c.loop-k.entries.ok)

pub overflow_sub-places : goal.overflow_sub-places
overflow_sub-places c = omega (arith, next (goal.at.overflow_sub-places c).After-index-end)

pub overflow_sub-counted : goal.overflow_sub-counted
overflow_sub-counted c = omega (arith, next (goal.at.overflow_sub-counted c).After-index-end)

pub overflow_add-counted : goal.overflow_add-counted
overflow_add-counted c =
    omega (
      arith,
      next (goal.at.overflow_add-counted c).After-index-end,
      c.loop-k.invariant.swept.counts_behind,
      c.args.entries.now.ok,
      c.args.entries.now.small,
    )

pub loop-k-init : goal.loop-k-init
loop-k-init c = record { swept = sweeps_none _ _ _ _; entries_capacity = refl; ends_capacity = refl }

pub loop-k-preserved : goal.loop-k-preserved
loop-k-preserved c =
    let is = c.loop-k.invariant in
    let lt : c.loop-k.k < length c.args.ends.now.items = omega (arith, c.args.ends.now.ok) in
    elim c.if-is_left.branch [
      | then-is_left w ↦
          let down = w.move_down.ensures in
          let len : length w.move_down.new.entries.items ≡ length c.loop-k.entries.items =
          omega (arith, down.len, w.move_down.new.entries.ok, c.loop-k.entries.ok) in
          rw (w.entries-is, w.ends-is, w.pages-is, w.places-is, w.counted-is, w.min.ensures, w.min-then-is_left.ensures) (record {
            swept =
                sweeps_down _ _ _ c.requires.parted.1 lt c.index-end.ensures (sym c.is_left.ensures
                ∙ w.if-is_left.true) is.swept down.front down.rest len;
            entries_capacity = omega (arith, is.entries_capacity, down.capacity);
            ends_capacity = is.ends_capacity;
          })
      | else-is_left w ↦ rw (w.entries-is, w.ends-is, w.pages-is, w.places-is, w.counted-is) (record {
        swept = sweeps_out _ _ c.requires.parted.1 lt c.index-end.ensures (sym c.is_left.ensures ∙ w.if-is_left.false) is.swept;
        entries_capacity = is.entries_capacity;
        ends_capacity = is.ends_capacity;
      })
    ]

pub returns : goal.returns
returns c =
    let is = c.loop-k.invariant in
    let all = swept_all (omega (arith, c.args.ends.now.ok)) is.swept in
    record {
      entries = c.truncate.ensures.items ∙ all.0;
      ends = c.truncate-2.ensures.items ∙ all.1;
      tail = all.2;
      entries_capacity = c.truncate.ensures.capacity ∙ is.entries_capacity;
      ends_capacity = c.truncate-2.ensures.capacity ∙ is.ends_capacity;
    }
