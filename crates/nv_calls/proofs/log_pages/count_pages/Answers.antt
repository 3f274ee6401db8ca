use Rattle.std.proofs.Common.{◌≡◌, ◌+◌, ◌≤◌, ℕ, List, get_or, length, arith, ap, subst, sym, take, take_all, sum_by, ◌∙◌}
use Rattle.std.specs.Prelude.{option_map}
use Rattle.std.proofs.lemmas.Grind.{common_steps}
use Rattle.std.proofs.lemmas.List.Sums.{sum_by-take-le, sum_by_more, sum_by_more_le}
use Rattle.nv_cell.specs.Cell.{CellValue}
use Rattle.nv_calls.specs.AllCalls.{plan}
use Rattle.nv_calls.specs.Nodes.{block_in, cell_of, nodes_in}
use Rattle.nv_calls.specs.PagesWanted.{entry_counts}
use Rattle.nv_calls.specs.Prepared.{planned_by, taken_by}
use Rattle.nv_calls.specs.Updates.{blank_call}
use Rattle.nv_calls.proofs.LogPages.{blocks_below, made_number}
use Rattle.nv_calls.proofs.PagesByInode.{pages_at, pages_if, three_places, wanted_by_inode}
use Rattle.nv_calls.proofs.log_pages.count_pages.Given as given
use Rattle.nv_calls.proofs.log_pages.count_pages.Goals as goal
use Rattle.nv_calls.proofs.log_pages.count_pages.Goals.{Joined-cell_of, in-Some, in_default}

pub overflow_add-wanted : goal.overflow_add-wanted
overflow_add-wanted g c =
    omega (
      arith,
      c.run_count-runs.ensures.few,
      blocks_below (g.C.Cells.cells c.args.cells.now) c.args.hand.now c.args.update.now c.requires.can,
      c.entries_of-entries.ensures.few,
      c.loop-ino.invariant.few,
      c.loop-ino-test.true,
      c.pages_for.ensures.few,
      sum_by_more_le (λ (entries : ℕ × ℕ). entries.1) c.entries_of-entries.result c.loop-ino.ino-index c.loop-ino-item.result
          (omega (arith, c.loop-ino-test.true, c.type_inv.ino-items)),
    )

-- ---- one more inode

module _ (g : given.Over) (c : goal.Joined-cell_of g) where
  abbrev cells : List (ℕ × CellValue)
  cells = g.C.Cells.cells c.args.cells.now

  abbrev there : ℕ × ℕ
  there = get_or c.entries_of-entries.result c.loop-ino.ino-index c.loop-ino-item.result

  next : (f : ℕ × ℕ → ℕ) → sum_by f (take (c.loop-ino.ino-index + 1) c.entries_of-entries.result)
      ≡ sum_by f (take c.loop-ino.ino-index c.entries_of-entries.result) + f there
  next f =
      sum_by_more f c.entries_of-entries.result c.loop-ino.ino-index c.loop-ino-item.result
      (omega (arith, c.loop-ino-test.true, c.type_inv.ino-items))

  found : option_map (λ cell. cell.now) c.cell_of.result ≡ cell_of cells there.0
  found = c.cell_of.ensures ∙ ap (λ lent. cell_of (g.C.Cells.cells lent) there.0) c.new-nodes.ensures

  pages : (c.match-cell_of.wanted ≡ c.loop-ino.wanted + pages_at cells there) × (pages_at cells there ≤ there.1 + 7)
  pages = elim c.match-cell_of.branch [
    | in-Some w ↦
        let own : pages_at cells there ≡ w.pages_for.result =
        ap (pages_if there.1) (sym found ∙ ap (option_map (λ cell. cell.now)) w.in-Some.is) ∙ sym w.pages_for.ensures.value in
        (omega (arith, own, w.wanted-is), omega (arith, own, w.pages_for.ensures.few))
    | in_default w ↦
        let none : pages_at cells there ≡ 0 =
        ap (pages_if there.1) (sym found ∙ ap (option_map (λ cell. cell.now)) w.in_default.is) in
        (omega (arith, none, w.wanted-is), omega (arith, none))
  ]

pub loop-ino-preserved : goal.loop-ino-preserved
loop-ino-preserved g c = record {
  sum = omega (arith, pages g c, c.loop-ino.invariant.sum, next g c (pages_at (cells g c)));
  few = omega (arith, pages g c, c.loop-ino.invariant.few, next g c (λ entries. entries.1));
}

-- ---- all of them

pub returns-clause-wanted : goal.returns-clause-wanted
returns-clause-wanted g c =
    let cells = g.C.Cells.cells c.args.cells.now in
    let hand = c.args.hand.now in
    let u = c.args.update.now in
    let made : (taken_by cells hand u).made.ino ≡ c.unwrap_or-made.result =
    made_number cells hand u c.requires.can ∙ grind (arith, common_steps) in
    let counts : c.entries_of-entries.result ≡ entry_counts (planned_by cells hand u) =
    subst (λ lent. c.entries_of-entries.result
    ≡ entry_counts (plan (block_in cells) (nodes_in (g.C.Cells.cells lent)) (taken_by cells hand u) (blank_call u)))
    c.new-nodes.ensures
    (c.entries_of-entries.ensures.counts (block_in cells) (taken_by cells hand u) made (sym c.run_count-runs.ensures.runs)) in
    let all = take_all c.loop-ino.ino-index c.entries_of-entries.result
    (omega (arith, c.loop-ino-test.false, ap length counts, three_places (planned_by cells hand u))) in
    c.loop-ino.invariant.sum ∙ ap (sum_by (pages_at cells)) (all ∙ counts) ∙ wanted_by_inode cells hand u c.requires.can

pub returns-clause-few : goal.returns-clause-few
returns-clause-few g c =
    omega (
      arith,
      c.loop-ino.invariant.few,
      c.loop-ino.auto.ino-index-end,
      sum_by-take-le (λ (entries : ℕ × ℕ). entries.1) c.entries_of-entries.result c.loop-ino.ino-index,
      c.entries_of-entries.ensures.few,
      c.run_count-runs.ensures.few,
    )
