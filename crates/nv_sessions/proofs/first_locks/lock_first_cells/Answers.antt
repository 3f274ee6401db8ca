use Rattle.std.proofs.Common.{◌≡◌, ◌∙◌, ℕ, List, [], ap, arith, drop, map, reverse, rules, sym, vec_len}
use Rattle.std.proofs.lemmas.List.{reverse-reverse}
use Rattle.std.proofs.lemmas.List.Sorted.{sum_by-IsPermutation}
use Rattle.std.proofs.lemmas.List.Sums.{sum_by_push}
use Rattle.nv_cell.specs.Cell.{CellValue}
use Rattle.nv_sessions.specs.Opened.{blocks_at, cell_blocks, version_of}
use Rattle.nv_sessions.proofs.Turning.{drop_next, map-reversed, map-reversed_last}
use Rattle.nv_sessions.proofs.first_locks.lock_first_cells.Goals as goal

pub loop-cell-init : goal.loop-cell-init
loop-cell-init g c =
    let opened = g.C.Commits.opened in
    let none : vec_len c.args.into.locks ≡ 0 = c.requires.room.0 in
    record {
      opened = ap (λ (xs : List CellValue). reverse (map version_of xs)) c.reverse.ensures.items
          ∙ ap reverse (sym (map-reversed version_of c.args.cells.items)) ∙ reverse-reverse (map version_of c.args.cells.items)
          ∙ sym c.requires.opened ∙ ap (λ (n : ℕ). drop n opened) (sym none);
      count = omega (arith, none);
      maker = c.requires.maker ∙ sym none;
      parts = omega (arith, none);
      nothing = c.requires.rest.1;
      total = search rules;
      room = search rules;
    }

pub loop-cell-preserved : goal.loop-cell-preserved
loop-cell-preserved g c =
    let opened = g.C.Commits.opened in
    let i = c.loop-cell.invariant in
    let k = vec_len c.loop-cell.into.locks in
    let front = c.pop.new.self.items in
    let cell = c.in-Some.cell in
    let more = c.add-in-Some.ensures.count in
    let last = c.in-Some.ensures.items in
    let turned =
    sym i.opened ∙ map-reversed_last version_of c.loop-cell.cells.items front cell last in
    record {
      opened = sym (drop_next k opened (version_of cell) (reverse (map version_of front)) turned)
          ∙ ap (λ (n : ℕ). drop n opened) (sym more);
      count = omega (arith, i.count, more, c.in-Some.ensures.len);
      maker = omega (arith, i.maker, more, c.owner-owner.ensures.next);
      parts = omega (arith, i.parts, more, c.split_off-blocks.ensures.parts_left);
      nothing = omega (arith, i.nothing, c.split_off-blocks.ensures.amount_left);
      total = omega (
        arith,
        i.total,
        c.add.ensures.total,
        c.blocks-in-Some.ensures,
        ap cell_blocks last,
        sum_by_push blocks_at front cell,
      );
      room = c.add-in-Some.ensures.room ∙ i.room;
    }

pub returns-clause-total : goal.returns-clause-total
returns-clause-total g c =
    let i = c.loop-cell.invariant in
    let none : c.loop-cell.cells.items ≡ [] = search rules in
    omega (
      arith,
      i.total,
      ap cell_blocks none,
      sum_by-IsPermutation blocks_at c.args.cells.items c.reverse.new.self.items c.reverse.ensures.permutation,
    )
