use Rattle.std.proofs.Common.{ap, arith}
use Rattle.std.specs.Prelude.{vec_capacity, vec_len}
use Rattle.nv_mount.specs.declared.plan.Plan.{Plan}
use Rattle.nv_mount.proofs.Handed.{fits, goes_on}
use Rattle.nv_mount.proofs.plan.Plan.put.Goals as goal

pub next_cell-cell-requires : goal.next_cell-cell-requires
next_cell-cell-requires c = c.requires

pub push_reserved-requires : goal.push_reserved-requires
push_reserved-requires c =
    let len = ap (λ (p : Plan). vec_len p.cells) c.next_cell-cell.ensures.rest in
    let room = ap (λ (p : Plan). vec_capacity p.cells) c.next_cell-cell.ensures.rest in
    omega (arith, len, room, fits _ _ _ _ _ _ _ c.requires.4, c.args.self.now.cells.ok)

pub returns : goal.returns
returns c image view made owed next =
    let both = c.next_cell-cell.ensures.made image view made owed next in record {
      planned = goes_on image view made owed _ _ _ next c.next_cell-cell.new.self c.push_reserved.new.self c.next_cell-cell.result
          c.next_cell-cell.ensures.rest c.next_cell-cell.ensures.slots c.push_reserved.ensures.items c.push_reserved.ensures.capacity both.0;
      free = both.1;
    }
