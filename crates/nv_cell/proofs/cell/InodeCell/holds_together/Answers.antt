use Rattle.nv_cell.proofs.cell.InodeCell.holds_together.Goals as goal

pub returns : goal.returns
returns c =
    rw (← c.self.view_is) (record {
      some = c.self.invariant.some;
      chain = c.holds_together.ensures;
      pages =
          c.self.invariant.pages;
      marks = c.self.invariant.marks;
      blocks = c.self.invariant.blocks;
    })
