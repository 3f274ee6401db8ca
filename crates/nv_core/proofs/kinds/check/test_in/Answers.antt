use Rattle.nv_core.proofs.kinds.check.test_in.Goals as goal

pub returns-clause-ends : goal.returns-clause-ends
returns-clause-ends c =
    let at = rw c.new.ensures at c.test_over.ensures.ends in
    rw c.as_slice-slots.ensures.slots at at

pub returns-clause-wanted : goal.returns-clause-wanted
returns-clause-wanted c =
    let at = rw c.new.ensures at c.test_over.ensures.wanted in
    rw c.as_slice-slots.ensures.slots at at
