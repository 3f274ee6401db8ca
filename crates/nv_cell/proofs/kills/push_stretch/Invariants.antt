use Rattle.nv_cell.specs.Numbers.{Pushes, is_page_in}
use Rattle.nv_cell.specs.Weights.{present_between}
use Rattle.nv_cell.proofs.kills.push_stretch.Given as goal

abbrev pub invariant-loop-page : goal.invariant-loop-page
invariant-loop-page l =
    Pushes l.chain.state.entries l.index (is_page_in l.from l.page) (present_between l.index l.from l.page) l.fn.killed l.killed
