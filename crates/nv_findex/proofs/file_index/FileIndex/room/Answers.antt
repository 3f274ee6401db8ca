use Rattle.std.proofs.Common.{sym, ap, arith}
use Rattle.nv_findex.proofs.Counts.{run_count_is}
use Rattle.nv_findex.specs.Pages.{run_count_of}
use Rattle.nv_findex.proofs.file_index.FileIndex.room.Goals as goal

pub overflow_sub-result : goal.overflow_sub-result
overflow_sub-result c =
    let pages = ap (λ v. run_count_of v.pages) (sym c.self.view_is) in
    omega (
      arith,
      c.run_count.ensures,
      pages,
      run_count_is _ c.self.invariant.0.runs,
      c.self.invariant.1,
      c.capacity.ensures.value,
    )

pub returns : goal.returns
returns c =
    let pages = ap (λ v. run_count_of v.pages) (sym c.self.view_is) in
    let room = ap (λ v. v.room) c.self.view_is in
    omega (arith, c.run_count.ensures, pages, run_count_is _ c.self.invariant.0.runs, room, c.capacity.ensures.value)
