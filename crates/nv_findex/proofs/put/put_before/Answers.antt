use Rattle.std.proofs.Common.{arith}
use Rattle.nv_findex.proofs.Places.{count_le}
use Rattle.nv_findex.proofs.PutPlaces.{count_put}
use Rattle.nv_findex.proofs.put.put_before.Goals as goal

pub overflow_sub-empty : goal.overflow_sub-empty
overflow_sub-empty c =
    let end = c.end_of_free-end.ensures in
    count_le c.args.runs.now.items c.args.from c.end_of_free-end.result c.args.empty.now _ (omega (arith, c.requires.order, end.order)) end.within c.requires.empty c.empty_in.ensures

pub overflow_add-empty : goal.overflow_add-empty
overflow_add-empty c =
    let end = c.end_of_free-end.ensures in
    let put = (count_put c.args.runs.now.items _ c.args.from c.end_of_free-end.result c.args.empty.now _ c.args.run c.args.rest c.requires.run c.requires.rest
    (omega (arith, c.requires.order, end.order)) end.within c.requires.empty c.empty_in.ensures c.put_both.ensures.items).0 in
    omega (arith, put, c.put_both.ensures.empty, c.len-len.ensures)

pub returns-clause-empty : goal.returns-clause-empty
returns-clause-empty c =
    let end = c.end_of_free-end.ensures in
    rw c.put_both.ensures.empty
    (count_put c.args.runs.now.items _ c.args.from c.end_of_free-end.result c.args.empty.now _ c.args.run c.args.rest c.requires.run c.requires.rest
    (omega (arith, c.requires.order, end.order)) end.within c.requires.empty c.empty_in.ensures c.put_both.ensures.items).1
