use Rattle.std.proofs.Common.{◌∙◌, ap, arith}
use Rattle.std.specs.List.{insert}
use Rattle.nv_findex.proofs.Moves.{insert_cut}
use Rattle.nv_findex.proofs.Places.{count_front, count_le}
use Rattle.nv_findex.proofs.PutPlaces.{count_push}
use Rattle.nv_findex.proofs.put.put_last.Goals as goal

pub overflow_sub-empty : goal.overflow_sub-empty
overflow_sub-empty c =
    count_le c.args.runs.now.items c.args.from c.len.result c.args.empty.now _ (omega (arith, c.requires.from, c.len.ensures)) (omega (arith, c.len.ensures)) c.requires.empty
    c.empty_in.ensures

pub returns-clause-empty : goal.returns-clause-empty
returns-clause-empty c =
    let old = c.args.runs.now.items in
    let is = c.insert.ensures.items ∙ ap (λ l. insert l c.args.from c.args.run) c.truncate.ensures.items ∙ insert_cut old c.args.from c.args.run c.requires.from in
    rw is (count_push _ _ c.args.run (count_front old c.args.from c.len.result c.args.empty.now _ (omega (arith, c.requires.from, c.len.ensures)) c.len.ensures c.requires.empty
    c.empty_in.ensures) c.requires.run)
