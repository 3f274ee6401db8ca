use Rattle.std.proofs.Common.{◌++◌, refl}
use Rattle.std.specs.Prelude.{codes, decimal}
use Rattle.nv_trace.proofs.AnswerLines.{on_ok}
use Rattle.nv_trace.proofs.Pushes.{first_labelled, labelled_piece}
use Rattle.nv_trace.proofs.json_log.push_write.Goals as goal

pub returns : goal.returns
returns c =
    let out = c.args.out.now.items in
    let one = codes "\"item\":\"write\",\"first\":" ++ decimal c.args.first in
    let two = one ++ codes ",\"start\":" ++ decimal c.args.run.start in
    let three = two ++ codes ",\"len\":" ++ decimal c.args.run.len in
    let past_one = c.push_labelled.new.out.items in
    let past_two = c.push_labelled-2.new.out.items in
    let past_three = c.push_labelled-3.new.out.items in
    let first = first_labelled out past_one (codes "\"item\":\"write\",\"first\":") c.from.result c.args.first c.in_ok-push_labelled.ensures
    c.from.ensures in
    let start = labelled_piece out past_one past_two one (codes ",\"start\":") c.number.result c.args.run.start first
    c.in_ok-push_labelled-2.ensures c.number.ensures in
    let len = labelled_piece out past_two past_three two (codes ",\"len\":") c.from-2.result c.args.run.len start
    c.in_ok-push_labelled-3.ensures c.from-2.ensures in
    on_ok c.push_labelled-4.result
    (λ pushed. labelled_piece out past_three c.push_labelled-4.new.out.items three (codes ",\"size\":") c.args.size c.args.size len pushed
    refl)
    c.push_labelled-4.ensures
