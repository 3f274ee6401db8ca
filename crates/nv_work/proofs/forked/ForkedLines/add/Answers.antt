use Rattle.std.proofs.Common.{◌≡◌, ◌%◌, ◌∙◌, ap, rules, sym}
use Rattle.std.proofs.Math.Seq.{map-set_same}
use Rattle.nv_work.proofs.Crews.{list_more, on_err}
use Rattle.nv_work.proofs.forked.ForkedLines.add.Goals as goal

pub returns-in_err-push-clause-same : goal.returns-in_err-push-clause-same
returns-in_err-push-clause-same c =
    on_err c.from_residual.result (map-set_same (λ calls. calls.items) c.args.self.now.threads.items c.thread_of-thread.result
    c.push.new.self c.index_mut.result.now (c.in_err-push.ensures.items ∙ ap (λ calls. calls.items) c.index_mut.ensures.value))

pub returns-clause-lists : goal.returns-clause-lists
returns-clause-lists c =
    let thread = c.thread_of-thread.ensures in
    let count = c.len.ensures ∙ c.args.self.now.threads.ok.0 in
    list_more (λ calls. calls.items) c.args.self.now.threads.items c.thread_of-thread.result c.push.new.self c.index_mut.result.now
    c.args.call (search rules) (thread ∙ ap (λ n. c.args.call.actor % n) count) (sym c.index_mut.ensures.value) c.in_ok-push.ensures.items
