use Rattle.std.proofs.Common.{rules}
use Rattle.nv_script.proofs.Firsts.{words-more, words-end}
use Rattle.nv_script.proofs.word.find_few.Goals as goal

pub loop-space-preserved : goal.loop-space-preserved
loop-space-preserved c =
    let more = words-more (λ w. w.now) c.args.line.now c.loop-space.rest.now c.loop-space.found.items c.push.new.self.items _
    c.in-Some.space c.memchr.result c.loop-space.invariant.words c.memchr.ensures c.in-Some.is c.push.ensures.items in
    search (rules, more)

pub returns : goal.returns
returns c =
    let last = words-end (λ w. w.now) c.args.line.now c.loop-space.rest.now c.loop-space.found.items c.push-2.new.self.items _
    c.memchr.result c.loop-space.invariant.words c.memchr.ensures c.in_default.is c.push-2.ensures.items in
    search (rules, last)
