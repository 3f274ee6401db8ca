use Rattle.std.proofs.Common.{◌∙◌, Err, Ok, ap, arith, refl, sym}
use Rattle.std.proofs.lemmas.Result.{err_from_is_err_and}
use Rattle.nv_work.specs.Threads.{calls_in, calls_on, shares_of, with_calls}
use Rattle.nv_work.proofs.Crews.{shares_behind}
use Rattle.nv_work.proofs.Forking.{fork_ends, fork_faulty, fork_next, fork_not_taken, fork_starved, fork_written, reads_at, shown_as}
use Rattle.nv_work.proofs.reading.read_forked.Goals as goal

pub returns-in_err-lines-clause-read : goal.returns-in_err-lines-clause-read
returns-in_err-lines-clause-read g c = λ input old f at none shown.
    let p = err_from_is_err_and c.from_residual.result c.from_residual.ensures.1 in
    rw (p.1, p.2) (fork_starved _ _ _ _ _ _ _ at _ (g.R.CountedRead.remaining c.args.reader.now) refl)

pub returns-in_err-take-clause-read : goal.returns-in_err-take-clause-read
returns-in_err-take-clause-read g c = λ input old f at none shown.
    let now = c.loop-number.invariant.line input old f at none shown in
    let p = err_from_is_err_and c.from_residual-in_err-take.result c.from_residual-in_err-take.ensures.1 in
    rw (p.1, p.2) (fork_not_taken _ _ _ _ _ _ now.0 now.1 _ _ _ _ _ c.in_err-take.ensures.taken)

pub returns-then-not-branch-clause-read : goal.returns-then-not-branch-clause-read
returns-then-not-branch-clause-read g c = λ input old f at none shown.
    let now = c.loop-number.invariant.line input old f at none shown in
    let took = rw c.if-not-branch.true at c.in_ok-take.ensures.taken in
    let here = fork_written _ _ _ _ _ _ _ _ now.0 now.1 took.0 in
    fork_ends _ _ _ _ _ _ now.0 here (g.R.CountedRead.remaining c.take.new.reader) c.take.new.self.feed _ _ c.args.threads c.loop-number.lines took.1
    (rw c.take.ensures.world now.2) now.3

pub returns-in-Err-clause-read : goal.returns-in-Err-clause-read
returns-in-Err-clause-read g c = λ input old f at none shown.
    let now = c.loop-number.invariant.line input old f at none shown in
    let took = rw c.if-not-branch.false at c.in_ok-take.ensures.taken in
    let here = fork_written _ _ _ _ _ _ _ _ now.0 now.1 took.0 in
    rw c.ending_of.ensures (fork_faulty _ _ _ _ _ _ now.0 here _ _ took.2 took.3 took.1 (g.R.CountedRead.remaining c.take.new.reader)
    c.in-Err.fault (reads_at (Err c.in-Err.fault) _ _ c.as_slice.ensures.value c.in-Err.ensures.line))

pub loop-number-preserved : goal.loop-number-preserved
loop-number-preserved g c =
    let inv = c.loop-number.invariant in
    let took = rw c.if-not-branch.false at c.in_ok-take.ensures.taken in
    let last = took.1 in record {
      number = omega (arith, last);
      count = c.read.ensures.count ∙ inv.count;
      line = λ input old f at none shown.
          let now = inv.line input old f at none shown in
          let here = fork_written _ _ _ _ _ _ _ _ now.0 now.1 took.0 in
          let more = fork_next _ _ _ _ _ _ now.0 here _ _ took.2 took.3 took.1
          (reads_at (Ok tt) _ _ c.as_slice.ensures.value c.in-Ok.ensures.line) in (
            more.0,
            more.1,
            shown_as _ _ _ more.2 (rw c.take.ensures.world now.2),
            rw c.as_slice.ensures.value at c.in-Ok.ensures.lists
                ∙ ap (λ lists. with_calls lists (calls_on c.take.new.self.line.items)) now.3
                ∙ shares_behind c.args.threads now.0.behind c.take.new.self.line.items (let some = c.requires.threads in omega (arith, some))
                ∙ ap (λ lines. shares_of c.args.threads (calls_in lines)) (sym more.3),
          );
      reads = omega (arith, c.in_ok-take.ensures.reads, inv.reads);
      writes = omega (arith, c.in_ok-take.ensures.writes, inv.writes);
      same_reader = c.take.ensures.same_reader ∙ inv.same_reader;
      same_writer = c.take.ensures.same_writer ∙ inv.same_writer;
    }
