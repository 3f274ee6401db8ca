use Rattle.std.proofs.lemmas.Result.{err_from_is_err_and}
use Rattle.nv_work.proofs.Reported.{fork_unread, front_fault_at}
use Rattle.nv_work.proofs.reading.play_or_fork.Goals as goal

pub returns-in_err-is_fork-clause-line : goal.returns-in_err-is_fork-clause-line
returns-in_err-is_fork-clause-line g c =
    let p = err_from_is_err_and c.from_residual.result c.from_residual.ensures.1 in
    rw (p.1, p.2) (λ m shown run. front_fault_at _ _ _ _ _ _ c.as_slice.ensures.value
    (fork_unread _ _ c.args.player.now.world m _ c.is_some.result c.is_some.ensures shown c.in_err-is_fork.ensures))
