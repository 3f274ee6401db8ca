use Rattle.std.proofs.Common.{arith, inl, sym}
use Rattle.std.proofs.lemmas.Result.{err_from_is_err_and}
use Rattle.nv_work.proofs.Told.{answers_to, no_failures, no_threads, none_shown, reads_nothing, some_shown, threads_told}
use Rattle.nv_work.proofs.reading.work_lines.Goals as goal

pub returns-in_err-fork-clause-script : goal.returns-in_err-fork-clause-script
returns-in_err-fork-clause-script g c =
    let p = err_from_is_err_and c.from_residual.result c.from_residual.ensures.1 in
    rw (p.1, p.2) (inl c.in_err-fork.ensures.front.0)

pub returns-in_err-fork-clause-unheld : goal.returns-in_err-fork-clause-unheld
returns-in_err-fork-clause-unheld g c =
    let p = err_from_is_err_and c.from_residual.result c.from_residual.ensures.1 in
    rw (p.1, p.2) c.in_err-fork.ensures.front.1

pub returns-in_err-lines-clause-script : goal.returns-in_err-lines-clause-script
returns-in_err-lines-clause-script g c =
    let p = err_from_is_err_and c.from_residual-in_err-lines.result c.from_residual-in_err-lines.ensures.1 in
    let fork = c.in_ok-fork.ensures.front in
    rw (p.1, p.2) (inl (c.in_err-lines.ensures.read _ _ fork.0 fork.1 fork.2 fork.3).0)

pub returns-in_err-lines-clause-unheld : goal.returns-in_err-lines-clause-unheld
returns-in_err-lines-clause-unheld g c =
    let p = err_from_is_err_and c.from_residual-in_err-lines.result c.from_residual-in_err-lines.ensures.1 in
    let fork = c.in_ok-fork.ensures.front in
    rw (p.1, p.2) (c.in_err-lines.ensures.read _ _ fork.0 fork.1 fork.2 fork.3).1

pub unreachable-requires : goal.unreachable-requires
unreachable-requires g c =
    let fork = c.in_ok-fork.ensures.front in
    let all = c.in_ok-lines.ensures.read _ _ fork.0 fork.1 fork.2 fork.3 in
    none_shown _ all.0.world (sym c.in_default.ensures.value) all.4

pub returns-in_err-world-clause-script : goal.returns-in_err-world-clause-script
returns-in_err-world-clause-script g c =
    let p = err_from_is_err_and c.from_residual-in_err-world.result c.from_residual-in_err-world.ensures.1 in
    let fork = c.in_ok-fork.ensures.front in
    let all = c.in_ok-lines.ensures.read _ _ fork.0 fork.1 fork.2 fork.3 in
    let shown = some_shown _ _ all.0.world (sym c.in-Some.ensures.value) all.4 in
    rw (p.1, p.2) (no_threads c.args.threads _ _ _ _ _ all.0 all.1 all.2 all.3 _ (c.in_err-world.ensures.err all.0.world shown)).0

pub returns-in_err-world-clause-unheld : goal.returns-in_err-world-clause-unheld
returns-in_err-world-clause-unheld g c =
    let p = err_from_is_err_and c.from_residual-in_err-world.result c.from_residual-in_err-world.ensures.1 in
    let fork = c.in_ok-fork.ensures.front in
    let all = c.in_ok-lines.ensures.read _ _ fork.0 fork.1 fork.2 fork.3 in
    let shown = some_shown _ _ all.0.world (sym c.in-Some.ensures.value) all.4 in
    rw (p.1, p.2) (no_threads c.args.threads _ _ _ _ _ all.0 all.1 all.2 all.3 _ (c.in_err-world.ensures.err all.0.world shown)).1

pub returns-in_err-world-clause-reads : goal.returns-in_err-world-clause-reads
returns-in_err-world-clause-reads g c =
    let p = err_from_is_err_and c.from_residual-in_err-world.result c.from_residual-in_err-world.ensures.1 in
    let fork = c.in_ok-fork.ensures.front in
    let all = c.in_ok-lines.ensures.read _ _ fork.0 fork.1 fork.2 fork.3 in
    let shown = some_shown _ _ all.0.world (sym c.in-Some.ensures.value) all.4 in
    let none = no_failures _ all.0.world (c.in_err-world.ensures.err all.0.world shown) in
    rw (p.1, p.2) (omega (arith, none.0, c.in_ok-fork.ensures.reads, c.in_ok-lines.ensures.reads))

pub returns-in_err-world-clause-writes : goal.returns-in_err-world-clause-writes
returns-in_err-world-clause-writes g c =
    let p = err_from_is_err_and c.from_residual-in_err-world.result c.from_residual-in_err-world.ensures.1 in
    let fork = c.in_ok-fork.ensures.front in
    let all = c.in_ok-lines.ensures.read _ _ fork.0 fork.1 fork.2 fork.3 in
    let shown = some_shown _ _ all.0.world (sym c.in-Some.ensures.value) all.4 in
    let none = no_failures _ all.0.world (c.in_err-world.ensures.err all.0.world shown) in
    rw (p.1, p.2) (omega (arith, none.1, c.in_ok-fork.ensures.writes, c.in_ok-lines.ensures.writes))

pub returns-clause-script : goal.returns-clause-script
returns-clause-script g c =
    let fork = c.in_ok-fork.ensures.front in
    let all = c.in_ok-lines.ensures.read _ _ fork.0 fork.1 fork.2 fork.3 in
    let shown = some_shown _ _ all.0.world (sym c.in-Some.ensures.value) all.4 in
    let answers = answers_to c.args.threads all.0 c.in-Some.world _ _ (c.in_ok-world.ensures.idle all.0.world shown) shown all.5
    c.in_ok-world.ensures.texts in
    (threads_told c.args.threads _ _ _ _ _ all.0 c.in-Some.world c.in_ok-world.world _ all.1 all.2 all.3 shown c.in_ok-world.ensures.world
    answers c.tell.result c.tell.ensures.told).0

pub returns-clause-unheld : goal.returns-clause-unheld
returns-clause-unheld g c =
    let fork = c.in_ok-fork.ensures.front in
    let all = c.in_ok-lines.ensures.read _ _ fork.0 fork.1 fork.2 fork.3 in
    let shown = some_shown _ _ all.0.world (sym c.in-Some.ensures.value) all.4 in
    let answers = answers_to c.args.threads all.0 c.in-Some.world _ _ (c.in_ok-world.ensures.idle all.0.world shown) shown all.5
    c.in_ok-world.ensures.texts in
    (threads_told c.args.threads _ _ _ _ _ all.0 c.in-Some.world c.in_ok-world.world _ all.1 all.2 all.3 shown c.in_ok-world.ensures.world
    answers c.tell.result c.tell.ensures.told).1

pub returns-clause-reads : goal.returns-clause-reads
returns-clause-reads g c =
    let none = reads_nothing c.tell.result _ _ _ _ c.tell.ensures.told in
    omega (arith, none, c.in_ok-fork.ensures.reads, c.in_ok-lines.ensures.reads)
