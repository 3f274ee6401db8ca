use Rattle.nv_audit.specs.Pool.{is_used}
use Rattle.nv_audit.specs.Records.{states_of}
use Rattle.nv_audit.proofs.Pools.{numbers_by_pool, pool_by_numbers}
use Rattle.nv_audit.proofs.pool.is_pool_of.Goals as goal

pub returns-then-made_for : goal.returns-then-made_for
returns-then-made_for c =
    let inodes = c.args.geometry.now.numbers.inodes in
    let used = is_used (states_of c.args.cells.now) in
    let pool = c.args.pool.now in
    let same = c.made_for.ensures.0 c.if-made_for.true in (
      λ t. record {
        inodes = same;
        numbers = pool_by_numbers inodes used pool c.rises.ensures same (c.are_unused.ensures.0 t);
      },
      λ is. c.are_unused.ensures.1 (numbers_by_pool inodes used pool is.numbers),
    )
