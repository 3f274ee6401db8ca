use Rattle.std.proofs.Common.{◌≡◌, take}
use Rattle.nv_alloc.proofs.inode_pool.InodePool.rebuild.Given as goal

abbrev pub invariant-loop-ino : goal.invariant-loop-ino
invariant-loop-ino l = l.pool ≡ record { inodes = l.geometry.numbers.inodes; numbers = take l.ino-index l.numbers }
