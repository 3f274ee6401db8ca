use Rattle.std.proofs.Common.{◌≡◌, ℕ, ◌+◌, ◌<◌, false, List, ap, arith, get_or, length, ◌∙◌, subst, sym, take, refl}
use Rattle.std.proofs.lemmas.List.{get_or_default, take_all}
use Rattle.nv_alloc.specs.Numbers.{has, put_by}
use Rattle.nv_alloc.proofs.Lists.{all_at, has-next, put_by-next}
use Rattle.nv_alloc.proofs.inode_pool.InodePool.rebuild.Goals as goal

-- what stands at the place is what the loop has
own : (ns : List ℕ) (i n : ℕ) → i < length ns → n ≡ get_or ns i n → get_or ns i 0 ≡ n
own ns i n lt is = get_or_default ns i 0 n lt ∙ sym is

pub give-requires-clause-inode : goal.give-requires-clause-inode
give-requires-clause-inode c =
    let inodes = c.args.geometry.now.numbers.inodes in
    let ns = c.args.numbers.now in
    let i = c.loop-ino.ino-index in
    let here = own ns i c.ino-item.result c.loop-ino-test.true c.ino-item.is in
    rw c.loop-ino.invariant
    (subst (λ (m : ℕ). m < inodes) here (all_at inodes ns i c.requires.below c.loop-ino-test.true))

pub give-requires-clause-absent : goal.give-requires-clause-absent
give-requires-clause-absent c =
    let ns = c.args.numbers.now in
    let i = c.loop-ino.ino-index in
    let here = own ns i c.ino-item.result c.loop-ino-test.true c.ino-item.is in
    rw c.loop-ino.invariant
    (subst (λ (m : ℕ). has (take i ns) m ≡ false) here (has-next ns i c.requires.rising c.loop-ino-test.true))

pub loop-ino-preserved : goal.loop-ino-preserved
loop-ino-preserved c =
    let inodes = c.args.geometry.now.numbers.inodes in
    let ns = c.args.numbers.now in
    let i = c.loop-ino.ino-index in
    let here = own ns i c.ino-item.result c.loop-ino-test.true c.ino-item.is in
    let more : put_by (λ n. n) c.ino-item.result (take i ns) ≡ take (i + 1) ns =
    subst (λ (m : ℕ). put_by (λ n. n) m (take i ns) ≡ take (i + 1) ns) here
    (put_by-next ns i c.requires.rising c.loop-ino-test.true) in
    c.give.ensures ∙ rw c.loop-ino.invariant (ap (λ ms. record { inodes = inodes; numbers = ms }) more)

pub returns-clause-ok : goal.returns-clause-ok
returns-clause-ok c =
    let ns = c.args.numbers.now in
    let all : take c.loop-ino.ino-index ns ≡ ns = take_all c.loop-ino.ino-index ns (omega arith) in
    rw (c.loop-ino.invariant, all) refl
