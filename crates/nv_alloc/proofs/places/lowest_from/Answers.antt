use Rattle.std.proofs.Common.{arith, rules}
use Rattle.nv_alloc.proofs.WordBits.{lowest_from, none_from}
use Rattle.nv_alloc.proofs.places.lowest_from.Goals as goal

pub returns-then-rest-eq0-clause-none : goal.returns-then-rest-eq0-clause-none
returns-then-rest-eq0-clause-none c i from less = none_from c.args.word c.args.from (search rules) i from

pub returns-clause-some : goal.returns-clause-some
returns-clause-some c =
    let lowest = lowest_from c.args.word c.args.from c.ranges.word.fits (search rules) in
    (omega arith, lowest.0, lowest.1, lowest.2)
