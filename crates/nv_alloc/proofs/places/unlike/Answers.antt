use Rattle.std.proofs.Common.{ap, arith, w64}
use Rattle.std.proofs.lemmas.Nat.Bits.{bit_at-lt, bit_at_not}
use Rattle.nv_alloc.specs.Places.{bit}
use Rattle.nv_alloc.proofs.places.unlike.Goals as goal

pub returns-then-full-clause-like : goal.returns-then-full-clause-like
returns-then-full-clause-like c i less none =
    omega (arith, none, bit_at_not w64 c.args.word i c.ranges.word.fits less, bit_at-lt c.args.word i, ap bit c.if-full.true)

pub returns-then-full-clause-unlike : goal.returns-then-full-clause-unlike
returns-then-full-clause-unlike c i less one same =
    omega (arith, one, same, bit_at_not w64 c.args.word i c.ranges.word.fits less, ap bit c.if-full.true)

pub returns-clause-like : goal.returns-clause-like
returns-clause-like c i less none = omega (arith, none, ap bit c.if-full.false)

pub returns-clause-unlike : goal.returns-clause-unlike
returns-clause-unlike c i less one same = omega (arith, one, same, ap bit c.if-full.false)
