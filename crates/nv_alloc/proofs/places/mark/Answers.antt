use Rattle.std.proofs.Common.{get_or}
use Rattle.nv_alloc.proofs.WordBits.{some_bit}
use Rattle.nv_alloc.proofs.places.mark.Goals as goal

pub returns : goal.returns
returns c = rw (some_bit (get_or c.args.words.now c.args.at 0)) at c.write_bit.ensures
