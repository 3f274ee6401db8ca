use Rattle.std.proofs.Common.{rules}
use Rattle.nv_alloc.proofs.WordBits.{first_bit, within_words}
use Rattle.nv_alloc.proofs.places.first_in.Goals as goal

pub bounds-words-at : goal.bounds-words-at
bounds-words-at c = within_words c.args.words.now c.args.at c.requires.first.some

pub returns : goal.returns
returns c = first_bit c.args.words.now c.args.at c.requires.first (search rules)
