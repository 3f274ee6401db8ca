use Rattle.std.proofs.Common.{rules, tests}
use Rattle.std.proofs.lemmas.Iterator.{YieldsList-from_slice}
use Rattle.std.proofs.lemmas.Iterator.Search.{position_from_yields_List}
use Rattle.nv_fuse.specs.Fields.{is_nul}
use Rattle.nv_fuse.proofs.read.numbers.end_of_name.Goals as goal

pub returns : goal.returns
returns c =
    position_from_yields_List is_nul _ _ c.position.result c.position.ensures.ran (YieldsList-from_slice _ c.iter.ensures.rest)
    (λ x b q k. search (rules, tests))
