use Rattle.nv_fuse.proofs.Cuts.{one_cut}
use Rattle.nv_fuse.proofs.laws.requests_are_cut_in_one_way.Goals as goal

pub returns : goal.returns
returns c first second behind rest a b e = one_cut first second behind rest a b e
