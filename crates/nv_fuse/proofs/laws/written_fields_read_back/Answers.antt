use Rattle.std.proofs.Common.{[], refl}
use Rattle.nv_fuse.proofs.Tables.{read_back}
use Rattle.nv_fuse.proofs.laws.written_fields_read_back.Goals as goal

pub returns : goal.returns
returns c rows behind no_gap k d below fits = read_back [] 0 rows behind refl no_gap k d below fits
