use Rattle.nv_fuse.proofs.Tables.{no_gap}
use Rattle.nv_fuse.proofs.laws.reply_tables_have_no_gap.Goals as goal

pub returns : goal.returns
returns c x = no_gap x
