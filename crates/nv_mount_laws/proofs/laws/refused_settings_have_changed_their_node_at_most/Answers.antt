use Rattle.nv_mount_laws.proofs.Sets.{set_refused}
use Rattle.nv_mount_laws.proofs.laws.refused_settings_have_changed_their_node_at_most.Goals as goal

pub returns : goal.returns
returns c = set_refused
