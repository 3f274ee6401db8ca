use Rattle.nv_restart.proofs.HeldKinds.{all_held_lawful}
use Rattle.nv_restart.proofs.world_laws.held_logs_stay_lawful.Goals as goal

pub returns : goal.returns
returns c = λ g start records events is_start lawful.
    all_held_lawful g start records is_start events lawful
