use Rattle.nv_audit.proofs.SoundCells.{shaped_sound}
use Rattle.nv_audit.proofs.laws.shaped_logs_are_sound.Goals as goal

pub returns : goal.returns
returns c = λ cell bytes is are shaped ends. shaped_sound cell bytes is are ends shaped
