use Rattle.std.proofs.Common.{arith, refl}
use Rattle.std.proofs.lemmas.Result.{err_from_is_err_and}
use Rattle.nv_script.proofs.Looked.{fault_told, none_failed, not_looked, sound_at, sound_unplayed}
use Rattle.nv_script.proofs.player.Player.play_sound.Goals as goal

pub returns-in_err-play_taken-in-Ok-clause-line : goal.returns-in_err-play_taken-in-Ok-clause-line
returns-in_err-play_taken-in-Ok-clause-line g c =
    let p = err_from_is_err_and c.from_residual.result c.from_residual.ensures.1 in
    let sound = sound_at _ _ _ _ c.is_some.ensures c.as_slice.ensures.value c.in-Ok.ensures in
    rw (p.1, p.2) (sound_unplayed _ _ _ _ _ c.play_taken.new.self.world c.shows_some.ensures sound c.in_err-play_taken-in-Ok.ensures.line)

pub returns-in_ok-play_taken-in-Ok-clause-line : goal.returns-in_ok-play_taken-in-Ok-clause-line
returns-in_ok-play_taken-in-Ok-clause-line g c =
    (sound_at _ _ _ _ c.is_some.ensures c.as_slice.ensures.value c.in-Ok.ensures, c.in_ok-play_taken-in-Ok.ensures.line)

pub returns-in-Faulty-clause-line : goal.returns-in-Faulty-clause-line
returns-in-Faulty-clause-line g c =
    let is = rw c.in-Faulty.is at c.in-Err.ensures in
    (fault_told _ _ _ _ _ c.is_some.ensures c.as_slice.ensures.value is, refl, refl)

pub returns-in_default-clause-line : goal.returns-in_default-clause-line
returns-in_default-clause-line g c =
    not_looked c.in-Err.fault _ c.args.self.now.world c.is_some.result _ _ c.as_slice.ensures.value c.in_default.not-Faulty c.in-Err.ensures

pub returns-in_default-clause-failed : goal.returns-in_default-clause-failed
returns-in_default-clause-failed g c =
    let none = none_failed c.in-Err.fault c.is_some.result c.as_slice.result.now c.in-Err.ensures in
    omega (arith, none)
