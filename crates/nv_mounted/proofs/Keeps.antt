-- Dialogues beside which nothing changes.
use Rattle.std.proofs.Common.{◌≡◌, Result, Ok, Err, refl, ap}
use Rattle.nv_base.specs.declared.fault.Fault.{Fault}
use Rattle.nv_calls.specs.declared.answer.Answer.{Answer}
use Rattle.nv_calls.specs.declared.call.Call.{Call}
use Rattle.nv_mount_beside.specs.declared.refusal.Refusal.{Refusal}
use Rattle.nv_mounted.specs.Dialogues.{Dialogue, Ends, IsHad, ◌>>=◌}
use Rattle.nv_mounted.specs.Side.{Does}
use Rattle.nv_mounted.specs.declared.side.Side.{Side}
use Rattle.nv_mounted.proofs.Dialogues.{goes_on, stops}

-- what a dialogue tells, while what stands beside the world stays
pub keeps : {W A : Type 0} (Tells : W → Call → Result Answer Fault → W → Type 0) (d : Dialogue A)
    (side new_side : Side) (old new : W) (result : Result A Refusal)
    → IsHad Tells d old result new → new_side ≡ side
    → Does Tells (d >>= λ a. Ends (Ok (a, side))) old side result new new_side
keeps {W} {A} Tells d side new_side old new (Ok a) had same = record {
  had =
      goes_on Tells d (λ (b : A). Ends (Ok (b, side))) old new new a (Ok (a, new_side)) had
      (ap (λ (s : Side). Ok (a, s)) same, refl);
  same = tt;
}
keeps {W} {A} Tells d side new_side old new (Err refusal) had same = record {
  had = stops Tells d (λ (b : A). Ends (Ok (b, side))) old new refusal had;
  same = same;
}
