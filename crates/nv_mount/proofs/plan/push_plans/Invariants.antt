use Rattle.std.proofs.Common.{◌≡◌, ◌<◌, ◌≤◌, ℕ, length, vec_capacity, vec_len}
use Rattle.std.specs.Prelude.{slice_index_or}
use Rattle.nv_audit.specs.Faults.{IsFaultless}
use Rattle.nv_audit.specs.Image.{ImageValue}
use Rattle.nv_audit.specs.MountedLogs.{cut_tails}
use Rattle.nv_mount.specs.Plan.{IsSlotPlan, erased_in}
use Rattle.nv_mount.specs.View.{IsSeen}
use Rattle.nv_mount.specs.declared.plan.SlotPlan.{SlotPlan}
use Rattle.nv_mount.proofs.plan.push_plans.Given as goal

abbrev pub invariant-loop-ino : goal.invariant-loop-ino
invariant-loop-ino l = record {
  each : (image : ImageValue) → IsFaultless image → IsSeen image l.view → l.tails ≡ cut_tails image → l.ended ≡ erased_in image
      → (n : ℕ) (d : SlotPlan) → n < l.ino → IsSlotPlan image l.view n (slice_index_or l.slots.items n d);
  len : vec_len l.slots ≡ l.ino;
  room : length l.view.slots ≤ vec_capacity l.slots;
}
