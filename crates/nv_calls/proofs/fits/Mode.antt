-- A mode that is not refused has a plan with its effect.
use Rattle.std.proofs.Common.{◌≡◌, ℕ, ◌<◌, List, [], refl}
use Rattle.nv_base.specs.declared.numbers.Handle.{Handle}
use Rattle.nv_entry.specs.declared.item.Item.TheVariants.{SetMode}
use Rattle.nv_calls.specs.Plain.{node_in, with_mode}
use Rattle.nv_calls.specs.Refusals.{passes}
use Rattle.nv_calls.specs.Slots.{IsPlan, InodeSlot, node_under}
use Rattle.nv_calls.specs.calls.Mode.{mode_effect, mode_plan, mode_refusal}
use Rattle.nv_calls.proofs.Items.{and_item, no_plan}
use Rattle.nv_calls.proofs.Passed.{node_passed}

pub mode_fits : (bytes : ℕ → List ℕ) (block : ℕ) (slots : ℕ → InodeSlot) (handle : Handle) (mode : ℕ) → 0 < block
    → mode_refusal (node_in (node_under bytes block slots)) handle ≡ passes
    → IsPlan bytes block slots (mode_plan handle mode) (mode_effect handle mode)
mode_fits bytes block slots handle mode some passed =
    and_item bytes block slots some handle (SetMode mode) (with_mode mode) [] []
    (node_passed (node_in (node_under bytes block slots) handle) _ passed).0 refl (no_plan bytes block slots some)
