-- A create or a mkdir that is not refused has a plan with its effect.
use Rattle.std.proofs.Common.{◌≡◌, ℕ, ◌<◌, List, [], ◌∷◌}
use Rattle.nv_base.specs.declared.node.Kind.{Kind}
use Rattle.nv_base.specs.declared.numbers.Handle.{Handle}
use Rattle.nv_entry.specs.declared.item.Item.TheVariants.{Init}
use Rattle.nv_calls.specs.Plain.{begins, change, node_in}
use Rattle.nv_calls.specs.Plan.{planned}
use Rattle.nv_calls.specs.Refusals.{passes}
use Rattle.nv_calls.specs.Slots.{IsFree, IsPlan, InodeSlot, node_under}
use Rattle.nv_calls.specs.calls.Create.{begin_effect, begin_plan, create_refusal}
use Rattle.nv_calls.proofs.Items.{and_bind, and_init, no_plan}
use Rattle.nv_calls.proofs.Passed.{directory_passed}

pub create_fits : (bytes : ℕ → List ℕ) (block : ℕ) (slots : ℕ → InodeSlot) (kind : Kind) (dir : Handle) (name : List ℕ) (mode : ℕ)
    (made : Handle)
    → 0 < block
    → create_refusal (node_in (node_under bytes block slots)) dir name ≡ passes → IsFree slots made
    → IsPlan bytes block slots (begin_plan kind dir name mode made) (begin_effect kind dir name mode made)
create_fits bytes block slots kind dir name mode made some passed free =
    and_bind bytes block slots some dir name made (planned made (Init kind mode ∷ []) ∷ []) (change made (begins kind mode) ∷ [])
    (directory_passed (node_in (node_under bytes block slots) dir) _ passed).0
    (and_init bytes block slots some made kind mode [] [] free (no_plan bytes block slots some))
