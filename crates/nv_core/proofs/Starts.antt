-- A call that starts.
use Rattle.std.proofs.Common.{◌≡◌, ℕ, ◌∙◌, List, ap, refl}
use Rattle.nv_calls.specs.declared.call.Call.{Call}
use Rattle.nv_machine.specs.Sequence.{Beginning, Locks, Looks, Numbers, Maintains, Visits, beginning, begun, started}
use Rattle.nv_machine.specs.World.{Next, Shared}

begun_by : (b : Beginning) (s : Shared) (c : Call) → started c (begun b s c).next (begun b s c).slots ≡ begun b s c
begun_by Numbers s c = refl
begun_by Looks s c = refl
begun_by Locks s c = refl
begun_by Visits s c = refl
begun_by (Maintains first) s c = refl

-- a call starts with its first step and the slots that it knows
pub starts : (s : Shared) (c : Call) (next : Next) (slots : List ℕ) → next ≡ (begun (beginning c) s c).next
    → slots ≡ (begun (beginning c) s c).slots → started c next slots ≡ begun (beginning c) s c
starts s c next slots first locked =
    ap (λ (n : Next). started c n slots) first
    ∙ ap (λ (xs : List ℕ). started c (begun (beginning c) s c).next xs) locked
    ∙ begun_by (beginning c) s c
