-- Names that were checked.
use Rattle.std.proofs.Common.{◌≡◌, ℕ, Bool, true, false, if◌then◌else◌, inl, inr, List, length, nat_lt, Ok, Err}
use Rattle.nv_base.specs.declared.numbers.Handle.{Handle}
use Rattle.nv_mount_beside.specs.Memory.{IsOrNoMemory}
use Rattle.nv_mount_beside.specs.Names.{free_name, is_reserved}
use Rattle.nv_mount_beside.specs.declared.refusal.Refusal.{Refusal}

-- a name that neither test refuses is itself
kept : (a b : Bool) (file name : List ℕ) (r s : Refusal)
    → Ok name ≡ (if a then Err r else (if b then Err s else Ok file)) → name ≡ file
kept true b file name r s e = absurd (cc)
kept false true file name r s e = absurd (cc)
kept false false file name r s e = cc

-- a checked name is the one that was asked for
pub name_is : (dir : Handle) (file name : List ℕ)
    → IsOrNoMemory (Ok name) (free_name dir file) → name ≡ file
name_is dir file name (inl is) =
    kept (is_reserved dir file) (nat_lt 255 (length file)) file name _ _ is
name_is dir file name (inr is) = absurd (cc)
