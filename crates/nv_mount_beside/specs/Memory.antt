-- Want of memory, as a mount refuses for it.
use Rattle.std.specs.Prelude.{◌≡◌, ◌⊎◌, Result, Err}
use Rattle.nv_base.specs.Memory.{out_of_memory}
use Rattle.nv_mount_beside.specs.declared.refusal.Refusal.{Refusal}
use Rattle.nv_mount_beside.specs.declared.refusal.Refusal.TheVariants as refusals

-- the refusal for want of memory
abbrev pub no_memory : Refusal
no_memory = refusals.Fault out_of_memory

-- it is what was told, or memory was refused
abbrev pub IsOrNoMemory : {A : Type 0} → Result A Refusal → Result A Refusal → Type 0
IsOrNoMemory result told = (result ≡ told) ⊎ (result ≡ Err no_memory)
