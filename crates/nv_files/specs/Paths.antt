-- Where a path leads.
use Rattle.std.specs.Prelude.{◌≡◌, ◌⊎◌, ℕ, List, [], ◌∷◌, Option, Some, None, Result, Ok, Err}
use Rattle.nv_base.specs.Memory.{out_of_memory}
use Rattle.nv_base.specs.declared.fault.Fault.{Fault}
use Rattle.nv_base.specs.declared.fault.Fault.TheVariants as fault
use Rattle.nv_base.specs.declared.numbers.Handle.{Handle}
use Rattle.nv_calls.specs.Refusals.{look}
use Rattle.nv_entry.specs.declared.node.NodeCopy.{NodeCopy}
use Rattle.nv_serial.specs.Serial.{Serial, copies_now}

-- from what a look at a name found, a path goes on; a name that leads nowhere is `Missing`
abbrev pub go_on : Result (Option Handle) Fault → (Handle → Result Handle Fault) → Result Handle Fault
go_on (Err fault) next = Err fault
go_on (Ok None) next = Err fault.Missing
go_on (Ok (Some to)) next = next to

-- WHERE NAMES LEAD from a node on, one after another; or the fault of the first look that is refused or finds nothing
abbrev pub led_by : (Handle → Option NodeCopy) → Handle → List (List ℕ) → Result Handle Fault
led_by nodes from [] = Ok from
led_by nodes from (name ∷ names) = go_on (look nodes from name) (λ to. led_by nodes to names)

-- names lead from a node to what was found, or the walk is refused so; or memory is refused. Nothing changes.
abbrev pub IsLed : Handle → List (List ℕ) → Result Handle Fault → Serial → Serial → Type 0
IsLed from names (Ok to) old new = (new ≡ old) × (led_by (copies_now old) from names ≡ Ok to)
IsLed from names (Err why) old new =
    (new ≡ old) × ((led_by (copies_now old) from names ≡ Err why) ⊎ (why ≡ out_of_memory))
