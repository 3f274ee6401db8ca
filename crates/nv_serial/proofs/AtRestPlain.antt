-- The world with numbers after events is told by the world to which they lead, with its records.
use Rattle.std.proofs.Common.{◌≡◌, List, ap}
use Rattle.nv_base.specs.declared.geometry.GeometryNumbers.{GeometryNumbers}
use Rattle.nv_book.specs.declared.record.Record.{Record}
use Rattle.nv_machine.specs.PlainRun.{Plain}
use Rattle.nv_machine.specs.Recorded.{records_after}
use Rattle.nv_machine.specs.Starts.{IsStart}
use Rattle.nv_machine.specs.Step.{after}
use Rattle.nv_machine.specs.World.{Event, World}
use Rattle.nv_machine.proofs.PlainOfRuns.{plain_is}
use Rattle.nv_serial.specs.Law.{serial_after}
use Rattle.nv_serial.specs.Serial.{Serial}
use Rattle.nv_serial.proofs.AtRestLogs.{told_by}

pub serial_is : (g : GeometryNumbers) (start : World) (records : List Record) (events : List Event)
    → IsStart g start records
    → serial_after g start records events ≡ told_by g (after start events)
    (records_after start events records)
serial_is g start records events is =
    ap (λ (p : Plain). let s : Serial = record (serial_after g start records events)
    { plain = p } in s) (plain_is g start records events is)
