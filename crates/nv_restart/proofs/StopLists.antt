-- The free lists after a stop are what one scan of all logs and of the snapshot list leaves.
use Rattle.std.proofs.Common.{◌≡◌, ℕ, ◌<◌, List, [], ap, refl}
use Rattle.nv_audit.specs.Mounted.{records_anew}
use Rattle.nv_base.specs.declared.geometry.GeometryNumbers.{GeometryNumbers}
use Rattle.nv_book.specs.declared.record.Record.{Record}
use Rattle.nv_machine.proofs.HeldLaw.{scanned_by_logs}
use Rattle.nv_machine.proofs.NeededBlocks.{needed_alone}
use Rattle.nv_machine.specs.Held.{free_by_logs}
use Rattle.nv_machine.specs.Needed.{IsAtRest, free_but_needed}
use Rattle.nv_machine.specs.Numbers.{free_of}
use Rattle.nv_machine.specs.Starts.{IsStart}
use Rattle.nv_machine.specs.Step.{after}
use Rattle.nv_machine.specs.World.{Actor, Event, World, list_at}
use Rattle.nv_restart.proofs.Happenings.{stop_starts}
use Rattle.nv_restart.specs.Restarted.{image_of, restarted}
use Rattle.nv_restart.specs.Stops.{MayStop}

module _ (g : GeometryNumbers) (start : World) (records : List Record) (events : List Event)
    (is_start : IsStart g start records) (may : MayStop g.block start.shared) where
  abbrev w : World
  w = restarted (after start events)

  abbrev rs : List Record
  rs = records_anew (image_of (after start events))

  again : IsStart g w rs
  again = stop_starts g start records events is_start may

  -- no call runs
  pub rests : IsAtRest w
  rests actor = ap (λ (a : Actor). a.running) (again.idle_all actor)

  pub scanned : (cpu : ℕ) → cpu < g.cpus → free_of (list_at w.shared cpu) ≡ free_by_logs g w cpu
  scanned cpu inside = scanned_by_logs g w rs [] cpu again inside

  pub needed : (cpu : ℕ) → cpu < g.cpus
      → free_of (list_at w.shared cpu) ≡ free_but_needed g w cpu
  needed = needed_alone g w rs [] again rests refl
