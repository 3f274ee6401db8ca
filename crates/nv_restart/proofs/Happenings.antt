-- What happenings lead to is what events lead to from some start: so each law of runs holds in any
-- history.
use Rattle.std.proofs.Common.{◌≡◌, ◌++◌, ◌∙◌, true, false, List, [], ◌∷◌, refl, subst, sym}
use Rattle.nv_audit.specs.Mounted.{records_anew}
use Rattle.nv_base.specs.Limits.{IsWithinLimits}
use Rattle.nv_base.specs.declared.geometry.GeometryNumbers.{GeometryNumbers}
use Rattle.nv_book.specs.declared.record.Record.{Record}
use Rattle.nv_machine.proofs.CopiesAll.{after_one}
use Rattle.nv_machine.proofs.NewStart.{new_start}
use Rattle.nv_machine.specs.Format.{formatted}
use Rattle.nv_machine.specs.Starts.{IsStart}
use Rattle.nv_machine.specs.Step.{after, step}
use Rattle.nv_machine.specs.World.{Event, World}
use Rattle.nv_restart.proofs.MountStops.{mounted_may_stop, new_may_stop}
use Rattle.nv_restart.proofs.SameCopies.{restarts}
use Rattle.nv_restart.proofs.WorldCells as of_world
use Rattle.nv_restart.proofs.WorldImages.{faultless}
use Rattle.nv_restart.specs.Happenings.{Happening, IsReached, On, Stop, after_all, happen}
use Rattle.nv_restart.specs.Restarted.{image_of, restarted}
use Rattle.nv_restart.specs.Stops.{MayStop}

-- ---- a stop

module _ (g : GeometryNumbers) (start : World) (records : List Record) (events : List Event)
    (is_start : IsStart g start records) (may : MayStop g.block start.shared) where
  abbrev w : World
  w = after start events

  numbers : w.numbers ≡ g
  numbers = of_world.numbers g start records events is_start

  -- A STOP LEADS TO A START, with the records anew
  pub stop_starts : IsStart g (restarted w) (records_anew (image_of w))
  stop_starts =
      subst (λ (n : GeometryNumbers). IsStart n (restarted w) (records_anew (image_of w))) numbers
      (restarts g start records events is_start may)

  -- which may stop
  pub stop_may_stop : MayStop g.block (restarted w).shared
  stop_may_stop =
      subst (λ (n : GeometryNumbers). MayStop n.block (restarted w).shared) numbers
      (mounted_may_stop (image_of w) (of_world.limits g start records events is_start)
      (faultless g start records events is_start may))

-- ---- happenings

module _ (g : GeometryNumbers) where
  pub one : (w : World) (h : Happening) → IsReached g w → IsReached g (happen w h)
  one w (On e) is = record {
    start = is.start;
    records = is.records;
    events = is.events ++ e ∷ [];
    is_start = is.is_start;
    may = is.may;
    leads =
        sym (after_one is.events is.start e)
        ∙ subst (λ (v : World).
        (step (after is.start is.events) e).world ≡ (step v e).world) is.leads refl;
  }
  one w (Stop true) is =
      subst (λ (v : World). IsReached g (restarted v)) is.leads (record {
        start = restarted (after is.start is.events);
        records = records_anew (image_of (after is.start is.events));
        events = [];
        is_start = stop_starts g is.start is.records is.events is.is_start is.may;
        may = stop_may_stop g is.start is.records is.events is.is_start is.may;
        leads = refl;
      })
  one w (Stop false) is = is

  pub all_reached : (happenings : List Happening) (w : World) → IsReached g w
      → IsReached g (after_all w happenings)
  all_reached [] w is = is
  all_reached (h ∷ happenings) w is = all_reached happenings (happen w h) (one w h is)

  pub new_reached : IsWithinLimits g → IsReached g (formatted g)
  new_reached within = record {
    start = formatted g;
    records = [];
    events = [];
    is_start = new_start g within;
    may = new_may_stop g;
    leads = refl;
  }
