-- The plain world beside a history is that of the world which it leads to.
use Rattle.std.proofs.Common.{◌≡◌, ℕ, ◌++◌, ◌∙◌, true, false, List, [], ◌∷◌, map, Option, ap, refl, subst, sym}
use Rattle.std.specs.List.{Contains}
use Rattle.std.proofs.Math.Path.{fun_ext}
use Rattle.nv_epoch.specs.SnapList as snap_list
use Rattle.nv_base.specs.Limits.{IsWithinLimits}
use Rattle.nv_base.specs.declared.geometry.GeometryNumbers.{GeometryNumbers}
use Rattle.nv_base.specs.declared.numbers.Handle.{Handle}
use Rattle.nv_book.specs.declared.record.Record.{Record}
use Rattle.nv_entry.specs.declared.node.NodeCopy.{NodeCopy}
use Rattle.nv_epoch.proofs.Last.{contains_first, contains_later}
use Rattle.nv_epoch.specs.SnapList.{numbers}
use Rattle.nv_epoch.specs.declared.snapshot.Snapshot.{Snapshot}
use Rattle.nv_machine.proofs.CopiesAll.{after_one}
use Rattle.nv_machine.proofs.PlainOfRuns.{plain_is, plain_more, same_plain}
use Rattle.nv_machine.proofs.PlainStart.{plain_start}
use Rattle.nv_machine.specs.Format.{formatted}
use Rattle.nv_machine.specs.PlainRun.{Copy, copy_in, new_plain, plain_of, plain_step}
use Rattle.nv_machine.specs.Settled.{settled_copies}
use Rattle.nv_machine.specs.Starts.{IsStart}
use Rattle.nv_machine.specs.Step.{after, step}
use Rattle.nv_machine.specs.World.{Event, Shared, World}
use Rattle.nv_restart.proofs.Happenings.{one}
use Rattle.nv_restart.proofs.SameCopies.{same_copies}
use Rattle.nv_restart.proofs.SameNodes.{same_nodes}
use Rattle.nv_restart.specs.Happenings.{Happening, IsReached, On, Stop, after_all, happen, plain_after_all, plain_happens, plain_stopped, unpinned}
use Rattle.nv_restart.specs.Restarted.{restarted}
use Rattle.nv_restart.specs.Stops.{MayStop}

-- ---- the plain world of a world behind one more event

plain_steps : (g : GeometryNumbers) (start : World) (records : List Record) (events : List Event)
    → IsStart g start records → (e : Event)
    → plain_step (after start events) e (plain_of (after start events))
    ≡ plain_of (step (after start events) e).world
plain_steps g start records events is e =
    ap (plain_step (after start events) e) (sym (plain_is g start records events is))
    ∙ sym (plain_more events start e (plain_of start))
    ∙ plain_is g start records (events ++ e ∷ []) is
    ∙ ap plain_of (sym (after_one events start e))

-- ---- a stop

-- copies of snapshots that read the same
same_copy : (s t : Shared) (living : List Snapshot)
    → ((epoch : ℕ) → Contains (numbers living) epoch
    → settled_copies t epoch ≡ settled_copies s epoch)
    → map (copy_in t) (map snap_list.unpinned (numbers living))
    ≡ map unpinned (map (copy_in s) living)
same_copy s t [] same = refl
same_copy s t (snapshot ∷ living) same =
    let rest = map unpinned (map (copy_in s) living) in
    let own : Copy → List Copy = λ copy. copy ∷ rest in
    ap (λ (l : List Copy). copy_in t (snap_list.unpinned snapshot.number) ∷ l)
    (same_copy s t living
    (λ epoch lives. same epoch (contains_later snapshot.number (numbers living) epoch lives)))
    ∙ ap (λ (nodes : Handle → Option NodeCopy).
    own (record { snapshot = snapshot.number; nodes = nodes; pins = 0 }))
    (same snapshot.number (contains_first snapshot.number (numbers living)))

module _ (g : GeometryNumbers) (start : World) (records : List Record) (events : List Event)
    (is_start : IsStart g start records) (may : MayStop g.block start.shared) where
  abbrev w : World
  w = after start events

  -- A STOP LEAVES THE PLAIN WORLD, but for pins
  pub plain_stops : plain_of (restarted w) ≡ plain_stopped (plain_of w)
  plain_stops =
      same_plain (plain_of (restarted w)) (plain_stopped (plain_of w))
      (fun_ext (same_nodes g start records events is_start)) refl refl
      (same_copy w.shared (restarted w).shared w.shared.book.snaps.living
      (λ epoch lives. fun_ext (same_copies g start records events is_start may epoch lives)))

-- ---- a history

module _ (g : GeometryNumbers) where
  pub stopped : (w : World) → IsReached g w → plain_of (restarted w) ≡ plain_stopped (plain_of w)
  stopped w is =
      subst (λ (v : World). plain_of (restarted v) ≡ plain_stopped (plain_of v)) is.leads
      (plain_stops g is.start is.records is.events is.is_start is.may)

  plain_happening : (w : World) (h : Happening) → IsReached g w
      → plain_happens w h (plain_of w) ≡ plain_of (happen w h)
  plain_happening w (On e) is =
      subst (λ (v : World). plain_step v e (plain_of v) ≡ plain_of (step v e).world) is.leads
      (plain_steps g is.start is.records is.events is.is_start e)
  plain_happening w (Stop true) is = sym (stopped w is)
  plain_happening w (Stop false) is = refl

  pub all_plain : (happenings : List Happening) (w : World) → IsReached g w
      → plain_after_all w happenings (plain_of w) ≡ plain_of (after_all w happenings)
  all_plain [] w is = refl
  all_plain (h ∷ happenings) w is =
      ap (plain_after_all (happen w h) happenings) (plain_happening w h is)
      ∙ all_plain happenings (happen w h) (one g w h is)

  pub new_is : IsWithinLimits g → plain_of (formatted g) ≡ new_plain
  new_is within =
      same_plain (plain_of (formatted g)) new_plain (fun_ext (plain_start g within)) refl refl refl
