-- The plain world beside a run is that of the world to which the run leads: nodes, commit number,
-- epoch and copies.
use Rattle.std.proofs.Common.{◌≡◌, ℕ, ◌++◌, ◌∙◌, List, [], ◌∷◌, ap, length, map, refl, sym}
use Rattle.std.proofs.Math.Path.{fun_ext}
use Rattle.nv_base.specs.declared.geometry.GeometryNumbers.{GeometryNumbers}
use Rattle.nv_book.specs.declared.record.Record.{Record}
use Rattle.nv_epoch.specs.declared.snapshot.Snapshot.{Snapshot}
use Rattle.nv_machine.specs.PlainRun.{Copy, Plain, copy_in, plain_after, plain_of, plain_step}
use Rattle.nv_machine.specs.Starts.{IsStart}
use Rattle.nv_machine.specs.Step.{after, step}
use Rattle.nv_machine.specs.World.{Event, Shared, World}
use Rattle.nv_machine.proofs.CommitNumbers.{events_counted}
use Rattle.nv_machine.proofs.CopiesAll.{all_read}
use Rattle.nv_machine.proofs.CopiesKept.{ReadsAs}
use Rattle.nv_machine.proofs.FitsPlain.{plain_nodes}
use Rattle.nv_machine.proofs.SnapRuns.{in_step}
use Rattle.nv_machine.proofs.SnapshotCopies.{AreAlike, IsAlike}

-- behind one more event
pub plain_more : (events : List Event) (w : World) (e : Event) (p : Plain)
    → plain_after w (events ++ e ∷ []) p ≡ plain_step (after w events) e (plain_after w events p)
plain_more [] w e p = refl
plain_more (x ∷ events) w e p = plain_more events (step w x).world e (plain_step w x p)

copy_same : (inodes : ℕ) (s : Shared) (snapshot : Snapshot) (copy : Copy)
    → IsAlike (ReadsAs inodes s) snapshot copy → copy ≡ copy_in s snapshot
copy_same inodes s snapshot copy is =
    let nodes = sym (fun_ext is.nodes.0) in
    λ i. record { snapshot = sym is.number i; nodes = nodes i; pins = sym is.pins i }

copies_same : (inodes : ℕ) (s : Shared) (living : List Snapshot) (copies : List Copy)
    → AreAlike (ReadsAs inodes s) living copies → copies ≡ map (copy_in s) living
copies_same inodes s [] [] are = refl
copies_same inodes s [] (copy ∷ copies) are = absurd are
copies_same inodes s (snapshot ∷ living) [] are = absurd are
copies_same inodes s (snapshot ∷ living) (copy ∷ copies) are =
    ap (λ (c : Copy). c ∷ copies) (copy_same inodes s snapshot copy are.0)
    ∙ ap (λ (cs : List Copy). copy_in s snapshot ∷ cs) (copies_same inodes s living copies are.1)

pub same_plain : (p q : Plain) → p.nodes ≡ q.nodes → p.commit ≡ q.commit → p.epoch ≡ q.epoch
    → p.copies ≡ q.copies → p ≡ q
same_plain p q nodes commit epoch copies = λ i. record {
  nodes = nodes i;
  commit = commit i;
  epoch = epoch i;
  copies = copies i;
}

-- THE PLAIN WORLD of a run is that of the world to which it leads
pub plain_is : (g : GeometryNumbers) (start : World) (records : List Record) (events : List Event)
    → IsStart g start records
    → plain_after start events (plain_of start) ≡ plain_of (after start events)
plain_is g start records events is =
    let beside : Plain = plain_after start events (plain_of start) in
    let w : World = after start events in
    same_plain beside (plain_of w)
    (sym (fun_ext (plain_nodes g start records events is)))
    (sym (events_counted events start (plain_of start) refl))
    (sym (in_step g start records events is).epoch)
    (copies_same (length start.shared.cells) w.shared w.shared.book.snaps.living beside.copies
    (all_read g start records is events))
