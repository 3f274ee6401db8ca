-- Whatever events come, the living snapshots read as the plain world's copies of them, whose directories form a tree.
use Rattle.std.proofs.Common.{◌≡◌, ℕ, ◌+◌, ◌-◌, ◌⊎◌, ◌∙◌, Bool, true, false, List, [], ◌∷◌, inl, inr, Option, IsSome, arith, refl, subst, sym}
use Rattle.std.proofs.Math.Path.{fun_ext}
use Rattle.std.specs.List.{Contains}
use Rattle.nv_base.specs.declared.geometry.GeometryNumbers.{GeometryNumbers}
use Rattle.nv_base.specs.declared.numbers.Handle.{Handle}
use Rattle.nv_calls.specs.Plain.{PlainNode, node_in}
use Rattle.nv_entry.specs.Tree.{FormTree, root}
use Rattle.nv_entry.specs.declared.names.BoundName.{BoundName}
use Rattle.nv_entry.specs.declared.node.NodeCopy.{NodeCopy}
use Rattle.nv_epoch.specs.SnapList.{Snapshots as Living, ids, numbers}
use Rattle.nv_epoch.specs.declared.snapshot.Snapshot.{Snapshot}
use Rattle.nv_epoch.proofs.Last.{contains_cases, contains_first, contains_later}
use Rattle.nv_machine.specs.Directories.{AreTree, HasName}
use Rattle.nv_machine.specs.PlainRun.{Copy, PlainChange, Maintains, Plain, plain_change_of, plain_step}
use Rattle.nv_machine.specs.Reading.{AreCopied}
use Rattle.nv_machine.specs.Settled.{settled_copies, settled_nodes}
use Rattle.nv_machine.specs.Step.{step}
use Rattle.nv_machine.specs.World.{Drop, Event, Make, Pin, Shared, Unpin, World}
use Rattle.nv_machine.proofs.CopyMade.{copies_now, is_make, make_copies}
use Rattle.nv_machine.proofs.CopyRuns.{IsReadable, event_copies}
use Rattle.nv_epoch.proofs.Pins.{lives-from_pins, pins_at-lives}
use Rattle.nv_machine.proofs.SnapSteps.{AreBare, event_snaps, snaps_after}
use Rattle.nv_machine.proofs.SnapshotCopies.{AreAlike, Lives, deed_alike, lived, lived_then}

-- ---- who lives after a deed lived before it, but for a new snapshot

pub work_lives : (d : PlainChange) (l : Living) (n : ℕ) → is_make d ≡ false → Lives (snaps_after d l) n → Lives l n
work_lives (Maintains Make) l n e is = cc
work_lives (Maintains (Drop snapshot)) l n e is = lived_then l n snapshot is
work_lives (Maintains (Pin snapshot)) l n e is = lived l n snapshot (λ pins. pins + 1) is
work_lives (Maintains (Unpin snapshot seen)) l n e is = lived l n snapshot (λ pins. pins - 1) is
work_lives other l n e is = is

-- ---- copies

-- the directories of a copy form a tree, it has the root, and its names lead to nodes
pub record IsWhole (inodes : ℕ) (nodes : Handle → Option NodeCopy) : Type 0 where
  pub tree : FormTree nodes inodes
  pub top : IsSome (nodes root)
  pub leads : (dir : Handle) (bound : BoundName) → HasName nodes dir bound → IsSome (nodes bound.to)
  pub one_tree : AreTree nodes

-- a snapshot reads as these nodes
abbrev pub ReadsAs : ℕ → Shared → ℕ → (Handle → Option NodeCopy) → Type 0
ReadsAs inodes s n nodes = ((handle : Handle) → settled_copies s n handle ≡ nodes handle) × IsWhole inodes nodes

module _ (N M : ℕ → (Handle → Option NodeCopy) → Type 0) where
  others : (living : List Snapshot) (copies : List Copy)
      → ((n : ℕ) → Contains (numbers living) n → (nodes : Handle → Option NodeCopy) → N n nodes → M n nodes)
      → AreAlike N living copies → AreAlike M living copies
  others [] [] each are = tt
  others [] (copy ∷ copies) each are = absurd are
  others (snapshot ∷ living) [] each are = absurd are
  others (snapshot ∷ living) (copy ∷ copies) each are = (
    record {
      number = are.0.number;
      pins = are.0.pins;
      nodes = each snapshot.number (contains_first snapshot.number (numbers living)) copy.nodes are.0.nodes;
    },
    others living copies (λ n c. each n (contains_later snapshot.number (numbers living) n c)) are.1,
  )

module _ (inodes : ℕ) (s : Shared) where
  pub copied : (living : List Snapshot) (copies : List Copy) → AreAlike (ReadsAs inodes s) living copies → AreCopied s living copies
  copied [] [] are = tt
  copied [] (copy ∷ copies) are = absurd are
  copied (snapshot ∷ living) [] are = absurd are
  copied (snapshot ∷ living) (copy ∷ copies) are =
      (record { number = are.0.number; pins = are.0.pins; nodes = are.0.nodes.0 }, copied living copies are.1)

  pub copy_of : (living : List Snapshot) (copies : List Copy) (n : ℕ) → AreAlike (ReadsAs inodes s) living copies
      → Contains (numbers living) n → (nodes : Handle → Option NodeCopy) × ReadsAs inodes s n nodes
  copy_of [] copies n are at = absurd (omega (arith, at.1))
  copy_of (snapshot ∷ living) [] n are at = absurd are
  copy_of (snapshot ∷ living) (copy ∷ copies) n are at =
      go (contains_cases snapshot.number (numbers living) n at) (λ c. copy_of living copies n are.1 c)
    where
      go : (n ≡ snapshot.number) ⊎ Contains (numbers living) n
          → (Contains (numbers living) n → (nodes : Handle → Option NodeCopy) × ReadsAs inodes s n nodes)
          → (nodes : Handle → Option NodeCopy) × ReadsAs inodes s n nodes
      go (inl same) rec = (copy.nodes, subst (λ (m : ℕ). ReadsAs inodes s m copy.nodes) (sym same) are.0.nodes)
      go (inr later) rec = rec later

  -- so it is whole
  pub whole : (living : List Snapshot) (copies : List Copy) (n : ℕ) → AreAlike (ReadsAs inodes s) living copies
      → Contains (numbers living) n → IsWhole inodes (settled_copies s n)
  whole living copies n are at =
      let c = copy_of living copies n are at in
      subst (IsWhole inodes) (sym (fun_ext c.1.0)) c.1.1

-- ---- one event

pub stays : (g : GeometryNumbers) (w : World) (e : Event) → IsReadable g w → IsReadable g (step w e).world → AreBare w → (n : ℕ)
    → Contains (ids (step w e).world.shared.book.snaps) n → (handle : Handle)
    → settled_copies (step w e).world.shared n handle ≡ settled_copies w.shared n handle
stays g w e a b bare n lives handle = go (is_make (plain_change_of w e)) refl where
  v : Shared
  v = (step w e).world.shared

  go : (c : Bool) → is_make (plain_change_of w e) ≡ c → settled_copies v n handle ≡ settled_copies w.shared n handle
  go true make = make_copies w e make n handle
  go false other =
      event_copies g w e a b n
      (lives-from_pins w.shared.book.snaps.living n
      (work_lives (plain_change_of w e) w.shared.book.snaps n other
      (subst (λ (l : Living). Lives l n) (event_snaps w e bare) (pins_at-lives v.book.snaps.living n lives)))) lives handle

module _ (g : GeometryNumbers) (inodes : ℕ) (w : World) (e : Event) (a : IsReadable g w) (b : IsReadable g (step w e).world)
    (bare : AreBare w) (p : Plain) (epoch : w.shared.book.snaps.epoch ≡ p.epoch)
    (nodes : (handle : Handle) → settled_nodes w.shared handle ≡ p.nodes handle) (now : IsWhole inodes (node_in (settled_nodes w.shared)))
    (are : AreAlike (ReadsAs inodes w.shared) w.shared.book.snaps.living p.copies) where
  abbrev v : Shared
  v = (step w e).world.shared

  same_nodes : settled_nodes w.shared ≡ p.nodes
  same_nodes = fun_ext nodes

  made : ReadsAs inodes w.shared w.shared.book.snaps.epoch (node_in p.nodes)
  made = subst (λ (f : Handle → Option PlainNode). ReadsAs inodes w.shared w.shared.book.snaps.epoch (node_in f)) same_nodes
      (copies_now w.shared a.reached.order.logs, now)

  before : AreAlike (ReadsAs inodes w.shared) v.book.snaps.living (plain_step w e p).copies
  before = subst (λ (l : Living). AreAlike (ReadsAs inodes w.shared) l.living (plain_step w e p).copies) (sym (event_snaps w e bare))
      (deed_alike (ReadsAs inodes w.shared) (plain_change_of w e) _ w.shared.book.snaps p epoch (λ is. made) are)

  pub event_alike : AreAlike (ReadsAs inodes v) v.book.snaps.living (plain_step w e p).copies
  event_alike =
      others (ReadsAs inodes w.shared) (ReadsAs inodes v) v.book.snaps.living (plain_step w e p).copies
      (λ n lives f reads. ((λ handle. stays g w e a b bare n lives handle ∙ reads.0 handle), reads.1)) before
