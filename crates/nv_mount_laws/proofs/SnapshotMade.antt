-- What a mount has beside its world once a snapshot is made.
use Rattle.std.proofs.Common.{◌≡◌, ◌∙◌, ◌<◌, ap, inl, inr, refl, subst, sym, ℕ, Bool, true, false, List, length, Option, Some, Result, Ok, Err}
use Rattle.std.specs.Prelude.{if◌then◌else◌, is_ok}
use Rattle.std.specs.List.{AllByRecursion}
use Rattle.nv_base.specs.declared.fault.Fault.{Fault}
use Rattle.nv_base.specs.declared.numbers.Handle.{Handle}
use Rattle.nv_calls.specs.declared.answer.Answer.{Answer}
use Rattle.nv_calls.specs.declared.answer.Answer.TheVariants as answers
use Rattle.nv_calls.specs.declared.call.Call.TheVariants as calls
use Rattle.nv_calls.specs.declared.snapshot_or_cleaner_call.SnapshotOrCleanerCall.TheVariants as snapshot_calls
use Rattle.nv_effects.proofs.Drained.{calls_snap}
use Rattle.nv_effects.proofs.LivingSnapshots.{show_told, snap_told}
use Rattle.nv_effects.proofs.SoundWorlds.{standing_sound}
use Rattle.nv_effects.specs.Sound.{IsSoundWorld}
use Rattle.nv_entry.specs.declared.node.NodeCopy.{NodeCopy}
use Rattle.nv_entry.specs.declared.tree.TreeNode.{TreeNode}
use Rattle.nv_calls.specs.Plain.{PlainNode, node_in}
use Rattle.nv_fuse.specs.declared.attributes.Attributes.{Attributes}
use Rattle.nv_fuse.specs.declared.errno.Errno.TheVariants as errno
use Rattle.nv_machine.specs.World.{Done, Reply}
use Rattle.nv_mount_beside.specs.Beside.{AllBeside}
use Rattle.nv_mount_beside.specs.Memory.{no_memory}
use Rattle.nv_mount_beside.specs.Names.{checked_name, refused}
use Rattle.nv_mount_beside.specs.declared.outcome.Outcome.{Outcome}
use Rattle.nv_mount_beside.specs.declared.outcome.Outcome.TheVariants as outcomes
use Rattle.nv_mount_beside.specs.declared.refusal.Refusal.{Refusal}
use Rattle.nv_mount_beside.specs.Shown.{entry_of}
use Rattle.nv_mounted.specs.Dialogues.{Asks, Dialogue, Ends, Grows, GrowsOr, IsHad, ◌>>=◌, and_then, ask_each, undo, undoing}
use Rattle.nv_mounted.specs.KeptTrees.{ask_kept, ask_kept_tree, ask_tree, tree_told}
use Rattle.nv_mounted.specs.Side.{Does}
use Rattle.nv_mounted.specs.Snapshots.{ask_snapshot, attributes_in, drop_epoch, make_snapshot, making, node_at, number_in, place_named, snapshot_told, with_snapshot}
use Rattle.nv_mounted.specs.declared.kept_tree.KeptTree.{KeptTree}
use Rattle.nv_mounted.specs.declared.side.Side.{Side}
use Rattle.nv_mounted.specs.declared.snapshots.Snapshot.{Snapshot}
use Rattle.nv_serial.specs.OneCall.{serial_call}
use Rattle.nv_serial.specs.Reports.{tree_told as tree_now}
use Rattle.nv_serial.specs.Serial.{Outcome as CallOutcome, Serial, copies_now, told}
use Rattle.nv_mount_laws.specs.World.{CanStand, Calls}
use Rattle.nv_mount_laws.proofs.Asked.{grown}
use Rattle.nv_mount_laws.proofs.Dialogues.{GoesOn, side_told, went_on}
use Rattle.nv_mount_laws.proofs.SnapshotKept.{EachWith, IsKeptOf, all_kept}
use Rattle.nv_mount_laws.proofs.SnapshotPaths.{IsUnderPath, tree_under}

no_value : {A P : Type 0} {a : A} {why : Refusal} → Ok a ≡ Err why → P
no_value e = cc

one_value : {A : Type 0} {a b : A} → (let r : Result A Refusal = Ok a in r) ≡ Ok b → a ≡ b
one_value e = cc

-- what is undone tells no value
undo_refuses : {A : Type 0} (undone : Dialogue (Unit {0})) (why : Refusal) (s t : Serial) (a : A)
    → IsHad Calls (undo undone why) s (Ok a) t → ⊥
undo_refuses undone why s t a had =
    let on = went_on Calls (λ done. Ends (Err why)) undone s t a had in no_value on.then.0

-- a value was told by the dialogue itself
pub not_undone : {A : Type 0} (undone : Dialogue (Unit {0})) (d : Dialogue A) (s t : Serial) (a : A)
    → IsHad Calls (undoing undone d) s (Ok a) t → IsHad Calls d s (Ok a) t
unfolding undoing
not_undone undone (Ends (Ok b)) s t a had = had
not_undone undone (Ends (Err why)) s t a had = absurd (undo_refuses undone why s t a had)
not_undone undone (Grows rest) s t a (inl had) = absurd (undo_refuses undone no_memory s t a had)
not_undone undone (Grows rest) s t a (inr had) = inr (not_undone undone rest s t a had)
not_undone undone (GrowsOr refused rest) s t a (inl had) = inl (not_undone undone refused s t a had)
not_undone undone (GrowsOr refused rest) s t a (inr had) = inr (not_undone undone rest s t a had)
not_undone undone (Asks call rest) s t a had =
    (had.0, had.1, had.2, not_undone undone (rest had.0) had.1 t a had.3)

-- ---- calls on snapshots

snapshot_is : (result : Result Answer Fault) (epoch : ℕ) → snapshot_told result ≡ Ok epoch
    → result ≡ Ok (answers.Snapshot epoch)
snapshot_is (Ok (answers.Snapshot made)) epoch e =
    ap (λ (n : ℕ). Ok (answers.Snapshot n)) (one_value e)
snapshot_is (Ok other) epoch e = no_value (sym e)
snapshot_is (Err why) epoch e = no_value (sym e)

tree_is : (result : Result Answer Fault) (tree : List TreeNode) → tree_told result ≡ Ok tree
    → result ≡ Ok (answers.Tree tree)
tree_is (Ok (answers.Tree shown)) tree e =
    ap (λ (nodes : List TreeNode). Ok (answers.Tree nodes)) (one_value e)
tree_is (Ok other) tree e = no_value (sym e)
tree_is (Err why) tree e = no_value (sym e)

tree_of_reply : List TreeNode → Reply → List TreeNode
tree_of_reply other (Done (answers.Tree tree)) = tree
tree_of_reply other reply = other

-- a new snapshot was shown: its tree is the one that stands, and nodes are as they were
record IsShown (old new : Serial) (tree : List TreeNode) : Type 0 where
  pub is : tree ≡ tree_now old
  pub nodes : copies_now new ≡ copies_now old

shown_then : (old between new : Serial) (epoch : ℕ) (tree : List TreeNode) → CanStand old
    → Calls old (calls.SnapshotOrCleaner snapshot_calls.Snap) (Ok (answers.Snapshot epoch)) between
    → Calls between (calls.SnapshotOrCleaner (snapshot_calls.Show epoch)) (Ok (answers.Tree tree)) new
    → IsShown old new tree
unfolding tree_of_reply
shown_then old between new epoch tree stands snap show =
    let sound = standing_sound old.numbers stands.0 old stands.1 in
    let snapped = calls_snap old between 0 epoch snap.answered in
    let shows = snap_told old between 0 epoch sound snap.answered in
    let actors = subst (λ g. 0 < g.actors) (sym snapped.numbers) sound.actors in
    let is = sym (show_told between 0 epoch (tree_now old) actors shows) ∙ show.answered in
    record {
      is = sym (ap (λ (o : CallOutcome). tree_of_reply tree o.reply) is);
      nodes =
          ap (λ (o : CallOutcome). copies_now o.world) (sym is)
          ∙ ap node_in snapped.nodes;
    }

-- ---- a snapshot was made

-- A NEW SNAPSHOT stands behind all others, with its tree and what is kept of each node
pub record IsMade (old : Serial) (side new_side : Side) : Type 0 where
  pub name : List ℕ
  pub epoch : ℕ
  pub all : KeptTree
  pub rows : new_side.snapshots ≡ with_snapshot name epoch all side.snapshots
  pub each : EachWith (IsKeptOf (copies_now old) side.nodes) all.tree all.kept

module _ (old : Serial) (stands : CanStand old) (rows : List (Option Snapshot)) (nodes : AllBeside)
  where
    -- what was told and kept of it
    record IsHeld (made : Attributes × List (Option Snapshot)) : Type 0 where
      pub name : List ℕ
      pub epoch : ℕ
      pub all : KeptTree
      pub rows_are : made.1 ≡ with_snapshot name epoch all rows
      pub each : EachWith (IsKeptOf (copies_now old) nodes) all.tree all.kept

    kept_then : (between new : Serial) (epoch : ℕ) (all : KeptTree)
        → Calls old (calls.SnapshotOrCleaner snapshot_calls.Snap) (Ok (answers.Snapshot epoch)) between
        → IsHad Calls (ask_kept_tree nodes epoch) between (Ok all) new
        → EachWith (IsKeptOf (copies_now old) nodes) all.tree all.kept
    kept_then between new epoch all snap had =
        let a = went_on Calls
        (λ tree. ask_each (ask_kept nodes) tree >>= λ kept. Ends (Ok (record { tree = tree; kept = kept })))
        (ask_tree epoch) between new all had in
        let tree = a.value in
        let (result, later, called, (told_so, same)) = a.first in
        let is = tree_is result tree (sym told_so) in
        let show = subst (λ (r : Result Answer Fault). Calls between
        (calls.SnapshotOrCleaner (snapshot_calls.Show epoch)) r later) is called in
        let shown = shown_then old between later epoch tree stands snap show in
        let b = went_on Calls (λ kept. Ends (Ok (record { tree = tree; kept = kept })))
        (ask_each (ask_kept nodes) tree) a.between new all a.then in
        let copies = ap copies_now same ∙ shown.nodes in
        let sound = standing_sound old.numbers stands.0 old stands.1 in
        let under : AllByRecursion (IsUnderPath (copies_now old)) tree =
        subst (λ (t : List TreeNode). AllByRecursion (IsUnderPath (copies_now old)) t) (sym shown.is)
        (tree_under (copies_now old) sound.tree (length old.slots)) in
        let under_now = subst (λ (c : Handle → Option NodeCopy). AllByRecursion (IsUnderPath c) tree)
        (sym copies) under in
        let each = all_kept nodes tree b.value a.between b.between under_now b.first in
        let each_then = subst (λ (c : Handle → Option NodeCopy). EachWith (IsKeptOf c nodes) tree b.value)
        copies each.0 in
        subst (λ (k : KeptTree). EachWith (IsKeptOf (copies_now old) nodes) k.tree k.kept)
        (sym (one_value b.then.0)) each_then

    made_behind : (number : ℕ) (name : List ℕ) (new : Serial) (made : Attributes × List (Option Snapshot))
        → IsHad Calls
        (Grows ask_snapshot >>= λ epoch.
        undoing (drop_epoch epoch) (ask_kept_tree nodes epoch) >>= λ all.
        Ends (and_then (node_at (length rows) 0 all) (attributes_in number)) >>= λ attributes.
        Ends (Ok (attributes, with_snapshot name epoch all rows))) old (Ok made) new
        → IsHeld made
    made_behind number name new made had = go a.first where
      last : ℕ → KeptTree → Dialogue (Attributes × List (Option Snapshot))
      last epoch all =
          Ends (and_then (node_at (length rows) 0 all) (attributes_in number)) >>= λ attributes.
          Ends (Ok (attributes, with_snapshot name epoch all rows))

      next : ℕ → Dialogue (Attributes × List (Option Snapshot))
      next epoch = undoing (drop_epoch epoch) (ask_kept_tree nodes epoch) >>= last epoch

      a : GoesOn Calls next (Grows ask_snapshot) old (Ok made) new
      a = went_on Calls next (Grows ask_snapshot) old new made had

      b : GoesOn Calls (last a.value) (undoing (drop_epoch a.value) (ask_kept_tree nodes a.value))
          a.between (Ok made) new
      b = went_on Calls (last a.value) (undoing (drop_epoch a.value) (ask_kept_tree nodes a.value))
          a.between new made a.then

      told_last : Attributes → Dialogue (Attributes × List (Option Snapshot))
      told_last attributes = Ends (Ok (attributes, with_snapshot name a.value b.value rows))

      c : GoesOn Calls told_last (Ends (and_then (node_at (length rows) 0 b.value) (attributes_in number)))
          b.between (Ok made) new
      c = went_on Calls told_last
          (Ends (and_then (node_at (length rows) 0 b.value) (attributes_in number))) b.between new made
          b.then

      go : IsHad Calls (Grows ask_snapshot) old (Ok a.value) a.between → IsHeld made
      go (inl none) = no_value none.0
      go (inr (result, between, called, (told_so, same))) =
          let is = snapshot_is result a.value (sym told_so) in
          let snap = subst (λ (r : Result Answer Fault). Calls old
          (calls.SnapshotOrCleaner snapshot_calls.Snap) r between) is called in
          let snap_now = subst (λ (s : Serial). Calls old
          (calls.SnapshotOrCleaner snapshot_calls.Snap) (Ok (answers.Snapshot a.value)) s) (sym same)
          snap in
          record {
            name = name;
            epoch = a.value;
            all = b.value;
            rows_are =
                ap (λ (m : Attributes × List (Option Snapshot)). m.1) (one_value c.then.0);
            each =
                kept_then a.between b.between a.value b.value snap_now
                (not_undone (drop_epoch a.value) (ask_kept_tree nodes a.value) a.between b.between
                b.value b.first);
          }

    making_made : (file : List ℕ) (new : Serial) (made : Attributes × List (Option Snapshot))
        → IsHad Calls (making rows nodes file) old (Ok made) new → IsHeld made
    making_made file new made had = go (is_ok (place_named file rows)) had where
      numbered : ℕ → List ℕ → Dialogue (Attributes × List (Option Snapshot))
      numbered number name =
          Grows ask_snapshot >>= λ epoch.
          undoing (drop_epoch epoch) (ask_kept_tree nodes epoch) >>= λ all.
          Ends (and_then (node_at (length rows) 0 all) (attributes_in number)) >>= λ attributes.
          Ends (Ok (attributes, with_snapshot name epoch all rows))

      named : List ℕ → Dialogue (Attributes × List (Option Snapshot))
      named name = Ends (number_in (length rows) 0) >>= λ number. numbered number name

      go : (b : Bool)
          → IsHad Calls (if b then Ends (refused errno.Exists) else
          (Grows (Ends (checked_name file)) >>= named)) old (Ok made) new → IsHeld made
      go true refusal = no_value refusal.0
      go false free =
          let a = went_on Calls named (Grows (Ends (checked_name file))) old new made free in
          let checked = grown (checked_name file) old a.between a.value a.first in
          let b = went_on Calls (λ number. numbered number a.value) (Ends (number_in (length rows) 0))
          a.between new made a.then in
          made_behind b.value a.value new made
          (subst (λ (s : Serial). IsHad Calls (numbered b.value a.value) s (Ok made) new)
          (b.first.1 ∙ checked.1) b.then)

pub snapshot_made : (side new_side : Side) (name : List ℕ) (old new : Serial) (outcome : Outcome)
    → CanStand old → Does Calls (make_snapshot side name) old side (Ok outcome) new new_side
    → IsMade old side new_side
snapshot_made side new_side name old new outcome stands does =
    let next : Attributes × List (Option Snapshot) → Dialogue (Outcome × Side) =
    λ made. Ends (Ok (outcomes.Found (entry_of made.0), record side { snapshots = made.1 })) in
    let a = went_on Calls next (making side.snapshots side.nodes name) old new (outcome, new_side)
    does.had in
    let held = making_made old stands side.snapshots side.nodes name a.between a.value a.first in
    let after = record side { snapshots = a.value.1 } in
    let side_is : new_side ≡ after =
    side_told outcome (outcomes.Found (entry_of a.value.0)) new_side after a.then.0 in
    record {
      name = held.name;
      epoch = held.epoch;
      all = held.all;
      rows = ap (λ (s : Side). s.snapshots) side_is ∙ held.rows_are;
      each = held.each;
    }
