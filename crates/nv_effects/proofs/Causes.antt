-- A refused call has its cause, and one that has room is answered.
use Rattle.std.proofs.Common.{◌≡◌, ◌∙◌, ◌<◌, ◌*◌, ℕ, Bool, true, false, List, length, inl, inr, Option, Some, None, Ok, Err, ap, refl, subst, sym}
use Rattle.std.specs.Prelude.{if◌then◌else◌, nat_le, nat_lt}
use Rattle.std.specs.List.{list_any}
use Rattle.std.proofs.lemmas.Bool.{le-leb, leb-false, leb-true, lt-leb, lt-ltb, ltb-false, ltb-true}
use Rattle.nv_base.specs.declared.fault.Fault.{Fault}
use Rattle.nv_base.specs.declared.fault.Fault.TheVariants as fault
use Rattle.nv_base.specs.declared.limits.TheConstants.{NUMBER}
use Rattle.nv_base.specs.declared.numbers.Handle.{Handle}
use Rattle.nv_calls.specs.AllCalls.{answer, is_nothing, refusal}
use Rattle.nv_calls.specs.Refusals.{Check, passes}
use Rattle.nv_calls.specs.declared.call.Call.{Call}
use Rattle.nv_calls.specs.declared.call.Call.TheVariants as call
use Rattle.nv_calls.specs.declared.snapshot_or_cleaner_call.SnapshotOrCleanerCall.{SnapshotOrCleanerCall}
use Rattle.nv_calls.specs.declared.snapshot_or_cleaner_call.SnapshotOrCleanerCall.TheVariants as on
use Rattle.nv_cell.specs.Readers.{has_entry}
use Rattle.nv_entry.specs.declared.tree.TreeNode.{TreeNode}
use Rattle.nv_machine.specs.EndsDecided.{is_snapshot_or_cleaner}
use Rattle.nv_machine.specs.PlainRun.{is_of}
use Rattle.nv_machine.specs.World.{Refused, Reply}
use Rattle.nv_serial.specs.Cleaning.{auto, entries_staying, fast, pages_filled, thorough, thorough_if}
use Rattle.nv_serial.specs.Committed.{committed}
use Rattle.nv_serial.specs.FileCalls.{commit_if, commit_with, fits, if_passes, log_pages_for, pass, plan_for}
use Rattle.nv_serial.specs.Free.{row_of}
use Rattle.nv_serial.specs.OneCall.{maintained, serial_call}
use Rattle.nv_serial.specs.Serial.{Outcome, Serial, copies_now, log_in, refused, told}
use Rattle.nv_serial.specs.Snapshots.{drop_if, show_of, snap_if, snapshot_tree_told}
use Rattle.nv_serial.proofs.CommitLaw.{there_is}
use Rattle.nv_effects.specs.Causes.{HasRoom, IsCause, IsCauseOn, IsCleanerCause, Passes, blocks_taken, handle_taken}
use Rattle.nv_effects.proofs.Effects.{nobody}
use Rattle.nv_effects.proofs.Visits.{of_files}

-- what a refusal tells; of other replies nothing is said
abbrev CauseBy : Serial → ℕ → Call → Reply → Type 0
CauseBy s actor c (Refused why) = IsCause s actor c why
CauseBy s actor c other = Unit {0}

module _ (s : Serial) (actor : ℕ) (c : Call) where
  commit_cause : (room limit : Bool) (made : Handle) → Passes s actor c → handle_taken s c ≡ Some made
      → fits s actor made c ≡ room → nat_le NUMBER s.plain.commit ≡ limit → CauseBy s actor c (commit_if room limit s actor made c).reply
  commit_cause false limit made passed handle room is =
      inr (inr (passed, (made, handle, leb-false (blocks_taken s actor made c) (length (row_of s actor)) room)))
  commit_cause true true made passed handle room is =
      inr (inr (
        passed,
        (
          made,
          record { handle = handle; blocks = leb-true (blocks_taken s actor made c) (length (row_of s actor)) room },
          leb-true NUMBER s.plain.commit is,
        ),
      ))
  commit_cause true false made passed handle room is = tt

  made_cause : (made : Option Handle) → Passes s actor c → handle_taken s c ≡ made → CauseBy s actor c (commit_with made s actor c).reply
  made_cause None passed handle = inr (inr (passed, handle))
  made_cause (Some made) passed handle =
      commit_cause (fits s actor made c) (nat_le NUMBER s.plain.commit) made passed handle refl refl

  pass_cause : (nothing : Bool) → actor < s.numbers.actors → refusal s.numbers.block (copies_now s) c ≡ passes
      → is_nothing c ≡ nothing → CauseBy s actor c (pass nothing s actor c).reply
  pass_cause true there unrefused is = tt
  pass_cause false there unrefused is =
      made_cause (handle_taken s c) (record { there = there; unrefused = unrefused; commits = is }) refl

  check_cause : (check : Check) → actor < s.numbers.actors → refusal s.numbers.block (copies_now s) c ≡ check
      → CauseBy s actor c (if_passes check s actor c).reply
  check_cause (Err why) there is = inr (inl is)
  check_cause (Ok tt) there is = pass_cause (is_nothing c) there is refl

  all_cause : is_snapshot_or_cleaner c ≡ false → CauseBy s actor c (serial_call s actor c).reply
  all_cause of = go (nat_lt actor s.numbers.actors) refl where
    go : (b : Bool) → nat_lt actor s.numbers.actors ≡ b → CauseBy s actor c (serial_call s actor c).reply
    go true e =
        subst (λ (o : Outcome). CauseBy s actor c o.reply) (sym (there_is s actor c e ∙ of_files s actor c of))
        (check_cause (refusal s.numbers.block (copies_now s) c) (ltb-true actor s.numbers.actors e) refl)
    go false e =
        subst (λ (o : Outcome). CauseBy s actor c o.reply) (sym (nobody s actor c e))
        (inl (refl, ltb-false actor s.numbers.actors e))

-- THE CAUSE of a refusal
pub refused_cause : (old new : Serial) (actor : ℕ) (c : Call) (why : Fault) → is_snapshot_or_cleaner c ≡ false
    → serial_call old actor c ≡ refused why new → IsCause old actor c why
refused_cause old new actor c why of is = subst (λ (o : Outcome). CauseBy old actor c o.reply) is (all_cause old actor c of)

-- A CALL THAT HAS ROOM is answered
pub roomy_told : (s : Serial) (actor : ℕ) (c : Call) (made : Handle) → is_snapshot_or_cleaner c ≡ false → Passes s actor c
    → HasRoom s actor c made → s.plain.commit < NUMBER
    → serial_call s actor c ≡ told (answer s.plain.nodes made c) (committed s made c (plan_for s actor made c) (log_pages_for s actor c))
roomy_told s actor c made of passed room below =
    there_is s actor c (lt-ltb actor s.numbers.actors passed.there) ∙ of_files s actor c of
    ∙ ap (λ (check : Check). if_passes check s actor c) passed.unrefused
    ∙ ap (λ (b : Bool). pass b s actor c) passed.commits
    ∙ ap (λ (h : Option Handle). commit_with h s actor c) room.handle
    ∙ ap (λ (b : Bool). commit_if b (nat_le NUMBER s.plain.commit) s actor made c)
    (le-leb (blocks_taken s actor made c) (length (row_of s actor)) room.blocks)
    ∙ ap (λ (b : Bool). commit_if true b s actor made c) (lt-leb NUMBER s.plain.commit below)

-- ---- calls on snapshots, and cleaners

-- what a refusal tells; of other replies nothing is said
abbrev CauseOnBy : Serial → ℕ → SnapshotOrCleanerCall → Reply → Type 0
CauseOnBy s actor what (Refused why) = IsCauseOn s actor what why
CauseOnBy s actor what other = Unit {0}

module _ (s : Serial) (actor : ℕ) where
  snap_cause : (last full : Bool) → nat_le NUMBER s.plain.epoch ≡ last → nat_le s.numbers.snaps (length s.plain.copies) ≡ full
      → CauseOnBy s actor on.Snap (snap_if last full s).reply
  snap_cause true full e f = leb-true NUMBER s.plain.epoch e
  snap_cause false true e f = leb-true s.numbers.snaps (length s.plain.copies) f
  snap_cause false false e f = tt

  drop_cause : (lives : Bool) (snapshot : ℕ) → list_any (is_of snapshot) s.plain.copies ≡ lives
      → CauseOnBy s actor (on.Drop snapshot) (drop_if lives snapshot s).reply
  drop_cause false snapshot e = (refl, e)
  drop_cause true snapshot e = tt

  show_cause : (tree : Option (List TreeNode)) (snapshot : ℕ) → snapshot_tree_told s snapshot ≡ tree
      → CauseOnBy s actor (on.Show snapshot) (show_of tree s).reply
  show_cause None snapshot e = (refl, e)
  show_cause (Some tree) snapshot e = tt

  fast_cause : (b : Bool) (ino : ℕ) → has_entry (log_in s ino) ≡ b
      → CauseOnBy s actor (on.Fast ino) (if b then fast s ino else refused fault.Stale s).reply
  fast_cause true ino e = tt
  fast_cause false ino e = (refl, e)

  -- what a cleaner that may take blocks is refused for
  abbrev CleanerBy : ℕ → Reply → Type 0
  CleanerBy ino (Refused why) = IsCleanerCause s actor ino why
  CleanerBy ino other = Unit {0}

  thorough_cause : (some_go room : Bool) (ino : ℕ) → nat_le (pages_filled s ino) (length (row_of s actor)) ≡ room
      → CleanerBy ino (thorough_if some_go room s actor ino).reply
  thorough_cause false room ino e = tt
  thorough_cause true false ino e = leb-false (pages_filled s ino) (length (row_of s actor)) e
  thorough_cause true true ino e = tt

  thorough_all : (ino : ℕ) → CleanerBy ino (thorough s actor ino).reply
  thorough_all ino =
      thorough_cause (nat_lt (length (entries_staying s ino)) (length (log_in s ino)))
      (nat_le (pages_filled s ino) (length (row_of s actor))) ino refl

  either_cause : (b : Bool) (ino : ℕ) → CleanerBy ino (if b then thorough s actor ino else fast s ino).reply
  either_cause true ino = thorough_all ino
  either_cause false ino = tt

  inode_cause : (b : Bool) (ino : ℕ) (clean : Outcome) → has_entry (log_in s ino) ≡ b → CleanerBy ino clean.reply
      → CleanerBy ino (if b then clean else refused fault.Stale s).reply
  inode_cause true ino clean e cause = cause
  inode_cause false ino clean e cause = e

  maintained_cause : (what : SnapshotOrCleanerCall) → CauseOnBy s actor what (maintained s actor what).reply
  maintained_cause on.Snap = snap_cause (nat_le NUMBER s.plain.epoch) (nat_le s.numbers.snaps (length s.plain.copies)) refl refl
  maintained_cause (on.Drop snapshot) = drop_cause (list_any (is_of snapshot) s.plain.copies) snapshot refl
  maintained_cause (on.Show snapshot) = show_cause (snapshot_tree_told s snapshot) snapshot refl
  maintained_cause (on.Drain most) = tt
  maintained_cause (on.Fast ino) = fast_cause (has_entry (log_in s ino)) ino refl
  maintained_cause (on.Thorough ino) =
      as_thorough (maintained s actor (on.Thorough ino)).reply
      (inode_cause (has_entry (log_in s ino)) ino (thorough s actor ino) refl (thorough_all ino)) where
        as_thorough : (r : Reply) → CleanerBy ino r → CauseOnBy s actor (on.Thorough ino) r
        as_thorough (Refused why) cause = cause
        as_thorough other cause = tt
  maintained_cause (on.Auto ino) =
      as_auto (maintained s actor (on.Auto ino)).reply
      (inode_cause (has_entry (log_in s ino)) ino (auto s actor ino) refl
      (either_cause (nat_lt (2 * length (entries_staying s ino)) (length (log_in s ino))) ino)) where
        as_auto : (r : Reply) → CleanerBy ino r → CauseOnBy s actor (on.Auto ino) r
        as_auto (Refused why) cause = cause
        as_auto other cause = tt

  all_cause_on : (what : SnapshotOrCleanerCall) → actor < s.numbers.actors
      → CauseOnBy s actor what (serial_call s actor (call.SnapshotOrCleaner what)).reply
  all_cause_on what there =
      subst (λ (o : Outcome). CauseOnBy s actor what o.reply)
      (sym (there_is s actor (call.SnapshotOrCleaner what) (lt-ltb actor s.numbers.actors there))) (maintained_cause what)

-- THE CAUSE of a refusal of a call on snapshots, or of a cleaner
pub refused_cause_on : (old new : Serial) (actor : ℕ) (what : SnapshotOrCleanerCall) (why : Fault) → actor < old.numbers.actors
    → serial_call old actor (call.SnapshotOrCleaner what) ≡ refused why new → IsCauseOn old actor what why
refused_cause_on old new actor what why there is =
    subst (λ (o : Outcome). CauseOnBy old actor what o.reply) is (all_cause_on old actor what there)
