-- Calls on snapshots and cleaners that are answered: what they leave of the plain world.
use Rattle.std.proofs.Common.{◌≡◌, ◌∙◌, ℕ, zero, suc, Bool, true, false, List, length, Option, Some, None, refl, subst}
use Rattle.std.specs.Prelude.{if◌then◌else◌, max, min, nat_le, nat_lt}
use Rattle.std.specs.List.{list_any}
use Rattle.std.proofs.lemmas.Bool.{true≢false}
use Rattle.std.proofs.lemmas.List.{length-set}
use Rattle.nv_base.specs.declared.limits.TheConstants.{DRAIN, NUMBER}
use Rattle.nv_book.specs.Listed.{without_first}
use Rattle.nv_calls.specs.declared.answer.Answer.{Answer}
use Rattle.nv_calls.specs.declared.answer.Answer.TheVariants as answers
use Rattle.nv_calls.specs.declared.call.Call.TheVariants as call
use Rattle.nv_calls.specs.declared.snapshot_or_cleaner_call.SnapshotOrCleanerCall.{SnapshotOrCleanerCall}
use Rattle.nv_calls.specs.declared.snapshot_or_cleaner_call.SnapshotOrCleanerCall.TheVariants as on
use Rattle.nv_cell.specs.Readers.{has_entry}
use Rattle.nv_entry.specs.declared.tree.TreeNode.{TreeNode}
use Rattle.nv_machine.specs.PlainRun.{is_of}
use Rattle.nv_machine.specs.World.{Done, Reply}
use Rattle.nv_serial.specs.Cleaning.{auto, entries_staying, fast, if_inode, pages_filled, thorough, thorough_if, with_slot_pages}
use Rattle.nv_serial.specs.Committed.{erased}
use Rattle.nv_serial.specs.Free.{row_of}
use Rattle.nv_serial.specs.LogPages.{Page}
use Rattle.nv_serial.specs.OneCall.{maintained, serial_call}
use Rattle.nv_serial.specs.Serial.{NumberedSlot, Outcome, Serial, deferred_in, living, log_in, slot_of, told}
use Rattle.nv_serial.specs.Snapshots.{drop_if, released, show_of, snap_if, snapshot_tree_told}
use Rattle.nv_effects.proofs.Effects.{erased_slots, there_or_not}
use Rattle.nv_effects.specs.Snapshots.{HasDropped, HasSnapped, KeepsPlain, changes_snapshots}

-- ---- releases

same_plain : (s : Serial) → KeepsPlain s s
same_plain s = record { plain = refl; numbers = refl; slots = refl }

-- one record more
kept_more : (s next new : Serial) → KeepsPlain s next → KeepsPlain next new → KeepsPlain s new
kept_more s next new one rest = record {
  plain = rest.plain ∙ one.plain;
  numbers = rest.numbers ∙ one.numbers;
  slots = rest.slots ∙ one.slots;
}

released_one : (s : Serial) → KeepsPlain s (erased (record s { records = without_first (living s) s.records }))
released_one s =
    let left : Serial = record s { records = without_first (living s) s.records } in
    record { plain = refl; numbers = refl; slots = erased_slots left }

released_keeps : (count : ℕ) (s : Serial) → KeepsPlain s (released count s)
released_keeps zero s = same_plain s
released_keeps (suc more) s =
    let next : Serial = erased (record s { records = without_first (living s) s.records }) in
    kept_more s next (released more next) (released_one s) (released_keeps more next)

-- ---- cleaners

cleaned_keeps : (s : Serial) (ino : ℕ) (pages : List Page) → KeepsPlain s (with_slot_pages s ino pages)
cleaned_keeps s ino pages =
    let slot : NumberedSlot = record (slot_of s ino) { pages = pages } in
    record { plain = refl; numbers = refl; slots = length-set s.slots ino slot }

-- what an answer leaves; of other replies nothing is said
abbrev KeepsBy : Serial → Reply → Serial → Type 0
KeepsBy old (Done a) new = KeepsPlain old new
KeepsBy old other new = Unit {0}

abbrev Keeps : Serial → Outcome → Type 0
Keeps s o = KeepsBy s o.reply o.world

thorough_keeps : (some_go room : Bool) (s : Serial) (actor ino : ℕ) → Keeps s (thorough_if some_go room s actor ino)
thorough_keeps false room s actor ino = same_plain s
thorough_keeps true false s actor ino = tt
thorough_keeps true true s actor ino = cleaned_keeps s ino _

either_keeps : (s : Serial) (b : Bool) (one other : Outcome) → Keeps s one → Keeps s other → Keeps s (if b then one else other)
either_keeps s true one other a b = a
either_keeps s false one other a b = b

module _ (s : Serial) (actor ino : ℕ) where
  thorough_all : Keeps s (thorough s actor ino)
  thorough_all =
      thorough_keeps (nat_lt (length (entries_staying s ino)) (length (log_in s ino)))
      (nat_le (pages_filled s ino) (length (row_of s actor))) s actor ino

  inode_keeps : (clean : Outcome) → Keeps s clean → Keeps s (if_inode s ino clean)
  inode_keeps clean keeps = either_keeps s (has_entry (log_in s ino)) clean _ keeps tt

  auto_keeps : Keeps s (auto s actor ino)
  auto_keeps = either_keeps s _ (thorough s actor ino) (fast s ino) thorough_all (cleaned_keeps s ino _)

-- ---- which leave the plain world

show_keeps : (tree : Option (List TreeNode)) (s : Serial) → Keeps s (show_of tree s)
show_keeps None s = tt
show_keeps (Some tree) s = same_plain s

maintained_keeps : (s : Serial) (actor : ℕ) (what : SnapshotOrCleanerCall) → changes_snapshots what ≡ false
    → Keeps s (maintained s actor what)
maintained_keeps s actor on.Snap e = absurd (true≢false e)
maintained_keeps s actor (on.Drop snapshot) e = absurd (true≢false e)
maintained_keeps s actor (on.Show snapshot) e = show_keeps (snapshot_tree_told s snapshot) s
maintained_keeps s actor (on.Drain count) e = released_keeps (min (max 1 (min count DRAIN)) (length (deferred_in s))) s
maintained_keeps s actor (on.Fast ino) e = inode_keeps s actor ino (fast s ino) (cleaned_keeps s ino _)
maintained_keeps s actor (on.Thorough ino) e = inode_keeps s actor ino (thorough s actor ino) (thorough_all s actor ino)
maintained_keeps s actor (on.Auto ino) e = inode_keeps s actor ino (auto s actor ino) (auto_keeps s actor ino)

-- CLEANERS, DRAINS AND SHOWS leave the plain world
pub calls_keep_plain : (old new : Serial) (actor : ℕ) (what : SnapshotOrCleanerCall) (a : Answer) → changes_snapshots what ≡ false
    → serial_call old actor (call.SnapshotOrCleaner what) ≡ told a new → KeepsPlain old new
calls_keep_plain old new actor what a e is =
    subst (λ (o : Outcome). Keeps old o) is
    (there_or_not (λ (o : Outcome). Keeps old o) old actor (call.SnapshotOrCleaner what)
    (λ there. maintained_keeps old actor what e) tt)

-- ---- makings and drops

abbrev SnapsBy : Serial → Reply → Serial → Type 0
SnapsBy old (Done (answers.Snapshot snapshot)) new = HasSnapped old snapshot new
SnapsBy old other new = Unit {0}

snap_made : (last full : Bool) (s : Serial) → SnapsBy s (snap_if last full s).reply (snap_if last full s).world
snap_made true full s = tt
snap_made false true s = tt
snap_made false false s = record { named = refl; snapshots = refl; nodes = refl; numbers = refl; slots = refl }

pub calls_snap : (old new : Serial) (actor snapshot : ℕ)
    → serial_call old actor (call.SnapshotOrCleaner on.Snap) ≡ told (answers.Snapshot snapshot) new → HasSnapped old snapshot new
calls_snap old new actor snapshot is =
    subst (λ (o : Outcome). SnapsBy old o.reply o.world) is
    (there_or_not (λ (o : Outcome). SnapsBy old o.reply o.world) old actor (call.SnapshotOrCleaner on.Snap)
    (λ there. snap_made (nat_le NUMBER old.plain.epoch) (nat_le old.numbers.snaps (length old.plain.copies)) old) tt)

abbrev DropsBy : Serial → ℕ → Reply → Serial → Type 0
DropsBy old snapshot (Done a) new = HasDropped old snapshot new
DropsBy old snapshot other new = Unit {0}

drop_made : (lives : Bool) (snapshot : ℕ) (s : Serial)
    → DropsBy s snapshot (drop_if lives snapshot s).reply (drop_if lives snapshot s).world
drop_made false snapshot s = tt
drop_made true snapshot s = record { snapshots = refl; nodes = refl; numbers = refl; slots = refl }

pub calls_drop : (old new : Serial) (actor snapshot : ℕ) (a : Answer)
    → serial_call old actor (call.SnapshotOrCleaner (on.Drop snapshot)) ≡ told a new → HasDropped old snapshot new
calls_drop old new actor snapshot a is =
    subst (λ (o : Outcome). DropsBy old snapshot o.reply o.world) is
    (there_or_not (λ (o : Outcome). DropsBy old snapshot o.reply o.world) old actor (call.SnapshotOrCleaner (on.Drop snapshot))
    (λ there. drop_made (list_any (is_of snapshot) old.plain.copies) snapshot old) tt)
