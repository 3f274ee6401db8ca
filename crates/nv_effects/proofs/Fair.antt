-- Each call of the world with numbers gets an answer that suits it, and a refusal leaves that world as it was.
use Rattle.std.proofs.Common.{◌≡◌, ◌≤◌, ℕ, Bool, true, false, List, Option, Some, None, Ok, Err, arith, drop, length, refl, subst, take}
use Rattle.std.specs.Prelude.{if◌then◌else◌, nat_le, nat_lt, not}
use Rattle.std.proofs.lemmas.List.{length-take}
use Rattle.nv_base.specs.Names.{is_lawful_name}
use Rattle.nv_base.specs.declared.fault.Fault.{Fault}
use Rattle.nv_base.specs.declared.fault.Fault.TheVariants as fault
use Rattle.nv_base.specs.declared.limits.TheConstants.{NUMBER}
use Rattle.nv_base.specs.declared.node.Kind.{Kind}
use Rattle.nv_base.specs.declared.node.Kind.TheVariants.{File, Dir}
use Rattle.nv_base.specs.declared.numbers.Handle.{Handle}
use Rattle.nv_calls.specs.AllCalls.{answer, is_nothing, refusal}
use Rattle.nv_calls.specs.Plain.{PlainNode}
use Rattle.nv_calls.specs.Refusals.{Check, bytes_of, kind_of, lookup, passes, refuse_if, want_bound, want_directory, want_node}
use Rattle.nv_calls.specs.calls.Lookup.{lookup_answer}
use Rattle.nv_calls.specs.calls.Stat.{stat_answer}
use Rattle.nv_calls.specs.declared.answer.Answer.{Answer}
use Rattle.nv_calls.specs.declared.call.Call.{Call}
use Rattle.nv_calls.specs.declared.call.Call.TheVariants as call
use Rattle.nv_calls.specs.declared.snapshot_or_cleaner_call.SnapshotOrCleanerCall.{SnapshotOrCleanerCall}
use Rattle.nv_calls.specs.declared.snapshot_or_cleaner_call.SnapshotOrCleanerCall.TheVariants as on
use Rattle.nv_cell.specs.Readers.{has_entry}
use Rattle.nv_entry.specs.declared.tree.TreeNode.{TreeNode}
use Rattle.nv_machine.specs.EndsDecided.{is_snapshot_or_cleaner}
use Rattle.nv_machine.specs.PlainRun.{is_of}
use Rattle.nv_machine.specs.World.{Done, Refused, Reply}
use Rattle.std.specs.List.{list_any}
use Rattle.std.specs.Option.{option_map}
use Rattle.nv_serial.specs.Cleaning.{auto, entries_staying, fast, if_inode, pages_filled, thorough, thorough_if}
use Rattle.nv_serial.specs.FileCalls.{commit_if, commit_with, fits, handle_for, if_passes, makes_inode, on_files, pass}
use Rattle.nv_serial.specs.Free.{pool_of, row_of}
use Rattle.nv_serial.specs.OneCall.{maintained, of_call, serial_call}
use Rattle.nv_serial.specs.Serial.{Outcome, Serial, copies_now, log_in, refused, told}
use Rattle.nv_serial.specs.Snapshots.{drop_if, show_of, snap_if, snapshot_tree_told}
use Rattle.nv_effects.proofs.Effects.{there_or_not}
use Rattle.nv_effects.specs.Suits.{IsMade, IsStat, Suits, SuitsOn}

-- a reply with an answer that suits the call; a refusal leaves the world
abbrev pub FairBy : Call → Serial → Reply → Serial → Type 0
FairBy c old (Done a) new = Suits c a
FairBy c old (Refused fault) new = new ≡ old
FairBy c old other new = ⊥

abbrev pub IsFair : Call → Serial → Outcome → Type 0
IsFair c s o = FairBy c s o.reply o.world

-- ---- file calls

no_node : {P : Type 0} {f : Fault} → Err f ≡ passes → P
no_node e = cc

stat_suits : (node : Option PlainNode)
    → want_node (kind_of (option_map (λ (p : PlainNode). p.node) node)) passes ≡ passes → IsStat (stat_answer node)
stat_suits None e = no_node e
stat_suits (Some p) e = tt

lookup_suits : (kind : Option Kind) (unlawful : Bool) (to : Option Handle)
    → want_directory kind (refuse_if unlawful fault.BadName (want_bound to (λ t. passes))) ≡ passes → IsMade (lookup_answer to)
lookup_suits kind unlawful (Some to) e = tt
lookup_suits None unlawful None e = no_node e
lookup_suits (Some File) unlawful None e = no_node e
lookup_suits (Some Dir) true None e = no_node e
lookup_suits (Some Dir) false None e = no_node e

no_step : {P : Type 0} → true ≡ false → P
no_step e = cc

few : (count : ℕ) (bytes : List ℕ) → length (take count bytes) ≤ count
few count bytes = omega (arith, length-take count bytes)

answer_suits : (s : Serial) (c : Call) (made : Handle) → is_snapshot_or_cleaner c ≡ false
    → refusal s.numbers.block (copies_now s) c ≡ passes → Suits c (answer s.plain.nodes made c)
answer_suits s (call.Create dir name mode) made of good = tt
answer_suits s (call.Mkdir dir name mode) made of good = tt
answer_suits s (call.Write file offset text) made of good = refl
answer_suits s (call.Read file offset count) made of good = few count (drop offset (bytes_of (copies_now s file)))
answer_suits s (call.Size file size) made of good = tt
answer_suits s (call.Mode handle mode) made of good = tt
answer_suits s (call.Stat handle) made of good = stat_suits (s.plain.nodes handle) good
answer_suits s (call.List dir) made of good = tt
answer_suits s (call.Lookup dir name) made of good =
    lookup_suits (kind_of (copies_now s dir)) (not (is_lawful_name name)) (lookup (copies_now s) dir name) good
answer_suits s (call.Unlink dir name) made of good = tt
answer_suits s (call.Rmdir dir name) made of good = tt
answer_suits s (call.Rename from old to new) made of good = tt
answer_suits s (call.SnapshotOrCleaner what) made of good = no_step of

module _ (s : Serial) (actor : ℕ) (c : Call) (suits : (made : Handle) → Suits c (answer s.plain.nodes made c)) where
  commit_fair : (room limit : Bool) (made : Handle) → IsFair c s (commit_if room limit s actor made c)
  commit_fair false limit made = refl
  commit_fair true true made = refl
  commit_fair true false made = suits made

  made_fair : (made : Option Handle) → IsFair c s (commit_with made s actor c)
  made_fair None = refl
  made_fair (Some made) = commit_fair (fits s actor made c) (nat_le NUMBER s.plain.commit) made

  pass_fair : (nothing : Bool) → IsFair c s (pass nothing s actor c)
  pass_fair true = suits _
  pass_fair false = made_fair (handle_for (makes_inode c) (pool_of s) s)

passes_fair : (s : Serial) (actor : ℕ) (c : Call) (check : Check)
    → (check ≡ passes → (made : Handle) → Suits c (answer s.plain.nodes made c)) → IsFair c s (if_passes check s actor c)
passes_fair s actor c (Err fault) suits = refl
passes_fair s actor c (Ok tt) suits = pass_fair s actor c (suits refl) (is_nothing c)

files_fair : (s : Serial) (actor : ℕ) (c : Call) → is_snapshot_or_cleaner c ≡ false → IsFair c s (on_files s actor c)
files_fair s actor c of =
    passes_fair s actor c (refusal s.numbers.block (copies_now s) c) (λ good made. answer_suits s c made of good)

-- ---- snapshots and cleaners

snap_fair : (last full : Bool) (s : Serial) → IsFair (call.SnapshotOrCleaner on.Snap) s (snap_if last full s)
snap_fair true full s = refl
snap_fair false true s = refl
snap_fair false false s = tt

drop_fair : (lives : Bool) (snapshot : ℕ) (s : Serial)
    → IsFair (call.SnapshotOrCleaner (on.Drop snapshot)) s (drop_if lives snapshot s)
drop_fair false snapshot s = refl
drop_fair true snapshot s = tt

show_fair : (tree : Option (List TreeNode)) (snapshot : ℕ) (s : Serial)
    → IsFair (call.SnapshotOrCleaner (on.Show snapshot)) s (show_of tree s)
show_fair None snapshot s = refl
show_fair (Some tree) snapshot s = tt

either_fair : (c : Call) (s : Serial) (b : Bool) (one other : Outcome) → IsFair c s one → IsFair c s other
    → IsFair c s (if b then one else other)
either_fair c s true one other a b = a
either_fair c s false one other a b = b

thorough_fair : (some_go room : Bool) (what : SnapshotOrCleanerCall) (s : Serial) (actor ino : ℕ)
    → ((a : Answer) → SuitsOn (on.Fast ino) a → SuitsOn what a)
    → IsFair (call.SnapshotOrCleaner what) s (thorough_if some_go room s actor ino)
thorough_fair false room what s actor ino suits = suits _ tt
thorough_fair true false what s actor ino suits = refl
thorough_fair true true what s actor ino suits = suits _ tt

module _ (s : Serial) (actor ino : ℕ) where
  thorough_all : (what : SnapshotOrCleanerCall) → ((a : Answer) → SuitsOn (on.Fast ino) a → SuitsOn what a)
      → IsFair (call.SnapshotOrCleaner what) s (thorough s actor ino)
  thorough_all what suits =
      thorough_fair (nat_lt (length (entries_staying s ino)) (length (log_in s ino)))
      (nat_le (pages_filled s ino) (length (row_of s actor))) what s actor ino suits

  inode_fair : (what : SnapshotOrCleanerCall) (clean : Outcome) → IsFair (call.SnapshotOrCleaner what) s clean
      → IsFair (call.SnapshotOrCleaner what) s (if_inode s ino clean)
  inode_fair what clean fair =
      either_fair (call.SnapshotOrCleaner what) s (has_entry (log_in s ino)) clean (refused fault.Stale s) fair refl

maintained_fair : (s : Serial) (actor : ℕ) (what : SnapshotOrCleanerCall)
    → IsFair (call.SnapshotOrCleaner what) s (maintained s actor what)
maintained_fair s actor on.Snap = snap_fair (nat_le NUMBER s.plain.epoch) (nat_le s.numbers.snaps (length s.plain.copies)) s
maintained_fair s actor (on.Drop snapshot) = drop_fair (list_any (is_of snapshot) s.plain.copies) snapshot s
maintained_fair s actor (on.Show snapshot) = show_fair (snapshot_tree_told s snapshot) snapshot s
maintained_fair s actor (on.Drain count) = tt
maintained_fair s actor (on.Fast ino) = inode_fair s actor ino (on.Fast ino) (fast s ino) tt
maintained_fair s actor (on.Thorough ino) =
    inode_fair s actor ino (on.Thorough ino) (thorough s actor ino) (thorough_all s actor ino (on.Thorough ino) (λ a suits. suits))
maintained_fair s actor (on.Auto ino) =
    inode_fair s actor ino (on.Auto ino) (auto s actor ino)
    (either_fair (call.SnapshotOrCleaner (on.Auto ino)) s _ (thorough s actor ino) (fast s ino)
    (thorough_all s actor ino (on.Auto ino) (λ a suits. suits)) tt)

-- ---- all

call_fair : (s : Serial) (actor : ℕ) (c : Call) → IsFair c s (of_call s actor c)
call_fair s actor (call.SnapshotOrCleaner what) = maintained_fair s actor what
call_fair s actor other = files_fair s actor other refl

-- EACH CALL is answered as it suits, and a refusal leaves the world
pub all_fair : (s : Serial) (actor : ℕ) (c : Call) → IsFair c s (serial_call s actor c)
all_fair s actor c = there_or_not (λ (o : Outcome). IsFair c s o) s actor c (λ there. call_fair s actor c) refl

-- a refusal leaves the world
pub refused_fair : (c : Call) (s : Serial) (o : Outcome) (why : Fault) → o.reply ≡ Refused why → IsFair c s o → o.world ≡ s
refused_fair c s o why is fair = subst (λ (r : Reply). FairBy c s r o.world) is fair

-- an answer suits its call
pub answer_fair : (old new : Serial) (actor : ℕ) (c : Call) (a : Answer) → serial_call old actor c ≡ told a new → Suits c a
answer_fair old new actor c a is = subst (λ (o : Outcome). IsFair c old o) is (all_fair old actor c)
