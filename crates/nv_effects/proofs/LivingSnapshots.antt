-- A living snapshot shows what stood when it was made, whatever calls come after.
use Rattle.std.proofs.Common.{◌≡◌, ◌∙◌, ◌≢◌, ◌<◌, ◌++◌, ℕ, Bool, true, false, not, List, [], ◌∷◌, arith, filter, length, Option, Some, None, ap, refl, subst, sym}
use Rattle.std.specs.List.{AllByRecursion}
use Rattle.std.specs.Option.{option_map}
use Rattle.std.proofs.lemmas.Bool.{eq-eqb, eqb-false, eqb-true, lt-ltb}
use Rattle.nv_base.specs.declared.numbers.Handle.{Handle}
use Rattle.nv_calls.specs.declared.answer.Answer.{Answer}
use Rattle.nv_calls.specs.declared.answer.Answer.TheVariants as answers
use Rattle.nv_calls.specs.declared.call.Call.{Call}
use Rattle.nv_calls.specs.declared.call.Call.TheVariants as call
use Rattle.nv_calls.specs.declared.snapshot_or_cleaner_call.SnapshotOrCleanerCall.TheVariants as on
use Rattle.nv_entry.specs.Tree.{root, tree_from}
use Rattle.nv_entry.specs.declared.tree.TreeNode.{TreeNode}
use Rattle.nv_machine.specs.PlainRun.{Copy, Plain, is_of}
use Rattle.nv_machine.specs.World.{Done, Refused, Reply}
use Rattle.nv_serial.proofs.CommitLaw.{there_is}
use Rattle.nv_serial.specs.Reports.{tree_told}
use Rattle.nv_serial.specs.OneCall.{serial_call}
use Rattle.nv_serial.specs.Serial.{Outcome, Serial, copies_now, told}
use Rattle.nv_serial.specs.Snapshots.{first_of, show_of, snapshot_tree_told}
use Rattle.nv_effects.specs.Effects.{HasEffect}
use Rattle.nv_effects.specs.Snapshots.{CallOf, HasDropped, HasSnapped, KeepsPlain, NoneDrops, after_calls, drops, new_copy}
use Rattle.nv_effects.specs.Sound.{IsSoundWorld}
use Rattle.nv_effects.specs.Suits.{IsSnapshot}
use Rattle.nv_effects.proofs.Drained.{calls_drop, calls_keep_plain, calls_snap}
use Rattle.nv_effects.proofs.Effects.{calls_have_effects, there_or_not}
use Rattle.nv_effects.proofs.Fair.{FairBy, all_fair, answer_fair, refused_fair}

-- ---- the first copy of a snapshot

-- the copy that is shown
abbrev pub copy_shown : ℕ → List Copy → Option Copy
copy_shown snapshot copies = first_of (filter (is_of snapshot) copies)

-- a newer copy hides none
newer : (snapshot : ℕ) (copies more : List Copy) (copy : Copy) → copy_shown snapshot copies ≡ Some copy
    → copy_shown snapshot (copies ++ more) ≡ Some copy
newer snapshot [] more copy is = absurd (let none : None ≡ Some copy = is in cc)
newer snapshot (c ∷ copies) more copy is = go (is_of snapshot c) refl is (newer snapshot copies more copy) where
  go : (b : Bool) → is_of snapshot c ≡ b → copy_shown snapshot (c ∷ copies) ≡ Some copy
      → (copy_shown snapshot copies ≡ Some copy → copy_shown snapshot (copies ++ more) ≡ Some copy)
      → copy_shown snapshot ((c ∷ copies) ++ more) ≡ Some copy
  go true e shown rest = rw e (rw e at shown)
  go false e shown rest = rw e (rest (rw e at shown))

-- and is shown where there was none
pub newest : (snapshot : ℕ) (copies : List Copy) (copy : Copy) → copy.snapshot ≡ snapshot
    → AllByRecursion (λ (c : Copy). c.snapshot < snapshot) copies → copy_shown snapshot (copies ++ copy ∷ []) ≡ Some copy
newest snapshot [] copy named before = rw (eq-eqb copy.snapshot snapshot named) refl
newest snapshot (c ∷ copies) copy named before = go (is_of snapshot c) refl (newest snapshot copies copy named before.1) where
  earlier : c.snapshot ≢ snapshot
  earlier same = let lt = before.0 in omega (arith, lt, same)

  go : (b : Bool) → is_of snapshot c ≡ b → copy_shown snapshot (copies ++ copy ∷ []) ≡ Some copy
      → copy_shown snapshot ((c ∷ copies) ++ copy ∷ []) ≡ Some copy
  go true e rest = absurd (earlier (eqb-true c.snapshot snapshot e))
  go false e rest = rw e rest

-- a drop of another hides none
others : (dropped snapshot : ℕ) (copies : List Copy) → dropped ≢ snapshot
    → copy_shown snapshot (filter (λ copy. not (is_of dropped copy)) copies) ≡ copy_shown snapshot copies
others dropped snapshot [] differ = refl
others dropped snapshot (c ∷ copies) differ =
    go (is_of dropped c) (is_of snapshot c) refl refl (others dropped snapshot copies differ) where
      go : (a b : Bool) → is_of dropped c ≡ a → is_of snapshot c ≡ b
          → copy_shown snapshot (filter (λ copy. not (is_of dropped copy)) copies) ≡ copy_shown snapshot copies
          → copy_shown snapshot (filter (λ copy. not (is_of dropped copy)) (c ∷ copies)) ≡ copy_shown snapshot (c ∷ copies)
      go true true p q rest =
          absurd (differ (sym (eqb-true c.snapshot dropped p) ∙ eqb-true c.snapshot snapshot q))
      go true false p q rest = rw (p, q) rest
      go false true p q rest = rw p (rw q refl)
      go false false p q rest = rw p (rw q rest)

-- ---- the tree that is shown

-- by the copies, and by how many slots there are
abbrev shown_of : ℕ → Option Copy → Option (List TreeNode)
shown_of slots copy = option_map (λ (c : Copy). tree_from c.nodes slots [] root) copy

-- where the copy stays, so does the tree
pub still_shown : (old new : Serial) (snapshot : ℕ) → length new.slots ≡ length old.slots
    → copy_shown snapshot new.plain.copies ≡ copy_shown snapshot old.plain.copies
    → snapshot_tree_told new snapshot ≡ snapshot_tree_told old snapshot
still_shown old new snapshot slots copies =
    ap (λ (n : ℕ). shown_of n (copy_shown snapshot new.plain.copies)) slots ∙ ap (shown_of (length old.slots)) copies

-- where there is a tree there is a copy
pub record HasCopy (s : Serial) (snapshot : ℕ) (tree : List TreeNode) : Type 0 where
  pub copy : Copy
  pub shown : copy_shown snapshot s.plain.copies ≡ Some copy
  pub tree_is : tree_from copy.nodes (length s.slots) [] root ≡ tree

pub copy_of : (s : Serial) (snapshot : ℕ) (tree : List TreeNode) → snapshot_tree_told s snapshot ≡ Some tree → HasCopy s snapshot tree
copy_of s snapshot tree is = go (copy_shown snapshot s.plain.copies) refl is where
  go : (copy : Option Copy) → copy_shown snapshot s.plain.copies ≡ copy → shown_of (length s.slots) copy ≡ Some tree
      → HasCopy s snapshot tree
  go None e shown = absurd (let none : None ≡ Some tree = shown in cc)
  go (Some copy) e shown = record {
    copy = copy;
    shown = e;
    tree_is = (let same : Some (tree_from copy.nodes (length s.slots) [] root) ≡ Some tree = shown in cc);
  }

-- ---- one call

-- the tree of a snapshot, which an answered call leaves shown
abbrev Shows : Serial → ℕ → List TreeNode → Type 0
Shows s snapshot tree = snapshot_tree_told s snapshot ≡ Some tree

snap_shows : (old new : Serial) (made snapshot : ℕ) (tree : List TreeNode) → HasSnapped old made new → Shows old snapshot tree
    → Shows new snapshot tree
snap_shows old new made snapshot tree snapped shows =
    let has = copy_of old snapshot tree shows in
    let there : copy_shown snapshot new.plain.copies ≡ Some has.copy =
    ap (copy_shown snapshot) snapped.snapshots ∙ newer snapshot old.plain.copies (new_copy old ∷ []) has.copy has.shown in
    still_shown old new snapshot snapped.slots (there ∙ sym has.shown) ∙ shows

drop_shows : (old new : Serial) (dropped snapshot : ℕ) (tree : List TreeNode) → dropped ≢ snapshot → HasDropped old dropped new
    → Shows old snapshot tree → Shows new snapshot tree
drop_shows old new dropped snapshot tree differ done shows =
    still_shown old new snapshot done.slots
    (ap (copy_shown snapshot) done.snapshots ∙ others dropped snapshot old.plain.copies differ) ∙ shows

plain_shows : (old new : Serial) (snapshot : ℕ) (tree : List TreeNode) → KeepsPlain old new → Shows old snapshot tree
    → Shows new snapshot tree
plain_shows old new snapshot tree keeps shows =
    still_shown old new snapshot keeps.slots (ap (λ (p : Plain). copy_shown snapshot p.copies) keeps.plain) ∙ shows

file_shows : (old new : Serial) (actor : ℕ) (c : Call) (a : Answer) (made : Handle) (snapshot : ℕ) (tree : List TreeNode)
    → HasEffect old actor c made a new → Shows old snapshot tree → Shows new snapshot tree
file_shows old new actor c a made snapshot tree has shows =
    still_shown old new snapshot has.slots (ap (copy_shown snapshot) has.snapshots) ∙ shows

snapped_by : (a : Answer) → IsSnapshot a → (snapshot : ℕ) × (a ≡ answers.Snapshot snapshot)
snapped_by (answers.Snapshot snapshot) is = (snapshot, refl)
snapped_by other is = absurd is

pub call_shows : (old new : Serial) (actor : ℕ) (c : Call) (a : Answer) (snapshot : ℕ) (tree : List TreeNode)
    → serial_call old actor c ≡ told a new → drops snapshot c ≡ false → Shows old snapshot tree → Shows new snapshot tree
call_shows old new actor (call.SnapshotOrCleaner on.Snap) a snapshot tree is kept shows =
    let suits : IsSnapshot a = answer_fair old new actor (call.SnapshotOrCleaner on.Snap) a is in
    let by = snapped_by a suits in
    snap_shows old new by.0 snapshot tree (calls_snap old new actor by.0 (is ∙ ap (λ (b : Answer). told b new) by.1)) shows
call_shows old new actor (call.SnapshotOrCleaner (on.Drop dropped)) a snapshot tree is kept shows =
    drop_shows old new dropped snapshot tree (eqb-false dropped snapshot kept) (calls_drop old new actor dropped a is) shows
call_shows old new actor (call.SnapshotOrCleaner (on.Show shown)) a snapshot tree is kept shows =
    plain_shows old new snapshot tree (calls_keep_plain old new actor (on.Show shown) a refl is) shows
call_shows old new actor (call.SnapshotOrCleaner (on.Drain count)) a snapshot tree is kept shows =
    plain_shows old new snapshot tree (calls_keep_plain old new actor (on.Drain count) a refl is) shows
call_shows old new actor (call.SnapshotOrCleaner (on.Fast ino)) a snapshot tree is kept shows =
    plain_shows old new snapshot tree (calls_keep_plain old new actor (on.Fast ino) a refl is) shows
call_shows old new actor (call.SnapshotOrCleaner (on.Thorough ino)) a snapshot tree is kept shows =
    plain_shows old new snapshot tree (calls_keep_plain old new actor (on.Thorough ino) a refl is) shows
call_shows old new actor (call.SnapshotOrCleaner (on.Auto ino)) a snapshot tree is kept shows =
    plain_shows old new snapshot tree (calls_keep_plain old new actor (on.Auto ino) a refl is) shows
call_shows old new actor other a snapshot tree is kept shows =
    let has = calls_have_effects old new actor other a refl is in
    file_shows old new actor other a has.0 snapshot tree has.1 shows

-- ---- many calls

-- answered or refused
one_shows : (s : Serial) (actor : ℕ) (c : Call) (snapshot : ℕ) (tree : List TreeNode) → drops snapshot c ≡ false
    → Shows s snapshot tree → Shows (serial_call s actor c).world snapshot tree
one_shows s actor c snapshot tree kept shows = go (serial_call s actor c).reply refl (all_fair s actor c) where
  go : (r : Reply) → (serial_call s actor c).reply ≡ r → FairBy c s (serial_call s actor c).reply (serial_call s actor c).world
      → Shows (serial_call s actor c).world snapshot tree
  go (Done a) e fair =
      let o : Outcome = serial_call s actor c in
      let is : o ≡ told a o.world = λ i. record { reply = e i; world = o.world } in
      call_shows s o.world actor c a snapshot tree is kept shows
  go (Refused why) e fair =
      let same : (serial_call s actor c).world ≡ s = refused_fair c s (serial_call s actor c) why e fair in
      subst (λ (t : Serial). Shows t snapshot tree) (sym same) shows
  go other e fair = absurd (subst (λ (r : Reply). FairBy c s r (serial_call s actor c).world) e fair)

pub calls_show : (calls : List CallOf) (s : Serial) (snapshot : ℕ) (tree : List TreeNode) → NoneDrops snapshot calls
    → Shows s snapshot tree → Shows (after_calls calls s) snapshot tree
calls_show [] s snapshot tree kept shows = shows
calls_show (c ∷ calls) s snapshot tree kept shows =
    calls_show calls (serial_call s c.0 c.1).world snapshot tree kept.1 (one_shows s c.0 c.1 snapshot tree kept.0 shows)

-- ---- a new snapshot, and a show

-- A NEW SNAPSHOT shows the tree that stands
pub snap_told : (old new : Serial) (actor snapshot : ℕ) → IsSoundWorld old
    → serial_call old actor (call.SnapshotOrCleaner on.Snap) ≡ told (answers.Snapshot snapshot) new
    → snapshot_tree_told new snapshot ≡ Some (tree_told old)
snap_told old new actor snapshot sound is =
    let snapped = calls_snap old new actor snapshot is in
    let before : AllByRecursion (λ (c : Copy). c.snapshot < snapshot) old.plain.copies =
    subst (λ (n : ℕ). AllByRecursion (λ (c : Copy). c.snapshot < n) old.plain.copies) (sym snapped.named) sound.before in
    let there : copy_shown snapshot new.plain.copies ≡ Some (new_copy old) =
    ap (copy_shown snapshot) snapped.snapshots
    ∙ newest snapshot old.plain.copies (new_copy old) (sym snapped.named) before in
    ap (shown_of (length new.slots)) there
    ∙ ap (λ (slots : ℕ). Some (tree_from (copies_now old) slots [] root)) snapped.slots

-- a show of a living snapshot
pub show_told : (s : Serial) (actor snapshot : ℕ) (tree : List TreeNode) → actor < s.numbers.actors
    → snapshot_tree_told s snapshot ≡ Some tree
    → serial_call s actor (call.SnapshotOrCleaner (on.Show snapshot)) ≡ told (answers.Tree tree) s
show_told s actor snapshot tree there is =
    there_is s actor (call.SnapshotOrCleaner (on.Show snapshot)) (lt-ltb actor s.numbers.actors there)
    ∙ ap (λ (shown : Option (List TreeNode)). show_of shown s) is

-- what an answered show tells; of other replies nothing is said
abbrev TellsBy : Serial → ℕ → Reply → Serial → Type 0
TellsBy s snapshot (Done (answers.Tree tree)) t = (snapshot_tree_told s snapshot ≡ Some tree) × (t ≡ s)
TellsBy s snapshot other t = Unit {0}

tells_of : (s : Serial) (snapshot : ℕ) (tree : Option (List TreeNode)) → snapshot_tree_told s snapshot ≡ tree
    → TellsBy s snapshot (show_of tree s).reply (show_of tree s).world
tells_of s snapshot None is = tt
tells_of s snapshot (Some tree) is = (is, refl)

-- A SHOW THAT IS ANSWERED tells the tree of the snapshot
pub show_tells : (s t : Serial) (actor snapshot : ℕ) (tree : List TreeNode)
    → serial_call s actor (call.SnapshotOrCleaner (on.Show snapshot)) ≡ told (answers.Tree tree) t
    → (snapshot_tree_told s snapshot ≡ Some tree) × (t ≡ s)
show_tells s t actor snapshot tree is =
    subst (λ (o : Outcome). TellsBy s snapshot o.reply o.world) is
    (there_or_not (λ (o : Outcome). TellsBy s snapshot o.reply o.world) s actor (call.SnapshotOrCleaner (on.Show snapshot))
    (λ there. tells_of s snapshot (snapshot_tree_told s snapshot) refl) tt)
