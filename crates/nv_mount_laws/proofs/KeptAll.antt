-- What a request leaves that is answered, or refused: hidden files, open files, and how often nodes
-- are open.
use Rattle.std.proofs.Common.{◌≡◌, ◌≤◌, ◌⊎◌, inl, inr, ℕ, Bool, true, false, List, Option, Some, None, Result, Ok, Err, length, refl, subst, sym}
use Rattle.std.specs.Prelude.{if◌then◌else◌}
use Rattle.nv_base.specs.declared.numbers.Handle.{Handle}
use Rattle.nv_calls.specs.Refusals.{lookup}
use Rattle.nv_calls.specs.declared.call.Call.{Call}
use Rattle.nv_entry.specs.Index.{bound_to}
use Rattle.nv_entry.specs.Tree.{names_of_node}
use Rattle.nv_entry.specs.declared.node.NodeCopy.{NodeCopy}
use Rattle.nv_fuse.specs.declared.errno.Errno.TheVariants as errno
use Rattle.nv_mount_answers.specs.declared.kept.Time.{Time}
use Rattle.nv_mount_beside.specs.Names.{refused}
use Rattle.nv_mount_beside.specs.declared.outcome.Outcome.{Outcome}
use Rattle.nv_mount_beside.specs.declared.refusal.Refusal.{Refusal}
use Rattle.nv_mounted.specs.Asks.{ask_done}
use Rattle.nv_mounted.specs.Dialogues.{Dialogue, Ends, Grows, IsHad, ◌>>=◌}
use Rattle.nv_mounted.specs.Renames.{all_touched, both_touched, moved_now}
use Rattle.nv_mounted.specs.Side.{at_node, touched}
use Rattle.nv_mounted.specs.declared.side.Side.{Side}
use Rattle.nv_serial.specs.Serial.{Serial, copies_now}
use Rattle.nv_mount_laws.specs.Hidden.{AreHidden}
use Rattle.nv_mount_laws.specs.World.{Calls}
use Rattle.nv_mount_laws.proofs.Asked.{Answered, done_asked}
use Rattle.nv_mount_laws.proofs.Dialogues.{GoesOn, Stops, parts}
use Rattle.nv_mount_laws.proofs.Flags.{KeepsFlags, flags_twice, moved_keeps, touched_keeps}
use Rattle.nv_mount_laws.proofs.ReadingOnly.{OnlyReads, reads_same}
use Rattle.nv_mount_laws.proofs.Standing.{IsWell}
use Rattle.nv_mount_laws.proofs.UnlinkHidden.{KeepsOpenFiles}

no_value : {A P : Type 0} {a : A} {why : Refusal} → Ok a ≡ Err why → P
no_value e = cc

no_some : {A P : Type 0} {a : A} → None ≡ Some a → P
no_some e = cc

-- a call was answered, behind a request for memory
pub grown_done : (s t : Serial) (c : Call) (done : Unit {0}) → IsHad Calls (Grows (ask_done c)) s
    (Ok done) t
    → Answered s c t
grown_done s t c done (inl had) = no_value had.0
grown_done s t c done (inr had) = done_asked s t c done had

-- a directory in which a name is bound is there
pub dir_there : (nodes : Handle → Option NodeCopy) (dir : Handle) (name : List ℕ) (to : Handle)
    → lookup nodes dir name ≡ Some to → (n : NodeCopy) × (nodes dir ≡ Some n)
dir_there nodes dir name to is = go (nodes dir) refl is where
  go : (node : Option NodeCopy) → nodes dir ≡ node → bound_to name (names_of_node node) ≡ Some to
      → (n : NodeCopy) × (nodes dir ≡ Some n)
  go None at e = no_some e
  go (Some n) at e = (n, at)

-- two directories that are told to have changed
pub both_keep : (s : Serial) → IsWell s → (side : Side) → length s.slots ≤ length side.nodes.rows
    → (now : Time) (from to : Handle) (m n : NodeCopy) → copies_now s from ≡ Some m
    → copies_now s to ≡ Some n → KeepsFlags s side (both_touched now from to side)
both_keep s well side rows now from to m n from_is to_is =
    let between = touched now from side in
    let first = touched_keeps s well side rows now from m from_is in
    let second = touched_keeps s well between
    (subst (λ (k : ℕ). length s.slots ≤ k) (sym first.rows) rows) now to n to_is in
    flags_twice s side between (touched now to between) first second

-- these, and the node that moved
pub all_keep : (s : Serial) → IsWell s → (side : Side) → length s.slots ≤ length side.nodes.rows
    → (now : Time) (moved from to : Handle) (k m n : NodeCopy) → copies_now s moved ≡ Some k
    → copies_now s from ≡ Some m → copies_now s to ≡ Some n
    → KeepsFlags s side (all_touched now moved from to side)
all_keep s well side rows now moved from to k m n moved_is from_is to_is =
    let between = both_touched now from to side in
    let first = both_keep s well side rows now from to m n from_is to_is in
    let second = moved_keeps s well between
    (subst (λ (k : ℕ). length s.slots ≤ k) (sym first.rows) rows) now moved k moved_is in
    flags_twice s side between (moved_now now moved between) first second

-- ---- what a request leaves

-- the hidden files hidden, open files as they are, and each node as often open
pub record LeavesAll (old : Serial) (side : Side) (new : Serial) (new_side : Side) : Type 0 where
  pub hidden : AreHidden new new_side
  pub open_files : KeepsOpenFiles side old new
  pub opens : (h : Handle) (n : NodeCopy) → copies_now old h ≡ Some n
      → (at_node new_side h).opens ≡ (at_node side h).opens

-- where it is refused, nothing has changed beside the world
abbrev pub Ended : Serial → Side → Result (Outcome × Side) Refusal → Serial → Type 0
Ended s side (Ok done) t = LeavesAll s side t done.1
Ended s side (Err why) t = LeavesAll s side t side

abbrev pub Keeps : Serial → Side → Dialogue (Outcome × Side) → Type 0
Keeps s side d = (t : Serial) (end : Result (Outcome × Side) Refusal) → IsHad Calls d s end t
    → Ended s side end t

-- an end that is told
pub at_end : (s : Serial) (side : Side) (t : Serial) (end is_told : Result (Outcome × Side) Refusal)
    → end ≡ is_told → Ended s side is_told t → Ended s side end t
at_end s side t end is_told is ended =
    subst (λ (e : Result (Outcome × Side) Refusal). Ended s side e t) (sym is) ended

module _ (s : Serial) (side : Side) (was : AreHidden s side) where
  -- nothing has changed
  pub still : (t : Serial) → t ≡ s → LeavesAll s side t side
  still t same = subst (λ (u : Serial). LeavesAll s side u side) (sym same) (record {
    hidden = was;
    open_files = λ h n is kind opened. is;
    opens = λ h n is. refl;
  })

  pub behind : {A : Type 0} (d : Dialogue A) (next : A → Dialogue (Outcome × Side)) → OnlyReads d
      → ((a : A) → IsHad Calls d s (Ok a) s → Keeps s side (next a)) → Keeps s side (d >>= next)
  behind {A} d next reads each t end had = go (parts Calls next d s t end had) where
    go : GoesOn Calls next d s end t ⊎ Stops Calls next d s end t → Ended s side end t
    go (inl on) =
        let same : on.between ≡ s = reads_same d reads s on.between (Ok on.value) on.first in
        each on.value
        (subst (λ (u : Serial). IsHad Calls d s (Ok on.value) u) same on.first) t end
        (subst (λ (u : Serial). IsHad Calls (next on.value) u end t) same on.then)
    go (inr stop) =
        at_end s side t end (Err stop.why) stop.is
        (still t (reads_same d reads s t (Err stop.why) stop.first))

  pub else_keeps : (b : Bool) (d : Dialogue (Outcome × Side)) → Keeps s side d
      → Keeps s side (if b then Ends (refused errno.Invalid) else d)
  else_keeps true d keeps t end had =
      at_end s side t end (refused errno.Invalid) had.0 (still t had.1)
  else_keeps false d keeps t end had = keeps t end had
