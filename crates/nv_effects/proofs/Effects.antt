-- A call on files and directories that is answered has its effect.
use Rattle.std.proofs.Common.{◌≡◌, ◌∙◌, ℕ, ◌+◌, ◌<◌, Bool, true, false, List, [], ◌∷◌, length, map, Option, Some, None, Ok, Err, ap, refl, subst, sym}
use Rattle.std.specs.Prelude.{nat_le, nat_lt}
use Rattle.std.specs.List.{range_with_len}
use Rattle.std.proofs.lemmas.Bool.{ltb-true}
use Rattle.std.proofs.lemmas.List.FromFn.{length-map-range_with_len}
use Rattle.nv_base.specs.declared.fault.Fault.TheVariants.{NoActor}
use Rattle.nv_base.specs.declared.limits.TheConstants.{NUMBER}
use Rattle.nv_base.specs.declared.numbers.Handle.{Handle}
use Rattle.nv_calls.specs.AllCalls.{answer, effect, is_nothing, refusal}
use Rattle.nv_calls.specs.Plain.{Change, PlainNode, node_in, nodes_after, same_handle}
use Rattle.nv_calls.specs.Refusals.{Check, passes}
use Rattle.nv_calls.specs.declared.answer.Answer.{Answer}
use Rattle.nv_calls.specs.declared.call.Call.{Call}
use Rattle.nv_calls.specs.declared.call.Call.TheVariants as call
use Rattle.nv_calls.specs.declared.plan.InodePlan.{InodePlan}
use Rattle.nv_calls.proofs.Nothing.{told_nothing}
use Rattle.nv_entry.specs.Tree.{root}
use Rattle.nv_machine.specs.EndsDecided.{is_snapshot_or_cleaner}
use Rattle.nv_machine.specs.World.{Done, Reply}
use Rattle.nv_machine.proofs.CopyMade.{unstamped}
use Rattle.nv_serial.specs.Committed.{committed, erased, left_in, records_with, slot_after}
use Rattle.nv_serial.specs.FileCalls.{commit_if, commit_with, fits, handle_for, if_passes, log_pages_for, makes_inode, pass, plan_for}
use Rattle.nv_serial.specs.Free.{pool_of}
use Rattle.nv_serial.specs.OneCall.{of_call, serial_call}
use Rattle.nv_serial.specs.Serial.{Outcome, Serial, copies_now, refused, told}
use Rattle.nv_serial.proofs.CommitLaw.{there_is}
use Rattle.nv_effects.specs.Effects.{HasEffect, changed}

-- ---- the nodes after a commit

pub changed_nodes : (commit : ℕ) (changes : List Change) (nodes : Handle → Option PlainNode) (handle : Handle)
    → node_in (nodes_after commit changes nodes) handle ≡ changed changes (node_in nodes) handle
changed_nodes commit [] nodes handle = refl
changed_nodes commit (c ∷ rest) nodes handle = go (same_handle c.handle handle) refl (changed_nodes commit rest nodes handle) where
  go : (s : Bool) → same_handle c.handle handle ≡ s
      → node_in (nodes_after commit rest nodes) handle ≡ changed rest (node_in nodes) handle
      → node_in (nodes_after commit (c ∷ rest) nodes) handle ≡ changed (c ∷ rest) (node_in nodes) handle
  go true is later = rw is (unstamped commit (c.becomes (node_in nodes handle)))
  go false is later = rw is later

-- ---- the slots after a commit

pub erased_slots : (s : Serial) → length (erased s).slots ≡ length s.slots
erased_slots s = length-map-range_with_len (left_in s) 0 (length s.slots)

committed_slots : (s : Serial) (made : Handle) (c : Call) (plan : List InodePlan) (pages : List ℕ)
    → length (committed s made c plan pages).slots ≡ length s.slots
committed_slots s made c plan pages =
    let entered : Serial = record s {
      plain = record s.plain {
        nodes = nodes_after (s.plain.commit + 1) (effect (copies_now s) made c) s.plain.nodes;
        commit = s.plain.commit + 1;
      };
      slots = map (slot_after s plan pages) (range_with_len 0 (length s.slots));
      records = records_with s plan (range_with_len 0 (length s.slots)) s.records;
    } in
    erased_slots entered ∙ length-map-range_with_len (slot_after s plan pages) 0 (length s.slots)

-- ---- an answered call

-- what an answer to a call leaves; of other replies nothing is said
abbrev HasBy : Serial → ℕ → Call → Reply → Serial → Type 0
HasBy old actor c (Done a) new = (made : Handle) × HasEffect old actor c made a new
HasBy old actor c other new = Unit {0}

abbrev Has : Serial → ℕ → Call → Outcome → Type 0
Has s actor c o = HasBy s actor c o.reply o.world

module _ (s : Serial) (actor : ℕ) (c : Call) (there : actor < s.numbers.actors)
    (unrefused : refusal s.numbers.block (copies_now s) c ≡ passes) where
  nothing_left : is_nothing c ≡ true → HasEffect s actor c root (answer s.plain.nodes root c) s
  nothing_left nothing =
      let none : effect (copies_now s) root c ≡ [] =
      (told_nothing s.numbers.block (copies_now s) (record { made = root; runs = [] }) c unrefused).no_effect nothing in
      record {
        there = there;
        unrefused = unrefused;
        told = refl;
        nodes = λ handle. sym (ap (λ (changes : List Change). changed changes (copies_now s) handle) none);
        snapshots = refl;
        epoch = refl;
        numbers = refl;
        slots = refl;
        same = λ is. refl;
      }

  committed_left : (made : Handle) → is_nothing c ≡ false
      → HasEffect s actor c made (answer s.plain.nodes made c) (committed s made c (plan_for s actor made c) (log_pages_for s actor c))
  committed_left made some = record {
    there = there;
    unrefused = unrefused;
    told = refl;
    nodes = λ handle. changed_nodes (s.plain.commit + 1) (effect (copies_now s) made c) s.plain.nodes handle;
    snapshots = refl;
    epoch = refl;
    numbers = refl;
    slots = committed_slots s made c (plan_for s actor made c) (log_pages_for s actor c);
    same = λ nothing. let both = sym some ∙ nothing in cc;
  }

  commit_has : (room limit : Bool) (made : Handle) → is_nothing c ≡ false → Has s actor c (commit_if room limit s actor made c)
  commit_has false limit made some = tt
  commit_has true true made some = tt
  commit_has true false made some = (made, committed_left made some)

  made_has : (made : Option Handle) → is_nothing c ≡ false → Has s actor c (commit_with made s actor c)
  made_has None some = tt
  made_has (Some made) some = commit_has (fits s actor made c) (nat_le NUMBER s.plain.commit) made some

  pass_has : (nothing : Bool) → is_nothing c ≡ nothing → Has s actor c (pass nothing s actor c)
  pass_has true is = (root, nothing_left is)
  pass_has false is = made_has (handle_for (makes_inode c) (pool_of s) s) is

check_has : (s : Serial) (actor : ℕ) (c : Call) (check : Check) → actor < s.numbers.actors
    → refusal s.numbers.block (copies_now s) c ≡ check → Has s actor c (if_passes check s actor c)
check_has s actor c (Err fault) there is = tt
check_has s actor c (Ok tt) there is = pass_has s actor c there is (is_nothing c) refl

no_step : {P : Type 0} → true ≡ false → P
no_step e = cc

call_has : (s : Serial) (actor : ℕ) (c : Call) → is_snapshot_or_cleaner c ≡ false → actor < s.numbers.actors
    → Has s actor c (of_call s actor c)
call_has s actor (call.SnapshotOrCleaner what) of there = no_step of
call_has s actor other of there = check_has s actor other (refusal s.numbers.block (copies_now s) other) there refl

pub nobody : (s : Serial) (actor : ℕ) (c : Call) → nat_lt actor s.numbers.actors ≡ false → serial_call s actor c ≡ refused NoActor s
nobody s actor c e = rw e refl

-- whatever holds of the call of an actor that is there, and of one that is refused since it is not
pub there_or_not : (P : Outcome → Type 0) (s : Serial) (actor : ℕ) (c : Call)
    → (actor < s.numbers.actors → P (of_call s actor c)) → P (refused NoActor s) → P (serial_call s actor c)
there_or_not P s actor c there not = go (nat_lt actor s.numbers.actors) refl where
  go : (b : Bool) → nat_lt actor s.numbers.actors ≡ b → P (serial_call s actor c)
  go true e = subst P (sym (there_is s actor c e)) (there (ltb-true actor s.numbers.actors e))
  go false e = subst P (sym (nobody s actor c e)) not

all_has : (s : Serial) (actor : ℕ) (c : Call) → is_snapshot_or_cleaner c ≡ false → Has s actor c (serial_call s actor c)
all_has s actor c of = there_or_not (λ (o : Outcome). Has s actor c o) s actor c (call_has s actor c of) tt

-- THE LAW of answered calls on files and directories
pub calls_have_effects : (old new : Serial) (actor : ℕ) (c : Call) (a : Answer) → is_snapshot_or_cleaner c ≡ false
    → serial_call old actor c ≡ told a new → (made : Handle) × HasEffect old actor c made a new
calls_have_effects old new actor c a of is = subst (λ (o : Outcome). Has old actor c o) is (all_has old actor c of)
