-- A node that is made gets a slot that has no node.
use Rattle.std.proofs.Common.{◌≡◌, ◌∙◌, ℕ, Bool, true, false, List, [], ◌∷◌, Option, Some, None, Ok, Err, ap, arith, length, refl, subst, sym}
use Rattle.std.specs.Prelude.{◌||◌, nat_le, not}
use Rattle.std.specs.List.{Contains, range_with_len}
use Rattle.nv_base.specs.declared.limits.TheConstants.{NUMBER}
use Rattle.nv_base.specs.declared.numbers.Handle.{Handle}
use Rattle.nv_calls.specs.AllCalls.{answer, is_nothing, refusal}
use Rattle.nv_calls.specs.Refusals.{Check}
use Rattle.nv_calls.specs.declared.answer.Answer.{Answer}
use Rattle.nv_calls.specs.declared.answer.Answer.TheVariants as answers
use Rattle.nv_calls.specs.declared.call.Call.{Call}
use Rattle.nv_cell.specs.Readers.{has_entry}
use Rattle.nv_machine.specs.EndsDecided.{is_snapshot_or_cleaner}
use Rattle.nv_machine.specs.World.{Done, Reply}
use Rattle.nv_machine.proofs.DirectoriesStay.{contains_filter}
use Rattle.nv_effects.proofs.Effects.{there_or_not}
use Rattle.nv_effects.proofs.Visits.{of_files}
use Rattle.nv_serial.specs.FileCalls.{commit_if, commit_with, fits, handle_for, if_passes, makes_inode, pass}
use Rattle.nv_serial.specs.Free.{is_taken, pool_of}
use Rattle.nv_serial.specs.OneCall.{serial_call}
use Rattle.nv_serial.specs.Serial.{Outcome, Serial, copies_now, log_in, slot_of, told}

-- the reply tells the handle that the pool has for a new node
abbrev IsFromPool : Serial → Reply → Type 0
IsFromPool s (Done (answers.Made handle)) = handle_for true (pool_of s) s ≡ Some handle
IsFromPool s other = Unit {0}

module _ (s : Serial) (c : Call) (tells : (made : Handle) → answer s.plain.nodes made c
    ≡ answers.Made made)
    (commits : is_nothing c ≡ false) (makes : makes_inode c ≡ true)
    (files : is_snapshot_or_cleaner c ≡ false) where
  commit_pool : (room limit : Bool) (made : Handle) → handle_for true (pool_of s) s ≡ Some made
      → IsFromPool s (commit_if room limit s 0 made c).reply
  commit_pool false limit made is = tt
  commit_pool true true made is = tt
  commit_pool true false made is = subst (λ (a : Answer). IsFromPool s (Done a)) (sym (tells made))
      is

  with_pool : (found : Option Handle) → handle_for true (pool_of s) s ≡ found
      → IsFromPool s (commit_with found s 0 c).reply
  with_pool None is = tt
  with_pool (Some made) is = commit_pool (fits s 0 made c) (nat_le NUMBER s.plain.commit) made is

  pass_pool : IsFromPool s (pass false s 0 c).reply
  pass_pool = with_pool (handle_for (makes_inode c) (pool_of s) s)
      (ap (λ (b : Bool). handle_for b (pool_of s) s) (sym makes))

  check_pool : (check : Check) → IsFromPool s (if_passes check s 0 c).reply
  check_pool (Err why) = tt
  check_pool (Ok tt) = subst (λ (b : Bool). IsFromPool s (pass b s 0 c).reply) (sym commits)
      pass_pool

  pub from_pool : (t : Serial) (handle : Handle) → serial_call s 0 c ≡ told (answers.Made handle) t
      → handle_for true (pool_of s) s ≡ Some handle
  from_pool t handle is =
      subst (λ (o : Outcome). IsFromPool s o.reply) is
      (there_or_not (λ (o : Outcome). IsFromPool s o.reply) s 0 c
      (λ there. subst (λ (o : Outcome). IsFromPool s o.reply) (sym (of_files s 0 c files))
      (check_pool (refusal s.numbers.block (copies_now s) c))) tt)

no_some : {A P : Type 0} {a : A} → None ≡ Some a → P
no_some e = cc

no_entry : (entry last : Bool) → not (entry || last) ≡ true → entry ≡ false
no_entry true last e = let z : false ≡ true = e in cc
no_entry false last e = refl

-- the slot of a handle, if there is one
abbrev ino_of : ℕ → Option Handle → ℕ
ino_of other None = other
ino_of other (Some handle) = handle.ino

-- its slot has no entry
pub pool_empty : (s : Serial) (handle : Handle) → handle_for true (pool_of s) s ≡ Some handle
    → has_entry (log_in s handle.ino) ≡ false
pool_empty s handle is = go (pool_of s) refl is where
  go : (numbers : List ℕ) → pool_of s ≡ numbers → handle_for true numbers s ≡ Some handle
      → has_entry (log_in s handle.ino) ≡ false
  go [] at e = no_some e
  go (ino ∷ numbers) at e =
      let first : Contains (ino ∷ numbers) ino = (0, omega arith, refl) in
      let there : Contains (pool_of s) ino = subst (λ (l : List ℕ). Contains l ino) (sym at) first
      in
      let free = contains_filter (λ (n : ℕ). not (is_taken s n)) (range_with_len 0 (length s.slots))
      ino there in
      let same : ino ≡ handle.ino = ap (λ (o : Option Handle). ino_of ino o) e in
      ap (λ (i : ℕ). has_entry (log_in s i)) (sym same)
      ∙ no_entry (has_entry (log_in s ino)) (nat_le NUMBER (slot_of s ino).generation) free.1
