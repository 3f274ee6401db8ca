-- The parts that an audit is told to be in hands are those that calls of the machine have killed or picked.
use Rattle.std.proofs.Common.{◌≡◌, ℕ, zero, suc, ◌<◌, ◌==◌, ◌&&◌, ◌∙◌, Bool, true, false, List, [], ◌∷◌, Option, Some, None, ap, ap₂, drop, filter, flat_map, if◌then◌else◌, length, map, refl, sym, take}
use Rattle.std.specs.Prelude.{◌||◌, slice_index_or}
use Rattle.std.specs.List.{AllByRecursion, list_any}
use Rattle.std.proofs.lemmas.Bool.{eqb-true}
use Rattle.std.proofs.lemmas.List.Folds.{list_any-append}
use Rattle.nv_alloc.specs.Numbers.{IsRising, has}
use Rattle.nv_alloc.proofs.Lists.{has-below}
use Rattle.nv_audit.specs.Pending.{deferred_of, of_inode, pending_of}
use Rattle.nv_audit.specs.Records.{inode_part}
use Rattle.nv_audit.specs.declared.part_list.InodePart.{InodePart}
use Rattle.nv_book.specs.declared.record.Record.{Record}
use Rattle.nv_calls.specs.Retiring.{name_of}
use Rattle.nv_cell.specs.declared.killed.KilledPart.{KilledPart}
use Rattle.nv_entry.specs.Held.{has_name, is_named}
use Rattle.nv_entry.specs.declared.held.Pair.{Pair}
use Rattle.nv_entry.proofs.Currents.{any_map}
use Rattle.nv_machine.specs.Held.{is_of_slot, killed_by_actor, killed_by_call, killed_in, killed_slots, parts_for, pending_in, picked_at, picked_by_actor, picked_by_call, retention_at}
use Rattle.nv_machine.specs.Locks.{AreLocks, HasSlots}
use Rattle.nv_machine.specs.Reads.{is_written, written_slots}
use Rattle.nv_machine.specs.World.{Actor, Close, HandState, Next, Publish, Retire, Running, World, idle}
use Rattle.nv_machine.proofs.MarksInUse.{any_filter}
use Rattle.nv_machine.proofs.Lists.{rising_filter}
use Rattle.nv_machine.proofs.PartsFor.{none_there}
use Rattle.nv_core.specs.Audited.{killed_part, parts_by_actor, parts_by_call, slot_parts}

-- ---- rising lists

all_first : (P : ℕ → Type 0) (n : ℕ) (xs : List ℕ) → AllByRecursion P xs → AllByRecursion P (take n xs)
all_first P zero [] h = tt
all_first P zero (x ∷ xs) h = tt
all_first P (suc n) [] h = tt
all_first P (suc n) (x ∷ xs) h = (h.0, all_first P n xs h.1)

rising_first : (n : ℕ) (xs : List ℕ) → IsRising xs → IsRising (take n xs)
rising_first zero [] r = tt
rising_first zero (x ∷ xs) r = tt
rising_first (suc n) [] r = tt
rising_first (suc n) (x ∷ xs) r = (all_first (λ m. x < m) n xs r.0, rising_first n xs r.1)

rising_rest : (n : ℕ) (xs : List ℕ) → IsRising xs → IsRising (drop n xs)
rising_rest zero [] r = tt
rising_rest zero (x ∷ xs) r = r
rising_rest (suc n) [] r = tt
rising_rest (suc n) (x ∷ xs) r = rising_rest n xs r.1

killed_rise : (next : Next) (written : List ℕ) → IsRising written → IsRising (killed_slots next written)
killed_rise (Publish place) written r = rising_first place written r
killed_rise Close written r = r
killed_rise (Retire place) written r = rising_rest place written r
killed_rise other written r = tt

-- ---- small things

or_none : (b : Bool) → (b || false) ≡ b
or_none true = refl
or_none false = refl

or_apart : (a b c d : Bool) → ((a || b) || (c || d)) ≡ ((a || c) || (b || d))
or_apart true b c d = refl
or_apart false true true d = refl
or_apart false true false d = refl
or_apart false false c d = refl

or_on : (a b c : Bool) → (a || (b || c)) ≡ ((a || b) || c)
or_on true b c = refl
or_on false b c = refl

none_passes_none : {X : Type 0} (f : X → Bool) (xs : List X) → list_any (λ x. false && f x) xs ≡ false
none_passes_none f [] = refl
none_passes_none f (x ∷ xs) = none_passes_none f xs

-- ---- of one slot, and one pair of its log

module _ (ino : ℕ) (pair : Pair) where
  abbrev pub in_part : InodePart → Bool
  in_part p = (p.ino == ino) && has_name pair p.part

  abbrev pub in_record : Record → Bool
  in_record d = is_of_slot ino d && has_name pair (name_of d)

  abbrev pub in_killed : KilledPart → Bool
  in_killed k = has_name pair k.part

  pub parts_so : (parts : List InodePart) → is_named (of_inode ino parts) pair ≡ list_any in_part parts
  parts_so parts =
      any_map (λ (p : InodePart). p.part) (has_name pair) (filter (λ (p : InodePart). p.ino == ino) parts)
      ∙ any_filter (λ (p : InodePart). has_name pair p.part) (λ (p : InodePart). p.ino == ino) parts

  records_so : (ds : List Record) → list_any (has_name pair) (map name_of (filter (is_of_slot ino) ds)) ≡ list_any in_record ds
  records_so ds =
      any_map name_of (has_name pair) (filter (is_of_slot ino) ds) ∙ any_filter (λ d. has_name pair (name_of d)) (is_of_slot ino) ds

  slots_so : (slots : List ℕ) (killed : List (List KilledPart)) → IsRising slots
      → list_any in_part (slot_parts slots killed) ≡ list_any in_killed (parts_for slots killed ino)
  slots_so [] killed r = refl
  slots_so (slot ∷ slots) [] r = refl
  slots_so (slot ∷ slots) (parts ∷ rest) r =
      list_any-append in_part (map (killed_part slot) parts) (slot_parts slots rest)
      ∙ ap (λ (b : Bool). b || list_any in_part (slot_parts slots rest)) (any_map (killed_part slot) in_part parts)
      ∙ go (slot == ino) refl (slots_so slots rest r.1) where
        go : (b : Bool) → (slot == ino) ≡ b → list_any in_part (slot_parts slots rest) ≡ list_any in_killed (parts_for slots rest ino)
            → (list_any (λ (k : KilledPart). b && has_name pair k.part) parts || list_any in_part (slot_parts slots rest))
            ≡ list_any in_killed (if b then parts else parts_for slots rest ino)
        go true e more =
            let apart : has slots ino ≡ false = ap (has slots) (sym (eqb-true slot ino e)) ∙ has-below slot slots r.0 in
            let none : list_any in_part (slot_parts slots rest) ≡ false =
            more ∙ ap (list_any in_killed) (none_there slots rest ino apart) in
            ap (λ (b : Bool). list_any in_killed parts || b) none ∙ or_none (list_any in_killed parts)
        go false e more =
            ap (λ (b : Bool). b || list_any in_part (slot_parts slots rest)) (none_passes_none in_killed parts) ∙ more

  call_so : (many : ℕ) (running : Option Running) (h : HandState) → HasSlots many running
      → list_any in_part (parts_by_call running h)
      ≡ (list_any in_record (picked_by_call running) || list_any in_killed (killed_by_call running h ino))
  call_so many None h has = refl
  call_so many (Some r) h has =
      list_any-append in_part (map inode_part (picked_at r.next)) (slot_parts (killed_slots r.next (written_slots r)) h.killed)
      ∙ ap₂ (λ (a b : Bool). a || b) (any_map inode_part in_part (picked_at r.next))
      (slots_so (killed_slots r.next (written_slots r)) h.killed
      (killed_rise r.next (written_slots r) (rising_filter (is_written r.plan) r.slots has.0.rising)))

  pub actors_so : (many : ℕ) (xs : List Actor) → ((k : ℕ) → HasSlots many (slice_index_or xs k idle).running)
      → list_any in_part (flat_map parts_by_actor xs)
      ≡ (list_any in_record (flat_map picked_by_actor xs) || list_any in_killed (flat_map (killed_by_actor ino) xs))
  actors_so many [] has = refl
  actors_so many (x ∷ xs) has =
      list_any-append in_part (parts_by_actor x) (flat_map parts_by_actor xs)
      ∙ ap₂ (λ (a b : Bool). a || b) (call_so many x.running x.hand (has 0)) (actors_so many xs (λ k. has (suc k)))
      ∙ or_apart (list_any in_record (picked_by_actor x)) (list_any in_killed (killed_by_actor ino x))
      (list_any in_record (flat_map picked_by_actor xs)) (list_any in_killed (flat_map (killed_by_actor ino) xs))
      ∙ sym (ap₂ (λ (a b : Bool). a || b) (list_any-append in_record (picked_by_actor x) (flat_map picked_by_actor xs))
      (list_any-append in_killed (killed_by_actor ino x) (flat_map (killed_by_actor ino) xs)))

  -- what is in hands, in a world
  pub hands_so : (w : World) → AreLocks w
      → is_named (of_inode ino (flat_map parts_by_actor w.actors)) pair
      ≡ (list_any in_record (flat_map picked_by_actor w.actors) || list_any in_killed (killed_in w ino))
  hands_so w locks =
      parts_so (flat_map parts_by_actor w.actors)
      ∙ actors_so (length w.shared.owners) w.actors (λ k. (locks.each k).slots)

  -- a pair is named in a hand or deferred exactly where it is killed or pending
  pub named_so : (w : World) → AreLocks w
      → is_named (pending_of ino w.shared.book.deferred (flat_map parts_by_actor w.actors)) pair
      ≡ is_named (retention_at w ino).pending pair
  named_so w locks =
      list_any-append (has_name pair) (deferred_of ino w.shared.book.deferred) (of_inode ino (flat_map parts_by_actor w.actors))
      ∙ ap₂ (λ (a b : Bool). a || b) (records_so w.shared.book.deferred) (hands_so w locks)
      ∙ or_on (list_any in_record w.shared.book.deferred) (list_any in_record (flat_map picked_by_actor w.actors))
      (list_any in_killed (killed_in w ino))
      ∙ ap₂ (λ (a b : Bool). a || b)
      (sym (records_so (pending_in w) ∙ list_any-append in_record w.shared.book.deferred (flat_map picked_by_actor w.actors)))
      (sym (any_map (λ (k : KilledPart). k.part) (has_name pair) (killed_in w ino)))
      ∙ sym (list_any-append (has_name pair) (map name_of (filter (is_of_slot ino) (pending_in w)))
      (map (λ (k : KilledPart). k.part) (killed_in w ino)))
