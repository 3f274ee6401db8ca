-- A call has at most four handles and a number to lock; and the next home that has blocks of a hand.
use Rattle.std.proofs.Common.{Bool, List, None, Option, Some, [], ap, arith, false, if◌then◌else◌, length, length-append, map, nat_lt, refl, true, ℕ, ◌++◌, ◌+◌, ◌<◌, ◌==◌, ◌∷◌, ◌≡◌, ◌≤◌}
use Rattle.std.proofs.lemmas.Bool.{ltb-false}
use Rattle.std.proofs.lemmas.List.{length-map}
use Rattle.std.proofs.lemmas.List.Sums.{count_by-le-length, length-filter}
use Rattle.std.proofs.lemmas.Option.{none-some}
use Rattle.std.specs.List.{list_any}
use Rattle.std.specs.Prelude.{unwrap_or}
use Rattle.nv_calls.specs.Locked.{handles, if_any}
use Rattle.nv_calls.specs.declared.looked.LookupResult.{LookupResult}
use Rattle.nv_alloc.specs.Block.{BlockValue}
use Rattle.nv_alloc.specs.FreeList.{FreeBlocks, is_home}
use Rattle.nv_base.specs.declared.numbers.Handle.{Handle}
use Rattle.nv_calls.specs.AllCalls.{looked}
use Rattle.nv_calls.specs.Plain.{same_handle}
use Rattle.nv_calls.specs.declared.call.Call.{Call}
use Rattle.nv_machine.specs.Reads.{home_from, if_number, is_written, slots_in, slots_of, with_slot, written_slots}
use Rattle.nv_machine.specs.Sequence.{directories}
use Rattle.nv_machine.specs.World.{Running, Shared}
use Rattle.nv_calls.specs.declared.call.Call.TheVariants as call

-- ---- at most four handles, and a number

with_slot-length : (n : ℕ) (slots : List ℕ) → length (with_slot n slots) ≤ length slots + 1
with_slot-length n [] = omega arith
with_slot-length n (m ∷ slots) = go (n == m) (nat_lt n m) (with_slot-length n slots) where
  go : (b c : Bool) → length (with_slot n slots) ≤ length slots + 1
      → length (if b then m ∷ slots else if c then n ∷ m ∷ slots else m ∷ with_slot n slots) ≤ length (m ∷ slots) + 1
  go true c more = omega arith
  go false true more = omega arith
  go false false more = omega (arith, more)

slots_in-length : (inodes : ℕ) (list : List ℕ) → length (slots_in inodes list) ≤ length list
slots_in-length inodes [] = omega arith
slots_in-length inodes (ino ∷ rest) = go (nat_lt ino inodes) (slots_in-length inodes rest) where
  go : (b : Bool) → length (slots_in inodes rest) ≤ length rest
      → length (if b then with_slot ino (slots_in inodes rest) else slots_in inodes rest) ≤ length (ino ∷ rest)
  go true more = omega (arith, with_slot-length ino (slots_in inodes rest), more)
  go false more = omega (arith, more)

if_any-length : (to : Option Handle) → length (if_any to) ≤ 1
if_any-length None = omega arith
if_any-length (Some to) = omega arith

handles-length : (looked : LookupResult) (c : Call) → length (handles looked c) ≤ 4
handles-length looked (call.Unlink dir name) = omega (arith, if_any-length looked.first)
handles-length looked (call.Rmdir dir name) = omega (arith, if_any-length looked.first)
handles-length looked (call.Rename from old to new) =
    omega (arith, length-append (if_any looked.first) (if_any looked.second), if_any-length looked.first, if_any-length looked.second)
handles-length looked other = omega arith

two_directories : (b : Bool) (from to : Handle) → length (if b then from ∷ [] else from ∷ to ∷ []) ≤ 2
two_directories true from to = omega arith
two_directories false from to = omega arith

pub directories-length : (c : Call) → length (directories c) ≤ 2
directories-length (call.Rename from old to new) = two_directories (same_handle from to) from to
directories-length other = omega arith

if_number-length : (number : Option ℕ) → length (if_number number) ≤ 1
if_number-length None = omega arith
if_number-length (Some ino) = omega arith

pub slots_of-length : (s : Shared) (number : Option ℕ) (looked : LookupResult) (c : Call) → length (slots_of s number looked c) ≤ 5
slots_of-length s number looked c =
    omega (
      arith,
      slots_in-length (length s.cells) (if_number number ++ map (λ (h : Handle). h.ino) (handles looked c)),
      length-append (if_number number) (map (λ (h : Handle). h.ino) (handles looked c)),
      length-map (handles looked c) (λ (h : Handle). h.ino),
      if_number-length number,
      handles-length looked c,
    )

pub written-length : (r : Running) → length (written_slots r) ≤ length r.slots
written-length r = omega (arith, length-filter (is_written r.plan) r.slots, count_by-le-length (is_written r.plan) r.slots)

-- ---- the next home

pub home_from-above : (from : ℕ) (cpu : ℕ) (lists : List FreeBlocks) (blocks : List BlockValue) (to : ℕ)
    → home_from from cpu lists blocks ≡ Some to → (from ≤ to) × (to < cpu + length lists)
home_from-above from cpu [] blocks to e = absurd (none-some to e)
home_from-above from cpu (list ∷ lists) blocks to e = go (nat_lt cpu from)
    (list_any (λ (b : BlockValue). is_home list b.number) blocks) refl (home_from-above from (cpu + 1) lists blocks to) e where
      go : (b c : Bool) → nat_lt cpu from ≡ b
          → (home_from from (cpu + 1) lists blocks ≡ Some to → (from ≤ to) × (to < cpu + 1 + length lists))
          → (if b then home_from from (cpu + 1) lists blocks else if c then Some cpu else home_from from (cpu + 1) lists blocks) ≡ Some to
          → (from ≤ to) × (to < cpu + length (list ∷ lists))
      go true c is more e = let h = more e in (h.0, omega (arith, h.1))
      go false false is more e = let h = more e in (h.0, omega (arith, h.1))
      go false true is more e =
          let same : cpu ≡ to = ap (λ (o : Option ℕ). unwrap_or o 0) e in
          let low = ltb-false cpu from is in
          (omega (arith, same, low), omega (arith, same))
