-- A call that commits something appends to the log of the inode of each handle that it names.
use Rattle.std.proofs.Common.{◌≡◌, ℕ, zero, suc, ◌+◌, ◌-◌, ◌/◌, ◌<◌, ◌≤◌, ◌==◌, Bool, true, false, cond, List, [], ◌∷◌, Option, Some, None, length, length-append, replicate, refl, ap, subst, arith}
use Rattle.std.specs.Prelude.{is_some, option_map, unwrap_or}
use Rattle.std.specs.List.{AllByRecursion}
use Rattle.std.proofs.lemmas.Bool.{eq-eqb}
use Rattle.std.proofs.lemmas.Nat.{le-div}
use Rattle.std.proofs.Math.ListN.{length-map}
use Rattle.std.proofs.Math.Nat.{div-mul-le_self}
use Rattle.nv_alloc.specs.Block.{number_of, numbers_of}
use Rattle.nv_alloc.specs.declared.hand.Hand.{Hand}
use Rattle.nv_base.specs.declared.node.Kind.TheVariants.{Dir, File}
use Rattle.nv_base.specs.declared.numbers.Handle.{Handle}
use Rattle.nv_entry.specs.Bytes.{pages_touched}
use Rattle.nv_entry.specs.Sound.{blocks_of, write_items}
use Rattle.nv_entry.specs.declared.item.BlockRun.{BlockRun}
use Rattle.nv_entry.specs.declared.item.Item.{Item}
use Rattle.nv_entry.specs.declared.item.Item.TheVariants.{Bind, Gone, Init, SetSize, Unbind}
use Rattle.nv_calls.specs.Nodes.{block_in, nodes_in}
use Rattle.nv_calls.specs.Plain.{same_handle}
use Rattle.nv_calls.specs.Plan.{planned}
use Rattle.nv_calls.specs.Prepared.{CanReady, HasNumberFor, handle_in, handle_made_by, makes, no_handle, planned_by, taken_by}
use Rattle.nv_calls.specs.Refusals.{Check, found, passes, want_bound}
use Rattle.nv_calls.specs.Slots.{items_for}
use Rattle.nv_calls.specs.calls.Lookup.{lookup_refusal}
use Rattle.nv_calls.specs.calls.Rename.{bound_plan, move_plan, own_place, rename_early, replaced_plan}
use Rattle.nv_calls.specs.calls.Unlink.{leave_plan}
use Rattle.nv_calls.specs.declared.plan.InodePlan.{InodePlan}
use Rattle.nv_calls.specs.declared.update.Update.{Update}
use Rattle.nv_calls.specs.declared.update.Update.TheVariants as update
use Rattle.nv_calls.proofs.CheckEnds.{handle_is}
use Rattle.nv_calls.proofs.Passed.{both_passed}
use Rattle.nv_cell.specs.Cell.{CellValue}
use Rattle.nv_sessions.specs.Changing.{handles_of}

abbrev HasItems : List InodePlan → Handle → Type 0
HasItems plan h = 0 < length (items_for plan h.ino)

-- the first inode of a plan, and the second
first : (h : Handle) (items : List Item) (rest : List InodePlan) → 0 < length items → HasItems (planned h items ∷ rest) h
first h items rest some = rw (eq-eqb h.ino h.ino refl) some

second : (h k : Handle) (xs ys : List Item) (rest : List InodePlan) → 0 < length xs → 0 < length ys
    → HasItems (planned h xs ∷ planned k ys ∷ rest) k
second h k xs ys rest some more = go (h.ino == k.ino) where
  go : (same : Bool) → 0 < length (cond same xs (items_for (planned k ys ∷ rest) k.ino))
  go true = some
  go false = first k ys rest more

-- ---- a write

some_items : (place size : ℕ) (runs : List BlockRun) → 0 < length (blocks_of runs) → 0 < length (write_items place runs size)
some_items place size [] some = absurd (omega (arith, some))
some_items place size (run ∷ runs) some = omega arith

touches : (block offset count : ℕ) → 0 < block → 0 < count → 0 < pages_touched block offset count
touches block offset count whole some =
    let below : offset / block ≤ (offset + count - 1) / block =
    le-div (offset / block) (offset + count - 1) block whole (omega (arith, div-mul-le_self offset block, some)) in
    omega (arith, below)

-- ---- names

leaves : (dir : Handle) (name : List ℕ) (bound : Option Handle) (next : Handle → Check) → want_bound bound next ≡ passes
    → HasItems (leave_plan dir name bound) dir
leaves dir name None next h = cc
leaves dir name (Some to) next h = first dir (Unbind name ∷ []) (planned to (Gone ∷ []) ∷ []) (omega arith)

moves : (same : Bool) (from : Handle) (old : List ℕ) (to : Handle) (new : List ℕ) (moved : Handle) (rest : List InodePlan)
    → same_handle from to ≡ same
    → HasItems (move_plan same from old to new moved rest) from × HasItems (move_plan same from old to new moved rest) to
moves true from old to new moved rest is =
    let own = first from (Unbind old ∷ Bind new moved ∷ []) rest (omega arith) in (
      own,
      subst (HasItems (planned from (Unbind old ∷ Bind new moved ∷ []) ∷ rest)) (handle_is from to is) own,
    )
moves false from old to new moved rest is = (
  first from (Unbind old ∷ []) (planned to (Bind new moved ∷ []) ∷ rest) (omega arith),
  second from to (Unbind old ∷ []) (Bind new moved ∷ []) rest (omega arith) (omega arith),
)

bound_moves : (from : Handle) (old : List ℕ) (to : Handle) (new : List ℕ) (bound other : Option Handle) (next : Handle → Check)
    → want_bound bound next ≡ passes
    → HasItems (bound_plan from old to new bound other) from × HasItems (bound_plan from old to new bound other) to
bound_moves from old to new None other next h = cc
bound_moves from old to new (Some moved) other next h = moves (same_handle from to) from old to new moved (replaced_plan other) refl

elsewhere : (own : Bool) (plan : List InodePlan) (from to : Handle) → own ≡ false → HasItems plan from × HasItems plan to
    → HasItems (cond own [] plan) from × HasItems (cond own [] plan) to
elsewhere true plan from to q some = cc
elsewhere false plan from to q some = some

-- ---- each call

pub named : (cells : List (ℕ × CellValue)) (hand : Hand) (u : Update) → CanReady cells hand u → 0 < block_in cells
    → blocks_of (taken_by cells hand u).runs ≡ numbers_of hand.«data».blocks
    → AllByRecursion (HasItems (planned_by cells hand u)) (handles_of u)
named cells hand (update.Create dir name mode) can whole blocks =
    let made = (taken_by cells hand (update.Create dir name mode)).made in
    (first dir (Bind name made ∷ []) (planned made (Init File mode ∷ []) ∷ []) (omega arith), tt)
named cells hand (update.Mkdir dir name mode) can whole blocks =
    let made = (taken_by cells hand (update.Mkdir dir name mode)).made in
    (first dir (Bind name made ∷ []) (planned made (Init Dir mode ∷ []) ∷ []) (omega arith), tt)
named cells hand (update.Write file offset zero) can whole blocks = let none = can.something in cc
named cells hand (update.Write file offset (suc m)) can whole blocks =
    let many : 0 < length hand.«data».blocks =
    omega (arith, can.count, touches (block_in cells) offset (length {A = ℕ} (0 ∷ replicate m 0)) whole (omega arith)) in
    let runs : 0 < length (blocks_of (taken_by cells hand (update.Write file offset (suc m))).runs) =
    omega (arith, many, ap (λ (ns : List ℕ). length ns) blocks, length-map hand.«data».blocks number_of) in
    (first file _ [] (some_items _ _ _ runs), tt)
named cells hand (update.Size file size) can whole blocks =
    let runs = (taken_by cells hand (update.Size file size)).runs in
    (first file _ [] (omega (arith, length-append (write_items (size / block_in cells) runs size) (SetSize size ∷ []))), tt)
named cells hand (update.Mode handle mode) can whole blocks = (first handle _ [] (omega arith), tt)
named cells hand (update.Unlink dir name) can whole blocks =
    let both = both_passed (lookup_refusal (nodes_in cells) dir name) _ can.passed in
    (leaves dir name (found (nodes_in cells) dir name) _ both.1, tt)
named cells hand (update.Rmdir dir name) can whole blocks =
    let both = both_passed (lookup_refusal (nodes_in cells) dir name) _ can.passed in
    (leaves dir name (found (nodes_in cells) dir name) _ both.1, tt)
named cells hand (update.Rename from old to new) can whole blocks =
    let nodes = nodes_in cells in
    let both = both_passed (rename_early nodes from old to new) _ can.passed in
    let some = bound_moves from old to new (found nodes from old) (found nodes to new) _ both.1 in
    let all = elsewhere (own_place from old to new) (bound_plan from old to new (found nodes from old) (found nodes to new)) from to
    can.something some in
    (all.0, (all.1, tt))

-- ---- the inode that a call makes

pub made_named : (cells : List (ℕ × CellValue)) (hand : Hand) (u : Update) (made : Handle) → handle_made_by cells hand.ino u ≡ Some made
    → HasItems (planned_by cells hand u) made
made_named cells hand (update.Create dir name mode) made is =
    let u = update.Create dir name mode in
    let here = (taken_by cells hand u).made in
    subst (HasItems (planned_by cells hand u)) (ap (λ (o : Option Handle). unwrap_or o no_handle) is)
    (second dir here (Bind name here ∷ []) (Init File mode ∷ []) [] (omega arith) (omega arith))
made_named cells hand (update.Mkdir dir name mode) made is =
    let u = update.Mkdir dir name mode in
    let here = (taken_by cells hand u).made in
    subst (HasItems (planned_by cells hand u)) (ap (λ (o : Option Handle). unwrap_or o no_handle) is)
    (second dir here (Bind name here ∷ []) (Init Dir mode ∷ []) [] (omega arith) (omega arith))
made_named cells hand (update.Write file offset count) made is = cc
made_named cells hand (update.Size file size) made is = cc
made_named cells hand (update.Mode handle mode) made is = cc
made_named cells hand (update.Unlink dir name) made is = cc
made_named cells hand (update.Rmdir dir name) made is = cc
made_named cells hand (update.Rename from old to new) made is = cc

some_made : (cells : List (ℕ × CellValue)) (makes : Bool) (number : Option ℕ) → HasNumberFor cells makes number
    → is_some (cond makes (option_map (handle_in cells) number) None) ≡ makes
some_made cells true (Some ino) has = refl
some_made cells true None has = absurd has
some_made cells false number has = refl

pub made_where : (cells : List (ℕ × CellValue)) (hand : Hand) (u : Update) → CanReady cells hand u
    → is_some (handle_made_by cells hand.ino u) ≡ makes u
made_where cells hand u can = some_made cells (makes u) hand.ino can.number
