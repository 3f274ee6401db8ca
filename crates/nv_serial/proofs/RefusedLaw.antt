-- A call on files and directories that is made alone and refused is refused as the world with numbers says, or for want of
-- memory.
use Rattle.std.proofs.Common.{◌≡◌, ◌⊎◌, ◌∙◌, ℕ, zero, suc, ◌+◌, ◌<◌, ◌≤◌, ◌==◌, ◌++◌, Bool, true, false, List, [], ◌∷◌, Option, Some, ap, arith, inl, inr, length, refl, subst, sym}
use Rattle.std.specs.Prelude.{Err, nat_le}
use Rattle.std.specs.List.{AllByRecursion, range_with_len, sum_by}
use Rattle.std.proofs.lemmas.Bool.{eqb-false, eqb-true, false≢true, le-leb, leb-true, true≢false}
use Rattle.std.proofs.lemmas.List.{length-map}
use Rattle.std.proofs.lemmas.List.Sums.{sum_by-cons}
use Rattle.nv_alloc.specs.Numbers.{IsRising}
use Rattle.nv_base.specs.Memory.{out_of_memory}
use Rattle.nv_base.specs.declared.fault.Fault.{Fault}
use Rattle.nv_base.specs.declared.fault.Fault.TheVariants.{CommitLimit, NoInode, NoSpace}
use Rattle.nv_base.specs.declared.geometry.GeometryNumbers.{GeometryNumbers}
use Rattle.nv_base.specs.declared.limits.TheConstants.{NUMBER}
use Rattle.nv_base.specs.declared.numbers.Handle.{Handle}
use Rattle.nv_book.specs.declared.record.Record.{Record}
use Rattle.nv_calls.specs.AllCalls.{is_nothing, refusal}
use Rattle.nv_calls.specs.Plain.{node_in}
use Rattle.nv_calls.specs.Refusals.{Check as Tests, passes}
use Rattle.nv_calls.specs.declared.call.Call.{Call}
use Rattle.nv_calls.specs.declared.call.Call.TheVariants as call
use Rattle.nv_calls.specs.declared.plan.InodePlan.{InodePlan}
use Rattle.nv_machine.specs.Alone.{IsRefusedOn, goes, is_want}
use Rattle.nv_machine.specs.EndsDecided.{is_snapshot_or_cleaner}
use Rattle.nv_machine.specs.Locks.{AreSlots}
use Rattle.nv_machine.specs.Needed.{IsAtRest}
use Rattle.nv_machine.specs.PlainRun.{plain_of}
use Rattle.nv_machine.specs.Reads.{pages_needed, pages_wanted}
use Rattle.nv_machine.specs.Recorded.{records_after}
use Rattle.nv_machine.specs.Sequence.{beginning}
use Rattle.nv_machine.specs.Settled.{settled_nodes}
use Rattle.nv_machine.specs.Starts.{IsStart}
use Rattle.nv_machine.specs.Step.{after, is_numbered, step}
use Rattle.nv_machine.specs.World.{Event, Go, Refused, Running, Start, Started, World, actor_at}
use Rattle.nv_machine.proofs.AloneRefusals.{refused_for}
use Rattle.nv_machine.proofs.EachElement.{all_weaker}
use Rattle.nv_machine.proofs.WorldsAtRest.{start_again}
use Rattle.nv_serial.specs.Committed.{need_of, needs}
use Rattle.nv_serial.specs.FileCalls.{commit_if, commit_with, fits, if_passes, handle_for, makes_inode, on_files, pass, plan_for, wanted}
use Rattle.nv_serial.specs.Free.{pool_of, row_of}
use Rattle.nv_serial.specs.Law.{grows_nothing, serial_after}
use Rattle.nv_serial.specs.OneCall.{serial_call}
use Rattle.nv_serial.specs.Row.{plan_by_row}
use Rattle.nv_serial.specs.Serial.{Outcome, Serial, refused}
use Rattle.nv_serial.specs.Shown.{slot_told}
use Rattle.nv_serial.proofs.AloneStages.{PlainState, beside_after}
use Rattle.nv_serial.proofs.AtRestLists.{pool_is, row_is}
use Rattle.nv_serial.proofs.AtRestLogs.{told_by}
use Rattle.nv_serial.proofs.AtRestNodes.{plan_is, refusal_is, wanted_is}
use Rattle.nv_serial.proofs.AtRestPlain.{serial_is}
use Rattle.nv_serial.proofs.CommitLaw.{file_calls_refused, made_is, serial_files}
use Rattle.nv_serial.proofs.CommitSlots.{needs_are, sum_range}
use Rattle.nv_serial.proofs.MadeTaken.{IsMade, first_number, number_for}
use Rattle.nv_serial.proofs.PagesMore.{need_is}
use Rattle.nv_serial.proofs.TakesRuns.{some_lists}
use Rattle.nv_serial.proofs.WhyRefused.{Blockless, IsAtLimit, IsShort, Late, Limited, Memory, Numberless, Plainly, Why}
use Rattle.nv_serial.proofs.WhyRuns.{alone_why}

-- a sum over some of the slots is at most that over all
sum_some : (f : ℕ → ℕ) (n from : ℕ) (xs : List ℕ) → IsRising xs → AllByRecursion (λ x. from ≤ x) xs → AllByRecursion (λ x. x < from + n) xs
    → sum_by f xs ≤ sum_by f (range_with_len from n)
sum_some f n from [] rise low high = omega arith
sum_some f zero from (x ∷ xs) rise low high = absurd (omega (arith, low.0, high.0))
sum_some f (suc n) from (x ∷ xs) rise low high =
    go (x == from) refl (λ ys r l h. sum_some f n (from + 1) ys r l h) where
      go : (b : Bool) → (x == from) ≡ b
          → ((ys : List ℕ) → IsRising ys → AllByRecursion (λ y. from + 1 ≤ y) ys → AllByRecursion (λ y. y < from + 1 + n) ys
          → sum_by f ys ≤ sum_by f (range_with_len (from + 1) n))
          → sum_by f (x ∷ xs) ≤ sum_by f (range_with_len from (suc n))
      go true e rest =
          let same = eqb-true x from e in
          let more = rest xs rise.1 (all_weaker (λ m. x < m) (λ m. from + 1 ≤ m) (λ m lt. omega (arith, lt, same)) xs rise.0)
          (all_weaker (λ m. m < from + suc n) (λ m. m < from + 1 + n) (λ m lt. omega (arith, lt)) xs high.1) in
          let one = sum_by-cons f x xs in
          let other = sum_by-cons f from (range_with_len (from + 1) n) in
          let here = ap f same in
          omega (arith, more, one, other, here)
      go false e rest =
          let ne = eqb-false x from e in
          let ge = low.0 in
          let lt : from + 1 ≤ x = grind (arith, ne, ge) in
          let more = rest (x ∷ xs) rise
          (lt, all_weaker (λ m. x < m) (λ m. from + 1 ≤ m) (λ m above. omega (arith, above, lt)) xs rise.0)
          (all_weaker (λ m. m < from + suc n) (λ m. m < from + 1 + n) (λ m lt. omega (arith, lt)) (x ∷ xs) high) in
          let other = sum_by-cons f from (range_with_len (from + 1) n) in
          omega (arith, more, other)

-- a call without a number makes an inode, and none is free
record FindsNone (c : Call) (numbers : List ℕ) : Type 0 where
  something : is_nothing c ≡ false
  makes : makes_inode c ≡ true
  none : numbers ≡ []

finds_none : (c : Call) (numbers : List ℕ) → is_numbered (beginning c) (first_number (beginning c) numbers) ≡ false → FindsNone c numbers
finds_none (call.Create dir name mode) [] e = record { something = refl; makes = refl; none = refl }
finds_none (call.Mkdir dir name mode) [] e = record { something = refl; makes = refl; none = refl }
finds_none (call.Create dir name mode) (n ∷ numbers) e = absurd (true≢false e)
finds_none (call.Mkdir dir name mode) (n ∷ numbers) e = absurd (true≢false e)
finds_none other numbers e = absurd (true≢false e)

not_le : (a b : ℕ) → b < a → nat_le a b ≡ false
not_le a b lt = go (nat_le a b) refl where
  go : (x : Bool) → nat_le a b ≡ x → x ≡ false
  go false e = refl
  go true e = absurd (omega (arith, lt, leb-true a b e))

module _ (g : GeometryNumbers) (start : World) (records : List Record) (is_start : IsStart g start records) (before : List Event)
    (at_rest : IsAtRest (after start before)) (actor : ℕ) (c : Call) (plain : is_snapshot_or_cleaner c ≡ false)
    (started : (step (after start before) (Start actor c)).reply ≡ Started) (grants : List Bool) (granted : Bool) (r : Running)
    (is : (actor_at (after start (before ++ Start actor c ∷ goes actor grants)) actor).running ≡ Some r) (fault : Fault)
    (e : (step (after start (before ++ Start actor c ∷ goes actor grants)) (Go actor granted)).reply ≡ Refused fault) where
  abbrev w0 : World
  w0 = after start before

  abbrev rs0 : List Record
  rs0 = records_after start before records

  is0 : IsStart g w0 rs0
  is0 = start_again g start records before is_start at_rest

  abbrev s : Serial
  s = told_by g w0 rs0

  abbrev beside0 : PlainState
  beside0 = beside_after start before (record { records = records; plain = plain_of start })

  abbrev some : 0 < length w0.shared.lists
  some = some_lists g start records is_start before

  abbrev Says : Type 0
  Says = (on_files s actor c ≡ refused fault s) ⊎ ((fault ≡ out_of_memory) × (grows_nothing c ≡ false))

  -- with something to commit, and with a handle
  committing : (made : Handle) → refusal g.block (node_in (settled_nodes w0.shared)) c ≡ passes → is_nothing c ≡ false
      → IsMade g.block actor w0.shared c made
      → on_files s actor c ≡ commit_if (fits s actor made c) (nat_le NUMBER s.plain.commit) s actor made c
  committing made passed something new =
      ap (λ (tests : Tests). if_passes tests s actor c) passed ∙ ap (λ (b : Bool). pass b s actor c) something
      ∙ ap (λ (o : Option Handle). commit_with o s actor c) (made_is g w0 rs0 is0 actor c made new)

  -- the wants of all slots are at least those of some
  most : (made : Handle) (slots : List ℕ) → AreSlots (length w0.shared.cells) slots
      → pages_wanted w0.shared slots (plan_by_row g.block w0.shared actor c made) ≤ needs s (plan_for s actor made c)
  most made slots are =
      let plan = plan_by_row g.block w0.shared actor c made in
      let many = length w0.shared.cells in
      let some_of = sum_some (pages_needed w0.shared plan) many 0 slots are.rising
      (all_weaker (λ ino. ino < many) (λ ino. 0 ≤ ino) (λ ino lt. omega arith) slots are.inside)
      (all_weaker (λ ino. ino < many) (λ ino. ino < 0 + many) (λ ino lt. omega (arith, lt)) slots are.inside) in
      let all_same : sum_by (pages_needed w0.shared plan) (range_with_len 0 many) ≡ needs s plan =
      sum_range (pages_needed w0.shared plan) (need_of s plan) many 0
      (λ x ge lt. sym (need_is g w0 rs0 is0 plan x (omega (arith, lt, is0.slots))))
      ∙ ap (λ (n : ℕ). sum_by (need_of s plan) (range_with_len 0 n)) (sym (length-map w0.shared.cells slot_told)) in
      let plan_same = ap (λ (p : List InodePlan). needs s p) (plan_is g w0 rs0 is0 actor made c) in
      omega (arith, some_of, all_same, plan_same)

  short : refusal g.block (node_in (settled_nodes w0.shared)) c ≡ passes → IsShort g.block actor w0.shared c beside0 some
      → on_files s actor c ≡ refused NoSpace s
  short passed is =
      let made = is.made in
      let lacks = most made is.slots is.are in
      committing made passed is.something is.new
      ∙ ap (λ (b : Bool). commit_if b (nat_le NUMBER s.plain.commit) s actor made c)
      (not_le (wanted s c + needs s (plan_for s actor made c)) (length (row_of s actor))
      (omega (arith, lacks, is.short, wanted_is g w0 rs0 is0 c, ap (λ (l : List ℕ). length l) (row_is g w0 rs0 is0 actor))))

  limited : refusal g.block (node_in (settled_nodes w0.shared)) c ≡ passes → IsAtLimit g.block actor w0.shared c beside0 some
      → on_files s actor c ≡ refused CommitLimit s
  limited passed is =
      let made = is.made in
      let plan = plan_by_row g.block w0.shared actor c made in
      let needs_same = needs_are g w0 rs0 is0 actor c beside0 plan is.slots is.planned in
      let plan_same = ap (λ (p : List InodePlan). needs s p) (plan_is g w0 rs0 is0 actor made c) in
      committing made passed is.something is.new
      ∙ ap (λ (b : Bool). commit_if b (nat_le NUMBER s.plain.commit) s actor made c)
      (le-leb (wanted s c + needs s (plan_for s actor made c)) (length (row_of s actor))
      (omega (
        arith,
        is.enough,
        needs_same,
        plan_same,
        wanted_is g w0 rs0 is0 c,
        ap (λ (l : List ℕ). length l) (row_is g w0 rs0 is0 actor),
      )))
      ∙ ap (λ (b : Bool). commit_if true b s actor made c) is.limit

  numberless : refusal g.block (node_in (settled_nodes w0.shared)) c ≡ passes
      → is_numbered (beginning c) (number_for g.block actor w0.shared c) ≡ false → on_files s actor c ≡ refused NoInode s
  numberless passed none =
      let f = finds_none c w0.shared.pool.numbers none in
      let numbers : pool_of s ≡ [] = sym (pool_is g w0 rs0 is0) ∙ f.none in
      ap (λ (tests : Tests). if_passes tests s actor c) passed ∙ ap (λ (b : Bool). pass b s actor c) f.something
      ∙ ap (λ (b : Bool). commit_with (handle_for b (pool_of s) s) s actor c) f.makes
      ∙ ap (λ (ns : List ℕ). commit_with (handle_for true ns s) s actor c) numbers

  why : refusal g.block (node_in (settled_nodes w0.shared)) c ≡ passes → is_want fault ≡ true
      → Why g.block actor w0.shared c beside0 some fault → Says
  why passed want (Plainly plainly) =
      let clash : passes ≡ Err fault = sym passed ∙ refusal_is g w0 rs0 is0 c ∙ plainly in cc
  why passed want (Late over) = absurd (false≢true (sym (ap is_want over) ∙ want))
  why passed want (Memory memory) = inr memory
  why passed want (Numberless none) = inl (numberless passed none.1 ∙ ap (λ (f : Fault). refused f s) (sym none.0))
  why passed want (Blockless is) = inl (short passed is.1 ∙ ap (λ (f : Fault). refused f s) (sym is.0))
  why passed want (Limited is) = inl (limited passed is.1 ∙ ap (λ (f : Fault). refused f s) (sym is.0))

  says : IsRefusedOn g.block (settled_nodes w0.shared) c fault → Says
  says (inl plainly) = inl (ap (λ (tests : Tests). if_passes tests s actor c) plainly)
  says (inr want) =
      why want.0 want.1 (alone_why g start records is_start before actor c plain started (λ b ne. at_rest b) grants granted r fault is e)

  -- REFUSED as the world with numbers says, or for want of memory
  pub refused_says : (on_files (serial_after g start records before) actor c ≡ refused fault (serial_after g start records before))
      ⊎ ((fault ≡ out_of_memory) × (grows_nothing c ≡ false))
  refused_says =
      subst (λ (x : Serial). (on_files x actor c ≡ refused fault x) ⊎ ((fault ≡ out_of_memory) × (grows_nothing c ≡ false))) (sym (serial_is g start records before is_start))
      (says (refused_for g start records before actor c grants granted r fault is_start plain started is e))

pub file_calls_refused_so : (g : GeometryNumbers) (start : World) (records : List Record) (before : List Event) (actor : ℕ) (c : Call)
    (grants : List Bool) (granted : Bool) (r : Running) (fault : Fault) → IsStart g start records → IsAtRest (after start before)
    → is_snapshot_or_cleaner c ≡ false → (step (after start before) (Start actor c)).reply ≡ Started
    → let ran = before ++ Start actor c ∷ goes actor grants in
    (actor_at (after start ran) actor).running ≡ Some r → (step (after start ran) (Go actor granted)).reply ≡ Refused fault
    → ((serial_call (serial_after g start records before) actor c ≡ refused fault (serial_after g start records before))
    ⊎ ((fault ≡ out_of_memory) × (grows_nothing c ≡ false)))
    × (serial_after g start records (ran ++ Go actor granted ∷ []) ≡ serial_after g start records before)
    × IsAtRest (after start (ran ++ Go actor granted ∷ []))
file_calls_refused_so g start records before actor c grants granted r fault is_start at_rest plain started is e =
    let left = file_calls_refused g start records before actor c grants granted r fault is_start at_rest plain started is e in
    let same = serial_files g start records before actor c is_start plain started in (
      subst (λ (x : Outcome). (x ≡ refused fault (serial_after g start records before)) ⊎ ((fault ≡ out_of_memory) × (grows_nothing c ≡ false))) (sym same)
          (refused_says g start records is_start before at_rest actor c plain started grants granted r is fault e),
      left.0,
      left.1,
    )
