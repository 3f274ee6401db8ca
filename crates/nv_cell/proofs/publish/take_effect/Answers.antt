use Rattle.std.proofs.Common.{◌≡◌, ℕ, ◌+◌, ◌<◌, Bool, true, cond, arith, ap, ◌∙◌, length, slice_index, List, [], rules}
use Rattle.std.proofs.lemmas.List.Sorted.{IsNonDecreasingBy-from_sort_by_key, length_permutation}
use Rattle.nv_entry.specs.Covered.{part_total}
use Rattle.nv_cell.specs.declared.mark.Mark.{Mark}
use Rattle.nv_cell.specs.declared.mark.Mark.TheVariants as mark
use Rattle.nv_cell.specs.declared.number.NumberedPart.{NumberedPart}
use Rattle.nv_cell.specs.Marks.{mark_at}
use Rattle.nv_cell.specs.Numbers.{dies, numbers_in, times}
use Rattle.nv_cell.proofs.Cells.{dies_low, in_dies, times_at}
use Rattle.nv_cell.proofs.Numbered.{length_numbers, number_at_place, same_numbers}
use Rattle.nv_cell.proofs.Publishes.{dies_when, dying_is_current, first_base, is_filtered, once, rising}
use Rattle.nv_cell.proofs.publish.take_effect.Goals as goal

-- behind an empty list stand the parts that die, each once
only : (n d : ℕ) (old new : List NumberedPart) → old ≡ [] → times n (numbers_in new) ≡ times n (numbers_in old) + d
    → times n (numbers_in new) ≡ d
only n d old new empty h = omega (arith, h, ap (λ (parts : List NumberedPart). times n (numbers_in parts)) empty)

pub apply_all-requires-clause-ends : goal.apply_all-requires-clause-ends
apply_all-requires-clause-ends c =
    let es = c.args.chain.now.state.entries in
    record {
      first = first_base c.add_all.new.marks.ends.items es (length es) c.add_all.ensures.ended;
      small = omega (arith, c.add_all.ensures.len);
    }

pub kill_all-ahead-requires-clause-current : goal.kill_all-ahead-requires-clause-current
kill_all-ahead-requires-clause-current c i lt =
    let es = c.args.chain.now.state.entries in
    let parts = c.deref.result.now in
    let n = slice_index (numbers_in parts) i in
    let d = dies c.args.block es c.args.tail n in
    let k : times n (numbers_in parts) ≡ cond d 1 0 =
    ap (λ (ps : List NumberedPart). times n (numbers_in ps)) c.deref.ensures.value
    ∙ only n (cond d 1 0) c.args.numbers.now.items c.apply_all.new.killed.items c.requires.empty (c.apply_all.ensures.killed n) in
    let dead : d ≡ true = dies_when d (times n (numbers_in parts)) k
    (times_at (numbers_in parts) i (omega (arith, lt, length_numbers parts))) in
    let low : n < part_total es = dies_low c.args.block es c.args.tail n (rw dead (omega arith)) in
    dying_is_current c.args.block es c.args.tail n (mark_at c.args.marks.now.marks.items n)
    (mark_at c.add_all.new.marks.marks.items n) dead low (c.requires.current n) (c.add_all.ensures.marks n)

pub returns-clause-marks : goal.returns-clause-marks
returns-clause-marks c n =
    let es = c.args.chain.now.state.entries in
    let parts = c.deref.result.now in
    let d = dies c.args.block es c.args.tail n in
    let k : times n (numbers_in parts) ≡ cond d 1 0 =
    ap (λ (ps : List NumberedPart). times n (numbers_in ps)) c.deref.ensures.value
    ∙ only n (cond d 1 0) c.args.numbers.now.items c.apply_all.new.killed.items c.requires.empty (c.apply_all.ensures.killed n) in
    c.kill_all-ahead.ensures.marks n
    ∙ ap (λ (b : Bool). cond b mark.Killed (mark_at c.add_all.new.marks.marks.items n)) (in_dies n (numbers_in parts) d k)
    ∙ ap (λ (m : Mark). cond (dies c.args.block c.args.chain.now.state.entries c.args.tail n) mark.Killed m) (c.add_all.ensures.marks n)

pub returns-clause-killed : goal.returns-clause-killed
returns-clause-killed c =
    let es = c.args.chain.now.state.entries in
    let sorted = c.sort_unstable_by_key.new.self.items in
    let none : NumberedPart = record { number = 0; entry = 0 } in
    let size = length_numbers sorted in
    let dead : ℕ → Bool = dies c.args.block es c.args.tail in
    let count : (n : ℕ) → times n (numbers_in sorted) ≡ cond (dead n) 1 0 = λ n.
    same_numbers n c.apply_all.new.killed.items sorted c.sort_unstable_by_key.ensures.permutation
    ∙ only n (cond (dead n) 1 0) c.args.numbers.now.items c.apply_all.new.killed.items c.requires.empty (c.apply_all.ensures.killed n) in
    let up = IsNonDecreasingBy-from_sort_by_key (λ (p : NumberedPart). p.number) sorted c.sort_unstable_by_key.ensures.sorted
    (λ a r q k. search rules) in
    is_filtered dead (part_total es) (numbers_in sorted)
    (rising (numbers_in sorted)
    (λ i j le lt.
    let a = number_at_place sorted i 0 none (omega (arith, le, lt, size)) in
    let b = number_at_place sorted j 0 none (omega (arith, lt, size)) in
    omega (arith, a, b, up i j none le (omega (arith, lt, size))))
    (λ n. once (dead n) (times n (numbers_in sorted)) (count n)))
    count
    (λ n h. dies_low c.args.block es c.args.tail n (rw h (omega arith)))

pub returns-clause-few : goal.returns-clause-few
returns-clause-few c =
    omega (
      arith,
      c.apply_all.ensures.len,
      length_permutation c.apply_all.new.killed.items c.sort_unstable_by_key.new.self.items
          c.sort_unstable_by_key.ensures.permutation,
      ap length c.requires.empty,
    )
