use Rattle.std.proofs.Common.{◌≡◌, ℕ, if◌then◌else◌, take}
use Rattle.std.specs.Prelude.{vec_len}
use Rattle.nv_cell.specs.Anew.{birth_at, mark_ended}
use Rattle.nv_cell.specs.Marks.{mark_at}
use Rattle.nv_cell.specs.Numbers.{numbers_in}
use Rattle.nv_cell.specs.Tallies.{SameCapacity, is_in}
use Rattle.nv_cell.proofs.marks.Marks.end_all.Given as goal

abbrev pub invariant-loop-part : goal.invariant-loop-part
invariant-loop-part l = record {
  len : vec_len l.self.marks ≡ vec_len l.fn.self.marks;
  ends : l.self.ends ≡ l.fn.self.ends;
  room : SameCapacity l.fn.self l.self;
  marks : (n : ℕ) → mark_at l.self.marks.items n
      ≡ (if is_in n (numbers_in (take l.part-index l.ended)) then mark_ended l.living (birth_at l.chain.state.entries n) l.death
      else mark_at l.fn.self.marks.items n);
}
