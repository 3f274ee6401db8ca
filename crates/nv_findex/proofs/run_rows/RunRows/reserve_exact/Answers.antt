use Rattle.std.proofs.Common.{◌≡◌, ◌∙◌, ◌+◌, ◌*◌, ◌<◌, ◌≤◌, ℕ, List, length, ap, sym, subst, arith}
use Rattle.std.specs.Prelude.{max, Result, Ok, Err, OnOk, OnErr}
use Rattle.nv_findex.specs.declared.page_run.PageRun.{PageRun}
use Rattle.nv_findex.specs.Rows.{RunList, AreStarts}
use Rattle.nv_findex.proofs.Rows.{length_rows}
use Rattle.nv_findex.proofs.run_rows.RunRows.reserve_exact.Goals as goal

-- a capacity after an exact reserve for so many in all, where there are starts enough for both
reserved_below : {T E : Type 0} (r : Result T E) (now cap all most : ℕ) → OnOk r (now ≡ max cap all) → OnErr r (now ≡ cap)
    → cap < most → (all ≤ now → all < most) → now < most
reserved_below (Ok _) now cap all most ok err low high = omega arith
reserved_below (Err _) now cap all most ok err low high = omega arith

pub invariant_of-self-2 : goal.invariant_of-self-2
invariant_of-self-2 c =
    let f = c.self.inside in
    let starts = c.reserve_exact.new.self in
    let runs = c.reserve_exact-2.new.self in
    let done = c.reserve_exact-2.ensures in
    let room = c.in_ok-reserve_exact.ensures.capacity_exact in
    let items = ap (λ (r : RunList). length r.items) c.self.view_is in
    let rows = length_rows f.starts.items f.runs.items in (
      subst (λ (l : List ℕ). AreStarts l (length runs.items)) (sym c.in_ok-reserve_exact.ensures.items)
          (subst (λ (l : List PageRun). AreStarts f.starts.items (length l)) (sym done.items) c.self.invariant.0),
      reserved_below c.reserve_exact-2.result runs.cap f.runs.cap (f.runs.len + c.args.more) (starts.cap * 128 + 128)
          done.capacity_exact done.err (omega (arith, c.self.invariant.1, room))
          (λ within. omega (arith, within, room, items, rows, c.len-2.ensures, f.runs.ok, f.starts.ok, runs.small)),
    )

pub returns-clause-ok : goal.returns-clause-ok
returns-clause-ok c =
    let f = c.self.inside in
    let result = c.reserve_exact-2.result in
    let runs = c.reserve_exact-2.new.self in
    let len = f.runs.ok.0 ∙ sym (length_rows f.starts.items f.runs.items) in
    subst (λ (r : RunList). OnOk result (runs.cap ≡ max r.capacity (length r.items + c.args.more))) c.self.view_is
    (subst (λ (n : ℕ). OnOk result (runs.cap ≡ max f.runs.cap (n + c.args.more))) len c.reserve_exact-2.ensures.capacity_exact)
