use Rattle.std.proofs.Common.{◌∙◌, ℕ, ◌-◌, sym, arith, is_some}
use Rattle.nv_findex.specs.Pages.{ref_at}
use Rattle.nv_findex.specs.Runs.{present}
use Rattle.nv_findex.proofs.Counts.{how_many_le}
use Rattle.nv_findex.proofs.Places.{present_at}
use Rattle.nv_findex.proofs.runs.count_from.Goals as goal

pub pages_past-requires : goal.pages_past-requires
pages_past-requires c =
    let rs = c.args.runs.now.items in
    omega (
      arith,
      present_at c.args.page c.ended_by.result rs c.requires c.ended_by.ensures.border,
      how_many_le (λ (q : ℕ). is_some (ref_at (present rs) q)) c.args.page (65536 - c.args.page),
    )

pub returns : goal.returns
returns c = c.pages_past.ensures ∙ sym (present_at c.args.page c.ended_by.result c.args.runs.now.items c.requires c.ended_by.ensures.border)
