use Rattle.std.proofs.Common.{◌∙◌, List, subst, arith}
use Rattle.nv_findex.specs.declared.page_run.PageRun.{PageRun}
use Rattle.nv_findex.specs.Runs.{IsPut, present}
use Rattle.nv_findex.proofs.PutPlaces.{put_just_is}
use Rattle.nv_findex.proofs.put.put.Goals as goal

pub returns-then-is_just : goal.returns-then-is_just
returns-then-is_just c =
    let put = put_just_is c.args.run c.squeeze_full.new.runs.items _ c.ended_at-at.result c.squeeze_full.ensures.places c.requires.run c.requires.place c.ended_at-at.ensures.border
    (c.is_just.ensures c.if-is_just.true) c.replace.ensures.items in
    record {
      put = subst (λ (l : List PageRun). IsPut c.args.run l (present c.replace.new.self.items)) c.squeeze_full.ensures.present put.0.put;
      places = put.0.places;
      empty = omega (arith, c.squeeze_full.ensures.empty, put.1, put.2);
      capacity = c.replace.ensures.capacity ∙ c.squeeze_full.ensures.capacity;
    }
