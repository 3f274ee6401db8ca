use Rattle.std.proofs.Common.{◌∙◌, ◌+◌, sym, arith}
use Rattle.nv_findex.proofs.Borders.{border_before, border_le}
use Rattle.nv_findex.proofs.Places.{border_has_page}
use Rattle.nv_findex.proofs.PutPlaces.{put_before_is, put_last_is, rest_has_page}
use Rattle.nv_findex.proofs.put.put_at.Goals as goal

pub ended_from-to-requires-clause-before : goal.ended_from-to-requires-clause-before
ended_from-to-requires-clause-before c =
    border_before c.args.run.first c.args.run.end c.args.at c.args.runs.now.items (omega (arith, c.requires.run.some)) c.requires.border

pub keep_below-kept-requires-clause-page : goal.keep_below-kept-requires-clause-page
keep_below-kept-requires-clause-page c = border_has_page c.args.run.first c.args.at c.args.runs.now.items c.requires.places c.requires.border

pub put_before-requires-clause-order : goal.put_before-requires-clause-order
put_before-requires-clause-order c =
    omega (
      arith,
      border_le c.args.run.first c.args.run.end c.args.at c.ended_from-to.result c.args.runs.now.items (omega (arith, c.requires.run.some)) c.requires.border c.ended_from-to.ensures.border,
      c.keep_below-kept.ensures.one,
    )

pub put_before-requires-clause-rest : goal.put_before-requires-clause-rest
put_before-requires-clause-rest c =
    rest_has_page c.args.run.end c.ended_from-to.result c.args.runs.now.items c.in-Some.rest c.requires.places c.ended_from-to.ensures.border
    (sym c.in-Some.is ∙ c.rest_at-rest.ensures.rest)

pub returns-in-None : goal.returns-in-None
returns-in-None c =
    let put = put_last_is c.args.run c.args.runs.now.items _ c.args.at c.ended_from-to.result c.requires.places c.requires.run c.requires.place c.requires.border c.ended_from-to.ensures.border
    c.keep_below-kept.new.runs.items c.keep_below-kept.result c.keep_below-kept.ensures.before (sym c.rest_at-rest.ensures.rest ∙ c.in-None.is) c.put_last.ensures.items in
    record { put = put.put; places = put.places; empty = c.put_last.ensures.empty; capacity = c.put_last.ensures.capacity ∙ c.keep_below-kept.ensures.capacity }

pub returns-in-Some : goal.returns-in-Some
returns-in-Some c =
    let order = border_le c.args.run.first c.args.run.end c.args.at c.ended_from-to.result c.args.runs.now.items (omega (arith, c.requires.run.some)) c.requires.border c.ended_from-to.ensures.border in
    let put = put_before_is c.args.run c.args.runs.now.items _ c.args.at c.ended_from-to.result c.requires.places c.requires.run c.requires.place c.requires.border c.ended_from-to.ensures.border
    c.keep_below-kept.new.runs.items c.keep_below-kept.result c.in-Some.rest c.keep_below-kept.ensures.before
    (c.keep_below-kept.ensures.behind (c.ended_from-to.result + 1) (omega (arith, order))) (sym c.in-Some.is ∙ c.rest_at-rest.ensures.rest) c.put_before.ensures.put in
    record { put = put.put; places = put.places; empty = c.put_before.ensures.empty; capacity = c.put_before.ensures.capacity ∙ c.keep_below-kept.ensures.capacity }
