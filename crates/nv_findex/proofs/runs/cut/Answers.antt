use Rattle.std.proofs.Common.{◌∙◌, arith}
use Rattle.nv_findex.proofs.PlaceParts.{cut_is}
use Rattle.nv_findex.proofs.Places.{border_has_page, count_front, count_le}
use Rattle.nv_findex.proofs.runs.cut.Goals as goal

pub keep_below-kept-requires-clause-page : goal.keep_below-kept-requires-clause-page
keep_below-kept-requires-clause-page c =
    border_has_page c.args.page c.ended_by-at.result c.args.runs.now.items c.requires.places c.ended_by-at.ensures.border

pub overflow_sub-empty : goal.overflow_sub-empty
overflow_sub-empty c =
    let kept = c.keep_below-kept.ensures in
    count_le c.keep_below-kept.new.runs.items c.keep_below-kept.result c.len.result c.args.empty.now _ (omega (arith, kept.within, c.len.ensures)) (omega (arith, c.len.ensures))
    (omega (arith, c.requires.empty, kept.len, kept.present)) c.empty_in.ensures

pub returns : goal.returns
returns c =
    let kept = c.keep_below-kept.ensures in
    let cut = cut_is c.args.page c.ended_by-at.result c.args.runs.now.items _ c.requires.places c.ended_by-at.ensures.border (c.truncate.ensures.items ∙ kept.before) in
    record {
      places = cut.places;
      pages = cut.pages;
      count = cut.count;
      empty = rw c.truncate.ensures.items
          (count_front c.keep_below-kept.new.runs.items c.keep_below-kept.result c.len.result c.args.empty.now _ (omega (arith, kept.within, c.len.ensures)) c.len.ensures
          (omega (arith, c.requires.empty, kept.len, kept.present)) c.empty_in.ensures);
      capacity = c.truncate.ensures.capacity ∙ kept.capacity;
    }
