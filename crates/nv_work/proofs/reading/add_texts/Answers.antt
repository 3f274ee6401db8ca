use Rattle.std.proofs.Common.{◌+◌, ◌++◌, ◌∙◌, ap, map, sym, take}
use Rattle.std.proofs.lemmas.List.{take_all}
use Rattle.std.specs.List.{concat}
use Rattle.nv_work.proofs.Told.{alike_as, fails_both, sends_both, texts_begin, texts_more}
use Rattle.nv_work.proofs.reading.add_texts.Goals as goal

pub returns-in_default-clause-told : goal.returns-in_default-clause-told
returns-in_default-clause-told g c =
    let texts = c.deref-text-items.result.now in
    let more = texts_more (λ text. text.items) texts c.loop-text.text-index c.text-item.result c.loop-text-test.true c.text-item.is in
    let begin = texts_begin (λ text. text.items) texts (c.loop-text.text-index + 1) in
    let all = ap (λ ts. concat (map (λ text. text.items) ts)) c.deref-text-items.ensures.value in (
      concat (map (λ text. text.items) (take c.loop-text.text-index texts)) ++ c.as_slice.result.now,
      alike_as _ _ _ _ (more ∙ ap (λ t. concat (map (λ text. text.items) (take c.loop-text.text-index texts)) ++ t) (sym c.as_slice.ensures.value)) all begin,
      fails_both _ _ _ _ _ c.loop-text.invariant.told c.in_default.ensures.sent,
    )

pub loop-text-preserved : goal.loop-text-preserved
loop-text-preserved g c =
    let inv = c.loop-text.invariant in
    let texts = c.deref-text-items.result.now in
    let more = texts_more (λ text. text.items) texts c.loop-text.text-index c.text-item.result c.loop-text-test.true c.text-item.is in
    let sent = sends_both _ _ _ _ _ inv.told c.in-Ok.ensures.sent in record {
      told = rw (more, sym c.as_slice.ensures.value) sent;
      world = inv.world;
      writes = c.in-Ok.ensures.ok ∙ inv.writes;
      same_writer = c.add.ensures.same ∙ inv.same_writer;
    }

pub returns-clause-told : goal.returns-clause-told
returns-clause-told g c =
    let whole = take_all c.loop-text.text-index c.deref-text-items.result.now c.loop-text-test.false in
    rw (sym c.deref-text-items.ensures.value, sym whole) c.loop-text.invariant.told
