use Rattle.std.proofs.Common.{◌≤◌, ◌++◌, ◌∷◌, [], List, arith, ap, subst, sym, take, ◌∙◌}
use Rattle.std.proofs.lemmas.List.{take_all, take_more}
use Rattle.nv_epoch.specs.SnapList.{Snapshots}
use Rattle.nv_book.specs.declared.record.Record.{Record}
use Rattle.nv_book.specs.Book.{BookState, after_retire, after_retiring}
use Rattle.nv_book.proofs.Telling.{dead-at, retiring-more, room-falls, same-snaps, told-retiring}
use Rattle.nv_book.proofs.book.Book.retire_all.Goals as goal

pub retire-retired-requires-clause-dead : goal.retire-retired-requires-clause-dead
retire-retired-requires-clause-dead c =
    let old = c.args.self.now.state in
    let records = c.args.records.now in
    let i = c.loop-killed.killed-index in
    let k = c.killed-item.result in
    subst (λ (s : Snapshots). k.death ≤ s.epoch)
    (sym (ap (λ (b : BookState). b.snaps) c.loop-killed.invariant.state ∙ same-snaps (take i records) old))
    (dead-at old.snaps.epoch records i k c.requires.dead c.loop-killed-test.true c.killed-item.is)

pub retire-retired-requires-clause-room : goal.retire-retired-requires-clause-room
retire-retired-requires-clause-room c = omega (arith, c.loop-killed.invariant.room, c.loop-killed-test.true, c.requires.room)

pub loop-killed-preserved : goal.loop-killed-preserved
loop-killed-preserved c =
    let old = c.args.self.now.state in
    let records = c.args.records.now in
    let i = c.loop-killed.killed-index in
    let k = c.killed-item.result in
    let more = take_more records i k c.loop-killed-test.true ∙ ap (λ (r : Record). take i records ++ r ∷ []) (sym c.killed-item.is) in
    record {
      state = c.retire-retired.ensures.state ∙ ap (after_retire k) c.loop-killed.invariant.state ∙ sym (retiring-more records i k old more);
      room = omega (
        arith,
        c.loop-killed.invariant.room,
        c.retire-retired.ensures.room,
        room-falls c.retire-retired.result c.loop-killed.self.room,
      );
    }

pub returns : goal.returns
returns c =
    let records = c.args.records.now in
    let all = c.loop-killed.invariant.state
    ∙ ap (λ (ks : List Record). after_retiring ks c.args.self.now.state) (take_all c.loop-killed.killed-index records (omega arith)) in
    record {
      state = all;
      told = λ g living epoch commit rs e. all ∙ ap (after_retiring records) e ∙ told-retiring g living epoch commit records rs;
      room = omega (arith, c.loop-killed.invariant.room);
    }
