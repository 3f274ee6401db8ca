use Rattle.nv_steps.proofs.VisitTurns.{looks_end, looks_on}
use Rattle.nv_steps.proofs.reading.look.Goals as goal

pub returns-in-Ok : goal.returns-in-Ok
returns-in-Ok c = record {
  turn = λ numbers actor granted text r next call was many range.
      looks_on numbers actor granted r c.args.update.now text c.args.place c.args.before.now (λ cell. cell.now) c.args.cell next call was
      c.requires.place range c.directory-ino.result (c.directory-ino.ensures text) c.args.inodes c.in-Ok.looked c.slots_of-slots.result
      many (λ bytes. rw c.in-Ok.is at (c.look_at.ensures bytes text)) (c.slots_of-slots.ensures text);
}

pub returns-in-Err : goal.returns-in-Err
returns-in-Err c = record {
  turn = λ numbers actor granted text r next call was many range.
      looks_end numbers actor granted r c.args.update.now text c.args.place c.args.before.now (λ cell. cell.now) c.args.cell next call was
      c.requires.place range c.directory-ino.result (c.directory-ino.ensures text) c.in-Err.fault
      (λ bytes. rw c.in-Err.is at (c.look_at.ensures bytes text));
}
