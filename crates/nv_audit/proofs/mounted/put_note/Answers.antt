use Rattle.std.proofs.Common.{ℕ, ap, set}
use Rattle.nv_audit.proofs.mounted.put_note.Goals as goal

pub returns : goal.returns
returns c = ap (λ (k : ℕ). set c.args.tails.now.items k c.args.note.tail) c.number-slot.ensures
