use Rattle.nv_audit.proofs.PendingSlots.{all_pending}
use Rattle.nv_audit.proofs.pending.all_pending.Goals as goal

pub returns : goal.returns
returns c =
    all_pending c.args.slots c.args.deferred.now c.args.in_hands.now c.in_ok-lists.lists.items c.put_deferred.new.lists.items
    c.put_in_hands.new.lists.items c.in_ok-lists.ensures c.in_ok-put_deferred.ensures c.in_ok-put_in_hands.ensures
