use Rattle.std.proofs.Common.{◌≡◌, ℕ, length}
use Rattle.nv_alloc.specs.declared.hand.Hand.{Hand}
use Rattle.nv_calls.specs.declared.update.Update.{Update}
use Rattle.nv_machine.specs.Reads.{pages_wanted, plan_by}
use Rattle.nv_core.specs.Rooms.{CanWantPages, HasItsBlocks, HasMade, IsChecked, blocks_to_take, pages_to_take}
use Rattle.nv_core.specs.Shown.{ShownCall, hand_of, shared_of, shown, slots_in}
use Rattle.nv_core.specs.GhostCalls.{IsChangeWith, IsShownCallOf}
use Rattle.nv_core.specs.declared.running.Running.{Running}
use Rattle.nv_core.specs.declared.shared.Shared.{Shared}
use Rattle.nv_core.proofs.Takes.{none_wanted, over_all, rooms_next, rooms_none, some_wanted, wanted_same}
use Rattle.nv_core.proofs.kinds.take.want_pages.Goals as goal

same : (shared : Shared) (hand : Hand) (running : Running) (pages : ℕ) (told : ShownCall) → IsShownCallOf running told
    → CanWantPages shared hand running
    → IsChangeWith (λ (u : Update). pages ≡ pages_to_take shared (slots_in running.slots) hand u) running.request
    → let s = shared_of shared in let r = shown told running in
    pages_wanted s r.slots (plan_by shared.geometry.numbers.block s (hand_of hand) r) ≡ pages
same shared hand running pages told is can wanted =
    let slots = slots_in running.slots in
    wanted_same shared slots hand running.looked running.made running.request running.owed told.call pages is
    (over_all (λ (u : Update). HasMade shared slots hand running.made u × IsChecked shared slots hand running.looked u × HasItsBlocks
    shared slots hand u)
    (λ (u : Update). HasMade shared slots hand running.made u × IsChecked shared slots hand running.looked u) running.request
    (λ u h. (h.0, h.1)) can)
    wanted

pub returns-then-running-eq0-clause-turn : goal.returns-then-running-eq0-clause-turn
returns-then-running-eq0-clause-turn c told is =
    none_wanted _ c.pages_by-running.result (shared_of c.args.shared.now) (hand_of c.args.hand.now) (shown told c.args.running.now)
    (same c.args.shared.now c.args.hand.now c.args.running.now c.pages_by-running.result told is c.requires.can
    c.pages_by-running.ensures.wanted) c.if-running-eq0.true

pub returns-then-running-eq0-clause-rooms : goal.returns-then-running-eq0-clause-rooms
returns-then-running-eq0-clause-rooms c =
    rooms_none c.args.shared.now c.pages_by-running.new.shared c.args.hand.now c.args.running.now c.pages_by-running.result c.requires.sizes
    c.requires.call c.requires.can c.if-running-eq0.true c.pages_by-running.ensures.wanted c.pages_by-running.ensures.same

pub returns-clause-turn : goal.returns-clause-turn
returns-clause-turn c told is =
    some_wanted _ c.pages_by-running.result (shared_of c.args.shared.now) (hand_of c.args.hand.now) (shown told c.args.running.now)
    (same c.args.shared.now c.args.hand.now c.args.running.now c.pages_by-running.result told is c.requires.can
    c.pages_by-running.ensures.wanted) c.if-running-eq0.false

pub returns-clause-rooms : goal.returns-clause-rooms
returns-clause-rooms c =
    rooms_next c.args.shared.now c.pages_by-running.new.shared c.args.hand.now c.args.running.now c.pages_by-running.result
    c.requires.limits c.requires.home c.requires.sizes c.requires.call c.requires.can c.pages_by-running.ensures.wanted
    c.pages_by-running.ensures.few c.pages_by-running.ensures.same

pub pages_by-running-requires-clause-can : goal.pages_by-running-requires-clause-can
pages_by-running-requires-clause-can c =
    let shared = c.args.shared.now in let slots = slots_in c.args.running.now.slots in let hand = c.args.hand.now in
    over_all (λ (u : Update). HasMade shared slots hand c.args.running.now.made u × IsChecked shared slots hand c.args.running.now.looked u
    × HasItsBlocks shared slots hand u)
    (λ (u : Update). IsChecked shared slots hand c.args.running.now.looked u
    × (length hand.«data».blocks ≡ blocks_to_take shared slots u)) c.args.running.now.request (λ u h. (h.1, h.2.blocks)) c.requires.can
