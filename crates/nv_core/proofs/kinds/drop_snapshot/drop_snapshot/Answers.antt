use Rattle.std.proofs.Common.{◌≡◌, ℕ, refl, subst}
use Rattle.nv_epoch.specs.SnapList.{pins_of}
use Rattle.nv_machine.specs.SnapshotOrCleaner.{drop_tests, drop_turn}
use Rattle.nv_machine.specs.World as machine
use Rattle.nv_machine.specs.World.{empty_hand, with_book}
use Rattle.nv_steps.proofs.OtherStates.{drop_here}
use Rattle.nv_core.specs.Shown.{shared_of}
use Rattle.nv_core.proofs.kinds.drop_snapshot.drop_snapshot.Goals as goal

pub returns-clause-turn : goal.returns-clause-turn
returns-clause-turn c r none =
    let old = c.args.shared.now.book.state in
    let new = c.drop_snapshot.new.book.state in
    let s = shared_of c.args.shared.now in
    let told = c.drop_snapshot.result in
    subst (λ (n : ℕ). drop_turn n (drop_tests (pins_of old.snaps n)) s empty_hand r ≡ machine.Ends told (with_book new s) empty_hand)
    c.new-snapshot.ensures (drop_here old new told s r refl none c.new-snapshot.result c.drop_snapshot.ensures.turn)
