use Rattle.std.proofs.Common.{◌≡◌, ◌∙◌, ℕ, true, [], ap, length, refl, rules, subst, sym}
use Rattle.std.proofs.lemmas.List.{length-map}
use Rattle.std.specs.Prelude.{Err}
use Rattle.nv_cell.specs.Cell.{CellValue}
use Rattle.nv_epoch.specs.SnapList.{pins_of}
use Rattle.nv_machine.specs.SnapshotOrCleaner.{pin_turn}
use Rattle.nv_machine.specs.World as machine
use Rattle.nv_machine.specs.World.{empty_hand, with_book}
use Rattle.nv_steps.specs.OnBook.{IsBefore, once_pinned}
use Rattle.nv_steps.proofs.OtherStates.{numbers_of, pin_ends, pin_moves}
use Rattle.nv_core.specs.Shown.{next_of, shared_of, shown}
use Rattle.nv_core.specs.declared.shared.Shared.{Shared}
use Rattle.nv_core.proofs.kinds.show.pin.Goals as goal

-- the call is before the pin of the snapshot that the book is asked for
before : (snapshot asked : ℕ) (r : machine.Running) → r.next ≡ machine.SnapshotOrCleaner (machine.Pin snapshot) → r.slots ≡ []
    → asked ≡ snapshot → IsBefore (machine.Pin asked) r
before snapshot asked r next slots same =
    record { next = next ∙ ap (λ (n : ℕ). machine.SnapshotOrCleaner (machine.Pin n)) (sym same); slots = slots }

slots_there : (shared : Shared) (inodes : ℕ) → inodes ≡ length shared.cells.items → length (shared_of shared).cells ≡ inodes
slots_there shared inodes is = length-map shared.cells.items (λ (c : CellValue). c.state) ∙ sym is

pub returns-in-Ok-clause-turn : goal.returns-in-Ok-clause-turn
returns-in-Ok-clause-turn c told =
    let old = c.args.shared.now.book.state in
    let new = c.pin.new.book.state in
    let s = shared_of c.args.shared.now in
    let r = shown told c.args.running.now in
    let asked = c.new.result in
    let numbers = numbers_of c.len-inodes.result in
    let counted : c.len-inodes.result ≡ length c.args.shared.now.cells.items = search rules in
    let many = slots_there c.args.shared.now c.len-inodes.result counted in
    let ready = before c.args.snapshot asked r (ap next_of c.requires.next) c.requires.slots c.new.ensures in
    subst (λ (n : ℕ). pin_turn n (pins_of old.snaps n) s empty_hand r ≡ machine.Moves (with_book new s) empty_hand (once_pinned n r c.in-Ok.showing))
    c.new.ensures
    (pin_moves old new s r refl asked numbers ready many (once_pinned asked r c.in-Ok.showing) (c.in-Ok.ensures.turn numbers 0 true r refl ready))
    ∙ ap (λ (step : machine.SnapshotOrCleanerStep). machine.Moves (with_book new s) empty_hand (machine.go_to (machine.SnapshotOrCleaner step) r))
    (sym c.showing_on.ensures.step)

pub returns-in-Err-clause-turn : goal.returns-in-Err-clause-turn
returns-in-Err-clause-turn c told =
    let old = c.args.shared.now.book.state in
    let new = c.pin.new.book.state in
    let s = shared_of c.args.shared.now in
    let r = shown told c.args.running.now in
    let asked = c.new.result in
    let numbers = numbers_of c.len-inodes.result in
    let counted : c.len-inodes.result ≡ length c.args.shared.now.cells.items = search rules in
    let many = slots_there c.args.shared.now c.len-inodes.result counted in
    let ready = before c.args.snapshot asked r (ap next_of c.requires.next) c.requires.slots c.new.ensures in
    subst (λ (n : ℕ). pin_turn n (pins_of old.snaps n) s empty_hand r ≡ machine.Ends (Err c.in-Err.fault) (with_book new s) empty_hand)
    c.new.ensures
    (pin_ends old new s r refl asked numbers ready many (Err c.in-Err.fault) (c.in-Err.ensures.turn numbers 0 true r refl ready))
