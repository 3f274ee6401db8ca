use Rattle.std.proofs.Common.{◌≡◌, ◌∙◌, ◌+◌, None, ap, refl, subst, sym, true}
use Rattle.std.specs.Prelude.{Err}
use Rattle.nv_base.specs.declared.numbers.Handle.{Handle}
use Rattle.nv_calls.specs.AllCalls.{look_refusal, looked}
use Rattle.nv_calls.specs.Updates.{call_of}
use Rattle.nv_calls.specs.declared.call.Call.{Call}
use Rattle.nv_machine.specs.Kinds.{look_tests, look_turn, seen_at}
use Rattle.nv_machine.specs.Reads.{copies}
use Rattle.nv_machine.specs.Sequence.{directories}
use Rattle.nv_machine.specs.Step.{handle_at}
use Rattle.nv_machine.specs.World as machine
use Rattle.nv_machine.specs.World.{HandState, empty_hand, owner_at}
use Rattle.nv_steps.specs.Reading.{once_looked}
use Rattle.nv_steps.proofs.Looks.{IsCellOf}
use Rattle.nv_core.specs.Shown.{next_of, shared_of, shown, slots_in}
use Rattle.nv_core.specs.GhostCalls.{looking_at}
use Rattle.nv_core.proofs.LentCells.{numbers_in}
use Rattle.nv_core.proofs.LentReads.{IsThere, in_range, read_end, read_move}
use Rattle.nv_core.proofs.Looks.{call_by, nobody}
use Rattle.nv_core.proofs.kinds.look.look.Goals as goal

pub returns-in-Ok-clause-turn : goal.returns-in-Ok-clause-turn
returns-in-Ok-clause-turn c told is =
    let shared = c.args.shared.now in
    let s = shared_of shared in
    let home = c.requires.home in
    let wide = c.requires.wide in
    let place = c.args.place in
    let r = shown told c.args.running.now in
    let cell = c.cell-cell.result in
    let found = c.in-Ok.looked in
    let slots = slots_in c.in-Ok.slots in
    let by = call_by c.args.running.now.request c.args.running.now.owed told.call c.update-update.result.now c.update-update.ensures is in
    let dir = handle_at (directories (call_of c.update-update.result.now by.0)) place in
    let at : c.directory-ino.result ≡ dir = c.directory-ino.ensures by.0 in
    let there : IsThere shared home wide dir.ino (λ cell. cell.now) cell =
    subst (λ (d : Handle). IsThere shared home wide d.ino (λ cell. cell.now) cell) at c.cell-cell.ensures.range in
    let lent : IsCellOf s dir.ino (λ cell. cell.now) cell =
    subst (λ (d : Handle). IsCellOf s d.ino (λ cell. cell.now) cell) at c.cell-cell.ensures.cell in
    let free : owner_at s dir.ino ≡ None =
    subst (λ (d : Handle). owner_at s d.ino ≡ None) at
    (nobody (owner_at s c.directory-ino.result.ino) c.is_locked.result c.is_locked.ensures c.if-is_locked.false) in
    subst (λ (h : HandState). look_turn (owner_at s (handle_at (directories told.call) place).ino)
    (look_tests place (look_refusal (copies s) told.call)) (seen_at (directories told.call) place (looked (copies s) told.call) r.looked)
    place s h r ≡ machine.Moves s h (record r { looked = found; slots = slots; next = next_of c.looking-next.result }))
    (sym c.requires.empty)
    (read_move shared home wide dir.ino (λ cell. cell.now) cell there lent free (machine.Look place) true r empty_hand empty_hand
    (ap next_of c.requires.next) (once_looked place found slots r)
    (c.in-Ok.ensures.turn (numbers_in shared) 0 true by.0 r (ap next_of c.requires.next) by.1 refl (sym c.inodes.ensures)
    (in_range shared home wide dir.ino (λ cell. cell.now) cell there))
    ∙ ap (λ (n : machine.Next). machine.Moves s empty_hand (record r { looked = found; slots = slots; next = n }))
    (ap (λ (x : Call). looking_at (place + 1) slots x) by.1 ∙ sym (c.looking-next.ensures.next by.0)))

pub returns-in-Err-clause-turn : goal.returns-in-Err-clause-turn
returns-in-Err-clause-turn c told is =
    let shared = c.args.shared.now in
    let s = shared_of shared in
    let home = c.requires.home in
    let wide = c.requires.wide in
    let place = c.args.place in
    let r = shown told c.args.running.now in
    let cell = c.cell-cell.result in
    let by = call_by c.args.running.now.request c.args.running.now.owed told.call c.update-update.result.now c.update-update.ensures is in
    let dir = handle_at (directories (call_of c.update-update.result.now by.0)) place in
    let at : c.directory-ino.result ≡ dir = c.directory-ino.ensures by.0 in
    let there : IsThere shared home wide dir.ino (λ cell. cell.now) cell =
    subst (λ (d : Handle). IsThere shared home wide d.ino (λ cell. cell.now) cell) at c.cell-cell.ensures.range in
    let lent : IsCellOf s dir.ino (λ cell. cell.now) cell =
    subst (λ (d : Handle). IsCellOf s d.ino (λ cell. cell.now) cell) at c.cell-cell.ensures.cell in
    let free : owner_at s dir.ino ≡ None =
    subst (λ (d : Handle). owner_at s d.ino ≡ None) at
    (nobody (owner_at s c.directory-ino.result.ino) c.is_locked.result c.is_locked.ensures c.if-is_locked.false) in
    subst (λ (h : HandState). look_turn (owner_at s (handle_at (directories told.call) place).ino)
    (look_tests place (look_refusal (copies s) told.call)) (seen_at (directories told.call) place (looked (copies s) told.call) r.looked)
    place s h r ≡ machine.Ends (Err c.in-Err.fault) s h)
    (sym c.requires.empty)
    (read_end shared home wide dir.ino (λ cell. cell.now) cell there lent free (machine.Look place) true r empty_hand empty_hand
    (ap next_of c.requires.next) (Err c.in-Err.fault)
    (c.in-Err.ensures.turn (numbers_in shared) 0 true by.0 r (ap next_of c.requires.next) by.1 refl (sym c.inodes.ensures)
    (in_range shared home wide dir.ino (λ cell. cell.now) cell there)))
