use Rattle.std.proofs.Common.{◌≡◌, ℕ, ◌≤◌, ◌||◌, Bool, Ok, arith, false, nat_lt, not, refl, rules}
use Rattle.std.proofs.lemmas.Result.{err_from_is_err_and}
use Rattle.nv_mount_beside.specs.Names.{hidden_name}
use Rattle.nv_mounted.specs.Dialogues.{Ends, Grows}
use Rattle.nv_mounted.proofs.Dialogues.{goes_on, grown, stops}
use Rattle.nv_mounted.proofs.mount.Mount.let_go.Goals as goal

-- neither open nor named
neither : (opens : ℕ) (nameless : Bool) → opens ≤ 0 → not nameless ≡ false
    → (nat_lt 0 opens || not nameless) ≡ false
neither opens nameless few named = let none : opens ≡ 0 = omega arith in rw (none, named) refl

pub returns-in_err-name-clause-had : goal.returns-in_err-name-clause-had
returns-in_err-name-clause-had g c =
    let p = err_from_is_err_and c.from_residual.result c.from_residual.ensures.1 in
    let b = c.args.beside in
    let gone = neither b.opens b.nameless c.if-beside-gt0.false (search rules) in
    rw (gone, p.1, p.2) (
    stops g.C.Core.Tells (Grows (Ends (Ok (hidden_name c.args.number)))) _ _ _ _
    (grown g.C.Core.Tells _ _ _ c.in_err-name.ensures))

pub returns-clause-had : goal.returns-clause-had
returns-clause-had g c =
    let b = c.args.beside in
    let gone = neither b.opens b.nameless c.if-beside-gt0.false (search rules) in
    let done = rw c.unlink.ensures at c.ask_done.ensures in
    rw gone (
    goes_on g.C.Core.Tells (Grows (Ends (Ok (hidden_name c.args.number)))) _ _ _ _
    c.in_ok-name.name _
    (grown g.C.Core.Tells _ _ _ c.in_ok-name.ensures) done)
