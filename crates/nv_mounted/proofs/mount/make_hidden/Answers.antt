use Rattle.std.proofs.Common.{Ok, inr, refl}
use Rattle.nv_mounted.specs.NewMounts.{hidden_mode}
use Rattle.nv_mounted.proofs.Dialogues.{told_is}
use Rattle.nv_mounted.proofs.mount.make_hidden.Goals as goal

pub returns : goal.returns
returns g c =
    let mode = told_is (Ok hidden_mode) c.in_ok-mode.mode hidden_mode c.in_ok-mode.ensures refl in
    inr (rw (c.root-dir.ensures, c.in_ok-name.ensures, mode) at c.ask_handle.ensures)
