use Rattle.std.proofs.Common.{◌≡◌, ◌∙◌, false, sym}
use Rattle.nv_calls.specs.declared.call.Call.TheVariants as calls
use Rattle.nv_mounted.specs.Asks.{ask_done}
use Rattle.nv_mounted.specs.Talks.{is_open_file}
use Rattle.nv_mounted.proofs.Dialogues.{unchanged}
use Rattle.nv_mounted.proofs.mount.Mount.take_away.Goals as goal

pub returns : goal.returns
returns g c =
    let other : is_open_file c.args.self.now.side c.args.handle.now c.args.shape ≡ false =
    sym c.is_open_file.ensures ∙ c.if-is_open_file.false in
    let done = rw c.unlink.ensures at c.ask_done.ensures in
    rw other (unchanged g.C.Core.Tells (ask_done (calls.Unlink c.args.dir.now c.args.name)) _ _ _ _
    done)
