use Rattle.std.proofs.Common.{false, refl}
use Rattle.std.proofs.lemmas.Result.{err_from_is_err_and}
use Rattle.nv_base.specs.declared.node.Kind.TheVariants as kinds
use Rattle.nv_mounted.proofs.Dialogues.{goes_on, stops}
use Rattle.nv_mounted.specs.Makings.{make}
use Rattle.nv_mounted.proofs.mount.Mount.mkdir.Goals as goal

pub returns-in_err-made : goal.returns-in_err-made
returns-in_err-made g c =
    let p = err_from_is_err_and c.from_residual.result c.from_residual.ensures.1 in
    let side = c.args.self.now.side in
    rw (p.1, p.2) (record {
      had =
          stops g.C.Core.Tells
          (make side c.args.now c.args.header.now kinds.Dir c.args.mode c.args.file.now false)
          _ _ _ _ c.in_err-made.ensures.had;
      same = c.in_err-made.ensures.same;
    })

pub returns : goal.returns
returns g c =
    let side = c.args.self.now.side in
    record {
      had =
          goes_on g.C.Core.Tells
          (make side c.args.now c.args.header.now kinds.Dir c.args.mode c.args.file.now false)
          _ _ _ _ (c.in_ok-made.made, c.make.new.self.side) _ c.in_ok-made.ensures.had
          ((cc), refl);
      same = tt;
    }
