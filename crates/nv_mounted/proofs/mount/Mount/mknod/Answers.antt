use Rattle.std.proofs.Common.{◌≡◌, ℕ, ◌==◌, not, false, arith, bit_and, refl}
use Rattle.std.proofs.lemmas.Result.{err_from_is_err_and}
use Rattle.nv_base.specs.declared.node.Kind.TheVariants as kinds
use Rattle.nv_mounted.proofs.Dialogues.{goes_on, stops}
use Rattle.nv_mounted.specs.Makings.{make}
use Rattle.nv_mounted.proofs.mount.Mount.mknod.Goals as goal

-- the bits of a file are those of a file
of_file : (bits : ℕ) → bits ≡ 32768 → not (bits == 32768) ≡ false
of_file bits e = rw e refl

pub returns-in_err-made : goal.returns-in_err-made
returns-in_err-made g c =
    let p = err_from_is_err_and c.from_residual.result c.from_residual.ensures.1 in
    let makes = of_file (bit_and c.args.mode 61440) (omega arith) in
    let side = c.args.self.now.side in
    rw (makes, p.1, p.2) (record {
      had =
          stops g.C.Core.Tells
          (make side c.args.now c.args.header.now kinds.File c.args.mode c.args.file.now false)
          _ _ _ _ c.in_err-made.ensures.had;
      same = c.in_err-made.ensures.same;
    })

pub returns : goal.returns
returns g c =
    let makes = of_file (bit_and c.args.mode 61440) (omega arith) in
    let side = c.args.self.now.side in
    rw (makes) (record {
      had =
          goes_on g.C.Core.Tells
          (make side c.args.now c.args.header.now kinds.File c.args.mode c.args.file.now false)
          _ _ _ _ (c.in_ok-made.made, c.make.new.self.side) _ c.in_ok-made.ensures.had
          ((cc), refl);
      same = tt;
    })
