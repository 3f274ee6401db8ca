use Rattle.std.proofs.Common.{refl}
use Rattle.nv_fuse.specs.Forms.{form, nothing}
use Rattle.nv_fuse.proofs.Wholes.{whole}
use Rattle.nv_fuse.proofs.read.nodes.set_attributes.Goals as goal

pub returns : goal.returns
returns c = (
  whole (form 4 88 nothing) c.args.body.now c.if-body-lt88.false refl,
  (
    refl,
    c.word.ensures,
    c.long.ensures,
    c.long-2.ensures,
    c.long-3.ensures,
    c.long-4.ensures,
    c.long-5.ensures,
    c.long-6.ensures,
    c.word-2.ensures,
    c.word-3.ensures,
    c.word-4.ensures,
    c.word-5.ensures,
    c.word-6.ensures,
    c.word-7.ensures,
  ),
)
