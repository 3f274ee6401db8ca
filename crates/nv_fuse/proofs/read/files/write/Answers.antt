use Rattle.std.proofs.Common.{refl}
use Rattle.std.proofs.lemmas.List.{take_rest}
use Rattle.nv_fuse.specs.Fields.{field}
use Rattle.nv_fuse.specs.Forms.{contents, form}
use Rattle.nv_fuse.proofs.Wholes.{as_told, whole}
use Rattle.nv_fuse.proofs.read.files.write.Goals as goal

pub returns : goal.returns
returns c =
    let body = c.args.body.now in (
      whole (form 16 40 contents) body c.if-body-lt40.false
          (as_told 40 _ (field 16 4 body) c.word.result c.if-body-lt40.false c.if-body-word.false c.word.ensures),
      (
        refl,
        c.long.ensures,
        c.long-2.ensures,
        c.word-2.ensures,
        c.long-3.ensures,
        c.word-3.ensures,
        take_rest body 40,
      ),
    )
