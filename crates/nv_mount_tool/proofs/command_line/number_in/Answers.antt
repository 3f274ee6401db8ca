use Rattle.std.specs.Str.Parse.{ExplainsUnsignedError, HasUnsignedDigitsIfOk, ParsesUnsigned}
use Rattle.clap.specs.Words.{found_of}
use Rattle.nv_mount_tool.proofs.Texts.{number_read}
use Rattle.nv_mount_tool.proofs.command_line.number_in.Goals as goal

pub returns : goal.returns
returns c =
    number_read (λ bs r. ParsesUnsigned 64 10 bs r × ExplainsUnsignedError 10 bs r × HasUnsignedDigitsIfOk bs r) (λ u x h. h.0) (found_of c.args.matches.now)
    c.args.name.now c.get_one.result c.get_one.ensures.none c.get_one.ensures.value
