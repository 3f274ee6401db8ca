use Rattle.std.proofs.Common.{◌∙◌, ap, false, sym}
use Rattle.std.specs.Option.{option_map_or}
use Rattle.clap.specs.Words.{found_of}
use Rattle.nv_mount_tool.proofs.Texts.{flag_read}
use Rattle.nv_mount_tool.proofs.command_line.flag_in.Goals as goal

pub returns-in-Some : goal.returns-in-Some
returns-in-Some c =
    sym (ap (λ o. option_map_or (λ b. b) o false) c.in-Some.is)
    ∙ flag_read _ (found_of c.args.matches.now) c.args.name.now c.get_one.result c.get_one.ensures.none c.get_one.ensures.value

pub returns-in-None : goal.returns-in-None
returns-in-None c =
    sym (ap (λ o. option_map_or (λ b. b) o false) c.in-None.is)
    ∙ flag_read _ (found_of c.args.matches.now) c.args.name.now c.get_one.result c.get_one.ensures.none c.get_one.ensures.value
