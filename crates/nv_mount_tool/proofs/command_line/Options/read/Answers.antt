use Rattle.std.proofs.Common.{◌≡◌, ◌∙◌, List, ap, map, sym}
use Rattle.clap.specs.Words.{App, Text, app_of, fault_of, is_simple, is_simple_and_free, matches_of}
use Rattle.nv_mount_tool.specs.CommandLine.{command_line, options_of}
use Rattle.nv_mount_tool.proofs.CommandLine.{is_free_line, is_simple_line}
use Rattle.nv_mount_tool.proofs.command_line.Options.read.Goals as goal

pub returns-in-Ok-clause-ok : goal.returns-in-Ok-clause-ok
returns-in-Ok-clause-ok g c =
    let words : List Text = map g.S.AsStr.text c.args.words.now in
    let line : app_of c.in_ok-described.field-0 ≡ command_line = c.in_ok-described.ensures.ok in
    c.options_in.ensures
    ∙ ap options_of ((c.in-Ok.ensures.matches (ap is_simple line ∙ is_simple_line)).0 ∙ ap (λ (a : App). matches_of a words) line)

pub returns-in-Ok-clause-kinds : goal.returns-in-Ok-clause-kinds
returns-in-Ok-clause-kinds g c =
    let words : List Text = map g.S.AsStr.text c.args.words.now in
    let line : app_of c.in_ok-described.field-0 ≡ command_line = c.in_ok-described.ensures.ok in
    sym (ap (λ (a : App). fault_of a words) line) ∙ c.in-Ok.ensures.kinds (ap is_simple_and_free line ∙ is_free_line)
