use Rattle.std.proofs.Common.{◌≡◌, ◌∙◌, ap, ap₂, codes, false, rules}
use Rattle.clap.specs.Words.{rule_of, with_rule}
use Rattle.clap.specs.declared.builder.value_parser.ValueParser.TheVariants.{Unsigned}
use Rattle.nv_mount_tool.specs.CommandLine.{flag_rule, number_rule}
use Rattle.nv_mount_tool.proofs.command_line.described.Goals as goal

pub returns-clause-ok : goal.returns-clause-ok
returns-clause-ok c =
    let to_blocks : c.range.result ≡ Unsigned 2 1048576 = simp (c.value_parser.ensures, c.new.ensures.start, c.new.ensures.end, c.new.ensures.exhausted) at c.range.ensures in
    let to_inodes : c.range-2.result ≡ Unsigned 1 65536 = simp (c.value_parser-2.ensures, c.new-2.ensures.start, c.new-2.ensures.end, c.new-2.ensures.exhausted) at c.range-2.ensures in
    let to_snaps : c.range-3.result ≡ Unsigned 1 1024 = simp (c.value_parser-3.ensures, c.new-3.ensures.start, c.new-3.ensures.end, c.new-3.ensures.exhausted) at c.range-3.ensures in
    let to_now : c.range-4.result ≡ Unsigned 0 9223372036 = simp (c.value_parser-4.ensures, c.new-4.ensures.start, c.new-4.ensures.end, c.new-4.ensures.exhausted) at c.range-4.ensures in
    let blocks : rule_of c.number-blocks.result ≡ number_rule (codes "blocks") (Unsigned 2 1048576) = c.number-blocks.ensures.rule ∙ ap (number_rule (codes "blocks")) to_blocks in
    let inodes : rule_of c.number-inodes.result ≡ number_rule (codes "inodes") (Unsigned 1 65536) = c.number-inodes.ensures.rule ∙ ap (number_rule (codes "inodes")) to_inodes in
    let snaps : rule_of c.number-snaps.result ≡ number_rule (codes "snaps") (Unsigned 1 1024) = c.number-snaps.ensures.rule ∙ ap (number_rule (codes "snaps")) to_snaps in
    let now : rule_of c.number-now.result ≡ number_rule (codes "now") (Unsigned 0 9223372036) = c.number-now.ensures.rule ∙ ap (number_rule (codes "now")) to_now in
    let audit : rule_of c.help-audit.result ≡ flag_rule (codes "audit") = search rules in
    let local : c.help-audit.result.global ≡ false = search rules in
    c.in_ok-command.ensures.shape local
    ∙ ap₂ with_rule (c.in_ok-arg-4.ensures.shape c.number-now.ensures.plain
    ∙ ap₂ with_rule (c.in_ok-arg-3.ensures.shape c.number-snaps.ensures.plain
    ∙ ap₂ with_rule (c.in_ok-arg-2.ensures.shape c.number-inodes.ensures.plain
    ∙ ap₂ with_rule (c.in_ok-arg.ensures.shape c.number-blocks.ensures.plain
    ∙ ap₂ with_rule c.in_ok-program.ensures blocks) inodes) snaps) now) audit
