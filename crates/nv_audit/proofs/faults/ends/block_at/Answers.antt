use Rattle.std.proofs.Common.{ap, ◌∙◌}
use Rattle.std.specs.Prelude.{option_and_then}
use Rattle.std.specs.Option.{option_copied}
use Rattle.nv_alloc.specs.Block.{block_by}
use Rattle.nv_audit.proofs.faults.ends.block_at.Goals as goal

pub returns-in_err-number : goal.returns-in_err-number
returns-in_err-number c =
    ap option_copied c.from_residual.ensures ∙ ap (option_and_then (block_by c.args.blocks.now)) c.in_err-number.ensures

pub returns : goal.returns
returns c = c.block_of.ensures ∙ ap (option_and_then (block_by c.args.blocks.now)) c.in_ok-number.ensures
