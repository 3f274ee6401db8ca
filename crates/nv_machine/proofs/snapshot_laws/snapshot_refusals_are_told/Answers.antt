use Rattle.nv_machine.proofs.SnapRefusals.{replies_told}
use Rattle.nv_machine.proofs.SnapRuns.{refusals_told}
use Rattle.nv_machine.proofs.snapshot_laws.snapshot_refusals_are_told.Goals as goal

pub returns-clause-tests : goal.returns-clause-tests
returns-clause-tests c g start records events kind is_start = refusals_told g start records events kind is_start

pub returns-clause-replies : goal.returns-clause-replies
returns-clause-replies c g start records events actor granted r kind is_start is next tested =
    replies_told g start records events actor granted r kind is_start is next tested
