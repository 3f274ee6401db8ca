use Rattle.nv_files.proofs.Methods.{never_waits, ok_suits, ok_told, refused_told}
use Rattle.nv_files.proofs.files.Files.call.Goals as goal

pub returns-in-Ok-clause-told : goal.returns-in-Ok-clause-told
returns-in-Ok-clause-told c =
    ok_told c.args.call c.in-Ok.answer c.args.self.now c.call_world.new.self (rw c.in-Ok.is at c.call_world.ensures.whole)

pub returns-in-Ok-clause-suits : goal.returns-in-Ok-clause-suits
returns-in-Ok-clause-suits c =
    ok_suits c.args.call c.in-Ok.answer c.args.self.now c.call_world.new.self c.call_world.ensures.rested
    (rw c.in-Ok.is at c.call_world.ensures.whole)

pub returns-in-Err-Refused-clause-told : goal.returns-in-Err-Refused-clause-told
returns-in-Err-Refused-clause-told c =
    refused_told c.args.call c.in-Err-Refused.fault c.args.self.now c.call_world.new.self
    (rw c.in-Err-Refused.field-0-is at (rw c.in-Err-Refused.is at c.call_world.ensures.whole))

pub unreachable-requires : goal.unreachable-requires
unreachable-requires c =
    never_waits c.args.call c.args.self.now c.call_world.new.self c.call_world.ensures.rested
    (rw c.in-Err-Waits.field-0-is at (rw c.in-Err-Waits.is at c.call_world.ensures.whole))
