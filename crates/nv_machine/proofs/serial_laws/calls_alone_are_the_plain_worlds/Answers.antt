use Rattle.nv_machine.proofs.AloneRefusals.{refused_for}
use Rattle.nv_machine.proofs.AloneRuns.{refused_alone, told_alone}
use Rattle.nv_machine.proofs.serial_laws.calls_alone_are_the_plain_worlds.Goals as goal

pub returns-clause-answered : goal.returns-clause-answered
returns-clause-answered c g start records before actor call grants granted r told is_start plain started is reply =
    told_alone g start records is_start actor call before started grants granted r told plain is reply

pub returns-clause-refused : goal.returns-clause-refused
returns-clause-refused c g start records before actor call grants granted r fault is_start plain started is reply =
    refused_for g start records before actor call grants granted r fault is_start plain started is reply

pub returns-clause-kept : goal.returns-clause-kept
returns-clause-kept c g start records before actor call grants granted r fault is_start started is reply handle =
    refused_alone g start records is_start actor call before started grants granted r fault is reply handle
