use Rattle.std.proofs.Common.{◌≡◌, length}
use Rattle.nv_script.specs.Lines.{WritesFront}
use Rattle.nv_script.proofs.send.send.Given as goal

abbrev pub invariant-loop-rest : goal.invariant-loop-rest
invariant-loop-rest g l = record {
  sent : WritesFront (g.W.CountedWrite.contents l.initial.writer) (g.W.CountedWrite.contents l.writer) l.bytes l.rest;
  failed : g.W.CountedWrite.failed l.writer ≡ g.W.CountedWrite.failed l.initial.writer;
  same : g.W.CountedWrite.place l.writer ≡ g.W.CountedWrite.place l.initial.writer;
}

abbrev pub decreases-loop-rest : goal.decreases-loop-rest
decreases-loop-rest g l = length l.rest
