use Rattle.std.proofs.Common.{◌≡◌, ◌≤◌, Option}
use Rattle.nv_machine.specs.World.{World}
use Rattle.nv_core.specs.Worlds.{ShowsAny}
use Rattle.std.specs.Io.KnownBytes.{prepend_known}
use Rattle.nv_script.specs.Results.{AtLine}
use Rattle.nv_work.proofs.reading.play_to_fork.Given as goal

abbrev pub invariant-loop-number : goal.invariant-loop-number
invariant-loop-number g l = record {
  first : 1 ≤ l.number;
  number : l.number ≤ 1048577;
  line : (m : Option World)
      × AtLine (g.R.CountedRead.remaining l.fn.reader) (prepend_known l.player.feed (g.R.CountedRead.remaining l.reader))
      (g.W.CountedWrite.contents l.fn.writer) (g.W.CountedWrite.contents l.writer) l.player.outbox l.number m
      × ShowsAny l.player.world m;
  reads : g.R.CountedRead.failed l.reader ≡ g.R.CountedRead.failed l.fn.reader;
  writes : g.W.CountedWrite.failed l.writer ≡ g.W.CountedWrite.failed l.fn.writer;
  same_reader : g.R.CountedRead.place l.reader ≡ g.R.CountedRead.place l.fn.reader;
  same_writer : g.W.CountedWrite.place l.writer ≡ g.W.CountedWrite.place l.fn.writer;
}
