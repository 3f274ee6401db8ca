use Rattle.std.proofs.Common.{◌≡◌, ◌≤◌, Option}
use Rattle.nv_machine.specs.World.{World}
use Rattle.nv_core.specs.Worlds.{ShowsAny}
use Rattle.std.specs.Io.KnownBytes.{prepend_known}
use Rattle.nv_script.specs.Results.{AtLineBy}
use Rattle.nv_script.specs.Trace.{head_by}
use Rattle.nv_script.proofs.player.Player.play_lines.Given as goal

abbrev pub invariant-loop-number : goal.invariant-loop-number
invariant-loop-number g l = record {
  number : l.number ≤ 1048577;
  line : (m : Option World)
      × AtLineBy g.T.LineTeller.form (head_by g.T.LineTeller.form l.echo) (g.R.CountedRead.remaining l.fn.reader) (prepend_known l.self.feed (g.R.CountedRead.remaining l.reader))
      (g.W.CountedWrite.contents l.fn.writer) (g.W.CountedWrite.contents l.writer) l.self.outbox l.number m
      × ShowsAny l.self.world m;
  reads : g.R.CountedRead.failed l.reader ≡ g.R.CountedRead.failed l.fn.reader;
  writes : g.W.CountedWrite.failed l.writer ≡ g.W.CountedWrite.failed l.fn.writer;
  same_reader : g.R.CountedRead.place l.reader ≡ g.R.CountedRead.place l.fn.reader;
  same_writer : g.W.CountedWrite.place l.writer ≡ g.W.CountedWrite.place l.fn.writer;
}
