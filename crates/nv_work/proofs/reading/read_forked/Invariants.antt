use Rattle.std.proofs.Common.{◌≡◌, ◌≤◌, ◌+◌, [], List, Option, Some, ℕ, vec_len}
use Rattle.nv_core.specs.Worlds.{ShowsAny}
use Rattle.std.specs.Io.KnownBytes.{prepend_known}
use Rattle.nv_work.specs.Taken.{lists_of}
use Rattle.nv_work.specs.Threads.{calls_in, shares_of}
use Rattle.nv_work.specs.Work.{Fork}
use Rattle.nv_work.specs.Working.{AtFork}
use Rattle.nv_work.proofs.reading.read_forked.Given as goal

abbrev pub invariant-loop-number : goal.invariant-loop-number
invariant-loop-number g l = record {
  number : l.number ≤ 1048577;
  count : vec_len l.lines.threads ≡ l.fn.threads;
  line : (input old : Option (List ℕ)) (f : Fork)
      → AtFork input (prepend_known l.fn.player.feed (g.R.CountedRead.remaining l.fn.reader)) old
      (g.W.CountedWrite.contents l.fn.writer) l.fn.player.outbox (l.fn.fork + 1) f
      → (f.behind ≡ []) → ShowsAny l.fn.player.world (Some f.world)
      → (h : Fork) × AtFork input (prepend_known l.player.feed (g.R.CountedRead.remaining l.reader)) old
      (g.W.CountedWrite.contents l.writer) l.player.outbox l.number h
      × ShowsAny l.player.world (Some h.world) × (lists_of l.lines ≡ shares_of l.fn.threads (calls_in h.behind));
  reads : g.R.CountedRead.failed l.reader ≡ g.R.CountedRead.failed l.fn.reader;
  writes : g.W.CountedWrite.failed l.writer ≡ g.W.CountedWrite.failed l.fn.writer;
  same_reader : g.R.CountedRead.place l.reader ≡ g.R.CountedRead.place l.fn.reader;
  same_writer : g.W.CountedWrite.place l.writer ≡ g.W.CountedWrite.place l.fn.writer;
}
