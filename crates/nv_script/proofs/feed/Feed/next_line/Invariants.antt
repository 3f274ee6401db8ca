use Rattle.std.proofs.Common.{◌≡◌, ◌≤◌, ◌-◌, length}
use Rattle.std.specs.List.{Contains}
use Rattle.std.specs.Vec.{vec_capacity}
use Rattle.std.specs.Io.KnownBytes.{prepend_known, Consumes}
use Rattle.nv_script.specs.Lines.{IsLine}
use Rattle.nv_script.proofs.feed.Feed.next_line.Given as goal

abbrev pub invariant-loop-self : goal.invariant-loop-self
invariant-loop-self g l = record {
  room : 4096 ≤ vec_capacity l.line;
  line : IsLine l.line.items;
  taken : Consumes (prepend_known l.initial.self (g.R.CountedRead.remaining l.initial.reader))
      (prepend_known l.self (g.R.CountedRead.remaining l.reader)) l.line.items;
  there : Contains l.initial.self 10 → Contains l.self 10;
  failed : g.R.CountedRead.failed l.reader ≡ g.R.CountedRead.failed l.initial.reader;
  same : g.R.CountedRead.place l.reader ≡ g.R.CountedRead.place l.initial.reader;
}

abbrev pub decreases-loop-self : goal.decreases-loop-self
decreases-loop-self g l = 4096 - length l.line.items
