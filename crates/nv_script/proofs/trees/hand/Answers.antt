use Rattle.std.proofs.Common.{◌+◌, ◌-◌, ◌^◌, min}
use Rattle.nv_epoch.specs.SnapList.{pins_of}
use Rattle.nv_core.specs.Settled.{snapshot_tree, tree_of}
use Rattle.nv_script.proofs.Handed.{hands_lines, hands_same, snapshot_lines, snapshot_same}
use Rattle.nv_script.proofs.trees.hand.Goals as goal

pub returns-in-Some : goal.returns-in-Some
returns-in-Some g c =
    let same = snapshot_same (λ s. min (g.W.CountedWrite.failed s.writer.now + s.starved) (2 ^ 64 - 1))
    (λ s. record { written = g.W.CountedWrite.contents s.writer.now; gathered = s.outbox.now }) (λ s. s.has_begun) (λ s. s.fault)
    (λ s. s.writer.ghost_name) (λ s. s.outbox.ghost_name) (λ s. g.W.CountedWrite.failed s.writer.now) (λ s. g.W.CountedWrite.place s.writer.now)
    c.snap_tree_to.result c.args.lines.now c.snap_tree_to.new.sink c.snap_tree_to.ensures.some in
    record {
      same_outbox = same.1;
      same_writer = same.0;
      lines = λ m shown. rw c.in-Some.is
          (snapshot_lines (λ s. min (g.W.CountedWrite.failed s.writer.now + s.starved) (2 ^ 64 - 1))
          (λ s. record { written = g.W.CountedWrite.contents s.writer.now; gathered = s.outbox.now }) (λ s. s.has_begun) (λ s. s.fault)
          (λ s. s.writer.ghost_name) (λ s. s.outbox.ghost_name) (λ s. g.W.CountedWrite.failed s.writer.now) (λ s. g.W.CountedWrite.place s.writer.now)
          (pins_of m.shared.book.snaps c.in-Some.snapshot) c.snap_tree_to.result c.args.lines.now c.snap_tree_to.new.sink
          (snapshot_tree m c.in-Some.snapshot) c.requires.begun (c.snap_tree_to.ensures.nodes m shown));
      failed = same.2;
      same = same.3;
    }

pub returns-in-None : goal.returns-in-None
returns-in-None g c =
    let same = hands_same (λ s. min (g.W.CountedWrite.failed s.writer.now + s.starved) (2 ^ 64 - 1))
    (λ s. record { written = g.W.CountedWrite.contents s.writer.now; gathered = s.outbox.now }) (λ s. s.has_begun) (λ s. s.fault)
    (λ s. s.writer.ghost_name) (λ s. s.outbox.ghost_name) (λ s. g.W.CountedWrite.failed s.writer.now) (λ s. g.W.CountedWrite.place s.writer.now)
    c.tree_to.result c.args.lines.now c.tree_to.new.sink c.tree_to.ensures.some.0 c.tree_to.ensures.some.1 in
    record {
      same_outbox = same.1;
      same_writer = same.0;
      lines = λ m shown. rw c.in-None.is
          (hands_lines (λ s. min (g.W.CountedWrite.failed s.writer.now + s.starved) (2 ^ 64 - 1))
          (λ s. record { written = g.W.CountedWrite.contents s.writer.now; gathered = s.outbox.now }) (λ s. s.has_begun) (λ s. s.fault)
          (λ s. s.writer.ghost_name) (λ s. s.outbox.ghost_name) (λ s. g.W.CountedWrite.failed s.writer.now) (λ s. g.W.CountedWrite.place s.writer.now)
          c.tree_to.result c.args.lines.now c.tree_to.new.sink (tree_of m) c.requires.begun (c.tree_to.ensures.nodes m shown));
      failed = same.2;
      same = same.3;
    }
