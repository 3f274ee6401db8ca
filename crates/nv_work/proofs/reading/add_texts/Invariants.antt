use Rattle.std.proofs.Common.{◌≡◌, ◌++◌, map, take}
use Rattle.std.specs.List.{concat}
use Rattle.nv_script.specs.Lines.{WritesFront}
use Rattle.nv_work.proofs.reading.add_texts.Given as goal

abbrev pub invariant-loop-text : goal.invariant-loop-text
invariant-loop-text g l = record {
  told : WritesFront (g.W.CountedWrite.contents l.fn.writer) (g.W.CountedWrite.contents l.writer)
      (l.fn.player.outbox ++ concat (map (λ text. text.items) (take l.text-index l.text-items))) l.player.outbox;
  world : l.player.world ≡ l.fn.player.world;
  writes : g.W.CountedWrite.failed l.writer ≡ g.W.CountedWrite.failed l.fn.writer;
  same_writer : g.W.CountedWrite.place l.writer ≡ g.W.CountedWrite.place l.fn.writer;
}
