use Rattle.nv_fuse.proofs.header.Header.read.Goals as goal

pub returns : goal.returns
returns c = record {
  operation = c.word.ensures;
  unique = c.long.ensures;
  node = c.long-2.ensures;
  user = c.word-2.ensures;
  group = c.word-3.ensures;
  process = c.word-4.ensures;
}
