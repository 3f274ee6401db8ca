use Rattle.nv_fuse.proofs.reply.Reply.header.Goals as goal

pub returns : goal.returns
returns c = rw (c.length.ensures, c.rest.ensures.error)
