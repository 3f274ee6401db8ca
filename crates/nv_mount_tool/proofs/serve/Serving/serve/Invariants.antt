use Rattle.nv_mount_tool.specs.Serve.{IsTimeOf}
use Rattle.nv_mount_tool.proofs.Session.{Session}
use Rattle.nv_mount_tool.proofs.serve.Serving.serve.Given as goal

-- what was read so far is served, and the mount of the last request is left
abbrev pub invariant-loop : goal.invariant-loop
invariant-loop g l =
    Session (IsTimeOf l.fixed) (g.S.Read.remaining l.initial.reader) (g.S.Read.remaining l.reader) l.initial.self l.self l.self.mount
    (g.W.Write.contents l.initial.writer) (g.W.Write.contents l.writer)
