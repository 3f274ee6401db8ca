use Rattle.std.specs.Prelude.{◌≡◌, [], length}
use Rattle.nv_mount_answers.specs.declared.kept.Time.{Time}
use Rattle.nv_mount_tool.specs.Serve.{Serves}
use Rattle.nv_mount_tool.proofs.serve.Serving.answer_all.Given as goal

-- what was answered so far is served, and the mount of the last request is left
abbrev pub invariant-loop : goal.invariant-loop
invariant-loop g l =
    Serves (λ (time : Time). time ≡ l.now) [] l.initial.self l.self l.self.mount (g.W.Write.contents l.initial.writer)
    (g.W.Write.contents l.writer)

-- each answer takes a request away
abbrev pub decreases-loop : goal.decreases-loop
decreases-loop g l = length l.self.stream
