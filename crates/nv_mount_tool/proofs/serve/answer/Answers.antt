use Rattle.std.proofs.Common.{ℕ, subst}
use Rattle.nv_mount_tool.specs.Serve.{Replies}
use Rattle.nv_mount_tool.proofs.Serving.{on_ok}
use Rattle.nv_mount_tool.proofs.serve.answer.Goals as goal

pub returns : goal.returns
returns c =
    let outcome = c.answer-outcome.result in
    let reply = c.put_reply.new.out.items in
    on_ok c.put_reply.result _ _ (λ told. (
      outcome,
      record {
        request = c.in-Some.request;
        is_read = record {
          whole = c.requires;
          header = c.in-Some.ensures.header;
          operation = c.in-Some.ensures.operation;
        };
        answered = c.answer-outcome.ensures;
      },
      subst (λ (unique : ℕ). Replies unique outcome reply) c.in-Some.ensures.header.unique told,
    )) c.put_reply.ensures
