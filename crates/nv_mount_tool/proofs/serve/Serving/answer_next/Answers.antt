use Rattle.std.proofs.Common.{◌≡◌, ◌∙◌, ◌≤◌, ◌++◌, ℕ, List, rules, drop, length, take, ap, refl, subst, sym}
use Rattle.std.specs.Io.KnownBytes.{Appends}
use Rattle.std.proofs.Math.Seq.{drop-append_seam}
use Rattle.nv_mount_tool.proofs.serve.Serving.answer_next.Goals as goal

pub returns-clause-ok : goal.returns-clause-ok
returns-clause-ok g c =
    let request = c.in-Whole.request.now in
    let behind = c.in-Whole.behind.now in
    let whole = c.in-Whole.ensures in
    let answered = c.in_ok-answer-in-Whole.ensures in
    let reply = c.answer.new.reply.items in
    let bytes : c.as_slice.result.now ≡ reply = search rules in
    let left : c.skip.new.self ≡ behind = c.skip.ensures ∙ (ap (drop (length request)) (sym whole.0) ∙ drop-append_seam request behind) in
    record {
      one = record {
        request = request;
        now = c.args.now;
        outcome = answered.0;
        reply = reply;
        taken = c.send-taken.result;
      };
      time = refl;
      served = record {
        between = c.answer.new.mount;
        answered = answered.1;
        cleaned = search rules;
        reply = answered.2;
        taken = subst (λ (v : List ℕ). c.send-taken.result ≤ length v) bytes c.send-taken.ensures.most;
      };
      cut = sym whole.0 ∙ ap (λ v. request ++ v) (sym left);
      replies = subst (λ (v : List ℕ). Appends (g.W.Write.contents c.args.writer.now) (g.W.Write.contents c.send-taken.new.writer) (take c.send-taken.result v)) bytes c.send-taken.ensures.written;
      answered = search rules;
      dropped = search rules;
    }
