use Rattle.std.proofs.Common.{◌∙◌, ℕ, ◌≤◌, List, ap, arith, slice_index}
use Rattle.std.proofs.lemmas.List.{length_push}
use Rattle.std.proofs.lemmas.List.Elements.{All-push}
use Rattle.std.proofs.lemmas.List.Sums.{sum_by_push}
use Rattle.nv_sessions.specs.Sessions.{SessionValue}
use Rattle.nv_sessions.proofs.gather.gather_sessions.Goals as goal

pub loop-session-preserved : goal.loop-session-preserved
loop-session-preserved g c =
    let i = c.loop-session.invariant in
    let session = c.in-Some.session in
    let seat = c.into_seat-seat.ensures in
    let one = length_push c.loop-session.yielded session in
    record {
      parts = omega (arith, i.parts, c.merge.ensures.parts, seat.parts.0, one);
      amount = omega (
        arith,
        i.amount,
        c.merge.ensures.amount,
        seat.commits,
        sum_by_push (λ (s : SessionValue). s.commits) c.loop-session.yielded session,
      );
      snap_parts = omega (arith, i.snap_parts, c.merge-in-loop-session.ensures.parts, seat.snapped.0, one);
      snap_amount = omega (
        arith,
        i.snap_amount,
        c.merge-in-loop-session.ensures.amount,
        seat.snapped.1,
        sum_by_push (λ (s : SessionValue). s.snapped) c.loop-session.yielded session,
      );
      block_parts = omega (arith, i.block_parts, c.merge-in-loop-session-2.ensures.parts, seat.parts.1, one);
      block_amount = omega (arith, i.block_amount, c.merge-in-loop-session-2.ensures.amount);
      before = λ n. let was = i.before n in let more = c.join.ensures.mine n in omega (arith, was, more);
      seen = All-push (λ (s : SessionValue). (n : ℕ) → slice_index s.seen n ≤ slice_index c.join.new.self n)
          c.loop-session.yielded session
          (λ k d lt n. let was = i.seen k d lt n in let more = c.join.ensures.mine n in omega (arith, was, more))
          (λ n. let same = ap (λ (xs : List ℕ). slice_index xs n) (c.into_notes.ensures ∙ seat.seen) in let more = c.join.ensures.other n in omega (arith, same, more));
    }
