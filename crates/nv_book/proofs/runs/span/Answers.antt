use Rattle.std.proofs.Common.{◌≡◌, ◌+◌, ◌∷◌, List, arith, ap, rules, slice_index, ◌∙◌}
use Rattle.std.specs.List.{sum_by}
use Rattle.std.proofs.lemmas.List.Sums.{sum_by-cons}
use Rattle.nv_book.specs.declared.run.RecordRun.{RecordRun}
use Rattle.nv_book.specs.Manifests.{snapshots}
use Rattle.nv_book.specs.Records.{is_held_by}
use Rattle.nv_book.specs.Runs.{pages_of, pages_where}
use Rattle.nv_book.proofs.Spans.{pages-of-first, room-for-less}
use Rattle.nv_book.proofs.runs.span.Goals as goal

-- the blocks of the run at hand and of those behind it
pages-left : (rs : List RecordRun) (r : RecordRun) (rest : List RecordRun) → rs ≡ r ∷ rest →
    sum_by pages_of rs ≡ pages_of r + sum_by pages_of rest
pages-left rs r rest is = ap (sum_by pages_of) is ∙ sum_by-cons pages_of r rest

pub add-requires-clause-room : goal.add-requires-clause-room
add-requires-clause-room c =
    let left : c.loop-run.run-iterator ≡ c.in-Some.run'.now ∷ c.next.new.self = search rules in
    room-for-less (pages_of c.in-Some.run'.now) (omega (arith, pages-left _ _ _ left))
    (c.loop-run.invariant.room 0 (room-for-less (sum_by pages_of c.args.list.now + 0) (omega arith) c.requires.room))

pub loop-run-preserved : goal.loop-run-preserved
loop-run-preserved c =
    let left : c.loop-run.run-iterator ≡ c.in-Some.run'.now ∷ c.next.new.self = search rules in
    record {
      can = search rules;
      finite = search rules;
      room = λ more room. c.add.ensures.room (sum_by pages_of c.next.new.self + more)
          (room-for-less _ (omega (arith, pages-left _ _ _ left)) (c.loop-run.invariant.room more room));
      held = λ place in'.
          let holds = is_held_by (slice_index (snapshots c.args.manifests.now) place) in
          let first = ap (pages_where holds) left ∙ pages-of-first holds c.in-Some.run'.now c.next.new.self in
          omega (arith, first, c.add.ensures.held place in', c.loop-run.invariant.held place in');
    }

pub returns-clause-room : goal.returns-clause-room
returns-clause-room c more room = room-for-less more (omega arith) (c.loop-run.invariant.room more room)
