-- What an id in a run of commits tells of its place.
use Rattle.std.proofs.Common.{◌≡◌, ℕ, ◌+◌, ◌-◌, ◌<◌, ◌≤◌, nat_lt, Bool, true, false, List, [], ◌∷◌, length, get_or, Some, arith, refl, sym, ◌∙◌}
use Rattle.std.specs.Bool.{then_some}
use Rattle.std.specs.Option.{IfSome}
use Rattle.std.proofs.lemmas.Bool.Decides.{nat_tests}
use Rattle.nv_base.specs.declared.numbers.EntryId.{EntryId}
use Rattle.nv_base.specs.Ids.{is_same_id}
use Rattle.nv_entry.specs.declared.item.Entry.{Entry}
use Rattle.nv_entry.specs.Log.{IsLog}
use Rattle.nv_log.specs.Chain.{place_of_id}
use Rattle.nv_log.specs.CommitRun.{IsCommitRun, id_in}
use Rattle.nv_log.specs.declared.commit_run.CommitRun.{CommitRun}
use Rattle.nv_log.proofs.Finding.{placed}

same_self : (a b : EntryId) → a ≡ b → is_same_id a b ≡ true
same_self a b e = rw e (grind (arith, nat_tests))

pub placed_in_run : (es : List Entry) (run : CommitRun) (id : EntryId) (k : ℕ) → IsLog es → IsCommitRun es run
    → run.from ≤ k → k < run.to → id ≡ id_in run k → place_of_id es id ≡ Some k
placed_in_run [] run id k is ids from within e = absurd (omega (arith, ids.0))
placed_in_run (first ∷ es) run id k is ids from within e =
    placed (first ∷ es) id k first is (omega (arith, ids.0))
    (same_self (get_or (first ∷ es) k first).id id (ids.1 k first from within ∙ sym e))

id_is : (run : CommitRun) (id : EntryId) (k : ℕ) → id.commit ≡ run.first + (k - run.from) → id.place ≡ 0 → id ≡ id_in run k
id_is run id k commit place = rw (← commit, ← place) refl

-- the place that an id tells of, where it is one of the run's
pub told_by_run : (es : List Entry) (run : CommitRun) (id : EntryId) (k : ℕ) (b : Bool) → IsLog es → IsCommitRun es run
    → run.from ≤ k → (k < run.to → id.commit ≡ run.first + (k - run.from)) → id.place ≡ 0 → nat_lt k run.to ≡ b
    → IfSome (then_some b k) (λ place. (place < length es) × (place_of_id es id ≡ Some place))
told_by_run es run id k false is ids from commit zero within = tt
told_by_run es run id k true is ids from commit zero within =
    let less : k < run.to = grind (arith, nat_tests) in
    (omega (arith, ids.0), placed_in_run es run id k is ids from less (id_is run id k (commit less) zero))
