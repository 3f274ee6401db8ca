-- A commit that opens its journal or publishes: what it is given, and how far it is after it.
use Rattle.std.proofs.Common.{◌≡◌, ℕ, ◌+◌, ◌<◌, ◌≤◌, ◌⊎◌, inl, inr, nat_lt, Bool, true, false, true≢false, List, length, map, Option, None, Some, arith, refl, ap, sym, ◌∙◌, subst, []}
use Rattle.std.specs.Prelude.{is_some, slice_index_or}
use Rattle.std.proofs.lemmas.Bool.{ltb-false, ltb-true}
use Rattle.nv_book.specs.Book.{BookValue, with_journal}
use Rattle.nv_cell.specs.Cell.{CellValue, KeepsAppendRoom, fresh_of, killed_by, log_of, published}
use Rattle.nv_cell.specs.Effects.{items_of}
use Rattle.nv_cell.specs.Killed.{AreKilled}
use Rattle.nv_cell.specs.Weights.{weights_in}
use Rattle.nv_calls.specs.CanCommit.{CanBePublished}
use Rattle.nv_calls.specs.Cells.{AreCells, OnlyAt, state_at, value_at}
use Rattle.nv_calls.specs.Commit.{CommitValue, NotesNext, after_open, after_publish, to_publish}
use Rattle.nv_calls.specs.PlanByPlan.{AppendsTo, PublishesTo}
use Rattle.nv_calls.specs.Progress.{is_open}
use Rattle.nv_calls.specs.Ready.{ArePlaced, CellCommitValue, old_tails}
use Rattle.nv_calls.specs.Retiring.{part_in}
use Rattle.nv_calls.proofs.PublishAll as publish_all
use Rattle.nv_core.specs.Committing.{IsAppending, IsCommitting, IsPublishing, IsRetiring, first_of, noted_by}
use Rattle.nv_core.proofs.Opens.{open_way}
use Rattle.nv_core.proofs.Publishes.{publish_way}
use Rattle.nv_core.proofs.Stages.{OpensNext, PublishesNext, none_there}
use Rattle.nv_core.proofs.Phases.{append_counts, cells_are_full, noted_field, noted_one, noted_two, plans_placed, publish_counts, retire_counts, shelf_one, shelf_two, start_can, start_journal, start_noted, start_open, start_placed, start_plans}

-- ---- opening

module _ (cpu : ℕ) (now : List (ℕ × CellValue)) (book : BookValue) (commit : CommitValue) (w : IsCommitting cpu now book commit) where
  module _ (next : OpensNext commit) where
    pub opening : IsAppending w.begin now book commit
    opening = go w.phase where
      go : IsAppending w.begin now book commit ⊎ (IsPublishing w.begin cpu now book commit ⊎ IsRetiring w.begin cpu now book commit)
          → IsAppending w.begin now book commit
      go (inl a) = a
      go (inr (inl p)) =
          let counts = publish_counts cpu now book commit w p in
          let two : 2 ≤ length p.appended.plans = omega (arith, next.two, counts.1, p.all.plans.same.count) in
          let noted : commit.journal ≡ Some cpu =
          ap (λ (c : CommitValue). c.journal) p.to.is ∙ start_open w.begin cpu w.can p.full p.appended p.all two in
          absurd (true≢false (sym (ap (λ (j : Option ℕ). is_some j) noted) ∙ next.shut))
      go (inr (inr r)) =
          let counts = retire_counts cpu now book commit w r in
          absurd (omega (arith, next.two, next.none, counts.1, counts.2))

    opening_all : commit.appended ≡ length w.begin.ready.plans
    opening_all = let many = opening.to.plans.same.count in let most = w.way.appended in omega (arith, next.appended, most, many)

    opening_to : AppendsTo (length w.begin.ready.plans) w.begin.cells (first_of w.begin) now commit
    opening_to = subst (λ (j : ℕ). AppendsTo j w.begin.cells (first_of w.begin) now commit) opening_all opening.to

    pub open_cells : AreCells now
    open_cells = cells_are_full w.begin cpu w.can now commit opening_to

    pub open_placed : ArePlaced now commit.plans
    open_placed = plans_placed w.begin cpu w.can now commit opening_to

    pub open_shut : commit.journal ≡ None
    open_shut = none_there commit.journal next.shut

    pub open_cpu : cpu < length book.state.journals
    open_cpu = subst (λ (x : BookValue). cpu < length x.state.journals) (sym opening.book_is) w.can.cpu_is

    pub open_closed : slice_index_or book.state.journals cpu [] ≡ []
    open_closed = subst (λ (x : BookValue). slice_index_or x.state.journals cpu [] ≡ []) (sym opening.book_is) w.can.closed

    pub open_full : commit.appended ≡ length commit.plans
    open_full = let most = w.way.appended in omega (arith, next.appended, most)

    pub open_goes : (after : BookValue) (later : CommitValue)
        → after ≡ (let x : BookValue = record book { state = with_journal cpu (old_tails now commit.plans) book.state } in x)
        → later ≡ after_open cpu (old_tails now commit.plans) commit
        → IsCommitting cpu now after later
    open_goes after later book_is is =
        let started : later ≡ noted_by cpu now commit = is ∙ sym (noted_two cpu now commit next.two) in
        let zero : (noted_by cpu now commit).published ≡ 0 =
        noted_field cpu now commit (λ (c : CommitValue). c.published) refl ∙ next.none in
        record {
          begin = w.begin;
          can = w.can;
          way = open_way commit later cpu (old_tails now commit.plans) w.way open_full next.none next.two is;
          phase = inr (inl (record {
            full = now;
            appended = commit;
            all = opening_to;
            to = subst (λ (c : CommitValue). PublishesTo c.published now (noted_by cpu now commit) now c) (sym started)
                (subst (λ (j : ℕ). PublishesTo j now (noted_by cpu now commit) now (noted_by cpu now commit)) (sym zero)
                (publish_all.begins now (noted_by cpu now commit) zero));
            book_is = book_is
                ∙ ap (λ (x : BookValue). let y : BookValue = record x {
                  state = with_journal cpu
                      (old_tails now commit.plans) x.state;
                } in y)
                opening.book_is
                ∙ sym (shelf_two cpu now commit w.begin.shelf next.two);
          }));
        }

  -- ---- publishing

  module _ (next : PublishesNext commit) where
    -- one inode alone is published with no journal
    unnoted : IsAppending w.begin now book commit → IsPublishing w.begin cpu now book commit
    unnoted a =
        let counts = append_counts cpu now book commit w a in
        let one : length commit.plans < 2 = go (nat_lt 1 (length commit.plans)) refl counts.0 counts.1 in
        let most = w.way.appended in
        let all : commit.appended ≡ length w.begin.ready.plans = omega (arith, next.appended, most, counts.2) in
        record {
          full = now;
          appended = commit;
          all = subst (λ (j : ℕ). AppendsTo j w.begin.cells (first_of w.begin) now commit) all a.to;
          to = subst (λ (c : CommitValue). PublishesTo commit.published now c now commit) (sym (noted_one cpu now commit one))
              (subst (λ (j : ℕ). PublishesTo j now commit now commit) (sym counts.0) (publish_all.begins now commit counts.0));
          book_is = a.book_is ∙ sym (shelf_one cpu now commit w.begin.shelf one);
        }
      where
        go : (x : Bool) → nat_lt 1 (length commit.plans) ≡ x → commit.published ≡ 0 → is_open commit ≡ false → length commit.plans < 2
        go true q none shut =
            let big = ltb-true 1 (length commit.plans) q in
            absurd (true≢false (sym (next.opened (omega (arith, big)) none) ∙ shut))
        go false q none shut = let small = ltb-false 1 (length commit.plans) q in omega (arith, small)

    pub publishing : IsPublishing w.begin cpu now book commit
    publishing = go w.phase where
      go : IsAppending w.begin now book commit ⊎ (IsPublishing w.begin cpu now book commit ⊎ IsRetiring w.begin cpu now book commit)
          → IsPublishing w.begin cpu now book commit
      go (inl a) = unnoted a
      go (inr (inl p)) = p
      go (inr (inr r)) = let counts = retire_counts cpu now book commit w r in absurd (omega (arith, next.some, counts.1, counts.2))

    abbrev begun_with : CommitValue
    begun_with = noted_by cpu publishing.full publishing.appended

    publish_placed : ArePlaced publishing.full begun_with.plans
    publish_placed = start_placed w.begin cpu w.can publishing.full publishing.appended publishing.all

    publish_inside : commit.published < length begun_with.plans
    publish_inside = omega (arith, next.some, publishing.to.plans.same.count)

    pub publish_full : commit.appended ≡ length commit.plans
    publish_full = let most = w.way.appended in omega (arith, next.appended, most)

    pub publish_within : (to_publish commit).at < length now
    publish_within =
        publish_all.within_now commit.published publishing.full begun_with now commit publish_placed publish_inside publishing.to

    pub publish_can : CanBePublished (value_at now (to_publish commit).at)
    publish_can =
        publish_all.can_next commit.published publishing.full begun_with now commit publish_placed publish_inside publishing.to
        (start_can w.begin cpu w.can publishing.full publishing.appended publishing.all)

    two_appended : 2 ≤ length begun_with.plans → 2 ≤ length publishing.appended.plans
    two_appended two =
        omega (
          arith,
          two,
          ap (λ (ps : List CellCommitValue). length ps) (start_plans w.begin cpu w.can publishing.full publishing.appended publishing.all),
        )

    pub publish_noted : 2 ≤ length commit.plans → NotesNext book.state now commit
    publish_noted =
        publish_all.notes_next commit.published publishing.full begun_with now commit publish_placed publish_inside publishing.to book.state
        (λ two. start_journal w.begin cpu w.can publishing.full publishing.appended publishing.all book publishing.book_is
        (two_appended two))
        (start_noted w.begin cpu w.can publishing.full publishing.appended publishing.all)

    pub publish_open : 2 ≤ length commit.plans → is_open commit ≡ true
    publish_open two =
        ap is_open publishing.to.is
        ∙ ap (λ (j : Option ℕ). is_some j) (start_open w.begin cpu w.can publishing.full publishing.appended publishing.all
        (two_appended (omega (arith, two, publishing.to.plans.same.count))))

    pub publish_goes : (new : List (ℕ × CellValue)) (later : CommitValue) → OnlyAt (to_publish commit).at now new
        → state_at new (to_publish commit).at ≡ published (state_at now (to_publish commit).at)
        → later ≡ after_publish (killed_by (state_at now (to_publish commit).at)) commit
        → (let cell = state_at now (to_publish commit).at in
        length (killed_by cell) ≤ weights_in cell.block (log_of cell) (items_of (fresh_of cell)))
        → AreKilled (map part_in (killed_by (state_at now (to_publish commit).at))) (state_at new (to_publish commit).at)
        → KeepsAppendRoom (value_at now (to_publish commit).at).room (value_at new (to_publish commit).at).room
        → IsCommitting cpu new book later
    publish_goes new later only state is few marked room =
        let count : commit.published + 1 ≡ later.published = sym (ap (λ (c : CommitValue). c.published) is) in
        record {
          begin = w.begin;
          can = w.can;
          way = publish_way commit later (killed_by (state_at now (to_publish commit).at)) w.way next.some publish_full publish_open is;
          phase = inr (inl (record {
            full = publishing.full;
            appended = publishing.appended;
            all = publishing.all;
            to = subst (λ (j : ℕ). PublishesTo j publishing.full begun_with new later) count
                (publish_all.goes_on commit.published publishing.full begun_with now commit publish_placed publish_inside publishing.to
                new later only state is few marked room);
            book_is = publishing.book_is;
          }));
        }
