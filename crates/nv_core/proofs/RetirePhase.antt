-- A commit that closes its journal or retires: what it is given, and how far it is after it.
use Rattle.std.proofs.Common.{◌≡◌, ℕ, ◌+◌, ◌<◌, ◌≤◌, ◌⊎◌, inl, inr, nat_lt, Bool, true, false, true≢false, List, length, Option, None, Some, arith, refl, ap, ap₂, sym, ◌∙◌, subst, []}
use Rattle.std.specs.Prelude.{is_some, unwrap_or}
use Rattle.std.specs.Option.{option_map}
use Rattle.std.proofs.lemmas.Bool.{ltb-false, ltb-true}
use Rattle.std.proofs.lemmas.List.{length-set}
use Rattle.nv_base.specs.declared.numbers.Handle.{Handle}
use Rattle.nv_book.specs.Book.{BookState, BookValue, with_journal}
use Rattle.nv_cell.specs.Cell.{CellValue}
use Rattle.nv_epoch.specs.SnapList.{ids}
use Rattle.nv_journal.specs.declared.old_tail.OldTail.{OldTail}
use Rattle.nv_calls.specs.CanCommit.{CanRetireAll}
use Rattle.nv_calls.specs.Cells.{OnlyAt, ino_at, state_at, value_at}
use Rattle.nv_calls.specs.Commit.{CommitValue, HasJournal, after_close, after_retire, to_retire, without_journal}
use Rattle.nv_calls.specs.PlanByPlan.{PublishesTo, RetiresTo}
use Rattle.nv_calls.specs.Progress.{is_open}
use Rattle.nv_calls.specs.Ready.{ArePlaced, old_tails}
use Rattle.nv_calls.specs.Retired.{CanRetire}
use Rattle.nv_calls.specs.Retiring.{erased, retired, room_erased, with_records}
use Rattle.nv_calls.proofs.RetireAll as retire_all
use Rattle.nv_calls.proofs.Tails.{journal_back}
use Rattle.nv_core.specs.Committing.{IsAppending, IsCommitting, IsPublishing, IsRetiring, noted_by}
use Rattle.nv_core.specs.GhostCalls.{IsOnItsWay}
use Rattle.nv_core.proofs.Retires.{retire_way}
use Rattle.nv_core.proofs.Stages.{none_there}
use Rattle.nv_core.proofs.Phases.{append_counts, appended_journal, no_number, noted_field, noted_one, publish_counts, retire_counts, shelf_one, shelf_two, shut_can, shut_dead, shut_placed, start_journal, start_number, start_open}

module _ (cpu : ℕ) (now : List (ℕ × CellValue)) (book : BookValue) (commit : CommitValue) (w : IsCommitting cpu now book commit) where
  -- ---- closing

  module _ (next : (length commit.plans ≤ commit.published) × (is_open commit ≡ true)) where
    closing : IsPublishing w.begin cpu now book commit
    closing = go w.phase where
      go : IsAppending w.begin now book commit ⊎ (IsPublishing w.begin cpu now book commit ⊎ IsRetiring w.begin cpu now book commit)
          → IsPublishing w.begin cpu now book commit
      go (inl a) = absurd (true≢false (sym next.1 ∙ (append_counts cpu now book commit w a).1))
      go (inr (inl p)) = p
      go (inr (inr r)) = absurd (true≢false (sym next.1 ∙ (retire_counts cpu now book commit w r).3))

    abbrev noted_then : CommitValue
    noted_then = noted_by cpu closing.full closing.appended

    -- a journal is open of two or more alone
    close_two : 2 ≤ length closing.appended.plans
    close_two = go (nat_lt 1 (length closing.appended.plans)) refl where
      go : (x : Bool) → nat_lt 1 (length closing.appended.plans) ≡ x → 2 ≤ length closing.appended.plans
      go true q = let big = ltb-true 1 (length closing.appended.plans) q in omega (arith, big)
      go false q =
          let small = ltb-false 1 (length closing.appended.plans) q in
          let none : commit.journal ≡ None =
          ap (λ (c : CommitValue). c.journal) closing.to.is
          ∙ ap (λ (c : CommitValue). c.journal) (noted_one cpu closing.full closing.appended (omega (arith, small)))
          ∙ appended_journal w.begin cpu w.can closing.full closing.appended closing.all in
          absurd (true≢false (sym next.1 ∙ ap (λ (j : Option ℕ). is_some j) none))

    pub close_own : commit.journal ≡ Some cpu
    close_own =
        ap (λ (c : CommitValue). c.journal) closing.to.is
        ∙ start_open w.begin cpu w.can closing.full closing.appended closing.all close_two

    pub close_journal : HasJournal book.state commit
    close_journal =
        subst (λ (c : CommitValue). HasJournal book.state c) (sym closing.to.is)
        (start_journal w.begin cpu w.can closing.full closing.appended closing.all book closing.book_is close_two)

    pub close_number : commit.hand.ino ≡ option_map (λ (h : Handle). h.ino) commit.made
    close_number =
        ap (λ (c : CommitValue). c.hand.ino) closing.to.is
        ∙ start_number w.begin cpu w.can closing.full closing.appended closing.all
        ∙ ap (option_map (λ (h : Handle). h.ino)) (sym (ap (λ (c : CommitValue). c.made) closing.to.is))

    abbrev close_shelf : BookValue
    close_shelf =
        record w.begin.shelf { state = with_journal cpu (old_tails closing.full closing.appended.plans) w.begin.shelf.state }

    close_book : book ≡ close_shelf
    close_book = closing.book_is ∙ shelf_two cpu closing.full closing.appended w.begin.shelf close_two

    pub close_cpu : cpu < length book.state.journals
    close_cpu =
        let long : length book.state.journals ≡ length w.begin.shelf.state.journals =
        ap (λ (x : BookValue). length x.state.journals) close_book
        ∙ length-set w.begin.shelf.state.journals cpu (old_tails closing.full closing.appended.plans) in
        omega (arith, long, w.can.cpu_is)

    pub close_full : commit.published ≡ length commit.plans
    close_full = let most = w.way.published in omega (arith, next.0, most)

    close_all : commit.published ≡ length w.begin.ready.plans
    close_all = let counts = publish_counts cpu now book commit w closing in omega (arith, close_full, counts.1)

    close_way : (later : CommitValue) → later ≡ after_close commit → IsOnItsWay later
    close_way later is =
        let back : commit.retired ≡ 0 = (w.way.opened next.1).2 in
        subst IsOnItsWay (sym is) (record {
          appended = w.way.appended;
          published = w.way.published;
          retired = w.way.retired;
          appends = w.way.appends;
          publishes = λ less. back;
          opened = λ none. cc;
          between = λ two some less. absurd (omega (arith, less, close_full));
        })

    pub close_goes : (after : BookValue) (later : CommitValue)
        → after ≡ (let x : BookValue = record book { state = without_journal commit book.state } in x)
        → later ≡ after_close commit
        → IsCommitting cpu now after later
    close_goes after later book_is is =
        let tails = old_tails closing.full closing.appended.plans in
        let back : commit.retired ≡ 0 = (w.way.opened next.1).2 in
        let whole : after ≡ w.begin.shelf =
        book_is
        ∙ ap (λ (j : Option ℕ). let x : BookValue = record book {
          state = unwrap_or (option_map (λ m. with_journal m [] book.state) j) book.state;
        } in x) close_own
        ∙ ap (λ (x : BookValue). let y : BookValue = record x { state = with_journal cpu [] x.state } in y) close_book
        ∙ ap (λ (js : List (List OldTail)). let x : BookValue = record w.begin.shelf
        { state = record w.begin.shelf.state { journals = js } } in x)
        (journal_back w.begin.shelf.state.journals cpu tails w.can.closed) in
        record {
          begin = w.begin;
          can = w.can;
          way = close_way later is;
          phase = inr (inr (record {
            full = closing.full;
            appended = closing.appended;
            all = closing.all;
            over = now;
            published = commit;
            done = subst (λ (j : ℕ). PublishesTo j closing.full noted_then now commit) close_all closing.to;
            to = subst (λ (c : CommitValue). RetiresTo c.retired now (after_close commit) w.begin.shelf now c after) (sym is)
                (subst (λ (x : BookValue). RetiresTo commit.retired now (after_close commit) w.begin.shelf now (after_close commit) x)
                (sym whole)
                (subst (λ (j : ℕ). RetiresTo j now (after_close commit) w.begin.shelf now (after_close commit) w.begin.shelf) (sym back)
                (retire_all.begins now (after_close commit) w.begin.shelf back)));
          }));
        }

  -- ---- retiring

  module _ (next : (length commit.plans ≤ commit.published) × (is_open commit ≡ false) × (commit.retired < length commit.plans)) where
    -- one inode alone has no journal that was closed
    unclosed : IsPublishing w.begin cpu now book commit → IsRetiring w.begin cpu now book commit
    unclosed p =
        let counts = publish_counts cpu now book commit w p in
        let most = w.way.published in
        let all : commit.published ≡ length w.begin.ready.plans = omega (arith, next.0, most, counts.1) in
        let one : length p.appended.plans < 2 = go (nat_lt 1 (length p.appended.plans)) refl in
        let none : commit.journal ≡ None = none_there commit.journal next.1 in
        let number : commit.hand.ino ≡ None =
        ap (λ (c : CommitValue). c.hand.ino) p.to.is
        ∙ noted_field cpu p.full p.appended (λ (c : CommitValue). c.hand.ino) refl
        ∙ ap (λ (c : CommitValue). c.hand.ino) p.all.is
        ∙ no_number w.begin cpu w.can p.full p.appended p.all (omega (arith, one, p.all.plans.same.count)) in
        let closed : after_close commit ≡ commit =
        ap₂ (λ (m : Option ℕ)
        (j : Option ℕ). let c : CommitValue = record commit { hand = record commit.hand { ino = m }; journal = j } in c)
        (sym number) (sym none) in
        let zero : commit.retired ≡ 0 =
        ap (λ (c : CommitValue). c.retired) p.to.is
        ∙ noted_field cpu p.full p.appended (λ (c : CommitValue). c.retired) refl
        ∙ ap (λ (c : CommitValue). c.retired) p.all.is in
        record {
          full = p.full;
          appended = p.appended;
          all = p.all;
          over = now;
          published = commit;
          done = subst (λ (j : ℕ). PublishesTo j p.full (noted_by cpu p.full p.appended) now commit) all p.to;
          to = subst (λ (c : CommitValue). RetiresTo commit.retired now c w.begin.shelf now commit book) (sym closed)
              (subst (λ (x : BookValue). RetiresTo commit.retired now commit w.begin.shelf now commit x)
              (sym (p.book_is ∙ shelf_one cpu p.full p.appended w.begin.shelf one))
              (subst (λ (j : ℕ). RetiresTo j now commit w.begin.shelf now commit w.begin.shelf) (sym zero)
              (retire_all.begins now commit w.begin.shelf zero)));
        }
      where
        go : (x : Bool) → nat_lt 1 (length p.appended.plans) ≡ x → length p.appended.plans < 2
        go true q =
            let big = ltb-true 1 (length p.appended.plans) q in
            let noted : commit.journal ≡ Some cpu =
            ap (λ (c : CommitValue). c.journal) p.to.is
            ∙ start_open w.begin cpu w.can p.full p.appended p.all (omega (arith, big)) in
            absurd (true≢false (sym (ap (λ (j : Option ℕ). is_some j) noted) ∙ next.1))
        go false q = let small = ltb-false 1 (length p.appended.plans) q in omega (arith, small)

    retiring : IsRetiring w.begin cpu now book commit
    retiring = go w.phase where
      go : IsAppending w.begin now book commit ⊎ (IsPublishing w.begin cpu now book commit ⊎ IsRetiring w.begin cpu now book commit)
          → IsRetiring w.begin cpu now book commit
      go (inl a) = let counts = append_counts cpu now book commit w a in absurd (omega (arith, next.0, next.2, counts.0))
      go (inr (inl p)) = unclosed p
      go (inr (inr r)) = r

    abbrev shut_then : CommitValue
    shut_then = after_close retiring.published

    retire_placed : ArePlaced retiring.over shut_then.plans
    retire_placed =
        shut_placed w.begin cpu w.can retiring.full retiring.appended retiring.all retiring.over retiring.published retiring.done

    retire_all_can : CanRetireAll w.begin.shelf.room retiring.over shut_then
    retire_all_can =
        shut_can w.begin cpu w.can retiring.full retiring.appended retiring.all retiring.over retiring.published retiring.done

    retire_inside : commit.retired < length shut_then.plans
    retire_inside = omega (arith, next.2, retiring.to.plans.same.count)

    pub retire_full : commit.published ≡ length commit.plans
    retire_full = let most = w.way.published in omega (arith, next.0, most)

    pub retire_shut : commit.journal ≡ None
    retire_shut = none_there commit.journal next.1

    pub retire_within : (to_retire commit).at < length now
    retire_within =
        retire_all.within_now commit.retired retiring.over shut_then w.begin.shelf now commit book retire_placed retire_inside retiring.to

    pub retire_dead : commit.stamp.epoch ≤ book.state.snaps.epoch
    retire_dead =
        retire_all.dead_next commit.retired retiring.over shut_then w.begin.shelf now commit book retire_placed retire_inside retiring.to
        (shut_dead w.begin cpu w.can retiring.full retiring.appended retiring.all retiring.over retiring.published retiring.done)

    pub retire_room : length (to_retire commit).killed ≤ book.room
    retire_room =
        retire_all.room_next commit.retired retiring.over shut_then w.begin.shelf now commit book retire_placed retire_inside retiring.to
        retire_all_can

    pub retire_free : length (to_retire commit).killed ≤ commit.hand.data.room
    retire_free =
        retire_all.free_next commit.retired retiring.over shut_then w.begin.shelf now commit book retire_placed retire_inside retiring.to
        retire_all_can

    pub retire_can : CanRetire (to_retire commit).killed commit.hand (state_at now (to_retire commit).at)
    retire_can =
        retire_all.can_next commit.retired retiring.over shut_then w.begin.shelf now commit book retire_placed retire_inside retiring.to
        retire_all_can

    pub retire_goes : (new : List (ℕ × CellValue)) (later : CommitValue) (after : BookValue)
        → OnlyAt (to_retire commit).at now new
        → state_at new (to_retire commit).at ≡ erased (retired (ids book.state.snaps) (ino_at now (to_retire commit).at) commit.stamp.epoch
        (to_retire commit).killed (state_at now (to_retire commit).at))
        → after.state ≡ (let x : BookState = record book.state {
          manifests = with_records (ids book.state.snaps) (ino_at now (to_retire commit).at) commit.stamp.epoch (to_retire commit).killed
              book.state.manifests;
        } in x)
        → book.room ≤ after.room + length (to_retire commit).killed
        → later ≡ after_retire (ids book.state.snaps) (ino_at now (to_retire commit).at) (state_at now (to_retire commit).at) commit
        → (value_at new (to_retire commit).at).room
        ≡ room_erased (retired (ids book.state.snaps) (ino_at now (to_retire commit).at) commit.stamp.epoch (to_retire commit).killed
        (state_at now (to_retire commit).at)) (value_at now (to_retire commit).at).room
        → IsCommitting cpu new after later
    retire_goes new later after only state book_is room is cell_room =
        let count : commit.retired + 1 ≡ later.retired = sym (ap (λ (c : CommitValue). c.retired) is) in
        record {
          begin = w.begin;
          can = w.can;
          way = retire_way commit later (ids book.state.snaps) (ino_at now (to_retire commit).at) (state_at now (to_retire commit).at) w.way
              next.2 retire_full next.1 is;
          phase = inr (inr (record {
            full = retiring.full;
            appended = retiring.appended;
            all = retiring.all;
            over = retiring.over;
            published = retiring.published;
            done = retiring.done;
            to = subst (λ (j : ℕ). RetiresTo j retiring.over shut_then w.begin.shelf new later after) count
                (retire_all.goes_on commit.retired retiring.over shut_then w.begin.shelf now commit book retire_placed retire_inside
                retiring.to
                new later after only state book_is room is cell_room);
          }));
        }
