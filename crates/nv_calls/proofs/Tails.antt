-- The tails that a commit notes are of different inodes.
use Rattle.std.proofs.Common.{◌≡◌, ℕ, zero, suc, ◌<◌, Some, List, [], ◌∷◌, length, get_or, arith, refl, ap, sym, ◌∙◌, subst}
use Rattle.std.specs.Prelude.{slice_get, slice_index_or, slice_set}
use Rattle.std.specs.List.{AllPairs}
use Rattle.std.proofs.lemmas.List.{get_or-map}
use Rattle.std.proofs.Math.ListN.{length-map}
use Rattle.nv_book.specs.Book.{BookValue, with_journal}
use Rattle.nv_cell.specs.Cell.{CellValue}
use Rattle.nv_journal.specs.Journal.{AreDistinct}
use Rattle.nv_journal.specs.declared.old_tail.OldTail.{OldTail}
use Rattle.nv_calls.specs.Cells.{no_cell}
use Rattle.nv_calls.specs.Commit.{CommitValue, HasJournal, after_open}
use Rattle.nv_calls.specs.Ready.{ArePlaced, CellCommitValue, no_plan, old_tail, old_tails}

pub tails_differ : (cells : List (ℕ × CellValue)) (plans : List CellCommitValue) → AllPairs (λ a b. a.0 < b.0) cells → ArePlaced cells plans
    → AreDistinct (old_tails cells plans)
tails_differ cells [] rising placed i j d lt within e = absurd (omega (arith, within))
tails_differ cells (p ∷ plans) rising placed i j d lt within e =
    let all : List CellCommitValue = p ∷ plans in
    let low : j < length all = omega (arith, within, length-map all (old_tail cells)) in
    let a : CellCommitValue = get_or all i no_plan in
    let b : CellCommitValue = get_or all j no_plan in
    let ta : get_or (old_tails cells all) i d ≡ old_tail cells a = get_or-map (old_tail cells) all i no_plan d (omega (arith, lt, low)) in
    let tb : get_or (old_tails cells all) j d ≡ old_tail cells b = get_or-map (old_tail cells) all j no_plan d low in
    let apart : a.at < b.at = placed.rising i j no_plan lt low in
    let less = rising a.at b.at no_cell apart (placed.within j low) in
    let same : (old_tail cells a).ino ≡ (old_tail cells b).ino =
    ap (λ (t : OldTail). t.ino) (sym ta) ∙ e ∙ ap (λ (t : OldTail). t.ino) tb in
    absurd (omega (arith, less, same))

-- a closed journal that is opened and closed is as it was
pub journal_back : (journals : List (List OldTail)) (cpu : ℕ) (tails : List OldTail) → slice_index_or journals cpu [] ≡ []
    → slice_set (slice_set journals cpu tails) cpu [] ≡ journals
journal_back [] cpu tails closed = refl
journal_back (j ∷ journals) zero tails closed = ap (λ (x : List OldTail). x ∷ journals) (sym closed)
journal_back (j ∷ journals) (suc cpu) tails closed = ap (λ (xs : List (List OldTail)). j ∷ xs) (journal_back journals cpu tails closed)

-- the journal that a commit opened is open in the book
has_set : (journals : List (List OldTail)) (cpu : ℕ) (tails : List OldTail) → cpu < length journals
    → slice_get (slice_set journals cpu tails) cpu ≡ Some tails
has_set [] cpu tails lt = absurd (omega (arith, lt))
has_set (j ∷ journals) zero tails lt = refl
has_set (j ∷ journals) (suc cpu) tails lt = has_set journals cpu tails (omega (arith, lt))

pub journal_open : (book now : BookValue) (old commit : CommitValue) (cpu : ℕ) (tails : List OldTail) → cpu < length book.state.journals
    → now ≡ (let b : BookValue = record book { state = with_journal cpu tails book.state } in b) → commit ≡ after_open cpu tails old
    → HasJournal now.state commit
journal_open book now old commit cpu tails within book_is commit_is =
    subst (λ (b : BookValue). HasJournal b.state commit) (sym book_is)
    (subst (λ (c : CommitValue). HasJournal (with_journal cpu tails book.state) c) (sym commit_is)
    (has_set book.state.journals cpu tails within))
