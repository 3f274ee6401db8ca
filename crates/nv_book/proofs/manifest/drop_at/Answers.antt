use Rattle.std.proofs.Common.{◌≡◌, ◌<◌, ◌+◌, ◌-◌, ◌++◌, ℕ, Option, None, List, length, get_or, arith, subst, sym, ap, ◌∙◌, length-append}
use Rattle.std.specs.List.{remove}
use Rattle.nv_epoch.specs.Holders.{IsRising}
use Rattle.nv_book.specs.declared.manifest.Manifest.{Manifest}
use Rattle.nv_book.specs.declared.record.Record.{Record}
use Rattle.nv_book.specs.Manifests.{snapshots, after_drop, manifests_without, records_at}
use Rattle.nv_book.specs.Records.{run_count_of, moved_down, let_go}
use Rattle.nv_book.proofs.Counts.{moved-and-let_go, none-moves-down}
use Rattle.nv_book.proofs.Places.{drop-place, put-none, records-place, remove-place, total-both, total-dropped, total-removed}
use Rattle.nv_book.proofs.manifest.drop_at.Goals as goal
use Rattle.nv_book.proofs.manifest.drop_at.Goals.{After-index_mut-next}

oldest : (ms : List Manifest) (k s : ℕ) (o : Option ℕ) → IsRising (snapshots ms) → k < length ms → get_or (snapshots ms) k 0 ≡ s →
    o ≡ None → remove ms k ≡ after_drop s o ms
oldest ms k s o rising h at e =
    subst (λ u. remove ms k ≡ after_drop s u ms) (sym e)
    (remove-place ms k s rising h at ∙ sym (put-none (moved_down None (records_at s ms)) (manifests_without s ms)))

none-moved : (o : Option ℕ) (rs : List Record) → o ≡ None → length (moved_down o rs) ≡ 0
none-moved o rs e = subst (λ u. length (moved_down u rs) ≡ 0) (sym e) (none-moves-down rs)

pub returns-then-place-eq0-clause-manifests : goal.returns-then-place-eq0-clause-manifests
returns-then-place-eq0-clause-manifests c =
    rw c.remove-records.ensures.items
    (oldest _ _ _ _ c.requires.rising c.requires.within c.requires.at (c.requires.oldest c.if-place-eq0.true))

pub returns-then-place-eq0-clause-count : goal.returns-then-place-eq0-clause-count
returns-then-place-eq0-clause-count c =
    let rs = c.remove-records.result.records in
    let g = total-removed length _ _ c.remove-records.result c.requires.within c.remove-records.ensures.value in
    let none = none-moved c.args.older.now rs (c.requires.oldest c.if-place-eq0.true) in
    let both = moved-and-let_go c.args.older.now rs in
    let d = length-append c.args.deferred.now (let_go c.args.older.now rs) in
    rw (c.remove-records.ensures.items, c.split_by_birth.ensures.deferred) (omega (arith, g, none, both, d))

-- the manifest that takes the records stands before the removed one
next-there : (c : After-index_mut-next)
    → c.index_mut-next.result.now ≡ get_or (remove c.args.manifests.now.items c.args.place) (c.args.place - 1) c.index_mut-next.result.now
next-there c =
    subst (λ ms. c.index_mut-next.result.now ≡ get_or ms (c.args.place - 1) c.index_mut-next.result.now) c.remove-records.ensures.items
    c.index_mut-next.ensures.value

pub split_by_birth-requires-2 : goal.split_by_birth-requires-2
split_by_birth-requires-2 c =
    let asked = c.requires in
    let both = total-both _ _ c.args.s asked.rising (c.removal_moves_holders_down.ensures.rising _ c.args.s asked.rising) asked.within
    asked.at (omega (arith, c.if-place-eq0.false)) run_count_of c.remove-records.result c.index_mut-next.result.now
    c.remove-records.ensures.value (next-there (goal.at.split_by_birth-requires-2 c).After-index_mut-next) in
    record { fits = omega (arith, both, asked.fits) }

pub returns : goal.returns
returns c =
    let asked = c.requires in
    let pos : 0 < c.args.place = omega (arith, c.if-place-eq0.false) in
    let gone = c.remove-records.result in
    let next = c.index_mut-next.result.now in
    let en = next-there (goal.at.returns c).After-index_mut-next in
    let left = c.removal_moves_holders_down.ensures.rising _ c.args.s asked.rising in
    let dropped = λ (f : List Record → ℕ). total-dropped _ _ c.args.s asked.rising left asked.within asked.at pos f gone next
    c.remove-records.ensures.value en c.split_by_birth-2.new.kept in
    let split = c.split_by_birth-2.ensures in
    let older = c.args.older.now in
    let both = moved-and-let_go older gone.records in
    let kept : length c.split_by_birth-2.new.kept ≡ length next.records + length (moved_down older gone.records) =
    ap length split.kept ∙ length-append next.records (moved_down older gone.records) in
    let deferred : length c.split_by_birth-2.new.deferred ≡ length c.args.deferred.now + length (let_go older gone.records) =
    ap length split.deferred ∙ length-append c.args.deferred.now (let_go older gone.records) in
    record {
      manifests =
          rw (c.remove-records.ensures.items, split.kept)
          (drop-place _ _ _ asked.rising left asked.within asked.at pos _ _ _ c.remove-records.ensures.value en (asked.older pos));
      deferred =
          split.deferred ∙ ap (λ rs. c.args.deferred.now ++ let_go older rs)
          (sym (records-place _ _ _ _ asked.rising asked.within asked.at c.remove-records.ensures.value));
      room = rw c.remove-records.ensures.items (omega (arith, dropped run_count_of, split.runs));
      count = rw c.remove-records.ensures.items (omega (arith, dropped length, both, kept, deferred));
      places = grind arith;
    }
