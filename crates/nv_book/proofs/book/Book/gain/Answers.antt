use Rattle.std.proofs.Common.{IsSome, refl, sym, subst}
use Rattle.std.specs.List.{Contains}
use Rattle.nv_epoch.specs.SnapList.{ids, pins_at}
use Rattle.nv_book.proofs.Books.{records-absent}
use Rattle.nv_book.proofs.book.Book.gain.Goals as goal

pub returns-in_default : goal.returns-in_default
returns-in_default c =
    let living = ids c.self.inside.snaps in
    let no : Contains living c.args.s →
    ⊥ = λ lives. (let p : IsSome (pins_at c.self.inside.snaps.living c.args.s) =
    (c.pins_stay_with_their_snapshot.ensures.lives c.self.inside.snaps.living c.args.s).1 lives in let q =
    subst (λ o. IsSome o) c.in_default.ensures.absent p in cc q) in
    let none = records-absent c.self.inside.store.manifests c.args.s
    (subst (λ l. Contains l c.args.s → ⊥) (sym c.self.invariant.filed.all) no) in
    rw (← c.self.view_is, none) refl

pub returns : goal.returns
returns c = rw (← c.self.view_is, c.gain_at.ensures, c.older-older.ensures) refl
