use Rattle.std.proofs.Common.{◌≡◌, ◌∙◌, ◌++◌, ◌∷◌, ◌<◌, ◌+◌, ℕ, List, [], Option, Some, None, ap, arith, inl, inr, length, map, slice_index, subst, sym, vec_len}
use Rattle.std.specs.Sync.RwLock.{write_guard_value}
use Rattle.core.specs.declared.rw.RwLockWriteGuard.{RwLockWriteGuard}
use Rattle.std.proofs.lemmas.Bool.{cases_lt}
use Rattle.std.proofs.lemmas.List.{length_push}
use Rattle.nv_sessions.specs.Locked.{LockedValue, version_at}
use Rattle.nv_sessions.specs.Taken.{ArePlaces, GoesBack, IsNext, IsStill, empty_place, taken_at}
use Rattle.nv_sessions.specs.declared.cell_list.TakenCell.{TakenCell}
use Rattle.nv_sessions.proofs.TakenCells.{LastGuard, blocks_more, last_apart, last_guard, rising_front, taken_front, taken_last, told}
use Rattle.nv_sessions.proofs.held.PlaceGuards.+put_all.Goals as goal

-- what may go back may still go back where nothing more was seen of it
still_back : (opened before after : List ℕ) (t : TakenCell) → slice_index after t.ino ≡ slice_index before t.ino → GoesBack opened before t
    → GoesBack opened after t
still_back opened before after t same back = record {
  least = back.least;
  most = back.most;
  met = omega (arith, back.met, ap (λ (n : ℕ). version_at opened t.ino n) same);
}

-- the guard that is taken out is the last one's
module _ (guards : List (Option (RwLockWriteGuard LockedValue))) (items front : List TakenCell) (t : TakenCell) (are : ArePlaces guards items)
    (is : items ≡ front ++ t ∷ []) where
  last : LastGuard guards front t
  last = last_guard guards front t (are ∙ ap (map told) is)

  module _ (left : List (Option (RwLockWriteGuard LockedValue))) (got : Option (RwLockWriteGuard LockedValue))
      (popped : (before : List (Option (RwLockWriteGuard LockedValue))) (end : Option (RwLockWriteGuard LockedValue)) → guards ≡ before ++ end ∷ []
      → (left ≡ before) × (got ≡ end)) where
    some : got ≡ Some last.guard
    some = (popped last.before (Some last.guard) last.is).1

    not_none : got ≡ None → ⊥
    not_none none = none_some last.guard (sym none ∙ some) where
      none_some : (g : RwLockWriteGuard LockedValue) → None ≡ Some g → ⊥
      none_some g same = cc

    others : ArePlaces left front
    others = subst (λ (l : List (Option (RwLockWriteGuard LockedValue))). ArePlaces l front)
        (sym (popped last.before (Some last.guard) last.is).0) last.places

    own : (guard : RwLockWriteGuard LockedValue) → got ≡ Some guard → write_guard_value guard ≡ empty_place t
    own guard this =
        let same : guard ≡ last.guard = one_some guard last.guard (sym this ∙ some) in
        ap (λ (g : RwLockWriteGuard LockedValue). write_guard_value g) same ∙ last.place where
          one_some : (g h : RwLockWriteGuard LockedValue) → Some g ≡ Some h → g ≡ h
          one_some g h both = cc

pub unreachable-requires : goal.unreachable-requires
unreachable-requires g t c =
    not_none c.args.self.now.guards.items c.args.list.now.cells.items c.pop.new.self.cells.items c.in-Some.taken c.requires.places
    c.in-Some.ensures.cells c.pop-in-Some.new.self.guards.items c.pop-in-Some.result c.pop-in-Some.ensures c.in_default.is

pub put_back-requires-clause-place : goal.put_back-requires-clause-place
put_back-requires-clause-place g t c =
    own c.args.self.now.guards.items c.args.list.now.cells.items c.pop.new.self.cells.items c.in-Some.taken c.requires.places
    c.in-Some.ensures.cells c.pop-in-Some.new.self.guards.items c.pop-in-Some.result c.pop-in-Some.ensures c.in-Some-pop.guard c.in-Some-pop.is

pub put_back-requires-clause-back : goal.put_back-requires-clause-back
put_back-requires-clause-back g t c =
    let items = c.args.list.now.cells.items in
    let front = c.pop.new.self.cells.items in
    let last = c.in-Some.taken in
    let is = c.in-Some.ensures.cells in
    subst (GoesBack g.C.Commits.opened c.args.notes.now) (taken_last front last items is)
    (c.requires.back (length front) (omega (arith, ap (λ (l : List TakenCell). length l) is, length_push front last, c.args.list.now.cells.ok)))

-- the others go back once the last one is back
pub put_all-requires : goal.put_all-requires
put_all-requires g t c κs within =
    let items = c.args.list.now.cells.items in
    let front = c.pop.new.self.cells.items in
    let last = c.in-Some.taken in
    let is = c.in-Some.ensures.cells in
    let many : length items ≡ length front + 1 = ap (λ (l : List TakenCell). length l) is ∙ length_push front last in
    let list = c.args.list.now.cells.ok in
    let left = c.pop.new.self.cells.ok in
    let back : (k : ℕ) → k < vec_len c.pop.new.self.cells → GoesBack g.C.Commits.opened c.put_back.new.notes (taken_at front k) = λ k inside.
    let there : k < length front = omega (arith, inside, left) in
    still_back g.C.Commits.opened c.args.notes.now c.put_back.new.notes (taken_at front k)
    (c.put_back.ensures.elsewhere (taken_at front k).ino (last_apart front last items k is c.requires.rising there))
    (subst (GoesBack g.C.Commits.opened c.args.notes.now) (taken_front front last items k is there)
    (c.requires.back k (omega (arith, there, many, list)))) in (
      omega (arith, many, list, left, c.decreases),
      (
        within.0,
        (
          within.1.0,
          (
            within.1.1,
            (
              omega arith,
              (
                others c.args.self.now.guards.items items front last c.requires.places is c.pop-in-Some.new.self.guards.items
                    c.pop-in-Some.result c.pop-in-Some.ensures,
                (
                  rising_front front last items is c.requires.rising,
                  (
                    back,
                    (
                      omega (arith, c.requires.part, c.put_back.ensures.parts),
                      omega (arith, c.requires.enough, c.put_back.ensures.amount, blocks_more front last items is),
                    ),
                  ),
                ),
              ),
            ),
          ),
        ),
      ),
    )

pub returns-in-Some-pop-clause-higher : goal.returns-in-Some-pop-clause-higher
returns-in-Some-pop-clause-higher g t c k inside = elim (cases_lt k (length c.pop.new.self.cells.items)) [
  | inl less ↦
      let same = taken_front c.pop.new.self.cells.items c.in-Some.taken c.args.list.now.cells.items k c.in-Some.ensures.cells less in
      subst (λ (x : TakenCell). IsNext x → slice_index c.args.notes.now x.ino < slice_index c.put_all.new.notes x.ino) (sym same)
      (λ next. omega (
        arith,
        c.put_all.ensures.higher k (omega (arith, less, c.pop.new.self.cells.ok)) next,
        c.put_back.ensures.kept (taken_at c.pop.new.self.cells.items k).ino,
      ))
  | inr more ↦
      let front = c.pop.new.self.cells.items in
      let items = c.args.list.now.cells.items in
      let last = c.in-Some.taken in
      let is = c.in-Some.ensures.cells in
      let end : k ≡ length front = omega (
        arith,
        more,
        inside,
        ap (λ (l : List TakenCell). length l) is,
        length_push front last,
        c.args.list.now.cells.ok,
      ) in
      let same : taken_at items k ≡ last = ap (taken_at items) end ∙ taken_last front last items is in
      subst (λ (x : TakenCell). IsNext x → slice_index c.args.notes.now x.ino < slice_index c.put_all.new.notes x.ino) (sym same)
      (λ next. omega (arith, c.put_back.ensures.higher next, c.put_all.ensures.kept last.ino))
]

pub returns-in-Some-pop-clause-still : goal.returns-in-Some-pop-clause-still
returns-in-Some-pop-clause-still g t c each =
    let front = c.pop.new.self.cells.items in
    let items = c.args.list.now.cells.items in
    let last = c.in-Some.taken in
    let is = c.in-Some.ensures.cells in
    let many : length items ≡ length front + 1 = ap (λ (l : List TakenCell). length l) is ∙ length_push front last in
    let own : IsStill last = subst IsStill (taken_last front last items is)
    (each (length front) (omega (arith, many, c.args.list.now.cells.ok))) in
    c.put_all.ensures.still (λ k inside. subst IsStill (taken_front front last items k is (omega (arith, inside, c.pop.new.self.cells.ok)))
    (each k (omega (arith, inside, many, c.args.list.now.cells.ok, c.pop.new.self.cells.ok)))) ∙ c.put_back.ensures.still own

pub returns-in-Some-pop-clause-kept : goal.returns-in-Some-pop-clause-kept
returns-in-Some-pop-clause-kept g t c i = omega (arith, c.put_back.ensures.kept i, c.put_all.ensures.kept i)
