-- Room in the hand for the blocks of a call.
use Rattle.std.proofs.Common.{◌≡◌, ℕ, ◌+◌, ◌<◌, ◌≤◌, ◌==◌, ◌∙◌, Bool, true, false, if◌then◌else◌, List, ap, arith, inl, inr, refl, subst, sym}
use Rattle.std.specs.Prelude.{◌⊎◌, OnErr, OnOk, Result, Ok, Err}
use Rattle.std.proofs.lemmas.Bool.{eqb-true}
use Rattle.nv_alloc.specs.declared.hand.Hand.{Hand}
use Rattle.nv_base.specs.Memory.{out_of_memory}
use Rattle.nv_base.specs.Refusals.{FailsOnlyWhere}
use Rattle.nv_base.specs.declared.fault.Fault.{Fault}
use Rattle.nv_calls.specs.HandRoom.{pages_at_most, with_rooms}
use Rattle.nv_calls.specs.Prepared.{HasNoLessRoom}
use Rattle.nv_calls.specs.SlotCells.{lent_cells}
use Rattle.nv_calls.specs.declared.log_pages.TheConstants.{MORE_PAGES}
use Rattle.nv_calls.specs.declared.update.Update.{Update}
use Rattle.nv_cell.specs.Cell.{CellValue}
use Rattle.nv_core.proofs.Takes.{by_with}
use Rattle.nv_core.specs.GhostCalls.{IsChangeBy, IsChangeWith}
use Rattle.nv_core.specs.Rooms.{HasRoomFor, pages_to_take}
use Rattle.nv_core.specs.Shown.{slots_in}
use Rattle.nv_core.specs.declared.running.Running.{Running}
use Rattle.nv_core.specs.declared.shared.Shared.{Shared}

-- the hand changes by room alone
pub rooms_alone : {T : Type 0} (wanted pages : ℕ) (old new : Hand) (result : Result T Fault) → OnOk result (new ≡ with_rooms wanted pages old)
    → OnErr result (HasNoLessRoom old new)
    → new ≡ record old { «data» = record old.«data» { room = new.«data».room }; pages = record old.pages { room = new.pages.room } }
rooms_alone wanted pages old new (Ok done) is kept =
    subst (λ (h : Hand). h ≡ record old {
      «data» = record old.«data» { room = h.«data».room };
      pages = record old.pages { room = h.pages.room };
    }) (sym is) refl
rooms_alone wanted pages old new (Err fault) is kept =
    kept.same
    ∙ ap (λ (n : ℕ). record old {
      «data» = record old.«data» { room = new.«data».room };
      pages = record old.pages { room = n };
    }) (sym (ap (λ (h : Hand). h.pages.room) kept.same))

module _ (shared : Shared) (old : Hand) (running : Running) (by : Update) (is : IsChangeBy running.request by) where
  abbrev slots : List ℕ
  slots = slots_in running.slots

  abbrev lent : List (ℕ × CellValue)
  lent = lent_cells slots shared.cells.items

  abbrev u : Update
  u = by

  none_counted : (wanted : ℕ) → wanted ≡ 0 → pages_at_most wanted lent old u ≡ pages_to_take shared slots old u
  none_counted wanted nil = subst (λ (n : ℕ). pages_at_most n lent old u ≡ pages_to_take shared slots old u) (sym nil) refl

  some_more : (wanted : ℕ) → 0 < wanted → pages_at_most wanted lent old u ≡ wanted + MORE_PAGES
  some_more wanted lt = go (wanted == 0) refl where
    go : (b : Bool) → (wanted == 0) ≡ b → (if b then pages_to_take shared slots old u else wanted + MORE_PAGES) ≡ wanted + MORE_PAGES
    go true e = absurd (omega (arith, lt, eqb-true wanted 0 e))
    go false e = refl

  -- there is room for what the call takes
  pub room_made : {T : Type 0} (new : Hand) (wanted : ℕ) (result : Result T Fault)
      → OnOk result (new ≡ with_rooms wanted (pages_at_most wanted lent old u) old) → OnOk result (HasRoomFor wanted shared new running)
  room_made new wanted (Ok done) made =
      let pages = ap (λ (h : Hand). h.pages.room) made in
      record {
        blocks = omega (arith, ap (λ (h : Hand). h.«data».room) made);
        most = λ some. omega (arith, pages, some_more wanted some);
        own = λ nil. by_with (λ (v : Update). pages_to_take shared slots new v ≤ new.pages.room) running.request by
            (omega (arith, pages, none_counted wanted nil, ap (λ (h : Hand). pages_to_take shared slots h u) made)) is;
      }
  room_made new wanted (Err fault) made = tt

  -- and one that takes nothing is refused none
  pub room_wanted : {T : Type 0} (wanted : ℕ) (result : Result T Fault)
      → FailsOnlyWhere out_of_memory ((old.«data».room < wanted) ⊎ (old.pages.room < pages_at_most wanted lent old u)) result
      → OnErr result (wanted ≡ 0 → IsChangeWith (λ (v : Update). 0 < pages_to_take shared slots old v) running.request)
  room_wanted wanted (Ok done) why = tt
  room_wanted wanted (Err fault) why = λ nil. go nil why.1 where
    go : wanted ≡ 0 → (old.«data».room < wanted) ⊎ (old.pages.room < pages_at_most wanted lent old u)
        → IsChangeWith (λ (v : Update). 0 < pages_to_take shared slots old v) running.request
    go nil (inl few) = absurd (omega (arith, few, nil))
    go nil (inr few) = by_with (λ (v : Update). 0 < pages_to_take shared slots old v) running.request by
        (omega (arith, few, none_counted wanted nil)) is
