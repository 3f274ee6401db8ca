-- Whatever events come, settled logs are of their shape.
use Rattle.std.proofs.Common.{◌≡◌, ◌⊎◌, ◌+◌, ◌++◌, ◌∙◌, ℕ, Bool, true, false, List, [], ◌∷◌, ap, append-nil, inl, inr, refl, subst, sym, None, Some, Option}
use Rattle.nv_alloc.specs.Numbers.{has}
use Rattle.nv_base.specs.declared.geometry.GeometryNumbers.{GeometryNumbers}
use Rattle.nv_book.specs.declared.record.Record.{Record}
use Rattle.nv_calls.specs.Slots.{entries_of, items_for, place_in}
use Rattle.nv_cell.specs.Cell.{CellState}
use Rattle.nv_entry.specs.declared.item.Entry.{Entry}
use Rattle.nv_entry.specs.declared.item.Item.{Item}
use Rattle.nv_machine.specs.Grown.{fresh_entries}
use Rattle.nv_machine.specs.Format.{formatted}
use Rattle.nv_machine.specs.PlainRun.{plain_change_of, keeps_nodes}
use Rattle.nv_machine.specs.Reads.{written_slots}
use Rattle.nv_machine.specs.Settled.{settled}
use Rattle.nv_entry.specs.Shape.{AreLawful, IsShaped, items_of, kind_after}
use Rattle.nv_cell.specs.Shape.{IsLeftShaped}
use Rattle.nv_machine.specs.Shapes.{AreShaped}
use Rattle.nv_machine.specs.Starts.{IsStart}
use Rattle.nv_machine.specs.Step.{after, step}
use Rattle.nv_machine.specs.World.{Event, Running, World}
use Rattle.nv_machine.proofs.EveryWorld.{all_known}
use Rattle.nv_machine.proofs.NewWorld.{each_cell, new_settled}
use Rattle.nv_machine.proofs.OverEvents.{by_points, events_by}
use Rattle.nv_machine.proofs.FitsEvents.{IsKnown, grow_now}
use Rattle.nv_machine.proofs.UnsettledTurns.{point_settles}
use Rattle.nv_machine.proofs.LogsKeptRuns.{shapes_stay}
use Rattle.nv_machine.proofs.LogsKept.{no_shape}
use Rattle.nv_machine.proofs.Shapes.{Grows, kinds_after, shape_more}
use Rattle.nv_machine.proofs.CleanedCells.{gone_step}
use Rattle.nv_cell.specs.Readers.{is_gone, is_last_word}
use Rattle.nv_base.specs.declared.node.Kind.{Kind}
use Rattle.std.proofs.lemmas.Bool.{false≢true}
use Rattle.std.proofs.lemmas.Option.{none-some}
use Rattle.nv_entry.specs.declared.item.Item.TheVariants.{Gone}

entries_items : (commit epoch place : ℕ) (items : List Item) → items_of (entries_of commit epoch place items) ≡ items
entries_items commit epoch place [] = refl
entries_items commit epoch place (item ∷ items) = ap (λ (l : List Item). item ∷ l) (entries_items commit epoch (place + 1) items)

-- ---- a log whose inode is not gone

-- behind a Gone there is no kind
gone_none : (log : List Entry) (before : Option Kind) → is_gone log ≡ true → kinds_after (items_of log) before ≡ None
gone_none [] before is = absurd (false≢true is)
gone_none (e ∷ []) before is = go e.item is where
  go : (item : Item) → is_last_word item ≡ true → kind_after item before ≡ None
  go Gone is = refl
  go other is = absurd (false≢true is)
gone_none (e ∷ f ∷ log) before is =
    gone_none (f ∷ log) (kind_after e.item before) (sym (gone_step e f log) ∙ is)

there_still : (log : List Entry) (kind : Kind) → kinds_after (items_of log) None ≡ Some kind → is_gone log ≡ false
there_still log kind is = go (is_gone log) refl where
  go : (b : Bool) → is_gone log ≡ b → is_gone log ≡ false
  go true gone = absurd (none-some kind (sym (gone_none log None gone) ∙ is))
  go false there = there

-- a log that grows is lawful from nothing on
whole_shape : (block : ℕ) (log : List Entry) (items : List Item) → IsLeftShaped block log → Grows block log items → IsShaped block log
whole_shape block log items is grows = record { lawful = go grows.there; last = is.last } where
  go : (log ≡ []) ⊎ ((kind : Kind) × (kinds_after (items_of log) None ≡ Some kind)) → AreLawful block (items_of log) None
  go (inl empty) = subst (λ (l : List Entry). AreLawful block (items_of l) None) (sym empty) tt
  go (inr there) = is.lawful (there_still log there.0 there.1)

left_whole : (block : ℕ) (log : List Entry) → IsShaped block log → IsLeftShaped block log
left_whole block log is = record { some = (None, is.lawful); lawful = λ there. is.lawful; last = is.last }

-- a log behind which a commit settles its entries
point_shaped : (block : ℕ) (log : List Entry) (r : Running) (ino : ℕ) (appended : Bool) → IsLeftShaped block log
    → ((items_for r.plan ino ≡ []) ⊎ Grows block log (items_for r.plan ino)) → IsLeftShaped block (log ++ fresh_entries appended r ino)
point_shaped block log r ino false is grows = subst (IsLeftShaped block) (sym (append-nil log)) is
point_shaped block log r ino true is (inl none) =
    subst (IsLeftShaped block) (sym (ap (λ (items : List Item). log ++ entries_of r.commit r.epoch (place_in r.plan ino) items) none
    ∙ append-nil log)) is
point_shaped block log r ino true is (inr grows) =
    let more = entries_of r.commit r.epoch (place_in r.plan ino) (items_for r.plan ino) in
    left_whole block (log ++ more)
    (shape_more block log more (whole_shape block log (items_for r.plan ino) is grows)
    (subst (Grows block log) (sym (entries_items r.commit r.epoch (place_in r.plan ino) (items_for r.plan ino))) grows))

module _ (g : GeometryNumbers) (w : World) (known : IsKnown g w) (are : AreShaped w.numbers.block w.shared) where
  abbrev Shaped : Event → Type 0
  Shaped e = AreShaped w.numbers.block (step w e).world.shared

  kept_shaped : (e : Event) → keeps_nodes (plain_change_of w e) ≡ true → Shaped e
  kept_shaped e keeps =
      let k = known.reached in
      shapes_stay w e k.locks k.order k.kept k.apart keeps w.numbers.block are

  event_shaped : (e : Event) → Shaped e
  event_shaped = by_points w Shaped
      (λ actor granted r there is e ino.
      let k = known.reached in
      subst (IsLeftShaped w.numbers.block) (sym (point_settles w actor granted r k.locks k.kept k.grown there is e ino))
      (point_shaped w.numbers.block (settled w.shared ino) r ino (has (written_slots r) ino) (are ino)
      (grow_now g w known actor granted r is there e ino)))
      kept_shaped

pub all_shaped : (g : GeometryNumbers) (start : World) (records : List Record) (events : List Event) → IsStart g start records
    → AreShaped g.block (after start events).shared
all_shaped g start records events is_start =
    events_by (IsKnown g) (λ (v : World). AreShaped g.block v.shared) (λ v e known are.
    subst (λ (n : GeometryNumbers). AreShaped n.block (step v e).world.shared) known.numbers.numbers
    (event_shaped g v known (subst (λ (n : GeometryNumbers). AreShaped n.block v.shared) (sym known.numbers.numbers) are) e))
    events start (all_known g start records is_start) is_start.shaped

-- ---- a new world

pub new_shaped : (g : GeometryNumbers) → AreShaped g.block (formatted g).shared
new_shaped g ino = subst (IsLeftShaped g.block) (sym (new_settled g ino))
    (each_cell g (λ (c : CellState). IsLeftShaped g.block c.chain.entries)
    (left_whole g.block _ (record { lawful = (tt, tt); last = tt }))
    (λ block page generation. no_shape g.block) ino)
