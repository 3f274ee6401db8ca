-- A world that a mount makes of an image without a fault may stop, and so may a new one.
use Rattle.std.proofs.Common.{◌≡◌, ℕ, zero, suc, ◌<◌, ◌∙◌, true, List, [], ◌∷◌, None, ap, arith, length, not, refl, subst, sym, take}
use Rattle.std.specs.List.{list_any}
use Rattle.std.proofs.lemmas.Bool.{and_parts, false≢true}
use Rattle.std.proofs.lemmas.List.{length-map}
use Rattle.std.proofs.lemmas.List.FromFn.{length-map-range_with_len}
use Rattle.nv_audit.specs.DeviceParts.{IsInRange}
use Rattle.nv_alloc.specs.Block.{BlockValue}
use Rattle.nv_audit.specs.Faults.{FitsGeometry, IsFaultless}
use Rattle.nv_audit.specs.Image.{ImageValue, slot_of}
use Rattle.nv_audit.specs.Mounted.{cell_of, cut_log, tail_of}
use Rattle.nv_epoch.specs.SnapList.{unpinned}
use Rattle.nv_base.specs.Limits.{IsWithinLimits}
use Rattle.nv_base.specs.declared.fault.ImageFault.TheVariants as fault
use Rattle.nv_base.specs.declared.geometry.GeometryNumbers.{GeometryNumbers}
use Rattle.nv_cell.specs.Cell.{CellState, log_of}
use Rattle.nv_cell.specs.Readers.{has_entry, is_gone}
use Rattle.nv_entry.specs.Held.{is_held}
use Rattle.nv_entry.specs.Log.{pairs}
use Rattle.nv_entry.specs.Shape.{AreLawful, items_of}
use Rattle.nv_entry.specs.declared.item.Entry.{Entry}
use Rattle.nv_log.specs.Image.{cut_ends}
use Rattle.nv_machine.proofs.NewWorld.{each_cell, new_cell, new_settled, none_closed}
use Rattle.nv_machine.specs.Format.{formatted}
use Rattle.nv_restart.proofs.Faultless.{at_slot, sized_in}
use Rattle.nv_restart.proofs.JudgedLogs.{settled_is}
use Rattle.nv_restart.proofs.Slots.{by_cell, cell_there}
use Rattle.nv_restart.proofs.Start.{cut_early}
use Rattle.nv_restart.specs.Mounted.{mounted}
use Rattle.nv_restart.specs.Stops.{AreHeldLawful, AreInRange, MayStop}

none_taken : (n : ℕ) → take {A = BlockValue} n [] ≡ []
none_taken zero = refl
none_taken (suc n) = refl

gone_entry : (log : List Entry) → is_gone log ≡ true → has_entry log ≡ true
gone_entry [] gone = absurd (false≢true gone)
gone_entry (e ∷ log) gone = refl

-- ---- a mount

module _ (image : ImageValue) (limits : IsWithinLimits image.numbers)
    (faultless : IsFaultless image) where
  abbrev g : GeometryNumbers
  g = image.numbers

  fits : FitsGeometry image
  fits = faultless fault.Geometry

  slot_range : (ino : ℕ) → ino < length image.slots → IsInRange (cell_of image ino)
  slot_range ino lt =
      by_cell IsInRange g image.snapshots (tail_of image ino) (slot_of image ino)
      (λ over.
      let gone = (and_parts (is_gone (cut_log image ino))
      (not (list_any (is_held image.snapshots) (pairs g.block (cut_log image ino)))) over).0 in
      let low =
      cut_early image limits faultless ino lt (gone_entry (cut_log image ino) gone) in
      record { some = omega arith; most = omega (arith, low); last = λ same. refl })
      (λ left.
      let fit = sized_in image limits faultless ino lt in
      record {
        some = fit.some;
        most = fit.most;
        last = λ same.
            let pages = length (cut_ends (tail_of image ino) (slot_of image ino).chain.ends) in
            ap (λ (l : List BlockValue). take pages l) (fit.last same) ∙ none_taken pages;
      })

  ranges : AreInRange (mounted image).shared
  ranges ino lt =
      let inside : ino < length image.slots =
      omega (arith, lt, length-map-range_with_len (cell_of image) 0 (length image.slots)) in
      subst IsInRange (sym (cell_there image ino inside)) (slot_range ino inside)

  held : AreHeldLawful g.block (mounted image).shared
  held ino some =
      subst (λ (l : List Entry). AreLawful g.block (items_of l) None)
      (sym (settled_is (mounted image).shared ino (none_closed g.cpus)))
      (at_slot image limits faultless
      (λ (n : ℕ) (c : CellState). AreLawful g.block (items_of (log_of c)) None) ino tt
      (λ lt. ((faultless fault.Item).logs ino lt).shaped.lawful))

  pub mounted_may_stop : MayStop g.block (mounted image).shared
  mounted_may_stop = record {
    snapshots = record {
      few =
          let few = fits.snapshots in
          omega (arith, few, length-map image.snapshots unpinned);
      some = fits.some_epoch;
      most = fits.epoch;
    };
    generations = ranges;
    held = held;
  }

-- ---- a new world

module _ (g : GeometryNumbers) where
  new_ranges : AreInRange (formatted g).shared
  new_ranges =
      new_cell g (λ (n : ℕ) (c : CellState). n < length (formatted g).shared.cells → IsInRange c)
      (λ lt. record {
        some = omega arith;
        most = omega arith;
        last = λ same. absurd (omega (arith, same));
      })
      (λ n lt. record { some = omega arith; most = omega arith; last = λ same. refl })
      (λ n past lt. absurd (omega (arith, past, lt)))

  new_held : AreHeldLawful g.block (formatted g).shared
  new_held ino some =
      subst (λ (l : List Entry). AreLawful g.block (items_of l) None) (sym (new_settled g ino))
      (each_cell g (λ (c : CellState). AreLawful g.block (items_of c.chain.entries) None) (tt, tt)
      (λ block page generation. tt) ino)

  pub new_may_stop : MayStop g.block (formatted g).shared
  new_may_stop = record {
    snapshots = record { few = omega arith; some = omega arith; most = omega arith };
    generations = new_ranges;
    held = new_held;
  }
