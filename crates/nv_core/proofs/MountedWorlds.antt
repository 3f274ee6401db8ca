-- The world that a mount makes of an image without a fault, as one at rest.
use Rattle.std.proofs.Common.{◌≡◌, ◌∙◌, ℕ, List, None, ap, length, refl, replicate, subst, sym}
use Rattle.std.proofs.lemmas.List.{length-map}
use Rattle.std.proofs.lemmas.List.FromFn.{length-map-range_with_len}
use Rattle.nv_audit.specs.Faults.{FitsGeometry, IsFaultless}
use Rattle.nv_audit.specs.Image.{ImageValue}
use Rattle.nv_audit.specs.Mounted.{book_anew, cell_of, cells_of, lists_anew, pool_anew, records_anew}
use Rattle.nv_audit.specs.Records.{states_of}
use Rattle.nv_base.specs.Limits.{IsWithinLimits}
use Rattle.nv_base.specs.declared.fault.ImageFault.TheVariants as fault
use Rattle.nv_base.specs.declared.geometry.GeometryNumbers.{GeometryNumbers}
use Rattle.nv_cell.specs.Cell.{CellState, CellValue}
use Rattle.nv_machine.specs.Starts.{IsStart}
use Rattle.nv_machine.specs.World as machine
use Rattle.nv_mount.specs.Mount.{AreMounted}
use Rattle.nv_mount.specs.declared.mount.MountedParts.{MountedParts}
use Rattle.nv_restart.proofs.MountStops.{mounted_may_stop}
use Rattle.nv_restart.proofs.Start.{starts}
use Rattle.nv_restart.specs.Mounted.{mounted}
use Rattle.nv_restart.specs.Stops.{MayStop}
use Rattle.nv_core.specs.AtRest.{at_rest}
use Rattle.nv_parts.specs.declared.parts.Parts.{Parts}

-- the parts of a world are those that a mount made
pub record AreMade (parts : Parts) (made : MountedParts) : Type 0 where
  pub geometry : parts.geometry ≡ made.geometry
  pub cells : parts.cells ≡ made.cells.items
  pub lists : parts.lists ≡ made.lists.items
  pub pool : parts.pool ≡ made.pool
  pub book : parts.book ≡ made.book

module _ (image : ImageValue) (faultless : IsFaultless image) (parts : Parts) (made : MountedParts) (are : AreMade parts made)
    (is : AreMounted image made) (device : made.geometry.numbers ≡ image.numbers) where
  fits : FitsGeometry image
  fits = faultless fault.Geometry

  pub same_numbers : parts.geometry.numbers ≡ image.numbers
  same_numbers = ap (λ d. d.numbers) are.geometry ∙ device

  cells : states_of parts.cells ≡ cells_of image
  cells = ap states_of are.cells ∙ is.cells

  -- as many cells as slots
  pub cell_count : length parts.cells ≡ length image.slots
  cell_count =
      sym (length-map parts.cells (λ (c : CellValue). c.state)) ∙ ap (λ (cs : List CellState). length cs) cells
      ∙ length-map-range_with_len (cell_of image) 0 (length image.slots)

  -- THE WORLD AT REST of these parts is the one that a mount makes
  pub mounted_rest : at_rest parts ≡ mounted image
  mounted_rest =
      rest_made (at_rest parts) same_numbers
      (shared_made (at_rest parts).shared (are.lists ∙ is.lists) (are.pool ∙ is.pool) cells
      (ap (λ (n : ℕ). replicate n None) (cell_count ∙ fits.slots)) (ap (λ b. b.state) are.book ∙ is.book) refl)
      (ap (λ (g : GeometryNumbers). replicate g.actors machine.idle) same_numbers)
    where
      shared_made : (s : machine.Shared) → s.lists ≡ lists_anew image → s.pool ≡ pool_anew image → s.cells ≡ cells_of image
          → s.owners ≡ replicate image.numbers.inodes None → s.book ≡ book_anew image → s.holder ≡ None → s ≡ (mounted image).shared
      shared_made s lists pool cells owners book holder =
          let same : record { lists = s.lists; pool = s.pool; cells = s.cells; owners = s.owners; book = s.book; holder = s.holder }
          ≡ (mounted image).shared = rw (lists, pool, cells, owners, book, holder) refl in
          same

      rest_made : (w : machine.World) → w.numbers ≡ image.numbers → w.shared ≡ (mounted image).shared
          → w.actors ≡ (mounted image).actors → w ≡ mounted image
      rest_made w numbers shared actors =
          let same : record { numbers = w.numbers; shared = w.shared; actors = w.actors } ≡ mounted image =
          rw (numbers, shared, actors) refl in
          same

  limits : IsWithinLimits image.numbers
  limits = subst IsWithinLimits device made.geometry.limits

  -- where a run may start
  pub rest_starts : IsStart parts.geometry.numbers (at_rest parts) (records_anew image)
  rest_starts =
      subst (λ (w : machine.World). IsStart parts.geometry.numbers w (records_anew image)) (sym mounted_rest)
      (subst (λ (g : GeometryNumbers). IsStart g (mounted image) (records_anew image)) (sym same_numbers) (starts image limits faultless))

  -- and which may stop
  pub rest_stops : MayStop parts.geometry.numbers.block (at_rest parts).shared
  rest_stops =
      subst (λ (w : machine.World). MayStop parts.geometry.numbers.block w.shared) (sym mounted_rest)
      (subst (λ (g : GeometryNumbers). MayStop g.block (mounted image).shared) (sym same_numbers)
      (mounted_may_stop image limits faultless))
