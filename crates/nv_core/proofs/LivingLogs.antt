-- In every world a living snapshot can be shown, and its nodes by the logs are those by the settled logs.
use Rattle.std.proofs.Common.{◌≡◌, ℕ, ◌∙◌, ap, subst, sym}
use Rattle.std.specs.List.{Contains}
use Rattle.nv_base.specs.declared.geometry.GeometryNumbers.{GeometryNumbers}
use Rattle.nv_cell.specs.Cell.{log_of}
use Rattle.nv_entry.specs.Log.{up_to}
use Rattle.nv_epoch.specs.SnapList.{ids}
use Rattle.nv_machine.specs.Step.{after}
use Rattle.nv_machine.specs.World as machine
use Rattle.nv_machine.specs.World.{Shared, cell_at}
use Rattle.nv_reader.specs.Cells.{NoneOut}
use Rattle.nv_core.proofs.HeldPages.{none_out_at, settled_at}
use Rattle.nv_core.proofs.SettledLogs.{has_own_bytes}
use Rattle.nv_core.specs.Settled.{AreSettledAt}
use Rattle.nv_core.specs.Shown.{shared_of}
use Rattle.nv_core.specs.Steps.{CanShow}
use Rattle.nv_core.specs.Worlds.{IsWorld, WorldState}

module _ (w : WorldState) (is : IsWorld w) (epoch : ℕ) (lives : Contains (ids w.shared.book.state.snaps) epoch) where
  abbrev g : GeometryNumbers
  g = w.shared.geometry.numbers

  same : shared_of w.shared ≡ (after is.1.start is.1.events).shared
  same = is.2.shows.shared ∙ ap (λ (m : machine.World). m.shared) is.2.reached

  there : Contains (ids (after is.1.start is.1.events).shared.book.snaps) epoch
  there = subst (λ (s : Shared). Contains (ids s.book.snaps) epoch) same lives

  pub can_show : CanShow w.shared epoch
  can_show = record {
    own = has_own_bytes w is;
    pages = subst (λ (s : Shared). (ino : ℕ) → NoneOut (cell_at s ino) (up_to epoch (log_of (cell_at s ino)))) (sym same)
        (none_out_at g is.1.start is.1.records is.1.events is.2.is_start epoch there);
  }

  pub settled_then : AreSettledAt epoch (shared_of w.shared)
  settled_then = subst (AreSettledAt epoch) (sym same) (settled_at g is.1.start is.1.records is.1.events is.2.is_start epoch there)
