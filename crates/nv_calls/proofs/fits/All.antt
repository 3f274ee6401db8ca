-- Each call that is not refused has a plan with its effect.
use Rattle.std.proofs.Common.{◌≡◌, ℕ, ◌<◌, List, Option}
use Rattle.nv_base.specs.declared.node.Kind.TheVariants.{File, Dir}
use Rattle.nv_base.specs.declared.numbers.Handle.{Handle}
use Rattle.nv_entry.specs.declared.node.NodeCopy.{NodeCopy}
use Rattle.nv_entry.specs.Sound.{IsSound}
use Rattle.nv_calls.specs.AllCalls.{IsReady, effect, plan, refusal}
use Rattle.nv_calls.specs.declared.allocation.Allocation.{Allocation}
use Rattle.nv_calls.specs.declared.call.Call.{Call}
use Rattle.nv_calls.specs.declared.call.Call.TheVariants as call
use Rattle.nv_calls.specs.Plain.{node_in}
use Rattle.nv_calls.specs.Refusals.{passes}
use Rattle.nv_calls.specs.Slots.{IsPlan, InodeSlot, node_under}
use Rattle.nv_calls.proofs.Items.{no_plan}
use Rattle.nv_calls.proofs.fits.Create.{create_fits}
use Rattle.nv_calls.proofs.fits.Mode.{mode_fits}
use Rattle.nv_calls.proofs.fits.Rename.{rename_fits}
use Rattle.nv_calls.proofs.fits.Size.{size_fits}
use Rattle.nv_calls.proofs.fits.Unlink.{rmdir_fits, unlink_fits}
use Rattle.nv_calls.proofs.fits.Write.{write_fits}

module _ (bytes : ℕ → List ℕ) (block : ℕ) (slots : ℕ → InodeSlot) (taken : Allocation) (some : 0 < block)
    (sound : (ino : ℕ) → IsSound bytes block (slots ino).log) where
  abbrev nodes : Handle → Option NodeCopy
  nodes = node_in (node_under bytes block slots)

  pub call_fits : (c : Call) → refusal block nodes c ≡ passes → IsReady bytes block slots nodes taken c
      → IsPlan bytes block slots (plan block nodes taken c) (effect nodes taken.made c)
  call_fits (call.Create dir name mode) h r = create_fits bytes block slots File dir name mode taken.made some h r
  call_fits (call.Mkdir dir name mode) h r = create_fits bytes block slots Dir dir name mode taken.made some h r
  call_fits (call.Write file offset text) h r = write_fits bytes block slots some file offset taken.runs text h r.filled
  call_fits (call.Size file size) h r = size_fits bytes block slots file size taken some (sound file.ino) h r
  call_fits (call.Mode handle mode) h r = mode_fits bytes block slots handle mode some h
  call_fits (call.Unlink dir name) h r = unlink_fits bytes block slots some dir name h
  call_fits (call.Rmdir dir name) h r = rmdir_fits bytes block slots some dir name h
  call_fits (call.Rename from old to new) h r = rename_fits bytes block slots some from old to new h
  call_fits (call.Read file offset count) h r = no_plan bytes block slots some
  call_fits (call.Stat handle) h r = no_plan bytes block slots some
  call_fits (call.List dir) h r = no_plan bytes block slots some
  call_fits (call.Lookup dir name) h r = no_plan bytes block slots some
  call_fits (call.SnapshotOrCleaner c) h r = no_plan bytes block slots some
