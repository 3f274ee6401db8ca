-- Calls of which what they append hangs on what their names lead to.
use Rattle.std.specs.Prelude.{Bool, true, false}
use Rattle.nv_calls.specs.declared.update.Update.{Update}
use Rattle.nv_calls.specs.declared.update.Update.TheVariants as update

-- whether what a call appends hangs on what its names lead to
abbrev pub goes_by_names : Update → Bool
goes_by_names (update.Unlink dir name) = true
goes_by_names (update.Rmdir dir name) = true
goes_by_names (update.Rename from old to new) = true
goes_by_names other = false
