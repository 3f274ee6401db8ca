-- How the kinds of inodes change along their logs.
use Rattle.std.specs.Prelude.{◌≡◌, ℕ, ◌<◌, ◌++◌, ◌||◌, Bool, if◌then◌else◌, nat_le, List, [], ◌∷◌, length, Option, None, Some, slice_index_or}
use Rattle.std.specs.List.{flat_map, list_any}
use Rattle.nv_base.specs.declared.node.Kind.{Kind}
use Rattle.nv_entry.specs.Refs.{is_bind}
use Rattle.nv_entry.specs.declared.item.Entry.{Entry}
use Rattle.nv_entry.specs.declared.item.Item.{Item}
use Rattle.nv_entry.specs.declared.item.Item.TheVariants.{Init, Gone}
use Rattle.nv_audit.specs.Logged.{LoggedValue}
use Rattle.nv_audit.specs.declared.histories.History.{History}
use Rattle.nv_audit.specs.declared.histories.KindChange.{KindChange}

-- the change of kind that an item makes from an epoch on, if it makes one
abbrev pub changes_by : ℕ → Item → List KindChange
changes_by epoch (Init kind mode) = record { epoch = epoch; kind = Some kind } ∷ []
changes_by epoch Gone = record { epoch = epoch; kind = None } ∷ []
changes_by epoch item = []

-- the changes of kind along a log, in order
abbrev pub changes_of : List Entry → List KindChange
changes_of log = flat_map (λ (e : Entry). changes_by e.epoch e.item) log

-- the kind at an epoch after one more change, where the kind was `before`
abbrev pub kind_after : ℕ → KindChange → Option Kind → Option Kind
kind_after epoch change before = if nat_le change.epoch epoch then change.kind else before

-- the kind at an epoch after several changes, where the kind was `before`
abbrev pub kind_from : ℕ → List KindChange → Option Kind → Option Kind
kind_from epoch [] before = before
kind_from epoch (change ∷ changes) before = kind_from epoch changes (kind_after epoch change before)

-- the kind at an epoch, by all changes of a log
abbrev pub kind_at : ℕ → List KindChange → Option Kind
kind_at epoch changes = kind_from epoch changes None

-- an entry of the log binds a name
abbrev pub binds_any : List Entry → Bool
binds_any log = list_any (λ (e : Entry). is_bind e.item) log

-- a history has one more entry
pub record AddsEntry (e : Entry) (old new : History) : Type 0 where
  -- a change that the entry makes stands behind the others
  pub kinds : new.kinds.items ≡ old.kinds.items ++ changes_by e.epoch e.item
  -- the log binds a name where it did so before, or this entry does
  pub binds : new.binds ≡ (old.binds || is_bind e.item)

-- THE HISTORY OF A LOG
pub record IsHistoryBy (log : List Entry) (history : History) : Type 0 where
  -- it has the changes of kind along the log, in order
  pub kinds : history.kinds.items ≡ changes_of log
  -- it tells whether the log binds any name
  pub binds : history.binds ≡ binds_any log

-- the histories of some logs
pub record AreHistories (logs : List LoggedValue) (histories : List History) : Type 0 where
  -- there is a history for each log
  pub len : length histories ≡ length logs
  -- the n-th history is that of the n-th log
  pub each : (n : ℕ) (l : LoggedValue) (history : History) → n < length logs
      → IsHistoryBy (slice_index_or logs n l).log (slice_index_or histories n history)
