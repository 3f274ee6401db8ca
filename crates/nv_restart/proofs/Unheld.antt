-- Of a log of which no living snapshot holds a pair, a living snapshot has no node.
use Rattle.std.proofs.Common.{◌≡◌, ℕ, ◌<◌, ◌∙◌, false, List, Option, Some, None, IsSome, ap, arith, refl, sym}
use Rattle.std.specs.Prelude.{slice_get}
use Rattle.std.specs.List.{Contains, list_any}
use Rattle.std.specs.Option.{is_some}
use Rattle.std.proofs.lemmas.Bool.{false≢true, true≢false}
use Rattle.nv_cell.proofs.Numbers.{scan_key, scan_n, total_append}
use Rattle.nv_entry.specs.Covered.{part_total}
use Rattle.nv_entry.specs.Held.{is_held}
use Rattle.nv_entry.specs.Keys.{KindKey}
use Rattle.nv_entry.specs.Log.{IsLog, last_setting, pairs, up_to, value_now}
use Rattle.nv_entry.specs.Node.{node_now, node_of_kind}
use Rattle.nv_entry.specs.declared.held.Pair.{Pair}
use Rattle.nv_entry.specs.declared.item.Entry.{Entry}
use Rattle.nv_entry.specs.declared.key.Datum.{Datum}
use Rattle.nv_machine.proofs.CopyMarks.{lives_then}
use Rattle.nv_machine.proofs.EpochLogs.{scanned_uncovered, some_scanned, splits, unset}
use Rattle.nv_machine.proofs.Pairs.{pair_there}
use Rattle.nv_restart.proofs.KindsOfLogs.{any_held, held_by_one}

module _ (living : List ℕ) (epoch block : ℕ) (log : List Entry) (is : IsLog log)
    (lives : Contains living epoch)
    (unheld : list_any (is_held living) (pairs block log) ≡ false) where
  -- a part that gives the kind would be of a pair that the snapshot holds
  no_part : (n : ℕ) → scan_n block (up_to epoch log) KindKey ≡ Some n → ⊥
  no_part n found =
      go (slice_get (pairs block log) n) refl (pair_there block log n is within) where
        low : n < part_total (up_to epoch log)
        low = (scan_key block (up_to epoch log) KindKey n found).0

        within : n < part_total log
        within =
            let s = splits epoch log is in
            omega (arith, low, ap part_total (sym s.is), total_append (up_to epoch log) s.rest)

        go : (o : Option Pair) → slice_get (pairs block log) n ≡ o → IsSome o → ⊥
        go None e there = false≢true there
        go (Some pair) e there =
            let held =
            held_by_one living epoch pair lives
            (lives_then epoch block log is n low
            (scanned_uncovered block (up_to epoch log) KindKey n found) pair e) in
            true≢false (sym (any_held living (pairs block log) n pair e held) ∙ unheld)

  pub no_kind : value_now block (up_to epoch log) KindKey ≡ None
  no_kind = go (scan_n block (up_to epoch log) KindKey) refl where
    go : (o : Option ℕ) → scan_n block (up_to epoch log) KindKey ≡ o
        → value_now block (up_to epoch log) KindKey ≡ None
    go None none =
        unset (last_setting block (up_to epoch log) KindKey)
        (λ some.
        false≢true (sym (ap (λ (o : Option ℕ). is_some o) none)
        ∙ some_scanned block (up_to epoch log) KindKey some))
    go (Some n) found = absurd (no_part n found)

  pub no_node : (bytes : ℕ → List ℕ) → node_now bytes block (up_to epoch log) ≡ None
  no_node bytes =
      ap (λ (o : Option Datum). node_of_kind o bytes block (up_to epoch log)) no_kind
