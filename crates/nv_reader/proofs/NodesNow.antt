-- The node now, by what an index tells of it.
use Rattle.std.proofs.Common.{◌≡◌, ℕ, List, [], ◌∷◌, ◌-◌, ◌<◌, length, zero, suc, Option, Some, None, IsSome, arith, refl, take, take-take}
use Rattle.std.specs.Prelude.{option_and_then, slice_get}
use Rattle.std.specs.Option.{option_map}
use Rattle.nv_base.specs.declared.node.Kind.{Kind}
use Rattle.nv_entry.specs.declared.item.Entry.{Entry}
use Rattle.nv_entry.specs.declared.key.Datum.{Datum}
use Rattle.nv_entry.specs.declared.key.Datum.TheVariants as datum
use Rattle.nv_entry.specs.declared.node.NodeCopy.{NodeCopy}
use Rattle.nv_entry.specs.Bytes.{read_at}
use Rattle.nv_entry.specs.Index.{names_of}
use Rattle.nv_entry.specs.Keys.{KindKey}
use Rattle.nv_entry.specs.Log.{value_now}
use Rattle.nv_entry.specs.Node.{file_bytes, node_now, node_of_kind, size_now}
use Rattle.nv_entry.specs.Stored.{kind_in, stored}
use Rattle.nv_cell.specs.Reading.{stat_by, stat_now}
use Rattle.nv_cell.specs.declared.stat.Stat.{Stat}
use Rattle.nv_log.specs.Chain.{last_of}

-- as many bytes as there are at most are all
pub whole_read : (size : ℕ) (text : List ℕ) → read_at 0 size (take size text) ≡ take size text
whole_read size text = take-take size size text (omega arith)

some_at : {X : Type 0} (xs : List X) (i : ℕ) → i < length xs → IsSome (slice_get xs i)
some_at [] i lt = absurd (omega arith)
some_at (x ∷ xs) zero lt = refl
some_at (x ∷ xs) (suc i) lt = some_at xs i (omega (arith, lt))

abbrev pub told : Stat → (ℕ → List ℕ) → ℕ → List Entry → NodeCopy
told stat bytes block log =
    record { kind = stat.kind; mode = stat.mode; size = stat.size; bytes = file_bytes bytes block log; names = names_of log }

-- what a log tells of its inode is that of its node
pub node_told : (bytes : ℕ → List ℕ) (block : ℕ) (log : List Entry)
    → node_now bytes block log ≡ option_map (λ stat. told stat bytes block log) (stat_now block log)
node_told bytes block [] = refl
node_told bytes block (e ∷ later) = go (value_now block log KindKey) (last_of log) (some_at log (length log - 1) (omega arith)) where
  log : List Entry
  log = e ∷ later

  go : (kind : Option Datum) (last : Option Entry) → IsSome last
      → node_of_kind kind bytes block log
      ≡ option_map (λ stat. told stat bytes block log)
      (option_and_then (λ k. option_map (stat_by block log k) last) (option_and_then kind_in kind))
  go None last some = refl
  go (Some (datum.Kind kind)) (Some x) some = refl
  go (Some (datum.Kind kind)) None some = cc
  go (Some (datum.Mode mode)) last some = refl
  go (Some (datum.Size size)) last some = refl
  go (Some (datum.Node to)) last some = refl
  go (Some (datum.Block number)) last some = refl

-- the size that a log tells
pub size_told : (block : ℕ) (log : List Entry) (stat : Stat) → stat_now block log ≡ Some stat → stat.size ≡ size_now block log
size_told block log stat is = kinds (stored block log).kind is where
  lasts : (kind : Kind) (last : Option Entry) → option_map (stat_by block log kind) last ≡ Some stat → stat.size ≡ size_now block log
  lasts kind None h = cc
  lasts kind (Some e) h = cc

  kinds : (kind : Option Kind) → option_and_then (λ k. option_map (stat_by block log k) (last_of log)) kind ≡ Some stat
      → stat.size ≡ size_now block log
  kinds None h = cc
  kinds (Some k) h = lasts k (last_of log) h
