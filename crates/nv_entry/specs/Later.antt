-- What entries of later epochs leave of an earlier epoch.
use Rattle.std.specs.Prelude.{◌≡◌, ℕ, ◌<◌, List}
use Rattle.std.specs.List.{AllByRecursion}
use Rattle.nv_entry.specs.declared.item.Entry.{Entry}
use Rattle.nv_entry.specs.Held.{holds}
use Rattle.nv_entry.specs.Index.{names_of, page_source}
use Rattle.nv_entry.specs.Keys.{Key}
use Rattle.nv_entry.specs.Laws.{pairs_where}
use Rattle.nv_entry.specs.Log.{up_to, value_at}
use Rattle.nv_entry.specs.Node.{node_at}

-- each of these entries is of a later epoch
abbrev pub AreAfter : ℕ → List Entry → Type 0
AreAfter epoch log = AllByRecursion (λ e. epoch < e.epoch) log

-- two logs say the same of an epoch, where `bytes` gives those of a block
pub record SameAtEpoch (bytes : ℕ → List ℕ) (block epoch : ℕ) (old new : List Entry) : Type 0 where
  -- the entries up to the epoch are the same
  pub entries : up_to epoch new ≡ up_to epoch old
  -- each key has the same value at the epoch
  pub value : (key : Key) → value_at block epoch new key ≡ value_at block epoch old key
  -- each page stands in the same entry and block at the epoch
  pub source : (page : ℕ) → page_source block (up_to epoch new) page ≡ page_source block (up_to epoch old) page
  -- the same names are bound at the epoch, in the same order
  pub names : names_of (up_to epoch new) ≡ names_of (up_to epoch old)
  -- the same pairs live at the epoch, by name and in order; later deaths may come
  pub held : pairs_where (holds epoch) block new ≡ pairs_where (holds epoch) block old
  -- the node at the epoch is the same
  pub node : node_at bytes block epoch new ≡ node_at bytes block epoch old
