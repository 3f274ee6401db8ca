-- What a store of records is: manifests, the deferred list, and room.
use Rattle.std.specs.Prelude.{◌≡◌, ℕ, ◌+◌, ◌≤◌, List, [], ◌∷◌, length}
use Rattle.nv_base.specs.declared.limits.TheConstants.{NUMBER}
use Rattle.nv_book.specs.declared.manifest.Manifest.{Manifest}
use Rattle.nv_book.specs.declared.record.Record.{Record}
use Rattle.nv_book.specs.Manifests.{record_count, run_total}
use Rattle.nv_book.specs.Records.{run_count_of}

-- what clauses see of a record store
pub record Store : Type 0 where
  -- the manifests of the living snapshots, oldest first
  pub manifests : List Manifest
  -- how many manifests there may be
  pub most : ℕ
  -- the records that no living snapshot holds
  pub deferred : List Record
  -- how many records may be put without memory
  pub room : ℕ

-- how many spare nodes so much room wants: one for each record where a snapshot lives, and none where none does, since no
-- record is put then
abbrev pub nodes_wanted : List Manifest → ℕ → ℕ
nodes_wanted [] room = 0
nodes_wanted (m ∷ ms) room = room

-- the fields of a record store fit one another
pub record IsStore (store : Store) (count spare capacity : ℕ) : Type 0 where
  -- the count is how many records there are, the deferred ones too
  pub counted : record_count store.manifests + length store.deferred ≡ count
  -- the records, with those that want a node, are at most 2^62
  pub fits : count + nodes_wanted store.manifests store.room ≤ NUMBER
  -- there is a spare node for each record that wants one
  pub has_nodes : nodes_wanted store.manifests store.room ≤ spare
  -- all nodes, those of the record runs and the spare ones, are at most 2^62
  pub nodes_fit : run_total store.manifests + run_count_of store.deferred + spare ≤ NUMBER
  -- there is room for as many manifests as there may be
  pub has_places : store.most ≤ capacity
