-- A book: the value behind the commit lock, and how each call changes it.
use Rattle.std.specs.Prelude.{◌≡◌, ℕ, ◌+◌, ◌-◌, ◌≤◌, List, [], ◌∷◌, ◌++◌, drop, length, map, replicate, slice_set, Option, Some, None}
use Rattle.nv_base.specs.declared.geometry.GeometryNumbers.{GeometryNumbers}
use Rattle.nv_base.specs.declared.limits.TheConstants.{NUMBER}
use Rattle.nv_epoch.specs.Holders.{next_older}
use Rattle.nv_epoch.specs.SnapList.{Snapshots, ids, after_making, after_removal, after_pin, after_unpin, unpinned}
use Rattle.nv_journal.specs.declared.old_tail.OldTail.{OldTail}
use Rattle.nv_book.specs.declared.event.Event.{Event}
use Rattle.nv_book.specs.declared.event.Event.TheVariants.{Committed, Made, Dropped}
use Rattle.nv_book.specs.declared.history.TheConstants.{LATEST}
use Rattle.nv_book.specs.declared.manifest.Manifest.{Manifest}
use Rattle.nv_book.specs.declared.record.Record.{Record}
use Rattle.nv_book.specs.declared.retired.Retired.{Retired}
use Rattle.nv_book.specs.declared.retired.Retired.TheVariants.{Kept, Free}
use Rattle.nv_book.specs.History.{Account, IsHistory, noted, state_now}
use Rattle.nv_book.specs.Listed.{manifest_told}
use Rattle.nv_book.specs.Manifests.{AreFiled, AreDead, put_to, records_at, after_drop, after_make}
use Rattle.nv_book.specs.Records.{holder_of, let_go}
use Rattle.nv_book.specs.Store.{Store}

-- what clauses see of a book, except for its room
pub record BookState : Type 0 where
  -- the living snapshots with their pins, and the current epoch
  pub snaps : Snapshots
  -- the number of the last commit
  pub commit : ℕ
  -- a manifest for each living snapshot, oldest first
  pub manifests : List Manifest
  -- the deferred records: no living snapshot holds them, and they wait for a `drain`
  pub deferred : List Record
  -- what the journal of each CPU has noted; nothing while it is closed
  pub journals : List (List OldTail)
  -- the latest events, after a base
  pub history : Account

-- a book with its room
pub record BookValue : Type 0 where
  -- its snapshots, its records, its journals and its history
  pub state : BookState
  -- how many records may be put without memory
  pub room : ℕ

-- the book of a device without snapshots and records, in this epoch and after this commit
abbrev pub empty_book : GeometryNumbers → ℕ → ℕ → BookState
empty_book numbers epoch commit = record {
  snaps = record { living = []; epoch = epoch; most = numbers.snaps };
  commit = commit;
  manifests = [];
  deferred = [];
  journals = replicate numbers.cpus [];
  history = record { base = record { epoch = epoch; commit = commit; living = [] }; latest = [] };
}

-- a book that begins in this epoch, after this commit, with these
-- living snapshots, none of which is pinned.
-- One list of records tells its manifests. Nothing is deferred, and no journal is open.
abbrev pub book_told : GeometryNumbers → List ℕ → ℕ → ℕ → List Record → BookState
book_told numbers living epoch commit records = record {
  snaps = record { living = map unpinned living; epoch = epoch; most = numbers.snaps };
  commit = commit;
  manifests = map (manifest_told living records) living;
  deferred = [];
  journals = replicate numbers.cpus [];
  history = record { base = record { epoch = epoch; commit = commit; living = living }; latest = [] };
}

-- a book is that of a device
pub record IsBookOf (g : GeometryNumbers) (b : BookState) : Type 0 where
  -- there is a journal for each CPU
  pub journals : length b.journals ≡ g.cpus
  -- as many snapshots may live as the device allows
  pub most : b.snaps.most ≡ g.snaps

-- the book with one more event in its history
abbrev pub with_event : Event → BookState → BookState
with_event event b = record b { history = noted LATEST b.history event }

-- the book after one more commit, which that seat makes
abbrev pub after_enter : ℕ → BookState → BookState
after_enter seat b = with_event (Committed seat (b.commit + 1) b.snaps.epoch) (record b { commit = b.commit + 1 })

-- the book once a record was retired: it stands at the end of the manifest of
-- its youngest living holder, if it has one
abbrev pub after_retire : Record → BookState → BookState
after_retire r b = record b { manifests = put_to (holder_of (ids b.snaps) r) (r ∷ []) b.manifests }

-- the book once records were retired, one after the other
abbrev pub after_retiring : List Record → BookState → BookState
after_retiring [] b = b
after_retiring (r ∷ rs) b = after_retiring rs (after_retire r b)

-- what becomes of a retired part: one with a living holder is kept, and one without is free
abbrev pub retired_as : Option ℕ → Retired
retired_as (Some s) = Kept
retired_as None = Free

-- the room for records that is left: a kept record uses up room, and a free part does not
abbrev pub room_after : Retired → ℕ → ℕ
room_after Kept room = room - 1
room_after Free room = room

-- the book once a snapshot was made of the current epoch: its
-- manifest is empty, and the next epoch has begun
abbrev pub after_make_snapshot : BookState → BookState
after_make_snapshot b = with_event (Made b.snaps.epoch) (record b {
  snaps = after_making b.snaps;
  manifests = after_make b.snaps.epoch b.manifests;
})

-- the book once the snapshot `s` was dropped. Its records that the next older snapshot holds go to
-- the end of that one's manifest, and the others to the end of the deferred ones, all in order.
-- Example (a record moves down): with 1 and 2 living, page 0 of an entry born in epoch 1 dies in
-- epoch 3. Its record stands in the manifest of 2. Both hold it, and neither has a gain. Once 2 is
-- dropped it stands with 1, whose gain is 1. Once 1 is dropped too it is deferred.
abbrev pub after_drop_snapshot : ℕ → BookState → BookState
after_drop_snapshot s b = with_event (Dropped s) (record b {
  snaps = after_removal b.snaps s;
  manifests = after_drop s (next_older (ids b.snaps) s) b.manifests;
  deferred = b.deferred ++ let_go (next_older (ids b.snaps) s) (records_at s b.manifests);
})

-- the book once a snapshot got a pin
abbrev pub after_pin_snapshot : ℕ → BookState → BookState
after_pin_snapshot s b = record b { snaps = after_pin b.snaps s }

-- the book once a snapshot lost a pin
abbrev pub after_unpin_snapshot : ℕ → BookState → BookState
after_unpin_snapshot s b = record b { snaps = after_unpin b.snaps s }

-- the book without its first deferred record
abbrev pub after_pick : BookState → BookState
after_pick b = record b { deferred = drop 1 b.deferred }

-- the book once this CPU's journal has noted these tails
abbrev pub with_journal : ℕ → List OldTail → BookState → BookState
with_journal cpu tails b = record b { journals = slice_set b.journals cpu tails }

-- what holds of each book
pub record IsBook (snaps : Snapshots) (commit : ℕ) (store : Store) (latest : List Event) : Type 0 where
  -- each record stands with its youngest living holder, or is deferred
  pub filed : AreFiled (ids snaps) store.manifests store.deferred
  -- each record died in the current epoch or before
  pub dead : AreDead snaps.epoch store.manifests store.deferred
  -- the latest events are legal after their base, and lead to what is now
  pub history : IsHistory snaps.most (state_now snaps commit) latest
  -- the commit number is at most 2^62
  pub commit_fits : commit ≤ NUMBER
  -- there is a place for as many manifests as snapshots may live
  pub places_fit : snaps.most ≤ store.most
