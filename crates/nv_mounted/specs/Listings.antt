-- The directories that are open, and how their names are listed.
use Rattle.std.specs.Prelude.{ℕ, zero, suc, ◌+◌, ◌-◌, ◌&&◌, Bool, true, false, if◌then◌else◌, not, nat_le, nat_lt, List, [], ◌∷◌, ◌++◌, codes, length, drop, filter, slice_index_or, slice_set, Ok}
use Rattle.std.specs.List.{position_or_len}
use Rattle.nv_base.specs.Names.{same_name}
use Rattle.nv_base.specs.declared.node.Kind.{Kind}
use Rattle.nv_base.specs.declared.node.Kind.TheVariants as kinds
use Rattle.nv_base.specs.declared.numbers.Handle.{Handle}
use Rattle.nv_calls.specs.declared.call.Call.TheVariants as calls
use Rattle.nv_entry.specs.declared.names.BoundName.{BoundName}
use Rattle.nv_fuse.specs.Replies.{listed_bytes}
use Rattle.nv_fuse.specs.declared.directory.ListedKind.{ListedKind}
use Rattle.nv_fuse.specs.declared.directory.ListedKind.TheVariants as listed
use Rattle.nv_fuse.specs.declared.errno.Errno.TheVariants as errno
use Rattle.nv_mount_answers.specs.Nodes.{is_root}
use Rattle.nv_mount_beside.specs.Names.{hidden, node_named, number_of, refused}
use Rattle.nv_mount_beside.specs.declared.outcome.Outcome.{Outcome}
use Rattle.nv_mount_beside.specs.declared.outcome.Outcome.TheVariants as outcomes
use Rattle.nv_mounted.specs.Asks.{ask, ask_shape, names_told}
use Rattle.nv_mounted.specs.Dialogues.{Dialogue, Ends, Grows, ◌>>=◌, ask_each}
use Rattle.nv_mounted.specs.Talks.{is_file}
use Rattle.nv_mounted.specs.declared.directories.Open.{Open}
use Rattle.nv_mounted.specs.declared.directories.Open.TheVariants.{Closed, Unread, Read}
use Rattle.nv_mounted.specs.declared.listing.Named.{Named}
use Rattle.nv_mounted.specs.declared.side.Side.{Side}

-- ---- the bytes of a listing

-- the bytes of a name with the offset behind it; a name of more than 255 bytes has none
abbrev pub bytes_of_name : ℕ → Named → List ℕ
bytes_of_name offset named =
    if nat_lt 255 (length named.name) then []
    else listed_bytes (record {
      inode = named.node;
      offset = offset;
      kind = named.kind;
      name = record { ref_ptr = (0, 0); now = named.name };
    })

-- the bytes of names in order, the first with this offset behind it, until there is no more room
abbrev pub listed_names : ℕ → ℕ → List Named → List ℕ
listed_names room offset [] = []
listed_names room offset (named ∷ names) =
    let bytes = bytes_of_name offset named in
    if nat_le (length bytes) room
    then bytes ++ listed_names (room - length bytes) (offset + 1) names
    else []

-- the bytes that list names from an offset on, which tells how many names were listed before
abbrev pub listed_from : ℕ → ℕ → List Named → List ℕ
listed_from offset room names = listed_names room (offset + 1) (drop offset names)

-- ---- the directories that are open, by their numbers

abbrev pub is_closed : Open → Bool
is_closed Closed = true
is_closed Unread = false
is_closed (Read names) = false

-- its names were read
abbrev pub is_read : Open → Bool
is_read Closed = false
is_read Unread = false
is_read (Read names) = true

-- what is open under a number
abbrev pub open_under : ℕ → List Open → Open
open_under number rows = slice_index_or rows number Closed

-- this stands under a number from now on; a number that was never given stands for nothing
abbrev pub with_open : ℕ → Open → List Open → List Open
with_open number there rows = slice_set rows number there

-- the lowest number under which no directory is open
abbrev pub lowest_free : List Open → ℕ
lowest_free rows = position_or_len is_closed rows

-- one more directory is open, under the lowest free number
abbrev pub with_one_more : List Open → List Open
with_one_more rows =
    if nat_lt (lowest_free rows) (length rows) then with_open (lowest_free rows) Unread rows
    else rows ++ Unread ∷ []

-- a directory is open once more
abbrev pub open_one : Side → Dialogue (Outcome × Side)
open_one side =
    Grows (Ends (Ok (
      outcomes.Opened (record { file = lowest_free side.directories; flags = 0 }),
      record side { directories = with_one_more side.directories },
    )))

-- open a directory
abbrev pub open_directory : Side → ℕ → Dialogue (Outcome × Side)
open_directory side number =
    Ends (node_named number) >>= λ dir.
    ask_shape dir >>= λ shape.
    if is_file shape then Ends (refused errno.NotDirectory) else open_one side

-- release an open directory
abbrev pub close_directory : Side → ℕ → Side
close_directory side file = record side { directories = with_open file Closed side.directories }

-- ---- the names of a directory

abbrev pub listed_kind : Kind → ListedKind
listed_kind kinds.Dir = listed.Directory
listed_kind kinds.File = listed.File

abbrev pub directory : ℕ → List ℕ → Named
directory node name = record { node = node; kind = listed.Directory; name = name }

-- each directory has itself, and the root in place of the one above
abbrev pub dots : ℕ → List Named
dots node = directory node (codes ".") ∷ directory 1 (codes "..") ∷ []

-- the name is shown: the hidden directory of the root is not
abbrev pub is_shown : Handle → BoundName → Bool
is_shown dir bound = not (is_root dir && same_name bound.name hidden)

-- a name's node is asked for its kind
abbrev pub ask_named : BoundName → Dialogue Named
ask_named bound =
    ask_shape bound.to >>= λ shape.
    Ends (number_of bound.to) >>= λ node.
    Grows (Ends (Ok (record { node = node; kind = listed_kind shape.kind; name = bound.name })))

-- the node of each name is asked for its kind; other names stand before them
abbrev pub ask_behind : List Named → List BoundName → Dialogue (List Named)
ask_behind front names = ask_each ask_named names >>= λ named. Ends (Ok (front ++ named))

-- the names of a directory are asked for, and then the node of each that is shown
abbrev pub ask_listing : Handle → Dialogue (List Named)
ask_listing dir =
    ask (calls.List dir) names_told >>= λ names.
    Ends (number_of dir) >>= λ node.
    Grows (Ends (Ok (dots node))) >>= λ front.
    ask_behind front (filter (is_shown dir) names)

-- names are listed as they were read
abbrev pub list_read : Side → ℕ → ℕ → List Named → Dialogue (Outcome × Side)
list_read side offset room names =
    Grows (Ends (Ok (outcomes.Contents (listed_from offset room names), side)))

-- a directory is read, and its names are listed and kept
abbrev pub list_anew : Side → Dialogue (List Named) → ℕ → ℕ → ℕ → Dialogue (Outcome × Side)
list_anew side asked file offset room =
    asked >>= λ names.
    let read = record side { directories = with_open file (Read names) side.directories } in
    list_read read offset room names

-- A directory that is open is read from its beginning at offset 0 and where it was not read yet. At
-- any other offset the names are those that were read.
abbrev pub list_open : Side → Dialogue (List Named) → ℕ → ℕ → ℕ → Open → Dialogue (Outcome × Side)
list_open side asked file room offset Closed = Ends (refused errno.Stale)
list_open side asked file room offset Unread = list_anew side asked file offset room
list_open side asked file room zero (Read names) = list_anew side asked file zero room
list_open side asked file room (suc offset) (Read names) = list_read side (suc offset) room names

-- list names of an open directory from an offset on
abbrev pub read_directory : Side → ℕ → ℕ → ℕ → ℕ → Dialogue (Outcome × Side)
read_directory side number file offset room =
    Ends (node_named number) >>= λ dir.
    list_open side (ask_listing dir) file room offset (open_under file side.directories)
