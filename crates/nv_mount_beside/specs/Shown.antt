-- What a kernel is told of a node, and what the first reply agrees on.
use Rattle.std.specs.Prelude.{ℕ, ◌+◌, ◌*◌, ◌/◌, ◌%◌, Bool, if◌then◌else◌, bit_and, nat_lt, Result, Ok}
use Rattle.nv_fuse.specs.declared.attributes.Attributes.{Attributes}
use Rattle.nv_fuse.specs.declared.attributes.Entry.{Entry}
use Rattle.nv_fuse.specs.declared.errno.Errno.TheVariants as errno
use Rattle.nv_fuse.specs.declared.reply.Agreement.{Agreement}
use Rattle.nv_fuse.specs.declared.reply.OpenFile.{OpenFile}
use Rattle.nv_mount_answers.specs.Kept.{attributes_of}
use Rattle.nv_mount_answers.specs.declared.kept.Kept.{Kept}
use Rattle.nv_mount_answers.specs.declared.kept.Shape.{Shape}
use Rattle.nv_mount_beside.specs.Names.{refused}
use Rattle.nv_mount_beside.specs.declared.refusal.Refusal.{Refusal}

-- the attributes of a node: without a name it has no link
abbrev pub attributes_told : ℕ → Shape → Kept → Bool → Attributes
attributes_told node shape kept nameless =
    if nameless then record (attributes_of node shape kept) { links = 0 } else attributes_of node shape kept

-- the attributes of a node, where its size is at most 2 ^ 40
abbrev pub attributes_if : ℕ → Shape → Kept → Bool → Result Attributes Refusal
attributes_if node shape kept nameless =
    if nat_lt 1099511627776 shape.size then refused errno.InputOutput else Ok (attributes_told node shape kept nameless)

-- a mode without set-user-id and set-group-id (octal 4000 and 2000), which are bits 11 and 10
abbrev pub without_set_id : ℕ → ℕ
without_set_id mode = mode / 4096 * 4096 + mode % 1024

-- what a snapshot tells of kind, mode and size: none of its programs runs as another user
abbrev pub shape_in_snapshot : Shape → Shape
shape_in_snapshot shape = record shape { mode = without_set_id shape.mode }

-- the entry of a node: names and attributes hold an hour, since only the kernel changes the world
abbrev pub entry_of : Attributes → Entry
entry_of attributes = record {
  node = attributes.inode;
  generation = 0;
  name_valid = 3600;
  attributes_valid = 3600;
  name_valid_nanoseconds = 0;
  attributes_valid_nanoseconds = 0;
  attributes = attributes;
}

-- a file that was opened has no number of its own, and the kernel keeps its pages
abbrev pub opened_file : OpenFile
opened_file = record { file = 0; flags = 2 }

-- What the first reply agrees on: the protocol 7.31, and of the kernel's abilities reads that wait for one another (bit 0), writes of
-- many pages (5), look-ups side by side (18) and as many pages of a request as are agreed on (22). Reads ahead, writes and
-- requests have 1 MiB at most.
abbrev pub agreement_with : ℕ → Agreement
agreement_with flags = record {
  major = 7;
  minor = 31;
  max_readahead = 1048576;
  flags = bit_and flags 4456481;
  max_background = 64;
  congestion_threshold = 48;
  max_write = 1048576;
  time_granularity = 1;
  max_pages = 256;
  map_alignment = 0;
}
