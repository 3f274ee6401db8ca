-- What is kept of a node beside its world, and the attributes that a kernel is told.
use Rattle.std.specs.Prelude.{ℕ, ◌+◌, ◌/◌, ◌==◌, if◌then◌else◌, bit_and}
use Rattle.nv_base.specs.declared.node.Kind.{Kind}
use Rattle.nv_base.specs.declared.node.Kind.TheVariants as kind
use Rattle.nv_fuse.specs.declared.attributes.Attributes.{Attributes}
use Rattle.nv_fuse.specs.declared.operation.SetAttributes.{SetAttributes}
use Rattle.nv_mount_answers.specs.declared.kept.Kept.{Kept}
use Rattle.nv_mount_answers.specs.declared.kept.Shape.{Shape}
use Rattle.nv_mount_answers.specs.declared.kept.Time.{Time}

-- the bits of a kind in a mode: 0o040000 for a directory, 0o100000 for a file
abbrev pub kind_bits : Kind → ℕ
kind_bits kind.Dir = 16384
kind_bits kind.File = 32768

-- the attributes of a node: blocks of 512 bytes, one name for each node, and pages of 4,096 bytes
abbrev pub attributes_of : ℕ → Shape → Kept → Attributes
attributes_of inode shape kept = record {
  inode = inode;
  size = shape.size;
  blocks = (shape.size + 511) / 512;
  accessed = kept.accessed.seconds;
  modified = kept.modified.seconds;
  changed = kept.changed.seconds;
  accessed_nanoseconds = kept.accessed.nanoseconds;
  modified_nanoseconds = kept.modified.nanoseconds;
  changed_nanoseconds = kept.changed.nanoseconds;
  mode = kind_bits shape.kind + shape.mode;
  links = 1;
  user = kept.user;
  group = kept.group;
  device = 0;
  block_size = 4096;
}

abbrev pub time : ℕ → ℕ → Time
time seconds nanoseconds = record { seconds = seconds; nanoseconds = nanoseconds }

-- a time after attributes were set: as it was, or the one that is told, or now
abbrev pub time_after : ℕ → ℕ → Time → Time → Time → Time
time_after is_set is_now now told old = if is_set == 0 then old else (if is_now == 0 then told else now)

-- an owner after attributes were set
abbrev pub owner_after : ℕ → ℕ → ℕ → ℕ
owner_after is_set told old = if is_set == 0 then old else told

-- What is kept after attributes were set at a time: `valid` tells by its bits which are. Bit 1 is for the user, 2 for
-- the group, 4 and 5 for the times of the last read and write; bits 7 and 8 say that these are now.
abbrev pub kept_after : Time → SetAttributes → Kept → Kept
kept_after now set kept = record {
  accessed = time_after (bit_and set.valid 16) (bit_and set.valid 128) now (time set.accessed set.accessed_nanoseconds) kept.accessed;
  modified = time_after (bit_and set.valid 32) (bit_and set.valid 256) now (time set.modified set.modified_nanoseconds) kept.modified;
  changed = now;
  user = owner_after (bit_and set.valid 2) set.user kept.user;
  group = owner_after (bit_and set.valid 4) set.group kept.group;
}
