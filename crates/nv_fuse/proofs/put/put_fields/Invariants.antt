use Rattle.std.proofs.Common.{◌≡◌, ◌+◌, ◌*◌, ◌≤◌, ◌++◌, drop, vec_capacity, vec_len}
use Rattle.std.specs.List.{flat_map}
use Rattle.nv_fuse.specs.Written.{field_bytes}
use Rattle.nv_fuse.proofs.put.put_fields.Given as goal

abbrev pub invariant-loop-field : goal.invariant-loop-field
invariant-loop-field l = record {
  items : l.out.items ++ flat_map field_bytes (drop l.field-index l.fields) ≡ l.initial.out.items ++ flat_map field_bytes l.fields;
  len : vec_len l.out ≤ vec_len l.initial.out + 8 * l.field-index;
  capacity : vec_capacity l.initial.out ≤ vec_capacity l.out;
}
