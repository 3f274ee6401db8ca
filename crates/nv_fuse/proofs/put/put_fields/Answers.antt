use Rattle.std.proofs.Common.{arith}
use Rattle.nv_fuse.specs.Written.{field_bytes}
use Rattle.nv_fuse.proofs.Appends.{all_put, more}
use Rattle.nv_fuse.proofs.put.put_fields.Goals as goal

pub put_field-requires : goal.put_field-requires
put_field-requires c = omega (arith, c.loop-field.invariant.len, c.loop-field.invariant.capacity)

pub loop-field-preserved : goal.loop-field-preserved
loop-field-preserved c = record {
  items = more field_bytes c.args.fields.now c.loop-field.field-index _ c.loop-field.out.items c.put_field.new.out.items _
      c.loop-field-test.true c.put_field.ensures.items c.loop-field.invariant.items;
  len = omega (arith, c.loop-field.invariant.len, c.put_field.ensures.len);
  capacity = omega (arith, c.loop-field.invariant.capacity, c.put_field.ensures.capacity);
}

pub returns-clause-items : goal.returns-clause-items
returns-clause-items c =
    all_put field_bytes c.args.fields.now c.loop-field.field-index c.loop-field.out.items _ (omega (arith, c.loop-field-test.false))
    c.loop-field.invariant.items
