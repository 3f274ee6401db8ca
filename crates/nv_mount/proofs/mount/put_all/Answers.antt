use Rattle.std.proofs.Common.{◌+◌, arith}
use Rattle.nv_mount.proofs.CellNumbers.{owed_after}
use Rattle.nv_mount.proofs.Puts.{put_all, put_init, put_more, put_next}
use Rattle.nv_mount.proofs.mount.put_all.Goals as goal

pub loop-slot-init : goal.loop-slot-init
loop-slot-init c = λ image can free. put_init image c.args.plan.now c.args.bare.items c.args.lists.now.items can free

pub put-requires : goal.put-requires
put-requires c =
    let image = c.requires.0 in
    let can = c.requires.1 in
    let put = c.loop-slot.invariant image can c.requires.2 in (
      image,
      can.view,
      put.made,
      owed_after image (put.made + 1),
      put_next image c.args.plan.now c.args.bare.items can c.loop-slot.plan c.loop-slot.bare.items c.pop.new.self.items c.in-Some.slot
          c.loop-slot.lists.items c.in-Some.ensures.items put,
    )

pub loop-slot-preserved : goal.loop-slot-preserved
loop-slot-preserved c = λ image can free.
    let put = c.loop-slot.invariant image can free in
    let next =
    put_next image c.args.plan.now c.args.bare.items can c.loop-slot.plan c.loop-slot.bare.items c.pop.new.self.items c.in-Some.slot
    c.loop-slot.lists.items c.in-Some.ensures.items put in
    put_more image c.args.plan.now c.args.bare.items can c.loop-slot.plan c.loop-slot.bare.items c.pop.new.self.items c.in-Some.slot
    c.loop-slot.lists.items c.in-Some.ensures.items put c.put.new.self c.put.new.lists.items
    (c.put.ensures image can.view put.made (owed_after image (put.made + 1)) next)

pub returns : goal.returns
returns c = λ image can free.
    put_all image can.view c.loop-slot.plan c.loop-slot.bare.items c.loop-slot.lists.items (omega (arith, c.in_default.ensures.cases.0, c.loop-slot.bare.ok))
    (c.loop-slot.invariant image can free)
