use Rattle.std.proofs.Common.{◌≡◌, ◌<◌, arith, false, refl, subst, sym, true}
use Rattle.nv_fuse.specs.declared.errno.Errno.TheVariants as errno
use Rattle.nv_mount_beside.specs.Names.{refused}
use Rattle.nv_mount_beside.specs.declared.outcome.Outcome.{Outcome}
use Rattle.nv_mount_beside.specs.declared.outcome.Outcome.TheVariants as outcomes
use Rattle.nv_mounted.specs.Dialogues.{Dialogue, IsHad}
use Rattle.nv_mounted.specs.Listings.{is_closed, listed_from, open_under}
use Rattle.nv_mounted.specs.Side.{with_side}
use Rattle.nv_mounted.specs.Snapshots.{ask_snapshots}
use Rattle.nv_mounted.specs.declared.side.Side.{Side}
use Rattle.nv_mounted.proofs.Opened.{at_start, closed, read_before, unread}
use Rattle.nv_mounted.proofs.Steps.{grown_beside, not_false, not_true, stays}
use Rattle.nv_mounted.proofs.mount.Mount.read_snapshots.Goals as goal

pub returns-then-not-is_open : goal.returns-then-not-is_open
returns-then-not-is_open g c =
    let side = c.args.self.now.side in
    let core = c.args.self.now.core in
    let there = open_under c.args.file side.directories in
    let none : is_closed there ≡ true = not_false (is_closed there) c.if-not-is_open.ensures in
    let talk = closed side (ask_snapshots side) c.args.file c.args.room c.args.offset there none in
    record {
      had =
          subst (λ (d : Dialogue (Outcome × Side)). IsHad g.C.Core.Tells d core (refused errno.Stale) core)
          (sym talk) (refl, refl);
      same = refl;
    }

pub returns-then-offset-eq0 : goal.returns-then-offset-eq0
returns-then-offset-eq0 g c =
    let side = c.args.self.now.side in
    let there = open_under c.args.file side.directories in
    let one : is_closed there ≡ false = not_true (is_closed there) c.if-not-is_open.ensures in
    let talk =
    at_start side (ask_snapshots side) c.args.file c.args.room c.args.offset there one c.if-offset-eq0.true in
    record {
      had =
          subst (λ (d : Dialogue (Outcome × Side)). IsHad g.C.Core.Tells d c.args.self.now.core
          (with_side c.list_snapshots.new.self.side c.list_snapshots.result)
          c.list_snapshots.new.self.core)
          (sym talk) c.list_snapshots.ensures.had;
      same = c.list_snapshots.ensures.same;
    }

pub returns-in-Some : goal.returns-in-Some
returns-in-Some g c =
    let side = c.args.self.now.side in
    let core = c.args.self.now.core in
    let there = open_under c.args.file side.directories in
    let names = c.in-Some.names.now in
    let later : 0 < c.args.offset = omega (arith, c.if-offset-eq0.false) in
    let talk =
    read_before side (ask_snapshots side) c.args.file c.args.room c.args.offset there names
    c.in-Some.ensures.some later in
    record {
      had =
          subst (λ (d : Dialogue (Outcome × Side)). IsHad g.C.Core.Tells d core
          (with_side side c.contents.result) core) (sym talk)
          (grown_beside g.C.Core.Tells c.contents.result
          (outcomes.Contents (listed_from c.args.offset c.args.room names)) side core
          c.contents.ensures);
      same = stays c.contents.result side;
    }

pub returns-in-None : goal.returns-in-None
returns-in-None g c =
    let side = c.args.self.now.side in
    let there = open_under c.args.file side.directories in
    let one : is_closed there ≡ false = not_true (is_closed there) c.if-not-is_open.ensures in
    let talk =
    unread side (ask_snapshots side) c.args.file c.args.room c.args.offset there one c.in-None.ensures.none in
    record {
      had =
          subst (λ (d : Dialogue (Outcome × Side)). IsHad g.C.Core.Tells d c.args.self.now.core
          (with_side c.list_snapshots-in-None.new.self.side c.list_snapshots-in-None.result)
          c.list_snapshots-in-None.new.self.core)
          (sym talk) c.list_snapshots-in-None.ensures.had;
      same = c.list_snapshots-in-None.ensures.same;
    }
