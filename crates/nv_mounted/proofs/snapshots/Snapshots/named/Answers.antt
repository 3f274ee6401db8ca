use Rattle.std.proofs.Common.{◌≡◌, ◌∙◌, ◌<◌, None, Some, ap, arith, get_or, length, sym, true}
use Rattle.std.specs.List.{position}
use Rattle.nv_fuse.specs.declared.errno.Errno.TheVariants as errno
use Rattle.nv_mount_beside.specs.Names.{or_refused}
use Rattle.nv_mounted.specs.Snapshots.{has_name, place_named}
use Rattle.nv_mounted.proofs.Places.{position_here, position_nowhere}
use Rattle.nv_mounted.proofs.snapshots.Snapshots.named.Goals as goal

pub returns-then-has_name : goal.returns-then-has_name
returns-then-has_name c =
    let rows = c.self.inside.rows.items in
    let there = c.index.result.now in
    let name = c.args.name.now in
    let here : has_name name (get_or rows c.loop-at.at there) ≡ true =
    ap (has_name name) (sym c.index.ensures) ∙ sym c.has_name.ensures ∙ c.if-has_name.true in
    let within : c.loop-at.at < length rows =
    omega (arith, c.loop-at-test.true, c.len-at-end.ensures, c.self.inside.rows.ok.0) in
    let first : position (has_name name) rows ≡ Some c.loop-at.at =
    position_here (has_name name) rows c.loop-at.at there within
    (λ k below. c.loop-at.invariant k there below) here in
    sym (ap (or_refused errno.Missing) first) ∙ ap (place_named name) c.self.view_is

pub returns : goal.returns
returns c =
    let rows = c.self.inside.rows.items in
    let name = c.args.name.now in
    let first : position (has_name name) rows ≡ None =
    position_nowhere (has_name name) rows None
    (λ k below. c.loop-at.invariant k None
    (omega (arith, below, c.loop-at-test.false, c.len-at-end.ensures, c.self.inside.rows.ok.0))) in
    sym (ap (or_refused errno.Missing) first) ∙ ap (place_named name) c.self.view_is
