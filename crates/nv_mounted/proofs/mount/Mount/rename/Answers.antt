use Rattle.std.proofs.Common.{refl}
use Rattle.std.proofs.lemmas.Bool.{le-ltb, lt-ltb}
use Rattle.std.proofs.lemmas.Result.{err_from_is_err_and}
use Rattle.nv_calls.specs.declared.call.Call.TheVariants as calls
use Rattle.nv_mount_beside.specs.Names.{free_name, node_named}
use Rattle.nv_mounted.proofs.Dialogues.{goes_on, grown, stops}
use Rattle.nv_mounted.proofs.Names.{name_is}
use Rattle.nv_mounted.specs.Asks.{ask_handle}
use Rattle.nv_mounted.specs.Dialogues.{Ends, Grows}
use Rattle.nv_mounted.specs.Renames.{ask_way}
use Rattle.nv_mounted.proofs.mount.Mount.rename.Goals as goal

pub returns-in_err-from : goal.returns-in_err-from
returns-in_err-from g c =
    let p = err_from_is_err_and c.from_residual.result c.from_residual.ensures.1 in
    rw (p.1, p.2) (record {
      had =
          stops g.C.Core.Tells (Ends (node_named c.args.from)) _ _ _ _
          (c.in_err-from.ensures, refl);
      same = refl;
    })

pub returns-in_err-to : goal.returns-in_err-to
returns-in_err-to g c =
    let p = err_from_is_err_and c.from_residual-in_err-to.result
    c.from_residual-in_err-to.ensures.1 in
    rw (p.1, p.2) (record {
      had =
          goes_on g.C.Core.Tells (Ends (node_named c.args.from)) _ _ _ _
          c.in_ok-from.from _ (c.in_ok-from.ensures, refl) (
          stops g.C.Core.Tells (Ends (node_named c.args.to)) _ _ _ _ (c.in_err-to.ensures, refl));
      same = refl;
    })

pub returns-then-flags-gt-NO_REPLACE : goal.returns-then-flags-gt-NO_REPLACE
returns-then-flags-gt-NO_REPLACE g c =
    record {
      had =
          goes_on g.C.Core.Tells (Ends (node_named c.args.from)) _ _ _ _
          c.in_ok-from.from _ (c.in_ok-from.ensures, refl) (
          goes_on g.C.Core.Tells (Ends (node_named c.args.to)) _ _ _ _
          c.in_ok-to.to _ (c.in_ok-to.ensures, refl)
          (rw (lt-ltb 1 c.args.flags c.if-flags-gt-NO_REPLACE.true) (refl, refl)));
      same = refl;
    }

pub returns-in_err-old_name : goal.returns-in_err-old_name
returns-in_err-old_name g c =
    let p = err_from_is_err_and c.from_residual-in_err-old_name.result
    c.from_residual-in_err-old_name.ensures.1 in
    let few = le-ltb 1 c.args.flags c.if-flags-gt-NO_REPLACE.false in
    rw (p.1, p.2) (record {
      had =
          goes_on g.C.Core.Tells (Ends (node_named c.args.from)) _ _ _ _
          c.in_ok-from.from _ (c.in_ok-from.ensures, refl) (
          goes_on g.C.Core.Tells (Ends (node_named c.args.to)) _ _ _ _
          c.in_ok-to.to _ (c.in_ok-to.ensures, refl) (
          rw few (
          stops g.C.Core.Tells (Grows (Ends (free_name c.in_ok-from.from c.args.old.now))) _ _ _ _
          (grown g.C.Core.Tells _ _ _ c.in_err-old_name.ensures))));
      same = refl;
    })

pub returns-in_err-new_name : goal.returns-in_err-new_name
returns-in_err-new_name g c =
    let p = err_from_is_err_and c.from_residual-in_err-new_name.result
    c.from_residual-in_err-new_name.ensures.1 in
    let few = le-ltb 1 c.args.flags c.if-flags-gt-NO_REPLACE.false in
    rw (p.1, p.2) (record {
      had =
          goes_on g.C.Core.Tells (Ends (node_named c.args.from)) _ _ _ _
          c.in_ok-from.from _ (c.in_ok-from.ensures, refl) (
          goes_on g.C.Core.Tells (Ends (node_named c.args.to)) _ _ _ _
          c.in_ok-to.to _ (c.in_ok-to.ensures, refl) (
          rw few (
          goes_on g.C.Core.Tells (Grows (Ends (free_name c.in_ok-from.from c.args.old.now))) _ _ _ _
          c.in_ok-old_name.old_name _ (grown g.C.Core.Tells _ _ _ c.in_ok-old_name.ensures) (
          stops g.C.Core.Tells (Grows (Ends (free_name c.in_ok-to.to c.args.new.now))) _ _ _ _
          (grown g.C.Core.Tells _ _ _ c.in_err-new_name.ensures)))));
      same = refl;
    })

pub returns-in_err-moved : goal.returns-in_err-moved
returns-in_err-moved g c =
    let p = err_from_is_err_and c.from_residual-in_err-moved.result
    c.from_residual-in_err-moved.ensures.1 in
    let few = le-ltb 1 c.args.flags c.if-flags-gt-NO_REPLACE.false in
    let from = c.in_ok-from.from in
    let old = c.in_ok-old_name.old_name in
    let refused = rw c.lookup.ensures at c.in_err-moved.ensures in
    rw (p.1, p.2) (record {
      had =
          goes_on g.C.Core.Tells (Ends (node_named c.args.from)) _ _ _ _
          c.in_ok-from.from _ (c.in_ok-from.ensures, refl) (
          goes_on g.C.Core.Tells (Ends (node_named c.args.to)) _ _ _ _
          c.in_ok-to.to _ (c.in_ok-to.ensures, refl) (
          rw few (
          goes_on g.C.Core.Tells (Grows (Ends (free_name c.in_ok-from.from c.args.old.now))) _ _ _ _
          c.in_ok-old_name.old_name _ (grown g.C.Core.Tells _ _ _ c.in_ok-old_name.ensures) (
          goes_on g.C.Core.Tells (Grows (Ends (free_name c.in_ok-to.to c.args.new.now))) _ _ _ _
          c.in_ok-new_name.new_name _ (grown g.C.Core.Tells _ _ _ c.in_ok-new_name.ensures) (
          stops g.C.Core.Tells (ask_handle (calls.Lookup from old)) _ _ _ _ refused)))));
      same = refl;
    })

pub returns-in_err-way : goal.returns-in_err-way
returns-in_err-way g c =
    let p = err_from_is_err_and c.from_residual-in_err-way.result
    c.from_residual-in_err-way.ensures.1 in
    let few = le-ltb 1 c.args.flags c.if-flags-gt-NO_REPLACE.false in
    let side = c.args.self.now.side in
    let from = c.in_ok-from.from in
    let old = c.in_ok-old_name.old_name in
    let to = c.in_ok-to.to in
    let new = c.in_ok-new_name.new_name in
    let moved = c.in_ok-moved.moved in
    let found = rw c.lookup.ensures at c.in_ok-moved.ensures in
    rw (p.1, p.2) (record {
      had =
          goes_on g.C.Core.Tells (Ends (node_named c.args.from)) _ _ _ _
          c.in_ok-from.from _ (c.in_ok-from.ensures, refl) (
          goes_on g.C.Core.Tells (Ends (node_named c.args.to)) _ _ _ _
          c.in_ok-to.to _ (c.in_ok-to.ensures, refl) (
          rw few (
          goes_on g.C.Core.Tells (Grows (Ends (free_name c.in_ok-from.from c.args.old.now))) _ _ _ _
          c.in_ok-old_name.old_name _ (grown g.C.Core.Tells _ _ _ c.in_ok-old_name.ensures) (
          goes_on g.C.Core.Tells (Grows (Ends (free_name c.in_ok-to.to c.args.new.now))) _ _ _ _
          c.in_ok-new_name.new_name _ (grown g.C.Core.Tells _ _ _ c.in_ok-new_name.ensures) (
          goes_on g.C.Core.Tells (ask_handle (calls.Lookup from old)) _ _ _ _ moved _ found (
          stops g.C.Core.Tells (ask_way side moved from to new c.args.flags) _ _ _ _
          c.in_err-way.ensures))))));
      same = refl;
    })

pub returns : goal.returns
returns g c =
    let few = le-ltb 1 c.args.flags c.if-flags-gt-NO_REPLACE.false in
    let side = c.args.self.now.side in
    let from = c.in_ok-from.from in
    let old = c.in_ok-old_name.old_name in
    let to = c.in_ok-to.to in
    let new = c.in_ok-new_name.new_name in
    let moved = c.in_ok-moved.moved in
    let found = rw c.lookup.ensures at c.in_ok-moved.ensures in
    let old_is = name_is c.in_ok-from.from c.args.old.now old c.in_ok-old_name.ensures in
    let new_is = name_is c.in_ok-to.to c.args.new.now new c.in_ok-new_name.ensures in
    record {
      had =
          goes_on g.C.Core.Tells (Ends (node_named c.args.from)) _ _ _ _
          c.in_ok-from.from _ (c.in_ok-from.ensures, refl) (
          goes_on g.C.Core.Tells (Ends (node_named c.args.to)) _ _ _ _
          c.in_ok-to.to _ (c.in_ok-to.ensures, refl) (
          rw few (
          goes_on g.C.Core.Tells (Grows (Ends (free_name c.in_ok-from.from c.args.old.now))) _ _ _ _
          c.in_ok-old_name.old_name _ (grown g.C.Core.Tells _ _ _ c.in_ok-old_name.ensures) (
          goes_on g.C.Core.Tells (Grows (Ends (free_name c.in_ok-to.to c.args.new.now))) _ _ _ _
          c.in_ok-new_name.new_name _ (grown g.C.Core.Tells _ _ _ c.in_ok-new_name.ensures) (
          goes_on g.C.Core.Tells (ask_handle (calls.Lookup from old)) _ _ _ _ moved _ found (
          goes_on g.C.Core.Tells (ask_way side moved from to new c.args.flags) _ _ _ _
          c.in_ok-way.way _ c.in_ok-way.ensures
          (rw (old_is, new_is) c.move_by.ensures.had)))))));
      same = c.move_by.ensures.same;
    }
