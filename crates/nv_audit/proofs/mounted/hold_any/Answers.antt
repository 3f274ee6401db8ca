use Rattle.std.proofs.Common.{◌≡◌, ◌+◌, ◌<◌, ◌≤◌, ◌||◌, Bool, List, drop, length, get_or, arith, ap, sym, ◌∙◌}
use Rattle.std.proofs.lemmas.List.{at_drop_all}
use Rattle.std.specs.List.{list_any}
use Rattle.nv_entry.specs.Held.{is_held}
use Rattle.nv_entry.specs.Log.{pairs}
use Rattle.nv_entry.specs.declared.item.Entry.{Entry}
use Rattle.nv_audit.proofs.Covers.{death_of}
use Rattle.nv_audit.proofs.DividedPairs.{divided}
use Rattle.nv_audit.proofs.MountedLogs.{held_first}
use Rattle.nv_audit.proofs.mounted.hold_any.Goals as goal

pub loop-entry-preserved : goal.loop-entry-preserved
loop-entry-preserved c =
    let own = c.args.logged.now in
    let i = c.loop-entry.entry-index in
    let e = c.entry-item.result in
    let all : c.log-entry-items.result.now ≡ own.log = c.log-entry-items.ensures.value in
    let lt : i < length own.log = omega (arith, c.loop-entry-test.true, ap (λ (l : List Entry). length l) all) in
    let is : e ≡ get_or own.log i e = c.entry-item.is ∙ ap (λ (l : List Entry). get_or l i e) all in
    let parts = divided death_of own.block i c.part_count.result own.log e c.loop-entry.left.now c.split_at.result.0.now
    c.split_at.result.1.now lt is c.loop-entry.invariant.left c.part_count.ensures c.split_at.ensures.front c.split_at.ensures.back in
    let first = held_first c.args.snapshots.now own.block own.log i e c.split_at.result.0.now c.hold_any_of.result lt is parts.first
    c.hold_any_of.ensures in
    record {
      left = parts.others;
      same = sym (first ∙ ap (λ (b : Bool). b || list_any (is_held c.args.snapshots.now) (pairs own.block (drop (i + 1) own.log)))
          c.if-hold_any_of.false)
          ∙ c.loop-entry.invariant.same;
    }

pub returns-then-hold_any_of : goal.returns-then-hold_any_of
returns-then-hold_any_of c =
    let own = c.args.logged.now in
    let i = c.loop-entry.entry-index in
    let e = c.entry-item.result in
    let all : c.log-entry-items.result.now ≡ own.log = c.log-entry-items.ensures.value in
    let lt : i < length own.log = omega (arith, c.loop-entry-test.true, ap (λ (l : List Entry). length l) all) in
    let is : e ≡ get_or own.log i e = c.entry-item.is ∙ ap (λ (l : List Entry). get_or l i e) all in
    let parts = divided death_of own.block i c.part_count.result own.log e c.loop-entry.left.now c.split_at.result.0.now
    c.split_at.result.1.now lt is c.loop-entry.invariant.left c.part_count.ensures c.split_at.ensures.front c.split_at.ensures.back in
    let first = held_first c.args.snapshots.now own.block own.log i e c.split_at.result.0.now c.hold_any_of.result lt is parts.first
    c.hold_any_of.ensures in
    sym (sym c.loop-entry.invariant.same ∙ first
    ∙ ap (λ (b : Bool). b || list_any (is_held c.args.snapshots.now) (pairs own.block (drop (i + 1) own.log))) c.if-hold_any_of.true)

pub returns : goal.returns
returns c =
    let own = c.args.logged.now in
    let past : length own.log ≤ c.loop-entry.entry-index =
    omega (arith, c.loop-entry-test.false, ap (λ (l : List Entry). length l) c.log-entry-items.ensures.value) in
    sym (at_drop_all (λ (es : List Entry). list_any (is_held c.args.snapshots.now) (pairs own.block es)) own.log
    c.loop-entry.entry-index past)
    ∙ c.loop-entry.invariant.same
