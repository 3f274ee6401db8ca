-- The laws of the machine that the steps are given hold of every world that events lead to.
use Rattle.std.proofs.Common.{◌≡◌, List, ap, arith, subst, sym}
use Rattle.nv_base.specs.declared.geometry.GeometryNumbers.{GeometryNumbers}
use Rattle.nv_book.specs.declared.record.Record.{Record}
use Rattle.nv_machine.specs.FitsNow.{is_checked}
use Rattle.nv_machine.specs.Starts.{IsStart}
use Rattle.nv_machine.specs.Step.{after}
use Rattle.nv_machine.specs.World.{Event, World}
use Rattle.nv_machine.proofs.SlotsBeforeCheck.{own_handles, own_number}
use Rattle.nv_machine.proofs.Generations.{writes_early}
use Rattle.nv_machine.proofs.HandNumbers.{hand_or_list, hands_below, hands_number}
use Rattle.nv_machine.proofs.EveryWorld.{all_known, all_numbers, all_pooled}
use Rattle.nv_machine.proofs.WorldFacts.{are_cells}
use Rattle.nv_machine.proofs.Versions.{cells_counted}
use Rattle.nv_core.proofs.GivenLaws.{LawsOf}
use Rattle.nv_core.proofs.Maintains.{maintain}

pub laws_after : (g : GeometryNumbers) (start : World) (records : List Record) (events : List Event) → IsStart g start records
    → LawsOf g (after start events)
laws_after g start records events is_start =
    let w = after start events in
    let all = all_numbers g start records events is_start in
    let pooled = all_pooled g start records events is_start in
    let known = all_known g start records is_start events in
    let r = known.reached in
    record {
      device = λ actor. hands_below g w actor (omega (arith, is_start.limits.some_cpus)) all;
      numbers = hands_number g w r.locks all r.grown pooled;
      once = λ actor cpu n. hand_or_list g w actor cpu n all;
      cells = λ ino lt. are_cells g start records events ino is_start lt;
      versions = λ ino. cells_counted g start records events ino is_start;
      generations = λ actor q is e place lt.
          writes_early g start records events actor place q is_start is (ap is_checked e) lt;
      checks = λ actor q is e. record {
        number = λ n has_it. (let own = own_number g w actor q is e known pooled n has_it in (own.2, own.1));
        held = own_handles g w actor q is e pooled;
      };
      snapshots = λ actor q step is e. maintain g start records events is_start actor q is step e;
    }

pub laws_of : (g : GeometryNumbers) (start : World) (records : List Record) (m : World) (events : List Event)
    → IsStart g start records → m ≡ after start events → LawsOf g m
laws_of g start records m events is_start from = subst (LawsOf g) (sym from) (laws_after g start records events is_start)
