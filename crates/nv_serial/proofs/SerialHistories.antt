-- In a history of calls that are made one at a time and of stops each world stands as the one with
-- numbers that these calls and stops lead to.
use Rattle.std.proofs.Common.{◌≡◌, ℕ, zero, suc, ◌-◌, ◌++◌, Bool, List, [], ◌∷◌, ap, map, refl, replicate, subst, sym}
use Rattle.std.proofs.Math.Path.{fun_ext}
use Rattle.nv_audit.specs.Mounted.{records_anew}
use Rattle.nv_base.specs.Limits.{IsWithinLimits}
use Rattle.nv_base.specs.declared.geometry.GeometryNumbers.{GeometryNumbers}
use Rattle.nv_book.specs.declared.record.Record.{Record}
use Rattle.nv_calls.specs.declared.call.Call.{Call}
use Rattle.nv_cell.specs.Cell.{empty_cell}
use Rattle.nv_machine.proofs.DrainRuns.{after_both}
use Rattle.nv_machine.proofs.NewStart.{new_start}
use Rattle.nv_machine.proofs.PlainOfRuns.{same_plain}
use Rattle.nv_machine.proofs.PlainStart.{plain_start}
use Rattle.nv_machine.specs.Format.{formatted, root_cell}
use Rattle.nv_machine.specs.Needed.{IsAtRest}
use Rattle.nv_machine.specs.PlainRun.{new_plain, plain_of}
use Rattle.nv_machine.specs.Starts.{IsStart}
use Rattle.nv_machine.specs.Step.{after, replies}
use Rattle.nv_machine.specs.World.{Actor, Event, Reply, World}
use Rattle.nv_restart.proofs.Happenings.{stop_may_stop, stop_starts}
use Rattle.nv_restart.proofs.MountStops.{new_may_stop}
use Rattle.nv_restart.proofs.StopLists.{rests}
use Rattle.nv_restart.specs.Restarted.{image_of, restarted}
use Rattle.nv_restart.specs.Stops.{MayStop}
use Rattle.nv_serial.proofs.AtRestStops.{stops_serial}
use Rattle.nv_serial.proofs.LawCalls.{calls_serial}
use Rattle.nv_serial.specs.Histories.{IsServed, StandsAs}
use Rattle.nv_serial.specs.Law.{AreRepliesTo, alone, serial_after}
use Rattle.nv_serial.specs.Serial.{NumberedSlot, Serial, new_serial}
use Rattle.nv_serial.specs.Shown.{slot_told}
use Rattle.nv_serial.specs.Stopped.{serial_stopped}

-- ---- a new world

abbrev no_inode : NumberedSlot
no_inode = record { generation = 1; pages = [] }

empty_slots : (block page many : ℕ)
    → map slot_told (replicate many (empty_cell block page 1 0)) ≡ replicate many no_inode
empty_slots block page zero = refl
empty_slots block page (suc many) =
    ap (λ (slots : List NumberedSlot). no_inode ∷ slots) (empty_slots block page many)

module _ (g : GeometryNumbers) (limits : IsWithinLimits g) where
  pub new_is : serial_after g (formatted g) [] [] ≡ new_serial g
  new_is =
      let plain : plain_of (formatted g) ≡ new_plain =
      same_plain (plain_of (formatted g)) new_plain (fun_ext (plain_start g limits)) refl refl
      refl in
      let slots : map slot_told (formatted g).shared.cells ≡ (new_serial g).slots =
      ap (λ (rest : List NumberedSlot). slot_told (root_cell g) ∷ rest)
      (empty_slots g.block g.page (g.inodes - 1)) in
      λ i. record { numbers = g; plain = plain i; slots = slots i; records = [] }

  pub stands_new : StandsAs g (formatted g) (new_serial g)
  stands_new = record {
    start = formatted g;
    records = [];
    events = [];
    is_start = new_start g limits;
    may = new_may_stop g;
    leads = refl;
    rest = λ actor. ap (λ (a : Actor). a.running) ((new_start g limits).idle_all actor);
    serial_is = new_is;
  }

-- ---- behind events

module _ (g : GeometryNumbers) (start : World) (records : List Record) (events : List Event)
    (is_start : IsStart g start records) (may : MayStop g.block start.shared)
    (rest : IsAtRest (after start events)) where
  abbrev w : World
  w = after start events

  abbrev s : Serial
  s = serial_after g start records events

  served_there : (actor : ℕ) (c : Call) (grants : List Bool) (last : Reply)
      → AreRepliesTo grants (replies w (alone actor c grants)) last
      → IsServed g w s actor c grants last
  served_there actor c grants last told =
      let called : List Event = alone actor c grants in
      let serial = calls_serial g start records events actor c grants last (record {
        start_is = is_start;
        rest = rest;
        replies_are = told;
      }) in
      record {
        next = serial_after g start records (events ++ called);
        outcome = serial.outcome;
        stands = record {
          start = start;
          records = records;
          events = events ++ called;
          is_start = is_start;
          may = may;
          leads = after_both events called start;
          rest = subst IsAtRest (after_both events called start) serial.rest;
          serial_is = refl;
        };
      }

  stopped_there : StandsAs g (restarted w) (serial_stopped s)
  stopped_there = record {
    start = restarted w;
    records = records_anew (image_of w);
    events = [];
    is_start = stop_starts g start records events is_start may;
    may = stop_may_stop g start records events is_start may;
    leads = refl;
    rest = rests g start records events is_start may;
    serial_is = stops_serial g start records events is_start may rest;
  }

-- ---- in a history

module _ (g : GeometryNumbers) (v : World) (u : Serial) (stands : StandsAs g v u) where
  abbrev before : World
  before = after stands.start stands.events

  abbrev beside : Serial
  beside = serial_after g stands.start stands.records stands.events

  rest_before : IsAtRest before
  rest_before = subst IsAtRest (sym stands.leads) stands.rest

  pub call_stands : (actor : ℕ) (c : Call) (grants : List Bool) (last : Reply)
      → AreRepliesTo grants (replies v (alone actor c grants)) last
      → IsServed g v u actor c grants last
  call_stands actor c grants last =
      subst (λ (x : World). AreRepliesTo grants (replies x (alone actor c grants)) last
      → IsServed g x u actor c grants last) stands.leads
      (subst (λ (t : Serial). AreRepliesTo grants (replies before (alone actor c grants)) last
      → IsServed g before t actor c grants last) stands.serial_is
      (served_there g stands.start stands.records stands.events stands.is_start stands.may
      rest_before actor c grants last))

  pub stop_stands : StandsAs g (restarted v) (serial_stopped u)
  stop_stands =
      subst (λ (x : World). StandsAs g (restarted x) (serial_stopped u)) stands.leads
      (subst (λ (t : Serial). StandsAs g (restarted before) (serial_stopped t)) stands.serial_is
      (stopped_there g stands.start stands.records stands.events stands.is_start stands.may
      rest_before))
