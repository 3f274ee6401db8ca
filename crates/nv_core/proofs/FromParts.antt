-- A world that is made of parts.
use Rattle.std.proofs.Common.{◌≡◌, ℕ, ◌∙◌, List, [], Option, None, ap, ap₂, length, refl, replicate, subst, sym}
use Rattle.std.proofs.lemmas.List.{length-replicate}
use Rattle.nv_base.specs.declared.geometry.GeometryNumbers.{GeometryNumbers}
use Rattle.nv_book.specs.declared.record.Record.{Record}
use Rattle.nv_machine.specs.Starts.{IsStart}
use Rattle.nv_machine.specs.World as machine
use Rattle.nv_machine.specs.World.{idle}
use Rattle.nv_restart.specs.Stops.{MayStop}
use Rattle.nv_core.proofs.Formats.{each_shown, idle_at}
use Rattle.nv_core.specs.AtRest.{at_rest, parts_of}
use Rattle.nv_core.specs.Formats.{empty_of, idle_actor}
use Rattle.nv_core.specs.Rooms.{IsHandOf}
use Rattle.nv_core.specs.Shown.{shared_of}
use Rattle.nv_core.specs.Worlds.{EventRun, IsWorldAfter}
use Rattle.nv_parts.specs.declared.parts.Parts.{Parts}
use Rattle.nv_core.specs.declared.shared.Shared as code
use Rattle.nv_core.specs.declared.world.Actor.{Actor}

-- what is shared, with nobody's locks
shared_rest : (parts : Parts) (s : code.Shared) → parts_of s ≡ parts → s.owners.items ≡ replicate (length parts.cells) None
    → s.holder ≡ None → shared_of s ≡ (at_rest parts).shared
shared_rest parts s is owners holder =
    let lent : shared_of s ≡ (at_rest (parts_of s)).shared =
    ap₂ (λ (all : List (Option ℕ)) (one : Option ℕ). let o : machine.Shared = record (shared_of s) { owners = all; holder = one } in o)
    (owners ∙ ap (λ (p : Parts). replicate (length p.cells) None) (sym is)) holder in
    lent ∙ ap (λ (p : Parts). (at_rest p).shared) is

-- the run of a world that starts with these parts
abbrev pub rest_run : Parts → List Record → EventRun
rest_run parts records = record { start = at_rest parts; records = records; events = [] }

pub world_rest : (parts : Parts) (records : List Record) (s : code.Shared) (actors : List Actor)
    → IsStart parts.geometry.numbers (at_rest parts) records → MayStop parts.geometry.numbers.block (at_rest parts).shared
    → parts_of s ≡ parts → s.owners.items ≡ replicate (length parts.cells) None → s.holder ≡ None
    → actors ≡ replicate parts.geometry.numbers.actors (idle_actor parts.geometry.numbers)
    → IsWorldAfter (record { shared = s; actors = actors }) (at_rest parts) (rest_run parts records)
world_rest parts records s actors start may is owners holder idles =
    let g = parts.geometry.numbers in
    let numbers : s.geometry.numbers ≡ g = ap (λ (p : Parts). p.geometry.numbers) is in
    let block : g.block ≡ s.geometry.numbers.block = sym (ap (λ (n : GeometryNumbers). n.block) numbers) in
    let hand : IsHandOf s.geometry.numbers (empty_of g) = record { blocks = block; pages = block } in
    let count : length (replicate g.actors (idle_actor g)) ≡ length (at_rest parts).actors =
    length-replicate g.actors (idle_actor g) ∙ sym (length-replicate g.actors idle) in
    record {
      is_start = subst (λ (n : GeometryNumbers). IsStart n (at_rest parts) records) (sym numbers) start;
      reached = refl;
      may = subst (λ (n : GeometryNumbers). MayStop n.block (at_rest parts).shared) (sym numbers) may;
      shows = record { numbers = numbers; shared = shared_rest parts s is owners holder; count = rw idles count; each = rw idles (each_shown g) };
      rooms = rw idles (λ k d inside. rw (idle_at g g.actors k d inside) hand);
    }
