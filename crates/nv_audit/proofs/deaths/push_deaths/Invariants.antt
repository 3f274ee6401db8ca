use Rattle.std.proofs.Common.{◌≡◌, ◌++◌, map, reverse, take}
use Rattle.nv_entry.specs.Keys.{key_of, parts_of}
use Rattle.nv_entry.specs.declared.part.Part.{Part}
use Rattle.nv_audit.specs.Deaths.{cover_in, covers_of}
use Rattle.nv_audit.proofs.deaths.push_deaths.Given as goal

abbrev pub invariant-loop-place : goal.invariant-loop-place
invariant-loop-place l =
    l.deaths.items
    ++ reverse (map (λ (part : Part). cover_in l.logged.log l.covers (key_of l.entry.item part)) (take l.place (parts_of l.entry.item)))
    ≡ l.initial.deaths.items ++ reverse (covers_of l.logged.log l.covers l.entry)
