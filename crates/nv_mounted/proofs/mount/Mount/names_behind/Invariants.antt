use Rattle.std.proofs.Common.{◌≡◌, List, filter, drop, Result}
use Rattle.nv_mount_beside.specs.declared.refusal.Refusal.{Refusal}
use Rattle.nv_mounted.specs.Dialogues.{IsHad}
use Rattle.nv_mounted.specs.Listings.{ask_behind, is_shown}
use Rattle.nv_mounted.specs.declared.listing.Named.{Named}
use Rattle.nv_mounted.proofs.mount.Mount.names_behind.Given as goal

-- what the rest is answered from here is what all is answered from the beginning
abbrev pub invariant-loop-bound : goal.invariant-loop-bound
invariant-loop-bound g l = record {
  rest : (end : Result (List Named) Refusal) (new : g.row.C.Denot)
      → let left = filter (is_shown l.dir) (drop l.bound-index l.list) in
      let all = filter (is_shown l.dir) l.list in
      IsHad g.C.Core.Tells (ask_behind l.names.items left) l.self.core end new
      → IsHad g.C.Core.Tells (ask_behind l.initial.names.items all) l.fn.self.core end new;
  side : l.self.side ≡ l.fn.self.side;
}
