use Rattle.std.proofs.Common.{◌≡◌, ◌+◌, ◌-◌, ◌≤◌, ◌++◌, drop, length, vec_len}
use Rattle.nv_mounted.specs.Listings.{listed_from, listed_names}
use Rattle.nv_mounted.proofs.listing.listed.Given as goal

-- what was listed has room, and with what is left it is all that is listed
abbrev pub invariant-loop-at : goal.invariant-loop-at
invariant-loop-at l = record {
  within : vec_len l.out ≤ l.room;
  told : l.out.items ++ listed_names (l.room - length l.out.items) (l.at + 1) (drop l.at l.names)
      ≡ listed_from l.from l.room l.names;
}
