-- Names that are listed one after another.
use Rattle.std.proofs.Common.{List, ◌++◌, Result, Ok, Err}
use Rattle.nv_mount_beside.specs.declared.refusal.Refusal.{Refusal}
use Rattle.nv_mounted.specs.declared.listing.Named.{Named}

-- names with others behind them, if those are told
abbrev pub behind : List Named → Result (List Named) Refusal → Result (List Named) Refusal
behind front (Ok names) = Ok (front ++ names)
behind front (Err refusal) = Err refusal
