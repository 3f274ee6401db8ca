use Rattle.std.proofs.Common.{◌≡◌, take}
use Rattle.std.specs.List.{list_all}
use Rattle.nv_script.specs.Words.{is_plain}
use Rattle.nv_script.proofs.word.all_plain.Given as goal

abbrev pub invariant-loop-byte : goal.invariant-loop-byte
invariant-loop-byte l = l.plain ≡ list_all is_plain (take l.byte-index l.bytes)
