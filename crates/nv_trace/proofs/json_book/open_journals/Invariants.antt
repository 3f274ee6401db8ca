use Rattle.std.proofs.Common.{◌≡◌, filter}
use Rattle.std.specs.List.{range_with_len}
use Rattle.nv_script.specs.Json.{is_open}
use Rattle.nv_trace.proofs.json_book.open_journals.Given as goal

abbrev pub invariant-loop-cpu : goal.invariant-loop-cpu
invariant-loop-cpu l = l.open.items ≡ filter (is_open l.book.state) (range_with_len 0 l.cpu)
