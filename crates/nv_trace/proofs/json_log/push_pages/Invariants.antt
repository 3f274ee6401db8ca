use Rattle.std.proofs.Common.{◌≡◌, ◌++◌, drop}
use Rattle.nv_script.specs.Json.{page_object, values_from}
use Rattle.nv_trace.proofs.json_log.push_pages.Given as goal

abbrev pub invariant-loop-page : goal.invariant-loop-page
invariant-loop-page l =
    l.out.items ++ values_from (page_object l.cell.state) l.page (drop l.page l.blocks)
    ≡ l.initial.out.items ++ values_from (page_object l.cell.state) 0 l.blocks
