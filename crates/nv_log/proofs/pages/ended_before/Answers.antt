use Rattle.std.proofs.Common.{arith, ltb, rules}
use Rattle.std.proofs.lemmas.List.Sorted.{IsPartitionPoint-from_clause, IsPartitionedBy-ltb}
use Rattle.nv_log.proofs.Cuts.{cut_last, cut_whole}
use Rattle.nv_log.proofs.Parts.{ends_climb}
use Rattle.nv_log.proofs.pages.ended_before.Goals as goal

pub returns : goal.returns
returns c =
    let ends = c.args.ends.now in
    let halves = IsPartitionedBy-ltb (λ end. end) ends c.args.tail (ends_climb c.requires.0 ends c.requires.1 c.requires.2) in
    let point =
    IsPartitionPoint-from_clause (λ end. ltb end c.args.tail) ends c.partition_point.result c.partition_point.ensures.partitioned halves
    (λ a r f' called. (search rules, search rules)) in
    let few = c.partition_point.ensures.bound in
    record {
      all = λ past. cut_whole c.args.tail c.partition_point.result ends few point (omega (arith, past, few));
      some = λ some lt. cut_last c.args.tail c.partition_point.result ends few point some lt;
    }
