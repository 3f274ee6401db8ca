use Rattle.std.proofs.Common.{◌≡◌, ◌++◌, ◌≤◌, length, map}
use Rattle.nv_script.specs.Words.{words_of}
use Rattle.nv_script.proofs.word.find_few.Given as goal

abbrev pub invariant-loop-space : goal.invariant-loop-space
invariant-loop-space l = record {
  words : map (λ w. w.now) l.found.items ++ words_of l.rest ≡ words_of l.line;
  within : length l.rest ≤ length l.line;
}

abbrev pub decreases-loop-space : goal.decreases-loop-space
decreases-loop-space l = length l.rest
