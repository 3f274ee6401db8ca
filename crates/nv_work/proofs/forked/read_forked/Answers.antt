use Rattle.std.proofs.Common.{◌≡◌, true, rules}
use Rattle.std.specs.Prelude.{bytes_eq, codes}
use Rattle.nv_script.specs.Grammar.{texts, word_at}
use Rattle.nv_script.specs.Words.{words_of}
use Rattle.nv_script.proofs.Spelled.{do_reads}
use Rattle.nv_work.proofs.forked.read_forked.Goals as goal

pub returns : goal.returns
returns c =
    let words : texts c.as_slice-3.result.now ≡ words_of c.args.line.now = search (rules) in
    let first : bytes_eq (word_at (texts c.as_slice-3.result.now) 0) (codes "do") ≡ true = search (rules) in
    let read = do_reads (texts c.as_slice-3.result.now) first c.in_ok-actor.field-0 c.in_ok-actor.ensures in
    absurd (c.in_default.not-Do read.0 read.1 read.2)
