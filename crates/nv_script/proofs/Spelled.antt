-- What words spell that begin with `do`, and those of a report.
use Rattle.std.proofs.Common.{◌≡◌, ◌∙◌, Bool, true, false, List, ℕ, Ok, Err, refl, sym, subst}
use Rattle.std.specs.Prelude.{bytes_eq, codes}
use Rattle.std.proofs.lemmas.Slice.Eq.{bytes_eq-Decides}
use Rattle.nv_base.specs.declared.fault.ScriptFaultKind.{ScriptFaultKind}
use Rattle.nv_base.specs.declared.fault.ScriptFaultKind.TheVariants as kind
use Rattle.nv_calls.specs.declared.call.Call.{Call}
use Rattle.nv_script.specs.declared.command.Command.{Command}
use Rattle.nv_script.specs.declared.command.Command.TheVariants as command
use Rattle.nv_script.specs.declared.command.CommandWord.TheVariants as word
use Rattle.nv_script.specs.declared.command.Head.{Head}
use Rattle.nv_script.specs.declared.command.Head.TheVariants as head
use Rattle.nv_script.specs.declared.field.Field.TheVariants as field
use Rattle.nv_script.specs.Grammar.{Parsed, ◌>>=◌, are_counted, call_with, command_due, command_of, head_of, if_so, optional_count, third_call, value_at, word_at, word_count}

-- what went on was read
goes_on : {A B : Type 0} (read : Parsed A) (next : A → Parsed B) (b : B) → read >>= next ≡ Ok b
    → (a : A) × (read ≡ Ok a) × (next a ≡ Ok b)
goes_on (Ok a) next b is = (a, refl, is)
goes_on (Err why) next b is = cc

held : {A : Type 0} (test : Bool) (why : ScriptFaultKind) (next : Parsed A) (a : A) → if_so test why next ≡ Ok a → next ≡ Ok a
held true why next a is = is
held false why next a is = cc

head_of_do : (words : List (List ℕ)) → word_at words 0 ≡ codes "do"
    → head_of words ≡ (third_call words >>= λ c. Ok (head.Command (word.Do c)))
head_of_do words first = rw first refl

-- where the first word is `do`, a command is a call of an actor
pub do_reads : (words : List (List ℕ)) → bytes_eq (word_at words 0) (codes "do") ≡ true → (c : Command) → command_of words ≡ Ok c
    → (actor : ℕ) × (call : Call) × (c ≡ command.Do actor call)
do_reads words first c is =
    let due = goes_on (head_of words) (λ h. command_due h words) c is in
    let is_do = sym (head_of_do words ((bytes_eq-Decides (word_at words 0) (codes "do")).0 first)) ∙ due.1 in
    let which = goes_on (third_call words) (λ w. Ok (head.Command (word.Do w))) due.0 is_do in
    let same = which.2 in
    let named : head.Command (word.Do which.0) ≡ due.0 = cc in
    let counted = subst (λ (h : Head). command_due h words ≡ Ok c) (sym named) due.2 in
    let w = word.Do which.0 in
    let read = held (are_counted (word_count w) (optional_count w) words) kind.Count _ c counted in
    let who = goes_on (value_at field.Number words 1) _ c read in
    let what = goes_on (call_with which.0 words) (λ call. Ok (command.Do who.0 call)) c who.2 in
    let whole = what.2 in
    let at : c ≡ command.Do who.0 what.0 = cc in
    (who.0, what.0, at)
