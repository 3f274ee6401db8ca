-- A line that asks for an audit.
use Rattle.std.proofs.Common.{◌≡◌, ◌∙◌, ℕ, true, List, Option, None, IsSome, Ok, subst, sym}
use Rattle.std.proofs.lemmas.Bool.{false≢true}
use Rattle.nv_core.specs.Worlds.{WorldState}
use Rattle.nv_script.specs.declared.command.Command.{Command}
use Rattle.nv_script.specs.declared.command.Command.TheVariants as command
use Rattle.nv_script.specs.Grammar.{command_of, is_skipped}
use Rattle.nv_script.specs.Play.{is_list}
use Rattle.nv_script.specs.Results.{AsksAudit}
use Rattle.nv_script.specs.Words.{words_of}

-- a line that is skipped asks for none, and no line does where there is no world
pub skipped_asks : {P : Type 0} (world : Option WorldState) (line : List ℕ) → is_skipped line ≡ true → AsksAudit world line → P
skipped_asks world line skipped asks = absurd (false≢true (sym asks.1 ∙ skipped))

pub no_world_asks : {P : Type 0} (world : Option WorldState) (line : List ℕ) → world ≡ None → AsksAudit world line → P
no_world_asks world line none asks = absurd (false≢true (subst (λ (w : Option WorldState). IsSome w) none asks.0))

-- a line asks by the command that it spells
pub asks_by : (world : Option WorldState) (line : List ℕ) (c : Command) → command_of (words_of line) ≡ Ok c → AsksAudit world line
    → c ≡ command.Audit
asks_by world line c read asks = let same : Ok c ≡ Ok command.Audit = sym read ∙ asks.2 in cc

-- a command that lists a tree is none
pub other_asks : {P : Type 0} (c : Command) (world : Option WorldState) (line : List ℕ) → command_of (words_of line) ≡ Ok c
    → is_list c ≡ true → AsksAudit world line → P
other_asks c world line read lists asks =
    let same = asks_by world line c read asks in
    absurd (false≢true (subst (λ (d : Command). is_list d ≡ true) same lists))
