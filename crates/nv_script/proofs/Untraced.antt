-- A command that is traced does what it does untraced: its text is that of its events, and then of the answer.
use Rattle.std.proofs.Common.{◌≡◌, ℕ, ◌++◌, Bool, true, false, List, [], Option, Some, None, refl, subst, sym}
use Rattle.std.specs.Prelude.{◌≢◌, MatchBool}
use Rattle.nv_base.specs.Limits.{first_bad_field}
use Rattle.nv_base.specs.declared.fault.GeometryField.{GeometryField}
use Rattle.nv_base.specs.declared.geometry.GeometryNumbers.{GeometryNumbers}
use Rattle.nv_machine.specs.Step.{step}
use Rattle.nv_machine.specs.World.{Reply, Start, Started, World}
use Rattle.nv_core.specs.CallNames.{call_name}
use Rattle.nv_core.specs.Whole.{RunsFrom}
use Rattle.nv_script.specs.declared.command.Command.{Command}
use Rattle.nv_script.specs.declared.command.Command.TheVariants as command
use Rattle.nv_script.specs.declared.trace.Trace.{Trace}
use Rattle.nv_script.specs.declared.trace.Trace.TheVariants as trace
use Rattle.nv_script.specs.Grammar.{is_skipped}
use Rattle.nv_script.specs.Play.{Acts, Formats, Plays, PlaysWords, machine_player, no_head}
use Rattle.nv_script.specs.Texts.{reply_line}
use Rattle.nv_script.specs.Trace.{ActsTold, IsTraced, RunsTracedFrom, player_by, start_lines}
use Rattle.nv_script.specs.Words.{words_of}
use Rattle.nv_script.proofs.EventLines.{both_traced, goes_traced, none_traced, start_traced}

-- what a command does untraced, and the text of its events
pub record Untraced (m : World) (c : Command) (text : List ℕ) (n : World) : Type 0 where
  pub events : List ℕ
  pub plain : List ℕ
  pub acts : Acts m c plain n
  pub text_is : text ≡ events ++ plain
  pub told : IsTraced events []

runs_untraced : (first : Reply) (number : ℕ) (m : World) (actor : ℕ) (events : List ℕ) (last : Reply) (n : World)
    → RunsTracedFrom first trace.Text number m actor events last n → RunsFrom first m actor last n
runs_untraced Started number m actor events last n runs = runs.0
runs_untraced _ number m actor events last n runs = (runs.0, runs.1)

from_traced : (first : Reply) (number : ℕ) (m : World) (actor : ℕ) (events : List ℕ) (last : Reply) (n : World)
    → RunsTracedFrom first trace.Text number m actor events last n → IsTraced events []
from_traced Started number m actor events last n runs =
    subst (λ (t : List ℕ). IsTraced t []) (sym runs.1) (goes_traced number m actor runs.0.goes.grants)
from_traced _ number m actor events last n runs = subst (λ (t : List ℕ). IsTraced t []) (sym runs.2) none_traced

untold : (m : World) (c : Command) (text : List ℕ) (n : World) → Acts m c text n → Untraced m c text n
untold m c text n acts = record { events = []; plain = text; acts = acts; text_is = refl; told = none_traced }

-- answers alone are no JSON, and no more is text
pub off_no_json : trace.Off ≢ trace.Json
off_no_json is = cc

pub text_no_json : trace.Text ≢ trace.Json
text_no_json is = cc

pub acts_untraced : (told : Trace) (number : ℕ) (m : World) (c : Command) (text : List ℕ) (n : World) → told ≢ trace.Json
    → ActsTold told number m c text n
    → Untraced m c text n
acts_untraced trace.Off number m c text n form acts = untold m c text n acts
acts_untraced trace.Text number m (command.Start actor call) text n form acts =
    let start = step m (Start actor call) in
    record {
      events = start_lines trace.Text number actor (call_name call) start.reply;
      plain = reply_line start.reply;
      acts = (refl, acts.1);
      text_is = acts.0;
      told = start_traced number actor (call_name call) start.reply;
    }
acts_untraced trace.Text number m (command.Go actor more) text n form acts =
    let traced = acts.2 in
    record {
      events = acts.0;
      plain = reply_line acts.1;
      acts = (acts.1, traced.0, refl);
      text_is = acts.3;
      told = subst (λ (t : List ℕ). IsTraced t []) (sym traced.1) (goes_traced number m actor traced.0.grants);
    }
acts_untraced trace.Text number m (command.Run actor) text n form acts =
    let traced = acts.2 in
    record {
      events = acts.0;
      plain = reply_line acts.1;
      acts = (acts.1, traced.0, refl);
      text_is = acts.3;
      told = subst (λ (t : List ℕ). IsTraced t []) (sym traced.1) (goes_traced number m actor traced.0.goes.grants);
    }
acts_untraced trace.Text number m (command.Do actor call) text n form acts =
    let start = step m (Start actor call) in
    let calls = acts.2 in
    record {
      events = acts.0;
      plain = reply_line acts.1;
      acts = (acts.1, runs_untraced start.reply number start.world actor calls.0 acts.1 n calls.1, refl);
      text_is = acts.3;
      told = subst (λ (t : List ℕ). IsTraced t []) (sym calls.2)
          (both_traced (start_lines trace.Text number actor (call_name call) start.reply) [] calls.0 []
          (start_traced number actor (call_name call) start.reply)
          (from_traced start.reply number start.world actor calls.0 acts.1 n calls.1));
    }
acts_untraced trace.Text number m command.Stop text n form acts = untold m command.Stop text n acts
acts_untraced trace.Text number m command.Tree text n form acts = untold m command.Tree text n acts
acts_untraced trace.Text number m (command.SnapTree snapshot) text n form acts = untold m (command.SnapTree snapshot) text n acts
acts_untraced trace.Text number m command.Snaps text n form acts = untold m command.Snaps text n acts
acts_untraced trace.Text number m command.Space text n form acts = untold m command.Space text n acts
acts_untraced trace.Text number m command.Lists text n form acts = untold m command.Lists text n acts
acts_untraced trace.Text number m (command.Log ino) text n form acts = untold m (command.Log ino) text n acts
acts_untraced trace.Text number m command.Audit text n form acts = untold m command.Audit text n acts
acts_untraced trace.Json number m c text n form acts = absurd (form refl)

-- a text is that of events, and then this
pub record IsBehind (text plain : List ℕ) : Type 0 where
  pub events : List ℕ
  pub text_is : text ≡ events ++ plain
  pub told : IsTraced events []

all_behind : (text : List ℕ) → IsBehind text text
all_behind text = record { events = []; text_is = refl; told = none_traced }

-- a `format` makes no event
formats_untraced : (number : ℕ) (field : Option GeometryField) (numbers : GeometryNumbers) (text : List ℕ) (n : Option World)
    → Formats (player_by trace.Text no_head) number field numbers text n → Formats machine_player 0 field numbers text n
formats_untraced number (Some field) numbers text n formats = formats
formats_untraced number None numbers text n formats = formats

-- a line that is traced is a line that is played
pub line_untraced : (number : ℕ) (m : Option World) (line text : List ℕ) (n : Option World)
    → Plays (player_by trace.Text no_head) number m line text n
    → (plain : List ℕ) × Plays machine_player 0 m line plain n × IsBehind text plain
line_untraced number m line text n plays = go (is_skipped line) plays where
  words : (m : Option World) → PlaysWords (player_by trace.Text no_head) number m (words_of line) text n
      → (plain : List ℕ) × PlaysWords machine_player 0 m (words_of line) plain n × IsBehind text plain
  words None plays =
      (text, (plays.0, plays.1, formats_untraced number (first_bad_field plays.0) plays.0 text n plays.2), all_behind text)
  words (Some old) plays =
      let one = acts_untraced trace.Text number old plays.0 text plays.1 text_no_json plays.3 in (
        one.plain,
        (plays.0, plays.1, plays.2, one.acts, plays.4),
        record { events = one.events; text_is = one.text_is; told = one.told },
      )

  go : (b : Bool) → MatchBool b ((text ≡ []) × (n ≡ m)) (PlaysWords (player_by trace.Text no_head) number m (words_of line) text n)
      → (plain : List ℕ) × MatchBool b ((plain ≡ []) × (n ≡ m)) (PlaysWords machine_player 0 m (words_of line) plain n)
      × IsBehind text plain
  go true skips = (text, skips, all_behind text)
  go false plays = words m plays
