-- A line whose events are told, in any form, is a line that is played.
use Rattle.std.proofs.Common.{◌≡◌, inl, inr, ℕ, Bool, true, false, List, [], Option, Some, None, refl}
use Rattle.std.specs.Prelude.{MatchBool, codes}
use Rattle.nv_base.specs.Limits.{first_bad_field}
use Rattle.nv_base.specs.Memory.{out_of_memory}
use Rattle.nv_base.specs.declared.fault.Fault.TheVariants as fault
use Rattle.nv_base.specs.declared.fault.GeometryField.{GeometryField}
use Rattle.nv_base.specs.declared.geometry.GeometryNumbers.{GeometryNumbers}
use Rattle.nv_machine.specs.Step.{step}
use Rattle.nv_machine.specs.World.{Reply, Start, Started, World}
use Rattle.nv_core.specs.Whole.{RunsFrom}
use Rattle.nv_script.specs.declared.command.Command.{Command}
use Rattle.nv_script.specs.declared.command.Command.TheVariants as command
use Rattle.nv_script.specs.declared.trace.Trace.{Trace}
use Rattle.nv_script.specs.declared.trace.Trace.TheVariants as trace
use Rattle.nv_script.specs.Grammar.{is_skipped}
use Rattle.nv_script.specs.Play.{Acts, Formats, Plays, PlaysWords, machine_player, no_head}
use Rattle.nv_script.specs.Texts.{line_of, refused_line, reply_line}
use Rattle.nv_script.specs.Trace.{ActsTold, RunsTracedFrom, player_by}
use Rattle.nv_script.specs.Words.{words_of}
use Rattle.nv_script.proofs.Untraced.{acts_untraced, text_no_json}

-- what a command does that is told as JSON, without what is told of it
abbrev Plain : World → Command → World → Type 0
Plain m c n = (plain : List ℕ) × Acts m c plain n

runs_plain : (first : Reply) (number : ℕ) (m : World) (actor : ℕ) (events : List ℕ) (last : Reply) (n : World)
    → RunsTracedFrom first trace.Json number m actor events last n → RunsFrom first m actor last n
runs_plain Started number m actor events last n runs = runs.0
runs_plain _ number m actor events last n runs = (runs.0, runs.1)

json_plain : (number : ℕ) (m : World) (c : Command) (text : List ℕ) (n : World) → ActsTold trace.Json number m c text n → Plain m c n
json_plain number m (command.Start actor call) text n acts = (reply_line (step m (Start actor call)).reply, (refl, acts.1))
json_plain number m (command.Go actor more) text n acts = (reply_line acts.1, (acts.1, acts.2.0, refl))
json_plain number m (command.Run actor) text n acts = (reply_line acts.1, (acts.1, acts.2.0, refl))
json_plain number m (command.Do actor call) text n acts =
    let start = step m (Start actor call) in
    (reply_line acts.1, (acts.1, runs_plain start.reply number start.world actor acts.2.0 acts.1 n acts.2.1, refl))
json_plain number m command.Stop text n (inl stopped) = (line_of (codes "stopped"), inl (refl, stopped.1))
json_plain number m command.Stop text n (inr refused) = (refused_line out_of_memory, inr (refl, refused.1))
json_plain number m command.Tree text n acts = (acts.0, acts.1)
json_plain number m (command.SnapTree snapshot) text n acts = (acts.0, acts.1)
json_plain number m command.Snaps text n acts = (acts.0, acts.1)
json_plain number m command.Space text n acts = (acts.0, acts.1)
json_plain number m command.Lists text n acts = (acts.0, acts.1)
json_plain number m (command.Log ino) text n acts = (acts.0, acts.1)
json_plain number m command.Audit text n acts = (acts.0, acts.1)

acts_plain : (told : Trace) (number : ℕ) (m : World) (c : Command) (text : List ℕ) (n : World) → ActsTold told number m c text n
    → Plain m c n
acts_plain trace.Off number m c text n acts = (text, acts)
acts_plain trace.Text number m c text n acts =
    let one = acts_untraced trace.Text number m c text n text_no_json acts in (one.plain, one.acts)
acts_plain trace.Json number m c text n acts = json_plain number m c text n acts

formats_plain : (told : Trace) (number : ℕ) (field : Option GeometryField) (numbers : GeometryNumbers) (text : List ℕ) (n : Option World)
    → Formats (player_by told no_head) number field numbers text n → (plain : List ℕ) × Formats machine_player 0 field numbers plain n
formats_plain told number (Some field) numbers text n formats = (refused_line (fault.BadGeometry field), (refl, formats.1))
formats_plain told number None numbers text n (inl made) = (line_of (codes "formatted"), inl (refl, made.1))
formats_plain told number None numbers text n (inr none) = (refused_line out_of_memory, inr (refl, none.1))

-- a line that is told is a line that is played
pub line_played : (told : Trace) (number : ℕ) (m : Option World) (line text : List ℕ) (n : Option World)
    → Plays (player_by told no_head) number m line text n → (plain : List ℕ) × Plays machine_player 0 m line plain n
line_played told number m line text n plays = go (is_skipped line) plays where
  words : (m : Option World) → PlaysWords (player_by told no_head) number m (words_of line) text n
      → (plain : List ℕ) × PlaysWords machine_player 0 m (words_of line) plain n
  words None plays =
      let made = formats_plain told number (first_bad_field plays.0) plays.0 text n plays.2 in
      (made.0, (plays.0, plays.1, made.1))
  words (Some old) plays =
      let one = acts_plain told number old plays.0 text plays.1 plays.3 in
      (one.0, (plays.0, plays.1, plays.2, one.1, plays.4))

  go : (b : Bool) → MatchBool b ((text ≡ []) × (n ≡ m)) (PlaysWords (player_by told no_head) number m (words_of line) text n)
      → (plain : List ℕ) × MatchBool b ((plain ≡ []) × (n ≡ m)) (PlaysWords machine_player 0 m (words_of line) plain n)
  go true skips = (text, skips)
  go false plays = words m plays
