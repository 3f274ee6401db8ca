-- Events lead to each world that a script plays on, so that its reports are what a scan counts.
use Rattle.std.proofs.Common.{◌≡◌, ◌∙◌, ℕ, ◌+◌, ◌++◌, ◌≤◌, Bool, true, false, List, [], ◌∷◌, Option, Some, None, ap, arith, inl, inr, refl, subst, sym}
use Rattle.std.specs.Prelude.{◌≢◌, MatchBool, Ok, min, nat_le, nat_lt, length}
use Rattle.std.specs.List.{AllByRecursion}
use Rattle.std.proofs.lemmas.Bool.{and_parts, leb-true}
use Rattle.nv_alloc.specs.declared.runs.FreeRun.{FreeRun}
use Rattle.nv_base.specs.Limits.{IsWithinLimits, first_bad_field, first_failing, is_between}
use Rattle.nv_base.specs.declared.fault.GeometryField.{GeometryField}
use Rattle.nv_base.specs.declared.fault.GeometryField.TheVariants as field
use Rattle.nv_base.specs.declared.geometry.GeometryNumbers.{GeometryNumbers}
use Rattle.nv_base.specs.declared.limits.TheConstants.{ACTORS, BLOCKS, BLOCK_BYTES, CPUS, INODES, LEAST_BLOCKS, LEAST_PAGE_ENTRIES, PAGE_ENTRIES, SNAPS}
use Rattle.nv_entry.specs.declared.tree.TreeNode.{TreeNode}
use Rattle.nv_machine.specs.Starts.{IsStart}
use Rattle.nv_machine.specs.Step.{after, step}
use Rattle.nv_machine.specs.World.{Event, Reply, Start, Started, World}
use Rattle.nv_machine.proofs.EveryWorld.{all_numbers}
use Rattle.nv_core.specs.Whole.{RunsFrom, Runs}
use Rattle.nv_core.specs.declared.reports.LogCounts.{LogCounts}
use Rattle.nv_core.specs.declared.reports.Space.{Space}
use Rattle.nv_core.specs.declared.snaps.Snaps.{Snaps}
use Rattle.nv_core.specs.Worlds.{HasRun, gos}
use Rattle.nv_core.proofs.RoomsAfter.{after_more}
use Rattle.nv_core.proofs.ScannedReports.{lists_scanned, logs_scanned, snaps_scanned, space_scanned}
use Rattle.nv_restart.proofs.Happenings.{new_reached, one}
use Rattle.nv_restart.specs.Happenings.{IsReached, On, Stop}
use Rattle.nv_restart.specs.Restarted.{restarted}
use Rattle.nv_script.specs.declared.command.Command.{Command}
use Rattle.nv_script.specs.declared.command.Command.TheVariants as command
use Rattle.nv_script.specs.Grammar.{command_of, is_skipped}
use Rattle.nv_script.specs.Play.{Acts, ActsBy, Formats, Plays, PlaysAll, PlaysFrom, PlaysWords, Reports, ShowsLog, ShowsTree, machine_player, no_head, nodes_at, reports_by_scan, reports_of}
use Rattle.nv_script.specs.Trace.{ActsTold, ActsToldBy, player_by}
use Rattle.nv_script.specs.declared.trace.Trace.{Trace}
use Rattle.nv_script.specs.declared.trace.Trace.TheVariants as trace
use Rattle.nv_script.proofs.PlayedTold.{line_played}
use Rattle.nv_script.specs.Results.{HasAnyRun}
use Rattle.nv_script.specs.Texts.{lists_lines, log_line, snaps_lines, space_line}
use Rattle.nv_script.specs.Words.{words_of}

-- ---- events

-- the same events lead to a world, and one more to the next
run_more : (m : World) (e : Event) → HasRun m → HasRun (step m e).world
run_more m e has =
    let run = has.0 in
    let g = m.numbers in
    let next : (step m e).world ≡ after run.start (run.events ++ e ∷ []) =
    ap (λ (w : World). (step w e).world) has.2 ∙ sym (after_more run.start run.events e) in
    let numbers = (all_numbers g run.start run.records (run.events ++ e ∷ []) has.1).numbers in (
      record { start = run.start; records = run.records; events = run.events ++ e ∷ [] },
      subst (λ (n : GeometryNumbers). IsStart n run.start run.records) (sym (ap (λ (w : World). w.numbers) next ∙ numbers)) has.1,
      next,
    )

-- a world of its own geometry to which events lead from a start that may stop
abbrev IsReachedHere : World → Type 0
IsReachedHere m = IsReached m.numbers m

reached_more : (m : World) (e : Event) → IsReachedHere m → IsReachedHere (step m e).world
reached_more m e has =
    let next : IsReached m.numbers (step m e).world = one m.numbers m (On e) has in
    let numbers = (all_numbers m.numbers next.start next.records next.events next.is_start).numbers in
    subst (λ (n : GeometryNumbers). IsReached n (step m e).world) (sym numbers ∙ ap (λ (w : World). w.numbers) next.leads) next

-- what each event keeps
module _ (P : World → Type 0) (more : (m : World) (e : Event) → P m → P (step m e).world) where
  after_by : (events : List Event) (m : World) → P m → P (after m events)
  after_by [] m has = has
  after_by (e ∷ events) m has = after_by events (step m e).world (more m e has)

  runs_by : (m : World) (actor : ℕ) (last : Reply) (n : World) → Runs m actor last n → P m → P n
  runs_by m actor last n runs has = subst P (sym runs.goes.world) (after_by (gos actor runs.goes.grants) m has)

  from_by : (first : Reply) (m : World) (actor : ℕ) (last : Reply) (n : World) → RunsFrom first m actor last n → P m → P n
  from_by Started m actor last n runs has = runs_by m actor last n runs has
  from_by _ m actor last n ends has = subst P (sym ends.1) has

-- ---- commands

run_log : (b : Bool) (ino : ℕ) (m : World) (text : List ℕ) (n : World) → ShowsLog b (reports_by_scan m) ino m text n → n ≡ m
run_log true ino m text n shows = shows.1
run_log false ino m text n shows = shows.1

run_tree : (nodes : Option (List TreeNode)) (m : World) (text : List ℕ) (n : World) → ShowsTree nodes m text n → n ≡ m
run_tree (Some nodes) m text n shows = shows.1
run_tree None m text n shows = shows.1

-- so each command keeps it, where a stop does
module _ (P : World → Type 0) (more : (m : World) (e : Event) → P m → P (step m e).world) where
  acts_by : (m : World) (c : Command) (text : List ℕ) (n : World) → (c ≡ command.Stop → P (restarted m)) → Acts m c text n → P m → P n
  acts_by m (command.Start actor call) text n stops acts has = subst P (sym acts.1) (more m (Start actor call) has)
  acts_by m (command.Go actor least) text n stops acts has =
      subst P (sym acts.1.world) (after_by P more (gos actor acts.1.grants) m has)
  acts_by m (command.Run actor) text n stops acts has = runs_by P more m actor acts.0 n acts.1 has
  acts_by m (command.Do actor call) text n stops acts has =
      from_by P more (step m (Start actor call)).reply (step m (Start actor call)).world actor acts.0 n acts.1
      (more m (Start actor call) has)
  acts_by m command.Stop text n stops (inl stopped) has = subst P (sym stopped.1) (stops refl)
  acts_by m command.Stop text n stops (inr refused) has = subst P (sym refused.1) has
  acts_by m command.Tree text n stops acts has = subst P (sym acts.1) has
  acts_by m (command.SnapTree snapshot) text n stops acts has =
      subst P (sym (run_tree (nodes_at m (Some snapshot)) m text n acts)) has
  acts_by m command.Snaps text n stops acts has = subst P (sym acts.1) has
  acts_by m command.Space text n stops acts has = subst P (sym acts.1) has
  acts_by m command.Lists text n stops acts has = subst P (sym acts.1) has
  acts_by m (command.Log ino) text n stops acts has =
      subst P (sym (run_log (nat_lt ino (length m.shared.cells)) ino m text n acts)) has
  acts_by m command.Audit text n stops acts has = subst P (sym acts.1) has

-- ---- a new world

all_pass : (tests : List (Bool × GeometryField)) → first_failing tests ≡ None → AllByRecursion (λ (test : Bool × GeometryField). test.0 ≡ true) tests
all_pass [] e = tt
all_pass ((true, name) ∷ tests) e = (refl, all_pass tests e)
all_pass ((false, name) ∷ tests) e = cc

between : (least most n : ℕ) → is_between least most n ≡ true → (least ≤ n) × (n ≤ most)
between least most n e =
    let both = and_parts (nat_le least n) (nat_le n most) e in (leb-true least n both.0, leb-true n most both.1)

pub within : (numbers : GeometryNumbers) → first_bad_field numbers ≡ None → IsWithinLimits numbers
within numbers e =
    let tests : List (Bool × GeometryField) =
    (is_between LEAST_BLOCKS BLOCKS numbers.blocks, field.Blocks) ∷ (is_between 1 (min numbers.blocks CPUS) numbers.cpus, field.Cpus)
    ∷ (is_between 1 BLOCK_BYTES numbers.block, field.Block)
    ∷ (is_between LEAST_PAGE_ENTRIES PAGE_ENTRIES numbers.page, field.Page) ∷ (is_between 1 INODES numbers.inodes, field.Inodes)
    ∷ (is_between 1 SNAPS numbers.snaps, field.Snaps) ∷ (is_between 1 ACTORS numbers.actors, field.Actors) ∷ [] in
    let all = all_pass tests e in
    let blocks = between LEAST_BLOCKS BLOCKS numbers.blocks all.0 in
    let cpus = between 1 (min numbers.blocks CPUS) numbers.cpus all.1.0 in
    let block = between 1 BLOCK_BYTES numbers.block all.1.1.0 in
    let page = between LEAST_PAGE_ENTRIES PAGE_ENTRIES numbers.page all.1.1.1.0 in
    let inodes = between 1 INODES numbers.inodes all.1.1.1.1.0 in
    let snaps = between 1 SNAPS numbers.snaps all.1.1.1.1.1.0 in
    let actors = between 1 ACTORS numbers.actors all.1.1.1.1.1.1.0 in
    let fits : numbers.cpus ≤ min numbers.blocks CPUS = cpus.1 in
    record {
      some_blocks = blocks.0;
      blocks_fit = blocks.1;
      some_cpus = cpus.0;
      cpus_fit = omega (arith, fits);
      cpus_have_blocks = omega (arith, fits);
      some_bytes = block.0;
      bytes_fit = block.1;
      some_entries = page.0;
      entries_fit = page.1;
      some_inodes = inodes.0;
      inodes_fit = inodes.1;
      some_snaps = snaps.0;
      snaps_fit = snaps.1;
      some_actors = actors.0;
      actors_fit = actors.1;
    }

-- ---- lines

-- a line that is no stop keeps that events lead to a world
pub run_line : (m : World) (line text : List ℕ) (n : Option World) → is_skipped line ≡ false
    → command_of (words_of line) ≢ Ok command.Stop → Plays machine_player 0 (Some m) line text n → HasRun m → HasAnyRun n
run_line m line text n skipped other plays has = kept (rw skipped at plays) where
  kept : PlaysWords machine_player 0 (Some m) (words_of line) text n → HasAnyRun n
  kept words =
      subst HasAnyRun (sym words.4)
      (acts_by HasRun run_more m words.0 text words.1
      (λ is. absurd (other (subst (λ (c : Command). command_of (words_of line) ≡ Ok c) is words.2))) words.3 has)

-- events lead to a world, where there is one, from a start that may stop
abbrev IsAnyReached : Option World → Type 0
IsAnyReached None = Unit {0}
IsAnyReached (Some m) = IsReachedHere m

has_any : (m : Option World) → IsAnyReached m → HasAnyRun m
has_any None is = tt
has_any (Some m) is = (record { start = is.start; records = is.records; events = is.events }, is.is_start, sym is.leads)

reached_formats : (field : Option GeometryField) (numbers : GeometryNumbers) (text : List ℕ) (n : Option World)
    → first_bad_field numbers ≡ field → Formats machine_player 0 field numbers text n → IsAnyReached n
reached_formats (Some field) numbers text n is formats = subst IsAnyReached (sym formats.1) tt
reached_formats None numbers text n is (inl made) = subst IsAnyReached (sym made.1) (new_reached numbers (within numbers is))
reached_formats None numbers text n is (inr none) = subst IsAnyReached (sym none.1) tt

reached_words : (m : Option World) (words : List (List ℕ)) (text : List ℕ) (n : Option World)
    → PlaysWords machine_player 0 m words text n → IsAnyReached m → IsAnyReached n
reached_words None words text n plays is = reached_formats (first_bad_field plays.0) plays.0 text n refl plays.2
reached_words (Some m) words text n plays is =
    subst IsAnyReached (sym plays.4)
    (acts_by IsReachedHere reached_more m plays.0 text plays.1 (λ stop. one m.numbers m (Stop true) is) plays.3 is)

reached_line : (m : Option World) (line text : List ℕ) (n : Option World) → Plays machine_player 0 m line text n
    → IsAnyReached m → IsAnyReached n
reached_line m line text n plays is = go (is_skipped line) plays where
  go : (b : Bool) → MatchBool b ((text ≡ []) × (n ≡ m)) (PlaysWords machine_player 0 m (words_of line) text n) → IsAnyReached n
  go true skips = subst IsAnyReached (sym skips.1) is
  go false words = reached_words m (words_of line) text n words is

reached_lines : (events : Trace) (head : ℕ → List ℕ → List ℕ) (number : ℕ) (m : Option World) (lines : List (List ℕ)) (text : List ℕ) (n : Option World)
    → PlaysFrom (player_by events head) number m lines text n → IsAnyReached m → IsAnyReached n
reached_lines events head number m [] text n plays is = subst IsAnyReached (sym plays.1) is
reached_lines events head number m (line ∷ lines) text n plays is =
    let one = line_played events number m line plays.0 plays.2 plays.4 in
    reached_lines events head (number + 1) plays.2 lines plays.1 n plays.5 (reached_line m line one.0 plays.2 one.1 is)

pub plays_run_by : (events : Trace) (head : ℕ → List ℕ → List ℕ) (lines : List (List ℕ)) (text : List ℕ) (n : Option World)
    → PlaysAll (player_by events head) None lines text n → HasAnyRun n
plays_run_by events head lines text n plays = has_any n (reached_lines events head 1 None lines text n plays tt)

pub plays_run : (lines : List (List ℕ)) (text : List ℕ) (n : Option World) → PlaysAll machine_player None lines text n → HasAnyRun n
plays_run lines text n plays = plays_run_by trace.Off no_head lines text n plays

-- ---- reports

-- what a command does where its reports are by what stands in a world is what it does where they are by a scan
pub acts_scanned : (m : World) (c : Command) (text : List ℕ) (n : World) → HasRun m → ActsBy (reports_of m) m c text n → Acts m c text n
acts_scanned m command.Space text n has acts =
    subst (λ (s : Space). (text ≡ space_line s) × (n ≡ m)) (space_scanned m has) acts
acts_scanned m command.Lists text n has acts =
    subst (λ (l : List (List FreeRun)). Reports (lists_lines l) m text n) (lists_scanned m has) acts
acts_scanned m command.Snaps text n has acts =
    subst (λ (s : Snaps). Reports (snaps_lines s) m text n) (snaps_scanned m has) acts
acts_scanned m (command.Log ino) text n has acts = go (nat_lt ino (length m.shared.cells)) acts where
  go : (b : Bool) → ShowsLog b (reports_of m) ino m text n → ShowsLog b (reports_by_scan m) ino m text n
  go true shows = subst (λ (l : LogCounts). Reports (log_line ino l) m text n) (logs_scanned m ino has) shows
  go false shows = shows
acts_scanned m (command.Start actor call) text n has acts = acts
acts_scanned m (command.Go actor more) text n has acts = acts
acts_scanned m (command.Run actor) text n has acts = acts
acts_scanned m (command.Do actor call) text n has acts = acts
acts_scanned m command.Stop text n has acts = acts
acts_scanned m command.Tree text n has acts = acts
acts_scanned m (command.SnapTree snapshot) text n has acts = acts
acts_scanned m command.Audit text n has acts = acts

-- the same of a command whose events are told, or not
pub told_scanned : (events : Trace) (number : ℕ) (m : World) (c : Command) (text : List ℕ) (n : World) → HasRun m
    → ActsToldBy (reports_of m) events number m c text n → ActsTold events number m c text n
told_scanned trace.Off number m c text n has acts = acts_scanned m c text n has acts
told_scanned trace.Text number m (command.Start actor call) text n has acts = acts
told_scanned trace.Text number m (command.Go actor more) text n has acts = acts
told_scanned trace.Text number m (command.Run actor) text n has acts = acts
told_scanned trace.Text number m (command.Do actor call) text n has acts = acts
told_scanned trace.Text number m command.Space text n has acts = acts_scanned m command.Space text n has acts
told_scanned trace.Text number m command.Lists text n has acts = acts_scanned m command.Lists text n has acts
told_scanned trace.Text number m command.Snaps text n has acts = acts_scanned m command.Snaps text n has acts
told_scanned trace.Text number m (command.Log ino) text n has acts = acts_scanned m (command.Log ino) text n has acts
told_scanned trace.Text number m command.Stop text n has acts = acts
told_scanned trace.Text number m command.Tree text n has acts = acts
told_scanned trace.Text number m (command.SnapTree snapshot) text n has acts = acts
told_scanned trace.Text number m command.Audit text n has acts = acts
told_scanned trace.Json number m (command.Start actor call) text n has acts = acts
told_scanned trace.Json number m (command.Go actor more) text n has acts = acts
told_scanned trace.Json number m (command.Run actor) text n has acts = acts
told_scanned trace.Json number m (command.Do actor call) text n has acts = acts
told_scanned trace.Json number m command.Stop text n has acts = acts
told_scanned trace.Json number m command.Space text n has acts = (acts.0, acts_scanned m command.Space acts.0 n has acts.1, acts.2)
told_scanned trace.Json number m command.Lists text n has acts = (acts.0, acts_scanned m command.Lists acts.0 n has acts.1, acts.2)
told_scanned trace.Json number m command.Snaps text n has acts = (acts.0, acts_scanned m command.Snaps acts.0 n has acts.1, acts.2)
told_scanned trace.Json number m (command.Log ino) text n has acts = (acts.0, acts_scanned m (command.Log ino) acts.0 n has acts.1, acts.2)
told_scanned trace.Json number m command.Tree text n has acts = acts
told_scanned trace.Json number m (command.SnapTree snapshot) text n has acts = acts
told_scanned trace.Json number m command.Audit text n has acts = acts
