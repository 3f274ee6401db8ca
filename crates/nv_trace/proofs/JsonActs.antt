-- What a command writes that is told as JSON, and where it leads.
use Rattle.std.proofs.Common.{◌≡◌, ◌∙◌, ◌⊎◌, inl, inr, ℕ, ◌++◌, Bool, true, false, List, [], Option, Some, None, Result, Ok, Err, ap, ap₂, refl, subst, sym}
use Rattle.std.proofs.lemmas.Bool.{false≢true}
use Rattle.std.specs.Prelude.{IfErr, IfOk, IsSome, OnOk, option_map}
use Rattle.nv_base.specs.Memory.{out_of_memory}
use Rattle.nv_base.specs.Refusals.{FailsOnly}
use Rattle.nv_base.specs.declared.fault.Fault.{Fault}
use Rattle.nv_base.specs.declared.fault.Fault.TheVariants as fault
use Rattle.nv_base.specs.declared.fault.GeometryField.{GeometryField}
use Rattle.nv_base.specs.declared.geometry.GeometryNumbers.{GeometryNumbers}
use Rattle.nv_entry.specs.declared.tree.TreeNode.{TreeNode}
use Rattle.nv_machine.specs.Format.{formatted}
use Rattle.nv_machine.specs.World as machine
use Rattle.nv_calls.specs.declared.call.Call.{Call}
use Rattle.nv_core.specs.Worlds.{IsStep, Leads, Shows, WorldState, told_by}
use Rattle.nv_core.specs.declared.event.Event.TheVariants as event
use Rattle.nv_core.specs.declared.event.Reply.{Reply}
use Rattle.nv_core.specs.declared.event.Reply.TheVariants as reply
use Rattle.nv_restart.specs.Happenings.{Stop, Stopped, Told, happen, told_at}
use Rattle.nv_restart.specs.Restarted.{restarted}
use Rattle.nv_script.specs.declared.asked.Asked.{Asked}
use Rattle.nv_script.specs.declared.command.Command.{Command}
use Rattle.nv_script.specs.declared.command.Command.TheVariants as command
use Rattle.nv_script.specs.declared.trace.Trace.TheVariants as trace
use Rattle.nv_script.specs.Json.{answer_lines}
use Rattle.nv_script.specs.JsonWorld.{world_line}
use Rattle.nv_script.specs.Play.{ActsBy, Formats, ShowsTree, machine_player, no_head, nodes_at, reports_of}
use Rattle.nv_script.specs.Results.{IsTree, ListsText, MakesTold, MakesWorld, TellsAudit}
use Rattle.nv_script.specs.Texts.{refused_line, told_line, tree_lines}
use Rattle.nv_script.specs.Trace.{ActsTracedBy, RestartsTold, player_by}
use Rattle.nv_trace.specs.Traced.{is_report}
use Rattle.nv_trace.proofs.ActingTraced.{Traces}

some_none : (m : machine.World) → Some m ≡ None → ⊥
some_none m is = cc

same_some : (m n : machine.World) → Some m ≡ Some n → m ≡ n
same_some m n is = cc

-- ---- a world that is made

-- none was made
pub told_none : (number : ℕ) (field : Option GeometryField) (numbers : GeometryNumbers) (answer text : List ℕ)
    → MakesWorld field numbers answer None → text ≡ answer_lines number answer → MakesTold trace.Json number field numbers text None
told_none number field numbers answer text (Some m, formats, shown) is = absurd shown
told_none number field numbers answer text (None, formats, shown) is = (None, go field formats, tt) where
  go : (f : Option GeometryField) → Formats machine_player 0 f numbers answer None
      → Formats (player_by trace.Json no_head) number f numbers text None
  go (Some f) formats = (is ∙ ap (answer_lines number) formats.0, refl)
  go None (inl made) = absurd (some_none (formatted numbers) (sym made.1))
  go None (inr refused) = inr (is ∙ ap (answer_lines number) refused.0, refl)

-- one was made, and is told
pub told_some : (number : ℕ) (field : Option GeometryField) (numbers : GeometryNumbers) (answer text : List ℕ) (w : WorldState)
    → MakesWorld field numbers answer (Some w)
    → ((m : machine.World) → Shows w m → text ≡ world_line number m ++ answer_lines number answer)
    → MakesTold trace.Json number field numbers text (Some w)
told_some number field numbers answer text w (None, formats, shown) is = absurd shown
told_some number field numbers answer text w (Some m, formats, shown) is = (Some m, go field formats, shown) where
  go : (f : Option GeometryField) → Formats machine_player 0 f numbers answer (Some m)
      → Formats (player_by trace.Json no_head) number f numbers text (Some m)
  go (Some f) formats = absurd (some_none m formats.1)
  go None (inl made) = inl (
    is m shown
        ∙ ap₂ (λ (w : machine.World) (a : List ℕ). world_line number w ++ answer_lines number a) (same_some m (formatted numbers) made.1)
        made.0,
    made.1,
  )
  go None (inr refused) = absurd (some_none m refused.1)

-- ---- reports and stops

-- what is left is a report
pub left_report : (c : Command) → ((actor : ℕ) (call : Call) → c ≡ command.Start actor call → ⊥)
    → ((actor more : ℕ) → c ≡ command.Go actor more → ⊥) → ((actor : ℕ) → c ≡ command.Run actor → ⊥)
    → ((actor : ℕ) (call : Call) → c ≡ command.Do actor call → ⊥) → (c ≡ command.Stop → ⊥) → is_report c ≡ true
left_report (command.Start actor call) no_start no_go no_run no_do no_stop = absurd (no_start actor call refl)
left_report (command.Go actor more) no_start no_go no_run no_do no_stop = absurd (no_go actor more refl)
left_report (command.Run actor) no_start no_go no_run no_do no_stop = absurd (no_run actor refl)
left_report (command.Do actor call) no_start no_go no_run no_do no_stop = absurd (no_do actor call refl)
left_report command.Stop no_start no_go no_run no_do no_stop = absurd (no_stop refl)
left_report _ no_start no_go no_run no_do no_stop = refl

-- a report is told line by line
pub reported : {T E : Type 0} (result : Result T E) (number : ℕ) (old new : WorldState) (c : Command) (answer text : List ℕ)
    → is_report c ≡ true → Leads (λ m n. ActsBy (reports_of m) m c answer n) old new
    → OnOk result (text ≡ answer_lines number answer) → OnOk result (Traces trace.Json number c text old new)
reported (Err why) number old new c answer text quiet leads wrote = tt
reported (Ok done) number old new c answer text quiet leads wrote =
    λ m shows. let by = leads m shows in (by.0, go c quiet m by.0 by.1, by.2) where
      go : (c : Command) → is_report c ≡ true → (m n : machine.World) → ActsBy (reports_of m) m c answer n
          → ActsTracedBy (reports_of m) trace.Json number m c text n
      go command.Tree quiet m n acts = (answer, acts, wrote)
      go (command.SnapTree s) quiet m n acts = (answer, acts, wrote)
      go command.Snaps quiet m n acts = (answer, acts, wrote)
      go command.Space quiet m n acts = (answer, acts, wrote)
      go command.Lists quiet m n acts = (answer, acts, wrote)
      go (command.Log ino) quiet m n acts = (answer, acts, wrote)
      go command.Audit quiet m n acts = (answer, acts, wrote)
      go _ quiet m n acts = absurd (false≢true quiet)

-- a tree that is asked for
pub tree_now : (nodes : List TreeNode) (result : Result (List TreeNode) Fault) → IfOk result (λ tree. tree ≡ nodes)
    → FailsOnly out_of_memory result → IsTree (Some nodes) result
tree_now nodes (Ok tree) ok err = ok
tree_now nodes (Err why) ok err = err

pub tree_then : (nodes : List TreeNode) (pins : Option ℕ) (result : Result (List TreeNode) Fault)
    → IfOk result (λ tree. (tree ≡ nodes) × IsSome pins)
    → IfErr result (λ why. ((why ≡ fault.NoSnapshot) × (pins ≡ None)) ⊎ ((why ≡ out_of_memory) × IsSome pins))
    → IsTree (option_map (λ (p : ℕ). nodes) pins) result
tree_then nodes None (Ok tree) ok err = absurd (false≢true ok.1)
tree_then nodes None (Err why) ok (inl none) = ap Err none.0
tree_then nodes None (Err why) ok (inr some) = absurd (false≢true some.1)
tree_then nodes (Some p) (Ok tree) ok err = ok.0
tree_then nodes (Some p) (Err why) ok (inl none) = absurd (cc)
tree_then nodes (Some p) (Err why) ok (inr some) = some.0

-- and its text, or a refusal
pub tree_listed : (nodes : Option (List TreeNode)) (tree : List TreeNode) (text : List ℕ) → IsTree nodes (Ok tree)
    → text ≡ tree_lines tree → ListsText nodes text
tree_listed None tree text is told = absurd (cc)
tree_listed (Some nodes) tree text is told = inl (told ∙ ap tree_lines is)

pub tree_refused : (nodes : Option (List TreeNode)) (why : Fault) (text : List ℕ) → IsTree nodes (Err why)
    → text ≡ refused_line why → ListsText nodes text
tree_refused None why text is told = let same : why ≡ fault.NoSnapshot = cc in told ∙ ap refused_line same
tree_refused (Some nodes) why text is told = inr (told ∙ ap refused_line is)

-- a tree that is listed is one that is shown
tree_shown : (nodes : Option (List TreeNode)) (m : machine.World) (text : List ℕ) → ListsText nodes text → ShowsTree nodes m text m
tree_shown None m text is = (is, refl)
tree_shown (Some nodes) m text is = (is, refl)

pub lists_tree : (m : machine.World) (snapshot : Option ℕ) (text : List ℕ) → ListsText (nodes_at m snapshot) text
    → ShowsTree (nodes_at m snapshot) m text m
lists_tree m snapshot text is = tree_shown (nodes_at m snapshot) m text is

-- a command that lists a tree of the world which is shown
pub listed : {T E : Type 0} (result : Result T E) (w : WorldState) (snapshot : Option ℕ) (given c : Command) (text : List ℕ) → given ≡ c
    → ((m : machine.World) → ShowsTree (nodes_at m snapshot) m text m → ActsBy (reports_of m) m c text m)
    → OnOk result ((m : machine.World) → Shows w m → ListsText (nodes_at m snapshot) text)
    → OnOk result (Leads (λ m n. ActsBy (reports_of m) m given text n) w w)
listed (Err why) w snapshot given c text is acts lists = tt
listed (Ok done) w snapshot given c text is acts lists =
    subst (λ (d : Command). Leads (λ m n. ActsBy (reports_of m) m d text n) w w) (sym is)
    (λ m shows. (m, acts m (lists_tree m snapshot text (lists m shows)), shows))

-- an audit says what it says
pub audit_told : (w : WorldState) (asked : Option Asked) (given : Command) (text : List ℕ) → given ≡ command.Audit → TellsAudit asked text
    → Leads (λ m n. ActsBy (reports_of m) m given text n) w w
audit_told w asked given text is told =
    subst (λ (d : Command). Leads (λ m n. ActsBy (reports_of m) m d text n) w w) (sym is) (λ m shows. (m, by asked told m, shows))
  where
    by : (asked : Option Asked) → TellsAudit asked text → (m : machine.World) → ActsBy (reports_of m) m command.Audit text m
    by None told m = (inr told, refl)
    by (Some asked) told m = (inl told, refl)

-- only a stop is told as one
stopped_only : (r : Reply) → told_by r ≡ Stopped → r ≡ reply.Stopped
stopped_only reply.Started is = cc
stopped_only reply.Moved is = cc
stopped_only reply.Waits is = cc
stopped_only (reply.Done answer) is = cc
stopped_only reply.Stopped is = refl
stopped_only (reply.Refused why) is = cc

-- the machine stopped, and the world that goes on was told
pub stopped_told : {T E : Type 0} (result : Result T E) (number : ℕ) (old new : WorldState) (before mid text : List ℕ) → before ≡ []
    → ((m : machine.World) → Shows old m → IsStep m event.Stop reply.Stopped new)
    → ((m : machine.World) → Shows new m → mid ≡ before ++ world_line number m)
    → OnOk result (text ≡ mid ++ answer_lines number (told_line Stopped))
    → OnOk result (Leads (λ m n. RestartsTold trace.Json number (restarted m) m text n) old new)
stopped_told (Err why) number old new before mid text none steps told wrote = tt
stopped_told (Ok done) number old new before mid text none steps told wrote =
    λ m shows. let it = steps m shows in go m it.granted it.told_is it.shows where
      go : (m : machine.World) (granted : Bool) → Stopped ≡ told_at m (Stop granted) → Shows new (happen m (Stop granted))
          → (n : machine.World) × RestartsTold trace.Json number (restarted m) m text n × Shows new n
      go m true is shows = (
        restarted m,
        inl (
          wrote ∙ ap (λ (t : List ℕ). t ++ answer_lines number (told_line Stopped))
              (told (restarted m) shows ∙ ap (λ (t : List ℕ). t ++ world_line number (restarted m)) none),
          refl,
        ),
        shows,
      )
      go m false is shows = absurd (cc)

-- or it was refused
pub stop_refused : {T E : Type 0} (result : Result T E) (number : ℕ) (old new : WorldState) (told : Reply) (before text : List ℕ)
    → before ≡ [] → (told ≡ reply.Stopped → ⊥) → ((m : machine.World) → Shows old m → IsStep m event.Stop told new)
    → OnOk result (text ≡ before ++ answer_lines number (told_line (told_by told)))
    → OnOk result (Leads (λ m n. RestartsTold trace.Json number (restarted m) m text n) old new)
stop_refused (Err why) number old new told before text none other steps wrote = tt
stop_refused (Ok done) number old new told before text none other steps wrote =
    λ m shows. let it = steps m shows in go m it.granted it.told_is it.shows where
      go : (m : machine.World) (granted : Bool) → told_by told ≡ told_at m (Stop granted) → Shows new (happen m (Stop granted))
          → (n : machine.World) × RestartsTold trace.Json number (restarted m) m text n × Shows new n
      go m true is shows = absurd (other (stopped_only told is))
      go m false is shows = (
        m,
        inr (wrote ∙ ap₂ (λ (t : List ℕ) (o : Told). t ++ answer_lines number (told_line o)) none is, refl),
        shows,
      )
