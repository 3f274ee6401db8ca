-- What a command with a reply writes whose events are told, and where it leads.
use Rattle.std.proofs.Common.{◌≡◌, ◌∙◌, ℕ, ◌+◌, ◌++◌, List, [], Option, Some, None, Result, Ok, Err, ap, inl, inr, refl, subst, sym}
use Rattle.std.specs.Prelude.{IfOk, MatchResult, OnOk}
use Rattle.nv_calls.specs.declared.call.Call.{Call}
use Rattle.nv_machine.specs.Step.{step}
use Rattle.nv_machine.specs.World as machine
use Rattle.nv_core.specs.CallNames.{call_name}
use Rattle.nv_core.specs.Worlds.{IsStep, Leads, Shows, WorldState, reply_of, told_by}
use Rattle.nv_core.specs.declared.event.Event.TheVariants as event
use Rattle.nv_core.specs.declared.event.Reply.{Reply}
use Rattle.nv_core.proofs.Replies.{start_reply}
use Rattle.nv_restart.specs.Happenings.{Replied}
use Rattle.nv_script.specs.declared.command.Command.{Command}
use Rattle.nv_script.specs.declared.command.Command.TheVariants as command
use Rattle.nv_script.specs.declared.trace.Trace.{Trace}
use Rattle.nv_script.specs.declared.trace.Trace.TheVariants as trace
use Rattle.nv_script.specs.Play.{ActsBy, reports_of}
use Rattle.nv_script.specs.Texts.{reply_line, told_line}
use Rattle.nv_script.specs.Trace.{ActsTracedBy, AnswersTraced, CallsTraced, GoesTraced, RunsTraced, answer_by, start_lines}
use Rattle.nv_trace.specs.Traced.{Adds}

-- a command writes this text with its events, and leads to that world
abbrev pub Traces : Trace → ℕ → Command → List ℕ → (old new : WorldState) → Type 0
Traces form number c text old new = Leads (λ m n. ActsTracedBy (reports_of m) form number m c text n) old new

-- what holds of a reply holds of it in each world that is shown
pub always : {F : Type 0} (X : Reply → Type 0) (old : WorldState) (reply : Result Reply F) → IfOk reply X
    → IfOk reply (λ told. (m : machine.World) → Shows old m → X told)
always X old (Ok told) is = λ m shows. is
always X old (Err why) is = tt

-- a start replies, and does not stop
pub start_replied : (old new : WorldState) (actor : ℕ) (c : Call) (told : Reply)
    → ((m : machine.World) → Shows old m → IsStep m (event.Start actor c) told new)
    → (m : machine.World) → Shows old m → told_by told ≡ Replied (reply_of told)
start_replied old new actor c told steps m shows =
    let it = steps m shows in it.told_is ∙ sym (ap Replied (start_reply m actor c told new it))

-- the line of its reply was written behind these
abbrev Behind : {E : Type 0} → Trace → ℕ → Result Reply E → (mid text : List ℕ) → Type 0
Behind form number reply mid text =
    MatchResult reply (λ told. text ≡ mid ++ answer_by form number (told_line (told_by told))) (λ why. ⊥)

pub answered_by : {T E F : Type 0} (result : Result T E) (reply : Result Reply F) (form : Trace) (number : ℕ) (told : Reply)
    (mid text : List ℕ) → reply ≡ Ok told → OnOk result (text ≡ mid ++ answer_by form number (told_line (told_by told)))
    → OnOk result (Behind form number reply mid text)
answered_by {F = F} result reply form number told mid text is wrote =
    subst (λ (r : Result Reply F). OnOk result (Behind form number r mid text)) (sym is) wrote

-- events are told, and then the last reply
answered : {T E F : Type 0} (Traced : machine.World → List ℕ → machine.Reply → machine.World → Type 0) (result : Result T E)
    (reply : Result Reply F) (form : Trace) (number : ℕ) (old new : WorldState) (before mid text : List ℕ) (given c : Command) → given ≡ c
    → ((m n : machine.World) → AnswersTraced form number (Traced m) text n → ActsTracedBy (reports_of m) form number m c text n)
    → before ≡ []
    → IfOk reply (λ told. Leads (λ m n. Adds before mid (λ events. Traced m events (reply_of told) n)) old new)
    → IfOk reply (λ told. (m : machine.World) → Shows old m → told_by told ≡ Replied (reply_of told))
    → OnOk result (Behind form number reply mid text) → OnOk result (Traces form number given text old new)
answered Traced (Err why) reply form number old new before mid text given c is acts none leads replied behind = tt
answered Traced (Ok done) (Err why) form number old new before mid text given c is acts none leads replied behind = absurd behind
answered Traced (Ok done) (Ok told) form number old new before mid text given c is acts none leads replied behind =
    subst (λ (d : Command). Traces form number d text old new) (sym is) (λ m shows.
    let by = leads m shows in
    let events = by.1.0 in
    let mid_is : mid ≡ events = by.1.1 ∙ ap (λ (front : List ℕ). front ++ events) none in
    let text_is : text ≡ events ++ answer_by form number (reply_line (reply_of told)) =
    behind ∙ ap (λ (front : List ℕ). front ++ answer_by form number (told_line (told_by told))) mid_is
    ∙ ap (λ t. events ++ answer_by form number (told_line t)) (replied m shows) in
    (by.0, acts m by.0 (events, reply_of told, by.1.2, text_is), by.2))

pub goes : {T E F : Type 0} (result : Result T E) (reply : Result Reply F) (form : Trace) (number : ℕ) (old new : WorldState) (actor more : ℕ)
    (before mid text : List ℕ) (given : Command) → given ≡ command.Go actor more → before ≡ []
    → IfOk reply (λ told. Leads (λ m n. Adds before mid (λ events. GoesTraced form number (more + 1) m actor events (reply_of told) n)) old new)
    → IfOk reply (λ told. told_by told ≡ Replied (reply_of told)) → OnOk result (Behind form number reply mid text)
    → OnOk result (Traces form number given text old new)
goes result reply form number old new actor more before mid text given is none leads replied behind =
    answered (λ m. GoesTraced form number (more + 1) m actor) result reply form number old new before mid text given (command.Go actor more) is
    (λ m n acts. acts) none leads (always (λ told. told_by told ≡ Replied (reply_of told)) old reply replied) behind

pub runs : {T E F : Type 0} (result : Result T E) (reply : Result Reply F) (form : Trace) (number : ℕ) (old new : WorldState) (actor : ℕ)
    (before mid text : List ℕ) (given : Command) → given ≡ command.Run actor → before ≡ []
    → IfOk reply (λ told. Leads (λ m n. Adds before mid (λ events. RunsTraced form number m actor events (reply_of told) n)) old new)
    → IfOk reply (λ told. told_by told ≡ Replied (reply_of told)) → OnOk result (Behind form number reply mid text)
    → OnOk result (Traces form number given text old new)
runs result reply form number old new actor before mid text given is none leads replied behind =
    answered (λ m. RunsTraced form number m actor) result reply form number old new before mid text given (command.Run actor) is
    (λ m n acts. acts) none leads (always (λ told. told_by told ≡ Replied (reply_of told)) old reply replied) behind

pub calls : {T E F : Type 0} (result : Result T E) (reply : Result Reply F) (form : Trace) (number : ℕ) (old new : WorldState) (actor : ℕ) (c : Call)
    (before mid text : List ℕ) (given : Command) → given ≡ command.Do actor c → before ≡ []
    → IfOk reply (λ told. Leads (λ m n. Adds before mid (λ events. CallsTraced form number m actor c events (reply_of told) n)) old new)
    → IfOk reply (λ told. (m : machine.World) → Shows old m → told_by told ≡ Replied (reply_of told)) → OnOk result (Behind form number reply mid text)
    → OnOk result (Traces form number given text old new)
calls result reply form number old new actor c before mid text given is none leads replied behind =
    answered (λ m. CallsTraced form number m actor c) result reply form number old new before mid text given (command.Do actor c) is
    (λ m n acts. acts) none leads replied behind

pub starts : {T E F : Type 0} (result : Result T E) (reply : Result Reply F) (form : Trace) (number : ℕ) (old new : WorldState) (actor : ℕ) (c : Call)
    (before mid text : List ℕ) (given : Command) → given ≡ command.Start actor c → before ≡ []
    → IfOk reply (λ told. (m : machine.World) → Shows old m → IsStep m (event.Start actor c) told new)
    → IfOk reply (λ told. mid ≡ before ++ start_lines form number actor (call_name c) (reply_of told))
    → OnOk result (Behind form number reply mid text) → OnOk result (Traces form number given text old new)
starts (Err why) reply form number old new actor c before mid text given is none steps begun behind = tt
starts (Ok done) (Err why) form number old new actor c before mid text given is none steps begun behind = absurd behind
starts (Ok done) (Ok told) form number old new actor c before mid text given is none steps begun behind =
    subst (λ (d : Command). Traces form number d text old new) (sym is) (λ m shows.
    let it = steps m shows in
    let began = step m (machine.Start actor c) in
    let same : reply_of told ≡ began.reply = start_reply m actor c told new it in
    let mid_is : mid ≡ start_lines form number actor (call_name c) began.reply =
    begun ∙ ap (λ (front : List ℕ). front ++ start_lines form number actor (call_name c) (reply_of told)) none
    ∙ ap (λ (r : machine.Reply). start_lines form number actor (call_name c) r) same in
    let text_is : text ≡ start_lines form number actor (call_name c) began.reply ++ answer_by form number (reply_line began.reply) =
    behind ∙ ap (λ (front : List ℕ). front ++ answer_by form number (told_line (told_by told))) mid_is
    ∙ ap (λ t. start_lines form number actor (call_name c) began.reply ++ answer_by form number (told_line t)) it.told_is in
    (began.world, (text_is, refl), it.shows))

-- a command that makes no event
pub other_told : {T E : Type 0} (result : Result T E) (number : ℕ) (old new : WorldState) (c : Command) (text : List ℕ)
    → ((actor : ℕ) (started : Call) → c ≡ command.Start actor started → ⊥) → ((actor more : ℕ) → c ≡ command.Go actor more → ⊥)
    → ((actor : ℕ) → c ≡ command.Run actor → ⊥) → ((actor : ℕ) (made : Call) → c ≡ command.Do actor made → ⊥)
    → OnOk result (Leads (λ m n. ActsBy (reports_of m) m c text n) old new) → OnOk result (Traces trace.Text number c text old new)
other_told result number old new (command.Start actor started) text no_start no_go no_run no_do leads = absurd (no_start actor started refl)
other_told result number old new (command.Go actor more) text no_start no_go no_run no_do leads = absurd (no_go actor more refl)
other_told result number old new (command.Run actor) text no_start no_go no_run no_do leads = absurd (no_run actor refl)
other_told result number old new (command.Do actor made) text no_start no_go no_run no_do leads = absurd (no_do actor made refl)
other_told result number old new command.Stop text no_start no_go no_run no_do leads = leads
other_told result number old new command.Tree text no_start no_go no_run no_do leads = leads
other_told result number old new (command.SnapTree snapshot) text no_start no_go no_run no_do leads = leads
other_told result number old new command.Snaps text no_start no_go no_run no_do leads = leads
other_told result number old new command.Space text no_start no_go no_run no_do leads = leads
other_told result number old new command.Lists text no_start no_go no_run no_do leads = leads
other_told result number old new (command.Log ino) text no_start no_go no_run no_do leads = leads
other_told result number old new command.Audit text no_start no_go no_run no_do leads = leads
