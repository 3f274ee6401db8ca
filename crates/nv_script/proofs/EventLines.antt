-- The lines of events: whole lines, each of which begins with two spaces.
use Rattle.std.proofs.Common.{◌≡◌, ◌∙◌, ℕ, Bool, true, false, not, cond, List, [], ◌∷◌, ◌++◌, Option, Some, None, ap, append-nil, refl, sym}
use Rattle.std.specs.Prelude.{codes, decimal}
use Rattle.nv_machine.specs.PlainRun.{plain_change_of}
use Rattle.nv_machine.specs.Step.{step}
use Rattle.nv_machine.specs.StepNames as named
use Rattle.nv_machine.specs.StepRows.{name_of}
use Rattle.nv_machine.specs.World as machine
use Rattle.nv_machine.specs.World.{Done, Moved, Refused, Reply, Running, Started, Waiting, World, actor_at}
use Rattle.nv_core.specs.CallNames.{call_name}
use Rattle.nv_core.specs.NextSteps.{holder_for, number_at}
use Rattle.nv_core.specs.declared.call_name.CallName.{CallName}
use Rattle.nv_core.specs.declared.call_name.CallName.TheVariants as called
use Rattle.nv_script.specs.declared.trace.Trace.TheVariants as trace
use Rattle.nv_script.specs.Lines.{HasNoEnd, ended}
use Rattle.nv_script.specs.Trace.{IsTraced, call_text, event_head, go_line, go_lines, is_event, labelled, reply_text, start_lines, step_place, step_text, step_word, without_events}
use Rattle.nv_script.proofs.Answering.{AreAnswers, IsAnswer, answers_clean, clean_lines, no_event}
use Rattle.nv_script.proofs.Lines.{HasNoEnd-append, ended-append}
use Rattle.nv_script.proofs.Solid.{clean_text, decimal_solid, solid_clean}

-- ---- texts with the lines of events among them

without-append : (a b : List (List ℕ)) → without_events (a ++ b) ≡ without_events a ++ without_events b
without-append [] b = refl
without-append (line ∷ a) b =
    let more = without-append a b in
    elim (not (is_event line)) as (λ kept. cond kept (line ∷ without_events (a ++ b)) (without_events (a ++ b))
    ≡ cond kept (line ∷ without_events a) (without_events a) ++ without_events b) [
      | true ↦ ap (λ (lines : List (List ℕ)). line ∷ lines) more
      | false ↦ more
    ]

without-answers : (lines : List (List ℕ)) → AreAnswers lines → without_events lines ≡ lines
without-answers [] answers = refl
without-answers (line ∷ lines) answers =
    rw (no_event line answers.1) (ap (λ (more : List (List ℕ)). line ∷ more) (without-answers lines answers.2))

pub none_traced : IsTraced [] []
none_traced = ([], tt, refl, refl)

pub answer_traced : (text : List ℕ) → IsAnswer text → IsTraced text text
answer_traced text told =
    (told.0, answers_clean told.0 told.1, told.2, told.2 ∙ ap ended (sym (without-answers told.0 told.1)))

pub both_traced : (w t w' t' : List ℕ) → IsTraced w t → IsTraced w' t' → IsTraced (w ++ w') (t ++ t')
both_traced w t w' t' first then_ = (
  first.0 ++ then_.0,
  clean_lines first.0 then_.0 first.1 then_.1,
  ap (λ b. b ++ w') first.2 ∙ ap (λ b. ended first.0 ++ b) then_.2 ∙ sym (ended-append first.0 then_.0),
  ap (λ b. b ++ t') first.3 ∙ ap (λ b. ended (without_events first.0) ++ b) then_.3
      ∙ sym (ended-append (without_events first.0) (without_events then_.0))
      ∙ ap ended (sym (without-append first.0 then_.0)),
)

without-one : (line : List ℕ) → is_event line ≡ true → without_events (line ∷ []) ≡ []
without-one line is = rw is refl

-- a line that begins so
line_traced : (bytes : List ℕ) → HasNoEnd bytes → is_event bytes ≡ true → IsTraced (bytes ++ 10 ∷ []) []
line_traced bytes clean is =
    (bytes ∷ [], (clean, tt), sym (append-nil (bytes ++ 10 ∷ [])), sym (ap ended (without-one bytes is)))

-- ---- no line end stands in the line of an event

number_clean : (n : ℕ) → HasNoEnd (decimal n)
number_clean n = solid_clean (decimal n) (decimal_solid n)

space_clean : HasNoEnd (codes " ")
space_clean = clean_text (codes " ") refl

labelled_clean : (label : List ℕ) (n : Option ℕ) → HasNoEnd label → HasNoEnd (labelled label n)
labelled_clean label None clean = tt
labelled_clean label (Some n) clean = HasNoEnd-append label (decimal n) clean (number_clean n)

call_clean : (call : CallName) → HasNoEnd (call_text call)
call_clean called.Create = clean_text (codes "create") refl
call_clean called.Mkdir = clean_text (codes "mkdir") refl
call_clean called.Write = clean_text (codes "write") refl
call_clean called.Read = clean_text (codes "read") refl
call_clean called.Size = clean_text (codes "size") refl
call_clean called.Mode = clean_text (codes "mode") refl
call_clean called.Stat = clean_text (codes "stat") refl
call_clean called.List = clean_text (codes "list") refl
call_clean called.Lookup = clean_text (codes "lookup") refl
call_clean called.Unlink = clean_text (codes "unlink") refl
call_clean called.Rmdir = clean_text (codes "rmdir") refl
call_clean called.Rename = clean_text (codes "rename") refl
call_clean called.Snap = clean_text (codes "snap") refl
call_clean called.Drop = clean_text (codes "drop") refl
call_clean called.Show = clean_text (codes "show") refl
call_clean called.Drain = clean_text (codes "drain") refl
call_clean called.Fast = clean_text (codes "fast") refl
call_clean called.Thorough = clean_text (codes "thorough") refl
call_clean called.Auto = clean_text (codes "auto") refl

word_clean : (n : named.StepName) → HasNoEnd (step_word n)
word_clean named.Number = clean_text (codes "number") refl
word_clean (named.Look dir) = clean_text (codes "look") refl
word_clean (named.Lock slot) = clean_text (codes "lock") refl
word_clean named.Check = clean_text (codes "check") refl
word_clean (named.TakeBlocks cpu) = clean_text (codes "take_blocks") refl
word_clean (named.TakeLogPages cpu) = clean_text (codes "take_log_pages") refl
word_clean named.Ready = clean_text (codes "ready") refl
word_clean named.Enter = clean_text (codes "enter") refl
word_clean (named.Append slot) = clean_text (codes "append") refl
word_clean (named.Open cpu) = clean_text (codes "open") refl
word_clean (named.Publish slot) = clean_text (codes "publish") refl
word_clean (named.Close cpu) = clean_text (codes "close") refl
word_clean (named.Retire slot) = clean_text (codes "retire") refl
word_clean named.Leave = clean_text (codes "leave") refl
word_clean (named.Unlock slot) = clean_text (codes "unlock") refl
word_clean (named.Give cpu) = clean_text (codes "give") refl
word_clean named.ReturnNumber = clean_text (codes "return_number") refl
word_clean (named.Visit slot) = clean_text (codes "visit") refl
word_clean named.Make = clean_text (codes "make") refl
word_clean named.Drop = clean_text (codes "drop") refl
word_clean named.Pin = clean_text (codes "pin") refl
word_clean (named.Show slot) = clean_text (codes "show") refl
word_clean named.Unpin = clean_text (codes "unpin") refl
word_clean named.Pick = clean_text (codes "pick") refl
word_clean (named.LockPicked slot) = clean_text (codes "lock_picked") refl
word_clean (named.Release slot) = clean_text (codes "release") refl
word_clean (named.LockCleaned slot) = clean_text (codes "lock_cleaned") refl
word_clean named.PlanCleaning = clean_text (codes "plan_cleaning") refl
word_clean (named.Fresh cpu) = clean_text (codes "fresh") refl
word_clean (named.Unlink slot) = clean_text (codes "unlink") refl
word_clean (named.Compact slot) = clean_text (codes "compact") refl

reply_clean : (reply : Reply) (holder : Option ℕ) → HasNoEnd (reply_text reply holder)
reply_clean Started holder = clean_text (codes "start") refl
reply_clean Moved holder = clean_text (codes "moved") refl
reply_clean Waiting holder = HasNoEnd-append (codes "waits") (labelled (codes " ") holder) (clean_text (codes "waits") refl)
    (labelled_clean (codes " ") holder space_clean)
reply_clean (Done answer) holder = clean_text (codes "done") refl
reply_clean (Refused why) holder = clean_text (codes "refused") refl

head_clean : (number actor : ℕ) (call : CallName) → HasNoEnd (event_head number actor call)
head_clean number actor call =
    let line = codes "  " ++ decimal number in
    let at = line ++ codes " " ++ decimal actor in
    let first = HasNoEnd-append (codes "  ") (decimal number) (clean_text (codes "  ") refl) (number_clean number) in
    let second = HasNoEnd-append (line ++ codes " ") (decimal actor) (HasNoEnd-append line (codes " ") first space_clean)
    (number_clean actor) in
    let third = HasNoEnd-append (at ++ codes " ") (call_text call) (HasNoEnd-append at (codes " ") second space_clean) (call_clean call) in
    HasNoEnd-append (at ++ codes " " ++ call_text call) (codes " ") third space_clean

-- ---- THE LINES

pub step_traced : (number actor : ℕ) (call : CallName) (n : named.StepName) (reply : Reply) (holder commit : Option ℕ)
    → IsTraced (step_text number actor call n reply holder commit) []
step_traced number actor call n reply holder commit =
    let head = event_head number actor call in
    let word = head ++ step_word n in
    let place = word ++ labelled (codes " ") (step_place n) in
    let replied = place ++ codes " " ++ reply_text reply holder in
    let first = HasNoEnd-append head (step_word n) (head_clean number actor call) (word_clean n) in
    let second = HasNoEnd-append word (labelled (codes " ") (step_place n)) first (labelled_clean (codes " ") (step_place n) space_clean) in
    let third = HasNoEnd-append (place ++ codes " ") (reply_text reply holder) (HasNoEnd-append place (codes " ") second space_clean)
    (reply_clean reply holder) in
    line_traced (replied ++ labelled (codes " commit ") commit)
    (HasNoEnd-append replied (labelled (codes " commit ") commit) third
    (labelled_clean (codes " commit ") commit (clean_text (codes " commit ") refl)))
    refl

pub start_traced : (number actor : ℕ) (call : CallName) (reply : Reply) → IsTraced (start_lines trace.Text number actor call reply) []
start_traced number actor call Started = line_traced (event_head number actor call ++ codes "start")
    (HasNoEnd-append (event_head number actor call) (codes "start") (head_clean number actor call) (clean_text (codes "start") refl)) refl
start_traced number actor call Moved = none_traced
start_traced number actor call Waiting = none_traced
start_traced number actor call (Done answer) = none_traced
start_traced number actor call (Refused why) = none_traced

go_traced : (number : ℕ) (m : World) (actor : ℕ) (granted : Bool) (o : Option Running) → IsTraced (go_line trace.Text number m actor granted o) []
go_traced number m actor granted None = none_traced
go_traced number m actor granted (Some r) =
    step_traced number actor (call_name r.call) (name_of r.next m.numbers.cpus actor r) ((step m (machine.Go actor granted)).reply)
    (holder_for m.shared r r.next) (number_at (plain_change_of m (machine.Go actor granted)) r.commit)

pub goes_traced : (number : ℕ) (m : World) (actor : ℕ) (grants : List Bool) → IsTraced (go_lines trace.Text number m actor grants) []
goes_traced number m actor [] = none_traced
goes_traced number m actor (granted ∷ grants) =
    let next = (step m (machine.Go actor granted)).world in
    both_traced (go_line trace.Text number m actor granted (actor_at m actor).running) [] (go_lines trace.Text number next actor grants) []
    (go_traced number m actor granted (actor_at m actor).running) (goes_traced number next actor grants)
