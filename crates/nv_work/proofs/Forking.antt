-- How a script that threads play ends, from what holds before each of its lines.
use Rattle.std.proofs.Common.{◌≡◌, ℕ, ◌+◌, ◌≤◌, ◌⊎◌, inl, inr, true, List, [], ◌∷◌, ◌++◌, length, length-append, Option, Some, None, is_some, IsOk, Result, Ok, Err, refl, sym, ap, subst, ◌∙◌, append_assoc, arith}
use Rattle.std.proofs.KnownBytes.{Consumes-nil, Consumes-trans}
use Rattle.std.proofs.lemmas.List.Elements.{All-push}
use Rattle.std.specs.Io.KnownBytes.{Appends, Consumes, prepend_known}
use Rattle.nv_base.specs.declared.fault.Fault.{Fault}
use Rattle.nv_base.specs.declared.fault.Fault.TheVariants as fault
use Rattle.nv_base.specs.declared.fault.ScriptFaultKind.TheVariants as kind
use Rattle.nv_machine.specs.World.{World}
use Rattle.nv_core.specs.Worlds.{ShowsAny, WorldState}
use Rattle.nv_script.specs.declared.fault.LineFault.{LineFault}
use Rattle.nv_script.specs.declared.fault.LineFault.TheVariants as line_fault
use Rattle.nv_script.specs.declared.feed.LineResult.{LineResult}
use Rattle.nv_script.specs.declared.feed.LineResult.TheVariants as taken
use Rattle.nv_script.specs.Lines.{IsLine, LineResultIs, WritesFront, WritesSome, ended}
use Rattle.nv_script.specs.Play.{EndsBy, PlaysAll, machine_player, most_lines, no_head}
use Rattle.nv_script.specs.declared.trace.Trace.TheVariants as trace
use Rattle.nv_script.specs.Results.{AtLine, HoldsNone, Sent, TakesLine, ending_of, is_line}
use Rattle.nv_work.specs.Taken.{AllTaken, lists_of}
use Rattle.nv_work.specs.Threads.{calls_in, forked_of, shares_of}
use Rattle.nv_work.specs.declared.forked.ForkedLines.{ForkedLines}
use Rattle.nv_work.specs.Work.{EndsBefore, Fork, ForkedFails, Forks, FrontFails, IsForked, fork_fault, is_fork, lines_in}
use Rattle.nv_work.specs.Working.{AtFork, FrontFaultIs, FrontLineIs, ReadsForkedLine}
use Rattle.nv_script.specs.Grammar.{is_skipped}
use Rattle.nv_script.specs.Words.{words_of}
use Rattle.nv_base.specs.Memory.{out_of_memory}
use Rattle.nv_script.proofs.Endings.{all_left, broken, lines_fit, none_gathered, none_left, not_played, played, reads_fail, written_on, written_some}
use Rattle.nv_script.proofs.Known.{writes_rest, writes_some}
use Rattle.nv_script.proofs.Lines.{ended-append, ended-push}
use Rattle.nv_script.proofs.Taken.{cut, cut_end, if_same, no_line, within}

module _ (input known old new : Option (List ℕ)) (gathered : List ℕ) (number : ℕ) (world : Option World) (few : number ≤ 1048577)
    (at : AtLine input known old new gathered number world) where
  -- no line was left, and none was `fork`
  pub no_fork : (left : Option (List ℕ)) (ahead line : List ℕ) (last : ℕ) → last + 1 ≡ number
      → LineResultIs taken.End known (prepend_known ahead left) line
      → EndsBefore (fault.ScriptFault kind.Order last) input left (λ text. WritesFront old new text gathered)
  no_fork left ahead line last count end = inr (inl (
    at.lines,
    [],
    at.text,
    world,
    record {
      split = cut_end input known (prepend_known ahead left) at.lines [] at.taken end.0 end.1;
      few = lines_fit input known old new gathered number world few at;
      plays = at.plays;
    },
    ((let c = at.count in omega (arith, c, count)), refl, refl, none_left left ahead end.1),
    at.written,
  ))

  -- no line was taken
  no_front_line : (t : LineResult) (why : Fault) (after left : Option (List ℕ)) (line : List ℕ) → is_line number t ≡ Err why → IsLine line
      → LineResultIs t known after line → EndsBefore why input left (λ text. WritesFront old new text gathered)
  no_front_line t why after left line is lawful took =
      let none = no_line (FrontFails (is_some world)) input known at.lines number at.taken t why after line is lawful took in
      subst (λ (f : Fault). EndsBefore f input left (λ text. WritesFront old new text gathered)) (sym none.why_is) (inl (
        at.lines,
        none.rest,
        at.text,
        world,
        record { split = none.split; few = lines_fit input known old new gathered number world few at; plays = at.plays },
        (sym at.count, none.is),
        at.written,
      ))

  module _ (after : Option (List ℕ)) (line : List ℕ) (lawful : IsLine line) (here : LineResultIs taken.Line known after line)
      (last : number ≤ most_lines) where
    -- a line that is not played to its end, and is not `fork`
    pub front_not_played : (left : Option (List ℕ)) (why : LineFault) (to : Sent)
        → FrontFaultIs why (record { written = new; gathered = gathered }) to world line
        → EndsBefore (ending_of number why) input left (λ text. WritesFront old to.written text to.gathered)
        × HoldsNone {A = ℕ} (Err (ending_of number why)) to.gathered
    front_not_played left (line_fault.OutOfMemory witness) to why = (
      inl (not_played input known old new gathered number world few at after line lawful here left (line_fault.OutOfMemory witness) to
          last why),
      tt,
    )
    front_not_played left line_fault.Write to why = (
      not_played input known old new gathered number world few at after line lawful here left line_fault.Write to last why,
      why.3.1,
    )
    front_not_played left (line_fault.Faulty reason) to why =
        let p = played input known old new gathered number world few at after (line ++ 10 ∷ []) here in (
          subst (λ (s : Sent). EndsBefore (fault.ScriptFault reason number) input left (λ text. WritesFront old s.written text s.gathered))
              (sym why.1) (inl (
                at.lines,
                (line ++ 10 ∷ []) ++ p.0,
                at.text,
                world,
                p.1,
                (
                  sym at.count,
                  within (FrontFails (is_some world)) number _ reason last (inr (inr (line, p.0, lawful, refl, why.0))),
                ),
                at.written,
              )),
          tt,
        )

    -- the line is `fork`
    pub at_fork : (w : World) → world ≡ Some w → is_fork line ≡ true → fork_fault true line ≡ None
        → (f : Fork) × AtFork input after old new gathered (number + 1) f × (f.world ≡ w) × (f.behind ≡ [])
    at_fork w some is right = (
      record { front = at.lines; text = at.text; world = w; line = line; behind = [] },
      record {
        is = record {
          plays = subst (λ (m : Option World). PlaysAll machine_player None at.lines at.text m) some at.plays;
          lawful = lawful;
          is = is;
          right = right;
          forked = λ k d less. absurd (omega (arith, less));
        };
        count = (let c = at.count in omega (arith, c, length-append at.lines (line ∷ [])));
        few = (let c = at.count in omega (arith, c, last, length-append at.lines (line ∷ [])));
        taken = subst (λ (bytes : List ℕ). Consumes input after bytes) (sym (ended-push at.lines line))
            (Consumes-trans input known after (ended at.lines) (line ++ 10 ∷ []) at.taken here);
        written = at.written;
      },
      refl,
      refl,
    )

-- a world is made where a line is `fork` without a fault
fork_world : (world : Option WorldState) (m : Option World) (line : List ℕ) → ShowsAny world m → fork_fault (is_some world) line ≡ None
    → (w : World) × (m ≡ Some w) × (fork_fault true line ≡ None)
fork_world None m line shown right = cc
fork_world (Some v) None line shown right = absurd shown
fork_world (Some v) (Some w) line shown right = (w, refl, right)

-- `fork` was taken
pub to_fork : (input known old : Option (List ℕ)) (from to : Sent) (number : ℕ) (m : Option World) → number ≤ 1048577
    → AtLine input known old from.written from.gathered number m → (after : Option (List ℕ)) (line : List ℕ) → IsLine line
    → LineResultIs taken.Line known after line → number ≤ most_lines → (world world' : Option WorldState) → ShowsAny world m
    → FrontLineIs (Ok true) from to world line world'
    → (f : Fork) × AtFork input after old to.written to.gathered (number + 1) f × (f.behind ≡ []) × ShowsAny world' (Some f.world)
to_fork input known old from to number m few at after line lawful here last world world' shown is =
    let made = fork_world world m line shown is.1 in
    let f = at_fork input known old from.written from.gathered number m few at after line lawful here last made.0 made.1 is.0 made.2 in
    let there : m ≡ Some f.0.world = made.1 ∙ ap Some (sym f.2) in (
      f.0,
      subst (λ (s : Sent). AtFork input after old s.written s.gathered (number + 1) f.0) (sym is.2) f.1,
      f.3,
      subst (λ (n : Option World). ShowsAny world' n) there (subst (λ (v : Option WorldState). ShowsAny v m) (sym is.3) shown),
    )

-- no line was taken, before `fork`
pub front_not_taken : (input known old new : Option (List ℕ)) (gathered : List ℕ) (number : ℕ) (world : Option World)
    (few : number ≤ 1048577) (at : AtLine input known old new gathered number world) (why : Fault) (left : Option (List ℕ))
    (ahead line : List ℕ) (to : Sent) → TakesLine (Err why) number known left ahead line (record { written = new; gathered = gathered }) to
    → EndsBefore why input left (λ text. WritesFront old to.written text to.gathered) × HoldsNone {A = ℕ} (Err why) to.gathered
front_not_taken input known old new gathered number world few at fault.Read left ahead line to t =
    let now = written_on input known old new gathered number world few at to.written to.gathered t.0 in
    (inl (reads_fail input known old to.written to.gathered number world few now left ahead line t.4 t.3 t.2), t.1)
front_not_taken input known old new gathered number world few at fault.Write left ahead line to t =
    let part = written_some input known old new gathered number world few at left to.written t.0 in
    (none_gathered trace.Off no_head input left old to.written to.gathered t.1 part, t.1)
front_not_taken input known old new gathered number world few at (fault.ScriptFault why n) left ahead line to t =
    let now = written_on input known old new gathered number world few at to.written to.gathered t.0 in (
      no_front_line input known old to.written to.gathered number world few now t.1 (fault.ScriptFault why n) (prepend_known ahead left)
          left line t.2 t.3 t.4,
      tt,
    )
front_not_taken input known old new gathered number world few at _ left ahead line to t = absurd t

-- ---- behind `fork`

-- more of what was gathered was written
pub fork_written : (input known old new new' : Option (List ℕ)) (gathered gathered' : List ℕ) (number : ℕ) (f : Fork)
    → AtFork input known old new gathered number f → WritesFront new new' gathered gathered'
    → AtFork input known old new' gathered' number f
fork_written input known old new new' gathered gathered' number f at more = record {
  is = at.is;
  count = at.count;
  few = at.few;
  taken = at.taken;
  written = writes_rest old new new' f.text gathered gathered' at.written more;
}

-- some of the text of the lines before `fork` was written, of which the input has more
pub broken_fork : (input left old new : Option (List ℕ)) (f : Fork) (rest : List ℕ) → Forks input f rest → WritesSome old new f.text
    → EndsBy machine_player fault.Write input left (λ text. Appends old new text)
broken_fork input left old new f rest forks some =
    let few = forks.few in
    let more = ended (f.line ∷ f.behind) ++ rest in
    let same : ended (lines_in f) ++ rest ≡ ended f.front ++ more = ap (λ bytes. bytes ++ rest) (ended-append f.front (f.line ∷ f.behind))
    ∙ append_assoc (ended f.front) (ended (f.line ∷ f.behind)) rest in
    broken trace.Off no_head input left old new f.front more f.text (Some f.world) (if_same input _ _ same forks.split)
    (omega (arith, few, length-append f.front (f.line ∷ f.behind))) forks.is.plays some

module _ (input known old new : Option (List ℕ)) (gathered : List ℕ) (number : ℕ) (f : Fork)
    (at : AtFork input known old new gathered number f) where
  -- the input goes on with a piece
  forks_on : (after : Option (List ℕ)) (piece : List ℕ) → Consumes known after piece → (rest : List ℕ) × Forks input f (piece ++ rest)
  forks_on after piece more = let c = cut input known after (lines_in f) piece at.taken more in
      (c.0, record { is = at.is; split = c.1; few = at.few })

  -- some of what was gathered was not written
  fork_broken : (left new' : Option (List ℕ)) (gathered' : List ℕ) → WritesSome new new' gathered → gathered' ≡ []
      → EndsBy machine_player fault.Write input left (λ text. WritesFront old new' text gathered')
  fork_broken left new' gathered' some none =
      let p = forks_on known [] (Consumes-nil known) in
      none_gathered trace.Off no_head input left old new' gathered' none
      (broken_fork input left old new' f ([] ++ p.0) p.1 (writes_some old new new' f.text gathered at.written some))

  fork_reads_fail : (left : Option (List ℕ)) (ahead piece : List ℕ) → Consumes known (prepend_known ahead left) piece → IsLine piece
      → ahead ≡ [] → EndsBefore fault.Read input left (λ text. WritesFront old new text gathered)
  fork_reads_fail left ahead piece more lawful none =
      let p = forks_on (prepend_known ahead left) piece more in
      let gone = Consumes-trans input known (prepend_known ahead left) (ended (lines_in f)) piece at.taken more in
      inr (f, piece ++ p.0, p.1, (piece, lawful, all_left input left ahead (ended (lines_in f) ++ piece) none gone), at.written)

  no_forked_line : (t : LineResult) (why : Fault) (after left : Option (List ℕ)) (line : List ℕ) → is_line number t ≡ Err why → IsLine line
      → LineResultIs t known after line → EndsBefore why input left (λ text. WritesFront old new text gathered)
  no_forked_line t why after left line is lawful took =
      let none = no_line ForkedFails input known (lines_in f) number at.taken t why after line is lawful took in
      subst (λ (g : Fault). EndsBefore g input left (λ text. WritesFront old new text gathered)) (sym none.why_is) (inr (inr (
        f,
        none.rest,
        record { is = at.is; split = none.split; few = at.few },
        (sym at.count, none.is),
        at.written,
      )))

  -- there is no memory for what is read
  pub fork_starved : (why : Fault) (left : Option (List ℕ)) → why ≡ out_of_memory
      → EndsBefore why input left (λ text. WritesFront old new text gathered) × HoldsNone {A = ℕ} (Err why) gathered
  fork_starved why left same =
      let p = forks_on known [] (Consumes-nil known) in
      subst (λ (g : Fault). EndsBefore g input left (λ text. WritesFront old new text gathered) × HoldsNone {A = ℕ} (Err g) gathered)
      (sym same) (inr (f, p.0, p.1, tt, at.written), tt)

  -- no line is left
  pub fork_ends : (left : Option (List ℕ)) (ahead line : List ℕ) (world : Option WorldState) (threads : ℕ) (lines : ForkedLines)
      → LineResultIs taken.End known (prepend_known ahead left) line → ShowsAny world (Some f.world)
      → lists_of lines ≡ shares_of threads (calls_in f.behind)
      → AllTaken threads lines input left old new gathered world
  fork_ends left ahead line world threads lines end shown shares = (
    f,
    record {
      is = at.is;
      split = cut_end input known (prepend_known ahead left) (lines_in f) [] at.taken end.0 end.1;
      few = at.few;
    },
    none_left left ahead end.1,
    at.written,
    shown,
    shares,
  )

  module _ (after : Option (List ℕ)) (line : List ℕ) (lawful : IsLine line) (here : LineResultIs taken.Line known after line)
      (last : number ≤ most_lines) where
    -- a line that cannot be read
    pub fork_faulty : (left : Option (List ℕ)) (why : LineFault) → ReadsForkedLine (Err why) line
        → EndsBefore (ending_of number why) input left (λ text. WritesFront old new text gathered)
        × HoldsNone {A = ℕ} (Err (ending_of number why)) gathered
    fork_faulty left (line_fault.OutOfMemory witness) is =
        let p = forks_on after (line ++ 10 ∷ []) here in (inr (f, (line ++ 10 ∷ []) ++ p.0, p.1, tt, at.written), tt)
    fork_faulty left line_fault.Write is = absurd is
    fork_faulty left (line_fault.Faulty reason) is =
        let p = forks_on after (line ++ 10 ∷ []) here in (
          inr (inr (
            f,
            (line ++ 10 ∷ []) ++ p.0,
            p.1,
            (sym at.count, within ForkedFails number _ reason last (inr (inr (line, p.0, lawful, refl, is)))),
            at.written,
          )),
          tt,
        )

    -- one more line was read
    pub fork_next : ((is_skipped line ≡ true) ⊎ IsOk (forked_of (words_of line)))
        → (g : Fork) × AtFork input after old new gathered (number + 1) g × (g.world ≡ f.world) × (g.behind ≡ f.behind ++ line ∷ [])
    fork_next is =
        let all = lines_in f in
        let longer : f.front ++ f.line ∷ (f.behind ++ line ∷ []) ≡ all ++ line ∷ [] =
        sym (append_assoc f.front (f.line ∷ f.behind) (line ∷ [])) in (
          record { front = f.front; text = f.text; world = f.world; line = f.line; behind = f.behind ++ line ∷ [] },
          record {
            is = record {
              plays = at.is.plays;
              lawful = at.is.lawful;
              is = at.is.is;
              right = at.is.right;
              forked = All-push IsForked f.behind line at.is.forked (lawful, is);
            };
            count = (let c = at.count in omega (arith, c, ap length longer, length-append all (line ∷ [])));
            few = (let c = at.count in omega (arith, c, last, ap length longer, length-append all (line ∷ [])));
            taken = subst (λ (bytes : List ℕ). Consumes input after bytes) (sym (ap ended longer ∙ ended-push all line))
                (Consumes-trans input known after (ended all) (line ++ 10 ∷ []) at.taken here);
            written = at.written;
          },
          refl,
          refl,
        )

-- no line was taken, behind `fork`
pub fork_not_taken : (input known old new : Option (List ℕ)) (gathered : List ℕ) (number : ℕ) (f : Fork)
    (at : AtFork input known old new gathered number f) (why : Fault) (left : Option (List ℕ))
    (ahead line : List ℕ) (to : Sent) → TakesLine (Err why) number known left ahead line (record { written = new; gathered = gathered }) to
    → EndsBefore why input left (λ text. WritesFront old to.written text to.gathered) × HoldsNone {A = ℕ} (Err why) to.gathered
fork_not_taken input known old new gathered number f at fault.Read left ahead line to t =
    let now = fork_written input known old new to.written gathered to.gathered number f at t.0 in
    (fork_reads_fail input known old to.written to.gathered number f now left ahead line t.4 t.3 t.2, t.1)
fork_not_taken input known old new gathered number f at fault.Write left ahead line to t =
    (fork_broken input known old new gathered number f at left to.written to.gathered t.0 t.1, t.1)
fork_not_taken input known old new gathered number f at (fault.ScriptFault why n) left ahead line to t =
    let now = fork_written input known old new to.written gathered to.gathered number f at t.0 in (
      no_forked_line input known old to.written to.gathered number f now t.1 (fault.ScriptFault why n) (prepend_known ahead left) left
          line t.2 t.3 t.4,
      tt,
    )
fork_not_taken input known old new gathered number f at _ left ahead line to t = absurd t

-- the same of a line and its bytes
pub reads_at : (r : Result (Unit {0}) LineFault) (slice line : List ℕ) → slice ≡ line → ReadsForkedLine r slice → ReadsForkedLine r line
reads_at r slice line same is = subst (λ (bytes : List ℕ). ReadsForkedLine r bytes) same is

-- the same world is shown
pub shown_as : (world : Option WorldState) (m n : World) → n ≡ m → ShowsAny world (Some m) → ShowsAny world (Some n)
shown_as world m n same shown = subst (λ (w : World). ShowsAny world (Some w)) (sym same) shown
