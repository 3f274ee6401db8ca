-- How a script ends, from what holds before each of its lines.
use Rattle.std.proofs.Common.{◌≡◌, ℕ, ◌+◌, ◌≤◌, ◌⊎◌, inl, inr, Bool, false, true, List, [], ◌∷◌, ◌++◌, length, length-append, Option, Some, None, IfSome, is_some, Result, Ok, Err, refl, sym, ap, subst, ◌∙◌, append_assoc, append-nil, arith}
use Rattle.std.proofs.KnownBytes.{Appends-nil, Consumes-nil, Consumes-trans}
use Rattle.std.proofs.lemmas.Grind.{flat_map-append}
use Rattle.std.specs.List.{flat_map}
use Rattle.std.specs.Prelude.{◌≢◌, codes}
use Rattle.std.specs.Io.KnownBytes.{Appends, Consumes, IsAtEnd, prepend_known}
use Rattle.nv_base.specs.declared.fault.Fault.{Fault}
use Rattle.nv_base.specs.declared.fault.Fault.TheVariants as fault
use Rattle.nv_base.specs.declared.fault.ScriptFaultKind.{ScriptFaultKind}
use Rattle.nv_entry.specs.declared.tree.TreeNode.{TreeNode}
use Rattle.nv_machine.specs.World.{World}
use Rattle.nv_script.specs.declared.command.Command.{Command}
use Rattle.nv_script.specs.declared.fault.LineFault.{LineFault}
use Rattle.nv_script.specs.declared.fault.LineFault.TheVariants as line_fault
use Rattle.nv_script.specs.declared.feed.LineResult.{LineResult}
use Rattle.nv_script.specs.declared.feed.LineResult.TheVariants as taken
use Rattle.nv_script.specs.Lines.{IsCutOff, IsLine, LineResultIs, WritesFront, WritesSome, ended}
use Rattle.nv_script.specs.Play.{Ends, EndsBy, EndsWell, IsFault, LineFails, ListsFront, ListsWords, Played, Plays, PlaysAll, PlaysFrom, Stops, StopsAt, is_list, machine_player, most_lines, no_head}
use Rattle.nv_script.specs.Trace.{player_by}
use Rattle.nv_script.specs.declared.trace.Trace.{Trace}
use Rattle.nv_script.specs.declared.trace.Trace.TheVariants as trace
use Rattle.nv_script.specs.Grammar.{command_of, is_skipped}
use Rattle.nv_script.specs.Texts.{line_of, node_line, tree_lines}
use Rattle.nv_script.specs.Words.{words_of}
use Rattle.nv_core.specs.Worlds.{WorldState}
use Rattle.nv_script.specs.Results.{AnswersBehind, AtLineBy, EndsText, HoldsNone, LineFaultBehind, ListsText, Sent, TakesLine, ending_of, is_line}
use Rattle.nv_script.proofs.Breaks.{breaks_at}
use Rattle.nv_script.proofs.Handed.{lists_text}
use Rattle.nv_script.proofs.Played.{plays_in_json, plays_listed, some_list}
use Rattle.nv_script.proofs.Untraced.{off_no_json, text_no_json}
use Rattle.nv_script.proofs.Known.{writes_all, writes_end, writes_grown, writes_none, writes_rest, writes_some, writes_some_of}
use Rattle.nv_script.proofs.Lines.{ended-append, ended-push}
use Rattle.nv_script.proofs.Taken.{cut, cut_end, if_same, no_line, within}
use Rattle.nv_base.specs.Memory.{out_of_memory}

-- before the first line
pub at_first : (events : Trace) (head : ℕ → List ℕ → List ℕ) (input ahead old : Option (List ℕ)) (gathered : List ℕ) (world : Option World)
    → Consumes input ahead [] → gathered ≡ [] → world ≡ None
    → AtLineBy events head input ahead old old gathered 1 world
at_first events head input ahead old gathered world none empty first = record {
  lines = [];
  text = [];
  count = refl;
  taken = none;
  plays = (refl, first);
  written = subst (λ (left : List ℕ). WritesFront old old [] left) (sym empty) (writes_none old []);
}

-- no byte is read ahead at first
pub none_ahead : (known : Option (List ℕ)) (ahead : List ℕ) → ahead ≡ [] → Consumes known (prepend_known ahead known) []
none_ahead None ahead is = tt
none_ahead (Some bytes) ahead is = sym (ap (λ front. front ++ bytes) is)

-- where no byte is read ahead, what is left is with the reader
pub all_left : (input left : Option (List ℕ)) (ahead bytes : List ℕ) → ahead ≡ [] → Consumes input (prepend_known ahead left) bytes
    → Consumes input left bytes
all_left input None ahead bytes none is = is
all_left input (Some rest) ahead bytes none is = subst (λ (front : List ℕ). Consumes input (Some (front ++ rest)) bytes) none is

pub none_left : (left : Option (List ℕ)) (ahead : List ℕ) → IsAtEnd (prepend_known ahead left) → IsAtEnd left
none_left None ahead end = tt
none_left (Some rest) [] end = end
none_left (Some rest) (first ∷ ahead) end = cc

-- no room for lines
pub no_room : (events : Trace) (head : ℕ → List ℕ → List ℕ) (input left old : Option (List ℕ))
    → EndsBy (player_by events head) out_of_memory input left (λ text. Appends old old text)
no_room events head input left old =
    let all = whole input in
    ([], all.0, [], [], None, record { split = all.1; few = omega arith; plays = (refl, refl) }, inl (refl, refl), Appends-nil old)
  where
    whole : (input : Option (List ℕ)) → (rest : List ℕ) × IfSome input (λ bytes. bytes ≡ ended [] ++ rest)
    whole None = ([], tt)
    whole (Some bytes) = (bytes, refl)

-- the line behind some lines was played, which has this number
pub plays-push : (events : Trace) (head : ℕ → List ℕ → List ℕ) (number place : ℕ) (old : Option World) (lines : List (List ℕ)) (text : List ℕ)
    (mid : Option World) (line more : List ℕ) (new : Option World) → place ≡ number + length lines
    → PlaysFrom (player_by events head) number old lines text mid → IsLine line → Plays (player_by events no_head) place mid line more new
    → PlaysFrom (player_by events head) number old (lines ++ line ∷ []) (text ++ (head place line ++ more)) new
plays-push events head number place old [] text mid line more new here all lawful one =
    let same : place ≡ number = omega (arith, here) in (
      more,
      [],
      new,
      lawful,
      subst (λ (n : ℕ). Plays (player_by events no_head) n old line more new) same
          (subst (λ (world : Option World). Plays (player_by events no_head) place world line more new) all.1 one),
      (refl, refl),
      ap (λ front. front ++ (head place line ++ more)) all.0 ∙ ap (λ (n : ℕ). head n line ++ more) same
          ∙ sym (append-nil (head number line ++ more)),
    )
plays-push events head number place old (first ∷ lines) text mid line more new here all lawful one =
    let own = head place line ++ more in (
      all.0,
      all.1 ++ own,
      all.2,
      all.3,
      all.4,
      plays-push events head (number + 1) place all.2 lines all.1 mid line more new (omega (arith, here)) all.5 lawful one,
      ap (λ front. front ++ own) all.6 ∙ append_assoc (head number first ++ all.0) all.1 own,
    )

-- a line behind the first lines is one of them
split-push : (input : Option (List ℕ)) (lines : List (List ℕ)) (line rest : List ℕ)
    → IfSome input (λ bytes. bytes ≡ ended lines ++ ((line ++ 10 ∷ []) ++ rest))
    → IfSome input (λ bytes. bytes ≡ ended (lines ++ line ∷ []) ++ rest)
split-push input lines line rest is =
    let same = sym (append_assoc (ended lines) (line ++ 10 ∷ []) rest) ∙ ap (λ front. front ++ rest) (sym (ended-push lines line)) in
    if_same input _ _ same is

-- a tree of which lines were sent is the text of the line that asks for it
front_plays : (events : Trace) (number : ℕ) (old : World) (line sent : List ℕ) (c : Command) → events ≢ trace.Json
    → is_skipped line ≡ false → command_of (words_of line) ≡ Ok c → is_list c ≡ true
    → (sent ≡ []) ⊎ ListsFront (machine_player.listed old c) sent
    → (own : List ℕ) × Plays (player_by events no_head) number (Some old) line (sent ++ own) (Some old)
front_plays events number old line sent c plain skipped read is (inl none) =
    let text = some_list (machine_player.listed old c) in
    let same : sent ++ text.0 ≡ text.0 = ap (λ t. t ++ text.0) none in (
      text.0,
      plays_listed events number old line (sent ++ text.0) c plain skipped read is
          (subst (λ (t : List ℕ). ListsText (machine_player.listed old c) t) (sym same) text.1),
    )
front_plays events number old line sent c plain skipped read is (inr front) =
    let own = flat_map node_line front.1 ++ line_of (codes "end") in
    let text : sent ++ own ≡ tree_lines (front.0 ++ front.1) =
    ap (λ t. t ++ own) front.3 ∙ sym (append_assoc (flat_map node_line front.0) (flat_map node_line front.1) (line_of (codes "end")))
    ∙ ap (λ t. t ++ line_of (codes "end")) (sym (flat_map-append node_line front.0 front.1)) in (
      own,
      plays_listed events number old line (sent ++ own) c plain skipped read is
          (lists_text (machine_player.listed old c) (front.0 ++ front.1) (sent ++ own) front.2 text),
    )

-- as JSON no line of it was
whole_plays : (number : ℕ) (old : World) (line sent : List ℕ) (c : Command) → is_skipped line ≡ false
    → command_of (words_of line) ≡ Ok c → is_list c ≡ true → (sent ≡ []) ⊎ ListsFront None sent
    → (own : List ℕ) × Plays (player_by trace.Json no_head) number (Some old) line (sent ++ own) (Some old)
whole_plays number old line sent c skipped read is (inl none) =
    let told = plays_in_json number old line c skipped read is in
    let same : sent ++ told.0 ≡ told.0 = ap (λ t. t ++ told.0) none in (
      told.0,
      subst (λ (t : List ℕ). Plays (player_by trace.Json no_head) number (Some old) line t (Some old)) (sym same) told.1,
    )
whole_plays number old line sent c skipped read is (inr front) = absurd (no_nodes (front.0 ++ front.1) front.2) where
  no_nodes : (nodes : List TreeNode) → None ≡ Some nodes → ⊥
  no_nodes nodes same = cc

lists_plays : (events : Trace) (number : ℕ) (world : Option World) (line sent : List ℕ) → is_skipped line ≡ false
    → ListsWords (player_by events no_head) world (words_of line) sent
    → (own : List ℕ) × Plays (player_by events no_head) number world line (sent ++ own) world
lists_plays events number None line sent skipped lists = absurd lists
lists_plays trace.Off number (Some old) line sent skipped (c, read, is, listed) =
    front_plays trace.Off number old line sent c off_no_json skipped read is listed
lists_plays trace.Text number (Some old) line sent skipped (c, read, is, listed) =
    front_plays trace.Text number old line sent c text_no_json skipped read is listed
lists_plays trace.Json number (Some old) line sent skipped (c, read, is, listed) =
    whole_plays number old line sent c skipped read is listed

-- the fault of the next line where not all of the text of some lines was written
pub broken : (events : Trace) (head : ℕ → List ℕ → List ℕ) (input left old new : Option (List ℕ)) (lines : List (List ℕ)) (rest text : List ℕ) (world : Option World)
    → IfSome input (λ bytes. bytes ≡ ended lines ++ rest) → length lines ≤ most_lines + 1
    → PlaysAll (player_by events head) None lines text world → WritesSome old new text
    → EndsBy (player_by events head) fault.Write input left (λ text. Appends old new text)
broken events head input left old new lines rest text world split few all some =
    let at = breaks_at events head 1 None lines text some.0 world all some.1 in
    let ending : ended lines ≡ ended at.before ++ ((at.line ++ 10 ∷ []) ++ ended at.after) = ap ended at.split
    ∙ ended-append at.before (at.line ∷ at.after) in
    let whole : ended lines ++ rest ≡ ended at.before ++ ((at.line ++ 10 ∷ []) ++ (ended at.after ++ rest)) =
    ap (λ front. front ++ rest) ending ∙ append_assoc (ended at.before) ((at.line ++ 10 ∷ []) ++ ended at.after) rest
    ∙ ap (λ bytes. ended at.before ++ bytes) (append_assoc (at.line ++ 10 ∷ []) (ended at.after) rest) in
    let count : length lines ≡ length (at.before ++ at.line ∷ at.after) = ap length at.split in
    let fewer : length at.before ≤ most_lines = omega (arith, count, few, length-append at.before (at.line ∷ at.after)) in
    let place : at.place ≡ length at.before + 1 = (let is = at.place_is in omega (arith, is)) in (
      at.before,
      (at.line ++ 10 ∷ []) ++ (ended at.after ++ rest),
      at.text,
      at.sent,
      at.world,
      record { split = if_same input _ _ whole split; few = fewer; plays = at.played },
      (
        at.line,
        ended at.after ++ rest,
        at.own,
        at.new,
        at.lawful,
        refl,
        subst (λ (n : ℕ). Plays (player_by events no_head) n at.world at.line at.own at.new) place at.plays,
        subst (λ (n : ℕ). IsCutOff at.sent (head n at.line ++ at.own)) place at.cut_off,
      ),
      subst (λ (front : List ℕ). Appends old new front) at.front_is some.2,
    )

-- the same end, where what is said of the text was turned into something else
pub ends_on : (events : Trace) (head : ℕ → List ℕ → List ℕ) (result : Result (Unit {0}) Fault) (input left : Option (List ℕ)) (Old New : List ℕ → Type 0)
    → ((text : List ℕ) → Old text → New text) → Ends (player_by events head) result input left Old → Ends (player_by events head) result input left New
ends_on events head (Ok done) input left Old New turn e = (e.0, e.1, e.2, e.3, e.4, turn e.1 e.5)
ends_on events head (Err (fault.ScriptFault why number)) input left Old New turn e = (e.0, e.1, e.2, e.3, e.4, e.5, turn e.2 e.6)
ends_on events head (Err fault.Read) input left Old New turn e = (e.0, e.1, e.2, e.3, e.4, e.5, turn e.2 e.6)
ends_on events head (Err (fault.OutOfMemory _)) input left Old New turn e = (e.0, e.1, e.2, e.3, e.4, e.5, e.6, turn (e.2 ++ e.3) e.7)
ends_on events head (Err fault.Write) input left Old New turn e = (e.0, e.1, e.2, e.3, e.4, e.5, e.6, turn (e.2 ++ e.3) e.7)
ends_on events head (Err _) input left Old New turn e = absurd e

-- nothing is gathered, so all is written
pub ends_unheld : (events : Trace) (head : ℕ → List ℕ → List ℕ) (result : Result (Unit {0}) Fault) (input left old new : Option (List ℕ)) (gathered : List ℕ) → gathered ≡ []
    → Ends (player_by events head) result input left (λ text. WritesFront old new text gathered)
    → Ends (player_by events head) result input left (λ text. Appends old new text)
ends_unheld events head result input left old new gathered none e =
    let rest = subst (λ (bytes : List ℕ). Appends new new bytes) (sym none) (Appends-nil new) in
    ends_on events head result input left (λ text. WritesFront old new text gathered) (λ text. Appends old new text)
    (λ text front. writes_end old new new text gathered front rest) e

-- the same where some of what was gathered was written
pub broken_played : (events : Trace) (head : ℕ → List ℕ → List ℕ) (input left old mid new : Option (List ℕ)) (gathered : List ℕ) (lines : List (List ℕ)) (rest text : List ℕ)
    (world : Option World) → Played (player_by events head) input lines rest text world
    → WritesFront old mid text gathered → WritesSome mid new gathered
    → EndsBy (player_by events head) fault.Write input left (λ text. Appends old new text)
broken_played events head input left old mid new gathered lines rest text world played front some =
    let few = played.few in
    broken events head input left old new lines rest text world played.split (omega (arith, few)) played.plays
    (writes_some old mid new text gathered front some)

-- the same where some of the next line's text was sent too
broken_line : (events : Trace) (head : ℕ → List ℕ → List ℕ) (input left old mid new : Option (List ℕ)) (gathered : List ℕ) (lines : List (List ℕ))
    (rest text sent : List ℕ) (world : Option World) → Played (player_by events head) input lines rest text world
    → (line after answer own : List ℕ) (n : Option World) → IsLine line → rest ≡ (line ++ 10 ∷ []) ++ after
    → Plays (player_by events no_head) (length lines + 1) world line answer n → head (length lines + 1) line ++ answer ≡ sent ++ own
    → WritesFront old mid (text ++ sent) gathered → WritesSome mid new gathered
    → EndsBy (player_by events head) fault.Write input left (λ text. Appends old new text)
broken_line events head input left old mid new gathered lines rest text sent world played line after answer own n lawful rest_is plays whole front
    some =
    let part = writes_some_of old new (text ++ sent) own (writes_some old mid new (text ++ sent) gathered front some) in
    let split = split-push input lines line after (if_same input _ _ (ap (λ bytes. ended lines ++ bytes) rest_is) played.split) in
    let few = played.few in
    let same : (text ++ sent) ++ own ≡ text ++ (head (length lines + 1) line ++ answer) =
    append_assoc text sent own ∙ ap (λ t. text ++ t) (sym whole) in
    broken events head input left old new (lines ++ line ∷ []) after (text ++ (head (length lines + 1) line ++ answer)) n split
    (omega (arith, few, length-append lines (line ∷ [])))
    (plays-push events head 1 (length lines + 1) None lines text world line answer n (omega arith) played.plays lawful plays)
    (subst (λ (t : List ℕ). WritesSome old new t) same part)

-- the same where memory was refused
broken_stop : (events : Trace) (head : ℕ → List ℕ → List ℕ) (input left old mid new : Option (List ℕ)) (gathered : List ℕ) (lines : List (List ℕ))
    (rest text sent : List ℕ) (world : Option World) → Played (player_by events head) input lines rest text world
    → Stops (player_by events head) lines rest world sent
    → WritesFront old mid (text ++ sent) gathered → WritesSome mid new gathered
    → EndsBy (player_by events head) fault.Write input left (λ text. Appends old new text)
broken_stop events head input left old mid new gathered lines rest text sent world played stops front some = by stops where
  unsent : sent ≡ [] → EndsBy (player_by events head) fault.Write input left (λ text. Appends old new text)
  unsent none = broken_played events head input left old mid new gathered lines rest text world played
      (subst (λ (t : List ℕ). WritesFront old mid t gathered) (ap (λ t. text ++ t) none ∙ append-nil text) front) some

  by : Stops (player_by events head) lines rest world sent
      → EndsBy (player_by events head) fault.Write input left (λ text. Appends old new text)
  by (inl first) = unsent first.1
  by (inr (line, after, lawful, is, (skipped, inl none))) = unsent none
  by (inr (line, after, lawful, is, (skipped, inr (listed, lists, sent_is)))) =
      let whole = lists_plays events (length lines + 1) world line listed skipped lists in
      let before = head (length lines + 1) line in
      let same : before ++ (listed ++ whole.0) ≡ sent ++ whole.0 =
      sym (append_assoc before listed whole.0) ∙ ap (λ t. t ++ whole.0) (sym sent_is) in
      broken_line events head input left old mid new gathered lines rest text sent world played line after (listed ++ whole.0) whole.0 world
      lawful is whole.1 same front some

-- not all of what was gathered at the end was written
pub broken_off : (events : Trace) (head : ℕ → List ℕ → List ℕ) (result : Result (Unit {0}) Fault) (input left old mid new : Option (List ℕ))
    (gathered : List ℕ) → Ends (player_by events head) result input left (λ text. WritesFront old mid text gathered)
    → WritesSome mid new gathered
    → EndsBy (player_by events head) fault.Write input left (λ text. Appends old new text)
broken_off events head (Ok done) input left old mid new gathered e some =
    broken_played events head input left old mid new gathered e.0 [] e.1 e.2 e.3 e.5 some
broken_off events head (Err (fault.ScriptFault why number)) input left old mid new gathered e some =
    broken_played events head input left old mid new gathered e.0 e.1 e.2 e.3 e.4 e.6 some
broken_off events head (Err fault.Read) input left old mid new gathered e some =
    broken_played events head input left old mid new gathered e.0 e.1 e.2 e.3 e.4 e.6 some
broken_off events head (Err (fault.OutOfMemory _)) input left old mid new gathered e some =
    broken_stop events head input left old mid new gathered e.0 e.1 e.2 e.3 e.4 e.5 e.6 e.7 some
broken_off events head (Err fault.Write) input left old mid new gathered e some =
    let next = e.6 in
    broken_line events head input left old mid new gathered e.0 e.1 e.2 e.3 e.4 e.5 next.0 next.1 next.2 next.7.0 next.3 next.4 next.5 next.6
    next.7.1 e.7 some
broken_off events head (Err _) input left old mid new gathered e some = absurd e

-- after a failed write nothing is gathered
pub none_gathered : (events : Trace) (head : ℕ → List ℕ → List ℕ) (input left old new : Option (List ℕ)) (gathered : List ℕ) → gathered ≡ []
    → EndsBy (player_by events head) fault.Write input left (λ text. Appends old new text)
    → EndsBy (player_by events head) fault.Write input left (λ text. WritesFront old new text gathered)
none_gathered events head input left old new gathered none e =
    ends_on events head (Err fault.Write) input left (λ text. Appends old new text) (λ text. WritesFront old new text gathered)
    (λ text all. subst (λ (rest : List ℕ). WritesFront old new text rest) (sym none) (writes_all old new text all)) e

module _ {events : Trace} {head : ℕ → List ℕ → List ℕ} (input known old new : Option (List ℕ)) (gathered : List ℕ) (number : ℕ) (world : Option World)
    (few : number ≤ 1048577) (at : AtLineBy events head input known old new gathered number world) where
  abbrev Written : List ℕ → Type 0
  Written text = WritesFront old new text gathered

  pub lines_fit : length at.lines ≤ most_lines
  lines_fit = let count = at.count in omega (arith, few, count)

  pub played : (after : Option (List ℕ)) (piece : List ℕ) → Consumes known after piece
      → (rest : List ℕ) × Played (player_by events head) input at.lines (piece ++ rest) at.text world
  played after piece more = let c = cut input known after at.lines piece at.taken more in
      (c.0, record { split = c.1; few = lines_fit; plays = at.plays })

  -- what was gathered was written, or some of it
  pub written_on : (new' : Option (List ℕ)) (gathered' : List ℕ) → WritesFront new new' gathered gathered'
      → AtLineBy events head input known old new' gathered' number world
  written_on new' gathered' more =
      record {
        lines = at.lines;
        text = at.text;
        count = at.count;
        taken = at.taken;
        plays = at.plays;
        written = writes_rest old new new' at.text gathered gathered' at.written more;
      }

  pub written_some : (left new' : Option (List ℕ)) → WritesSome new new' gathered
      → EndsBy (player_by events head) fault.Write input left (λ text. Appends old new' text)
  written_some left new' some =
      let p = played known [] (Consumes-nil known) in
      broken_played events head input left old new new' gathered at.lines p.0 at.text world p.1 at.written some

  -- a failed read
  pub reads_fail : (left : Option (List ℕ)) (ahead piece : List ℕ) → Consumes known (prepend_known ahead left) piece → IsLine piece
      → ahead ≡ [] → EndsBy (player_by events head) fault.Read input left Written
  reads_fail left ahead piece more lawful none =
      let p = played (prepend_known ahead left) piece more in
      let gone = Consumes-trans input known (prepend_known ahead left) (ended at.lines) piece at.taken more in (
        at.lines,
        piece ++ p.0,
        at.text,
        world,
        p.1,
        (piece, lawful, all_left input left ahead (ended at.lines ++ piece) none gone),
        at.written,
      )

  -- the end of the input
  pub ends : (left : Option (List ℕ)) (ahead line : List ℕ) → LineResultIs taken.End known (prepend_known ahead left) line
      → EndsWell (player_by events head) input left Written
  ends left ahead line end = (
    at.lines,
    at.text,
    world,
    record {
      split = cut_end input known (prepend_known ahead left) at.lines [] at.taken end.0 end.1;
      few = lines_fit;
      plays = at.plays;
    },
    none_left left ahead end.1,
    at.written,
  )

  faulty : (after left : Option (List ℕ)) (piece : List ℕ) (why : ScriptFaultKind) → Consumes known after piece
      → ((rest : List ℕ) → IsFault number (is_some world) (piece ++ rest) why)
      → EndsBy (player_by events head) (fault.ScriptFault why number) input left Written
  faulty after left piece why more is = let p = played after piece more in
      (at.lines, piece ++ p.0, at.text, world, p.1, (sym at.count, is p.0), at.written)

  -- no line to play was taken
  pub not_line : (t : LineResult) (why : Fault) (after left : Option (List ℕ)) (line : List ℕ) → is_line number t ≡ Err why → IsLine line
      → LineResultIs t known after line → EndsBy (player_by events head) why input left Written
  not_line t why after left line is lawful took =
      let none = no_line (LineFails (is_some world)) input known at.lines number at.taken t why after line is lawful took in
      subst (λ (f : Fault). EndsBy (player_by events head) f input left Written) (sym none.why_is) (
        at.lines,
        none.rest,
        at.text,
        world,
        record { split = none.split; few = lines_fit; plays = at.plays },
        (sym at.count, none.is),
        at.written,
      )

  module _ (after : Option (List ℕ)) (line : List ℕ) (lawful : IsLine line) (here : LineResultIs taken.Line known after line) where
    -- a line that was played, and its text gathered, or written in part
    pub next : (new' : Option (List ℕ)) (more gathered' : List ℕ) (world' : Option World) → Plays (player_by events no_head) number world line more world'
        → WritesFront new new' (gathered ++ (head number line ++ more)) gathered'
        → AtLineBy events head input after old new' gathered' (number + 1) world'
    next new' more gathered' world' plays wrote =
        let own = head number line ++ more in
        let count = at.count in
        record {
          lines = at.lines ++ line ∷ [];
          text = at.text ++ own;
          count = omega (arith, count, length-append at.lines (line ∷ []));
          taken = subst (λ (bytes : List ℕ). Consumes input after bytes) (sym (ended-push at.lines line))
              (Consumes-trans input known after (ended at.lines) (line ++ 10 ∷ []) at.taken here);
          plays = plays-push events head 1 number None at.lines at.text world line more world' (omega (arith, count)) at.plays lawful plays;
          written = writes_rest old new new' (at.text ++ own) (gathered ++ own) gathered'
              (writes_grown old new at.text gathered own at.written) wrote;
        }

    pub breaks_off : (left new' : Option (List ℕ)) (more : List ℕ) (world' : Option World) → Plays (player_by events no_head) number world line more world'
        → WritesSome new new' (gathered ++ (head number line ++ more))
        → EndsBy (player_by events head) fault.Write input left (λ text. Appends old new' text)
    breaks_off left new' more world' plays wrote =
        let own = head number line ++ more in
        let count = at.count in
        let p = played after (line ++ 10 ∷ []) here in
        let part = writes_some old new new' (at.text ++ own) (gathered ++ own) (writes_grown old new at.text gathered own at.written) wrote in
        broken events head input left old new' (at.lines ++ line ∷ []) p.0 (at.text ++ own) world' (split-push input at.lines line p.0 p.1.split)
        (omega (arith, few, count, length-append at.lines (line ∷ [])))
        (plays-push events head 1 number None at.lines at.text world line more world' (omega (arith, count)) at.plays lawful plays) part

    -- a line that is not played to its end
    pub not_played : (left : Option (List ℕ)) (why : LineFault) (to : Sent) → number ≤ most_lines
        → LineFaultBehind events number (head number line) why (record { written = new; gathered = gathered }) to world line
        → EndsBy (player_by events head) (ending_of number why) input left (λ text. WritesFront old to.written text to.gathered)
    not_played left (line_fault.OutOfMemory _) to last why =
        let p = played after (line ++ 10 ∷ []) here in
        let stops = subst (λ (n : ℕ). StopsAt (player_by events no_head) (head n line) world line why.0) (sym at.count) why.1 in (
          at.lines,
          (line ++ 10 ∷ []) ++ p.0,
          at.text,
          why.0,
          world,
          p.1,
          inr (line, p.0, lawful, refl, stops),
          writes_rest old new to.written (at.text ++ why.0) (gathered ++ why.0) to.gathered
              (writes_grown old new at.text gathered why.0 at.written) why.2,
        )
    not_played left line_fault.Write to last why =
        none_gathered events head input left old to.written to.gathered why.3.1 (breaks_off left to.written why.0 why.1 why.2 why.3.0)
    not_played left (line_fault.Faulty reason) to last why =
        subst
        (λ (s : Sent). EndsBy (player_by events head) (fault.ScriptFault reason number) input left (λ text. WritesFront old s.written text s.gathered))
        (sym why.1)
        (faulty after left (line ++ 10 ∷ []) reason here
        (λ rest. within (LineFails (is_some world)) number _ reason last (inr (inr (line, rest, lawful, refl, why.0)))))

-- no line was taken, before the line with a number
pub not_taken : {events : Trace} {head : ℕ → List ℕ → List ℕ} (input known old new : Option (List ℕ)) (gathered : List ℕ) (number : ℕ) (world : Option World)
    (few : number ≤ 1048577) (at : AtLineBy events head input known old new gathered number world) (why : Fault) (left : Option (List ℕ))
    (ahead line : List ℕ) (to : Sent) → TakesLine (Err why) number known left ahead line (record { written = new; gathered = gathered }) to
    → EndsBy (player_by events head) why input left (λ text. WritesFront old to.written text to.gathered) × HoldsNone {A = Bool} (Err why) to.gathered
not_taken {events = events} {head = head} input known old new gathered number world few at fault.Read left ahead line to t =
    let now = written_on input known old new gathered number world few at to.written to.gathered t.0 in
    (reads_fail input known old to.written to.gathered number world few now left ahead line t.4 t.3 t.2, t.1)
not_taken {events = events} {head = head} input known old new gathered number world few at fault.Write left ahead line to t =
    let part = written_some input known old new gathered number world few at left to.written t.0 in
    (none_gathered events head input left old to.written to.gathered t.1 part, t.1)
not_taken {events = events} {head = head} input known old new gathered number world few at (fault.ScriptFault why n) left ahead line to t =
    let now = written_on input known old new gathered number world few at to.written to.gathered t.0 in (
      not_line input known old to.written to.gathered number world few now t.1 (fault.ScriptFault why n) (prepend_known ahead left) left
          line t.2 t.3 t.4,
      tt,
    )
not_taken {events = events} {head = head} input known old new gathered number world few at _ left ahead line to t = absurd t

-- how a script ends once what is gathered was written, where nothing failed before
pub ends_text : (events : Trace) (head : ℕ → List ℕ → List ℕ) (outcome result : Result (Unit {0}) Fault) (input left old : Option (List ℕ)) (from to : Sent)
    → Ends (player_by events head) outcome input left (λ text. WritesFront old from.written text from.gathered)
    → HoldsNone outcome from.gathered → EndsText outcome result from to
    → Ends (player_by events head) result input left (λ text. Appends old to.written text)
ends_text events head outcome result input left old from to e held ended = by outcome e held ended where
  Ended : Result (Unit {0}) Fault → Type 0
  Ended r = Ends (player_by events head) r input left (λ text. Appends old to.written text)

  flushed : (o : Result (Unit {0}) Fault) → Ends (player_by events head) o input left (λ text. WritesFront old from.written text from.gathered)
      → ((result ≡ o) × Appends from.written to.written from.gathered)
      ⊎ ((result ≡ Err fault.Write) × WritesSome from.written to.written from.gathered)
      → Ended result
  flushed o e (inl all) = subst Ended (sym all.0)
      (ends_on events head o input left (λ text. WritesFront old from.written text from.gathered) (λ text. Appends old to.written text)
      (λ text front. writes_end old from.written to.written text from.gathered front all.1) e)
  flushed o e (inr some) = subst Ended (sym some.0) (broken_off events head o input left old from.written to.written from.gathered e some.1)

  failed : (o : Result (Unit {0}) Fault) → Ends (player_by events head) o input left (λ text. WritesFront old from.written text from.gathered)
      → from.gathered ≡ [] → (result ≡ o) × (to ≡ from) → Ended result
  failed o e none same = subst Ended (sym same.0)
      (subst (λ (t : Sent). Ends (player_by events head) o input left (λ text. Appends old t.written text)) (sym same.1)
      (ends_unheld events head o input left old from.written from.gathered none e))

  by : (o : Result (Unit {0}) Fault) → Ends (player_by events head) o input left (λ text. WritesFront old from.written text from.gathered)
      → HoldsNone o from.gathered → EndsText o result from to → Ended result
  by (Ok done) e held is = flushed (Ok done) e is
  by (Err fault.Read) e held is = failed (Err fault.Read) e held is
  by (Err fault.Write) e held is = failed (Err fault.Write) e held is
  by (Err (fault.ScriptFault why number)) e held is = flushed (Err (fault.ScriptFault why number)) e is
  by (Err (fault.OutOfMemory witness)) e held is = flushed (Err (fault.OutOfMemory witness)) e is
  by (Err _) e held is = absurd e

-- the same end, told by an equation
pub ends_told : (events : Trace) (head : ℕ → List ℕ → List ℕ) (told why : Fault) (input left : Option (List ℕ)) (Writes : List ℕ → Type 0) (gathered : List ℕ) → told ≡ why
    → EndsBy (player_by events head) why input left Writes × HoldsNone {A = Bool} (Err why) gathered
    → EndsBy (player_by events head) told input left Writes × HoldsNone {A = Bool} (Err told) gathered
ends_told events head told why input left Writes gathered same e =
    subst (λ (f : Fault). EndsBy (player_by events head) f input left Writes × HoldsNone {A = Bool} (Err f) gathered) (sym same) e

-- what a slice is answered is the answer of its bytes
pub answers_at : {A : Type 0} (events : Trace) (number : ℕ) (head : List ℕ) (r : Result A LineFault) (from to : Sent) (world : Option WorldState) (slice line : List ℕ)
    (world' : Option WorldState) → slice ≡ line → AnswersBehind events number head r from to world slice world'
    → AnswersBehind events number head r from to world line world'
answers_at events number head r from to world slice line world' same is =
    subst (λ (bytes : List ℕ). AnswersBehind events number head r from to world bytes world') same is

-- a line whose events are not told, and that has nothing before its answers
pub told_off : {A : Type 0} (events : Trace) (number : ℕ) (head : List ℕ) (r : Result A LineFault) (from to : Sent)
    (world : Option WorldState) (line : List ℕ) (world' : Option WorldState) → events ≡ trace.Off → number ≡ 0 → head ≡ []
    → AnswersBehind events number head r from to world line world' → AnswersBehind trace.Off 0 [] r from to world line world'
told_off events number head r from to world line world' off zero none is =
    subst (λ (h : List ℕ). AnswersBehind trace.Off 0 h r from to world line world') none
    (subst (λ (n : ℕ). AnswersBehind trace.Off n head r from to world line world') zero
    (subst (λ (t : Trace). AnswersBehind t number head r from to world line world') off is))
