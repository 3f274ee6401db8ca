-- The lines of nodes that were handed to a sink which writes them.
use Rattle.std.proofs.Common.{◌≡◌, ◌≢◌, ◌⊎◌, ◌∙◌, ℕ, ◌+◌, ◌++◌, Bool, IsSome, false, true, List, [], ◌∷◌, MatchOption, Option, Some, None, Result, Ok, Err, ap, append_assoc, append-nil, arith, inl, inr, option_map, refl, subst, sym}
use Rattle.std.proofs.lemmas.Grind.{flat_map-append}
use Rattle.std.specs.List.{flat_map}
use Rattle.std.specs.Prelude.{codes}
use Rattle.nv_base.specs.declared.fault.Fault.{Fault}
use Rattle.nv_base.specs.declared.fault.Fault.TheVariants as fault
use Rattle.nv_entry.specs.declared.tree.TreeNode.{TreeNode}
use Rattle.nv_core.specs.Sinks.{AtNode, Hands, TakesAll}
use Rattle.nv_script.specs.declared.fault.LineFault.{LineFault}
use Rattle.nv_script.specs.declared.fault.LineFault.TheVariants as line_fault
use Rattle.nv_script.specs.Lines.{WritesFront, WritesSome}
use Rattle.nv_script.specs.Results.{Fails, FailsList, HandsLines, IsNotSent, ListIs, ListsText, Sends, Sent, StopsList, failed_in_line, failed_in_tree}
use Rattle.nv_script.specs.Texts.{line_of, node_line, refused_line, tree_lines}
use Rattle.nv_script.proofs.Known.{writes_grown, writes_none, writes_rest, writes_some, writes_some_of}
use Rattle.nv_base.specs.Memory.{no_memory, out_of_memory}

pub sends_none : (at : Sent) → Sends at at []
sends_none at = subst (λ (t : List ℕ). WritesFront at.written at.written t at.gathered) (sym (append-nil at.gathered))
    (writes_none at.written at.gathered)

sends_more : (old mid new : Sent) (text more : List ℕ) → Sends old mid text → Sends mid new more → Sends old new (text ++ more)
sends_more old mid new text more first then_ =
    subst (λ (t : List ℕ). WritesFront old.written new.written t new.gathered) (append_assoc old.gathered text more)
    (writes_rest old.written mid.written new.written ((old.gathered ++ text) ++ more) (mid.gathered ++ more) new.gathered
    (writes_grown old.written mid.written (old.gathered ++ text) mid.gathered more first) then_)

fails_behind : (old mid new : Sent) (text more rest : List ℕ) → Sends old mid text → Fails mid new more
    → Fails old new ((text ++ more) ++ rest)
fails_behind old mid new text more rest first fails =
    let some = writes_some old.written mid.written new.written ((old.gathered ++ text) ++ more) (mid.gathered ++ more)
    (writes_grown old.written mid.written (old.gathered ++ text) mid.gathered more first) fails.0 in
    let all : ((old.gathered ++ text) ++ more) ++ rest ≡ old.gathered ++ ((text ++ more) ++ rest) =
    ap (λ (t : List ℕ). t ++ rest) (append_assoc old.gathered text more) ∙ append_assoc old.gathered (text ++ more) rest in (
      subst (λ (t : List ℕ). WritesSome old.written new.written t) all
          (writes_some_of old.written new.written ((old.gathered ++ text) ++ more) rest some),
      fails.1,
    )

tree_split : (nodes front rest : List TreeNode) (node : TreeNode) → nodes ≡ front ++ node ∷ rest
    → tree_lines nodes ≡ (flat_map node_line front ++ node_line node) ++ (flat_map node_line rest ++ line_of (codes "end"))
tree_split nodes front rest node are =
    ap tree_lines are ∙ ap (λ (t : List ℕ). t ++ line_of (codes "end")) (flat_map-append node_line front (node ∷ rest))
    ∙ ap (λ (t : List ℕ). t ++ line_of (codes "end")) (sym (append_assoc (flat_map node_line front) (node_line node) (flat_map node_line rest)))
    ∙ append_assoc (flat_map node_line front ++ node_line node) (flat_map node_line rest) (line_of (codes "end"))

-- a sink's own count and what is seen of its writer
module _ {S : Type 0} (failed : S → ℕ) (sent : S → Sent) (begun : S → Bool) (why : S → LineFault) (writer outbox count place : S → ℕ) where
  abbrev pub Writes : AtNode S
  Writes old node new =
      Sends (sent old) (sent new) (node_line node) × (begun new ≡ true) × (writer new ≡ writer old) × (outbox new ≡ outbox old)
      × (count new ≡ count old) × (place new ≡ place old)

  abbrev pub Halts : AtNode S
  Halts old node new =
      IsNotSent (why new) (sent old) (sent new) (node_line node) × (writer new ≡ writer old) × (outbox new ≡ outbox old)
      × (count new ≡ count old + failed_in_line {A = Unit {0}} (Err (why new))) × (place new ≡ place old)

  -- the writer and the outbox are the same, and so many writes failed
  abbrev pub IsSame : ℕ → S → S → Type 0
  IsSame more old new =
      (writer new ≡ writer old) × (outbox new ≡ outbox old) × (count new ≡ count old + more) × (place new ≡ place old)

  all_sent : (old new : S) (nodes : List TreeNode) → TakesAll Writes old nodes new
      → Sends (sent old) (sent new) (flat_map node_line nodes)
  all_sent old new [] same = subst (λ (s : S). Sends (sent old) (sent s) []) (sym same) (sends_none (sent old))
  all_sent old new (node ∷ nodes) took =
      sends_more (sent old) (sent took.0) (sent new) (node_line node) (flat_map node_line nodes) took.1.0
      (all_sent took.0 new nodes took.2)

  all_same : (old new : S) (nodes : List TreeNode) → TakesAll Writes old nodes new → IsSame 0 old new
  all_same old new [] same = (ap writer same, ap outbox same, omega (arith, ap count same), ap place same)
  all_same old new (node ∷ nodes) took =
      let rest = all_same took.0 new nodes took.2 in
      (rest.0 ∙ took.1.2, rest.1 ∙ took.1.3, omega (arith, rest.2, took.1.4), rest.3 ∙ took.1.5)

  has_begun : (old new : S) (node : TreeNode) (nodes : List TreeNode) → TakesAll Writes old (node ∷ nodes) new → begun new ≡ true
  has_begun old new node [] took = ap begun took.2 ∙ took.1.1
  has_begun old new node (next ∷ nodes) took = has_begun took.0 new next nodes took.2

  stops_list : (old new : S) (nodes front rest : List TreeNode) → begun old ≡ false → nodes ≡ front ++ rest → TakesAll Writes old front new
      → StopsList (begun new) (Some nodes) (sent old) (sent new)
  stops_list old new nodes [] rest first are took =
      subst (λ (b : Bool). StopsList b (Some nodes) (sent old) (sent new)) (sym (ap begun took ∙ first)) (refl, ap sent took)
  stops_list old new nodes (node ∷ front) rest first are took =
      subst (λ (b : Bool). StopsList b (Some nodes) (sent old) (sent new)) (sym (has_begun old new node front took))
      (flat_map node_line (node ∷ front), (node ∷ front, rest, ap Some are, refl), all_sent old new (node ∷ front) took)

  fails_list : (reason : LineFault) (old mid new : S) (nodes front rest : List TreeNode) (node : TreeNode) → nodes ≡ front ++ node ∷ rest
      → TakesAll Writes old front mid → IsNotSent reason (sent mid) (sent new) (node_line node)
      → FailsList reason (Some nodes) (sent old) (sent new)
  fails_list (line_fault.OutOfMemory _) old mid new nodes front rest node are took halts = (
    flat_map node_line front,
    (front, node ∷ rest, ap Some are, refl),
    subst (λ (s : Sent). Sends (sent old) s (flat_map node_line front)) (sym halts) (all_sent old mid front took),
  )
  fails_list line_fault.Write old mid new nodes front rest node are took halts = (
    nodes,
    refl,
    subst (λ (t : List ℕ). Fails (sent old) (sent new) t) (sym (tree_split nodes front rest node are))
        (fails_behind (sent old) (sent mid) (sent new) (flat_map node_line front) (node_line node)
        (flat_map node_line rest ++ line_of (codes "end")) (all_sent old mid front took) halts),
  )
  fails_list (line_fault.Faulty kind) old mid new nodes front rest node are took halts = absurd halts

  -- what was handed on, as lines
  pub hands_lines : (result : Result (Unit {0}) Fault) (old new : S) (nodes : List TreeNode) → begun old ≡ false
      → Hands result failed Writes Halts old nodes new → HandsLines result (begun new) (why new) (Some nodes) (sent old) (sent new)
  hands_lines (Ok done) old new nodes first hands = (nodes, refl, all_sent old new nodes hands.0)
  hands_lines (Err refused) old new nodes first (inl (out, front, same)) =
      inr (inl (out, stops_list old new nodes front.front front.rest first front.are front.takes))
  hands_lines (Err refused) old new nodes first (inr (write, broke, more)) =
      inr (inr (write, fails_list (why new) old broke.mid new nodes broke.front broke.rest broke.node broke.are broke.takes broke.fails.0))

  -- and what stays of the writer and the outbox
  pub hands_same : (result : Result (Unit {0}) Fault) (old new : S) (nodes : List TreeNode)
      → Hands result failed Writes Halts old nodes new → IsSame (failed_in_tree result (why new)) old new
  hands_same (Ok done) old new nodes hands = all_same old new nodes hands.0
  hands_same (Err refused) old new nodes (inl (out, front, same)) =
      subst (λ (f : Fault). IsSame (failed_in_tree (Err f) (why new)) old new) (sym out) (all_same old new front.front front.takes)
  hands_same (Err refused) old new nodes (inr (write, broke, more)) =
      let all = all_same old broke.mid broke.front broke.takes in
      let fails = broke.fails in
      subst (λ (f : Fault). IsSame (failed_in_tree (Err f) (why new)) old new) (sym write)
      (fails.1 ∙ all.0, fails.2 ∙ all.1, omega (arith, fails.3, all.2), fails.4 ∙ all.3)

  -- the same of a snapshot, which may not live
  pub snapshot_lines : (pins : Option ℕ) (result : Result (Unit {0}) Fault) (old new : S) (nodes : List TreeNode) → begun old ≡ false
      → MatchOption pins ((result ≡ Err fault.NoSnapshot) × (new ≡ old)) (λ _. Hands result failed Writes Halts old nodes new)
      → HandsLines result (begun new) (why new) (option_map (λ (p : ℕ). nodes) pins) (sent old) (sent new)
  snapshot_lines None result old new nodes first is =
      subst (λ (r : Result (Unit {0}) Fault). HandsLines r (begun new) (why new) None (sent old) (sent new)) (sym is.0)
      (inl (refl, ap begun is.1 ∙ first, refl, ap sent is.1))
  snapshot_lines (Some pins) result old new nodes first hands = hands_lines result old new nodes first hands

  pub snapshot_same : (result : Result (Unit {0}) Fault) (old new : S)
      → ((result ≡ Err fault.NoSnapshot) × (new ≡ old)) ⊎ ((nodes : List TreeNode) × Hands result failed Writes Halts old nodes new)
      → IsSame (failed_in_tree result (why new)) old new
  snapshot_same result old new (inl is) =
      subst (λ (r : Result (Unit {0}) Fault). IsSame (failed_in_tree r (why new)) old new) (sym is.0)
      (ap writer is.1, ap outbox is.1, omega (arith, ap count is.1), ap place is.1)
  snapshot_same result old new (inr some) = hands_same result old new some.0 some.1

-- ---- what is left of the text then

pub lists_text : (listed : Option (List TreeNode)) (nodes : List TreeNode) (text : List ℕ) → listed ≡ Some nodes → text ≡ tree_lines nodes
    → ListsText listed text
lists_text None nodes text is same = cc
lists_text (Some list) nodes text is same = let e : list ≡ nodes = cc in inl (same ∙ ap tree_lines (sym e))

lists_refused : (listed : Option (List TreeNode)) (text : List ℕ) → IsSome listed → text ≡ refused_line out_of_memory
    → ListsText listed text
lists_refused None text some is = cc
lists_refused (Some list) text some is = inr is

module _ (why : LineFault) (nodes : Option (List TreeNode)) (old new : Sent) (rest : List ℕ) where
  pub all_listed : (begun : Bool) → HandsLines (Ok tt) begun why nodes old new → rest ≡ line_of (codes "end")
      → ListIs (Ok tt) old new rest nodes
  all_listed begun hands last = (
    flat_map node_line hands.0 ++ rest,
    lists_text nodes hands.0 _ hands.1 (ap (λ (t : List ℕ). flat_map node_line hands.0 ++ t) last),
    subst (λ (t : List ℕ). WritesFront old.written new.written t (new.gathered ++ rest))
        (append_assoc old.gathered (flat_map node_line hands.0) rest)
        (writes_grown old.written new.written (old.gathered ++ flat_map node_line hands.0) new.gathered rest hands.2),
  )

  pub all_but_last : (begun : Bool) → HandsLines (Ok tt) begun why nodes old new → ListIs (Err (line_fault.OutOfMemory no_memory)) old new rest nodes
  all_but_last begun hands = (
    flat_map node_line hands.0,
    inr (hands.0, [], hands.1 ∙ ap Some (sym (append-nil hands.0)), refl),
    hands.2,
  )

  pub not_sent : (begun : Bool) → HandsLines (Err fault.Write) begun why nodes old new → ListIs (Err why) old new rest nodes
  not_sent begun hands = by hands where
    failed : (reason : LineFault) → FailsList reason nodes old new → ListIs (Err reason) old new rest nodes
    failed (line_fault.OutOfMemory _) fails = (fails.0, inr fails.1, fails.2)
    failed line_fault.Write fails = (tree_lines fails.0, lists_text nodes fails.0 (tree_lines fails.0) fails.1 refl, fails.2)
    failed (line_fault.Faulty kind) fails = absurd fails

    by : HandsLines (Err fault.Write) begun why nodes old new → ListIs (Err why) old new rest nodes
    by (inl (missing, first, none, same)) = cc
    by (inr (inl (out, stops))) = cc
    by (inr (inr (write, fails))) = failed why fails

  pub cut_short : (refused : Fault) (begun : Bool) → refused ≢ fault.Write → begun ≡ true → HandsLines (Err refused) begun why nodes old new
      → ListIs (Err (line_fault.OutOfMemory no_memory)) old new rest nodes
  cut_short refused begun other some (inl (missing, first, none, same)) = cc
  cut_short refused begun other some (inr (inl (out, stops))) =
      let text = subst (λ (b : Bool). StopsList b nodes old new) some stops in (text.0, inr text.1, text.2)
  cut_short refused begun other some (inr (inr (write, fails))) = absurd (other write)

  pub refused_listed : (refused : Fault) (begun : Bool) → refused ≢ fault.Write → begun ≡ false
      → HandsLines (Err refused) begun why nodes old new → rest ≡ refused_line refused → ListIs (Ok tt) old new rest nodes
  refused_listed refused begun other first hands is = (rest, lists hands, left (unsent hands)) where
    unsent : HandsLines (Err refused) begun why nodes old new → new ≡ old
    unsent (inl (missing, unbegun, none, same)) = same
    unsent (inr (inl (out, stops))) = (subst (λ (b : Bool). StopsList b nodes old new) first stops).1
    unsent (inr (inr (write, fails))) = absurd (other write)

    lists : HandsLines (Err refused) begun why nodes old new → ListsText nodes rest
    lists (inl (missing, unbegun, none, same)) =
        subst (λ (listed : Option (List TreeNode)). ListsText listed rest) (sym none) (is ∙ ap refused_line missing)
    lists (inr (inl (out, stops))) =
        lists_refused nodes rest (subst (λ (b : Bool). StopsList b nodes old new) first stops).0 (is ∙ ap refused_line out)
    lists (inr (inr (write, fails))) = absurd (other write)

    left : new ≡ old → WritesFront old.written new.written (old.gathered ++ rest) (new.gathered ++ rest)
    left same = subst (λ (s : Sent). WritesFront old.written s.written (old.gathered ++ rest) (s.gathered ++ rest)) (sym same)
        (writes_none old.written (old.gathered ++ rest))

  pub refused_starved : (refused : Fault) (begun : Bool) → refused ≢ fault.Write → begun ≡ false
      → HandsLines (Err refused) begun why nodes old new → ListIs (Err (line_fault.OutOfMemory no_memory)) old new rest nodes
  refused_starved refused begun other first hands = ([], inl refl, by hands) where
    none_sent : new ≡ old → Sends old new []
    none_sent same = subst (λ (s : Sent). Sends old s []) (sym same) (sends_none old)

    by : HandsLines (Err refused) begun why nodes old new → Sends old new []
    by (inl (missing, unbegun, none, same)) = none_sent same
    by (inr (inl (out, stops))) = none_sent (subst (λ (b : Bool). StopsList b nodes old new) first stops).1
    by (inr (inr (write, fails))) = absurd (other write)
