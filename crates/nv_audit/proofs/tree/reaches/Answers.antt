use Rattle.std.proofs.Common.{◌≡◌, ℕ, ◌++◌, ◌∷◌, [], true, Bool, List, length, set, take, arith, refl, ap, subst, sym, ◌∙◌}
use Rattle.std.specs.Prelude.{All}
use Rattle.std.proofs.Math.Seq.{take-length}
use Rattle.std.proofs.lemmas.Bool.{false≢true}
use Rattle.std.proofs.lemmas.List.{append-nil}
use Rattle.nv_entry.specs.declared.names.BoundName.{BoundName}
use Rattle.nv_audit.specs.Lists.{AreMarked}
use Rattle.nv_audit.specs.Tree.{IsNew, IsOnce, is_node, slots_named}
use Rattle.nv_audit.proofs.Loops.{one_more}
use Rattle.nv_audit.proofs.Reaching.{is_new_there, marked_more, node_inside, once_more, put_more}
use Rattle.nv_audit.proofs.tree.reaches.Goals as goal

pub returns-then-not-is_new-clause-exact : goal.returns-then-not-is_new-clause-exact
returns-then-not-is_new-clause-exact c =
    let slots = c.args.slots.now in
    let old = c.args.reached.now.items in
    let reached = c.loop-bound.reached.items in
    let names = c.names_at-names.result.now in (
      λ fails. absurd (false≢true fails),
      λ all. absurd (false≢true (sym c.if-not-is_new.true ∙ c.is_new.ensures.1
          (is_new_there slots old reached c.deref.result.now names c.loop-bound.bound-index c.bound-item.result c.loop-bound-test.true
          c.bound-item.is c.loop-bound.invariant.put
          (subst (AreMarked (length slots) reached) (sym c.deref.ensures.value) c.loop-bound.invariant.marked)
          (subst (All (λ (b : BoundName). is_node slots b.to ≡ true)) (sym c.names_at-names.ensures) all.0.lead)
          (subst (λ (ns : List BoundName). IsOnce (old ++ slots_named ns)) (sym c.names_at-names.ensures) all.1)))),
    )

pub loop-bound-init : goal.loop-bound-init
loop-bound-init c = record {
  put = sym (append-nil c.args.reached.now.items);
  marked = c.requires.marked;
  once = c.requires.once;
  lead = λ k d lt. absurd (omega (arith, lt));
}

pub loop-bound-preserved : goal.loop-bound-preserved
loop-bound-preserved c =
    let slots = c.args.slots.now in
    let reached = c.loop-bound.reached.items in
    let marks = c.loop-bound.marks.items in
    let names = c.names_at-names.result.now in
    let i = c.loop-bound.bound-index in
    let to = c.bound-item.result.to in
    let was = c.loop-bound.invariant in
    let new : IsNew slots marks to =
    subst (λ (ms : List Bool). IsNew slots ms to) c.deref.ensures.value (c.is_new.ensures.0 c.if-not-is_new.false) in
    let items : c.push.new.self.items ≡ reached ++ to.ino ∷ [] =
    c.in_ok-push.ensures.items ∙ ap (λ (k : ℕ). reached ++ k ∷ []) c.number-slot.ensures in
    record {
      put = items ∙ put_more c.args.reached.now.items reached names i c.bound-item.result c.loop-bound-test.true c.bound-item.is was.put;
      marked = subst (λ (k : ℕ). AreMarked (length slots) c.push.new.self.items (set marks k true)) (sym c.number-slot.ensures)
          (subst (λ (xs : List ℕ). AreMarked (length slots) xs (set marks to.ino true)) (sym items)
          (marked_more (length slots) reached marks to.ino was.marked (node_inside slots to new.0)));
      once = subst IsOnce (sym items) (once_more slots reached marks to was.marked new was.once);
      lead = one_more (λ (b : BoundName). is_node slots b.to ≡ true) names i c.bound-item.result c.is_new.result c.loop-bound-test.true
          c.bound-item.is (λ t. (c.is_new.ensures.0 t).0) c.if-not-is_new.false was.lead;
    }

pub returns-clause-exact : goal.returns-clause-exact
returns-clause-exact c =
    let slots = c.args.slots.now in
    let old = c.args.reached.now.items in
    let names = c.names_at-names.result.now in
    let was = c.loop-bound.invariant in
    let end : c.loop-bound.bound-index ≡ length names = omega (arith, c.loop-bound-test.false, c.loop-bound.auto.bound-index-end) in
    let all : take c.loop-bound.bound-index names ≡ names = ap (λ (k : ℕ). take k names) end ∙ take-length names in (
      λ t. (
        record {
          placed = c.are_in_directory.ensures.0 c.if-not-are_in_directory.false;
          lead = subst (All (λ (b : BoundName). is_node slots b.to ≡ true)) c.names_at-names.ensures
              (λ k d lt. was.lead k d (omega (arith, lt, c.loop-bound-test.false)));
        },
        subst (λ (ns : List BoundName). IsOnce (old ++ slots_named ns)) c.names_at-names.ensures
            (subst IsOnce (was.put ∙ ap (λ (ns : List BoundName). old ++ slots_named ns) all) was.once),
      ),
      λ all. refl,
    )

pub returns-clause-put : goal.returns-clause-put
returns-clause-put c =
    let old = c.args.reached.now.items in
    let names = c.names_at-names.result.now in
    let end : c.loop-bound.bound-index ≡ length names = omega (arith, c.loop-bound-test.false, c.loop-bound.auto.bound-index-end) in
    let all : take c.loop-bound.bound-index names ≡ names = ap (λ (k : ℕ). take k names) end ∙ take-length names in
    λ t. c.loop-bound.invariant.put ∙ ap (λ (ns : List BoundName). old ++ slots_named ns) (all ∙ c.names_at-names.ensures)

pub returns-clause-marked : goal.returns-clause-marked
returns-clause-marked c = λ t. c.loop-bound.invariant.marked
