use Rattle.std.proofs.Common.{◌≡◌, ◌+◌, ◌<◌, ◌≤◌, ◌∙◌, List, Ok, Err, ap, arith, drop, filter, get_or, length, refl, subst, sym}
use Rattle.std.proofs.lemmas.Result.{err_from_is_err_and}
use Rattle.nv_entry.specs.declared.names.BoundName.{BoundName}
use Rattle.nv_mount_beside.specs.Memory.{no_memory}
use Rattle.nv_mounted.specs.Dialogues.{IsHad}
use Rattle.nv_mounted.specs.Listings.{ask_behind, is_shown}
use Rattle.nv_mounted.specs.declared.listing.Named.{Named}
use Rattle.nv_mounted.proofs.Each.{named_all, named_more, named_or_memory, named_stops}
use Rattle.nv_mounted.proofs.Steps.{filter_ends, filter_keeps, filter_leaves}
use Rattle.nv_mounted.proofs.mount.Mount.names_behind.Goals as goal

pub loop-bound-init : goal.loop-bound-init
loop-bound-init g c = record { rest = λ end new had. had; side = refl }

pub loop-bound-preserved-then-not-is_shown : goal.loop-bound-preserved-then-not-is_shown
loop-bound-preserved-then-not-is_shown g c =
    let list = c.args.list.now in
    let i = c.loop-bound.bound-index in
    let bound = c.bound-item.result in
    let at : bound ≡ get_or list i bound =
    c.bound-item.is ∙ ap (λ (xs : List BoundName). get_or xs i bound) c.as_slice-bound-items.ensures in
    let below : i < length list = omega (arith, c.loop-bound-test.true, ap length c.as_slice-bound-items.ensures) in
    let left = filter_leaves (is_shown c.args.dir.now) list i bound below at
    (sym c.is_shown.ensures ∙ c.if-not-is_shown.true) in
    record {
      rest = λ end new had. c.loop-bound.invariant.rest end new (
          subst (λ (names : List BoundName). IsHad g.C.Core.Tells
          (ask_behind c.loop-bound.names.items names) c.loop-bound.self.core end new) (sym left) had);
      side = c.loop-bound.invariant.side;
    }

pub returns-in_err-named-clause-had : goal.returns-in_err-named-clause-had
returns-in_err-named-clause-had g c =
    let p = err_from_is_err_and c.from_residual.result c.from_residual.ensures.1 in
    let list = c.args.list.now in
    let i = c.loop-bound.bound-index in
    let bound = c.bound-item.result in
    let refusal = c.in_err-named.field-0.0 in
    let at : bound ≡ get_or list i bound =
    c.bound-item.is ∙ ap (λ (xs : List BoundName). get_or xs i bound) c.as_slice-bound-items.ensures in
    let below : i < length list = omega (arith, c.loop-bound-test.true, ap length c.as_slice-bound-items.ensures) in
    let left = filter_keeps (is_shown c.args.dir.now) list i bound below at
    (sym c.is_shown.ensures ∙ c.if-not-is_shown.false) in
    rw (p.1, p.2) (c.loop-bound.invariant.rest (Err refusal) c.named.new.self.core (
    subst (λ (names : List BoundName). IsHad g.C.Core.Tells
    (ask_behind c.loop-bound.names.items names) c.loop-bound.self.core (Err refusal) c.named.new.self.core)
    (sym left)
    (named_stops g.C.Core.Tells c.loop-bound.names.items bound
    (filter (is_shown c.args.dir.now) (drop (i + 1) list)) c.loop-bound.self.core
    c.named.new.self.core refusal c.in_err-named.ensures.had)))

pub returns-in_err-named-clause-side : goal.returns-in_err-named-clause-side
returns-in_err-named-clause-side g c = c.in_err-named.ensures.side ∙ c.loop-bound.invariant.side

pub returns-in_err-push-clause-had : goal.returns-in_err-push-clause-had
returns-in_err-push-clause-had g c =
    let p = err_from_is_err_and c.from_residual-in_err-push.result
    c.from_residual-in_err-push.ensures.1 in
    let list = c.args.list.now in
    let i = c.loop-bound.bound-index in
    let bound = c.bound-item.result in
    let at : bound ≡ get_or list i bound =
    c.bound-item.is ∙ ap (λ (xs : List BoundName). get_or xs i bound) c.as_slice-bound-items.ensures in
    let below : i < length list = omega (arith, c.loop-bound-test.true, ap length c.as_slice-bound-items.ensures) in
    let left = filter_keeps (is_shown c.args.dir.now) list i bound below at
    (sym c.is_shown.ensures ∙ c.if-not-is_shown.false) in
    rw (p.1, p.2) (c.loop-bound.invariant.rest (Err no_memory) c.named.new.self.core (
    subst (λ (names : List BoundName). IsHad g.C.Core.Tells
    (ask_behind c.loop-bound.names.items names) c.loop-bound.self.core (Err no_memory) c.named.new.self.core)
    (sym left)
    (named_stops g.C.Core.Tells c.loop-bound.names.items bound
    (filter (is_shown c.args.dir.now) (drop (i + 1) list)) c.loop-bound.self.core
    c.named.new.self.core no_memory
    (named_or_memory g.C.Core.Tells bound c.loop-bound.self.core c.named.new.self.core
    c.in_ok-named.named c.in_ok-named.ensures.had))))

pub returns-in_err-push-clause-side : goal.returns-in_err-push-clause-side
returns-in_err-push-clause-side g c = c.in_ok-named.ensures.side ∙ c.loop-bound.invariant.side

pub loop-bound-preserved : goal.loop-bound-preserved
loop-bound-preserved g c =
    let list = c.args.list.now in
    let i = c.loop-bound.bound-index in
    let bound = c.bound-item.result in
    let later = filter (is_shown c.args.dir.now) (drop (i + 1) list) in
    let at : bound ≡ get_or list i bound =
    c.bound-item.is ∙ ap (λ (xs : List BoundName). get_or xs i bound) c.as_slice-bound-items.ensures in
    let below : i < length list = omega (arith, c.loop-bound-test.true, ap length c.as_slice-bound-items.ensures) in
    let left = filter_keeps (is_shown c.args.dir.now) list i bound below at
    (sym c.is_shown.ensures ∙ c.if-not-is_shown.false) in
    record {
      rest = λ end new had. c.loop-bound.invariant.rest end new (
          subst (λ (names : List BoundName). IsHad g.C.Core.Tells
          (ask_behind c.loop-bound.names.items names) c.loop-bound.self.core end new) (sym left)
          (named_more g.C.Core.Tells c.loop-bound.names.items bound later c.loop-bound.self.core
          c.named.new.self.core new c.in_ok-named.named end c.in_ok-named.ensures.had
          (subst (λ (items : List Named). IsHad g.C.Core.Tells (ask_behind items later)
          c.named.new.self.core end new) c.in_ok-push.ensures.items had)));
      side = c.in_ok-named.ensures.side ∙ c.loop-bound.invariant.side;
    }

pub returns-clause-had : goal.returns-clause-had
returns-clause-had g c =
    let list = c.args.list.now in
    let front = c.loop-bound.names.items in
    let core = c.loop-bound.self.core in
    let past : length list ≤ c.loop-bound.bound-index =
    omega (arith, c.loop-bound-test.false, ap length c.as_slice-bound-items.ensures) in
    let left = filter_ends (is_shown c.args.dir.now) list c.loop-bound.bound-index past in
    subst (λ (out : List Named). IsHad g.C.Core.Tells
    (ask_behind c.args.front.items (filter (is_shown c.args.dir.now) list)) c.args.self.now.core (Ok out) core)
    (sym c.from_vec.ensures)
    (c.loop-bound.invariant.rest (Ok front) core (
    subst (λ (names : List BoundName). IsHad g.C.Core.Tells (ask_behind front names) core (Ok front) core)
    (sym left) (named_all g.C.Core.Tells front core)))

pub returns-clause-side : goal.returns-clause-side
returns-clause-side g c = c.loop-bound.invariant.side
