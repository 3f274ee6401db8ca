use Rattle.std.proofs.Common.{List, ap, filter, inl, inr, refl, subst, Ok, Err}
use Rattle.std.proofs.lemmas.Result.{err_from_is_err_and}
use Rattle.nv_calls.specs.declared.call.Call.TheVariants as calls
use Rattle.nv_mount_beside.specs.Names.{number_of}
use Rattle.nv_mounted.specs.Asks.{ask, names_told}
use Rattle.nv_mounted.specs.Dialogues.{Ends, Grows, IsHad}
use Rattle.nv_mounted.specs.Listings.{ask_behind, dots, is_shown}
use Rattle.nv_mounted.specs.declared.listing.Named.{Named}
use Rattle.nv_mounted.proofs.Dialogues.{goes_on, stops}
use Rattle.nv_mounted.proofs.mount.Mount.names.Goals as goal

pub returns-in_err-list-clause-had : goal.returns-in_err-list-clause-had
returns-in_err-list-clause-had g c =
    let p = err_from_is_err_and c.from_residual.result c.from_residual.ensures.1 in
    rw (p.1, p.2) (
    stops g.C.Core.Tells (ask (calls.List c.args.dir.now) names_told) _ _ _ _ c.in_err-list.ensures)

pub returns-in_err-node-clause-had : goal.returns-in_err-node-clause-had
returns-in_err-node-clause-had g c =
    let p = err_from_is_err_and c.from_residual-in_err-node.result
    c.from_residual-in_err-node.ensures.1 in
    rw (p.1, p.2) (
    goes_on g.C.Core.Tells (ask (calls.List c.args.dir.now) names_told) _ _ _ _
    c.in_ok-list.list _ c.in_ok-list.ensures (
    stops g.C.Core.Tells (Ends (number_of c.args.dir.now)) _ _ _ _ (c.in_err-node.ensures, refl)))

pub returns-in_err-front-clause-had : goal.returns-in_err-front-clause-had
returns-in_err-front-clause-had g c =
    let p = err_from_is_err_and c.from_residual-in_err-front.result
    c.from_residual-in_err-front.ensures.1 in
    rw (p.1, p.2) (
    goes_on g.C.Core.Tells (ask (calls.List c.args.dir.now) names_told) _ _ _ _
    c.in_ok-list.list _ c.in_ok-list.ensures (
    goes_on g.C.Core.Tells (Ends (number_of c.args.dir.now)) _ _ _ _
    c.in_ok-node.node _ (c.in_ok-node.ensures, refl) (
    stops g.C.Core.Tells (Grows (Ends (Ok (dots c.in_ok-node.node)))) _ _ _ _
    (inl (ap Err c.in_err-front.ensures.err, refl)))))

pub returns-clause-had : goal.returns-clause-had
returns-clause-had g c =
    let shown = filter (is_shown c.args.dir.now) c.in_ok-list.list in
    let had = subst (λ (front : List Named). IsHad g.C.Core.Tells (ask_behind front shown)
    c.ask_names.new.core c.names_behind.result c.names_behind.new.self.core) c.in_ok-front.ensures.ok
    c.names_behind.ensures.had in
    goes_on g.C.Core.Tells (ask (calls.List c.args.dir.now) names_told) _ _ _ _
    c.in_ok-list.list _ c.in_ok-list.ensures (
    goes_on g.C.Core.Tells (Ends (number_of c.args.dir.now)) _ _ _ _
    c.in_ok-node.node _ (c.in_ok-node.ensures, refl) (
    goes_on g.C.Core.Tells (Grows (Ends (Ok (dots c.in_ok-node.node)))) _ _ _ _
    (dots c.in_ok-node.node) _ (inr (refl, refl)) had))
