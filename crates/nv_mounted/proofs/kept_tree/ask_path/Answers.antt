use Rattle.std.proofs.Common.{◌≡◌, ◌+◌, ◌∙◌, ◌∷◌, List, ℕ, Ok, Err, ap, drop, inl, inr, refl, subst, sym}
use Rattle.std.proofs.lemmas.List.{drop_more}
use Rattle.std.proofs.lemmas.Result.{err_from_is_err_and}
use Rattle.nv_calls.specs.declared.call.Call.{Call}
use Rattle.nv_calls.specs.declared.call.Call.TheVariants as calls
use Rattle.nv_mount_beside.specs.Memory.{no_memory}
use Rattle.nv_mounted.specs.Asks.{ask_handle}
use Rattle.nv_mounted.specs.Dialogues.{Grows, IsHad}
use Rattle.nv_mounted.specs.KeptTrees.{ask_path}
use Rattle.nv_mounted.proofs.Dialogues.{goes_on, stops}
use Rattle.nv_mounted.proofs.kept_tree.ask_path.Goals as goal

pub returns-in_err-looked : goal.returns-in_err-looked
returns-in_err-looked g c =
    let p = err_from_is_err_and c.from_residual.result c.from_residual.ensures.1 in
    let path = c.args.path.now in
    let i = c.loop-name.name-index in
    let name = c.name-item.result in
    let rest = drop (i + 1) path in
    let core = c.loop-name.core in
    let handle = c.loop-name.handle in
    let left : drop i path ≡ name ∷ rest =
    drop_more path i name c.loop-name-test.true ∙ ap (λ (n : List ℕ). n ∷ rest) (sym c.name-item.is) in
    let none = c.in_err-looked.ensures in
    rw (p.1, p.2, none) (c.loop-name.invariant (Err no_memory) core (
    subst (λ (names : List (List ℕ)). IsHad g.C.Core.Tells (ask_path handle names) core (Err no_memory)
    core) (sym left)
    (stops g.C.Core.Tells (Grows (ask_handle (calls.Lookup handle name))) (λ next. ask_path next rest)
    core core no_memory (inl (refl, refl)))))

pub returns-in_err-handle : goal.returns-in_err-handle
returns-in_err-handle g c =
    let p = err_from_is_err_and c.from_residual-in_err-handle.result
    c.from_residual-in_err-handle.ensures.1 in
    let path = c.args.path.now in
    let i = c.loop-name.name-index in
    let name = c.name-item.result in
    let rest = drop (i + 1) path in
    let core = c.loop-name.core in
    let new = c.ask_handle.new.core in
    let handle = c.loop-name.handle in
    let refusal = c.in_err-handle.field-0.0 in
    let left : drop i path ≡ name ∷ rest =
    drop_more path i name c.loop-name-test.true ∙ ap (λ (n : List ℕ). n ∷ rest) (sym c.name-item.is) in
    let call : c.lookup.result ≡ calls.Lookup handle name =
    c.lookup.ensures ∙ ap (calls.Lookup handle) (c.in_ok-looked.ensures ∙ c.bytes.ensures.value) in
    let asked = subst (λ (k : Call). IsHad g.C.Core.Tells (ask_handle k) core (Err refusal) new) call
    c.in_err-handle.ensures in
    rw (p.1, p.2) (c.loop-name.invariant (Err refusal) new (
    subst (λ (names : List (List ℕ)). IsHad g.C.Core.Tells (ask_path handle names) core (Err refusal)
    new) (sym left)
    (stops g.C.Core.Tells (Grows (ask_handle (calls.Lookup handle name))) (λ next. ask_path next rest)
    core new refusal (inr asked))))

pub loop-name-preserved : goal.loop-name-preserved
loop-name-preserved g c =
    let path = c.args.path.now in
    let i = c.loop-name.name-index in
    let name = c.name-item.result in
    let rest = drop (i + 1) path in
    let core = c.loop-name.core in
    let between = c.ask_handle.new.core in
    let handle = c.loop-name.handle in
    let next = c.in_ok-handle.handle in
    let left : drop i path ≡ name ∷ rest =
    drop_more path i name c.loop-name-test.true ∙ ap (λ (n : List ℕ). n ∷ rest) (sym c.name-item.is) in
    let call : c.lookup.result ≡ calls.Lookup handle name =
    c.lookup.ensures ∙ ap (calls.Lookup handle) (c.in_ok-looked.ensures ∙ c.bytes.ensures.value) in
    let asked = subst (λ (k : Call). IsHad g.C.Core.Tells (ask_handle k) core (Ok next) between) call
    c.in_ok-handle.ensures in
    λ end new had. c.loop-name.invariant end new (
    subst (λ (names : List (List ℕ)). IsHad g.C.Core.Tells (ask_path handle names) core end new)
    (sym left)
    (goes_on g.C.Core.Tells (Grows (ask_handle (calls.Lookup handle name)))
    (λ after. ask_path after rest) core between new next end (inr asked) had))
