-- `reveal` gives the pointer back.
use Rattle.std.proofs.Common.{◌≡◌, List, [], ◌∷◌, ◌++◌, refl, sym, ap, ◌∙◌, subst, true}
use mir.Val.{Val, vptr}
use mir.Raw.{raw as bare}
use mir.Syntax.{impl, tnil, dnil}
use denote.Memory.{lone}
use denote.RawPtr.{in_a_block}
use types.Logic.{sem}
use Rattle.core.proofs.alloc.Calls.{Al, handle_tells}
use Rattle.std.specs.Prelude.{is_some}
use Rattle.nv_c.specs.declared.held.Held.{Held}
use base.Logic.{SProp, ent, emp, id⊢, never, fst∗}
use base.Fml.{ftrue}
use prog.Wp.{WpFn}
use types.Kit.{‵, raw, ◌⊛◌, ◌$◌, ◌∵◌, !, qed, by, move, keep, split, fsplit, fjoin, suffices, use0, rewrite}
use types.Run.{stop, fld, of_opd, no_more, and_then, returns, enter}
use types.ByLocal.{alloc_all, pass_all, free_all, look_at, get, get_in, sets}
use types.Part.{agg, sub, whole}
use contract.Monad.{fact, fact_i}
use contract.Running.{tables}
use denote.Exit.{yes}
use denote.RattleType.{owns}
use denote.Signature.{types_at, plain}
use denote.RawPtr.{null_ptr}
use denote.Steps.{nothing, heard}
use denote.Triple.Walked.{Stays, stay_dropped, walk_of, Goes-dropped}
use Rattle.std.proofs.raw_atomic.Walks.{proved_at, leaves}
use Rattle.nv_c.proofs.Slotted.{Slot, word, slot_out}
use denote.RattleType.{RattleType}
use Rattle.std.specs.contracts.alloc.Global as global
use Rattle.std.specs.contracts.impls.GlobalAllocator.TheImpl.{ghosts}
use Rattle.std.proofs.alloc.Global.TheLaws as glaws
use Rattle.nv_c.specs.contracts.held.Held as held
use Rattle.nv_c.proofs.Loosened.{both, Loose, loose_good, loose_in}
use Rattle.nv_c.specs.Owned.{owned}
use Rattle.std.specs.Prelude.{Option, Some, None}
use denote.RawPtr.{Ptr, block_ptr}
use Rattle.std_alloc.specs.Box.Ownership.{box_owns}
use Rattle.nv_c.specs.contracts.slot.Slot.reveal.{ended, clauses}
use Rattle.nv_c.specs.contracts.slot.Slot.reveal.Key.{name as #self}
use Rattle.nv_c.proofs.slot.Slot.reveal.Statement.{statement}
use Rattle.nv_c.proofs.slot.Slot.reveal.Code as code

-- what is there
found : (o : Option Held) → is_some o ≡ true → (x : Held) × (o ≡ Some x)
found (Some x) is = (x, refl)
found None is = cc

pub reveal_spec : {M : Type 1} → statement M
reveal_spec 𝓤 𝓛 𝓜 𝓡 wired =
    let H = 𝓛.H in let 𝓣 = tables 𝓤 H 𝓜 𝓡 𝓡.env in let c = clauses 𝓛 𝓜.mem 𝓡.returns in let fn = code.function in
    let R : RattleType = held.the_row in let Z : RattleType = global.the_row in let LZ = glaws.the_row_laws in
    let hs : Stays ended.signature.params ended.kept = (stay_dropped (plain (λ _. Slot)) yes, (stay_dropped (plain (λ _. Z)) yes, tt)) in
    proved_at 𝓛 ended hs c 𝓜 𝓡 (Goes-dropped 𝓛 0 (plain (λ _. Slot)) yes (λ κs x f. refl), (Goes-dropped 𝓛 0 (plain (λ _. Z)) yes (λ κs x f. refl), tt)) #self fn (code.unfolded 𝓤 H 𝓜 𝓡 wired) (λ z are.
    let Post : Val → SProp 𝓤 = (walk_of 𝓛 ended hs c).post z in let s = z.0.3.0 in let a = z.0.3.1.0 in let al : Al = record { row = Z; laws = LZ; g = ghosts; d = impl [] tnil dnil; drops = impl [] tnil dnil } in let Run : List Val → SProp 𝓤 = λ ws. WpFn 𝓤 H 𝓣.C 𝓣.Λ fn ws Post in
    qed 𝓛 ((‵ ftrue ⊛ ‵ (owns (types_at ended.signature.params z.0.0) z.0.3 z.0.4)) ∷ raw ((c z.0.0 z.0.3).requires z.1) ∷ []) ∵ split ! $ move ! (1 ∷ []) $ fsplit ! $
    slot_out ! s z.0.4.0 (λ es.
    move ! (3 ∷ []) $ heard ! (is_some s.held ≡ true) (λ is. let x = (found s.held is).0 in let held_is = (found s.held is).1 in
    rewrite ! 0 (λ (o : Option Held). ‵ (owned s.pointer o)) held_is refl $
    in_a_block ! s.pointer (λ p. box_owns (ghosts.dealloc_token x.alloc) R p x) (fst∗ 𝓤 (never 𝓤) (sem 𝓛 (ghosts.dealloc_token x.alloc (bare (lone R.mir)) null_ptr))) (λ b o e.
    move ! (1 ∷ []) $ fsplit ! $ handle_tells al ! a z.0.4.1.0 (λ h ea fits. move ! (2 ∷ 0 ∷ []) $
    let us : List Val = word (block_ptr b o) ∷ h ∷ [] in let es' : z.0.4.0 ≡ word (block_ptr b o) ∷ [] = es ∙ ap (λ (p : Ptr). word p ∷ []) e in
    let l : (Loose R Z LZ ghosts).Denot = record { at = block_ptr b o; alloc = a; value = x } in
    suffices ! (Run us) (subst (λ (ws : List Val). ent 𝓤 (Run us) (Run ws)) (sym (λ i. es' i ++ (ea i ++ []))) (id⊢ 𝓤 (Run us))) $
    enter ! 𝓣.C 𝓣.Λ fn us Post $ alloc_all ! (λ l'. pass_all ! refl ((tt, (tt, tt)), (fits, tt)) $
    sets ! (of_opd ! (get_in ! (fld ! refl (stop !)) (sub ! 0 refl (whole !)))) refl (tt, tt) $ sets ! (of_opd ! (get ! refl)) refl (tt, tt) $
    sets ! (agg ! (and_then ! (get ! refl) (and_then ! (get ! refl) (no_more !)))) refl (loose_good R Z LZ ghosts b o h fits) $ loose_in R Z LZ ghosts ! b o h a x $
    use0 𝓛 (raw (fact 𝓤 (s.held ≡ Some l.value))) (fact_i 𝓤 (s.held ≡ Some l.value) (emp 𝓤) held_is) $ nothing ! $ nothing ! $ fjoin ! $ nothing ! $ fjoin ! $
    returns ! (look_at ! 0 refl) $ free_all ! refl $ keep ! (4 ∷ 0 ∷ 2 ∷ 1 ∷ []) $ by ! (leaves 𝓛 ended hs c z (both (vptr b o) h) l (tt, (tt, tt)) (tt, (tt, tt)))))))))
