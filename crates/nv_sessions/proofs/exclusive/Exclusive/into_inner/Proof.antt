-- `into_inner` takes the value out. Assumes `Logic`.
use Rattle.std.proofs.Common.{List, [], ◌∷◌, ◌++◌, refl}
use seplogic.Ra.Ura.{Ura}
use mir.Syntax.{Fn, Args, a_type}
use mir.Val.{Val}
use mir.MapTy.{inst_fn}
use base.Logic.{SProp, ent}
use prog.Memory.{Memory}
use prog.Routine.{Routine}
use prog.Wp.{Calls, Loops, WpFn, Tables}
use contract.Monad.{Fun}
use contract.Running.{tables, tables_of}
use sound.WpLaws.{WpFn-mono}
use types.Logic.{Logic}
use types.Kit.{‵, raw, ◌⊛◌, prop, ◌$◌, ◌∵◌, !, qed, move, keep, split, fsplit, fjoin, regoal, suffices, done}
use types.Part.{sub, whole}
use types.Run.{of_opd, enter, fld, returns, stop}
use types.ByLocal.{alloc_all, pass_all, free_all, look_at, get, get_in, sets}
use denote.Exit.{no}
use denote.RattleType.{RattleType, owns}
use denote.Param.{layout, layouts, param}
use denote.Param.Laws.{Laws, param_laws}
use denote.Signature.{plain, types_at}
use denote.Steps.{nothing}
use denote.Struct.Struct.{as_fields}
use denote.Triple.Clauses.{Clauses, Ended, closing}
use denote.Triple.Entry.{alive}
use denote.Triple.Spec.{Meets, triple_of}
use denote.Triple.Table.{entered}
use denote.Triple.Walked.{says, Stays, stay_dropped, walk_of, ends_at, walk_Meets}
use Rattle.core.proofs.alloc.Calls.{Goes-blank}
use Rattle.nv_sessions.proofs.ExclusiveWalks.{one, one_had}
use Rattle.nv_sessions.specs.contracts.exclusive.Exclusive as Exclusive
use Rattle.nv_sessions.specs.contracts.exclusive.Exclusive.into_inner as F
use Rattle.nv_sessions.specs.contracts.exclusive.Exclusive.into_inner.Key.{name as #self}
use Rattle.nv_sessions.proofs.exclusive.Exclusive.into_inner.Statement as stated
use Rattle.nv_sessions.proofs.exclusive.Exclusive.into_inner.Code as code

module _ (Y : RattleType) where
  abbrev args : Args
  args = layouts (a_type ∷ []) (Y, tt)

  abbrev function : Fn
  function = inst_fn args code.function

  abbrev ended : Ended
  ended = F.ended Y

  abbrev stayed : Stays ended.signature.params ended.kept
  stayed = (stay_dropped (plain (λ _. Exclusive.the_row (param 0 Y))) no, tt)

  module _ (L : Laws (param 0 Y)) {M : Type 1} {𝓤 : Ura M} (𝓛 : Logic 𝓤) (at_mem : Memory → SProp 𝓤) (run : Routine → Fun 𝓤) where
    open 𝓛 use {H}

    abbrev held : Clauses 𝓤 ended
    held = F.clauses Y 𝓛 at_mem run

    module _ (C : Calls 𝓤 H) (Λ : Loops 𝓤 H) (z : (walk_of 𝓛 ended stayed held).Ghost) where
      abbrev Post : Val → SProp 𝓤
      Post = (walk_of 𝓛 ended stayed held).post z

      abbrev toks : SProp 𝓤
      toks = alive 𝓛 ended.signature z.0.0 z.0.1

      walks : ent 𝓤 ((walk_of 𝓛 ended stayed held).pre z) (WpFn 𝓤 H C Λ function ((walk_of 𝓛 ended stayed held).args z) Post)
      walks =
          let a = z.0.3 in
          let vss = z.0.4 in
          let x = a.0.value in
          qed 𝓛 ((raw toks ⊛ ‵ (owns (types_at ended.signature.params z.0.0) a vss)) ∷ raw ((held z.0.0 a).requires z.1) ∷ []) ∵
          split ! $ move ! (1 ∷ []) $ fsplit ! $ keep ! (0 ∷ 2 ∷ []) $ fsplit ! $ keep ! (0 ∷ 2 ∷ []) $
          one_had ! (param 0 Y) L x vss.0 (λ u is good.
          regoal ! (λ (us : List Val). prop (WpFn 𝓤 H C Λ function (us ++ []) Post)) is refl $
          enter ! C Λ function (one u ∷ []) Post $ alloc_all ! (λ l. pass_all ! refl (as_fields (layout Y ∷ []) (u ∷ []) (good, tt), tt) $
          sets ! (of_opd ! (get_in ! (fld ! refl (stop !)) (sub ! 0 refl (whole !)))) refl good $
          sets ! (of_opd ! (get ! refl)) refl good $
          returns ! (look_at ! 0 refl) $ free_all ! refl $
          suffices ! _ (ends_at 𝓛 ended stayed held z u x ((tt, tt), tt) (tt, tt)) $ says ! refl $
          nothing ! $ nothing ! $ fjoin ! $ move ! (2 ∷ 0 ∷ 1 ∷ []) $ done !))

    meets : (𝓣 : Tables 𝓤 H) → Meets 𝓛 ended.signature (WpFn 𝓤 H 𝓣.C 𝓣.Λ function) (closing 𝓛 ended held)
    meets 𝓣 =
        walk_Meets 𝓛 ended stayed (Goes-blank 𝓛 1 (plain (λ _. Exclusive.the_row (param 0 Y))) no (λ κs x f. tt), tt) held
        (WpFn 𝓤 H 𝓣.C 𝓣.Λ function) (WpFn-mono 𝓤 H 𝓛.laws 𝓣 function) (walks 𝓣.C 𝓣.Λ)

pub into_inner_spec : {M : Type 1} → stated.statement M
unfolding tables_of
into_inner_spec 𝓤 𝓛 𝓜 𝓡 wired Y laws =
    let 𝓣 : Tables 𝓤 𝓛.H = tables_of 𝓤 𝓛.H 𝓜 (tables 𝓤 𝓛.H 𝓜 𝓡 𝓡.env) in
    entered 𝓤 𝓛.H (triple_of 𝓛 (ended Y).signature (closing 𝓛 (ended Y) (held Y (param_laws 0 Y laws) 𝓛 𝓜.mem 𝓡.returns))) 𝓣.C 𝓣.Λ (#self (args Y)) (function Y)
    (code.unfolded 𝓤 𝓛.H 𝓜 𝓡 wired (Y, tt)) (meets Y (param_laws 0 Y laws) 𝓛 𝓜.mem 𝓡.returns 𝓣)
