-- The machine value of a slot.
use Rattle.std.proofs.Common.{◌≡◌, List, [], ◌∷◌, refl, subst}
use seplogic.Ra.Ura.{Ura}
use mir.Val.{Val, vstruct, vcons, vnil, of_list}
use types.Logic.{Logic}
use types.Kit.{Item, Goal, Seq, Step, step, ‵, ◌$◌, drop, fsplit, fjoin, fpick, fpack, feq_i, feq_l}
use denote.RattleType.{RattleType, Valss}
use denote.Builtin.{RawPtr}
use denote.RawPtr.{Ptr, ptr_val}
use denote.Steps.{nothing}
use denote.Struct.Struct.{within}
use denote.Struct.Owning.{shape}
use Rattle.std.specs.Prelude.{Option}
use Rattle.nv_c.specs.Owned.{owned}
use Rattle.nv_c.specs.declared.held.Held.{Held}
use Rattle.nv_c.specs.contracts.slot.Slot as slot

abbrev pub word : Ptr → Val
word p = vstruct (vcons (ptr_val p) vnil)

abbrev pub Slot : RattleType
Slot = slot.the_row

module _ {M : Type 1} {𝓤 : Ura M} {𝓛 : Logic 𝓤} {K : Type 0} {Γ : List (Item 𝓤)} {G : Goal 𝓤 𝓛.H} where
  -- a slot by value is what it owns, and one machine value
  pub slot_out : K → (s : Slot.Denot) (vs : List Val)
      → (vs ≡ word s.pointer ∷ [] → Seq K 𝓛 (‵ (owned s.pointer s.held) ∷ Γ) G)
      → Seq K 𝓛 (‵ (Slot.own_val s vs) ∷ Γ) G
  slot_out t s vs k =
      fsplit t $ fpick t (λ vss. fsplit t $ feq_l t (λ ev. fsplit t $ feq_l t (λ ep. drop t $
      k (subst (λ (ps : List Val). vs ≡ vstruct (of_list ps) ∷ []) (λ i. mathlib.Core.List.◌++◌ (ep i) []) ev))))

  pub slot_in : K → (p : Ptr) (h : Option Held)
      → Step K 𝓛 (‵ (Slot.own_val (record { pointer = p; held = h }) (word p ∷ [])) ∷ Γ) G (‵ (owned p h) ∷ Γ) G
  slot_in t p h = step (λ s.
      nothing t $ feq_i t (List Val) (ptr_val p ∷ []) (ptr_val p ∷ []) refl $ fjoin t $ feq_i t (List Val) (word p ∷ []) (word p ∷ []) refl $ fjoin t $
      fpack t (Valss (RawPtr ∷ [])) (within (shape slot.the_type) (p, tt) (word p ∷ [])) (ptr_val p ∷ [], tt) $ fjoin t $ s)
