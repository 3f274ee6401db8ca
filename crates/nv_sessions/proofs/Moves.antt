-- Each move keeps the rule of the freshness cell.
use Rattle.std.proofs.Common.{◌≡◌, ◌≢◌, ℕ, zero, suc, ◌+◌, ◌<◌, ◌≤◌, max, ◌==◌, List, [], ◌∷◌, length, set, Bool, true, false, true≢false, refl, sym, ap, ◌∙◌, subst, ⊎_elim, arith, le_refl, zero-le}
use Rattle.std.specs.Prelude.{slice_index}
use Rattle.std.proofs.lemmas.Bool.Decides.{eqb_tells}
use mathlib.Core.Option.{some, some-ne-none, some-injective}
use lib.ListN.{get_elem?}
use Rattle.crossbeam_utils.specs.Register.{Turns, Forks, Merges}
use Rattle.atomic_table.proofs.Lists.{at_set, set_again}
use Rattle.nv_sessions.specs.declared.fresh.View.{View}
use Rattle.nv_sessions.specs.Fresh.{AreFresh, Fits, Meets, Raises, Standing, greater, made_one, maker, new_owner, note, only_at, own_note, seer, told, with_note}
use Rattle.nv_sessions.proofs.Versions.{at_end, changed, changed_above, changed_else, changed_here, slice_index-greater, slice_index-only_at, slice_index-only_else}

off : false ≡ true → ⊥
off e = true≢false (sym e)

-- after a change of one pass each fits, where the others do and the changed one does
fits_set : (s : Standing) (views : List View) (by : ℕ) (w : View)
    → ((j : ℕ) (u : View) → j ≢ by → get_elem? views j ≡ some u → Fits s j u) → Fits s by w
    → (j : ℕ) (u : View) → get_elem? (set views by w) j ≡ some u → Fits s j u
fits_set s views by w others mine j u e =
    ⊎_elim
    (λ (x : (j ≡ by) × (w ≡ u)).
    subst (λ (y : ℕ × View). Fits s y.0 y.1) (λ i. (sym x.0 i, x.1 i)) mine)
    (λ (x : (j ≢ by) × (get_elem? views j ≡ some u)). others j u x.0 x.1)
    (at_set views by j w u e)

-- a pass that has only seen what may be seen
seer_fits : (s : Standing) (by : ℕ) (seen : List ℕ) → ((i : ℕ) → slice_index seen i ≤ s.version i)
    → Fits s by (seer seen)
seer_fits s by seen h =
    record { makes = λ k. absurd (off k); owns = λ k. absurd (off k); saw = h }

none_seen : (s : Standing) (i : ℕ) → slice_index [] i ≤ s.version i
none_seen s i = zero-le

-- ---- a new cell

abbrev first_standing : Standing
first_standing = record { version = λ _. 0; owned_by = λ _. 0; maker = 0; made = 0 }

pub begins : (words : List ℕ) → AreFresh words (maker 0 ∷ [])
begins words = record { standing = first_standing; unmade = λ i h. refl; each = one }
  where
    one : (by : ℕ) (v : View) → get_elem? (maker 0 ∷ []) by ≡ some v → Fits first_standing by v
    one zero v e = subst (Fits first_standing 0) (some-injective _ _ e)
        (record { makes = λ _. (refl, refl); owns = λ k. absurd (off k); saw = λ i. zero-le })
    one (suc by) v e = absurd (some-ne-none v (sym e))

-- ---- an owner raises its version

-- another pass owns another inode, whose version stays
others_stay : (s : Standing) (v : View) (by top : ℕ) → s.owned_by v.ino ≡ by
    → s.version v.ino ≤ top → (j : ℕ) (u : View) → j ≢ by → Fits s j u
    → Fits (record s { version = changed s.version v.ino top }) j u
others_stay s v by top own high j u apart f = record {
  makes = f.makes;
  owns = λ k. let t = f.owns k in
      let else : u.ino ≢ v.ino = λ e. apart (sym t.0 ∙ ap s.owned_by e ∙ own) in
      (t.0, t.1 ∙ sym (changed_else s.version v.ino top u.ino else), t.2);
  saw = λ i. omega (arith, f.saw i, changed_above s.version v.ino top high i);
}

pub raises : (by : ℕ) (v : View) → v.is_owner ≡ true → Turns AreFresh by v (λ x. x) Raises
raises by v owns words views h at =
    let s = h.standing in
    let mine = h.each by v at in
    let own = mine.owns owns in
    let top = v.version + 1 in
    let high : s.version v.ino ≤ top = omega (arith, own.1) in
    let up : (i : ℕ) → s.version i ≤ changed s.version v.ino top i
    = changed_above s.version v.ino top high in
    let t : Standing = record s { version = changed s.version v.ino top } in
    let w : View = record v { version = top } in (
      w,
      record {
        standing = t;
        unmade = λ i l.
            changed_else s.version v.ino top i (omega (arith, own.2)) ∙ h.unmade i l;
        each = fits_set t views by w
            (λ j u apart e. others_stay s v by top own.0 high j u apart (h.each j u e))
            (record {
              makes = mine.makes;
              owns = λ k. (own.0, sym (changed_here s.version v.ino top), own.2);
              saw = λ i. omega (arith, mine.saw i, up i);
            });
      },
      refl,
    )

-- ---- an owner meets what it was told of

pub meets : (by : ℕ) (v : View) → v.is_owner ≡ true → Turns AreFresh by v (λ x. x) Meets
meets by v owns words views h at =
    let mine = h.each by v at in
    let w : View = record v { seen = [] } in (
      w,
      record {
        standing = h.standing;
        unmade = h.unmade;
        each = fits_set h.standing views by w (λ j u apart e. h.each j u e)
            (record { makes = mine.makes; owns = mine.owns; saw = none_seen h.standing });
      },
      (refl, omega (arith, mine.saw v.ino, (mine.owns owns).1)),
    )

-- ---- a pass hands out a note

hands_out : (by : ℕ) (v : View) (seen : List ℕ)
    → ((s : Standing) → Fits s by v → (i : ℕ) → slice_index seen i ≤ s.version i)
    → Forks AreFresh by v v (seer seen)
hands_out by v seen may words views h at =
    let s = h.standing in
    let now = set views by v in
    record {
      standing = s;
      unmade = h.unmade;
      each = λ j u e. ⊎_elim
          (λ (t : (get_elem? now j ≡ some u) × (j < length now)).
          h.each j u
          (subst (λ (l : List View). get_elem? l j ≡ some u) (set_again views by v at) t.0))
          (λ (t : (j ≡ length now) × (seer seen ≡ u)).
          subst (Fits s j) t.1 (seer_fits s j seen (may s (h.each by v at))))
          (at_end now (seer seen) u j e);
    }

pub notes : (by : ℕ) (v : View) → Forks AreFresh by v v (note v)
notes by v = hands_out by v v.seen (λ s f. f.saw)

-- an owner's note says its own version, and 0 of all other inodes
own_below : (s : Standing) (by : ℕ) (v : View) → v.is_owner ≡ true → Fits s by v
    → (i : ℕ) → slice_index (only_at v.ino v.version) i ≤ s.version i
own_below s by v owns f i =
    let own = f.owns owns in
    let at = only_at v.ino v.version in
    ⊎_elim
    (λ (t : ((i == v.ino) ≡ true) × (i ≡ v.ino)).
    subst (λ (z : ℕ). slice_index at z ≤ s.version z) (sym t.1)
    (omega (arith, slice_index-only_at v.ino v.version, own.1)))
    (λ (t : ((i == v.ino) ≡ false) × (i ≢ v.ino)).
    omega (arith, slice_index-only_else v.ino v.version i t.1))
    (eqb_tells i v.ino)

pub own_notes : (by : ℕ) (v : View) → v.is_owner ≡ true → Forks AreFresh by v v (own_note v)
own_notes by v owns =
    hands_out by v (only_at v.ino v.version) (λ s f. own_below s by v owns f)

-- ---- a pass takes a note in

takes_in : (by : ℕ) (v : View) (other : ℕ) (u : View) (seen : List ℕ)
    → ((i : ℕ) → slice_index seen i ≤ max (slice_index v.seen i) (slice_index u.seen i))
    → Merges AreFresh by v other u (record v { seen = seen }) (seer [])
takes_in by v other u seen less words views h at apart there =
    let s = h.standing in
    let w : View = record v { seen = seen } in
    let mine = h.each by v at in
    let theirs : Fits s other u = ⊎_elim
    (λ (t : (other ≡ by) × (w ≡ u)). absurd (apart t.0))
    (λ (t : (other ≢ by) × (get_elem? views other ≡ some u)). h.each other u t.1)
    (at_set views by other w u there) in
    let fuller : Fits s by w = record {
      makes = mine.makes;
      owns = mine.owns;
      saw = λ i. omega (arith, less i, mine.saw i, theirs.saw i);
    } in
    let first = fits_set s views by w (λ j z _ e. h.each j z e) fuller in
    record {
      standing = s;
      unmade = h.unmade;
      each = fits_set s (set views by w) other (seer []) (λ j z _ e. first j z e)
          (seer_fits s other [] (none_seen s));
    }

pub takes_note : (by : ℕ) (v : View) (other : ℕ) (u : View)
    → Merges AreFresh by v other u (with_note v u) (seer [])
takes_note by v other u =
    takes_in by v other u (greater v.seen u.seen)
    (λ i. omega (arith, slice_index-greater v.seen u.seen i))

pub is_told : (by : ℕ) (v : View) (other : ℕ) (u : View)
    → Merges AreFresh by v other u (told v u) (seer [])
is_told by v other u = takes_in by v other u u.seen (λ i. omega arith)

-- ---- the maker makes the owner of the next inode

no_maker : (s : Standing) (j : ℕ) (u : View) → Fits s j u → j ≢ s.maker → u.is_maker ≡ false
no_maker s j u f apart = by_case u.is_maker refl
  where
    by_case : (b : Bool) → u.is_maker ≡ b → b ≡ false
    by_case true e = absurd (apart (f.makes e).0)
    by_case false e = refl

-- once the pass at this place owns the next inode
abbrev with_owner : Standing → ℕ → Standing
with_owner s place =
    record s { owned_by = changed s.owned_by s.made place; made = s.made + 1 }

-- who makes no owners has no part in it
others_keep : (s : Standing) (place j : ℕ) (u : View) → Fits s j u → u.is_maker ≡ false
    → Fits (with_owner s place) j u
others_keep s place j u f none = record {
  makes = λ k. absurd (off (sym none ∙ k));
  owns = λ k. let t = f.owns k in (
    changed_else s.owned_by s.made place u.ino (omega (arith, t.2)) ∙ t.0,
    t.1,
    omega (arith, t.2),
  );
  saw = f.saw;
}

new_owner_fits : (s : Standing) (v : View) (place : ℕ) → v.made ≡ s.made → s.version s.made ≡ 0
    → Fits (with_owner s place) place (new_owner v)
new_owner_fits s v place next first = record {
  makes = λ k. absurd (off k);
  owns = λ k. (
    ap (changed s.owned_by s.made place) next ∙ changed_here s.owned_by s.made place,
    sym (ap s.version next ∙ first),
    omega (arith, next),
  );
  saw = none_seen s;
}

maker_fits : (s : Standing) (by place : ℕ) (v : View) → v.is_owner ≡ false → Fits s by v
    → v.is_maker ≡ true → Fits (with_owner s place) by (made_one v)
maker_fits s by place v none f makes = record {
  makes = λ k. let is = f.makes makes in (is.0, ap (λ n. n + 1) is.1);
  owns = λ k. absurd (off (sym none ∙ k));
  saw = f.saw;
}

pub makes_owner : (by : ℕ) (v : View) → v.is_maker ≡ true → v.is_owner ≡ false
    → Forks AreFresh by v (made_one v) (new_owner v)
makes_owner by v makes none words views h at =
    let s = h.standing in
    let mine = h.each by v at in
    let chief = mine.makes makes in
    let now = set views by (made_one v) in
    let place = length now in
    let t = with_owner s place in
    let new = new_owner_fits s v place chief.1 (h.unmade s.made (le_refl s.made)) in
    let others : (i : ℕ) (z : View) → i ≢ by → get_elem? views i ≡ some z → Fits t i z
    = λ i z apart e. let f = h.each i z e in
    others_keep s place i z f (no_maker s i z f (λ same. apart (same ∙ sym chief.0))) in
    record {
      standing = t;
      unmade = λ i l. h.unmade i (omega arith);
      each = λ j u e. ⊎_elim
          (λ (x : (get_elem? now j ≡ some u) × (j < place)).
          fits_set t views by (made_one v) others (maker_fits s by place v none mine makes) j u x.0)
          (λ (x : (j ≡ place) × (new_owner v ≡ u)).
          subst (λ (y : ℕ × View). Fits t y.0 y.1) (λ i. (sym x.0 i, x.1 i)) new)
          (at_end now (new_owner v) u j e);
    }
