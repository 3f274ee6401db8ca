-- What each kind of step leaves of what a call knows of inodes, and of each number.
use Rattle.std.proofs.Common.{◌≡◌, ◌≢◌, ◌⊎◌, inl, inr, ℕ, ◌<◌, ◌≤◌, ◌==◌, ◌∙◌, Bool, true, false, List, [], ◌∷◌, Option, Some, None, ap, arith, filter, length, refl, subst, sym}
use Rattle.std.proofs.lemmas.Bool.{cases_lt, eqb-true, false≢true, lt-ltb, true≢false}
use Rattle.std.proofs.lemmas.Option.{none-some}
use Rattle.nv_alloc.specs.Numbers.{has, times}
use Rattle.nv_alloc.proofs.Lists.{times-yes}
use Rattle.nv_base.specs.declared.geometry.GeometryNumbers.{GeometryNumbers}
use Rattle.nv_base.specs.declared.numbers.Handle.{Handle}
use Rattle.nv_calls.specs.AllCalls.{early, effect, looked, refusal}
use Rattle.nv_calls.specs.Locked.{handles}
use Rattle.nv_calls.specs.declared.call.Call.{Call}
use Rattle.nv_calls.specs.declared.call.Call.TheVariants as call
use Rattle.nv_cell.specs.Cell.{CellState}
use Rattle.nv_machine.specs.Grown.{HasGrown}
use Rattle.nv_machine.specs.Hands.{HandAt, makes_inode}
use Rattle.nv_cell.specs.Readers.{has_inode}
use Rattle.nv_machine.specs.Reads.{copies, is_written, plan_by, slots_in, slots_of, taken_by, written_slots}
use Rattle.nv_machine.specs.Sequence.{beginning}
use Rattle.nv_machine.specs.Step.{ending_at, is_numbered, made_in, same_looked}
use Rattle.nv_machine.specs.World.{Check, HandState, Next, Running, Shared, cell_at, with_cell}
use Rattle.nv_machine.proofs.Fitting.{checked}
use Rattle.nv_machine.proofs.Lists.{or_right, self}
use Rattle.nv_machine.proofs.LocksHeld.{Before}
use Rattle.nv_machine.proofs.LogsKept.{cell_set}
use Rattle.nv_machine.proofs.PoolCells.{with_inode}
use Rattle.nv_machine.proofs.PoolChecked.{HaveInode, checked_inodes}
use Rattle.nv_machine.proofs.PoolKnown.{HasPlan, HasTaken, HaveInodes, IsNew, Sees}
use Rattle.nv_machine.proofs.PoolPlans.{parent_of, plan_leaves, plan_makes}
use Rattle.nv_machine.proofs.PoolSlots.{filter_has, in_range, inode_inside, inos_of, slots_have, two_of}
use Rattle.nv_machine.proofs.PoolTally.{loose, tally}

-- what a step may rely on
pub record Standing (g : GeometryNumbers) (k : Next) (a : ℕ) (s : Shared) (h : HandState) (r : Running) : Type 0 where
  pub before : Before a s k r
  pub hand : HandAt g k h r
  pub sees : Sees k s h r
  pub grown : HasGrown k s a r
  pub within : (ino : ℕ) → (cell_at s ino).chain.tail ≤ length (cell_at s ino).chain.entries
  pub few : (n : ℕ) → tally n s (loose k (written_slots r) h.ino) ≤ 1
  pub past : (n : ℕ) → length s.cells ≤ n → tally n s (loose k (written_slots r) h.ino) ≡ 0

-- ---- the check

-- a call that makes an inode reads its directory alone
parent_read : (c : Call) (found : _) → makes_inode (beginning c) ≡ true → handles found c ≡ parent_of c ∷ []
parent_read (call.Create dir name mode) found makes = refl
parent_read (call.Mkdir dir name mode) found makes = refl
parent_read other found makes = absurd (false≢true makes)

module _ (g : GeometryNumbers) (block a : ℕ) (s : Shared) (h : HandState) (r : Running) where
  check_new : Standing g Check a s h r → HaveInode s (handles r.looked r.call) → (n : ℕ) → h.ino ≡ Some n
      → IsNew n r.call (made_in s h.ino r.made) r.slots
  check_new st all n is = go (makes_inode (beginning r.call)) refl where
    list : List ℕ
    list = inos_of (handles r.looked r.call)

    one : tally n s (n ∷ []) ≤ 1
    one = subst (λ (o : Option ℕ). tally n s (loose Check (written_slots r) o) ≤ 1) is (st.few n)

    own_time : times n (n ∷ []) ≡ 1
    own_time = times-yes n n [] (self n)

    inside : n < length s.cells
    inside = elim (cases_lt n (length s.cells)) [
      | inl lt ↦ lt
      | inr ge ↦
          let none : tally n s (n ∷ []) ≡ 0 =
          subst (λ (o : Option ℕ). tally n s (loose Check (written_slots r) o) ≡ 0) is (st.past n ge) in
          absurd (omega (arith, none, own_time))
    ]

    slots : r.slots ≡ slots_in (length s.cells) (n ∷ list)
    slots = st.sees ∙ ap (λ (o : Option ℕ). slots_of s o r.looked r.call) is

    in_slots : (m : ℕ) → has (n ∷ list) m ≡ true → m < length s.cells → has r.slots m ≡ true
    in_slots m there lt = ap (λ (l : List ℕ). has l m) slots ∙ in_range (length s.cells) (n ∷ list) m there lt

    apart : (b : Bool) → ((parent_of r.call).ino == n) ≡ b → has_inode (cell_at s (parent_of r.call).ino) ≡ true → b ≡ false
    apart false q inode = refl
    apart true q inode =
        let same = eqb-true (parent_of r.call).ino n q in
        let is_inode : has_inode (cell_at s n) ≡ true = subst (λ (k : ℕ). has_inode (cell_at s k) ≡ true) same inode in
        absurd (omega (arith, one, own_time, with_inode (cell_at s n) is_inode))

    go : (b : Bool) → makes_inode (beginning r.call) ≡ b → IsNew n r.call (made_in s h.ino r.made) r.slots
    go false q = absurd (none-some n (sym (st.hand.number q) ∙ is))
    go true q =
        let read = parent_read r.call r.looked q in
        let inode : has_inode (cell_at s (parent_of r.call).ino) ≡ true = (subst (HaveInode s) read all).0 in
        let parent : has (inos_of (parent_of r.call ∷ [])) (parent_of r.call).ino ≡ true = rw (self (parent_of r.call).ino) refl in
        let there : has (n ∷ list) (parent_of r.call).ino ≡ true =
        or_right (n == (parent_of r.call).ino) _ (ap (λ (l : List Handle). has (inos_of l) (parent_of r.call).ino) read ∙ parent) in
        record {
          makes = q;
          is_made = ap (λ (o : Option ℕ). (made_in s o r.made).ino) is;
          own = in_slots n (let e : has (n ∷ list) n ≡ true = rw (self n) refl in e) inside;
          above = in_slots (parent_of r.call).ino there (inode_inside s (parent_of r.call).ino inode);
          apart = apart ((parent_of r.call).ino == n) refl inode;
        }

  pub check_taken : Standing g Check a s h r → ending_at block s h r ≡ None → HasTaken s h.ino r.call (made_in s h.ino r.made) r.slots
  check_taken st e =
      let passed = checked (early (copies s) r.call) (same_looked (looked (copies s) r.call) r.looked) (refusal block (copies s) r.call)
      (is_numbered (beginning r.call) h.ino) (effect (copies s) (made_in s h.ino r.made) r.call) e in
      let all = checked_inodes block s (made_in s h.ino r.made) r.looked r.call passed.passed passed.some passed.looked in (
        λ ino there. slots_have s h.ino (handles r.looked r.call) ino all (ap (λ (l : List ℕ). has l ino) (sym st.sees) ∙ there),
        check_new st all,
      )

  -- ---- ready

  pub ready_plan : HasTaken s h.ino r.call r.made r.slots
      → HasPlan s h.ino r.slots (filter (is_written (plan_by block s h r)) r.slots) (plan_by block s h r)
  ready_plan taken = (
    taken.0,
    λ n is.
        let new = taken.1 n is in
        let made = new.is_made in
        let both = plan_makes block (copies s) (taken_by block s h r) r.call new.makes
        (subst (λ (k : ℕ). ((parent_of r.call).ino == k) ≡ false) (sym made) new.apart) in
        let plan = plan_by block s h r in
        let own = filter_has (is_written plan) r.slots n new.own (subst (λ (k : ℕ). is_written plan k ≡ true) made both.own) in
        let above = filter_has (is_written plan) r.slots (parent_of r.call).ino new.above both.above in
        let ne : (parent_of r.call).ino ≢ n = λ same. true≢false (sym (same_number _ n same) ∙ new.apart) in
        record {
          own = own;
          several = lt-ltb 1 (length (filter (is_written plan) r.slots)) (two_of _ (parent_of r.call).ino n ne above own);
        },
    plan_leaves block (copies s) (taken_by block s h r) r.call,
  ) where
    same_number : (k n : ℕ) → k ≡ n → (k == n) ≡ true
    same_number k n e = rw e (self n)

  -- ---- along a commit

  -- cells with inodes where they were
  pub set_inodes : (slot : ℕ) (cell : CellState) → slot < length s.cells
      → (h.ino ≡ Some slot) ⊎ (has_inode (cell_at s slot) ≡ true → has_inode cell ≡ true)
      → HaveInodes s h.ino r.slots → HaveInodes (with_cell slot cell s) h.ino r.slots
  set_inodes slot cell inside own all ino there = elim (all ino there) [
    | inl is ↦ inl is
    | inr inode ↦ cell_set s slot cell ino (λ (c : CellState). (h.ino ≡ Some ino) ⊎ (has_inode c ≡ true)) inside
        (λ same. elim own [
          | inl is ↦ inl (is ∙ ap (λ (k : ℕ). Some k) same)
          | inr keeps ↦ inr (keeps (subst (λ (k : ℕ). has_inode (cell_at s k) ≡ true) (sym same) inode))
        ])
        (λ ne. inr inode)
  ]
