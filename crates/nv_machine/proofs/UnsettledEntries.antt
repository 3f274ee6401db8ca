-- What the step that comes next tells of entries that are appended and not yet settled.
use Rattle.std.proofs.Common.{Bool, List, Some, [], ap, arith, drop, false, if◌then◌else◌, length, nat_lt, refl, sym, take, true, ℕ, ◌++◌, ◌∙◌, ◌∷◌, ◌≡◌, ◌≤◌}
use Rattle.std.proofs.lemmas.Bool.{false≢true, ltb-false, ltb-true}
use Rattle.nv_alloc.specs.Numbers.{has}
use Rattle.nv_machine.specs.Grown.{HasGrown, fresh_entries, is_appended, is_behind}
use Rattle.nv_machine.specs.Reads.{written_slots}
use Rattle.nv_machine.specs.Sequence.{appending, closing, opening, publishing, retiring}
use Rattle.nv_machine.specs.Settled.{settled}
use Rattle.nv_machine.specs.World.{Append, Close, Leave, Next, Open, Publish, Retire, Running, Shared, cell_at, go_to, owner_at}
use Rattle.nv_machine.proofs.LoopSteps.{by_test, either}
use Rattle.nv_machine.proofs.Lists.{drop_all, take_all}

-- what a call has past its settled logs, by tests of slots
pub record GrownBy (s : Shared) (a : ℕ) (r : Running) (appended behind : ℕ → Bool) : Type 0 where
  pub entries : (ino : ℕ) → owner_at s ino ≡ Some a → (cell_at s ino).chain.entries ≡ settled s ino ++ fresh_entries (appended ino) r ino
  pub tails : (ino : ℕ) → owner_at s ino ≡ Some a → behind ino ≡ false → (cell_at s ino).chain.tail ≡ length (cell_at s ino).chain.entries

-- the tests of a step are these
pub record AreTests (k : Next) (written : List ℕ) (appends lags : ℕ → Bool) : Type 0 where
  pub appended : (ino : ℕ) → is_appended k written ino ≡ appends ino
  pub behind : (ino : ℕ) → is_behind k written ino ≡ lags ino

pub as_next : (k : Next) (s : Shared) (a : ℕ) (r : Running) (appended behind : ℕ → Bool) → AreTests k (written_slots r) appended behind
    → GrownBy s a r appended behind → HasGrown k s a (go_to k r)
as_next k s a r appended behind tests h = record {
  entries = λ ino own. h.entries ino own ∙ ap (λ (b : Bool). settled s ino ++ fresh_entries b r ino) (sym (tests.appended ino));
  tails = λ ino own e. h.tails ino own (sym (tests.behind ino) ∙ e);
}

none_written : (written : List ℕ) → length written ≤ 0 → written ≡ []
none_written [] le = refl
none_written (x ∷ written) le = absurd (omega (arith, le))

pub tests_retiring : (place : ℕ) (written : List ℕ) → AreTests (retiring place written) written (λ ino. false) (λ ino. false)
tests_retiring place written =
    either (λ (k : Next). AreTests k written (λ ino. false) (λ ino. false)) (nat_lt place (length written)) (Retire place) Leave
    (record { appended = λ ino. refl; behind = λ ino. refl }) (record { appended = λ ino. refl; behind = λ ino. refl })

-- a commit of one inode has no close
pub tests_single : (written : List ℕ) → nat_lt 1 (length written) ≡ false → AreTests (closing written) written (λ ino. false) (λ ino. false)
tests_single written one =
    by_test (λ (k : Next). AreTests k written (λ ino. false) (λ ino. false)) (nat_lt 1 (length written)) Close (retiring 0 written)
    (λ several. absurd (false≢true (sym one ∙ several))) (λ few. tests_retiring 0 written)

pub tests_several : (place : ℕ) (written : List ℕ) → nat_lt 1 (length written) ≡ true
    → AreTests (publishing place written) written (has written) (has (drop place written))
tests_several place written several =
    by_test (λ (k : Next). AreTests k written (has written) (has (drop place written))) (nat_lt place (length written)) (Publish place) (closing written)
    (λ e. record { appended = λ ino. refl; behind = λ ino. refl })
    (λ e. let none = drop_all place written (ltb-false place (length written) e) in
    by_test (λ (k : Next). AreTests k written (has written) (has (drop place written))) (nat_lt 1 (length written)) Close (retiring 0 written)
    (λ more. record { appended = λ ino. refl; behind = λ ino. sym (ap (λ (l : List ℕ). has l ino) none) })
    (λ one. absurd (false≢true (sym one ∙ several))))

tests_opening : (written : List ℕ) → AreTests (opening written) written (has written) (has written)
tests_opening written = go (nat_lt 1 (length written)) refl where
  empty : (b : Bool) → nat_lt 1 (length written) ≡ b → written ≡ []
      → AreTests (if b then Close else retiring 0 written) written (has written) (has written)
  empty true e none = absurd (omega (arith, ltb-true 1 (length written) e, ap (λ (l : List ℕ). length l) none))
  empty false e none =
      let t = tests_retiring 0 written in
      record {
        appended = λ ino. t.appended ino ∙ sym (ap (λ (l : List ℕ). has l ino) none);
        behind = λ ino. t.behind ino
            ∙ sym (ap (λ (l : List ℕ). has l ino) none);
      }

  one : (b : Bool) → nat_lt 0 (length written) ≡ b → AreTests (if b then Publish 0 else closing written) written (has written) (has written)
  one true e = record { appended = λ ino. refl; behind = λ ino. refl }
  one false e = empty (nat_lt 1 (length written)) refl (none_written written (ltb-false 0 (length written) e))

  go : (b : Bool) → nat_lt 1 (length written) ≡ b → AreTests (if b then Open else publishing 0 written) written (has written) (has written)
  go true e = record { appended = λ ino. refl; behind = λ ino. refl }
  go false e = one (nat_lt 0 (length written)) refl

pub tests_appending : (place : ℕ) (written : List ℕ)
    → AreTests (appending place written) written (has (take place written)) (has (take place written))
tests_appending place written = go (nat_lt place (length written)) refl where
  go : (b : Bool) → nat_lt place (length written) ≡ b
      → AreTests (if b then Append place else opening written) written (has (take place written)) (has (take place written))
  go true e = record { appended = λ ino. refl; behind = λ ino. refl }
  go false e =
      let whole = take_all place written (ltb-false place (length written) e) in
      let t = tests_opening written in
      record {
        appended = λ ino. t.appended ino ∙ sym (ap (λ (l : List ℕ). has l ino) whole);
        behind = λ ino. t.behind ino ∙ sym (ap (λ (l : List ℕ). has l ino) whole);
      }
