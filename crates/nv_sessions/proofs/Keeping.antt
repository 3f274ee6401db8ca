-- A hand that is not empty keeps a block or a number.
use Rattle.std.proofs.Common.{◌≡◌, ◌<◌, ℕ, zero, suc, true, Option, Some, None, List, arith, length, refl}
use Rattle.std.specs.Prelude.{◌↔◌, IfErr, IsOk, OnErr, OnOk, Result, Ok, Err, is_some}
use Rattle.std.specs.Option.{ForSome}
use Rattle.std.proofs.lemmas.Bool.{false≢true}
use Rattle.nv_alloc.specs.Block.{BlockValue}
use Rattle.nv_base.specs.declared.fault.Fault.{Fault}
use Rattle.nv_base.specs.declared.geometry.GeometryNumbers.{GeometryNumbers}
use Rattle.nv_sessions.specs.Underway.{IsFirstHome}

-- where there is an error, what holds of it follows
pub on_err : {A : Type 0} (result : Result A Fault) (P Q : Type 0) → OnErr result P → (P → Q) → OnErr result Q
on_err (Ok done) P Q is to = tt
on_err (Err why) P Q is to = to is

-- a giving that ends well exactly where no block is left
pub some_kept : {A : Type 0} (result : Result A Fault) (n : ℕ) → (IsOk result ↔ (n ≡ 0)) → OnErr result (0 < n)
some_kept (Ok done) n ok = tt
some_kept (Err why) zero ok = absurd (false≢true (ok.1 refl))
some_kept (Err why) (suc n) ok = omega arith

-- or where no number is
pub number_kept : {A : Type 0} (result : Result A Fault) (number : Option ℕ) → (IsOk result ↔ (number ≡ None))
    → OnErr result (is_some number ≡ true)
number_kept (Ok done) number ok = tt
number_kept (Err why) None ok = absurd (false≢true (ok.1 refl))
number_kept (Err why) (Some ino) ok = refl

-- where what is left is not at home behind a CPU, there is some
pub some_left : (numbers : GeometryNumbers) (blocks : List BlockValue) (home : Option ℕ) (cpu : ℕ) → IsFirstHome numbers blocks home
    → ¬ ForSome home (λ other. cpu < other) → 0 < length blocks
some_left numbers blocks None cpu first not = absurd (not (λ other is. absurd (cc)))
some_left numbers blocks (Some home) cpu first not = first.0

-- where each error has it, one of a fault does
pub held_out : {A : Type 0} (result : Result A Fault) (one : Fault) (P : Type 0) → OnErr result P → IfErr result (λ why. why ≡ one → P)
held_out (Ok done) one P is = tt
held_out (Err why) one P is = λ same. is

-- what holds anyway holds where there is no error
pub always_ok : {A : Type 0} (result : Result A Fault) (P : Type 0) → P → OnOk result P
always_ok (Ok done) P is = is
always_ok (Err why) P is = tt
