-- How a call fails: by which fault, and what it leaves.
-- The clauses of a call that may fail are `ok` (what an answer means), `err` (which fault comes,
-- and when) and `same` (what a refusal leaves as it was).
use Rattle.std.specs.Prelude.{◌≡◌, ◌⊎◌, Result, Ok, Err, IfErr, IsOkUnless, OnErr}
use Rattle.nv_base.specs.declared.fault.Fault.{Fault}
use Rattle.nv_base.specs.Memory.{out_of_memory}

-- it was refused by this fault
abbrev pub IsRefusedBy : {T : Type 0} → Result T Fault → Fault → Type 0
IsRefusedBy result fault = result ≡ Err fault

-- it fails by this fault alone
abbrev pub FailsOnly : {T : Type 0} → Fault → Result T Fault → Type 0
FailsOnly fault result = IsOkUnless result fault

-- it fails by one of two faults
abbrev pub FailsEither : {T : Type 0} → Fault → Fault → Result T Fault → Type 0
FailsEither one other result = IfErr result (λ fault. (fault ≡ one) ⊎ (fault ≡ other))

-- it fails by this fault alone, and only where P
abbrev pub FailsOnlyWhere : {T : Type 0} → Fault → Type 0 → Result T Fault → Type 0
FailsOnlyWhere why P result = IfErr result (λ fault. (fault ≡ why) × P)

-- it fails as a check says, or, where the check passes, for want of memory
abbrev pub FailsAsChecked : {T : Type 0} → Result (Unit {0}) Fault → Result T Fault → Type 0
FailsAsChecked check result = IfErr result (λ fault. (check ≡ Err fault) ⊎ ((check ≡ Ok tt) × (fault ≡ out_of_memory)))

-- a refusal leaves a value as it was
abbrev pub KeepsOnErr : {T E S : Type 0} → Result T E → S → S → Type 0
KeepsOnErr result old new = OnErr result (new ≡ old)
