-- Parts of worlds that are told as JSON.
use Rattle.std.proofs.Common.{◌≡◌, ◌∙◌, ℕ, ◌+◌, ◌<◌, ◌++◌, List, [], ◌∷◌, ◌⊎◌, inl, inr, Option, Some, None, drop, length, map, take, ap, append-nil, append_assoc, arith, length-take, sym}
use Rattle.std.specs.Prelude.{codes, decimal, IsSomeAnd, MatchOption}
use Rattle.std.proofs.lemmas.List.{drop_more, get_or-take}
use Rattle.std.proofs.lemmas.List.Concat.{flat_map-cons}
use Rattle.nv_calls.specs.Commit.{CommitValue}
use Rattle.nv_calls.specs.Ready.{CellCommitValue, no_plan, plan_at}
use Rattle.nv_cell.specs.declared.killed.KilledPart.{KilledPart}
use Rattle.nv_core.specs.NextSteps.{name_in}
use Rattle.nv_core.specs.declared.next_step.StepName.{StepName}
use Rattle.nv_core.specs.declared.next_step.StepName.TheVariants as step
use Rattle.nv_machine.specs.World.{Shared, cell_at, list_at, owner_at}
use Rattle.nv_script.specs.Json.{book_object, cell_object, list_object, lock_object, values_from}
use Rattle.nv_script.specs.JsonWorld.{all_killed, lent_members}
use Rattle.nv_trace.specs.Traced.{lent_named}

-- the killed parts of these plans
abbrev pub killed_of : List CellCommitValue → List KilledPart
killed_of plans = all_killed (map (λ (p : CellCommitValue). p.killed) plans)

-- those of one plan more
pub killed_more : (commit : CommitValue) (j : ℕ) → j < commit.published → j < length commit.plans
    → killed_of (drop j (take commit.published commit.plans))
    ≡ (plan_at commit.plans j).killed ++ killed_of (drop (j + 1) (take commit.published commit.plans))
killed_more commit j under lt =
    let first = take commit.published commit.plans in
    let there : j < length first = omega (arith, under, lt, length-take commit.published commit.plans) in
    ap killed_of
    (drop_more first j no_plan there
    ∙ ap (λ (p : CellCommitValue). p ∷ drop (j + 1) first) (get_or-take commit.published commit.plans j no_plan under))
    ∙ flat_map-cons (λ (parts : List KilledPart). parts) (plan_at commit.plans j).killed
    (map (λ (p : CellCommitValue). p.killed) (drop (j + 1) first))

-- an inode's number is what it was made of
pub same_number : (given told : Option ℕ) → MatchOption given (told ≡ None) (λ x. IsSomeAnd told (λ n. n ≡ x)) → told ≡ given
same_number None told is = is
same_number (Some x) None is = absurd is
same_number (Some x) (Some n) is = ap (λ (k : ℕ). Some k) is

-- ---- the members of the parts that a step is lent

-- the members, and their text
abbrev pub lent_by : StepName → Shared → List (List ℕ)
lent_by name s = lent_members (lent_named (name_in name)) s

abbrev pub members_text : List (List ℕ) → List ℕ
members_text members = values_from (λ place member. member) 0 members

-- nothing is lent
pub none_lent : (out : List ℕ) (members : List (List ℕ)) → members ≡ [] → out ≡ out ++ members_text members
none_lent out members is =
    sym (append-nil out) ∙ ap (λ (ms : List (List ℕ)). out ++ members_text ms) (sym is)

-- one part is
pub one_lent : (out whole member : List ℕ) (members : List (List ℕ)) → members ≡ member ∷ [] → whole ≡ out ++ member
    → whole ≡ out ++ members_text members
one_lent out whole member members is pushed =
    pushed ∙ ap (λ (bytes : List ℕ). out ++ bytes) (sym (append-nil member))
    ∙ ap (λ (ms : List (List ℕ)). out ++ members_text ms) (sym is)

-- two are
pub two_lent : (out whole first second : List ℕ) (members : List (List ℕ)) → members ≡ first ∷ second ∷ []
    → whole ≡ out ++ (first ++ codes "," ++ second) → whole ≡ out ++ members_text members
two_lent out whole first second members is pushed =
    pushed ∙ ap (λ (bytes : List ℕ). out ++ bytes) (append_assoc first (codes ",") second)
    ∙ ap (λ (bytes : List ℕ). out ++ (first ++ (codes "," ++ bytes))) (sym (append-nil second))
    ∙ ap (λ (ms : List (List ℕ)). out ++ members_text ms) (sym is)

-- what each of these is lent

-- nothing
pub nothing_lent_by : (name : StepName) (s : Shared)
    → ((x : ℕ) × (name ≡ step.Look x)) ⊎ ((name ≡ step.Check) ⊎ ((name ≡ step.Ready)
    ⊎ (((x : ℕ) × (name ≡ step.Visit x)) ⊎ (((x : ℕ) × (name ≡ step.Show x)) ⊎ (name ≡ step.PlanCleaning)))))
    → lent_by name s ≡ []
nothing_lent_by name s (inl is) = ap (λ (n : StepName). lent_by n s) is.1
nothing_lent_by name s (inr (inl is)) = ap (λ (n : StepName). lent_by n s) is
nothing_lent_by name s (inr (inr (inl is))) = ap (λ (n : StepName). lent_by n s) is
nothing_lent_by name s (inr (inr (inr (inl is)))) = ap (λ (n : StepName). lent_by n s) is.1
nothing_lent_by name s (inr (inr (inr (inr (inl is))))) = ap (λ (n : StepName). lent_by n s) is.1
nothing_lent_by name s (inr (inr (inr (inr (inr is))))) = ap (λ (n : StepName). lent_by n s) is

-- a free list
pub lists_lent : (name : StepName) (x : ℕ) (s : Shared)
    → (name ≡ step.TakeBlocks x) ⊎ ((name ≡ step.TakeLogPages x) ⊎ ((name ≡ step.Give x) ⊎ (name ≡ step.Fresh x)))
    → lent_by name s ≡ (codes "\"list\":" ++ list_object x (list_at s x)) ∷ []
lists_lent name x s (inl is) = ap (λ (n : StepName). lent_by n s) is
lists_lent name x s (inr (inl is)) = ap (λ (n : StepName). lent_by n s) is
lists_lent name x s (inr (inr (inl is))) = ap (λ (n : StepName). lent_by n s) is
lists_lent name x s (inr (inr (inr is))) = ap (λ (n : StepName). lent_by n s) is

-- the pool
pub pool_lent : (name : StepName) (s : Shared)
    → (name ≡ step.Number) ⊎ (name ≡ step.ReturnNumber)
    → lent_by name s ≡ (codes "\"pool\":" ++ decimal (length s.pool.numbers)) ∷ []
pool_lent name s (inl is) = ap (λ (n : StepName). lent_by n s) is
pool_lent name s (inr is) = ap (λ (n : StepName). lent_by n s) is

-- a cell
pub cell_lent : (name : StepName) (x : ℕ) (s : Shared)
    → (name ≡ step.Append x) ⊎ ((name ≡ step.Publish x) ⊎ ((name ≡ step.Release x) ⊎ ((name ≡ step.Unlink x)
    ⊎ (name ≡ step.Compact x))))
    → lent_by name s ≡ (codes "\"cell\":" ++ cell_object x (cell_at s x)) ∷ []
cell_lent name x s (inl is) = ap (λ (n : StepName). lent_by n s) is
cell_lent name x s (inr (inl is)) = ap (λ (n : StepName). lent_by n s) is
cell_lent name x s (inr (inr (inl is))) = ap (λ (n : StepName). lent_by n s) is
cell_lent name x s (inr (inr (inr (inl is)))) = ap (λ (n : StepName). lent_by n s) is
cell_lent name x s (inr (inr (inr (inr is)))) = ap (λ (n : StepName). lent_by n s) is

-- a lock
pub lock_lent : (name : StepName) (x : ℕ) (s : Shared)
    → (name ≡ step.Lock x) ⊎ ((name ≡ step.Unlock x) ⊎ ((name ≡ step.LockPicked x) ⊎ (name ≡ step.LockCleaned x)))
    → lent_by name s ≡ (codes "\"lock\":" ++ lock_object x (owner_at s x)) ∷ []
lock_lent name x s (inl is) = ap (λ (n : StepName). lent_by n s) is
lock_lent name x s (inr (inl is)) = ap (λ (n : StepName). lent_by n s) is
lock_lent name x s (inr (inr (inl is))) = ap (λ (n : StepName). lent_by n s) is
lock_lent name x s (inr (inr (inr is))) = ap (λ (n : StepName). lent_by n s) is

-- the book
pub book_lent : (name : StepName) (s : Shared)
    → ((x : ℕ) × (name ≡ step.Open x)) ⊎ (((x : ℕ) × (name ≡ step.Close x)) ⊎ ((name ≡ step.Make) ⊎ ((name ≡ step.Drop)
    ⊎ ((name ≡ step.Pin) ⊎ ((name ≡ step.Unpin) ⊎ (name ≡ step.Pick))))))
    → lent_by name s ≡ (codes "\"book\":" ++ book_object s.book) ∷ []
book_lent name s (inl is) = ap (λ (n : StepName). lent_by n s) is.1
book_lent name s (inr (inl is)) = ap (λ (n : StepName). lent_by n s) is.1
book_lent name s (inr (inr (inl is))) = ap (λ (n : StepName). lent_by n s) is
book_lent name s (inr (inr (inr (inl is)))) = ap (λ (n : StepName). lent_by n s) is
book_lent name s (inr (inr (inr (inr (inl is))))) = ap (λ (n : StepName). lent_by n s) is
book_lent name s (inr (inr (inr (inr (inr (inl is)))))) = ap (λ (n : StepName). lent_by n s) is
book_lent name s (inr (inr (inr (inr (inr (inr is)))))) = ap (λ (n : StepName). lent_by n s) is
