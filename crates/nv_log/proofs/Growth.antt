-- The pages that a log takes make room for the entries.
use Rattle.std.proofs.Common.{◌≡◌, ℕ, zero, suc, ◌+◌, ◌-◌, ◌*◌, ◌<◌, ◌≤◌, ◌==◌, Bool, true, false, cond, min, nat_le, nat_lt, inl, inr, arith, refl, ap, sym, ◌∙◌, length}
use Rattle.std.proofs.Math.Nat.{mul-le-mul_left, one-le-mul}
use Rattle.std.proofs.lemmas.Bool.{cases_lt, eqb-false, le-leb, leb-true, lt-leb, ltb-true}
use Rattle.nv_log.specs.Chain.{ChainState, growth, pages_for, pages_in, room_of}

some_growth : (pages : ℕ) → 1 ≤ growth pages
some_growth pages = go (pages == 0) refl (nat_lt pages 8) refl where
  go : (a : Bool) → (pages == 0) ≡ a → (b : Bool) → nat_lt pages 8 ≡ b → 1 ≤ cond a 1 (cond b (min pages (8 - pages)) 8)
  go true e b f = omega arith
  go false e true f = let some = eqb-false pages 0 e in let low = ltb-true pages 8 f in omega (arith, some, low)
  go false e false f = omega arith

few_pages : (pages : ℕ) → growth pages ≤ 8
few_pages pages = go (pages == 0) (nat_lt pages 8) where
  go : (a b : Bool) → cond a 1 (cond b (min pages (8 - pages)) 8) ≤ 8
  go true b = omega arith
  go false true = omega arith
  go false false = omega arith

le-mul : (n page : ℕ) → 1 ≤ page → n ≤ n * page
le-mul n page some = let times = mul-le-mul_left n some in omega (arith, times)

more_room : (pages page room : ℕ) → 1 ≤ page → room + 1 ≤ room + growth pages * page
more_room pages page room some = let one : 1 ≤ growth pages * page = one-le-mul (some_growth pages) some in omega (arith, one)

enough_in : (steps page pages room entries : ℕ) → 1 ≤ page → entries ≤ room + steps
    → entries ≤ room + pages_in steps page pages room entries * page
enough_in zero page pages room entries some le = omega (arith, le)
enough_in (suc steps) page pages room entries some le =
    go (nat_le entries room) refl
    (enough_in steps page (pages + growth pages) (room + growth pages * page) entries some (omega (
      arith,
      le,
      more_room pages page room some,
    )))
  where
    go : (b : Bool) → nat_le entries room ≡ b
        → entries ≤ room + growth pages * page + pages_in steps page (pages + growth pages) (room + growth pages * page) entries * page
        → entries ≤ room
        + cond b 0 (growth pages + pages_in steps page (pages + growth pages) (room + growth pages * page) entries) * page
    go true e rest = let le = leb-true entries room e in omega (arith, le)
    go false e rest = omega (arith, rest)

pub enough : (entries : ℕ) (chain : ChainState) → 1 ≤ chain.page → entries ≤ room_of chain + pages_for chain entries * chain.page
enough entries chain some = enough_in entries chain.page (length chain.blocks) (room_of chain) entries some (omega arith)

-- where there is room nothing is taken, and else one growth and what the log then takes
none_in : (steps page pages room entries : ℕ) → entries ≤ room → pages_in steps page pages room entries ≡ 0
none_in zero page pages room entries le = refl
none_in (suc steps) page pages room entries le = rw (le-leb entries room le) refl

pub none_more : (page pages room entries : ℕ) → entries ≤ room → pages_in entries page pages room entries ≡ 0
none_more page pages room entries le = none_in entries page pages room entries le

-- any bound on the growths that is not too low gives the same pages
same_in : (a b page pages room entries : ℕ) → 1 ≤ page → entries ≤ room + a → entries ≤ room + b
    → pages_in a page pages room entries ≡ pages_in b page pages room entries
same_in zero b page pages room entries some low high = sym (none_in b page pages room entries (omega (arith, low)))
same_in (suc a) zero page pages room entries some low high = none_in (suc a) page pages room entries (omega (arith, high))
same_in (suc a) (suc b) page pages room entries some low high =
    let more = more_room pages page room some in
    ap (λ (k : ℕ). cond (nat_le entries room) 0 (growth pages + k))
    (same_in a b page (pages + growth pages) (room + growth pages * page) entries some (omega (arith, low, more))
    (omega (arith, high, more)))

one_more : (page pages room entries : ℕ) → 1 ≤ page → room < entries → pages_in entries page pages room entries
    ≡ growth pages + pages_in entries page (pages + growth pages) (room + growth pages * page) entries
one_more page pages room zero some lt = absurd (omega (arith, lt))
one_more page pages room (suc n) some lt =
    let more = more_room pages page room some in
    rw (lt-leb (suc n) room lt) (ap (λ (k : ℕ). growth pages + k)
    (same_in n (suc n) page (pages + growth pages) (room + growth pages * page) (suc n) some (omega (arith, more)) (omega arith)))

-- what is taken after some pages, and after one growth more
pub taken_more : (page old room entries taken more whole : ℕ) → 1 ≤ page → room + taken * page < entries → more ≡ growth (old + taken)
    → whole ≡ taken + pages_in entries page (old + taken) (room + taken * page) entries
    → whole ≡ taken + more + pages_in entries page (old + (taken + more)) (room + (taken + more) * page) entries
taken_more page old room entries taken more whole some lt is sum =
    let pages : old + (taken + more) ≡ old + taken + growth (old + taken) = omega (arith, is) in
    let all : room + (taken + more) * page ≡ room + taken * page + growth (old + taken) * page =
    ap (λ (k : ℕ). room + (taken + k) * page) is ∙ omega arith in
    rw (pages, all) (omega (arith, sum, is, one_more page (old + taken) (room + taken * page) entries some lt))

-- the last growth alone makes more room than there are entries, and it is of eight pages at most
most_in : (steps page pages room entries : ℕ) → 1 ≤ page → pages_in steps page pages room entries ≤ (entries - room) + 7
most_in zero page pages room entries some = omega arith
most_in (suc steps) page pages room entries some =
    elim (cases_lt room entries) [
      | inl lt ↦
          let next = room + growth pages * page in
          let few = few_pages pages in
          let more : growth pages ≤ growth pages * page = le-mul (growth pages) page some in
          rw (lt-leb entries room lt) (elim (cases_lt next entries) [
            | inl less ↦ omega (arith, most_in steps page (pages + growth pages) next entries some, more, less)
            | inr ge ↦ omega (arith, none_in steps page (pages + growth pages) next entries ge, few, lt)
          ])
      | inr ge ↦ rw (le-leb entries room ge) (omega arith)
    ]

pub most_pages : (entries : ℕ) (chain : ChainState) → 1 ≤ chain.page → pages_for chain entries ≤ entries + 7
most_pages entries chain some = omega (arith, most_in entries chain.page (length chain.blocks) (room_of chain) entries some)
