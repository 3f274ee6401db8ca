-- The home ranges cut the block numbers.
use Rattle.std.proofs.Common.{ℕ, ◌+◌, ◌-◌, ◌*◌, ◌/◌, ◌<◌, ◌≤◌, arith}
use Rattle.std.proofs.Math.Nat.{mul-div_cancel_left, div-mul-le_self, lt-div-mul-add, mul-le-mul_right, add-mul, one-mul}
use Rattle.std.proofs.lemmas.Nat.{div_below, le-div}
use Rattle.nv_base.specs.Homes.{home_start, IsHome, CutsBlocks}

-- later CPUs start no earlier
home_start-mono : (blocks cpus c d : ℕ) → 0 < cpus → c ≤ d → home_start blocks cpus c ≤ home_start blocks cpus d
home_start-mono blocks cpus c d p h =
    let least : c * blocks / cpus * cpus ≤ c * blocks = div-mul-le_self (c * blocks) cpus in
    let more : c * blocks ≤ d * blocks = mul-le-mul_right blocks h in
    le-div (c * blocks / cpus) (d * blocks) cpus p (omega arith)

-- which range a number is in, by products
home_by_products : (blocks cpus number cpu : ℕ) → 0 < cpus → cpu * blocks < (number + 1) * cpus → (number + 1) * cpus ≤ (cpu + 1) * blocks
    → IsHome blocks cpus cpu number
home_by_products blocks cpus number cpu p low high = record {
  from = let k : home_start blocks cpus cpu < number + 1 = div_below (cpu * blocks) cpus (number + 1) p low in omega arith;
  below = let k : number + 1 ≤ home_start blocks cpus (cpu + 1) = le-div (number + 1) ((cpu + 1) * blocks) cpus p high in omega arith;
}

-- the home of a number, by one division
home : ℕ → ℕ → ℕ → ℕ
home blocks cpus number = ((number + 1) * cpus - 1) / blocks

is_home : (blocks cpus number : ℕ) → 0 < cpus → number < blocks → IsHome blocks cpus (home blocks cpus number) number
unfolding home
is_home blocks cpus number p h =
    let x = (number + 1) * cpus in
    let q = (x - 1) / blocks in
    let low : q * blocks ≤ x - 1 = div-mul-le_self (x - 1) blocks in
    let high : x - 1 < q * blocks + blocks = lt-div-mul-add (omega arith) in
    let some : 1 * cpus ≤ x = mul-le-mul_right cpus (omega arith) in
    home_by_products blocks cpus number q p (omega (arith, one-mul cpus)) (omega (arith, add-mul q 1 blocks, one-mul blocks, one-mul cpus))

home_below : (blocks cpus number : ℕ) → 0 < cpus → number < blocks → home blocks cpus number < cpus
unfolding home
home_below blocks cpus number p h =
    let k : (number + 1) * cpus ≤ blocks * cpus = mul-le-mul_right cpus (omega arith) in
    let some : 1 * cpus ≤ (number + 1) * cpus = mul-le-mul_right cpus (omega arith) in
    div_below ((number + 1) * cpus - 1) blocks cpus (omega arith) (omega (arith, one-mul cpus))

-- two homes of a number are one
one_home : (blocks cpus number c d : ℕ) → 0 < cpus → IsHome blocks cpus c number → IsHome blocks cpus d number → (c < d → ⊥) × (d < c → ⊥)
one_home blocks cpus number c d p x y = (
  (λ lt. let k = home_start-mono blocks cpus (c + 1) d p (omega arith) in omega (arith, k, x.below, y.from)),
  (λ lt. let k = home_start-mono blocks cpus (d + 1) c p (omega arith) in omega (arith, k, y.below, x.from)),
)

pub cuts : (blocks cpus : ℕ) → 0 < cpus → CutsBlocks blocks cpus
cuts blocks cpus p = record {
  first = let k : 0 * blocks / cpus < 1 = div_below (0 * blocks) cpus 1 p (omega arith) in omega arith;
  in_order = λ cpu. home_start-mono blocks cpus cpu (cpu + 1) p (omega arith);
  last = mul-div_cancel_left blocks p;
  once = λ number h. record {
    home = home blocks cpus number;
    is_cpu = home_below blocks cpus number p h;
    is_home = is_home blocks cpus number p h;
    only = λ cpu lt x. let k = one_home blocks cpus number cpu (home blocks cpus number) p x (is_home blocks cpus number p h) in
        let a = k.0 in let b = k.1 in omega (arith, a, b);
  };
}
