-- How rounded shares and stakes lie about the exact ones, which are fractions n / m of a reward and p / q of a stake; u is
-- the number of units in one.
use Rattle.std.proofs.Common.{ℕ, ◌+◌, ◌*◌, ◌<◌, ◌≤◌, arith, mul-le-mul_right}

-- a share that is rounded down joins a sum below a reward
pub low_joined : (low t f lower n m p q k u : ℕ) → low * m ≤ n * u → lower * q ≤ p * u → t * (k * u) ≤ f * lower
    → (low + t) * (m * (u * q * k)) ≤ (n * (u * q * k) + f * p * m) * u
low_joined low t f lower n m p q k u sum stake share =
    let e1 : low * m * (u * q * k) ≤ n * u * (u * q * k) = mul-le-mul_right (u * q * k) sum in
    let e2 : t * (k * u) * (q * m) ≤ f * lower * (q * m) = mul-le-mul_right (q * m) share in
    let e3 : lower * q * (f * m) ≤ p * u * (f * m) = mul-le-mul_right (f * m) stake in
    omega arith

-- one that is rounded up joins a sum above it
pub high_joined : (high t f upper n m p q k u : ℕ) → n * u ≤ high * m → p * u ≤ upper * q → f * upper ≤ t * (k * u)
    → (n * (u * q * k) + f * p * m) * u ≤ (high + t) * (m * (u * q * k))
high_joined high t f upper n m p q k u sum stake share =
    let e1 : n * u * (u * q * k) ≤ high * m * (u * q * k) = mul-le-mul_right (u * q * k) sum in
    let e2 : f * upper * (q * m) ≤ t * (k * u) * (q * m) = mul-le-mul_right (q * m) share in
    let e3 : p * u * (f * m) ≤ upper * q * (f * m) = mul-le-mul_right (f * m) stake in
    omega arith

-- a slash that leaves `left` of k tokens
pub low_left : (t lower p q left k u : ℕ) → lower * q ≤ p * u → t * k ≤ lower * left → t * (q * k) ≤ p * left * u
low_left t lower p q left k u stake part =
    let e1 : t * k * q ≤ lower * left * q = mul-le-mul_right q part in
    let e2 : lower * q * left ≤ p * u * left = mul-le-mul_right left stake in
    omega arith

pub high_left : (t upper p q left k u : ℕ) → p * u ≤ upper * q → upper * left ≤ t * k → p * left * u ≤ t * (q * k)
high_left t upper p q left k u stake part =
    let e1 : upper * left * q ≤ t * k * q = mul-le-mul_right q part in
    let e2 : p * u * left ≤ upper * q * left = mul-le-mul_right left stake in
    omega arith

-- factors above 0
pub both_positive : (a b : ℕ) → 0 < a → 0 < b → 0 < a * b
both_positive a b p q = let e : 1 * b ≤ a * b = mul-le-mul_right b p in omega arith
