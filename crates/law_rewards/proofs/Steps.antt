-- Inequalities over plain numbers: one for each field and entry. u is the number of units in one.
-- a / x is the ideal stake at the start; den is the common denominator; kept / den is what slashes leave of 1.
use Rattle.std.proofs.Common.{◌≡◌, ℕ, ◌+◌, ◌-◌, ◌*◌, ◌<◌, ◌≤◌, arith, mul-le-mul, mul-le-mul_left, mul-le-mul_right, le_of_mul-le-mul_right, ap}

-- ---- the end of a stretch: h / den = (r / den) (y / den), and fl is the cut of rise st / u

pub close_high : (u a x den y h r rise st fl : ℕ) → 0 < den → h * den ≡ r * y → rise * den ≤ r → st * x * den ≤ a * y → fl * u ≤ rise * st → u * fl * x * den ≤ a * h
close_high u a x den y h r rise st fl pos e hi sh cut =
    let m1 : fl * u * (x * den * den) ≤ rise * st * (x * den * den) = mul-le-mul_right (x * den * den) cut in
    let m2 : (rise * den) * (st * x * den) ≤ r * (a * y) = mul-le-mul hi sh in
    let m3 : a * (h * den) ≡ a * (r * y) = ap (λ n. a * n) e in
    let m4 : (u * fl * x * den) * den ≤ (a * h) * den = omega arith in
    le_of_mul-le-mul_right m4 pos

pub close_low : (u a x den y h r rise p st fl g : ℕ) → 0 < den → h * den ≡ r * y → y ≤ den → rise * den ≤ r → r ≤ (rise + p) * den
    → u * a * y ≤ u * st * x * den + g * den → rise * st < fl * u + u
    → u * a * h ≤ u * u * fl * x * den + u * u * x * den + u * a * p * den + g * r
close_low u a x den y h r rise p st fl g pos e small hi lo sl cut =
    let m0 : u * a * (h * den) ≡ u * a * (r * y) = ap (λ n. u * a * n) e in
    let m1 : r * (u * a * y) ≤ (rise + p) * den * (u * a * y) = mul-le-mul_right (u * a * y) lo in
    let m2 : (u * a * y) * (rise * den) ≤ (u * st * x * den + g * den) * (rise * den) = mul-le-mul_right (rise * den) sl in
    let m3 : y * (u * a * p * den) ≤ den * (u * a * p * den) = mul-le-mul_right (u * a * p * den) small in
    let m4 : rise * st * (u * x * den * den) ≤ (fl * u + u) * (u * x * den * den) = mul-le-mul_right (u * x * den * den) (omega arith) in
    let m5 : (rise * den) * (g * den) ≤ r * (g * den) = mul-le-mul_right (g * den) hi in
    let m6 : (u * a * h) * den ≤ (u * u * fl * x * den + u * u * x * den + u * a * p * den + g * r) * den = omega arith in
    le_of_mul-le-mul_right m6 pos

-- ---- a slash: t of T tokens stay, and g = u - fraction of u units of stake

pub slash_high : (u a x den y st st' g t T : ℕ) → 0 < u → g * T ≤ u * t → st' * u ≤ st * g → st * x * den ≤ a * y → st' * x * (den * T) ≤ a * (y * t)
slash_high u a x den y st st' g t T pos f cut sh =
    let m1 : st' * u * (x * den * T) ≤ st * g * (x * den * T) = mul-le-mul_right (x * den * T) cut in
    let m2 : (st * x * den) * (g * T) ≤ (a * y) * (u * t) = mul-le-mul sh f in
    let m3 : (st' * x * (den * T)) * u ≤ (a * (y * t)) * u = omega arith in
    le_of_mul-le-mul_right m3 pos

pub slash_low : (u a x den y st st' g t T j : ℕ) → t ≤ T → y ≤ den → u * t ≤ g * T + T → st * g < st' * u + u → st * x * den ≤ a * y
    → u * a * y ≤ u * st * x * den + j * (u * x + a) * den
    → u * a * (y * t) ≤ u * st' * x * (den * T) + (j + 1) * (u * x + a) * (den * T)
slash_low u a x den y st st' g t T j less small f cut sh sl =
    let m1 : (u * a * y) * t ≤ (u * st * x * den + j * (u * x + a) * den) * t = mul-le-mul_right t sl in
    let m2 : (u * t) * (st * x * den) ≤ (g * T + T) * (st * x * den) = mul-le-mul_right (st * x * den) f in
    let m3 : st * g * (T * x * den) ≤ (st' * u + u) * (T * x * den) = mul-le-mul_right (T * x * den) (omega arith) in
    let m4 : (st * x * den) * T ≤ (a * y) * T = mul-le-mul_right T sh in
    let m5 : y * (a * T) ≤ den * (a * T) = mul-le-mul_right (a * T) small in
    let m6 : t * (j * (u * x + a) * den) ≤ T * (j * (u * x + a) * den) = mul-le-mul_right (j * (u * x + a) * den) less in
    omega arith

-- the value of the shares after a slash, with k units lost to shares that left
pub slash_value : (u a x den y s k n t T : ℕ) → t ≤ T → a * y * n ≤ (s * T * u + k * n) * (x * den) → a * (y * t) * n ≤ (s * t * u + k * n) * (x * (den * T))
slash_value u a x den y s k n t T less v =
    let m1 : (a * y * n) * t ≤ ((s * T * u + k * n) * (x * den)) * t = mul-le-mul_right t v in
    let m2 : t * (k * n * x * den) ≤ T * (k * n * x * den) = mul-le-mul_right (k * n * x * den) less in
    omega arith

-- ---- the end of a period: i is the cut of current / T

pub end_high : (den r rise pend cur T i : ℕ) → 0 < T → rise * den + pend ≤ r → pend * T ≡ cur * den → i * T ≤ cur → (rise + i) * den ≤ r
end_high den r rise pend cur T i pos hi e cut =
    let m1 : i * T * den ≤ cur * den = mul-le-mul_right den cut in
    let m2 : (i * den) * T ≤ pend * T = omega arith in
    let m3 : i * den ≤ pend = le_of_mul-le-mul_right m2 pos in
    omega arith

pub end_low : (den r rise p pend cur T i : ℕ) → 0 < T → r ≤ (rise + p) * den + pend → pend * T ≡ cur * den → cur < i * T + T → r ≤ (rise + i + (p + 1)) * den
end_low den r rise p pend cur T i pos lo e cut =
    let m1 : cur * den ≤ (i * T + T) * den = mul-le-mul_right den (omega arith) in
    let m2 : pend * T ≤ ((i + 1) * den) * T = omega arith in
    let m3 : pend ≤ (i + 1) * den = le_of_mul-le-mul_right m2 pos in
    omega arith

-- ---- shares issued and shares that leave: from T, n to T', n'

pub issue_value : (u a x den y s k n n' T T' : ℕ) → 0 < n → T * n' ≤ T' * n → a * y * n ≤ (s * T * u + k * n) * (x * den) → a * y * n' ≤ (s * T' * u + k * n') * (x * den)
issue_value u a x den y s k n n' T T' pos f v =
    let m1 : (a * y * n) * n' ≤ ((s * T * u + k * n) * (x * den)) * n' = mul-le-mul_right n' v in
    let m2 : (T * n') * (s * u * x * den) ≤ (T' * n) * (s * u * x * den) = mul-le-mul_right (s * u * x * den) f in
    let m3 : (a * y * n') * n ≤ ((s * T' * u + k * n') * (x * den)) * n = omega arith in
    le_of_mul-le-mul_right m3 pos

-- u T n' <= u T' n + n says that a part's value falls by at most a unit
pub leave_value : (u a x den y s k n n' T T' : ℕ) → 0 < n → s ≤ n' → u * T * n' ≤ u * T' * n + n → a * y * n ≤ (s * T * u + k * n) * (x * den) → a * y * n' ≤ (s * T' * u + (k + 1) * n') * (x * den)
leave_value u a x den y s k n n' T T' pos mine f v =
    let m1 : (a * y * n) * n' ≤ ((s * T * u + k * n) * (x * den)) * n' = mul-le-mul_right n' v in
    let m2 : (u * T * n') * (s * x * den) ≤ (u * T' * n + n) * (s * x * den) = mul-le-mul_right (s * x * den) f in
    let m4 : s * (n * x * den) ≤ n' * (n * x * den) = mul-le-mul_right (n * x * den) mine in
    let m3 : (a * y * n') * n ≤ ((s * T' * u + (k + 1) * n') * (x * den)) * n = omega arith in
    le_of_mul-le-mul_right m3 pos

-- what goes out is at most the value of the part
pub leave_fall : (u n n' part T T' out v : ℕ) → n' + part ≡ n → T ≤ T' + out → out * u ≤ v → 2 * (v * n) ≤ 2 * (part * T * u) + n → u * T * n' ≤ u * T' * n + n
leave_fall u n n' part T T' out v e f cut val =
    let m1 : out * u * n ≤ v * n = mul-le-mul_right n cut in
    let m2 : T * (u * n) ≤ (T' + out) * (u * n) = mul-le-mul_right (u * n) f in
    let m3 : (u * T) * (n' + part) ≡ (u * T) * n = ap (λ q. (u * T) * q) e in
    omega arith

-- the same, with what the rounding of the value leaves of it: half a unit
pub leave_half : (u n n' part T T' out v : ℕ) → n' + part ≡ n → T ≤ T' + out → out * u ≤ v → 2 * (v * n) ≤ 2 * (part * T * u) + n → 2 * (u * T * n') ≤ 2 * (u * T' * n) + n
leave_half u n n' part T T' out v e f cut val =
    let m1 : out * u * n ≤ v * n = mul-le-mul_right n cut in
    let m2 : T * (u * n) ≤ (T' + out) * (u * n) = mul-le-mul_right (u * n) f in
    let m3 : (u * T) * (n' + part) ≡ (u * T) * n = ap (λ q. (u * T) * q) e in
    omega arith

-- ---- the clamp: v is the value of the shares, rounded

pub clamp_gap : (u a x den y s k n T v : ℕ) → 0 < n → s * T * u ≤ v * n + n → a * y * n ≤ (s * T * u + k * n) * (x * den) → u * a * y ≤ u * v * x * den + (k + 1) * u * x * den
clamp_gap u a x den y s k n T v pos f val =
    let m1 : (s * T * u) * (x * den) ≤ (v * n + n) * (x * den) = mul-le-mul_right (x * den) f in
    let m2 : (a * y) * n ≤ (v * x * den + (k + 1) * x * den) * n = omega arith in
    let m3 : a * y ≤ v * x * den + (k + 1) * x * den = le_of_mul-le-mul_right m2 pos in
    let m4 : u * (a * y) ≤ u * (v * x * den + (k + 1) * x * den) = mul-le-mul_left u m3 in
    omega arith

-- ---- the start: st is the cut of a / x

pub start_low : (u a x st : ℕ) → a < st * x + x → u * a ≤ u * st * x + (u * x + a)
start_low u a x st h =
    let m : u * a ≤ u * (st * x + x) = mul-le-mul_left u (omega arith) in
    omega arith

-- what the recorded fraction f says of the units that stay
pub fraction_gap : (u f T b : ℕ) → f ≤ u → b ≤ T → b * u ≤ f * T → f * T < b * u + T → ((u - f) * T ≤ u * (T - b)) × (u * (T - b) ≤ (u - f) * T + T)
fraction_gap u f T b hf hb low high =
    let e1 : (u - f + f) * T ≡ u * T = ap (λ n. n * T) (omega arith) in
    let e2 : u * (T - b + b) ≡ u * T = ap (λ n. u * n) (omega arith) in
    (omega arith, omega arith)
