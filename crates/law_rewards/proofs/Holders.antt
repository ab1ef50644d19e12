-- A validator with all whose rewards run, as numbers, and sums over them.
use Rattle.std.proofs.Common.{◌≡◌, ℕ, zero, suc, ◌+◌, ◌-◌, ◌*◌, ◌<◌, ◌≤◌, List, [], ◌∷◌, map, refl, arith, ap, mul-le-mul_left, inl, inr, Some, slice_get, insert, remove}
use Rattle.std.proofs.lemmas.Bool.{cases_lt}
use Rattle.rule_modules.specs.Periods.{slashed_stake}
use Rattle.law_rewards.proofs.Rounding.{one}

pub record Holder : Type 0 where
  pub mine : ℕ  -- shares
  pub stake : ℕ  -- the running stake
  pub rise : ℕ  -- the ratio now less that at the beginning of the stretch
  pub closed : ℕ  -- ratio difference times stake, summed over the stretches before

-- a claim, exactly: a number of units of units
abbrev pub claim_of : Holder → ℕ
claim_of h = h.closed + h.rise * h.stake

abbrev pub shares_of : Holder → ℕ
shares_of h = h.mine

abbrev pub stake_of : Holder → ℕ
stake_of h = h.stake

-- how far the running stake is above the value of the shares, as a numerator over all shares
abbrev pub excess : ℕ → ℕ → Holder → ℕ
excess tokens shares h = h.stake * shares - h.mine * tokens * one

pub record Book : Type 0 where
  pub tokens : ℕ
  pub shares : ℕ
  pub current : ℕ
  pub commission : ℕ
  pub outstanding : ℕ
  pub ratio : ℕ  -- of the last ended period
  pub lefts : ℕ  -- how often shares left
  pub holders : List Holder

abbrev pub total : (Holder → ℕ) → List Holder → ℕ
total f [] = 0
total f (h ∷ hs) = f h + total f hs

-- outstanding with the overclaim covers commission, current and all claims (in units of units)
abbrev pub IsCovered : Book → Type 0
IsCovered b = (b.commission + b.current) * one + total claim_of b.holders ≤ b.outstanding * one + b.lefts * b.ratio

pub record Covers (b : Book) : Type 0 where
  pub held : total shares_of b.holders ≤ b.shares
  pub backed : 0 < b.tokens → 0 < b.shares
  pub above : total (excess b.tokens b.shares) b.holders ≤ b.lefts * b.shares
  pub covered : IsCovered b

-- a period ends
abbrev pub raised : ℕ → Holder → Holder
raised i h = record h { rise = h.rise + i }

-- a slash closes a stretch
abbrev pub slashed : ℕ → Holder → Holder
slashed fraction h = record { mine = h.mine; stake = slashed_stake h.stake fraction; rise = 0; closed = h.closed + h.rise * h.stake }

-- ---- sums

pub total_le : (m n d : ℕ) (f g w : Holder → ℕ) → ((h : Holder) → m * f h ≤ n * g h + d * w h) → (hs : List Holder) → m * total f hs ≤ n * total g hs + d * total w hs
total_le m n d f g w each [] = omega arith
total_le m n d f g w each (h ∷ hs) = omega (arith, each h, total_le m n d f g w each hs)

pub total_map : (m n d : ℕ) (change : Holder → Holder) (f g w : Holder → ℕ) → ((h : Holder) → m * f (change h) ≤ n * g h + d * w h)
    → (hs : List Holder) → m * total f (map change hs) ≤ n * total g hs + d * total w hs
total_map m n d change f g w each [] = omega arith
total_map m n d change f g w each (h ∷ hs) = omega (arith, each h, total_map m n d change f g w each hs)

pub total_insert : (f : Holder → ℕ) (h : Holder) (k : ℕ) (hs : List Holder) → total f (insert hs k h) ≡ f h + total f hs
total_insert f h zero [] = refl
total_insert f h (suc k) [] = refl
total_insert f h zero (x ∷ hs) = refl
total_insert f h (suc k) (x ∷ hs) = omega (arith, total_insert f h k hs)

pub total_remove : (f : Holder → ℕ) (h : Holder) (k : ℕ) (hs : List Holder) → slice_get hs k ≡ Some h → total f (remove hs k) + f h ≡ total f hs
total_remove f h k [] e = absurd cc
total_remove f h zero (x ∷ hs) e = let same : x ≡ h = cc in omega (arith, ap f same)
total_remove f h (suc k) (x ∷ hs) e = omega (arith, total_remove f h k hs e)

-- ---- one holder

pub excess_scaled : (m n a b a' b' d : ℕ) → m * a ≤ n * a' → n * b' ≤ m * b + d → m * (a - b) ≤ n * (a' - b') + d
excess_scaled m n a b a' b' d h k =
    let up : n * a' ≤ n * (b' + (a' - b')) = mul-le-mul_left n (omega arith) in
    elim (cases_lt b a) [
      | inl less ↦ (let e : m * (a - b + b) ≡ m * a = ap (λ q. m * q) (omega arith) in omega arith)
      | inr more ↦ (let e : m * (a - b) ≡ m * 0 = ap (λ q. m * q) (omega arith) in omega arith)
    ]
